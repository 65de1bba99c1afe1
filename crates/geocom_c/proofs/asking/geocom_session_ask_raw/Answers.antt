use Rattle.geocom_c.proofs.Common.{◌≡◌, Some, length, take, sym, subst, with_end, asked_line, Raw, raw_rule, effect}
use Rattle.geocom_c.proofs.Clients.{raw_line_has_params}
use Rattle.geocom_c.proofs.SessionSteps.{asks_as, roomy}
use Rattle.geocom_c.proofs.asking.geocom_session_ask_raw.Goals as goal

pub returns-clause-asks : goal.returns-clause-asks
returns-clause-asks c =
    asks_as (raw_rule c.args.procedure c.args.params.now) c.read_raw.result c.read_raw.ensures c.args.target c.args.timeout
    (effect c.args.state.now c.ask_read.new.state c.args.line.now c.ask_read.new.line c.ask_read.result) c.ask_read.ensures

pub returns-clause-given : goal.returns-clause-given
returns-clause-given c = λ none.
    let asks = asks_as (raw_rule c.args.procedure c.args.params.now) c.read_raw.result c.read_raw.ensures c.args.target c.args.timeout
    (effect c.args.state.now c.ask_read.new.state c.args.line.now c.ask_read.new.line c.ask_read.result) c.ask_read.ensures in
    let done = asks.done none in
    let room = roomy (length c.args.line.now) c.ask_read.result.fault asks.room none in
    let given = ((asks.asked room done.session done.rest done.asked done.stands done.is).given none).1 in
    raw_line_has_params done.asked c.args.procedure c.args.params.now c.args.state.now.client.next _ done.is
    (subst (λ n. take c.ask_read.result.count c.ask_read.new.line ≡ with_end (asked_line (Some n) (Raw done.asked))) (sym done.stands.client.next) given)
