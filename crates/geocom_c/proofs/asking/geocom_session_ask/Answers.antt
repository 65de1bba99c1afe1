use Rattle.geocom_c.proofs.Common.{table_rule, effect}
use Rattle.geocom_c.proofs.SessionSteps.{asks_as}
use Rattle.geocom_c.proofs.asking.geocom_session_ask.Goals as goal

pub returns : goal.returns
returns c =
    asks_as (table_rule c.args.procedure c.args.params.now) c.read_call.result c.read_call.ensures c.args.target c.args.timeout
    (effect c.args.state.now c.ask_read.new.state c.args.line.now c.ask_read.new.line c.ask_read.result) c.ask_read.ensures
