use Rattle.geocom_c.proofs.Common.{Raw, raw_rule, effect}
use Rattle.geocom_c.proofs.Clients.{raw_line_has_params}
use Rattle.geocom_c.proofs.Sendings.{sends_as}
use Rattle.geocom_c.proofs.raws.geocom_client_send_raw.Goals as goal

pub returns : goal.returns
returns c =
    let procedure = c.args.procedure in
    let params = c.args.params.now in
    let sends = sends_as (raw_rule procedure params) c.read_raw.result c.read_raw.ensures
    c.args.target c.args.deadline (effect c.args.state.now c.send_read.new.state c.args.line.now c.send_read.new.line c.send_read.result)
    c.send_read.ensures.sends in
    record {
      sends = sends;
      given = λ none.
          let done = sends.done none in
          raw_line_has_params done.asked procedure params c.args.state.now.next _ done.is (c.send_read.ensures.given (Raw done.asked) (c.read_raw.ensures.only done.asked done.is) none);
    }
