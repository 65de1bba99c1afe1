use Rattle.geocom_c.proofs.Common.{table_rule, effect}
use Rattle.geocom_c.proofs.Sendings.{sends_as}
use Rattle.geocom_c.proofs.sends.geocom_client_send.Goals as goal

pub returns : goal.returns
returns c =
    let procedure = c.args.procedure in
    let params = c.args.params.now in
    record {
      sends = sends_as (table_rule procedure params) c.read_call.result c.read_call.ensures
          c.args.target c.args.deadline (effect c.args.state.now c.send_read.new.state c.args.line.now c.send_read.new.line c.send_read.result)
          c.send_read.ensures.sends;
    }
