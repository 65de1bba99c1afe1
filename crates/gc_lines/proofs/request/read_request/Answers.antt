use Rattle.gc_lines.proofs.Common.{request_seen}
use Rattle.gc_lines.proofs.Reading.{knows_result}
use Rattle.gc_lines.proofs.Requests.{request_reads}
use Rattle.gc_lines.proofs.request.read_request.Goals as goal

pub returns : goal.returns
returns c = let it = knows_result request_reads request_seen c.args.line.now c.request_of.result c.request_of.ensures in
    record { found = it.found; only = it.only; fault = it.fault; faulty = it.faulty; exact = c.request_of.ensures }
