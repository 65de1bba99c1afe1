use Rattle.gc_catalogue.proofs.RequestBytes.{request_lines_are_of_bytes}
use Rattle.gc_catalogue.proofs.laws.request_lines_are_of_bytes.Goals as goal

pub returns : goal.returns
returns c = request_lines_are_of_bytes
