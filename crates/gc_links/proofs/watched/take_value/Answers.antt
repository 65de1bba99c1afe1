use Rattle.gc_links.proofs.Common.{rules, refl, inr, no_value, path_of, IsTakenBy}
use Rattle.gc_links.proofs.Making.{makes_none}
use Rattle.gc_links.proofs.Taking.{kept_taken, not_kept_taken}
use Rattle.gc_links.proofs.watched.take_value.Goals as goal

pub returns-in_default : goal.returns-in_default
returns-in_default g c = makes_none (λ reads. IsTakenBy (path_of c.args.file.now) c.args.file.now.seconds c.args.now reads no_value) (inr (refl, refl))

pub returns-in-Some : goal.returns-in-Some
returns-in-Some g c =
    kept_taken (path_of c.args.file.now) c.in-Ok.path.now c.read_file.result c.in-Some.read c.bytes.result.now c.args.file.now.seconds c.args.now c.value_in.result
    (search rules) c.read_file.ensures (search rules) (search rules) (search rules)

pub returns-in-None : goal.returns-in-None
returns-in-None g c =
    not_kept_taken (path_of c.args.file.now) c.in-Ok.path.now c.read_file.result c.args.file.now.seconds c.args.now (search rules) c.read_file.ensures (search rules)
