use Rattle.gc_files.proofs.Needing.{copies_are_needed}
use Rattle.gc_files.proofs.laws.copies_are_needed.Goals as goal

pub returns : goal.returns
returns c lasts = copies_are_needed lasts
