use Rattle.geocom_c.proofs.Common.{drop, IsWidth, MadeBut, first_stage}
use Rattle.geocom_c.proofs.following.follow.Given as goal

-- the calls before place k were made (`MadeBut`): what those from k on come to now, all calls come to from a new client
abbrev pub invariant-loop-k : goal.invariant-loop-k
invariant-loop-k l = IsWidth l.width → MadeBut l.width first_stage l.calls l.state (drop l.k l.calls)
