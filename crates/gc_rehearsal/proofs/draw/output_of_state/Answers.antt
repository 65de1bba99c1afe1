use Rattle.gc_rehearsal.proofs.Common.{ap, ◌∙◌}
use Rattle.rand_core.proofs.StepsLemmas.{next_u64-stream_of}
use Rattle.rand_xoshiro.specs.SplitMix64.{splitmix_steps}
use Rattle.gc_rehearsal.specs.Draws.{output_at}
use Rattle.gc_rehearsal.proofs.draw.output_of_state.Goals as goal

pub returns : goal.returns
returns c = ap (λ p. p.0) (c.next_u64.ensures ∙ next_u64-stream_of splitmix_steps c.seed_from_u64-generator.result) ∙ ap output_at c.seed_from_u64-generator.ensures.same
