use Rattle.gc_world.proofs.Common.{◌≡◌, ℕ, Some, refl, sym, subst, slice_get, Call, ById, Settlement, State, IsFittingState, restarted, ends, IsBooked, World}
use Rattle.gc_world.proofs.Flow.{level_at}
use Rattle.gc_world.proofs.Handing.{exchange, kept_of, keeper, fine}
use Rattle.gc_world.proofs.Runs.{booked_at}
use Rattle.gc_world.proofs.laws.answers_are_booked.Goals as goal

pub returns-clause-own : goal.returns-clause-own
returns-clause-own c = λ width narrow opening good events.
    let at = level_at width narrow ends IsFittingState exchange (restarted opening) good events in
    subst (λ (w : World (ById Call) State). (m : ℕ) (s : Settlement Call) → slice_get w.wire.settled m ≡ Some s → IsBooked ends IsFittingState w.wire.made m s) (sym at.ids)
    (booked_at width narrow ends IsFittingState exchange kept_of (keeper IsFittingState) refl at.steps opening good)

pub returns-clause-fine : goal.returns-clause-fine
returns-clause-fine c = fine
