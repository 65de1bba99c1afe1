-- The calls of a reading of the clocks, by its steps.
use Rattle.gc_links.proofs.Common.{List, [], ◌∷◌, ◌++◌, ◌≡◌, ap, ◌∙◌, refl, append_assoc, Result, Ok, Err, instant_nanos, monotonic_call, wall_call, Call, Makes, Monotonic, NoMonotonic, NoWall, MissesClocks, no_monotonic, no_wall}
use Rattle.std.specs.declared.time.Instant.{Instant}
use Rattle.std.specs.declared.time.SystemTime.{SystemTime}
use Rattle.gc_links.proofs.Making.{makes_one}

module _ {E : Type 0} where
  -- the monotonic clock couldn't be read
  pub missed_monotonic : {old new : List Call} (r : Result Instant E) (e : E) → r ≡ Err e → new ≡ old ++ monotonic_call r ∷ []
      → Makes old new MissesClocks
  missed_monotonic {old = old} r e is added =
      makes_one MissesClocks NoMonotonic (added ∙ ap (λ x. old ++ monotonic_call x ∷ []) is) (no_monotonic refl)

module _ {E F : Type 0} where
  -- the monotonic clock was read, and then the clock of the time of day couldn't be
  pub missed_wall : {old mid new : List Call} (r : Result Instant E) (now : Instant) (w : Result SystemTime F) (e : F)
      → r ≡ Ok now → mid ≡ old ++ monotonic_call r ∷ [] → w ≡ Err e → new ≡ mid ++ wall_call w ∷ [] → Makes old new MissesClocks
  missed_wall {old = old} r now w e read added missed more = record {
    calls = Monotonic (instant_nanos now) ∷ NoWall ∷ [];
    added =
        more ∙ ap (λ x. x ++ wall_call w ∷ []) (added ∙ ap (λ x. old ++ monotonic_call x ∷ []) read)
        ∙ ap (λ x. (old ++ Monotonic (instant_nanos now) ∷ []) ++ wall_call x ∷ []) missed
        ∙ append_assoc old (Monotonic (instant_nanos now) ∷ []) (NoWall ∷ []);
    are = no_wall (instant_nanos now) refl;
  }
