-- Status 0 comes only of a schedule that was played.
use Rattle.gc_console.proofs.Common.{◌≡◌, ℕ, Bool, true, List, Option, Result, Ok, Err, inl, inr, refl, arith, PlaysSource, ReadsWholeSource, TellsDrillWithin, EndSeen, run_fault_text, Tells, RunFault}
use Rattle.gc_filters.specs.Prelude.{DrillsAs, PlaysAll, is_read_whole}
use Rattle.gc_world.specs.declared.event.Event.{Event}

-- if the status is 0, the text was a schedule, and the sink took its output
schedule_at_0 : (text_of : List Event → Bool → List ℕ) (given : List ℕ) (totals : Bool) (old new : Option (List ℕ))
    (end : Result (Unit {0}) RunFault) (status : ℕ) (told told' : Option (List ℕ))
    → DrillsAs text_of given totals old new end → Tells run_fault_text end status told told' → status ≡ 0
    → PlaysAll text_of given totals old new
schedule_at_0 text_of given totals old new (Ok x) status told told' drills tells zero = drills.1
schedule_at_0 text_of given totals old new (Err fault) status told told' drills tells zero = absurd (omega (arith, tells.0, zero))

-- if the status is 0, the result shows that the source was read to its end (`is_read_whole`)
whole_at_0 : (end : Result (Unit {0}) RunFault) (status : ℕ) (told told' : Option (List ℕ))
    → Tells run_fault_text end status told told' → status ≡ 0 → is_read_whole end ≡ true
whole_at_0 (Ok x) status told told' tells zero = refl
whole_at_0 (Err fault) status told told' tells zero = absurd (omega (arith, tells.0, zero))

-- a schedule was played, or the width was refused (`TellsDrillWithin`), and the status is 0
module _ (text_of : List Event → Bool → List ℕ) (totals : Bool) (seen : EndSeen) (zero : seen.status ≡ 0) where
  -- the source gave a schedule, and the sink took the output of its events
  pub plays_at_0 : TellsDrillWithin text_of totals seen → PlaysSource text_of totals seen.old seen.new
  plays_at_0 (inl refused) = absurd (omega (arith, refused.0.0, zero))
  plays_at_0 (inr s) =
      let w = s.ends.writes in (w.0, w.1, schedule_at_0 text_of w.0 totals seen.old.taken seen.new.taken s.end seen.status seen.told_before seen.told w.3 s.tells zero)

  -- the source was read to its end (`ReadsWholeSource`)
  pub reads_at_0 : TellsDrillWithin text_of totals seen → ReadsWholeSource seen.old seen.new
  reads_at_0 (inl refused) = absurd (omega (arith, refused.0.0, zero))
  reads_at_0 (inr s) = s.ends.whole (whole_at_0 s.end seen.status seen.told_before seen.told s.tells zero)
