-- When the first cycle of a run is due by the clock.
use Rattle.gc_measuring.proofs.Common.{◌≡◌, ◌+◌, ◌-◌, ◌*◌, ◌/◌, ◌%◌, ◌<◌, ◌≤◌, ℕ, suc, Bool, true, false, Option, Some, List, nat_eq, nat_le, refl, ap, sym, ◌∙◌, arith, eqb-true, leb-true, leb-false, div-add-mod', mod-lt, suc-mul, IsTimeToMultiple, plan_of, time_to_multiple, Task, Choice}

-- a moment that is `past` after the whole multiple `m`, and no later after it than the wanted one
earlier : (m past wanted run : ℕ) → m + past ≡ run → past ≤ wanted → run + (wanted - past) ≡ m + wanted
earlier m past wanted run is le = omega (arith, is, le)

-- a moment that is later after the whole multiple `m` than the wanted one, which comes after the next multiple
later : (m past wanted every run : ℕ) → m + past ≡ run → wanted < past → past < every → run + (every - past + wanted) ≡ m + every + wanted
later m past wanted every run is lt less = omega (arith, is, lt, less)

-- the time to the wanted moment is less than a period
soon_earlier : (past wanted every : ℕ) → wanted < every → wanted - past < every
soon_earlier past wanted every less = omega (arith, less)

soon_later : (past wanted every : ℕ) → wanted < past → past < every → every - past + wanted < every
soon_later past wanted every lt less = omega (arith, lt, less)

-- after `time_to_multiple` the first moment comes that is `at` after a whole multiple
pub is_time_to_multiple : (every at run : ℕ) → 0 < every → IsTimeToMultiple every at run (time_to_multiple every at run)
is_time_to_multiple every at run some = go (nat_eq every 0) refl (nat_le (run % every) (at % every)) refl where
  go : (none : Bool) → nat_eq every 0 ≡ none → (ahead : Bool) → nat_le (run % every) (at % every) ≡ ahead → IsTimeToMultiple every at run (time_to_multiple every at run)
  go true none ahead is =
      let zero_is : every ≡ 0 = eqb-true every 0 none in
      absurd (omega (arith, zero_is, some))
  go false none true is =
      rw (none, is) (record {
        soon = soon_earlier (run % every) (at % every) every (mod-lt at some);
        multiple = run / every;
        is = earlier (run / every * every) (run % every) (at % every) run (div-add-mod' run every) (leb-true (run % every) (at % every) is);
      })
  go false none false is =
      let lt : at % every < run % every = leb-false (run % every) (at % every) is in
      rw (none, is) (record {
        soon = soon_later (run % every) (at % every) every lt (mod-lt run some);
        multiple = suc (run / every);
        is =
            later (run / every * every) (run % every) (at % every) every run (div-add-mod' run every) lt (mod-lt run some)
            ∙ ap (λ m. m + at % every) (sym (suc-mul (run / every) every));
      })

-- so is the first cycle of a run due
pub first_is_due : (choice : Choice) (run setup at : ℕ) (tasks : List Task) → choice.at ≡ Some at → 0 < choice.every
    → IsTimeToMultiple choice.every at run (plan_of choice run setup tasks).first
first_is_due choice run setup at tasks is some = rw (is) (is_time_to_multiple choice.every at run some)
