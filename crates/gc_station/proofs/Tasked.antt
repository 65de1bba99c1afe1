-- Each record is of the task at its place, and its command is what that task asks at the moment at which its request was sent.
-- A mark says which command an outstanding request is of, and when that was sent.
use Rattle.gc_station.proofs.Common.{◌≡◌, ℕ, true, false, List, [], ◌∷◌, ◌++◌, length, drop, map, Option, Some, None, refl, sym, ap, ◌∙◌, subst, slice_get, AllByRecursion, both_ways, length-map, map-append, no_values, Asked, Wanted, of_pending, of_settled, Settlement, Pending, End, Task, Wish, record_of, records_of, record_with, end_unsent, MarksAsk, MarkAsks, went_out, Reads, IsOfItsTask, Mark, Progress}
use Rattle.gc_station.proofs.Booking.{ended_sent, marks_ask_append}
use Rattle.gc_station.proofs.Walk.{unsent_along}

-- if the requests `xs` and then `ys` ask what these marks say, one for one, `ys` ask what the marks after those of `xs` say
marks_ask_left : (commands : List Task) (ms : List (Option Mark)) (xs ys : List (Wanted Asked)) → MarksAsk commands ms (xs ++ ys) → MarksAsk commands (drop (length xs) ms) ys
marks_ask_left commands ms [] ys h = h
marks_ask_left commands [] (x ∷ xs) ys h = absurd h
marks_ask_left commands (m ∷ ms) (x ∷ xs) ys h = marks_ask_left commands ms xs ys h.1

-- if the settled requests of `ss` and then `ys` ask what these marks say, one for one, `ys` ask what the marks after those of
-- `ss` say
pub marks_ask_settled : (commands : List Task) (ms : List (Option Mark)) (ss : List (Settlement Asked)) (ys : List (Wanted Asked)) → MarksAsk commands ms (map of_settled ss ++ ys)
    → MarksAsk commands (drop (length ss) ms) ys
marks_ask_settled commands ms ss ys h = subst (λ (n : ℕ). MarksAsk commands (drop n ms) ys) (length-map ss of_settled) (marks_ask_left commands ms (map of_settled ss) ys h)

-- if each of the outstanding requests `ws` asks what its mark says, and p what the mark m says, it is so with p and m added at
-- the end
pub marks_ask_more : (commands : List Task) (ms : List (Option Mark)) (ws : List (Pending Asked)) (m : Option Mark) (p : Pending Asked) → MarksAsk commands ms (map of_pending ws)
    → MarkAsks commands m (of_pending p) → MarksAsk commands (ms ++ m ∷ []) (map of_pending (ws ++ p ∷ []))
marks_ask_more commands ms ws m p own is =
    subst (MarksAsk commands (ms ++ m ∷ [])) (sym (map-append of_pending ws (p ∷ []))) (marks_ask_append commands ms (m ∷ []) (map of_pending ws) (of_pending p ∷ []) own (is, tt))

-- the record of a settlement that asks what its mark says (`MarkAsks`) is of its task
record_tasked : (reads : Reads) (commands : List Task) (utc : ℕ) (mark : Mark) (s : Settlement Asked) → MarkAsks commands (Some mark) (of_settled s)
    → IsOfItsTask commands (record_of reads utc mark s)
record_tasked reads commands utc mark s h =
    let wish : Wanted Asked → Wish = λ (a : Wanted Asked). record { target = a.target; call = a.call } in
    record {
      task = h.0;
      listed = h.1;
      sent = sym (ended_sent reads mark.expected s.call s.outcome);
      values = mark.expected.values;
      command = ap wish h.2;
    }

-- if the settled requests of `ss` and then `ys` ask what these marks say, one for one, the records of `ss` are of their tasks
pub settled_tasked : (reads : Reads) (commands : List Task) (utc : ℕ) (ms : List (Option Mark)) (ss : List (Settlement Asked)) (ys : List (Wanted Asked))
    → MarksAsk commands ms (map of_settled ss ++ ys) → AllByRecursion (IsOfItsTask commands) (records_of reads utc ms ss)
settled_tasked reads commands utc [] ss ys h = tt
settled_tasked reads commands utc (m ∷ ms) [] ys h = tt
settled_tasked reads commands utc (None ∷ ms) (s ∷ ss) ys h = settled_tasked reads commands utc ms ss ys h.1
settled_tasked reads commands utc (Some mark ∷ ms) (s ∷ ss) ys h = (record_tasked reads commands utc mark s h.0, settled_tasked reads commands utc ms ss ys h.1)

-- a command that is recorded as missed, without a value or skipped wasn't sent
pub unsent_end : (p : Progress) → went_out (end_unsent p) ≡ false
unsent_end p = unsent_along (λ (end : End). went_out end ≡ false) refl refl refl p

-- the ending of a command that isn't sent, as missed, without a value or skipped, is no ending of a command that was sent
pub no_end_of_sent : (p : Progress) (end : End) → went_out end ≡ true → end_unsent p ≡ end → ⊥
no_end_of_sent p end out e = both_ways (went_out end) (sym (ap went_out e) ∙ unsent_end p) out

-- the record of the command of `task`, with this mark, as not sent is of this task, if `task` is the one at the place of the
-- mark, and `end` isn't the ending of a command that was sent
pub unsent_tasked : (commands : List Task) (utc : ℕ) (mark : Mark) (end : End) (task : Task) → slice_get commands mark.place ≡ Some task → went_out end ≡ false
    → IsOfItsTask commands (record_with utc mark None task.command end)
unsent_tasked commands utc mark end task at out = record { task = task; listed = at; sent = sym out; values = no_values; command = refl }
