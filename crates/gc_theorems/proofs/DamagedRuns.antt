-- A station's run over a line that damages: each record goes with a request of one of the stretches, and where damage is apart in that
-- stretch, the record is of the request's own reply, or of a damaged line.
use Rattle.gc_theorems.proofs.Common.{◌≡◌, ◌⊎◌, inl, inr, ℕ, suc, ◌+◌, ◌≤◌, true, false, List, [], ◌∷◌, ◌++◌, length, map, Option, Some, None, zero, drop, refl, sym, ◌∙◌, ap, subst, arith, slice_get, unwrap_or, AllByRecursion, AllZip, drop-map, true≢false, none-some, same_Some, every_weaker as all_on, Asked, is_of_table, the_word, Wanted, ById, Outcome, Answered, Late, Lost, Settlement, fresh, lost, KeptReply, End, line_of, call_at, Occasion, Task, at_any_moment, client_after, unanswered_after, AreBegun, heard_in, IsHeldBack, opening, occasion_of, records_of, Part, MarkAsks, MarksAsk, mark_of, occasion_in, sent_at, went_out, Record, state_after, Reads, marks_ask_at, sent_by, settled_by, CountUp, counted_at, ids_count, parts_begun, invariant_opening, each_once, follows, get_behind, IsRecordOf, was_answered, was_late, get_seen, of_sent, Ends, Sent, IsWellFormed, LacksTheWord, UnderWay, begins, nulls, nulls_settled, IsAnInstrument, TreatsRawsAlike, IsByDamage, KeepsItsOwnAfter, IsOwn, WasMadeAmid, damaged_lines, AnswerIsOwnOrDamaged, AreFewByDamagedLines, AreOfTable, AreSentInStretches, HarmedProgram, HasItsRequest, IsInHarmedField, IsLocal, IsOwnOrByDamage, IsRunLocal, LateIsOwnOrDamaged, count_in, damaged_lines_in, parts_of_program, sent_until, written_in_stretches, AreInARow, HarmedStretch, HasDamageApart, IsDamagedOnceSynchronized, IsPossibleStretch, IsSeenAs, at_its_end, client_sent, client_settled, left_by_stretch, once_synchronized, synchronized, WasStruck}
use Rattle.gc_lines.proofs.Lists.{all_at}
use Rattle.gc_texts.specs.declared.wish.Wish.{Wish}
use Rattle.gc_station.proofs.HoldingBack.{held_back}
use Rattle.gc_theorems.proofs.Among.{among_first, zip_each}
use Rattle.gc_theorems.proofs.BeginLists.{each_all}
use Rattle.gc_theorems.proofs.Meant.{are_meant}
use Rattle.gc_theorems.proofs.DamagedCounting.{few_by_damage}
use Rattle.gc_theorems.proofs.DamagedLocal.{local_if_held_back}
use Rattle.gc_theorems.proofs.FewRecords.{few_records}
use Rattle.gc_theorems.proofs.Recorded.{IsOfPart, Mark, all_ask, all_of_parts, all_recorded, recorded}
use Rattle.gc_theorems.proofs.Room.{HoldsBackFrom, SendsOnly}
use Rattle.gc_theorems.proofs.SeenHarms.{IsSeenBy, seen_by_steps}
use Rattle.gc_theorems.proofs.DamagedUndamaged.{left_harmed}
use Rattle.gc_theorems.proofs.WellFormed.{left_well_formed, possible_steps}
use Rattle.gc_texts.specs.Endings as end

-- Lists.

-- where R holds of the elements of two lists, place by place, the element at place k of the first has one at the same place of the second
zip_get : {A B : Type 0} (R : A → B → Type 0) (xs : List A) (ys : List B) (k : ℕ) (x : A) → AllZip R xs ys → slice_get xs k ≡ Some x → (y : B) × (slice_get ys k ≡ Some y) × R x y
zip_get R [] ys k x h e = absurd (none-some x e)
zip_get R (a ∷ xs) [] k x h e = absurd h
zip_get R (a ∷ xs) (b ∷ ys) zero x h e = (b, refl, subst (λ z. R z b) (same_Some a x e) h.0)
zip_get R (a ∷ xs) (b ∷ ys) (suc k) x h e = zip_get R xs ys k x h.1 e

-- where R holds of the elements of two lists, place by place, they are as many
zip_long : {A B : Type 0} (R : A → B → Type 0) (xs : List A) (ys : List B) → AllZip R xs ys → length xs ≡ length ys
zip_long R [] [] h = refl
zip_long R [] (y ∷ ys) h = absurd h
zip_long R (x ∷ xs) [] h = absurd h
zip_long R (x ∷ xs) (y ∷ ys) h = ap suc (zip_long R xs ys h.1)

-- Calls of the table.

-- what a task of the table asks for is of the table, whenever it is sent
table_at : (task : Task) (occasion : Occasion) → is_of_table task.command.call ≡ true → is_of_table (call_at task occasion) ≡ true
table_at task occasion e =
    at_any_moment (λ call. is_of_table call ≡ true) task occasion refl (λ raw other is same. absurd (true≢false (sym e ∙ ap is_of_table is))) e

-- what a mark asks for is of the table, if all commands are
table_marked : (commands : List Task) → AreOfTable commands → (mark : Option Mark) (a : Wanted Asked) → MarkAsks commands mark a → is_of_table a.call ≡ true
table_marked commands table None a h = ap (λ (a : Wanted Asked). is_of_table a.call) h
table_marked commands table (Some mark) a h =
    ap (λ (a : Wanted Asked). is_of_table a.call) h.2
    ∙ table_at h.0 (occasion_of mark) (all_at (λ (task : Task). is_of_table task.command.call ≡ true) commands mark.place h.0 table h.1)

-- what marks ask for is of the table, if all commands are
table_all : (commands : List Task) → AreOfTable commands → (marks : List (Option Mark)) (asked : List (Wanted Asked)) → MarksAsk commands marks asked
    → AllByRecursion (λ (a : Wanted Asked). is_of_table a.call ≡ true) asked
table_all commands table [] [] h = tt
table_all commands table [] (a ∷ asked) h = absurd h
table_all commands table (mark ∷ marks) [] h = absurd h
table_all commands table (mark ∷ marks) (a ∷ asked) h = (table_marked commands table mark a h.0, table_all commands table marks asked h.1)

-- Marks.

-- the moment at which the command of a record was sent is that of its mark
sent_at_mark : (r : Record) (mark : Mark) (x : Settlement Asked) → IsRecordOf r mark x → sent_at r ≡ mark.sent
sent_at_mark r mark x is = ap (λ (o : Option ℕ). unwrap_or o 0) is.sent

-- a record's mark is the mark that it was recorded with
same_mark : (r : Record) (mark : Mark) (x : Settlement Asked) → IsRecordOf r mark x → mark_of mark.expected r ≡ mark
same_mark r mark x is =
    ap (λ (n : ℕ). record { cycle = n; place = r.place; sent = sent_at r; id = r.id; expected = mark.expected }) is.cycle
    ∙ ap (λ (n : ℕ). record { cycle = mark.cycle; place = n; sent = sent_at r; id = r.id; expected = mark.expected }) is.place
    ∙ ap (λ (n : ℕ). record { cycle = mark.cycle; place = mark.place; sent = n; id = r.id; expected = mark.expected }) (sent_at_mark r mark x is)
    ∙ ap (λ (n : ℕ). record { cycle = mark.cycle; place = mark.place; sent = mark.sent; id = n; expected = mark.expected }) is.id

module _ {State : Type 0} (ends : Ends State) (Good : State → Type 0) (kept : State → Option KeptReply) (is : IsAnInstrument ends Good kept) where
  -- A stretch with its part.

  -- the part's steps are what the stretch's client does, and the ids of its requests count up from 0; and where damage is apart in
  -- the stretch, it is local
  record FitsPart (p : Part) (s : HarmedStretch State) : Type 0 where
    seen : IsSeenBy ends Good kept is p.steps s
    counted : CountUp 0 p.marks
    local : HasDamageApart ends s → IsLocal ends Good kept s

  -- what is known of a part and its stretch
  record IsRuled (commands : List Task) (p : Part) (s : HarmedStretch State) : Type 0 where
    well : IsWellFormed Good s.over
    possible : IsPossibleStretch ends Good kept s
    seen : IsSeenAs ends p s
    held : IsHeldBack p
    asks : MarksAsk commands p.marks (sent_by fresh p.steps)

  -- after each request that these marks ask for the instrument keeps its own reply, or nothing
  own_all : (commands : List Task) → AreOfTable commands ⊎ TreatsRawsAlike ends Good kept → (marks : List (Option Mark)) (asked : List (Wanted Asked)) → MarksAsk commands marks asked
      → AllByRecursion (λ (a : Wanted Asked). KeepsItsOwnAfter ends Good kept a.call) asked
  own_all commands (inl table) marks asked h =
      all_on (λ (a : Wanted Asked). is_of_table a.call ≡ true) (λ (a : Wanted Asked). KeepsItsOwnAfter ends Good kept a.call) asked (λ a t. inl t) (table_all commands table marks asked h)
  own_all commands (inr alike) marks asked h = each_all (λ (a : Wanted Asked). KeepsItsOwnAfter ends Good kept a.call) (λ a. inr alike) asked

  -- a stretch in which damage is apart is local, if its part holds back, and asks for calls of the table
  local_if_apart : (commands : List Task) → AreOfTable commands ⊎ TreatsRawsAlike ends Good kept → (p : Part) (s : HarmedStretch State) → IsRuled commands p s → HasDamageApart ends s → IsLocal ends Good kept s
  local_if_apart commands table p s h apart =
      local_if_held_back ends Good kept is s h.well h.possible (subst (λ l. HoldsBackFrom fresh 1 l) (sym h.seen.1) h.held)
      (subst (λ l. SendsOnly (KeepsItsOwnAfter ends Good kept) fresh l) (sym h.seen.1) (own_all commands table p.marks (sent_by fresh p.steps) h.asks)) apart

  -- a part fits its stretch
  fits_part : (commands : List Task) → AreOfTable commands ⊎ TreatsRawsAlike ends Good kept → (p : Part) (s : HarmedStretch State) → IsRuled commands p s → CountUp 0 p.marks → FitsPart p s
  fits_part commands table p s h counted = record {
    seen = subst (λ l. IsSeenBy ends Good kept is l s) h.seen.1 (seen_by_steps ends Good kept is s (possible_steps ends Good kept is s h.possible));
    counted = counted;
    local = local_if_apart commands table p s h;
  }

  -- each part fits its stretch
  all_fit : (commands : List Task) → AreOfTable commands ⊎ TreatsRawsAlike ends Good kept → (ps : List Part) (ss : List (HarmedStretch State)) (u : UnderWay State) → IsWellFormed Good u → AreInARow ends u ss
      → AllZip (IsSeenAs ends) ps ss → AllByRecursion (IsPossibleStretch ends Good kept) ss → ((i : ℕ) (p : Part) → slice_get ps i ≡ Some p → IsHeldBack p)
      → AllByRecursion (λ p. MarksAsk commands p.marks (sent_by fresh p.steps)) ps → AllByRecursion (λ (p : Part). CountUp 0 p.marks) ps → AllZip FitsPart ps ss
  all_fit commands table [] [] u well row seen possible held asks counted = tt
  all_fit commands table [] (s ∷ ss) u well row seen possible held asks counted = absurd seen
  all_fit commands table (p ∷ ps) [] u well row seen possible held asks counted = absurd seen
  all_fit commands table (p ∷ ps) (s ∷ ss) u well row seen possible held asks counted =
      let over : IsWellFormed Good s.over = subst (IsWellFormed Good) (sym row.0) well in (
        fits_part commands table p s (record { well = over; possible = possible.0; seen = seen.0; held = held 0 p refl; asks = asks.0 }) counted.0,
        all_fit commands table ps ss (left_by_stretch ends s) (left_well_formed ends Good kept is s over possible.0) row.1 seen.1 possible.1 (λ i q e. held (suc i) q e) asks.1 counted.1,
      )

  -- A record with its stretch.

  -- the request of record r, in its stretch; x is its settlement there
  record IsFound (commands : List Task) (ps : List Part) (ss : List (HarmedStretch State)) (number : ℕ) (r : Record) (x : Settlement Asked) : Type 0 where
    of : HasItsRequest commands ps ss number r
    fits : FitsPart of.part of.stretch
    settled : slice_get (at_its_end ends of.stretch).world.wire.settled (8 + of.m) ≡ Some x
    asks : (request : Sent) → slice_get (at_its_end ends of.stretch).world.wire.sent (8 + of.m) ≡ Some request → request.call ≡ call_at of.task (occasion_in of.expected r)

  -- a record of a part whose settlement isn't lost is found
  found : (commands : List Task) (ps : List Part) (ss : List (HarmedStretch State)) (number : ℕ) (r : Record) → AllZip FitsPart ps ss
      → AllByRecursion (λ p. MarksAsk commands p.marks (sent_by fresh p.steps)) ps → (h : IsOfPart ps number r) → (h.x.outcome ≡ Lost → ⊥) → IsFound commands ps ss number r h.x
  found commands ps ss number r fit asks h other =
      let z = zip_get FitsPart ps ss h.k h.part fit h.of_parts in
      let s = z.0 in
      let w = (at_its_end ends s).world.wire in
      let many : length nulls_settled ≡ 8 = refl in
      let sent_many : length (map of_sent nulls) ≡ 8 = refl in
      let here = among_first (settled_by fresh h.part.steps) h.waiting h.m h.x other h.found in
      let marks = all_at (λ (p : Part). MarksAsk commands p.marks (sent_by fresh p.steps)) ps h.k h.part asks h.of_parts in
      let a = marks_ask_at commands h.part.marks (sent_by fresh h.part.steps) h.m (Some h.mark) marks h.marked in
      let there : slice_get (map of_sent w.sent) (8 + h.m) ≡ Some a.0 =
      ap (λ l. slice_get l (8 + h.m)) z.2.seen.sent ∙ get_behind (map of_sent nulls) (sent_by fresh h.part.steps) (8 + h.m) h.m (omega (arith, sent_many)) ∙ a.1 in
      let q = get_seen of_sent w.sent (8 + h.m) a.0 there in
      record {
        of = record {
          k = h.k;
          part = h.part;
          stretch = s;
          of_parts = h.of_parts;
          of_stretches = z.1;
          m = h.m;
          expected = h.mark.expected;
          mark = h.marked ∙ ap (λ (mark : Mark). Some (Some mark)) (sym (same_mark r h.mark h.x h.is_of));
          own_id = (let same = h.is_of.id in let id = counted_at 0 h.part.marks h.m h.mark (omega arith) z.2.counted h.marked in omega (arith, same, id));
          counted = h.counted;
          task = a.2.0;
          listed = ap (λ n. slice_get commands n) h.is_of.place ∙ a.2.1;
        };
        fits = z.2;
        settled = ap (λ l. slice_get l (8 + h.m)) z.2.seen.settled ∙ get_behind nulls_settled (settled_by fresh h.part.steps) (8 + h.m) h.m (omega (arith, many)) ∙ here;
        asks = λ request e.
            ap (λ (x : Sent). x.call) (same_Some request q.0 (sym e ∙ q.1)) ∙ ap (λ (a : Wanted Asked). a.call) (q.2 ∙ a.2.2)
            ∙ ap (λ n. call_at a.2.0 (record { utc = n; values = h.mark.expected.values })) (sym (sent_at_mark r h.mark h.x h.is_of));
      }

  module _ (commands : List Task) (ps : List Part) (ss : List (HarmedStretch State)) (number : ℕ) where
    -- a line that is own, or damaged, is so of the record
    own_of_record : (r : Record) (x : Settlement Asked) (f : IsFound commands ps ss number r x) (line : List ℕ)
        → IsOwn 7 ends (once_synchronized ends f.of.stretch) f.of.stretch.steps (8 + f.of.m) line
        ⊎ IsByDamage 7 ends (once_synchronized ends f.of.stretch) f.of.stretch.steps (λ made. WasStruck ends f.of.stretch.over f.of.stretch.turns made) (8 + f.of.m) line
        → IsOwnOrByDamage ends commands ps ss number r f.of line
    own_of_record r x f line (inl own) =
        inl (subst (λ call. WasMadeAmid 7 ends (once_synchronized ends f.of.stretch) f.of.stretch.steps (8 + f.of.m) call line) (f.asks own.request own.sent) own.made)
    own_of_record r x f line (inr damaged) = inr damaged

    -- what was settled of the command of a record, with this outcome
    settled_as : (r : Record) (mark : Mark) (x : Settlement Asked) (o : Outcome) → IsRecordOf r mark x → x.outcome ≡ o
        → Some x ≡ Some (record { target = r.command.target; call = r.command.call; outcome = o })
    settled_as r mark x o is e =
        ap (λ (p : Outcome). Some (record { target = x.target; call = x.call; outcome = p })) e
        ∙ ap (λ (c : Wish). Some (record { target = c.target; call = c.call; outcome = o })) (sym is.command)

    -- the answer of a record of a part is own or damaged
    answer_of : (r : Record) → AllZip FitsPart ps ss → AllByRecursion (λ p. MarksAsk commands p.marks (sent_by fresh p.steps)) ps → IsOfPart ps number r → AnswerIsOwnOrDamaged ends commands ps ss number r
    answer_of r fit asks h line says =
        let answered : h.x.outcome ≡ Answered line = was_answered r h.mark h.x h.is_of line says in
        let f = found commands ps ss number r fit asks h (λ is_lost. let both : Lost ≡ Answered line = sym is_lost ∙ answered in cc) in
        record {
          of = f.of;
          settled = f.settled ∙ settled_as r h.mark h.x (Answered line) h.is_of answered;
          from = λ apart. own_of_record r h.x f line ((f.fits.local apart).own.answered (8 + f.of.m) h.x line (omega arith) f.settled answered);
        }

    -- the late reply of a record of a part is own or damaged
    late_of : (r : Record) → AllZip FitsPart ps ss → AllByRecursion (λ p. MarksAsk commands p.marks (sent_by fresh p.steps)) ps → IsOfPart ps number r → LateIsOwnOrDamaged ends commands ps ss number r
    late_of r fit asks h says =
        let late : h.x.outcome ≡ Late = was_late r h.mark h.x h.is_of says in
        let f = found commands ps ss number r fit asks h (λ is_lost. let both : Lost ≡ Late = sym is_lost ∙ late in cc) in
        record {
          of = f.of;
          settled = f.settled ∙ settled_as r h.mark h.x Late h.is_of late;
          from = λ apart. let t = (f.fits.local apart).own.late (8 + f.of.m) h.x (omega arith) f.settled late in (t.0, own_of_record r h.x f t.0 t.1);
        }

    -- the same of a record of a command that may not have been sent
    answer_if_sent : (r : Record) → AllZip FitsPart ps ss → AllByRecursion (λ p. MarksAsk commands p.marks (sent_by fresh p.steps)) ps → (went_out r.end ≡ false) ⊎ IsOfPart ps number r
        → AnswerIsOwnOrDamaged ends commands ps ss number r
    answer_if_sent r fit asks (inr h) = answer_of r fit asks h
    answer_if_sent r fit asks (inl out) = λ line answered. absurd (none r.end line out answered) where
      -- the end of a command that wasn't sent is no answer
      none : (e : End) (line : List ℕ) → went_out e ≡ false → line_of e ≡ Some line → ⊥
      none (end.Answered quality said l) line out answered = cc
      none (end.Unreadable l fault) line out answered = cc
      none (end.Judged judgement l) line out answered = cc
      none end.Late line out answered = cc
      none end.Lost line out answered = cc
      none end.Skipped line out answered = cc
      none end.NoValue line out answered = cc
      none end.Missed line out answered = cc

    -- the same of one that may be late
    late_if_sent : (r : Record) → AllZip FitsPart ps ss → AllByRecursion (λ p. MarksAsk commands p.marks (sent_by fresh p.steps)) ps → (went_out r.end ≡ false) ⊎ IsOfPart ps number r
        → LateIsOwnOrDamaged ends commands ps ss number r
    late_if_sent r fit asks (inr h) = late_of r fit asks h
    late_if_sent r fit asks (inl out) = λ late. let both : true ≡ false = sym (ap went_out late) ∙ out in cc

  -- What is sent and written.

  -- what the client of a stretch sent, by its part
  sent_fits : (p : Part) (s : HarmedStretch State) → FitsPart p s → map of_sent (client_sent ends s) ≡ sent_by fresh p.steps
  sent_fits p s f = sym (drop-map of_sent 8 (at_its_end ends s).world.wire.sent) ∙ ap (drop 8) f.seen.sent

  -- what the client of a stretch settled, by its part
  settled_fits : (p : Part) (s : HarmedStretch State) → FitsPart p s → client_settled ends s ≡ settled_by fresh p.steps
  settled_fits p s f = ap (drop 8) f.seen.settled

  -- the requests of the stretches are those of the parts
  all_sent : (commands : List Task) (ps : List Part) (ss : List (HarmedStretch State)) → AllZip FitsPart ps ss
      → AllByRecursion (λ p. MarksAsk commands p.marks (sent_by fresh p.steps)) ps → AreSentInStretches ends commands ps ss
  all_sent commands [] [] fit asks = tt
  all_sent commands [] (s ∷ ss) fit asks = absurd fit
  all_sent commands (p ∷ ps) [] fit asks = absurd fit
  all_sent commands (p ∷ ps) (s ∷ ss) fit asks = (subst (MarksAsk commands p.marks) (sym (sent_fits p s fit.0)) asks.0, all_sent commands ps ss fit.1 asks.1)

  -- the records of the stretches are those of the parts
  all_written : (reads : Reads) (commands : List Task) (ps : List Part) (ss : List (HarmedStretch State)) → AllZip FitsPart ps ss → recorded reads commands ps ≡ written_in_stretches ends reads ps ss
  all_written reads commands [] [] fit = refl
  all_written reads commands [] (s ∷ ss) fit = absurd fit
  all_written reads commands (p ∷ ps) [] fit = absurd fit
  all_written reads commands (p ∷ []) (s ∷ []) fit = ap (λ xs. records_of reads 0 p.marks xs) (sym (settled_fits p s fit.0))
  all_written reads commands (p ∷ []) (s ∷ t ∷ ss) fit = absurd fit.1
  all_written reads commands (p ∷ q ∷ ps) (s ∷ []) fit = absurd fit.1
  all_written reads commands (p ∷ q ∷ ps) (s ∷ t ∷ ss) fit =
      ap (λ xs. records_of reads 0 p.marks (xs ++ map lost (client_after fresh p.steps).waiting) ++ recorded reads commands (q ∷ ps)) (sym (settled_fits p s fit.0))
      ∙ ap (λ (c : ById Asked). records_of reads 0 p.marks (client_settled ends s ++ map lost c.waiting) ++ recorded reads commands (q ∷ ps)) (sym fit.0.seen.client)
      ∙ ap (λ l. records_of reads 0 p.marks (client_settled ends s ++ map lost (at_its_end ends s).world.client.waiting) ++ l) (all_written reads commands (q ∷ ps) (t ∷ ss) fit.1)

  -- of these stretches no more requests were settled by lines that came damaged than such lines came
  pub all_few : (ss : List (HarmedStretch State)) → AreFewByDamagedLines ends ss
  all_few [] [] h = omega arith
  all_few [] (requests ∷ chosen) h = absurd h
  all_few (s ∷ ss) [] h = absurd h
  all_few (s ∷ ss) (requests ∷ chosen) h =
      let first : length requests ≤ damaged_lines s.steps = few_by_damage 7 ends (λ made. WasStruck ends s.over s.turns made) (once_synchronized ends s) s.steps requests h.0.0 h.0.1 in
      let others : count_in chosen ≤ damaged_lines_in ss = all_few ss chosen h.1 in
      omega (arith, first, others)

  -- a run over a line that damages is local
  pub run_local : (u : UnderWay State) (x : HarmedProgram State) → IsInHarmedField ends Good kept u x → IsRunLocal ends Good kept x
  run_local u x h =
      let held = held_back x.plan x.commands x.scope x.acts h.runs in
      let start = opening x.plan x.scope in
      let ps = parts_of_program x in
      let end = state_after x.plan x.commands x.scope x.acts in
      let fine = invariant_opening x.plan x.commands x.scope in
      let on = follows x.plan x.commands x.scope.reads start x.acts refl fine h.runs in
      let asks = all_ask x.scope.reads x.commands ps [] end on in
      let fit = all_fit x.commands h.own ps x.stretches u h.lines h.row h.seen h.possible held asks (ids_count x.plan x.commands x.scope x.acts h.runs) in
      let of = all_of_parts x.scope.reads x.commands ps end on in
      record {
        begun = parts_begun x.plan x.commands start x.acts h.runs;
        answers = λ n r got. answer_if_sent x.commands ps x.stretches (sent_until end.records n) r fit asks (of n r got);
        late = λ n r got. late_if_sent x.commands ps x.stretches (sent_until end.records n) r fit asks (of n r got);
        each = zip_each FitsPart (λ s. HasDamageApart ends s → IsLocal ends Good kept s) (λ p s f. f.local) ps x.stretches fit;
        few = all_few x.stretches;
        few_records = few_records ends x.commands ps x.stretches end.records (zip_long FitsPart ps x.stretches fit);
        one_for_one = each_once x.plan x.commands x.scope x.acts;
        sent = all_sent x.commands ps x.stretches fit asks;
        written = all_recorded x.scope.reads x.commands ps end on ∙ all_written x.scope.reads x.commands ps x.stretches fit;
        meant = are_meant x.plan x.commands start x.acts fine h.runs;
      }

  -- Damage once the station has synchronized.

  -- a stretch of which nothing is damaged while it synchronizes, over lines that lack the word, and in which damage is apart after that
  apart_first : (u : UnderWay State) (s : HarmedStretch State) → LacksTheWord u → s.over ≡ u → IsDamagedOnceSynchronized ends s → HasDamageApart ends s
  apart_first u s lacks over h =
      record { begun = inr (record { turns = h.turns; undamaged = h.undamaged; lacks = subst LacksTheWord (sym over) lacks }); apart = h.apart }

  -- each stretch of which nothing is damaged while it synchronizes, and in which damage is apart after that, is so, if the word isn't in
  -- flight when the first begins
  all_apart : (commands : List Task) → AreOfTable commands ⊎ TreatsRawsAlike ends Good kept → (ps : List Part) (ss : List (HarmedStretch State)) (u : UnderWay State) → IsWellFormed Good u → LacksTheWord u → AreInARow ends u ss
      → AllZip (IsSeenAs ends) ps ss → AllByRecursion (IsPossibleStretch ends Good kept) ss → ((i : ℕ) (p : Part) → slice_get ps i ≡ Some p → IsHeldBack p)
      → AllByRecursion (λ p. MarksAsk commands p.marks (sent_by fresh p.steps)) ps → AreBegun the_word ps → AllByRecursion (IsDamagedOnceSynchronized ends) ss
      → AllByRecursion (HasDamageApart ends) ss
  all_apart commands table [] [] u well lacks row seen possible held asks begun h = tt
  all_apart commands table [] (s ∷ ss) u well lacks row seen possible held asks begun h = absurd seen
  all_apart commands table (p ∷ ps) [] u well lacks row seen possible held asks begun h = absurd seen
  all_apart commands table (p ∷ []) (s ∷ []) u well lacks row seen possible held asks begun h = (apart_first u s lacks row.0 h.0, tt)
  all_apart commands table (p ∷ []) (s ∷ t ∷ ss) u well lacks row seen possible held asks begun h = absurd seen.1
  all_apart commands table (p ∷ q ∷ ps) (s ∷ ss) u well lacks row seen possible held asks begun h =
      let over : IsWellFormed Good s.over = subst (IsWellFormed Good) (sym row.0) well in
      let apart = apart_first u s lacks row.0 h.0 in
      let local = local_if_apart commands table p s (record { well = over; possible = possible.0; seen = seen.0; held = held 0 p refl; asks = asks.0 }) apart in
      let done : (synchronized ends s).left ≡ [] = left_harmed ends s.turns (begins s.over) ∙ ap (λ l. unanswered_after the_word (heard_in l)) seen.0.0 ∙ begun.0 in (
        apart,
        all_apart commands table (q ∷ ps) ss (left_by_stretch ends s) (left_well_formed ends Good kept is s over possible.0) (local.lacks done) row.1 seen.1 possible.1
            (λ i p e. held (suc i) p e) asks.1 begun.1 h.1,
      )

  -- damage is apart in each stretch of such a run
  pub run_apart : (u : UnderWay State) (x : HarmedProgram State) → IsInHarmedField ends Good kept u x → LacksTheWord u
      → AllByRecursion (IsDamagedOnceSynchronized ends) x.stretches → AllByRecursion (HasDamageApart ends) x.stretches
  run_apart u x h lacks damaged =
      let held = held_back x.plan x.commands x.scope x.acts h.runs in
      let start = opening x.plan x.scope in
      let ps = parts_of_program x in
      let end = state_after x.plan x.commands x.scope x.acts in
      let on = follows x.plan x.commands x.scope.reads start x.acts refl (invariant_opening x.plan x.commands x.scope) h.runs in
      all_apart x.commands h.own ps x.stretches u h.lines lacks h.row h.seen h.possible held (all_ask x.scope.reads x.commands ps [] end on)
      (parts_begun x.plan x.commands start x.acts h.runs) damaged
