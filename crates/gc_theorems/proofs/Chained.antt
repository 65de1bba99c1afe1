-- Chains in the field: the acts of a run up to a request are a run in the field, too, whose last stretch is a front of the
-- whole run's stretch at that place. So when a chained command is sent, the answer of each one before it in its chain is settled
-- there. A *part* is what happens in a run from one synchronization to the next, as the station sees it; a *stretch* is what
-- happens then on the line. The *marks* of a part say for which command each of its requests is, in order.
use Rattle.gc_theorems.proofs.Common.{◌≡◌, ◌⊎◌, inl, inr, ℕ, zero, suc, ◌+◌, ◌-◌, ◌<◌, ◌≤◌, drop, length-drop, List, [], ◌∷◌, ◌++◌, length, map, Option, Some, refl, sym, ◌∙◌, ap, subst, arith, slice_get, length-map, Asked, Wanted, Answered, Settlement, KeptReply, Expected, call_at, line_of, Task, Plan, Act, Part, mark_of, Record, state_after, Scope, Runs, opening, AreChained, IsBefore, IsAnsweredEarlier, ChainsStay, MarksGoOn, RecordsStay, parts, marks_ask_length, get_more, all_on, runs_front, Ends, Up_deliver, same_Some, slice_get_within, AreTurns, UnderWay, begins, leaves, left_by_turns, SyncModel, ArePossibleIfBegun, AreRuns, Run, after_turns, left_by_run, IsSafe, WasMadeOn, world_once_begun, ids_begun, AreExecutedInChain, IsChainedTo, IsExecutedInChain, Move, OnLine, seen, IsAnInstrument, asked, IsInField, IsItsOwn, IsOwnAnswer, Program, own_sent, own_settled, world, AreShownAs, Stretch, shown, stretches, IsFront, front_parts, front_last, cases_order}
use Rattle.gc_station.proofs.Lists.{all_at}
use Rattle.gc_theorems.proofs.InTime.{clean_of, front_nil}
use Rattle.gc_theorems.proofs.Possible.{front_possible}
use Rattle.gc_theorems.proofs.Safe.{SplitSeen, split_seen}
use Rattle.gc_theorems.proofs.Among.{get_drop, zip_at}
use Rattle.gc_theorems.proofs.Joining.{Fits, Matches, joined, run_faithful}
use Rattle.gc_theorems.proofs.Ordered.{executed_behind, in_front_at}
use Rattle.gc_theorems.proofs.PartFronts.{IsLastSyncWhole, LastIsMarked, last_marked, whole_parts}
use Rattle.gc_client.specs.OneForOne as step
use Rattle.gc_station.specs.Parts as part

-- The stretches of a front.

-- the stretch t is the front of the stretch s, up to some move
record IsCutOf {State : Type 0} (t s : Stretch State) : Type 0 where
  front : List (Move State)
  later : List (Move State)
  is : t ≡ record { from = s.from; moves = front }
  order : s.moves ≡ front ++ later

module _ {State : Type 0} (ends : Ends State) (Good : State → Type 0) (kept : State → Option KeptReply) where
  -- the front of possible moves is possible
  possible_cut : (left : List ℕ) (s : SyncModel State) (ms front later : List (Move State)) → ms ≡ front ++ later → ArePossibleIfBegun 7 ends Good kept left s ms
      → ArePossibleIfBegun 7 ends Good kept left s front
  possible_cut [] s ms front later e p = front_possible 7 ends Good kept ms front later (ids_begun (leaves s)) e p
  possible_cut (asked ∷ rest) s ms front later e p = front_nil front later (sym p ∙ e)

  -- possible runs that show the parts `ps`, the first ones of a longer run with the runs `rs`: the stretch of the last one is a
  -- front of the stretch at its place among those of `rs`
  record CutRuns (ps : List Part) (u : UnderWay State) (rs : List (Run State)) : Type 0 where
    runs : List (Run State)
    shown : AreShownAs ends u runs ps
    possible : AreRuns 7 ends Good kept u runs
    last : (i : ℕ) (t s : Stretch State) → length ps ≡ suc i → slice_get (stretches ends u runs) i ≡ Some t → slice_get (stretches ends u rs) i ≡ Some s → IsCutOf t s

  -- `CutRuns` of one part, p: its run is the first of possible runs, r, whose turns show those of p, cut after the moves that
  -- show the steps of p (`SplitSeen`)
  cut_one : (p : Part) (u : UnderWay State) (r : Run State) (rs : List (Run State)) (more : List (step.Step Asked)) → shown ends r.turns (begins u) ≡ p.sync_steps → SplitSeen r.moves p.steps more
      → AreTurns ends Good kept r.turns (begins u) → ArePossibleIfBegun 7 ends Good kept (after_turns ends u r).left (after_turns ends u r) r.moves → CutRuns (p ∷ []) u (r ∷ rs)
  cut_one p u r rs more e x turns possible = record {
    runs = record { turns = r.turns; moves = x.front } ∷ [];
    shown = (e, x.steps, tt);
    possible = ((turns, possible_cut (after_turns ends u r).left (after_turns ends u r) r.moves x.front x.later x.order possible), tt);
    last = only;
  }
    where
      -- the only stretch of the cut run is a front of the first stretch of the runs
      only : (i : ℕ) (t v : Stretch State) → length (p ∷ []) ≡ suc i → slice_get (stretches ends u (record { turns = r.turns; moves = x.front } ∷ [])) i ≡ Some t
          → slice_get (stretches ends u (r ∷ rs)) i ≡ Some v → IsCutOf t v
      only zero t v size a b =
          subst (λ w. IsCutOf t w) (same_Some (record { from = left_by_turns ends r.turns u; moves = r.moves }) v b)
          (record { front = x.front; later = x.later; is = sym (same_Some (record { from = left_by_turns ends r.turns u; moves = x.front }) t a); order = x.order })
      only (suc i) t v size a b = absurd (omega (arith, size))

  -- if `CutRuns` (`c`) holds of the later parts, the last stretch of the runs of `c` with the run r before them is a cut
  -- (`IsCutOf`) of the stretch at its place among those of r and `rs`
  later_cut : (p next : Part) (ps : List Part) (u : UnderWay State) (r : Run State) (rs : List (Run State)) (c : CutRuns (next ∷ ps) (left_by_run 7 ends u r) rs)
      (i : ℕ) (t v : Stretch State) → length (p ∷ next ∷ ps) ≡ suc i
      → slice_get (stretches ends u (r ∷ c.runs)) i ≡ Some t → slice_get (stretches ends u (r ∷ rs)) i ≡ Some v → IsCutOf t v
  later_cut p next ps u r rs c zero t v size a b = absurd (omega (arith, size))
  later_cut p next ps u r rs c (suc i) t v size a b = c.last i t v (omega (arith, size)) a b

  -- the parts `ps` are the first ones of the parts `qs`, with the same steps of a synchronization in the last of them
  -- (`IsLastSyncWhole`); and these possible runs show the parts `qs`
  record AreFirstShown (ps qs : List Part) (u : UnderWay State) (rs : List (Run State)) : Type 0 where
    front : IsFront ps qs
    whole : IsLastSyncWhole ps qs
    shown : AreShownAs ends u rs qs
    possible : AreRuns 7 ends Good kept u rs

  -- `CutRuns` of one part that is the first one shown (`AreFirstShown`), if it has a request
  cut_last : (p : Part) (qs : List Part) (u : UnderWay State) (rs : List (Run State)) → AreFirstShown (p ∷ []) qs u rs → (p.marks ≡ [] → ⊥) → CutRuns (p ∷ []) u rs
  cut_last p [] u rs h marked = absurd h.front
  cut_last p (q ∷ qs) u [] h marked = absurd h.shown
  cut_last p (q ∷ qs) u (r ∷ rs) h marked = by_whole h.whole where
    -- the lemma above, by what `IsLastSyncWhole` says of one part: that it has no request, or the steps of a synchronization of
    -- the first one
    by_whole : (p.marks ≡ []) ⊎ (q.sync_steps ≡ p.sync_steps) → CutRuns (p ∷ []) u (r ∷ rs)
    by_whole (inl none) = absurd (marked none)
    by_whole (inr same) =
        let here : seen r.moves ≡ p.steps ++ h.front.0.steps = h.shown.1 ∙ ap (λ (x : Part). x.steps) h.front.1 in
        cut_one p u r rs h.front.0.steps (h.shown.0 ∙ same) (split_seen r.moves p.steps h.front.0.steps here) h.possible.0.0 h.possible.0.1

  -- `CutRuns` is preserved if a part and the possible run that shows it are put before the parts and the runs
  cut_more : (p next : Part) (ps : List Part) (u : UnderWay State) (r : Run State) (rs : List (Run State)) → shown ends r.turns (begins u) ≡ p.sync_steps → seen r.moves ≡ p.steps
      → AreTurns ends Good kept r.turns (begins u) × ArePossibleIfBegun 7 ends Good kept (after_turns ends u r).left (after_turns ends u r) r.moves
      → CutRuns (next ∷ ps) (left_by_run 7 ends u r) rs → CutRuns (p ∷ next ∷ ps) u (r ∷ rs)
  cut_more p next ps u r rs e f good c = record {
    runs = r ∷ c.runs;
    shown = (e, f, c.shown);
    possible = (good, c.possible);
    last = λ i t v size a b. later_cut p next ps u r rs c i t v size a b;
  }

  -- `CutRuns` of at least two parts that are the first ones shown (`AreFirstShown`), if those after the first have a `CutRuns`
  -- wherever they are the first ones shown
  cut_on : (p next : Part) (ps qs : List Part) (u : UnderWay State) (rs : List (Run State)) → AreFirstShown (p ∷ next ∷ ps) qs u rs
      → ((xs : List Part) (v : UnderWay State) (ts : List (Run State)) → AreFirstShown (next ∷ ps) xs v ts → CutRuns (next ∷ ps) v ts) → CutRuns (p ∷ next ∷ ps) u rs
  cut_on p next ps [] u rs h again = absurd h.front
  cut_on p next ps (q ∷ qs) u [] h again = absurd h.shown
  cut_on p next ps (q ∷ qs) u (r ∷ rs) h again =
      cut_more p next ps u r rs (h.shown.0 ∙ ap (λ (x : Part). x.sync_steps) h.front.0) (h.shown.1 ∙ ap (λ (x : Part). x.steps) h.front.0) h.possible.0
      (again qs (left_by_run 7 ends u r) rs (record { front = h.front.1; whole = h.whole; shown = h.shown.2; possible = h.possible.1 }))

  -- `CutRuns` of any parts that are the first ones shown (`AreFirstShown`), if the last of them has a request
  cut_field : (ps qs : List Part) (u : UnderWay State) (rs : List (Run State)) → AreFirstShown ps qs u rs → LastIsMarked ps → CutRuns ps u rs
  cut_field [] qs u rs h marked = absurd h.front
  cut_field (p ∷ []) qs u rs h marked = cut_last p qs u rs h marked
  cut_field (p ∷ next ∷ ps) qs u rs h marked = cut_on p next ps qs u rs h (λ xs v ts g. cut_field (next ∷ ps) xs v ts g marked)

-- Pairs of numbers: a cycle and a place in it, or a part of the run and a request in it.

-- no place of a cycle comes before itself (`IsBefore c p d q`: place p of cycle c comes before place q of cycle d)
pub not_before_itself : (c p : ℕ) → IsBefore c p c p → ⊥
not_before_itself c p (inl l) = omega (arith, l)
not_before_itself c p (inr l) = let less : p < p = l.1 in omega (arith, less)

-- if neither of the pairs i, m and j, n comes before the other, they are the same
pub same_place : (i j m n : ℕ) → (IsBefore i m j n → ⊥) → (IsBefore j n i m → ⊥) → (i ≡ j) × (m ≡ n)
same_place i j m n f g =
    elim (cases_order i j) [
      | inl e ↦ elim (cases_order m n) [
        | inl d ↦ (e, d)
        | inr s ↦ elim s [
          | inl l ↦ absurd (f (inr (e, l)))
          | inr l ↦ absurd (g (inr (sym e, l)))
        ]
      ]
      | inr r ↦ elim r [
        | inl l ↦ absurd (f (inl l))
        | inr l ↦ absurd (g (inl l))
      ]
    ]

-- where place q of cycle d comes between place p of cycle c and place r of cycle e, and c equals e, d is that cycle, too, and q
-- lies between p and r
between_is_same_cycle : (c p d q e r : ℕ) → IsBefore c p d q → IsBefore d q e r → c ≡ e → (d ≡ e) × (p < q) × (q < r)
between_is_same_cycle c p d q e r (inl a) (inl b) same = absurd (omega (arith, a, b, same))
between_is_same_cycle c p d q e r (inl a) (inr b) same = let is : d ≡ e = b.0 in absurd (omega (arith, a, is, same))
between_is_same_cycle c p d q e r (inr a) (inl b) same = let is : c ≡ d = a.0 in absurd (omega (arith, is, b, same))
between_is_same_cycle c p d q e r (inr a) (inr b) same = (b.0, a.1, b.1)

-- The theorem, from what is known of a station's runs.

module _ {State : Type 0} (ends : Ends State) (Good : State → Type 0) (kept : State → Option KeptReply) (is : IsAnInstrument ends Good kept)
    (stay : ChainsStay) (go_on : MarksGoOn) (records_stay : RecordsStay) (plan : Plan) (commands : List Task) (scope : Scope) where
  -- the run that makes these acts, and on whose line this happens
  abbrev run_of : List Act → List (Run State) → Program State
  run_of acts rs = record { plan = plan; commands = commands; scope = scope; acts = acts; runs = rs }

  -- where request m of part i of a run is for the command of record r, which is of a cycle, and r has an answer that is its own
  -- (`IsItsOwn`), that answer is to request m of part i
  own_place : (acts : List Act) → Runs plan commands (opening plan scope) acts
      → (i m : ℕ) (part : Part) (expected : Expected) (r : Record) (ss : List (Stretch State)) (line : List ℕ) → slice_get (parts plan commands scope acts) i ≡ Some part
      → slice_get part.marks m ≡ Some (Some (mark_of expected r)) → 0 < r.cycle → (u : IsItsOwn ends Good kept commands (parts plan commands scope acts) ss r line)
      → (u.of.k ≡ i) × (u.of.m ≡ m)
  own_place acts runs i m part expected r ss line of_parts mark many u =
      let q = u.of in
      same_place q.k i q.m m
      (λ l. not_before_itself r.cycle r.place (go_on plan commands scope acts runs q.k i q.m m q.part part (mark_of q.expected r) (mark_of expected r) q.of_parts of_parts q.mark mark l many many))
      (λ l. not_before_itself r.cycle r.place (go_on plan commands scope acts runs i q.k m q.m part q.part (mark_of expected r) (mark_of q.expected r) of_parts q.of_parts mark q.mark l many many))

  -- if the last part of the first acts (`before`) of a run in the field has a request, these acts are a run in the field, too,
  -- with its last stretch cut short (`CutRuns`)
  in_front_of : (acts before rest : List Act) (u : UnderWay State) (rs : List (Run State)) → acts ≡ before ++ rest
      → LastIsMarked (parts plan commands scope before) → IsInField ends Good kept u (run_of acts rs)
      → (c : CutRuns ends Good kept (parts plan commands scope before) u rs) × IsInField ends Good kept u (run_of before c.runs)
  in_front_of acts before rest u rs e marked h =
      let front : IsFront (parts plan commands scope before) (parts plan commands scope acts) =
      subst (λ l. IsFront (parts plan commands scope before) (parts plan commands scope l)) (sym e) (front_parts plan commands (opening plan scope) before rest) in
      let runs : Runs plan commands (opening plan scope) before = runs_front plan commands (opening plan scope) before rest (subst (λ l. Runs plan commands (opening plan scope) l) e h.runs) in
      let whole : IsLastSyncWhole (parts plan commands scope before) (parts plan commands scope acts) =
      subst (λ l. IsLastSyncWhole (parts plan commands scope before) (parts plan commands scope l)) (sym e) (whole_parts plan commands (opening plan scope) before rest) in
      let c = cut_field ends Good kept (parts plan commands scope before) (parts plan commands scope acts) u rs
      (record { front = front; whole = whole; shown = h.shown; possible = h.possible }) marked in
      (c, record { runs = runs; lines = h.lines; none = h.none; shown = c.shown; possible = c.possible })

  -- when the client is about to send request n of stretch i, a command of a cycle, the command at place a, which was answered
  -- well in the same part (`back`), is settled in that stretch, with the answer that its record has
  settled_there : (before : List Act) (u : UnderWay State) (rs : List (Run State)) → IsInField ends Good kept u (run_of before rs)
      → (i n cycle a : ℕ) (first : Part) → slice_get (parts plan commands scope before) i ≡ Some first → length first.marks ≡ n
      → (back : IsAnsweredEarlier plan commands scope before first cycle a) → 0 < cycle → (t : Stretch State) × (slice_get (stretches ends u rs) i ≡ Some t) × (length (own_sent ends t) ≡ n)
      × (slice_get (own_settled ends t) back.m ≡ Some (record { target = back.its.answer.command.target; call = back.its.answer.command.call; outcome = Answered back.its.good.line }))
  settled_there before u rs h i n cycle a first of_first count back many =
      let ss = stretches ends u rs in
      let f = run_faithful ends Good kept is u (run_of before rs) h in
      let o = all_at (IsOwnAnswer ends Good kept commands (parts plan commands scope before) ss)
      (state_after plan commands scope before).records back.its.k back.its.answer f.own back.its.among back.its.good.line (ap line_of back.its.good.answered) in
      let at = own_place before h.runs i back.m first back.expected back.its.answer ss back.its.good.line of_first back.mark (subst (λ c. 0 < c) (sym back.its.own_cycle) many) o in
      let of_ss : slice_get ss i ≡ Some o.of.stretch = subst (λ k. slice_get ss k ≡ Some o.of.stretch) at.0 o.of.of_stretches in
      let size : length first.marks ≡ length (own_sent ends o.of.stretch) =
      marks_ask_length commands first.marks (map asked (own_sent ends o.of.stretch))
      (zip_at _ (parts plan commands scope before) ss i first o.of.stretch f.sent of_first of_ss) ∙ length-map (own_sent ends o.of.stretch) asked in (
        o.of.stretch,
        of_ss,
        sym size ∙ count,
        subst (λ m. slice_get (own_settled ends o.of.stretch) m ≡ Some
            (record { target = back.its.answer.command.target; call = back.its.answer.command.call; outcome = Answered back.its.good.line })) at.1 o.settled,
      )

  -- if the answer of record b is its own, and its part and its stretch fit, the line was made on executing the record's call
  made_its : (ps : List Part) (ss : List (Stretch State)) (b : Record) (line : List ℕ) (o : IsItsOwn ends Good kept commands ps ss b line) → Fits ends Good kept is o.of.part o.of.stretch
      → WasMadeOn 7 ends o.of.stretch.from o.of.stretch.moves (8 + o.of.m) b.command.call line
  made_its ps ss b line o fit =
      let x : Settlement Asked = record { target = b.command.target; call = b.command.call; outcome = Answered line } in
      let w = (world ends o.of.stretch).wire in
      let right : b.command.call ≡ call_at o.of.task (part.occasion_in o.of.expected b) = (fit.faithful.one_for_one.same (8 + o.of.m) x o.request (get_drop 8 o.of.m w.settled x o.settled)
      (get_drop 8 o.of.m w.sent o.request o.sent)).1 ∙ ap (λ (z : Wanted Asked). z.call) o.asks in
      subst (λ call. WasMadeOn 7 ends o.of.stretch.from o.of.stretch.moves (8 + o.of.m) call line) (sym right) o.made_on

  -- if the answer of record b, of a cycle, is its own, `IsChainedTo` holds for each place a that isn't of the setup and from
  -- which the commands up to that of b are chained: the command at place a was executed before that of b
  chained_to : (acts : List Act) (v : UnderWay State) (rs : List (Run State)) → IsInField ends Good kept v (run_of acts rs)
      → (b : Record) (line : List ℕ) (u : IsItsOwn ends Good kept commands (parts plan commands scope acts) (stretches ends v rs) b line) (a : ℕ)
      → 0 < b.cycle → plan.setup ≤ a → a < b.place → AreChained commands a b.place
      → IsChainedTo ends Good kept v (run_of acts rs) a b line
  chained_to acts v rs h b line u a many low less chained =
      let q = u.of in
      let ss = stretches ends v rs in
      let sent = stay plan commands scope acts h.runs q.k q.m q.part (mark_of q.expected b) q.of_parts q.mark many in
      let back = sent.chain a low less chained in
      let marked = last_marked (parts plan commands scope sent.before) q.k back.m sent.so_far (Some (mark_of back.expected back.its.answer)) sent.last sent.of_parts back.mark in
      let cut = in_front_of acts sent.before sent.rest v rs sent.order marked h in
      let there = settled_there sent.before v cut.0.runs cut.1 q.k q.m b.cycle a sent.so_far sent.of_parts sent.count back many in
      let c = cut.0.last q.k there.0 q.stretch sent.last there.1 q.of_stretches in
      let fit = (zip_at (Matches ends Good kept is commands) (parts plan commands scope acts) ss q.k q.part q.stretch (joined ends Good kept is v (run_of acts rs) h).matched q.of_parts q.of_stretches).fits in
      let x : Settlement Asked = record { target = back.its.answer.command.target; call = back.its.answer.command.call; outcome = Answered back.its.good.line } in
      let w = (world_once_begun 7 ends q.stretch.from c.front).wire in
      let settled : slice_get (drop 8 w.settled) back.m ≡ Some x = subst (λ (t : Stretch State). slice_get (own_settled ends t) back.m ≡ Some x) c.is there.3 in
      let size : length (drop 8 w.sent) ≡ q.m = subst (λ (t : Stretch State). length (own_sent ends t) ≡ q.m) c.is there.2 in
      let dropped : length (drop 8 w.sent) ≡ length w.sent - 8 = length-drop 8 w.sent in
      let beyond : 8 ≤ 8 + back.m = omega arith in
      let made = made_its (parts plan commands scope acts) ss b line u fit in
      let clean = clean_of ends Good kept is q.stretch fit.sound made.front made.later (OnLine Up_deliver) made.split in
      let front : IsFront (parts plan commands scope sent.before) (parts plan commands scope acts) =
      subst (λ l. IsFront (parts plan commands scope sent.before) (parts plan commands scope l)) (sym sent.order) (front_parts plan commands (opening plan scope) sent.before sent.rest) in
      let more = front_last (parts plan commands scope sent.before) (parts plan commands scope acts) q.k sent.so_far q.part front sent.last sent.of_parts q.of_parts in
      let mark_a : slice_get q.part.marks back.m ≡ Some (Some (mark_of back.expected back.its.answer)) =
      ap (λ (p : Part). slice_get p.marks back.m) more.1 ∙ get_more sent.so_far.marks more.0.marks back.m (Some (mark_of back.expected back.its.answer)) back.mark in
      let small : back.m < length sent.so_far.marks = slice_get_within sent.so_far.marks back.m (Some (mark_of back.expected back.its.answer)) back.mark in
      let grown = records_stay plan commands scope sent.before sent.rest in
      let same_cycle : back.its.answer.cycle ≡ b.cycle = back.its.own_cycle in
      let safe : IsSafe 7 ends q.stretch.from Good kept c.front (8 + back.m) =
      subst (λ (t : Stretch State). IsSafe 7 ends t.from Good kept t.moves (8 + back.m)) c.is
      ((zip_at (Matches ends Good kept is commands) (parts plan commands scope sent.before) (stretches ends v cut.0.runs) q.k sent.so_far there.0
      (joined ends Good kept is v (run_of sent.before cut.0.runs) cut.1).matched sent.of_parts there.1).safe back.m (mark_of back.expected back.its.answer) back.mark) in
      record {
        earlier = record {
          k = back.its.k;
          answer = back.its.answer;
          among = ap (λ l. slice_get (state_after plan commands scope l).records back.its.k) sent.order ∙ ap (λ l. slice_get l back.its.k) grown.1
              ∙ get_more (state_after plan commands scope sent.before).records grown.0 back.its.k back.its.answer back.its.among;
          own_cycle = same_cycle;
          own_place = back.its.own_place;
          good = back.its.good;
        };
        i = q.k;
        part = q.part;
        stretch = q.stretch;
        of_parts = q.of_parts;
        of_stretches = q.of_stretches;
        m = back.m;
        n = q.m;
        goes_on = omega (arith, small, sent.count);
        expected_a = back.expected;
        expected_b = q.expected;
        mark_a = mark_a;
        mark_b = q.mark;
        between = λ k mark above under at.
            let there : slice_get (sent.so_far.marks ++ more.0.marks) k ≡ Some (Some mark) = ap (λ (p : Part). slice_get p.marks k) (sym more.1) ∙ at in
            let its : 0 < mark.cycle = back.of_cycles k mark above (in_front_at sent.so_far.marks more.0.marks k (Some mark) (omega (arith, under, sent.count)) there) in
            let own : 0 < back.its.answer.cycle = subst (λ c. 0 < c) (sym same_cycle) many in
            let first =
            go_on plan commands scope acts h.runs q.k q.k back.m k q.part q.part (mark_of back.expected back.its.answer) mark q.of_parts q.of_parts mark_a at (inr (refl, above)) own its in
            let last =
            go_on plan commands scope acts h.runs q.k q.k k q.m q.part q.part mark (mark_of q.expected b) q.of_parts q.of_parts at q.mark (inr (refl, under)) its many in
            let it = between_is_same_cycle back.its.answer.cycle back.its.answer.place mark.cycle mark.place b.cycle b.place first last same_cycle in
            (it.0, subst (λ p. p < mark.place) back.its.own_place it.1, it.2);
        executed =
            executed_behind ends Good kept is q.stretch clean fit.sound.possible c.front c.later c.order (8 + back.m) (8 + q.m) x back.its.good.line beyond safe
            (get_drop 8 back.m w.settled x settled) refl (omega (arith, size, dropped)) b.command.call line made;
      }

  -- each record of a run in the field is `IsExecutedInChain`
  pub chains_executed : (acts : List Act) (u : UnderWay State) (rs : List (Run State)) → IsInField ends Good kept u (run_of acts rs)
      → AreExecutedInChain ends Good kept u (run_of acts rs)
  chains_executed acts u rs h =
      all_on (IsOwnAnswer ends Good kept commands (parts plan commands scope acts) (stretches ends u rs)) (IsExecutedInChain ends Good kept u (run_of acts rs))
      (state_after plan commands scope acts).records
      (λ b own line a answered many low less chained. chained_to acts u rs h b line (own line answered) a many low less chained) (run_faithful ends Good kept is u (run_of acts rs) h).own
