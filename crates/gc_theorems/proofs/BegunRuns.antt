-- Runs one after the other: each that has synchronized has done so cleanly and is faithful, and leaves what the next one may begin over. So
-- it is where each but the last has synchronized; and where few are killed, since each that is killed while it synchronizes makes the front
-- of the word that may be in flight longer by one id at most, and not at all if none of its null procedures was answered. The *word* is the
-- list of the ids of a synchronization's eight null procedures: 6 down to 0, and then 7.
use Rattle.gc_theorems.proofs.Common.{◌≡◌, ℕ, suc, ◌+◌, ◌≤◌, Bool, true, false, if◌then◌else◌, List, [], ◌∷◌, ◌++◌, length, nat_eq, Option, refl, sym, ◌∙◌, ap, subst, arith, append_assoc, eqb-true, AllByRecursion, IsSubsequence, the_word, KeptReply, Ends, IsWellFormed, LacksTheWord, AreTurns, SyncModel, UnderWay, begins, ids_under_way, leaves, AreFewKilled, AreOwn, AreRuns, ArePossibleIfBegun, IsOwnIfBegun, HasRisingIds, Run, RunsInARowAreOwn, killed_by, killed_over, killed_unless_begun, left_by_run, left_by_runs, left_if_begun, after_turns, ArePossibleOnceBegun, PlacedRun, ArePossibleRuns, begun_at, placed_runs, Move, IsAnInstrument, IsOwnRun, NextMayBegin}
use Rattle.gc_theorems.proofs.BeginJoin.{begins_cleanly, upto_absent_in_left, upto_absent_in_left_unanswered, left_well_formed}
use Rattle.gc_theorems.proofs.BeginKilled.{IsFirstLeft}
use Rattle.gc_theorems.proofs.BeginWords.{subword_front}
use Rattle.gc_theorems.proofs.BegunFaithful.{faithful}
use Rattle.gc_theorems.proofs.BegunRising.{rising_lack_the_word, rising_lack_three, runs_leave_rising_ids, runs_leave_good}

-- what is in flight after n runs in a row that were killed while they synchronized, without those during which no null procedure
-- was answered: it is well formed, and its ids don't contain the first n + 3 ids of the word, which are 6, 5 and `more`
pub record IsShortOfTheWord {State : Type 0} (Good : State → Type 0) (n : ℕ) (u : UnderWay State) : Type 0 where
  pub lines : IsWellFormed Good u
  pub more : List ℕ
  pub tail : List ℕ
  pub split : the_word ≡ 6 ∷ 5 ∷ (more ++ tail)
  pub few : length tail + n ≡ 5
  pub none : IsSubsequence (6 ∷ 5 ∷ more) (ids_under_way u) → ⊥

-- where what is in flight is well formed, and `HasRisingIds` holds of it, `IsShortOfTheWord` holds with no run killed before
pub short_if_rising : {State : Type 0} (Good : State → Type 0) (u : UnderWay State) → IsWellFormed Good u → HasRisingIds u → IsShortOfTheWord Good 0 u
short_if_rising Good u lines h = record { lines = lines; more = 4 ∷ []; tail = 3 ∷ 2 ∷ 1 ∷ 0 ∷ 7 ∷ []; split = refl; few = refl; none = rising_lack_three u h }

-- the ids of what is `IsShortOfTheWord` don't contain the word
pub short_lacks_the_word : {State : Type 0} (Good : State → Type 0) (n : ℕ) (u : UnderWay State) → IsShortOfTheWord Good n u → LacksTheWord u
short_lacks_the_word Good n u h s = h.none (subword_front (6 ∷ 5 ∷ h.more) h.tail (ids_under_way u) (subst (λ w. IsSubsequence w (ids_under_way u)) h.split s))

-- a list that isn't empty is all but its last element, and that
split_at_last : (x : ℕ) (xs : List ℕ) → (front : List ℕ) × (last : ℕ) × (x ∷ xs ≡ front ++ last ∷ [])
split_at_last x [] = ([], x, refl)
split_at_last x (y ∷ xs) = let h = split_at_last y xs in (x ∷ h.0, h.1, ap (λ l. x ∷ l) h.2)

module _ {State : Type 0} (width : ℕ) (ends : Ends State) (Good : State → Type 0) (kept : State → Option KeptReply) where
  -- where the moves of a run that hasn't synchronized are none, they are possible as if it had
  pub possible_if_begun : (left : List ℕ) (s : SyncModel State) (ms : List (Move State)) → ArePossibleIfBegun width ends Good kept left s ms → ArePossibleOnceBegun width ends (leaves s) Good kept ms
  possible_if_begun [] s ms p = p
  possible_if_begun (asked ∷ rest) s ms p = subst (λ l. ArePossibleOnceBegun width ends (leaves s) Good kept l) (sym p) tt

  -- so runs of `AreRuns` are possible
  pub possible_runs : (rs : List (Run State)) (u : UnderWay State) → AreRuns width ends Good kept u rs → ArePossibleRuns width ends Good kept u rs
  possible_runs [] u runs = tt
  possible_runs (r ∷ rs) u runs =
      ((runs.0.0, possible_if_begun (after_turns ends u r).left (after_turns ends u r) r.moves runs.0.1), possible_runs rs (left_by_run width ends u r) runs.1)

  -- runs each of which is its own are `AreOwn`
  pub are_own : (rs : List (Run State)) (u : UnderWay State) → AllByRecursion (IsOwnRun width ends Good kept) (placed_runs width ends u rs) → AreOwn width ends Good kept u rs
  are_own [] u own = tt
  are_own (r ∷ rs) u own = (own.0, are_own rs (left_by_run width ends u r) own.1)

-- each of these runs but the last has synchronized
abbrev pub AreBegunButLast : {State : Type 0} → (width : ℕ) → Ends State → UnderWay State → List (Run State) → Type 0
AreBegunButLast width ends u [] = Unit {0}
AreBegunButLast width ends u (r ∷ []) = Unit {0}
AreBegunButLast width ends u (r ∷ next ∷ others) = ((after_turns ends u r).left ≡ []) × AreBegunButLast width ends (left_by_run width ends u r) (next ∷ others)

module _ {State : Type 0} (ends : Ends State) (Good : State → Type 0) (kept : State → Option KeptReply) (is : IsAnInstrument ends Good kept) (width : ℕ) (narrow : width ≤ 7) where
  -- where what is in flight is `IsShortOfTheWord` for n killed runs, fewer than five, and one more run is killed while it
  -- synchronizes, so is what that run leaves, for n + 1
  short_killed : (n : ℕ) (u : UnderWay State) (r : Run State) → AreTurns ends Good kept r.turns (begins u) → n + 1 ≤ 5 → (tail : List ℕ)
      → (h : IsShortOfTheWord Good n u) → h.tail ≡ tail → IsShortOfTheWord Good (n + 1) (leaves (after_turns ends u r))
  short_killed n u r turns few [] h e = absurd (let size = h.few in let none : length h.tail ≡ 0 = ap length e in omega (arith, size, none, few))
  short_killed n u r turns few (c ∷ tail) h e =
      let split : the_word ≡ 6 ∷ 5 ∷ (h.more ++ c ∷ tail) = h.split ∙ ap (λ l. 6 ∷ 5 ∷ (h.more ++ l)) e in
      record {
        lines = left_well_formed ends Good kept is u r.turns h.lines turns;
        more = h.more ++ c ∷ [];
        tail = tail;
        split = split ∙ sym (ap (λ l. 6 ∷ 5 ∷ l) (append_assoc h.more (c ∷ []) tail));
        few = (let size = h.few in let one : length h.tail ≡ suc (length tail) = ap length e in omega (arith, size, one));
        none = upto_absent_in_left ends Good kept is u r.turns (record { a = 6; b = 5; more = h.more; c = c; tail = tail; is = split }) h.lines turns h.none;
      }

  -- where what is in flight is `IsShortOfTheWord` for n killed runs, and one more run is killed before any of its null procedures
  -- was answered, so is what that run leaves, for the same n
  short_unanswered : (n : ℕ) (u : UnderWay State) (r : Run State) → AreTurns ends Good kept r.turns (begins u) → IsFirstLeft 6 (after_turns ends u r).left
      → (h : IsShortOfTheWord Good n u) → (more : List ℕ) → h.more ≡ more → IsShortOfTheWord Good n (leaves (after_turns ends u r))
  short_unanswered n u r turns is_left h [] e =
      absurd (let size = h.few in let all : 8 ≡ suc (suc (length h.tail)) = ap length (h.split ∙ ap (λ l. 6 ∷ 5 ∷ (l ++ h.tail)) e) in omega (arith, size, all))
  short_unanswered n u r turns is_left h (m ∷ more) e =
      let end = split_at_last m more in
      let same : h.more ≡ end.0 ++ end.1 ∷ [] = e ∙ end.2 in
      let split : the_word ≡ 6 ∷ 5 ∷ (end.0 ++ end.1 ∷ h.tail) = h.split ∙ ap (λ l. 6 ∷ 5 ∷ (l ++ h.tail)) same ∙ ap (λ l. 6 ∷ 5 ∷ l) (append_assoc end.0 (end.1 ∷ []) h.tail) in
      record {
        lines = left_well_formed ends Good kept is u r.turns h.lines turns;
        more = h.more;
        tail = h.tail;
        split = h.split;
        few = h.few;
        none = λ s. upto_absent_in_left_unanswered ends Good kept is u r.turns (record { a = 6; b = 5; more = end.0; c = end.1; tail = h.tail; is = split }) h.lines turns
            (λ g. h.none (subst (λ l. IsSubsequence (6 ∷ 5 ∷ l) (ids_under_way u)) (sym same) g)) is_left
            (subst (λ l. IsSubsequence (6 ∷ 5 ∷ l) (ids_under_way (leaves (after_turns ends u r)))) same s);
      }

  -- where what is in flight is `IsShortOfTheWord` for n killed runs, and one more run ends with these ids of its word unanswered,
  -- so is what that run leaves, for the new count, by whether the first one left is 6 (`b`)
  short_counted : (n : ℕ) (u : UnderWay State) (r : Run State) (asked : ℕ) (rest : List ℕ) → (after_turns ends u r).left ≡ asked ∷ rest → AreTurns ends Good kept r.turns (begins u)
      → IsShortOfTheWord Good n u → (b : Bool) → nat_eq asked 6 ≡ b → (if b then n else n + 1) ≤ 5 → IsShortOfTheWord Good (if b then n else n + 1) (leaves (after_turns ends u r))
  short_counted n u r asked rest e turns h true is_six few = short_unanswered n u r turns (subst (IsFirstLeft 6) (sym e) (sym (eqb-true asked 6 is_six))) h h.more refl
  short_counted n u r asked rest e turns h false is_six few = short_killed n u r turns few h.tail h refl

  -- One run.

  -- a run may begin among what was in flight before it, and its turns and moves are possible
  pub record MayRun (p : PlacedRun State) : Type 0 where
    pub lines : IsWellFormed Good p.before
    pub may : LacksTheWord p.before
    pub turns : AreTurns ends Good kept p.run.turns (begins p.before)
    pub moves : ArePossibleOnceBegun width ends (leaves (begun_at ends p)) Good kept p.run.moves

  -- a run that has synchronized has done so cleanly, and is faithful; and what it leaves in flight is well formed, with rising ids
  record Begins (p : PlacedRun State) : Type 0 where
    own : IsOwnIfBegun width ends Good kept [] (begun_at ends p) p.run.moves
    lines : IsWellFormed Good (left_if_begun width ends [] (begun_at ends p) p.run.moves)
    row : HasRisingIds (left_if_begun width ends [] (begun_at ends p) p.run.moves)

  -- a run that may begin and is possible, and has synchronized, is as `Begins` says
  begins_own : (p : PlacedRun State) → MayRun p → (begun_at ends p).left ≡ [] → Begins p
  begins_own p run e =
      let s = begun_at ends p in
      let ended = begins_cleanly ends Good kept is p.before p.run.turns run.lines run.turns run.may e in
      let after = runs_leave_good ends Good kept is width narrow (leaves s) ended.clean p.run.moves run.moves in
      record {
        own = (ended, faithful ends Good kept is width narrow (leaves s) ended.clean p.run.moves run.moves);
        lines = record { ids = after.1; good = after.0 };
        row = runs_leave_rising_ids ends Good kept is width narrow (leaves s) ended.clean p.run.moves run.moves;
      }

  -- so a run that may begin and is possible is its own (`IsOwnRun`), whether it has synchronized or not; `left` is what it leaves of its
  -- word
  own_run : (p : PlacedRun State) (left : List ℕ) → (begun_at ends p).left ≡ left → MayRun p → IsOwnIfBegun width ends Good kept left (begun_at ends p) p.run.moves
  own_run p [] e run = (begins_own p run e).own
  own_run p (asked ∷ rest) e run = tt

  -- Runs of which each but the last has synchronized.

  -- possible runs of which each but the last has synchronized are their own, where what is in flight at first is well formed and hasn't the
  -- word in it
  pub own_runs : (rs : List (Run State)) (u : UnderWay State) → IsWellFormed Good u → LacksTheWord u → ArePossibleRuns width ends Good kept u rs → AreBegunButLast width ends u rs
      → AllByRecursion (IsOwnRun width ends Good kept) (placed_runs width ends u rs)
  own_runs [] u lines may possible begun = tt
  own_runs (r ∷ []) u lines may possible begun =
      (own_run (record { before = u; run = r }) _ refl (record { lines = lines; may = may; turns = possible.0.0; moves = possible.0.1 }), tt)
  own_runs (r ∷ next ∷ others) u lines may possible begun =
      let s = after_turns ends u r in
      let run : MayRun (record { before = u; run = r }) = record { lines = lines; may = may; turns = possible.0.0; moves = possible.0.1 } in
      let b = begins_own (record { before = u; run = r }) run begun.0 in (
        own_run (record { before = u; run = r }) _ refl run,
        own_runs (next ∷ others) (left_by_run width ends u r) (subst (λ l. IsWellFormed Good (left_if_begun width ends l s r.moves)) (sym begun.0) b.lines)
            (subst (λ l. LacksTheWord (left_if_begun width ends l s r.moves)) (sym begun.0) (rising_lack_the_word (left_if_begun width ends [] s r.moves) b.row))
            possible.1 begun.1,
      )

  -- Runs of which few are killed.

  -- where what is in flight is `IsShortOfTheWord` for the `n` runs killed in a row before, so is what one more possible run leaves, by what
  -- it leaves of its word (`left`), as long as at most five in a row are killed
  short_after : (n : ℕ) (p : PlacedRun State) (left : List ℕ) → (begun_at ends p).left ≡ left → IsShortOfTheWord Good n p.before → MayRun p → killed_unless_begun left n ≤ 5
      → IsShortOfTheWord Good (killed_unless_begun left n) (left_if_begun width ends left (begun_at ends p) p.run.moves)
  short_after n p [] e short run few = let b = begins_own p run e in short_if_rising Good (left_if_begun width ends [] (begun_at ends p) p.run.moves) b.lines b.row
  short_after n p (asked ∷ rest) e short run few = short_counted n p.before p.run asked rest e run.turns short (nat_eq asked 6) refl few

  -- where what is in flight is `IsShortOfTheWord` for the `n` runs killed in a row before, and few in a row are killed (`AreFewKilled`):
  -- possible runs are their own, and so is short what they leave
  pub after_runs : (rs : List (Run State)) (n : ℕ) (u : UnderWay State) → IsShortOfTheWord Good n u → ArePossibleRuns width ends Good kept u rs → AreFewKilled width ends n u rs
      → AllByRecursion (IsOwnRun width ends Good kept) (placed_runs width ends u rs) × IsShortOfTheWord Good (killed_over width ends n u rs) (left_by_runs width ends u rs)
  after_runs [] n u short possible few = (tt, short)
  after_runs (r ∷ rs) n u short possible few =
      let run : MayRun (record { before = u; run = r }) = record { lines = short.lines; may = short_lacks_the_word Good n u short; turns = possible.0.0; moves = possible.0.1 } in
      let more = after_runs rs (killed_by ends n u r) (left_by_run width ends u r) (short_after n (record { before = u; run = r }) _ refl short run few.0) possible.1 few.1 in
      ((own_run (record { before = u; run = r }) _ refl run, more.0), more.1)

-- the laws: as long as fewer than six runs in a row are killed while they synchronize, the runs are their own, and the next one may begin
module _ {State : Type 0} (ends : Ends State) (Good : State → Type 0) (kept : State → Option KeptReply) (is : IsAnInstrument ends Good kept) where
  pub runs_are_their_own : RunsInARowAreOwn ends Good kept
  runs_are_their_own width narrow u lines row rs runs few =
      are_own width ends Good kept rs u (after_runs ends Good kept is width narrow rs 0 u (short_if_rising Good u lines row) (possible_runs width ends Good kept rs u runs) few).0

  pub next_may_begin : NextMayBegin ends Good kept
  next_may_begin width narrow u lines row rs runs few =
      short_lacks_the_word Good (killed_over width ends 0 u rs) (left_by_runs width ends u rs)
      (after_runs ends Good kept is width narrow rs 0 u (short_if_rising Good u lines row) (possible_runs width ends Good kept rs u runs) few).1
