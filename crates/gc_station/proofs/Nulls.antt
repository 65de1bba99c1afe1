-- How many null procedures may still be sent before the next command has its turn: those after the last command are at most seven, and
-- no line makes them fewer unless that command is settled (`nulls_left`).
use Rattle.gc_station.proofs.Common.{◌≡◌, ℕ, zero, suc, ◌+◌, ◌*◌, ◌-◌, ◌<◌, ◌≤◌, ◌||◌, Bool, true, false, if◌then◌else◌, List, [], ◌∷◌, ◌++◌, length, map, drop, Option, Some, None, nat_lt, nat_le, nat_eq, refl, sym, ap, ◌∙◌, subst, arith, slice_get, both_ways, cond_both, eqb-true, nat_tests, is_of_table, Asked, of_pending, Wanted, hears, heard, settles_at, fits, place_in, settle, expired, Pending, WINDOW, length-settle, Task, is_reply, ends_with_table, is_some_of_table, has_begun, commands_in, Model, line_came, line_doubted, line_settles, MarksAsk, Mark, Progress}
use Rattle.std.proofs.Common.{length-drop}
use Rattle.gc_station.proofs.Records.{commands-append}

-- The null procedures after the last command.

-- how many of these marks come after the last one of a command: they are of null procedures
abbrev pub tail_nulls : List (Option Mark) → ℕ
tail_nulls [] = 0
tail_nulls (None ∷ marks) = if nat_eq (commands_in marks) 0 then suc (length marks) else tail_nulls marks
tail_nulls (Some mark ∷ marks) = tail_nulls marks

-- a number is 0 by its test
zero_by_test : (n : ℕ) → n ≡ 0 → nat_eq n 0 ≡ true
zero_by_test n e = grind (arith, nat_tests, e)

-- a number above 0 isn't 0 by its test
some_by_test : (n : ℕ) → 0 < n → nat_eq n 0 ≡ false
some_by_test n e = grind (arith, nat_tests, e)

-- without commands all marks are of null procedures
all_nulls : (marks : List (Option Mark)) → commands_in marks ≡ 0 → tail_nulls marks ≡ length marks
all_nulls [] none = refl
all_nulls (None ∷ marks) none = ap (λ (b : Bool). if b then suc (length marks) else tail_nulls marks) (zero_by_test (commands_in marks) none)
all_nulls (Some mark ∷ marks) none = absurd (omega (arith, none))

-- of marks of which some are of commands, a first one of a null procedure doesn't count
nulls_behind : (mark : Option Mark) (marks : List (Option Mark)) → 0 < commands_in marks → tail_nulls (mark ∷ marks) ≡ tail_nulls marks
nulls_behind None marks some = ap (λ (b : Bool). if b then suc (length marks) else tail_nulls marks) (some_by_test (commands_in marks) some)
nulls_behind (Some mark) marks some = refl

-- at most all marks are
pub nulls_within : (marks : List (Option Mark)) → tail_nulls marks ≤ length marks
nulls_within [] = omega arith
nulls_within (None ∷ marks) =
    let rest = nulls_within marks in
    cond_both (nat_eq (commands_in marks) 0) (suc (length marks)) (tail_nulls marks) (λ (n : ℕ). n ≤ suc (length marks)) (λ e. omega arith) (λ e. omega (arith, rest))
nulls_within (Some mark ∷ marks) = let rest = nulls_within marks in omega (arith, rest)

-- one more null procedure counts
pub nulls_more : (marks : List (Option Mark)) → tail_nulls (marks ++ None ∷ []) ≡ suc (tail_nulls marks)
nulls_more [] = refl
nulls_more (Some mark ∷ marks) = nulls_more marks
nulls_more (None ∷ marks) = by_test (nulls_more marks) (nat_eq (commands_in marks) 0) refl where
  -- the lemma above, whether commands come after the first mark
  by_test : tail_nulls (marks ++ None ∷ []) ≡ suc (tail_nulls marks) → (b : Bool) → nat_eq (commands_in marks) 0 ≡ b → tail_nulls (None ∷ (marks ++ None ∷ [])) ≡ suc (tail_nulls (None ∷ marks))
  by_test rest true e =
      let more = commands-append marks (None ∷ []) in
      let none : commands_in marks ≡ 0 = eqb-true (commands_in marks) 0 e in
      let all : commands_in (None ∷ (marks ++ None ∷ [])) ≡ 0 = omega (arith, more, none) in
      all_nulls (None ∷ (marks ++ None ∷ [])) all ∙ ap suc (sym (all_nulls (marks ++ None ∷ []) all) ∙ rest ∙ ap suc (all_nulls marks none))
      ∙ ap suc (sym (all_nulls (None ∷ marks) none))
  by_test rest false e =
      let more = commands-append marks (None ∷ []) in
      let some : 0 < commands_in marks = grind (arith, nat_tests, e) in
      nulls_behind None (marks ++ None ∷ []) (omega (arith, more, some)) ∙ rest ∙ ap suc (sym (nulls_behind None marks some))

-- of the marks after the first ones, as many, if some of them are of commands; and some of all are then
nulls_dropped : (n : ℕ) (marks : List (Option Mark)) → 0 < commands_in (drop n marks) → (tail_nulls (drop n marks) ≡ tail_nulls marks) × (0 < commands_in marks)
nulls_dropped zero marks some = (refl, some)
nulls_dropped (suc n) [] some = absurd (omega (arith, some))
nulls_dropped (suc n) (None ∷ marks) some = let it = nulls_dropped n marks some in (it.0 ∙ sym (nulls_behind None marks it.1), it.1)
nulls_dropped (suc n) (Some mark ∷ marks) some = let it = nulls_dropped n marks some in (it.0, omega arith)

-- outstanding requests without a command are calls of the table
abbrev pub NullsAreOfTable : List (Option Mark) → List (Pending Asked) → Type 0
NullsAreOfTable [] qs = Unit {0}
NullsAreOfTable (mark ∷ marks) [] = Unit {0}
NullsAreOfTable (None ∷ marks) (q ∷ qs) = (is_of_table q.call ≡ true) × NullsAreOfTable marks qs
NullsAreOfTable (Some mark ∷ marks) (q ∷ qs) = NullsAreOfTable marks qs

-- it is so where each request asks what its mark says
pub nulls_of_table : (commands : List Task) (marks : List (Option Mark)) (qs : List (Pending Asked)) → MarksAsk commands marks (map of_pending qs) → NullsAreOfTable marks qs
nulls_of_table commands [] qs h = tt
nulls_of_table commands (mark ∷ marks) [] h = tt
nulls_of_table commands (None ∷ marks) (q ∷ qs) h = (ap (λ (a : Wanted Asked). is_of_table a.call) h.0, nulls_of_table commands marks qs h.1)
nulls_of_table commands (Some mark ∷ marks) (q ∷ qs) h = nulls_of_table commands marks qs h.1

-- it stays so of the requests after the first ones
nulls_kept : (n : ℕ) (marks : List (Option Mark)) (qs : List (Pending Asked)) → NullsAreOfTable marks qs → NullsAreOfTable (drop n marks) (drop n qs)
nulls_kept zero marks qs h = h
nulls_kept (suc n) [] qs h = tt
nulls_kept (suc n) (mark ∷ marks) [] h = none (drop n marks) where
  -- without requests nothing is claimed
  none : (ms : List (Option Mark)) → NullsAreOfTable ms []
  none [] = tt
  none (m ∷ ms) = tt
nulls_kept (suc n) (None ∷ marks) (q ∷ qs) h = nulls_kept n marks qs h.1
nulls_kept (suc n) (Some mark ∷ marks) (q ∷ qs) h = nulls_kept n marks qs h

-- and once requests may have timed out
pub nulls_expired : (now : ℕ) (marks : List (Option Mark)) (qs : List (Pending Asked)) → NullsAreOfTable marks qs → NullsAreOfTable marks (map (expired now) qs)
nulls_expired now [] qs h = tt
nulls_expired now (mark ∷ marks) [] h = tt
nulls_expired now (None ∷ marks) (q ∷ qs) h = (h.0, nulls_expired now marks qs h.1)
nulls_expired now (Some mark ∷ marks) (q ∷ qs) h = nulls_expired now marks qs h

-- if a line settles the requests up to the one at place k, which isn't a call of the table, and no command is left after it, that was the
-- last command, and as many null procedures come after it as are left
raw_was_last : (line : List ℕ) (k : ℕ) (marks : List (Option Mark)) (qs : List (Pending Asked)) → NullsAreOfTable marks qs → length marks ≡ length qs → k < length qs
    → commands_in (drop (suc k) marks) ≡ 0 → is_some_of_table (slice_get (settle k line qs) k) ≡ false → (tail_nulls marks ≡ length (drop (suc k) marks)) × (0 < commands_in marks)
raw_was_last line k [] qs h same below none raw = absurd (omega (arith, same, below))
raw_was_last line k (m ∷ marks) [] h same below none raw = absurd (omega (arith, below))
raw_was_last line zero (None ∷ marks) (q ∷ qs) h same below none raw = absurd (both_ways (is_of_table q.call) raw h.0)
raw_was_last line zero (Some mark ∷ marks) (q ∷ qs) h same below none raw = (all_nulls marks none, omega arith)
raw_was_last line (suc k) (None ∷ marks) (q ∷ qs) h same below none raw =
    let it = raw_was_last line k marks qs h.1 (omega (arith, same)) (omega (arith, below)) none raw in (nulls_behind None marks it.1 ∙ it.0, it.1)
raw_was_last line (suc k) (Some mark ∷ marks) (q ∷ qs) h same below none raw =
    let it = raw_was_last line k marks qs h (omega (arith, same)) (omega (arith, below)) none raw in (it.0, omega arith)

-- What may still be sent.

-- how many null procedures may still be sent before the next command has its turn: none, unless commands are outstanding, or none of the
-- last seven requests is a call of the table that a reply ended
abbrev pub nulls_left : (behind : ℕ) → List (Option Mark) → ℕ
nulls_left behind marks = if nat_lt 0 (commands_in marks) || nat_le WINDOW behind then WINDOW - tail_nulls marks else 0

-- how many requests may still be sent: eight for each command that is left of the cycle, and those null procedures
abbrev pub requests_left : Progress → List (Option Mark) → ℕ
requests_left p marks = 8 * p.unsent + nulls_left p.exchange.behind marks

-- how many null procedures may still be sent of the model `t` after an act: none while the station synchronizes, since a run whose end was
-- asked for ends there
abbrev pub nulls_after : Model → ℕ
nulls_after t = if has_begun t.progress then nulls_left t.progress.exchange.behind t.marks else 0

-- they are at most as many as if it had synchronized
pub nulls_after_most : (t : Model) → nulls_after t ≤ nulls_left t.progress.exchange.behind t.marks
nulls_after_most t =
    let n = nulls_left t.progress.exchange.behind t.marks in
    cond_both (has_begun t.progress) n 0 (λ (m : ℕ). m ≤ n) (λ e. omega arith) (λ e. omega arith)

-- and as many if it has
pub nulls_after_begun : (t : Model) → has_begun t.progress ≡ true → nulls_after t ≡ nulls_left t.progress.exchange.behind t.marks
nulls_after_begun t e = ap (λ (b : Bool). if b then nulls_left t.progress.exchange.behind t.marks else 0) e

-- at most seven null procedures are
pub nulls_few : (behind : ℕ) (marks : List (Option Mark)) → nulls_left behind marks ≤ 7
nulls_few behind marks = cond_both (nat_lt 0 (commands_in marks) || nat_le WINDOW behind) (7 - tail_nulls marks) 0 (λ (n : ℕ). n ≤ 7) (λ e. omega arith) (λ e. omega arith)

-- by the tests of `nulls_left`: what it is if commands are outstanding
pub nulls_if_some : (behind : ℕ) (marks : List (Option Mark)) → 0 < commands_in marks → nulls_left behind marks ≡ 7 - tail_nulls marks
nulls_if_some behind marks some =
    let there : nat_lt 0 (commands_in marks) ≡ true = grind (arith, nat_tests, some) in
    ap (λ (b : Bool). if b || nat_le WINDOW behind then 7 - tail_nulls marks else 0) there

-- what it is if none of the last seven requests is such a call
pub nulls_if_far : (behind : ℕ) (marks : List (Option Mark)) → 7 ≤ behind → nulls_left behind marks ≡ 7 - tail_nulls marks
nulls_if_far behind marks far = by_tests (nat_lt 0 (commands_in marks)) (nat_le WINDOW behind) (grind (arith, nat_tests, far)) where
  -- the lemma above, by the tests
  by_tests : (b c : Bool) → c ≡ true → (if b || c then 7 - tail_nulls marks else 0) ≡ 7 - tail_nulls marks
  by_tests true c e = refl
  by_tests false true e = refl
  by_tests false false e = cc

-- what it is if neither is so
nulls_if_neither : (behind : ℕ) (marks : List (Option Mark)) → commands_in marks ≡ 0 → behind < 7 → nulls_left behind marks ≡ 0
nulls_if_neither behind marks none near = by_tests (nat_lt 0 (commands_in marks)) (nat_le WINDOW behind) (grind (arith, nat_tests, none)) (grind (arith, nat_tests, near)) where
  -- the lemma above, by the tests
  by_tests : (b c : Bool) → b ≡ false → c ≡ false → (if b || c then 7 - tail_nulls marks else 0) ≡ 0
  by_tests false false e f = refl
  by_tests true c e f = cc
  by_tests false true e f = cc

-- Lines.

-- what is so of a model before and after a line: null procedures are calls of the table, marks and requests are one for one, at most
-- seven requests are outstanding, and at most `n` null procedures may still be sent
abbrev pub Listens : (n : ℕ) → Model → Type 0
Listens n x = NullsAreOfTable x.marks x.client.waiting × (length x.marks ≡ length x.client.waiting) × (length x.client.waiting ≤ 7) × (nulls_left x.progress.exchange.behind x.marks ≤ n)

-- a line that settles requests keeps it
some_heard : (n : ℕ) (x : Model) (line : List ℕ) (k : ℕ) → k < length x.client.waiting → Listens n x → Listens n (line_settles (is_reply line) (settles_at x.client line k true) x)
some_heard n x line k below h =
    let ws = x.client.waiting in
    let many = length-settle k line ws below in
    let e : length (settle k line ws) ≡ suc k = omega (arith, many) in
    let f : k + 1 ≡ suc k = omega arith in
    let left = length-drop (suc k) ws in
    let left' = length-drop (suc k) x.marks in
    let same = h.1 in
    let seven = h.2 in
    let few : length (drop (suc k) ws) ≤ 6 = omega (arith, left, below, seven) in
    let nulls : NullsAreOfTable (drop (suc k) x.marks) (drop (suc k) ws) = nulls_kept (suc k) x.marks ws h.0 in
    let paired : length (drop (suc k) x.marks) ≡ length (drop (suc k) ws) = omega (arith, left, left', same) in
    let at : length (settle k line ws) - 1 ≡ k = omega (arith, many) in
    let ends : ends_with_table (settle k line ws) ≡ is_some_of_table (slice_get (settle k line ws) k) = ap (λ n. is_some_of_table (slice_get (settle k line ws) n)) at in (
      subst (λ (i : ℕ). NullsAreOfTable (drop i x.marks) (drop (k + 1) ws)) (sym e) (subst (λ (j : ℕ). NullsAreOfTable (drop (suc k) x.marks) (drop j ws)) (sym f) nulls),
      subst (λ (i : ℕ). length (drop i x.marks) ≡ length (drop (k + 1) ws)) (sym e) (subst (λ (j : ℕ). length (drop (suc k) x.marks) ≡ length (drop j ws)) (sym f) paired),
      subst (λ (j : ℕ). length (drop j ws) ≤ 7) (sym f) (omega (arith, few)),
      subst (λ (i : ℕ). nulls_left (if ends_with_table (settle k line ws) then length (drop (k + 1) ws) else x.progress.exchange.behind) (drop i x.marks) ≤ n) (sym e)
          (subst (λ (j : ℕ). nulls_left (if ends_with_table (settle k line ws) then length (drop j ws) else x.progress.exchange.behind) (drop (suc k) x.marks) ≤ n) (sym f)
          (subst (λ (b : Bool). nulls_left (if b then length (drop (suc k) ws) else x.progress.exchange.behind) (drop (suc k) x.marks) ≤ n) (sym ends)
          (by_test few (is_some_of_table (slice_get (settle k line ws) k)) refl (nat_eq (commands_in (drop (suc k) x.marks)) 0) refl))),
    ) where
      -- the last part, whether the line is the reply to a call of the table, and whether commands are left
      by_test : length (drop (suc k) x.client.waiting) ≤ 6 → (b : Bool) → is_some_of_table (slice_get (settle k line x.client.waiting) k) ≡ b → (c : Bool) → nat_eq (commands_in (drop (suc k) x.marks)) 0 ≡ c
          → nulls_left (if b then length (drop (suc k) x.client.waiting) else x.progress.exchange.behind) (drop (suc k) x.marks) ≤ n
      by_test few b e false f =
          let some : 0 < commands_in (drop (suc k) x.marks) = grind (arith, nat_tests, f) in
          let it = nulls_dropped (suc k) x.marks some in
          let now = nulls_if_some (if b then length (drop (suc k) x.client.waiting) else x.progress.exchange.behind) (drop (suc k) x.marks) some in
          let was = nulls_if_some x.progress.exchange.behind x.marks it.1 in
          let same = it.0 in
          let most = h.3 in
          omega (arith, now, was, same, most)
      by_test few true e true f =
          let none = nulls_if_neither (length (drop (suc k) x.client.waiting)) (drop (suc k) x.marks) (eqb-true (commands_in (drop (suc k) x.marks)) 0 f) (omega (arith, few)) in
          omega (arith, none)
      by_test few false e true f = by_behind (nat_lt x.progress.exchange.behind 7) refl where
        -- no command is left
        none : commands_in (drop (suc k) x.marks) ≡ 0
        none = eqb-true (commands_in (drop (suc k) x.marks)) 0 f

        -- by whether a null procedure is wanted all the same
        by_behind : (b : Bool) → nat_lt x.progress.exchange.behind 7 ≡ b → nulls_left x.progress.exchange.behind (drop (suc k) x.marks) ≤ n
        by_behind true near = let zero = nulls_if_neither x.progress.exchange.behind (drop (suc k) x.marks) none (grind (arith, nat_tests, near)) in omega (arith, zero)
        by_behind false far =
            let it = raw_was_last line k x.marks x.client.waiting h.0 h.1 below none e in
            let all = all_nulls (drop (suc k) x.marks) none in
            let many : 7 ≤ x.progress.exchange.behind = grind (arith, nat_tests, far) in
            let now = nulls_if_far x.progress.exchange.behind (drop (suc k) x.marks) many in
            let was = nulls_if_far x.progress.exchange.behind x.marks many in
            let same = it.0 in
            let most = h.3 in
            omega (arith, now, was, same, all, most)

-- each line keeps it
pub line_heard : (n : ℕ) (x : Model) (line : List ℕ) → Listens n x → Listens n (line_came x line)
line_heard n x line h = by_id (heard line) where
  -- by the id of the line
  by_id : (o : Option ℕ) → Listens n (line_settles (is_reply line) (hears x.client line o) (line_doubted line x))
  by_id None = h
  by_id (Some id) = by_test (place_in x.client id) (fits x.client (Some id)) refl where
    -- whether a request has that id
    by_test : (k : ℕ) (b : Bool) → nat_lt k (length x.client.waiting) ≡ b → Listens n (line_settles (is_reply line) (settles_at x.client line k b) (line_doubted line x))
    by_test k true e = some_heard n (line_doubted line x) line k (grind (arith, nat_tests, e)) h
    by_test k false e = h
