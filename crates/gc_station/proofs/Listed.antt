-- Whether a command of an attempt ended as the rule of its chain names, by the ends that records have: `listed` of a model is
-- what its records say.
use Rattle.gc_station.proofs.Common.{◌≡◌, ◌⊎◌, inl, inr, ℕ, zero, suc, ◌<◌, ◌||◌, Bool, true, false, List, [], ◌∷◌, ◌++◌, Option, None, if◌then◌else◌, nat_eq, refl, sym, ap, ◌∙◌, subst, arith, AllByRecursion, or_right, eqb-true, eqb-false, same_Some, Answer, Reading, Asked, repeats_after, has_code, End, Answered, Unreadable, Judged, Skipped, NoValue, Missed, line_of, as_zero, Again, Expected, Quality, Task, Turn, every_behind, code_in, code_of, end_of, answer_as, expected_at, expected_of_setup, Record, code_of_end, is_listed, HasListed, BeginNoAttempt, HasItsTurn, Reads}
use Rattle.gc_texts.specs.Prelude.{Late, Lost}
use Rattle.gc_station.proofs.InCycle.{or_first}
use Rattle.gc_station.proofs.Meets.{answer_line}
use Rattle.gc_client.specs.Rule

-- Which ends a rule names.

-- if the reply `line` ends a command as answered, the line l of that end is `line`
answered_line : (expected : Expected) (x zeroed : Reading) (q : Quality) (line l : List ℕ) (said : Option Answer) → answer_as expected x zeroed line ≡ Answered q said l → line ≡ l
answered_line expected x zeroed q line l said e = same_Some line l (sym (answer_line expected x zeroed line) ∙ ap line_of e)

-- if a request ended as answered by the line l, the code of its outcome is the code in that line
pub code_is_in_line : (reads : Reads) (expected : Expected) (call : Asked) (outcome : Rule.Outcome) (q : Quality) (said : Option Answer) (l : List ℕ)
    → end_of reads expected call outcome ≡ Answered q said l → code_of reads call outcome ≡ code_in (reads None call l)
code_is_in_line reads expected call (Rule.Answered line) q said l e = ap (λ k. code_in (reads None call k)) (answered_line expected (reads expected.form call line) (reads expected.form call (as_zero line)) q line l said e)
code_is_in_line reads expected call Rule.Late q said l e = cc
code_is_in_line reads expected call Rule.Lost q said l e = cc

-- whether a rule names an end is the same with the code `code` as with the code that the end's line has, if an answered end has
-- that code in its line
pub named_by : (reads : Reads) (again : Again) (call : Asked) (code : Option ℕ) (end : End)
    → ((q : Quality) (said : Option Answer) (l : List ℕ) → end ≡ Answered q said l → code ≡ code_in (reads None call l))
    → repeats_after again code end ≡ repeats_after again (code_of_end reads call end) end
named_by reads again call code (Answered q said l) is = ap (has_code again.codes) (is q said l refl)
named_by reads again call code (Unreadable line fault) is = refl
named_by reads again call code (Judged judgement line) is = refl
named_by reads again call code Late is = refl
named_by reads again call code Lost is = refl
named_by reads again call code Skipped is = refl
named_by reads again call code NoValue is = refl
named_by reads again call code Missed is = refl

-- What records list.

-- whether a command of the last attempt among these records ended as its rule names, where a record with link 0 begins an
-- attempt. b says whether one had before these records, and counts as long as none of them begins an attempt; so it is b if there
-- are no records
abbrev pub any_listed : Reads → List Task → (b : Bool) → List Record → Bool
any_listed reads commands b [] = b
any_listed reads commands b (r ∷ rs) = any_listed reads commands ((if nat_eq r.turn.link 0 then false else b) || is_listed reads commands r) rs

-- `any_listed` of two lists of records, one after the other, is that of the second, from that of the first on
pub any_append : (reads : Reads) (commands : List Task) (xs ys : List Record) (b : Bool)
    → any_listed reads commands b (xs ++ ys) ≡ any_listed reads commands (any_listed reads commands b xs) ys
any_append reads commands [] ys b = refl
any_append reads commands (x ∷ xs) ys b = any_append reads commands xs ys ((if nat_eq x.turn.link 0 then false else b) || is_listed reads commands x)

-- if `any_listed` holds of records, one of them ended as its rule names, with no attempt begun after it (`HasListed`); or b is
-- true, and none of them begins an attempt
listed_or_before : (reads : Reads) (commands : List Task) (rs : List Record) (b : Bool) → any_listed reads commands b rs ≡ true
    → ((b ≡ true) × BeginNoAttempt rs) ⊎ HasListed reads commands rs
listed_or_before reads commands [] b e = inl (e, tt)
listed_or_before reads commands (r ∷ rs) b e = by_rest (listed_or_before reads commands rs ((if nat_eq r.turn.link 0 then false else b) || is_listed reads commands r) e) where
  -- the lemma above for the first record, by its tests
  by_tests : (first listed : Bool) → nat_eq r.turn.link 0 ≡ first → is_listed reads commands r ≡ listed → ((if first then false else b) || listed) ≡ true → BeginNoAttempt rs
      → ((b ≡ true) × BeginNoAttempt (r ∷ rs)) ⊎ HasListed reads commands (r ∷ rs)
  by_tests first true t l is all = inr (record { front = []; one = r; behind = rs; order = refl; listed = l; same = all })
  by_tests true false t l is all = cc
  by_tests false false t l is all = inl (or_first b false is refl, ((λ some. eqb-false r.turn.link 0 t), all))

  -- `listed_or_before` by what it gives for the records after the first
  by_rest : ((((if nat_eq r.turn.link 0 then false else b) || is_listed reads commands r) ≡ true) × BeginNoAttempt rs) ⊎ HasListed reads commands rs
      → ((b ≡ true) × BeginNoAttempt (r ∷ rs)) ⊎ HasListed reads commands (r ∷ rs)
  by_rest (inl it) = by_tests (nat_eq r.turn.link 0) (is_listed reads commands r) refl refl it.0 it.1
  by_rest (inr h) = inr (record { front = r ∷ h.front; one = h.one; behind = h.behind; order = ap (λ xs. r ∷ xs) h.order; listed = h.listed; same = h.same })

-- if `any_listed` holds of records, with none before them, one of them ended as its rule names, with no attempt begun after it
-- (`HasListed`)
pub has_if_listed : (reads : Reads) (commands : List Task) (rs : List Record) → any_listed reads commands false rs ≡ true → HasListed reads commands rs
has_if_listed reads commands rs e = by_case (listed_or_before reads commands rs false e) where
  -- the lemma above, of which one case can't be
  by_case : ((false ≡ true) × BeginNoAttempt rs) ⊎ HasListed reads commands rs → HasListed reads commands rs
  by_case (inl it) = cc
  by_case (inr h) = h

-- what is expected of a command's answer, of which the text says this; if it is of the setup (`is_setup`), in this attempt
abbrev pub expected_as : (is_setup : Bool) → (attempt : ℕ) → Expected → Expected
expected_as is_setup attempt expected = if is_setup then expected_of_setup attempt expected else expected

-- a number that isn't equal to 0 is above it
above_zero : (n : ℕ) → nat_eq n 0 ≡ false → 0 < n
above_zero zero e = cc
above_zero (suc n) e = omega arith

-- a record with link 0 that has its turn is of a command of a cycle: one of the setup has link 1
is_of_cycle : (commands : List Task) (r : Record) → HasItsTurn commands r → r.turn.link ≡ 0 → 0 < r.cycle
is_of_cycle commands r its first = by_cycle (nat_eq r.cycle 0) refl where
  -- the lemma above, whether the record is of the setup
  by_cycle : (is_setup : Bool) → nat_eq r.cycle 0 ≡ is_setup → 0 < r.cycle
  by_cycle true e =
      let turn : r.turn ≡ (expected_as true r.turn.attempt (expected_at commands r.place)).turn =
      subst (λ (b : Bool). r.turn ≡ (expected_as b r.turn.attempt (expected_at commands r.place)).turn) e its in
      let link : r.turn.link ≡ 1 = ap (λ (t : Turn). t.link) turn in
      absurd (omega (arith, link, first))
  by_cycle false e = above_zero r.cycle e

-- `any_listed` stays true over records that begin no attempt, and have their turns
stays_listed : (reads : Reads) (commands : List Task) (rs : List Record) → AllByRecursion (HasItsTurn commands) rs → BeginNoAttempt rs → any_listed reads commands true rs ≡ true
stays_listed reads commands [] its all = refl
stays_listed reads commands (r ∷ rs) its all = by_test (λ b. stays_listed reads commands rs its.1 all.1) (nat_eq r.turn.link 0) refl where
  -- the lemma above, whether the first record begins an attempt
  by_test : (Bool → any_listed reads commands true rs ≡ true) → (first : Bool) → nat_eq r.turn.link 0 ≡ first
      → any_listed reads commands ((if first then false else true) || is_listed reads commands r) rs ≡ true
  by_test ih true t = let first = eqb-true r.turn.link 0 t in absurd (all.0 (is_of_cycle commands r its.0 first) first)
  by_test ih false t = ih true

-- if one of the records ended as its rule names, and no attempt begins after it, `any_listed` holds of all, which have their
-- turns
pub listed_if_has : (reads : Reads) (commands : List Task) (rs : List Record) (b : Bool) → AllByRecursion (HasItsTurn commands) rs → HasListed reads commands rs
    → any_listed reads commands b rs ≡ true
listed_if_has reads commands rs b its h =
    let behind = every_behind (HasItsTurn commands) h.front (h.one ∷ h.behind) (subst (AllByRecursion (HasItsTurn commands)) h.order its) in
    ap (any_listed reads commands b) h.order ∙ any_append reads commands h.front (h.one ∷ h.behind) b
    ∙ ap (λ x. any_listed reads commands ((if nat_eq h.one.turn.link 0 then false else any_listed reads commands b h.front) || x) h.behind) h.listed
    ∙ ap (λ x. any_listed reads commands x h.behind) (or_right (if nat_eq h.one.turn.link 0 then false else any_listed reads commands b h.front) true refl)
    ∙ stays_listed reads commands h.behind behind.1 h.same

-- the target's place in `expected_as` is that of the command
pub near_expected : (is_setup : Bool) (attempt : ℕ) (expected : Expected) → (expected_as is_setup attempt expected).near ≡ expected.near
near_expected true attempt expected = refl
near_expected false attempt expected = refl

-- the accepted return codes in `expected_as` are those of the command
pub accepted_expected : (is_setup : Bool) (attempt : ℕ) (expected : Expected) → (expected_as is_setup attempt expected).accepted ≡ expected.accepted
accepted_expected true attempt expected = refl
accepted_expected false attempt expected = refl

-- the form in `expected_as` is that of the command
pub form_expected : (is_setup : Bool) (attempt : ℕ) (expected : Expected) → (expected_as is_setup attempt expected).form ≡ expected.form
form_expected true attempt expected = refl
form_expected false attempt expected = refl

-- in either case it is of the same sending
pub twice_expected : (is_setup : Bool) (attempt : ℕ) (expected : Expected) → (expected_as is_setup attempt expected).twice ≡ expected.twice
twice_expected true attempt expected = refl
twice_expected false attempt expected = refl
