-- The time that is lost behind raw commands of a setup is their number times that of each, unless it is cut.
use Rattle.gc_measuring.proofs.Common.{◌≡◌, ℕ, zero, suc, ◌+◌, ◌-◌, ◌*◌, ◌≤◌, ◌&&◌, Bool, true, false, not, if◌then◌else◌, List, [], ◌∷◌, take, nat_lt, nat_le, min, refl, ap, ◌∙◌, arith, lt-ltb, is_of_table, Task, raw_count, lost_by}
use Rattle.std.proofs.lemmas.Bool.{leb-true, leb-false}
use native.Mathlib.Nat.{suc-mul}

-- the time behind these tasks is `lost`, and `time` for each raw one of the first `left`; at most `most`
pub lost_is : (tasks : List Task) (lost left time : ℕ) → lost ≤ 18446744073709551615 → lost_by lost left time tasks ≡ min (lost + raw_count (take left tasks) * time) 18446744073709551615
lost_is [] lost zero time few = omega (arith, few)
lost_is [] lost (suc left) time few = omega (arith, few)
lost_is (task ∷ others) lost zero time few =
    let on = lost_is others (min (lost + 0) 18446744073709551615) 0 time (omega arith) in on ∙ omega (arith, few)
lost_is (task ∷ others) lost (suc left) time few = by_test (λ n few. lost_is others n left time few) (is_of_table task.command.call) refl where
  -- the time behind the first task
  now : ℕ
  now = if nat_lt 0 (suc left) && not (is_of_table task.command.call) then time else 0

  -- it counts
  first : now ≡ (if not (is_of_table task.command.call) then time else 0)
  first = ap (λ (b : Bool). if b && not (is_of_table task.command.call) then time else 0) (lt-ltb 0 (suc left) (omega arith))

  -- the time behind the others
  next : ((n : ℕ) → n ≤ 18446744073709551615 → lost_by n left time others ≡ min (n + raw_count (take left others) * time) 18446744073709551615)
      → lost_by lost (suc left) time (task ∷ others) ≡ min (min (lost + now) 18446744073709551615 + raw_count (take left others) * time) 18446744073709551615
  next on =
      let one : suc left - 1 ≡ left = omega arith in
      ap (λ (n : ℕ). lost_by (min (lost + now) 18446744073709551615) n time others) one ∙ on (min (lost + now) 18446744073709551615) (omega arith)

  -- the lemma above, whether the first task asks for a call of the table
  by_test : ((n : ℕ) → n ≤ 18446744073709551615 → lost_by n left time others ≡ min (n + raw_count (take left others) * time) 18446744073709551615)
      → (b : Bool) → is_of_table task.command.call ≡ b → lost_by lost (suc left) time (task ∷ others) ≡ min (lost + raw_count (take (suc left) (task ∷ others)) * time) 18446744073709551615
  by_test on true e =
      let start : now ≡ 0 = first ∙ ap (λ (b : Bool). if not b then time else 0) e in
      let count : raw_count (take (suc left) (task ∷ others)) ≡ 0 + raw_count (take left others) =
      ap (λ (b : Bool). (if b then 0 else 1) + raw_count (take left others)) e in
      let none : 0 + raw_count (take left others) ≡ raw_count (take left others) = omega arith in
      let times = ap (λ (n : ℕ). n * time) (count ∙ none) in
      next on ∙ omega (arith, start, times, few)
  by_test on false e =
      let start : now ≡ time = first ∙ ap (λ (b : Bool). if not b then time else 0) e in
      let count : raw_count (take (suc left) (task ∷ others)) ≡ 1 + raw_count (take left others) =
      ap (λ (b : Bool). (if b then 0 else 1) + raw_count (take left others)) e in
      let one : 1 + raw_count (take left others) ≡ suc (raw_count (take left others)) = omega arith in
      let times = ap (λ (n : ℕ). n * time) (count ∙ one) in
      let more = suc-mul (raw_count (take left others)) time in
      next on ∙ omega (arith, start, times, more, few)

-- the same where nothing was lost before them
pub lost_from_none : (tasks : List Task) (left time : ℕ) → lost_by 0 left time tasks ≡ min (raw_count (take left tasks) * time) 18446744073709551615
lost_from_none tasks left time = lost_is tasks 0 left time (omega arith) ∙ none (raw_count (take left tasks) * time) where
  -- nothing is added
  none : (x : ℕ) → min (0 + x) 18446744073709551615 ≡ min x 18446744073709551615
  none x = omega arith

-- a product of which a factor is cut is cut as the product is
cut_times : (n x most : ℕ) → min (n * min x most) most ≡ min (n * x) most
cut_times zero x most = omega arith
cut_times (suc n) x most = by_test (nat_le x most) refl where
  -- the lemma above, whether the factor is cut
  by_test : (b : Bool) → nat_le x most ≡ b → min (suc n * min x most) most ≡ min (suc n * x) most
  by_test true e = let low = leb-true x most e in let same : min x most ≡ x = omega (arith, low) in ap (λ (y : ℕ). min (suc n * y) most) same
  by_test false e =
      let high = leb-false x most e in
      let same : min x most ≡ most = omega (arith, high) in
      let a = suc-mul n most in
      let b = suc-mul n x in
      ap (λ (y : ℕ). min (suc n * y) most) same ∙ omega (arith, high, a, b)

-- the bound of a row: of a plan with these periods and a setup of n commands, `raws` of which are raw
pub row_is : (periods n longest call raws most : ℕ) (plain time lost : ℕ) → plain ≡ min (periods + (1 + n) * longest + call) most → time ≡ min (7 * (longest + call)) most → lost ≡ min (raws * time) most
    → min (plain + lost) most ≡ min ((periods + (1 + n) * longest + raws * (7 * (longest + call))) + call + 0) most
row_is periods n longest call raws most plain time lost p t l =
    let all : lost ≡ min (raws * (7 * (longest + call))) most = l ∙ ap (λ (x : ℕ). min (raws * x) most) t ∙ cut_times raws (7 * (longest + call)) most in
    sums (periods + (1 + n) * longest) (raws * (7 * (longest + call))) p all where
      -- the sum, by its parts
      sums : (a b : ℕ) → plain ≡ min (a + call) most → lost ≡ min b most → min (plain + lost) most ≡ min ((a + b) + call + 0) most
      sums a b p all = omega (arith, p, all)
