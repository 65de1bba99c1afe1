-- The whole rows of bytes, which are all through their last line feed, and how many rows are whole in the first k bytes of the
-- lines of rows.
use Rattle.gc_files.proofs.Common.{◌≡◌, inl, inr, ℕ, zero, suc, ◌+◌, ◌-◌, ◌≤◌, ◌<◌, ◌==◌, true, false, List, [], ◌∷◌, ◌++◌, length, take, drop, refl, sym, ◌∙◌, ap, subst, arith, length-append, if◌then◌else◌, take-append-add, cases_Bool, cases_lt, append-nil, take_all, take-append-le, take-append-drop, has_feed, whole, row_line, row_lines, AreRows}

-- where a second text has no line feed, both texts together have one exactly where the first has
pub feed_front : (xs ys : List ℕ) → has_feed ys ≡ false → has_feed (xs ++ ys) ≡ has_feed xs
feed_front [] ys none = none
feed_front (b ∷ xs) ys none = elim (cases_Bool (b == 10)) [
  | inl e ↦ rw (e) refl
  | inr e ↦ rw (e) (feed_front xs ys none)
]

-- where a second text has a line feed, both texts together have one
pub feed_behind : (xs ys : List ℕ) → has_feed ys ≡ true → has_feed (xs ++ ys) ≡ true
feed_behind [] ys some = some
feed_behind (b ∷ xs) ys some = elim (cases_Bool (b == 10)) [
  | inl e ↦ rw (e) refl
  | inr e ↦ rw (e) (feed_behind xs ys some)
]

-- where two texts together have no line feed, the first has none
pub feed_first : (xs ys : List ℕ) → has_feed (xs ++ ys) ≡ false → has_feed xs ≡ false
feed_first [] ys none = refl
feed_first (b ∷ xs) ys none = elim (cases_Bool (b == 10)) [
  | inl e ↦ let clash : true ≡ false = subst (λ t. (if t then true else has_feed (xs ++ ys)) ≡ false) e none in rw (e) clash
  | inr e ↦ let rest : has_feed (xs ++ ys) ≡ false = subst (λ t. (if t then true else has_feed (xs ++ ys)) ≡ false) e none in rw (e) (feed_first xs ys rest)
]

-- a text without a line feed has no whole row
pub whole_none : (xs : List ℕ) → has_feed xs ≡ false → whole xs ≡ []
whole_none [] none = refl
whole_none (b ∷ xs) none = rw (none) refl

-- where a second text has a line feed, the whole rows of both together are the first text and the whole rows of the second
pub whole_behind : (xs ys : List ℕ) → has_feed ys ≡ true → whole (xs ++ ys) ≡ xs ++ whole ys
whole_behind [] ys some = refl
whole_behind (b ∷ xs) ys some = rw (feed_behind (b ∷ xs) ys some) (ap (λ (l : List ℕ). b ∷ l) (whole_behind xs ys some))

-- where a second text has no line feed, both texts together have the whole rows of the first
pub whole_front : (xs ys : List ℕ) → has_feed ys ≡ false → whole (xs ++ ys) ≡ whole xs
whole_front [] ys none = whole_none ys none
whole_front (b ∷ xs) ys none = rw (feed_front (b ∷ xs) ys none, whole_front xs ys none) refl

-- bytes are their whole rows and, after these, `torn`, which has no line feed
pub record Torn (xs : List ℕ) : Type 0 where
  pub torn : List ℕ
  pub none : has_feed torn ≡ false
  pub split : xs ≡ whole xs ++ torn

-- bytes are their whole rows and, after these, bytes without a line feed (`Torn`)
pub whole_and_torn : (xs : List ℕ) → Torn xs
whole_and_torn [] = record { torn = []; none = refl; split = refl }
whole_and_torn (b ∷ xs) = elim (cases_Bool (has_feed (b ∷ xs))) [
  | inl e ↦
      let rest = whole_and_torn xs in
      let is : whole (b ∷ xs) ≡ b ∷ whole xs = rw (e) refl in
      record { torn = rest.torn; none = rest.none; split = ap (λ (l : List ℕ). b ∷ l) rest.split ∙ ap (λ (l : List ℕ). l ++ rest.torn) (sym is) }
  | inr e ↦
      let is : whole (b ∷ xs) ≡ [] = whole_none (b ∷ xs) e in
      record { torn = b ∷ xs; none = e; split = ap (λ (l : List ℕ). l ++ (b ∷ xs)) (sym is) }
]

-- whole rows have nothing after their last line feed: their whole rows are all of them
pub whole_whole : (xs : List ℕ) → whole (whole xs) ≡ whole xs
whole_whole xs =
    let t = whole_and_torn xs in
    sym (ap whole t.split ∙ whole_front (whole xs) t.torn t.none)

-- where `xs` are whole rows and nothing else, the whole rows of `xs ++ ys` are `xs` and then the whole rows of `ys`
pub whole_more : (xs ys : List ℕ) → whole xs ≡ xs → whole (xs ++ ys) ≡ xs ++ whole ys
whole_more xs ys is = elim (cases_Bool (has_feed ys)) [
  | inl some ↦ whole_behind xs ys some
  | inr none ↦ whole_front xs ys none ∙ is ∙ sym (ap (λ (l : List ℕ). xs ++ l) (whole_none ys none) ∙ append-nil xs)
]

-- the line of a row is whole
pub whole_line : (row : List ℕ) → whole (row_line row) ≡ row_line row
whole_line row = whole_behind row (10 ∷ []) refl

-- where the whole rows have no more than k bytes, the first k bytes have the same whole rows as all bytes
pub whole_take : (xs : List ℕ) (k : ℕ) → length (whole xs) ≤ k → whole (take k xs) ≡ whole xs
whole_take xs k far =
    let t = whole_and_torn xs in
    let more : k ≡ length (whole xs) + (k - length (whole xs)) = omega (arith, far) in
    let at : take k xs ≡ whole xs ++ take (k - length (whole xs)) t.torn =
    ap (take k) t.split ∙ ap (λ n. take n (whole xs ++ t.torn)) more ∙ take-append-add (whole xs) t.torn (k - length (whole xs)) in
    let none : has_feed (take (k - length (whole xs)) t.torn) ≡ false =
    feed_first (take (k - length (whole xs)) t.torn) (drop (k - length (whole xs)) t.torn) (ap has_feed (take-append-drop (k - length (whole xs)) t.torn) ∙ t.none) in
    ap whole at ∙ whole_front (whole xs) (take (k - length (whole xs)) t.torn) none ∙ whole_whole xs

-- what is whole in the first k bytes of the lines of rows is the lines of the first `count` rows, and all rows that end within
-- k bytes are among these
pub record Within (rows : List (List ℕ)) (k : ℕ) : Type 0 where
  pub count : ℕ
  pub few : count ≤ length rows
  pub is : whole (take k (row_lines rows)) ≡ row_lines (take count rows)
  pub least : (m : ℕ) → m ≤ length rows → length (row_lines (take m rows)) ≤ k → m ≤ count

-- the line of a row has one byte more than the row
length-line : (row : List ℕ) → length (row_line row) ≡ suc (length row)
length-line row = length-append row (10 ∷ []) ∙ omega arith

-- where k bytes are fewer than the first row's line has, no row ends within them
none_ends_within : (row : List ℕ) (rows : List (List ℕ)) (k : ℕ) → k < length (row_line row)
    → (m : ℕ) → length (row_lines (take m (row ∷ rows))) ≤ k → m ≤ 0
none_ends_within row rows k less zero le = omega arith
none_ends_within row rows k less (suc m) le = absurd (omega (arith, less, le, length-append (row_line row) (row_lines (take m rows))))

-- for each k it can be said how many rows are whole in the first k bytes of their lines (`Within`)
pub whole_rows_within : (rows : List (List ℕ)) (k : ℕ) → AreRows rows → Within rows k
whole_rows_within [] k are = record { count = 0; few = omega arith; is = ap whole (take_all k [] (omega arith)); least = λ m few le. few }
whole_rows_within (row ∷ rows) k are = elim (cases_lt k (length (row_line row))) [
  | inl less ↦
      let inside : k ≤ length row = omega (arith, less, length-line row) in
      let at : take k (row_lines (row ∷ rows)) ≡ take k row =
      take-append-le k (row_line row) (row_lines rows) (omega (arith, less)) ∙ take-append-le k row (10 ∷ []) inside in
      let none : has_feed (take k row) ≡ false = feed_first (take k row) (drop k row) (ap has_feed (take-append-drop k row) ∙ are.0) in
      record { count = 0; few = omega arith; is = ap whole at ∙ whole_none (take k row) none; least = λ m few le. none_ends_within row rows k less m le }
  | inr more ↦
      let rest = whole_rows_within rows (k - length (row_line row)) are.1 in
      let is_k : k ≡ length (row_line row) + (k - length (row_line row)) = omega (arith, more) in
      let at : take k (row_lines (row ∷ rows)) ≡ row_line row ++ take (k - length (row_line row)) (row_lines rows) =
      ap (λ n. take n (row_lines (row ∷ rows))) is_k ∙ take-append-add (row_line row) (row_lines rows) (k - length (row_line row)) in
      record {
        count = suc rest.count;
        few = omega (arith, rest.few);
        is = ap whole at ∙ whole_more (row_line row) (take (k - length (row_line row)) (row_lines rows)) (whole_line row) ∙ ap (λ (l : List ℕ). row_line row ++ l) rest.is;
        least = least_more row rows k rest.count rest.least;
      }
]
  where
    -- where `count` is at least the number of the later rows that end within the bytes that the first row's line leaves of k,
    -- `count + 1` is at least the number of all rows that end within k bytes
    least_more : (row : List ℕ) (rows : List (List ℕ)) (k count : ℕ)
        → ((m : ℕ) → m ≤ length rows → length (row_lines (take m rows)) ≤ k - length (row_line row) → m ≤ count)
        → (m : ℕ) → m ≤ length (row ∷ rows) → length (row_lines (take m (row ∷ rows))) ≤ k → m ≤ suc count
    least_more row rows k count least zero few le = omega arith
    least_more row rows k count least (suc m) few le =
        let one : m ≤ count = least m (omega (arith, few)) (omega (arith, le, length-append (row_line row) (row_lines (take m rows)))) in
        omega (arith, one)
