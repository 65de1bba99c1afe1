-- A window in a ring of N places: n requests wait, the oldest at place k, the next at place k + 1, and after place N - 1
-- comes place 0.
use Rattle.gc_client.proofs.Common.{◌≡◌, ℕ, ◌+◌, ◌-◌, ◌%◌, ◌<◌, ◌≤◌, ◌⊎◌, List, [], ◌∷◌, ◌++◌, length, get_or, set, ap, ◌∙◌, ap₂, inl, inr, mod-eq_of_lt, arith, length-append, length-drop, length-set, length-take-le, get_or-drop, get_or-take, same_lists, drop_more, get_or_append_left, get_or-append_right, cases_lt, waiting_in}
use native.Mathlib.Nat.{mod-eq-sub-mod, mod-add-mod}
use Rattle.std.proofs.lemmas.Grind.{common_steps}

-- the remainder at N of a number below 2 N is the number itself if that is below N, and else N less
mod_wraps_once : (N j : ℕ) → j < N + N → ((j < N) × (j % N ≡ j)) ⊎ ((N ≤ j) × (j % N ≡ j - N))
mod_wraps_once N j below = elim (cases_lt j N) [
  | inl low ↦ inl (low, mod-eq_of_lt low)
  | inr high ↦ inr (high, mod-eq-sub-mod high ∙ mod-eq_of_lt (omega arith))
]

module _ {A : Type 0} (N k n : ℕ) (xs : List A) (start : k < N) (fits : n ≤ N) (length_xs : length xs ≡ N) where
  -- the window of n places has n requests
  pub length-waiting : length (waiting_in k n xs) ≡ n
  length-waiting = length-take-le n _ (simp (length-append, length-drop) (omega (arith, length-take-le k xs (omega arith))))

  -- the request that is i requests after the oldest is in place (k + i) % N
  pub get_or-waiting : (i : ℕ) (d : A) → i < n → get_or (waiting_in k n xs) i d ≡ get_or xs ((k + i) % N) d
  get_or-waiting i d in_range =
      let length_tail = length-drop k xs in
      get_or-take n _ i d in_range ∙ elim (mod_wraps_once N (k + i) (omega arith)) [
        | inl unwrapped ↦ get_or_append_left _ _ d i (omega arith) ∙ get_or-drop k xs i d ∙ ap (λ j. get_or xs j d) (omega arith)
        | inr wrapped ↦ get_or-append_right _ _ (N - k) i d (omega arith) (omega arith) ∙ get_or-take k xs _ d (omega arith) ∙ ap (λ j. get_or xs j d) (omega arith)
      ]

-- A second block, because these use the lemmas above at other windows.
module _ {A : Type 0} (N k n : ℕ) (xs : List A) (start : k < N) (fits : n ≤ N) (length_xs : length xs ≡ N) where
  -- where fewer than N requests wait, writing x in the place after theirs, (k + n) % N, appends x to them
  pub waiting_after_push : (x : A) → n < N → waiting_in k (n + 1) (set xs ((k + n) % N) x) ≡ waiting_in k n xs ++ x ∷ []
  waiting_after_push x has_room =
      let ys = set xs ((k + n) % N) x in
      let length_ys = length-set xs ((k + n) % N) x ∙ length_xs in
      let length_old = length-waiting N k n xs start fits length_xs in
      let length_new = length-waiting N k (n + 1) ys start (omega arith) length_ys in
      let written_place = mod_wraps_once N (k + n) (omega arith) in
      same_lists _ _ (grind (arith, common_steps)) (λ i d in_range. grind (
        arith,
        common_steps,
        mod_wraps_once N (k + i) (omega arith),
        get_or-waiting N k n xs start fits length_xs i d,
        get_or-waiting N k (n + 1) ys start (omega arith) length_ys i d,
      ))

  -- where at least one request waits, those that wait are the oldest, at place k, and then those of the window that begins one
  -- place further and has one fewer
  pub waiting_before_take : (d : A) → 0 < n → waiting_in k n xs ≡ get_or xs k d ∷ waiting_in ((k + 1) % N) (n - 1) xs
  waiting_before_take d nonempty =
      let next_in_range : (k + 1) % N < N = grind (arith, mod_wraps_once N (k + 1) (omega arith)) in
      let length_old = length-waiting N k n xs start fits length_xs in
      let length_new = length-waiting N ((k + 1) % N) (n - 1) xs next_in_range (omega arith) length_xs in
      let old_item = get_or-waiting N k n xs start fits length_xs in
      drop_more _ 0 d (omega arith) ∙ ap₂ ◌∷◌ (grind (arith, old_item 0 d, mod_wraps_once N k)) (same_lists _ _ (simp length-drop (omega arith)) (λ i e in_range. grind (
        arith,
        length-drop 1 (waiting_in k n xs),
        get_or-drop 1 (waiting_in k n xs) i e,
        mod-add-mod (k + 1) N i,
        old_item (1 + i) e,
        get_or-waiting N _ (n - 1) xs next_in_range (omega arith) length_xs i e,
      )))

  -- writing x in the place of the request that is i requests after the oldest replaces that request by x, and no other
  pub waiting_after_set : (i : ℕ) (x : A) → i < n → waiting_in k n (set xs ((k + i) % N) x) ≡ set (waiting_in k n xs) i x
  waiting_after_set i x in_range =
      let ys = set xs ((k + i) % N) x in
      let length_ys = length-set xs ((k + i) % N) x ∙ length_xs in
      let length_old = length-waiting N k n xs start fits length_xs in
      let length_new = length-waiting N k n ys start fits length_ys in
      let written_place = mod_wraps_once N (k + i) (omega arith) in
      same_lists _ _ (grind (arith, common_steps)) (λ j d below. grind (
        arith,
        common_steps,
        mod_wraps_once N (k + j) (omega arith),
        get_or-waiting N k n xs start fits length_xs j d,
        get_or-waiting N k n ys start fits length_ys j d,
      ))
