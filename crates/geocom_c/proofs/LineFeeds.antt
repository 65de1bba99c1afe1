-- Bytes without a line feed.
use Rattle.geocom_c.proofs.Common.{◌≡◌, ℕ, ◌≤◌, true, false, cond, List, length, get_or, All, Some, None, refl, arith, ltb, prefix_len, position, ltb-true, ltb-false, eqb-true, eqb-false, not-true, not-false, is_line_feed, goes_on, IsNoLineFeed}
use Rattle.std.proofs.lemmas.List.Sums.{prefix_len_passes, prefix_len_stops}

-- a byte at which the search stops is a line feed
is_the_line_feed : (b : ℕ) → goes_on b ≡ false → b ≡ 10
is_the_line_feed b e = eqb-true b 10 (not-false (is_line_feed b) e)

-- a byte at which the search goes on is no line feed
is_no_line_feed : (b : ℕ) → goes_on b ≡ true → IsNoLineFeed b
is_no_line_feed b e = eqb-false b 10 (not-true (is_line_feed b) e)

-- in bytes without a line feed none is found
pub none_found : (xs : List ℕ) → All IsNoLineFeed xs → position is_line_feed xs ≡ None
none_found xs clean = elim (ltb (prefix_len goes_on xs) (length xs)) as (λ v. ltb (prefix_len goes_on xs) (length xs) ≡ v → cond v (Some (prefix_len goes_on xs)) None ≡ None) [
  | true ↦ λ t. let within = ltb-true _ _ t in absurd (clean (prefix_len goes_on xs) 0 within (is_the_line_feed _ (prefix_len_stops goes_on xs 0 within)))
  | false ↦ λ _. refl
] refl

-- bytes in which no line feed is found have none
pub clean_if_none_found : (xs : List ℕ) → position is_line_feed xs ≡ None → All IsNoLineFeed xs
clean_if_none_found xs e k d lt =
    let past : length xs ≤ prefix_len goes_on xs = elim (ltb (prefix_len goes_on xs) (length xs)) as
    (λ v. ltb (prefix_len goes_on xs) (length xs) ≡ v → cond v (Some (prefix_len goes_on xs)) None ≡ None → length xs ≤ prefix_len goes_on xs) [
      | true ↦ λ _ f. (cc)
      | false ↦ λ f _. ltb-false _ _ f
    ] refl e in
    is_no_line_feed (get_or xs k d) (prefix_len_passes goes_on xs k d (omega (arith, past, lt)))
