-- How rows are compared with the replies that came, one after the other. A row is here its claim, and a reply its truth. Rows are
-- true by replies where `AreTrue` holds of the two lists.
use Rattle.gc_rehearsal.proofs.Common.{◌≡◌, ℕ, zero, suc, ◌+◌, ◌<◌, ◌≤◌, List, [], ◌∷◌, length, drop, get_or, inl, inr, Option, Some, refl, subst, sym, ap, ◌∙◌, ◌↔◌, slice_get, drop_all, drop_more, slice_get_within, slice_get-get_or, Claim, Truth}
use Rattle.gc_rehearsal.specs.Claims.{SpeaksOf, IsTrueAt, MatchesNext, AreTrue}

-- rows that are true by replies are also true by these with one more reply before them
true_by_one_more : (claims : List Claim) (truth : Truth) (truths : List Truth) → AreTrue claims truths → AreTrue claims (truth ∷ truths)
true_by_one_more [] truth truths are = tt
true_by_one_more (c ∷ cs) truth truths are = inr are

-- rows that are true by replies are also true without the first row
true_without_first : (claim : Claim) (claims : List Claim) (truths : List Truth) → AreTrue (claim ∷ claims) truths → AreTrue claims truths
true_without_first claim claims [] are = absurd are
true_without_first claim claims (t ∷ ts) (inl both) = true_by_one_more claims t ts both.1
true_without_first claim claims (t ∷ ts) (inr later) = true_by_one_more claims t ts (true_without_first claim claims ts later)

-- if rows are true by replies, the rows after the first one are true by the replies after the first one
true_behind : (claim : Claim) (claims : List Claim) (truth : Truth) (truths : List Truth) → AreTrue (claim ∷ claims) (truth ∷ truths) → AreTrue claims truths
true_behind claim claims truth truths (inl both) = both.1
true_behind claim claims truth truths (inr later) = true_without_first claim claims truths later

-- if rows are true by replies, and the first row doesn't speak of the first reply, the rows are true by the replies after it
true_later : (claim : Claim) (claims : List Claim) (truth : Truth) (truths : List Truth) → (SpeaksOf claim truth → ⊥)
    → AreTrue (claim ∷ claims) (truth ∷ truths) → AreTrue (claim ∷ claims) truths
true_later claim claims truth truths not (inl both) = absurd (not both.0)
true_later claim claims truth truths not (inr later) = later

-- if there is no row, or the first row doesn't speak of the first reply, rows are true with that reply exactly if they are true
-- without it
unmatched : (claims : List Claim) (truth : Truth) (truths : List Truth)
    → ((claim : Claim) (others : List Claim) → claims ≡ claim ∷ others → SpeaksOf claim truth → ⊥)
    → AreTrue claims (truth ∷ truths) ↔ AreTrue claims truths
unmatched [] truth truths not = (λ _. tt, λ _. tt)
unmatched (c ∷ cs) truth truths not = (true_later c cs truth truths (not c cs refl), λ later. inr later)

-- the first of the items from place `n` on is the one at place `n`
at_drop : (claims : List Claim) (n : ℕ) (claim : Claim) (others : List Claim) → drop n claims ≡ claim ∷ others → slice_get claims n ≡ Some claim
at_drop [] zero claim others is = let wrong : ◌≡◌ {A = List Claim} [] (claim ∷ others) = is in cc
at_drop [] (suc n) claim others is = let wrong : ◌≡◌ {A = List Claim} [] (claim ∷ others) = is in cc
at_drop (c ∷ cs) zero claim others is = let same : ◌≡◌ {A = List Claim} (c ∷ cs) (claim ∷ others) = is in cc
at_drop (c ∷ cs) (suc n) claim others is = at_drop cs n claim others is

-- how far the comparison has come, with the first `seen` replies and `matched` rows: all rows are true exactly if the rows and the
-- replies that are left are
abbrev pub HasMatched : (claims : List Claim) (truths : List Truth) (matched seen : ℕ) → Type 0
HasMatched claims truths matched seen = AreTrue claims truths ↔ AreTrue (drop matched claims) (drop seen truths)

-- the comparison has come this far (`HasMatched`), and `truth` is the next reply
module _
    (claims : List Claim) (truths : List Truth) (matched seen : ℕ) (truth : Truth)
    (so_far : HasMatched claims truths matched seen) (within : seen < length truths) (is : truth ≡ get_or truths seen truth) where
  -- where the rows left are true by the replies left exactly if those from place `next` on are by the replies after this one, the
  -- comparison has come to place `next`
  matched_to : (next : ℕ)
      → (AreTrue (drop matched claims) (truth ∷ drop (seen + 1) truths) ↔ AreTrue (drop next claims) (drop (seen + 1) truths))
      → HasMatched claims truths next (seen + 1)
  matched_to next step =
      let here : drop seen truths ≡ truth ∷ drop (seen + 1) truths =
      drop_more truths seen truth within ∙ ap (λ t. t ∷ drop (seen + 1) truths) (sym is) in (
        λ are. step.0 (subst (λ ts. AreTrue (drop matched claims) ts) here (so_far.0 are)),
        λ left. so_far.1 (subst (λ ts. AreTrue (drop matched claims) ts) (sym here) (step.1 left)),
      )

  -- where the next row speaks of the next reply, one row more is matched
  matched_more : IsTrueAt claims matched truth → HasMatched claims truths (matched + 1) (seen + 1)
  matched_more at =
      let some : matched < length claims = slice_get_within claims matched at.claim at.there in
      let item : at.claim ≡ get_or claims matched at.claim =
      let both : ◌≡◌ {A = Option Claim} (Some at.claim) (Some (get_or claims matched at.claim)) = sym at.there ∙ slice_get-get_or claims matched at.claim some in
      cc in
      let here : drop matched claims ≡ at.claim ∷ drop (matched + 1) claims =
      drop_more claims matched at.claim some ∙ ap (λ c. c ∷ drop (matched + 1) claims) (sym item) in
      matched_to (matched + 1) (
        λ are. true_behind at.claim (drop (matched + 1) claims) truth (drop (seen + 1) truths)
            (subst (λ cs. AreTrue cs (truth ∷ drop (seen + 1) truths)) here are),
        λ left. subst (λ cs. AreTrue cs (truth ∷ drop (seen + 1) truths)) (sym here) (inl (at.is, left)),
      )

  -- where with the next reply `next` rows are matched (`MatchesNext`), the comparison has come to place `next`
  pub matched_next : (next : ℕ) → MatchesNext claims matched truth next → HasMatched claims truths next (seen + 1)
  matched_next next (inl same) =
      subst (λ n. HasMatched claims truths n (seen + 1)) (sym same.0)
      (matched_to matched (unmatched (drop matched claims) truth (drop (seen + 1) truths)
      (λ claim others rows speaks. same.1 (record { claim = claim; there = at_drop claims matched claim others rows; is = speaks }))))
  matched_next next (inr more) = subst (λ n. HasMatched claims truths n (seen + 1)) (sym more.0) (matched_more more.1)

-- where all rows were matched, they are true
pub all_matched : (claims : List Claim) (truths : List Truth) (matched seen : ℕ) → HasMatched claims truths matched seen
    → length claims ≤ matched → AreTrue claims truths
all_matched claims truths matched seen so_far all =
    so_far.1 (subst (λ cs. AreTrue cs (drop seen truths)) (sym (drop_all matched claims all)) tt)

-- if a row is left, and no reply is left, the rows aren't all true
pub one_unmatched : (claims : List Claim) (truths : List Truth) (matched seen : ℕ) (claim : Claim) → HasMatched claims truths matched seen
    → slice_get claims matched ≡ Some claim → length truths ≤ seen → AreTrue claims truths → ⊥
one_unmatched claims truths matched seen claim so_far there all are =
    let left = subst (λ ts. AreTrue (drop matched claims) ts) (drop_all seen truths all) (so_far.0 are) in
    subst (λ cs. AreTrue cs []) (drop_more claims matched claim (slice_get_within claims matched claim there)) left
