-- How rows are explained, one after the other. A row is here its claim.
use Rattle.gc_rehearsal.proofs.Common.{◌≡◌, ℕ, ◌+◌, ◌≤◌, Bool, true, false, if◌then◌else◌, List, ◌∷◌, length, drop, get_or, inl, inr, Option, Some, refl, subst, sym, ap, ◌∙◌, arith, slice_get, drop_all, drop_more, slice_get_within, slice_get-get_or, Claim, Truth}
use Rattle.gc_rehearsal.specs.Explained.{AreExplained, ExplainsRow, doubt_of}
use Rattle.gc_rehearsal.specs.declared.explained.FalseRows.{FalseRows}

-- the rows from place `rows` on are the one at that place and those behind it
rows_left : (claims : List Claim) (rows : ℕ) (claim : Claim) → slice_get claims rows ≡ Some claim → drop rows claims ≡ claim ∷ drop (rows + 1) claims
rows_left claims rows claim there =
    let some = slice_get_within claims rows claim there in
    let item : claim ≡ get_or claims rows claim =
    let both : ◌≡◌ {A = Option Claim} (Some claim) (Some (get_or claims rows claim)) = sym there ∙ slice_get-get_or claims rows claim some in
    cc in
    drop_more claims rows claim some ∙ ap (λ c. c ∷ drop (rows + 1) claims) (sym item)

-- how far the explanation has come, with the first `rows` rows, of which so many aren't true, and with the replies `left` since the last
-- true one: if the rows that are left are explained by these, with further ones that aren't true, all are, with all of these
abbrev pub HasExplained : (claims : List Claim) (truths left : List Truth) (rows : ℕ) (falses : FalseRows) → Type 0
HasExplained claims truths left rows falses =
    (more_damaged more_behind more_doubt : ℕ) → AreExplained (drop rows claims) left more_damaged more_behind more_doubt
    → AreExplained claims truths (falses.by_damaged + more_damaged) (falses.behind_two + more_behind) (falses.in_doubt + more_doubt)

-- the explanation has come one row further
pub explained_next : (claims : List Claim) (truths left since : List Truth) (rows : ℕ) (old new : FalseRows) (claim : Claim)
    → HasExplained claims truths left rows old → slice_get claims rows ≡ Some claim → ExplainsRow claim left old since new
    → HasExplained claims truths since (rows + 1) new
explained_next claims truths left since rows old new claim so_far there (inl is) d b q later =
    subst (λ (f : FalseRows). AreExplained claims truths (f.by_damaged + d) (f.behind_two + b) (f.in_doubt + q)) (sym is.3)
    (so_far d b q (subst (λ cs. AreExplained cs left d b q) (sym (rows_left claims rows claim there))
    (inl (is.0, is.1, subst (λ ts. AreExplained (drop (rows + 1) claims) ts d b q) is.2 later))))
explained_next claims truths left since rows old new claim so_far there (inr (inl is)) d b q later =
    let same : old.by_damaged + (d + 1) ≡ old.by_damaged + 1 + d = omega arith in
    let doubts : old.in_doubt + (q + doubt_of claim) ≡ old.in_doubt + doubt_of claim + q = omega arith in
    subst (λ (f : FalseRows). AreExplained claims truths (f.by_damaged + d) (f.behind_two + b) (f.in_doubt + q)) (sym is.2)
    (subst (λ n. AreExplained claims truths (old.by_damaged + 1 + d) (old.behind_two + b) n) doubts
    (subst (λ n. AreExplained claims truths n (old.behind_two + b) (old.in_doubt + (q + doubt_of claim))) same
    (so_far (d + 1) b (q + doubt_of claim) (subst (λ cs. AreExplained cs left (d + 1) b (q + doubt_of claim)) (sym (rows_left claims rows claim there))
    (inr (inl (is.0, d, q, refl, refl, subst (λ ts. AreExplained (drop (rows + 1) claims) ts d b q) is.1 later)))))))
explained_next claims truths left since rows old new claim so_far there (inr (inr is)) d b q later =
    let same : old.behind_two + (b + 1) ≡ old.behind_two + 1 + b = omega arith in
    let doubts : old.in_doubt + (q + doubt_of claim) ≡ old.in_doubt + doubt_of claim + q = omega arith in
    subst (λ (f : FalseRows). AreExplained claims truths (f.by_damaged + d) (f.behind_two + b) (f.in_doubt + q)) (sym is.2)
    (subst (λ n. AreExplained claims truths (old.by_damaged + d) (old.behind_two + 1 + b) n) doubts
    (subst (λ n. AreExplained claims truths (old.by_damaged + d) n (old.in_doubt + (q + doubt_of claim))) same
    (so_far d (b + 1) (q + doubt_of claim) (subst (λ cs. AreExplained cs left d (b + 1) (q + doubt_of claim)) (sym (rows_left claims rows claim there))
    (inr (inr (is.0, b, q, refl, refl, subst (λ ts. AreExplained (drop (rows + 1) claims) ts d b q) is.1 later)))))))

-- with one row more no more rows aren't true than there are
pub no_more_than_rows : (left since : List Truth) (rows : ℕ) (old new : FalseRows) (claim : Claim)
    → old.by_damaged + old.behind_two ≤ rows → ExplainsRow claim left old since new → new.by_damaged + new.behind_two ≤ rows + 1
no_more_than_rows left since rows old new claim few (inl is) =
    subst (λ (f : FalseRows). f.by_damaged + f.behind_two ≤ rows + 1) (sym is.3) (omega (arith, few))
no_more_than_rows left since rows old new claim few (inr (inl is)) =
    subst (λ (f : FalseRows). f.by_damaged + f.behind_two ≤ rows + 1) (sym is.2) (omega (arith, few))
no_more_than_rows left since rows old new claim few (inr (inr is)) =
    subst (λ (f : FalseRows). f.by_damaged + f.behind_two ≤ rows + 1) (sym is.2) (omega (arith, few))

-- a row is in doubt once at most
doubted_once : (b : Bool) → (if b then 1 else 0) ≤ 1
doubted_once true = omega arith
doubted_once false = omega arith

-- with one row more no more rows are in doubt than there are
pub no_more_doubts : (left since : List Truth) (rows : ℕ) (old new : FalseRows) (claim : Claim)
    → old.in_doubt ≤ rows → ExplainsRow claim left old since new → new.in_doubt ≤ rows + 1
no_more_doubts left since rows old new claim few (inl is) = subst (λ (f : FalseRows). f.in_doubt ≤ rows + 1) (sym is.3) (omega (arith, few))
no_more_doubts left since rows old new claim few (inr (inl is)) =
    let once = doubted_once claim.is_in_doubt in
    subst (λ (f : FalseRows). f.in_doubt ≤ rows + 1) (sym is.2) (omega (arith, few, once))
no_more_doubts left since rows old new claim few (inr (inr is)) =
    let once = doubted_once claim.is_in_doubt in
    subst (λ (f : FalseRows). f.in_doubt ≤ rows + 1) (sym is.2) (omega (arith, few, once))

-- where the explanation has come to the last row, all rows are explained
pub all_explained : (claims : List Claim) (truths left : List Truth) (rows : ℕ) (falses : FalseRows) → HasExplained claims truths left rows falses
    → length claims ≤ rows → AreExplained claims truths falses.by_damaged falses.behind_two falses.in_doubt
all_explained claims truths left rows falses so_far all =
    let no_damaged : falses.by_damaged + 0 ≡ falses.by_damaged = omega arith in
    let no_behind : falses.behind_two + 0 ≡ falses.behind_two = omega arith in
    let no_doubt : falses.in_doubt + 0 ≡ falses.in_doubt = omega arith in
    subst (λ n. AreExplained claims truths falses.by_damaged falses.behind_two n) no_doubt
    (subst (λ n. AreExplained claims truths n falses.behind_two (falses.in_doubt + 0)) no_damaged
    (subst (λ n. AreExplained claims truths (falses.by_damaged + 0) n (falses.in_doubt + 0)) no_behind
    (so_far 0 0 0 (subst (λ cs. AreExplained cs left 0 0 0) (sym (drop_all rows claims all)) (refl, refl, refl)))))
