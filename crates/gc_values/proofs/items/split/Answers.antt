use Rattle.gc_values.proofs.Common.{◌≡◌, ◌<◌, ◌≤◌, ◌++◌, ◌∷◌, [], List, ℕ, map, length, Ok, Bor, Some, None, refl, sym, ap, ◌∙◌, subst, arith, rules, option_copied, length-map, map-append, AreSpaces, IsParams, CutsPiece}
use Rattle.gc_values.proofs.ParamLists.{SplitSoFar, split_more, split_last, split_longer, one_list, params_even, even_not_odd}
use Rattle.gc_values.proofs.Trimming.{front_not_spaces}
use Rattle.gc_values.proofs.items.split.Goals as goal

-- what contracts see of slices with one more is what they see of the others, and that one's bytes
nows_push : (old : List (Bor (List ℕ))) (r : Bor (List ℕ)) → map (λ r. r.now) (old ++ r ∷ []) ≡ map (λ r. r.now) old ++ r.now ∷ []
nows_push old r = map-append (λ r. r.now) old (r ∷ [])

-- two lists of which the first has at most 16 items and the second more than 16 aren't equal
longer_not_few : (xs ys : List (List ℕ)) → xs ≡ ys → length xs ≤ 16 → 16 < length ys → ⊥
longer_not_few xs ys e few many = omega (arith, ap length e)

pub returns-then-has_open_quote-clause-only : goal.returns-then-has_open_quote-clause-only
returns-then-has_open_quote-clause-only c items h few = absurd (even_not_odd _ (params_even c.args.params.now items h) (c.has_open_quote.ensures.0 c.if-has_open_quote.true))

pub returns-then-has_open_quote-clause-too_many : goal.returns-then-has_open_quote-clause-too_many
returns-then-has_open_quote-clause-too_many c =
    (λ h. absurd (cc), λ h. absurd (even_not_odd _ (params_even c.args.params.now h.0 h.1) (c.has_open_quote.ensures.0 c.if-has_open_quote.true)))

pub push-requires : goal.push-requires
push-requires c = (omega arith, let count = c.loop.invariant.1 in omega arith)

pub returns-in-None-clause-found : goal.returns-in-None-clause-found
returns-in-None-clause-found c =
    let text = c.args.params.now in
    let old = c.loop.slices.items in
    let some : AreSpaces text → ⊥ = front_not_spaces text c.trim_front.result.now c.trim_front.ensures (search rules) in
    let cut : CutsPiece c.loop.rest.now c.cut_piece.result.0.now None = subst (λ o. CutsPiece c.loop.rest.now c.cut_piece.result.0.now (option_copied o)) c.in-None.is c.cut_piece.ensures in
    let list = split_last text c.loop.rest.now c.cut_piece.result.0.now c.trim.result.now (map (λ r. r.now) old) c.loop.invariant.0 cut c.trim.ensures some in
    let same = ap (map (λ (r : Bor (List ℕ)). r.now)) c.push.ensures.items ∙ nows_push old c.trim.result in (
      subst (λ items. IsParams text items) (sym same) list,
      omega (arith, length-map c.push.new.self.items (λ (r : Bor (List ℕ)). r.now), c.push.ensures.len, c.loop.invariant.1),
    )

pub returns-in-None-clause-only : goal.returns-in-None-clause-only
returns-in-None-clause-only c items h few = ap Ok (one_list c.args.params.now _ items (returns-in-None-clause-found c).0 h)

pub returns-in-None-clause-too_many : goal.returns-in-None-clause-too_many
returns-in-None-clause-too_many c =
    (λ h. absurd (cc), λ h. absurd (longer_not_few _ h.0 (one_list c.args.params.now _ h.0 (returns-in-None-clause-found c).0 h.1) (returns-in-None-clause-found c).1 h.2))

pub loop-preserved : goal.loop-preserved
loop-preserved c =
    let text = c.args.params.now in
    let old = c.loop.slices.items in
    let cut : CutsPiece c.loop.rest.now c.cut_piece.result.0.now (Some c.in-Some.next.now) =
    subst (λ o. CutsPiece c.loop.rest.now c.cut_piece.result.0.now (option_copied o)) c.in-Some.is c.cut_piece.ensures in
    let more = split_more text c.loop.rest.now c.cut_piece.result.0.now c.in-Some.next.now c.trim.result.now (map (λ r. r.now) old) c.loop.invariant.0 cut c.trim.ensures in
    let same = ap (map (λ (r : Bor (List ℕ)). r.now)) c.push.ensures.items ∙ nows_push old c.trim.result in (
      subst (λ items. SplitSoFar text items c.in-Some.next.now) (sym same) more,
      omega (arith, c.push.ensures.len, c.loop.invariant.1),
    )

pub returns-clause-too_many : goal.returns-clause-too_many
returns-clause-too_many c =
    let text = c.args.params.now in
    let some : AreSpaces text → ⊥ = front_not_spaces text c.trim_front.result.now c.trim_front.ensures (search rules) in
    let longer = split_longer text c.loop.rest.now (map (λ r. r.now) c.loop.slices.items) c.loop.invariant.0 some in
    let count : 16 ≤ length (map (λ (r : Bor (List ℕ)). r.now) c.loop.slices.items) = omega (arith, length-map c.loop.slices.items (λ (r : Bor (List ℕ)). r.now), c.loop.invariant.1) in
    (λ _. (longer.0, longer.1, let l = longer.2 in omega arith), λ _. refl)

pub returns-clause-only : goal.returns-clause-only
returns-clause-only c items h few =
    let many = (returns-clause-too_many c).0 refl in
    absurd (longer_not_few items many.0 (one_list c.args.params.now items many.0 h many.1) few many.2)
