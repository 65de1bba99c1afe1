use Rattle.gc_values.proofs.Common.{◌≡◌, ◌++◌, ◌∷◌, [], ap, rules, sym, ◌∙◌, without_cr}
use Rattle.gc_values.proofs.FileLemmas.{cr_goes, other_stays}
use Rattle.gc_values.proofs.file_value.without_cr.Goals as goal

pub returns-then-last-ne13 : goal.returns-then-last-ne13
returns-then-last-ne13 c =
    let parts : c.args.text.now ≡ c.in-Some.front.now ++ c.in-Some.last.now ∷ [] = search rules in
    let other : c.in-Some.last.now ≡ 13 → ⊥ = search rules in
    parts ∙ sym (other_stays c.in-Some.front.now c.in-Some.last.now other) ∙ ap without_cr (sym parts)

pub returns : goal.returns
returns c =
    let cr : c.in-Some.last.now ≡ 13 = search rules in
    let parts : c.args.text.now ≡ c.in-Some.front.now ++ c.in-Some.last.now ∷ [] = search rules in
    sym (cr_goes c.in-Some.front.now) ∙ ap (λ b. without_cr (c.in-Some.front.now ++ b ∷ [])) (sym cr) ∙ ap without_cr (sym parts)
