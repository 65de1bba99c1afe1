use Rattle.gc_texts.proofs.Common.{rules, ◌≡◌, ℕ, List, codes, subst, ap, ◌∙◌, behind, HasTarget, IsNearTrouble, IsAgreeTrouble, IsDescriptionTrouble, first_word, second_word}
use Rattle.gc_texts.proofs.AgreeTroubles.{agree_is_setting}
use Rattle.gc_texts.proofs.DescribingTroubles.{described_is_setting}
use Rattle.gc_texts.proofs.NearTroubles.{near_is_setting}
use Rattle.gc_texts.proofs.trouble.word_trouble.Goals as goal

pub returns-then-has_target-2 : goal.returns-then-has_target-2
returns-then-has_target-2 c =
    let first : first_word c.args.line.now ≡ codes "near" = search rules in
    let has : HasTarget (second_word c.args.line.now) = search rules in
    near_is_setting c.args.line.now c.near_trouble.result first has
    (subst (λ (numbers : List ℕ). IsNearTrouble numbers c.near_trouble.result)
    (c.behind-then-has_target-2.ensures.is ∙ ap (behind 32) c.behind.ensures.is) c.near_trouble.ensures)

pub returns-then-is_word-8 : goal.returns-then-is_word-8
returns-then-is_word-8 c =
    let first : first_word c.args.line.now ≡ codes "agree" = search rules in
    agree_is_setting c.args.line.now c.agree_trouble.result first
    (subst (λ (numbers : List ℕ). IsAgreeTrouble numbers c.agree_trouble.result) c.behind-then-is_word-8.ensures.is c.agree_trouble.ensures)

pub returns-then-is_word-12 : goal.returns-then-is_word-12
returns-then-is_word-12 c =
    let first : first_word c.args.line.now ≡ codes "procedure" = search rules in
    described_is_setting c.args.line.now c.description_trouble.result first
    (subst (λ (text : List ℕ). IsDescriptionTrouble text c.description_trouble.result) c.behind-then-is_word-12.ensures.is c.description_trouble.ensures)
