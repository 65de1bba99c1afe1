use Rattle.gc_texts.proofs.Common.{ap, subst, ◌∙◌, option_copied, Cuts, before, behind}
use Rattle.gc_texts.proofs.TaskForms.{place_of_words}
use Rattle.gc_texts.proofs.near.read_near.Goals as goal

pub returns : goal.returns
returns c =
    let others = c.behind-others.ensures.is ∙ ap (behind 32) c.behind-angles.ensures.is in
    place_of_words c.args.text.now c.before-2.result.now c.before-3.result.now c.before-4.result.now c.cut_at.result.0.now (option_copied c.cut_at.result.1)
    c.read_near_words.result c.before-2.ensures.is (c.before-3.ensures.is ∙ ap (before 32) c.behind-angles.ensures.is)
    (c.before-4.ensures.is ∙ ap (before 32) others)
    (subst (λ rest. Cuts 32 rest c.cut_at.result.0.now (option_copied c.cut_at.result.1)) (c.behind.ensures.is ∙ ap (behind 32) others) c.cut_at.ensures)
    c.read_near_words.ensures
