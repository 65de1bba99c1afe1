use Rattle.gc_texts.proofs.Common.{rules, IsTrue, IsFalse, subst, ap, ◌∙◌, is_tolerance, before, behind, IsFit, IsUnfit, IsRestTrouble, fits_hz, fits_v}
use Rattle.gc_texts.proofs.NearTroubles.{rest_is_near}
use Rattle.gc_texts.proofs.near_numbers.near_trouble.Goals as goal

pub returns-then-not-is_hz : goal.returns-then-not-is_hz
returns-then-not-is_hz c =
    let no : IsFalse c.is_hz.result = search rules in subst (IsUnfit fits_hz) c.before-2.ensures.is (c.is_hz.ensures.unfit no)

pub returns-then-not-is_v : goal.returns-then-not-is_v
returns-then-not-is_v c =
    let no : IsFalse c.is_v.result = search rules in
    subst (IsUnfit fits_v) (c.before-3.ensures.is ∙ ap (before 32) c.behind-others.ensures.is) (c.is_v.ensures.unfit no)

pub returns-then-not-is_tolerance_text : goal.returns-then-not-is_tolerance_text
returns-then-not-is_tolerance_text c =
    let no : IsFalse c.is_tolerance_text.result = search rules in
    let rest = c.behind-rest.ensures.is ∙ ap (behind 32) c.behind-others.ensures.is in
    subst (IsUnfit is_tolerance) (c.before-4.ensures.is ∙ ap (before 32) rest) (c.is_tolerance_text.ensures.unfit no)

pub returns : goal.returns
returns c =
    let hz : IsTrue c.is_hz.result = search rules in
    let v : IsTrue c.is_v.result = search rules in
    let tolerance : IsTrue c.is_tolerance_text.result = search rules in
    let rest = c.behind-rest.ensures.is ∙ ap (behind 32) c.behind-others.ensures.is in
    rest_is_near c.args.numbers.now c.rest_trouble.result
    (subst (IsFit fits_hz) c.before-2.ensures.is (c.is_hz.ensures.fit hz))
    (subst (IsFit fits_v) (c.before-3.ensures.is ∙ ap (before 32) c.behind-others.ensures.is) (c.is_v.ensures.fit v))
    (subst (IsFit is_tolerance) (c.before-4.ensures.is ∙ ap (before 32) rest) (c.is_tolerance_text.ensures.fit tolerance))
    (subst (λ text. IsRestTrouble text c.rest_trouble.result) rest c.rest_trouble.ensures)
