use Rattle.gc_texts.proofs.Common.{rules, IsTrue, IsFalse, inl, inr, subst, ap, ◌∙◌, is_tolerance, before, behind, is_length, IsFit, IsUnfit}
use Rattle.gc_texts.proofs.agree_numbers.agree_trouble.Goals as goal

pub returns-then-not-are_three_words : goal.returns-then-not-are_three_words
returns-then-not-are_three_words c = let no : IsFalse c.are_three_words.result = search rules in inl (c.are_three_words.ensures no)

pub returns-then-not-is_tolerance_text : goal.returns-then-not-is_tolerance_text
returns-then-not-is_tolerance_text c =
    let no : IsFalse c.is_tolerance_text.result = search rules in subst (IsUnfit is_tolerance) c.before-2.ensures.is (c.is_tolerance_text.ensures.unfit no)

pub returns-then-not-is_tolerance_text-2 : goal.returns-then-not-is_tolerance_text-2
returns-then-not-is_tolerance_text-2 c =
    let no : IsFalse c.is_tolerance_text-2.result = search rules in
    subst (IsUnfit is_tolerance) (c.before-3.ensures.is ∙ ap (before 32) c.behind-others.ensures.is) (c.is_tolerance_text-2.ensures.unfit no)

pub returns-then-not-is_length_text : goal.returns-then-not-is_length_text
returns-then-not-is_length_text c =
    let no : IsFalse c.is_length_text.result = search rules in
    subst (IsUnfit is_length) (c.behind.ensures.is ∙ ap (behind 32) c.behind-others.ensures.is) (c.is_length_text.ensures.unfit no)

pub returns : goal.returns
returns c =
    let hz : IsTrue c.is_tolerance_text.result = search rules in
    let v : IsTrue c.is_tolerance_text-2.result = search rules in
    let distance : IsTrue c.is_length_text.result = search rules in
    inr (
      subst (IsFit is_tolerance) c.before-2.ensures.is (c.is_tolerance_text.ensures.fit hz),
      subst (IsFit is_tolerance) (c.before-3.ensures.is ∙ ap (before 32) c.behind-others.ensures.is) (c.is_tolerance_text-2.ensures.fit v),
      subst (IsFit is_length) (c.behind.ensures.is ∙ ap (behind 32) c.behind-others.ensures.is) (c.is_length_text.ensures.fit distance),
    )
