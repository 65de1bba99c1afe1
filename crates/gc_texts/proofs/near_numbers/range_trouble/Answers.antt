use Rattle.gc_texts.proofs.Common.{rules, IsFalse, subst, is_length, IsUnfit}
use Rattle.gc_texts.proofs.near_numbers.range_trouble.Goals as goal

pub returns-then-not-is_length_text : goal.returns-then-not-is_length_text
returns-then-not-is_length_text c =
    let no : IsFalse c.is_length_text.result = search rules in subst (IsUnfit is_length) c.before-2.ensures.is (c.is_length_text.ensures.unfit no)

pub returns-then-not-is_length_text-2 : goal.returns-then-not-is_length_text-2
returns-then-not-is_length_text-2 c =
    let no : IsFalse c.is_length_text-2.result = search rules in subst (IsUnfit is_length) c.behind.ensures.is (c.is_length_text-2.ensures.unfit no)
