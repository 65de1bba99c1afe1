use Rattle.gc_texts.proofs.Common.{◌≡◌, true, false, sym, ◌∙◌}
use Rattle.gc_values.specs.declared.value.Kind.TheVariants as kind
use Rattle.gc_texts.proofs.field.kind_of_word.Goals as goal

pub returns : goal.returns
returns c kind.Double is = let both : true ≡ false = sym (c.is_word.ensures.1 is) ∙ c.if-is_word.false in cc
returns c kind.Long is = let both : true ≡ false = sym (c.is_word-2.ensures.1 is) ∙ c.if-is_word-2.false in cc
returns c kind.Short is = let both : true ≡ false = sym (c.is_word-3.ensures.1 is) ∙ c.if-is_word-3.false in cc
returns c kind.Byte is = let both : true ≡ false = sym (c.is_word-4.ensures.1 is) ∙ c.if-is_word-4.false in cc
returns c kind.Bool is = let both : true ≡ false = sym (c.is_word-5.ensures.1 is) ∙ c.if-is_word-5.false in cc
returns c kind.Text is = let both : true ≡ false = sym (c.is_word-6.ensures.1 is) ∙ c.if-is_word-6.false in cc
