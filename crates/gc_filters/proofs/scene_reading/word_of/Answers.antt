use Rattle.gc_filters.proofs.Common.{◌≡◌, true, false, sym, ◌∙◌}
use Rattle.gc_filters.specs.declared.scene_trouble.SceneWord.TheVariants as word
use Rattle.gc_filters.proofs.scene_reading.word_of.Goals as goal

pub returns : goal.returns
returns c word.Serial is = let both : true ≡ false = sym (c.is_word.ensures.1 is) ∙ c.if-is_word.false in cc
returns c word.Name is = let both : true ≡ false = sym (c.is_word-2.ensures.1 is) ∙ c.if-is_word-2.false in cc
returns c word.Target is = let both : true ≡ false = sym (c.is_word-3.ensures.1 is) ∙ c.if-is_word-3.false in cc
returns c word.Fault is = let both : true ≡ false = sym (c.is_word-4.ensures.1 is) ∙ c.if-is_word-4.false in cc
returns c word.Answer is = let both : true ≡ false = sym (c.is_word-5.ensures.1 is) ∙ c.if-is_word-5.false in cc
returns c word.Blocked is = let both : true ≡ false = sym (c.is_word-6.ensures.1 is) ∙ c.if-is_word-6.false in cc
returns c word.Drift is = let both : true ≡ false = sym (c.is_word-7.ensures.1 is) ∙ c.if-is_word-7.false in cc
returns c word.Noise is = let both : true ≡ false = sym (c.is_word-8.ensures.1 is) ∙ c.if-is_word-8.false in cc
returns c word.Repeats is = let both : true ≡ false = sym (c.is_word-9.ensures.1 is) ∙ c.if-is_word-9.false in cc
returns c word.Behave is = let both : true ≡ false = sym (c.is_word-10.ensures.1 is) ∙ c.if-is_word-10.false in cc
returns c word.Delay is = let both : true ≡ false = sym (c.is_word-11.ensures.1 is) ∙ c.if-is_word-11.false in cc
returns c word.Busy is = let both : true ≡ false = sym (c.is_word-12.ensures.1 is) ∙ c.if-is_word-12.false in cc
