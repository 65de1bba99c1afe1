use Rattle.gc_texts.proofs.Common.{◌≡◌, true, false, sym, ◌∙◌, OffTarget, Unexpected, Disagree}
use Rattle.gc_texts.proofs.judgement.Judgement.named.Goals as goal

pub returns : goal.returns
returns c OffTarget is = let both : true ≡ false = sym (c.is_word.ensures.1 is) ∙ c.if-is_word.false in cc
returns c Unexpected is = let both : true ≡ false = sym (c.is_word-2.ensures.1 is) ∙ c.if-is_word-2.false in cc
returns c Disagree is = let both : true ≡ false = sym (c.is_word-3.ensures.1 is) ∙ c.if-is_word-3.false in cc
