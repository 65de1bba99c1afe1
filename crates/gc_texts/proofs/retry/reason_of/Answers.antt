use Rattle.gc_texts.proofs.Common.{◌≡◌, true, false, sym, ◌∙◌}
use Rattle.gc_texts.specs.declared.retry.Reason.TheVariants as reason
use Rattle.gc_texts.proofs.retry.reason_of.Goals as goal

pub returns-in-None-read_code : goal.returns-in-None-read_code
returns-in-None-read_code c reason.Unreadable is = let both : true ≡ false = sym (c.is_word.ensures.1 is) ∙ c.if-is_word.false in cc
returns-in-None-read_code c reason.Late is = let both : true ≡ false = sym (c.is_word-2.ensures.1 is) ∙ c.if-is_word-2.false in cc
returns-in-None-read_code c reason.Lost is = let both : true ≡ false = sym (c.is_word-3.ensures.1 is) ∙ c.if-is_word-3.false in cc
returns-in-None-read_code c reason.Skipped is = let both : true ≡ false = sym (c.is_word-4.ensures.1 is) ∙ c.if-is_word-4.false in cc
returns-in-None-read_code c (reason.Judged judgement) is = c.in-None.ensures judgement is
returns-in-None-read_code c (reason.Code code) is = c.in-None-read_code.ensures code is
