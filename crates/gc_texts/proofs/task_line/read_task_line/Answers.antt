use Rattle.gc_texts.proofs.Common.{◌≡◌, true, false, Some, None, sym, ◌∙◌, Plain, Described, Now}
use Rattle.gc_texts.specs.declared.task_line.TaskLine.TheVariants as says
use Rattle.gc_texts.proofs.task_line.read_task_line.Goals as goal

pub returns-in-None : goal.returns-in-None
returns-in-None c says.Chained is = let both : true ≡ false = sym (c.is_word.ensures.1 is) ∙ c.if-is_word.false in cc
returns-in-None c says.Unchained is = let both : true ≡ false = sym (c.is_word-2.ensures.1 is) ∙ c.if-is_word-2.false in cc
returns-in-None c (says.Deadline deadline) is = c.in_default.ensures deadline is
returns-in-None c (says.Naming name) is = c.in_default-read_naming.ensures name is
returns-in-None c (says.Locating near) is = c.in_default-read_locating.ensures near is
returns-in-None c (says.Unwatching target) is = c.in_default-read_unwatching.ensures target is
returns-in-None c (says.Describing description) is = c.in_default-read_describing.ensures description is
returns-in-None c (says.Accepting codes) is = c.in_default-read_accepting.ensures codes is
returns-in-None c (says.Busy codes) is = c.in_default-read_busy.ensures codes is
returns-in-None c (says.Retrying retry) is = c.in_default-read_retrying.ensures retry is
returns-in-None c (says.Agreeing agree) is = c.in_default-read_agreeing.ensures agree is
returns-in-None c says.AtStart is = let both : true ≡ false = sym (c.is_word-3.ensures.1 is) ∙ c.if-is_word-3.false in cc
returns-in-None c says.EachCycle is = let both : true ≡ false = sym (c.is_word-4.ensures.1 is) ∙ c.if-is_word-4.false in cc
returns-in-None c (says.Every every) is = c.in_default-read_every.ensures every is
returns-in-None c (says.Command wish Now None) is = c.in_default-read_clock_setting.ensures wish is
returns-in-None c (says.Command wish Now (Some e)) is = absurd is
returns-in-None c (says.Command wish Plain (Some e)) is = c.in_default-read_expecting.ensures (wish, Plain, e) is
returns-in-None c (says.Command wish Plain None) is = c.in-None.ensures (wish, Plain) is
returns-in-None c (says.Command wish Described (Some e)) is = c.in_default-read_expecting.ensures (wish, Described, e) is
returns-in-None c (says.Command wish Described None) is = c.in-None.ensures (wish, Described) is
