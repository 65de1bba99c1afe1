use Rattle.gc_catalogue.proofs.Common.{◌++◌, ap, ◌∙◌, reply_line}
use Rattle.gc_catalogue.proofs.replies.encode_answer.Goals as goal

pub returns-clause-line : goal.returns-clause-line
returns-clause-line c = c.encode_answer_onto.ensures.line ∙ ap (λ bytes. bytes ++ reply_line c.args.id c.args.rc c.args.answer.now c.args.places) c.new-line.ensures

pub returns-clause-plain : goal.returns-clause-plain
returns-clause-plain c = rw (returns-clause-line c) c.encode_answer_onto.ensures.plain

pub returns-clause-refused : goal.returns-clause-refused
returns-clause-refused c = λ call refused. c.encode_answer_onto.ensures.refused (c.requires.refused refused) call refused
