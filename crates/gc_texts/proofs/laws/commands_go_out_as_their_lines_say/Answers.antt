use Rattle.gc_texts.proofs.Chained.{tasks_follow_their_lines}
use Rattle.gc_texts.proofs.laws.commands_go_out_as_their_lines_say.Goals as goal

pub returns : goal.returns
returns c = tasks_follow_their_lines
