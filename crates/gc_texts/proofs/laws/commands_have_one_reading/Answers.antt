use Rattle.gc_texts.proofs.CommandForms.{one_command_list}
use Rattle.gc_texts.proofs.laws.commands_have_one_reading.Goals as goal

pub returns : goal.returns
returns c = one_command_list
