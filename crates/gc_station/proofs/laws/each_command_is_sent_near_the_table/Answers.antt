use Rattle.gc_station.proofs.SentWell.{behind_the_table}
use Rattle.gc_station.proofs.laws.each_command_is_sent_near_the_table.Goals as goal

pub returns : goal.returns
returns c = behind_the_table
