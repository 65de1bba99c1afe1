use Rattle.gc_station.proofs.EachRun.{each_once}
use Rattle.gc_station.proofs.laws.each_command_once.Goals as goal

pub returns : goal.returns
returns c = each_once
