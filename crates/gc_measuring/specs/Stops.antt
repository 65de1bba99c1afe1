-- Why a station that measures the commands of a text stopped before its end, and how that is reported: this project's own.
use Rattle.gc_measuring.specs.Common.{run_fault_text, fault_line, trouble_line, RunFault, NoCommand, Schedule, Clock}
use Rattle.std.specs.Prelude.{◌≡◌, ℕ, List, [], ◌++◌, Option, Some, None, Result, Ok, Err, codes}
use Rattle.gc_ask.specs.Prelude.{fault_of_unusable}
use Rattle.gc_measuring.specs.declared.stop.Stop.{Stop}
use Rattle.gc_measuring.specs.declared.stop.Stop.TheVariants.{Text, Empty, Line, Run}
use Rattle.gc_links.specs.declared.device.Unusable.{Unusable}

-- the fault of a stop
abbrev pub fault_of_stop : Stop → RunFault
fault_of_stop (Text fault) = fault
fault_of_stop Empty = NoCommand
fault_of_stop (Line n trouble) = Schedule n
fault_of_stop (Run fault) = fault

-- what is written of a stop after the line of its fault: if the text has no command of a cycle, a line that says so; where line n of the
-- text is faulty, a line that says what the trouble with that line is; else nothing
abbrev pub stop_detail : Stop → List ℕ
stop_detail (Text fault) = []
stop_detail Empty = codes "geocom: the text has no command of a cycle\n"
stop_detail (Line n trouble) = trouble_line n trouble
stop_detail (Run fault) = []

-- what is written of a stop
abbrev pub stop_text : Stop → List ℕ
stop_text stop = fault_line (run_fault_text (fault_of_stop stop)) ++ stop_detail stop

-- the end of a run over tasks, as the end of measuring a text
abbrev pub end_of_run : {X : Type 0} → Result X RunFault → Result X Stop
end_of_run (Ok x) = Ok x
end_of_run (Err fault) = Err (Run fault)

-- the end of measuring a text, with the fault in place of the stop
abbrev pub with_fault : {X : Type 0} → Result X Stop → Result X RunFault
with_fault (Ok x) = Ok x
with_fault (Err stop) = Err (fault_of_stop stop)

-- the fault for which there is no link: what is wrong with the device. `None`: the clock can't be read
abbrev pub fault_without_link : Option Unusable → RunFault
fault_without_link (Some unusable) = fault_of_unusable unusable
fault_without_link None = Clock

-- this is a fault for which there is no link
abbrev pub IsFaultWithoutLink : RunFault → Type 0
IsFaultWithoutLink fault = (reason : Option Unusable) × (fault ≡ fault_without_link reason)
