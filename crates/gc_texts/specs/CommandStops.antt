-- Why commands weren't read, or not asked to their end, and how that is reported: this project's own.
use Rattle.std.specs.Prelude.{◌≡◌, ℕ, List, ◌++◌, Result, Ok, Err}
use Rattle.gc_texts.specs.Faults.{run_fault_text, fault_line}
use Rattle.gc_texts.specs.LineForms.{line_at}
use Rattle.gc_texts.specs.Troubles.{IsFaultOfCommand, trouble_line}
use Rattle.gc_texts.specs.declared.command_text.CommandStop.{CommandStop}
use Rattle.gc_texts.specs.declared.command_text.CommandStop.TheVariants.{Fault, Line}
use Rattle.gc_texts.specs.declared.fault.RunFault.{RunFault}
use Rattle.gc_texts.specs.declared.fault.RunFault.TheVariants.{Schedule}
use Rattle.gc_texts.specs.declared.trouble.Trouble.{Trouble}

-- the fault of a stop
abbrev pub fault_of_command_stop : CommandStop → RunFault
fault_of_command_stop (Fault fault) = fault
fault_of_command_stop (Line n trouble) = Schedule n

-- what is written of a faulty line with this number and this trouble: the line of the fault, and a second one that says what is at
-- fault
abbrev pub command_line_text : ℕ → Trouble → List ℕ
command_line_text n trouble = fault_line (run_fault_text (Schedule n)) ++ trouble_line n trouble

-- what is written of a stop: the line of its fault, and where a line of the text is faulty, a second one that says what is at fault
-- there
abbrev pub command_stop_text : CommandStop → List ℕ
command_stop_text (Fault fault) = fault_line (run_fault_text fault)
command_stop_text (Line n trouble) = command_line_text n trouble

-- the end of asking commands, with the fault in place of the stop
abbrev pub with_command_fault : {X : Type 0} → Result X CommandStop → Result X RunFault
with_command_fault (Ok x) = Ok x
with_command_fault (Err stop) = Err (fault_of_command_stop stop)

-- the stop by which a text of commands with this fault is refused: for a faulty line, with what is at fault in it
abbrev pub IsCommandStopFor : (text : List ℕ) → (fault : RunFault) → CommandStop → Type 0
IsCommandStopFor text (Schedule n) stop = (trouble : Trouble) × IsFaultOfCommand (line_at text n) trouble × (stop ≡ Line n trouble)
IsCommandStopFor text fault stop = stop ≡ Fault fault
