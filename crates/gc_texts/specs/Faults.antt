-- The faults of the engines, and how the program reports an end: numbers, texts and statuses are this project's own.
use Rattle.gc_texts.specs.Common.{decimal, Appends, numbered_fault, how_far}
use Rattle.std.specs.Prelude.{◌≡◌, ℕ, List, [], ◌++◌, Option, Result, Ok, Err, codes}
use Rattle.gc_lines.specs.declared.served.Served.{Served}
use Rattle.gc_lines.specs.declared.served.ServeFault.{ServeFault}
use Rattle.gc_texts.specs.declared.fault.RunFault.{RunFault}
use Rattle.gc_texts.specs.declared.fault.RunFault.TheVariants.{SceneFull, Read, Write, TooManyReads, LinkClosed, Mute, Clock, Stale, SetUp, NoCommand, Schedule, Memory, InputTooLong, Socket, Output, StreamClosed, Log, NoTerminal, Held, Forbidden, RecordsUnopened, RecordsHeld, RecordsForeign}
use Rattle.gc_lines.specs.declared.served.ServeFault.TheVariants as serving

-- the number of a fault
abbrev pub run_fault_number : RunFault → ℕ
run_fault_number SceneFull = 41
run_fault_number Read = 42
run_fault_number (Write _ _) = 43
run_fault_number TooManyReads = 44
run_fault_number LinkClosed = 45
run_fault_number Mute = 46
run_fault_number Clock = 47
run_fault_number Stale = 48
run_fault_number SetUp = 49
run_fault_number NoCommand = 50
run_fault_number (Schedule _) = 51
run_fault_number Memory = 52
run_fault_number InputTooLong = 53
run_fault_number Socket = 54
run_fault_number Output = 55
run_fault_number StreamClosed = 56
run_fault_number Log = 57
run_fault_number NoTerminal = 58
run_fault_number Held = 59
run_fault_number Forbidden = 60
run_fault_number RecordsUnopened = 64
run_fault_number RecordsHeld = 65
run_fault_number RecordsForeign = 66

-- what is printed after a fault's number: of `Write` how far it came, of `Schedule` which line is faulty, of any other nothing
abbrev pub fault_detail : RunFault → List ℕ
fault_detail (Write replies bytes) = how_far replies bytes
fault_detail (Schedule line) = codes " line " ++ decimal line
fault_detail _ = []

-- the text of a fault: its number, and its detail
abbrev pub run_fault_text : RunFault → List ℕ
run_fault_text fault = numbered_fault (run_fault_number fault) ++ fault_detail fault

-- the line that the program writes of a fault with this text
abbrev pub fault_line : List ℕ → List ℕ
fault_line text = codes "geocom: " ++ text ++ codes "\n"

-- how the program reports the result of a run: status 0 and no message, or status 1 and the line of the fault. `text` gives a
-- fault's text, and `old` and `new` are the messages before and after
abbrev pub Tells : {X E : Type 0} → (text : E → List ℕ) → Result X E → (status : ℕ) → (old new : Option (List ℕ)) → Type 0
Tells text (Ok _) status old new = (status ≡ 0) × (new ≡ old)
Tells text (Err fault) status old new = (status ≡ 1) × Appends old new (fault_line (text fault))

-- the result of serving, as the result of a run: `Ok` as `Ok`, and each fault as the run's fault of the same name. A failed
-- write carries how far it came
abbrev pub end_of_serving : Result Served ServeFault → Result (Unit {0}) RunFault
end_of_serving (Ok _) = Ok tt
end_of_serving (Err (serving.Read _)) = Err Read
end_of_serving (Err (serving.Write count bytes)) = Err (Write count bytes)
end_of_serving (Err (serving.TooManyReads _)) = Err TooManyReads
