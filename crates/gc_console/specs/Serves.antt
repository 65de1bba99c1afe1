-- How `exec` and `check` report how their loop over frames ended: this project's own.
use Rattle.gc_console.specs.Common.{IsChecking, IsCheckingLog, IsServing, IsSceneServing, Ports, serve_fault_text}
use Rattle.std.specs.Prelude.{◌≡◌, ℕ, ◌+◌, ◌<◌, ◌⊎◌, ◌↔◌, Bool, true, false, Option, Result}
use Rattle.gc_console.specs.Refusing.{EndSeen, TellsEnd}
use Rattle.gc_console.specs.Scenes.{RefusesScene, HoldsOfInstrument}
use Rattle.gc_lines.specs.declared.served.Served.{Served}
use Rattle.gc_lines.specs.declared.served.ServeFault.{ServeFault}

-- the most reads of an input: as many as a `u32` counts. This project's own
abbrev pub most_reads : ℕ
most_reads = 4294967295

-- an instrument with this opening state served a source, and the status and the messages tell how that ended (`TellsEnd`). `Serves` says
-- what serving does to instruments with these states: `IsServing` to the table's, `IsSceneServing` to that of a scene with
-- rules
abbrev pub TellsServing : {S : Type 0} → (Serves : (from to : S) → (ports ports' : Ports) → (most : ℕ) → Result Served ServeFault → Type 0)
    → (start : S) → EndSeen → Type 0
TellsServing {S} Serves start seen =
    TellsEnd serve_fault_text (λ end. (after : S) × Serves start after seen.old seen.new most_reads end) seen

-- the scene was refused, or its instrument (`HoldsOfInstrument`) served a source, and how that ended is reported
abbrev pub TellsExec : {Name : Type 0} → (scene : Option Name) → EndSeen → Type 0
TellsExec scene seen =
    RefusesScene scene seen
    ⊎ HoldsOfInstrument scene (λ start. TellsServing IsServing start seen) (λ start. TellsServing IsSceneServing start seen)

-- an input was checked, as a log (`is_log`) or as a stream, with this result
abbrev pub ChecksInput : (is_log : Bool) → (old new : Ports) → Result Served ServeFault → Type 0
ChecksInput true old new end = IsCheckingLog old new most_reads end
ChecksInput false old new end = IsChecking old new most_reads end

-- an input was checked, as a log (`is_log`) or as a stream, and the status and the messages tell how that ended (`TellsEnd`)
abbrev pub TellsChecking : (is_log : Bool) → EndSeen → Type 0
TellsChecking is_log seen = TellsEnd serve_fault_text (ChecksInput is_log seen.old seen.new) seen

-- status 0 exactly where the last read was the end
abbrev pub IsDoneAtEnd : (old new : Ports) → (status : ℕ) → Type 0
IsDoneAtEnd old new status = (status ≡ 0) ↔ ((old.reads < new.reads) × (new.ended ≡ true))

-- status 1 only where a port failed, or all reads (`most_reads`) were used up
abbrev pub FailsByPorts : (old new : Ports) → (status : ℕ) → Type 0
FailsByPorts old new status = status ≡ 1 → (new.source_failed ≡ true) ⊎ ((new.sink_failed ≡ true) ⊎ (new.reads ≡ old.reads + most_reads))
