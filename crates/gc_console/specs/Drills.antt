-- How a schedule that a source gives is played, and how that is reported: this project's own. `text_of` gives what is written of
-- events that are played on an instrument, through a window of some width, with or without the line of totals.
use Rattle.gc_console.specs.Common.{Consumes, Refuses, range_line, IsDrill, PlaysAll, drill_text_on, scene_drill_text, Ports, run_fault_text, IsReadToEnd, source_of}
use Rattle.std.specs.Prelude.{ℕ, ◌⊎◌, Bool, List}
use Rattle.gc_console.specs.Refusing.{EndSeen, TellsEnd}
use Rattle.gc_console.specs.Scenes.{AreUnused, HoldsOfInstrument, RefusesScene}
use Rattle.gc_console.specs.declared.drill.Drilling.{Drilling}
use Rattle.gc_world.specs.declared.event.Event.{Event}

-- the width was out of its range, which is reported (`Refuses`), and source and sink weren't used (`AreUnused`)
abbrev pub RefusesWidth : EndSeen → Type 0
RefusesWidth seen = Refuses range_line seen.status seen.told_before seen.told × AreUnused seen.old seen.new

-- the width was refused, or the bytes that a source gave were played as a schedule or refused (`IsDrill`), and the status and the messages
-- tell how that ended (`TellsEnd`)
abbrev pub TellsDrillWithin : (text_of : List Event → (totals : Bool) → List ℕ) → (totals : Bool) → EndSeen → Type 0
TellsDrillWithin text_of totals seen =
    RefusesWidth seen ⊎ TellsEnd run_fault_text (IsDrill text_of totals seen.old seen.new) seen

-- `Holds` is true of what is written of events (`text_of`) that are played on the instrument of the scene (`HoldsOfInstrument`)
abbrev pub HoldsOfText : Drilling → (Holds : (text_of : List Event → (totals : Bool) → List ℕ) → Type 0) → Type 0
HoldsOfText drilling Holds =
    HoldsOfInstrument drilling.scene (λ start. Holds (drill_text_on start drilling.width))
    (λ start. Holds (scene_drill_text start drilling.width))

-- the scene or the width was refused, or the schedule was played on the instrument of the scene, and how that ended is reported
abbrev pub TellsDrill : Drilling → EndSeen → Type 0
TellsDrill drilling seen =
    RefusesScene drilling.scene seen ⊎ HoldsOfText drilling (λ text_of. TellsDrillWithin text_of drilling.totals seen)

-- a source gave a schedule, and the sink took the output of its events
abbrev pub PlaysSource : (text_of : List Event → (totals : Bool) → List ℕ) → (totals : Bool) → (old new : Ports) → Type 0
PlaysSource text_of totals old new =
    (given : List ℕ) × Consumes old.remaining new.remaining given × PlaysAll text_of given totals old.taken new.taken

-- a source gave a schedule, and the sink took the output of its events on the instrument of the scene
abbrev pub PlaysScene : Drilling → (old new : Ports) → Type 0
PlaysScene drilling old new = HoldsOfText drilling (λ text_of. PlaysSource text_of drilling.totals old new)

-- the source was read to its end (`IsReadToEnd`)
abbrev pub ReadsWholeSource : (old new : Ports) → Type 0
ReadsWholeSource old new = IsReadToEnd (source_of old) (source_of new)
