-- Why the window is seven wide, not eight: with a width of eight the run by ids and that by numbers differ. This project's own.
use Rattle.gc_world.specs.Common.{State}
use Rattle.std.specs.Prelude.{◌≡◌, ◌≢◌, List, [], ◌∷◌, length}
use Rattle.gc_catalogue.specs.declared.call.Call.TheVariants.{NullProc}
use Rattle.gc_world.specs.declared.event.Event.{Event}
use Rattle.gc_world.specs.declared.event.Event.TheVariants.{Send, UpDeliver, DownDeliver, DownRepeat}
use Rattle.gc_world.specs.Clients.{left_by_ids, left_by_numbers}

-- a schedule for a window that is eight wide: the first request's reply comes twice, and the second time when eight others have
-- been sent, the last of them with the first one's id
abbrev pub boundary_of_eight : List Event
boundary_of_eight =
    Send 1 NullProc 9
    ∷ UpDeliver
    ∷ DownRepeat 0
    ∷ DownDeliver
    ∷ Send 2 NullProc 9
    ∷ Send 3 NullProc 9
    ∷ Send 4 NullProc 9
    ∷ Send 5 NullProc 9
    ∷ Send 6 NullProc 9
    ∷ Send 7 NullProc 9
    ∷ Send 8 NullProc 9
    ∷ Send 9 NullProc 9
    ∷ DownDeliver
    ∷ []

-- with a width of eight, the schedule `boundary_of_eight` leaves one wire by ids and another by numbers
abbrev pub EightDiffers : Type 0
EightDiffers = (opening : State) → left_by_ids 8 opening boundary_of_eight ≢ left_by_numbers 8 opening boundary_of_eight

-- with a width of eight, the run of `boundary_of_eight` by ids makes nine settlements: its client takes the first reply, when it
-- comes again, for the ninth request's
abbrev pub EightSettlesNine : Type 0
EightSettlesNine = (opening : State) → length (left_by_ids 8 opening boundary_of_eight).settled ≡ 9

-- with a width of eight, the run of `boundary_of_eight` by numbers makes one settlement
abbrev pub NumbersSettleOne : Type 0
NumbersSettleOne = (opening : State) → length (left_by_numbers 8 opening boundary_of_eight).settled ≡ 1
