-- The state of a simulated instrument, as it is at the start and after a restart: this project's own.
use Rattle.std.specs.Prelude.{◌≡◌, ◌≤◌, ℕ, ℤ, pos, List, [], ◌∷◌, Option, Some, None, IfSome, codes, refl}
use Rattle.std.specs.Option.{option_map}
use Rattle.gc_lines.specs.Prelude.{ReplyFields, IsReply}
use Rattle.gc_values.specs.Prelude.{decimal, zero, IsText, FitsLong, AreValues}
use Rattle.gc_values.specs.declared.decimal.Decimal.{Decimal}
use Rattle.gc_catalogue.specs.Prelude.{date_values}
use Rattle.gc_catalogue.specs.declared.call.Station.{Station}
use Rattle.gc_catalogue.specs.declared.call.DateTime.{DateTime}
use Rattle.gc_instrument.specs.declared.face.Face.{Face}
use Rattle.gc_instrument.specs.declared.face.Face.TheVariants.{Normal}
use Rattle.gc_instrument.specs.declared.pointing.Pointing.{Pointing}
use Rattle.gc_instrument.specs.declared.target.Target.{Target}

-- a stored reply: the id of the request that it answered, and its line
pub record KeptReply : Type 0 where
  pub id : ℕ
  pub line : List ℕ

-- the stored reply after an execution: the id and the reply line of the request if the request carried an id, and else what was
-- stored before (`kept`), a reply or none
abbrev pub kept_after : (kept : Option KeptReply) → (id : Option ℕ) → (line : List ℕ) → Option KeptReply
kept_after kept None line = kept
kept_after kept (Some id) line = Some (record { id = id; line = line })

-- the id of the stored reply, if one is stored
abbrev pub kept_id : Option KeptReply → Option ℕ
kept_id kept = option_map (λ (k : KeptReply). k.id) kept

-- the stored reply with this id and this line; none without an id
abbrev pub kept_in : (id : Option ℕ) → (line : List ℕ) → Option KeptReply
kept_in id line = kept_after None id line

-- the state of an instrument; lengths are in metres, angles in radians
pub record State : Type 0 where
  -- what an instrument is made with
  pub serial : ℤ
  pub name : List ℕ
  pub scene : List Target
  -- to how many places doubles are rounded in replies
  pub precision : ℕ
  pub station : Station
  -- the reflector's height
  pub height : Decimal
  pub face : Face
  pub pointing : Pointing
  -- the slope distance of the last measurement; none before the first measurement, if the last one met no target, or once the
  -- distance was cleared
  pub distance : Option Decimal
  pub date : DateTime
  -- the type of the prism
  pub prism : ℤ
  -- the stored reply: that of the last request that carried an id and was executed since the last restart; none if there was none
  pub kept : Option KeptReply

-- the stored line is a reply with the stored id
pub record IsFittingReply (k : KeptReply) : Type 0 where
  pub fields : ReplyFields
  pub is_reply : IsReply k.line fields
  pub same_id : fields.id ≡ Some k.id

-- `IsFittingReply` holds of the stored reply, if there is one
abbrev pub IsFittingKept : Option KeptReply → Type 0
IsFittingKept kept = IfSome kept IsFittingReply

-- what is known of every instrument's state: the precision is at most 15, the other values are in the ranges of their types, and
-- the stored reply is a reply with the stored id
pub record IsFittingState (s : State) : Type 0 where
  pub precision : s.precision ≤ 15
  pub serial : FitsLong s.serial
  pub name : IsText s.name
  pub date : AreValues (date_values s.date)
  pub prism : FitsLong s.prism
  pub kept : IsFittingKept s.kept

-- the station at the start: all values are 0.0
abbrev pub origin : Station
origin = record { e0 = zero; n0 = zero; h0 = zero; hi = zero }

-- the pointing at the start: both angles are 0.0
abbrev pub first_pointing : Pointing
first_pointing = record { hz = zero; v = zero }

-- the date at the start: 1996-07-25 16:19:47
abbrev pub first_date : DateTime
first_date = record { year = pos 1996; month = 7; day = 25; hour = 16; minute = 19; second = 47 }

-- the state at the start, of an instrument with this serial number, this name and this scene (this project's own)
abbrev pub opening : (serial : ℤ) → (name : List ℕ) → (scene : List Target) → State
opening serial name scene = record {
  serial = serial;
  name = name;
  scene = scene;
  precision = 15;
  station = origin;
  height = zero;
  face = Normal;
  pointing = first_pointing;
  distance = None;
  date = first_date;
  prism = pos 0;
  kept = None;
}

-- the state at the start of the instrument with this state's serial number, name and scene
abbrev pub opening_of : State → State
opening_of s = opening s.serial s.name s.scene

-- the state after a restart: the instrument's state at the start, but with the precision as it was; no reply is stored
abbrev pub restarted : State → State
restarted s = record (opening_of s) { precision = s.precision }

-- the three targets of the simulator; `decimal (pos 25125) 3 refl` is 25.125
abbrev pub simulator_scene : List Target
simulator_scene =
    record { hz = decimal (pos 5) 1 refl; v = decimal (pos 15) 1 refl; distance = decimal (pos 25125) 3 refl }
    ∷ (record { hz = decimal (pos 225) 2 refl; v = decimal (pos 1625) 3 refl; distance = decimal (pos 1100625) 4 refl }
    ∷ (record { hz = decimal (pos 4) 0 refl; v = decimal (pos 15) 1 refl; distance = decimal (pos 485) 1 refl } ∷ []))

-- the simulator at the start (this project's own)
abbrev pub simulator_opening : State
simulator_opening = opening (pos 123456) (codes "GEOCOM SIM") simulator_scene
