-- Laws of what a station's text says of procedures that aren't in the table: this project's own.
use Rattle.gc_texts.specs.Common.{AllByRecursion, Nothing, Reading, Asked, Raw, RawCall, Direction, Value}
use Rattle.std.specs.Prelude.{◌≡◌, ◌≤◌, ℕ, Bool, true, List, ◌∷◌, ◌++◌, length, map, Option, None, Some}
use Rattle.gc_texts.specs.Fields.{field_seen}
use Rattle.gc_texts.specs.Forms.{IsFormReading, form_of, measured_part}
use Rattle.gc_texts.specs.Measured.{measured_direction, measured_distance}
use Rattle.gc_texts.specs.Nears.{direction_of, distance_of}
use Rattle.gc_texts.specs.NewColumns.{has_column, is_new_column}
use Rattle.gc_texts.specs.Tasks.{IsTaken, IsTasks, TasksSeen, form_of_asked}
use Rattle.gc_texts.specs.declared.description.Description.{Description}
use Rattle.gc_texts.specs.declared.expectation.Expectation.{Expectation}
use Rattle.gc_texts.specs.declared.field.Field.{Field}
use Rattle.gc_texts.specs.declared.form.Form.{Form}
use Rattle.gc_texts.specs.declared.task_line.TaskLine.{TaskLine}
use Rattle.gc_texts.specs.declared.tasks.Task.{Task}
use Rattle.gc_texts.specs.declared.wish.Wish.{Wish}
use Rattle.gc_texts.specs.declared.wording.Wording.TheVariants.{Described}
use Rattle.gc_texts.specs.declared.task_line.TaskLine.TheVariants as says

-- what is asked for behind the lines `front` is a procedure that one of them describes, by its number, with parameters that it may be asked
-- for with: of the kinds that this line says, with a number in the place of each value of a file (`IsTaken`); and where `described` are the text's descriptions, its answers are read by the form that the line says
pub record IsDescribedCommand (front : List TaskLine) (described : List Description) (asked : Asked) : Type 0 where
  pub raw : RawCall
  pub asked_is : asked ≡ Raw raw
  pub description : Description
  pub earlier : List TaskLine
  pub between : List TaskLine
  pub line : front ≡ earlier ++ says.Describing description ∷ between
  pub number : description.rpc ≡ raw.rpc
  pub taken : IsTaken description raw
  pub form : form_of_asked described asked ≡ Some (form_of description)

-- each command of a text that asks for a procedure outside the table by its number alone asks for one that a line before it describes, as
-- that line says
abbrev pub DescribedCommandsFit : Type 0
DescribedCommandsFit =
    (text : List ℕ) (deadline : ℕ) (chained : Bool) (all : TasksSeen) (is : IsTasks text deadline chained all)
    (front later : List TaskLine) (command : Wish) (expects : Option Expectation) → is.said ≡ front ++ says.Command command Described expects ∷ later
    → IsDescribedCommand front all.described command.call

-- where a line describes a procedure, its answers have the form that the line says in each command for it, before the line and after it
abbrev pub FormsHoldForAll : Type 0
FormsHoldForAll =
    (text : List ℕ) (deadline : ℕ) (chained : Bool) (all : TasksSeen) (is : IsTasks text deadline chained all)
    (front later : List TaskLine) (description : Description) → is.said ≡ front ++ says.Describing description ∷ later
    → (earlier others : List Task) (task : Task) (raw : RawCall) → all.tasks ≡ earlier ++ task ∷ others → task.command.call ≡ Raw raw
    → raw.rpc ≡ description.rpc → task.form ≡ Some (form_of description)

-- the answers to what is asked for have this form, since one of these lines describes its procedure
pub record HasItsForm (said : List TaskLine) (asked : Asked) (form : Form) : Type 0 where
  pub raw : RawCall
  pub asked_is : asked ≡ Raw raw
  pub description : Description
  pub front : List TaskLine
  pub later : List TaskLine
  pub line : said ≡ front ++ says.Describing description ∷ later
  pub number : description.rpc ≡ raw.rpc
  pub form_is : form ≡ form_of description

-- a command whose answers have a form asks for a procedure that a line describes, and has the form that this line says
abbrev pub FormsAreDescribed : Type 0
FormsAreDescribed =
    (text : List ℕ) (deadline : ℕ) (chained : Bool) (all : TasksSeen) (is : IsTasks text deadline chained all)
    (earlier others : List Task) (task : Task) (form : Form) → all.tasks ≡ earlier ++ task ∷ others → task.form ≡ Some form
    → HasItsForm is.said task.command.call form

-- a reply's parameters have one reading by a form at most
abbrev pub OneFormReading : Type 0
OneFormReading = (form : Form) (params : List ℕ) (one other : Reading) → IsFormReading form params one → IsFormReading form params other → one ≡ other

-- what says where the answer of a described procedure was measured is what its columns have: its direction is that of the columns `hz_rad`
-- and `v_rad`; its distance, where it has a direction, is that of the column `distance_m`; and without a direction there is nothing
pub record MeasuredAsColumns : Type 0 where
  pub direction : (d : Description) (values : List Value)
      → direction_of (measured_part (form_of d) values) ≡ measured_direction (map field_seen d.values.items) values
  pub distance : (d : Description) (values : List Value) (toward : Direction) → measured_direction (map field_seen d.values.items) values ≡ Some toward
      → distance_of (measured_part (form_of d) values) ≡ measured_distance (map field_seen d.values.items) values
  pub nothing : (d : Description) (values : List Value) → measured_direction (map field_seen d.values.items) values ≡ None
      → measured_part (form_of d) values ≡ Nothing

-- the columns that a text adds are at most 64; each is none of the table's quantities; and each value of a description that is none of
-- these has its column
pub record AddsColumns (said : List TaskLine) (all : TasksSeen) : Type 0 where
  pub few : length all.columns ≤ 64
  pub new : AllByRecursion (λ column. is_new_column column.items ≡ true) all.columns
  pub each : (front later : List TaskLine) (d : Description) → said ≡ front ++ says.Describing d ∷ later
      → (before behind : List Field) (field : Field) → d.values.items ≡ before ++ field ∷ behind → is_new_column field.name.items ≡ true
      → has_column all.columns field.name.items ≡ true

abbrev pub TextsAddColumns : Type 0
TextsAddColumns =
    (text : List ℕ) (deadline : ℕ) (chained : Bool) (all : TasksSeen) (is : IsTasks text deadline chained all) → AddsColumns is.said all
