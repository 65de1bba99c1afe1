-- The records of a model only grow: what comes is recorded after them (`Grew`), and none goes. An act is one call on the link,
-- with its result. A piece is the bytes that one read gave.
use Rattle.gc_station.proofs.Common.{ℕ, Bool, List, [], map, refl, sym, subst, heard, hears, lost, Task, Plan, Action, Act, Told, Gave, records_of, moment_noted, Model, is_heard, with_progress, with_moment, line_came, lines_came, after_piece, unsent_record, moved, losing, Record, Grew}
use Rattle.gc_station.proofs.Records.{grew_none, grew_then}
use Rattle.gc_station.proofs.Walk.{lines_along, came_along, losing_along, moved_changed}
use Rattle.gc_station.specs.declared.progress.Action.TheVariants as actions

-- a line that is heard adds records, if any, to those of a model that only grew from `old`
line_grew : (old : List Record) (s : Model) (line : List ℕ) → Grew old s.records → Grew old (line_came s line).records
line_grew old s line grew =
    grew_then old s.records (line_came s line).records grew (records_of s.reads s.progress.moment.utc s.marks (hears s.client line (heard line)).settlements, refl)

-- lines that are heard only add records
pub lines_records : (s : Model) (lines : List (List ℕ)) → Grew s.records (lines_came s lines).records
lines_records s lines = lines_along (λ (t : Model). Grew s.records t.records) (line_grew s.records) s lines (grew_none s.records)

-- the loss of what is outstanding only adds records
pub losing_records : (all : Bool) (s : Model) → Grew s.records (losing all s).records
losing_records all s =
    losing_along (λ (t : Model). Grew s.records t.records) all s (records_of s.reads s.progress.moment.utc s.marks (map lost s.client.waiting), refl) (grew_none s.records)

-- a piece only adds records
came_grew : (heard : Bool) (word piece : List ℕ) (s : Model) → Grew s.records (after_piece heard word piece s).records
came_grew heard word piece s =
    came_along (λ (t : Model). Grew s.records t.records) (line_grew s.records) heard word piece s (grew_none s.records) (grew_none s.records) (grew_none s.records)

-- an act only adds records
pub moved_grew : (plan : Plan) (commands : List Task) (action : Action) (s : Model) (act : Act) → Grew s.records (moved plan commands action s act).records
moved_grew plan commands actions.Skip s (Told m) = (unsent_record plan commands s.progress (Told m), refl)
moved_grew plan commands actions.Skip s act = ([], refl)
moved_grew plan commands (actions.Read until) s (Gave bytes m) = came_grew (is_heard s.progress.phase) s.progress.exchange.word bytes (with_moment m (with_progress (moment_noted m) s))
moved_grew plan commands (actions.Read until) s act = grew_none s.records
moved_grew plan commands action s act = subst (λ (t : Model). Grew s.records t.records) (sym (moved_changed plan commands action s act)) (grew_none s.records)
