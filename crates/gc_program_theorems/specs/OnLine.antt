-- Answers that were made on a rehearsed line, this project's own.
use Rattle.gc_program_theorems.specs.Common.{AllByRecursion, asked_line, Asked, ById, WINDOW, SceneState, line_of, call_at, Task, Part, occasion_in, Record, UnderWay, left_by_runs, ids_begun, Move, WasMadeFrom, wire_behind, IsItsOwn, Program, program_parts, program_records, KeptReplyReads, scene_ends, scene_kept, Stretch, stretches, World}
use Rattle.std.specs.Prelude.{◌≡◌, ℕ, ◌+◌, List, [], ◌∷◌, Some, slice_get}
use Rattle.gc_program_theorems.specs.Exchanges.{Exchange}

-- the line that was made on executing this request (`made`) was made so on the rehearsed line: among these exchanges, which are those
-- that happened there, is the one of that request, in the state in which it was executed, with this line as the reply
pub record WasMadeOnLine
    (es : List Exchange) (start : World (ById Asked) SceneState) (ms : List (Move SceneState)) (m : ℕ) (call : Asked) (line : List ℕ)
    (made : WasMadeFrom WINDOW scene_ends start ms m call line) : Type 0 where
  pub place : ℕ
  pub exchange : Exchange
  pub there : slice_get es place ≡ Some exchange
  pub request : exchange.request ≡ asked_line (Some made.id) call
  pub before : exchange.before ≡ (wire_behind WINDOW scene_ends start made.front).state
  pub reply : exchange.reply ≡ Some line

-- Of a run with the parts `ps` and the stretches `ss`, where these exchanges happened.
module _ (es : List Exchange) (commands : List Task) (ps : List Part) (ss : List (Stretch SceneState)) where
  -- the answer `line` of record `r` is its own (`IsItsOwn`): the instrument made this line on executing the very request of the
  -- record's cycle and place; and it did so on the rehearsed line
  pub record IsItsOwnOnLine (r : Record) (line : List ℕ) : Type 0 where
    pub own : IsItsOwn scene_ends KeptReplyReads scene_kept commands ps ss r line
    pub happened :
        WasMadeOnLine es (ids_begun own.of.stretch.from) own.of.stretch.moves (8 + own.of.m) (call_at own.of.task (occasion_in own.of.expected r)) line own.made_on

  -- if a record is of a reply in time, its line was made on the rehearsed line, on executing its own request
  abbrev pub IsOwnOnLine : Record → Type 0
  IsOwnOnLine r = (line : List ℕ) → line_of r.end ≡ Some line → IsItsOwnOnLine r line

-- each answer that this program recorded was made on the rehearsed line, where these exchanges happened, on executing its own request;
-- `u` is in flight when the program begins
abbrev pub AnswersAreOnLine : List Exchange → (u : UnderWay SceneState) → Program SceneState → Type 0
AnswersAreOnLine es u x = AllByRecursion (IsOwnOnLine es x.commands (program_parts x) (stretches scene_ends u x.runs)) (program_records x)

-- and so is each answer of each of these programs, one after the other
abbrev pub AllAreOnLine : List Exchange → (u : UnderWay SceneState) → List (Program SceneState) → Type 0
AllAreOnLine es u [] = Unit {0}
AllAreOnLine es u (x ∷ xs) = AnswersAreOnLine es u x × AllAreOnLine es (left_by_runs WINDOW scene_ends u x.runs) xs
