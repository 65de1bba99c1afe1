-- The bytes of a line that a station keeps are those that came on this connection after the last line feed (`rest_of`). An act
-- is one call on the link, with its result. A piece is the bytes that one read gave.
use Rattle.gc_station.proofs.Common.{◌≡◌, ℕ, Bool, true, false, List, [], ◌∷◌, if◌then◌else◌, refl, sym, ap, ◌∙◌, rest_behind, rest_of, Task, Plan, Action, Act, Gave, turned, loses_all, state_after, Model, opening, action_at, with_progress, with_rest, lines_completed, after_piece, is_heard, Performs, moved, losing, after, after_all, Runs, Scope}
use Rattle.gc_lines.proofs.Cutting.{rest-append}
use Rattle.gc_station.specs.Given.{bytes_by, bytes_heard_with, bytes_heard_from, bytes_heard}
use Rattle.gc_station.proofs.Walk.{lines_along, losing_along, walk, piece_before}
use Rattle.gc_station.specs.declared.progress.Action.TheVariants as actions

-- the bytes of an unfinished line that are kept after an act, if `rest` were kept before it
abbrev pub rest_with : (heard : Bool) → Act → (rest : List ℕ) → List ℕ
rest_with heard act rest = bytes_by rest_behind heard act rest

-- after a piece that is heard, the bytes of a line that are kept are those that `rest_behind` gives, of the bytes kept before and
-- the piece; after one that isn't heard, they are those kept before
came_rest : (heard : Bool) (word piece : List ℕ) (s : Model) → (after_piece heard word piece s).rest ≡ (if heard then rest_behind s.rest piece else s.rest)
came_rest true [] piece s = lines_along (λ (t : Model). t.rest ≡ rest_behind s.rest piece) (λ t line e. e) (with_rest (rest_behind s.rest piece) s) (lines_completed s.rest piece) refl
came_rest true (asked ∷ others) piece s = refl
came_rest false word piece s = refl

-- an act leaves the bytes of a line as `rest_with` says
abbrev LeavesRest : Model → Act → Model → Type 0
LeavesRest s act t = t.rest ≡ rest_with (is_heard s.progress.phase) act s.rest

-- an act of each action leaves the bytes of a line as `rest_with` says
moved_rest : (plan : Plan) (commands : List Task) (next : Action) (s : Model) (act : Act) → Performs commands s next act → LeavesRest s act (moved plan commands next (with_progress turned s) act)
moved_rest plan commands (actions.Read until) s act o =
    walk plan commands (LeavesRest s) (actions.Read until) (with_progress turned s) act o
    (λ bytes m. came_rest (is_heard s.progress.phase) s.progress.exchange.word bytes (piece_before m s), λ m. refl, refl, refl, refl)
moved_rest plan commands (actions.Close why) s act o = walk plan commands (LeavesRest s) (actions.Close why) (with_progress turned s) act o refl
moved_rest plan commands (actions.Stop why) s act o = absurd o
moved_rest plan commands next s act o = walk plan commands (LeavesRest s) next (with_progress turned s) act o (λ m. refl, λ n. refl)

-- the loss of what is outstanding leaves the bytes of a line
losing_rest : (all : Bool) (s : Model) → (losing all s).rest ≡ s.rest
losing_rest all s = losing_along (λ (t : Model). t.rest ≡ s.rest) all s refl refl

-- an act of a run leaves the bytes of a line as `rest_with` says
pub after_rest : (plan : Plan) (commands : List Task) (s : Model) (act : Act) → Performs commands s (action_at plan s) act
    → (after plan commands s act).rest ≡ rest_with (is_heard s.progress.phase) act s.rest
after_rest plan commands s act o = let t = moved plan commands (action_at plan s) (with_progress turned s) act in
    losing_rest (loses_all t.progress) t ∙ moved_rest plan commands (action_at plan s) s act o

-- the bytes kept of all that came, after one act more, are what the act makes of the bytes kept before it
rest_one_more : (heard : Bool) (act : Act) (bytes : List ℕ) → rest_with heard act (rest_of bytes) ≡ rest_of (bytes_heard_with heard act bytes)
rest_one_more true (Gave piece m) bytes = sym (rest-append [] bytes piece)
rest_one_more false (Gave piece m) bytes = refl
rest_one_more heard act bytes = refl

-- if the bytes that are kept are the rest of `bytes`, after any acts they are the rest of what `bytes_heard_from` makes of
-- `bytes`
rest_along : (plan : Plan) (commands : List Task) (s : Model) (bytes : List ℕ) (acts : List Act) → s.rest ≡ rest_of bytes → Runs plan commands s acts
    → (after_all plan commands s acts).rest ≡ rest_of (bytes_heard_from plan commands s bytes acts)
rest_along plan commands s bytes [] same runs = same
rest_along plan commands s bytes (act ∷ acts) same runs =
    let heard = is_heard s.progress.phase in
    rest_along plan commands (after plan commands s act) (bytes_heard_with heard act bytes) acts
    (after_rest plan commands s act runs.0 ∙ ap (λ r. rest_with heard act r) same ∙ rest_one_more heard act bytes) runs.1

-- the bytes of a line that a station keeps are what comes after the last line feed (`rest_of`) of what was heard on its
-- connection
pub rest_given : (plan : Plan) (commands : List Task) (scope : Scope) (acts : List Act) → Runs plan commands (opening plan scope) acts
    → (state_after plan commands scope acts).rest ≡ rest_of (bytes_heard plan commands scope acts)
rest_given plan commands scope acts runs = rest_along plan commands (opening plan scope) [] acts refl runs
