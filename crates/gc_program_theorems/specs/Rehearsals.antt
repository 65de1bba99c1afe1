-- What holds of a station over a rehearsed line, this project's own. A rehearsed line is one in memory with the instrument of a
-- scene at its end; nothing is assumed of which lines it loses, repeats and holds.
use Rattle.gc_program_theorems.specs.Common.{AllByRecursion, Act, SceneState, Runs, opening, state_after, none_under_way, Run, killed_unless_begun, AreFaithful, AreInARow, IsInField, IsRunFaithful, Program, KeptReplyReads, scene_ends, scene_kept, HasComeTo, Lines, AreAskable, RehearsedStation, RunsAndStops, acts_of_all}
use Rattle.std.specs.Prelude.{◌≡◌, ℕ, ◌≤◌, List, [], ◌∷◌, ◌++◌, length}
use Rattle.gc_program_theorems.specs.Exchanges.{Exchange, exchanges_of, exchanges_of_all, exchanges_of_runs}
use Rattle.gc_program_theorems.specs.OnLine.{AllAreOnLine, AnswersAreOnLine}

-- the run of a station as a program of the field, where `runs` is what happens on the line in each part of the run
abbrev pub as_program : RehearsedStation → (runs : List (Run SceneState)) → Program SceneState
as_program x runs = record { plan = x.plan; commands = x.commands; scope = x.scope; acts = x.acts; runs = runs }

-- nothing is in flight on a line, and this is the state of the instrument
abbrev pub none_in_flight : SceneState → Lines
none_in_flight start = record { up = []; down = []; state = start }

-- what the instrument did on a rehearsed line that has come to these lines by what happened on it (`HasComeTo`)
abbrev pub exchanges_happened : {acts : List Act} (lines : Lines) → HasComeTo acts lines → List Exchange
exchanges_happened lines h = exchanges_of (none_in_flight h.start) h.happened lines h.leads

-- the run of a station over a rehearsed line, from its first act on, is one in the field, by what happened on that very line (`h`):
-- there are runs on a line of the field, over the instrument that was there, that show the station what it saw, and in which that
-- instrument did what it did on the rehearsed line: it was handed the same requests, in the same states, and made the same
-- replies. And the run is faithful: each answer that it recorded was made, on the rehearsed line, on executing the request of that
-- very cycle and place (`AnswersAreOnLine`)
pub record IsRehearsed (x : RehearsedStation) (lines : Lines) (h : HasComeTo x.acts lines) : Type 0 where
  pub runs : List (Run SceneState)
  pub same : exchanges_of_runs (none_under_way h.start) runs ≡ exchanges_happened lines h
  pub field : IsInField scene_ends KeptReplyReads scene_kept (none_under_way h.start) (as_program x runs)
  pub faithful : IsRunFaithful scene_ends KeptReplyReads scene_kept (none_under_way h.start) (as_program x runs)
  pub answers : AnswersAreOnLine (exchanges_happened lines h) (none_under_way h.start) (as_program x runs)

-- whatever happened on a rehearsed line on which nothing was in flight before, and whose instrument kept no reply then: each run of
-- a station over it is one in the field, by what happened, and so faithful, if its commands are `IsAskable`. Nothing is asked of the
-- line, of the station's moments or of its plan, nor of what comes after the run
abbrev pub RehearsalsAreFaithful : Type 0
RehearsalsAreFaithful =
    (x : RehearsedStation) (lines : Lines) (h : HasComeTo x.acts lines) → AreAskable x.commands → Runs x.plan x.commands (opening x.plan x.scope) x.acts
    → IsRehearsed x lines h

-- Stations one after the other.

-- these stations as programs of the field, with what happens on the line in each of their runs: as many as there are of both
abbrev pub programs : List RehearsedStation → List (List (Run SceneState)) → List (Program SceneState)
programs (x ∷ xs) (rs ∷ rss) = as_program x rs ∷ programs xs rss
programs _ _ = []

-- which ids of its last synchronization's word a station leaves unanswered at the end of its acts; none, if it has synchronized
abbrev pub left_at_its_end : RehearsedStation → List ℕ
left_at_its_end x = (state_after x.plan x.commands x.scope x.acts).progress.exchange.word

-- fewer than six of these stations in a row end while they synchronize, counted with the `n` that ended so directly before the
-- first. One during whose last synchronization no null procedure was answered leaves the count as it was (`killed_unless_begun`),
-- also if it had synchronized before that
abbrev pub FewEndUnbegun : ℕ → List RehearsedStation → Type 0
FewEndUnbegun n [] = Unit {0}
FewEndUnbegun n (x ∷ xs) = (killed_unless_begun (left_at_its_end x) n ≤ 5) × FewEndUnbegun (killed_unless_begun (left_at_its_end x) n) xs

-- stations in a row are in the field, by what happened on the rehearsed line (`h`): with a list of runs for each, they are programs
-- in a row (`AreInARow`), and each of them is faithful. What the instrument did in these runs, and `after` the last station's run,
-- is what it did on the rehearsed line; each answer of each station was made there, on executing its own request
pub record AreRehearsed (xs : List RehearsedStation) (lines : Lines) (h : HasComeTo (acts_of_all xs) lines) : Type 0 where
  pub runs : List (List (Run SceneState))
  pub each : length runs ≡ length xs
  pub after : List Exchange
  pub same : exchanges_of_all (none_under_way h.start) runs ++ after ≡ exchanges_happened lines h
  pub field : AreInARow scene_ends KeptReplyReads scene_kept 0 (none_under_way h.start) (programs xs runs)
  pub faithful : AreFaithful scene_ends KeptReplyReads scene_kept (none_under_way h.start) (programs xs runs)
  pub answers : AllAreOnLine (exchanges_happened lines h) (none_under_way h.start) (programs xs runs)

-- whatever happened on a rehearsed line on which nothing was in flight before, and which keeps what it likes of what is in flight at
-- a close: stations that run one after the other over it are stations in a row in the field, by what happened, and so each is
-- faithful, as long as fewer than six in a row end while they synchronize. Their commands are `IsAskable`, and between two of them
-- nothing is sent whole and nothing comes (`RunsAndStops`)
abbrev pub RehearsalsInARowAreFaithful : Type 0
RehearsalsInARowAreFaithful =
    (xs : List RehearsedStation) (lines : Lines) (h : HasComeTo (acts_of_all xs) lines) → AllByRecursion RunsAndStops xs → FewEndUnbegun 0 xs
    → AreRehearsed xs lines h
