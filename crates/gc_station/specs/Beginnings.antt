-- Synchronizations, this project's own. A station synchronizes by eight null procedures, which are sent one after the other:
-- each is sent again until a reply with its id has come. Commands are sent after that. Each new connection is cleared by a lone
-- line feed; if the station had synchronized before it was made, the connection is drained, too, until it is quiet. The `word`
-- of a station is the list of the ids of the null procedures that aren't answered yet, in order. An act is one call on the
-- link, with its result.
use Rattle.gc_station.specs.Common.{AllByRecursion, filter_map, IsSubsequence, the_word, fresh, heard, Task, Act, Put, Gave, Opened}
use Rattle.std.specs.Prelude.{◌≡◌, ℕ, true, false, List, [], ◌∷◌, ◌++◌, if◌then◌else◌}
use Rattle.gc_station.specs.declared.plan.Plan.{Plan}
use Rattle.gc_station.specs.Deciding.{has_begun}
use Rattle.gc_station.specs.Ends.{Resynchronizes}
use Rattle.gc_station.specs.Quiet.{IsAsking, SendsRequest, IsQuietFirst, StaysConnected}
use Rattle.gc_station.specs.Runs.{state_after}
use Rattle.gc_station.specs.Scopes.{Scope}
use Rattle.gc_station.specs.ActKinds.{Puts}
use Rattle.gc_station.specs.Model.{Model, Runs, after, is_heard, lines_completed, null_text, opening, action_at}
pub use Rattle.gc_client.specs.Beginning.{unanswered_after}

-- the lines that the act completes and the station hears, if it has the model `s` before the act; none in a phase in which what
-- comes is discarded
abbrev pub lines_heard_at : Model → Act → List (List ℕ)
lines_heard_at s (Gave piece m) = if is_heard s.progress.phase then lines_completed s.rest piece else []
lines_heard_at s act = []

-- the lines that are heard at these acts, in order, from the model `s` on
abbrev pub lines_heard : Plan → List Task → Model → List Act → List (List ℕ)
lines_heard plan commands s [] = []
lines_heard plan commands s (act ∷ acts) = lines_heard_at s act ++ lines_heard plan commands (after plan commands s act) acts

-- if after the acts `earlier` and then `between` a command is sent next, or a null procedure that isn't of a synchronization:
-- the ids that weren't answered after `earlier` are, in order, among the ids of the lines that were heard in `between`. So if
-- `earlier` ends at the start of a run, or where the station resynchronizes, all eight ids were heard in `between`
abbrev pub NoneBeforeTheLastAnswer : Type 0
NoneBeforeTheLastAnswer =
    (plan : Plan) (commands : List Task) (scope : Scope) (earlier between : List Act) → Runs plan commands (opening plan scope) (earlier ++ between)
    → IsAsking (action_at plan (state_after plan commands scope (earlier ++ between)))
    → let s = state_after plan commands scope earlier in IsSubsequence s.progress.exchange.word (filter_map heard (lines_heard plan commands s between))

-- what holds of an act while the station synchronizes; it has the model `s` before the act, and `t` after it
pub record IsSynchronizing (s : Model) (act : Act) (t : Model) : Type 0 where
  -- the client is new: none of its requests is outstanding
  pub client : s.client ≡ fresh
  pub marks : s.marks ≡ []
  -- a request that is sent is the null procedure of the first id that isn't answered
  pub asks : SendsRequest act → Puts (null_text s.progress.exchange.word) act
  -- the ids that are left after the act: each line that it brings answers the first id that is left if it has that id, and
  -- otherwise none
  pub left : t.progress.exchange.word ≡ unanswered_after s.progress.exchange.word (lines_heard_at s act)

-- at the act `act`, made after `acts`, the station resynchronizes, as `Resynchronizes` says, and begins anew: after the act no
-- null procedure is answered, and the client is new
pub record SynchronizesAnew (plan : Plan) (commands : List Task) (scope : Scope) (acts : List Act) (act : Act) : Type 0 where
  pub resynchronizes : Resynchronizes plan (state_after plan commands scope acts) act
  pub word : (state_after plan commands scope (acts ++ act ∷ [])).progress.exchange.word ≡ the_word
  pub client : (state_after plan commands scope (acts ++ act ∷ [])).client ≡ fresh

-- a run begins with all eight null procedures (`starts`); `IsSynchronizing` holds of each act while the station synchronizes
-- (`begins`), and `SynchronizesAnew` of an act after which the station synchronizes, and before which it didn't (`anew`)
pub record SynchronizesInOrder (plan : Plan) (commands : List Task) (scope : Scope) (acts : List Act) (act : Act) : Type 0 where
  pub starts : (state_after plan commands scope []).progress.exchange.word ≡ the_word
  pub begins : has_begun (state_after plan commands scope acts).progress ≡ false
      → IsSynchronizing (state_after plan commands scope acts) act (state_after plan commands scope (acts ++ act ∷ []))
  pub anew : has_begun (state_after plan commands scope acts).progress ≡ true → has_begun (state_after plan commands scope (acts ++ act ∷ [])).progress ≡ false
      → SynchronizesAnew plan commands scope acts act

-- among `acts` a connection was made, which is still there (`stays`), and as soon as it was made a lone line feed was sent
-- whole. If the station had synchronized by then, the connection was quiet before anything else was sent on it
pub record IsClearedAndQuiet (plan : Plan) (commands : List Task) (scope : Scope) (acts : List Act) : Type 0 where
  pub before : List Act
  pub behind : List Act
  pub order : acts ≡ before ++ Opened ∷ Put (10 ∷ []) ∷ behind
  pub stays : AllByRecursion StaysConnected behind
  pub quiet : has_begun (state_after plan commands scope before).progress ≡ true → IsQuietFirst plan.quiet behind
