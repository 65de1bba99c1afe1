-- An instrument that is served over connections, one after the other, each of which finds it restarted: this project's own. Below,
-- `rule` is what the instrument does with a frame, `restart` what a restart makes of its state, `most` how many reads are made of a
-- connection at most, and `before` and `after` are its states. `Missing` is true of the faults for which a connection can't be had.
use Rattle.gc_ask.specs.Common.{AllByRecursion, AnswerRule, AnswersRun, HasEnded, Ports, Frame, Served, ServeFault, end_of_serving, RunFault}
use Rattle.std.specs.Prelude.{◌≡◌, ◌⊎◌, ◌<◌, ℕ, Bool, false, List, [], ◌∷◌, length, Option, Result, Ok, Err}
use Rattle.gc_ask.specs.Asking.{AreFresh, LinkResult}

-- a connection that was served: what is seen of its two directions before and after, and how serving it ended
pub record ServedConnection : Type 0 where
  pub old : Ports
  pub new : Ports
  pub end : Result Served ServeFault

-- a connection of which nothing had been read or written was served: the instrument was restarted, its answers to the frames that the
-- connection gave are, in order, what the connection took, as far as `AnswersRun` says by the end; and why serving ended is as
-- `HasEnded` says
pub record ServesConnection {State : Type 0} (rule : AnswerRule State Frame) (restart : State → State) (most : ℕ) (before after : State)
    (connection : ServedConnection) : Type 0 where
  pub fresh : AreFresh connection.old
  pub answers : AnswersRun rule (restart before) after connection.old connection.new false connection.end
  pub ended : HasEnded connection.old connection.new most connection.end

-- a connection was served (`ServesConnection`), and serving it ended so
pub record ServesOne {State : Type 0} (rule : AnswerRule State Frame) (restart : State → State) (most : ℕ) (before after : State)
    (end : Result Served ServeFault) : Type 0 where
  pub connection : ServedConnection
  pub serves : ServesConnection rule restart most before after connection
  pub end_is : connection.end ≡ end

-- one connection more was to be served, with this result: it was, and the result is how serving it ended; or it couldn't be had, and
-- then the instrument is as it was
abbrev pub ServesNext : {State : Type 0} → AnswerRule State Frame → (restart : State → State) → (most : ℕ) → (Missing : RunFault → Type 0)
    → (before after : State) → LinkResult → Type 0
ServesNext rule restart most Missing before after (Ok _) =
    (end : Result Served ServeFault) × (end_of_serving end ≡ Ok tt) × ServesOne rule restart most before after end
ServesNext rule restart most Missing before after (Err fault) =
    ((after ≡ before) × Missing fault)
    ⊎ ((end : Result Served ServeFault) × (end_of_serving end ≡ Err fault) × ServesOne rule restart most before after end)

-- these connections were served one after the other, each from the state that the one before left
abbrev pub ServesInOrder : {State : Type 0} → AnswerRule State Frame → (restart : State → State) → (most : ℕ) → (before : State)
    → List ServedConnection → (after : State) → Type 0
ServesInOrder rule restart most before [] after = after ≡ before
ServesInOrder {State} rule restart most before (connection ∷ later) after =
    (state : State) × ServesConnection rule restart most before state connection × ServesInOrder rule restart most state later after

-- serving this connection ended well
abbrev pub EndedWell : ServedConnection → Type 0
EndedWell connection = end_of_serving connection.end ≡ Ok tt

-- `count` connections were served one after the other, and serving each ended well
pub record ServesWell {State : Type 0} (rule : AnswerRule State Frame) (restart : State → State) (most : ℕ) (count : ℕ) (before after : State)
    : Type 0 where
  pub served : List ServedConnection
  pub order : ServesInOrder rule restart most before served after
  pub number : length served ≡ count
  pub well : AllByRecursion EndedWell served

-- `count` connections were to be served, with this result: all were, and each ended well; or fewer were, and then the next one had this
-- fault (`ServesNext`)
abbrev pub ServesEach : {State : Type 0} → AnswerRule State Frame → (restart : State → State) → (most : ℕ) → (Missing : RunFault → Type 0)
    → (count : ℕ) → (before after : State) → LinkResult → Type 0
ServesEach rule restart most Missing count before after (Ok _) = ServesWell rule restart most count before after
ServesEach {State} rule restart most Missing count before after (Err fault) =
    (served : ℕ) × (state : State) × (served < count) × ServesWell rule restart most served before state
    × ServesNext rule restart most Missing state after (Err fault)
