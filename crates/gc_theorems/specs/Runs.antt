-- A station in the field, this project's own: its runs, the line over all of its connections, and an instrument. Each answer
-- that it records was made on executing the very request of that cycle and place. A part is what the station sees of its run
-- from one synchronization to the next; a stretch is what happens on the line meanwhile, once it has synchronized. The word has
-- the ids of a synchronization's null procedures.
use Rattle.gc_theorems.specs.Common.{AllByRecursion, AllZip, asked_line, Asked, the_word, ById, Answered, Late, Settlement, lost, WINDOW, KeptReply, IsFittingState, Expected, call_at, line_of, Task, raises_doubt, Plan, Act, unanswered_after, AreBegun, heard_in, has_begun, EachOnce, parts, records_of, Part, MarksAsk, part_of_act, mark_of, occasion_in, sent_of, timeless, is_over, Record, asked_at, state_after, Model, opening, action_at, after, Runs, Scope, Reads, IsReplyTo}
use Rattle.std.specs.Prelude.{◌≡◌, ◌⊎◌, ℕ, ◌+◌, ◌<◌, ◌≤◌, Bool, true, false, ◌||◌, if◌then◌else◌, nat_le, List, [], ◌∷◌, ◌++◌, drop, length, map, Option, Some, slice_get}
use Rattle.gc_theorems.specs.Simulator.{simulator_ends}
use Rattle.gc_theorems.specs.World.{Ends, Numbered, Sent, World}
use Rattle.gc_theorems.specs.Asking.{MeansSyncSteps}
use Rattle.gc_theorems.specs.Begin.{IsWellFormed, LacksTheWord, UnderWay}
use Rattle.gc_theorems.specs.Beginnings.{AreOwn, AreRuns, Run}
use Rattle.gc_theorems.specs.Begun.{IsFaithful, WasMadeOn, world_once_begun}
use Rattle.gc_theorems.specs.Field.{Move, Sends, Tells, Comes, Foreign}
use Rattle.gc_theorems.specs.Instrument.{OfAnyInstrument}
use Rattle.gc_theorems.specs.Laws.{WasExecuted, asked, kept_of}
use Rattle.gc_theorems.specs.Meaning.{Means}
use Rattle.gc_theorems.specs.Shown.{AreShownAs, Stretch, stretches}
use Rattle.gc_texts.specs.Endings as end

-- a station's run as a program: its plan, its commands, its scope and its acts, and what happens on the line in each part of the
-- run (`runs`)
pub record Program (State : Type 0) : Type 0 where
  pub plan : Plan
  pub commands : List Task
  pub scope : Scope
  pub acts : List Act
  pub runs : List (Run State)

-- the parts of a program's run
abbrev pub program_parts : {State : Type 0} → Program State → List Part
program_parts x = parts x.plan x.commands x.scope x.acts

-- the records of a program's run
abbrev pub program_records : {State : Type 0} → Program State → List Record
program_records x = (state_after x.plan x.commands x.scope x.acts).records

-- no act follows those of a program's run: it is over
abbrev pub NoActFollows : {State : Type 0} → Program State → Type 0
NoActFollows x = is_over (state_after x.plan x.commands x.scope x.acts).progress ≡ true

-- whether a moment at or past this deadline is read among these moves
abbrev pub times_out : {State : Type 0} → ℕ → List (Move State) → Bool
times_out deadline [] = false
times_out deadline (Tells now ∷ ms) = nat_le deadline now || times_out deadline ms
times_out deadline (_ ∷ ms) = times_out deadline ms

module _ {State : Type 0} (ends : Ends State) where
  -- the world after these moves of a stretch. Its requests 0 to 7 are the null procedures of the synchronization, and the
  -- client's come after them
  abbrev pub world_at : Stretch State → List (Move State) → World (ById Asked) State
  world_at s ms = world_once_begun WINDOW ends s.from ms

  -- the world after a stretch
  abbrev pub world : Stretch State → World (ById Asked) State
  world s = world_at s s.moves

  -- the requests of the client in a stretch, without the null procedures of the synchronization
  abbrev pub own_sent : Stretch State → List Sent
  own_sent s = drop 8 (world s).wire.sent

  -- the settlements of the client's requests in a stretch
  abbrev pub own_settled : Stretch State → List (Settlement Asked)
  own_settled s = drop 8 (world s).wire.settled

  -- there are as many stretches as parts, and the requests of each stretch are those of its part, one for one
  abbrev pub AreSentAs : List Task → List Part → List (Stretch State) → Type 0
  AreSentAs commands ps ss = AllZip (λ p s. MarksAsk commands p.marks (map asked (own_sent s))) ps ss

  -- if a request is sent while fewer than seven are outstanding, the first reply to it that comes while it isn't settled settles
  -- it: as answered by that line, or as late if a moment at or past its deadline was read in between. `before` are the moves
  -- before it is sent, and `between` those from then on until the reply comes
  abbrev pub SettlesByFirstReply : Stretch State → Type 0
  SettlesByFirstReply s =
      (before between later : List (Move State)) (target : ℕ) (call : Asked) (deadline : ℕ) (line : List ℕ) (rest : List (Numbered (List ℕ)))
      → s.moves ≡ (before ++ Sends target call deadline ∷ between) ++ Comes line ∷ later
      → length (world_at s before).client.waiting < WINDOW
      → (world_at s (before ++ Sends target call deadline ∷ between)).wire.down ≡ record { number = length (world_at s before).wire.sent; line = line } ∷ rest
      → length (world_at s (before ++ Sends target call deadline ∷ between)).wire.settled ≤ length (world_at s before).wire.sent
      → slice_get (world s).wire.settled (length (world_at s before).wire.sent)
      ≡ Some (record { target = target; call = call; outcome = if times_out deadline between then Late else Answered line })

  -- no line that comes in a stretch raises a doubt (`raises_doubt`): of each reply with an id a request is outstanding, or its id is the one
  -- before that of the oldest. `front` are the moves before the line
  abbrev pub RaisesNoDoubt : Stretch State → Type 0
  RaisesNoDoubt s =
      (front later : List (Move State)) (line : List ℕ) → (s.moves ≡ front ++ Comes line ∷ later) ⊎ (s.moves ≡ front ++ Foreign line ∷ later)
      → raises_doubt (world_at s front).client line ≡ false

  -- the records that a run with these parts and stretches records, with the moment 0, where `reads` gives what a line says of its
  -- call: how each command ended in its own stretch, and as lost what is outstanding when the next stretch begins
  abbrev pub written_over : Reads → List Part → List (Stretch State) → List Record
  written_over reads (p ∷ []) (s ∷ []) = records_of reads 0 p.marks (own_settled s)
  written_over reads (p ∷ q ∷ ps) (s ∷ t ∷ ss) =
      records_of reads 0 p.marks (own_settled s ++ map lost (world s).client.waiting) ++ written_over reads (q ∷ ps) (t ∷ ss)
  written_over reads _ _ = []

-- the part p is what an act means that takes the station from the model s to t. While the station synchronizes (`false`), the
-- part has steps of the synchronization, as `MeansSyncSteps` says, and the lines heard in them decide which ids of the word are
-- left in t. Once it has synchronized (`true`), the part has steps of the client, as `Means` says: a request is sent as the bytes
-- of its line
abbrev pub IsMeant : Bool → Model → Act → Part → Model → Type 0
IsMeant true s act p t = (p.sync_steps ≡ []) × Means s.client s.rest act p.steps t.rest
IsMeant false s act p t = (p.steps ≡ []) × MeansSyncSteps s.progress.exchange.word s.rest act p.sync_steps t.rest × (t.progress.exchange.word ≡ unanswered_after s.progress.exchange.word (heard_in p.sync_steps))

-- each act of a run, from the model s on, means what the parts of the run count for it (`part_of_act`, `IsMeant`)
abbrev pub AreMeant : Plan → List Task → Model → List Act → Type 0
AreMeant plan commands s [] = Unit {0}
AreMeant plan commands s (act ∷ acts) =
    IsMeant (has_begun s.progress) s act (part_of_act plan commands s (action_at plan s) act) (after plan commands s act) × AreMeant plan commands (after plan commands s act) acts

-- the request of a record, in a run with the parts `ps` and the stretches `ss`: in stretch k, the client's request m is the
-- command of the record's cycle and place
pub record HasRequest {State : Type 0} (commands : List Task) (ps : List Part) (ss : List (Stretch State)) (r : Record) : Type 0 where
  pub k : ℕ
  pub part : Part
  pub stretch : Stretch State
  pub of_parts : slice_get ps k ≡ Some part
  pub of_stretches : slice_get ss k ≡ Some stretch
  pub m : ℕ
  pub expected : Expected
  pub mark : slice_get part.marks m ≡ Some (Some (mark_of expected r))
  pub task : Task
  pub listed : slice_get commands r.place ≡ Some task

module _ {State : Type 0} (ends : Ends State) (Good : State → Type 0) (kept : State → Option KeptReply) where
  -- a program is a run of its station, and for each part of the run what happens on the line and to an instrument: first while
  -- the station synchronizes, then once it has synchronized. In flight at its start (`u`) may be anything well formed
  -- (`IsWellFormed`) but the word (`LacksTheWord`); and each part is over what the one before it left. What these happenings show
  -- to the station and its client are the steps of its acts
  pub record IsInField (u : UnderWay State) (x : Program State) : Type 0 where
    pub runs : Runs x.plan x.commands (opening x.plan x.scope) x.acts
    pub lines : IsWellFormed Good u
    pub none : LacksTheWord u
    pub shown : AreShownAs ends u x.runs (program_parts x)
    pub possible : AreRuns WINDOW ends Good kept u x.runs

  -- Of a run with the parts `ps` and the stretches `ss`.
  module _ (commands : List Task) (ps : List Part) (ss : List (Stretch State)) where
    -- the line was made on executing the very request of record `r` (`h`): at one of the stretch's moves it, with what the
    -- command asks on the occasion on which it was sent, reached the instrument, which executed it, and this line was its reply
    abbrev pub WasMadeFor : (r : Record) → HasRequest commands ps ss r → (line : List ℕ) → Type 0
    WasMadeFor r h line = WasMadeOn WINDOW ends h.stretch.from h.stretch.moves (8 + h.m) (call_at h.task (occasion_in h.expected r)) line

    -- where the answer `line` of record `r` comes from: the instrument made this line on executing the very request of the
    -- record's cycle and place (`of`), which reached it as the request line of the record's id and call (`as_recorded`); and the
    -- line settled that request
    pub record IsItsOwn (r : Record) (line : List ℕ) : Type 0 where
      pub of : HasRequest commands ps ss r
      pub request : Sent
      pub sent : slice_get (own_sent ends of.stretch) of.m ≡ Some request
      pub asks : asked request ≡ asked_at (occasion_in of.expected r) of.task
      pub settled : slice_get (own_settled ends of.stretch) of.m ≡ Some (record { target = r.command.target; call = r.command.call; outcome = Answered line })
      pub made : (j : ℕ) × (slice_get (world ends of.stretch).wire.made j ≡ Some (record { number = 8 + of.m; line = line }))
      pub reply : IsReplyTo ends Good (call_at of.task (occasion_in of.expected r)) line
      pub executed : WasExecuted (world ends of.stretch).wire.executed (8 + of.m)
      pub made_on : WasMadeFor r of line
      pub as_recorded : asked_line (Some made_on.id) (call_at of.task (occasion_in of.expected r)) ≡ asked_line (Some r.id) r.command.call

    -- if a record is of a reply in time, its line was made on executing its own request: by `IsItsOwn`
    abbrev pub IsOwnAnswer : Record → Type 0
    IsOwnAnswer r = (line : List ℕ) → line_of r.end ≡ Some line → IsItsOwn r line

    -- the instrument executed the command of a late record `r`: it made a line on executing the request of the record's cycle and
    -- place (`of`), which reached it as the request line of the record's id and call
    pub record HasExecution (r : Record) : Type 0 where
      pub of : HasRequest commands ps ss r
      pub line : List ℕ
      pub made_on : WasMadeFor r of line
      pub as_recorded : asked_line (Some made_on.id) (call_at of.task (occasion_in of.expected r)) ≡ asked_line (Some r.id) r.command.call

    -- if a record is late, the instrument executed its command all the same: by `HasExecution`
    abbrev pub LateHasExecution : Record → Type 0
    LateHasExecution r = r.end ≡ end.Late → HasExecution r

  -- a stretch is faithful after its first moves, however many
  abbrev pub IsFaithfulThroughout : Stretch State → Type 0
  IsFaithfulThroughout s = (front later : List (Move State)) → s.moves ≡ front ++ later → IsFaithful WINDOW ends s.from front Good kept

  -- what holds of a run in the field, from its records back to what the instrument executed
  pub record IsRunFaithful (u : UnderWay State) (x : Program State) : Type 0 where
    -- no command is sent before the eighth null procedure is answered: neither at first, nor when the run resynchronizes
    pub begun : AreBegun the_word (program_parts x)
    -- and where it has synchronized, it has synchronized cleanly: no request from before is in flight, nor a reply to one
    pub clean : AreOwn WINDOW ends Good kept u x.runs
    -- its own: the answer of each record was made on executing the request of that very cycle and place
    pub own : AllByRecursion (IsOwnAnswer x.commands (program_parts x) (stretches ends u x.runs)) (program_records x)
    -- and if a reply came too late, the instrument executed the request all the same
    pub late : AllByRecursion (LateHasExecution x.commands (program_parts x) (stretches ends u x.runs)) (program_records x)
    -- one for one: the records and what is outstanding, of cycles, are the commands of cycles that had their turn, sent or not,
    -- in order, each once, but for those of further attempts that were left out
    pub one_for_one : EachOnce x.plan x.commands x.scope x.acts
    -- the requests of the stretches are these commands, and null procedures; and the records, but for those of commands that
    -- weren't sent, are how they ended there, answered, late or lost
    pub sent : AreSentAs ends x.commands (program_parts x) (stretches ends u x.runs)
    pub written : map timeless (sent_of (program_records x)) ≡ written_over ends x.scope.reads (program_parts x) (stretches ends u x.runs)
    -- the steps of a run are what its acts are to a synchronization and to a client: the bytes that are sent are the
    -- lines of these requests, and line feeds that clear the receiver
    pub meant : AreMeant x.plan x.commands (opening x.plan x.scope) x.acts
    -- in time: a reply that comes while its request isn't settled settles it, as answered, or as late if a moment at or past its
    -- deadline was read since it was sent
    pub in_time : AllByRecursion (SettlesByFirstReply ends) (stretches ends u x.runs)
    -- no doubt: no line that comes raises one, so the station never resynchronizes for that
    pub no_doubt : AllByRecursion (RaisesNoDoubt ends) (stretches ends u x.runs)
    -- each stretch is faithful after its first moves, however many. So it acts once: if the instrument keeps its reply to each
    -- request that it knows, between two of its starts each of these is executed at most once
    pub each : AllByRecursion IsFaithfulThroughout (stretches ends u x.runs)

-- every run in the field is faithful, whatever the plan and the commands are, and whatever the line and the instrument do
-- meanwhile. `Good` says which states of the instrument are good, and `kept` what reply each of them keeps
abbrev pub RunsInFieldAreFaithful : {State : Type 0} → (ends : Ends State) → (Good : State → Type 0) → (kept : State → Option KeptReply) → Type 0
RunsInFieldAreFaithful {State = State} ends Good kept =
    (u : UnderWay State) (x : Program State) → IsInField ends Good kept u x → IsRunFaithful ends Good kept u x

-- `RunsInFieldAreFaithful`, for any instrument, in any state
abbrev pub RunsAreFaithful : Type 0 → Type 0
RunsAreFaithful State = OfAnyInstrument {State = State} (λ ends Good kept. RunsInFieldAreFaithful ends Good kept)

-- `RunsInFieldAreFaithful`, for the simulator, in any state whose values lie in their types (`IsFittingState`)
abbrev pub SimulatorsRunsAreFaithful : Type 0
SimulatorsRunsAreFaithful = RunsInFieldAreFaithful simulator_ends IsFittingState kept_of
