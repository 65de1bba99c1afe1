-- Runs that are computed, this project's own: one over a line on which no connection can be made, in which each due cycle is recorded by
-- its bound; and for four premises of the bound a run that meets the others, in which one isn't. An act is one call on the link, with
-- its result.
use Rattle.gc_station.specs.Common.{AllByRecursion, with_end, no_values, Value, Table, InstrumentNo, no_again, no_codes, Missed, no_needs, Once, Task, Act, Told, Put, Gave, Silent, Opened, Unopened, Moment}
use Rattle.std.specs.Prelude.{◌≡◌, ℕ, suc, ◌+◌, ◌<◌, ◌≤◌, Bool, true, false, List, [], ◌∷◌, length, codes, pos, None}
use Rattle.gc_catalogue.specs.declared.answer.Answer.TheVariants.{Long}
use Rattle.gc_station.specs.CallTimes.{CallsReturn, ReadingsReturn}
use Rattle.gc_station.specs.Cycles.{ClockRises}
use Rattle.gc_station.specs.Model.{opening, Runs}
use Rattle.gc_station.specs.NextCommand.{no_turn}
use Rattle.gc_station.specs.RealTime.{bound}
use Rattle.gc_station.specs.RecordedInTime.{IsInTime}
use Rattle.gc_station.specs.Records.{Record}
use Rattle.gc_station.specs.Runs.{state_after}
use Rattle.gc_station.specs.Scopes.{Scope, scoped}
use Rattle.gc_station.specs.Stopping.{asked_after}
use Rattle.gc_station.specs.declared.plan.Plan.{Plan}

-- a command that asks for the instrument's number, with this deadline, chained to the one before it or not
abbrev pub number_task : (deadline : ℕ) → (chained : Bool) → Task
number_task deadline chained = record {
  command = record { target = 7; call = Table InstrumentNo };
  deadline = deadline;
  chained = chained;
  near = None;
  form = None;
  watched = true;
  accepted = no_codes;
  busy = no_codes;
  expects = None;
  counter = None;
  again = no_again;
  turn = no_turn;
  others = 0;
  every = 1;
  now = false;
  needs = no_needs;
  twice = Once;
}

-- a plan of two cycles with these due moments and this longest deadline, without a setup, with a quiet time of `quiet` milliseconds
abbrev pub plan_of : (every deadline quiet : ℕ) → Plan
plan_of every deadline quiet =
    record { width = 1; deadline = deadline; every = every; first = every; at = None; cycles = 2; quiet = quiet; retries = 5; setup = 0; stale = 0; watched = false }

-- at most a hundred acts, in which every reply is taken to say the number 0
abbrev pub scope : Scope
scope = scoped 100 [] (λ form call line. Value (Long (pos 0)))

-- the moment at which both clocks show this number
abbrev pub at : ℕ → Moment
at now = record { elapsed = now; utc = now; stops = false; touched = 0; values = no_values }

-- the same, at which the end of the run was asked for
abbrev pub at_asking : ℕ → Moment
at_asking now = record { elapsed = now; utc = now; stops = true; touched = 0; values = no_values }

-- what has to hold of acts beside the premise that is looked at: they are a run, cycles have due moments, the list has each command of
-- the setup, and the clock doesn't go back
pub record IsRun (plan : Plan) (commands : List Task) (acts : List Act) : Type 0 where
  pub runs : Runs plan commands (opening plan scope) acts
  pub some : 0 < plan.every
  pub listed : plan.setup ≤ length commands
  pub rises : ClockRises 0 acts

-- no deadline of the plan and of the commands is longer than `longest`
abbrev pub AreAtMost : (longest : ℕ) → Plan → List Task → Type 0
AreAtMost longest plan commands = (plan.deadline ≤ longest) × AllByRecursion (λ (task : Task). task.deadline ≤ longest) commands

-- some cycle that was due more than `bound` before the moment read last isn't recorded after these acts
abbrev pub IsBeyondBound : (longest call readings : ℕ) → Plan → List Task → List Act → Type 0
IsBeyondBound longest call readings plan commands acts = IsInTime plan commands scope (suc (bound plan commands longest call readings)) acts → ⊥

-- No connection can be made.

-- a cycle every 100 ms, deadlines of 10 ms, and a pause of a second
abbrev pub outage_plan : Plan
outage_plan = plan_of 100 10 1000

-- one command
abbrev pub outage_commands : List Task
outage_commands = number_task 10 false ∷ []

-- the acts of the run: no connection is made; in the pause the station reads until a cycle is out of time, begins the next, which is
-- missed, and records its command. Once both cycles are recorded, the pause goes on
abbrev pub outage : List Act
outage =
    Unopened
    ∷ Told (at 0)
    ∷ Silent (at 200)
    ∷ Told (at 200)
    ∷ Told (at 200)
    ∷ Silent (at 300)
    ∷ Told (at 300)
    ∷ Told (at 300)
    ∷ Silent (at 400)
    ∷ Silent (at 1000)
    ∷ []

-- the record of the command of this cycle as missed, which was due at the moment `utc`
abbrev pub missed_record : (cycle utc : ℕ) → Record
missed_record cycle utc = record { sent = None; id = 0; utc = utc; cycle = cycle; place = 0; turn = no_turn; command = (number_task 10 false).command; end = Missed }

-- this run meets all premises of the bound, where a call takes 5 ms at most, and readings take no time. At its end both cycles were due
-- more than the bound before, and both are recorded as missed
pub record OutageIsRecorded : Type 0 where
  pub is : IsRun outage_plan outage_commands outage
  pub few : AreAtMost 10 outage_plan outage_commands
  pub calls : CallsReturn outage_plan outage_commands scope 5 outage
  pub readings : ReadingsReturn outage_plan outage_commands scope 0 outage
  pub unasked : asked_after false outage ≡ false
  pub records : (state_after outage_plan outage_commands scope outage).records ≡ missed_record 1 100 ∷ missed_record 2 200 ∷ []
  pub long : 200 + bound outage_plan outage_commands 10 5 0 < (state_after outage_plan outage_commands scope outage).progress.moment.elapsed

-- What each premise is needed for.

-- without a connection a read is asked to wait for 200 ms, and returns after a second
abbrev pub stalled_read : List Act
stalled_read = Unopened ∷ Told (at 0) ∷ Silent (at 1000) ∷ []

-- that the calls return is needed: this run meets all other premises
pub record CallsAreNeeded : Type 0 where
  pub is : IsRun outage_plan outage_commands stalled_read
  pub few : AreAtMost 10 outage_plan outage_commands
  pub readings : ReadingsReturn outage_plan outage_commands scope 0 stalled_read
  pub unasked : asked_after false stalled_read ≡ false
  pub beyond : IsBeyondBound 10 5 0 outage_plan outage_commands stalled_read

-- the read returns in its time, but the reading of the clock to begin a cycle takes 800 ms, as one may that follows a slow sync
abbrev pub stalled_reading : List Act
stalled_reading = Unopened ∷ Told (at 0) ∷ Silent (at 200) ∷ Told (at 1000) ∷ []

-- that the readings return is needed: this run meets all other premises
pub record ReadingsAreNeeded : Type 0 where
  pub is : IsRun outage_plan outage_commands stalled_reading
  pub few : AreAtMost 10 outage_plan outage_commands
  pub calls : CallsReturn outage_plan outage_commands scope 5 stalled_reading
  pub unasked : asked_after false stalled_reading ≡ false
  pub beyond : IsBeyondBound 10 5 0 outage_plan outage_commands stalled_reading

-- the null procedures of a synchronization, in order
abbrev pub null_lines : List (List ℕ)
null_lines = codes "%R1Q,0,6:" ∷ codes "%R1Q,0,5:" ∷ codes "%R1Q,0,4:" ∷ codes "%R1Q,0,3:" ∷ codes "%R1Q,0,2:" ∷ codes "%R1Q,0,1:" ∷ codes "%R1Q,0,0:" ∷ codes "%R1Q,0,7:" ∷ []

-- their replies, in order
abbrev pub null_replies : List (List ℕ)
null_replies = codes "%R1P,0,6:0" ∷ codes "%R1P,0,5:0" ∷ codes "%R1P,0,4:0" ∷ codes "%R1P,0,3:0" ∷ codes "%R1P,0,2:0" ∷ codes "%R1P,0,1:0" ∷ codes "%R1P,0,0:0" ∷ codes "%R1P,0,7:0" ∷ []

-- the acts by which each of these lines is sent at the start of the clock, and its reply, the next of the second list, comes, until
-- either list ends; and then `acts`
abbrev pub exchanged : (lines replies : List (List ℕ)) → List Act → List Act
exchanged (line ∷ others) (reply ∷ later) acts = Put (with_end line) ∷ Told (at 0) ∷ Gave (with_end reply) (at 0) ∷ exchanged others later acts
exchanged _ _ acts = acts

-- the acts of a synchronization, and then `acts`: a connection is made and cleared, and the eight null procedures are answered, all at
-- the start of the clock; then the first cycle begins, and the client's first null procedure is answered
abbrev pub synchronized : List Act → List Act
synchronized acts =
    Opened
    ∷ Put (10 ∷ [])
    ∷ Told (at 0)
    ∷ exchanged null_lines null_replies (
    Told (at 0)
    ∷ exchanged (codes "%R1Q,0,0:" ∷ []) (codes "%R1P,0,0:0" ∷ []) acts
    )

-- a cycle every millisecond, and deadlines of a millisecond but for those of commands
abbrev pub quick_plan : Plan
quick_plan = plan_of 1 1 0

-- a command with a deadline of 100 ms
abbrev pub slow_commands : List Task
slow_commands = number_task 100 false ∷ []

-- the command is sent, and nothing comes
abbrev pub long_deadline : List Act
long_deadline =
    synchronized (
    Put (with_end (codes "%R1Q,5003,1:"))
    ∷ Told (at 0)
    ∷ Silent (at 10)
    ∷ Silent (at 20)
    ∷ Silent (at 30)
    ∷ []
    )

-- that no deadline is longer than `longest` is needed: this run meets all other premises
pub record DeadlinesAreNeeded : Type 0 where
  pub is : IsRun quick_plan slow_commands long_deadline
  pub calls : CallsReturn quick_plan slow_commands scope 10 long_deadline
  pub readings : ReadingsReturn quick_plan slow_commands scope 0 long_deadline
  pub unasked : asked_after false long_deadline ≡ false
  pub beyond : IsBeyondBound 1 10 0 quick_plan slow_commands long_deadline

-- a chain of four commands
abbrev pub chain_commands : List Task
chain_commands = number_task 10 false ∷ number_task 10 true ∷ number_task 10 true ∷ number_task 10 true ∷ []

-- the end of the run is asked for while the first command waits for its reply, so the chain is finished
abbrev pub asked_in_chain : List Act
asked_in_chain =
    synchronized (
    Put (with_end (codes "%R1Q,5003,1:"))
    ∷ Told (at_asking 0)
    ∷ Gave (with_end (codes "%R1P,0,1:0,0")) (at 9)
    ∷ Put (with_end (codes "%R1Q,5003,2:"))
    ∷ Told (at 9)
    ∷ Gave (with_end (codes "%R1P,0,2:0,0")) (at 18)
    ∷ Put (with_end (codes "%R1Q,5003,3:"))
    ∷ Told (at 18)
    ∷ Gave (with_end (codes "%R1P,0,3:0,0")) (at 27)
    ∷ []
    )

-- that the end of the run wasn't asked for is needed: this run meets all other premises
pub record UnaskedIsNeeded : Type 0 where
  pub is : IsRun quick_plan chain_commands asked_in_chain
  pub few : AreAtMost 10 quick_plan chain_commands
  pub calls : CallsReturn quick_plan chain_commands scope 10 asked_in_chain
  pub readings : ReadingsReturn quick_plan chain_commands scope 0 asked_in_chain
  pub beyond : IsBeyondBound 10 10 0 quick_plan chain_commands asked_in_chain
