-- A station's runs over a line that damages, this project's own. Once the station has synchronized, anything may be lost, repeated or
-- damaged in both directions: what is recorded of a command is its own reply, or a damaged line, as long as damage is apart
-- (`HasDamageApart`) in the stretch in which it was sent. What happens in other stretches doesn't matter. The station holds back. Each
-- command is a call of the table, or the instrument keeps after each request, also a raw one, its own reply or none. For raw requests to
-- other instruments nothing is claimed: one may keep its reply to a call of the table over these, and send it again for a later request with
-- that reply's id, if a damaged line was taken for the reply to a call in between.
use Rattle.gc_theorems.specs.Common.{AllByRecursion, AllZip, is_of_table, IDS, WINDOW, the_word, Answered, Late, lost, KeptReply, IsFittingState, Act, line_of, call_at, Expected, Task, AreBegun, EachOnce, parts, Runs, opening, commands_in, records_of, Part, MarksAsk, mark_of, occasion_in, sent_of, timeless, went_out, Record, state_after, Reads, Scope, Plan}
use Rattle.std.specs.Prelude.{◌≡◌, ◌⊎◌, ℕ, zero, suc, ◌+◌, ◌%◌, true, List, [], ◌∷◌, ◌++◌, length, map, take, ◌≤◌, Option, Some, slice_get}
use Rattle.gc_theorems.specs.World.{Ends}
use Rattle.gc_theorems.specs.Begin.{IsWellFormed, LacksTheWord, UnderWay}
use Rattle.gc_theorems.specs.Instrument.{OfAnyInstrument, TreatsRawsAlike}
use Rattle.gc_theorems.specs.Laws.{asked, kept_of}
use Rattle.gc_theorems.specs.Runs.{AreMeant}
use Rattle.gc_theorems.specs.Simulator.{simulator_ends}
use Rattle.gc_theorems.specs.Harm.{Damages, AllMayHarm, AreOwnOr, AreRising, IsByDamage, WasMadeAmid, damaged_lines}
use Rattle.gc_theorems.specs.Stretches.{HarmedStretch, HasDamageApart, IsDamagedOnceSynchronized, AreInARow, IsPossibleStretch, IsSeenAs, at_its_end, client_sent, client_settled, left_by_stretch, once_synchronized, synchronized}
use Rattle.gc_theorems.specs.DamagedSynchronizing.{WasStruck}
use Rattle.gc_texts.specs.Endings as end

-- a station's run as a program: its plan, its commands, its scope and its acts; and its stretches, in order
pub record HarmedProgram (State : Type 0) : Type 0 where
  pub plan : Plan
  pub commands : List Task
  pub scope : Scope
  pub acts : List Act
  pub stretches : List (HarmedStretch State)

-- the parts of a program's run
abbrev pub parts_of_program : {State : Type 0} → HarmedProgram State → List Part
parts_of_program x = parts x.plan x.commands x.scope x.acts

-- the records of a program's run
abbrev pub records_of_program : {State : Type 0} → HarmedProgram State → List Record
records_of_program x = (state_after x.plan x.commands x.scope x.acts).records

-- each of these tasks asks for a call of the table
abbrev pub AreOfTable : List Task → Type 0
AreOfTable commands = AllByRecursion (λ task. is_of_table task.command.call ≡ true) commands

-- how many numbers these lists have together
abbrev pub count_in : List (List ℕ) → ℕ
count_in [] = 0
count_in (ns ∷ others) = length ns + count_in others

-- how many damaged lines come in these stretches once the station has synchronized
abbrev pub damaged_lines_in : {State : Type 0} → List (HarmedStretch State) → ℕ
damaged_lines_in [] = 0
damaged_lines_in (s ∷ ss) = damaged_lines s.steps + damaged_lines_in ss

-- how many commands were sent before request m of part k
abbrev pub sent_before : List Part → (k m : ℕ) → ℕ
sent_before [] k m = 0
sent_before (p ∷ ps) zero m = commands_in (take m p.marks)
sent_before (p ∷ ps) (suc k) m = commands_in p.marks + sent_before ps k m

-- how many of the records before this one, by its number among them, are of commands that were sent
abbrev pub sent_until : List Record → (n : ℕ) → ℕ
sent_until records n = length (sent_of (take n records))

-- the request of a record, in a run with the parts `ps` and the stretches `ss`: in stretch k, the client's request m is the command of
-- the record's cycle and place, before which `number` commands were sent, and it has the record's id
pub record HasItsRequest {State : Type 0} (commands : List Task) (ps : List Part) (ss : List (HarmedStretch State)) (number : ℕ) (r : Record) : Type 0 where
  pub k : ℕ
  pub part : Part
  pub stretch : HarmedStretch State
  pub of_parts : slice_get ps k ≡ Some part
  pub of_stretches : slice_get ss k ≡ Some stretch
  pub m : ℕ
  pub expected : Expected
  pub mark : slice_get part.marks m ≡ Some (Some (mark_of expected r))
  pub own_id : r.id ≡ m % IDS
  pub counted : sent_before ps k m ≡ number
  pub task : Task
  pub listed : slice_get commands r.place ≡ Some task

module _ {State : Type 0} (ends : Ends State) where
  -- there are as many stretches as parts, and the requests of each stretch are those of its part, one for one
  abbrev pub AreSentInStretches : List Task → List Part → List (HarmedStretch State) → Type 0
  AreSentInStretches commands ps ss = AllZip (λ p s. MarksAsk commands p.marks (map asked (client_sent ends s))) ps ss

  -- the records that a run with these parts and stretches records, with the moment 0, where `reads` gives what a line says of its call: how
  -- each command ended in its own stretch, and as lost what is outstanding when the next stretch begins
  abbrev pub written_in_stretches : Reads → List Part → List (HarmedStretch State) → List Record
  written_in_stretches reads (p ∷ []) (s ∷ []) = records_of reads 0 p.marks (client_settled ends s)
  written_in_stretches reads (p ∷ q ∷ ps) (s ∷ t ∷ ss) =
      records_of reads 0 p.marks (client_settled ends s ++ map lost (at_its_end ends s).world.client.waiting) ++ written_in_stretches reads (q ∷ ps) (t ∷ ss)
  written_in_stretches reads _ _ = []

  -- request m of a stretch was settled by this line, which is damaged: it came so; or it was made of a request that damage made, in the
  -- stretch or in its synchronization, and came again
  abbrev pub WasSettledByDamage : HarmedStretch State → ℕ → List ℕ → Type 0
  WasSettledByDamage s m line = IsByDamage WINDOW ends (once_synchronized ends s) s.steps (λ made. WasStruck ends s.over s.turns made) m line

  -- these requests of a stretch, in order, were settled by lines that came damaged (`Damages`)
  abbrev pub AreByDamagedLines : HarmedStretch State → List ℕ → Type 0
  AreByDamagedLines s requests = AreRising 0 requests × AllByRecursion (λ m. (line : List ℕ) × ((b : WasSettledByDamage s m line) × (b.step ≡ Damages line))) requests

  -- of these stretches no more requests were settled by lines that came damaged than such lines came once the station had synchronized:
  -- `chosen` has any such requests of each stretch
  abbrev pub AreFewByDamagedLines : List (HarmedStretch State) → Type 0
  AreFewByDamagedLines ss = (chosen : List (List ℕ)) → AllZip AreByDamagedLines ss chosen → count_in chosen ≤ damaged_lines_in ss

  -- Of a run with the parts `ps` and the stretches `ss`, and of a record before which this number of commands were sent.
  module _ (commands : List Task) (ps : List Part) (ss : List (HarmedStretch State)) (number : ℕ) where
    -- the line was made on executing the very request of record `r` (`h`), with what the command asks at the moment at which it was sent
    abbrev pub IsOwnLine : (r : Record) → HasItsRequest commands ps ss number r → (line : List ℕ) → Type 0
    IsOwnLine r h line = WasMadeAmid WINDOW ends (once_synchronized ends h.stretch) h.stretch.steps (8 + h.m) (call_at h.task (occasion_in h.expected r)) line

    -- the line is the record's own (`IsOwnLine`); or it settled the record's request (`h`), and is damaged
    abbrev pub IsOwnOrByDamage : (r : Record) → HasItsRequest commands ps ss number r → (line : List ℕ) → Type 0
    IsOwnOrByDamage r h line = IsOwnLine r h line ⊎ WasSettledByDamage h.stretch (8 + h.m) line

    -- where the answer `line` of record `r` comes from: it settled the request of the record's cycle and place (`of`), and if damage is
    -- apart in the stretch of that request, it is own or damaged
    pub record HasItsAnswer (r : Record) (line : List ℕ) : Type 0 where
      pub of : HasItsRequest commands ps ss number r
      pub settled :
          slice_get (at_its_end ends of.stretch).world.wire.settled (8 + of.m)
          ≡ Some (record { target = r.command.target; call = r.command.call; outcome = Answered line })
      pub from : HasDamageApart ends of.stretch → IsOwnOrByDamage r of line

    -- the line by which a late record `r` is late: it settled the request of the record's cycle and place (`of`), and if damage is
    -- apart in the stretch of that request, it is own or damaged
    pub record HasItsLateReply (r : Record) : Type 0 where
      pub of : HasItsRequest commands ps ss number r
      pub settled :
          slice_get (at_its_end ends of.stretch).world.wire.settled (8 + of.m)
          ≡ Some (record { target = r.command.target; call = r.command.call; outcome = Late })
      pub from : HasDamageApart ends of.stretch → (line : List ℕ) × IsOwnOrByDamage r of line

    -- if a record is of a reply in time, its line is as `HasItsAnswer` says
    abbrev pub AnswerIsOwnOrDamaged : Record → Type 0
    AnswerIsOwnOrDamaged r = (line : List ℕ) → line_of r.end ≡ Some line → HasItsAnswer r line

    -- if a record is late, the line is as `HasItsLateReply` says
    abbrev pub LateIsOwnOrDamaged : Record → Type 0
    LateIsOwnOrDamaged r = r.end ≡ end.Late → HasItsLateReply r

  -- the n-th of these records is of a request that was settled by a line that came damaged (`Damages`)
  pub record IsByDamagedLine (commands : List Task) (ps : List Part) (ss : List (HarmedStretch State)) (records : List Record) (n : ℕ) : Type 0 where
    pub r : Record
    pub is : slice_get records n ≡ Some r
    pub out : went_out r.end ≡ true
    pub of : HasItsRequest commands ps ss (sent_until records n) r
    pub line : List ℕ
    pub damaged : WasSettledByDamage of.stretch (8 + of.m) line
    pub came : damaged.step ≡ Damages line

  -- no more of these records are of requests that were settled by lines that came damaged than such lines came: `ns` has the numbers of
  -- any such records, in order
  abbrev pub AreFewRecordsByDamagedLines : List Task → List Part → List (HarmedStretch State) → List Record → Type 0
  AreFewRecordsByDamagedLines commands ps ss records =
      (ns : List ℕ) → AreRising 0 ns → AllByRecursion (IsByDamagedLine commands ps ss records) ns → length ns ≤ damaged_lines_in ss

-- this holds of each record of a run, and of how many commands were sent before its own
abbrev pub OfEachRecord : {State : Type 0} → HarmedProgram State → (Holds : (number : ℕ) → Record → Type 0) → Type 0
OfEachRecord x Holds = (n : ℕ) (r : Record) → slice_get (records_of_program x) n ≡ Some r → Holds (sent_until (records_of_program x) n) r

module _ {State : Type 0} (ends : Ends State) (Good : State → Type 0) (kept : State → Option KeptReply) where
  -- a program is a run of its station, and its stretches are what happens on the line and to an instrument in each part of the run. In
  -- flight at its start (`u`) may be anything well formed (`IsWellFormed`), be it the word. Each command is a call of the table, or the
  -- instrument keeps its own reply, or none, after every request (`TreatsRawsAlike`)
  pub record IsInHarmedField (u : UnderWay State) (x : HarmedProgram State) : Type 0 where
    pub runs : Runs x.plan x.commands (opening x.plan x.scope) x.acts
    pub lines : IsWellFormed Good u
    pub row : AreInARow ends u x.stretches
    pub seen : AllZip (IsSeenAs ends) (parts_of_program x) x.stretches
    pub possible : AllByRecursion (IsPossibleStretch ends Good kept) x.stretches
    pub own : AreOfTable x.commands ⊎ TreatsRawsAlike ends Good kept

  -- of a stretch: each send is fresh, and each answer own or damaged; no more requests were settled by lines that came damaged than such
  -- lines came (`few` of `AreOwnOr`); and if it has synchronized, it doesn't leave the word in flight
  pub record IsLocal (s : HarmedStretch State) : Type 0 where
    pub fresh : AllMayHarm WINDOW ends Good kept s.steps (once_synchronized ends s)
    pub own : AreOwnOr WINDOW ends (λ made. WasStruck ends s.over s.turns made) (once_synchronized ends s) s.steps
    pub lacks : (synchronized ends s).left ≡ [] → LacksTheWord (left_by_stretch ends s)

  -- what holds of a run over a line that damages
  pub record IsRunLocal (x : HarmedProgram State) : Type 0 where
    -- no command is sent before the eighth null procedure is answered: neither at first, nor when the run resynchronizes
    pub begun : AreBegun the_word (parts_of_program x)
    -- each answer in time, and each late reply, settled the request of its record's cycle and place; and it is own or damaged, where damage
    -- is apart
    pub answers : OfEachRecord x (AnswerIsOwnOrDamaged ends x.commands (parts_of_program x) x.stretches)
    pub late : OfEachRecord x (LateIsOwnOrDamaged ends x.commands (parts_of_program x) x.stretches)
    -- where damage is apart, a stretch is local
    pub each : AllByRecursion (λ s. HasDamageApart ends s → IsLocal s) x.stretches
    -- each damaged line settles one request at most, as answered or late; so no more records are of such requests, either
    pub few : AreFewByDamagedLines ends x.stretches
    pub few_records : AreFewRecordsByDamagedLines ends x.commands (parts_of_program x) x.stretches (records_of_program x)
    -- one for one: the records and what is outstanding, of cycles, are the commands of cycles that had their turn, sent or not, in order, each
    -- once, but for those of further attempts that were left out
    pub one_for_one : EachOnce x.plan x.commands x.scope x.acts
    -- the requests of the stretches are these commands, and null procedures; and the records, but for those of commands that weren't sent,
    -- are how they ended there, answered, late or lost
    pub sent : AreSentInStretches ends x.commands (parts_of_program x) x.stretches
    pub written : map timeless (sent_of (records_of_program x)) ≡ written_in_stretches ends x.scope.reads (parts_of_program x) x.stretches
    -- the steps of a run are what its acts are to a synchronization and to a client: the bytes that are sent are the lines of these
    -- requests, and line feeds that clear the receiver
    pub meant : AreMeant x.plan x.commands (opening x.plan x.scope) x.acts

-- whatever is in flight at the start of a station's run, be it the word: if the station asks only for calls of the table, or the
-- instrument treats raw requests alike, each answer that it records, and each late reply, was made on executing the request of that
-- very cycle and place, or its line is damaged, if damage is apart in the stretch of that request. A stretch in which it isn't apart
-- doesn't spoil the next one, if that one's eighth null procedure is answered by its own reply. Without damage, damage is apart wherever
-- the word isn't in flight at the start of a stretch; `RunsInFieldAreFaithful` then says more, and says it of raw requests to any
-- instrument. `Good` says which states of the instrument are good, and `kept` what reply each of them keeps
abbrev pub RunsInHarmedFieldAreLocal : {State : Type 0} → (ends : Ends State) → (Good : State → Type 0) → (kept : State → Option KeptReply) → Type 0
RunsInHarmedFieldAreLocal {State = State} ends Good kept =
    (u : UnderWay State) (x : HarmedProgram State) → IsInHarmedField ends Good kept u x → IsRunLocal ends Good kept x

-- `RunsInHarmedFieldAreLocal`, for any instrument, in any state
abbrev pub RunsWithDamageAreLocal : Type 0 → Type 0
RunsWithDamageAreLocal State = OfAnyInstrument {State = State} (λ ends Good kept. RunsInHarmedFieldAreLocal ends Good kept)

-- `RunsInHarmedFieldAreLocal`, for the simulator, in any state whose values lie in their types (`IsFittingState`)
abbrev pub SimulatorsRunsWithDamageAreLocal : Type 0
SimulatorsRunsWithDamageAreLocal = RunsInHarmedFieldAreLocal simulator_ends IsFittingState kept_of

-- for any instrument: if the word isn't in flight at the start of such a run, nothing is damaged while the station synchronizes, and no two
-- lines in a row that settle something after that are damaged, damage is apart in each stretch; so each answer is own or damaged
abbrev pub DamageOnceSynchronizedIsApart : Type 0 → Type 0
DamageOnceSynchronizedIsApart State = OfAnyInstrument {State = State} (λ ends Good kept.
    (u : UnderWay State) (x : HarmedProgram State) → IsInHarmedField ends Good kept u x → LacksTheWord u →
    AllByRecursion (IsDamagedOnceSynchronized ends) x.stretches → AllByRecursion (HasDamageApart ends) x.stretches)
