-- Chains that are sent again, this project's own: a further attempt of a chain is sent only if a command of the attempt before
-- ended as its rule names, and it is left out only if none did, or its cycle is missed. A command that rests in its cycle is left out, too.
-- An act is one call on the link, with its result.
use Rattle.gc_station.specs.Common.{AllByRecursion, Asked, repeats_after, End, Answered, Expected, Task}
use Rattle.std.specs.Prelude.{◌≡◌, ◌⊎◌, ℕ, ◌<◌, Bool, true, if◌then◌else◌, nat_eq, List, ◌∷◌, ◌++◌, Option, None}
use Rattle.gc_station.specs.Attempts.{code_in}
use Rattle.gc_station.specs.Marks.{commands_in}
use Rattle.gc_station.specs.Model.{Model, waiting_of}
use Rattle.gc_station.specs.Reasons.{IsOverdue}
use Rattle.gc_station.specs.NextCommand.{place_next, commands_left, cycles_begun, expected_at, expected_of_setup, first_is_chained, others_in, rests}
use Rattle.gc_station.specs.Records.{Record}
use Rattle.gc_station.specs.Runs.{state_after, WhereNext, OfAnyRecord}
use Rattle.gc_station.specs.Scopes.{Reads}
use Rattle.gc_station.specs.declared.plan.Plan.{Plan}
use Rattle.gc_station.specs.declared.progress.Action.TheVariants.{Send, Pass}

-- what is expected of the answer of the command at this cycle and place, and its turn: what the text says; for a command of the
-- setup, which has cycle 0, as it is in the attempt `attempt` of the setup (`expected_of_setup`)
abbrev pub expected_of : List Task → (cycle attempt place : ℕ) → Expected
expected_of commands cycle attempt place =
    if nat_eq cycle 0 then expected_of_setup attempt (expected_at commands place) else expected_at commands place

-- the return code other than 0 of the reply to `call`, if the command ended as answered and the reply has one, with
-- communication code 0
abbrev pub code_of_end : Reads → Asked → End → Option ℕ
code_of_end reads call (Answered quality answer line) = code_in (reads None call line)
code_of_end reads call _ = None

-- whether the record `r` is of a command that ended as the rule of its chain names
abbrev pub is_listed : Reads → List Task → Record → Bool
is_listed reads commands r =
    repeats_after (expected_of commands r.cycle r.turn.attempt r.place).again (code_of_end reads r.command.call r.end) r.end

-- no attempt begins with one of these records: none of a command of a cycle, which has a number above 0, has link 0. A command
-- of the setup begins no attempt, whatever its link
abbrev pub BeginNoAttempt : List Record → Type 0
BeginNoAttempt rs = AllByRecursion (λ (r : Record). 0 < r.cycle → r.turn.link ≡ 0 → ⊥) rs

-- among `records` is one (`one`) of a command that ended as the rule of its chain names; and no attempt begins after it
-- (`same`), so it is of the same attempt as the last record that is of a cycle
pub record HasListed (reads : Reads) (commands : List Task) (records : List Record) : Type 0 where
  pub front : List Record
  pub one : Record
  pub behind : List Record
  pub order : records ≡ front ++ one ∷ behind
  pub listed : is_listed reads commands one ≡ true
  pub same : BeginNoAttempt behind

-- the next command isn't the first of its cycle, which comes after the setup, and begins a further attempt of its chain
abbrev pub IsFurtherAttempt : Plan → List Task → Model → Type 0
IsFurtherAttempt plan commands s = (plan.setup < place_next commands s.progress) × (0 < others_in (commands_left commands s.progress))

-- the station, which has the model `s`, has a reason to leave out the further attempt that the next command begins: none of the
-- attempt before ended as its rule names; or the cycle is missed; or the next command is chained, which the first one of an
-- attempt never is in a text; or the cycle is overdue
abbrev pub MayLeaveOut : Plan → Reads → List Task → Model → Type 0
MayLeaveOut plan reads commands s =
    (HasListed reads commands s.records → ⊥)
    ⊎ ((s.progress.missed ≡ true) ⊎ ((first_is_chained (commands_left commands s.progress) ≡ true) ⊎ IsOverdue plan s.progress (waiting_of s)))

-- the next command rests in its cycle
abbrev pub Rests : Plan → List Task → Model → Type 0
Rests plan commands s = rests (cycles_begun plan s.progress) (commands_left commands s.progress) ≡ true

-- why further attempts are sent or left out
pub record FurtherAttemptsHaveACause : Type 0 where
  -- if a further attempt is begun, all commands that were sent are settled, and one of the attempt before ended as its rule
  -- names
  pub goes : WhereNext Send (λ plan commands scope acts.
      let s = state_after plan commands scope acts in
      IsFurtherAttempt plan commands s → (commands_in s.marks ≡ 0) × HasListed scope.reads commands s.records)
  -- only a command that rests, and further attempts are left out, once all commands that were sent are settled; and the latter only for a
  -- reason (`MayLeaveOut`)
  pub passes : WhereNext Pass (λ plan commands scope acts.
      let s = state_after plan commands scope acts in
      (commands_in s.marks ≡ 0) × (Rests plan commands s ⊎ (IsFurtherAttempt plan commands s × MayLeaveOut plan scope.reads commands s)))

-- the record `r` has the turn of the command at its cycle and place (`expected_of`); if it is of the setup nothing is said of the
-- attempt in it
abbrev pub HasItsTurn : List Task → Record → Type 0
HasItsTurn commands r = r.turn ≡ (expected_of commands r.cycle r.turn.attempt r.place).turn

-- after any acts, `HasItsTurn` holds of each record
abbrev pub EachRecordHasItsTurn : Type 0
EachRecordHasItsTurn = OfAnyRecord (λ commands scope r. HasItsTurn commands r)
