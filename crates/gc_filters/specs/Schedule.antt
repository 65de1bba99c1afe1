-- A schedule's text, and the events that it gives: this project's own.
use Rattle.gc_filters.specs.Common.{Call, Lacks, IsTextOf, IsNumber, IsProcedureText, IsTarget, IsWordAnd, Event}
use Rattle.std.specs.Prelude.{◌≡◌, ℕ, List, ◌∷◌, ◌++◌, codes}
use Rattle.gc_world.specs.declared.event.Event.TheVariants.{Send, UpDeliver, UpBytes, UpLose, UpRepeat, DownDeliver, DownBytes, DownLose, DownRepeat, Expire, RestartClient, RestartInstrument}

-- the greatest count of bytes and the greatest place of a line in flight that a schedule may name: the greatest number of 32 bits. This
-- project's own
abbrev pub count_max : ℕ
count_max = 4294967295

-- the line is `word`, which ends with a space, and after it the number `n`, which is at most `max`
abbrev pub IsNumbered : (word line : List ℕ) → (n max : ℕ) → Type 0
IsNumbered word line n max = IsWordAnd word (λ digits. IsNumber digits n max) line

-- a text of three parts, with a space between each two; neither of the first two has a space in it
pub record InThree (text : List ℕ) : Type 0 where
  pub first : List ℕ
  pub second : List ℕ
  pub third : List ℕ
  pub text_is : text ≡ first ++ 32 ∷ (second ++ 32 ∷ third)
  pub first_lacks : Lacks 32 first
  pub second_lacks : Lacks 32 second

-- what a schedule says of a request: its target, its call and its deadline
pub record Requested : Type 0 where
  pub target : ℕ
  pub call : Call
  pub deadline : ℕ

-- the request with this target, this call and this deadline
abbrev pub request_with : (target : ℕ) → Call → (deadline : ℕ) → Requested
request_with target call deadline = record { target = target; call = call; deadline = deadline }

-- `T D RPC` or `T D RPC PARAMS`: the target T, the deadline D and the procedure of a request. T is a number of 32 bits, and D one of 64
pub record IsRequested (text : List ℕ) (q : Requested) : Type 0 where
  pub parts : InThree text
  pub target_is : IsTarget parts.first q.target
  pub deadline_is : IsNumber parts.second q.deadline 18446744073709551615
  pub procedure_is : IsProcedureText parts.third q.call

-- the event is the send of the request that the text writes (`IsRequested`)
abbrev pub SendsRequested : List ℕ → Event → Type 0
SendsRequested text (Send target call deadline) = IsRequested text (request_with target call deadline)
SendsRequested text _ = ⊥

-- `send T D RPC` or `send T D RPC PARAMS`: the word, and after it a request as `IsRequested` has it
abbrev pub IsSend : (line : List ℕ) → Requested → Type 0
IsSend line q = IsWordAnd (codes "send ") (λ rest. IsRequested rest q) line

-- the line is how a schedule writes this event: its words, and after them its number or its request, if it has one
abbrev pub IsEvent : List ℕ → Event → Type 0
IsEvent line (Send target call deadline) = IsSend line (request_with target call deadline)
IsEvent line UpDeliver = line ≡ codes "up deliver"
IsEvent line (UpBytes n) = IsNumbered (codes "up bytes ") line n count_max
IsEvent line (UpLose k) = IsNumbered (codes "up lose ") line k count_max
IsEvent line (UpRepeat k) = IsNumbered (codes "up repeat ") line k count_max
IsEvent line DownDeliver = line ≡ codes "down deliver"
IsEvent line (DownBytes n) = IsNumbered (codes "down bytes ") line n count_max
IsEvent line (DownLose k) = IsNumbered (codes "down lose ") line k count_max
IsEvent line (DownRepeat k) = IsNumbered (codes "down repeat ") line k count_max
IsEvent line (Expire moment) = IsNumbered (codes "expire ") line moment 18446744073709551615
IsEvent line RestartClient = line ≡ codes "restart client"
IsEvent line RestartInstrument = line ≡ codes "restart instrument"

-- the event is one that is written as words and a number (`IsNumbered`)
abbrev pub IsNumberedEvent : Event → Type 0
IsNumberedEvent (UpBytes n) = Unit {0}
IsNumberedEvent (UpLose k) = Unit {0}
IsNumberedEvent (UpRepeat k) = Unit {0}
IsNumberedEvent (DownBytes n) = Unit {0}
IsNumberedEvent (DownLose k) = Unit {0}
IsNumberedEvent (DownRepeat k) = Unit {0}
IsNumberedEvent (Expire moment) = Unit {0}
IsNumberedEvent _ = ⊥

-- the text is a schedule of these events: one for each line that isn't skipped
abbrev pub IsSchedule : List ℕ → List Event → Type 0
IsSchedule text events = IsTextOf IsEvent text events
