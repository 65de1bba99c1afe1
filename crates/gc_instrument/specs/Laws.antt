-- What is claimed of the definitions themselves, apart from any call of a function: this project's own.
use Rattle.std.specs.Prelude.{◌≡◌, ◌↔◌, ℕ, ◌<◌, List, [], ◌++◌, Option, Some, None}
use Rattle.std.specs.List.{AllByRecursion}
use Rattle.gc_lines.specs.Prelude.{HasOneReply, lines, rest_of, IsNoRequest}
use Rattle.gc_catalogue.specs.Prelude.{IsFitting, request_line}
use Rattle.gc_catalogue.specs.declared.call.Call.{Call}
use Rattle.gc_instrument.specs.Execution.{exec}
use Rattle.gc_instrument.specs.Hearing.{Hears, IsOutput}
use Rattle.gc_instrument.specs.Outcomes.{IsSoundOutcome}
use Rattle.gc_instrument.specs.Replying.{IsReplied, IsAnswered, handed, kept_line, with_kept, executed_with}
use Rattle.gc_instrument.specs.State.{State, KeptReply, IsFittingState, restarted}

-- `IsSoundOutcome` holds of the outcome of every call in every state
abbrev pub OutcomesAreSound : Type 0
OutcomesAreSound = (s : State) (call : Call) → IsSoundOutcome s call (exec s call)

-- the outcome of a call doesn't depend on the stored reply, and leaves that reply as it is
abbrev pub ExecutesApart : Type 0
ExecutesApart = (s : State) (kept : Option KeptReply) (call : Call) → exec (with_kept kept s) call ≡ executed_with kept (exec s call)

-- restarting twice is restarting once, and values that are in range before a restart are in range after it
pub record Restarts : Type 0 where
  pub twice : (s : State) → restarted (restarted s) ≡ restarted s
  pub fits : (s : State) → IsFittingState s → IsFittingState (restarted s)

-- a state and a line determine the state after the line, and the reply or that there is none
abbrev pub OneReply : Type 0
OneReply = HasOneReply IsReplied

-- the request line of a call whose values are in range, with an id below 8, gets the reply that `handed` gives, and leads to the
-- state that it gives (`replied`); if the id isn't the stored one, and the values of the state are in range, that reply reads as
-- the outcome of the call (`answered`)
pub record ExchangesCalls : Type 0 where
  pub replied : (s : State) (id : ℕ) (call : Call) → id < 8 → IsFitting call
      → IsReplied s (request_line (Some id) call) (handed s id call).state (Some (handed s id call).reply)
  pub answered : (s : State) (id : ℕ) (call : Call) → IsFittingState s → id < 8 → IsFitting call → kept_line s.kept (Some id) ≡ None
      → IsAnswered s id call (handed s id call).reply

-- lines are answered one after the other, each from the state that the lines before it led to
pub record AnswersInTurn : Type 0 where
  -- a state and lines determine the state after them and their replies
  pub one : (s t u : State) (heard : List (List ℕ)) (ps qs : List (List ℕ)) → Hears s heard t ps → Hears s heard u qs → (t ≡ u) × (ps ≡ qs)
  -- two lists of lines, one after the other, get the replies to the first and then those to the second
  pub next : (s t u : State) (xs ys : List (List ℕ)) (ps qs : List (List ℕ)) → Hears s xs t ps → Hears t ys u qs → Hears s (xs ++ ys) u (ps ++ qs)
  -- so do two streams of bytes, if the first is empty or ends in a line feed
  pub whole : (s t u : State) (first next : List ℕ) (xs ys : List ℕ) → rest_of first ≡ [] → IsOutput s first t xs → IsOutput t next u ys
      → IsOutput s (first ++ next) u (xs ++ ys)

-- none of these lines is a request
abbrev pub AreForeign : List (List ℕ) → Type 0
AreForeign heard = AllByRecursion IsNoRequest heard

-- no line of a stream is a request
abbrev pub HasNoRequest : List ℕ → Type 0
HasNoRequest stream = AreForeign (lines stream)

-- a stream without a request (`HasNoRequest`), inserted into another stream after a front part of it, changes nothing, where it
-- and that part are each empty or end in a line feed: what is written, and the state after it, are the same without it
abbrev pub ForeignLinesAreSilent : Type 0
ForeignLinesAreSilent = (s t : State) (front foreign back bytes : List ℕ) → rest_of front ≡ [] → rest_of foreign ≡ [] → HasNoRequest foreign
    → IsOutput s (front ++ (foreign ++ back)) t bytes ↔ IsOutput s (front ++ back) t bytes
