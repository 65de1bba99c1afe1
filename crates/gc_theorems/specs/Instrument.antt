-- What is asked of an instrument, this project's own: it answers in turn, one request at a time, each with its request's id, and
-- what it sends again is its reply to the request directly before, or to an earlier one after which only requests came that are
-- no calls of the table. By this and by when a client sends (`IsBehindTheTable`) each answer is its own request's. Its states are
-- of any kind. It may do with a request whatever it likes, and carry it out or refuse it, with any codes and any parameters, also
-- such as don't read. `executed` means that the line was made now, for this request, be it an answer or a refusal; if it isn't
-- so, the line is an older one that is sent again. What is asked of it at a request or a start is asked only in good states
-- (`Good`), and only for requests with an id from 0 to 7 (below `IDS`).
use Rattle.gc_theorems.specs.Common.{Asked, IDS, heard, Handed, KeptReply, is_of_table}
use Rattle.std.specs.Prelude.{◌≡◌, ℕ, ◌<◌, ◌⊎◌, Bool, true, false, List, Option, Some, None}
use Rattle.gc_theorems.specs.World.{Ends}

-- the reply to a request with this id, by what an instrument did with the request, as it is kept: with the id
abbrev pub own_reply : {State : Type 0} → (id : ℕ) → Handed State → KeptReply
own_reply id did = record { id = id; line = did.reply }

-- what an instrument keeps after a request is its reply to that request (`own`), or nothing
abbrev pub IsOwnOrNone : (own : KeptReply) (after : Option KeptReply) → Type 0
IsOwnOrNone own after = (after ≡ None) ⊎ (after ≡ Some own)

-- what an instrument keeps after a request is as `IsOwnOrNone` says; or, if it doesn't know the request (`known` is false), it is
-- what it kept before
abbrev pub MayBeKept : (known : Bool) (own : KeptReply) (before after : Option KeptReply) → Type 0
MayBeKept known own before after = IsOwnOrNone own after ⊎ ((known ≡ false) × (after ≡ before))

-- what an instrument keeps stays the same, or becomes nothing
abbrev pub MayForget : (before after : Option KeptReply) → Type 0
MayForget before after = (after ≡ None) ⊎ (after ≡ before)

module _ {State : Type 0} (ends : Ends State) where
  -- The clauses on an instrument.

  -- a client reads the instrument's lines by the grammar of replies
  abbrev pub ReadsByGrammar : Type 0
  ReadsByGrammar = (line : List ℕ) → ends.heard line ≡ heard line

  module _ (Good : State → Type 0) where
    -- in a good state, the instrument's line for a request is a reply with the request's id
    abbrev pub RepliesWithItsId : Type 0
    RepliesWithItsId = (state : State) (id : ℕ) (call : Asked) → Good state → id < IDS → heard (ends.handed state id call).reply ≡ Some id

    -- the state after a request in a good state is good
    abbrev pub StaysGoodOverRequests : Type 0
    StaysGoodOverRequests = (state : State) (id : ℕ) (call : Asked) → Good state → id < IDS → Good (ends.handed state id call).state

    -- the state after a start from a good state is good
    abbrev pub StaysGoodOverStarts : Type 0
    StaysGoodOverStarts = (state : State) → Good state → Good (ends.restarted state)

    module _ (kept : State → Option KeptReply) where
      -- in a good state, if the instrument sends an older line again (`executed` is false), that line is the one that it keeps,
      -- and it keeps it for this very id
      abbrev pub RepeatsWhatIsKept : Type 0
      RepeatsWhatIsKept =
          (state : State) (id : ℕ) (call : Asked) → Good state → id < IDS → (ends.handed state id call).executed ≡ false →
          kept state ≡ Some (own_reply id (ends.handed state id call))

      -- after this request the instrument keeps its reply to that request, or nothing
      abbrev pub KeepsItsOwn : State → ℕ → Asked → Type 0
      KeepsItsOwn state id call = IsOwnOrNone (own_reply id (ends.handed state id call)) (kept (ends.handed state id call).state)

      -- after a request in a good state the instrument keeps its reply to that request, or nothing; or, if it doesn't know the
      -- request (`knows`), what it kept before
      abbrev pub KeepsItsOwnIfKnown : (knows : Asked → Bool) → Type 0
      KeepsItsOwnIfKnown knows =
          (state : State) (id : ℕ) (call : Asked) → Good state → id < IDS →
          MayBeKept (knows call) (own_reply id (ends.handed state id call)) (kept state) (kept (ends.handed state id call).state)

      -- after a start from a good state the instrument keeps what it kept before, or nothing
      abbrev pub KeepsOverStarts : Type 0
      KeepsOverStarts = (state : State) → Good state → MayForget (kept state) (kept (ends.restarted state))

      -- `ends` is an instrument: what it does with a request (`handed`) and at a start (`restarted`), and how its lines are read
      -- (`heard`). `Good` says which of its states are good, and `kept` what it keeps in each: the line that it sent for a
      -- request, with that request's id, or nothing. `knows` names requests after each of which it keeps its own reply, or
      -- nothing
      pub record IsAnInstrumentFor (knows : Asked → Bool) : Type 0 where
        pub hears : ReadsByGrammar
        pub replies : RepliesWithItsId
        pub repeats : RepeatsWhatIsKept
        pub keeps : KeepsItsOwnIfKnown knows
        pub starts : KeepsOverStarts
        pub stays_good : StaysGoodOverRequests
        pub starts_good : StaysGoodOverStarts

      -- `ends` is an instrument that after each call of the table keeps its own reply to that call, or nothing
      abbrev pub IsAnInstrument : Type 0
      IsAnInstrument = IsAnInstrumentFor is_of_table

      -- after each request, also one that is no call of the table (a raw one), the instrument keeps its own reply, or nothing
      abbrev pub TreatsRawsAlike : Type 0
      TreatsRawsAlike = (state : State) (id : ℕ) (call : Asked) → Good state → id < IDS → KeepsItsOwn state id call

      -- an instrument that keeps its reply to each request that it knows (`knows`), and, as long as it keeps that reply,
      -- sends it again for a request that it knows with the same id
      pub record KeepsItsReply (knows : Asked → Bool) : Type 0 where
        -- it doesn't execute a request that it knows and that has the id of the line that it keeps
        pub again :
            (state : State) (id : ℕ) (call : Asked) (line : List ℕ) → Good state → id < IDS → knows call ≡ true → kept state ≡ Some (record { id = id; line = line }) →
            (ends.handed state id call).executed ≡ false
        -- after each request that it knows it keeps its reply to that request
        pub always :
            (state : State) (id : ℕ) (call : Asked) → Good state → id < IDS → knows call ≡ true →
            kept (ends.handed state id call).state ≡ Some (own_reply id (ends.handed state id call))

-- an instrument's state may change by itself between two requests, as by a hand at its keys, a clock, or the noise of a
-- measurement: into any good state that keeps the same reply as before, or none if none was kept
abbrev pub MayBecome : {State : Type 0} → (State → Type 0) → (State → Option KeptReply) → (before after : State) → Type 0
MayBecome Good kept before after = Good after × (kept after ≡ kept before)

-- any state is a good one
abbrev pub AnyState : {State : Type 0} → State → Type 0
AnyState state = Unit {0}

-- `Holds` is true of any instrument, in any state
abbrev pub OfAnyInstrument : {State : Type 0} → (Ends State → (State → Type 0) → (State → Option KeptReply) → Type 0) → Type 0
OfAnyInstrument {State = State} Holds = (ends : Ends State) (kept : State → Option KeptReply) → IsAnInstrument ends AnyState kept → Holds ends AnyState kept

-- all requests are known
abbrev pub all_known : Asked → Bool
all_known call = true

-- no state keeps a reply
abbrev pub never_kept : {State : Type 0} → State → Option KeptReply
never_kept state = None

-- what keeps no reply and executes each request is an instrument, if the client reads its lines by the grammar of replies
-- (`ReadsByGrammar`), and each of its replies to a request with an id from 0 to 7 reads as one with that id (`RepliesWithItsId`)
abbrev pub KeepingNothingSuffices : Type 0 → Type 0
KeepingNothingSuffices State =
    (ends : Ends State) → ReadsByGrammar ends → RepliesWithItsId ends AnyState →
    ((state : State) (id : ℕ) (call : Asked) → (ends.handed state id call).executed ≡ true) →
    IsAnInstrument ends AnyState never_kept
