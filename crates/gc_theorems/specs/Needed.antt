-- What is asked of an instrument is needed, this project's own: for each clause an instrument that lacks that one alone, and a
-- run in which an answer is booked for a request that it never executed, or, for the clauses of `KeepsItsReply`, a request is
-- executed twice.
use Rattle.gc_theorems.specs.Common.{decimal, reply_text, Asked, Table, Raw, NullProc, InstrumentNo, Unknown, RawCall, WINDOW, Answered, heard, Handed, refusal_line, KeptReply, is_of_table, procedure_of}
use Rattle.std.specs.Prelude.{◌≡◌, ℕ, zero, suc, ◌+◌, ◌≤◌, ◌⊎◌, Bool, true, false, List, [], ◌∷◌, Option, Some, None, slice_get, if◌then◌else◌, nat_eq}
use Rattle.std.specs.Option.{option_map}
use Rattle.gc_theorems.specs.World.{Ends, Up_deliver, Up_repeat, ends_of}
use Rattle.gc_theorems.specs.Begin.{none_under_way}
use Rattle.gc_theorems.specs.Begun.{IsClean, wire_over_empty_line, ArePossibleOnceBegun}
use Rattle.gc_theorems.specs.Field.{Move, Sends, Comes, OnLine, Anew, Changes}
use Rattle.gc_theorems.specs.Instrument.{IsAnInstrument, AnyState, ReadsByGrammar, RepliesWithItsId, RepeatsWhatIsKept, KeepsItsOwnIfKnown, KeepsOverStarts, StaysGoodOverRequests, StaysGoodOverStarts, never_kept, own_reply}
use Rattle.gc_theorems.specs.Laws.{WasExecuted}
use Rattle.gc_theorems.specs.Once.{ExecutesOnce}

-- the clauses of what is asked of an instrument (`IsAnInstrumentFor`), each with the name of its field there
pub data Clause : Type 0 where
  Hears : Clause
  Replies : Clause
  Repeats : Clause
  Keeps : Clause
  Starts : Clause
  StaysGood : Clause
  StartsGood : Clause

-- this instrument meets every clause, but perhaps the clause x
pub record IsAllBut {State : Type 0} (x : Clause) (ends : Ends State) (Good : State → Type 0) (kept : State → Option KeptReply) : Type 0 where
  pub hears : (x ≡ Hears) ⊎ ReadsByGrammar ends
  pub replies : (x ≡ Replies) ⊎ RepliesWithItsId ends Good
  pub repeats : (x ≡ Repeats) ⊎ RepeatsWhatIsKept ends Good kept
  pub keeps : (x ≡ Keeps) ⊎ KeepsItsOwnIfKnown ends Good kept is_of_table
  pub starts : (x ≡ Starts) ⊎ KeepsOverStarts ends Good kept
  pub stays_good : (x ≡ StaysGood) ⊎ StaysGoodOverRequests ends Good
  pub starts_good : (x ≡ StartsGood) ⊎ StaysGoodOverStarts ends Good

module _ {State : Type 0} (ends : Ends State) (Good : State → Type 0) (kept : State → Option KeptReply) (state : State) where
  -- from this state on, after a clean synchronization, with nothing in flight, these moves are possible, and request m of the
  -- client (from number 8 on), for target 7 and with this call, is answered with this line though it wasn't executed
  pub record IsBookedUnexecuted (ms : List (Move State)) (m : ℕ) (call : Asked) (line : List ℕ) : Type 0 where
    pub beyond : 8 ≤ m
    pub clean : IsClean Good kept (none_under_way state)
    pub field : ArePossibleOnceBegun WINDOW ends (none_under_way state) Good kept ms
    pub settled : slice_get (wire_over_empty_line ends state ms).settled m ≡ Some (record { target = 7; call = call; outcome = Answered line })
    pub executed : WasExecuted (wire_over_empty_line ends state ms).executed m → ⊥

  -- the clause x is needed: this instrument meets every other one, and in these moves, from this good state on, the client books
  -- the instrument's line as the answer to request m, which the instrument never executed
  pub record IsNeeded (x : Clause) (ms : List (Move State)) (m : ℕ) (call : Asked) (line : List ℕ) : Type 0 where
    pub all_but : IsAllBut x ends Good kept
    pub good : Good state
    pub booked : IsBookedUnexecuted ms m call line

-- a reply with this id that gives this number
abbrev pub giving : (id n : ℕ) → List ℕ
giving id n = reply_text (record { rc_com = 0; id = Some id; rc = 0; params = decimal n })

-- a reply with this id that refuses the request (communication code 3081)
abbrev pub refusal : ℕ → List ℕ
refusal id = refusal_line id Unknown

-- the moves by which this request is sent, reaches the instrument, and is answered with this line; and then the moves `ms`
abbrev pub one_answered : {State : Type 0} → Asked → List ℕ → List (Move State) → List (Move State)
one_answered call line ms = Sends 7 call 9 ∷ OnLine Up_deliver ∷ Comes line ∷ ms

-- the moves by which a null procedure is sent, reaches the instrument, and is answered with the number 0; and then the moves `ms`
abbrev pub null_answered : {State : Type 0} → List (Move State) → List (Move State)
null_answered ms = one_answered (Table NullProc) (giving 0 0) ms

-- the moves by which two requests are sent, and the first of them reaches the instrument and is answered with this line
abbrev pub two_asked : {State : Type 0} → List ℕ → List (Move State)
two_asked line = Sends 7 (Table NullProc) 9 ∷ Sends 7 (Table InstrumentNo) 9 ∷ OnLine Up_deliver ∷ Comes line ∷ []

-- Instruments that keep a reply.

-- what an instrument keeps of its last reply: the id of the request, and the number in the reply; or nothing
abbrev pub KeptNumber : Type 0
KeptNumber = Option (ℕ × ℕ)

-- the reply that is kept
abbrev pub keeper_kept : KeptNumber → Option KeptReply
keeper_kept None = None
keeper_kept (Some x) = Some (record { id = x.0; line = giving x.0 x.1 })

-- the number that is kept for this id, if one is
abbrev pub held : KeptNumber → ℕ → Option ℕ
held None id = None
held (Some x) id = if nat_eq x.0 id then Some x.1 else None

-- what an instrument in the state s does with a request, by the number that it keeps for the request's id: it sends that number
-- again; or, if there is none (None), it executes the request, answers `new`, and its state is `next` then
abbrev pub repeats_or_executes : {State : Type 0} → (next : State) → (new id : ℕ) → (s : State) → Option ℕ → Handed State
repeats_or_executes next new id s (Some n) = record { state = s; reply = giving id n; executed = false }
repeats_or_executes next new id s None = record { state = next; reply = giving id new; executed = true }

-- what an instrument that keeps a reply does with a request (`repeats_or_executes`): if it executes the request, it answers 0,
-- and keeps that reply
abbrev pub keeper_handed : (id : ℕ) → KeptNumber → Option ℕ → Handed KeptNumber
keeper_handed id k o = repeats_or_executes (Some (id, 0)) 0 id k o

-- an instrument that meets every clause: it keeps its last reply, for a request with the same id, until it starts again
abbrev pub keeper : Ends KeptNumber
keeper = ends_of {State = KeptNumber} (λ k id call. keeper_handed id k (held k id)) (λ k. None)

-- what an instrument does with a request that it knows (true), as `keeper_handed` says; or with one that it doesn't know (false):
-- it refuses that, and still keeps its older reply
abbrev pub handed_if_known : (known : Bool) → KeptNumber → (id : ℕ) → Handed KeptNumber
handed_if_known true k id = keeper_handed id k (held k id)
handed_if_known false k id = record { state = k; reply = refusal id; executed = true }

-- an instrument that knows the null procedure alone: it refuses any other request, and still keeps its reply to the last null
-- procedure
abbrev pub keeps_older : Ends KeptNumber
keeps_older = record keeper { handed = λ k id call. handed_if_known (nat_eq (procedure_of call) 0) k id }

-- an instrument that knows the calls of the table alone: it refuses others, and still keeps its reply to the last call of the
-- table
abbrev pub refuses_raws : Ends KeptNumber
refuses_raws = record keeper { handed = λ k id call. handed_if_known (is_of_table call) k id }

-- the moves of nine requests, each answered before the next one is sent: the first and the last, whose id is the same, are null
-- procedures, and the seven between are this one, which is refused
abbrev pub nine_requests : Asked → List (Move KeptNumber)
nine_requests call =
    null_answered (one_answered call (refusal 1) (one_answered call (refusal 2) (one_answered call (refusal 3) (one_answered call (refusal 4)
    (one_answered call (refusal 5) (one_answered call (refusal 6) (one_answered call (refusal 7) (null_answered []))))))))

-- an instrument that keeps an old reply, with id 1, after each start
abbrev pub remembers : Ends KeptNumber
remembers = record keeper { restarted = λ k. Some (1, 27) }

-- the moves of two requests, each answered before the next one is sent, with this move between them; the answer to the second one
-- is the reply that `remembers` keeps after a start
abbrev pub two_answered_around : Move KeptNumber → List (Move KeptNumber)
two_answered_around between = null_answered (between ∷ one_answered (Table InstrumentNo) (giving 1 27) [])

-- Instruments that keep no reply: their state says whether they are out of order.

-- the next id; but 0 stays 0, so that the first request of a run is answered
abbrev pub other_id : ℕ → ℕ
other_id zero = 0
other_id (suc id) = id + 2

-- the id of a reply to a request with this id: the same; or what `other_id` makes of it, if the instrument is out of order
-- (`broken`)
abbrev pub id_sent_back : (broken : Bool) (id : ℕ) → ℕ
id_sent_back false id = id
id_sent_back true id = other_id id

-- what an instrument that may be out of order (`broken`) does with a request: it executes the request, and replies with the id
-- that `id_sent_back` gives; `after` is its state afterwards
abbrev pub breakable_handed : (broken : Bool) (id : ℕ) (after : Bool) → Handed Bool
breakable_handed broken id after = record { state = after; reply = giving (id_sent_back broken id) 0; executed = true }

-- the good states: the instrument is in order
abbrev pub IsUnbroken : Bool → Type 0
IsUnbroken broken = broken ≡ false

-- an instrument that is always out of order
abbrev pub mistaken : Ends Bool
mistaken = ends_of {State = Bool} (λ b id call. breakable_handed true id b) (λ b. b)

-- an instrument in whose replies the client doesn't read the id by the grammar of replies, but what `other_id` makes of that id
abbrev pub misheard : Ends Bool
misheard = record mistaken { handed = λ b id call. breakable_handed false id b; heard = λ line. option_map other_id (heard line) }

-- an instrument that answers without having executed the request
abbrev pub pretends : Ends Bool
pretends = record mistaken { handed = λ b id call. record { state = b; reply = giving id 0; executed = false } }

-- an instrument that a request puts out of order
abbrev pub wears_out : Ends Bool
wears_out = record mistaken { handed = λ b id call. breakable_handed b id true; restarted = λ b. false }

-- an instrument that a start puts out of order
abbrev pub starts_broken : Ends Bool
starts_broken = record mistaken { handed = λ b id call. breakable_handed b id b; restarted = λ b. true }

-- an instrument that meets every clause in its good states
abbrev pub sound : Ends Bool
sound = record mistaken { handed = λ b id call. breakable_handed b id b }

-- Acts once.

-- the moves by which a null procedure is sent and answered, and then one request is sent, is repeated by the line, and reaches
-- the instrument twice
abbrev pub repeated_request : {State : Type 0} → List (Move State)
repeated_request = null_answered (Sends 7 (Table InstrumentNo) 9 ∷ OnLine (Up_repeat 0) ∷ OnLine Up_deliver ∷ OnLine Up_deliver ∷ [])

-- an instrument that keeps its reply, but executes also a request that comes again
abbrev pub executes_again : Ends KeptNumber
executes_again = record keeper { handed = λ k id call. keeper_handed id k None }

-- an instrument that keeps no reply
abbrev pub forgets : Ends Bool
forgets = record mistaken { handed = λ b id call. breakable_handed false id b }

-- `ends` is an instrument that meets every clause, and yet, from this good state on, after a clean synchronization with nothing
-- in flight, `ExecutesOnce` fails after the moves `repeated_request`, which are possible, and by which one request reaches the
-- instrument twice without a start between
pub record IsExecutedTwice {State : Type 0} (ends : Ends State) (Good : State → Type 0) (kept : State → Option KeptReply) (state : State) : Type 0 where
  pub instrument : IsAnInstrument ends Good kept
  pub good : Good state
  pub clean : IsClean Good kept (none_under_way state)
  pub field : ArePossibleOnceBegun WINDOW ends (none_under_way state) Good kept repeated_request
  pub twice :
      ExecutesOnce is_of_table (wire_over_empty_line ends state repeated_request).sent (wire_over_empty_line ends state repeated_request).executed
      (wire_over_empty_line ends state repeated_request).starts → ⊥

-- each clause of what is asked of an instrument (`IsAnInstrumentFor`) is needed; and so are the rule when a client sends, the
-- limits of what may change by itself, and both clauses of `KeepsItsReply`
pub record IsAllNeeded : Type 0 where
  pub hears : IsNeeded misheard AnyState never_kept false Hears (null_answered (two_asked (giving 1 0))) 10 (Table InstrumentNo) (giving 1 0)
  pub replies : IsNeeded mistaken AnyState never_kept false Replies (null_answered (two_asked (giving 2 0))) 10 (Table InstrumentNo) (giving 2 0)
  pub repeats : IsNeeded pretends AnyState never_kept false Repeats (null_answered (one_answered (Table InstrumentNo) (giving 1 0) [])) 9 (Table InstrumentNo) (giving 1 0)
  pub keeps : IsNeeded keeps_older AnyState keeper_kept None Keeps (nine_requests (Table InstrumentNo)) 16 (Table NullProc) (giving 0 0)
  pub starts : IsNeeded remembers AnyState keeper_kept None Starts (two_answered_around Anew) 9 (Table InstrumentNo) (giving 1 27)
  pub stays_good : IsNeeded wears_out IsUnbroken never_kept false StaysGood (null_answered (two_asked (giving 2 0))) 10 (Table InstrumentNo) (giving 2 0)
  pub starts_good : IsNeeded starts_broken IsUnbroken never_kept false StartsGood (null_answered (Anew ∷ two_asked (giving 2 0))) 10 (Table InstrumentNo) (giving 2 0)
  -- when a client sends is needed, too: an instrument meets every clause, and the last request, which wasn't sent after the
  -- table (`IsBehindTheTable`), has an answer booked though it was never executed
  pub refuses_raws_is : IsAnInstrument refuses_raws AnyState keeper_kept
  pub rule : (raw : RawCall) → IsBookedUnexecuted refuses_raws AnyState keeper_kept None (nine_requests (Raw raw)) 16 (Table NullProc) (giving 0 0)
  -- two limits of what may change by itself are needed: what is kept may not change, as it does if another client sends; and
  -- the new state has to be a good one. The moves keep to all other limits: `never_kept` in place of what the instrument keeps,
  -- and `AnyState` in place of its good states, leave out one limit each
  pub keeper_is : IsAnInstrument keeper AnyState keeper_kept
  pub changes_kept : IsBookedUnexecuted keeper AnyState never_kept None (two_answered_around (Changes (Some (1, 27)))) 9 (Table InstrumentNo) (giving 1 27)
  pub sound_is : IsAnInstrument sound IsUnbroken never_kept
  pub changes_good : IsBookedUnexecuted sound AnyState never_kept false (null_answered (Changes true ∷ two_asked (giving 2 0))) 10 (Table InstrumentNo) (giving 2 0)
  -- an instrument that keeps its reply executes a request that comes twice only once (`ExecutesOnce`), and both clauses on that
  -- are needed: here are an instrument that lacks the first clause and has the second, and one that lacks the second and has
  -- the first
  pub again : IsExecutedTwice executes_again AnyState keeper_kept None
  pub again_keeps : (state : KeptNumber) (id : ℕ) (call : Asked) → keeper_kept (executes_again.handed state id call).state ≡ Some (own_reply id (executes_again.handed state id call))
  pub always : IsExecutedTwice forgets AnyState never_kept false
  pub always_again :
      (state : Bool) (id : ℕ) (call : Asked) (line : List ℕ) → never_kept state ≡ Some (record { id = id; line = line }) → (forgets.handed state id call).executed ≡ false
