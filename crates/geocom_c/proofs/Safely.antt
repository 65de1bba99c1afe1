-- When what calls on a state send is safe: either if a request that is no call of the table is to the instrument as all others,
-- or if no call sends a raw request. An event is a null procedure that is sent, a line that comes, or a step of a client; a run
-- is the turns of a synchronization and then the moves of the field.
use Rattle.geocom_c.proofs.Common.{ℕ, List, [], ◌∷◌, map, Option, Some, None, refl, sym, subst, inl, inr, Asked, Table, the_word, KeptReply, all_append, rest_behind, ClientEvent, Came, Stepped, ask_events, events_over, Ends, table_safe, left_by_restart, given, left_by_bytes, AreOfTheTable, TableCallsAreSafe, lines_completed, AreEvents, begin_events, step_events, StateCall, SendRaw, Begin, Feed, Expire, Restart}
use Rattle.gc_session.proofs.InTable.{AreInTable, IsInTable}
use Rattle.geocom_c.specs.declared.following.StateCall.TheVariants.{Send}
use Rattle.gc_client.specs.OneForOne as one

-- lines that come ask for nothing
came_in_table : (lines : List (List ℕ)) → AreInTable (map Came lines)
came_in_table [] = tt
came_in_table (line ∷ lines) = (tt, came_in_table lines)

-- a null procedure that is sent, or none, asks for nothing but a call of the table
null_in_table : (o : Option (List ℕ)) → AreInTable (ask_events o)
null_in_table None = tt
null_in_table (Some line) = (tt, tt)

-- a begin asks for null procedures alone
begin_in_table : (left rest bytes : List ℕ) → AreInTable (begin_events left rest bytes)
begin_in_table [] rest bytes = tt
begin_in_table (asked ∷ later) rest bytes =
    let o = given bytes (asked ∷ later) (left_by_bytes (asked ∷ later) rest bytes) in
    all_append IsInTable (map Came (lines_completed rest bytes)) (ask_events o) (came_in_table (lines_completed rest bytes)) (null_in_table o)

-- lines that are heard ask for nothing
heard_in_table : (lines : List (List ℕ)) → AreInTable (map Stepped (map one.Hear lines))
heard_in_table [] = tt
heard_in_table (line ∷ lines) = (tt, heard_in_table lines)

-- lines that are fed ask for nothing
fed_in_table : (left : List ℕ) (lines : List (List ℕ)) → AreInTable (step_events left (map one.Hear lines))
fed_in_table [] lines = heard_in_table lines
fed_in_table (asked ∷ later) lines = tt

-- the event of a step that asks for nothing but a call of the table does so, too, whichever ids aren't answered
step_in_table : (left : List ℕ) (step : one.Step Asked) → IsInTable (Stepped step) → AreInTable (step_events left (step ∷ []))
step_in_table [] step is = (is, tt)
step_in_table (asked ∷ later) step is = tt

-- calls on a state of which none sends a raw request are events that ask for calls of the table alone
calls_in_table : (left rest : List ℕ) (calls : List StateCall) (events : List ClientEvent) → AreOfTheTable calls → AreEvents left rest calls events → AreInTable events
calls_in_table left rest [] events t e = subst (λ (es : List ClientEvent). AreInTable es) (sym e) tt
calls_in_table left rest (Send target deadline procedure params ∷ calls) events t (inl f) =
    subst (λ (es : List ClientEvent). AreInTable es) (sym f.3.1)
    (all_append IsInTable (step_events left (one.Send target (Table f.0) deadline ∷ [])) f.3.0 (step_in_table left (one.Send target (Table f.0) deadline) refl)
    (calls_in_table left rest calls f.3.0 t.1 f.3.2))
calls_in_table left rest (Send target deadline procedure params ∷ calls) events t (inr f) =
    subst (λ (es : List ClientEvent). AreInTable es) (sym f.1.1)
    (all_append IsInTable (step_events left []) f.1.0 (fed_in_table left []) (calls_in_table left rest calls f.1.0 t.1 f.1.2))
calls_in_table left rest (SendRaw target deadline procedure params ∷ calls) events t f = absurd t.0
calls_in_table left rest (Begin bytes ∷ calls) events t f =
    subst (λ (es : List ClientEvent). AreInTable es) (sym f.1)
    (all_append IsInTable (begin_events left rest bytes.now) f.0 (begin_in_table left rest bytes.now)
    (calls_in_table (left_by_bytes left rest bytes.now) (rest_behind rest bytes.now) calls f.0 t.1 f.2))
calls_in_table left rest (Feed bytes ∷ calls) events t f =
    subst (λ (es : List ClientEvent). AreInTable es) (sym f.1)
    (all_append IsInTable (step_events left (map one.Hear (lines_completed rest bytes.now))) f.0 (fed_in_table left (lines_completed rest bytes.now))
    (calls_in_table left (rest_behind rest bytes.now) calls f.0 t.1 f.2))
calls_in_table left rest (Expire now ∷ calls) events t f =
    subst (λ (es : List ClientEvent). AreInTable es) (sym f.1)
    (all_append IsInTable (step_events left (one.Expire now ∷ [])) f.0 (step_in_table left (one.Expire now) tt) (calls_in_table left rest calls f.0 t.1 f.2))
calls_in_table left rest (Restart ∷ calls) events t f =
    subst (λ (es : List ClientEvent). AreInTable es) (sym f.1)
    (all_append IsInTable (step_events left (one.Restart ∷ [])) f.0 (step_in_table left one.Restart tt) (calls_in_table (left_by_restart left) [] calls f.0 t.1 f.2))

-- the law: if no call on a state sends a raw request, each run whose events the calls are is safe
pub calls_safe : {State : Type 0} (ends : Ends State) (Good : State → Type 0) (kept : State → Option KeptReply) → TableCallsAreSafe ends Good kept
calls_safe ends Good kept width calls table u rs are = table_safe width ends Good kept rs u (calls_in_table the_word [] calls (events_over width ends u rs) table are)
