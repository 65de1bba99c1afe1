-- Instruments: each meets what the proofs of the world ask of an instrument; the simulator is one; and so is any that keeps
-- no reply.
use Rattle.gc_theorems.proofs.Common.{◌≡◌, ℕ, ◌<◌, inl, inr, true, false, List, [], Option, Some, None, cond, refl, sym, ◌∙◌, ap, subst, lit<, eq-eqb, true≢false, request_found, asked_again, asked_line, asked_request, is_of_table, Unknown, RawCall, Asked, Table, Raw, Call, heard, Handed, IsReplied, answers, kept_line, refusal_line, refuses, State, KeptReply, IsFittingState, handed_again, handed_new, simulator_handed, IsExchange, Ends, exchange, kept_line_is_kept, reply_heard, IsAnInstrument, IsAnInstrumentFor, KeepingNothingSuffices, MayBeKept, TreatsRawsAlike, all_known, own_reply, SimulatorIsAnInstrument}
use Rattle.gc_instrument.specs.Replying as calls

-- an instrument meets what the proofs of the world ask of one, `IsExchange`
pub exchange_of : {State : Type 0} (ends : Ends State) (Good : State → Type 0) (kept : State → Option KeptReply) → IsAnInstrument ends Good kept → IsExchange ends Good
exchange_of e Good kept is =
    record {
      reads = λ state id call good small. is.hears (e.handed state id call).reply ∙ is.replies state id call good small;
      stays_good = is.stays_good;
      restart_good = is.starts_good;
    }

-- an instrument that keeps its own reply, or none, after every request (`TreatsRawsAlike`) is one that knows all requests
pub alike_knows_all : {State : Type 0} (ends : Ends State) (Good : State → Type 0) (kept : State → Option KeptReply) → IsAnInstrument ends Good kept → TreatsRawsAlike ends Good kept
    → IsAnInstrumentFor ends Good kept all_known
alike_knows_all e Good kept is alike =
    record {
      hears = is.hears;
      replies = is.replies;
      repeats = is.repeats;
      keeps = λ state id call good small. inl (alike state id call good small);
      starts = is.starts;
      stays_good = is.stays_good;
      starts_good = is.starts_good;
    }

-- The simulator.

-- if this line is kept, with this id, it is the kept line for the id (`kept_line`)
kept_line_of_kept : (k : Option KeptReply) (id : ℕ) (line : List ℕ) → k ≡ Some (record { id = id; line = line }) → kept_line k (Some id) ≡ Some line
kept_line_of_kept k id line e = ap (λ k. kept_line k (Some id)) e ∙ ap (λ b. cond b (Some line) None) (eq-eqb id id refl)

-- if the simulator doesn't execute a request, its reply is the line that it keeps for the request's id
call_repeats : (s : State) (id : ℕ) (call : Call) (o : Option (List ℕ)) → kept_line s.kept (Some id) ≡ o → (calls.handed s id call).executed ≡ false
    → s.kept ≡ Some (own_reply id (calls.handed s id call))
call_repeats s id call None e not = absurd (true≢false (sym (ap (λ (h : Handed State). h.executed) (handed_new s id call e)) ∙ not))
call_repeats s id call (Some line) e not =
    kept_line_is_kept s.kept id line e ∙ sym (ap (λ (h : Handed State). Some (own_reply id h)) (handed_again s id call line e))

-- after a call of the table the simulator keeps its reply to that call
call_keeps : (s : State) (id : ℕ) (call : Call) (o : Option (List ℕ)) → kept_line s.kept (Some id) ≡ o
    → (calls.handed s id call).state.kept ≡ Some (own_reply id (calls.handed s id call))
call_keeps s id call None e = subst (λ (x : Handed State). x.state.kept ≡ Some (own_reply id x)) (sym (handed_new s id call e)) refl
call_keeps s id call (Some line) e =
    subst (λ (x : Handed State). x.state.kept ≡ Some (own_reply id x)) (sym (handed_again s id call line e)) (kept_line_is_kept s.kept id line e)

-- in a state that fits, the simulator's reply to a request with an id below 8 reads as one with that id
asked_reads : (s : State) (id : ℕ) (asked : Asked) → IsFittingState s → id < 8 → heard (simulator_handed s id asked).reply ≡ Some id
asked_reads s id (Table call) good small = exchange.reads s id call good small
asked_reads s id (Raw raw) good small = reply_heard 3081 id 0 [] (lit< tt) small (lit< tt)

-- a line that the simulator sends without executing the request is the one that it keeps, for the request's id
asked_repeats : (s : State) (id : ℕ) (asked : Asked) → (simulator_handed s id asked).executed ≡ false → s.kept ≡ Some (own_reply id (simulator_handed s id asked))
asked_repeats s id (Table call) not = call_repeats s id call (kept_line s.kept (Some id)) refl not
asked_repeats s id (Raw raw) not = absurd (true≢false not)

-- after a request the simulator keeps its reply to that request, or nothing; or the request is no call of the table, and the
-- simulator keeps what it kept before
asked_keeps : (s : State) (id : ℕ) (asked : Asked) → MayBeKept (is_of_table asked) (own_reply id (simulator_handed s id asked)) s.kept (simulator_handed s id asked).state.kept
asked_keeps s id (Table call) = inl (inr (call_keeps s id call (kept_line s.kept (Some id)) refl))
asked_keeps s id (Raw raw) = inr (refl, refl)

-- the simulator's state fits after a request with an id below 8 if it did before
asked_fits : (s : State) (id : ℕ) (asked : Asked) → IsFittingState s → id < 8 → IsFittingState (simulator_handed s id asked).state
asked_fits s id (Table call) good small = exchange.stays_good s id call good small
asked_fits s id (Raw raw) good small = good

-- the simulator doesn't execute a call of the table with the id of the line that it keeps
not_executed_again : (s : State) (id : ℕ) (asked : Asked) (line : List ℕ) → is_of_table asked ≡ true → s.kept ≡ Some (record { id = id; line = line }) → (simulator_handed s id asked).executed ≡ false
not_executed_again s id (Table call) line of e = ap (λ (h : Handed State). h.executed) (handed_again s id call line (kept_line_of_kept s.kept id line e))
not_executed_again s id (Raw raw) line of e = absurd (true≢false (sym of))

-- after a call of the table the simulator keeps its reply
asked_keeps_if_of_table : (s : State) (id : ℕ) (asked : Asked) → is_of_table asked ≡ true → (simulator_handed s id asked).state.kept ≡ Some (own_reply id (simulator_handed s id asked))
asked_keeps_if_of_table s id (Table call) of = call_keeps s id call (kept_line s.kept (Some id)) refl
asked_keeps_if_of_table s id (Raw raw) of = absurd (true≢false (sym of))

-- the simulated instrument refuses the line of a procedure that isn't in the table, and nothing changes
raw_refused : (s : State) (id : ℕ) (raw : RawCall) → id < 8 → IsReplied s (asked_line (Some id) (Raw raw)) s (Some (refusal_line id Unknown))
raw_refused s id raw small =
    let q = asked_request (Some id) (Raw raw) in
    let back = asked_again (Some id) (Raw raw) small raw.is in
    answers q (request_found (asked_line (Some id) (Raw raw)) q back.line) (refusal_line id Unknown) (refuses Unknown raw.is.no_procedure refl refl) refl

-- the simulator is an instrument, and one that keeps its reply to each call of the table
pub simulator_is_an_instrument : SimulatorIsAnInstrument
simulator_is_an_instrument =
    record {
      instrument =
          record {
            hears = λ line. refl;
            replies = λ s id asked good small. asked_reads s id asked good small;
            repeats = λ s id asked good small not. asked_repeats s id asked not;
            keeps = λ s id asked good small. asked_keeps s id asked;
            starts = λ s good. inl refl;
            stays_good = λ s id asked good small. asked_fits s id asked good small;
            starts_good = λ s good. exchange.restart_good s good;
          };
      keeps =
          record {
            again = λ s id asked line good small of e. not_executed_again s id asked line of e;
            always = λ s id asked good small of. asked_keeps_if_of_table s id asked of;
          };
      refuses = raw_refused;
    }

-- An instrument that executes each request and keeps no reply.

-- what keeps no reply and executes each request is an instrument, on the terms of `KeepingNothingSuffices`
pub keeps_none : (State : Type 0) → KeepingNothingSuffices State
keeps_none State e hears replies anew =
    record {
      hears = hears;
      replies = replies;
      repeats = λ s id call good small not. absurd (true≢false (sym (anew s id call) ∙ not));
      keeps = λ s id call good small. inl (inl refl);
      starts = λ s good. inl refl;
      stays_good = λ s id call good small. tt;
      starts_good = λ s good. tt;
    }
