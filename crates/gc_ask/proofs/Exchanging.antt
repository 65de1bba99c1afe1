-- One command that is asked over a link, and the run after it. Throughout, `a` and `b` are what the client's end had taken before
-- and after, `old` and `new` what was seen of the link's ends and of the sink before and after, `h` what the client's end has
-- heard, `e` a fault, and `r` a result. After a fault the client is restarted: `to` is the client then, and `now` are the
-- settlements that are written.
use Rattle.gc_ask.proofs.Common.{◌≡◌, ℕ, ◌<◌, Bool, true, false, List, [], ◌∷◌, ◌++◌, length, take, map, Option, Ok, Err, inl, inr, refl, sym, ap, ◌∙◌, subst, arith, Appends, false≢true, take_all, FailsWith, Taken, Appends-is, Call, ById, settled_by_line, restarts, AreSettlements, settlement_seen, Asks, awaited, waiting_for, written_request, lost_of, AskingEnds, LinkResult, UseEnds, CountsReplies, ReadEnds, SeenStep, Sends, TakesRequest, AsksOne, Exchanges, ClientHeard, HearsReply, Settles, BothEnd, SeenAtBoth, written_at_both, Command, RunFault, Read, Write, TooManyReads, LinkClosed, Output, settlement_lines_from, WroteSettlements, WrotePartOfSettlements, Input}
use Rattle.gc_client.specs.declared.settlement.Settlement.{Settlement}
use Rattle.gc_ask.proofs.Asked.{AtNext, Course, RunState, heard_after, run_state_after, course_more, course_stops, course_cut, course_sink_failed, settled_is, asked_with_reply}
use Rattle.gc_ask.proofs.Ends.{BothSound, both_end, seen_step_not_output}
use Rattle.gc_client.specs.Rule

-- What a link took of a request.

-- where a text was taken whole, its first bytes were taken, as many as it has
taken_as_front : (a b : Option (List ℕ)) (text : List ℕ) → Appends a b text → Appends a b (take (length text) text)
taken_as_front a b text sent = Appends-is _ _ _ _ (sym (take_all (length text) text (omega arith))) sent

-- the client's end took of a request that it wrote, or failed to write, what `TakesRequest` says
pub takes_sent : (is_remote : Bool) (place : ℕ) (text : List ℕ) (old new : Taken) (r : LinkResult) → Sends place text old new r
    → TakesRequest is_remote place text old.bytes new.bytes r
takes_sent is_remote place text old new (Ok u) s = s.0
takes_sent true place text old new (Err fault) s = s.0
takes_sent false place text old new (Err (Write count part)) s = (s.0.0, (part, s.0.1.1))
takes_sent false place text old new (Err other) s = absurd s.0

-- where this program answers at the other end, a request was written whole, and the result of answering it counts `place` replies
-- if it is `Write` (`CountsReplies`), the client's end took what `TakesRequest` says
pub takes_answered : (place : ℕ) (text : List ℕ) (a b : Option (List ℕ)) (r : LinkResult) → Appends a b text → CountsReplies place r
    → TakesRequest false place text a b r
takes_answered place text a b (Ok u) sent of = sent
takes_answered place text a b (Err (Write count part)) sent of = (of, (length text, taken_as_front a b text sent))
takes_answered place text a b (Err other) sent of = sent

-- where a write was cut, the client's end took the first bytes of the request: over a remote link as many as the fault says, and not all
cut_request : (is_remote : Bool) (place : ℕ) (text : List ℕ) (a b : Option (List ℕ)) (count part : ℕ) → TakesRequest is_remote place text a b (Err (Write count part))
    → (count ≡ place) × ((bytes : ℕ) × Appends a b (take bytes text) × (is_remote ≡ true → (bytes ≡ part) × (part < length text)))
cut_request true place text a b count part t = (t.0, (part, t.1.1, λ so. (refl, t.1.0)))
cut_request false place text a b count part t = (t.0, (t.1.0, t.1.1, λ so. absurd (false≢true so)))

-- One command.

-- where the client's end took of a request what `TakesRequest` says of the fault e, and the client still waits for that request,
-- the exchange ended with e (`Exchanges`)
pub exchange_unsent : (is_remote : Bool) (place : ℕ) (command : Command) (h : ClientHeard) (a b : Option (List ℕ)) (e : RunFault)
    → TakesRequest is_remote place (written_request place command) a b (Err e)
    → h.client ≡ waiting_for place command → Exchanges is_remote place command h a b (Err e)
exchange_unsent true place command h a b (Write count part) t is = (t, is)
exchange_unsent true place command h a b other t is = absurd t
exchange_unsent false place command h a b (Write count part) t is = (t, is)
exchange_unsent false place command h a b other t is = ((t, (λ so. absurd (false≢true so))), is)

-- where a request was sent whole, and its reply was waited for, the exchange ended as the waiting did; `old` and `new` are the
-- input before and after the waiting, and `after` the reads left then
pub exchange_heard : (is_remote : Bool) (place : ℕ) (command : Command) (h : ClientHeard) (a b : Option (List ℕ)) (old new : Input) (after : ℕ) (r : LinkResult)
    → Appends a b (written_request place command) → HearsReply (waiting_for place command) h r → ReadEnds old new after r → Exchanges is_remote place command h a b r
exchange_heard is_remote place command h a b old new after (Ok u) sent heard ends = (sent, heard)
exchange_heard is_remote place command h a b old new after (Err (Write count part)) sent heard ends = absurd ends
exchange_heard is_remote place command h a b old new after (Err other) sent heard ends = ((sent, (λ so. heard.0)), heard.1)

-- after a fault of an exchange the client still waits for the command
pub still_waits : (is_remote : Bool) (place : ℕ) (command : Command) (h : ClientHeard) (a b : Option (List ℕ)) (e : RunFault)
    → Exchanges is_remote place command h a b (Err e) → h.client ≡ waiting_for place command
still_waits is_remote place command h a b e x = x.1

-- a restart of the client that waits for a command settles that command as lost
pub lost_alone : (place : ℕ) (command : Command) (to : ById Call) (settled now : List (Settlement Call)) → to ≡ waiting_for place command
    → AreSettlements settled (restarts to).settlements → now ≡ settled → map settlement_seen now ≡ lost_of command ∷ []
lost_alone place command to settled now waits are is = ap (map settlement_seen) is ∙ are.seen ∙ ap (λ c. (restarts c).settlements) waits

-- after a fault the link took a front of the request
sent_part : (is_remote : Bool) (place : ℕ) (command : Command) (h : ClientHeard) (a b : Option (List ℕ)) (e : RunFault) → Exchanges is_remote place command h a b (Err e)
    → (part : ℕ) × Appends a b (take part (written_request place command))
sent_part is_remote place command h a b (Write count part) x =
    let cut = cut_request is_remote place (written_request place command) a b count part x.0 in (cut.1.0, cut.1.1)
sent_part is_remote place command h a b other x = (length (written_request place command), taken_as_front a b (written_request place command) x.0.0)

-- settlements were written, with this result, into a sink of which `old` was seen before, and `new` after
abbrev pub WroteInto : (place : ℕ) → List (Rule.Settlement Call) → (old new : Taken) → LinkResult → Type 0
WroteInto place settled old new r = WroteSettlements place settled old.bytes new.bytes r × FailsWith r old.failed new.failed

-- the use of the link ended with the fault e, and so did the exchange; what is to be written then says that the command is lost
module _
    (is_remote : Bool) (place : ℕ) (command : Command) (h : ClientHeard) (to : ById Call) (now : List (Settlement Call)) (old new : SeenAtBoth) (e : RunFault)
    (ends : SeenStep old new (Err e)) (exchanged : Exchanges is_remote place command h old.client.taken new.client.taken (Err e))
    (alone : map settlement_seen now ≡ lost_of command ∷ []) where
  -- where that line was written, asking this command ended with the fault e (`AsksOne`)
  pub asks_lost : Appends old.sink.bytes new.sink.bytes (settlement_lines_from place (map settlement_seen now))
      → AsksOne is_remote place command (record h { client = to }) (written_at_both old new) (SeenStep old new) (Err e)
  asks_lost wrote = by_fault e ends exchanged (Appends-is _ _ _ _ (ap (settlement_lines_from place) alone) wrote) where
    -- by the fault of the exchange: asking ended with it
    by_fault : (g : RunFault) → SeenStep old new (Err g) → Exchanges is_remote place command h old.client.taken new.client.taken (Err g)
        → Appends old.sink.bytes new.sink.bytes (settlement_lines_from place (lost_of command ∷ []))
        → AsksOne is_remote place command (record h { client = to }) (written_at_both old new) (SeenStep old new) (Err g)
    by_fault Output with_output x wrote = absurd (seen_step_not_output old new with_output)
    by_fault other with_other x wrote = (x.0, wrote)

  -- where the sink failed as it took that line, asking this command ended with the fault of the sink (f)
  pub asks_sink_failed : (f : RunFault) → WroteInto place (map settlement_seen now) old.sink new.sink (Err f)
      → AsksOne is_remote place command (record h { client = to }) (written_at_both old new) (SeenStep old new) (Err f)
  asks_sink_failed f wrote = by_fault f (subst (λ (zs : List (Rule.Settlement Call)). WroteInto place zs old.sink new.sink (Err f)) alone wrote) where
    -- by the fault of the writing, which is the sink's: asking ended with it
    by_fault : (g : RunFault) → WroteInto place (lost_of command ∷ []) old.sink new.sink (Err g)
        → AsksOne is_remote place command (record h { client = to }) (written_at_both old new) (SeenStep old new) (Err g)
    by_fault Output t =
        let sent = sent_part is_remote place command h old.client.taken new.client.taken e exchanged in
        inr (e, ends, (sent.0, sent.1, t.0))
    by_fault other t = absurd t.0

-- where the request was sent whole, the link's use ended well, a reply settled the request (`Settles`), and the line of the
-- settlement was written, or the sink failed, asking this command ended as that writing did (`AsksOne`)
pub asks_written : (is_remote : Bool) (place : ℕ) (command : Command) (h : ClientHeard) (now : List (Settlement Call)) (old new : SeenAtBoth) (r : LinkResult)
    → SeenStep old new (Ok tt) → Appends old.client.taken new.client.taken (written_request place command) → Settles (waiting_for place command) h
    → now ≡ h.settled → WroteInto place (map settlement_seen now) old.sink new.sink r
    → AsksOne is_remote place command h (written_at_both old new) (SeenStep old new) r
asks_written is_remote place command h now old new (Ok u) link sent s is wrote =
    ((sent, s), subst (λ (zs : List (Settlement Call)). Appends old.sink.bytes new.sink.bytes (settlement_lines_from place (map settlement_seen zs))) is wrote.0)
asks_written is_remote place command h now old new (Err Output) link sent s is wrote =
    inl (link, sent, s, subst (λ (zs : List (Settlement Call)). WrotePartOfSettlements place (map settlement_seen zs) old.sink.bytes new.sink.bytes) is wrote.0)
asks_written is_remote place command h now old new (Err other) link sent s is wrote = absurd wrote.0

-- where the use of the link ended well, and settlements were written with the result r, the ports are as `AskingEnds` says of r
pub ends_written : (old new : SeenAtBoth) (place : ℕ) (settled : List (Rule.Settlement Call)) (r : LinkResult) → SeenStep old new (Ok tt)
    → WroteInto place settled old.sink new.sink r → AskingEnds (SeenStep old new) old.sink.failed new.sink.failed r
ends_written old new place settled (Ok u) ends wrote = (ends, wrote.1)
ends_written old new place settled (Err Output) ends wrote = (wrote.1, (Ok tt, ends))
ends_written old new place settled (Err other) ends wrote = absurd wrote.0

-- where the use of the link ended with the fault e, and whether the sink has failed is as before, the ports are as `AskingEnds`
-- says of e
pub ends_lost : (old new : SeenAtBoth) (e : RunFault) → SeenStep old new (Err e) → new.sink.failed ≡ old.sink.failed
    → AskingEnds (SeenStep old new) old.sink.failed new.sink.failed (Err e)
ends_lost old new Output ends same = absurd (seen_step_not_output old new ends)
ends_lost old new other ends same = (ends, same)

-- where the use of the link ended with the fault e, and then the writing of settlements with the fault f, the ports are as
-- `AskingEnds` says of f
pub ends_sink_failed : (old new : SeenAtBoth) (place : ℕ) (settled : List (Rule.Settlement Call)) (e f : RunFault) → SeenStep old new (Err e)
    → WroteInto place settled old.sink new.sink (Err f)
    → AskingEnds (SeenStep old new) old.sink.failed new.sink.failed (Err f)
ends_sink_failed old new place settled e Output ends wrote = (wrote.1, (Err e, ends))
ends_sink_failed old new place settled e other ends wrote = absurd wrote.0

-- The run.

-- where the next command (`AtNext`) ended with a fault, and both ends were sound before it (`BothSound`), asking all commands ended with
-- that fault: by the fault, asking stopped at this command, its request or reply was cut, or the sink failed. s says where the run
-- was before the command, and `new` is what is seen after it
pub run_fault : (is_remote : Bool) (commands : List Command) (place : ℕ) (s : RunState) (n : AtNext commands s) (more : List ℕ) (h : ClientHeard)
    (new : SeenAtBoth) (e : RunFault) → BothSound s.first s.latest → length n.done ≡ place
    → AsksOne is_remote place n.command (heard_after n.course more h) (written_at_both s.latest new) (SeenStep s.latest new) (Err e)
    → AskingEnds (SeenStep s.latest new) s.latest.sink.failed new.sink.failed (Err e)
    → Asks is_remote commands (s.given ++ more) (written_at_both s.first new) (BothEnd s.first new) (Err e)
run_fault is_remote commands place s n more h new e sound is one ends =
    by_fault e (subst (λ k. AsksOne is_remote k n.command (heard_after n.course more h) (written_at_both s.latest new) (SeenStep s.latest new) (Err e)) (sym is) one) ends where
      -- how the two ends of the link were used in the whole run
      over : LinkResult → Type 0
      over = BothEnd s.first new

      -- the whole use of the two ends ended as the last step did
      whole : (r : LinkResult) → SeenStep s.latest new r → over r
      whole r = both_end s.first s.latest new r sound

      -- a result that neither end of the link can have is that of no step
      none : {e : RunFault} → (UseEnds s.latest.client new.client (Err e) → ⊥) → (UseEnds s.latest.instrument new.instrument (Err e) → ⊥)
          → SeenStep s.latest new (Err e) → ⊥
      none f g (inl x) = f x.0.ends
      none f g (inr x) = g x.1.ends

      -- by the fault: how the run ended
      by_fault : (e : RunFault) → AsksOne is_remote (length n.done) n.command (heard_after n.course more h) (written_at_both s.latest new) (SeenStep s.latest new) (Err e)
          → AskingEnds (SeenStep s.latest new) s.latest.sink.failed new.sink.failed (Err e)
          → Asks is_remote commands (s.given ++ more) (written_at_both s.first new) over (Err e)
      by_fault Read one ends = course_stops is_remote commands s n more new one.0.1 one.0.0 one.1
      by_fault (Write count part) one ends =
          let cut = cut_request is_remote (length n.done) (written_request (length n.done) n.command) s.latest.client.taken new.client.taken count part one.0 in
          course_cut is_remote commands s n more new count part cut.1.0 cut.0 cut.1.2 cut.1.1 one.1
      by_fault TooManyReads one ends = course_stops is_remote commands s n more new one.0.1 one.0.0 one.1
      by_fault LinkClosed one ends = course_stops is_remote commands s n more new one.0.1 one.0.0 one.1
      by_fault Output (inl o) ends =
          let is = settled_is (length n.done) n.command (heard_after n.course more h) o.2 in
          let text = written_request (length n.done) n.command in
          let next = settled_by_line (awaited n.command) o.2.line in
          course_sink_failed commands s n more new (length text) next over (Ok tt) (whole (Ok tt) o.0)
          (λ so. asked_with_reply n.done s more n.course n.command h o.2 ∙ ap (λ zs. zs ++ next ∷ []) (sym so))
          (taken_as_front s.latest.client.taken new.client.taken text o.1)
          (subst (λ (zs : List (Rule.Settlement Call)). WrotePartOfSettlements (length n.done) zs s.latest.sink.bytes new.sink.bytes) is.0 o.3)
      by_fault Output (inr o) ends =
          course_sink_failed commands s n more new o.2.0 (lost_of n.command) over (Err o.0) (whole (Err o.0) o.1) (λ so. refl) o.2.1 o.2.2
      by_fault other one ends = absurd (none (λ h. h) (λ h. h) ends.0)

-- where `Course` is true of the commands `done`, and one more command was asked and settled (`AsksOne`), `Course` is true of
-- `done` and that command
pub course_next : (is_remote : Bool) (done : List Command) (command : Command) (place : ℕ) (s : RunState) (more : List ℕ) (h : ClientHeard) (new : SeenAtBoth)
    → (at : Course done s) → length done ≡ place
    → AsksOne is_remote place command (heard_after at more h) (written_at_both s.latest new) (SeenStep s.latest new) (Ok tt)
    → Course (done ++ command ∷ []) (run_state_after s more h new)
course_next is_remote done command place s more h new at is one =
    let one' = subst (λ n. AsksOne is_remote n command (heard_after at more h) (written_at_both s.latest new) (SeenStep s.latest new) (Ok tt)) (sym is) one in
    course_more done command s more h new at one'.0.1 one'.0.0 one'.1
