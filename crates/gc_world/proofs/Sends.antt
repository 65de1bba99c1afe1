-- Each request that was sent has its send in the list of events.
use Rattle.gc_world.proofs.Common.{◌≡◌, ℕ, zero, suc, cond, ◌+◌, ◌<◌, ◌≤◌, Bool, true, false, List, [], ◌∷◌, ◌++◌, length, Option, Some, None, ◌⊎◌, inl, inr, Contains, refl, sym, ◌∙◌, ap, subst, arith, append_assoc, ltb, eqb, replicate, eqb-true, eqb-false, append-nil, length_push, cons_tail, Call, request_line, ById, Sending, Event, UpDeliver, UpBytes, UpLose, UpRepeat, DownDeliver, DownBytes, DownLose, DownRepeat, RestartClient, RestartInstrument, by_ids, ids_open, streams_by_ids, left_between, Streams, untouched, cut, passed, is_begun, up_lines, down_lines, flows, flow, HasSend, IsInTime, IsTooLate, IsInTimeOrTooLate, IsNeverInTimeAndTooLate, Request, Numbered, Ends, Rule, Wire, World, Step, Up_deliver, Down_deliver, up_delivered, with_up, with_down, instrument_restarted, requested, down_delivered, client_restarted, happens, run}
use Rattle.gc_world.specs.declared.event.Event.TheVariants.{Send, Expire}
use Rattle.gc_world.specs.World.{started}
use Rattle.gc_world.proofs.Flow.{flow_append}
use Rattle.gc_world.proofs.Moments.{AllEarly, OneReaches, early_or_reached}
use Rattle.gc_world.specs.World

-- the event is a send
abbrev IsSend : Event → Type 0
IsSend e = (target : ℕ) × (call : Call) × (deadline : ℕ) × (e ≡ Send target call deadline)

-- `before` and `after` are counts of requests sent before and after the event e: they are equal, or e is a send and `after` is
-- one more
abbrev SendsAtMostOne : (e : Event) → (before after : ℕ) → Type 0
SendsAtMostOne e before after = (after ≡ before) ⊎ (IsSend e × (after ≡ before + 1))

module _ {Client S : Type 0} (ends : Ends S) (rule : Rule Client) where
  -- a send adds one request to those sent, or none where it is refused
  at_send : (w : World Client S) (target : ℕ) (call : Call) (deadline : ℕ) (o : Option (Sending Client))
      → SendsAtMostOne (Send target call deadline) (length w.wire.sent) (length (requested w target call o).wire.sent)
  at_send w target call deadline None = inl refl
  at_send w target call deadline (Some x) = inr ((target, call, deadline, refl), length_push w.wire.sent (record { target = target; call = call; line = request_line (Some x.id) call }))

  -- a delivery to the instrument sends nothing
  at_up : (w : Wire S) (q : List (Numbered Request)) → (up_delivered ends w q).sent ≡ w.sent
  at_up w [] = refl
  at_up w (x ∷ rest) = refl

  -- putting another upward queue in place sends nothing
  at_with_up : (w : Wire S) (up : List (Numbered Request)) (b : Bool) → (with_up w up b).sent ≡ w.sent
  at_with_up w up true = refl
  at_with_up w up false = refl

  -- putting another downward queue in place sends nothing
  at_with_down : (w : Wire S) (down : List (Numbered (List ℕ))) (b : Bool) → (with_down w down b).sent ≡ w.sent
  at_with_down w down true = refl
  at_with_down w down false = refl

  -- a delivery to the client sends nothing
  at_down : (w : World Client S) (q : List (Numbered (List ℕ))) → (down_delivered rule w q).wire.sent ≡ w.wire.sent
  at_down w [] = refl
  at_down w (x ∷ rest) = refl

  -- whether there is a start of the instrument (b) or not, nothing is sent
  at_start : (w : Wire S) (b : Bool) → (started ends w b).sent ≡ w.sent
  at_start w true = refl
  at_start w false = refl

  -- a restart of the client sends nothing
  at_restart : (w : World Client S) (up : List (Numbered Request)) (down : List (Numbered (List ℕ))) → (client_restarted ends rule w up down).wire.sent ≡ w.wire.sent
  at_restart w [] [] = at_start w.wire ends.joint
  at_restart w [] (y ∷ down) = refl
  at_restart w (x ∷ up) down = refl

  -- a restart of the instrument sends nothing
  at_instrument : (w : Wire S) (up : List (Numbered Request)) (down : List (Numbered (List ℕ))) → (instrument_restarted ends w up down).sent ≡ w.sent
  at_instrument w [] [] = refl
  at_instrument w [] (y ∷ down) = refl
  at_instrument w (x ∷ up) down = refl

  -- where a step sends nothing, neither it (b false) nor `Nothing` in its place (b true) does
  at_begun : (w : World Client S) (step : Step) (b : Bool) → (happens ends rule w step).wire.sent ≡ w.wire.sent
      → (happens ends rule w (cond b World.Nothing step)).wire.sent ≡ w.wire.sent
  at_begun w step true e = refl
  at_begun w step false e = e

  -- the step sends nothing, in whatever world
  abbrev SendsNone : Step → Type 0
  SendsNone step = (w : World Client S) → (happens ends rule w step).wire.sent ≡ w.wire.sent

  -- a step that sends nothing, made k times, sends nothing
  none_by_all : (step : Step) (k : ℕ) (w : World Client S) → SendsNone step → (run ends rule (replicate k step) w).wire.sent ≡ w.wire.sent
  none_by_all step zero w none = refl
  none_by_all step (suc k) w none = none_by_all step k (happens ends rule w step) none ∙ none w

  -- where a step sends nothing, the steps that k bytes make of it (`passed`) send nothing
  none_by_bytes : (step : Step) (lines : List (List ℕ)) (gone k : ℕ) (w : World Client S) → SendsNone step
      → (run ends rule (passed step lines gone k) w).wire.sent ≡ w.wire.sent
  none_by_bytes step [] gone k w none = refl
  none_by_bytes step (line ∷ lines) gone zero w none = refl
  none_by_bytes step (line ∷ lines) gone (suc k) w none = none_by_all step (cut (line ∷ lines) (gone + suc k)).lines w none

  -- an event sends at most one request, and does so only where it is a send
  sends_one : (v : Streams Client S) (e : Event) → SendsAtMostOne e (length v.world.wire.sent) (length (flows ends rule v e).world.wire.sent)
  sends_one v (Send target call deadline) = at_send v.world target call deadline (rule.send v.world.client target call deadline)
  sends_one v UpDeliver = inl (ap length (at_up v.world.wire v.world.wire.up))
  sends_one v (UpBytes k) = inl (ap length (none_by_bytes Up_deliver (up_lines v.world.wire) v.up_gone k v.world (λ w. at_up w.wire w.wire.up)))
  sends_one v (UpLose k) = inl (ap length (at_begun v.world (World.Up_lose k) (is_begun k v.up_gone) (at_with_up v.world.wire _ (ltb k (length v.world.wire.up)))))
  sends_one v (UpRepeat k) = inl (ap length (at_begun v.world (World.Up_repeat k) (is_begun k v.up_gone) (at_with_up v.world.wire _ (ltb k (length v.world.wire.up)))))
  sends_one v DownDeliver = inl (ap length (at_down v.world v.world.wire.down))
  sends_one v (DownBytes k) = inl (ap length (none_by_bytes Down_deliver (down_lines v.world.wire) v.down_gone k v.world (λ w. at_down w w.wire.down)))
  sends_one v (DownLose k) = inl (ap length (at_begun v.world (World.Down_lose k) (is_begun k v.down_gone) (at_with_down v.world.wire _ (ltb k (length v.world.wire.down)))))
  sends_one v (DownRepeat k) = inl (ap length (at_begun v.world (World.Down_repeat k) (is_begun k v.down_gone) (at_with_down v.world.wire _ (ltb k (length v.world.wire.down)))))
  sends_one v (Expire now) = inl refl
  sends_one v RestartClient = inl (ap length (at_restart v.world v.world.wire.up v.world.wire.down))
  sends_one v RestartInstrument = inl (ap length (at_instrument v.world.wire v.world.wire.up v.world.wire.down))

module _ {State : Type 0} (ends : Ends State) (width : ℕ) (opening : State) (n : ℕ) where
  -- how many requests the run by ids of these events sent
  abbrev sent_in : List Event → ℕ
  sent_in events = length (left_between ends width opening events).sent

  -- the wire that the run by ids of one more event leaves is that of the streams after the others and then this event
  left_more : (events : List Event) (e : Event) → left_between ends width opening (events ++ e ∷ [])
      ≡ (flows ends (by_ids width ends) (streams_by_ids width ends events (ends.restarted opening)) e).world.wire
  left_more events e = ap (λ (v : Streams (ById Call) State). v.world.wire) (flow_append ends (by_ids width ends) events (e ∷ []) (untouched (ids_open (ends.restarted opening))))

  -- the list has the send of request n, where the event e sends a request, and at most n were sent before it: if n were (b true),
  -- that send is e; if fewer were (b false), the last premise gives it
  found_at : (earlier : List Event) (e : Event) (rest : List Event) (b : Bool) (test : eqb (sent_in earlier) n ≡ b) (few : sent_in earlier ≤ n) (send : IsSend e)
      (more : sent_in (earlier ++ e ∷ []) ≡ sent_in earlier + 1) (again : (sent_in (earlier ++ e ∷ []) ≤ n → HasSend ends width opening (earlier ++ e ∷ rest) n))
      → HasSend ends width opening (earlier ++ e ∷ rest) n
  found_at earlier e rest true t le (target, call, deadline, is) more again =
      let here : sent_in earlier ≡ n = eqb-true _ _ t in
      record {
        earlier = earlier;
        target = target;
        call = call;
        deadline = deadline;
        later = rest;
        order = ap (λ x. earlier ++ x ∷ rest) is;
        number = here;
        taken = ap (λ x. sent_in (earlier ++ x ∷ [])) (sym is) ∙ more ∙ ap (λ m. m + 1) here;
      }
  found_at earlier e rest false t le send more again = again (omega (arith, eqb-false _ _ t, le, more))

  -- where at most n requests were sent before the event e (`SendsAtMostOne`), the list has the send of request n: it is e, or the
  -- last premise gives it
  found_by : (earlier : List Event) (e : Event) (rest : List Event) → sent_in earlier ≤ n
      → SendsAtMostOne e (sent_in earlier) (sent_in (earlier ++ e ∷ []))
      → (sent_in (earlier ++ e ∷ []) ≤ n → HasSend ends width opening (earlier ++ e ∷ rest) n) → HasSend ends width opening (earlier ++ e ∷ rest) n
  found_by earlier e rest le (inl same) again = again (omega (arith, same, le))
  found_by earlier e rest le (inr (send, more)) again = found_at earlier e rest (eqb (sent_in earlier) n) refl le send more again

  -- an event after others sends nothing, or is a send of one request
  sends_one_in : (earlier : List Event) (e : Event) → SendsAtMostOne e (sent_in earlier) (sent_in (earlier ++ e ∷ []))
  sends_one_in earlier e =
      subst (λ (w : Wire State). SendsAtMostOne e (sent_in earlier) (length w.sent)) (sym (left_more earlier e))
      (sends_one ends (by_ids width ends) (streams_by_ids width ends earlier (ends.restarted opening)) e)

  -- where the events `earlier` send at most n requests, and `earlier` and `later` together more than n, the send of request n
  -- is in the list
  found : (earlier later : List Event) → sent_in earlier ≤ n → n < sent_in (earlier ++ later) → HasSend ends width opening (earlier ++ later) n
  found earlier [] le lt = absurd (omega (arith, le, lt, ap sent_in (append-nil earlier)))
  found earlier (e ∷ rest) le lt =
      let same : (earlier ++ e ∷ []) ++ rest ≡ earlier ++ e ∷ rest = append_assoc earlier (e ∷ []) rest in
      found_by earlier e rest le (sends_one_in earlier e)
      (λ le1. subst (λ es. HasSend ends width opening es n) same (found (earlier ++ e ∷ []) rest le1 (subst (λ es. n < sent_in es) (sym same) lt)))

  -- a request that was sent has its send in the list
  pub is_sent : (events : List Event) → n < sent_in events → HasSend ends width opening events n
  is_sent events lt = found [] events (omega arith) lt

-- a request whose send is in the list is in time where each moment after the send lies before its deadline, and too late where
-- one reaches it
in_time_or_too_late : {State : Type 0} (ends : Ends State) (width : ℕ) (opening : State) (events : List Event) (n : ℕ) (s : HasSend ends width opening events n)
    → AllEarly s.deadline s.later ⊎ OneReaches s.deadline s.later → IsInTime ends width opening events n ⊎ IsTooLate ends width opening events n
in_time_or_too_late ends width opening events n s (inl early) = inl (record { sent = s; early = early })
in_time_or_too_late ends width opening events n s (inr (now, has, reached)) = inr (record { sent = s; now = now; given = has; reached = reached })

-- a request that was sent is in time or too late
pub one_or_other : {State : Type 0} (ends : Ends State) → IsInTimeOrTooLate ends
one_or_other ends width opening events n lt =
    let s = is_sent ends width opening n events lt in
    in_time_or_too_late ends width opening events n s (early_or_reached s.deadline s.later)

-- The send of a request is in the list once.

module _ {State : Type 0} (ends : Ends State) (rule : Rule (ById Call)) (n : ℕ) where
  -- the streams after these events, by this rule
  abbrev runs : List Event → Streams (ById Call) State → Streams (ById Call) State
  runs es v = flow ends rule es v

  -- an event leaves no fewer requests sent
  no_fewer : (w : Streams (ById Call) State) (e : Event) → SendsAtMostOne e (length w.world.wire.sent) (length (flows ends rule w e).world.wire.sent)
      → length w.world.wire.sent ≤ length (flows ends rule w e).world.wire.sent
  no_fewer w e (inl same) = omega (arith, same)
  no_fewer w e (inr (send, more)) = omega (arith, more)

  -- events leave no fewer requests sent
  sent_grows : (es : List Event) (w : Streams (ById Call) State) → length w.world.wire.sent ≤ length (runs es w).world.wire.sent
  sent_grows [] w = omega arith
  sent_grows (e ∷ es) w = omega (arith, no_fewer w e (sends_one ends rule w e), sent_grows es (flows ends rule w e))

  -- the send of request n is at one place of a list of events: where two splits of the list, at the events a and b, each
  -- have n requests sent before that event and n + 1 after it, that event and what follows it are the same
  one_split : (xs ys : List Event) (a b : Event) (later rest : List Event) (w : Streams (ById Call) State) (same : xs ++ a ∷ later ≡ ys ++ b ∷ rest)
      (before_a : length (runs xs w).world.wire.sent ≡ n) (before_b : length (runs ys w).world.wire.sent ≡ n) (after_a : length (runs (xs ++ a ∷ []) w).world.wire.sent ≡ n + 1)
      (after_b : length (runs (ys ++ b ∷ []) w).world.wire.sent ≡ n + 1) → a ∷ later ≡ b ∷ rest
  one_split [] [] a b later rest w e hx hy tx ty = e
  one_split [] (y ∷ ys) a b later rest w e hx hy tx ty =
      let same : a ≡ y = cc in
      let v = flows ends rule w y in
      let more : length v.world.wire.sent ≡ n + 1 = ap (λ z. length (flows ends rule w z).world.wire.sent) (sym same) ∙ tx in
      absurd (omega (arith, more, sent_grows ys v, hy))
  one_split (x ∷ xs) [] a b later rest w e hx hy tx ty =
      let same : b ≡ x = cc in
      let v = flows ends rule w x in
      let more : length v.world.wire.sent ≡ n + 1 = ap (λ z. length (flows ends rule w z).world.wire.sent) (sym same) ∙ ty in
      absurd (omega (arith, more, sent_grows xs v, hx))
  one_split (x ∷ xs) (y ∷ ys) a b later rest w e hx hy tx ty =
      let same : y ≡ x = cc in
      let tail : xs ++ a ∷ later ≡ ys ++ b ∷ rest = cc in
      let v = flows ends rule w x in
      one_split xs ys a b later rest v tail hx
      (subst (λ z. length (runs ys (flows ends rule w z)).world.wire.sent ≡ n) same hy) tx
      (subst (λ z. length (runs (ys ++ b ∷ []) (flows ends rule w z)).world.wire.sent ≡ n + 1) same ty)

-- lists that are equal, and begin with sends, begin with sends of the same deadline
same_deadline : (t u : ℕ) (c d : Call) (k m : ℕ) (later rest : List Event) → Send t c k ∷ later ≡ Send u d m ∷ rest → k ≡ m
same_deadline t u c d k m later rest e = cc

-- no request is both in time and too late
pub never_both : {State : Type 0} (ends : Ends State) → IsNeverInTimeAndTooLate ends
never_both ends width opening events n a b =
    let s = a.sent in
    let t = b.sent in
    let x : Event = Send s.target s.call s.deadline in
    let y : Event = Send t.target t.call t.deadline in
    let one = one_split ends (by_ids width ends) n s.earlier t.earlier x y s.later t.later (untouched (ids_open (ends.restarted opening))) (sym s.order ∙ t.order) s.number t.number s.taken t.taken in
    let lt : b.now < s.deadline = a.early b.now (subst (λ es. Contains es (Expire b.now)) (sym (cons_tail x y s.later t.later one)) b.given) in
    absurd (omega (arith, lt, b.reached, same_deadline s.target t.target s.call t.call s.deadline t.deadline s.later t.later one))
