-- A bound n on the lists and the counts of a run (`IsWithin`): after each event they are within n + 1. Where a comment says that
-- something raises the bound by at most one, what was within n is within n + 1 after it.
use Rattle.gc_world.proofs.Common.{ℕ, zero, suc, ◌+◌, ◌-◌, ◌<◌, ◌≤◌, Bool, true, false, List, [], ◌∷◌, ◌++◌, Option, Some, None, length, map, arith, subst, ltb, cond, refl, ap, ◌≡◌, ◌∙◌, replicate, length-map, length_push, with_end, Call, Sending, Settlement, Handed, Direction, Up, Down, Event, deliver, texts, Streams, Cut, one_line_more, cut, at_line, passed, up_texts, down_texts, up_lines, down_lines, flows, flow, Request, Numbered, Ends, Rule, Step, Send, Up_deliver, Up_lose, Up_repeat, Down_deliver, Down_lose, Down_repeat, Expire, Restart_client, Restart_instrument, Nothing, Wire, World, bytes_of, call_line, without, doubled, idle, replied, up_delivered, with_up, with_down, instrument_restarted, requested, down_delivered, client_restarted, happens, run}
use Rattle.std.proofs.lemmas.List.{length-drop}
use Rattle.gc_world.specs.World.{Sent, started}
use Rattle.gc_world.proofs.Directions.{one_less}
use Rattle.gc_world.specs.declared.event.Event.TheVariants as event

-- none of these lists and counts is above n; a request that is in flight counts as an execution and as a reply
pub record IsWithin {State : Type 0} (n : ℕ) (w : Wire State) : Type 0 where
  pub sent : length w.sent ≤ n
  pub executed : length w.executed + length w.up ≤ n
  pub made : length w.made + length w.up ≤ n
  pub starts : length w.starts ≤ n
  pub refused : w.refused ≤ n
  pub idle : w.idle ≤ n

-- a loss makes no list longer
without_no_longer : {A : Type 0} (k : ℕ) (xs : List A) → length (without k xs) ≤ length xs
without_no_longer k [] = omega arith
without_no_longer zero (x ∷ xs) = omega arith
without_no_longer (suc k) (x ∷ xs) = omega (arith, without_no_longer k xs)

-- a repeat makes a list longer by at most one
doubled_one_longer : {A : Type 0} (k : ℕ) (xs : List A) → length (doubled k xs) ≤ length xs + 1
doubled_one_longer k [] = omega arith
doubled_one_longer zero (x ∷ xs) = omega arith
doubled_one_longer (suc k) (x ∷ xs) = omega (arith, doubled_one_longer k xs)

-- no more lines are completed than there are
cut_few : (lines : List (List ℕ)) (n : ℕ) → (cut lines n).lines ≤ length lines
cut_few [] n = omega arith
cut_few (line ∷ lines) n = by_size (ltb n (length line)) (cut_few lines (n - length line))
  where
    by_size : (b : Bool) → (cut lines (n - length line)).lines ≤ length lines
        → (cond {A = Cut} b (record { lines = 0; gone = n }) (one_line_more (cut lines (n - length line)))).lines ≤ suc (length lines)
    by_size true few = omega arith
    by_size false few = omega (arith, few)

-- once one of `more` + 1 requests in flight was answered, and counted as an execution (b) or not, executions and requests in
-- flight together haven't grown
pub one_answered : (executed : List ℕ) (k more : ℕ) (b : Bool) → length (cond b (executed ++ k ∷ []) executed) + more ≤ length executed + suc more
one_answered executed k more true = omega (arith, length_push executed k)
one_answered executed k more false = omega arith

-- what is within n is within n also with other settlements and other replies in flight
others_within : {State : Type 0} (n : ℕ) (w : Wire State) (settled : List (Settlement Call)) (down : List (Numbered (List ℕ))) → IsWithin n w
    → IsWithin n (record w { settled = settled; down = down })
others_within n w settled down h = record { sent = h.sent; executed = h.executed; made = h.made; starts = h.starts; refused = h.refused; idle = h.idle }

module _ {Client State : Type 0} (ends : Ends State) (rule : Rule Client) (n : ℕ) where
  -- what is within n is within n + 1, also with counts of refused sends and of idle events that are greater by at most one
  counted_within : (w : Wire State) (refused idle : ℕ) → refused ≤ w.refused + 1 → idle ≤ w.idle + 1 → IsWithin n w
      → IsWithin (n + 1) (record w { refused = refused; idle = idle })
  counted_within w refused idle few_refused few_idle h = record {
    sent = omega (arith, h.sent);
    executed = omega (arith, h.executed);
    made = omega (arith, h.made);
    starts = omega (arith, h.starts);
    refused = omega (arith, h.refused, few_refused);
    idle = omega (arith, h.idle, few_idle);
  }

  -- what is within n is within n + 1
  one_more_within : (w : Wire State) → IsWithin n w → IsWithin (n + 1) w
  one_more_within w h = counted_within w w.refused w.idle (omega arith) (omega arith) h

  -- an event that is not possible raises the bound by at most one
  idles : (w : Wire State) → IsWithin n w → IsWithin (n + 1) (idle w)
  idles w h = counted_within w w.refused (w.idle + 1) (omega arith) (omega arith) h

  -- a send raises the bound by at most one
  sends : (w : World Client State) (target : ℕ) (call : Call) (o : Option (Sending Client)) → IsWithin n w.wire → IsWithin (n + 1) (requested w target call o).wire
  sends w target call None h = counted_within w.wire (w.wire.refused + 1) w.wire.idle (omega arith) (omega arith) h
  sends w target call (Some x) h =
      let d : Sent = record { target = target; call = call; line = call_line x.id call } in
      let up = length_push w.wire.up (record { number = length w.wire.sent; line = record { id = x.id; call = call } }) in
      record {
        sent = omega (arith, h.sent, length_push w.wire.sent d);
        executed = omega (arith, h.executed, up);
        made = omega (arith, h.made, up);
        starts =
            omega (arith, h.starts);
        refused = omega (arith, h.refused);
        idle = omega (arith, h.idle);
      }

  -- a request that is answered moves from those in flight (1 + `more`) to the executions, if it was executed (b): executions
  -- and requests in flight together are still at most n
  executes : (executed : List ℕ) (k more : ℕ) (b : Bool) → length executed + suc more ≤ n → length (cond b (executed ++ k ∷ []) executed) + more ≤ n
  executes executed k more b h = omega (arith, h, one_answered executed k more b)

  -- what is within n is still within n once the front request x was answered: it moves from those in flight to the replies, and
  -- to the executions if it was executed
  answers : (w : Wire State) (x : Numbered Request) (rest : List (Numbered Request)) (hd : Handed State) → w.up ≡ x ∷ rest → IsWithin n w
      → IsWithin n (replied w x.number rest hd)
  answers w x rest hd e h =
      let m : Numbered (List ℕ) = record { number = x.number; line = hd.reply } in
      let up : length w.up ≡ suc (length rest) = ap length e in
      record {
        sent = h.sent;
        executed = executes w.executed x.number (length rest) hd.executed (omega (arith, h.executed, up));
        made =
            omega (arith, h.made, up, length_push w.made m);
        starts = h.starts;
        refused = h.refused;
        idle = h.idle;
      }

  -- a delivery to the instrument raises the bound by at most one
  delivers : (w : Wire State) (q : List (Numbered Request)) → w.up ≡ q → IsWithin n w → IsWithin (n + 1) (up_delivered ends w q)
  delivers w [] e h = idles w h
  delivers w (x ∷ rest) e h = one_more_within (replied w x.number rest (ends.handed w.state x.line.id x.line.call)) (answers w x rest (ends.handed w.state x.line.id x.line.call) e h)

  -- putting in place an upward queue that is longer by at most one (b true), or counting an idle event instead (b false), raises
  -- the bound by at most one
  changes_up : (w : Wire State) (up : List (Numbered Request)) (b : Bool) → length up ≤ length w.up + 1 → IsWithin n w → IsWithin (n + 1) (with_up w up b)
  changes_up w up false le h = idles w h
  changes_up w up true le h = record {
    sent = omega (arith, h.sent);
    executed = omega (arith, h.executed, le);
    made = omega (arith, h.made, le);
    starts =
        omega (arith, h.starts);
    refused = omega (arith, h.refused);
    idle = omega (arith, h.idle);
  }

  -- putting in place another downward queue (b true), or counting an idle event instead (b false), raises the bound by at most
  -- one
  changes_down : (w : Wire State) (down : List (Numbered (List ℕ))) (b : Bool) → IsWithin n w → IsWithin (n + 1) (with_down w down b)
  changes_down w down false h = idles w h
  changes_down w down true h = one_more_within (record w { down = down }) (others_within n w w.settled down h)

  -- a delivery to the client raises the bound by at most one
  hears : (w : World Client State) (q : List (Numbered (List ℕ))) → IsWithin n w.wire → IsWithin (n + 1) (down_delivered rule w q).wire
  hears w [] h = idles w.wire h
  hears w (x ∷ rest) h = one_more_within (down_delivered rule w (x ∷ rest)).wire (others_within n w.wire (w.wire.settled ++ (rule.reply w.client x).settlements) rest h)

  -- with a start of the instrument (b true) or without one, the bound rises by at most one
  starts : (w : Wire State) (b : Bool) → IsWithin n w → IsWithin (n + 1) (started ends w b)
  starts w false h = one_more_within w h
  starts w true h = record {
    sent = omega (arith, h.sent);
    executed = omega (arith, h.executed);
    made = omega (arith, h.made);
    starts =
        omega (arith, h.starts, length_push w.starts (length w.executed));
    refused = omega (arith, h.refused);
    idle = omega (arith, h.idle);
  }

  -- a restart of the instrument raises the bound by at most one
  restarts_instrument : (w : Wire State) (up : List (Numbered Request)) (down : List (Numbered (List ℕ))) → IsWithin n w
      → IsWithin (n + 1) (instrument_restarted ends w up down)
  restarts_instrument w [] [] h = starts w true h
  restarts_instrument w [] (y ∷ down) h = idles w h
  restarts_instrument w (x ∷ up) down h = idles w h

  -- a restart of the client raises the bound by at most one
  restarts_client : (w : World Client State) (up : List (Numbered Request)) (down : List (Numbered (List ℕ))) → IsWithin n w.wire
      → IsWithin (n + 1) (client_restarted ends rule w up down).wire
  restarts_client w [] [] h =
      let v = started ends w.wire ends.joint in
      others_within (n + 1) v (v.settled ++ (rule.restart w.client).settlements) v.down (starts w.wire ends.joint h)
  restarts_client w [] (y ∷ down) h = idles w.wire h
  restarts_client w (x ∷ up) down h = idles w.wire h

  -- each step raises the bound by at most one
  pub one_step : (w : World Client State) (e : Step) → IsWithin n w.wire → IsWithin (n + 1) (happens ends rule w e).wire
  one_step w (Send target call deadline) h = sends w target call (rule.send w.client target call deadline) h
  one_step w Up_deliver h = delivers w.wire w.wire.up refl h
  one_step w (Up_lose k) h = changes_up w.wire (without k w.wire.up) (ltb k (length w.wire.up)) (omega (arith, without_no_longer k w.wire.up)) h
  one_step w (Up_repeat k) h = changes_up w.wire _ (ltb k (length w.wire.up)) (doubled_one_longer k w.wire.up) h
  one_step w Down_deliver h = hears w w.wire.down h
  one_step w (Down_lose k) h = changes_down w.wire _ (ltb k (length w.wire.down)) h
  one_step w (Down_repeat k) h = changes_down w.wire _ (ltb k (length w.wire.down)) h
  one_step w (Expire now) h = one_more_within w.wire h
  one_step w Restart_client h = restarts_client w w.wire.up w.wire.down h
  one_step w Restart_instrument h = restarts_instrument w.wire w.wire.up w.wire.down h
  one_step w Nothing h = idles w.wire h

  -- a delivery of a request that is in flight doesn't raise the bound
  up_once : (w : Wire State) (q : List (Numbered Request)) → w.up ≡ q → 0 < length (map (λ x. bytes_of x.line) q)
      → IsWithin n w → IsWithin n (up_delivered ends w q)
  up_once w [] e some h = absurd (omega (arith, some))
  up_once w (x ∷ rest) e some h = answers w x rest (ends.handed w.state x.line.id x.line.call) e h

  -- a delivery of a reply that is in flight doesn't raise the bound
  down_once : (w : World Client State) (q : List (Numbered (List ℕ))) → 0 < length (map (λ x. x.line) q) → IsWithin n w.wire
      → IsWithin n (down_delivered rule w q).wire
  down_once w [] some h = absurd (omega (arith, some))
  down_once w (x ∷ rest) some h = others_within n w.wire (w.wire.settled ++ (rule.reply w.client x).settlements) rest h

  -- a delivery of a line that is in flight doesn't raise the bound
  one_delivery : (d : Direction) (w : World Client State) → 0 < length (texts d w.wire) → IsWithin n w.wire → IsWithin n (happens ends rule w (deliver d)).wire
  one_delivery Up w some h = up_once w.wire w.wire.up refl some h
  one_delivery Down w some h = down_once w w.wire.down some h

  -- deliveries of lines that are in flight don't raise the bound, however many they are
  all_deliveries : (d : Direction) (k : ℕ) (w : World Client State) → k ≤ length (texts d w.wire) → IsWithin n w.wire
      → IsWithin n (run ends rule (replicate k (deliver d)) w).wire
  all_deliveries d zero w le h = h
  all_deliveries d (suc k) w le h =
      let less : length (texts d (happens ends rule w (deliver d)).wire) ≡ length (texts d w.wire) - 1 = ap length (one_less ends rule d w) ∙ length-drop 1 (texts d w.wire) in
      all_deliveries d k (happens ends rule w (deliver d)) (omega (arith, le, less)) (one_delivery d w (omega (arith, le)) h)

  -- k bytes of a direction raise the bound by at most one, where `lines` are as many as are in flight in the direction
  passes : (d : Direction) (lines : List (List ℕ)) (gone k : ℕ) (w : World Client State) → length lines ≡ length (texts d w.wire) → IsWithin n w.wire
      → IsWithin (n + 1) (run ends rule (passed (deliver d) lines gone k) w).wire
  passes d [] gone k w e h = idles w.wire h
  passes d (line ∷ lines) gone zero w e h = idles w.wire h
  passes d (line ∷ lines) gone (suc k) w e h =
      let c = (cut (line ∷ lines) (gone + suc k)).lines in
      one_more_within (run ends rule (replicate c (deliver d)) w).wire (all_deliveries d c w (omega (arith, cut_few (line ∷ lines) (gone + suc k), e)) h)

  -- each event raises the bound by at most one
  pub one_event : (v : Streams Client State) (e : Event) → IsWithin n v.world.wire → IsWithin (n + 1) (flows ends rule v e).world.wire
  one_event v (event.Send target call deadline) h = one_step v.world (Send target call deadline) h
  one_event v event.UpDeliver h = one_step v.world Up_deliver h
  one_event v (event.UpBytes k) h = passes Up (up_lines v.world.wire) v.up_gone k v.world (length-map (up_texts v.world.wire) with_end) h
  one_event v (event.UpLose k) h = one_step v.world (at_line k v.up_gone (Up_lose k)) h
  one_event v (event.UpRepeat k) h = one_step v.world (at_line k v.up_gone (Up_repeat k)) h
  one_event v event.DownDeliver h = one_step v.world Down_deliver h
  one_event v (event.DownBytes k) h = passes Down (down_lines v.world.wire) v.down_gone k v.world (length-map (down_texts v.world.wire) with_end) h
  one_event v (event.DownLose k) h = one_step v.world (at_line k v.down_gone (Down_lose k)) h
  one_event v (event.DownRepeat k) h = one_step v.world (at_line k v.down_gone (Down_repeat k)) h
  one_event v (event.Expire now) h = one_step v.world (Expire now) h
  one_event v event.RestartClient h = one_step v.world Restart_client h
  one_event v event.RestartInstrument h = one_step v.world Restart_instrument h

module _ {Client State : Type 0} (ends : Ends State) (rule : Rule Client) where
  -- events raise the bound n by at most as many as they are
  pub within_all : (es : List Event) (v : Streams Client State) (n : ℕ) → IsWithin n v.world.wire → IsWithin (n + length es) (flow ends rule es v).world.wire
  within_all [] v n h = let z : n ≡ n + 0 = omega arith in subst (λ m. IsWithin m v.world.wire) z h
  within_all (e ∷ es) v n h = let z : n + 1 + length es ≡ n + length (e ∷ es) = omega arith in
      subst (λ m. IsWithin m (flow ends rule es (flows ends rule v e)).world.wire) z (within_all es (flows ends rule v e) (n + 1) (one_event ends rule n v e h))
