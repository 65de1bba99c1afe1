-- What a stretch leaves in flight is well formed, whatever was damaged: requests with ids from 0 to 7, and an instrument in a good state. So
-- the next stretch may begin over it.
use Rattle.gc_theorems.proofs.Common.{◌≡◌, ℕ, ◌<◌, Bool, true, false, List, [], ◌∷◌, length, Option, Some, None, refl, sym, subst, arith, ltb, eqb, AllByRecursion, all_append, Asked, Table, NullProc, left_by, left_when, is_answered, ById, heard, hears, place_in, send_unless_full, settles_at, KeptReply, by_ids, each_without, each_doubled, Numbered, Request, Ends, Step, Send, Up_deliver, Up_lose, Up_repeat, Down_deliver, Down_lose, Down_repeat, Expire, Restart_client, Restart_instrument, Nothing, without, doubled, up_delivered, with_up, with_down, on_wire, requested, down_delivered, IsTurn, IsWellFormed, SyncModel, SyncTurn, UnderWay, asks, begins, comes, leaves, reaches, turns, Move, Sends, Tells, Comes, Foreign, OnLine, Anew, Changes, Joins, IsLineStep, IsPossible, IsAnInstrument, Harm, Does, Damages, Strikes, Harmed, harmed, harms, left_by_sync, HarmedStretch, ArePossibleHarms, ArePossibleIfSynchronized, IsPossibleHarm, IsPossibleStretch, at_its_end, left_by_stretch, left_if_synchronized, once_synchronized, synchronized, SyncHarm, AllMaySyncHarm, MaySyncHarm, sync_harmed, sync_harms}
use Rattle.gc_theorems.specs.Begin.{InFlight}
use Rattle.gc_theorems.proofs.BeginLists.{each_map}
use Rattle.gc_theorems.proofs.BegunFaithful.{each_of_eighth}
use Rattle.gc_theorems.specs.Begin as turn
use Rattle.gc_theorems.specs.DamagedSynchronizing as sync

-- these ids are from 0 to 7
abbrev AreDigits : List ℕ → Type 0
AreDigits ids = AllByRecursion (λ id. id < 8) ids

-- what is left of ids from 0 to 7, whether the first is answered or not
digits_when : (b : Bool) (w : ℕ) (ws : List ℕ) → AreDigits (w ∷ ws) → AreDigits (left_when b w ws)
digits_when true w ws h = h.1
digits_when false w ws h = h

-- what is left of ids from 0 to 7 once a line with this id came, or one without an id
digits_left : (left : List ℕ) (id : Option ℕ) → AreDigits left → AreDigits (left_by left id)
digits_left [] id h = tt
digits_left (w ∷ ws) id h = digits_when (is_answered (w ∷ ws) id) w ws h

-- a line that settles requests, or nothing (`b` is false), leaves the client's next id
next_settled : (c : ById Asked) (line : List ℕ) (k : ℕ) (b : Bool) → (settles_at c line k b).client.next ≡ c.next
next_settled c line k true = refl
next_settled c line k false = refl

-- a line that is heard leaves the client's next id
next_heard : (c : ById Asked) (line : List ℕ) (id : Option ℕ) → (hears c line id).client.next ≡ c.next
next_heard c line None = refl
next_heard c line (Some id) = next_settled c line (place_in c id) _

module _ {State : Type 0} (ends : Ends State) (Good : State → Type 0) (kept : State → Option KeptReply) (is : IsAnInstrument ends Good kept) where
  -- The synchronization.

  -- ids are from 0 to 7 while the station synchronizes, and the instrument's state is good
  record IsFit (s : SyncModel State) : Type 0 where
    good : Good s.state
    up : AllByRecursion (λ x. x.line.id < 8) s.up
    left : AreDigits s.left

  -- it stays so if the null procedure of the first id that is left is sent
  fit_asks : (s : SyncModel State) (left : List ℕ) → AreDigits left → IsFit s → IsFit (asks s left)
  fit_asks s [] d h = h
  fit_asks s (w ∷ ws) d h = record {
    good = h.good;
    up = all_append (λ x. x.line.id < 8) s.up (record { old = false; line = record { id = w; call = Table NullProc } } ∷ []) h.up (d.0, tt);
    left = h.left;
  }

  -- it stays so if the front reply comes
  fit_comes : (s : SyncModel State) (q : List (InFlight (List ℕ))) → IsFit s → IsFit (comes s q)
  fit_comes s [] h = h
  fit_comes s (x ∷ rest) h = record { good = h.good; up = h.up; left = digits_left s.left (heard x.line) h.left }

  -- it stays so if the front request reaches the instrument
  fit_reaches : (s : SyncModel State) (q : List (InFlight Request)) → AllByRecursion (λ x. x.line.id < 8) q → IsFit s → IsFit (reaches ends s q)
  fit_reaches s [] u h = h
  fit_reaches s (x ∷ rest) u h = record { good = is.stays_good s.state x.line.id x.line.call h.good u.0; up = u.1; left = h.left }

  -- it stays so by a turn without damage
  fit_turn : (s : SyncModel State) (t : SyncTurn State) → IsTurn Good kept s t → IsFit s → IsFit (turns ends s t)
  fit_turn s turn.Asks p h = fit_asks s s.left h.left h
  fit_turn s turn.Comes p h = fit_comes s s.down h
  fit_turn s (turn.Foreign line) p h = record { good = h.good; up = h.up; left = digits_left s.left (heard line) h.left }
  fit_turn s turn.Reaches p h = fit_reaches s s.up h.up h
  fit_turn s (turn.Up_lose k) p h = record { good = h.good; up = each_without (λ x. x.line.id < 8) k s.up h.up; left = h.left }
  fit_turn s (turn.Up_repeat k) p h = record { good = h.good; up = each_doubled (λ x. x.line.id < 8) k s.up h.up; left = h.left }
  fit_turn s (turn.Down_lose k) p h = record { good = h.good; up = h.up; left = h.left }
  fit_turn s (turn.Down_repeat k) p h = record { good = h.good; up = h.up; left = h.left }
  fit_turn s turn.Anew p h = record { good = is.starts_good s.state h.good; up = h.up; left = h.left }
  fit_turn s (turn.Changes state) p h = record { good = p.0; up = h.up; left = h.left }

  -- it stays so by a step with damage
  fit_harm : (s : SyncModel State) (t : SyncHarm State) → MaySyncHarm ends Good kept s t → IsFit s → IsFit (sync_harms ends s t)
  fit_harm s (sync.Does t) p h = fit_turn s t p h
  fit_harm s (sync.Damages line) p h = record { good = h.good; up = h.up; left = digits_left s.left (heard line) h.left }
  fit_harm s (sync.Strikes id call) p h = record { good = is.stays_good s.state id call h.good p; up = h.up; left = h.left }

  -- it stays so by all these
  fit_all : (ts : List (SyncHarm State)) (s : SyncModel State) → AllMaySyncHarm ends Good kept ts s → IsFit s → IsFit (sync_harmed ends ts s)
  fit_all [] s p h = h
  fit_all (t ∷ ts) s p h = fit_all ts (sync_harms ends s t) p.1 (fit_harm s t p.0 h)

  -- it is so at the end of a synchronization over what is well formed
  fit_synchronized : (u : UnderWay State) (ts : List (SyncHarm State)) → IsWellFormed Good u → AllMaySyncHarm ends Good kept ts (begins u) → IsFit (sync_harmed ends ts (begins u))
  fit_synchronized u ts well p =
      fit_all ts (begins u) p (record {
        good = well.good;
        up = each_map (λ x. x.id < 8) (λ (x : InFlight Request). x.line.id < 8) (λ x. record { old = true; line = x }) (λ x small. small) u.up well.ids;
        left = (omega arith, (omega arith, (omega arith, (omega arith, (omega arith, (omega arith, (omega arith, (omega arith, tt))))))));
      })

  -- After the synchronization.

  -- ids are from 0 to 7 once the station has synchronized, and the instrument's state is good
  record IsFine (h : Harmed State) : Type 0 where
    good : Good h.world.wire.state
    next : h.world.client.next < 8
    up : AllByRecursion (λ x. x.line.id < 8) h.world.wire.up

  -- it stays so by a send, or if that is refused
  fine_sent : (h : Harmed State) (target : ℕ) (call : Asked) (deadline : ℕ) (full : Bool) → IsFine h
      → IsFine (record { world = requested h.world target call (send_unless_full h.world.client target call deadline full); last = h.last })
  fine_sent h target call deadline true f = record { good = f.good; next = f.next; up = f.up }
  fine_sent h target call deadline false f = record {
    good = f.good;
    next = omega arith;
    up = all_append (λ x. x.line.id < 8) h.world.wire.up _ f.up (f.next, tt);
  }

  -- it stays so if the front reply comes
  fine_came : (h : Harmed State) (q : List (Numbered (List ℕ))) → IsFine h → IsFine (record { world = down_delivered (by_ids 7 ends) h.world q; last = h.last })
  fine_came h [] f = record { good = f.good; next = f.next; up = f.up }
  fine_came h (x ∷ rest) f = record { good = f.good; next = subst (λ n. n < 8) (sym (next_heard h.world.client x.line (ends.heard x.line))) f.next; up = f.up }

  -- it stays so if the front request reaches the instrument
  fine_reached : (h : Harmed State) (last : Option ℕ) (q : List (Numbered Request)) → AllByRecursion (λ x. x.line.id < 8) q → IsFine h
      → IsFine (record { world = on_wire h.world (up_delivered ends h.world.wire q); last = last })
  fine_reached h last [] u f = record { good = f.good; next = f.next; up = f.up }
  fine_reached h last (x ∷ rest) u f = record { good = is.stays_good h.world.wire.state x.line.id x.line.call f.good u.0; next = f.next; up = u.1 }

  -- it stays so with other requests in flight, if these are possible (`b`)
  fine_up : (h : Harmed State) (up : List (Numbered Request)) (b : Bool) → AllByRecursion (λ x. x.line.id < 8) up → IsFine h
      → IsFine (record { world = on_wire h.world (with_up h.world.wire up b); last = h.last })
  fine_up h up false u f = record { good = f.good; next = f.next; up = f.up }
  fine_up h up true u f = record { good = f.good; next = f.next; up = u }

  -- it stays so with other replies in flight, if these are possible (`b`)
  fine_down : (h : Harmed State) (down : List (Numbered (List ℕ))) (b : Bool) → IsFine h → IsFine (record { world = on_wire h.world (with_down h.world.wire down b); last = h.last })
  fine_down h down false f = record { good = f.good; next = f.next; up = f.up }
  fine_down h down true f = record { good = f.good; next = f.next; up = f.up }

  -- it stays so by a step of the line
  fine_step : (h : Harmed State) (step : Step) → IsLineStep step → IsFine h → IsFine (harms 7 ends h (Does (OnLine step)))
  fine_step h (Send target call deadline) p f = absurd p
  fine_step h Up_deliver p f = fine_reached h _ h.world.wire.up f.up f
  fine_step h (Up_lose k) p f = fine_up h (without k h.world.wire.up) (ltb k (length h.world.wire.up)) (each_without (λ x. x.line.id < 8) k h.world.wire.up f.up) f
  fine_step h (Up_repeat k) p f = fine_up h (doubled k h.world.wire.up) (ltb k (length h.world.wire.up)) (each_doubled (λ x. x.line.id < 8) k h.world.wire.up f.up) f
  fine_step h Down_deliver p f = absurd p
  fine_step h (Down_lose k) p f = fine_down h (without k h.world.wire.down) (ltb k (length h.world.wire.down)) f
  fine_step h (Down_repeat k) p f = fine_down h (doubled k h.world.wire.down) (ltb k (length h.world.wire.down)) f
  fine_step h (Expire now) p f = absurd p
  fine_step h Restart_client p f = absurd p
  fine_step h Restart_instrument p f = absurd p
  fine_step h Nothing p f = record { good = f.good; next = f.next; up = f.up }

  -- it stays so by a move
  fine_move : (h : Harmed State) (m : Move State) → IsPossible Good kept h.world m → IsFine h → IsFine (harms 7 ends h (Does m))
  fine_move h (Sends target call deadline) p f = fine_sent h target call deadline (eqb (length h.world.client.waiting) 7) f
  fine_move h (Tells now) p f = record { good = f.good; next = f.next; up = f.up }
  fine_move h (Comes line) p f = fine_came h h.world.wire.down f
  fine_move h (Foreign line) p f = record { good = f.good; next = f.next; up = f.up }
  fine_move h (OnLine step) p f = fine_step h step p f
  fine_move h Anew p f = record { good = is.starts_good h.world.wire.state f.good; next = f.next; up = f.up }
  fine_move h (Changes state) p f = record { good = p.0; next = f.next; up = f.up }
  fine_move h (Joins line) p f = absurd p

  -- it stays so by a step with damage
  fine_harm : (h : Harmed State) (m : Harm State) → IsPossibleHarm ends Good kept h m → IsFine h → IsFine (harms 7 ends h m)
  fine_harm h (Does move) p f = fine_move h move p f
  fine_harm h (Damages line) p f = record { good = f.good; next = subst (λ n. n < 8) (sym (next_heard h.world.client line (ends.heard line))) f.next; up = f.up }
  fine_harm h (Strikes id call) p f = record { good = is.stays_good h.world.wire.state id call f.good p; next = f.next; up = f.up }

  -- it stays so by all these
  fine_all : (ms : List (Harm State)) (h : Harmed State) → ArePossibleHarms ends Good kept ms h → IsFine h → IsFine (harmed 7 ends ms h)
  fine_all [] h p f = f
  fine_all (m ∷ ms) h p f = fine_all ms (harms 7 ends h m) p.1 (fine_harm h m p.0 f)

  -- what a synchronization leaves is well formed
  left_by_sync_well_formed : (u : UnderWay State) (ts : List (SyncHarm State)) → IsWellFormed Good u → AllMaySyncHarm ends Good kept ts (begins u) → IsWellFormed Good (left_by_sync ends u ts)
  left_by_sync_well_formed u ts well p =
      let f = fit_synchronized u ts well p in
      record { ids = each_map (λ (x : InFlight Request). x.line.id < 8) (λ x. x.id < 8) (λ (x : InFlight Request). x.line) (λ x small. small) (sync_harmed ends ts (begins u)).up f.up; good = f.good }

  -- what a stretch leaves is well formed, by the ids that are left of its word
  left_by_ids : (s : HarmedStretch State) (left : List ℕ) → IsWellFormed Good s.over → AllMaySyncHarm ends Good kept s.turns (begins s.over)
      → ArePossibleIfSynchronized ends Good kept left s → IsWellFormed Good (left_if_synchronized ends left s)
  left_by_ids s [] well turns steps =
      let l = left_by_sync_well_formed s.over s.turns well turns in
      let from = left_by_sync ends s.over s.turns in
      let f = fine_all s.steps (once_synchronized ends s) steps (record {
        good = l.good;
        next = omega arith;
        up = each_of_eighth (λ x. x.line.id < 8) (λ x. x.id < 8) (λ x small. small) from.up l.ids;
      }) in
      record {
        ids = each_map (λ (x : Numbered Request). x.line.id < 8) (λ x. x.id < 8) (λ (x : Numbered Request). x.line) (λ x small. small) (at_its_end ends s).world.wire.up f.up;
        good = f.good;
      }
  left_by_ids s (asked ∷ rest) well turns steps = left_by_sync_well_formed s.over s.turns well turns

  -- what a stretch leaves is well formed
  pub left_well_formed : (s : HarmedStretch State) → IsWellFormed Good s.over → IsPossibleStretch ends Good kept s → IsWellFormed Good (left_by_stretch ends s)
  left_well_formed s well p = left_by_ids s (synchronized ends s).left well p.turns p.steps

  -- the steps of a stretch are possible after its synchronization, whichever ids are left of its word
  steps_possible : (s : HarmedStretch State) (left : List ℕ) → ArePossibleIfSynchronized ends Good kept left s → ArePossibleHarms ends Good kept s.steps (once_synchronized ends s)
  steps_possible s [] p = p
  steps_possible s (asked ∷ rest) p = subst (λ ms. ArePossibleHarms ends Good kept ms (once_synchronized ends s)) (sym p) tt

  -- the steps of a possible stretch are possible after its synchronization
  pub possible_steps : (s : HarmedStretch State) → IsPossibleStretch ends Good kept s → ArePossibleHarms ends Good kept s.steps (once_synchronized ends s)
  possible_steps s p = steps_possible s (synchronized ends s).left p.steps
