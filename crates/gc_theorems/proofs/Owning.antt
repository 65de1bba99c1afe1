-- Each settlement of a run is its own, if its request is safe: the instrument made the answer on executing that request. A placed run is a
-- run with what was in flight when it began; `ends` is the instrument, `Good` the states that it may be in, and `kept` the reply that it
-- retains.
use Rattle.gc_theorems.proofs.Common.{◌≡◌, ℕ, suc, ◌+◌, ◌<◌, ◌≤◌, List, [], ◌∷◌, map, length, drop, refl, sym, arith, slice_get, AllByRecursion, slice_get_within, Asked, of_settled, Settlement, Answered, Late, Lost, lost, Pending, KeptReply, all_at, element_at, Ends, Sent, leaves, IsFaithful, PlacedRun, begun_at, asked, IsOfRequest, IsOwnUnlessLost, IsSafeRequest, IsSafeRun}
use Rattle.std.specs.Prelude.{Option, Some}
use Rattle.gc_theorems.specs.ClientRuns.{world}
use Rattle.gc_theorems.specs.Owned.{IsOwn}
use Rattle.gc_theorems.proofs.Among.{each_at, get_drop}

-- a request and a settlement with the same target and call ask the same
asks_the_same : (r : Sent) (s : Settlement Asked) → s.target ≡ r.target → s.call ≡ r.call → asked r ≡ of_settled s
asks_the_same r s t c = rw (t, c) refl

-- an answer isn't lost
pub answer_not_lost : (s : Settlement Asked) (line : List ℕ) → s.outcome ≡ Answered line → s.outcome ≡ Lost → ⊥
answer_not_lost s line is lost = let both : Answered line ≡ Lost = rw (sym is) lost in cc

-- nor is what is late
pub late_not_lost : (s : Settlement Asked) → s.outcome ≡ Late → s.outcome ≡ Lost → ⊥
late_not_lost s is lost = let both : Late ≡ Lost = rw (sym is) lost in cc

module _ {State : Type 0} (width : ℕ) (ends : Ends State) (Good : State → Type 0) (kept : State → Option KeptReply) where
  -- a settlement of a faithful run, after those of the eight null procedures, is its own if its request is safe, in the list that begins
  -- with this run
  own_at_place : (p : PlacedRun State) (ps : List (PlacedRun State)) → (begun_at ends p).left ≡ [] → IsFaithful width ends (leaves (begun_at ends p)) p.run.moves Good kept
      → (m : ℕ) (x : Settlement Asked) → 8 ≤ m → slice_get (world width ends p).wire.settled m ≡ Some x → IsOwnUnlessLost width ends Good kept (p ∷ ps) x
  own_at_place p ps begun f m x command e = λ by_reply.
      let o = f.one_for_one in
      let went : m < length (world width ends p).wire.sent = omega (arith, slice_get_within (world width ends p).wire.settled m x e, o.count) in
      let request = element_at (world width ends p).wire.sent m went in
      let same = o.same m x request.0 e request.1 in
      record {
        of = record {
          k = 0;
          placed = p;
          of_runs = refl;
          begun = begun;
          m = m;
          commands = command;
          settled = e;
          request = request.0;
          sent = request.1;
          asks = asks_the_same request.0 x same.0 same.1;
        };
        answer = λ safe line is. record {
          made = (f.booked m x (command, safe) e line is).0;
          reply = (f.booked m x (command, safe) e line is).1;
          executed = f.executed m x (command, safe) e line is;
          made_on = f.made_on m x (command, safe) e line is;
        };
        late = λ safe is. let made = f.late m x (command, safe) e is in record { line = made.0; made_on = made.1 };
      }

  -- each settlement of a faithful run, after those of the eight null procedures, is its own if its request is safe, in the list that
  -- begins with this run
  pub own_here : (p : PlacedRun State) (ps : List (PlacedRun State)) → (begun_at ends p).left ≡ [] → IsFaithful width ends (leaves (begun_at ends p)) p.run.moves Good kept
      → AllByRecursion (IsOwnUnlessLost width ends Good kept (p ∷ ps)) (drop 8 (world width ends p).wire.settled)
  own_here p ps begun f = each_at (IsOwnUnlessLost width ends Good kept (p ∷ ps)) (drop 8 (world width ends p).wire.settled)
      (λ m x e. own_at_place p ps begun f (8 + m) x (omega arith) (get_drop 8 m (world width ends p).wire.settled x e))

  -- what is known of a settlement of a later run is known of it in the list with one more run before it, too
  pub later_own : (p : PlacedRun State) (ps : List (PlacedRun State)) (x : Settlement Asked) → IsOwnUnlessLost width ends Good kept ps x → IsOwnUnlessLost width ends Good kept (p ∷ ps) x
  later_own p ps x own = λ by_reply.
      let o = own by_reply in
      record {
        of = record {
          k = suc o.of.k;
          placed = o.of.placed;
          of_runs = o.of.of_runs;
          begun = o.of.begun;
          m = o.of.m;
          commands = o.of.commands;
          settled = o.of.settled;
          request = o.of.request;
          sent = o.of.sent;
          asks = o.of.asks;
        };
        answer = λ safe line is. let made = o.answer safe line is in record { made = made.made; reply = made.reply; executed = made.executed; made_on = made.made_on };
        late = λ safe is. let made = o.late safe is in record { line = made.line; made_on = made.made_on };
      }

  -- nothing is claimed of the settlements of lost requests
  pub none_replied : (ps : List (PlacedRun State)) (lost_ones : List (Pending Asked)) → AllByRecursion (IsOwnUnlessLost width ends Good kept ps) (map lost lost_ones)
  none_replied ps [] = tt
  none_replied ps (p ∷ lost_ones) = ((λ by_reply. absurd (by_reply refl)), none_replied ps lost_ones)

  -- a settlement whose request is safe is its own
  pub own_if_safe : (ps : List (PlacedRun State)) (s : Settlement Asked) → IsOwnUnlessLost width ends Good kept ps s
      → ((of : IsOfRequest width ends ps s) → IsSafeRequest width ends Good kept of.placed of.m) → IsOwn width ends Good kept ps s
  own_if_safe ps s own safe =
      record {
        answer = λ line is. let o = own (answer_not_lost s line is) in record { of = o.of; made_for = o.answer (safe o.of) line is };
        late = λ is. let o = own (late_not_lost s is) in record { of = o.of; executed_for = o.late (safe o.of) is };
      }

  -- where each of these runs is safe, each of these settlements is its own
  pub all_own_if_safe : (ps : List (PlacedRun State)) → AllByRecursion (IsSafeRun width ends Good kept) ps
      → (s : Settlement Asked) → IsOwnUnlessLost width ends Good kept ps s → IsOwn width ends Good kept ps s
  all_own_if_safe ps safe s own = own_if_safe ps s own
      (λ of. all_at (IsSafeRun width ends Good kept) ps of.k of.placed safe of.of_runs of.m of.commands (slice_get_within (world width ends of.placed).wire.sent of.m of.request of.sent))
