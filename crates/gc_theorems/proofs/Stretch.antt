-- A stretch with damage: a synchronization whose eighth null procedure is answered by its own reply, and what follows.
use Rattle.gc_theorems.proofs.Common.{◌≡◌, ℕ, ◌≤◌, false, List, [], ◌∷◌, map, Option, Some, AllByRecursion, heard, KeptReply, Ends, Request, IsWellFormed, UnderWay, begins, eighth_null, IsAnInstrument, Harm, AllMayHarm, AreOwnOr, IsCleanBut, harm_begun, SyncHarm, AllMaySyncHarm, OwnEighthComes, WasStruck, sync_harmed, left_by_sync}
use Rattle.gc_theorems.specs.Begin.{InFlight}
use Rattle.gc_theorems.proofs.Own.{own_or_broken}
use Rattle.gc_theorems.proofs.Synchronizing.{own_eighth_is_clean}

-- requests without their marks
requests_left : (xs : List (InFlight Request)) → AllByRecursion (λ x. (x.old ≡ false) × (x.line ≡ eighth_null)) xs → AllByRecursion (λ x. x ≡ eighth_null) (map (λ x. x.line) xs)
requests_left [] h = tt
requests_left (x ∷ xs) h = (h.0.1, requests_left xs h.1)

-- the same of replies
replies_left : (xs : List (InFlight (List ℕ))) → AllByRecursion (λ x. (x.old ≡ false) × (heard x.line ≡ Some 7)) xs → AllByRecursion (λ line. heard line ≡ Some 7) (map (λ x. x.line) xs)
replies_left [] h = tt
replies_left (x ∷ xs) h = (h.0.1, replies_left xs h.1)

module _ {State : Type 0} (width : ℕ) (narrow : width ≤ 7) (ends : Ends State) (Good : State → Type 0) (kept : State → Option KeptReply) (is : IsAnInstrument ends Good kept) where
  -- if the eighth null procedure is answered by its own reply, what a synchronization leaves is clean, but for a kept reply to a request
  -- that damage made
  pub left_clean : (u : UnderWay State) (ts : List (SyncHarm State)) → IsWellFormed Good u → AllMaySyncHarm ends Good kept ts (begins u) → OwnEighthComes ends u ts
      → IsCleanBut (λ line. WasStruck ends u ts line) Good kept (left_by_sync ends u ts)
  left_clean u ts well p o =
      let c = own_eighth_is_clean ends Good kept is u ts well p o in
      let s = sync_harmed ends ts (begins u) in
      record { good = c.good; up = requests_left s.up c.up; down = replies_left s.down c.down; keeps = c.keeps }

  -- a stretch is local
  pub stretch_is_local : (u : UnderWay State) (ts : List (SyncHarm State)) (ms : List (Harm State)) → IsWellFormed Good u → AllMaySyncHarm ends Good kept ts (begins u) → OwnEighthComes ends u ts
      → AllMayHarm width ends Good kept ms (harm_begun width ends (left_by_sync ends u ts))
      → AreOwnOr width ends (λ line. WasStruck ends u ts line) (harm_begun width ends (left_by_sync ends u ts)) ms
  stretch_is_local u ts ms well p o q = own_or_broken width narrow ends Good kept is (λ line. WasStruck ends u ts line) (left_by_sync ends u ts) ms (left_clean u ts well p o) q
