-- When what a client sends is safe, by its events: if a request that is no call of the table is to the instrument as all others, or if the
-- events ask for nothing but calls of the table. A run is the turns of a synchronization and then the moves of the field, and a placed
-- run is a run with what was in flight when it began.
use Rattle.gc_theorems.proofs.Common.{ℕ, List, [], ◌∷◌, ◌++◌, map, Option, inl, inr, AllByRecursion, KeptReply, Stepped, AreInTable, IsInTable, every_behind as all_behind, every_front as all_front, UnderWay, begins, Run, left_by_run, PlacedRun, events_of, events_over, placed_runs, Move, Sends, Tells, AsksTheTable, seen, TreatsRawsAlike, IsSafeRun, Ends}
use Rattle.gc_client.specs.OneForOne as one
use Rattle.gc_theorems.specs.Field as field

-- moves of the field whose events ask for calls of the table send nothing else
table_moves : {State : Type 0} (ms : List (Move State)) → AreInTable (map Stepped (seen ms)) → AsksTheTable ms
table_moves [] h = tt
table_moves (Sends target call deadline ∷ ms) h = (h.0, table_moves ms h.1)
table_moves (Tells now ∷ ms) h = table_moves ms h.1
table_moves (field.Comes line ∷ ms) h = table_moves ms h.1
table_moves (field.Foreign line ∷ ms) h = table_moves ms h.1
table_moves (m ∷ ms) h = table_moves ms h

module _ {State : Type 0} (width : ℕ) (ends : Ends State) (Good : State → Type 0) (kept : State → Option KeptReply) where
  -- if a request that is no call of the table is to the instrument as all others, each run is safe
  pub alike_safe : TreatsRawsAlike ends Good kept → (ps : List (PlacedRun State)) → AllByRecursion (IsSafeRun width ends Good kept) ps
  alike_safe alike [] = tt
  alike_safe alike (p ∷ ps) = ((λ m command went. inr (inl alike)), alike_safe alike ps)

  -- runs whose events ask for nothing but calls of the table are safe
  pub table_safe : (rs : List (Run State)) (u : UnderWay State) → AreInTable (events_over width ends u rs)
      → AllByRecursion (IsSafeRun width ends Good kept) (placed_runs width ends u rs)
  table_safe [] u h = tt
  table_safe (r ∷ []) u h =
      let own = all_behind IsInTable (events_of ends (begins u) r.turns) (map Stepped (seen r.moves)) h in
      ((λ m command went. inl (table_moves r.moves own)), tt)
  table_safe (r ∷ next ∷ others) u h =
      let after = left_by_run width ends u r in
      let later = Stepped one.Restart ∷ events_over width ends after (next ∷ others) in
      let rest = all_behind IsInTable (events_of ends (begins u) r.turns) (map Stepped (seen r.moves) ++ later) h in
      let own = all_front IsInTable (map Stepped (seen r.moves)) later rest in
      ((λ m command went. inl (table_moves r.moves own)), table_safe (next ∷ others) after (all_behind IsInTable (map Stepped (seen r.moves)) later rest).1)
