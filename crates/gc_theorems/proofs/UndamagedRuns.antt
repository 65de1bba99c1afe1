-- Runs of the field are runs with damage, in which there is none.
use Rattle.gc_theorems.proofs.Common.{◌≡◌, ◌⊎◌, ℕ, List, [], ◌∷◌, ◌++◌, map, Option, refl, sym, ◌∙◌, ap, subst, AllByRecursion, AllZip, KeptReply, Part, by_ids, Ends, AreTurns, SyncModel, SyncTurn, UnderWay, begins, leaves, turns, ArePossibleIfBegun, AreRuns, Run, after_turns, left_by_run, left_if_begun, under_way_on, ids_begun, world_once_begun, ArePossible, Move, moved, seen, IsAnInstrument, TreatsRawsAlike, IsInField, Program, program_parts, AreShownAs, shown, shows, Harmed, Does, harm_begun, harmed, harms, Holding, holding_begun, holding_harms, AreOfTable, IsInHarmedField, left_by_sync, AreApart, AreInARow, ArePossibleHarms, ArePossibleIfSynchronized, HarmedStretch, IsDamagedOnceSynchronized, IsPossibleStretch, IsSeenAs, left_by_stretch, left_if_synchronized, once_synchronized, seen_harms, shown_harms, synchronized, AllMaySyncHarm, sync_harmed}
use Rattle.gc_theorems.proofs.InTime.{seen_append}
use Rattle.gc_theorems.specs.UndamagedRuns.{IsInstance, undamaged_program, undamaged_stretches}
use Rattle.gc_theorems.proofs.DamagedRuns.{run_apart}
use Rattle.gc_theorems.proofs.DamagedUndamaged.{same_turns}
use Rattle.gc_theorems.specs.DamagedSynchronizing as sync

-- moves show the client what they do as steps without damage
same_seen : {State : Type 0} (ms : List (Move State)) → seen_harms (map Does ms) ≡ seen ms
same_seen [] = refl
same_seen (m ∷ ms) = ap (λ l. seen (m ∷ []) ++ l) (same_seen ms) ∙ sym (seen_append (m ∷ []) ms)

module _ {State : Type 0} (ends : Ends State) where
  -- turns show the station what they do as steps without damage
  same_shown : (ts : List (SyncTurn State)) (s : SyncModel State) → shown_harms ends (map sync.Does ts) s ≡ shown ends ts s
  same_shown [] s = refl
  same_shown (t ∷ ts) s = ap (λ l. shows s t ++ l) (same_shown ts (turns ends s t))

  -- moves do what they do as steps without damage
  same_moved : (ms : List (Move State)) (h : Harmed State) → (harmed 7 ends (map Does ms) h).world ≡ moved ends (by_ids 7 ends) ms h.world
  same_moved [] h = refl
  same_moved (m ∷ ms) h = same_moved ms (harms 7 ends h (Does m))

  -- steps without damage are apart
  all_apart : (ms : List (Move State)) (g : Holding State) → AreApart ends (map Does ms) g
  all_apart [] g = tt
  all_apart (m ∷ ms) g = (tt, all_apart ms (holding_harms 7 ends g (Does m)))

  -- the stretch of a run over `u`
  abbrev of_run : UnderWay State → Run State → HarmedStretch State
  of_run u r = record { over = u; turns = map sync.Does r.turns; steps = map Does r.moves }

  -- its synchronization is that of the run
  same_sync : (u : UnderWay State) (r : Run State) → synchronized ends (of_run u r) ≡ after_turns ends u r
  same_sync u r = same_turns ends r.turns (begins u)

  -- what it leaves in flight, by the ids that are left of its word
  same_left_by : (u : UnderWay State) (r : Run State) (left : List ℕ) → left_if_synchronized ends left (of_run u r) ≡ left_if_begun 7 ends left (after_turns ends u r) r.moves
  same_left_by u r [] =
      ap (λ w. under_way_on w.wire) (same_moved r.moves (harm_begun 7 ends (left_by_sync ends u (map sync.Does r.turns))))
      ∙ ap (λ (s : SyncModel State). under_way_on (world_once_begun 7 ends (leaves s) r.moves).wire) (same_sync u r)
  same_left_by u r (asked ∷ rest) = ap (λ (s : SyncModel State). leaves s) (same_sync u r)

  -- what it leaves in flight is what the run leaves
  same_left : (u : UnderWay State) (r : Run State) → left_by_stretch ends (of_run u r) ≡ left_by_run 7 ends u r
  same_left u r =
      ap (λ (s : SyncModel State). left_if_synchronized ends s.left (of_run u r)) (same_sync u r) ∙ same_left_by u r (after_turns ends u r).left

  -- the stretches are in a row
  in_a_row : (u v : UnderWay State) (rs : List (Run State)) → u ≡ v → AreInARow ends v (undamaged_stretches ends u rs)
  in_a_row u v [] e = tt
  in_a_row u v (r ∷ rs) e = (e, in_a_row (left_by_run 7 ends u r) (left_by_stretch ends (of_run u r)) rs (sym (same_left u r)))

  -- they are seen as the parts as which the runs are shown
  all_seen : (u : UnderWay State) (rs : List (Run State)) (ps : List Part) → AreShownAs ends u rs ps → AllZip (IsSeenAs ends) ps (undamaged_stretches ends u rs)
  all_seen u [] [] h = tt
  all_seen u [] (p ∷ ps) h = absurd h
  all_seen u (r ∷ rs) [] h = absurd h
  all_seen u (r ∷ rs) (p ∷ ps) h = ((same_shown r.turns (begins u) ∙ h.0, same_seen r.moves ∙ h.1), all_seen (left_by_run 7 ends u r) rs ps h.2)

  -- nothing is damaged in them
  all_undamaged : (u : UnderWay State) (rs : List (Run State)) → AllByRecursion (IsDamagedOnceSynchronized ends) (undamaged_stretches ends u rs)
  all_undamaged u [] = tt
  all_undamaged u (r ∷ rs) = (
    record { turns = r.turns; undamaged = refl; apart = all_apart r.moves (holding_begun 7 ends (left_by_sync ends u (map sync.Does r.turns))) },
    all_undamaged (left_by_run 7 ends u r) rs,
  )

  module _ (Good : State → Type 0) (kept : State → Option KeptReply) where
    -- possible turns are possible as steps with damage
    may_turns : (ts : List (SyncTurn State)) (s : SyncModel State) → AreTurns ends Good kept ts s → AllMaySyncHarm ends Good kept (map sync.Does ts) s
    may_turns [] s p = tt
    may_turns (t ∷ ts) s p = (p.0, may_turns ts (turns ends s t) p.1)

    -- possible moves are possible as steps with damage
    may_moves : (ms : List (Move State)) (h : Harmed State) → ArePossible ends Good kept (by_ids 7 ends) ms h.world → ArePossibleHarms ends Good kept (map Does ms) h
    may_moves [] h p = tt
    may_moves (m ∷ ms) h p = (p.0, may_moves ms (harms 7 ends h (Does m)) p.1)

    -- so are those of a run, by the ids that are left of its word
    may_by : (u : UnderWay State) (r : Run State) (left : List ℕ) → ArePossibleIfBegun 7 ends Good kept left (after_turns ends u r) r.moves → ArePossibleIfSynchronized ends Good kept left (of_run u r)
    may_by u r [] p =
        may_moves r.moves (once_synchronized ends (of_run u r))
        (subst (λ (s : SyncModel State). ArePossible ends Good kept (by_ids 7 ends) r.moves (ids_begun (leaves s))) (sym (same_sync u r)) p)
    may_by u r (asked ∷ rest) p = ap (λ ms. map Does ms) p

    -- the stretches are possible
    all_possible : (u : UnderWay State) (rs : List (Run State)) → AreRuns 7 ends Good kept u rs → AllByRecursion (IsPossibleStretch ends Good kept) (undamaged_stretches ends u rs)
    all_possible u [] p = tt
    all_possible u (r ∷ rs) p = (
      record {
        turns = may_turns r.turns (begins u) p.0.0;
        steps = subst (λ (s : SyncModel State). ArePossibleIfSynchronized ends Good kept s.left (of_run u r)) (sym (same_sync u r)) (may_by u r (after_turns ends u r).left p.0.1);
      },
      all_possible (left_by_run 7 ends u r) rs p.1,
    )

    -- a program in the field is one in the field with damage
    in_harmed_field : (u : UnderWay State) (x : Program State) → IsInField ends Good kept u x → AreOfTable x.commands ⊎ TreatsRawsAlike ends Good kept
        → IsInHarmedField ends Good kept u (undamaged_program ends u x)
    in_harmed_field u x h own = record {
      runs = h.runs;
      lines = h.lines;
      row = in_a_row u u x.runs refl;
      seen = all_seen u x.runs (program_parts x) h.shown;
      possible = all_possible u x.runs h.possible;
      own = own;
    }

    -- and damage is apart in each of its stretches
    pub is_instance : IsAnInstrument ends Good kept → (u : UnderWay State) (x : Program State) → IsInField ends Good kept u x → AreOfTable x.commands ⊎ TreatsRawsAlike ends Good kept
        → IsInstance ends Good kept u x
    is_instance is u x h own =
        let field = in_harmed_field u x h own in
        record { field = field; apart = run_apart ends Good kept is u (undamaged_program ends u x) field h.none (all_undamaged u x.runs) }
