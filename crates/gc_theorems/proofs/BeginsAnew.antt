-- A run that resynchronizes, in the field, computed.
use Rattle.gc_theorems.proofs.Common.{◌≡◌, inl, List, [], ◌∷◌, refl, sym, subst, lit≤, codes, take, header_at, reply_at, Table, InstrumentNo, WINDOW, is_off_target, SynchronizesAnew, Part, Runs, opening, parts, state_after, runs-append, Told, begins, WasMadeOn, at_start, null_replies, counting, first_reply, seen, AreShownAs, shown, at, begun_with}
use Rattle.std.specs.Prelude.{◌+◌, map, drop}
use Rattle.std.specs.Fmt.{digits}
use Rattle.gc_theorems.specs.BeginsAnew.{IsAnsweredAnew, acts, acts_anew, acts_until_anew, answer, commands, from, later_replies, left_by_first, moves, moves_anew, plan, program, scope, six_unanswered, sixth_reply, turns}
use Rattle.gc_theorems.proofs.CountingChain.{counted_in_field, opens_counting, shown_are}
use Rattle.gc_theorems.proofs.Witness.{asked_each, one_part, part_of, units}
use Rattle.gc_station.specs.Parts as part

-- what the turns of the second synchronization show to the station
abbrev all_sync_steps : List part.SyncStep
all_sync_steps =
    part.Asks ∷ part.Hears first_reply ∷ part.Hears sixth_reply ∷ part.Asks ∷ part.Hears sixth_reply ∷ part.Hears (codes "%R1P,0,5:0,39") ∷ asked_each (drop 1 later_replies)

-- the parts of the run: until the station resynchronizes, from there on, and the empty one after the end
abbrev all_parts : List Part
all_parts =
    part_of (asked_each null_replies) (seen moves) (map (λ place. (place, 15, place + 1)) (0 ∷ 1 ∷ 2 ∷ 3 ∷ 4 ∷ 5 ∷ []))
    ∷ one_part all_sync_steps (seen moves_anew) ((6, 120, 1) ∷ [])

-- the parts of the run are `all_parts`
parts_are : parts plan commands scope acts ≡ all_parts
unfolding is_off_target header_at reply_at digits
parts_are = refl

-- the turns of the second synchronization show the station the steps `all_sync_steps`
shown_anew : shown counting turns (begins left_by_first) ≡ all_sync_steps
unfolding is_off_target header_at reply_at digits
shown_anew = refl

-- the acts until the station resynchronizes are a run
runs_until_anew : Runs plan commands (opening plan scope) acts_until_anew
unfolding is_off_target header_at reply_at digits
runs_until_anew =
    runs-append plan commands (opening plan scope) (begun_with null_replies []) six_unanswered (opens_counting 7 commands scope.reads)
    (tt, (refl, (tt, (tt, (refl, (tt, (refl, (tt, (refl, (tt, (refl, (tt, (refl, (tt, (refl, (tt, (tt, tt)))))))))))))))))

-- the acts from there on, in which the station resynchronizes, are a run from the model that the acts before them leave
runs_anew : Runs plan commands (state_after plan commands scope acts_until_anew) acts_anew
unfolding is_off_target header_at reply_at digits
runs_anew =
    runs-append plan commands (state_after plan commands scope acts_until_anew) (take 9 acts_anew) (drop 9 acts_anew)
    (tt, (refl, (tt, (tt, (tt, (refl, (tt, (tt, (tt, tt)))))))))
    (refl, (tt, (tt, (refl, (tt, (tt, (refl, (tt, (tt, (refl, (tt, (tt, (refl, (tt, (tt, (refl, (tt, (tt, (refl, (tt, (tt, (refl, (tt, (tt, (refl, tt)))))))))))))))))))))))))

-- after the acts `acts_until_anew`, by the end of which six requests have timed out, the station resynchronizes at the next act
resynchronizes_next : SynchronizesAnew plan commands scope acts_until_anew (Told (at 115))
unfolding is_off_target header_at reply_at digits
resynchronizes_next = record { resynchronizes = record { renews = refl; moment = at 115; told = refl; why = inl (inl (lit≤ tt)); given_up = refl }; word = refl; client = refl }

-- the answer was made on executing the last command's request, the new client's first one after its null procedure
was_made : WasMadeOn WINDOW counting from moves_anew 9 (Table InstrumentNo) answer
unfolding is_off_target header_at reply_at digits
was_made = record { front = take 7 moves_anew; later = drop 8 moves_anew; split = refl; id = 1; rest = []; reaches = refl; executed = refl; reply = refl }

-- this run resynchronizes, and the last command has its own answer
pub answered_anew : IsAnsweredAnew
unfolding is_off_target header_at reply_at digits
answered_anew =
    record {
      instrument = counted_in_field.instrument;
      field =
          record {
            runs = runs-append plan commands (opening plan scope) acts_until_anew acts_anew runs_until_anew runs_anew;
            lines = record { ids = tt; good = tt };
            none = λ h. h;
            shown = subst (AreShownAs counting at_start program.runs) (sym parts_are) (shown_are, refl, (shown_anew, refl, (refl, refl, tt)));
            possible = (
              (units 24, (tt, (tt, (tt, (tt, (tt, ((8, [], refl), units 19))))))),
              ((units 27, (tt, (tt, (tt, (tt, ((8, [], refl), (tt, (tt, (tt, (tt, ((9, [], refl), tt))))))))))), ((tt, refl), tt)),
            );
          };
      over = refl;
      begins_anew = resynchronizes_next;
      up = refl;
      down = refl;
      written = refl;
      made_on = was_made;
    }
