-- A run with a late record, in the field, computed.
use Rattle.gc_theorems.proofs.Common.{◌≡◌, [], ◌∷◌, refl, sym, subst, take, header_at, reply_at, Table, InstrumentNo, WINDOW, exec, handed, simulator_ends, WasMadeOn, is_off_target, runs-append, opening, parts, seen, AreShownAs, plan, replies, scope}
use Rattle.std.specs.Prelude.{drop}
use Rattle.std.specs.Fmt.{digits}
use Rattle.gc_theorems.specs.ChainWitness.{at_start}
use Rattle.gc_theorems.specs.LateAnswer.{IsLateInField, acts, answer, commands, from, late, moves, program}
use Rattle.gc_theorems.proofs.ChainWitness.{shown_are}
use Rattle.gc_theorems.proofs.Witness.{asked_each, opening_fits, one_part, opens_simulator, units}

-- the late reply was made on executing the first command's request
late_made : WasMadeOn WINDOW simulator_ends from moves 9 (Table InstrumentNo) late
unfolding is_off_target header_at reply_at handed exec digits
late_made = record { front = take 8 moves; later = drop 9 moves; split = refl; id = 1; rest = []; reaches = refl; executed = refl; reply = refl }

-- the answer was made on executing the second command's request
answer_made : WasMadeOn WINDOW simulator_ends from moves 10 (Table InstrumentNo) answer
unfolding is_off_target header_at reply_at handed exec digits
answer_made = record { front = take 14 moves; later = drop 15 moves; split = refl; id = 2; rest = []; reaches = refl; executed = refl; reply = refl }

-- the run's parts are these: one with these steps, and with the two commands by place and moment; and the empty one
-- after the end
parts_are : parts plan commands scope acts ≡ one_part (asked_each replies) (seen moves) ((0, 15, 1) ∷ (1, 115, 2) ∷ [])
unfolding is_off_target header_at reply_at digits
parts_are = refl

-- this run is in the field, and records a late record and an answer
pub late_in_field : IsLateInField
unfolding is_off_target header_at reply_at handed exec digits
late_in_field =
    record {
      field =
          record {
            runs =
                runs-append plan commands (opening plan scope) (take 27 acts) (drop 27 acts) (opens_simulator 1 commands scope.reads)
                (tt, (refl, (tt, (tt, (refl, (tt, (tt, (refl, (tt, (tt, (tt, (refl, tt))))))))))));
            lines = record { ids = tt; good = opening_fits };
            none = λ h. h;
            shown = subst (AreShownAs simulator_ends at_start program.runs) (sym parts_are) (shown_are, refl, (refl, refl, tt));
            possible = ((units 24, (tt, (tt, (tt, (tt, (tt, ((8, [], refl), (tt, (tt, (tt, (tt, (tt, (tt, (tt, ((9, [], refl), (tt, (tt, ((10, [], refl), tt)))))))))))))))))), ((tt, refl), tt));
          };
      over = refl;
      records = refl;
      late_made_on = late_made;
      answer_made_on = answer_made;
    }
