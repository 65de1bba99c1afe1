-- A run of a chain that points the telescope, in the field, computed.
use Rattle.gc_theorems.proofs.Common.{◌≡◌, zero, suc, true, [], ◌∷◌, refl, sym, ap, subst, arith, take, header_at, reply_at, rounded, exec, handed, is_off_target, Task, AreChained, parts, opening, same_Some, IsPointedInField, commands, measures, AreStill, turns_telescope, runs-append, seen, AreShownAs, shown, simulator_ends, begins, eight_answered, plan, replies}
use Rattle.std.specs.Prelude.{drop}
use Rattle.std.specs.Fmt.{digits}
use Rattle.gc_theorems.specs.Plain.{plain_task}
use Rattle.gc_theorems.specs.ChainWitness.{acts, at_start, moves, program, scope}
use Rattle.gc_theorems.proofs.Witness.{asked_each, opening_fits, one_part, opens_simulator, units}

-- each command after the first is chained to the one before it
pub all_chained : AreChained commands 0 2
all_chained zero above upto = absurd (omega (arith, above))
all_chained (suc zero) above upto = refl
all_chained (suc (suc zero)) above upto = refl
all_chained (suc (suc (suc p))) above upto = absurd (omega (arith, upto))

-- no command between the first and the third turns the telescope
none_turns : AreStill commands 0 2
none_turns zero task above under e = absurd (omega (arith, above))
none_turns (suc zero) task above under e =
    let one : Task = plain_task 7 measures 100 true in
    ap (λ (t : Task). turns_telescope t.command.call) (sym (same_Some one task e))
none_turns (suc (suc p)) task above under e = absurd (omega (arith, under))

-- the run's parts are these: one with these steps, and with the three commands by place and moment; and the empty one
-- after the end
parts_are : parts plan commands scope acts ≡ one_part (asked_each replies) (seen moves) ((0, 15, 1) ∷ (1, 20, 2) ∷ (2, 25, 3) ∷ [])
unfolding is_off_target header_at reply_at digits rounded
parts_are = refl

-- what happens while the station synchronizes shows the null procedures and these replies
pub shown_are : shown simulator_ends eight_answered (begins at_start) ≡ asked_each replies
unfolding is_off_target header_at reply_at handed exec digits rounded
shown_are = refl

-- this run of a chain is in the field, and the telescope points where the first command pointed it
pub pointed_in_field : IsPointedInField
unfolding is_off_target header_at reply_at handed exec digits rounded
pointed_in_field =
    record {
      field =
          record {
            runs =
                runs-append plan commands (opening plan scope) (take 27 acts) (drop 27 acts) (opens_simulator 1 commands scope.reads)
                (tt, (refl, (tt, (tt, (refl, (tt, (tt, (refl, (tt, (tt, (refl, (tt, (tt, (refl, tt))))))))))))));
            lines = record { ids = tt; good = opening_fits };
            none = λ h. h;
            shown = subst (AreShownAs simulator_ends at_start program.runs) (sym parts_are) (shown_are, refl, (refl, refl, tt));
            possible = ((units 24, (tt, (tt, (tt, (tt, (tt, ((8, [], refl), (tt, (tt, (tt, (tt, ((9, [], refl), (tt, (tt, (tt, (tt, ((10, [], refl), (tt, (tt, (tt, (tt, ((11, [], refl), tt)))))))))))))))))))))), ((tt, refl), tt));
          };
      records = refl;
      chained = all_chained;
      still = none_turns;
      undisturbed = tt;
      executed = refl;
      pointing = refl;
    }
