-- The station's run of `specs/DamagedStation.antt` comes out as it says, by computation.
use Rattle.gc_theorems.proofs.Common.{◌≡◌, inl, inr, false, [], ◌∷◌, ◌++◌, refl, sym, subst, arith, lit<, codes, take, AllZip, header_at, reply_at, Table, InstrumentNo, WINDOW, exec, handed, is_off_target, runs-append, parts, opening, begins, simulator_ends, plan, replies, scope, Damages, WasMadeAmid, WasSettledByDamage, IsSeenAs, once_synchronized, seen_harms, shown_harms}
use Rattle.std.specs.Prelude.{drop}
use Rattle.std.specs.Fmt.{digits}
use Rattle.gc_theorems.proofs.Witness.{asked_each, one_part, opening_fits, opens_simulator, units}
use Rattle.gc_theorems.specs.DamagedStation.{IsDamagedStation, acts, answer, at_start, commands, damaged, program, steps, stretch, turns, until_damage, until_end, until_last, until_reached}

-- the run's parts are these: one with these steps, and with the two requests by place and moment; and the empty one after the end
parts_are : parts plan commands scope acts ≡ one_part (asked_each replies) (seen_harms steps) ((0, 15, 1) ∷ (1, 20, 2) ∷ [])
unfolding is_off_target header_at reply_at digits
parts_are = refl

-- what happens while the station synchronizes shows the null procedures and these replies
shown_are : shown_harms simulator_ends turns (begins at_start) ≡ asked_each replies
unfolding is_off_target header_at reply_at handed exec digits
shown_are = refl

-- the first answer is by a damaged line
first_by_damage : WasSettledByDamage simulator_ends stretch 9 damaged
unfolding header_at reply_at handed exec digits
first_by_damage = record { front = until_damage; step = Damages damaged; later = drop 1 until_reached ++ until_end; split = refl; before = omega arith; after = refl; damaged = inl refl }

-- the second answer was made on executing the second command's request
second_own : WasMadeAmid WINDOW simulator_ends (once_synchronized simulator_ends stretch) steps 10 (Table InstrumentNo) answer
unfolding header_at reply_at handed exec digits
second_own = record { front = until_damage ++ until_reached; later = drop 1 until_end; split = refl; id = 2; own_id = refl; rest = []; reaches = refl; executed = refl; reply = refl }

-- this run is over a line that damages, and records both answers
pub damaged_station : IsDamagedStation
unfolding is_off_target header_at reply_at handed exec digits
damaged_station =
    record {
      field =
          record {
            runs =
                runs-append plan commands (opening plan scope) (take 27 acts) (drop 27 acts) (opens_simulator 1 commands scope.reads)
                (tt, (refl, (tt, (tt, (refl, (tt, (tt, (refl, (tt, (tt, (refl, tt)))))))))));
            lines = record { ids = tt; good = opening_fits };
            row = (refl, (refl, tt));
            seen = subst (λ ps. AllZip (IsSeenAs simulator_ends) ps program.stretches) (sym parts_are) ((shown_are, refl), ((refl, refl), tt));
            possible = (
              record { turns = units 25; steps = (tt, (tt, (tt, (tt, (tt, ((8, [], refl), (tt, (tt, (tt, (tt, (tt, (tt, (tt, (tt, (lit< tt, (tt, (tt, ((10, [], refl), tt)))))))))))))))))) },
              (record { turns = tt; steps = refl }, tt),
            );
            own = inl (refl, (refl, tt));
          };
      apart =
          record {
            begun =
                inl (record { front = until_last; later = []; split = refl; alone = refl; reply = record { old = false; line = codes "%R1P,0,7:0" }; rest = []; next = refl; own = refl; id = refl });
            apart = (tt, (tt, (tt, (tt, (tt, (tt, (tt, (tt, (tt, (tt, (tt, (inr refl, (tt, (tt, (tt, (tt, (tt, (tt, tt))))))))))))))))));
          };
      over = refl;
      records = refl;
      by_damage = first_by_damage;
      own = second_own;
    }
