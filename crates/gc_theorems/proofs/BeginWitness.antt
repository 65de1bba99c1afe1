-- The runs of `specs/BeginWitness.antt` come out as it says, by computation.
use Rattle.gc_theorems.proofs.Common.{◌≤◌, ℕ, List, [], ◌∷◌, refl, arith, lit<, codes, take, header_at, reply_at, Table, InstrumentNo, WINDOW, exec, handed, simulator_ends, Numbered, WasMadeOn}
use Rattle.std.specs.Prelude.{drop}
use Rattle.std.specs.Fmt.{digits}
use Rattle.gc_theorems.specs.BeginWitness.{AreSomeRuns, IsBookedFromBefore, from, next_moves}
use Rattle.gc_theorems.proofs.Witness.{opening_fits, units}

-- the reply to the first command
abbrev first_reply : Numbered (List ℕ)
first_reply = record { number = 8; line = codes "%R1P,0,0:0,123456" }

-- the reply to the second command
abbrev second_reply : Numbered (List ℕ)
second_reply = record { number = 9; line = codes "%R1P,0,1:0,123456" }

-- the first command's answer was made on executing its request
was_made : WasMadeOn WINDOW simulator_ends from next_moves 8 (Table InstrumentNo) (codes "%R1P,0,0:0,123456")
unfolding header_at reply_at handed exec digits
was_made =
    record {
      front = take 3 next_moves;
      later = drop 4 next_moves;
      split = refl;
      id = 0;
      rest = record { number = 9; line = record { id = 1; call = Table InstrumentNo } } ∷ [];
      reaches = refl;
      executed = refl;
      reply = refl;
    }

-- some runs meet the premises of the law on runs one after the other
pub some_runs : AreSomeRuns
unfolding header_at reply_at handed exec digits
some_runs =
    let one : 1 ≤ 5 = omega arith in
    let none : 0 ≤ 5 = omega arith in
    record {
      lines = record { ids = (lit< tt, (lit< tt, tt)); good = opening_fits };
      rising =
          record {
            low = 7;
            numbers = 6 ∷ 7 ∷ 8 ∷ [];
            some = omega arith;
            rising = (omega arith, (omega arith, (omega arith, tt)));
            few = (omega arith, (omega arith, (omega arith, tt)));
            ids = refl;
          };
      runs = (
        ((tt, (tt, tt)), refl),
        (
          ((tt, (tt, tt)), refl),
          (
            ((tt, (tt, tt)), refl),
            (
              ((tt, (tt, tt)), refl),
              (
                ((tt, (tt, tt)), refl),
                (
                  ((tt, (tt, (tt, tt))), refl),
                  (
                    (
                      units 36,
                      (tt, (tt, (tt, (tt, (tt, ((7, first_reply ∷ second_reply ∷ [], refl), ((8, second_reply ∷ [], refl), ((9, [], refl), tt)))))))),
                    ),
                    tt,
                  ),
                ),
              ),
            ),
          ),
        ),
      );
      few = (none, (none, (none, (none, (none, (one, (none, tt)))))));
      settled = refl;
      made_on = was_made;
    }

-- where replies with the ids of the word are in flight, and one with id 0 after them, the latter is booked for the first command
pub booked_from_before : IsBookedFromBefore
unfolding header_at reply_at handed exec digits
booked_from_before = record { begun = refl; possible = (tt, ((7, [], refl), tt)); settled = refl; executed = refl }
