-- The run of one command of `specs/Witness.antt` is in the field, by computation.
use Rattle.gc_theorems.proofs.Common.{◌≡◌, inl, inr, ℕ, zero, suc, ◌<◌, List, [], ◌∷◌, Some, None, refl, sym, subst, arith, lit<, codes, take, header_at, reply_at, IsStringByte, IsText, Asked, Table, InstrumentNo, IsSubsequence, the_word, WINDOW, exec, handed, IsFittingState, simulator_opening, is_off_target, Task, Part, idle_part, Runs, opening, expected_first, Reads, scoped, parts, runs-append, simulator_ends, begins, left_by_turns, WasMadeOn, seen, AreShownAs, shown, SomeRunIsInField, answer, begun_with, plan, plan_of_width, replies, scope}
use Rattle.std.proofs.lemmas.Int.{ints}
use Rattle.std.specs.Prelude.{map, drop}
use Rattle.std.specs.Fmt.{digits}
use Rattle.gc_client.specs.Prelude.{Step}
use Rattle.gc_theorems.specs.Witness.{acts, at_start, commands, moves, program, turns}
use Rattle.gc_station.specs.Parts as part

-- What the runs share.

-- n + 1 facts without content: `ArePossible` comes to these if each of n moves is always possible
abbrev pub Units : ℕ → Type 0
Units zero = Unit {0}
Units (suc n) = Unit {0} × Units n

-- `Units` holds of each number
pub units : (n : ℕ) → Units n
units zero = tt
units (suc n) = (tt, units n)

-- the acts by which a connection is made and cleared, and the null procedures are answered by these lines, are a run, whatever
-- the width of the window and whatever is to be asked
abbrev pub OpensWith : List (List ℕ) → Type 0
OpensWith answers =
    (width : ℕ) (tasks : List Task) (reads : Reads)
    → Runs (plan_of_width width) tasks (opening (plan_of_width width) (scoped 100 [] reads)) (begun_with answers [])

-- `OpensWith` holds of the simulator's replies to all eight null procedures
pub opens_simulator : OpensWith replies
unfolding is_off_target header_at reply_at digits
opens_simulator width tasks reads =
    (tt, (refl, (tt, (refl, (tt, (tt, (refl, (tt, (tt, (refl, (tt, (tt, (refl, (tt, (tt, (refl, (tt, (tt, (refl, (tt, (tt, (refl, (tt, (tt, (refl, (tt, (tt, tt)))))))))))))))))))))))))))

-- the part with these steps, of a synchronization and of the client, whose requests are the client's null procedure, and then
-- commands of the first cycle, with a deadline of 100 milliseconds: each by its place, the moment before it was sent, and its id
abbrev pub part_of : List part.SyncStep → List (Step Asked) → List (ℕ × ℕ × ℕ) → Part
part_of sync_steps steps sent = record { sync_steps = sync_steps; steps = steps; marks = None ∷ map (λ x. Some (record { cycle = 1; place = x.0; sent = x.1; id = x.2; expected = record (expected_first []) { wait = 100 } })) sent }

-- the parts of a run that never resynchronizes: the part with these steps and commands, and the empty one after the end
abbrev pub one_part : List part.SyncStep → List (Step Asked) → List (ℕ × ℕ × ℕ) → List Part
one_part sync_steps steps sent = part_of sync_steps steps sent ∷ idle_part ∷ []

-- The run of one command.

-- bytes above 34 are bytes of a string
string_byte : (b : ℕ) → 34 < b → IsStringByte b
string_byte b more = ((λ e. absurd (omega (arith, more, e))), (λ e. absurd (omega (arith, more, e))), (λ e. absurd (omega (arith, more, e))))

-- a space is a byte of a string
string_space : IsStringByte 32
string_space = ((λ e. (cc)), (λ e. (cc)), (λ e. (cc)))

-- the simulator's name is a text
name_is_text : IsText (codes "GEOCOM SIM")
name_is_text =
    record {
      few = omega arith;
      plain = (
        string_byte 71 (lit< tt),
        (
          string_byte 69 (lit< tt),
          (
            string_byte 79 (lit< tt),
            (string_byte 67 (lit< tt), (string_byte 79 (lit< tt), (string_byte 77 (lit< tt), (string_space, (string_byte 83 (lit< tt), (string_byte 73 (lit< tt), (string_byte 77 (lit< tt), tt))))))),
          ),
        ),
      );
    }

-- the simulator's opening state fits
pub opening_fits : IsFittingState simulator_opening
opening_fits =
    record {
      precision = omega arith;
      serial = (omega (arith, ints), omega (arith, ints));
      name = name_is_text;
      date = ((omega (arith, ints), omega (arith, ints)), (lit< tt, (lit< tt, (lit< tt, (lit< tt, (lit< tt, tt))))));
      prism = (omega (arith, ints), omega (arith, ints));
      kept = tt;
    }

-- two equal numbers aren't 6 and 1
not_six_and_one : (n m : ℕ) → n ≡ m → n ≡ 6 → m ≡ 1 → ⊥
not_six_and_one n m e a b = omega (arith, e, a, b)

-- the word isn't a subsequence of two ids 1
pub ones_lack_the_word : IsSubsequence the_word (1 ∷ 1 ∷ []) → ⊥
ones_lack_the_word (inl h) = not_six_and_one 6 1 h.0 refl refl
ones_lack_the_word (inr (inl h)) = not_six_and_one 6 1 h.0 refl refl
ones_lack_the_word (inr (inr h)) = h

-- the answer was made on executing the command's request, the client's first one after its null procedure
was_made : WasMadeOn WINDOW simulator_ends (left_by_turns simulator_ends turns at_start) moves 9 (Table InstrumentNo) answer
unfolding is_off_target header_at reply_at handed exec digits
was_made = record { front = take 8 moves; later = drop 9 moves; split = refl; id = 1; rest = []; reaches = refl; executed = refl; reply = refl }

-- the steps of a synchronization in which, for each of these lines in order, a null procedure is sent, and then the line is
-- heard
abbrev pub asked_each : List (List ℕ) → List part.SyncStep
asked_each [] = []
asked_each (line ∷ lines) = part.Asks ∷ part.Hears line ∷ asked_each lines

-- what the turns of this run's synchronization show
abbrev all_sync_steps : List part.SyncStep
all_sync_steps = part.Asks ∷ part.Hears (codes "%R1P,0,1:0,654321") ∷ part.Hears answer ∷ part.Hears (codes "%R1P,0,6:0") ∷ asked_each (drop 1 replies)

-- the run's parts are these: one with these steps, and with the command at place 0, which was sent
-- after the moment 15 with the id 1; and the empty one after the end
parts_are : parts plan commands scope acts ≡ one_part all_sync_steps (seen moves) ((0, 15, 1) ∷ [])
unfolding is_off_target header_at reply_at digits
parts_are = refl

-- what happens while the station synchronizes shows the steps `all_sync_steps`
shown_are : shown simulator_ends turns (begins at_start) ≡ all_sync_steps
unfolding is_off_target header_at reply_at handed exec digits
shown_are = refl

-- this run is in the field, and its command is answered
pub answered_in_field : SomeRunIsInField
unfolding is_off_target header_at reply_at handed exec digits
answered_in_field =
    record {
      field =
          record {
            runs =
                runs-append plan commands (opening plan scope) (take 20 acts) (drop 20 acts)
                (tt, (refl, (tt, (refl, (tt, (tt, (tt, (tt, (refl, (tt, (tt, (refl, (tt, (tt, (refl, (tt, (tt, (refl, (tt, (tt, tt))))))))))))))))))))
                (refl, (tt, (tt, (refl, (tt, (tt, (refl, (tt, (tt, (tt, (refl, (tt, (tt, (refl, (tt, (tt, (refl, tt)))))))))))))))));
            lines = record { ids = (lit< tt, tt); good = opening_fits };
            none = ones_lack_the_word;
            shown = subst (AreShownAs simulator_ends at_start program.runs) (sym parts_are) (shown_are, refl, (refl, refl, tt));
            possible = ((units 27, (tt, (tt, (tt, (tt, (tt, ((8, [], refl), (tt, (tt, (tt, (tt, ((9, [], refl), tt)))))))))))), ((tt, refl), tt));
          };
      over = refl;
      records = refl;
      made_on = was_made;
    }
