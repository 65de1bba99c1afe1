-- The eventful run, computed. Which function says what replies say (`reads`) is left open here. `patched` is that function with
-- the readings of the five replies that answer commands put before it; no other reply of the run is looked at.
use Rattle.gc_program_theorems.proofs.Common.{◌≡◌, inl, ℕ, zero, suc, List, [], ◌∷◌, ◌++◌, Option, Some, None, refl, sym, subst, ap, arith, lit<, lit≤, codes, header_at, reply_at, rounded, is_near, Asked, ById, WINDOW, is_off_target, Act, Told, SynchronizesAnew, AreChained, Runs, opening, expected_first, Part, idle_part, parts_of, Record, texts_of, RanTo, state_after, AreReadings, Reads, Scope, tally_of, runs-append, Done, by_ids, World, AreTurns, begins, WasMadeOn, ids_begun, points, ArePossible, Move, moved, moves, seen, IsAnInstrument, AnyState, never_kept, AreShownAs, shown, at, replies, IsEventful, acts, acts_until_anew, anew_acts, anew_turns, at_start, commands, executed_moves, first_acts, first_moves, first_stretch, heard_acts, heard_moves, last_acts, last_moves, last_stretch, left_by_first, plan, pointed_reply, records, reporting, runs, scope, sent_acts, sent_moves, sync_acts, sync_turns, tally}
use Rattle.std.specs.Prelude.{map, option_map, take, drop}
use Rattle.std.specs.Fmt.{digits}
use Rattle.gc_world.proofs.Handing.{reply_heard}
use Rattle.gc_client.specs.Prelude.{Step}
use Rattle.gc_theorems.proofs.Witness.{asked_each, ones_lack_the_word, units}
use Rattle.gc_program_theorems.proofs.TrueReadings.{patched, patched_same}
use Rattle.gc_theorems.proofs.Instruments.{keeps_none}
use Rattle.gc_station.specs.Parts as part

-- `reporting` is an instrument
reporting_is_instrument : IsAnInstrument reporting AnyState never_kept
reporting_is_instrument = keeps_none (List ℕ) reporting (λ line. refl) (λ s id call good small. reply_heard 0 id 0 s (lit< tt) small (lit< tt)) (λ s id call. refl)

-- What the station sees of the line.

-- what the turns of the first synchronization show to the station
abbrev sync_shown : List part.SyncStep
sync_shown = part.Asks ∷ part.Hears (codes "%R1Q,0,6:") ∷ part.Hears (codes "%R1P,0,1:0,4") ∷ asked_each replies

-- what the turns of the second synchronization show to the station
abbrev anew_shown : List part.SyncStep
anew_shown =
    part.Asks
    ∷ part.Hears (codes "%R1P,0,4:0,27")
    ∷ part.Hears (codes "%R1P,0,6:0,27")
    ∷ part.Asks
    ∷ part.Hears (codes "%R1P,0,1:0")
    ∷ part.Hears (codes "%R1P,0,6:0")
    ∷ part.Hears (codes "%R1P,0,5:0")
    ∷ part.Asks
    ∷ asked_each (drop 2 replies)

-- a part with requests of this cycle: for each request that is sent, in order, the place of its command and the moment at which
-- it was sent; `None` for a null procedure. Its id is one more than its place
abbrev part_of_cycle : ℕ → List part.SyncStep → List (Step Asked) → List (Option (ℕ × ℕ)) → Part
part_of_cycle cycle sync_steps steps sent =
    record { sync_steps = sync_steps; steps = steps; marks = map (option_map (λ x. record { cycle = cycle; place = x.0; sent = x.1; id = suc x.0; expected = expected_first (drop x.0 commands) })) sent }

-- the parts of the run: until it resynchronizes, from there on, and after its end
abbrev all_parts : List Part
all_parts =
    part_of_cycle 1 sync_shown (seen first_moves) (None ∷ Some (0, 40) ∷ None ∷ (map (λ place. Some (place, 95)) (2 ∷ 3 ∷ 4 ∷ 5 ∷ 6 ∷ []) ++ None ∷ None ∷ []))
    ∷ part_of_cycle 3 anew_shown (seen last_moves) (None ∷ Some (0, 405) ∷ (map (λ place. Some (place, 410)) (1 ∷ 2 ∷ 3 ∷ 4 ∷ 5 ∷ 6 ∷ []) ++ None ∷ []))
    ∷ idle_part
    ∷ []

-- what happens in the first synchronization (`sync_turns`) shows the station the turns `sync_shown`
sync_turns_show : shown reporting sync_turns (begins at_start) ≡ sync_shown
unfolding is_off_target is_near header_at reply_at digits rounded
sync_turns_show = refl

-- what happens in the second synchronization (`anew_turns`) shows the station the turns `anew_shown`
anew_turns_show : shown reporting anew_turns (begins left_by_first) ≡ anew_shown
unfolding is_off_target is_near header_at reply_at digits rounded
anew_turns_show = refl

-- What happens on the line is possible.

-- the turns of the first synchronization are possible
sync_possible : AreTurns reporting AnyState never_kept sync_turns (begins at_start)
unfolding is_off_target is_near header_at reply_at digits rounded
sync_possible = (tt, (refl, (tt, (tt, (tt, (tt, (tt, (tt, (tt, (tt, (tt, (tt, ((tt, refl), units 24)))))))))))))

-- the turns of the second synchronization are possible
anew_possible : AreTurns reporting AnyState never_kept anew_turns (begins left_by_first)
unfolding is_off_target is_near header_at reply_at digits rounded
anew_possible = (tt, (tt, (tt, (tt, (tt, ((tt, refl), units 26))))))

-- these moves are possible in this world
abbrev PossibleFrom : World (ById Asked) (List ℕ) → List (Move (List ℕ)) → Type 0
PossibleFrom w ms = ArePossible reporting AnyState never_kept (by_ids WINDOW reporting) ms w

-- possible moves, with moves after them that are possible in the world that they leave, are possible as one list
possible_append : (w : World (ById Asked) (List ℕ)) (earlier later : List (Move (List ℕ))) → PossibleFrom w earlier → PossibleFrom (moved reporting (by_ids WINDOW reporting) earlier w) later
    → PossibleFrom w (earlier ++ later)
possible_append w [] later h g = g
possible_append w (m ∷ earlier) later h g = (h.0, possible_append (moves reporting (by_ids WINDOW reporting) w m) earlier later h.1 g)

-- the moves of the first cycle are possible
first_possible : PossibleFrom (ids_begun first_stretch.from) first_moves
unfolding is_off_target is_near header_at reply_at digits rounded
first_possible =
    (tt, (tt, (tt, (tt, (tt, ((8, _, refl), (tt, (tt, (tt, (tt, (tt, (tt, (tt, (tt, (tt, ((10, _, refl), (tt, ((tt, refl), (tt, (tt, (tt, (tt, (tt, (tt, (tt, (tt, (tt, (tt, (tt, (tt, (tt, (tt, (tt, ((11, _, refl), units 12))))))))))))))))))))))))))))))))))

-- the moves of the third cycle are possible
last_possible : PossibleFrom (ids_begun last_stretch.from) last_moves
unfolding is_off_target is_near header_at reply_at digits rounded
last_possible =
    possible_append (ids_begun last_stretch.from) sent_moves (executed_moves ++ heard_moves)
    (tt, (tt, (tt, (tt, (tt, (tt, (tt, (tt, (tt, (tt, (tt, (tt, (tt, ((8, _, refl), (tt, (tt, (tt, (tt, (tt, (tt, ((9, _, refl), units 11)))))))))))))))))))))
    (possible_append (moved reporting (by_ids WINDOW reporting) sent_moves (ids_begun last_stretch.from)) executed_moves heard_moves
    ((tt, refl), (tt, ((tt, refl), (tt, ((tt, refl), (tt, (tt, (tt, (tt, (tt, (tt, (tt, (tt, (tt, tt)))))))))))))) (
      refl,
      (
        (9, _, refl),
        (
          (10, _, refl),
          (
            (11, _, refl),
            (
              (12, _, refl),
              (
                (12, _, refl),
                (
                  (13, _, refl),
                  (tt, (tt, (tt, ((tt, refl), (tt, (tt, (tt, (tt, ((14, _, refl), ((16, _, refl), tt)))))))))),
                ),
              ),
            ),
          ),
        ),
      ),
    ))

-- What the run shows.

-- command 1 is chained to command 0
command_1_is_chained : AreChained commands 0 1
command_1_is_chained zero above upto = absurd (omega (arith, above))
command_1_is_chained (suc zero) above upto = refl
command_1_is_chained (suc (suc p)) above upto = absurd (omega (arith, upto))

-- the reply to command 0 in the first cycle was made on executing the request of command 0, which is request 9, the client's
-- second one, and reaches the instrument at the ninth move
pointed_reply_was_made : WasMadeOn WINDOW reporting first_stretch.from first_moves 9 points pointed_reply
unfolding is_off_target is_near header_at reply_at digits rounded
pointed_reply_was_made = record { front = take 8 first_moves; later = drop 9 first_moves; split = refl; id = 1; rest = []; reaches = refl; executed = refl; reply = refl }

-- The station's part.

module _ (reads : Reads) where
  -- the scope in which `patched` says what replies say
  abbrev patched_scope : Scope
  patched_scope = scope (patched reads)

  -- after the earlier acts, the later ones are a run
  abbrev RunsAfter : (earlier later : List Act) → Type 0
  RunsAfter earlier later = Runs plan commands (state_after plan commands patched_scope earlier) later

  -- the acts until the second connection is made are a run
  sync_runs : RunsAfter [] (take 16 sync_acts)
  unfolding is_off_target is_near header_at reply_at digits rounded
  sync_runs = (tt, (tt, (tt, (tt, (refl, (tt, (refl, (tt, (tt, (tt, (refl, (tt, (tt, (tt, (refl, (tt, tt))))))))))))))))

  -- after the acts until the second connection is made, those by which all eight null procedures are answered are a run
  answers_eight : RunsAfter (take 16 sync_acts) (drop 16 sync_acts)
  unfolding is_off_target is_near header_at reply_at digits rounded
  answers_eight =
      (refl, (tt, (tt, (refl, (tt, (tt, (refl, (tt, (tt, (refl, (tt, (tt, (refl, (tt, (tt, (refl, (tt, (tt, (refl, (tt, (tt, (refl, (tt, (tt, tt))))))))))))))))))))))))

  -- after the synchronization, the acts until command 1 is skipped are a run
  first_runs : RunsAfter sync_acts (take 11 first_acts)
  unfolding is_off_target is_near header_at reply_at digits rounded
  first_runs = (tt, (refl, (tt, (tt, (refl, (tt, (tt, (refl, (tt, (tt, (tt, tt)))))))))))

  -- after the acts until command 1 is skipped, those until six requests have timed out are a run
  gives_up_runs : RunsAfter (sync_acts ++ take 11 first_acts) (drop 11 first_acts)
  unfolding is_off_target is_near header_at reply_at digits rounded
  gives_up_runs =
      (refl, (tt, (refl, (tt, (refl, (tt, (refl, (tt, (refl, (tt, (tt, (refl, (tt, (tt, (refl, (tt, (tt, (refl, (tt, (tt, (tt, (refl, (tt, (tt, tt))))))))))))))))))))))))

  -- after the acts until six requests have timed out, those until the fourth connection is made are a run
  anew_runs : RunsAfter acts_until_anew (take 16 anew_acts)
  unfolding is_off_target is_near header_at reply_at digits rounded
  anew_runs = (tt, (refl, (tt, (tt, (refl, (tt, (tt, (refl, (tt, (tt, (refl, (tt, (tt, (tt, (refl, (tt, tt))))))))))))))))

  -- after the acts until the fourth connection is made, those by which the other six null procedures are answered are a run
  answers_six : RunsAfter (acts_until_anew ++ take 16 anew_acts) (drop 16 anew_acts)
  unfolding is_off_target is_near header_at reply_at digits rounded
  answers_six = (refl, (tt, (tt, (refl, (tt, (tt, (refl, (tt, (tt, (refl, (tt, (tt, (refl, (tt, (tt, (refl, (tt, (tt, tt))))))))))))))))))

  -- after the new synchronization, the acts by which the second cycle is missed and the third begins are a run
  misses_runs : RunsAfter (acts_until_anew ++ anew_acts) (take 9 sent_acts)
  unfolding is_off_target is_near header_at reply_at digits rounded
  misses_runs = (tt, (tt, (tt, (tt, (tt, (tt, (tt, (tt, (tt, tt)))))))))

  -- after the acts with which the third cycle begins, those until its last request is cut are a run
  answers_runs : RunsAfter (acts_until_anew ++ (anew_acts ++ take 9 sent_acts)) (drop 9 sent_acts)
  unfolding is_off_target is_near header_at reply_at digits rounded
  answers_runs =
      (refl, (tt, (tt, (refl, (tt, (tt, (refl, (tt, (refl, (tt, (refl, (tt, (refl, (tt, (refl, (tt, ((refl, lit< tt), tt)))))))))))))))))

  -- after the acts until the last request is cut, those until the end are a run
  late_runs : RunsAfter (acts_until_anew ++ (anew_acts ++ sent_acts)) heard_acts
  unfolding is_off_target is_near header_at reply_at digits rounded
  late_runs = (refl, (tt, (tt, (tt, (refl, (tt, (tt, (tt, (tt, (refl, (tt, (tt, (refl, tt)))))))))))))

  -- all acts of the run are a run
  pub all_run : RunsAfter [] acts
  unfolding is_off_target is_near header_at reply_at digits rounded
  all_run =
      runs-append plan commands (opening plan patched_scope) acts_until_anew (anew_acts ++ last_acts)
      (runs-append plan commands (opening plan patched_scope) sync_acts first_acts
      (runs-append plan commands (opening plan patched_scope) (take 16 sync_acts) (drop 16 sync_acts) sync_runs answers_eight)
      (runs-append plan commands (state_after plan commands patched_scope sync_acts) (take 11 first_acts) (drop 11 first_acts) first_runs gives_up_runs))
      (runs-append plan commands (state_after plan commands patched_scope acts_until_anew) anew_acts last_acts
      (runs-append plan commands (state_after plan commands patched_scope acts_until_anew) (take 16 anew_acts) (drop 16 anew_acts) anew_runs answers_six)
      (runs-append plan commands (state_after plan commands patched_scope (acts_until_anew ++ anew_acts)) sent_acts heard_acts
      (runs-append plan commands (state_after plan commands patched_scope (acts_until_anew ++ anew_acts)) (take 9 sent_acts) (drop 9 sent_acts) misses_runs answers_runs)
      late_runs))

  -- the parts of the run are `all_parts`
  parts_are : parts_of plan commands (opening plan patched_scope) acts ≡ all_parts
  unfolding is_off_target is_near header_at reply_at digits rounded
  parts_are = refl

  -- the records of the run are `records`
  written : (state_after plan commands patched_scope acts).records ≡ records
  unfolding is_off_target is_near header_at reply_at digits rounded
  written = refl

  -- after the acts `acts_until_anew`, by which six requests have timed out, the next act, which reads the moment 365, makes the
  -- station resynchronize
  begins_anew : SynchronizesAnew plan commands patched_scope acts_until_anew (Told (at 365))
  unfolding is_off_target is_near header_at reply_at digits rounded
  begins_anew = record { resynchronizes = record { renews = refl; moment = at 365; told = refl; why = inl (inl (lit≤ tt)); given_up = refl }; word = refl; client = refl }

  -- with the patched readings the run is eventful
  patched_is_eventful : IsEventful (patched reads)
  unfolding is_off_target is_near header_at reply_at digits rounded
  patched_is_eventful =
      record {
        is_instrument = reporting_is_instrument;
        field =
            record {
              runs = all_run;
              lines = record { ids = (lit< tt, tt); good = tt };
              none = ones_lack_the_word;
              shown = subst (AreShownAs reporting at_start runs) (sym parts_are) (sync_turns_show, refl, (anew_turns_show, refl, (refl, refl, tt)));
              possible = ((sync_possible, first_possible), ((anew_possible, last_possible), ((tt, refl), tt)));
            };
        over = refl;
        written = written;
        counted = refl;
        chained = command_1_is_chained;
        made = pointed_reply_was_made;
        begins_anew = begins_anew;
        up = refl;
        down = refl;
        starts = refl;
        connected = refl;
      }

  -- with the patched readings the acts are a whole run, which ends as done with this tally, and of which the texts of these
  -- records were taken
  patched_run : (text : Record → List ℕ) → RanTo plan commands (scope (patched reads)) text (Some []) (Some acts) (Some []) (Some (texts_of text records)) Done tally
  unfolding is_off_target is_near header_at reply_at digits rounded
  patched_run text =
      record { acts = acts; tells = refl; runs = all_run; stops = refl; took = ap (texts_of text) (sym written); counts = ap tally_of (sym written) }

-- the run is eventful with every function that gives what replies say
pub eventful : (reads : Reads) → AreReadings reads → IsEventful reads
eventful reads are = subst IsEventful (patched_same reads are) (patched_is_eventful reads)

-- with every function that gives what replies say, the acts are a whole run, which ends as done with this tally, and of which the
-- texts of these records were taken
pub ran_whole : (text : Record → List ℕ) (reads : Reads) → AreReadings reads
    → RanTo plan commands (scope reads) text (Some []) (Some acts) (Some []) (Some (texts_of text records)) Done tally
ran_whole text reads are =
    subst (λ r. RanTo plan commands (scope r) text (Some []) (Some acts) (Some []) (Some (texts_of text records)) Done tally) (patched_same reads are) (patched_run reads text)
