-- A run over an instrument that keeps no reply, computed.
use Rattle.gc_theorems.proofs.Common.{◌≡◌, [], ◌∷◌, refl, sym, subst, lit<, ℕ, take, decimal, header_at, reply_at, reply_heard, Raw, RawCall, WINDOW, IsAnInstrument, AnyState, never_kept, begins, left_by_turns, none_under_way, WasMadeOn, is_off_target, runs-append, opening, parts, state_after, seen, AreShownAs, shown}
use Rattle.std.specs.Prelude.{drop}
use Rattle.std.specs.Fmt.{digits}
use Rattle.gc_theorems.specs.Drifting.{IsAnsweredByDrifting, acts, answer, null_replies, commands, drifting, moves, plan, program, scope, turns}
use Rattle.gc_theorems.proofs.Witness.{asked_each, one_part, units}
use Rattle.gc_theorems.proofs.Instruments.{keeps_none}
use Rattle.gc_station.specs.Parts as part

-- `drifting` is an instrument
drifting_is : IsAnInstrument drifting AnyState never_kept
drifting_is = keeps_none ℕ drifting (λ line. refl) (λ s id call good small. reply_heard 0 id 0 (decimal s) (lit< tt) small (lit< tt)) (λ s id call. refl)

module _ (raw : RawCall) where
  -- the answer was made on executing the second command's request
  was_made : WasMadeOn WINDOW drifting (left_by_turns drifting turns (none_under_way 5)) (moves raw) 10 (Raw raw) answer
  unfolding is_off_target header_at reply_at digits
  was_made = record { front = take 16 (moves raw); later = drop 17 (moves raw); split = refl; id = 2; rest = []; reaches = refl; executed = refl; reply = refl }

  -- the run's parts are these: one with these steps, and with the two commands by place and moment; and the empty one
  -- after the end
  parts_are : parts plan (commands raw) scope (acts raw) ≡ one_part (part.Asks ∷ part.Asks ∷ asked_each null_replies) (seen (moves raw)) ((0, 220, 1) ∷ (1, 320, 2) ∷ [])
  unfolding is_off_target header_at reply_at digits
  parts_are = refl

  -- what happens while the station synchronizes shows two null procedures without a reply, and then eight with these replies
  shown_are : shown drifting turns (begins (none_under_way 5)) ≡ part.Asks ∷ part.Asks ∷ asked_each null_replies
  unfolding is_off_target header_at reply_at digits
  shown_are = refl

  -- this run is in the field, and its second command is answered
  pub answered : IsAnsweredByDrifting raw
  unfolding is_off_target header_at reply_at digits
  answered =
      record {
        instrument = drifting_is;
        field =
            record {
              runs =
                  runs-append plan (commands raw) (opening plan scope) (take 15 (acts raw)) (drop 15 (acts raw))
                  (tt, (refl, (tt, (refl, (tt, (tt, (refl, (tt, (tt, (refl, (tt, (tt, (tt, (refl, (tt, tt)))))))))))))))
                  (runs-append plan (commands raw) (state_after plan (commands raw) scope (take 15 (acts raw))) (take 24 (drop 15 (acts raw))) (drop 39 (acts raw))
                  (refl, (tt, (tt, (refl, (tt, (tt, (refl, (tt, (tt, (refl, (tt, (tt, (refl, (tt, (tt, (refl, (tt, (tt, (refl, (tt, (tt, (refl, (tt, (tt, tt))))))))))))))))))))))))
                  (tt, (refl, (tt, (tt, (refl, (tt, (tt, (refl, (tt, (tt, (refl, (tt, (tt, (tt, (refl, (tt, (tt, (tt, (refl, tt))))))))))))))))))));
              lines = record { ids = tt; good = tt };
              none = λ h. h;
              shown = subst (AreShownAs drifting (none_under_way 5) (program raw).runs) (sym parts_are) (shown_are, refl, (refl, refl, tt));
              possible = (
                (
                  (tt, (tt, (tt, (tt, (tt, ((tt, refl), units 24)))))),
                  (tt, (tt, (tt, (tt, (tt, ((8, [], refl), (tt, (tt, (tt, (tt, (tt, ((tt, refl), (tt, (tt, (tt, ((tt, refl), (tt, (tt, (tt, (tt, (tt, (tt, ((10, [], refl), tt))))))))))))))))))))))),
                ),
                ((tt, refl), tt),
              );
            };
        over = refl;
        records = refl;
        made_on = was_made;
      }
