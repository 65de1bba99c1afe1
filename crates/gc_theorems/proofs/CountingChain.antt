-- A run of a chain over an instrument that counts, computed.
use Rattle.gc_theorems.proofs.Common.{◌≡◌, ℕ, suc, inl, inr, true, false, cond, List, Option, Some, None, [], ◌∷◌, refl, sym, ◌∙◌, ap, subst, eq-eqb, true≢false, take, header_at, reply_at, Asked, WINDOW, KeptReply, is_off_target, same_Some, commands, points, reads_all, HasEffect, Counter, IsCountedInField, acts, bare, at_start, null_replies, counter_handed, counting, counts, first_reply, kept_by, once_counted, program, stretch, third_reply, IsAnInstrument, KeepsItsReply, AnyState, all_known, own_reply, WasMadeOn, KeptNumber, held, keeper_kept, giving, runs-append, opening, parts, seen, AreShownAs, shown, begins, eight_answered, plan}
use Rattle.std.specs.Prelude.{drop}
use Rattle.std.specs.Fmt.{digits}
use Rattle.gc_theorems.specs.ChainWitness.{scope}
use Rattle.gc_theorems.specs.CountingChain.{moves}
use Rattle.gc_theorems.proofs.ChainWitness.{all_chained}
use Rattle.gc_theorems.proofs.Needed.{repeats_or_executes_keeps, repeats_or_executes_reads, repeats_or_executes_repeats}
use Rattle.gc_theorems.proofs.Witness.{OpensWith, asked_each, one_part, units}

-- the reply to a request is kept after it, with the request's id
reply_is_kept : (s : Counter) (id : ℕ) (o : Option ℕ) → held s.keeps id ≡ o → kept_by (counter_handed s id o).state ≡ Some (own_reply id (counter_handed s id o))
reply_is_kept s id o e = repeats_or_executes_keeps (once_counted s id) (suc s.count) id (λ (c : Counter). c.keeps) s o e refl

-- if a number is kept with this id, one is held for the id
kept_is_held : (x : ℕ × ℕ) (id : ℕ) → x.0 ≡ id → held (Some x) id ≡ None → ⊥
kept_is_held x id same e = let e' : Some x.1 ≡ None = sym (ap (λ b. cond b (Some x.1) None) (eq-eqb x.0 id same)) ∙ e in cc

-- a request with the id of the kept reply isn't executed
held_not_executed : (k : KeptNumber) (id : ℕ) (o : Option ℕ) (line : List ℕ) → held k id ≡ o → keeper_kept k ≡ Some (record { id = id; line = line }) → (s : Counter)
    → (counter_handed s id o).executed ≡ false
held_not_executed k id (Some n) line h e s = refl
held_not_executed None id None line h e s = let never : ⊥ = cc in absurd never
held_not_executed (Some x) id None line h e s = absurd (kept_is_held x id (ap (λ (r : KeptReply). r.id) (same_Some (record { id = x.0; line = giving x.0 x.1 }) (record { id = id; line = line }) e)) h)

-- an execution makes the count one higher
executes_by_count : (s : Counter) (id : ℕ) (call : Asked) (o : Option ℕ) → (counter_handed s id o).executed ≡ true → bare (counter_handed s id o).state ≡ bare (counts s call)
executes_by_count s id call (Some n) e = absurd (true≢false (sym e))
executes_by_count s id call None e = refl

-- a line that is sent again leaves the count as it was
resent_unchanged : (s : Counter) (id : ℕ) (o : Option ℕ) → (counter_handed s id o).executed ≡ false → bare (counter_handed s id o).state ≡ bare s
resent_unchanged s id (Some n) e = refl
resent_unchanged s id None e = absurd (true≢false e)

-- `counting` is an instrument
counting_is : IsAnInstrument counting AnyState kept_by
counting_is =
    record {
      hears = λ line. refl;
      replies = λ s id call good small. repeats_or_executes_reads (once_counted s id) (suc s.count) id s (held s.keeps id) small;
      repeats = λ s id call good small not. repeats_or_executes_repeats (once_counted s id) (suc s.count) id (λ (c : Counter). c.keeps) s (held s.keeps id) refl not;
      keeps = λ s id call good small. inl (inr (reply_is_kept s id (held s.keeps id) refl));
      starts = λ s good. inl refl;
      stays_good = λ s id call good small. tt;
      starts_good = λ s good. tt;
    }

-- `counting` keeps its reply to each request, and sends it again for a request with the id of that reply (`KeepsItsReply`)
counting_keeps_its_reply : KeepsItsReply counting AnyState kept_by all_known
counting_keeps_its_reply =
    record {
      again = λ s id call line good small known e. held_not_executed s.keeps id (held s.keeps id) line refl e s;
      always = λ s id call good small known. reply_is_kept s id (held s.keeps id) refl;
    }

-- executing a call has the effect `counts`
counting_has_effect : HasEffect counting bare counts
counting_has_effect =
    record {
      executes = λ s id call e. executes_by_count s id call (held s.keeps id) e;
      repeats = λ s id call e. resent_unchanged s id (held s.keeps id) e;
      alike = λ s t call e. ap (λ (c : Counter). record { count = suc c.count; keeps = None }) e;
    }

-- `OpensWith` holds of the counting instrument's replies to all eight null procedures
pub opens_counting : OpensWith null_replies
unfolding is_off_target header_at reply_at digits
opens_counting width tasks reads =
    (tt, (refl, (tt, (refl, (tt, (tt, (refl, (tt, (tt, (refl, (tt, (tt, (refl, (tt, (tt, (refl, (tt, (tt, (refl, (tt, (tt, (refl, (tt, (tt, (refl, (tt, (tt, tt)))))))))))))))))))))))))))

-- the first answer was made on executing the first command's request
first_made : WasMadeOn WINDOW counting stretch.from moves 9 points first_reply
unfolding is_off_target header_at reply_at digits
first_made = record { front = take 8 moves; later = drop 9 moves; split = refl; id = 1; rest = []; reaches = refl; executed = refl; reply = refl }

-- the third answer was made on executing the third command's request
third_made : WasMadeOn WINDOW counting stretch.from moves 11 reads_all third_reply
unfolding is_off_target header_at reply_at digits
third_made = record { front = take 18 moves; later = drop 19 moves; split = refl; id = 3; rest = []; reaches = refl; executed = refl; reply = refl }

-- the run's parts are these: one with these steps, and with the three commands by place and moment; and the empty one
-- after the end
parts_are : parts plan commands scope acts ≡ one_part (asked_each null_replies) (seen moves) ((0, 15, 1) ∷ (1, 20, 2) ∷ (2, 25, 3) ∷ [])
unfolding is_off_target header_at reply_at digits
parts_are = refl

-- what happens while the station synchronizes shows eight null procedures and these replies to them
pub shown_are : shown counting eight_answered (begins at_start) ≡ asked_each null_replies
unfolding is_off_target header_at reply_at digits
shown_are = refl

-- the run of `IsCountedInField` meets the premises of the law of chains, and the counts are as that law says
pub counted_in_field : IsCountedInField
unfolding is_off_target header_at reply_at digits
counted_in_field =
    record {
      instrument = counting_is;
      keeps = counting_keeps_its_reply;
      effect = counting_has_effect;
      field =
          record {
            runs =
                runs-append plan commands (opening plan scope) (take 27 acts) (drop 27 acts) (opens_counting 1 commands scope.reads)
                (tt, (refl, (tt, (tt, (refl, (tt, (tt, (refl, (tt, (tt, (refl, (tt, (tt, (refl, tt))))))))))))));
            lines = record { ids = tt; good = tt };
            none = λ h. h;
            shown = subst (AreShownAs counting at_start program.runs) (sym parts_are) (shown_are, refl, (refl, refl, tt));
            possible = ((units 24, (tt, (tt, (tt, (tt, (tt, ((8, [], refl), (tt, (tt, (tt, (tt, ((9, [], refl), (tt, (tt, (tt, (tt, ((10, [], refl), (tt, (tt, (tt, (tt, ((11, [], refl), tt)))))))))))))))))))))), ((tt, refl), tt));
          };
      records = refl;
      chained = all_chained;
      undisturbed = tt;
      first_made_on = first_made;
      third_made_on = third_made;
      before_first = refl;
      before_third = refl;
      count_at_first = refl;
      count_at_third = refl;
    }
