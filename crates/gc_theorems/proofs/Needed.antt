-- Each clause on instruments is needed: the instruments and runs of `specs/Needed.antt`, computed.
use Rattle.gc_theorems.proofs.Common.{◌≡◌, ◌⊎◌, ℕ, ◌<◌, inl, inr, Bool, true, false, cond, List, [], ◌∷◌, Option, Some, None, refl, sym, ◌∙◌, ap, arith, lit<, AllByRecursion, eqb-true, true≢false, slice_get, decimal, header_at, reply_at, asked_line, procedure_of, is_of_table, Table, InstrumentNo, heard, KeptReply, none-some, same_Some, reply_heard, all_at, none_under_way, IsClean, wire_over_empty_line, IsAnInstrument, ReadsByGrammar, RepliesWithItsId, RepeatsWhatIsKept, StaysGoodOverRequests, StaysGoodOverStarts, MayBeKept, AnyState, never_kept, own_reply, WasExecuted, Clause, Replies, Repeats, StaysGood, StartsGood, IsAllBut, KeptNumber, IsAllNeeded, misheard, mistaken, pretends, wears_out, starts_broken, IsUnbroken, giving, refusal, keeper_kept, keeper, held, repeats_or_executes, keeper_handed, handed_if_known, breakable_handed, executes_again, refuses_raws, sound, forgets, repeated_request, ExecutesOnce, Ends, Sent}
use Rattle.std.specs.Prelude.{nat_eq}
use Rattle.std.specs.Fmt.{digits}
use Rattle.gc_theorems.specs.Needed.{Hears}
use Rattle.gc_theorems.proofs.Instruments.{keeps_none}

-- where n is held for an id, the reply with that id and n is kept
held_is_kept : (k : KeptNumber) (id n : ℕ) → held k id ≡ Some n → keeper_kept k ≡ Some (record { id = id; line = giving id n })
held_is_kept None id n e = let never : ⊥ = cc in absurd never
held_is_kept (Some x) id n e = chosen (nat_eq x.0 id) refl e where
  -- the lemma above, by whether the number is kept with this id (`b`)
  chosen : (b : Bool) → nat_eq x.0 id ≡ b → cond b (Some x.1) None ≡ Some n → keeper_kept (Some x) ≡ Some (record { id = id; line = giving id n })
  chosen true t e = ap (λ i. Some (record { id = i; line = giving i x.1 })) (eqb-true x.0 id t) ∙ ap (λ m. Some (record { id = id; line = giving id m })) (same_Some x.1 n e)
  chosen false t e = let never : ⊥ = cc in absurd never

-- a reply that gives a number, with an id below 8, reads as one with that id
reads_giving : (id n : ℕ) → id < 8 → heard (giving id n) ≡ Some id
reads_giving id n small = reply_heard 0 id 0 (decimal n) (lit< tt) small (lit< tt)

-- a reply that refuses, with an id below 8, reads as one with that id
reads_refusal : (id : ℕ) → id < 8 → heard (refusal id) ≡ Some id
reads_refusal id small = reply_heard 3081 id 0 [] (lit< tt) small (lit< tt)

module _ {State : Type 0} (next : State) (new id : ℕ) where
  -- the reply of `repeats_or_executes` to a request with an id below 8 reads as one with that id
  pub repeats_or_executes_reads : (s : State) (o : Option ℕ) → id < 8 → heard (repeats_or_executes next new id s o).reply ≡ Some id
  repeats_or_executes_reads s (Some n) small = reads_giving id n small
  repeats_or_executes_reads s None small = reads_giving id new small

  module _ (keeps : State → KeptNumber) where
    -- a line that `repeats_or_executes` sends without executing the request is the one that it keeps, for this id
    pub repeats_or_executes_repeats : (s : State) (o : Option ℕ) → held (keeps s) id ≡ o → (repeats_or_executes next new id s o).executed ≡ false
        → keeper_kept (keeps s) ≡ Some (own_reply id (repeats_or_executes next new id s o))
    repeats_or_executes_repeats s (Some n) e not = held_is_kept (keeps s) id n e
    repeats_or_executes_repeats s None e not = absurd (true≢false not)

    -- after a request `repeats_or_executes` keeps its reply to that request, if the state `next` keeps the number `new` for its
    -- id
    pub repeats_or_executes_keeps : (s : State) (o : Option ℕ) → held (keeps s) id ≡ o → keeps next ≡ Some (id, new)
        → keeper_kept (keeps (repeats_or_executes next new id s o).state) ≡ Some (own_reply id (repeats_or_executes next new id s o))
    repeats_or_executes_keeps s (Some n) e own = held_is_kept (keeps s) id n e
    repeats_or_executes_keeps s None e own = ap keeper_kept own

-- the reply of `keeper_handed` to a request with an id below 8 reads as one with that id
keeper_reads : (k : KeptNumber) (id : ℕ) (o : Option ℕ) → id < 8 → heard (keeper_handed id k o).reply ≡ Some id
keeper_reads k id o small = repeats_or_executes_reads {State = KeptNumber} (Some (id, 0)) 0 id k o small

-- a line that `keeper_handed` sends without executing the request is the one that it keeps, for this id
keeper_repeats : (k : KeptNumber) (id : ℕ) (o : Option ℕ) → held k id ≡ o → (keeper_handed id k o).executed ≡ false → keeper_kept k ≡ Some (own_reply id (keeper_handed id k o))
keeper_repeats k id o e not = repeats_or_executes_repeats {State = KeptNumber} (Some (id, 0)) 0 id (λ (x : KeptNumber). x) k o e not

-- after a request `keeper_handed` keeps its reply to that request
keeper_keeps : (k : KeptNumber) (id : ℕ) (o : Option ℕ) → held k id ≡ o → keeper_kept (keeper_handed id k o).state ≡ Some (own_reply id (keeper_handed id k o))
keeper_keeps k id o e = repeats_or_executes_keeps {State = KeptNumber} (Some (id, 0)) 0 id (λ (x : KeptNumber). x) k o e refl

-- the reply of `handed_if_known` to a request with an id below 8 reads as one with that id
if_known_reads : (b : Bool) (k : KeptNumber) (id : ℕ) → id < 8 → heard (handed_if_known b k id).reply ≡ Some id
if_known_reads true k id small = keeper_reads k id (held k id) small
if_known_reads false k id small = reads_refusal id small

-- a line that `handed_if_known` sends without executing the request is the one that it keeps, for this id
if_known_repeats : (b : Bool) (k : KeptNumber) (id : ℕ) → (handed_if_known b k id).executed ≡ false → keeper_kept k ≡ Some (own_reply id (handed_if_known b k id))
if_known_repeats true k id not = keeper_repeats k id (held k id) refl not
if_known_repeats false k id not = absurd (true≢false not)

-- a number that is above all that were executed wasn't executed
unexecuted_above : (n : ℕ) (xs : List ℕ) → AllByRecursion (λ m. m < n) xs → WasExecuted xs n → ⊥
unexecuted_above n xs low h = omega (arith, all_at (λ m. m < n) xs h.0 n low h.1)

-- where only requests 8 to 15 were executed, request 16 wasn't
not_16 : WasExecuted (8 ∷ 9 ∷ 10 ∷ 11 ∷ 12 ∷ 13 ∷ 14 ∷ 15 ∷ []) 16 → ⊥
not_16 h = unexecuted_above 16 (8 ∷ 9 ∷ 10 ∷ 11 ∷ 12 ∷ 13 ∷ 14 ∷ 15 ∷ []) (lit< tt, (lit< tt, (lit< tt, (lit< tt, (lit< tt, (lit< tt, (lit< tt, (lit< tt, tt)))))))) h

-- if nothing was executed, request 9 wasn't
not_9_of_none : WasExecuted [] 9 → ⊥
not_9_of_none h = unexecuted_above 9 [] tt h

-- where only request 8 was executed, request 9 wasn't
not_9 : WasExecuted (8 ∷ []) 9 → ⊥
not_9 h = unexecuted_above 9 (8 ∷ []) (lit< tt, tt) h

-- where only requests 8 and 9 were executed, request 10 wasn't
not_10 : WasExecuted (8 ∷ 9 ∷ []) 10 → ⊥
not_10 h = unexecuted_above 10 (8 ∷ 9 ∷ []) (lit< tt, (lit< tt, tt)) h

-- executions of requests 8, 9 and 9, with no start between, aren't `ExecutesOnce` if request 9 is a call of the table
not_once : (sent : List Sent) (r : Sent) → slice_get sent 9 ≡ Some r → is_of_table r.call ≡ true → ExecutesOnce is_of_table sent (8 ∷ 9 ∷ 9 ∷ []) [] → ⊥
not_once sent r found known h = omega (arith, h 1 2 9 9 r (lit< tt) tt refl refl found known)

-- the request that comes twice
abbrev twice_sent : Sent
twice_sent = record { target = 7; call = Table InstrumentNo; line = asked_line (Some 1) (Table InstrumentNo) }

-- `keeper` is an instrument
keeper_is : IsAnInstrument keeper AnyState keeper_kept
keeper_is =
    record {
      hears = λ line. refl;
      replies = λ k id call good small. keeper_reads k id (held k id) small;
      repeats = λ k id call good small not. keeper_repeats k id (held k id) refl not;
      keeps = λ k id call good small. inl (inr (keeper_keeps k id (held k id) refl));
      starts = λ k good. inl refl;
      stays_good = λ k id call good small. tt;
      starts_good = λ k good. tt;
    }

-- `refuses_raws` is an instrument
refuses_raws_is : IsAnInstrument refuses_raws AnyState keeper_kept
refuses_raws_is =
    record {
      hears = λ line. refl;
      replies = λ k id call good small. if_known_reads (is_of_table call) k id small;
      repeats = λ k id call good small not. if_known_repeats (is_of_table call) k id not;
      keeps = λ k id call good small. after k id (is_of_table call);
      starts = λ k good. inl refl;
      stays_good = λ k id call good small. tt;
      starts_good = λ k good. tt;
    }
  where
    -- what `refuses_raws` keeps after a request is as `MayBeKept` says, whether it knows the request (`b`) or not
    after : (k : KeptNumber) (id : ℕ) (b : Bool) → MayBeKept b (own_reply id (handed_if_known b k id)) (keeper_kept k) (keeper_kept (handed_if_known b k id).state)
    after k id true = inl (inr (keeper_keeps k id (held k id) refl))
    after k id false = inr (refl, refl)

-- `executes_again` is an instrument
executes_again_is : IsAnInstrument executes_again AnyState keeper_kept
executes_again_is =
    record {
      hears = λ line. refl;
      replies = λ k id call good small. reads_giving id 0 small;
      repeats = λ k id call good small not. absurd (true≢false not);
      keeps = λ k id call good small. inl (inr refl);
      starts = λ k good. inl refl;
      stays_good = λ k id call good small. tt;
      starts_good = λ k good. tt;
    }

-- `forgets` is an instrument
forgets_is : IsAnInstrument forgets AnyState never_kept
forgets_is = keeps_none Bool forgets (λ line. refl) (λ b id call good small. reads_giving id 0 small) (λ b id call. refl)

-- an instrument in order replies to a request with an id below 8 with that id
breakable_reads : (b : Bool) (id : ℕ) → IsUnbroken b → id < 8 → heard (breakable_handed b id b).reply ≡ Some id
breakable_reads false id good small = reads_giving id 0 small
breakable_reads true id good small = absurd (true≢false good)

-- `sound` is an instrument in its good states
sound_is : IsAnInstrument sound IsUnbroken never_kept
sound_is =
    record {
      hears = λ line. refl;
      replies = λ b id call good small. breakable_reads b id good small;
      repeats = λ b id call good small not. absurd (true≢false not);
      keeps = λ b id call good small. inl (inl refl);
      starts = λ b good. inl refl;
      stays_good = λ b id call good small. good;
      starts_good = λ b good. good;
    }

-- with nothing in flight, and a good state in which nothing is kept, a synchronization is clean
clean_none : {State : Type 0} (Good : State → Type 0) (retains : State → Option KeptReply) (state : State) → Good state → retains state ≡ None → IsClean Good retains (none_under_way state)
clean_none Good retains state good none = record { good = good; up = tt; down = tt; keeps = λ k e. absurd (none-some k (sym none ∙ e)) }

-- with nothing in flight, and the state `false`, a synchronization is clean, if each state is a good one and none keeps a reply
clean_any : IsClean AnyState never_kept (none_under_way false)
clean_any = clean_none AnyState never_kept false tt refl

-- with nothing in flight, and the state `false`, which is in order, a synchronization is clean, if no state keeps a reply
clean_order : IsClean IsUnbroken never_kept (none_under_way false)
clean_order = clean_none IsUnbroken never_kept false refl refl

-- with nothing in flight, and a `KeptNumber` that has nothing, a synchronization is clean
clean_kept : IsClean AnyState keeper_kept (none_under_way None)
clean_kept = clean_none AnyState keeper_kept None tt refl

-- moves are possible by which a request is sent, it reaches the instrument, and a line comes, if that line may come
answered : {A B : Type 0} → A → B → Unit {0} × (Unit {0} × (A × B))
answered comes later = (tt, (tt, (comes, later)))

-- an instrument that keeps nothing meets the clauses on what is kept: so it meets all clauses but x, if it does those on what it reads, answers
-- and repeats, and on its good states
keeping_nothing : {State : Type 0} (x : Clause) (ends : Ends State) (Good : State → Type 0) → (x ≡ Hears) ⊎ ReadsByGrammar ends → (x ≡ Replies) ⊎ RepliesWithItsId ends Good
    → (x ≡ Repeats) ⊎ RepeatsWhatIsKept ends Good never_kept → (x ≡ StaysGood) ⊎ StaysGoodOverRequests ends Good → (x ≡ StartsGood) ⊎ StaysGoodOverStarts ends Good → IsAllBut x ends Good never_kept
keeping_nothing x ends Good hears replies repeats stays starts = record {
  hears = hears;
  replies = replies;
  repeats = repeats;
  keeps = inr (λ s id call good small. inl (inl refl));
  starts = inr (λ s good. inl refl);
  stays_good = stays;
  starts_good = starts;
}

-- each clause on instruments is needed
pub all_needed : IsAllNeeded
unfolding header_at reply_at digits
all_needed =
    record {
      hears =
          record {
            all_but =
                keeping_nothing Hears misheard AnyState (inl refl) (inr (λ b id call good small. reads_giving id 0 small))
                (inr (λ b id call good small not. absurd (true≢false not))) (inr (λ b id call good small. tt)) (inr (λ b good. tt));
            good = tt;
            booked = record { beyond = omega arith; clean = clean_any; field = answered (8, [], refl) (tt, answered (9, [], refl) tt); settled = refl; executed = not_10 };
          };
      replies =
          record {
            all_but =
                keeping_nothing Replies mistaken AnyState (inr (λ line. refl)) (inl refl)
                (inr (λ b id call good small not. absurd (true≢false not))) (inr (λ b id call good small. tt)) (inr (λ b good. tt));
            good = tt;
            booked = record { beyond = omega arith; clean = clean_any; field = answered (8, [], refl) (tt, answered (9, [], refl) tt); settled = refl; executed = not_10 };
          };
      repeats =
          record {
            all_but =
                keeping_nothing Repeats pretends AnyState (inr (λ line. refl)) (inr (λ b id call good small. reads_giving id 0 small))
                (inl refl) (inr (λ b id call good small. tt)) (inr (λ b good. tt));
            good = tt;
            booked = record { beyond = omega arith; clean = clean_any; field = answered (8, [], refl) (answered (9, [], refl) tt); settled = refl; executed = not_9_of_none };
          };
      keeps =
          record {
            all_but =
                record {
                  hears = inr (λ line. refl);
                  replies = inr (λ k id call good small. if_known_reads (nat_eq (procedure_of call) 0) k id small);
                  repeats = inr (λ k id call good small not. if_known_repeats (nat_eq (procedure_of call) 0) k id not);
                  keeps = inl refl;
                  starts = inr (λ k good. inl refl);
                  stays_good = inr (λ k id call good small. tt);
                  starts_good = inr (λ k good. tt);
                };
            good = tt;
            booked =
                record {
                  beyond = omega arith;
                  clean = clean_kept;
                  field =
                      answered (8, [], refl) (answered (9, [], refl) (answered (10, [], refl) (answered (11, [], refl) (answered (12, [], refl)
                      (answered (13, [], refl) (answered (14, [], refl) (answered (15, [], refl) (answered (16, [], refl) tt))))))));
                  settled = refl;
                  executed = not_16;
                };
          };
      starts =
          record {
            all_but =
                record {
                  hears = inr (λ line. refl);
                  replies = inr (λ k id call good small. keeper_reads k id (held k id) small);
                  repeats = inr (λ k id call good small not. keeper_repeats k id (held k id) refl not);
                  keeps = inr (λ k id call good small. inl (inr (keeper_keeps k id (held k id) refl)));
                  starts = inl refl;
                  stays_good = inr (λ k id call good small. tt);
                  starts_good = inr (λ k good. tt);
                };
            good = tt;
            booked = record { beyond = omega arith; clean = clean_kept; field = answered (8, [], refl) (tt, answered (9, [], refl) tt); settled = refl; executed = not_9 };
          };
      stays_good =
          record {
            all_but =
                keeping_nothing StaysGood wears_out IsUnbroken (inr (λ line. refl)) (inr (λ b id call good small. breakable_reads b id good small))
                (inr (λ b id call good small not. absurd (true≢false not))) (inl refl) (inr (λ b good. refl));
            good = refl;
            booked = record { beyond = omega arith; clean = clean_order; field = answered (8, [], refl) (tt, answered (9, [], refl) tt); settled = refl; executed = not_10 };
          };
      starts_good =
          record {
            all_but =
                keeping_nothing StartsGood starts_broken IsUnbroken (inr (λ line. refl)) (inr (λ b id call good small. breakable_reads b id good small))
                (inr (λ b id call good small not. absurd (true≢false not))) (inr (λ b id call good small. good)) (inl refl);
            good = refl;
            booked = record { beyond = omega arith; clean = clean_order; field = answered (8, [], refl) (tt, (tt, answered (9, [], refl) tt)); settled = refl; executed = not_10 };
          };
      refuses_raws_is = refuses_raws_is;
      rule = λ raw. record {
        beyond = omega arith;
        clean = clean_kept;
        field =
            answered (8, [], refl) (answered (9, [], refl) (answered (10, [], refl) (answered (11, [], refl) (answered (12, [], refl)
            (answered (13, [], refl) (answered (14, [], refl) (answered (15, [], refl) (answered (16, [], refl) tt))))))));
        settled = refl;
        executed = not_16;
      };
      keeper_is = keeper_is;
      changes_kept = record {
        beyond = omega arith;
        clean = clean_none {State = KeptNumber} AnyState never_kept None tt refl;
        field = answered (8, [], refl) ((tt, refl), answered (9, [], refl) tt);
        settled = refl;
        executed = not_9;
      };
      sound_is = sound_is;
      changes_good = record { beyond = omega arith; clean = clean_any; field = answered (8, [], refl) ((tt, refl), (tt, answered (9, [], refl) tt)); settled = refl; executed = not_10 };
      again = record {
        instrument = executes_again_is;
        good = tt;
        clean = clean_kept;
        field = answered (8, [], refl) (tt, (tt, (tt, (tt, tt))));
        twice = not_once (wire_over_empty_line executes_again None repeated_request).sent twice_sent refl refl;
      };
      again_keeps = λ k id call. refl;
      always_again = λ b id call line e. let never : ⊥ = cc in absurd never;
      always = record {
        instrument = forgets_is;
        good = tt;
        clean = clean_any;
        field = answered (8, [], refl) (tt, (tt, (tt, (tt, tt))));
        twice = not_once (wire_over_empty_line forgets false repeated_request).sent twice_sent refl refl;
      };
    }
