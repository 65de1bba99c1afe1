-- What holds if an action of a station in its cycles is next: its conditions (`HoldsBefore`), that a cycle begins only if it is due, and
-- whether the moment was read (`Timely`, `Wakes`). `Holds` has all of these, and is shown once for each function that decides.
use Rattle.gc_station.proofs.Common.{◌+◌, ◌≡◌, ℕ, ◌<◌, ◌≤◌, ◌⊎◌, ◌&&◌, ◌||◌, Bool, true, false, not, nat_lt, nat_eq, refl, sym, ap, ◌∙◌, inl, inr, arith, ltb-true, ltb-false, eqb-true, not-true, and_parts, and_cases, not-false, false_from_ne_true, cond_both, nat_tests, WINDOW, Plan, Cause, Clearing, Ready, Closing, Action, Progress, Limit, Due, Waiting, HoldsBefore, IsBetweenChains, IsFinished, IsHeld, HasRoomToAsk, MayGo, MayRetry, NothingMayGo, WaitsForWhatIsInFlight, IsAtItsEnd, IsOverdue, IsResting, MayAskNoMore, StaysInItsChain, HasConnectionFor, WantsNull, IsInItsTurn, IsOutOfTime, has_room, room_of, width_of, has_begun, is_up, is_unquiet, is_silent, is_dead, is_wanted, is_finished, lacks_value, may_go, waits_for_all, action_again, action_held, action_settled, action_done, action_to_send, action_room, action_waiting, is_between_chains, is_resting, is_cut, is_stopping, is_held_back, action_cycle, is_preparing}
use Rattle.gc_station.specs.declared.cause.Cause.TheVariants as cause
use Rattle.gc_station.specs.declared.progress.Action.TheVariants as action

-- Tests.

-- if one of two tests holds, and the second doesn't, the first does
pub or_first : (a b : Bool) → (a || b) ≡ true → b ≡ false → a ≡ true
or_first true b e none = refl
or_first false b e none = cc

-- if one of two tests holds, and the first doesn't, the second does
pub or_second : (a b : Bool) → (a || b) ≡ true → a ≡ false → b ≡ true
or_second true b e none = cc
or_second false b e none = e

-- if the first of two tests holds, both do exactly if the second does
pub and_second : (a b : Bool) → a ≡ true → (a && b) ≡ b
and_second a b e = ap (λ (c : Bool). c && b) e

-- a number that isn't above 0 is 0
pub zero_if_not_above : (n : ℕ) → nat_lt 0 n ≡ false → n ≡ 0
zero_if_not_above n e = grind (arith, nat_tests, e)

-- a number that isn't 0 is above 0
pub above_zero : (n : ℕ) → nat_eq n 0 ≡ false → 0 < n
above_zero n e = grind (arith, nat_tests, e)

-- a number above 0 isn't 0
pub not_zero : (n : ℕ) → 0 < n → nat_eq n 0 ≡ false
not_zero n some = grind (arith, nat_tests, some)

-- Room for a request.

-- if there is room, fewer than seven requests are outstanding
pub within_window : (all last : ℕ) → all + last < WINDOW → all < WINDOW
within_window all last room = omega (arith, room)

-- there is no room for a request: as many are in flight as may be that haven't timed out, or more; or no other may be sent
-- (`MayAskNoMore`)
abbrev pub LacksRoom : Plan → Progress → Waiting → Type 0
LacksRoom plan p w = (width_of plan ≤ w.current) ⊎ MayAskNoMore p w

-- so it is where the test of room fails
lacks_by_test : (plan : Plan) (p : Progress) (w : Waiting) → has_room (width_of plan) w.all w.current p.exchange ≡ false → LacksRoom plan p w
lacks_by_test plan p w e = by_hold (and_cases (nat_lt w.current (width_of plan) && nat_lt (w.all + p.exchange.last_ended) WINDOW && not p.exchange.doubtful) (nat_eq p.exchange.hold 0) e) where
  -- the lemma above, by which of the first two tests fails
  by_test : ((nat_lt w.current (width_of plan) ≡ false) ⊎ (nat_lt (w.all + p.exchange.last_ended) WINDOW ≡ false)) → LacksRoom plan p w
  by_test (inl full) = inl (ltb-false w.current (width_of plan) full)
  by_test (inr full) = inr (inl (ltb-false (w.all + p.exchange.last_ended) WINDOW full))

  -- the lemma above, whether the third test fails
  by_doubt : (((nat_lt w.current (width_of plan) && nat_lt (w.all + p.exchange.last_ended) WINDOW) ≡ false) ⊎ (not p.exchange.doubtful ≡ false)) → LacksRoom plan p w
  by_doubt (inl full) = by_test (and_cases (nat_lt w.current (width_of plan)) (nat_lt (w.all + p.exchange.last_ended) WINDOW) full)
  by_doubt (inr doubt) = inr (inr (inl (not-false p.exchange.doubtful doubt)))

  -- the lemma above, whether the last test fails
  by_hold : (((nat_lt w.current (width_of plan) && nat_lt (w.all + p.exchange.last_ended) WINDOW && not p.exchange.doubtful) ≡ false) ⊎ (nat_eq p.exchange.hold 0 ≡ false)) → LacksRoom plan p w
  by_hold (inl other) = by_doubt (and_cases (nat_lt w.current (width_of plan) && nat_lt (w.all + p.exchange.last_ended) WINDOW) (not p.exchange.doubtful) other)
  by_hold (inr held) = inr (inr (inr (above_zero p.exchange.hold held)))

-- if the line is dead, it is silent, and all outstanding requests have timed out
pub dead_parts : (plan : Plan) (p : Progress) (w : Waiting) → is_dead plan p w ≡ true → (is_silent plan p w ≡ true) × (w.current ≡ 0)
dead_parts plan p w dead = let it = and_parts (nat_eq w.current 0) (is_silent plan p w) dead in (it.1, eqb-true w.current 0 it.0)

-- The moment is read again after each act that makes it out of date (`clock_due`); and nothing is read before a new connection
-- was cleared.

-- a read may be made: the moment was read, and the connection isn't to be cleared
abbrev pub CanRead : Progress → Type 0
CanRead p = (p.clock_due ≡ false) × (p.phase ≡ Clearing → ⊥)

-- if this action reads the clock alone, the moment is out of date; if it begins a cycle, the cycle is wanted, or the last one out of time; if it connects, the
-- moment was read; and if it reads, a read may be made (`CanRead`)
abbrev pub Timely : Plan → Progress → Action → Type 0
Timely plan p action.ReadClock = p.clock_due ≡ true
Timely plan p action.Begin = ((is_wanted plan p ≡ true) ⊎ IsOutOfTime plan p) × (p.clock_due ≡ false)
Timely plan p action.Renew = p.clock_due ≡ false
Timely plan p action.Skip = p.clock_due ≡ false
Timely plan p action.Pass = p.clock_due ≡ false
Timely plan p action.Open = p.clock_due ≡ false
Timely plan p (action.Read until) = CanRead p
Timely plan p _ = Unit {0}

-- A request is sent, the station resynchronizes, and a connection is closed for a dead line, only in the phase `Ready`, after a
-- moment that was read.

-- the phase is `Ready`, in which requests may be sent, and the moment was read
abbrev pub Awake : Progress → Type 0
Awake p = (p.clock_due ≡ false) × (p.phase ≡ Ready)

-- if this action sends a request, resynchronizes, or closes a dead line, `Awake` holds; or, for that close, the phase says
-- already that the connection is to be closed
abbrev pub Wakes : Progress → Action → Type 0
Wakes p action.Renew = (p.clock_due ≡ false) × ((p.phase ≡ Ready) ⊎ Unit {0})
Wakes p action.Ask = Awake p
Wakes p action.Prepare = Awake p
Wakes p action.Send = Awake p
Wakes p action.Flush = Awake p
Wakes p (action.Close cause.Dead) = (p.phase ≡ Closing cause.Dead) ⊎ Awake p
Wakes p _ = Unit {0}

-- what holds if this action is next: its conditions (`HoldsBefore`), that a cycle begins only if it is wanted, and whether the
-- moment was read before it (`Timely`, `Wakes`)
abbrev pub Holds : Plan → Progress → Waiting → Action → Type 0
Holds plan p w next = HoldsBefore plan p w next × Timely plan p next × Wakes p next

-- a station is at work: it is `Awake`, and has synchronized
pub record IsAtWork (p : Progress) : Type 0 where
  pub awake : Awake p
  pub begun : has_begun p ≡ true

-- a station is in its cycles: it is at work, and isn't preparing
pub record IsMeasuring (plan : Plan) (p : Progress) (w : Waiting) : Type 0 where
  pub work : IsAtWork p
  pub set_up : is_preparing plan p w ≡ false

-- in the phase `Ready` there is a connection
pub awake_up : (p : Progress) → Awake p → is_up p.phase ≡ true
awake_up p (now, is) = ap is_up is

-- in the phase `Ready`, if the moment was read, a read may be made
pub awake_reads : (p : Progress) → Awake p → CanRead p
awake_reads p (now, is) = (now, λ c. let other : Ready ≡ Clearing = sym is ∙ c in cc)

-- if all outstanding requests have timed out, no other may be sent
abbrev pub NoMoreIfAllTimedOut : Progress → Waiting → Type 0
NoMoreIfAllTimedOut p w = w.current ≡ 0 → MayAskNoMore p w

-- for a station at work, `Holds` is true of `action_waiting`, if no command may be sent where something is in flight that hasn't timed
-- out, and `NoMoreIfAllTimedOut` where the line isn't dead
waiting_for : (plan : Plan) (p : Progress) (w : Waiting) → IsAtWork p → (0 < w.current → NothingMayGo plan p w) → (is_dead plan p w ≡ false → NoMoreIfAllTimedOut p w) → Holds plan p w (action_waiting plan p w)
waiting_for plan p w work nothing full =
    let P = Holds plan p w in
    let up = awake_up p work.awake in
    cond_both (is_dead plan p w) (action.Close cause.Dead) _ P (λ d. ((up, inr (closes d)), tt, inr work.awake))
    (λ d. cond_both (nat_eq w.current 0) action.Renew (action.Read Limit) P
    (λ e. let none = eqb-true w.current 0 e in ((inl work.awake.1, work.begun, none, inl (full d none)), work.awake.0, (work.awake.0, inl work.awake.1)))
    (λ e. let some = above_zero w.current e in (inr (inr (work.awake.1, inr (inl (nothing some, some)))), awake_reads p work.awake, tt))) where
      -- a dead line is closed, since the station has synchronized
      closes : is_dead plan p w ≡ true → IsAtItsEnd plan p w cause.Dead
      closes d = let it = dead_parts plan p w d in (it.0, it.1, λ not_begun. let both : true ≡ false = sym work.begun ∙ not_begun in cc)

-- for a station at work, `Holds` is true of `action_waiting` if the station waits for what is in flight
pub waiting_for_reply : (plan : Plan) (p : Progress) (w : Waiting) → IsAtWork p → 0 < w.current → WaitsForWhatIsInFlight plan p w → Holds plan p w (action_waiting plan p w)
waiting_for_reply plan p w work some waits = waiting_for plan p w work (λ _. inr (inr waits)) (λ alive none. absurd (omega (arith, none, some)))

-- at least one request may be in flight
width_above_zero : (plan : Plan) → 0 < width_of plan
width_above_zero plan = omega arith

-- so it is if there is no room
no_more_if_no_room : (plan : Plan) (p : Progress) (w : Waiting) → LacksRoom plan p w → NoMoreIfAllTimedOut p w
no_more_if_no_room plan p w (inl few) none = absurd (omega (arith, none, few, width_above_zero plan))
no_more_if_no_room plan p w (inr it) none = it

-- and so it is if there is no room, or the line is dead, and it isn't dead
no_more_if_alive : (plan : Plan) (p : Progress) (w : Waiting) → (has_room (width_of plan) w.all w.current p.exchange ≡ false) ⊎ (not (is_dead plan p w) ≡ false) → is_dead plan p w ≡ false → NoMoreIfAllTimedOut p w
no_more_if_alive plan p w (inl none) alive = no_more_if_no_room plan p w (lacks_by_test plan p w none)
no_more_if_alive plan p w (inr dead) alive = let both : true ≡ false = sym (not-false (is_dead plan p w) dead) ∙ alive in cc

-- if there is no room, or the line is dead, no command may be sent where something is in flight that hasn't timed out
nothing_if_no_room : (plan : Plan) (p : Progress) (w : Waiting) → (has_room (width_of plan) w.all w.current p.exchange ≡ false) ⊎ (not (is_dead plan p w) ≡ false) → 0 < w.current → NothingMayGo plan p w
nothing_if_no_room plan p w (inl none) some = by_test (lacks_by_test plan p w none) where
  -- the lemma above, by what there is no room for
  by_test : LacksRoom plan p w → NothingMayGo plan p w
  by_test (inl full) = inl full
  by_test (inr it) = inr (inl it)
nothing_if_no_room plan p w (inr dead) some = let none = (dead_parts plan p w (not-false (is_dead plan p w) dead)).1 in absurd (omega (arith, none, some))

-- `action_room` is the action o if there is room for a request and the line isn't dead, and else the action of a station that
-- waits. For a station at work, `Holds` is true of it, if `Holds` is true of o where there is room and the line isn't dead
pub room_for : (plan : Plan) (p : Progress) (w : Waiting) (o : Action) → IsAtWork p → (HasRoomToAsk plan p w → is_dead plan p w ≡ false → Holds plan p w o)
    → Holds plan p w (action_room plan p w o)
room_for plan p w o work step =
    cond_both (has_room (width_of plan) w.all w.current p.exchange && not (is_dead plan p w)) o _ (Holds plan p w)
    (λ e. let it = and_parts (has_room (width_of plan) w.all w.current p.exchange) (not (is_dead plan p w)) e in step (room_of (width_of plan) w.all w.current p.exchange it.0) (not-true (is_dead plan p w) it.1))
    (λ e. let lacks = and_cases (has_room (width_of plan) w.all w.current p.exchange) (not (is_dead plan p w)) e in waiting_for plan p w work (nothing_if_no_room plan p w lacks) (no_more_if_alive plan p w lacks))

-- for a station at work, `Holds` is true of `action_to_send` with the action o, if it is true of o
-- where there is room, the line isn't dead and the count `behind` is below seven, and a null procedure is wanted where that
-- count isn't
pub to_send_for : (plan : Plan) (p : Progress) (w : Waiting) (o : Action) → (work : IsAtWork p) → (near : p.exchange.behind < WINDOW → HasRoomToAsk plan p w → is_dead plan p w ≡ false → Holds plan p w o)
    → (far : WINDOW ≤ p.exchange.behind → WantsNull plan p w) → Holds plan p w (action_to_send plan p w o)
to_send_for plan p w o work near far =
    let P = Holds plan p w in
    cond_both (nat_lt p.exchange.behind WINDOW) _ _ P (λ below. room_for plan p w o work (near (ltb-true p.exchange.behind WINDOW below)))
    (λ above. let many = ltb-false p.exchange.behind WINDOW above in cond_both (nat_eq w.current 0) _ _ P
    (λ given. room_for plan p w action.Flush work (λ room alive. ((work.awake.1, work.begun, far many, eqb-true w.current 0 given, room, alive), tt, work.awake)))
    (λ current. waiting_for_reply plan p w work (above_zero w.current current) (inr (inl many))))

-- for a station in its cycles (`IsMeasuring`), `Holds` is true of `action_to_send` with `Send` if a command is unsent, it may be
-- sent (`MayGo`, `MayRetry`), it goes on with its chain if the end of the run was asked for, and the values that it takes of files are there
send_for : (plan : Plan) (p : Progress) (w : Waiting) → IsMeasuring plan p w → 0 < p.unsent → MayGo p w → MayRetry p w → StaysInItsChain p → lacks_value p ≡ false
    → IsInItsTurn p → Holds plan p w (action_to_send plan p w action.Send)
send_for plan p w m some may retry stays there turn =
    to_send_for plan p w action.Send m.work (λ near room alive. ((m.work.awake.1, m.work.begun, some, room, may, near, retry, stays, m.set_up, alive, there, turn), tt, m.work.awake))
    (λ many. inr (inl (some, may), many))

-- If the end of the run was asked for.

-- if the end of the run was asked for, a command is left, and it goes on with a chain that has begun, and no setup comes first
abbrev pub IsInChainIfStopping : Progress → Type 0
IsInChainIfStopping p = p.stops ≡ true → (0 < p.unsent) × (p.next_is_chained ≡ true) × (p.preparing ≡ false)

-- where `IsInChainIfStopping` holds, if no command is left, the end of the run wasn't asked for
not_asked_to_stop : (p : Progress) → IsInChainIfStopping p → p.unsent ≡ 0 → p.stops ≡ false
not_asked_to_stop p only none = false_from_ne_true p.stops (λ stops. let some = (only stops).0 in absurd (omega (arith, none, some)))

-- if there is a connection, the station has synchronized, the end of the run was asked for, and neither does the run end nor is a
-- further chain held back, the station isn't between two chains (`between`). `none` says that no request is in flight, and `some`
-- that one is
not_between : (stops up begun none between some : Bool) → (connected : up ≡ true) → (synchronized : begun ≡ true) → (goes_on : (stops && ((not up || not begun) || (none && between))) ≡ false)
    → (not_held : ((stops && between) && some) ≡ false) → (in_flight : none ≡ false → some ≡ true) → (asked : stops ≡ true) → between ≡ false
not_between stops up begun none false some u b e f g is = refl
not_between true true true true true some u b e f g is = cc
not_between true true true false true true u b e f g is = cc
not_between true true true false true false u b e f g is = let other = g refl in cc
not_between true true false none true some u b e f g is = cc
not_between true false begun none true some u b e f g is = cc
not_between false up begun none true some u b e f g is = cc

-- where the test for 0 fails, the test for more than 0 holds
test_above_zero : (n : ℕ) → nat_eq n 0 ≡ false → nat_lt 0 n ≡ true
test_above_zero n e = grind (arith, nat_tests, e)

-- if the test says that the station isn't between two chains, a command is left, and it is chained, and no setup comes first
pub in_chain_by_test : (p : Progress) → is_between_chains p ≡ false → (0 < p.unsent) × (p.next_is_chained ≡ true) × (p.preparing ≡ false)
in_chain_by_test p e = by_test (nat_eq p.unsent 0) p.next_is_chained p.preparing refl e where
  -- the lemma above, by whether a command is left
  by_test : (none c b : Bool) → nat_eq p.unsent 0 ≡ none → ((none || not c) || b) ≡ false → (0 < p.unsent) × (c ≡ true) × (b ≡ false)
  by_test true c b is f = cc
  by_test false true false is f = (above_zero p.unsent is, refl, refl)
  by_test false true true is f = cc
  by_test false false b is f = cc

-- if the run doesn't end, it doesn't end between two chains either: `cut` is why it could end besides
not_between_either : (stops down none between cut : Bool) → (stops && (down || (none && (between || cut)))) ≡ false → (stops && (down || (none && between))) ≡ false
not_between_either false down none between cut e = refl
not_between_either true true none between cut e = cc
not_between_either true false false between cut e = refl
not_between_either true false true true cut e = cc
not_between_either true false true false cut e = refl

-- if there is a connection, the station has synchronized, the run doesn't end, and no further chain is held back,
-- `IsInChainIfStopping` holds
pub in_chain_if_stopping : (p : Progress) (w : Waiting) → is_up p.phase ≡ true → has_begun p ≡ true → is_stopping p w ≡ false → is_held_back p w ≡ false → IsInChainIfStopping p
in_chain_if_stopping p w up begun goes free stops =
    in_chain_by_test p
    (not_between p.stops (is_up p.phase) (has_begun p) (nat_eq w.current 0) (is_between_chains p) (nat_lt 0 w.current) up begun
    (not_between_either p.stops (not (is_up p.phase) || not (has_begun p)) (nat_eq w.current 0) (is_between_chains p) (is_cut p) goes) free (test_above_zero w.current) stops)

-- if the test says that the station is between two chains, it is
between_by_test : (p : Progress) → is_between_chains p ≡ true → IsBetweenChains p
between_by_test p e = by_test (nat_eq p.unsent 0) p.next_is_chained p.preparing refl e where
  -- the lemma above, by whether a command is left
  by_test : (none c b : Bool) → nat_eq p.unsent 0 ≡ none → ((none || not c) || b) ≡ true → (p.unsent ≡ 0) ⊎ ((c ≡ false) ⊎ (b ≡ true))
  by_test true c b is f = inl (eqb-true p.unsent 0 is)
  by_test false true false is f = cc
  by_test false true true is f = inr (inr refl)
  by_test false false b is f = inr (inl refl)

-- if the test says that the run may end, it may
pub resting_by_test : (p : Progress) (w : Waiting) → is_resting p w ≡ true → IsResting p w
resting_by_test p w e = by_tests (is_up p.phase) (has_begun p) (nat_eq w.current 0) (is_between_chains p) refl refl refl refl e where
  -- the lemma above, by each of its four tests
  by_tests : (up begun none between : Bool) → (up_is : is_up p.phase ≡ up) → (begun_is : has_begun p ≡ begun) → (none_is : nat_eq w.current 0 ≡ none) → (between_is : is_between_chains p ≡ between)
      → ((not up || not begun) || (none && (between || is_cut p))) ≡ true → IsResting p w
  by_tests false begun none between u b n t f = inl u
  by_tests true false none between u b n t f = inr (inl b)
  by_tests true true true true u b n t f = inr (inr (eqb-true w.current 0 n, inl (between_by_test p t)))
  by_tests true true true false u b n t f =
      let it = and_parts (is_unquiet p.phase && not p.chain_unbroken) (not p.missed) f in
      let cut = and_parts (is_unquiet p.phase) (not p.chain_unbroken) it.0 in
      inr (inr (eqb-true w.current 0 n, inr (cut.0, not-true p.chain_unbroken cut.1, not-true p.missed it.1)))
  by_tests true true false between u b n t f = cc

-- if there is a connection, there is one to be closed for any cause
pub has_connection_for : (why : Cause) (p : Progress) → is_up p.phase ≡ true → HasConnectionFor why p
has_connection_for cause.Stale p up = tt
has_connection_for cause.Stopped p up = tt
has_connection_for why p up = up

-- for a station at work, `Holds` is true of `action_waiting`, if a further chain is held back
pub held_back_for : (plan : Plan) (p : Progress) (w : Waiting) → IsAtWork p → is_held_back p w ≡ true → Holds plan p w (action_waiting plan p w)
held_back_for plan p w work held =
    let it = and_parts (p.stops && is_between_chains p) (nat_lt 0 w.current) held in
    let asked = and_parts p.stops (is_between_chains p) it.0 in
    waiting_for_reply plan p w work (ltb-true 0 w.current it.1) (inr (inr (inl (asked.0, between_by_test p asked.1))))

-- for a station in its cycles (`IsMeasuring`), `Holds` is true of `action_done` if no command of the cycle is unsent or
-- outstanding, and the end of the run wasn't asked for
done_for : (plan : Plan) (p : Progress) (w : Waiting) → IsMeasuring plan p w → (none_unsent : p.unsent ≡ 0) → (settled : w.commands ≡ 0) → (unasked : p.stops ≡ false)
    → Holds plan p w (action_done plan p)
done_for plan p w m sent settled unasked =
    let P = Holds plan p w in
    cond_both (nat_eq p.left 0) (action.Close cause.Done) _ P (λ e. ((awake_up p m.work.awake, inr (eqb-true p.left 0 e, sent, settled)), tt, tt))
    (λ e. cond_both (is_wanted plan p) action.Begin (action.Read Due) P
    (λ d. ((inl m.work.awake.1, inl m.work.begun, sent, settled, above_zero p.left e, unasked, inl m.set_up), (inl d, m.work.awake.0), tt)) (λ d. ((m.work.awake.1, inr (sent, settled, d, m.set_up)), awake_reads p m.work.awake, tt)))

-- if no command may be sent before those that are outstanding are settled (`IsHeld`), one is unsent, and it begins no further
-- attempt, that one is chained, or a value that it takes of a file isn't there
held_is_chained : (p : Progress) → IsHeld p → nat_eq p.unsent 0 ≡ false → p.next_others ≡ 0 → (p.next_is_chained ≡ true) ⊎ (lacks_value p ≡ true)
held_is_chained p (inl none) e first = let some : 0 < p.unsent = above_zero p.unsent e in absurd (omega (arith, none, some))
held_is_chained p (inr (inl next_is_chained)) e first = inl next_is_chained
held_is_chained p (inr (inr (inl more))) e first = absurd (omega (arith, more, first))
held_is_chained p (inr (inr (inr lacks))) e first = inr lacks

-- for a station in its cycles (`IsMeasuring`), `Holds` is true of `action_again` if the next command begins a further attempt,
-- each command that was sent is settled, and the next one goes on with its chain if the end of the run was asked for
again_for : (plan : Plan) (p : Progress) (w : Waiting) → IsMeasuring plan p w → 0 < p.unsent → (settled : w.commands ≡ 0) → (more : 0 < p.next_others) → StaysInItsChain p
    → Holds plan p w (action_again plan p w)
again_for plan p w m some settled more stays =
    cond_both (w.listed && not p.next_is_chained) _ action.Pass (Holds plan p w)
    (λ e. let it = and_parts w.listed (not p.next_is_chained) e in
    cond_both (lacks_value p) action.Skip _ (Holds plan p w)
    (λ lacks. ((inl m.work.awake.1, inl m.work.begun, some, settled, inr (inl (lacks, stays)), inl m.set_up, inr (not-true p.next_is_chained it.1)), m.work.awake.0, tt))
    (λ there. send_for plan p w m some (inl (not-true p.next_is_chained it.1)) (inr (settled, it.0)) stays there (inr (not-true p.next_is_chained it.1))))
    (λ e. ((inl m.work.awake.1, inl m.work.begun, some, settled, more, inl (by_test (and_cases w.listed (not p.next_is_chained) e)), inl m.set_up), m.work.awake.0, tt)) where
      -- why the attempt is left out, by which of the two tests fails
      by_test : ((w.listed ≡ false) ⊎ (not p.next_is_chained ≡ false)) → (w.listed ≡ false) ⊎ (p.next_is_chained ≡ true)
      by_test (inl none) = inl none
      by_test (inr bound) = inr (not-false p.next_is_chained bound)

-- for a station in its cycles (`IsMeasuring`), `Holds` is true of `action_settled` if each command that was sent is settled, no
-- command could be sent before that (`IsHeld`), and a chain goes on if the end of the run was asked for
settled_for : (plan : Plan) (p : Progress) (w : Waiting) → IsMeasuring plan p w → IsHeld p → (settled : w.commands ≡ 0) → IsInChainIfStopping p → Holds plan p w (action_settled plan p w)
settled_for plan p w m held settled only =
    let P = Holds plan p w in
    cond_both (nat_eq p.unsent 0) _ _ P (λ e. done_for plan p w m (eqb-true p.unsent 0 e) settled (not_asked_to_stop p only (eqb-true p.unsent 0 e)))
    (λ e. cond_both (nat_lt 0 p.next_others) _ _ P (λ more. again_for plan p w m (above_zero p.unsent e) settled (ltb-true 0 p.next_others more) (λ stops. (only stops).1))
    (λ first. let none = zero_if_not_above p.next_others first in cond_both (may_go p w) _ action.Skip P
    (λ may. let both = and_parts (w.well && p.chain_unbroken) (not (lacks_value p)) may in
    let it = and_parts w.well p.chain_unbroken both.0 in
    send_for plan p w m (above_zero p.unsent e) (inr (settled, it.0, it.1)) (inl none) (λ stops. (only stops).1) (not-true (lacks_value p) both.1) (inl none))
    (λ broken. ((inl m.work.awake.1, inl m.work.begun, above_zero p.unsent e, settled, unsent_for (held_is_chained p held e none) broken, inl m.set_up, inl none), m.work.awake.0, tt)))) where
      -- why the command isn't sent
      unsent_for : (p.next_is_chained ≡ true) ⊎ (lacks_value p ≡ true) → may_go p w ≡ false
          → ((p.next_is_chained ≡ true) × (may_go p w ≡ false)) ⊎ (((lacks_value p ≡ true) × StaysInItsChain p) ⊎ IsOverdue plan p w)
      unsent_for (inl chained) broken = inl (chained, broken)
      unsent_for (inr lacks) broken = inr (inl (lacks, λ stops. (only stops).1))

-- for a station in its cycles (`IsMeasuring`), `Holds` is true of `action_held` if no command may be sent before all that were
-- sent are settled (`IsHeld`), and a chain goes on if the end of the run was asked for
held_for : (plan : Plan) (p : Progress) (w : Waiting) → IsMeasuring plan p w → IsHeld p → IsInChainIfStopping p → Holds plan p w (action_held plan p w)
held_for plan p w m held only =
    let P = Holds plan p w in
    cond_both (nat_eq w.commands 0) _ _ P (λ e. settled_for plan p w m held (eqb-true w.commands 0 e) only)
    (λ e. cond_both (nat_eq w.current 0) _ _ P
    (λ given. room_for plan p w action.Flush m.work (λ room alive.
    ((m.work.awake.1, m.work.begun, inl (inl held, above_zero w.commands e), eqb-true w.current 0 given, room, alive), tt, m.work.awake)))
    (λ some. waiting_for_reply plan p w m.work (above_zero w.current some) (inl (inl held, above_zero w.commands e))))

-- if no command is left, or the next one is sent only once all are settled, `IsHeld` holds
held_by_test : (p : Progress) → (nat_lt 0 p.unsent && not (waits_for_all p)) ≡ false → IsHeld p
held_by_test p e = by_half (and_cases (nat_lt 0 p.unsent) (not (waits_for_all p)) e) where
  -- the lemma above for a command to wait for all, by which of the three tests holds: that it is chained, that it begins a
  -- further attempt, or that a value which it takes of a file isn't there
  by_test : (b c : Bool) → p.next_is_chained ≡ b → nat_lt 0 p.next_others ≡ c → ((b || c) || lacks_value p) ≡ true → IsHeld p
  by_test true c bound more e = inr (inl bound)
  by_test false true bound more e = inr (inr (inl (ltb-true 0 p.next_others more)))
  by_test false false bound more e = inr (inr (inr e))

  -- `held_by_test` by which of the two tests fails: that a command is unsent, or that it needn't wait
  by_half : ((nat_lt 0 p.unsent ≡ false) ⊎ (not (waits_for_all p) ≡ false)) → IsHeld p
  by_half (inl none) = inl (zero_if_not_above p.unsent none)
  by_half (inr waits) = by_test p.next_is_chained (nat_lt 0 p.next_others) refl refl (not-false (waits_for_all p) waits)

-- a command that needn't wait for all isn't chained, begins no further attempt, and the values that it takes of files are there
unchained_if_free : (p : Progress) → not (waits_for_all p) ≡ true → (p.next_is_chained ≡ false) × (p.next_others ≡ 0) × (lacks_value p ≡ false)
unchained_if_free p e = by_test p.next_is_chained (nat_lt 0 p.next_others) refl refl e where
  -- the lemma above, by the first two tests
  by_test : (b c : Bool) → p.next_is_chained ≡ b → nat_lt 0 p.next_others ≡ c → not ((b || c) || lacks_value p) ≡ true
      → (p.next_is_chained ≡ false) × (p.next_others ≡ 0) × (lacks_value p ≡ false)
  by_test true c bound more e = cc
  by_test false true bound more e = cc
  by_test false false bound more e = (bound, zero_if_not_above p.next_others more, not-true (lacks_value p) e)

-- for a station in its cycles (`IsMeasuring`), `Holds` is true of `action_cycle` if a chain goes on in case the end of the run
-- was asked for (`IsInChainIfStopping`)
pub cycle_for : (plan : Plan) (p : Progress) (w : Waiting) → IsMeasuring plan p w → IsInChainIfStopping p → Holds plan p w (action_cycle plan p w)
cycle_for plan p w m only =
    cond_both (nat_lt 0 p.unsent && not (waits_for_all p)) _ _ (Holds plan p w)
    (λ some. let it = and_parts (nat_lt 0 p.unsent) (not (waits_for_all p)) some in
    let free = unchained_if_free p it.1 in
    send_for plan p w m (ltb-true 0 p.unsent it.0) (inl free.0) (inl free.1) (λ stops. (only stops).1) free.2 (inl free.1))
    (λ none. held_for plan p w m (held_by_test p none) only)

-- if the test says that all is done, `IsFinished` holds: no cycle and no command is left, and none is outstanding
pub finished_by_test : (count : ℕ) (p : Progress) → is_finished count p ≡ true → IsFinished count p
finished_by_test count p e =
    let it = and_parts (nat_eq p.left 0 && nat_eq p.unsent 0) (nat_eq count 0) e in
    let sent = and_parts (nat_eq p.left 0) (nat_eq p.unsent 0) it.0 in
    (eqb-true p.left 0 sent.0, eqb-true p.unsent 0 sent.1, eqb-true count 0 it.1)
