-- Reasons, this project's own: what has to hold if an act is the next one. It is said apart from the tests of `Deciding`, some of
-- which decide the same, so that the laws check these.
use Rattle.gc_station.specs.Common.{WINDOW}
use Rattle.std.specs.Prelude.{◌+◌, ◌≡◌, ℕ, ◌-◌, ◌<◌, ◌≤◌, ◌⊎◌, true, false}
use Rattle.gc_station.specs.declared.plan.Plan.{Plan}
use Rattle.gc_station.specs.declared.cause.Cause.{Cause}
use Rattle.gc_station.specs.declared.cause.Cause.TheVariants.{Done, Dead, Turns, Stale, Stopped, SetUp}
use Rattle.gc_station.specs.declared.progress.Phase.{Phase}
use Rattle.gc_station.specs.declared.progress.Action.{Action}
use Rattle.gc_station.specs.declared.progress.Progress.{Progress}
use Rattle.gc_station.specs.declared.progress.Until.{Until}
use Rattle.gc_station.specs.declared.progress.Until.TheVariants.{Limit, Due}
use Rattle.gc_station.specs.declared.progress.Waiting.{Waiting}
use Rattle.gc_station.specs.Deciding.{width_of, has_begun, is_up, is_unquiet, is_wanted, is_idle, is_silent, is_dead, is_stale, lacks_value, may_go, is_preparing}
use Rattle.gc_station.specs.declared.progress.Phase.TheVariants as phase
use Rattle.gc_station.specs.declared.progress.Action.TheVariants as action

-- another request may be sent: fewer that haven't timed out are in flight than `width_of` allows; all that are outstanding, and those
-- that the last line ended that ended any, are together fewer than the window has places; since the station synchronized no line called
-- for another synchronization (`doubtful`); and no busy answer has it wait (`hold`)
abbrev pub HasRoomToAsk : Plan → Progress → Waiting → Type 0
HasRoomToAsk plan p w = (w.current < width_of plan) × (w.all + p.exchange.last_ended < WINDOW) × (p.exchange.doubtful ≡ false) × (p.exchange.hold ≡ 0)

-- another request may not be sent, though nothing is in flight that hasn't timed out: all that are outstanding, and those that the last
-- line ended that ended any, are together as many as the window has places, or more; or since the station synchronized a line called for
-- another synchronization; or a busy answer has it wait
abbrev pub MayAskNoMore : Progress → Waiting → Type 0
MayAskNoMore p w = (WINDOW ≤ w.all + p.exchange.last_ended) ⊎ ((p.exchange.doubtful ≡ true) ⊎ (0 < p.exchange.hold))

-- no further command may be sent before those that were sent are settled: no command of the cycle is left, or the next one waits
-- for the answer of the one before it in its chain, or begins a further attempt of its chain, or a value that it takes of a file isn't there
abbrev pub IsHeld : Progress → Type 0
IsHeld p = (p.unsent ≡ 0) ⊎ ((p.next_is_chained ≡ true) ⊎ ((0 < p.next_others) ⊎ (lacks_value p ≡ true)))

-- the station is between two chains: no command of the cycle is left, or the next one begins a chain or a further attempt of one;
-- or there is a setup, and since the connection was made and the station synchronized no command of a cycle was sent (`preparing`). In
-- a missed cycle each command, the first one too, counts as going on with a chain
abbrev pub IsBetweenChains : Progress → Type 0
IsBetweenChains p = (p.unsent ≡ 0) ⊎ ((p.next_is_chained ≡ false) ⊎ (p.preparing ≡ true))

-- a close cut the chain, in a cycle that isn't missed, and the new connection isn't quiet yet
abbrev pub IsCut : Progress → Type 0
IsCut p = (is_unquiet p.phase ≡ true) × (p.chain_unbroken ≡ false) × (p.missed ≡ false)

-- the run may end here if that is asked for: there is no connection, or the station synchronizes, or nothing is in flight that
-- hasn't timed out, and the station is between two chains or a close cut its chain (`IsCut`)
abbrev pub IsResting : Progress → Waiting → Type 0
IsResting p w = (is_up p.phase ≡ false) ⊎ ((has_begun p ≡ false) ⊎ ((w.current ≡ 0) × (IsBetweenChains p ⊎ IsCut p)))

-- the next command isn't one that is left out without a record whatever the commands before it came to. Of a command that rests in its
-- cycle both is noted, that it is chained, and that it begins a further attempt; in a missed cycle all others count as chained, too
abbrev pub IsInItsTurn : Progress → Type 0
IsInItsTurn p = (p.next_others ≡ 0) ⊎ (p.next_is_chained ≡ false)

-- if the end of the run was asked for, the next command goes on with a chain (`next_is_chained`)
abbrev pub StaysInItsChain : Progress → Type 0
StaysInItsChain p = p.stops ≡ true → p.next_is_chained ≡ true

-- the setup isn't done, and a command of it was sent in this attempt
abbrev pub SetUpHasBegun : Plan → Progress → Waiting → Type 0
SetUpHasBegun plan p w = (is_preparing plan p w ≡ true) × (0 < p.prepared)

-- the next command, of a cycle (`IsHeld`) or of the setup (`SetUpHasBegun`), isn't sent before all that were sent are settled
abbrev pub AwaitsSettlements : Plan → Progress → Waiting → Type 0
AwaitsSettlements plan p w = IsHeld p ⊎ SetUpHasBegun plan p w

-- the cycle that began last is out of time: cycles have due moments, and two periods have passed since this one's (`began`)
abbrev pub IsOutOfTime : Plan → Progress → Type 0
IsOutOfTime plan p = (0 < plan.every) × (plan.every ≤ (p.moment.elapsed - p.began) - plan.every)

-- the run goes on in this phase: neither is it over, nor is the connection to be closed or to be cleared
abbrev pub IsGoingOn : Phase → Type 0
IsGoingOn phase.Clearing = ⊥
IsGoingOn (phase.Closing why) = ⊥
IsGoingOn (phase.Over why) = ⊥
IsGoingOn _ = Unit {0}

-- the run goes on, with or without a connection, nothing is in flight that hasn't timed out, and the cycle that began last is out of
-- time (`IsOutOfTime`), or missed with commands left: so this cycle is abandoned
abbrev pub IsOverdue : Plan → Progress → Waiting → Type 0
IsOverdue plan p w = (((p.missed ≡ true) × (0 < p.unsent)) ⊎ IsOutOfTime plan p) × (w.current ≡ 0) × IsGoingOn p.phase

-- the setup, if there is one, is done; or nothing of it was sent, and the cycle is overdue
abbrev pub IsPreparedOrOverdue : Plan → Progress → Waiting → Type 0
IsPreparedOrOverdue plan p w = (is_preparing plan p w ≡ false) ⊎ ((p.prepared ≡ 0) × IsOverdue plan p w)

-- the phase is `Ready`, in which requests may be sent; or the cycle is overdue (`IsOverdue`)
abbrev pub IsReadyOrOverdue : Plan → Progress → Waiting → Type 0
IsReadyOrOverdue plan p w = (p.phase ≡ phase.Ready) ⊎ IsOverdue plan p w

-- no command may be sent before what is in flight is settled or has timed out, for one of four reasons: commands are outstanding, and
-- the next one waits until they are settled; or none of the last seven requests is a call of the table that a reply ended; or the end
-- of the run was asked for, and the station is between two chains; or the cycle is out of time
abbrev pub WaitsForWhatIsInFlight : Plan → Progress → Waiting → Type 0
WaitsForWhatIsInFlight plan p w =
    (AwaitsSettlements plan p w × (0 < w.commands)) ⊎ ((WINDOW ≤ p.exchange.behind) ⊎ (((p.stops ≡ true) × IsBetweenChains p) ⊎ IsOutOfTime plan p))

-- no command may be sent: there is no room for a request (`HasRoomToAsk`); or the station waits for what is in flight
abbrev pub NothingMayGo : Plan → Progress → Waiting → Type 0
NothingMayGo plan p w = (width_of plan ≤ w.current) ⊎ (MayAskNoMore p w ⊎ WaitsForWhatIsInFlight plan p w)

-- the next command may be sent, as far as its chain goes: it is the first of its chain, or of a further attempt, of which
-- `MayRetry` says more; or all that were sent are settled, the one before it was answered well, and since that was sent no
-- connection was closed, and the station didn't resynchronize
abbrev pub MayGo : Progress → Waiting → Type 0
MayGo p w = (p.next_is_chained ≡ false) ⊎ ((w.commands ≡ 0) × (w.well ≡ true) × (p.chain_unbroken ≡ true))

-- the next command of the setup may be sent: it is the first, or all that were sent are settled and the one before it was
-- answered well
abbrev pub MayPrepare : Plan → Progress → Waiting → Type 0
MayPrepare plan p w = (is_preparing plan p w ≡ true) × (p.prepared < plan.setup) × ((p.prepared ≡ 0) ⊎ ((w.commands ≡ 0) × (w.well ≡ true)))

-- the next command begins no further attempt of its chain; or all that were sent are settled, and a command of the attempt
-- before ended as its rule names
abbrev pub MayRetry : Progress → Waiting → Type 0
MayRetry p w = (p.next_others ≡ 0) ⊎ ((w.commands ≡ 0) × (w.listed ≡ true))

-- a null procedure is wanted: commands are outstanding that have to be settled before another is sent; or the next command may
-- be sent, and none of the last seven requests is a call of the table that a reply ended
abbrev pub WantsNull : Plan → Progress → Waiting → Type 0
WantsNull plan p w =
    (AwaitsSettlements plan p w × (0 < w.commands)) ⊎ ((((0 < p.unsent) × MayGo p w) ⊎ MayPrepare plan p w) × (WINDOW ≤ p.exchange.behind))

-- no command of any cycle is left to be sent, and none is outstanding: `count` is how many are outstanding
abbrev pub IsFinished : (count : ℕ) → Progress → Type 0
IsFinished count p = (p.left ≡ 0) × (p.unsent ≡ 0) × (count ≡ 0)

-- the connection is to be closed though no call of the link failed: all is done; all turns are used up; the line is silent, and
-- nothing is in flight that hasn't timed out; a command of the setup wasn't answered well; the run is stale; or its end was asked
-- for, and it may end here
abbrev pub IsAtItsEnd : Plan → Progress → Waiting → Cause → Type 0
IsAtItsEnd plan p w Done = IsFinished w.commands p
-- the line is silent, and each request has timed out, a null procedure of the synchronization too
IsAtItsEnd plan p w Dead = (is_silent plan p w ≡ true) × (w.current ≡ 0) × ((has_begun p ≡ false) → p.exchange.again ≤ p.moment.elapsed)
-- the last command of the setup that was sent is settled, and wasn't answered well
IsAtItsEnd plan p w SetUp = (is_preparing plan p w ≡ true) × (0 < p.prepared) × (w.commands ≡ 0) × (w.well ≡ false)
IsAtItsEnd plan p w Turns = p.turns ≡ 0
IsAtItsEnd plan p w Stale = is_stale plan p w ≡ true
IsAtItsEnd plan p w Stopped = (p.stops ≡ true) × IsResting p w
IsAtItsEnd plan p w _ = ⊥

-- there is a connection, unless the cause is `Stale` or `Stopped`, which end a run without one, too
abbrev pub HasConnectionFor : Cause → Progress → Type 0
HasConnectionFor Stale p = Unit {0}
HasConnectionFor Stopped p = Unit {0}
HasConnectionFor _ p = is_up p.phase ≡ true

-- what a read waits for that ends when the next cycle is due: that moment hasn't come, no cycle was asked for, each command of the cycle is settled, and the
-- setup is done; or the cycle was done before it, and the station hasn't synchronized, or nothing of its setup was sent
abbrev pub AwaitsDueMoment : Plan → Progress → Waiting → Type 0
AwaitsDueMoment plan p w =
    ((is_idle plan p ≡ true) × ((has_begun p ≡ false) ⊎ ((is_preparing plan p w ≡ true) × (p.prepared ≡ 0))))
    ⊎ ((p.unsent ≡ 0) × (w.commands ≡ 0) × (is_wanted plan p ≡ false) × (is_preparing plan p w ≡ false))

-- what another read waits for on a connection that was quiet: while the station synchronizes, the end of the wait after a busy answer, or
-- the reply to a null procedure whose deadline hasn't come; or something in flight that hasn't timed out, while no command may be sent. The last case is one without a setup, in which
-- a station never prepares one: by the law `a_read_awaits_something` it never occurs
abbrev pub AwaitsReply : Plan → Progress → Waiting → Type 0
AwaitsReply plan p w =
    ((has_begun p ≡ false) × ((0 < p.exchange.hold) ⊎ (p.moment.elapsed < p.exchange.again)))
    ⊎ ((NothingMayGo plan p w × (0 < w.current)) ⊎ ((is_preparing plan p w ≡ true) × (plan.setup ≡ 0)))

-- what a read waits for: the end of a pause, or of a draining; a reply (`AwaitsReply`); or the next due moment (`AwaitsDueMoment`)
abbrev pub AwaitsSomething : Plan → Progress → Waiting → Until → Type 0
AwaitsSomething plan p w Limit = (p.phase ≡ phase.Pausing) ⊎ ((p.phase ≡ phase.Draining) ⊎ ((p.phase ≡ phase.Ready) × AwaitsReply plan p w))
AwaitsSomething plan p w Due = (p.phase ≡ phase.Ready) × AwaitsDueMoment plan p w

-- what holds at the progress `p` with the outstanding requests `w` if this action is the next one. The clock is read alone only where
-- the moment read last is out of date (`clock_due`). No request is sent over a dead line
abbrev pub HoldsBefore : Plan → Progress → Waiting → Action → Type 0
HoldsBefore plan p w action.ReadClock = p.clock_due ≡ true
-- the station resynchronizes where all outstanding requests have timed out, and another may not be sent (`MayAskNoMore`); or, with or
-- without a connection, where commands are outstanding and the cycle is overdue
HoldsBefore plan p w action.Renew =
    IsReadyOrOverdue plan p w × (has_begun p ≡ true) × (w.current ≡ 0) × (MayAskNoMore p w ⊎ (IsOverdue plan p w × (0 < w.commands)))
HoldsBefore plan p w action.Begin =
    IsReadyOrOverdue plan p w × ((has_begun p ≡ true) ⊎ IsOverdue plan p w) × (p.unsent ≡ 0) × (w.commands ≡ 0) × (0 < p.left)
    × (p.stops ≡ false) × IsPreparedOrOverdue plan p w
HoldsBefore plan p w action.Open = p.phase ≡ phase.Down
HoldsBefore plan p w action.Clear = p.phase ≡ phase.Clearing
-- the null procedure of a synchronization is sent, and again at its deadline, unless the cycle is done and the next isn't due, or a busy
-- answer has the station wait
HoldsBefore plan p w action.Ask = (p.phase ≡ phase.Ready) × (has_begun p ≡ false) × (p.exchange.again ≤ p.moment.elapsed) × (is_idle plan p ≡ false)
    × (is_dead plan p w ≡ false) × (p.exchange.hold ≡ 0)
-- no command of the setup is sent if the end of the run was asked for
HoldsBefore plan p w action.Prepare =
    (p.phase ≡ phase.Ready) × (has_begun p ≡ true) × MayPrepare plan p w × HasRoomToAsk plan p w × (p.exchange.behind < WINDOW) × (p.stops ≡ false)
    × (is_dead plan p w ≡ false)
-- a command of a cycle has its turn only once the setup is done, and is sent only if it doesn't rest, and the values that it takes of files
-- are there
HoldsBefore plan p w action.Send =
    (p.phase ≡ phase.Ready) × (has_begun p ≡ true) × (0 < p.unsent) × HasRoomToAsk plan p w × MayGo p w × (p.exchange.behind < WINDOW) × MayRetry p w
    × StaysInItsChain p × (is_preparing plan p w ≡ false) × (is_dead plan p w ≡ false) × (lacks_value p ≡ false) × IsInItsTurn p
HoldsBefore plan p w action.Skip =
    IsReadyOrOverdue plan p w × ((has_begun p ≡ true) ⊎ IsOverdue plan p w) × (0 < p.unsent) × (w.commands ≡ 0)
    × (((p.next_is_chained ≡ true) × (may_go p w ≡ false)) ⊎ (((lacks_value p ≡ true) × StaysInItsChain p) ⊎ IsOverdue plan p w))
    × IsPreparedOrOverdue plan p w × IsInItsTurn p
-- the further attempts of a chain are left out if all that were sent are settled, and no command of the attempt before ended as
-- its rule names; or if nothing is sent, because the cycle is missed; and so is a command that rests in its cycle, which counts as chained
HoldsBefore plan p w action.Pass =
    IsReadyOrOverdue plan p w × ((has_begun p ≡ true) ⊎ IsOverdue plan p w) × (0 < p.unsent) × (w.commands ≡ 0) × (0 < p.next_others)
    × (((w.listed ≡ false) ⊎ (p.next_is_chained ≡ true)) ⊎ IsOverdue plan p w) × IsPreparedOrOverdue plan p w
HoldsBefore plan p w action.Flush = (p.phase ≡ phase.Ready) × (has_begun p ≡ true) × WantsNull plan p w × (w.current ≡ 0) × HasRoomToAsk plan p w
    × (is_dead plan p w ≡ false)
HoldsBefore plan p w (action.Read until) = AwaitsSomething plan p w until
HoldsBefore plan p w (action.Close cause) = HasConnectionFor cause p × ((p.phase ≡ phase.Closing cause) ⊎ IsAtItsEnd plan p w cause)
HoldsBefore plan p w (action.Stop cause) = (is_up p.phase ≡ false) × ((p.phase ≡ phase.Over cause) ⊎ ((cause ≡ Turns) × (p.turns ≡ 0)))

-- the next command of the cycle may be sent: all conditions of its action hold, the cycle isn't out of time, and the end of the run
-- wasn't asked for
abbrev pub MayBeSent : Plan → Progress → Waiting → Type 0
MayBeSent plan p w = HoldsBefore plan p w action.Send × (p.stops ≡ false) × (IsOutOfTime plan p → ⊥)
