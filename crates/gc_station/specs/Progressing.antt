-- What each act does to how far a station is, this project's own. That is its progress: the phase that it is in, how far its exchange
-- with the instrument is, the moment read last, and how many cycles, commands of the cycle, tries and turns are left. An act is one call
-- on the link, with its result.
use Rattle.gc_station.specs.Common.{Asked, Settlement, no_values, no_needs, Moment}
use Rattle.std.specs.Prelude.{ℕ, ◌+◌, ◌-◌, ◌&&◌, ◌||◌, Bool, true, false, not, if◌then◌else◌, nat_lt, nat_le, nat_eq, min, max, List, [], ◌∷◌}
use Rattle.gc_session.specs.declared.exchange.Exchange.{Exchange}
use Rattle.gc_station.specs.declared.plan.Plan.{Plan}
use Rattle.gc_station.specs.declared.cause.Cause.{Cause}
use Rattle.gc_station.specs.declared.progress.Phase.{Phase}
use Rattle.gc_station.specs.declared.progress.Progress.{Progress}
use Rattle.gc_station.specs.declared.progress.Until.{Until}
use Rattle.gc_station.specs.declared.progress.Until.TheVariants.{Limit, Due}
use Rattle.gc_station.specs.declared.progress.Upcoming.{Upcoming}
use Rattle.gc_station.specs.declared.progress.Waiting.{Waiting}
use Rattle.gc_station.specs.Deciding.{later, is_up, is_past, is_quiet, is_due, goes_on, has_begun}
use Rattle.gc_station.specs.Periods.{period_from}
use Rattle.gc_session.specs.Exchange as exchange
use Rattle.gc_station.specs.declared.cause.Cause.TheVariants as cause
use Rattle.gc_station.specs.declared.progress.Phase.TheVariants as phase
pub use Rattle.gc_station.specs.Deciding.{is_idle, is_finished}

-- the progress of a station that has done nothing
abbrev pub at_start : Plan → (turns : ℕ) → Progress
at_start plan turns = record {
  phase = phase.Down;
  exchange = exchange.new_exchange;
  clock_due = false;
  moment = record { elapsed = 0; utc = 0; stops = false; touched = 0; values = no_values };
  began = 0;
  period = min plan.first plan.every;
  touched = 0;
  early = false;
  due = 0;
  missed = false;
  left = plan.cycles;
  unsent = 0;
  next_is_chained = false;
  next_others = 0;
  next_needs = no_needs;
  chain_unbroken = false;
  tries = plan.retries;
  turns = turns;
  preparing = nat_lt 0 plan.setup;
  prepared = 0;
  attempt = 1;
  stops = false;
}

-- the progress `p` with one turn fewer left; none if none was
abbrev pub turned : Progress → Progress
turned p = record p { turns = p.turns - 1 }

-- the progress with its exchange changed by `f`
abbrev pub with_exchange : (Exchange → Exchange) → Progress → Progress
with_exchange f p = record p { exchange = f p.exchange }

-- the progress once the moment `m` was read, leaving out what that changes of its exchange. If the clock went back, so that the cycle's
-- beginning (`began`) lies after `m`, it becomes `m`: so the next cycle isn't put off. If `m` asks for the end of the run, that stays asked for
abbrev pub moment_set : Moment → Progress → Progress
moment_set m p = record p {
  moment = m;
  began = min p.began m.elapsed;
  clock_due = false;
  stops = p.stops || m.stops;
}

-- the progress once the moment `m` was read, by any act but a read that gave nothing: the quiet time counts from `m`
abbrev pub moment_noted : Moment → Progress → Progress
moment_noted m p = with_exchange (exchange.moment_read m.elapsed) (moment_set m p)

-- the progress once the moment `m` was read to begin a cycle, to record commands or leave them out, or to resynchronize: as
-- `moment_noted`, but a pause and the quiet time go on, as an overdue cycle is abandoned meanwhile
abbrev pub moment_noted_meanwhile : Moment → Progress → Progress
moment_noted_meanwhile m p = with_exchange (exchange.moment_passed m.elapsed) (moment_set m p)

-- the moment at which the next cycle is due: `period` milliseconds after `began`, the moment that counts as the beginning of the
-- last one. The first cycle may begin at once, unless cycles begin by the clock; if it can't, it is due here, where `began` is the start
-- of the clock
abbrev pub due_at : Progress → ℕ
due_at p = later p.began p.period

-- the moment that counts as the beginning of a cycle that is begun at the moment `m`: where cycles have no due moment, it is `m`;
-- otherwise the moment at which the cycle was due, or `m` if that is earlier
abbrev pub cycle_start : Plan → Moment → Progress → ℕ
cycle_start plan m p = if nat_eq plan.every 0 then m.elapsed else min (due_at p) m.elapsed

-- how late a cycle begins that is begun at the moment `m`: how long before `m` it counts as begun (`cycle_start`)
abbrev pub lateness : Plan → Moment → Progress → ℕ
lateness plan m p = m.elapsed - cycle_start plan m p

-- whether a cycle that would begin at the moment `m` is missed: the one after it is due by then, or would be, if it is the last
-- one
abbrev pub is_missed_at : Plan → Moment → Progress → Bool
is_missed_at plan m p = nat_lt 0 plan.every && nat_le plan.every (lateness plan m p)

-- when a cycle that begins at the moment `m` was due, by the clock of time stamps, in milliseconds since 1970-01-01: as much
-- before `m` as by the clock for deadlines, at the earliest 0
abbrev pub due_of : Plan → Moment → Progress → ℕ
due_of plan m p = m.utc - lateness plan m p

-- the regular time from a cycle that begins at the moment `m` to the next due moment: `every`; and where cycles begin by the clock
-- (`at`), the time to the next such moment from when this one was due, by the clock of time stamps as it is then. So a clock that was set
-- meanwhile is followed
abbrev pub regular_period : Plan → Moment → Progress → ℕ
regular_period plan m p = period_from plan.at plan.every (due_of plan m p)

-- how long after the beginning of a cycle that begins at the moment `m` the next one is due: the time of `regular_period`; but if the
-- cycle wasn't due, and isn't by then, because somebody asked for it, the next due moment stays
abbrev pub next_period : Plan → Moment → Progress → ℕ
next_period plan m p =
    if not (is_due plan p) && nat_lt m.elapsed (due_at p) then min p.period (due_at p - m.elapsed) else regular_period plan m p

-- whether the setup is still to be done once a cycle began or went on: it is if it was (`preparing`) and nothing of it was sent, but
-- no longer once a command of a cycle was sent (`were_sent`)
abbrev pub still_prepares : (were_sent : Bool) → Progress → Bool
still_prepares were_sent p = (not were_sent && p.preparing) && nat_eq p.prepared 0

-- the progress after a cycle of `count` commands began at the moment `m`. `next` is noted of the first of them. If the cycle is
-- missed, none of them is sent. A cycle that is asked for from then on begins before the next one is due
abbrev pub cycle_begun : Plan → (count : ℕ) → (next : Upcoming) → Moment → Progress → Progress
cycle_begun plan count next m p =
    let q = moment_noted_meanwhile m p in
    record q {
      began = cycle_start plan m p;
      period = next_period plan m p;
      touched = m.touched;
      due = due_of plan m p;
      missed = is_missed_at plan m p;
      early = false;
      left = p.left - 1;
      unsent = count;
      next_is_chained = is_missed_at plan m p || next.is_chained;
      next_others = next.others;
      next_needs = next.needs;
      chain_unbroken = false;
      preparing = still_prepares false p;
    }

-- the moment in the record of a command that isn't sent, by the clock of time stamps: if its cycle is missed, the moment at which
-- the cycle was due; otherwise `m`, the moment read for that record
abbrev pub unsent_at : Moment → Progress → ℕ
unsent_at m p = if p.missed then p.due else m.utc

-- the progress once the next `count` commands of the cycle had their turn: they were sent, recorded without being sent, or left
-- out. `next` is noted of the command after them. `were_sent`: whether they were sent, so that their chain is unbroken
-- (`chain_unbroken`)
abbrev pub advanced : (count : ℕ) (next : Upcoming) (were_sent : Bool) → Progress → Progress
advanced count next were_sent p = record p {
  unsent = p.unsent - count;
  next_is_chained = next.is_chained;
  next_others = next.others;
  next_needs = next.needs;
  chain_unbroken = were_sent;
  preparing = still_prepares were_sent p;
}

-- the progress once the next command was recorded at the moment `m` without being sent. `next` is noted of the command after it
abbrev pub skipped : (next : Upcoming) → Moment → Progress → Progress
skipped next m p = advanced 1 next false (moment_noted_meanwhile m p)

-- the progress after the further attempt that the next command begins, and those of its chain after it, were left out at the
-- moment `m`. `next` is noted of the command after all these attempts
abbrev pub attempts_left_out : (next : Upcoming) → Moment → Progress → Progress
attempts_left_out next m p = advanced p.next_others next false (moment_noted_meanwhile m p)

-- the progress after a call that failed for `cause`: the connection is to be closed, and without a connection the run is over
abbrev pub failing : Cause → Progress → Progress
failing cause p = record p { phase = if is_up p.phase then phase.Closing cause else phase.Over cause }

-- the progress after a connection was made: its line feed is to be sent
abbrev pub opened : Progress → Progress
opened p = record p { phase = phase.Clearing }

-- whether the next attempt to connect takes no try: a connection was closed for this cause while none is wanted. An attempt
-- that failed always takes one
abbrev pub is_spared : Plan → Cause → Progress → Bool
is_spared plan cause.Open p = false
is_spared plan _ p = is_idle plan p

-- the phase after the loss of a connection, or after an attempt that failed, while `count` commands are outstanding: the run
-- is done; or it tries again, if a try is left or none is needed (`is_spared`); or it is over for this cause
abbrev pub phase_again : Plan → (count : ℕ) → Cause → Progress → Phase
phase_again plan count why p =
    if is_finished count p then phase.Over cause.Done
    else if is_spared plan why p || nat_lt 0 p.tries then phase.Pausing
    else phase.Over why

-- the length of the next pause, in milliseconds: that of `pause_doubled`, or the last pause itself if no try is taken (`is_spared`), but
-- never below the quiet time
abbrev pub pause_again : Plan → Cause → Progress → ℕ
pause_again plan why p =
    if is_spared plan why p then max p.exchange.pause plan.quiet
    else (exchange.pause_doubled plan.quiet p.exchange).pause

-- the progress once the pause has the length of the next one (`pause_again`)
abbrev pub pause_lengthened : Plan → Cause → Progress → Progress
pause_lengthened plan why p = with_exchange (λ x. record x { pause = pause_again plan why p }) p

-- the number of the next attempt of the setup: one more than the last one's, if something of that was sent; else the same
abbrev pub next_attempt : Progress → ℕ
next_attempt p = if nat_eq p.prepared 0 then p.attempt else later p.attempt 1

-- the progress if the setup, if there is one, is to be sent again from its first command on
abbrev pub setup_restarted : Plan → Progress → Progress
setup_restarted plan p = record p { preparing = nat_lt 0 plan.setup; prepared = 0; attempt = next_attempt p }

-- the progress after a connection was closed for the cause `why`, or couldn't be made, with `count` commands outstanding. The
-- next attempt to connect takes a try, unless it is spared (`is_spared`); no chain goes on, and the setup is sent again on the
-- next connection
abbrev pub after_failure : Plan → (count : ℕ) → Cause → Progress → Progress
after_failure plan count why p =
    setup_restarted plan (record p {
      phase = phase_again plan count why p;
      exchange = (pause_lengthened plan why p).exchange;
      clock_due = true;
      tries = if is_spared plan why p then p.tries else p.tries - 1;
      chain_unbroken = false;
    })

-- the progress after the line feed of a new connection was sent: the connection is drained next, unless a synchronization goes
-- on with it
abbrev pub cleared : Progress → Progress
cleared p = record p { phase = if has_begun p then phase.Draining else phase.Ready; exchange = exchange.cleared p.exchange; clock_due = true }

-- the progress after a request was sent. The clock is to be read next
abbrev pub request_noted : Progress → Progress
request_noted p = record p { exchange = exchange.request_noted p.moment.elapsed p.exchange; clock_due = true }

-- the progress after the null procedure of the first id that isn't answered was sent: it is sent again at its deadline
abbrev pub null_sent : Plan → Progress → Progress
null_sent plan p = record p { exchange = exchange.null_noted p.moment.elapsed plan.deadline p.exchange; clock_due = true }

-- the progress of a station that resynchronizes at this moment: no chain goes on, and the setup is sent again. If nothing is sent before
-- the next cycle is due, the time after which the line is dead begins with the first null procedure
abbrev pub resynchronized : Plan → Moment → Progress → Progress
resynchronized plan m p =
    let q = moment_noted_meanwhile m p in
    setup_restarted plan (record q { exchange = exchange.renewed (p.exchange.asked && goes_on plan q) q.exchange; chain_unbroken = false })

-- the progress after the cycle's next command was sent. `next` is noted of the one after it
abbrev pub sent : (next : Upcoming) → Progress → Progress
sent next p = advanced 1 next true (request_noted p)

-- the progress after the setup's next command was sent
abbrev pub setup_sent : Plan → Progress → Progress
setup_sent plan p = let q = request_noted p in record q { prepared = min (p.prepared + 1) plan.setup; chain_unbroken = false }

-- the progress after a line was heard, which is a reply (`is_reply`) or isn't, and settled these requests: `waiting` are outstanding after it
abbrev pub line_noted : (is_reply : Bool) (settlements : List (Settlement Asked)) (waiting : ℕ) → Progress → Progress
line_noted is_reply settlements waiting p = with_exchange (exchange.heard_noted p.moment.elapsed is_reply settlements waiting) p

-- the progress once a line came that called for a synchronization, or not (`raised`): the station is in doubt until it resynchronizes
abbrev pub doubt_noted : (raised : Bool) → Progress → Progress
doubt_noted raised p = with_exchange (exchange.doubt_noted raised) p

-- the progress once a line came in which busy answers call for a wait, of `wait` milliseconds at most from the moment read last on, or none
-- does (0): the station asks for nothing until then, and is in doubt until it resynchronizes
abbrev pub hold_noted : (wait : ℕ) → Progress → Progress
hold_noted wait p = with_exchange (exchange.hold_noted p.moment.elapsed wait) p

-- the progress after `line` was heard while the station synchronizes
abbrev pub line_synchronizing : Progress → List ℕ → Progress
line_synchronizing p line = with_exchange (λ x. exchange.line_synchronizing p.moment.elapsed x line) p

-- the progress after these lines were heard while the station synchronizes, in order
abbrev pub lines_synchronizing : Progress → List (List ℕ) → Progress
lines_synchronizing p [] = p
lines_synchronizing p (line ∷ others) = lines_synchronizing (line_synchronizing p line) others

-- whether the cycle counts as done early after a read: it does after one that waited until the next cycle is due, because only after a
-- done cycle there is such a read, or before the first one is due; after any other read as before (`early`)
abbrev pub early_after : Until → (early : Bool) → Bool
early_after Due early = true
early_after Limit early = early

-- whether bytes give all tries back: they settled a command, since fewer than `before` are outstanding after them; and if there
-- is a setup, a cycle began or went on after it (`preparing` is false)
abbrev pub gives_back : (before : ℕ) (after : Waiting) → Progress → Bool
gives_back before after p = nat_lt after.commands before && not p.preparing

-- the progress after bytes that came in a read that waits for what `until` says: `before` commands were outstanding before them,
-- and `after` counts what is outstanding after them. If `gives_back` says so, all tries are available again, and the next pause
-- is the quiet time
abbrev pub bytes_noted : Plan → Until → (before : ℕ) (after : Waiting) → Progress → Progress
bytes_noted plan until before after p = record p {
  exchange = record p.exchange { pause = if gives_back before after p then 0 else p.exchange.pause };
  early = early_after until p.early;
  tries = if gives_back before after p then plan.retries else p.tries;
}

-- the progress of a station that pauses, after a read that gave nothing: if the pause was long enough and a connection is
-- wanted, the next action connects
abbrev pub pause_ended : Plan → Progress → Progress
pause_ended plan p = record p { phase = if is_past p.exchange.pause p && not (is_idle plan p) then phase.Down else p.phase }

-- the progress after a new connection was drained, because it was quiet: requests may be sent
abbrev pub drained : Progress → Progress
drained p = record p { phase = phase.Ready; exchange = exchange.drained p.moment.elapsed p.exchange }

-- the progress after a read that gave nothing: a pause, or a draining, that was long enough ends. The phase is `p.phase`: it is
-- passed beside `p` so that the definition can match on it
abbrev pub quieted : Plan → Phase → Progress → Progress
quieted plan phase.Pausing p = pause_ended plan p
quieted plan phase.Draining p = if is_quiet plan p then drained p else p
quieted plan _ p = p

-- the progress once the moment `m` was read by a read that gave nothing and ended as `until` says: the quiet time goes on. After a read
-- until the next cycle is due the cycle counts as done early (`early_after`)
abbrev pub time_passed : Until → Moment → Progress → Progress
time_passed until m p = let q = moment_noted_meanwhile m p in record q { early = early_after until p.early }

-- the progress after a read that gave nothing until the moment `m`
abbrev pub silent : Plan → Until → Moment → Progress → Progress
silent plan until m p = quieted plan p.phase (time_passed until m p)

-- the progress once it is noted whether the cycle was done early: a cycle has begun, none of its commands is left, no command is
-- outstanding (`count` is how many are), and the next cycle isn't due yet; or it was noted before that the cycle was done early
abbrev pub early_noted : Plan → (count : ℕ) → Progress → Progress
early_noted plan count p =
    record p { early = p.early || (nat_eq count 0 && nat_eq p.unsent 0 && not (is_due plan p) && nat_lt p.left plan.cycles) }

-- the progress at the end of a run for the cause `why`: no further connection is made, and no chain goes on
abbrev pub ended_for : Cause → Progress → Progress
ended_for why p = record p { phase = phase.Over why; chain_unbroken = false }

-- the progress after a close for this cause. For `Done`, `Clock`, `Turns`, `Stale` and `Stopped` no further connection is made;
-- for any other cause `after_failure` says whether one is
abbrev pub closed : Plan → Waiting → Cause → Progress → Progress
closed plan w cause.Done p = ended_for cause.Done p
closed plan w cause.Clock p = ended_for cause.Clock p
closed plan w cause.Turns p = ended_for cause.Turns p
closed plan w cause.Stale p = ended_for cause.Stale p
closed plan w cause.Stopped p = ended_for cause.Stopped p
closed plan w why p = after_failure plan w.commands why p

-- whether the run is over in this phase
abbrev pub is_over_in : Phase → Bool
is_over_in (phase.Over cause) = true
is_over_in _ = false

-- whether no act follows: the run is over, or there is no connection and no turn is left
abbrev pub is_over : Progress → Bool
is_over p = is_over_in p.phase || (not (is_up p.phase) && nat_eq p.turns 0)

-- whether all outstanding requests, if any, are lost: the station synchronizes, or no act follows
abbrev pub loses_all : Progress → Bool
loses_all p = not (has_begun p) || is_over p
