-- What a station does next, this project's own. It is a function of the plan, of how far the station is, of how many requests are
-- outstanding (in all, of those that haven't timed out, and of commands), and of how the last commands ended. The phases are:
-- without a connection (`Down`), in the pause before the next attempt (`Pausing`), before the line feed that clears a connection
-- (`Clearing`), until a connection is quiet (`Draining`), with a connection for requests (`Ready`), before a close (`Closing`),
-- and at the end (`Over`). Of the progress, `left` counts the cycles that haven't begun, and `unsent` the commands of the cycle
-- that are left: neither sent, nor recorded without being sent, nor left out.
use Rattle.gc_station.specs.Common.{width_within, is_line_dead, next_waiting, next_room, next_flush, next_to_send, next_synchronizing, lack}
use Rattle.std.specs.Prelude.{ℕ, ◌-◌, ◌&&◌, ◌||◌, Bool, true, false, not, if◌then◌else◌, nat_lt, nat_le, nat_eq, is_some}
use Rattle.gc_session.specs.declared.choices.Choices.{Choices}
use Rattle.gc_session.specs.declared.load.Load.{Load}
use Rattle.gc_station.specs.declared.plan.Plan.{Plan}
use Rattle.gc_station.specs.declared.cause.Cause.TheVariants.{Done, Dead, Turns, Stale, Stopped, SetUp}
use Rattle.gc_station.specs.declared.progress.Phase.{Phase}
use Rattle.gc_station.specs.declared.progress.Action.{Action}
use Rattle.gc_station.specs.declared.progress.Action.TheVariants.{ReadClock, Renew, Begin, Open, Clear, Ask, Send, Skip, Pass, Flush, Read, Close, Stop, Prepare}
use Rattle.gc_station.specs.declared.progress.Progress.{Progress}
use Rattle.gc_station.specs.declared.progress.Until.TheVariants.{Limit, Due}
use Rattle.gc_station.specs.declared.progress.Waiting.{Waiting}
pub use Rattle.gc_catalogue.specs.Moments.{later}
use Rattle.gc_session.specs.Exchange as exchange
use Rattle.gc_station.specs.declared.progress.Phase.TheVariants as phase

-- how many requests may be in flight that haven't timed out: as many as the plan says, but at least one and at most seven
abbrev pub width_of : Plan → ℕ
width_of plan = width_within plan.width

-- whether there is a connection in this phase
abbrev pub is_up : Phase → Bool
is_up phase.Down = false
is_up phase.Pausing = false
is_up phase.Clearing = true
is_up phase.Draining = true
is_up phase.Ready = true
is_up (phase.Closing cause) = true
is_up (phase.Over cause) = false

-- whether a connection was made in this phase that isn't quiet yet: it is being cleared, or drained
abbrev pub is_unquiet : Phase → Bool
is_unquiet phase.Down = false
is_unquiet phase.Pausing = false
is_unquiet phase.Clearing = true
is_unquiet phase.Draining = true
is_unquiet phase.Ready = false
is_unquiet (phase.Closing cause) = false
is_unquiet (phase.Over cause) = false

-- whether at least `wait` milliseconds lie between the moment from which a pause or a quiet time counts, and the moment read last
abbrev pub is_past : (wait : ℕ) → Progress → Bool
is_past wait p = exchange.is_past wait p.moment.elapsed p.exchange

-- whether at least the plan's quiet time lies between `since`, from when it counts, and the moment read last
abbrev pub is_quiet : Plan → Progress → Bool
is_quiet plan p = is_past plan.quiet p

-- whether a synchronization is done: none of its null procedures is left unanswered
abbrev pub has_begun : Progress → Bool
has_begun p = exchange.has_begun p.exchange

-- after how many milliseconds without a reply line the line is silent (`is_silent`): twice the longest deadline, at most the
-- greatest `u64`
abbrev pub dead_after : Plan → ℕ
dead_after plan = later plan.deadline plan.deadline

-- whether the line is silent: requests are awaited on it, and for as long as `dead_after` says no reply line came
abbrev pub is_silent : Plan → Progress → Waiting → Bool
is_silent plan p w = exchange.is_silent (dead_after plan) p.moment.elapsed w.all p.exchange

-- what counts of the station's requests
abbrev pub load_of : Plan → Progress → Waiting → Load
load_of plan p w = record {
  width = width_of plan;
  patience = plan.deadline;
  now = p.moment.elapsed;
  all = w.all;
  current = w.current;
}

-- what the rules of an exchange choose between, as actions
abbrev pub the_choices : Choices Action
the_choices = record { close = Close Dead; renew = Renew; read = Read Limit; flush = Flush; null = Ask }

-- whether the line is dead: it is silent, and all outstanding requests have timed out
abbrev pub is_dead : Plan → Progress → Waiting → Bool
is_dead plan p w = is_line_dead (load_of plan p w) p.exchange

-- whether the run is stale: no answer of a good quality was recorded for as long as the plan allows, counted from `fresh`; false
-- if the plan sets no limit (`stale` is 0)
abbrev pub is_stale : Plan → Progress → Waiting → Bool
is_stale plan p w = nat_lt 0 plan.stale && nat_le plan.stale (p.moment.elapsed - w.fresh)

-- whether the station is between two chains: the test of `IsBetweenChains`, which says when that is so
abbrev pub is_between_chains : Progress → Bool
is_between_chains p = (nat_eq p.unsent 0 || not p.next_is_chained) || p.preparing

-- whether a close cut the chain, in a cycle that isn't missed, and the new connection isn't quiet yet
abbrev pub is_cut : Progress → Bool
is_cut p = is_unquiet p.phase && not p.chain_unbroken && not p.missed

-- whether the run may end here if that is asked for: the test of `IsResting`
abbrev pub is_resting : Progress → Waiting → Bool
is_resting p w = (not (is_up p.phase) || not (has_begun p)) || (nat_eq w.current 0 && (is_between_chains p || is_cut p))

-- whether the run ends now because its end was asked for: it was asked for, and the run may end here (`is_resting`)
abbrev pub is_stopping : Progress → Waiting → Bool
is_stopping p w = p.stops && is_resting p w

-- whether the end of the run was asked for, and the station is between two chains, but something is in flight that hasn't timed
-- out: then nothing more is sent, until that is settled or has timed out
abbrev pub is_held_back : Progress → Waiting → Bool
is_held_back p w = (p.stops && is_between_chains p) && nat_lt 0 w.current

-- the next action of a station that waits: nothing may be sent
abbrev pub action_waiting : Plan → Progress → Waiting → Action
action_waiting plan p w = next_waiting the_choices (load_of plan p w) p.exchange

-- whether the next cycle is due: the first one is at once, unless cycles begin by the clock (`at`), and each other one `period`
-- milliseconds after `began`, the moment that counts as the beginning of the one before it. Whether a cycle is left (`left`) isn't
-- looked at
abbrev pub is_due : Plan → Progress → Bool
is_due plan p = if nat_eq p.left plan.cycles && not (is_some plan.at) then true else nat_le p.period (p.moment.elapsed - p.began)

-- whether somebody asked for a cycle since the last one began, of which there was one: by the moment read last the file by which that is
-- asked is there, and was changed at another time than the one that counted when the last cycle began (`touched`)
abbrev pub is_asked_for : Plan → Progress → Bool
is_asked_for plan p = nat_lt p.left plan.cycles && nat_lt 0 p.moment.touched && not (nat_eq p.moment.touched p.touched)

-- whether the next cycle is wanted: it is due, or was asked for
abbrev pub is_wanted : Plan → Progress → Bool
is_wanted plan p = is_due plan p || is_asked_for plan p

-- whether no connection is wanted: the cycle was done before the next was due, and the next isn't wanted yet
abbrev pub is_idle : Plan → Progress → Bool
is_idle plan p = p.early && not (is_wanted plan p)

-- whether the station goes on without waiting for a due moment: some commands of this cycle are left, or the next cycle is wanted
-- (`is_wanted`; whether there is one isn't looked at)
abbrev pub goes_on : Plan → Progress → Bool
goes_on plan p = nat_lt 0 p.unsent || is_wanted plan p

-- whether no command of any cycle is left to be sent, and none is outstanding (`count` is how many are): the test of `IsFinished`
abbrev pub is_finished : (count : ℕ) → Progress → Bool
is_finished count p = nat_eq p.left 0 && nat_eq p.unsent 0 && nat_eq count 0

-- the next action while the station synchronizes, or nothing of its setup was sent: to close the connection if the run is done
-- (`is_finished`), to read until the next cycle is due if the station is idle (`is_idle`), and else `action`
abbrev pub action_unless_idle : Plan → Progress → Waiting → Action → Action
action_unless_idle plan p w action = if is_finished w.commands p then Close Done else if is_idle plan p then Read Due else action

-- the next action while the station synchronizes, unless the run is done or the station idle
abbrev pub action_beginning : Plan → Progress → Waiting → Action
action_beginning plan p w = action_unless_idle plan p w (next_synchronizing the_choices (load_of plan p w) p.exchange)

-- the next action if each command of the cycle is settled: to close the connection if no cycle is left, to begin the next cycle
-- if it is wanted, and else to read until it is due
abbrev pub action_done : Plan → Progress → Action
action_done plan p = if nat_eq p.left 0 then Close Done else if is_wanted plan p then Begin else Read Due

-- `action`, which sends a request, if there is room for one and the line isn't dead; otherwise the action of a station that waits
abbrev pub action_room : Plan → Progress → Waiting → Action → Action
action_room plan p w action = next_room the_choices (load_of plan p w) p.exchange action

-- the next action if nothing but a null procedure may be sent, which settles the outstanding requests once all have timed out
abbrev pub action_flush : Plan → Progress → Waiting → Action
action_flush plan p w = next_flush the_choices (load_of plan p w) p.exchange

-- the next action when the next command may be sent, of a cycle (`action` is `Send`) or of the setup (`Prepare`): to send it, or first a
-- null procedure
abbrev pub action_to_send : Plan → Progress → Waiting → Action → Action
action_to_send plan p w action = next_to_send the_choices (load_of plan p w) p.exchange action

-- whether a value that the next command takes of a file wasn't there at the moment read last
abbrev pub lacks_value : Progress → Bool
lacks_value p = lack p.next_needs p.moment.values

-- whether the next command of a chain may be sent: the one before it was answered well, since that was sent no connection was closed,
-- and the station didn't resynchronize; and the values that it takes of files are there
abbrev pub may_go : Progress → Waiting → Bool
may_go p w = (w.well && p.chain_unbroken) && not (lacks_value p)

-- whether the next command is sent, or recorded without being sent, only once all that were sent are settled: it is chained, or begins a
-- further attempt of its chain, or rests (then it counts as both), or a value that it takes of a file isn't there
abbrev pub waits_for_all : Progress → Bool
waits_for_all p = (p.next_is_chained || nat_lt 0 p.next_others) || lacks_value p

-- the next action if the next command begins a further attempt of its chain, and each command that was sent is settled: the
-- command is sent if a command of the attempt before ended as its rule names, and skipped then if a value that it takes of a file isn't
-- there; otherwise this attempt and those after it are left out, as they are in a missed cycle, in which each command counts as chained.
-- A command that rests counts as chained, too, and as an attempt of its own: so it alone is left out
abbrev pub action_again : Plan → Progress → Waiting → Action
action_again plan p w =
    if w.listed && not p.next_is_chained then (if lacks_value p then Skip else action_to_send plan p w Send) else Pass

-- the next action if each command that was sent is settled: that of a done cycle if no command is left; that of a further
-- attempt if the next command begins one; that of `action_to_send` if the next command may be sent; and else to skip it
abbrev pub action_settled : Plan → Progress → Waiting → Action
action_settled plan p w =
    if nat_eq p.unsent 0 then action_done plan p
    else if nat_lt 0 p.next_others then action_again plan p w
    else if may_go p w then action_to_send plan p w Send
    else Skip

-- the next action if no command may be sent before those that are outstanding are settled: none of the cycle is left, or the next
-- one waits for all (`waits_for_all`). If no command is outstanding, it is that of `action_settled`; otherwise that of
-- `action_flush`
abbrev pub action_held : Plan → Progress → Waiting → Action
action_held plan p w = if nat_eq w.commands 0 then action_settled plan p w else action_flush plan p w

-- the next action when the next command of the setup may be sent: that of `action_to_send`. There always is such a command,
-- since the setup is done once its last one was answered well; without one the action would be to read
abbrev pub action_to_prepare : Plan → Progress → Waiting → Action
action_to_prepare plan p w = if nat_lt p.prepared plan.setup then action_to_send plan p w Prepare else Read Limit

-- the next action while the setup isn't done, once something of it was sent: to close the connection if the run is done
-- (`is_finished`). Each command is sent once the one before it was answered well. If that wasn't, the connection is closed, and the
-- setup begins with its first command on the next one. If commands are outstanding, it is that of `action_flush`
abbrev pub action_in_setup : Plan → Progress → Waiting → Action
action_in_setup plan p w =
    if is_finished w.commands p then Close Done
    else if nat_eq w.commands 0 then (if w.well then action_to_prepare plan p w else Close SetUp)
    else action_flush plan p w

-- the next action while the setup isn't done: its first command may be sent at once, unless the run is done or the station idle
-- (`action_unless_idle`); a setup that was begun goes on (`action_in_setup`), also if the station is idle
abbrev pub action_preparing : Plan → Progress → Waiting → Action
action_preparing plan p w = if nat_eq p.prepared 0 then action_unless_idle plan p w (action_to_prepare plan p w) else action_in_setup plan p w

-- the next action once the station has synchronized and its setup is done: that of `action_to_send`, if there is a command that
-- needn't wait for those before it (`waits_for_all`); otherwise that of `action_held`
abbrev pub action_cycle : Plan → Progress → Waiting → Action
action_cycle plan p w = if nat_lt 0 p.unsent && not (waits_for_all p) then action_to_send plan p w Send else action_held plan p w

-- whether the setup is still to be done: there is one, and since the connection was made and the station synchronized no command of a
-- cycle was sent, and none began or went on once something of the setup was sent (`preparing`); unless all its commands were sent, no command is outstanding, and the one recorded last
-- was answered well
abbrev pub is_preparing : Plan → Progress → Waiting → Bool
is_preparing plan p w = p.preparing && not (nat_le plan.setup p.prepared && nat_eq w.commands 0 && w.well)

-- whether the cycle that began last is out of time: cycles have due moments, and two periods have passed since this one's (`began`), so
-- that the cycle after the next one is due
abbrev pub is_out_of_time : Plan → Progress → Bool
is_out_of_time plan p = nat_lt 0 plan.every && nat_le plan.every ((p.moment.elapsed - p.began) - plan.every)

-- whether the cycle is out of time, but something is in flight that hasn't timed out: then nothing more is sent, until that is
-- settled or has timed out. A setup of which something was sent goes on all the same
abbrev pub waits_out : Plan → Progress → Waiting → Bool
waits_out plan p w = (is_out_of_time plan p && nat_lt 0 w.current) && (not (is_preparing plan p w) || nat_eq p.prepared 0)

-- the next action once the station has synchronized: that of a station that waits, if it only waits for what is in flight
-- before the run ends (`is_held_back`), or before the cycle is abandoned (`waits_out`); that of the setup until it is done; and then
-- that of the cycle
abbrev pub action_begun : Plan → Progress → Waiting → Action
action_begun plan p w =
    if is_held_back p w then action_waiting plan p w
    else if waits_out plan p w then action_waiting plan p w
    else if is_preparing plan p w then action_preparing plan p w
    else action_cycle plan p w

-- the next action on a connection that is ready: the synchronization's until its eighth null procedure is answered, then the
-- commands'
abbrev pub action_ready : Plan → Progress → Waiting → Action
action_ready plan p w = if has_begun p then action_begun plan p w else action_beginning plan p w

-- the next action until a connection is quiet: to read, and to close it once all is done, as cycles may be abandoned meanwhile
abbrev pub action_draining : Progress → Waiting → Action
action_draining p w = if is_finished w.commands p then Close Done else Read Limit

-- the next action in this phase, if turns are left, the run doesn't end here, and the clock needn't be read first
abbrev pub action_of_phase : Plan → Phase → Progress → Waiting → Action
action_of_phase plan phase.Down p w = Open
action_of_phase plan phase.Pausing p w = Read Limit
action_of_phase plan phase.Clearing p w = Clear
action_of_phase plan phase.Draining p w = action_draining p w
action_of_phase plan phase.Ready p w = action_ready plan p w
action_of_phase plan (phase.Closing cause) p w = Close cause
action_of_phase plan (phase.Over cause) p w = Stop cause

-- the next action if all turns are used up: with a connection (`connected`) to close it, else to stop
abbrev pub action_without_turns : (connected : Bool) → Action
action_without_turns true = Close Turns
action_without_turns false = Stop Turns

-- whether a cycle may be abandoned in this phase, with a connection or without one: the run isn't over, the connection isn't to be
-- closed, and none was just made, on which the line feed comes first
abbrev pub may_abandon : Phase → Bool
may_abandon phase.Down = true
may_abandon phase.Pausing = true
may_abandon phase.Clearing = false
may_abandon phase.Draining = true
may_abandon phase.Ready = true
may_abandon (phase.Closing cause) = false
may_abandon (phase.Over cause) = false

-- whether the setup doesn't keep a cycle from being abandoned: it is done, or nothing of it was sent since the connection was made and
-- the station synchronized, or commands are outstanding, with which it begins anew
abbrev pub setup_permits : Plan → Progress → Waiting → Bool
setup_permits plan p w = not (is_preparing plan p w) || (nat_eq p.prepared 0 || nat_lt 0 w.commands)

-- whether no time is left for the cycle: it is missed, and some of its commands are left; or it is out of time
-- (`is_out_of_time`), and the end of the run wasn't asked for
abbrev pub has_no_time_left : Plan → Progress → Bool
has_no_time_left plan p = (p.missed && nat_lt 0 p.unsent) || (is_out_of_time plan p && not p.stops)

-- whether the cycle that began last is overdue, so that it is abandoned: no time is left for it (`has_no_time_left`),
-- nothing is in flight that hasn't timed out, the phase and the setup let the cycle be abandoned (`may_abandon`, `setup_permits`), and
-- the run isn't done (`is_finished`). While the station synchronizes no command is outstanding, so the test for that never fails
abbrev pub is_overdue : Plan → Progress → Waiting → Bool
is_overdue plan p w =
    has_no_time_left plan p
    && ((nat_eq w.current 0 && may_abandon p.phase) && (setup_permits plan p w && ((has_begun p || nat_eq w.commands 0) && not (is_finished w.commands p))))

-- the next action if the cycle is overdue, with or without a connection. Each such action only reads the clock. Commands that are
-- outstanding are lost, as the station resynchronizes; then the cycle's other commands are recorded without being sent, and further
-- attempts are left out; then the next cycle begins, which is missed
abbrev pub action_overdue : Progress → Waiting → Action
action_overdue p w =
    if nat_lt 0 w.commands then Renew
    else if nat_eq p.unsent 0 then Begin
    else if nat_lt 0 p.next_others then Pass
    else Skip

-- the next action if the run isn't over and the connection isn't to be closed for a cause already
abbrev pub action_on : Plan → Progress → Waiting → Action
action_on plan p w =
    if nat_eq p.turns 0 then action_without_turns (is_up p.phase)
    else if is_stale plan p w then Close Stale
    else if is_stopping p w then Close Stopped
    else if p.clock_due then ReadClock
    else if is_overdue plan p w then action_overdue p w
    else action_of_phase plan p.phase p w

-- the next action in this phase: `Stop` if the run is over, `Close` if the connection is to be closed, and else that of
-- `action_on`
abbrev pub action_in : Phase → Plan → Progress → Waiting → Action
action_in (phase.Over cause) plan p w = Stop cause
action_in (phase.Closing cause) plan p w = Close cause
action_in _ plan p w = action_on plan p w

-- the next action of a station with the progress `p`, where `w` says what is outstanding and how the last commands ended
abbrev pub action_of : Plan → Progress → Waiting → Action
action_of plan p w = action_in p.phase plan p w
