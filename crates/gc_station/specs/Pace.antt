-- How long a read waits, what health of the link is reported, and which overrun: this project's own. Moments are by the clock for deadlines, in
-- milliseconds.
use Rattle.gc_station.specs.Common.{asks_at, past_at}
use Rattle.std.specs.Prelude.{ℕ, ◌-◌, ◌&&◌, Bool, not, if◌then◌else◌, nat_eq, nat_lt, min, max, Option, Some, None}
use Rattle.gc_station.specs.declared.book.LinkHealth.{LinkHealth}
use Rattle.gc_station.specs.declared.book.LinkHealth.TheVariants.{Fine, Idle, Unconnected, Unquiet, Unheard}
use Rattle.gc_station.specs.declared.plan.Plan.{Plan}
use Rattle.gc_station.specs.declared.progress.Phase.{Phase}
use Rattle.gc_station.specs.declared.progress.Progress.{Progress}
use Rattle.gc_station.specs.declared.progress.Until.{Until}
use Rattle.gc_station.specs.declared.progress.Until.TheVariants.{Limit, Due}
use Rattle.gc_station.specs.Deciding.{later, has_begun, is_due, is_out_of_time}
use Rattle.gc_station.specs.NextCommand.{cycles_begun}
use Rattle.gc_station.specs.Progressing.{is_idle, due_at}
use Rattle.gc_station.specs.declared.progress.Phase.TheVariants as phase

-- the moment of the next attempt to connect: the end of the pause, or, if no connection is wanted before the next cycle is due,
-- that due moment if it is later
abbrev pub retry_at : Plan → Progress → ℕ
retry_at plan p = let retry = past_at p.exchange.pause p.exchange in if is_idle plan p then max retry (due_at p) else retry

-- the moment from which on the run is stale, if no answer of a good quality is recorded until then; the greatest `u64` if it
-- never is. `fresh` is when such an answer was recorded last; 0 if none was; an earlier moment if the clock went back past it
-- since
abbrev pub stale_at : Plan → (fresh : ℕ) → ℕ
stale_at plan fresh = if nat_lt 0 plan.stale then later fresh plan.stale else 18446744073709551615

-- how many milliseconds a read waits at most: a second if somebody may ask for the end of the run or for a cycle, otherwise a minute
abbrev pub longest_timeout : Plan → ℕ
longest_timeout plan = if plan.watched then 1000 else 60000

-- the moment at which a read in this phase ends if nothing comes, leaving out the deadlines of the outstanding requests: at the
-- next attempt to connect (`retry_at`), at the end of a drain, or, while the station synchronizes, at the deadline of its null
-- procedure, or the end of the wait after a busy answer if that is later; otherwise the greatest `u64`, since only the deadlines of requests matter
abbrev pub read_end_in : Phase → Plan → Progress → ℕ
read_end_in phase.Pausing plan p = retry_at plan p
read_end_in phase.Draining plan p = past_at plan.quiet p.exchange
read_end_in _ plan p = if has_begun p then 18446744073709551615 else asks_at p.exchange

-- as `read_end_in` in the phase of `p`, except that a read that only waits for the next cycle ends when that cycle is due
abbrev pub read_end_without_deadline : Plan → Progress → Until → ℕ
read_end_without_deadline plan p Due = due_at p
read_end_without_deadline plan p Limit = read_end_in p.phase plan p

-- the moment at which a read ends if nothing comes: `read_end_without_deadline`, or the next deadline of a request if that is
-- earlier
abbrev pub read_end : Plan → Progress → Until → (deadline : Option ℕ) → ℕ
read_end plan p until (Some deadline) = min deadline (read_end_without_deadline plan p until)
read_end plan p until None = read_end_without_deadline plan p until

-- the moment at which the cycle that began last is out of time, if cycles have due moments and it isn't yet; else the greatest `u64`
abbrev pub out_of_time_at : Plan → Progress → ℕ
out_of_time_at plan p = if nat_lt 0 plan.every && not (is_out_of_time plan p) then later (later p.began plan.every) plan.every else 18446744073709551615

-- how many milliseconds a read waits: until `read_end`, or until the run is stale or the cycle out of time if that is earlier, but at
-- least one and at most `longest_timeout`. `fresh` is as in `stale_at`, and `deadline` is the next deadline of a request, if any
abbrev pub read_timeout : Plan → Progress → (fresh : ℕ) → Until → (deadline : Option ℕ) → ℕ
read_timeout plan p fresh until deadline =
    min (max (min (min (read_end plan p until deadline) (stale_at plan fresh)) (out_of_time_at plan p) - p.moment.elapsed) 1) (longest_timeout plan)

-- whether no command of the cycle is left, as before the first cycle, and none is outstanding: `waiting` is how many commands
-- are outstanding, of a cycle or of the setup
abbrev pub is_cycle_done : Progress → (waiting : ℕ) → Bool
is_cycle_done p waiting = nat_eq p.unsent 0 && nat_eq waiting 0

-- the health of the link in this phase, as it is reported before an act; `waiting` is as in `is_cycle_done`
abbrev pub health_in : Phase → Plan → Progress → (waiting : ℕ) → LinkHealth
health_in phase.Down plan p waiting = if is_idle plan p then Idle else Unconnected
health_in phase.Pausing plan p waiting = if is_idle plan p then Idle else Unconnected
health_in phase.Clearing plan p waiting = Unquiet
health_in phase.Draining plan p waiting = Unquiet
health_in phase.Ready plan p waiting = if p.exchange.asked then Unheard else if has_begun p && is_cycle_done p waiting then Idle else Fine
health_in _ plan p waiting = if p.exchange.asked then Unheard else Fine

-- whether the cycle that began last has overrun: it isn't missed, and wasn't done when the next one, which hasn't begun, was due.
-- False if no cycle is left, or cycles have no due moments (`every` is 0). Before the first cycle, where it may be true,
-- `overrun` reports none
abbrev pub has_overrun : Plan → Progress → Bool
has_overrun plan p = not p.early && not p.missed && is_due plan p && nat_lt 0 p.left && nat_lt 0 plan.every

-- the cycle that is to be reported as overrun: the one that began last, if it has overrun and is after `reported`, the last one
-- that was reported
abbrev pub overrun : Plan → Progress → (reported : ℕ) → Option ℕ
overrun plan p reported = if has_overrun plan p && nat_lt reported (cycles_begun plan p) then Some (cycles_begun plan p) else None
