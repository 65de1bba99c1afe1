-- A turn of the loop that plays events.
use Rattle.gc_world.proofs.Common.{◌≡◌, ℕ, ◌+◌, ◌≤◌, List, length, take, sym, subst, arith, length-take, take_all, Kept, StandsFor, Call, ById, Windowed, State, restarted, Up, Down, Event, Report, IsReport, StandsForGone, by_ids, ids_open, streams_by_ids, streamed_between, left_between, ends, streamed, left_by_ids, StageParts, AreOfWorld, AreStreamsOf, Streams, untouched, gone_of, up_lines, down_lines, World, Ends}
use Rattle.gc_world.proofs.Counts.{IsWithin, within_all}

-- none of the lists and counts of a run by ids that `IsWithin` speaks of is above the count of its events
pub run_within : {S : Type 0} (any_ends : Ends S) (width : ℕ) (state : S) (events : List Event)
    → IsWithin (length events) (streams_by_ids width any_ends events state).world.wire
run_within any_ends width state events =
    let e : 0 + length events ≡ length events = omega arith in
    subst (λ n. IsWithin n (streams_by_ids width any_ends events state).world.wire) e
    (within_all any_ends (by_ids width any_ends) events (untouched (ids_open state)) 0 (record
    { sent = omega arith; executed = omega arith; made = omega arith; starts = omega arith; refused = omega arith; idle = omega arith }))

-- none of the lists and counts of a run on the simulated instrument that `IsWithin` speaks of is above the count of its events
pub played_within : (width : ℕ) (opening : State) (events : List Event) → IsWithin (length events) (left_by_ids width opening events)
played_within width opening events = run_within ends width (restarted opening) events

-- where a report, two queues and a client are those of a world (`AreOfWorld`), they still are with other assemblers in the report
with_assemblers : {S : Type 0} (width : ℕ) (r : Report S) (up down : List ℕ) (c : Windowed Call) (w : World (ById Call) S) (a b : Kept) → AreOfWorld width r up down c w
    → AreOfWorld width (record r { up = a; down = b }) up down c w
with_assemblers width r up down c w a b h =
    let g = h.reports in
    record {
      reports = record { sent = g.sent; executed = g.executed; made = g.made; settled = g.settled; starts = g.starts; instrument = g.instrument; refused = g.refused; idle = g.idle };
      up_is = h.up_is;
      down_is = h.down_is;
      client_is = h.client_is;
      next = h.next;
      requests = h.requests;
      calls = h.calls;
    }

-- at the end of the loop, where i is at least the count of the events, a stage that shows the streams after the first i of them
-- shows those after all
pub all_shown : {S : Type 0} (any_ends : Ends S) (width : ℕ) (opening : S) (events : List Event) (s : StageParts S) (i : ℕ) → length events ≤ i
    → AreStreamsOf width s (streamed_between any_ends width opening (take i events)) → AreStreamsOf width s (streamed_between any_ends width opening events)
all_shown any_ends width opening events s i all shows =
    subst (λ es. AreStreamsOf width s (streamed_between any_ends width opening es)) (take_all i events all) shows

-- where s shows streams, and r is the report of s with the assemblers of its two sides, r with the queues and the client of s is
-- that of their world (`AreOfWorld`)
pub report_at_end : {S : Type 0} (width : ℕ) (v : Streams (ById Call) S) (s : StageParts S) (r : Report S) → AreStreamsOf width s v
    → r ≡ record s.report { up = s.up.assembler; down = s.down.assembler } → AreOfWorld width r s.up.queue s.down.queue s.client v.world
report_at_end {S} width v s r shows is =
    subst (λ (x : Report S). AreOfWorld width x s.up.queue s.down.queue s.client v.world) (sym is)
    (with_assemblers width s.report s.up.queue s.down.queue s.client v.world s.up.assembler s.down.assembler shows.lines)

-- where s shows the streams after all events, and r is the report of s with the assemblers of its two sides, the assemblers in r
-- stand for the bytes of the front lines that have gone over
pub stand_at_end : (width : ℕ) (opening : State) (events : List Event) (s : StageParts State) (r : Report State) → AreStreamsOf width s (streamed width opening events)
    → r ≡ record s.report { up = s.up.assembler; down = s.down.assembler }
    → StandsForGone Up width opening events r.up × StandsForGone Down width opening events r.down
stand_at_end width opening events s r shows is =
    let v = streamed width opening events in
    let up = subst (λ n. StandsFor s.up.assembler (gone_of n (up_lines v.world.wire))) shows.up_is shows.up_flow.stands in
    let down = subst (λ n. StandsFor s.down.assembler (gone_of n (down_lines v.world.wire))) shows.down_is shows.down_flow.stands in
    (subst (λ (x : Report State). StandsForGone Up width opening events x.up) (sym is) up, subst (λ (x : Report State). StandsForGone Down width opening events x.down) (sym is) down)

-- a report of the first i events has counted at most i refused sends and at most i idle events
pub counts_at : {S : Type 0} (any_ends : Ends S) (width : ℕ) (opening : S) (events : List Event) (i : ℕ) (report : Report S)
    → IsReport report (left_between any_ends width opening (take i events))
    → i ≤ length events → (report.refused_sends ≤ i) × (report.idle_events ≤ i)
counts_at any_ends width opening events i report h le =
    let w = run_within any_ends width (any_ends.restarted opening) (take i events) in
    let n = length-take i events in
    (omega (arith, h.refused, w.refused, n, le), omega (arith, h.idle, w.idle, n, le))
