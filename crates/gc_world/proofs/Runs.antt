-- What every run by ids has at its end.
use Rattle.gc_world.proofs.Common.{◌≡◌, ℕ, ◌≤◌, List, Option, Some, true, sym, subst, AllByRecursion, every_weaker as all_on, KeptReply, IsRecent, numbers, slice_get, Call, Settlement, Ends, Step, Wire, World, call_line, ByNumber, run_by_ids, run_by_numbers, IsExchange, IsKeeper, IsOneForOne, IsBooked, HasExecutions}
use Rattle.gc_world.proofs.Agree.{same_wire}
use Rattle.gc_world.proofs.Booked.{Has, AllMade, backed_at}
use Rattle.gc_world.proofs.Once.{Once, once_at, recent}
use Rattle.gc_world.proofs.Settled.{one_for_one, whole_at}
use Rattle.gc_world.proofs.Execution.{IsAnswerAt, each_has, execution, answers_at, booked}

module _ {State : Type 0} (width : ℕ) (ends : Ends State) (es : List Step) where
  -- `IsOneForOne` holds of the requests and settlements of every run by ids; no law of the ends is needed
  pub one_for_one_at : (state : State) → IsOneForOne (run_by_ids width ends es state).wire.sent (run_by_ids width ends es state).wire.settled
  one_for_one_at state =
      let w = run_by_ids width ends es state in
      one_for_one w.wire.settled w.client.waiting w.wire.sent (whole_at width ends call_line es state)

module _ {State : Type 0} (width : ℕ) (narrow : width ≤ 7) (ends : Ends State) (Good : State → Type 0) (ex : IsExchange ends Good)
    (kept : State → Option KeptReply) (keeper : IsKeeper ends Good kept) (joint : ends.joint ≡ true) (es : List Step) (opening : State)
    (good : Good (ends.restarted opening)) where
  -- the world that the run by numbers leaves
  abbrev by_number : World (ByNumber Call) State
  by_number = run_by_numbers width ends es (ends.restarted opening)

  -- the wire that the run by ids leaves
  abbrev wire : Wire State
  wire = (run_by_ids width ends es (ends.restarted opening)).wire

  -- the run by numbers leaves a world in which each request was executed at most once
  once : Once width narrow ends Good ex kept keeper opening by_number
  once = once_at width narrow ends Good ex kept keeper opening joint good es

  -- both runs leave the same wire
  same : wire ≡ by_number.wire
  same = same_wire width narrow ends Good ex es (ends.restarted opening) good

  -- the executions of the run by ids are as `HasExecutions` has them, from the restarted opening state on
  pub execution_at : HasExecutions ends opening wire
  execution_at =
      let t = once.once.replayed in
      subst (HasExecutions ends opening) (sym same) (execution ends opening by_number.wire t.replies t.replays t.each t.among once.once.climbs)

  -- while a reply is kept, each request in flight upward has the number executed last or one of the `width` above it
  pub recent_at : IsRecent width (kept wire.state) wire.executed (numbers wire.up)
  recent_at =
      subst (λ (w : Wire State). IsRecent width (kept w.state) w.executed (numbers w.up)) (sym same) (recent width narrow ends Good ex kept keeper opening by_number once)

  -- each answer of the run by ids was made for its request
  all_made : AllMade wire.made 0 wire.settled
  all_made = subst (λ (w : Wire State). AllMade w.made 0 w.settled) (sym same) (backed_at width ends Good call_line ex es (ends.restarted opening) good).backed.booked

  -- each reply of the run by ids is one to the call of its request
  answered : AllByRecursion (IsAnswerAt ends Good wire.sent) wire.made
  answered =
      let t = once.once.replayed in
      let w = by_number.wire in
      subst (λ (w : Wire State). AllByRecursion (IsAnswerAt ends Good w.sent) w.made) (sym same)
      (all_on (λ m. Has m t.replies) (IsAnswerAt ends Good w.sent)
      w.made (λ m has. each_has (IsAnswerAt ends Good w.sent) t.replies m
      (answers_at ends Good ex w.sent w.starts 0 (ends.restarted opening) w.executed t.replies w.state good t.replays) has) t.among)

  -- an answer that the run by ids booked for request m was made for it, and replies to its call
  pub booked_at : (m : ℕ) (s : Settlement Call) → slice_get wire.settled m ≡ Some s → IsBooked ends Good wire.made m s
  booked_at m s e = booked ends Good wire.sent wire.made wire.settled (one_for_one_at width ends es (ends.restarted opening)) all_made answered m s e
