-- What every run keeps, after each of its acts, whatever the link does.
use Rattle.gc_station.proofs.Common.{◌≡◌, ◌<◌, ◌≤◌, Bool, true, false, List, [], length, map, AllByRecursion, WINDOW, IDS, of_pending, fresh, Task, Plan, Cause, Phase, Down, Pausing, Clearing, Draining, Ready, Closing, Over, has_begun, commands_in, is_over, IsEachOnce, Model, cycle_length, MarksAsk, IsFinished, IsOfItsTask}
use Rattle.gc_station.specs.declared.cause.Cause.TheVariants as cause

-- whether a phase is one of the four before requests are sent, `Down` to `Draining`; in these no byte of a line is kept
-- (`Invariant.rest`). `Over`, which is without a connection too, isn't one of them
abbrev pub is_before_requests : Phase → Bool
is_before_requests Down = true
is_before_requests Pausing = true
is_before_requests Clearing = true
is_before_requests Draining = true
is_before_requests Ready = false
is_before_requests (Closing why) = false
is_before_requests (Over why) = false

-- whether a cause is that all is done
abbrev pub is_done : Cause → Bool
is_done cause.Done = true
is_done _ = false

-- whether a phase says that the run is done
abbrev pub says_done : Phase → Bool
says_done (Closing why) = is_done why
says_done (Over why) = is_done why
says_done _ = false

-- the model has as many marks as outstanding requests, one for each
abbrev pub Paired : Model → Type 0
Paired s = length s.marks ≡ length s.client.waiting

-- what every run keeps: the counts lie within the plan and the commands, and no command is unsent before the first cycle; each
-- outstanding request has a mark, at most seven are outstanding, and the next id is below 8; no bytes of a line are kept
-- before requests are sent (`is_before_requests`); if the run is over nothing is outstanding, and if it is done nothing is left;
-- and each command had its turn once, in order
pub record Invariant (plan : Plan) (commands : List Task) (s : Model) : Type 0 where
  pub unsent : s.progress.unsent ≤ cycle_length plan commands
  pub left : s.progress.left ≤ plan.cycles
  pub begun : 0 < s.progress.unsent → s.progress.left < plan.cycles
  pub paired : Paired s
  pub window : length s.client.waiting ≤ WINDOW
  pub digit : s.client.next < IDS
  -- while it synchronizes nothing is outstanding, and the client is new
  pub begins : has_begun s.progress ≡ false → s.client ≡ fresh
  pub rest : is_before_requests s.progress.phase ≡ true → s.rest ≡ []
  pub over : is_over s.progress ≡ true → s.client.waiting ≡ []
  pub finished : says_done s.progress.phase ≡ true → IsFinished (commands_in s.marks) s.progress
  pub each : IsEachOnce plan commands s
  -- each outstanding request asks what its mark says, and each record is of its task
  pub own : MarksAsk commands s.marks (map of_pending s.client.waiting)
  pub tasked : AllByRecursion (IsOfItsTask commands) s.records
