-- Which command of the text a record is of, and what its request asked: this project's own. A command that sets the clock asks
-- for the moment at which its request is sent, and one that takes values of files for these. An act is one call on the link, with its result.
use Rattle.gc_station.specs.Common.{Task}
use Rattle.std.specs.Prelude.{◌≡◌, ℕ, List, Some, is_some, slice_get}
use Rattle.gc_station.specs.Parts.{went_out}
use Rattle.gc_station.specs.Records.{Record}
use Rattle.gc_station.specs.Requests.{command_sent}
use Rattle.gc_station.specs.Runs.{OfAnyRecord}

-- the record `r` is of `task`, the one at its place in the list `commands`. It has a moment of sending exactly if its request
-- was sent, and its command is what the task asks at that moment: if the task sets the clock, that moment cut to seconds; if it takes values
-- of files, what the text says with these `values`; and otherwise what the text says. The command of a request that was never sent is as in
-- the text
pub record IsOfItsTask (commands : List Task) (r : Record) : Type 0 where
  pub task : Task
  pub listed : slice_get commands r.place ≡ Some task
  pub sent : is_some r.sent ≡ went_out r.end
  pub values : List (List ℕ)
  pub command : r.command ≡ command_sent values r.sent task

-- after any acts `IsOfItsTask` holds of each record
abbrev pub EachRecordIsOfItsTask : Type 0
EachRecordIsOfItsTask = OfAnyRecord (λ commands scope r. IsOfItsTask commands r)
