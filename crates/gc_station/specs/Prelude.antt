-- The names that crates above cite, passed on from one place. Declares nothing.
pub use Rattle.gc_station.specs.ActKinds.{ReadsClock}
pub use Rattle.gc_station.specs.Agreeing.{AgreesWithFirst}
pub use Rattle.gc_station.specs.Answers.{AnswerIsJustified}
pub use Rattle.gc_station.specs.Beginnings.{SynchronizesAnew, unanswered_after}
pub use Rattle.gc_station.specs.Begun.{AreBegun, heard_in}
pub use Rattle.gc_station.specs.Deciding.{has_begun}
pub use Rattle.gc_station.specs.EachOnce.{EachOnce}
pub use Rattle.gc_station.specs.FirstActs.{with_turns}
pub use Rattle.gc_station.specs.HoldingBack.{IsHeldBack}
pub use Rattle.gc_station.specs.Keeping.{AreKept, IsKept, KeepsUp, KeepsUpBy, Snapshot, close_at_output}
pub use Rattle.gc_station.specs.Links.{AreChained, ChainsStay, IsAnsweredEarlier, IsBefore, IsSentAfter, MarksGoOn, MarksGoOnIn, RecordsStay, WasAnsweredWell, parts}
pub use Rattle.gc_station.specs.Marks.{commands_in, occasion_of, record_of, records_of}
pub use Rattle.gc_station.specs.Model.{Model, Performs, Runs, action_at, after, after_all, is_heard, lines_completed, losing, moved, null_text, opening, waiting_of, with_progress}
pub use Rattle.gc_station.specs.Moments.{CameAt, HasItsMoment, IsAsRead}
pub use Rattle.gc_station.specs.NextCommand.{expected_first, no_turn}
pub use Rattle.gc_station.specs.Parts.{Asks, Hears, MarkAsks, MarksAsk, Part, SyncStep, client_part, ends_part, heard_steps, idle_part, in_front, mark_of, occasion_in, part_of_act, parts_joined, parts_of, put_part, sent_at, sent_of, sync_part, timeless, went_out}
pub use Rattle.gc_station.specs.Progressing.{is_over, loses_all, turned}
pub use Rattle.gc_station.specs.Qualities.{IsAsListed, IsOfQuality, IsRefusedReading, accepted_at, answer_in, form_at, quality_as, twice_at}
pub use Rattle.gc_station.specs.RecordedInTime.{raw_count, raws_of_setup}
pub use Rattle.gc_station.specs.Records.{Grew, Record, WritesPart, texts_of}
pub use Rattle.gc_station.specs.Requested.{HasItsRequest, IsOfItsRequest, request_of}
pub use Rattle.gc_station.specs.Requests.{asked_at, command_sent}
pub use Rattle.gc_station.specs.Runs.{FailsAtOutput, LastUnlessFailed, Ran, RanBy, RanTo, RunSeen, state_after}
pub use Rattle.gc_station.specs.Saying.{IsSaid}
pub use Rattle.gc_station.specs.Scopes.{AreReadings, ForEachAndSomeReadings, ForEachReadings, Reads, Scope, scoped}
pub use Rattle.gc_station.specs.Tallies.{tally_of}
pub use Rattle.gc_station.specs.Tasked.{IsOfItsTask}
pub use Rattle.gc_station.specs.Watching.{watched_of}
