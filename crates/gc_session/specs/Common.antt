-- The names that this crate's definitions cite of others, passed on from one place. Declares nothing.
pub use Rattle.gc_texts.specs.Prelude.{is_impossible, is_sign_on}
pub use Rattle.gc_catalogue.specs.Prelude.{asked_line, is_of_table, request_line}
pub use Rattle.gc_catalogue.specs.declared.asked.Asked.{Asked}
pub use Rattle.gc_catalogue.specs.declared.asked.Asked.TheVariants.{Table}
pub use Rattle.gc_catalogue.specs.declared.call.Call.TheVariants.{NullProc}
pub use Rattle.gc_client.specs.Prelude.{Answered, ById, Course, Hear, IsEarliest, Lost, Restart, Send, Sending, Settled, Settlement, Step, Wanted, begun, course, course_after, course_at, deadlines, expires, fresh, heard, hears_line, is_answered, left_by, of_pending, of_settled, restarts, sends, the_word}
pub use Rattle.gc_client.specs.declared.window.TheConstants.{WINDOW}
