-- The names that crates above cite, passed on from one place. Declares nothing.
pub use Rattle.gc_client.specs.Beginning.{IsSubsequence, asks, is_answered, left_by, left_when, the_word, unanswered_after}
pub use Rattle.gc_client.specs.Hearing.{HearsInto}
pub use Rattle.gc_client.specs.Ids.{IsWithinLimits, Waits, id_at_place, id_of}
pub use Rattle.gc_client.specs.OneForOne.{AccountsForSends, Course, Expire, Hear, Restart, Send, Step, Wanted, begun, course, course_after, course_at, of_pending, of_settled, sent_on, settled_on}
pub use Rattle.gc_client.specs.Rule.{Answered, ById, IsEarliest, IsWidth, Late, Lost, Outcome, Sending, Settled, Settlement, Windowed, deadlines, expired, expires, expiring, fits, fresh, heard, hears, hears_line, id_in, lost, nothing_settled, pending_of, place, place_in, restarts, send_unless_full, sends, settle, settled_by_line, settles_at}
pub use Rattle.gc_client.specs.Settlements.{AreSettlements, IsReadBy, ReadsAs, ReadsBy, outcome_seen, settlement_seen}
