-- The names that crates above cite, passed on from one place. Declares nothing.
pub use Rattle.gc_session.specs.Calls.{Asks, AsksTheTable, Call, Closes, Comes, Hears, Opens, Restarts, Steps, after, after_all, events_all, events_of, settled_all, settles}
pub use Rattle.gc_session.specs.Choices.{is_line_dead, next_flush, next_room, next_synchronizing, next_to_send, next_waiting, width_within}
pub use Rattle.gc_session.specs.Courses.{client_after, client_stepped}
pub use Rattle.gc_session.specs.Events.{AreInTurn, Came, ClientEvent, Null, Stepped, left_among, steps_among, steps_since}
pub use Rattle.gc_session.specs.Exchange.{asks_at, ended_last, has_begun, has_room, hold_left, is_none_left, may_ask, one_more_in_window, past_at, pause_within}
pub use Rattle.gc_session.specs.Laws.{IsNearTheTable, RequestsAreHeldBack, RequestsAreSentNearTheTable, SessionsAreTheirClients, last_ended, last_ended_at, taken_all, taken_by, taken_if}
pub use Rattle.gc_session.specs.Lines.{calls_for_renewal, ends_with_table, is_reply, is_some_of_table, raises_doubt}
pub use Rattle.gc_session.specs.Sessions.{IsActFor, Session, act_for, all_of, anew, anew_settles, asked, asked_if, at_step, attended, begun_anew, came, client_sent, closed, current_of, done, flushed, is_ready, is_up, line_came, line_came_in, line_heard, line_heard_if, line_of, line_settles, line_synchronized, may_send, met_in, next_of, null_asked, opened, opening, phase_cleared, quieted_in, renewed, settled_by, settled_in, sign_on_noted, stepped, takes, timed, with_standing}
