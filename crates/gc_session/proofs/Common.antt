-- The names that this crate's proofs cite, passed on from one place. Declares nothing.
pub use Rattle.std.proofs.Common.{Bool, List, None, Option, Some, [], ap, append-nil, append_assoc, arith, false, filter, if◌then◌else◌, length, map, max, min, nat_eq, nat_le, nat_lt, not, refl, subst, suc, sym, true, zero, ℕ, ◌&&◌, ◌++◌, ◌+◌, ◌-◌, ◌<◌, ◌||◌, ◌↔◌, ◌∙◌, ◌∷◌, ◌≡◌, ◌≢◌, ◌≤◌}
pub use Rattle.std.proofs.lemmas.Bool.{and_parts, cond_both, eqb-true, ltb-false, ltb-true, not-true, or_parts}
pub use Rattle.std.proofs.lemmas.Bool.Decides.{nat_tests}
pub use Rattle.std.specs.List.{AllByRecursion}
pub use Rattle.gc_lines.proofs.Lists.{all_append, get_more}
pub use Rattle.gc_texts.specs.Prelude.{is_sign_on}
pub use Rattle.gc_catalogue.specs.Prelude.{is_of_table}
pub use Rattle.gc_catalogue.specs.declared.asked.Asked.{Asked}
pub use Rattle.gc_client.proofs.OneForOne.{accounts_for_sends, length-settle}
pub use Rattle.gc_client.specs.Prelude.{AccountsForSends, Answered, ById, Course, Expire, Hear, Late, Lost, Restart, Send, Sending, Settlement, Step, Wanted, begun, course, course_after, course_at, expired, expires, fresh, heard, hears, hears_line, left_by, of_pending, of_settled, restarts, send_unless_full, sends, sent_on, settle, settled_by_line, settles_at, the_word}
pub use Rattle.gc_client.specs.declared.pending.Pending.{Pending}
pub use Rattle.gc_client.specs.declared.window.TheConstants.{WINDOW}
pub use Rattle.gc_session.specs.Calls.{Asks, AsksTheTable, Call, Closes, Comes, Hears, Opens, Restarts, Steps, after, after_all, anew_events, ask_events, events_all, events_of, line_events, moment_events, next_events, settled_all, settles}
pub use Rattle.gc_session.specs.Choices.{is_line_dead, next_flush, next_room, next_synchronizing, next_to_send, next_waiting}
pub use Rattle.gc_session.specs.Courses.{client_after, client_stepped}
pub use Rattle.gc_session.specs.Events.{AreInTurn, Came, ClientEvent, Null, Stepped, left_among, left_by_step, steps_among, steps_since}
pub use Rattle.gc_session.specs.Exchange.{drained, ended_last, has_begun, has_room, hold_left, is_near, is_none_left, is_past, later, may_ask, moment_passed, moment_read, one_more_in_window}
pub use Rattle.gc_session.specs.Laws.{AccountsForAsks, ComingTwiceIsComingOnce, ConnectionsAreDrained, GoesForward, IsNearTheTable, IsNullIfOwn, IsRepliedTableCall, NothingIsSentInDoubt, OwnRequestsAreNullProcedures, RequestsAreHeldBack, RequestsAreSentNearTheTable, SessionsAreTheirClients, StretchesAreUnbroken, WaitsEndAtTheirMoments, came_at, is_of_caller, last_came, last_ended, last_ended_at, moment_after, moment_of, settled_and_outstanding, taken_all, taken_by, taken_if}
pub use Rattle.gc_session.specs.Lines.{calls_for_renewal, ends_with_table, is_some_of_table}
pub use Rattle.gc_session.specs.Sessions.{Session, all_of, anew_settles, asked_if, at_step, attended, begun_anew, client_sent, connected, current_of, done, is_up, line_came_in, line_heard, line_heard_if, line_synchronized, load_of, may_send, met_in, next_in, next_of, next_ready, opening, phase_anew, quieted, quieted_in, settled_by, settled_in, sign_on_noted, stepped, takes, the_choices, timed, unconnected, wanted_of, with_standing}
pub use Rattle.gc_session.specs.declared.exchange.Exchange.{Exchange}
pub use Rattle.gc_session.specs.declared.next.Next.{Next}
pub use Rattle.gc_session.specs.declared.session.TheConstants.{OWN}
pub use Rattle.gc_session.specs.declared.settings.Settings.{Settings}
pub use Rattle.gc_session.specs.declared.settings.Want.{Want}
pub use Rattle.gc_session.specs.declared.settings.Want.TheVariants.{Answers, Nothing}
pub use Rattle.gc_session.specs.declared.standing.Phase.{Phase}
pub use Rattle.gc_session.specs.declared.standing.Standing.{Standing}
