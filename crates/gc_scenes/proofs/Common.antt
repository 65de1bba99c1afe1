-- The names that this crate's proofs cite, passed on from one place. Declares nothing.
pub use borrow.Author.Tests.{le-leb, leb-false, leb-true}
pub use Rattle.std.proofs.Common.{Bool, Err, List, None, Ok, Option, Result, Some, [], ap, append-nil, append_assoc, arith, cond, drop, eqb, false, is_some, length, lit<, lit≤, nat_le, not, pos, refl, rules, slice_index, subst, suc, sym, tests, true, unsigned_abs, ℕ, ℤ, ◌&&◌, ◌*ℤ◌, ◌*◌, ◌++◌, ◌+ℤ◌, ◌+◌, ◌<◌, ◌^◌, ◌∙◌, ◌∷◌, ◌≡◌, ◌≤◌}
pub use Rattle.std.proofs.lemmas.Bool.{cond_both, false≢true, true≢false}
pub use Rattle.std.proofs.lemmas.Iterator.{YieldsList-from_slice}
pub use Rattle.std.proofs.lemmas.Iterator.Search.{find_from_yields_List}
pub use Rattle.std.specs.Prelude.{IfSome, find, fold, option_map, unwrap_or}
pub use Rattle.gc_lines.proofs.AnsweringLines.{faulty_is_no_request, replies_once}
pub use Rattle.gc_lines.specs.Prelude.{AnswersLines, AppendsAnswer, AppendsText, GivesEach, HasOneReply, IsPlain, IsPlainByte, IsReply, IsRequest, MayBeId, RepliesTo, ReplyFields, RequestFields, reply_text, request_seen}
pub use Rattle.gc_values.specs.declared.decimal.Decimal.{Decimal}
pub use Rattle.gc_values.specs.declared.fault.ValueFault.{ValueFault}
pub use Rattle.gc_catalogue.specs.Prelude.{IsCall, IsRefusal, later, reply_line}
pub use Rattle.gc_catalogue.specs.declared.answer.Answer.{Answer}
pub use Rattle.gc_catalogue.specs.declared.answer.Answer.TheVariants.{Nothing}
pub use Rattle.gc_catalogue.specs.declared.call.Call.{Call}
pub use Rattle.gc_catalogue.specs.declared.call.DateTime.{DateTime}
pub use Rattle.gc_catalogue.specs.declared.fault.CallFault.{CallFault}
pub use Rattle.gc_catalogue.specs.declared.fault.CallFault.TheVariants.{Parameters, Unknown}
pub use Rattle.gc_instrument.proofs.Executions.{exec_outcome}
pub use Rattle.gc_instrument.proofs.Keeping.{adjusted_apart, appended_bytes, distance_apart, executes_apart, kept_stays}
pub use Rattle.gc_instrument.specs.Prelude.{Executed, Gives, Handed, KeptReply, State, adjusted, distance_outcome, done, executed_line, executed_with, is_at, kept_after, kept_line, measured_outcome, pointed, refusal_line, refused, reply_id, unmeasured, with_kept}
unfoldable pub use Rattle.gc_instrument.specs.Prelude.{exec}
pub use Rattle.gc_instrument.specs.Seen.{IsPlainKept}
pub use Rattle.gc_instrument.specs.declared.pointing.Pointing.{Pointing}
pub use Rattle.gc_instrument.specs.declared.target.Target.{Target}
pub use Rattle.gc_scenes.specs.Acting.{acted, acted_faceless, aimed, dated, faced, pointed_over}
pub use Rattle.gc_scenes.specs.Appending.{AppendsHanded, AppendsPlayed}
pub use Rattle.gc_scenes.specs.Clocks.{days_on, next_day}
pub use Rattle.gc_scenes.specs.Laws.{IsAimedAt, IsFarOff, IsNearest, NearestIsNearest, OneReply, StartsAnew, TableIsTheInstance, all_still, ruleless, still, without_starts}
pub use Rattle.gc_scenes.specs.Params.{scripted_params}
pub use Rattle.gc_scenes.specs.Rules.{counted, drifted, fault_of, is_clear, is_due, moved_by, noise_after, noisy, scripted_reply, seen}
pub use Rattle.gc_scenes.specs.SceneExecution.{HasCodeAndAnswer, Played, after_call, answer_or_values, clock_shows, counting, faulted_raw, is_measurement, look_of, outcome, played_call, played_of, played_raw, replied_answer, scripted_played, seen_by, unless_faulted, unless_faulted_raw}
unfoldable pub use Rattle.gc_scenes.specs.SceneExecution.{plays}
pub use Rattle.gc_scenes.specs.SceneReplying.{AnswersPlainly, AnswersRequest, IsHanded, IsPlayed, again_or_played, answers, holding, kept_if_repeating, names_call, names_none, played_fresh, played_line, played_or_refused, resent_line, silent, unreadable}
unfoldable pub use Rattle.gc_scenes.specs.SceneReplying.{handed_call, handed_raw}
pub use Rattle.gc_scenes.specs.SceneState.{SceneState, scene_restarted, seeing}
pub use Rattle.gc_scenes.specs.Seen.{scene_of}
pub use Rattle.gc_scenes.specs.Slow.{HearsLine, IsDelay, SlowState, TakesUp, delay_of, delayed, replies, scene_then, taken_up}
pub use Rattle.gc_scenes.specs.Starting.{StartingState, StartsOrPlays, counting_starts, ignores, is_start_due, sign_on, starting_at, starting_restarted, starts}
pub use Rattle.gc_scenes.specs.Ways.{apart, nearer, nearest, nearest_of, no_ways, other_hz, other_v, window}
pub use Rattle.gc_scenes.specs.declared.rules.Fault.{Fault}
pub use Rattle.gc_scenes.specs.declared.rules.Scripted.{Scripted}
