-- The names that this crate's proofs cite, passed on from one place. Declares nothing.
pub use Rattle.std.proofs.Common.{Bool, Bor, Err, IfOk, List, None, Ok, Option, Result, Some, [], ap, append-nil, append_assoc, arith, codes, cond, drop, false, get_or, if◌then◌else◌, inl, inr, is_some, length, length-append, map, min, nat_lt, refl, rules, slice_index, subst, sym, take, true, ℕ, ℤ, ◌&&◌, ◌*◌, ◌++◌, ◌+◌, ◌-◌, ◌<◌, ◌==◌, ◌^◌, ◌||◌, ◌∙◌, ◌∷◌, ◌≡◌, ◌≢◌, ◌≤◌}
pub use Rattle.std.proofs.KnownBytes.{Appends-nil, Appends-trans}
pub use Rattle.std.proofs.lemmas.Bool.{cond_both, ltb-false, ltb-true, ne_eqb, true≢false}
pub use Rattle.std.proofs.lemmas.List.{append_cancel_left, length-map, length-take, map-append, take-append-le}
pub use Rattle.std.proofs.lemmas.Option.{same_Some}
pub use Rattle.std.specs.Option.{option_copied, option_to_list}
pub use Rattle.std.specs.Prelude.{IfNone, IfSome, IsTrue, filter}
pub use Rattle.gc_lines.proofs.InOrder.{all_of-append, in_order_one, in_order_then}
pub use Rattle.gc_lines.specs.Prelude.{AnswersAll, AnswersFrames, AnswersInOrder, AnswersPart, EndsBecause, FirstBadOfReply, GaveInReads, IsReply, IsRequest, Ports, ReplyFields, RequestFields, TakesFront, all_of, ends_in_return, frame_of, frames, is_line_feed, lent_seen, pieces_behind, progress, rest_behind, whole_and_part}
unfoldable pub use Rattle.gc_lines.specs.Prelude.{reply_at, request_at}
pub use Rattle.gc_lines.specs.declared.fault.LineFault.{LineFault}
pub use Rattle.gc_lines.specs.declared.frame.Frame.{Frame}
pub use Rattle.gc_lines.specs.declared.frame.Frame.TheVariants.{Cleared, Line, More, Overlong}
pub use Rattle.gc_values.specs.Prelude.{FitsLong, NamesWhole, SpellsDecimal, number}
pub use Rattle.gc_texts.proofs.Cutting.{cut_found, holds_of_rest, one_front, read_alike}
pub use Rattle.gc_texts.proofs.OneReading.{one_list, one_procedure}
pub use Rattle.gc_texts.proofs.Procedures.{one_number, with_rest}
pub use Rattle.gc_texts.specs.Prelude.{Cuts, IsLogLine, IsNumber, IsProcedureText, IsReadAs, IsRpc, IsTarget, IsTextOf, Lacks, NoTarget, after_four_words, after_three_words, after_two_words, before, behind, escaped, first_word, fourth_word, has_part, is_kept, is_sign_on, second_word, text_lines, third_word}
pub use Rattle.gc_instrument.specs.Prelude.{State, simulator_opening}
pub use Rattle.gc_instrument.specs.declared.target.Target.{Target}
pub use Rattle.gc_scenes.specs.Prelude.{no_ways, scripted_params, still}
pub use Rattle.gc_scenes.specs.declared.delay.Delay.{Delay}
pub use Rattle.gc_scenes.specs.declared.rules.Fault.{Fault}
pub use Rattle.gc_scenes.specs.declared.rules.Noise.{Noise}
pub use Rattle.gc_scenes.specs.declared.rules.Scripted.{Scripted}
pub use Rattle.gc_world.specs.Prelude.{IsReport, Wire, made_seen, played, scene_played, sent_seen}
pub use Rattle.gc_world.specs.declared.event.Event.{Event}
pub use Rattle.gc_world.specs.declared.event.Event.TheVariants.{DownBytes, DownDeliver, DownLose, DownRepeat, Expire, RestartClient, RestartInstrument, Send, UpBytes, UpDeliver, UpLose, UpRepeat}
pub use Rattle.gc_filters.specs.Checking.{Checks, JudgesFrame, WritesAll, WritesPart, WritesVerdictOn}
pub use Rattle.gc_filters.specs.Drill.{wire_text}
unfoldable pub use Rattle.gc_filters.specs.Drill.{drill_text_on}
pub use Rattle.gc_filters.specs.LogChecking.{AreVerdictsBetween, AreVerdictsFrom, HasChecked, HasJudged, IsMarkedVerdict, JudgesLine, JudgesMore, KeepsLine, NoneWait, StopsWriting, TakesLine, TakesPiece, TakesPieceInPart, WritesVerdicts, WritesVerdictsInPart, WritesWaiting, bytes_left, line, texts_in}
pub use Rattle.gc_filters.specs.LogClients.{nothing_known}
pub use Rattle.gc_filters.specs.Remarks.{begins_as_sign_on, frame_remark, has_lone_return}
pub use Rattle.gc_filters.specs.SceneLines.{BeginsAnswer, IsAnswerLine, IsBlockedLine, IsDelayLine, IsDriftLine, IsFaultLine, IsLateReplyLine, IsLineOf, IsNameLine, IsNoiseLine, IsSceneLine, IsSerialLine, IsSpan, IsStartLine, IsTargetLine, Scripts, need_of, params_in_answer, rc_in_answer, takes, way_line}
pub use Rattle.gc_filters.specs.SceneTroubles.{BeginsWith, IsLineRead, IsReplyTrouble, IsSceneTrouble, IsScriptRead, word_text}
unfoldable pub use Rattle.gc_filters.specs.SceneTroubles.{NoDecimal, NoNumber}
pub use Rattle.gc_filters.specs.Scenes.{FitAnInstrument, IsOverfullScene, IsScene, OverfillAnInstrument, answers_of, delays_of, drops_from, faults_of, late_of, name_of, noise_of, prism_of, prisms_of, repeats_of, scene_opening, serial_of, starts_of, targets_of, ways_of}
pub use Rattle.gc_filters.specs.Schedule.{InThree, IsEvent, IsNumbered, IsRequested, IsSchedule, IsSend, Requested, SendsRequested, request_with}
pub use Rattle.gc_filters.specs.Verdicts.{AreFrameVerdicts, AreSaidOf, AreVerdictLines, BeginsAsReply, IsLineVerdict, IsRequestVerdict, IsSaidOf, IsVerdict, no_reply, no_request, reads, refuses, reply, request, said_of, verdict_line, verdict_lines_from, verdict_text}
pub use Rattle.gc_filters.specs.declared.scene_line.Blocked.{Blocked}
pub use Rattle.gc_filters.specs.declared.scene_line.Drift.{Drift}
pub use Rattle.gc_filters.specs.declared.scene_line.SceneLine.{SceneLine}
pub use Rattle.gc_filters.specs.declared.scene_trouble.SceneWord.{SceneWord}
pub use Rattle.gc_filters.specs.declared.verdict.Verdict.{Verdict}
