-- The names that this crate's proofs cite, passed on from one place. Declares nothing.
pub use Rattle.std.proofs.Common.{Bool, Err, IfErr, IfOk, List, None, Ok, OnOk, Option, Result, Some, [], add-one, ap, append_assoc, arith, cond, drop, eqb, false, get_or, inl, inr, length, length-append, length-drop, lit<, map, nat_lt, not, refl, rules, slice_set, subst, suc, sym, take, true, zero, ℕ, ◌%◌, ◌&&◌, ◌*◌, ◌++◌, ◌+◌, ◌-◌, ◌/◌, ◌<◌, ◌^◌, ◌↔◌, ◌∙◌, ◌∷◌, ◌≡◌, ◌≢◌, ◌≤◌, ◌⊎◌}
pub use Rattle.std.proofs.KnownBytes.{Appends-nil, Appends-trans, Consumes-trans}
pub use Rattle.std.proofs.Math.Dec.{ltb}
pub use Rattle.std.proofs.Math.Numerals.{one-add}
pub use Rattle.std.proofs.Math.Seq.{take-add, take-append-add}
pub use Rattle.std.proofs.lemmas.Bool.{and_parts, cases_lt, eq-eqb, eqb-true, false_from_ne_true, le-ltb, lt-ltb, ltb-false, ltb-true, ne_eqb}
pub use Rattle.std.proofs.lemmas.Bool.Decides.{nat_tests}
pub use Rattle.std.proofs.lemmas.Fmt.{decimal-digits_value, decimal_digit, decimal_is_IsNumeral, decimal_nonempty, decimal_step, first_decimal, length-decimal-le}
pub use Rattle.std.proofs.lemmas.List.{append-nil, drop-drop, drop-set, drop_all, drop_at, drop_more, get_or-append-add, length-map, length-set, length-take, length-take-le, map-append, nil_from_length, take-append-drop, take-append-le, take_all, take_at, take_rest}
pub use Rattle.std.proofs.lemmas.Str.Parse.{IsNumeralModel, digit_from_value, digits_value_short, numerals_by_value, tells_digits}
pub use Rattle.std.specs.Fmt.{decimal}
pub use Rattle.std.specs.Io.KnownBytes.{Appends, Consumes, IsAtEnd}
pub use Rattle.std.specs.List.{AllByRecursion, flat_map, position, position_or_len, prefix_len}
pub use Rattle.std.specs.Option.{option_to_list}
pub use Rattle.std.specs.Str.Parse.{AllDigits, digits_value}
pub use Rattle.gc_lines.specs.Answering.{AnswerRule, AnswersAll, AnswersInOrder, AnswersPart, AppendsAnswer, EndsBecause, GaveInReads, HasEnded, Ports, Progress, all_of, progress}
pub use Rattle.gc_lines.specs.Assembler.{Kept, StandsFor}
pub use Rattle.gc_lines.specs.Frames.{HasNoLineFeed, IsCut, ends_in_return, frame_of, frames, is_line_feed, pieces, pieces_behind, rest_behind, rest_of}
pub use Rattle.gc_lines.specs.Headers.{EndsId, FailsEach, FirstBadField, GivesEach, GivesSame, HasId, IsIdInRange, PastColon, PastId, PastNumber, PastSignature, id_text}
pub use Rattle.gc_lines.specs.Laws.{FramesHoweverCut, IsReplyInRange, IsRequestInRange, PlainIsOneLine, ReadsExactly}
pub use Rattle.gc_lines.specs.Lent.{lent_seen}
pub use Rattle.gc_lines.specs.Lines.{IsPlain, IsPlainByte, with_end}
pub use Rattle.gc_lines.specs.Numbers.{HasNumber, IsSmallNumber, NoDigitFirst, NoLeadingZero}
pub use Rattle.gc_lines.specs.Passing.{Gathering, GathersPart, HasRoomForText, NoneWait, TakesTextsPart, completed, frames_behind, session_progress, whole_and_part}
pub use Rattle.gc_lines.specs.Ports.{TakesFront}
pub use Rattle.gc_lines.specs.Readers.{HeaderFields, code_at, colon_at, digits_len, id_at, number_at, params_at, signature_at, ◌>>=◌}
unfoldable pub use Rattle.gc_lines.specs.Readers.{header_at, reply_at, request_at}
pub use Rattle.gc_lines.specs.Replies.{EndsCode, FirstBadOfReply, HasCode, IsReply, IsReplyBody, IsWrittenReply, ReplyFields, params_text, reply_seen, reply_signature, reply_text}
pub use Rattle.gc_lines.specs.Requests.{FirstBadOfRequest, IsNoRequest, IsRequest, IsWrittenRequest, RequestFields, request_seen, request_signature, request_text}
pub use Rattle.gc_lines.specs.declared.fault.LineFault.{LineFault}
pub use Rattle.gc_lines.specs.declared.fault.LineFault.TheVariants.{Code, Colon, Id, Number, Signature, TooLong}
pub use Rattle.gc_lines.specs.declared.frame.Frame.{Frame}
pub use Rattle.gc_lines.specs.declared.frame.Frame.TheVariants.{Cleared, Line, More, Overlong}
