-- The names that this crate's proofs cite, passed on from one place. Declares nothing.
pub use Rattle.std.proofs.Common.{Bool, List, [], ap, append-nil, append_assoc, arith, drop, false, inl, inr, length, length-append, length-take-le, lit<, lit≤, nat_le, nat_lt, negsuc, not, pos, refl, replicate, rules, subst, suc, sym, take, true, unsigned_abs, zero, ℕ, ℤ, ◌%◌, ◌&&◌, ◌++◌, ◌+◌, ◌-◌, ◌/◌, ◌==◌, ◌^◌, ◌∙◌, ◌≡◌, ◌≢◌, ◌≤◌, ◌⊎◌}
pub use Rattle.std.proofs.Math.Seq.{take-append_seam}
pub use Rattle.std.proofs.lemmas.Bool.{cases_eq, cases_lt, ltb-true}
pub use Rattle.std.proofs.lemmas.List.{length-replicate, same_from_push, take-append-drop}
pub use Rattle.std.proofs.lemmas.List.Elements.{All-from_recursion, recursion_from_All}
pub use Rattle.std.specs.Fmt.{decimal}
pub use Rattle.std.specs.List.{AllByRecursion, list_all}
pub use Rattle.std.specs.Prelude.{Err, IfErr, IsOk, None, Ok, OnOk, Option, Result, Some, codes, slice_index, ⊤, ◌*◌, ◌<◌, ◌∷◌}
pub use Rattle.gc_lines.proofs.Plain.{plain_append, plain_cons, reply_plain, request_plain}
pub use Rattle.gc_lines.proofs.Written.{reply_back, request_back}
pub use Rattle.gc_lines.specs.Prelude.{IsIdInRange, IsPlain, IsPlainByte, MayBeId, ReplyFields, RequestFields, id_text, params_text, reply_seen, reply_text, request_signature, request_text}
unfoldable pub use Rattle.gc_lines.specs.Prelude.{request_at}
pub use Rattle.gc_values.proofs.EachItem.{each_list}
pub use Rattle.gc_values.proofs.ListLaws.{no_list_fault, one_list_fault, one_values, params_fit, written_reads}
pub use Rattle.gc_values.proofs.ParamLists.{even_not_odd, one_list, params_even, pieces_of}
pub use Rattle.gc_values.proofs.TextShape.{text_is_plain, text_is_short, text_not_empty}
pub use Rattle.gc_values.specs.Prelude.{AreDigits, AreParams, ArePieces, AreTooMany, AreValues, HasCommasInQuotes, IsDigit, IsListFault, IsParams, faulty_items, joined, kind_of, kinds_of, minus_text, open_quote, places_text, quoted_after, quotes, signed_text, text, whole_text, written}
pub use Rattle.gc_values.specs.declared.fault.ValueFault.{ValueFault}
pub use Rattle.gc_values.specs.declared.value.Kind.{Kind}
pub use Rattle.gc_values.specs.declared.value.Value.{Value}
pub use Rattle.gc_catalogue.specs.Answers.{IsAnswer, IsAnswerOf, IsFittingAnswer, IsUnreadable, answer_fields, rounded_answer}
pub use Rattle.gc_catalogue.specs.Asked.{IsAsked, IsAskedReading, asked_line, asked_request, raw_params, raw_request}
pub use Rattle.gc_catalogue.specs.AskedLaws.{AskedReadBack, EachReplyIsReadForAsked, OneAsked, OneAskedForALine, OneAskedReading, RawLinesFit, ReadsBackAsked, RequestLinesAreOfBytes}
pub use Rattle.gc_catalogue.specs.Bytes.{AreBytes}
pub use Rattle.gc_catalogue.specs.Calls.{IsCall, IsFitting, IsNoProcedure, IsRefusal, call_fields}
pub use Rattle.gc_catalogue.specs.Laws.{AreShown, CallsReadBack, DoublesAreRounded, EachReplyIsRead, HaveOneSignature, OneCallForALine, OneReading, ReadsBackAnswer}
pub use Rattle.gc_catalogue.specs.Lists.{IsWithoutComma, before_commas, behind_commas, params_of, shown_values}
pub use Rattle.gc_catalogue.specs.RawFacts.{closed_by, is_plain_byte, length-request, may_have, outer_commas, outer_commas-append, padded_front, params_short, quoted_by, quoted_by_quotes}
pub use Rattle.gc_catalogue.specs.RawTexts.{raw_bytes}
pub use Rattle.gc_catalogue.specs.Raws.{AreFewItems, IsItemsRefusal, IsRawAnswer, IsRawCall, IsRawReading, IsRawRefusal, line_length}
pub use Rattle.gc_catalogue.specs.Readings.{IsReading, IsReadingBy}
pub use Rattle.gc_catalogue.specs.Texts.{answer_params, reply_line, reply_of, request_line, request_of}
pub use Rattle.gc_catalogue.specs.declared.answer.Answer.{Answer}
pub use Rattle.gc_catalogue.specs.declared.answer.Answer.TheVariants.{Nothing}
pub use Rattle.gc_catalogue.specs.declared.answer.Reading.{Reading}
pub use Rattle.gc_catalogue.specs.declared.asked.Asked.TheVariants.{Raw, Table}
pub use Rattle.gc_catalogue.specs.declared.call.Call.{Call}
pub use Rattle.gc_catalogue.specs.declared.raw.RawCall.{RawCall}
pub use Rattle.gc_catalogue.specs.declared.raw_text.RawText.{RawText}
