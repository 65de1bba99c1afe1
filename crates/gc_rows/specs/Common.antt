-- The names that this crate's definitions cite of others, passed on from one place. Declares nothing.
pub use Rattle.json.specs.Find.{get_member}
pub use Rattle.std.specs.Fmt.{decimal}
pub use Rattle.std.specs.List.{AllByRecursion, flat_map, list_all, list_any, onto_first}
pub use Rattle.std.specs.Str.{bytes_eq}
pub use Rattle.gc_lines.specs.Prelude.{IsReply, IsSmallNumber, ReplyFields}
pub use Rattle.gc_values.specs.Prelude.{IsParams, Placed, half_up, is_decimal, number, quoted_after, quotes, signed, stripped, text, value_fault_number, without_end_spaces, without_front_spaces}
pub use Rattle.gc_values.specs.declared.fault.ValueFault.{ValueFault}
pub use Rattle.gc_values.specs.declared.value.Value.{Value}
pub use Rattle.gc_texts.specs.Prelude.{Answered, AreBytes, AreOfKinds, DescriptionSeen, End, FieldSeen, HaveNames, IsKindsFault, IsPrintable, KindsSeen, are_columns, before, behind, description_seen, ending_seen, escaped, fault_of, is_named, kinds_of_fields, line_of, names_of_row, quality_of, quality_text, stamp_text, value_under, word_of}
pub use Rattle.gc_catalogue.specs.Prelude.{IsAnswerOf, IsFittingAnswer, answer_fields, call_fields}
pub use Rattle.gc_catalogue.specs.declared.answer.Answer.{Answer}
pub use Rattle.gc_catalogue.specs.declared.asked.Asked.{Asked}
pub use Rattle.gc_catalogue.specs.declared.asked.Asked.TheVariants.{Raw, Table}
pub use Rattle.gc_catalogue.specs.declared.call.Call.{Call}
