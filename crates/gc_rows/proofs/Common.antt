-- The names that this crate's proofs cite, passed on from one place. Declares nothing.
pub use Rattle.arrayvec.specs.ArrayVec.{array_vec_len}
pub use Rattle.json.specs.Find.{get_member, later_or}
pub use Rattle.json.specs.Print.{IsNumber, print}
pub use Rattle.std.proofs.Common.{Bool, Err, IfSome, List, None, Option, Some, [], ap, append-nil, append_assoc, arith, cond, drop, false, get_or, if◌then◌else◌, inl, inr, le_trans, length, lit≤, map, negsuc, option_and_then, option_map, pos, refl, replicate, rules, subst, suc, sym, take, true, unsigned_abs, zero, ℕ, ℤ, ◌%◌, ◌*◌, ◌++◌, ◌+◌, ◌-◌, ◌/◌, ◌<◌, ◌==◌, ◌^◌, ◌∙◌, ◌∷◌, ◌≡◌, ◌≢◌, ◌≤◌, ◌⊎◌}
pub use Rattle.std.proofs.Math.Nat.{div-add-mod, zero-max}
pub use Rattle.std.proofs.lemmas.Bool.{and_from, and_parts, cases_Bool, cases_eq, cond_both, eq-eqb, eqb-false, eqb-true, false_from_ne_true, false≢true, le-leb, le-ltb, leb-true, lt-ltb, ltb-true, ne_eqb, not-true, or_from, or_parts}
pub use Rattle.std.proofs.lemmas.Grind.{common_steps, flat_map-append}
pub use Rattle.std.proofs.lemmas.List.{drop_all, drop_at, drop_more, length-append, length-map, map-append, take-replicate}
pub use Rattle.std.proofs.lemmas.List.Elements.{All-append, All-from_recursion, recursion_from_All}
pub use Rattle.std.proofs.lemmas.List.Folds.{list_any-append}
pub use Rattle.std.proofs.lemmas.Slice.Eq.{bytes_eq-Decides, ends_is}
pub use Rattle.std.proofs.lemmas.Str.Parse.{digit_from_value}
pub use Rattle.std.specs.Fmt.{decimal, digit_glyph, digits_onto}
pub use Rattle.std.specs.List.{All, AllByRecursion, drop-map, flat_map, list_all, list_any, onto_first, prefix_len}
pub use Rattle.std.specs.Prelude.{codes, max, nat_le, nat_lt, not, ◌&&◌, ◌||◌}
pub use Rattle.std.specs.Str.{bytes_eq}
pub use Rattle.std.specs.Str.Parse.{AllDigits}
pub use Rattle.gc_lines.proofs.Lists.{all_append}
pub use Rattle.gc_lines.specs.Prelude.{EndsCode, IsSmallNumber, id_text}
pub use Rattle.gc_values.proofs.Every.{every_append, every_weaker}
pub use Rattle.gc_values.proofs.ItemBytes.{items_within_params, total_length_front, total_length_next}
pub use Rattle.gc_values.proofs.ItemLaws.{item_has_no_fault, item_is_value}
pub use Rattle.gc_values.proofs.OneText.{decimal_text_once, whole_text_once}
pub use Rattle.gc_values.specs.Prelude.{Absent, AreDigits, ArePieces, AreSpaces, AreStringBytes, CutsDigits, CutsFraction, CutsSign, Exponent, FirstFault, Fraction, HasCommasInQuotes, HasDecimalForm, HasWholeForm, IsBetween, IsByte, IsDigit, IsExponent, IsExponentDigits, IsItem, IsItemFault, IsPadded, IsParam, IsParams, IsRounded, IsTextItem, IsWholePart, Minus, NamesBoolean, NamesWhole, Placed, Plus, ReadsNumeral, Sign, SpellsDecimal, StartsNoDigit, boolean_text, downs, exponent_text, fraction_digits, half_up, half_up_rounds, is_decimal, is_minus, joined, kind_of, mark, minus_where, number, parts_value, put_before, quoted_after, quotes, sign_text, signed, signed_text, stripped, ten_pow_pos, total_length, ups, value_fault_number, without_end_spaces, without_front_spaces, written}
pub use Rattle.gc_values.specs.declared.decimal.Decimal.{Decimal}
pub use Rattle.gc_values.specs.declared.fault.ValueFault.{ValueFault}
pub use Rattle.gc_values.specs.declared.fault.ValueFault.TheVariants.{Count, OpenQuote, Range, Spelling, TooMany}
pub use Rattle.gc_values.specs.declared.value.Kind.{Kind}
pub use Rattle.gc_values.specs.declared.value.Value.{Value}
pub use Rattle.gc_texts.proofs.LogStamps.{date_within, escaped_prints, stamp_prints}
pub use Rattle.gc_texts.proofs.Logs.{IsOfBytes, bytes_by_places, bytes_by_recursion, escaped_injective}
pub use Rattle.gc_texts.specs.Prelude.{Answered, AreBytes, AreOfKinds, BeginAs, DescriptionSeen, End, FieldSeen, HaveNames, IsItemsMisfit, IsKindsFault, IsPrintable, IsPrintableByte, Judged, KindsSeen, Lacks, Late, Lost, Missed, NoValue, Skipped, SuitsCount, Unreadable, are_columns, before, behind, date_of, date_text, description_seen, ending_seen, ends_as_text, escape, escaped, fault_of, faulty_item, faulty_items, field_seen, hex_digit, is_column, is_field_name, is_name_byte, is_name_of_row, is_named, is_small_letter, judgement_word, kinds_seen, line_of, names_of_row, open_quote, quality_of, quality_text, stamp_text, three_digits, time_text, too_many, two_digits, value_under, word_of, wrong_count}
pub use Rattle.gc_catalogue.specs.Prelude.{answer_fields}
pub use Rattle.gc_catalogue.specs.declared.answer.Answer.{Answer}
pub use Rattle.gc_catalogue.specs.declared.answer.Answer.TheVariants.{Angles, Date, Height, Long, Measured, MeasuredMode, Name, Nothing, Place, Short, Temperature, Version}
pub use Rattle.gc_catalogue.specs.declared.asked.Asked.{Asked}
pub use Rattle.gc_catalogue.specs.declared.asked.Asked.TheVariants.{Raw, Table}
pub use Rattle.gc_catalogue.specs.declared.call.Call.TheVariants.{ChangeFace, ComVersion, CsvVersion, DoMeasure, FineAdjust, GetAngle, GetDate, GetFace, GetHeight, GetPrecision, GetPrism, GetStation, InstrumentName, InstrumentNo, IntTemp, MeasDistance, NullProc, Position, QuickDist, SetDate, SetHeight, SetPrecision, SetPrism, SetStation, SimpleMea}
pub use Rattle.gc_rows.specs.Cells.{Blank, Bytes, Cell, Code, Content, Items, Moment, Quantity, Whole, cell, field_of, fields_of, lookup, members_in, members_of, names_of}
pub use Rattle.gc_rows.specs.Columns.{Column, Entry, all_quantities, answer_cells, answer_of, bytes_content, cells_after_run, cells_from, cells_if, cells_in, cells_named, counted_answer, described_part, end_cells, entry_seen, fault_content, first_columns, item_content, items_column, items_if_any, last_columns, line_content, line_sent, members_after_run, moment_content, named_cells, new_columns, object_cells, object_columns, quantity_cells, quantity_columns, row_columns, row_fields, run_column, split_content, table_columns, value_cells}
pub use Rattle.gc_rows.specs.DescribedCells.{answer_kinds, cells_of_values, field_cells, field_cells_if}
pub use Rattle.gc_rows.specs.DescribedColumns.{AddedColumnsFollow, DescribedColumnsHoldTheirValues, IsDescribedAnswer, are_distinct, are_new, described_value, value_if}
pub use Rattle.gc_rows.specs.Items.{comma_pieces, is_blank, items_if, items_of, split_items, trimmed}
pub use Rattle.gc_rows.specs.JsonLines.{Member, Number, Text, Texts, behind_backslash, comma_where, list_text, member_text, members_text, string_text, strings_text, texts_member, value_members, without_zeros}
pub use Rattle.gc_rows.specs.Laws.{ArePlainMembers, ColumnsAreFields, FitsIn64Bits, HasFieldNames, IsAnswerOfBytes, IsEndOfBytes, IsPlainMember, IsPlainName, IsReplyOfBytes, ItemsAreTheGrammars, JsonLinesReadBack, ReadsBackAs, RecordsHavePlainMembers, RowsArePrintable, RowsReadBack, members_read, record_read, texts_read}
pub use Rattle.gc_rows.specs.Lookup.{HasColumns, IsKnownName, IsShown, RecordsReadBack, is_among, is_apart, is_single, text_of, under}
pub use Rattle.gc_rows.specs.NamedFields.{answer_fields_in, fields_asked, named_fields, quantity_fields, text_under, value_text}
pub use Rattle.gc_rows.specs.ProcedureQuantities.{QuantitiesHaveTheirNames, RowsFillTheirColumns, WholesHaveTheirNames, names_from, names_if}
pub use Rattle.gc_rows.specs.Quantities.{column_of, column_of_whole, quantity_name, quantity_names, quantity_text}
pub use Rattle.gc_rows.specs.Records.{first_names, header}
pub use Rattle.gc_rows.specs.Rows.{answer_columns, behind_comma, code_of, columns_from, com_of, csv_field, field_text, fields_behind_commas, is_special, moment_text, procedure_of, request_sent, row_of, spread, value_behind_comma, values_of, within_quotes}
pub use Rattle.gc_rows.specs.ValueReading.{Powers, are_digits, before_quote, behind_digits, behind_fraction, behind_point, behind_sign, between, boolean_of, byte_in, byte_of, decimal_if, decimal_in, decimal_of, digits_in_front, exponent_in, has_minus, is_between, is_digit, items_as, powers, powers_of, rounded_decimal, short_text, suits_count, text_in, value_in, values_of_items, values_read, values_with, whole_if, whole_in}
pub use Rattle.gc_rows.specs.declared.json_line.TheConstants.{OWN_ROOM, STRINGS_ROOM, VALUES_ROOM}
pub use Rattle.gc_rows.specs.declared.quantity.TheConstants.{QUANTITIES}
pub use Rattle.gc_rows.specs.declared.row.TheConstants.{MOST_QUANTITIES, VALUE_ROOM}
