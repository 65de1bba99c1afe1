-- The names that crates above cite, passed on from one place. Declares nothing.
pub use Rattle.gc_texts.specs.Again.{has_code, no_again, repeats_after}
pub use Rattle.gc_texts.specs.Agrees.{agrees}
pub use Rattle.gc_texts.specs.Codes.{lists_code, no_codes}
pub use Rattle.gc_texts.specs.ColumnNames.{are_columns, ends_as_text, is_column, is_name_of_row, is_named, names_of_row}
pub use Rattle.gc_texts.specs.CommandStops.{command_stop_text, with_command_fault}
pub use Rattle.gc_texts.specs.Cuts.{Cuts, Lacks, before, behind, has_part}
unfoldable pub use Rattle.gc_texts.specs.DatedPaths.{is_dated_path}
pub use Rattle.gc_texts.specs.Descriptions.{DescriptionSeen, IsDescription, described_as, description_seen}
pub use Rattle.gc_texts.specs.Endings.{Answered, End, Judged, Late, Lost, Missed, NoValue, Skipped, Unreadable, ending_seen, fault_of, line_of, quality_of, quality_text, word_of}
pub use Rattle.gc_texts.specs.Expectations.{count_in, meets}
pub use Rattle.gc_texts.specs.Faults.{Tells, end_of_serving, fault_line, run_fault_number, run_fault_text}
pub use Rattle.gc_texts.specs.Fields.{FieldSeen, HaveNames, field_seen, is_field_name, is_name_byte, is_small_letter}
pub use Rattle.gc_texts.specs.Forms.{IsFormAnswer, IsFormFault, IsFormReading, is_compared, measured_part}
pub use Rattle.gc_texts.specs.Judgements.{IsJudgement, capped, is_same, judged_count, judged_one_more, judged_sum, judgement_word, judgements, leaves_doubt, none_judged, one_more}
pub use Rattle.gc_texts.specs.KindLists.{AreOfKinds, BeginAs, HaveValues, IsItemsMisfit, IsKindsFault, KindsSeen, SuitsCount, faulty_item, faulty_items, kinds_of_fields, kinds_seen, open_quote, too_many, wrong_count}
pub use Rattle.gc_texts.specs.LineForms.{AreLinesOf, CutsLine, FirstFaulty, IsReadAs, IsTextOf, ItemForm, MemoryOnlyIf, TextFault, is_kept, line_at, text_lines}
pub use Rattle.gc_texts.specs.Logs.{AreBytes, IsLogLine, IsPrintable, IsPrintableByte, escape, escaped, hex_digit, is_unescaped, log_line, log_text, mark_text, marked_text}
pub use Rattle.gc_texts.specs.Measured.{value_under}
pub use Rattle.gc_texts.specs.Names.{name_text}
pub use Rattle.gc_texts.specs.Nears.{IsAway, IsThere}
unfoldable pub use Rattle.gc_texts.specs.Nears.{is_off_target}
pub use Rattle.gc_texts.specs.NewColumns.{fresh_names, has_column, is_fresh, is_new_column, with_columns}
pub use Rattle.gc_texts.specs.Procedures.{IsNumber, IsProcedureText, IsRpc, IsTarget}
pub use Rattle.gc_texts.specs.Qualities.{is_confirmed, is_good, quality_word}
pub use Rattle.gc_texts.specs.Settlements.{WrotePartOfSettlements, WroteSettlements, settlement_line, settlement_lines, settlement_lines_from}
pub use Rattle.gc_texts.specs.SignOns.{is_sign_on}
pub use Rattle.gc_texts.specs.Stamps.{date_of, date_text, date_time, stamp_text, three_digits, time_text, two_digits}
unfoldable pub use Rattle.gc_texts.specs.Stamps.{days_after}
pub use Rattle.gc_texts.specs.Strays.{is_impossible}
pub use Rattle.gc_texts.specs.TaskLines.{IsTaskLine, IsWordAnd}
pub use Rattle.gc_texts.specs.Tasks.{IsTasks, MayFollow, ReachesASoundTaskLine, TaskFault, TasksSeen, call_at, first_mode, form_of_asked, made_at, no_standing, placed, tasks_of, tasks_seen}
pub use Rattle.gc_texts.specs.Texts.{FailsAtRead, IsReadFault}
pub use Rattle.gc_texts.specs.Troubles.{IsTrouble, NoTarget, trouble_line}
pub use Rattle.gc_texts.specs.ValueItems.{lack, no_needs}
pub use Rattle.gc_texts.specs.WholeTexts.{GaveBytes, GivesCommands, Input, IsReadToEnd, IsUnread, ReadsFew, RefusesCommands, RefusesText, WasRead, input_of, source_of}
pub use Rattle.gc_texts.specs.Words.{after_four_words, after_three_words, after_two_words, first_word, fourth_word, second_word, third_word}
unfoldable pub use Rattle.gc_texts.specs.Zeroed.{as_zero}
