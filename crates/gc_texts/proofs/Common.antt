-- The names that this crate's proofs cite, passed on from one place. Declares nothing.
pub use Rattle.arrayvec.specs.ArrayVec.{ArrayVec, array_vec_len}
pub use Rattle.std.proofs.Common.{Bool, Err, IfNone, IfSome, IsFalse, IsTrue, List, None, Ok, OnOk, Option, Result, Some, [], ap, append-nil, append_assoc, arith, codes, cond, drop, false, filter, get_or, if◌then◌else◌, inl, inr, is_some, length, length-drop, map, nat_le, nat_lt, not, refl, replicate, rules, slice_set, subst, suc, sym, take, true, unsigned_abs, unwrap_or, vec_capacity, vec_len, zero, ℕ, ℤ, ◌%◌, ◌&&◌, ◌*◌, ◌++◌, ◌+◌, ◌-◌, ◌/◌, ◌<◌, ◌==◌, ◌^◌, ◌||◌, ◌∙◌, ◌∷◌, ◌≡◌, ◌≢◌, ◌≤◌, ◌⊎◌}
pub use Rattle.std.proofs.KnownBytes.{Appends-trans, Consumes-trans}
pub use Rattle.std.proofs.Math.Bool.{or-true}
pub use Rattle.std.proofs.Math.Nat.{div-add-mod}
pub use Rattle.std.proofs.Math.Seq.{set-append_seam}
pub use Rattle.std.proofs.SliceLists.{all_by_recursion_push}
pub use Rattle.std.proofs.lemmas.Bool.{and_cases, and_from, and_parts, and_right, both_ways, cases_eq, cond-false, cond-true, cond_both, eq-eqb, eqb-false, eqb-true, le-leb, le-ltb, leb-false, leb-true, lt-leb, lt-ltb, ltb-false, ltb-true, ne_eqb, not-false, not-true, or_cases, or_parts}
pub use Rattle.std.proofs.lemmas.Bool.Decides.{Decides-eqb, leb_tells, nat_tests}
pub use Rattle.std.proofs.lemmas.List.{append_cancel_left, drop-drop, drop_all, drop_more, length-append, length-map, length-replicate, length-take, length-take-le, length_push, map-append, map_push, same_from_push, take-append-drop, take_all, take_at, take_more}
pub use Rattle.std.proofs.lemmas.List.Concat.{flat_map-append}
pub use Rattle.std.proofs.lemmas.List.Elements.{All-append, All-from_recursion, filter-append, recursion_from_All}
pub use Rattle.std.proofs.lemmas.Option.{none-some, same_Some}
pub use Rattle.std.proofs.lemmas.Result.{IfOk-weaker}
pub use Rattle.std.proofs.lemmas.Slice.Eq.{bytes_eq-Decides, strip_prefix_is, strip_suffix_is}
pub use Rattle.std.specs.Fmt.{decimal}
pub use Rattle.std.specs.Io.KnownBytes.{Appends, Consumes}
pub use Rattle.std.specs.List.{All, AllByRecursion, AllZip, flat_map, list_all, list_any, starts_with}
pub use Rattle.std.specs.Option.{option_copied, option_map}
pub use Rattle.std.specs.Prelude.{IfErr, IfOk, MatchOption}
pub use Rattle.std.specs.Str.{bytes_eq}
pub use Rattle.gc_lines.proofs.Known.{Appends-is, length_more}
pub use Rattle.gc_lines.proofs.Lists.{cons_head, cons_tail}
pub use Rattle.gc_lines.specs.Prelude.{IsReply, IsReplyInRange, ReplyFields, TakesFront, numbered_fault, reply_seen, reply_text}
unfoldable pub use Rattle.gc_lines.specs.Prelude.{reply_at}
pub use Rattle.gc_values.proofs.DecimalLaws.{spells_unique}
pub use Rattle.gc_values.proofs.ListLaws.{one_first_fault, same_count}
pub use Rattle.gc_values.proofs.ParamLists.{even_not_odd, joined_params, one_list, params_even}
pub use Rattle.gc_values.specs.Prelude.{Absent, AreDigits, AreItems, AreParams, CutsDigits, CutsFraction, CutsSign, Exponent, FirstFault, Fraction, IsDigit, IsExponent, IsExponentDigits, IsFileAt, IsItem, IsItemFault, IsListFault, IsParam, IsParams, Minus, NamesFraction, Placed, Plus, ReadsExponent, Spells, SpellsDecimal, StartsNoDigit, exponent_text, fraction_digits, half_up, half_up_rounds, has_path, is_decimal, is_foreign, is_minus, joined, kind_of, kinds_of, mark, number, quotes, sign_text, signed, stripped, stripped_is, ten_pow_pos, ups}
unfoldable pub use Rattle.gc_values.specs.Prelude.{is_near, is_place, is_tolerance, is_within}
pub use Rattle.gc_values.specs.declared.decimal.Decimal.{Decimal}
pub use Rattle.gc_values.specs.declared.direction.Direction.{Direction}
pub use Rattle.gc_values.specs.declared.fault.ValueFault.{ValueFault}
pub use Rattle.gc_values.specs.declared.file_value.ValueFile.{ValueFile}
pub use Rattle.gc_values.specs.declared.value.Kind.{Kind}
pub use Rattle.gc_values.specs.declared.value.Value.{Value}
pub use Rattle.gc_catalogue.proofs.AskedRules.{one_asked}
pub use Rattle.gc_catalogue.specs.Prelude.{IsAskedReading, IsCall, IsNoProcedure, IsParameterCount, IsProcedure, IsRawRefusal, IsRefusal, answer_fields, call_fields, call_name, is_leap, may_have, month_days, params_few, raw_bytes, request_if, with_params}
pub use Rattle.gc_catalogue.specs.declared.answer.Answer.{Answer}
pub use Rattle.gc_catalogue.specs.declared.answer.Answer.TheVariants.{Nothing}
pub use Rattle.gc_catalogue.specs.declared.answer.Reading.{Reading}
pub use Rattle.gc_catalogue.specs.declared.asked.Asked.{Asked}
pub use Rattle.gc_catalogue.specs.declared.asked.Asked.TheVariants.{Raw, Table}
pub use Rattle.gc_catalogue.specs.declared.call.Call.{Call}
pub use Rattle.gc_catalogue.specs.declared.call.Call.TheVariants.{NullProc, SetDate}
pub use Rattle.gc_catalogue.specs.declared.raw.RawCall.{RawCall}
pub use Rattle.gc_client.specs.Prelude.{ReadsBy, settlement_seen}
pub use Rattle.gc_client.specs.declared.settlement.Settlement.{Settlement}
pub use Rattle.gc_texts.specs.Again.{no_again}
pub use Rattle.gc_texts.specs.Agrees.{AreAgreeWords, IsAgreeText}
pub use Rattle.gc_texts.specs.Attempts.{attempt_number, attempts, attempts_from, in_attempt, laid_from, laid_out, tasks_planned}
pub use Rattle.gc_texts.specs.Chained.{AreAcceptedAfter, AreBusyAfter, EndsInGroupOf, IsAgreeAfter, IsChainingAfter, IsDeadlineAfter, IsRetryAfter, IsSentAfter, IsSetAfter, IsTaskOf, KeepsGroup, PlacesHoldForAll, SaysNoAgree, SaysNoBusy, SaysNoChaining, SaysNoCodes, SaysNoDeadline, SaysNoRetry, TasksFollowTheirLines, UnwatchedHoldForAll, chaining_line, cycle_commands, every_after, section_after, setup_commands}
pub use Rattle.gc_texts.specs.Codes.{IsCode, IsCodeList, no_codes, padded_codes}
pub use Rattle.gc_texts.specs.ColumnNames.{are_columns, ends_as_text, is_column, is_name_of_row, is_named, suits_name}
pub use Rattle.gc_texts.specs.Commands.{IsCommand}
pub use Rattle.gc_texts.specs.Cuts.{Cuts, Lacks, before, behind, has_part}
pub use Rattle.gc_texts.specs.DatedPaths.{is_date_letter, is_letter, part_text}
unfoldable pub use Rattle.gc_texts.specs.DatedPaths.{dated, has_date, is_dated_path}
pub use Rattle.gc_texts.specs.Descriptions.{AreFields, DescriptionSeen, EndsColumns, EndsParameters, IsDescription, IsEnd, IsNoColumns, IsNoEnd, IsNoParameters, described_as, description_seen, is_arrow, is_described, kinds_asked, last_word}
pub use Rattle.gc_texts.specs.Expectations.{count_among, counters_in, counts, dots_in, ends_in_space, expectation_of, is_counter, is_item, items_are_met, items_in, items_trouble, no_item_in}
pub use Rattle.gc_texts.specs.Faults.{fault_detail, fault_line, run_fault_number, run_fault_text}
pub use Rattle.gc_texts.specs.Fields.{EndsFields, FieldSeen, HaveNames, IsNoField, IsNoFieldList, ReadsField, field_seen, field_words, is_field_name, is_name_byte, is_small_letter, kind_word, words_from}
pub use Rattle.gc_texts.specs.Forms.{IsFormAnswer, IsFormReading, answer_from, decimal_at, form_of, measured_part, place_named}
pub use Rattle.gc_texts.specs.Judgements.{IsJudgement, capped, is_same, judged_count, judged_one_more, judged_sum, judgement_word, judgements, none_judged, one_more}
pub use Rattle.gc_texts.specs.KindLists.{AreOfKinds, BeginAs, HaveValues, IsItemsMisfit, IsKindsFault, KindsSeen, SuitsCount, faulty_item, faulty_items, kinds_of_fields, kinds_seen, open_quote, padded_kinds, too_many, wrong_count}
pub use Rattle.gc_texts.specs.Laws.{ChainsKeepTargets, CommandsArePlain, CommandsAreTasks, IsOneChain, KeepTargets, LogLinesArePrintable, LogLinesReadBack, NamesAreTheCatalogues, OneCommandList, OneTaskList, plain_tasks}
pub use Rattle.gc_texts.specs.LineForms.{AreLinesOf, CutsLine, FirstFaulty, HasKeptLine, IsReadAs, ItemForm, ReachesASoundLine, is_kept, is_skipped, line_at, text_lines, text_pieces, without_cr}
pub use Rattle.gc_texts.specs.Logs.{AreBytes, BeginsWithNoByte, IsLogLine, IsPrintable, IsPrintableByte, escape, escaped, hex_digit, is_unescaped, mark_text}
pub use Rattle.gc_texts.specs.Measured.{decimal_in, direction_from, first_value, measured_direction, value_under}
pub use Rattle.gc_texts.specs.Names.{is_name, name_text}
pub use Rattle.gc_texts.specs.Nears.{AreNearWords, AreRangeWords, DirectionsAreAskedFor, DistancesAreAskedFor, IsAtAnotherDistance, IsAway, IsInAnotherDirection, IsNearText, IsRangeOf, IsThere, call_gives_direction, call_gives_distance, direction_of, distance_of, has_near, is_away, is_out_of_range, near_of}
unfoldable pub use Rattle.gc_texts.specs.Nears.{is_length, is_off_target}
pub use Rattle.gc_texts.specs.NewColumns.{are_of_one_sort, fresh_name, fresh_names, has_column, is_fresh, is_new_column, new_columns, with_columns}
pub use Rattle.gc_texts.specs.ProcedureNames.{each_procedure, name_among}
pub use Rattle.gc_texts.specs.Procedures.{HasBytes, IsNumber, IsProcedureText, IsRpc, IsTarget, params_text_of}
pub use Rattle.gc_texts.specs.Repeats.{AreAttempts, AreLaidOut, Chain, ChainsGoOutAgain, IsAttempt, RetriesHold, as_planned, placed_planned, planned_in}
pub use Rattle.gc_texts.specs.Retries.{IsReason, IsRetryRule, NamesRule, again_with, again_with_words, allows_word, count_with, count_with_words, no_retry}
pub use Rattle.gc_texts.specs.Sendings.{sendings, sent_as, sent_from}
pub use Rattle.gc_texts.specs.Settlements.{WrotePartOfSettlements, settlement_line, settlement_lines, settlement_lines_from}
pub use Rattle.gc_texts.specs.Stamps.{clock_text, date_of, date_text, date_time, next_day, stamp_text, three_digits, time_text, two_digits, year_days}
unfoldable pub use Rattle.gc_texts.specs.Stamps.{days_after}
pub use Rattle.gc_texts.specs.TaskLines.{AreRequestAndItems, IsCommandLine, IsDeadlineLine, IsDescribingLine, IsEveryLine, IsExpectLine, IsNameLine, IsNearLine, IsTaskLine, IsUnwatchedLine, IsWordAnd, SetsAccepted, SetsAgree, SetsBusy, SetsClock, SetsRetry}
pub use Rattle.gc_texts.specs.Tasks.{CountsAtMost, FirstFaultyTaskLine, Grows, IsFitting, IsInPlace, IsTaken, IsTasks, LinesGave, MayFollow, ReachesASoundTaskLine, TasksSeen, call_at, chained_at, columns_at, continues_group, counter_at, counters_with, described_at, described_of, first_mode, form_of_asked, given_by, has_room_for, made_at, mode_after, name_at, names_of, near_at, nears_of, needs_from, no_standing, place_in_chain, placed, planned_at, planned_of, setup_at, setup_of, standing_after, standing_by, standing_in, standing_of, task_at, tasks_of, unwatched_at, unwatched_of}
pub use Rattle.gc_texts.specs.Troubles.{HasTarget, IsAgreeTrouble, IsAskingTrouble, IsCallTrouble, IsDescriptionTrouble, IsFaultOfCommand, IsFit, IsNearTrouble, IsOutsideTrouble, IsProcedureTrouble, IsRaw, IsRawWordsTrouble, IsRequestTrouble, IsRestTrouble, IsUnfit, IsWordTrouble, NoRpc, NoTarget, asks_outside, fits_hz, fits_v, parameters_trouble, raw_trouble}
pub use Rattle.gc_texts.specs.ValueFiles.{AddsFiles, AddsFilesOf, AreFilesFrom, AreFilesOf, AreNextFiles, NameFiles, takes_next}
pub use Rattle.gc_texts.specs.ValueItems.{AreValueFiles, IsSoundItem, IsValueFile, filled, filled_call, has_quote, is_value_item, no_needs, put_in, sampled, samples, text_for, value_items, values_after, values_asked, values_in, with_item}
pub use Rattle.gc_texts.specs.Watching.{is_unwatched}
pub use Rattle.gc_texts.specs.Wishes.{AsksFor, IsDescribedWish, IsOutsideRequest, IsRawRequest, IsRawWish, IsRequest, IsWish, IsWorded, wish_of}
pub use Rattle.gc_texts.specs.WordLists.{TakesWord, pieces_left, pieces_of, with_front, words_of}
pub use Rattle.gc_texts.specs.Words.{AreWords, after_three_words, after_two_words, first_word, second_word, third_word}
pub use Rattle.gc_texts.specs.declared.again.Again.{Again}
pub use Rattle.gc_texts.specs.declared.agree.Agree.{Agree}
pub use Rattle.gc_texts.specs.declared.agree.Twice.{Twice}
pub use Rattle.gc_texts.specs.declared.agree.Twice.TheVariants.{Once}
pub use Rattle.gc_texts.specs.declared.attempts.Planned.{Planned}
pub use Rattle.gc_texts.specs.declared.codes.Codes.{Codes}
pub use Rattle.gc_texts.specs.declared.commands.Command.{Command}
pub use Rattle.gc_texts.specs.declared.description.Description.{Description}
pub use Rattle.gc_texts.specs.declared.expectation.Expectation.{Expectation}
pub use Rattle.gc_texts.specs.declared.fault.RunFault.{RunFault}
pub use Rattle.gc_texts.specs.declared.field.Field.{Field}
pub use Rattle.gc_texts.specs.declared.field.Stop.{Stop}
pub use Rattle.gc_texts.specs.declared.field.Stop.TheVariants.{Arrow, End, More}
pub use Rattle.gc_texts.specs.declared.form.Form.{Form}
pub use Rattle.gc_texts.specs.declared.judgement.Judgement.TheVariants.{Disagree, OffTarget, Unexpected}
pub use Rattle.gc_texts.specs.declared.log_line.LogMark.{LogMark}
pub use Rattle.gc_texts.specs.declared.log_line.LogMark.TheVariants.{Came, CamePart, Link, Went, WentPart}
pub use Rattle.gc_texts.specs.declared.mode.Mode.{Mode}
pub use Rattle.gc_texts.specs.declared.mode.Standing.{Standing}
pub use Rattle.gc_texts.specs.declared.name.Name.{Name}
pub use Rattle.gc_texts.specs.declared.near.Near.{Near}
pub use Rattle.gc_texts.specs.declared.near.Range.{Range}
pub use Rattle.gc_texts.specs.declared.retry.Retry.{Retry}
pub use Rattle.gc_texts.specs.declared.sending.Sending.{Sending}
pub use Rattle.gc_texts.specs.declared.sending.Sending.TheVariants.{First, Second}
pub use Rattle.gc_texts.specs.declared.stamp.Date.{Date}
pub use Rattle.gc_texts.specs.declared.task_line.TaskLine.{TaskLine}
pub use Rattle.gc_texts.specs.declared.tasks.Task.{Task}
pub use Rattle.gc_texts.specs.declared.trouble.Trouble.{Trouble}
pub use Rattle.gc_texts.specs.declared.wish.Wish.{Wish}
pub use Rattle.gc_texts.specs.declared.wording.Wording.{Wording}
pub use Rattle.gc_texts.specs.declared.wording.Wording.TheVariants.{Described, Now, Plain}
