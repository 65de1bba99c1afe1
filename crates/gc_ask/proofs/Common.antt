-- The names that this crate's proofs cite, passed on from one place. Declares nothing.
pub use Rattle.std.proofs.Common.{Bool, Err, List, None, Ok, OnOk, Option, Result, Some, [], ap, append-nil, append_assoc, arith, codes, cond, drop, drop-drop, false, inl, inr, length, length-append, length-drop, ltb, map, not, refl, rules, subst, suc, sym, take, true, ℕ, ◌%◌, ◌*◌, ◌++◌, ◌+◌, ◌-◌, ◌<◌, ◌∙◌, ◌∷◌, ◌≡◌, ◌≤◌}
pub use Rattle.std.proofs.KnownBytes.{Appends-nil, Appends-trans, Consumes-kept, Consumes-nil, Consumes-trans}
pub use Rattle.std.proofs.lemmas.Bool.{cases_lt, false≢true, ltb-true}
pub use Rattle.std.proofs.lemmas.List.{drop_all, length-map, length-take, length_push, map-append, take_all, take_rest}
pub use Rattle.std.specs.Io.KnownBytes.{Appends, Consumes}
pub use Rattle.std.specs.List.{AllByRecursion, filter_map, flat_map, position}
pub use Rattle.gc_lines.proofs.Cutting.{cut_some, pieces-append, rest-append}
pub use Rattle.gc_lines.proofs.Known.{Appends-is}
pub use Rattle.gc_lines.proofs.Passing.{Takes, assembler_takes}
pub use Rattle.gc_lines.specs.Prelude.{AnswerRule, AppendsAnswer, FailsWith, Kept, Ports, StandsFor, Taken, all_of, completed, frame_of, frames_behind, is_line_feed, lent_seen, line_in, lines, lines_completed, pieces_behind, ports_of, rest_behind, rest_of, taken_by, with_end}
pub use Rattle.gc_lines.specs.declared.frame.Frame.{Frame}
pub use Rattle.gc_lines.specs.declared.frame.Frame.TheVariants.{Cleared, Line, More, Overlong}
pub use Rattle.gc_texts.proofs.SettlementLines.{lines_of_one_more, split_at_item}
pub use Rattle.gc_texts.specs.Prelude.{Input, WrotePartOfSettlements, WroteSettlements, end_of_serving, input_of, run_fault_number, settlement_line, settlement_lines, settlement_lines_from, source_of}
pub use Rattle.gc_texts.specs.declared.commands.Command.{Command}
pub use Rattle.gc_texts.specs.declared.fault.RunFault.{RunFault}
pub use Rattle.gc_texts.specs.declared.fault.RunFault.TheVariants.{LinkClosed, Memory, Output, Read, Socket, TooManyReads, Write}
pub use Rattle.gc_catalogue.specs.declared.call.Call.{Call}
pub use Rattle.gc_scenes.specs.Prelude.{HearsLine, HearsSometime, SlowState}
pub use Rattle.gc_client.specs.Prelude.{AreSettlements, ById, IsWithinLimits, Settlement, Waits, fits, heard, hears, hears_line, place_in, restarts, settled_by_line, settlement_seen}
pub use Rattle.gc_ask.specs.AskRuns.{AskRuns, AsksAtClient, SeenAtClient, written_at_client}
pub use Rattle.gc_ask.specs.Asking.{AskingEnds, Asks, AsksAll, FirstReply, IsCutAt, IsNext, LinkResult, LosesOne, NoneEnded, ReachesCommand, StopsAt, UseEnds, WritesPart, Written, asked, asked_from, awaited, first_reply, lost_of, ready_for, settled_by, waiting_for, written_request, written_requests}
pub use Rattle.gc_ask.specs.Keeping.{AddsEnds, ConnectionEnd, KeepsCallers, ServesCaller, ServesCallers, ServesTurns, caller_line, end_line, end_lines}
pub use Rattle.gc_ask.specs.Links.{BothStep, CountsReplies, ReadEnds, SeenStep, Sends, StaysOpen, StepEnds, TakesRequest, no_ports}
pub use Rattle.gc_ask.specs.Listening.{AsksOne, ClientHeard, Exchanges, HearsReply, IsQuiet, LinkOnlyReads, Settles, SettlesNothing, TakesFrame, heard_by, reads_of, seen_through}
pub use Rattle.gc_ask.specs.Looping.{AsksAtBoth, BothEnd, LoopRunsConnected, RunsAtBoth, SeenAtBoth, at_client, seen_at_both, seen_of, written_at_both}
pub use Rattle.gc_ask.specs.Serving.{EndedWell, ServedConnection, ServesConnection, ServesEach, ServesInOrder, ServesNext, ServesOne, ServesWell}
pub use Rattle.gc_ask.specs.declared.unused.TheConstants.{ROOM}
