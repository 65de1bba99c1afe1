-- The names that this crate's definitions cite of others, passed on from one place. Declares nothing.
pub use Rattle.std.specs.Fmt.{decimal}
pub use Rattle.std.specs.Io.KnownBytes.{Appends}
pub use Rattle.std.specs.List.{AllZip, list_all, starts_with}
pub use Rattle.gc_lines.specs.Prelude.{FirstBadOfReply, FirstBadOfRequest, IsReply, IsRequest, IsRunOverPorts, PastSignature, Ports, ReplyFields, RequestFields, TakesPart, WholeOrCut, all_of, ends_in_return, frames, line_fault_number, numbered_fault, pieces_behind, reply_signature, rest_behind}
unfoldable pub use Rattle.gc_lines.specs.Prelude.{reply_at, request_at}
pub use Rattle.gc_lines.specs.declared.fault.LineFault.{LineFault}
pub use Rattle.gc_lines.specs.declared.frame.Frame.{Frame}
pub use Rattle.gc_lines.specs.declared.frame.Frame.TheVariants.{Cleared, Line, More, Overlong}
pub use Rattle.gc_lines.specs.declared.served.ServeFault.{ServeFault}
pub use Rattle.gc_lines.specs.declared.served.Served.{Served}
pub use Rattle.gc_values.specs.Prelude.{FitsLong, NamesWhole, SpellsDecimal}
pub use Rattle.gc_texts.specs.Prelude.{FailsAtRead, FirstFaulty, GaveBytes, IsLogLine, IsNumber, IsProcedureText, IsReadFault, IsReadToEnd, IsRpc, IsTarget, IsTextOf, IsWordAnd, ItemForm, Lacks, MemoryOnlyIf, TextFault, after_four_words, after_three_words, after_two_words, before, behind, escaped, first_word, fourth_word, has_part, is_impossible, is_sign_on, marked_text, second_word, settlement_lines, source_of, third_word}
pub use Rattle.gc_texts.specs.declared.fault.RunFault.{RunFault}
pub use Rattle.gc_texts.specs.declared.fault.RunFault.TheVariants.{Output, SceneFull, Schedule}
pub use Rattle.gc_texts.specs.declared.log_line.LogMark.{LogMark}
pub use Rattle.gc_texts.specs.declared.text.TheConstants.{TEXT_LIMIT}
pub use Rattle.gc_catalogue.specs.Prelude.{IsCall, IsRawRefusal, IsRefusal, raw_bytes, refusal_number}
pub use Rattle.gc_catalogue.specs.declared.call.Call.{Call}
pub use Rattle.gc_instrument.specs.Prelude.{IsFittingState, State, opening, simulator_opening}
pub use Rattle.gc_instrument.specs.declared.target.Target.{Target}
pub use Rattle.gc_scenes.specs.Prelude.{SceneState, SlowState, no_ways, still, with_way}
pub use Rattle.gc_scenes.specs.declared.delay.Delay.{Delay}
pub use Rattle.gc_scenes.specs.declared.rules.Fault.{Fault}
pub use Rattle.gc_scenes.specs.declared.rules.Noise.{Noise}
pub use Rattle.gc_scenes.specs.declared.rules.Prism.{Prism}
pub use Rattle.gc_scenes.specs.declared.rules.Scripted.{Scripted}
pub use Rattle.gc_client.specs.Prelude.{Settlement, is_answered, left_by, place, settlement_seen, the_word}
pub use Rattle.gc_world.specs.Prelude.{Wire, played, scene_played}
pub use Rattle.gc_world.specs.declared.event.Event.{Event}
