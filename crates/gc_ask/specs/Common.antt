-- The names that this crate's definitions cite of others, passed on from one place. Declares nothing.
pub use Rattle.std.specs.Io.KnownBytes.{Appends, Consumes, Keeps}
pub use Rattle.std.specs.List.{AllByRecursion, flat_map}
pub use Rattle.gc_lines.specs.Prelude.{AnswerRule, AnswersRun, HasEnded, Kept, Ports, StandsFor, Taken, TakesFront, all_of, lines, lines_completed, ports_of, rest_behind, serve_fault_text, taken_by, with_end}
pub use Rattle.gc_lines.specs.declared.frame.Frame.{Frame}
pub use Rattle.gc_lines.specs.declared.ports.Sink.{Ghosts}
pub use Rattle.gc_lines.specs.declared.served.ServeFault.{ServeFault}
pub use Rattle.gc_lines.specs.declared.served.Served.{Served}
pub use Rattle.gc_texts.specs.Prelude.{GaveBytes, GivesCommands, Input, RefusesCommands, WrotePartOfSettlements, end_of_serving, escaped, run_fault_text, settlement_line, settlement_lines, settlement_lines_from, source_of}
pub use Rattle.gc_texts.specs.declared.commands.Command.{Command}
pub use Rattle.gc_texts.specs.declared.fault.RunFault.{RunFault}
pub use Rattle.gc_texts.specs.declared.fault.RunFault.TheVariants.{LinkClosed, Memory, Output, Read, Socket, TooManyReads, Write}
pub use Rattle.gc_catalogue.specs.declared.call.Call.{Call}
pub use Rattle.gc_client.specs.Prelude.{AreSettlements, ById, Settlement, fits, heard, hears_line, lost, pending_of, settled_by_line, settlement_seen}
pub use Rattle.gc_client.specs.declared.window.TheConstants.{IDS}
