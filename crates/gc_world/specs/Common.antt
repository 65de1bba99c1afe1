-- The names that this crate's definitions cite of others, passed on from one place. Declares nothing.
pub use Rattle.std.specs.List.{AllByRecursion}
pub use Rattle.gc_lines.specs.Prelude.{IsPlain, Kept, StandsFor, with_end}
pub use Rattle.gc_catalogue.specs.Prelude.{IsFitting, call_fields, request_line}
pub use Rattle.gc_catalogue.specs.declared.answer.Reading.{Reading}
pub use Rattle.gc_catalogue.specs.declared.call.Call.{Call}
pub use Rattle.gc_instrument.specs.Prelude.{Handed, IsFittingState, KeptReply, State, executed_line, kept_line, restarted, without_kept}
unfoldable pub use Rattle.gc_instrument.specs.Prelude.{exec, handed}
pub use Rattle.gc_scenes.specs.Prelude.{SceneState, scene_restarted}
unfoldable pub use Rattle.gc_scenes.specs.Prelude.{handed_call}
pub use Rattle.gc_client.specs.Prelude.{Answered, AreSettlements, ById, Late, Lost, Outcome, ReadsAs, Sending, Settled, Settlement, Wanted, Windowed, expired, expires, fits, fresh, heard, hears, lost, pending_of, restarts, sends, settle}
pub use Rattle.gc_client.specs.declared.window.TheConstants.{IDS, WINDOW}
