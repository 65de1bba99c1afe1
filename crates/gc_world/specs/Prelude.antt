-- The names that crates above cite, passed on from one place. Declares nothing.
pub use Rattle.gc_world.specs.Clients.{ByNumber, by_ids, by_numbers, ids_open, number_reply, number_send, numbers_open, played}
pub use Rattle.gc_world.specs.Exchange.{IsExchange, ReadsWithItsId}
pub use Rattle.gc_world.specs.Faithful.{sent_seen}
pub use Rattle.gc_world.specs.Order.{Rising, numbers}
pub use Rattle.gc_world.specs.Record.{IsBooked, IsOneForOne, IsReplyTo}
pub use Rattle.gc_world.specs.Reports.{IsReport, made_seen}
pub use Rattle.gc_world.specs.SceneRuns.{scene_played}
pub use Rattle.gc_world.specs.World.{Wire}
pub use Rattle.gc_world.specs.Worlds.{of_sent}
