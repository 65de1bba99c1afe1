-- The names that this crate's proofs cite, passed on from one place. Declares nothing.
pub use base.Logic.{SProp, ent}
pub use contract.Monad.{Fun}
pub use contract.Running.{tables}
pub use denote.Builtin.{RefOf}
pub use denote.Exit.{yes}
pub use denote.RattleType.{owns}
pub use denote.Signature.{named_lft, plain, types_at}
pub use denote.Steps.{nothing}
pub use denote.Triple.Clauses.{Clauses, Ended, closing}
pub use denote.Triple.Entry.{alive}
pub use denote.Triple.Spec.{Meets, triple_of}
pub use denote.Triple.Table.{entered}
pub use denote.Triple.Walked.{Goes-dropped, Stays, ends_at, says, stay_dropped, walk_Meets, walk_of}
pub use mathlib.Core.Logic.{∥∥₁_elim, ∥∥₁_map, ∥∥₁_prop}
pub use mir.Syntax.{Fn}
pub use mir.Val.{Val, vptr}
pub use prog.Memory.{Memory}
pub use prog.Routine.{Routine}
pub use prog.Wp.{Calls, Loops, Tables, WpFn}
pub use seplogic.Ra.Ura.{Ura}
pub use sound.WpLaws.{WpFn-mono}
pub use types.ByLocal.{alloc_all, free_all, look_at, pass_all, sets}
pub use types.Kit.{ !, done, drop, feq_l, fjoin, fsplit, keep, move, prop, qed, raw, regoal, split, suffices, ‵, ◌$◌, ◌∵◌, ◌⊛◌}
pub use types.Logic.{Logic}
pub use types.Part.{agg}
pub use types.Run.{enter, no_more, returns}
pub use Rattle.std.proofs.Common.{All, Bool, Err, IfOk, List, None, Ok, Option, Result, Some, [], add-one, ap, append-nil, append_assoc, arith, eq-zero-or-pos, false, flat_map, get_or, inl, inr, le_of_eq, length, length-append, lt_of_lt_of_le, map, refl, replicate, rules, slice_set, subst, suc, sym, take, true, ℕ, ⊎_elim, ◌++◌, ◌+◌, ◌-◌, ◌<◌, ◌||◌, ◌∙◌, ◌∷◌, ◌≡◌, ◌≤◌}
pub use Rattle.std.proofs.Math.Seq.{set-append_seam, take-nil}
pub use Rattle.std.proofs.lemmas.Grind.{flat_map-append, merely}
pub use Rattle.std.proofs.lemmas.List.{drop-drop, length-drop, length-take-le, map-append, nil_from_length, take_all, take_more}
pub use Rattle.std.proofs.lemmas.List.Elements.{All-append, All-cons, All-nil}
pub use Rattle.std.specs.Net.ToAddrs.{HostAddrs, host_addrs}
pub use Rattle.std.specs.Time.{instant_nanos}
pub use Rattle.std.specs.declared.net.socket_addr.SocketAddr.{SocketAddr}
pub use Rattle.gc_lines.proofs.Walks.{no_fields, no_fields_made}
pub use Rattle.gc_lines.specs.declared.ports.PortFailed.{PortFailed}
pub use Rattle.gc_values.specs.Prelude.{IsValueIn, no_value, no_values, path_of}
pub use Rattle.gc_values.specs.declared.file_value.ValueFile.{ValueFile}
pub use Rattle.gc_links.specs.Acts.{Act, Broke, Closed, Cut, Opened, Put, Silent, Told, Unopened, Untold, clock_act, open_act, put_act, read_act}
pub use Rattle.gc_links.specs.Answered.{connect_call, file_bytes, file_call, monotonic_call, open_end, wall_call, wired_end}
pub use Rattle.gc_links.specs.Calls.{Address, Asked, Call, CameNone, Device, Dropped, End, Found, Kept, Makes, Monotonic, NoMonotonic, NoWall, NotKept, Reached, Took, TookNone}
pub use Rattle.gc_links.specs.Clocks.{ClocksAfter, ClocksGive, MissesClocks, ReadsClocks, no_monotonic, no_wall}
pub use Rattle.gc_links.specs.Connecting.{Connects, ConnectsFirst, Reaches, ReachesFirst, ReachesNone, Seeks, none, not_reached}
pub use Rattle.gc_links.specs.Devices.{device_end, reach_call}
pub use Rattle.gc_links.specs.Does.{DoesConnected, DoesOver, IsIdle, Sends, with_bytes, without_bytes}
pub use Rattle.gc_links.specs.DoesOnDevice.{AreMeantOnDevice, DoesOnDevice, HoldsFirst, LeavesNone, Takes, TakesNone, again, anew}
pub use Rattle.gc_links.specs.DoesOnTcp.{DoesOnTcp, dropped, unreached}
pub use Rattle.gc_links.specs.Holds.{Aside, Hold, Linked, Nothing, ended, ending, hold_after, linked_end}
pub use Rattle.gc_links.specs.Meant.{AreDone, AreMeant, Deed, after_all}
pub use Rattle.gc_links.specs.Noted.{act_of}
pub use Rattle.gc_links.specs.Placed.{AreMeantAt, AreMeantOnTcp, PlaceSeen, acts_in, calls_in, place_in, place_seen}
pub use Rattle.gc_links.specs.Seeing.{AreSeen, AreTaken, AreValues, IsLook, IsSeen, IsSeenAt, IsTakenBy, IsTouch, SignalsSeen, begun, more, one_more, path_at, signals_at}
pub use Rattle.gc_links.specs.Slots.{TakesDevice, TakesHeld, hold_of}
pub use Rattle.gc_links.specs.declared.connection.Peer.{Peer}
pub use Rattle.gc_links.specs.declared.link.Came.{Came}
pub use Rattle.gc_links.specs.declared.link.Came.TheVariants.{NoMoment, Silence}
pub use Rattle.gc_links.specs.declared.link.Moment.{Moment}
pub use Rattle.gc_links.specs.declared.system.sockets.Wired.{Wired}
