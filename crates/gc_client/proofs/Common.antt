-- The names that this crate's proofs cite, passed on from one place. Declares nothing.
pub use Rattle.arrayvec.specs.ArrayVec.{ArrayVec}
pub use Rattle.std.proofs.Common.{Bool, Err, List, None, Ok, Option, Result, Some, [], ap, append_assoc, ap₂, arith, drop, eqb, false, filter, get_or, get_or-drop, get_or-take, if◌then◌else◌, inl, inr, leb, length, length-append, length-drop, length-set, length-take-le, ltb, map, mod-eq_of_lt, nat_eq, not, refl, set, subst, suc, sym, take, true, zero, ℕ, ◌%◌, ◌&&◌, ◌++◌, ◌+◌, ◌-◌, ◌<◌, ◌||◌, ◌↔◌, ◌∙◌, ◌∷◌, ◌≡◌, ◌≤◌, ◌⊎◌}
pub use Rattle.std.proofs.lemmas.Bool.{and_right, cases_lt, eq-eqb, eqb-true, le-leb, lt-leb, lt-ltb, ltb-true}
pub use Rattle.std.proofs.lemmas.List.{append-nil, drop_more, get_or-append_right, get_or_append_left, map-append, same_lists, take_all, take_more, take_more_set}
pub use Rattle.std.proofs.lemmas.List.Elements.{All-append, filter-append}
pub use Rattle.std.proofs.lemmas.Option.{get_or_from_slice_get, none-some, slice_get_within}
pub use Rattle.std.specs.Option.{is_some, option_copied_mut}
pub use Rattle.std.specs.Prelude.{IsSome, nat_le, slice_get}
pub use Rattle.gc_lines.proofs.Replies.{reply_again, reply_found}
pub use Rattle.gc_lines.specs.Prelude.{IsIdInRange, IsReply, ReplyFields, reply_seen}
unfoldable pub use Rattle.gc_lines.specs.Prelude.{reply_at}
pub use Rattle.gc_catalogue.specs.Prelude.{ReadingRule}
pub use Rattle.gc_client.specs.Places.{waiting_in}
pub use Rattle.gc_client.specs.Rule.{ById, IsEarliest, Settled, Windowed, deadlines, expired, expiring, given_up_at, heard, hears, id_in, is_expiring, lost, place, place_in, restarts, send_unless_full, settle, settled_by_line, settles_at}
pub use Rattle.gc_client.specs.Settlements.{AreReadBy, AreSettledBy, IsAnsweredBy, IsReadBy, IsSettledBy, settlement_seen}
pub use Rattle.gc_client.specs.declared.pending.Pending.{Pending}
pub use Rattle.gc_client.specs.declared.settlement.Settlement.{Settlement}
