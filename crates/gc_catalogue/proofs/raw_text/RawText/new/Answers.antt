use Rattle.gc_catalogue.proofs.Common.{sym, subst, AreBytes}
use Rattle.std.proofs.Transfers.{drop-appended}
use Rattle.gc_catalogue.proofs.RawLines.{filled_front, filled_length}
use Rattle.gc_catalogue.proofs.RequestBytes.{bytes_from_index}
use Rattle.gc_catalogue.proofs.raw_text.RawText.new.Goals as goal

pub invariant_of-result : goal.invariant_of-result
invariant_of-result c =
    record {
      few = c.requires;
      long = filled_length c.args.bytes.now c.filled_up.result c.filled_up.ensures c.requires;
      zeros = drop-appended c.args.bytes.now c.filled_up.result _ c.filled_up.ensures;
      are_bytes = subst AreBytes (sym (filled_front c.args.bytes.now c.filled_up.result c.filled_up.ensures)) (bytes_from_index c.args.bytes.now (λ i. (c.type_inv.bytes i).fits));
    }

pub returns : goal.returns
returns c = filled_front c.args.bytes.now c.filled_up.result c.filled_up.ensures
