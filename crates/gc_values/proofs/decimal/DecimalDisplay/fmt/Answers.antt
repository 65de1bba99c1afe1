use Rattle.gc_values.proofs.AsciiText.{utf8_written}
use Rattle.gc_values.proofs.decimal.DecimalDisplay.fmt.Goals as goal

pub unreachable-requires : goal.unreachable-requires
unreachable-requires g c =
    let d = c.args.self.now in
    c.in_default.ensures.cases.0 (rw (c.as_slice.ensures.value, c.write-text.ensures.text) (utf8_written d.digits d.scale))
