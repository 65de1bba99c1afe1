use Rattle.geocom_c.proofs.Common.{rules, ◌+◌, ◌-◌, length, arith, ap}
use Rattle.std.proofs.lemmas.Slice.{drop-put_mid}
use Rattle.geocom_c.proofs.rest.put_text.Goals as goal

pub returns-clause-written : goal.returns-clause-written
returns-clause-written c =
    let at = c.args.at in
    let n = length c.args.text.now in
    record {
      untouched = drop-put_mid at (at + n - at) c.args.bytes.now c.copy_from_slice.new.self (at + n)
          (omega arith) (omega (arith, c.requires)) (omega (arith, ap length c.copy_from_slice.ensures.after));
      length = search rules;
    }
