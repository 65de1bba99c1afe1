use Rattle.gc_values.proofs.Common.{◌≡◌, sym, subst, rules, NamesWhole, signed_text}
use Rattle.gc_values.proofs.WholeText.{signed_reads}
use Rattle.gc_values.proofs.whole.write_long.Goals as goal

pub returns-clause-reads_back : goal.returns-clause-reads_back
returns-clause-reads_back c =
    let text : c.push_long.new.out.items ≡ signed_text c.args.v = search rules in
    subst (λ text. NamesWhole text c.args.v) (sym text) (signed_reads c.args.v)
