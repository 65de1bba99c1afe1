use Rattle.gc_values.proofs.Common.{◌≡◌, sym, subst, rules, IsByte, byte_text}
use Rattle.gc_values.proofs.ByteLemmas.{byte_reads}
use Rattle.gc_values.proofs.byte.write_byte.Goals as goal

pub returns-clause-reads_back : goal.returns-clause-reads_back
returns-clause-reads_back c =
    let text : c.push_byte.new.out.items ≡ byte_text c.args.v = search rules in
    subst (λ text. IsByte text c.args.v) (sym text) (byte_reads c.args.v (search rules))
