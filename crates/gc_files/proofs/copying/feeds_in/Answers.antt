use Rattle.gc_files.proofs.Common.{rules, ◌≡◌, ◌==◌, ◌∙◌, sym, arith, count_by}
use Rattle.std.proofs.lemmas.List.Sums.{length-filter, count_by-le-length}
use Rattle.gc_files.proofs.copying.feeds_in.Goals as goal

pub returns-clause-is : goal.returns-clause-is
returns-clause-is c =
    let counted : c.count.result ≡ count_by (λ b. b == 10) c.args.block.now = search rules in
    counted ∙ sym (length-filter (λ b. b == 10) c.args.block.now)

pub returns-clause-within : goal.returns-clause-within
returns-clause-within c =
    let counted : c.count.result ≡ count_by (λ b. b == 10) c.args.block.now = search rules in
    omega (arith, counted, count_by-le-length (λ b. b == 10) c.args.block.now)
