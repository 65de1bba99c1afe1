use Rattle.gc_values.proofs.Common.{◌≡◌, ◌++◌, ◌∷◌, [], rules, without_cr}
use Rattle.gc_values.proofs.file_value.line_in.Goals as goal

pub returns-clause-found : goal.returns-clause-found
returns-clause-found c =
    let last : c.in_ok-last.last.now ≡ 10 = search rules in
    let parts : c.args.bytes.now ≡ c.in_ok-last.line.now ++ c.in_ok-last.last.now ∷ [] = search rules in
    let line : c.without_cr.result.now ≡ without_cr c.in_ok-last.line.now = search rules in
    record { before = c.in_ok-last.line.now; bytes_are = cc; line_is = line }
