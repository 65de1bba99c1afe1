use Rattle.gc_texts.proofs.Common.{ℕ, List, [], unwrap_or, sym, ap, ◌∙◌, option_copied}
use Rattle.gc_texts.proofs.Fronts.{cut_behind}
use Rattle.gc_texts.proofs.cuts.behind.Goals as goal

pub returns-in-Some-clause-is : goal.returns-in-Some-clause-is
returns-in-Some-clause-is c =
    sym (ap (λ r. unwrap_or {T = List ℕ} (option_copied r) []) c.in-Some.is) ∙ cut_behind c.args.mark c.args.text.now c.cut_at.result.0.now (option_copied c.cut_at.result.1) c.cut_at.ensures

pub returns-in-None-clause-is : goal.returns-in-None-clause-is
returns-in-None-clause-is c =
    sym (ap (λ r. unwrap_or {T = List ℕ} (option_copied r) []) c.in-None.is) ∙ cut_behind c.args.mark c.args.text.now c.cut_at.result.0.now (option_copied c.cut_at.result.1) c.cut_at.ensures
