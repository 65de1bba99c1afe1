use Rattle.gc_texts.proofs.Common.{rules, ◌∷◌, ◌++◌, IsWorded, Wish, Wording}
use Rattle.gc_texts.proofs.DescribedForms.{no_worded}
use Rattle.gc_texts.proofs.wish.read_worded.Goals as goal

pub returns-in_err-wish : goal.returns-in_err-wish
returns-in_err-wish c =
    let none : (r : Wish × Wording) → IsWorded r.1 (c.args.target.now ++ 32 ∷ c.args.rest.now) r.0 → ⊥ =
    no_worded (c.args.target.now ++ 32 ∷ c.args.rest.now) c.in_default.ensures c.in_err-wish.ensures in
    search rules
