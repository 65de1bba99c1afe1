use Rattle.gc_texts.proofs.Common.{rules, ◌≡◌, None, sym, subst, ◌∷◌, ◌++◌, Lacks, items_trouble, AreRequestAndItems, IsExpectLine, IsWorded, after_two_words, Expectation, Wish, Wording}
use Rattle.gc_texts.proofs.ExpectForms.{unsound, wishless}
use Rattle.gc_texts.proofs.Fronts.{before_lacks}
use Rattle.gc_texts.proofs.task_line.read_expecting.Goals as goal

pub read_worded-requires : goal.read_worded-requires
read_worded-requires c = subst (Lacks 32) (sym c.before-3.ensures.is) (before_lacks 32 c.args.line.now)

pub returns-in_err-wish : goal.returns-in_err-wish
returns-in_err-wish c =
    let parts : AreRequestAndItems (after_two_words c.args.line.now) c.in_ok-request.request.now c.in_ok-request.items.now = search rules in
    let none : (r : Wish × Wording × Expectation) → IsExpectLine c.args.line.now r.0 r.1 r.2 → ⊥ =
    wishless c.args.line.now c.in_ok-request.request.now c.in_ok-request.items.now parts
    (subst (λ t. (r : Wish × Wording) → IsWorded r.1 (t ++ 32 ∷ c.in_ok-request.request.now) r.0 → ⊥) c.before-3.ensures.is c.in_err-wish.ensures) in
    search rules

pub returns-then-is_some : goal.returns-then-is_some
returns-then-is_some c =
    let parts : AreRequestAndItems (after_two_words c.args.line.now) c.in_ok-request.request.now c.in_ok-request.items.now = search rules in
    let some : items_trouble c.in_ok-request.items.now ≡ None → ⊥ = λ e. search rules in
    unsound c.args.line.now c.in_ok-request.request.now c.in_ok-request.items.now parts some
