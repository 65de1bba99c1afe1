use Rattle.gc_texts.proofs.Common.{rules, ◌≡◌, ℕ, List, option_copied, AreRequestAndItems}
use Rattle.gc_texts.proofs.ExpectForms.{are_parts, has_equals, has_space_behind, has_front, has_one_space, has_space_before}
use Rattle.gc_texts.proofs.Items.{no_bytes}
use Rattle.gc_texts.proofs.task_line.cut_items.Goals as goal

pub returns-in_err-rest-clause-none : goal.returns-in_err-rest-clause-none
returns-in_err-rest-clause-none c =
    let none : (request items : List ℕ) → AreRequestAndItems c.args.text.now request items → ⊥ =
    λ request items are. has_equals c.args.text.now c.cut_at.result.0.now request items (option_copied c.cut_at.result.1) c.cut_at.ensures are (search rules) in
    search rules

pub returns-in_err-items-clause-none : goal.returns-in_err-items-clause-none
returns-in_err-items-clause-none c =
    let none : (request items : List ℕ) → AreRequestAndItems c.args.text.now request items → ⊥ =
    λ request items are. has_space_behind c.args.text.now c.cut_at.result.0.now request items (option_copied c.cut_at.result.1) c.cut_at.ensures are
    c.in_ok-rest.field-0.now (search rules) c.in_err-items.ensures in
    search rules

pub returns-in_err-last-clause-none : goal.returns-in_err-last-clause-none
returns-in_err-last-clause-none c =
    let none : (request items : List ℕ) → AreRequestAndItems c.args.text.now request items → ⊥ =
    λ request items are. has_front c.args.text.now c.cut_at.result.0.now request items (option_copied c.cut_at.result.1) c.cut_at.ensures are
    (no_bytes c.cut_at.result.0.now c.in_err-last.ensures.cases) in
    search rules

pub returns-then-last-ne32-clause-none : goal.returns-then-last-ne32-clause-none
returns-then-last-ne32-clause-none c request items are =
    let last : c.in_ok-last.last.now ≡ 32 =
    has_space_before c.args.text.now c.cut_at.result.0.now request items (option_copied c.cut_at.result.1) c.cut_at.ensures are c.in_ok-last.request.now c.in_ok-last.last.now (search rules) in
    search rules

pub returns-then-ends_in_space-clause-none : goal.returns-then-ends_in_space-clause-none
returns-then-ends_in_space-clause-none c request items are =
    has_one_space c.args.text.now c.cut_at.result.0.now request items (option_copied c.cut_at.result.1) c.cut_at.ensures are c.in_ok-last.request.now c.in_ok-last.last.now
    (search rules) (search rules) (search rules)

pub returns-clause-found : goal.returns-clause-found
returns-clause-found c =
    are_parts c.args.text.now c.cut_at.result.0.now c.in_ok-last.request.now c.in_ok-items.items.now c.in_ok-rest.field-0.now c.in_ok-last.last.now (option_copied c.cut_at.result.1)
    c.cut_at.ensures (search rules) (search rules) (search rules) (search rules) (search rules)
