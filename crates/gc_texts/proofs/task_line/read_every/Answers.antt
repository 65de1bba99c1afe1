use Rattle.gc_texts.proofs.Common.{rules, ◌≡◌, ℕ, true, false, Some, sym, ◌∙◌, option_copied, IsNumber, IsEveryLine}
use Rattle.gc_texts.proofs.EveryForms.{unspaced_is_no_every, other_word_is_no_every, numberless_is_no_every, zero_is_no_every, is_every_line}
use Rattle.gc_texts.proofs.Procedures.{with_rest}
use Rattle.gc_texts.proofs.task_line.read_every.Goals as goal

pub returns-in_err-word : goal.returns-in_err-word
returns-in_err-word c =
    let none : (every : ℕ) → IsEveryLine c.args.line.now every → ⊥ =
    λ every is. unspaced_is_no_every c.args.line.now c.in_ok-rest.rest.now c.cut_at.result.0.now (option_copied c.cut_at.result.1) every
    c.in_ok-rest.ensures c.cut_at.ensures is (search rules) in
    search rules

pub returns-then-not-is_word : goal.returns-then-not-is_word
returns-then-not-is_word c every is =
    let given : option_copied c.cut_at.result.1 ≡ Some c.in_ok-word.word.now = search rules in
    other_word_is_no_every c.args.line.now c.in_ok-rest.rest.now c.cut_at.result.0.now (option_copied c.cut_at.result.1) every
    c.in_ok-rest.ensures c.cut_at.ensures is c.in_ok-word.word.now given
    (λ same. let both : true ≡ false = sym (c.is_word.ensures.1 same) ∙ c.if-not-is_word.true in cc)

pub returns-in_err-every : goal.returns-in_err-every
returns-in_err-every c =
    let none : (every : ℕ) → IsEveryLine c.args.line.now every → ⊥ =
    λ every is. numberless_is_no_every c.args.line.now c.in_ok-rest.rest.now c.cut_at.result.0.now (option_copied c.cut_at.result.1) every
    c.in_ok-rest.ensures c.cut_at.ensures is c.in_err-every.ensures in
    search rules

pub returns-then-every-eq0 : goal.returns-then-every-eq0
returns-then-every-eq0 c every is =
    let number : IsNumber c.cut_at.result.0.now c.in_ok-every.every 65535 = search rules in
    let zeroed : c.in_ok-every.every ≡ 0 = search rules in
    zero_is_no_every c.args.line.now c.in_ok-rest.rest.now c.cut_at.result.0.now (option_copied c.cut_at.result.1) every
    c.in_ok-rest.ensures c.cut_at.ensures is c.in_ok-every.every number zeroed

pub returns : goal.returns
returns c =
    let number : IsNumber c.cut_at.result.0.now c.in_ok-every.every 65535 = search rules in
    let some : c.in_ok-every.every ≡ 0 → ⊥ = search rules in
    is_every_line c.args.line.now c.in_ok-rest.rest.now c.cut_at.result.0.now c.in_ok-word.word.now c.in_ok-every.every c.in_ok-rest.ensures
    (with_rest 32 c.in_ok-rest.rest.now c.cut_at.result.0.now (option_copied c.cut_at.result.1) (Some c.in_ok-word.word.now) c.cut_at.ensures (search rules))
    (c.is_word.ensures.0 c.if-not-is_word.false) number some
