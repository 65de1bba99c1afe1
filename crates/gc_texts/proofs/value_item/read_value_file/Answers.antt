use Rattle.gc_texts.proofs.Common.{rules, ◌≡◌, ◌++◌, ◌∷◌, ℕ, [], None, Some, option_copied, ValueFile, Cuts, IsNumber, IsValueFile}
use Rattle.gc_texts.proofs.ValueForms.{names_file_or_none, no_cut, no_seconds, none_for_zero}
use Rattle.gc_texts.proofs.value_item.read_value_file.Goals as goal

pub returns-in_err-digits : goal.returns-in_err-digits
returns-in_err-digits c =
    let braces : c.args.item.now ≡ 123 ∷ (c.in_ok-last.inside.now ++ 125 ∷ []) = search rules in
    let none : option_copied c.cut_at.result.1 ≡ None = search rules in
    let unread : (file : ValueFile) → IsValueFile c.args.item.now file → ⊥ =
    no_cut c.args.item.now c.in_ok-last.inside.now c.cut_at.result.0.now (option_copied c.cut_at.result.1) braces c.cut_at.ensures none in
    search rules

pub returns-in_err-seconds : goal.returns-in_err-seconds
returns-in_err-seconds c =
    let braces : c.args.item.now ≡ 123 ∷ (c.in_ok-last.inside.now ++ 125 ∷ []) = search rules in
    let cut : Cuts 32 c.in_ok-last.inside.now c.cut_at.result.0.now (Some c.in_ok-digits.field-0.now) = search rules in
    let none : (n : ℕ) → IsNumber c.in_ok-digits.field-0.now n 86400 → ⊥ = search rules in
    let unread : (file : ValueFile) → IsValueFile c.args.item.now file → ⊥ =
    no_seconds c.args.item.now c.in_ok-last.inside.now c.cut_at.result.0.now c.in_ok-digits.field-0.now braces cut none in
    search rules

pub returns-then-seconds-eq0 : goal.returns-then-seconds-eq0
returns-then-seconds-eq0 c =
    let braces : c.args.item.now ≡ 123 ∷ (c.in_ok-last.inside.now ++ 125 ∷ []) = search rules in
    let cut : Cuts 32 c.in_ok-last.inside.now c.cut_at.result.0.now (Some c.in_ok-digits.field-0.now) = search rules in
    let number : IsNumber c.in_ok-digits.field-0.now c.in_ok-seconds.seconds 86400 = search rules in
    let zeroed : c.in_ok-seconds.seconds ≡ 0 = search rules in
    none_for_zero c.args.item.now c.in_ok-last.inside.now c.cut_at.result.0.now c.in_ok-digits.field-0.now c.in_ok-seconds.seconds braces cut number zeroed

pub returns : goal.returns
returns c =
    let braces : c.args.item.now ≡ 123 ∷ (c.in_ok-last.inside.now ++ 125 ∷ []) = search rules in
    let cut : Cuts 32 c.in_ok-last.inside.now c.cut_at.result.0.now (Some c.in_ok-digits.field-0.now) = search rules in
    let number : IsNumber c.in_ok-digits.field-0.now c.in_ok-seconds.seconds 86400 = search rules in
    let some : c.in_ok-seconds.seconds ≡ 0 → ⊥ = search rules in
    names_file_or_none c.args.item.now c.in_ok-last.inside.now c.cut_at.result.0.now c.in_ok-digits.field-0.now c.in_ok-seconds.seconds c.new.result braces cut number some
    c.new.ensures.found c.new.ensures.none
