use Rattle.gc_values.proofs.Common.{◌≡◌, ℕ, List, Ok, Err, ap, inl, inr, refl, rules, sym, true, ◌∙◌, SpellsDecimal, decimal_text, are_fresh, value_bytes, HasValue, IsLineOf, Decimal}
use Rattle.gc_values.proofs.FileLemmas.{one_line}
use Rattle.gc_values.proofs.file_value.value_in.Goals as goal

pub returns-in_default : goal.returns-in_default
returns-in_default c =
    let none : (line : List ℕ) → IsLineOf c.args.bytes.now line → ⊥ = search rules in
    inr ((λ d has. none has.line has.line_is), refl)

pub returns-in-Ok : goal.returns-in-Ok
returns-in-Ok c =
    let d = c.in-Ok.number in
    let fresh : are_fresh c.args.changed c.args.now c.args.seconds ≡ true = search rules in
    let line : IsLineOf c.args.bytes.now c.in-Some.line.now = search rules in
    let spelled : SpellsDecimal c.in-Some.line.now d = search rules in
    let text : c.deref.result.now ≡ decimal_text d = search rules in
    inl (d, record { fresh = fresh; line = c.in-Some.line.now; line_is = line; spelled = spelled }, c.filled_up.ensures ∙ ap value_bytes text)

pub returns-in-Err : goal.returns-in-Err
returns-in-Err c =
    let line : IsLineOf c.args.bytes.now c.in-Some.line.now = search rules in
    let none : (d : Decimal) → HasValue c.args.bytes.now c.args.changed c.args.now c.args.seconds d → ⊥ =
    λ d has.
    let same : has.line ≡ c.in-Some.line.now = one_line c.args.bytes.now has.line c.in-Some.line.now has.line_is line in
    let spelled : SpellsDecimal c.in-Some.line.now d = rw (sym same) has.spelled in
    let ok : c.read.result ≡ Ok d = c.read.ensures.only d spelled in
    let err : c.read.result ≡ Err c.in-Err.field-0 = search rules in
    cc in
    inr (none, refl)
