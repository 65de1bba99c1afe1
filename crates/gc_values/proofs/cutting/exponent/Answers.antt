use Rattle.gc_values.proofs.Common.{◌≡◌, ◌∷◌, List, ℕ, Bool, Some, ap, ◌∙◌, cond, subst, CutsSign, ReadsExponent, number, IsExponentDigits, mark}
use Rattle.gc_values.proofs.cutting.exponent.Goals as goal

-- a mark, a sign or none, and one to three digits that write n are read as an exponent, which divides by ten n times with a
-- minus, and else multiplies n times
reads_exponent_text : (text rest digits : List ℕ) (negative : Bool) (n : ℕ) → (capital : Bool) × (text ≡ mark capital ∷ rest)
    → CutsSign rest negative digits → IsExponentDigits digits × (n ≡ number digits) →
    ReadsExponent text (cond negative 0 n) (cond negative n 0)
reads_exponent_text text rest digits negative n marked signed short = record {
  exponent = Some (record { capital = marked.0; sign = signed.sign; digits = digits });
  form = short.0;
  text_is = marked.1 ∙ ap (λ bs. mark marked.0 ∷ bs) signed.text_is;
  up_is = ap (λ m. cond negative 0 m) short.1 ∙ ap (λ b. cond b 0 (number digits)) signed.negative_is;
  down_is = ap (λ m. cond negative m 0) short.1 ∙ ap (λ b. cond b (number digits) 0) signed.negative_is;
}

pub returns-then-negative-clause-found : goal.returns-then-negative-clause-found
returns-then-negative-clause-found c =
    let r = reads_exponent_text c.args.text.now c.in_ok-rest.rest.now c.cut_sign-negative.result.1.now c.cut_sign-negative.result.0 c.in_ok-value.value
    c.in_ok-rest.ensures.found c.cut_sign-negative.ensures c.in_ok-value.ensures.found in
    subst (λ b. ReadsExponent c.args.text.now (cond b 0 c.in_ok-value.value) (cond b c.in_ok-value.value 0)) c.if-negative.true r

pub returns-else-negative-clause-found : goal.returns-else-negative-clause-found
returns-else-negative-clause-found c =
    let r = reads_exponent_text c.args.text.now c.in_ok-rest.rest.now c.cut_sign-negative.result.1.now c.cut_sign-negative.result.0 c.in_ok-value.value
    c.in_ok-rest.ensures.found c.cut_sign-negative.ensures c.in_ok-value.ensures.found in
    subst (λ b. ReadsExponent c.args.text.now (cond b 0 c.in_ok-value.value) (cond b c.in_ok-value.value 0)) c.if-negative.false r
