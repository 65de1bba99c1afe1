-- Angles in the unit in which people read them: how they are computed, and how their places are written.
use Rattle.gc_measuring.proofs.Common.{◌≡◌, ◌∙◌, ℕ, ◌+◌, ◌-◌, ◌*◌, ◌/◌, ◌%◌, ◌^◌, ◌<◌, ◌++◌, false, [], List, length, replicate, append-nil, arith, sym, ap, add-mul-div_right, div-add-mod', format_spec, half_up}
use Rattle.std.specs.Fmt.{char_count, padded_integral}

-- a is q whole p and a rest r: of a times s, over p, the whole number nearest is q times s and that of r times s, over p
parts_rounded : (q r s p : ℕ) → 0 < p → (2 * (r * s) + p + q * s * (2 * p)) / (2 * p) ≡ q * s + (2 * (r * s) + p) / (2 * p)
parts_rounded q r s p some = add-mul-div_right (2 * (r * s) + p) (q * s) {z = 2 * p} (omega arith) ∙ omega arith

-- the whole number nearest to a times s, over p, is found by taking whole p of a apart
pub rounded_apart : (a s p : ℕ) → 0 < p → a / p * s + (2 * (a % p * s) + p) / (2 * p) ≡ half_up (a * s) p
rounded_apart a s p some =
    let whole : a / p * p + a % p ≡ a = div-add-mod' a p in
    let all : 2 * (a % p * s) + p + a / p * s * (2 * p) ≡ 2 * (a * s) + p = omega (arith, ap (λ x. x * s) whole) in
    sym (parts_rounded (a / p) (a % p) s p some) ∙ ap (λ x. x / (2 * p)) all

-- what a hole with a width and zeros writes of a text of digits
pub zeros_before : (p : ℕ) (text : List ℕ) → padded_integral (format_spec 32 0 4 p (2 ^ 64 - 1)) false [] text ≡ replicate (p - length text) 48 ++ text
unfolding padded_integral char_count
zeros_before p text =
    let short : p - length text - 0 - 0 ≡ p - length text = omega arith in
    rw (short, append-nil text)
