-- What the laws of decimals say: a text spells one decimal at most or has one fault, and decimals are equal exactly where their
-- values, their texts or `==` say so.
use Rattle.gc_values.proofs.Common.{◌≡◌, ◌↔◌, ◌==◌, ◌&&◌, IsTrue, true, ℕ, List, refl, sym, ap, ◌∙◌, subst, first_so, second_so, signed_Decides, unsigned_Decides, int_eq, fraction, decimal_eq, SpellsDecimal, decimal_text, Fraction, IsRounded, SameValue, SpellsBeyond, SpellsNothing, Decimal}
use Rattle.gc_values.proofs.DecimalLemmas.{same_decimal}
use Rattle.gc_values.proofs.ReadLemmas.{in_range_only, spells_once}
use Rattle.gc_values.proofs.Rounded.{exact_rounds, rounds_to_one}
use Rattle.gc_values.proofs.WrittenSpells.{written_spells}

-- a decimal's written text spells the decimal
pub written_spells_decimal : (d : Decimal) → SpellsDecimal (decimal_text d) d
written_spells_decimal d = written_spells d.digits d.scale d.is_canonical d.has_few_places

-- a text spells at most one decimal
pub spells_unique : (text : List ℕ) (d e : Decimal) → SpellsDecimal text d → SpellsDecimal text e → d ≡ e
spells_unique text d e x y = let same = spells_once text d.digits d.scale e.digits e.scale x y in same_decimal d e same.0 same.1

-- a text that spells a decimal doesn't spell a number out of range
pub spelled_not_beyond : (text : List ℕ) (d : Decimal) → SpellsDecimal text d → SpellsBeyond text → ⊥
spelled_not_beyond text d x beyond = in_range_only text d.digits d.scale x d.is_in_range beyond

-- no text both spells a decimal and is no number
pub spelled_not_nothing : (text : List ℕ) (d : Decimal) → SpellsDecimal text d → SpellsNothing text → ⊥
spelled_not_nothing text d x nothing = nothing x.0 x.1

-- a text isn't both a number out of range and no number
pub beyond_not_nothing : (text : List ℕ) → SpellsBeyond text → SpellsNothing text → ⊥
beyond_not_nothing text beyond nothing = nothing beyond.2.0 beyond.2.1

-- decimals with equal written texts are equal
pub written_unique : (d e : Decimal) → decimal_text d ≡ decimal_text e → d ≡ e
written_unique d e same =
    spells_unique (decimal_text d) d e (written_spells_decimal d) (subst (λ text. SpellsDecimal text e) (sym same) (written_spells_decimal e))

-- a fraction rounds to at most one decimal
pub rounding_unique : (q : Fraction) (p : ℕ) (d e : Decimal) → IsRounded q p d.digits d.scale → IsRounded q p e.digits e.scale → d ≡ e
rounding_unique q p d e x y = let same = rounds_to_one q p d.digits d.scale e.digits e.scale x y in same_decimal d e same.0 same.1

-- decimals of equal values are equal
pub value_unique : (d e : Decimal) → SameValue d.digits d.scale e.digits e.scale → d ≡ e
value_unique d e same =
    rounding_unique (fraction e) 24 d e (exact_rounds (fraction e) 24 d.digits d.scale d.is_canonical d.has_few_places same)
    (exact_rounds (fraction e) 24 e.digits e.scale e.is_canonical e.has_few_places refl)

-- `==` holds of a decimal and itself
decimal_eq_itself : (a : Decimal) → decimal_eq a a ≡ true
decimal_eq_itself a = ap (λ t. t && (a.scale == a.scale)) ((signed_Decides a.digits a.digits).1 refl) ∙ (unsigned_Decides a.scale a.scale).1 refl

-- `==` holds exactly of equal decimals
pub decimal_eq_exactly : (a b : Decimal) → IsTrue (decimal_eq a b) ↔ (a ≡ b)
decimal_eq_exactly a b = (
  λ h. same_decimal a b ((signed_Decides a.digits b.digits).0 (first_so (int_eq a.digits b.digits) (a.scale == b.scale) h))
      ((unsigned_Decides a.scale b.scale).0 (second_so (int_eq a.digits b.digits) (a.scale == b.scale) h)),
  λ e. ap (decimal_eq a) (sym e) ∙ decimal_eq_itself a,
)
