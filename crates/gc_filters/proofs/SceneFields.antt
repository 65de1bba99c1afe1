-- Fields of a scene's lines that don't read: what is then at fault in the line, and that the line says nothing in which the field would
-- have a value. `text` is what was read in place of the line's word.
use Rattle.gc_filters.proofs.Common.{◌≡◌, ℕ, List, sym, subst, SpellsDecimal, IsNumber, NoDecimal, NoNumber}
use Rattle.gc_values.specs.declared.decimal.Decimal.{Decimal}

-- a field that is no number
pub no_number : {Value : Type 0} (Says : Value → Type 0) (field : Value → ℕ) (text word : List ℕ) (max : ℕ) → text ≡ word
    → ((v : Value) → Says v → IsNumber word (field v) max) → ((n : ℕ) → IsNumber text n max → ⊥) → ((v : Value) → Says v → ⊥) × NoNumber word max
unfolding NoNumber
no_number Says field text word max e has none =
    let here : (n : ℕ) → IsNumber word n max → ⊥ = λ n h. none n (subst (λ (t : List ℕ). IsNumber t n max) (sym e) h) in
    (λ v h. here (field v) (has v h), here)

-- a field that is no decimal
pub no_decimal : {Value : Type 0} (Says : Value → Type 0) (field : Value → Decimal) (text word : List ℕ) → text ≡ word
    → ((v : Value) → Says v → SpellsDecimal word (field v)) → ((d : Decimal) → SpellsDecimal text d → ⊥) → ((v : Value) → Says v → ⊥) × NoDecimal word
unfolding NoDecimal
no_decimal Says field text word e has none =
    let here : (d : Decimal) → SpellsDecimal word d → ⊥ = λ d h. none d (subst (λ (t : List ℕ). SpellsDecimal t d) (sym e) h) in
    (λ v h. here (field v) (has v h), here)

-- a field that is a number
pub number_here : (text word : List ℕ) (n max : ℕ) → text ≡ word → IsNumber text n max → IsNumber word n max
number_here text word n max e h = subst (λ (t : List ℕ). IsNumber t n max) e h

-- a field that is a decimal
pub decimal_here : (text word : List ℕ) (d : Decimal) → text ≡ word → SpellsDecimal text d → SpellsDecimal word d
decimal_here text word d e h = subst (λ (t : List ℕ). SpellsDecimal t d) e h
