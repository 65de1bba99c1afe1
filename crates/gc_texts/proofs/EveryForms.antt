-- Which lines are `every N cycles`, and what they say. What follows `every ` is cut at its first space: `front` is what is before that space,
-- and `word` what follows it.
use Rattle.gc_texts.proofs.Common.{◌≡◌, ◌≤◌, ℕ, zero, suc, List, ◌∷◌, ◌++◌, get_or, Option, Some, None, arith, refl, ap, subst, sym, ◌∙◌, codes, append_cancel_left, same_Some, Cuts, IsNumber, IsEveryLine}
use Rattle.gc_texts.proofs.Cutting.{cut_found, digits_lack_spaces}
use Rattle.gc_texts.proofs.Procedures.{one_number}

-- the parts of such a line, and which lines are none
module _ (line rest front : List ℕ) (word : Option (List ℕ)) (every : ℕ) (e : line ≡ codes "every " ++ rest) (cut : Cuts 32 rest front word) (is : IsEveryLine line every) where
  -- what follows `every ` is the number, a space and `cycles`
  rest_is_number_and_word : rest ≡ is.digits ++ codes " cycles"
  rest_is_number_and_word = append_cancel_left (codes "every ") rest (is.digits ++ codes " cycles") (sym e ∙ is.line_is)

  -- the first space after `every ` follows the number
  cut_after_number : (front ≡ is.digits) × (word ≡ Some (codes "cycles"))
  cut_after_number = cut_found 32 rest front word is.digits (codes "cycles") cut rest_is_number_and_word (digits_lack_spaces is.digits is.number.names.digits)

  -- what is before that space is the number
  its_number : IsNumber front every 65535
  its_number = subst (λ (ds : List ℕ). IsNumber ds every 65535) (sym cut_after_number.0) is.number

  -- a line is none where what follows `every ` has no space
  pub unspaced_is_no_every : word ≡ None → ⊥
  unspaced_is_no_every none = let bad : None ≡ Some (codes "cycles") = sym none ∙ cut_after_number.1 in cc

  -- a line is none where another word than `cycles` follows
  pub other_word_is_no_every : (said : List ℕ) → word ≡ Some said → (said ≡ codes "cycles" → ⊥) → ⊥
  other_word_is_no_every said given other = other (same_Some said (codes "cycles") (sym given ∙ cut_after_number.1))

  -- a line is none where what is before the space is no number
  pub numberless_is_no_every : ((n : ℕ) → IsNumber front n 65535 → ⊥) → ⊥
  numberless_is_no_every none = none every its_number

  -- a line is none where it is 0
  pub zero_is_no_every : (n : ℕ) → IsNumber front n 65535 → n ≡ 0 → ⊥
  zero_is_no_every n number zeroed =
      let same : every ≡ n = one_number front every n 65535 its_number number in
      let some : 1 ≤ every = is.some in
      omega (arith, same, zeroed, some)

-- a number that isn't 0 is 1 at least
one_at_least : (n : ℕ) → (n ≡ 0 → ⊥) → 1 ≤ n
one_at_least zero some = absurd (some refl)
one_at_least (suc n) some = omega arith

-- a line is one where what follows `every ` is a number other than 0, a space and `cycles`
pub is_every_line : (line rest front said : List ℕ) (every : ℕ) → line ≡ codes "every " ++ rest → Cuts 32 rest front (Some said) → said ≡ codes "cycles"
    → IsNumber front every 65535 → (every ≡ 0 → ⊥) → IsEveryLine line every
is_every_line line rest front said every e cut word number some =
    record {
      digits = front;
      line_is = e ∙ ap (λ r. codes "every " ++ r) (cut.0 ∙ ap (λ w. front ++ 32 ∷ w) word);
      number = number;
      some = one_at_least every some;
    }

-- a line says once at most in every how many cycles commands have their turn
pub one_every : (line : List ℕ) (m n : ℕ) → IsEveryLine line m → IsEveryLine line n → m ≡ n
one_every line m n x y =
    let cut : Cuts 32 (y.digits ++ codes " cycles") y.digits (Some (codes "cycles")) = (refl, digits_lack_spaces y.digits y.number.names.digits) in
    one_number y.digits m n 65535 (its_number line (y.digits ++ codes " cycles") y.digits (Some (codes "cycles")) m y.line_is cut x) y.number

-- no line is both `each cycle` and `every N cycles`
pub each_is_no_every : (line : List ℕ) (every : ℕ) → line ≡ codes "each cycle" → IsEveryLine line every → ⊥
each_is_no_every line every e x = let second : ◌≡◌ {A = ℕ} 97 118 = ap (λ bs. get_or bs 1 0) (sym e ∙ x.line_is) in omega (arith, second)
