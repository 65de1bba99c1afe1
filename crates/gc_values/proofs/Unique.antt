-- A number's text is cut into its sign, digits, fraction and exponent in one way, and so names one fraction.
use Rattle.gc_values.proofs.Common.{◌≡◌, ◌≢◌, ℕ, ℤ, ◌+◌, ◌*◌, ◌^◌, ◌<◌, Bool, true, false, cond, List, [], ◌∷◌, ◌++◌, length, Option, None, Some, refl, sym, ap, ◌∙◌, subst, arith, Fraction, signed, IsDigit, AreDigits, number, StartsNoDigit, StartsNoSign, StartsNoPoint, CutsDigits, CutsSign, CutsFraction, ReadsExponent, ReadsNumeral, Sign, Absent, Plus, Minus, sign_text, is_minus, Exponent, IsExponent, exponent_text, mark, ups, downs, fraction_text, fraction_digits, Parts, IsNumeral, spelling, parts_value, NamesFraction, Numeral}

-- a text is cut in at most one way into digits and a rest that doesn't begin with a digit
pub run_once : (xs ys us vs : List ℕ) → (digits_xs : AreDigits xs) → (digits_ys : AreDigits ys) → (ends_xs : StartsNoDigit us)
    → (ends_ys : StartsNoDigit vs) → (same : xs ++ us ≡ ys ++ vs) → (xs ≡ ys) × (us ≡ vs)
run_once [] [] us vs dx dy nu nv e = (refl, e)
run_once [] (y ∷ ys) us vs dx dy nu nv e = absurd (subst StartsNoDigit e nu dy.0)
run_once (x ∷ xs) [] us vs dx dy nu nv e = absurd (subst StartsNoDigit (sym e) nv dx.0)
run_once (x ∷ xs) (y ∷ ys) us vs dx dy nu nv e =
    let head : x ≡ y = cc in
    let rest : xs ++ us ≡ ys ++ vs = cc in
    let r : (xs ≡ ys) × (us ≡ vs) = run_once xs ys us vs dx.1 dy.1 nu nv rest in
    (let h = r.0 in cc, r.1)

-- two ways to cut a text into a sign, or none, and a rest agree on whether there is a minus, and on the rest, where the second
-- rest begins with no sign, nor the first where no sign was cut off before it
pub sign_once : (s t : Sign) (us vs : List ℕ) → (s ≡ Absent → StartsNoSign us) → StartsNoSign vs → sign_text s ++ us ≡ sign_text t ++ vs
    → (is_minus s ≡ is_minus t) × (us ≡ vs)
sign_once Absent Absent us vs nu nv e = (refl, e)
sign_once Absent Plus us vs nu nv e = absurd ((subst StartsNoSign e (nu refl)).0 refl)
sign_once Absent Minus us vs nu nv e = absurd ((subst StartsNoSign e (nu refl)).1 refl)
sign_once Plus Absent us vs nu nv e = absurd ((subst StartsNoSign (sym e) nv).0 refl)
sign_once Plus Plus us vs nu nv e = (refl, let r : us ≡ vs = cc in r)
sign_once Plus Minus us vs nu nv e = let r : ◌≡◌ {A = ℕ} 43 45 = cc in absurd (omega (arith, r))
sign_once Minus Absent us vs nu nv e = absurd ((subst StartsNoSign (sym e) nv).1 refl)
sign_once Minus Plus us vs nu nv e = let r : ◌≡◌ {A = ℕ} 45 43 = cc in absurd (omega (arith, r))
sign_once Minus Minus us vs nu nv e = (refl, let r : us ≡ vs = cc in r)

-- an exponent's mark is no digit
mark_no_digit : (b : Bool) → IsDigit (mark b) → ⊥
mark_no_digit true h = omega arith
mark_no_digit false h = omega arith

-- an exponent's mark is no point
mark_no_point : (b : Bool) → mark b ≢ 46
mark_no_point true h = omega (arith, h)
mark_no_point false h = omega (arith, h)

-- an exponent's text begins with no digit
exponent_no_digit : (e : Option Exponent) → StartsNoDigit (exponent_text e)
exponent_no_digit None = tt
exponent_no_digit (Some e) = mark_no_digit e.capital

-- an exponent's text begins with no point
exponent_no_point : (e : Option Exponent) → StartsNoPoint (exponent_text e)
exponent_no_point None = tt
exponent_no_point (Some e) = mark_no_point e.capital

-- the texts of a fraction, or none, and then of an exponent, or none, don't begin with a digit
fraction_no_digit : (f : Option (List ℕ)) (e : Option Exponent) → StartsNoDigit (fraction_text f ++ exponent_text e)
fraction_no_digit None e = exponent_no_digit e
fraction_no_digit (Some ds) e = λ h. omega arith

-- digits and a fraction, or none, with at least one digit in all, don't begin with a sign, whatever follows
number_no_sign : (whole : List ℕ) (f : Option (List ℕ)) (rest : List ℕ) → AreDigits whole → 0 < length whole + length (fraction_digits f)
    → StartsNoSign (whole ++ (fraction_text f ++ rest))
number_no_sign [] None rest digits some = absurd (omega arith)
number_no_sign [] (Some ds) rest digits some = (λ h. omega (arith, h), λ h. omega (arith, h))
number_no_sign (b ∷ bs) f rest digits some = (λ h. let d = digits.0 in omega (arith, h, d.0), λ h. let d = digits.0 in omega (arith, h, d.0))

-- a text is cut in at most one way into a fraction, or none, and a rest, as `CutsFraction` has it
pub fraction_once : (text xs ys us vs : List ℕ) → CutsFraction text xs us → CutsFraction text ys vs → (xs ≡ ys) × (us ≡ vs)
fraction_once text xs ys us vs c d = by_points c.fraction refl d.fraction refl where
  -- by whether the text begins with a point in each of the two cuts
  by_points : (f : Option (List ℕ)) → c.fraction ≡ f → (g : Option (List ℕ)) → d.fraction ≡ g → (xs ≡ ys) × (us ≡ vs)
  by_points f p g q =
      let first : text ≡ fraction_text f ++ us = c.text_is ∙ ap (λ o. fraction_text o ++ us) p in
      let second : text ≡ fraction_text g ++ vs = d.text_is ∙ ap (λ o. fraction_text o ++ vs) q in
      let xs_are : xs ≡ fraction_digits f = c.run_is ∙ ap fraction_digits p in
      let ys_are : ys ≡ fraction_digits g = d.run_is ∙ ap fraction_digits q in
      let same = once f g (sym first ∙ second) (λ none. c.no_point (p ∙ none)) (λ none. d.no_point (q ∙ none)) (subst AreDigits xs_are c.digits) (subst AreDigits ys_are d.digits) in
      (xs_are ∙ same.0 ∙ sym ys_are, same.1)
    where
      -- the digits and the rests of both cuts are the same
      once : (f g : Option (List ℕ)) → fraction_text f ++ us ≡ fraction_text g ++ vs → (f ≡ None → StartsNoPoint us) → (g ≡ None → StartsNoPoint vs)
          → AreDigits (fraction_digits f) → AreDigits (fraction_digits g) → (fraction_digits f ≡ fraction_digits g) × (us ≡ vs)
      once None None e pu pv df dg = (refl, e)
      once None (Some ds) e pu pv df dg = absurd (subst StartsNoPoint e (pu refl) refl)
      once (Some cs) None e pu pv df dg = absurd (subst StartsNoPoint (sym e) (pv refl) refl)
      once (Some cs) (Some ds) e pu pv df dg = let r : cs ++ us ≡ ds ++ vs = cc in run_once cs ds us vs df dg c.longest d.longest r

-- after its sign and its digits a numeral's text is cut into its fraction, or none, and its exponent
numeral_fraction : (p : Parts) → IsNumeral p
    → CutsFraction (fraction_text p.fraction ++ exponent_text p.exponent) (fraction_digits p.fraction) (exponent_text p.exponent)
numeral_fraction p n = record {
  fraction = p.fraction;
  text_is = refl;
  run_is = refl;
  digits = n.fraction;
  no_point = λ _. exponent_no_point p.exponent;
  longest = exponent_no_digit p.exponent;
}

-- a text that was cut from the left: into a sign, digits, a fraction and a rest
pub record Cut (text : List ℕ) : Type 0 where
  pub negative : Bool
  pub behind_sign : List ℕ
  pub whole : List ℕ
  pub behind_whole : List ℕ
  pub fraction : List ℕ
  pub rest : List ℕ
  pub sign : CutsSign text negative behind_sign
  pub digits : CutsDigits behind_sign whole behind_whole
  pub point : CutsFraction behind_whole fraction rest

-- the parts that were cut off are those of this numeral
pub record SameParts (negative : Bool) (whole fraction rest : List ℕ) (p : Parts) : Type 0 where
  pub sign : negative ≡ is_minus p.sign
  pub whole_is : whole ≡ p.whole
  pub fraction_is : fraction ≡ fraction_digits p.fraction
  pub rest_is : rest ≡ exponent_text p.exponent

-- if a text was cut, as `Cut` has it, the parts that were cut off are those of each numeral with this text
pub same_parts : (text : List ℕ) (c : Cut text) (p : Parts) → IsNumeral p → text ≡ spelling p → SameParts c.negative c.whole c.fraction c.rest p
same_parts text c p n e =
    let s = c.sign in
    let d = c.digits in
    let signs = sign_once s.sign p.sign c.behind_sign (p.whole ++ (fraction_text p.fraction ++ exponent_text p.exponent)) s.first
    (number_no_sign p.whole p.fraction (exponent_text p.exponent) n.whole n.some) (sym s.text_is ∙ e) in
    let runs = run_once c.whole p.whole c.behind_whole (fraction_text p.fraction ++ exponent_text p.exponent) d.digits n.whole d.longest (fraction_no_digit p.fraction p.exponent)
    (sym d.text_is ∙ signs.1) in
    let fractions = fraction_once (fraction_text p.fraction ++ exponent_text p.exponent) c.fraction (fraction_digits p.fraction) c.rest (exponent_text p.exponent)
    (subst (λ t. CutsFraction t c.fraction c.rest) runs.1 c.point) (numeral_fraction p n) in
    record { sign = s.negative_is ∙ signs.0; whole_is = runs.0; fraction_is = fractions.0; rest_is = fractions.1 }

-- the numeral of the parts that were cut off a text, with an exponent that multiplies by ten `up` times and divides by ten `down`
-- times. It doesn't matter where its digits are in memory
abbrev pub numeral_of : {text : List ℕ} → (c : Cut text) (up down : ℕ) → Numeral
numeral_of c up down = record {
  negative = c.negative;
  whole = record { ref_ptr = (0, 0); now = c.whole };
  fraction = record { ref_ptr = (0, 0); now = c.fraction };
  up = up;
  down = down;
  whole_are_digits = c.digits.digits;
  fraction_are_digits = c.point.digits;
}

-- if a text was cut, as `Cut` has it, into at least one digit in all, and a rest that is an exponent or empty, and a numeral has
-- the parts that were cut off, the text is a number with the parts of that numeral
pub cut_is_numeral : (text : List ℕ) (c : Cut text) (n : Numeral)
    → (n.negative ≡ c.negative) × (n.whole.now ≡ c.whole) × (n.fraction.now ≡ c.fraction)
    → 0 < length c.whole + length c.fraction → ReadsExponent c.rest n.up n.down → ReadsNumeral text n
cut_is_numeral text c n same some x = record {
  parts = record { sign = c.sign.sign; whole = c.whole; fraction = c.point.fraction; exponent = x.exponent };
  form = record {
    whole = c.digits.digits;
    fraction = subst AreDigits c.point.run_is c.point.digits;
    some = subst (λ run. 0 < length c.whole + length run) c.point.run_is some;
    exponent = x.form;
  };
  text_is = c.sign.text_is
      ∙ ap (λ xs. sign_text c.sign.sign ++ xs) (c.digits.text_is
      ∙ ap (λ xs. c.whole ++ xs) (c.point.text_is ∙ ap (λ xs. fraction_text c.point.fraction ++ xs) x.text_is));
  negative_is = same.0 ∙ c.sign.negative_is;
  whole_is = same.1;
  fraction_is = same.2 ∙ c.point.run_is;
  up_is = x.up_is;
  down_is = x.down_is;
}

-- digits begin with no sign
pub digits_no_sign : (ds : List ℕ) → AreDigits ds → StartsNoSign ds
digits_no_sign [] h = tt
digits_no_sign (b ∷ bs) h = (λ e. let d = h.0 in omega (arith, e, d.0), λ e. let d = h.0 in omega (arith, e, d.0))

-- exponents, or none, with the same text multiply and divide by ten equally often
pub exponent_once : (e f : Option Exponent) → IsExponent e → IsExponent f → exponent_text e ≡ exponent_text f → (ups e ≡ ups f) × (downs e ≡ downs f)
exponent_once None None he hf same = (refl, refl)
exponent_once None (Some f) he hf same = absurd (cc)
exponent_once (Some e) None he hf same = absurd (cc)
exponent_once (Some e) (Some f) he hf same =
    let behind : sign_text e.sign ++ e.digits ≡ sign_text f.sign ++ f.digits = cc in
    let no_e : StartsNoSign e.digits = digits_no_sign e.digits he.digits_are in
    let no_f : StartsNoSign f.digits = digits_no_sign f.digits hf.digits_are in
    let r = sign_once e.sign f.sign e.digits f.digits (λ _. no_e) no_f behind in (
      ap (λ b. cond b 0 (number e.digits)) r.0 ∙ ap (λ ds. cond (is_minus f.sign) 0 (number ds)) r.1,
      ap (λ b. cond b (number e.digits) 0) r.0 ∙ ap (λ ds. cond (is_minus f.sign) (number ds) 0) r.1,
    )

-- a numeral's text is cut into its sign, its digits, its fraction and its exponent, as `Cut` has it
numeral_cut : (p : Parts) → IsNumeral p → Cut (spelling p)
numeral_cut p n = record {
  negative = is_minus p.sign;
  behind_sign = p.whole ++ (fraction_text p.fraction ++ exponent_text p.exponent);
  whole = p.whole;
  behind_whole = fraction_text p.fraction ++ exponent_text p.exponent;
  fraction = fraction_digits p.fraction;
  rest = exponent_text p.exponent;
  sign = record {
    sign = p.sign;
    text_is = refl;
    negative_is = refl;
    first = λ _. number_no_sign p.whole p.fraction (exponent_text p.exponent) n.whole n.some;
  };
  digits = record { text_is = refl; digits = n.whole; longest = fraction_no_digit p.fraction p.exponent };
  point = numeral_fraction p n;
}

-- numerals of one text have one value
pub same_value : (p r : Parts) → IsNumeral p → IsNumeral r → spelling p ≡ spelling r → parts_value p ≡ parts_value r
unfolding numeral_cut
same_value p r np nr e =
    let same = same_parts (spelling p) (numeral_cut p np) r nr e in
    let power = exponent_once p.exponent r.exponent np.exponent nr.exponent same.rest_is in
    let digits : p.whole ++ fraction_digits p.fraction ≡ r.whole ++ fraction_digits r.fraction =
    ap (λ ds. ds ++ fraction_digits p.fraction) same.whole_is ∙ ap (λ ds. r.whole ++ ds) same.fraction_is in
    let size : number (p.whole ++ fraction_digits p.fraction) * 10 ^ ups p.exponent ≡ number (r.whole ++ fraction_digits r.fraction) * 10 ^ ups r.exponent =
    ap (λ ds. number ds * 10 ^ ups p.exponent) digits ∙ ap (λ n. number (r.whole ++ fraction_digits r.fraction) * 10 ^ n) power.0 in
    let top : signed (is_minus p.sign) (number (p.whole ++ fraction_digits p.fraction) * 10 ^ ups p.exponent) ≡ signed (is_minus r.sign)
    (number (r.whole ++ fraction_digits r.fraction) * 10 ^ ups r.exponent) =
    ap (λ b. signed b (number (p.whole ++ fraction_digits p.fraction) * 10 ^ ups p.exponent)) same.sign ∙ ap (signed (is_minus r.sign)) size in
    let under : length (fraction_digits p.fraction) + downs p.exponent ≡ length (fraction_digits r.fraction) + downs r.exponent =
    ap (λ ds. length ds + downs p.exponent) same.fraction_is ∙ ap (λ n. length (fraction_digits r.fraction) + n) power.1 in
    ap (λ (z : ℤ). let f : Fraction = record { n = z; k = (parts_value p).k } in f) top ∙ ap (λ (j : ℕ). let f : Fraction = record { n = (parts_value r).n; k = j } in f) under

-- a text names at most one fraction
pub names_once : (text : List ℕ) (q f : Fraction) → NamesFraction text q → NamesFraction text f → q ≡ f
names_once text q f x y = x.3 ∙ same_value x.0 y.0 x.1 y.1 (sym x.2 ∙ y.2) ∙ sym y.3
