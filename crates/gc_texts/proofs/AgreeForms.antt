-- Which lines are `agree`, and what they say.
use Rattle.gc_texts.proofs.Common.{◌≡◌, inl, inr, ℕ, List, ◌++◌, get_or, true, false, Option, Some, None, arith, refl, ap, sym, ◌∙◌, codes, Decimal, spells_unique, SpellsDecimal, is_tolerance, AreAgreeWords, IsAgreeText, is_length, SetsAccepted, SetsAgree, first_word, second_word, after_two_words, Agree, Codes}
use Rattle.gc_texts.proofs.Cutting.{holds_of_rest}

-- two tolerances with equal angles and equal distances are equal
same_agree : (m n : Agree) → m.hz ≡ n.hz → m.v ≡ n.v → m.distance ≡ n.distance → m ≡ n
same_agree m n e f g =
    ap (λ z. record { hz = z; v = m.v; distance = m.distance }) e ∙ ap (λ z. record { hz = n.hz; v = z; distance = m.distance }) f
    ∙ ap (λ z. record { hz = n.hz; v = n.v; distance = z }) g

-- three words say one set of tolerances at most
one_agree : (hz v distance : List ℕ) (m n : Agree) → AreAgreeWords hz v distance m → AreAgreeWords hz v distance n → m ≡ n
one_agree hz v distance m n x y =
    same_agree m n (spells_unique hz m.hz n.hz x.hz_is y.hz_is) (spells_unique v m.v n.v x.v_is y.v_is)
    (spells_unique distance m.distance n.distance x.distance_is y.distance_is)

-- no line is both `agree` alone and `agree ` with more after it
alone_is_no_more : (line rest : List ℕ) → line ≡ codes "agree" → line ≡ codes "agree " ++ rest → ⊥
alone_is_no_more line rest x y = let sixth : ◌≡◌ {A = ℕ} 0 32 = ap (λ bs. get_or bs 5 0) (sym x ∙ y) in omega (arith, sixth)

-- a line says at most once whether chains are sent twice
pub one_agreeing : (line : List ℕ) (a b : Option Agree) → SetsAgree line a → SetsAgree line b → a ≡ b
one_agreeing line None None x y = refl
one_agreeing line None (Some b) x y = absurd (alone_is_no_more line y.rest x y.line_is)
one_agreeing line (Some a) None x y = absurd (alone_is_no_more line x.rest y x.line_is)
one_agreeing line (Some a) (Some b) x y =
    ap Some (one_agree (first_word y.rest) (second_word y.rest) (after_two_words y.rest) a b
    (holds_of_rest (codes "agree ") (λ r. IsAgreeText r a) line y.rest y.line_is x) y.is)

-- where a line is `agree ` and `rest`, and `rest` says no tolerances, the line says nothing of how chains are sent
pub no_agree_of_rest : (line rest : List ℕ) → line ≡ codes "agree " ++ rest → ((agree : Agree) → IsAgreeText rest agree → ⊥)
    → (said : Option Agree) → SetsAgree line said → ⊥
no_agree_of_rest line rest e none None is = alone_is_no_more line rest is e
no_agree_of_rest line rest e none (Some agree) is = none agree (holds_of_rest (codes "agree ") (λ r. IsAgreeText r agree) line rest e is)

-- where a line is neither `agree` alone nor begins with `agree `, it says nothing of how chains are sent
pub no_agree_without : (line : List ℕ) → (line ≡ codes "agree" → ⊥) → ((rest : List ℕ) → line ≡ codes "agree " ++ rest → ⊥)
    → (said : Option Agree) → SetsAgree line said → ⊥
no_agree_without line alone more None is = alone is
no_agree_without line alone more (Some agree) is = more is.rest is.line_is

-- no line both says which codes are accepted (`accept`) and whether chains are sent twice (`agree`)
pub accept_is_no_agree : (line : List ℕ) (accepted : Codes) (agree : Option Agree) → SetsAccepted line accepted → SetsAgree line agree → ⊥
accept_is_no_agree line accepted None (inl alone) y = let second : ◌≡◌ {A = ℕ} 99 103 = ap (λ bs. get_or bs 1 0) (sym alone.0 ∙ y) in omega (arith, second)
accept_is_no_agree line accepted (Some agree) (inl alone) y = let second : ◌≡◌ {A = ℕ} 99 103 = ap (λ bs. get_or bs 1 0) (sym alone.0 ∙ y.line_is) in omega (arith, second)
accept_is_no_agree line accepted None (inr is) y = let second : ◌≡◌ {A = ℕ} 99 103 = ap (λ bs. get_or bs 1 0) (sym is.line_is ∙ y) in omega (arith, second)
accept_is_no_agree line accepted (Some agree) (inr is) y = let second : ◌≡◌ {A = ℕ} 99 103 = ap (λ bs. get_or bs 1 0) (sym is.line_is ∙ y.line_is) in omega (arith, second)

-- no line both says whether chains are sent twice (`agree`) and begins the setup (`at start`)
pub agree_is_no_start : (line : List ℕ) (agree : Option Agree) → SetsAgree line agree → line ≡ codes "at start" → ⊥
agree_is_no_start line None x e = let second : ◌≡◌ {A = ℕ} 103 116 = ap (λ bs. get_or bs 1 0) (sym x ∙ e) in omega (arith, second)
agree_is_no_start line (Some agree) x e = let second : ◌≡◌ {A = ℕ} 103 116 = ap (λ bs. get_or bs 1 0) (sym x.line_is ∙ e) in omega (arith, second)

-- where one of three words is a number outside its range, they say no tolerances
module _ (hz v distance : List ℕ) (agree : Agree) (are : AreAgreeWords hz v distance agree) (d : Decimal) where
  -- the horizontal angle is none
  pub no_hz : SpellsDecimal hz d → is_tolerance d ≡ false → ⊥
  no_hz spells isnt = let both : true ≡ false = sym are.hz_in ∙ ap is_tolerance (spells_unique hz agree.hz d are.hz_is spells) ∙ isnt in cc

  -- the vertical angle is none
  pub no_v : SpellsDecimal v d → is_tolerance d ≡ false → ⊥
  no_v spells isnt = let both : true ≡ false = sym are.v_in ∙ ap is_tolerance (spells_unique v agree.v d are.v_is spells) ∙ isnt in cc

  -- the distance is none
  pub no_distance : SpellsDecimal distance d → is_length d ≡ false → ⊥
  no_distance spells isnt = let both : true ≡ false = sym are.distance_in ∙ ap is_length (spells_unique distance agree.distance d are.distance_is spells) ∙ isnt in cc
