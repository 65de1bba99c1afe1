-- A line without a `%` behind its first byte: it has a sign-on only at its beginning, and no reply begins in it behind a CR.
use Rattle.gc_filters.proofs.Common.{◌≡◌, ◌==◌, ◌&&◌, ◌||◌, ℕ, Bool, true, false, List, [], ◌∷◌, Option, None, Some, Bor, is_some, length, take, refl, sym, ap, subst, ◌∙◌, option_copied, ne_eqb, true≢false, Lacks, Cuts, has_part, is_sign_on, begins_as_sign_on, has_lone_return}
use Rattle.std.specs.Cmp.Lexicographic.{pointwise}

and_none : (b : Bool) → (b && false) ≡ false
and_none true = refl
and_none false = refl

or_none : (b : Bool) → (b || false) ≡ b
or_none true = refl
or_none false = refl

-- where a text lacks the mark, no part that begins with the mark is in it
lacks_part : (mark : ℕ) (part text : List ℕ) → Lacks mark text → has_part (mark ∷ part) text ≡ false
lacks_part mark part [] lacks = refl
lacks_part mark part (b ∷ bs) lacks =
    ap (λ (t : Bool). (t && pointwise (λ x y. x == y) part (take (length part) bs)) || has_part (mark ∷ part) bs) (ne_eqb mark b (λ e. lacks.0 (sym e)))
    ∙ lacks_part mark part bs lacks.1

-- where what is behind a text's first byte lacks the mark, no part that has the mark second is in the text
lacks_behind : (first mark : ℕ) (part : List ℕ) (b : ℕ) (bs : List ℕ) → Lacks mark bs → has_part (first ∷ mark ∷ part) (b ∷ bs) ≡ false
lacks_behind first mark part b [] lacks = ap (λ (t : Bool). t || false) (and_none (first == b))
lacks_behind first mark part b (c ∷ cs) lacks =
    ap (λ (t : Bool). (first == b && (t && pointwise (λ x y. x == y) part (take (length part) cs))) || has_part (first ∷ mark ∷ part) (c ∷ cs)) (ne_eqb mark c (λ e. lacks.0 (sym e)))
    ∙ ap (λ (t : Bool). t || has_part (first ∷ mark ∷ part) (c ∷ cs)) (and_none (first == b))
    ∙ lacks_behind first mark part c cs lacks.1

-- where a cut at the mark found none, the text lacks it
uncut_lacks : (mark : ℕ) (text front : List ℕ) (rest : Option (Bor (List ℕ))) → Cuts mark text front (option_copied rest) → is_some rest ≡ false → Lacks mark text
uncut_lacks mark text front None cuts none = subst (Lacks mark) (sym cuts.0) cuts.1
uncut_lacks mark text front (Some rest) cuts none = absurd (true≢false none)

-- a line in which a cut behind its first byte, at a `%`, found none
module _ (line : List ℕ) (b : ℕ) (bs front : List ℕ) (rest : Option (Bor (List ℕ))) (is : line ≡ b ∷ bs) (cuts : Cuts 37 bs front (option_copied rest)) (none : is_some rest ≡ false) where
  -- has a sign-on only at its beginning
  pub sign_on_in_front : is_sign_on line ≡ begins_as_sign_on line
  sign_on_in_front = subst (λ l. is_sign_on l ≡ begins_as_sign_on l) (sym is)
      (ap (λ (t : Bool). begins_as_sign_on (b ∷ bs) || t) (lacks_part 37 (78 ∷ 49 ∷ 44 ∷ []) bs (uncut_lacks 37 bs front rest cuts none)) ∙ or_none (begins_as_sign_on (b ∷ bs)))

  -- and no reply begins in it behind a CR
  pub no_lone_return : has_lone_return line ≡ false
  no_lone_return = ap has_lone_return is ∙ lacks_behind 13 37 (82 ∷ 49 ∷ 80 ∷ 44 ∷ []) b bs (uncut_lacks 37 bs front rest cuts none)
