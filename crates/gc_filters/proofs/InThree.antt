-- Texts of three parts with a space between each two, and where they are cut.
use Rattle.gc_filters.proofs.Common.{◌≡◌, ℕ, List, ◌∷◌, ◌++◌, Option, Some, None, ap, sym, ◌∙◌, same_Some, Cuts, cut_found, one_front, InThree}

-- the three parts of a text that is cut at its first space, and again at the first space of what follows that
abbrev pub parts_at_two_spaces : (text first rest second third : List ℕ) → Cuts 32 text first (Some rest) → Cuts 32 rest second (Some third) → InThree text
parts_at_two_spaces text first rest second third cut next = record {
  first = first;
  second = second;
  third = third;
  text_is = cut.0 ∙ ap (λ xs. first ++ 32 ∷ xs) next.0;
  first_lacks = cut.1;
  second_lacks = next.1;
}

-- where a text of three parts is cut
module _ (text : List ℕ) (p : InThree text) where
  -- the first space follows the first part
  pub first_cut : (front : List ℕ) (rest : Option (List ℕ)) → Cuts 32 text front rest → (front ≡ p.first) × (rest ≡ Some (p.second ++ 32 ∷ p.third))
  first_cut front rest cut = cut_found 32 text front rest p.first (p.second ++ 32 ∷ p.third) cut p.text_is p.first_lacks

  -- the second space follows the second part
  pub second_cut : (front rest middle : List ℕ) (last : Option (List ℕ)) → Cuts 32 text front (Some rest) → Cuts 32 rest middle last
      → (middle ≡ p.second) × (last ≡ Some p.third)
  second_cut front rest middle last cut next =
      cut_found 32 rest middle last p.second p.third next (same_Some rest (p.second ++ 32 ∷ p.third) (first_cut front (Some rest) cut).1) p.second_lacks

  -- the text has a space, so its cut at the first has a rest
  pub has_space : (front : List ℕ) → Cuts 32 text front None → ⊥
  has_space front cut = let bad : None ≡ Some (p.second ++ 32 ∷ p.third) = (first_cut front None cut).1 in cc

  -- the text has a second space, so the cut of that rest has a rest, too
  pub has_second_space : (front rest middle : List ℕ) → Cuts 32 text front (Some rest) → Cuts 32 rest middle None → ⊥
  has_second_space front rest middle cut next = let bad : None ≡ Some p.third = (second_cut front rest middle None cut next).1 in cc

-- a text has three parts in one way at most
pub one_in_three : (text : List ℕ) (p q : InThree text) → (p.first ≡ q.first) × (p.second ≡ q.second) × (p.third ≡ q.third)
one_in_three text p q =
    let front = one_front 32 p.first q.first (p.second ++ 32 ∷ p.third) (q.second ++ 32 ∷ q.third) (sym p.text_is ∙ q.text_is) p.first_lacks q.first_lacks in
    let back = one_front 32 p.second q.second p.third q.third front.1 p.second_lacks q.second_lacks in
    (front.0, back.0, back.1)
