-- Doubles that are no place, no tolerance or no length.
use Rattle.gc_texts.proofs.Common.{◌≡◌, List, Option, ℕ, false, ap, ◌∙◌, both_ways, is_place, is_tolerance, SpellsDecimal, Decimal, spells_unique, is_length, AreRangeWords, AreNearWords, Near, Range}

-- which numbers can't be written by the words of four that say where a target is
module _ (target hz v tolerance : List ℕ) (words : Option (List ℕ)) (near : Near) (are : AreNearWords target hz v tolerance words near) where
  -- where the numbers that the words `hz` and `v` write are no direction of a place, the four words say no place
  pub no_place : (h w : Decimal) → SpellsDecimal hz h → SpellsDecimal v w → is_place (record { hz = h; v = w }) ≡ false → ⊥
  no_place h w is_h is_w isnt =
      let one = spells_unique hz near.place.hz h are.hz_is is_h in
      let other = spells_unique v near.place.v w are.v_is is_w in
      both_ways (is_place near.place)
      (ap (λ x. is_place (record { hz = x; v = near.place.v })) one ∙ ap (λ x. is_place (record { hz = h; v = x })) other ∙ isnt) are.place_is

  -- where the number that the word `tolerance` writes is no tolerance, the four words say no place
  pub no_tolerance : (t : Decimal) → SpellsDecimal tolerance t → is_tolerance t ≡ false → ⊥
  no_tolerance t is isnt = both_ways (is_tolerance near.tolerance) (ap is_tolerance (spells_unique tolerance near.tolerance t are.tolerance_is is) ∙ isnt) are.tolerance_in

-- which numbers can't be written by the two words that say how far away a target is
module _ (distance tolerance : List ℕ) (range : Range) (are : AreRangeWords distance tolerance range) where
  -- where the number that the word `distance` writes is no length, the two words say no range
  pub no_distance : (d : Decimal) → SpellsDecimal distance d → is_length d ≡ false → ⊥
  no_distance d is isnt = both_ways (is_length range.distance) (ap is_length (spells_unique distance range.distance d are.distance_is is) ∙ isnt) are.distance_in

  -- where the number that the word `tolerance` writes is no length, the two words say no range
  pub no_length : (t : Decimal) → SpellsDecimal tolerance t → is_length t ≡ false → ⊥
  no_length t is isnt = both_ways (is_length range.tolerance) (ap is_length (spells_unique tolerance range.tolerance t are.tolerance_is is) ∙ isnt) are.tolerance_in
