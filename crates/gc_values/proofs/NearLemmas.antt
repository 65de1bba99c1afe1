-- What the code of directions computes, in whole numbers that 128 bits hold.
use Rattle.gc_values.proofs.Common.{◌≡◌, zero, suc, ◌*◌, ◌^◌, ◌≤◌, ◌&&◌, ◌||◌, ◌⊎◌, inl, inr, Bool, true, ℤ, pos, negsuc, ◌+ℤ◌, ◌-ℤ◌, ◌*ℤ◌, unsigned_abs, FitsSigned, to_z, of_z, refl, sym, ap, ◌∙◌, arith, and_parts, or_cases, or_left, or_right, w128, ints, to_z-of_z, fits_signed_from_abs, unsigned_abs-mul, units, turn, v_in_face_one, hz_in_face_one, is_close, is_close_turned, is_close_on_circle, is_near, NearIsWithinTheTolerance, Decimal}
use Rattle.gc_values.specs.declared.direction.Direction.{Direction}
use Rattle.gc_values.proofs.WithinLemmas.{int_le_exactly}

-- a number as 128 bits hold it
abbrev pub as_i128 : ℤ → ℤ
as_i128 x = to_z w128 (of_z w128 x)

-- 128 bits hold a number of at most 4 * 10^37, either way from 0
pub as_i128_same : (x : ℤ) → unsigned_abs x ≤ 4 * 10 ^ 37 → as_i128 x ≡ x
as_i128_same x small = to_z-of_z w128 x (fits_signed_from_abs w128 x (omega arith))

-- at most two turns are at most 10^37 units
turns_small : (turns : ℤ) → unsigned_abs turns ≤ 2 → unsigned_abs (turns *ℤ turn) ≤ 10 ^ 37
turns_small turns few = omega (arith, unsigned_abs-mul turns turn, few)

-- a number of at most 2 * 10^37 and one of at most 10^37, either way from 0, have a sum of at most 4 * 10^37
sum_small : (x y : ℤ) → unsigned_abs x ≤ 2 * 10 ^ 37 → unsigned_abs y ≤ 10 ^ 37 → unsigned_abs (x +ℤ y) ≤ 4 * 10 ^ 37
sum_small x y h k = omega (arith, ints)

-- a number of at most 2 * 10^37 either way plus at most two turns either way, computed in 128 bits, is exact
turned_exact : (turns x : ℤ) → unsigned_abs turns ≤ 2 → unsigned_abs x ≤ 2 * 10 ^ 37
    → as_i128 (as_i128 x +ℤ as_i128 (as_i128 turns *ℤ turn)) ≡ x +ℤ turns *ℤ turn
turned_exact turns x few small =
    ap (λ t. as_i128 (as_i128 x +ℤ as_i128 (t *ℤ turn))) (as_i128_same turns (omega (arith, few)))
    ∙ ap (λ t. as_i128 (as_i128 x +ℤ t)) (as_i128_same (turns *ℤ turn) (omega (arith, turns_small turns few)))
    ∙ ap (λ t. as_i128 (t +ℤ turns *ℤ turn)) (as_i128_same x (omega (arith, small)))
    ∙ as_i128_same (x +ℤ turns *ℤ turn) (sum_small x (turns *ℤ turn) small (turns_small turns few))

-- the test that the code makes in 128 bits is `is_close_turned`, if 128 bits hold `most`, the turns are at most two either
-- way, x is at most 2 * 10^37 from 0, and y at most 10^37
pub close_turned : (most turns x y : ℤ) → FitsSigned w128 most → unsigned_abs turns ≤ 2 → unsigned_abs x ≤ 2 * 10 ^ 37 → unsigned_abs y ≤ 10 ^ 37
    → is_close (as_i128 most) (as_i128 (as_i128 x +ℤ as_i128 (as_i128 turns *ℤ turn))) (as_i128 y) ≡ is_close_turned most turns x y
close_turned most turns x y fits few small low =
    ap (λ m. is_close m (as_i128 (as_i128 x +ℤ as_i128 (as_i128 turns *ℤ turn))) (as_i128 y)) (to_z-of_z w128 most fits)
    ∙ ap (λ z. is_close most z (as_i128 y)) (turned_exact turns x few small)
    ∙ ap (λ z. is_close most (x +ℤ turns *ℤ turn) z) (as_i128_same y (omega (arith, low)))

-- if v and hz are the tests of the two angles, both together are `is_near`
pub near_by_angles : (d place : Direction) (tolerance : Decimal) (v hz : Bool) → v ≡ is_close (units tolerance) (v_in_face_one d) (units place.v)
    → hz ≡ is_close_on_circle (units tolerance) (hz_in_face_one d) (units place.hz) → (v && hz) ≡ is_near d place tolerance
unfolding is_near
near_by_angles d place tolerance v hz e f = ap (λ b. b && hz) e ∙ ap (λ b. is_close (units tolerance) (v_in_face_one d) (units place.v) && b) f

-- x, after some number of turns, at most two either way, is close to y
abbrev IsCloseAfterTurns : (most x y : ℤ) → Type 0
IsCloseAfterTurns most x y = (k : ℤ) × (unsigned_abs k ≤ 2) × (is_close_turned most k x y ≡ true)

-- numbers that are close on the circle are close after some number of turns, at most two either way
close_after_turns : (most x y : ℤ) → is_close_on_circle most x y ≡ true → IsCloseAfterTurns most x y
close_after_turns most x y e = first (or_cases _ _ e) where
  -- if x is close to y after 1 or 2 turns, `IsCloseAfterTurns` is true of x and y
  last : (is_close_turned most (pos 1) x y ≡ true) ⊎ (is_close_turned most (pos 2) x y ≡ true) → IsCloseAfterTurns most x y
  last (inl h) = (pos 1, omega arith, h)
  last (inr h) = (pos 2, omega arith, h)

  -- if x is close to y after 0, 1 or 2 turns, `IsCloseAfterTurns` is true of x and y
  third : (is_close_turned most (pos 0) x y ≡ true) ⊎ ((is_close_turned most (pos 1) x y || is_close_turned most (pos 2) x y) ≡ true)
      → IsCloseAfterTurns most x y
  third (inl h) = (pos 0, omega arith, h)
  third (inr h) = last (or_cases _ _ h)

  -- if x is close to y after -1, 0, 1 or 2 turns, `IsCloseAfterTurns` is true of x and y
  second : (is_close_turned most (negsuc 0) x y ≡ true)
      ⊎ ((is_close_turned most (pos 0) x y || (is_close_turned most (pos 1) x y || is_close_turned most (pos 2) x y)) ≡ true)
      → IsCloseAfterTurns most x y
  second (inl h) = (negsuc 0, omega arith, h)
  second (inr h) = third (or_cases _ _ h)

  -- if x is close to y after -2, -1, 0, 1 or 2 turns, `IsCloseAfterTurns` is true of x and y
  first : (is_close_turned most (negsuc 1) x y ≡ true)
      ⊎ ((is_close_turned most (negsuc 0) x y || (is_close_turned most (pos 0) x y || (is_close_turned most (pos 1) x y || is_close_turned most (pos 2) x y))) ≡ true)
      → IsCloseAfterTurns most x y
  first (inl h) = (negsuc 1, omega arith, h)
  first (inr h) = second (or_cases _ _ h)

-- if any of five tests holds, so does the test that joins them by `||`
or_of_five : (a b c d e : Bool) → (a ≡ true) ⊎ ((b ≡ true) ⊎ ((c ≡ true) ⊎ ((d ≡ true) ⊎ (e ≡ true)))) → (a || (b || (c || (d || e)))) ≡ true
or_of_five a b c d e (inl h) = or_left a (b || (c || (d || e))) h
or_of_five a b c d e (inr (inl h)) = or_right a (b || (c || (d || e))) (or_left b (c || (d || e)) h)
or_of_five a b c d e (inr (inr (inl h))) = or_right a (b || (c || (d || e))) (or_right b (c || (d || e)) (or_left c (d || e) h))
or_of_five a b c d e (inr (inr (inr (inl h)))) = or_right a (b || (c || (d || e))) (or_right b (c || (d || e)) (or_right c (d || e) (or_left d e h)))
or_of_five a b c d e (inr (inr (inr (inr h)))) = or_right a (b || (c || (d || e))) (or_right b (c || (d || e)) (or_right c (d || e) (or_right d e h)))

-- turns that are at most two either way are -2, -1, 0, 1 or 2
few_turns : (k : ℤ) → unsigned_abs k ≤ 2 → (k ≡ negsuc 1) ⊎ ((k ≡ negsuc 0) ⊎ ((k ≡ pos 0) ⊎ ((k ≡ pos 1) ⊎ (k ≡ pos 2))))
few_turns (pos zero) few = inr (inr (inl refl))
few_turns (pos (suc zero)) few = inr (inr (inr (inl refl)))
few_turns (pos (suc (suc zero))) few = inr (inr (inr (inr refl)))
few_turns (pos (suc (suc (suc n)))) few = absurd (omega (arith, few))
few_turns (negsuc zero) few = inr (inl refl)
few_turns (negsuc (suc zero)) few = inl refl
few_turns (negsuc (suc (suc n))) few = absurd (omega (arith, few))

-- numbers that are close after at most two turns either way are close on the circle
close_on_circle : (most x y k : ℤ) → unsigned_abs k ≤ 2 → is_close_turned most k x y ≡ true → is_close_on_circle most x y ≡ true
close_on_circle most x y k few near =
    or_of_five (is_close_turned most (negsuc 1) x y) (is_close_turned most (negsuc 0) x y) (is_close_turned most (pos 0) x y) (is_close_turned most (pos 1) x y) (is_close_turned most (pos 2) x y)
    (which (few_turns k few)) where
      -- if k is j, x is close to y after j turns
      close_after : (j : ℤ) → k ≡ j → is_close_turned most j x y ≡ true
      close_after j e = ap (λ i. is_close_turned most i x y) (sym e) ∙ near

      -- by which of the five numbers k is: x is close to y after that number of turns
      which : (k ≡ negsuc 1) ⊎ ((k ≡ negsuc 0) ⊎ ((k ≡ pos 0) ⊎ ((k ≡ pos 1) ⊎ (k ≡ pos 2))))
          → (is_close_turned most (negsuc 1) x y ≡ true) ⊎ ((is_close_turned most (negsuc 0) x y ≡ true) ⊎ ((is_close_turned most (pos 0) x y ≡ true)
          ⊎ ((is_close_turned most (pos 1) x y ≡ true) ⊎ (is_close_turned most (pos 2) x y ≡ true))))
      which (inl e) = inl (close_after (negsuc 1) e)
      which (inr (inl e)) = inr (inl (close_after (negsuc 0) e))
      which (inr (inr (inl e))) = inr (inr (inl (close_after (pos 0) e)))
      which (inr (inr (inr (inl e)))) = inr (inr (inr (inl (close_after (pos 1) e))))
      which (inr (inr (inr (inr e)))) = inr (inr (inr (inr (close_after (pos 2) e))))

-- `is_near` says exactly whether a direction is near a place
pub near_is_within : NearIsWithinTheTolerance
unfolding is_near
near_is_within d place tolerance = (
  (λ e.
      let parts = and_parts (is_close (units tolerance) (v_in_face_one d) (units place.v)) (is_close_on_circle (units tolerance) (hz_in_face_one d) (units place.hz)) e in
      let some = close_after_turns (units tolerance) (hz_in_face_one d) (units place.hz) parts.1 in
      record {
        turns = some.0;
        few = some.1;
        v_near = (int_le_exactly (pos (unsigned_abs (v_in_face_one d -ℤ units place.v))) (units tolerance)).0 parts.0;
        hz_near = (int_le_exactly (pos (unsigned_abs (hz_in_face_one d +ℤ some.0 *ℤ turn -ℤ units place.hz))) (units tolerance)).0 some.2;
      }),
  (λ is.
      let v : is_close (units tolerance) (v_in_face_one d) (units place.v) ≡ true = (int_le_exactly (pos (unsigned_abs (v_in_face_one d -ℤ units place.v))) (units tolerance)).1 is.v_near in
      let hz = (int_le_exactly (pos (unsigned_abs (hz_in_face_one d +ℤ is.turns *ℤ turn -ℤ units place.hz))) (units tolerance)).1 is.hz_near in
      ap (λ b. b && is_close_on_circle (units tolerance) (hz_in_face_one d) (units place.hz)) v
      ∙ close_on_circle (units tolerance) (hz_in_face_one d) (units place.hz) is.turns is.few hz),
)
