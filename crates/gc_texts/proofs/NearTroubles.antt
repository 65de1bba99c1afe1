-- What is at fault in the numbers of a line `near` is at fault in the line.
use Rattle.gc_texts.proofs.Common.{◌≡◌, ℕ, List, inl, inr, refl, sym, subst, codes, is_tolerance, HasTarget, IsFit, fits_hz, fits_v, IsRestTrouble, IsNearTrouble, IsWordTrouble, first_word, second_word, third_word, after_two_words, Trouble}
use Rattle.gc_texts.specs.declared.trouble.Trouble.TheVariants as trouble

-- where the three numbers that follow `near T` fit, what follows them is at fault in all of the numbers
pub rest_is_near : (numbers : List ℕ) (t : Trouble) → IsFit fits_hz (first_word numbers) → IsFit fits_v (second_word numbers)
    → IsFit is_tolerance (third_word numbers) → IsRestTrouble (after_two_words numbers) t → IsNearTrouble numbers t
rest_is_near numbers t hz v tolerance (inl none) = subst (IsNearTrouble numbers) (sym none.0) (hz, v, tolerance, inl (refl, none.1))
rest_is_near numbers trouble.NearDistance hz v tolerance (inr is) = inr is
rest_is_near numbers trouble.NearDistanceTolerance hz v tolerance (inr is) = inr is
rest_is_near numbers trouble.Near hz v tolerance (inr is) = (hz, v, tolerance, inr is)
rest_is_near numbers _ hz v tolerance (inr is) = absurd is.is

-- the trouble of the numbers that follow `near T`, with a target's number T, is one of the line, which sets something
pub near_is_setting : (line : List ℕ) (t : Trouble) → first_word line ≡ codes "near" → HasTarget (second_word line)
    → IsNearTrouble (after_two_words line) t → IsWordTrouble line t
near_is_setting line trouble.NearHz first has is = (first, has, is)
near_is_setting line trouble.NearV first has is = (first, has, is)
near_is_setting line trouble.NearTolerance first has is = (first, has, is)
near_is_setting line trouble.NearDistance first has is = (first, has, is)
near_is_setting line trouble.NearDistanceTolerance first has is = (first, has, is)
near_is_setting line trouble.Near first has is = (first, has, is)
near_is_setting line _ first has is = absurd is
