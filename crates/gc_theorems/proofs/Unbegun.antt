-- Right after a synchronization, before any move, `IsFaithful` holds, whatever is in flight.
use Rattle.gc_theorems.proofs.Common.{◌≡◌, ℕ, ◌<◌, ◌≤◌, List, [], ◌∷◌, Option, Some, refl, ap, arith, slice_get, none-some, slice_get_within, Asked, Settlement, KeptReply, cons_head, Ends, Numbered, UnderWay, IsFaithful, nulls, nulls_settled, of_eighth}
use Rattle.gc_world.proofs.Settled as settled

-- right after a synchronization no settlement has a number from 8 on
none_settled_from_8 : (m : ℕ) (s : Settlement Asked) → 8 ≤ m → slice_get nulls_settled m ≡ Some s → ⊥
none_settled_from_8 m s ge e = let low : m < 8 = slice_get_within nulls_settled m s e in omega (arith, low, ge)

-- right after a synchronization the front reply in flight, if there is one, belongs to no request from 8 on
none_in_flight_from_8 : (xs : List (List ℕ)) (n : ℕ) (line : List ℕ) (rest : List (Numbered (List ℕ))) → of_eighth xs ≡ record { number = n; line = line } ∷ rest → 8 ≤ n → ⊥
none_in_flight_from_8 [] n line rest e ge = cc
none_in_flight_from_8 (x ∷ xs) n line rest e ge =
    let is : 7 ≡ n = first_number (record { number = 7; line = x }) (record { number = n; line = line }) (of_eighth xs) rest e in omega (arith, is, ge) where
      -- the numbers of the first elements of equal lists are equal
      first_number : (a b : Numbered (List ℕ)) (xs ys : List (Numbered (List ℕ))) → a ∷ xs ≡ b ∷ ys → a.number ≡ b.number
      first_number a b xs ys e = ap (λ (x : Numbered (List ℕ)). x.number) (cons_head a b xs ys e)

-- right after a synchronization, with no moves, `IsFaithful` holds
pub faithful_none : {State : Type 0} (ends : Ends State) (Good : State → Type 0) (kept : State → Option KeptReply) (u : UnderWay State) → IsFaithful 7 ends u [] Good kept
faithful_none ends Good kept u =
    record {
      settled = refl;
      stands = refl;
      accounted = refl;
      one_for_one = settled.one_for_one nulls_settled [] nulls refl;
      booked = λ m s sure e bytes answered. absurd (none_settled_from_8 m s sure.0 e);
      executed = λ m s sure e line answered. absurd (none_settled_from_8 m s sure.0 e);
      made_on = λ m s sure e line answered. absurd (none_settled_from_8 m s sure.0 e);
      in_order = λ j k m n lt a b. absurd (none-some m a);
      late = λ m s sure e late. absurd (none_settled_from_8 m s sure.0 e);
      once = λ knows keeps j k m n r lt none a b found known. absurd (none-some m a);
      agrees = refl;
      first_reply = λ n line rest e le. absurd (none_in_flight_from_8 u.down n line rest e le);
    }
