-- The parts of the first acts of a run are a front of the parts of all its acts: as many or fewer, and the last of them may go on
-- in its counterpart. An act is one call on the link, with its result. A part reaches from one synchronization to the next.
use Rattle.gc_station.proofs.Common.{◌≡◌, ◌⊎◌, inl, inr, ℕ, zero, suc, ◌+◌, ◌<◌, ◌≤◌, Bool, true, false, List, [], ◌∷◌, ◌++◌, length, Some, refl, sym, ◌∙◌, ap, subst, arith, slice_get, length-append, same_Some, Task, Plan, Act, Part, parts_joined, idle_part, part_of_act, ends_part, in_front, parts_of, Model, action_at, after}
use Rattle.gc_station.proofs.Following.{joined_assoc}

-- there is at least one part
abbrev pub HasSome : List Part → Type 0
HasSome [] = ⊥
HasSome (p ∷ ps) = Unit {0}

-- with a part p put before them (`in_front`), there is at least one part
some_front : (p : Part) (ends : Bool) (ps : List Part) → HasSome (in_front p ends ps)
some_front p true ps = tt
some_front p false [] = tt
some_front p false (q ∷ ps) = tt

-- acts have at least one part, even if there is no act
pub some_parts : (plan : Plan) (commands : List Task) (s : Model) (acts : List Act) → HasSome (parts_of plan commands s acts)
some_parts plan commands s [] = tt
some_parts plan commands s (act ∷ acts) =
    some_front (part_of_act plan commands s (action_at plan s) act) (ends_part plan commands s act) (parts_of plan commands (after plan commands s act) acts)

-- the parts `ps`, at least one, are the first of the parts `qs`; but the last of them may be only the front of the part at its
-- place
abbrev pub IsFront : (ps qs : List Part) → Type 0
IsFront [] qs = ⊥
IsFront (p ∷ ps) [] = ⊥
IsFront (p ∷ []) (q ∷ qs) = (more : Part) × (q ≡ parts_joined p more)
IsFront (p ∷ next ∷ ps) (q ∷ qs) = (q ≡ p) × IsFront (next ∷ ps) qs

-- `IsFront` is preserved if the same part is put before both lists
front_more : (p : Part) (ends : Bool) (ps qs : List Part) → IsFront ps qs → IsFront (in_front p ends ps) (in_front p ends qs)
front_more p b [] qs h = absurd h
front_more p true (x ∷ ps) [] h = absurd h
front_more p false (x ∷ ps) [] h = absurd h
front_more p true (x ∷ ps) (y ∷ qs) h = (refl, h)
front_more p false (x ∷ []) (y ∷ qs) h = (h.0, ap (parts_joined p) h.1 ∙ sym (joined_assoc p x h.0))
front_more p false (x ∷ next ∷ ps) (y ∷ qs) h = (ap (parts_joined p) h.0, h.1)

-- the part in which nothing happens, alone, is a front of any parts that have a part `p` put before them (`in_front`)
front_none : (p : Part) (ends : Bool) (ps : List Part) → IsFront (idle_part ∷ []) (in_front p ends ps)
front_none p true ps = (p, refl)
front_none p false [] = (p, refl)
front_none p false (q ∷ ps) = (parts_joined p q, refl)

-- the parts of the first acts are a front of the parts of all
pub front_parts : (plan : Plan) (commands : List Task) (s : Model) (xs ys : List Act) → IsFront (parts_of plan commands s xs) (parts_of plan commands s (xs ++ ys))
front_parts plan commands s [] [] = (idle_part, refl)
front_parts plan commands s [] (act ∷ ys) =
    front_none (part_of_act plan commands s (action_at plan s) act) (ends_part plan commands s act) (parts_of plan commands (after plan commands s act) ys)
front_parts plan commands s (act ∷ xs) ys =
    front_more (part_of_act plan commands s (action_at plan s) act) (ends_part plan commands s act) (parts_of plan commands (after plan commands s act) xs)
    (parts_of plan commands (after plan commands s act) (xs ++ ys))
    (front_parts plan commands (after plan commands s act) xs ys)

-- if `ps` are a front of `qs`, the last part of `ps`, at place i, is the front of the part of `qs` at the same place
pub front_last : (ps qs : List Part) (i : ℕ) (p q : Part) → IsFront ps qs → length ps ≡ suc i → slice_get ps i ≡ Some p → slice_get qs i ≡ Some q → (more : Part) × (q ≡ parts_joined p more)
front_last [] qs i p q h size e f = absurd h
front_last (x ∷ ps) [] i p q h size e f = absurd h
front_last (x ∷ []) (y ∷ qs) zero p q h size e f = (h.0, sym (same_Some y q f) ∙ h.1 ∙ ap (λ r. parts_joined r h.0) (same_Some x p e))
front_last (x ∷ []) (y ∷ qs) (suc i) p q h size e f = absurd (omega (arith, size))
front_last (x ∷ next ∷ ps) (y ∷ qs) zero p q h size e f = absurd (omega (arith, size))
front_last (x ∷ next ∷ ps) (y ∷ qs) (suc i) p q h size e f = front_last (next ∷ ps) qs i p q h.1 (omega (arith, size)) e f

-- if `ps` are a front of `qs`, the last part of `ps`, at place j, comes before the last part of `qs`, at place i; or j is i, and
-- it has no more requests
pub front_not_longer : (ps qs : List Part) (j i : ℕ) (p q : Part) → IsFront ps qs → (last : length ps ≡ suc j) → (last_of_all : length qs ≡ suc i) → (here : slice_get ps j ≡ Some p)
    → (there : slice_get qs i ≡ Some q) → (j < i) ⊎ ((j ≡ i) × (length p.marks ≤ length q.marks))
front_not_longer [] qs j i p q h a b e f = absurd h
front_not_longer (x ∷ ps) [] j i p q h a b e f = absurd h
front_not_longer (x ∷ []) (y ∷ qs) zero zero p q h a b e f =
    let long : length y.marks ≡ length x.marks + length h.0.marks = ap (λ (z : Part). length z.marks) h.1 ∙ length-append x.marks h.0.marks in
    let fewer : length x.marks ≤ length y.marks = omega (arith, long) in
    inr (refl, subst (λ (z : Part). length z.marks ≤ length q.marks) (same_Some x p e) (subst (λ (z : Part). length x.marks ≤ length z.marks) (same_Some y q f) fewer))
front_not_longer (x ∷ []) (y ∷ qs) zero (suc i) p q h a b e f = inl (omega arith)
front_not_longer (x ∷ []) (y ∷ qs) (suc j) i p q h a b e f = absurd (omega (arith, a))
front_not_longer (x ∷ next ∷ ps) (y ∷ qs) zero i p q h a b e f = absurd (omega (arith, a))
front_not_longer (x ∷ next ∷ ps) (y ∷ []) (suc j) i p q h a b e f = absurd h.1
front_not_longer (x ∷ next ∷ ps) (y ∷ z ∷ qs) (suc j) zero p q h a b e f = absurd (omega (arith, b))
front_not_longer (x ∷ next ∷ ps) (y ∷ z ∷ qs) (suc j) (suc i) p q h a b e f =
    elim (front_not_longer (next ∷ ps) (z ∷ qs) j i p q h.1 (omega (arith, a)) (omega (arith, b)) e f) [
      | inl l ↦ inl (omega (arith, l))
      | inr r ↦ inr (ap suc r.0, r.1)
    ]
