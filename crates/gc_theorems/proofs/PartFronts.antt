-- If a request was sent in the last part of a front of parts (`IsFront`), the station had synchronized by then, and no turn came
-- after that. A part is what happens in a run from one synchronization to the next, as the station sees it.
use Rattle.gc_theorems.proofs.Common.{◌≡◌, ◌⊎◌, inl, inr, ℕ, zero, suc, ◌&&◌, Bool, true, false, if◌then◌else◌, List, [], ◌∷◌, ◌++◌, length, Some, refl, sym, ◌∙◌, ap, subst, arith, slice_get, Task, Plan, Act, has_begun, Part, parts_joined, idle_part, in_front, part_of_act, sync_part, client_part, ends_part, parts_of, loses_all, Model, action_at, after, FirstHasNoSyncSteps, begun_if_nothing_lost, marks_none, nil_both, first_part_no_sync_steps, same_Some, none-some}

-- the first list has at least one part, and the second one at least as many; and if the last part of the first list has requests,
-- its steps of a synchronization are those of the part at its place in the second
abbrev pub IsLastSyncWhole : (ps qs : List Part) → Type 0
IsLastSyncWhole [] qs = ⊥
IsLastSyncWhole (p ∷ ps) [] = ⊥
IsLastSyncWhole (p ∷ []) (q ∷ qs) = (p.marks ≡ []) ⊎ (q.sync_steps ≡ p.sync_steps)
IsLastSyncWhole (p ∷ next ∷ ps) (q ∷ qs) = IsLastSyncWhole (next ∷ ps) qs

-- `IsLastSyncWhole` holds of the list of the one part in which nothing happens and each list of at least one part (`in_front`)
whole_of_idle : (p : Part) (b : Bool) (ps : List Part) → IsLastSyncWhole (idle_part ∷ []) (in_front p b ps)
whole_of_idle p true ps = inl refl
whole_of_idle p false [] = inl refl
whole_of_idle p false (q ∷ ps) = inl refl

-- two parts without steps of a synchronization, joined to the same part, give parts with the same steps of a synchronization
sync_steps_alike : (p x y : Part) → x.sync_steps ≡ [] → y.sync_steps ≡ [] → (parts_joined p y).sync_steps ≡ (parts_joined p x).sync_steps
sync_steps_alike p x y e f = ap (λ l. p.sync_steps ++ l) (f ∙ sym e)

-- `IsLastSyncWhole` is preserved by part p put before both lists (`b`), or joined to the first part of each (`b` is false), if p
-- has no marks, or if the parts that it is joined to have no steps of a synchronization
whole_in_front : (p : Part) (b : Bool) (ps qs : List Part) → (p.marks ≡ []) ⊎ (b ≡ false → FirstHasNoSyncSteps ps × FirstHasNoSyncSteps qs)
    → IsLastSyncWhole ps qs → IsLastSyncWhole (in_front p b ps) (in_front p b qs)
whole_in_front p b [] qs k h = absurd h
whole_in_front p true (x ∷ ps) [] k h = absurd h
whole_in_front p false (x ∷ ps) [] k h = absurd h
whole_in_front p true (x ∷ ps) (y ∷ qs) k h = h
whole_in_front p false (x ∷ []) (y ∷ qs) k (inr e) = inr (ap (λ l. p.sync_steps ++ l) e)
whole_in_front p false (x ∷ []) (y ∷ qs) (inl e) (inl f) = inl (nil_both p.marks x.marks e f)
whole_in_front p false (x ∷ []) (y ∷ qs) (inr g) (inl f) = inr (sync_steps_alike p x y (g refl).0 (g refl).1)
whole_in_front p false (x ∷ next ∷ ps) (y ∷ qs) k h = h

module _ (plan : Plan) (commands : List Task) where
  -- while the station synchronizes (`b` is false), an act's part has no marks; else, unless the act is the last of its part
  -- (`loses_all`), no step of a synchronization comes in the further acts, `xs` or `ys`, until the next part
  sends_or_not : (s : Model) (act : Act) (xs ys : List Act) (b : Bool) → let t = after plan commands s act in
      ((if b then client_part plan commands s (action_at plan s) act else sync_part s (action_at plan s) act).marks ≡ [])
      ⊎ ((b && loses_all t.progress) ≡ false → FirstHasNoSyncSteps (parts_of plan commands t xs) × FirstHasNoSyncSteps (parts_of plan commands t ys))
  sends_or_not s act xs ys false = inl (marks_none s (action_at plan s) act)
  sends_or_not s act xs ys true =
      let t = after plan commands s act in
      inr (λ f. (first_part_no_sync_steps plan commands t xs (begun_if_nothing_lost t f), first_part_no_sync_steps plan commands t ys (begun_if_nothing_lost t f)))

  -- `IsLastSyncWhole` holds of the parts of a run's first acts, and the parts of all of its acts
  pub whole_parts : (s : Model) (xs ys : List Act) → IsLastSyncWhole (parts_of plan commands s xs) (parts_of plan commands s (xs ++ ys))
  whole_parts s [] [] = inl refl
  whole_parts s [] (act ∷ ys) = whole_of_idle (part_of_act plan commands s (action_at plan s) act) (ends_part plan commands s act) (parts_of plan commands (after plan commands s act) ys)
  whole_parts s (act ∷ xs) ys =
      whole_in_front (part_of_act plan commands s (action_at plan s) act) (ends_part plan commands s act) (parts_of plan commands (after plan commands s act) xs)
      (parts_of plan commands (after plan commands s act) (xs ++ ys))
      (sends_or_not s act xs (xs ++ ys) (has_begun s.progress))
      (whole_parts (after plan commands s act) xs ys)

-- the last of these parts, if there is one, has a request
abbrev pub LastIsMarked : List Part → Type 0
LastIsMarked [] = Unit {0}
LastIsMarked (p ∷ []) = p.marks ≡ [] → ⊥
LastIsMarked (p ∷ next ∷ ps) = LastIsMarked (next ∷ ps)

-- a list with an element at a place isn't empty
filled_at : {A : Type 0} (xs : List A) (m : ℕ) (x : A) → slice_get xs m ≡ Some x → xs ≡ [] → ⊥
filled_at [] m x got e = none-some x got
filled_at (y ∷ xs) m x got e = cc

-- if the last part has a mark, `LastIsMarked` holds
pub last_marked : (ps : List Part) (i m : ℕ) (p : Part) (mark : _) → length ps ≡ suc i → slice_get ps i ≡ Some p → slice_get p.marks m ≡ Some mark → LastIsMarked ps
last_marked [] i m p mark size e got = tt
last_marked (x ∷ []) zero m p mark size e got = filled_at x.marks m mark (subst (λ (y : Part). slice_get y.marks m ≡ Some mark) (sym (same_Some x p e)) got)
last_marked (x ∷ []) (suc i) m p mark size e got = absurd (omega (arith, size))
last_marked (x ∷ next ∷ ps) zero m p mark size e got = absurd (omega (arith, size))
last_marked (x ∷ next ∷ ps) (suc i) m p mark size e got = last_marked (next ∷ ps) i m p mark (omega (arith, size)) e got
