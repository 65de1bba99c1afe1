-- What a file holds at each moment of a run. To mend a file is to cut off what follows its last line feed, and to sync that.
use Rattle.gc_files.proofs.Common.{◌≡◌, ◌⊎◌, inl, inr, ℕ, zero, suc, ◌+◌, ◌≤◌, ◌==◌, true, false, List, [], ◌∷◌, ◌++◌, length, take, refl, sym, ◌∙◌, ap, subst, arith, append_assoc, length-append, take-append-add, take-nil, cases_Bool, cases_lt, eqb-true, true≢false, append-nil, take_all, take_at, take-append-le, Step, Append, Cut, Sync, stepped, held_after, has_sync, MayLeave, whole, mended, cuts_none, appended, IsFront, synced}
use Rattle.gc_files.proofs.Whole.{Torn, whole_and_torn, whole_take}

-- what a file holds after these steps is among what a crash after them may leave
pub may_stay : (held : List ℕ) (steps : List Step) → MayLeave held steps (held_after held steps)
may_stay held [] = refl
may_stay held (step ∷ steps) = inr (may_stay (stepped held step) steps)

-- after the steps `xs ++ ys`, a file holds what `ys` make of what it holds after `xs`
pub held_after_two : (held : List ℕ) (xs ys : List Step) → held_after held (xs ++ ys) ≡ held_after (held_after held xs) ys
held_after_two held [] ys = refl
held_after_two held (step ∷ xs) ys = held_after_two (stepped held step) xs ys

-- where there is no sync in `xs ++ ys`, there is none in `xs`, and none in `ys`
no_sync_two : (xs ys : List Step) → has_sync (xs ++ ys) ≡ false → (has_sync xs ≡ false) × (has_sync ys ≡ false)
no_sync_two [] ys none = (refl, none)
no_sync_two (Append bytes ∷ xs) ys none = no_sync_two xs ys none
no_sync_two (Cut size ∷ xs) ys none = no_sync_two xs ys none
no_sync_two (Sync ∷ xs) ys none = absurd (true≢false none)

-- what a crash may leave after the steps `xs ++ ys` is what it may leave after `xs` alone, where `ys` have no sync, or what it
-- may leave after `ys` of the file that `xs` made
pub leaves_two : (held : List ℕ) (xs ys : List Step) (left : List ℕ) → MayLeave held (xs ++ ys) left
    → ((has_sync ys ≡ false) × MayLeave held xs left) ⊎ MayLeave (held_after held xs) ys left
leaves_two held [] ys left may = inr may
leaves_two held (step ∷ xs) ys left (inl now) =
    let two = no_sync_two (step ∷ xs) ys now.0 in
    inl (two.1, inl (two.0, now.1))
leaves_two held (step ∷ xs) ys left (inr next) = elim (leaves_two (stepped held step) xs ys left next) [
  | inl first ↦ inl (first.0, inr first.1)
  | inr second ↦ inr second
]

-- of steps without a sync nothing was synced
pub none_synced : (steps : List Step) → has_sync steps ≡ false → synced steps ≡ []
none_synced [] none = refl
none_synced (Append bytes ∷ steps) none = rw (none) refl
none_synced (Cut size ∷ steps) none = none_synced steps none
none_synced (Sync ∷ steps) none = absurd (true≢false none)

-- mending a file leaves its whole rows
pub mended_leaves_whole : (held : List ℕ) → held_after held (mended held) ≡ whole held
mended_leaves_whole held = elim (cases_Bool (length (whole held) == length held)) [
  | inl same ↦
      let t = whole_and_torn held in
      let none : mended held ≡ [] = rw (same) refl in
      ap (held_after held) none ∙ all held t (eqb-true (length (whole held)) (length held) same)
  | inr less ↦
      let two : mended held ≡ Cut (length (whole held)) ∷ Sync ∷ [] = rw (less) refl in
      let t = whole_and_torn held in
      ap (held_after held) two ∙ ap (take (length (whole held))) t.split ∙ take_at (whole held) t.torn (length (whole held)) refl
]
  where
    -- a file whose whole rows have its length is its whole rows
    all : (held : List ℕ) (t : Torn held) → length (whole held) ≡ length held → held ≡ whole held
    all held t same =
        sym (take_all (length held) held (omega arith)) ∙ ap (λ n. take n held) (sym same)
        ∙ ap (take (length (whole held))) t.split ∙ take_at (whole held) t.torn (length (whole held)) refl

-- at each moment of a cut after the whole rows of a file, and of a sync after that cut, whatever a crash leaves has the same
-- whole rows as the file
cut_moments : (held : List ℕ) (count : ℕ) (left : List ℕ) → MayLeave held (take count (Cut (length (whole held)) ∷ Sync ∷ [])) left → whole left ≡ whole held
cut_moments held zero left may = ap whole may
cut_moments held (suc zero) left (inl now) = ap whole now.1.2 ∙ whole_take held now.1.0 now.1.1
cut_moments held (suc zero) left (inr next) = ap whole next ∙ whole_take held (length (whole held)) (omega arith)
cut_moments held (suc (suc n)) left (inl now) = absurd (true≢false now.0)
cut_moments held (suc (suc n)) left (inr (inl now)) = absurd (true≢false now.0)
cut_moments held (suc (suc n)) left (inr (inr next)) =
    ap whole (subst (λ (steps : List Step). MayLeave (take (length (whole held)) held) steps left) (take-nil n) next) ∙ whole_take held (length (whole held)) (omega arith)

-- at each moment of mending a file, in part or to the end, whatever a crash leaves has the same whole rows as the file
pub mend_moments : (held : List ℕ) (count : ℕ) (left : List ℕ) → MayLeave held (take count (mended held)) left → whole left ≡ whole held
mend_moments held count left may = elim (cases_Bool (length (whole held) == length held)) [
  | inl same ↦
      let none : mended held ≡ [] = rw (same) refl in
      let there : MayLeave held [] left = subst (λ (steps : List Step). MayLeave held steps left) (ap (take count) none ∙ take-nil count) may in
      ap whole there
  | inr less ↦
      let two : mended held ≡ Cut (length (whole held)) ∷ Sync ∷ [] = rw (less) refl in
      cut_moments held count left (subst (λ (steps : List Step). MayLeave held (take count steps) left) two may)
]

-- a file is mended by two steps at most
pub mended_by_two_steps : (held : List ℕ) → take 2 (mended held) ≡ mended held
mended_by_two_steps held = elim (cases_Bool (length (whole held) == length held)) [
  | inl same ↦ rw (same) (take-nil 2)
  | inr less ↦ rw (less) refl
]

-- mending a file, in part or whole, appends nothing: what was synced of it and later steps is what was synced of the later steps
-- alone
pub mend_synced : (held : List ℕ) (count : ℕ) (later : List Step) → synced (take count (mended held) ++ later) ≡ synced later
mend_synced held count later = elim (cases_Bool (length (whole held) == length held)) [
  | inl same ↦
      let none : mended held ≡ [] = rw (same) refl in
      ap (λ (steps : List Step). synced (take count steps ++ later)) none ∙ ap (λ (steps : List Step). synced (steps ++ later)) (take-nil count)
  | inr less ↦
      let two : mended held ≡ Cut (length (whole held)) ∷ Sync ∷ [] = rw (less) refl in
      ap (λ (steps : List Step). synced (take count steps ++ later)) two ∙ none_in later count
]
  where
    -- a cut and a sync, or a front of these two steps, append nothing: what is synced is what the later steps have synced
    none_in : (later : List Step) (n : ℕ) → synced (take n (Cut (length (whole held)) ∷ Sync ∷ []) ++ later) ≡ synced later
    none_in later zero = refl
    none_in later (suc zero) = refl
    none_in later (suc (suc n)) = ap (λ (steps : List Step). synced (steps ++ later)) (take-nil n)

-- `left` is `held` and the first `count` bytes of `all` after it, and `count` is at least the length of `least`
pub record Reached (held all least left : List ℕ) : Type 0 where
  pub count : ℕ
  pub is : left ≡ held ++ take count all
  pub enough : length least ≤ count

-- `held` and, after it, the first k of `bytes`, which are a front of `all`, is `held` and the first `count` of `all`, for some
-- `count` that is at least k or at least the length of `bytes`
pub front_take : (held all bytes : List ℕ) (k : ℕ) (f : IsFront bytes all)
    → (count : ℕ) × (k ≤ count ⊎ length bytes ≤ count) × (held ++ take k bytes ≡ held ++ take count all)
front_take held all bytes k f = elim (cases_lt k (length bytes)) [
  | inl less ↦ (k, inl (omega arith), ap (λ (l : List ℕ). held ++ l) (sym (take-append-le k bytes f.rest (omega (arith, less))) ∙ ap (take k) (sym f.split)))
  | inr more ↦ (length bytes, inr (omega arith), ap (λ (l : List ℕ). held ++ l) (take_all k bytes more ∙ sym (take_at bytes f.rest (length bytes) refl) ∙ ap (take (length bytes)) (sym f.split)))
]

-- what a crash may leave after steps that cut nothing is what the file held before them, and then a front of what they append, at
-- least as much as was synced of it (`Reached`)
pub put_moments : (steps : List Step) (held left : List ℕ)
    → cuts_none steps ≡ true → MayLeave held steps left → Reached held (appended steps) (synced steps) left
put_moments [] held left none may = record { count = 0; is = may ∙ sym (append-nil held); enough = omega arith }
put_moments (Append bytes ∷ steps) held left none (inl now) =
    let at = front_take held (bytes ++ appended steps) bytes now.1.0 (record { rest = appended steps; split = refl }) in
    record { count = at.0; is = now.1.1 ∙ at.2; enough = subst (λ (l : List ℕ). length l ≤ at.0) (sym (none_synced (Append bytes ∷ steps) now.0)) (omega arith) }
put_moments (Append bytes ∷ steps) held left none (inr next) =
    let rest = put_moments steps (held ++ bytes) left none next in
    record {
      count = length bytes + rest.count;
      is = rest.is ∙ append_assoc held bytes (take rest.count (appended steps)) ∙ ap (λ (l : List ℕ). held ++ l) (sym (take-append-add bytes (appended steps) rest.count));
      enough = elim (cases_Bool (has_sync steps)) [
        | inl some ↦ rw (some) (omega (arith, rest.enough, length-append bytes (synced steps)))
        | inr isnt ↦ rw (isnt) (omega arith)
      ];
    }
put_moments (Sync ∷ steps) held left none (inl now) = absurd (true≢false now.0)
put_moments (Sync ∷ steps) held left none (inr next) = put_moments steps held left none next
put_moments (Cut size ∷ steps) held left none may = absurd (true≢false (sym none))
