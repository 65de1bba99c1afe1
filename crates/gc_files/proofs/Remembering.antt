-- What a file in memory remembers: its calls, as the steps of its life. A file is kept where a crash leaves all that it holds
-- (`IsKept`).
use Rattle.gc_files.proofs.Common.{◌≡◌, inl, inr, ℕ, List, [], ◌∷◌, ◌++◌, refl, sym, ◌∙◌, ap, Option, None, Some, subst, true≢false, map_push, step_of, life_by, HoldsAfter, Step, Sync, Life, stepped, held_after, content, MayLeave, IsKept, later_by, Adds}
use Rattle.std.proofs.lemmas.Option.{same_Some}
use Rattle.gc_files.specs.declared.memory_file.Call.{Call}
use Rattle.gc_files.proofs.Moments.{held_after_two, leaves_two}

-- where `new` are `calls` and then c, the life after `new` is the life after `calls` with the step of c at its end
pub life_more : (start : List ℕ) (calls new : List Call) (c : Call)
    → new ≡ calls ++ c ∷ [] → life_by start new ≡ later_by (step_of c ∷ []) (life_by start calls)
life_more start calls new c is = ap (life_by start) is ∙ ap (λ (steps : List Step). record { start = start; steps = steps }) (map_push step_of calls c)

-- after one more step a file holds what that step makes of what it held
pub content_step : (life : Life) (step : Step) → content (later_by (step ∷ []) life) ≡ stepped (content life) step
content_step life step = held_after_two life.start life.steps (step ∷ [])

-- where a file held `old`, which is what `calls` make of `start`, where `new` are `calls` and then c, and where the file now
-- holds what c makes of `old`, it holds what `new` make of `start`
pub holds_after_call : (start : List ℕ) (calls new : List Call) (c : Call) (old now next : List ℕ)
    → new ≡ calls ++ c ∷ [] → now ≡ next → next ≡ stepped old (step_of c)
    → HoldsAfter start calls old → HoldsAfter start new now
holds_after_call start calls new c old now next is put made was =
    put ∙ made ∙ ap (λ (held : List ℕ). stepped held (step_of c)) was ∙ sym (content_step (life_by start calls) (step_of c)) ∙ ap content (sym (life_more start calls new c is))

-- where one more call is made, its step is added to the known life of the file
pub made_step : (start : List ℕ) (calls new : List Call) (c : Call)
    → new ≡ calls ++ c ∷ [] → Adds (Some (life_by start calls)) (Some (life_by start new)) (step_of c ∷ [])
made_step start calls new c is life same =
    ap (λ (l : Life). Some l) (life_more start calls new c is) ∙ ap (λ (o : Option Life). after o) same
  where
    -- the life with the step of c at its end, where the life is known
    after : Option Life → Option Life
    after None = None
    after (Some l) = Some (later_by (step_of c ∷ []) l)

-- where the last step was a sync, the file is kept, as `IsKept` has it
kept_after_sync : (old : Life) → IsKept (later_by (Sync ∷ []) old)
kept_after_sync old left may = elim (leaves_two old.start old.steps (Sync ∷ []) left may) [
  | inl earlier ↦ absurd (true≢false earlier.0)
  | inr new ↦ last new
]
  where
    -- what a crash leaves after the last sync is what the file holds
    last : MayLeave (held_after old.start old.steps) (Sync ∷ []) left → left ≡ held_after old.start (old.steps ++ Sync ∷ [])
    last (inl now) = absurd (true≢false now.0)
    last (inr rest) = rest ∙ sym (held_after_two old.start old.steps (Sync ∷ []))

-- where a sync was added to the life `old` of a file, and its life is now `known`, the file is kept
pub kept_once_synced : (old known : Life) (now : Option Life) → Adds (Some old) now (Sync ∷ []) → now ≡ Some known → IsKept known
kept_once_synced old known now adds is = subst IsKept (same_Some (later_by (Sync ∷ []) old) known (sym (adds old refl) ∙ is)) (kept_after_sync old)
