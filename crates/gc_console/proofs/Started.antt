-- Which instrument a subcommand begins with.
use Rattle.gc_console.proofs.Common.{◌≡◌, ◌⊎◌, ℕ, List, Option, None, Result, Ok, inl, inr, sym, ◌∙◌, State}
use Rattle.gc_scenes.specs.Prelude.{SceneState, HearsSometime, SlowState, slow_restarted}
use Rattle.gc_console.specs.Served.{ServesAsAsked, ServesOrRefuses}
use Rattle.gc_console.specs.declared.refusal.Refusal.{Refusal}
use Rattle.gc_console.specs.declared.scene.Staged.{Staged}
use Rattle.gc_console.specs.declared.scene.Staged.TheVariants.{Plain, Ruled}
use Rattle.gc_console.specs.declared.scene.Timed.{Timed}
use Rattle.gc_console.specs.declared.scene.Timed.TheVariants.{Still, Slow}
use Rattle.gc_console.specs.declared.serve.Serving.{Serving}

-- if a result is `Ok` of two instruments without rules, they are the same
pub same_plain : (r : Result Staged Refusal) (x : Staged) (i j : State) → r ≡ Ok x → x ≡ Plain i → r ≡ Ok (Plain j) → i ≡ j
same_plain r x i j e is f = cc

-- a result that is `Ok` of an instrument with rules isn't `Ok` of one without rules
pub never_ruled : (r : Result Staged Refusal) (x : Staged) (i : SceneState) (j : State) → r ≡ Ok x → x ≡ Ruled i → r ≡ Ok (Plain j) → ⊥
never_ruled r x i j e is f =
    let same : x ≡ Plain j = cc in
    let apart : ◌≡◌ {A = Staged} (Ruled i) (Plain j) = sym is ∙ same in
    let never : ⊥ = cc in
    never

-- if a result is `Ok` of two instruments for `serve` that need no clock and have no rules, they are the same
pub same_still : (r : Result Timed Refusal) (x : Timed) (y : Staged) (i j : State) → r ≡ Ok x → x ≡ Still y → y ≡ Plain i → r ≡ Ok (Still (Plain j)) → i ≡ j
same_still r x y i j e is plain f = cc

-- a result that is `Ok` of an instrument with rules, or of one that needs a clock, isn't `Ok` of one without either
pub never_still_ruled : (r : Result Timed Refusal) (x : Timed) (y : Staged) (i : SceneState) (j : State) → r ≡ Ok x → x ≡ Still y → y ≡ Ruled i → r ≡ Ok (Still (Plain j)) → ⊥
never_still_ruled r x y i j e is ruled f =
    let same : y ≡ Plain j = cc in
    let apart : ◌≡◌ {A = Staged} (Ruled i) (Plain j) = sym ruled ∙ same in
    let never : ⊥ = cc in
    never

pub never_slow : (r : Result Timed Refusal) (x : Timed) (i : SlowState) (j : State) → r ≡ Ok x → x ≡ Slow i → r ≡ Ok (Still (Plain j)) → ⊥
never_slow r x i j e is f =
    let same : x ≡ Still (Plain j) = cc in
    let apart : ◌≡◌ {A = Timed} (Slow i) (Still (Plain j)) = sym is ∙ same in
    let never : ⊥ = cc in
    never

-- what was done of an instrument that needs a clock, of a scene that was named
pub slow_served : (serving : Serving) (start : SlowState) (status : ℕ) (old new : Option (List ℕ)) → (serving.scene ≡ None → ⊥)
    → (status ≡ 1) ⊎ ServesAsAsked HearsSometime slow_restarted serving start status old new → ServesOrRefuses serving status old new
slow_served serving start status old new named (inl is) = inl (named, is)
slow_served serving start status old new named (inr serves) = inr (inr (inr (named, (start, serves))))
