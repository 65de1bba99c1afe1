-- How the acts of a link stand on the system's calls: this project's own.
use Rattle.std.specs.Prelude.{◌≡◌, List, [], ◌∷◌, ◌++◌, ⊤, map, flat_map}
use Rattle.gc_links.specs.Acts.{Act}
use Rattle.gc_links.specs.Calls.{Call}

-- one act of a link, the system's calls that did it, and the state of the link's connection after it
pub record Deed (State : Type 0) : Type 0 where
  pub act : Act
  pub calls : List Call
  pub after : State

-- each act in turn was done by its calls, as `Does` says, from this state on
abbrev pub AreDone : {State : Type 0} → (Does : State → Act → List Call → State → Type 0) (before : State) → List (Deed State)
    → Type 0
AreDone Does before [] = ⊤
AreDone Does before (deed ∷ deeds) = Does before deed.act deed.calls deed.after × AreDone Does deed.after deeds

-- the state after all of these, which begin in this one
abbrev pub after_all : {State : Type 0} → (before : State) → List (Deed State) → State
after_all before [] = before
after_all before (deed ∷ deeds) = after_all deed.after deeds

-- the system's calls of a link are those of its making (`first`), and then those of each of its acts, in order, without any other
-- call before, between or after them; and each act was done by its calls, as `Does` says. `begun` and `now` are the states of its
-- connection when it was made, and now
pub record AreMeant {State : Type 0} (Does : State → Act → List Call → State → Type 0) (first : List Call) (begun : State)
    (acts : List Act) (calls : List Call) (now : State) : Type 0 where
  pub deeds : List (Deed State)
  pub acts_are : acts ≡ map (λ deed. deed.act) deeds
  pub calls_are : calls ≡ first ++ flat_map (λ deed. deed.calls) deeds
  pub are_done : AreDone Does begun deeds
  pub now_is : now ≡ after_all begun deeds
