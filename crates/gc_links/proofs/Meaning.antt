-- How a link's acts go on to stand on the system's calls, as one act more is done.
use Rattle.gc_links.proofs.Common.{◌≡◌, List, [], ◌∷◌, ◌++◌, flat_map, sym, ap, ◌∙◌, subst, refl, append_assoc, append-nil, map-append, flat_map-append, merely, ∥∥₁_elim, ∥∥₁_prop, Act, Call, Makes, Deed, AreDone, after_all, AreMeant}

module _ {State : Type 0} (Does : State → Act → List Call → State → Type 0) where
  -- one deed more
  done_then : (before : State) (deeds : List (Deed State)) (deed : Deed State) → AreDone Does before deeds
      → Does (after_all before deeds) deed.act deed.calls deed.after → AreDone Does before (deeds ++ deed ∷ [])
  done_then before [] deed done does = (does, tt)
  done_then before (first ∷ deeds) deed done does = (done.0, done_then first.after deeds deed done.1 does)

module _ {State : Type 0} where
  -- the state after one deed more
  after_then : (before : State) (deeds : List (Deed State)) (deed : Deed State) → after_all before (deeds ++ deed ∷ []) ≡ deed.after
  after_then before [] deed = refl
  after_then before (first ∷ deeds) deed = after_then first.after deeds deed

module _ {State : Type 0} (Does : State → Act → List Call → State → Type 0) (first : List Call) (begun : State) where
  -- no act was done yet
  pub meant_none : ∥ AreMeant Does first begun [] first begun ∥₁
  meant_none = merely (record { deeds = []; acts_are = refl; calls_are = sym (append-nil first); are_done = tt; now_is = refl })

  one_more : {acts : List Act} {calls : List Call} {before : State} (act : Act) (more : List Call) (after : State)
      → AreMeant Does first begun acts calls before → Does before act more after
      → AreMeant Does first begun (acts ++ act ∷ []) (calls ++ more) after
  one_more {calls = calls} act more after meant does =
      let deed : Deed State = record { act = act; calls = more; after = after } in
      record {
        deeds = meant.deeds ++ deed ∷ [];
        acts_are = ap (λ xs. xs ++ act ∷ []) meant.acts_are ∙ sym (map-append (λ d. d.act) meant.deeds (deed ∷ []));
        calls_are =
            ap (λ xs. xs ++ more) meant.calls_are ∙ append_assoc first (flat_map (λ d. d.calls) meant.deeds) more
            ∙ ap (λ xs. first ++ (flat_map (λ d. d.calls) meant.deeds ++ xs)) (sym (append-nil more))
            ∙ ap (λ xs. first ++ xs) (sym (flat_map-append (λ d. d.calls) meant.deeds (deed ∷ [])));
        are_done = done_then Does begun meant.deeds deed meant.are_done (subst (λ s. Does s act more after) meant.now_is does);
        now_is = sym (after_then begun meant.deeds deed);
      }

  -- one act more was done by the calls that were made for it
  pub meant_then : {acts acts' : List Act} {calls calls' : List Call} {before : State} (act : Act) (after : State)
      → ∥ AreMeant Does first begun acts calls before ∥₁ → acts' ≡ acts ++ act ∷ []
      → Makes calls calls' (λ more. Does before act more after) → ∥ AreMeant Does first begun acts' calls' after ∥₁
  meant_then {acts = acts} {calls' = calls'} act after meant noted made =
      ∥∥₁_elim meant ∥∥₁_prop (λ was. merely (
      subst (λ xs. AreMeant Does first begun xs calls' after) (sym noted)
      (subst (λ ys. AreMeant Does first begun (acts ++ act ∷ []) ys after) (sym made.added) (one_more act made.calls after was made.are))))
