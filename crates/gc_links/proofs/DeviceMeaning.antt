-- How the acts of a link over a device go on to stand on the system's calls.
use Rattle.gc_links.proofs.Common.{◌≡◌, ℕ, List, [], ◌∷◌, ◌++◌, ap, ◌∙◌, sym, subst, ∥∥₁_elim, ∥∥₁_map, ∥∥₁_prop, merely, Act, Call, Makes, Monotonic, DoesOnDevice, AreMeantOnDevice, HoldsFirst, Hold}
use Rattle.gc_links.proofs.Meaning.{meant_none, meant_then}

module _ (path : List ℕ) (start : ℕ) where
  -- one act more was done, and noted
  pub device_then : {acts acts' : List Act} {calls calls' : List Call} {before : Hold} (noted act : Act) (after : Hold)
      → ∥ AreMeantOnDevice path start acts calls before ∥₁ → acts' ≡ acts ++ noted ∷ [] → noted ≡ act
      → Makes calls calls' (λ more. DoesOnDevice path start before act more after) → ∥ AreMeantOnDevice path start acts' calls' after ∥₁
  device_then {acts = acts} noted act after meant added is made =
      ∥∥₁_elim meant ∥∥₁_prop (λ m.
      ∥∥₁_map (meant_then (DoesOnDevice path start) (Monotonic start ∷ m.opening) m.begun act after (merely m.are)
      (added ∙ ap (λ a. acts ++ a ∷ []) is) made)
      (λ are. record { opening = m.opening; begun = m.begun; holds = m.holds; are = are }))

  -- the link was made: the clock was read, and then the device was opened and is held, or couldn't be opened
  pub device_made : {none read calls : List Call} (acts : List Act) (begun : Hold) → acts ≡ [] → none ≡ [] → read ≡ none ++ Monotonic start ∷ []
      → Makes read calls (λ opening. HoldsFirst path opening begun) → ∥ AreMeantOnDevice path start acts calls begun ∥₁
  device_made {none = none} {calls = calls} acts begun no_acts no_calls clock made =
      let is : calls ≡ Monotonic start ∷ made.calls =
      made.added ∙ ap (λ xs. xs ++ made.calls) (clock ∙ ap (λ xs. xs ++ Monotonic start ∷ []) no_calls) in
      ∥∥₁_map (meant_none (DoesOnDevice path start) (Monotonic start ∷ made.calls) begun)
      (λ are. subst (λ xs. AreMeantOnDevice path start xs calls begun) (sym no_acts)
      (subst (λ ys. AreMeantOnDevice path start [] ys begun) (sym is)
      (record { opening = made.calls; begun = begun; holds = made.are; are = are })))
