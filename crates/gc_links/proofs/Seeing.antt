-- How the acts of a link that looks for files and reads others go on.
use Rattle.gc_links.proofs.Common.{◌≡◌, ℕ, List, [], ◌∷◌, ◌++◌, sym, ap, ◌∙◌, subst, append-nil, refl, Result, Ok, Err, merely, ∥∥₁_elim, ∥∥₁_prop, ValueFile, PortFailed, Moment, Act, Told, put_act, open_act, Call, Makes, AreSeen, IsSeen, SignalsSeen, begun, more}

module _ (signals : SignalsSeen) (files : List ValueFile) (began : Moment) where
  -- one act more, which was noted
  pub seen_then : {inner inner' : List Act} {looks looks' : List Call} {seen seen' : List Act} (act noted act' : Act)
      → ∥ AreSeen signals files began inner looks seen ∥₁ → inner' ≡ inner ++ act ∷ [] → Makes looks looks' (λ look. IsSeen signals files act look act')
      → seen' ≡ seen ++ noted ∷ [] → noted ≡ act' → ∥ AreSeen signals files began inner' looks' seen' ∥₁
  seen_then {inner = inner} {inner' = inner'} {looks = looks} {looks' = looks'} {seen = seen} {seen' = seen'} act noted act' are inner_is made added is =
      let seen_is : seen' ≡ seen ++ act' ∷ [] = added ∙ ap (λ a. seen ++ a ∷ []) is in
      ∥∥₁_elim are ∥∥₁_prop (λ was. merely (
      subst (λ xs. AreSeen signals files began xs looks' seen') (sym inner_is)
      (subst (λ ys. AreSeen signals files began (inner ++ act ∷ []) ys seen') (sym made.added)
      (subst (λ zs. AreSeen signals files began (inner ++ act ∷ []) (looks ++ made.calls) zs) (sym seen_is)
      (more was act made.calls act' made.are)))))

  -- one act more, without a look
  pub same_then : {inner inner' : List Act} {looks : List Call} {seen seen' : List Act} (act noted : Act)
      → ∥ AreSeen signals files began inner looks seen ∥₁ → inner' ≡ inner ++ act ∷ [] → IsSeen signals files act [] act
      → seen' ≡ seen ++ noted ∷ [] → noted ≡ act → ∥ AreSeen signals files began inner' looks seen' ∥₁
  same_then {looks = looks} act noted are inner_is same added is =
      seen_then act noted act are inner_is (record { calls = []; added = sym (append-nil looks); are = same }) added is

  -- a write is seen as it is
  pub put_same : (put : Result (Unit {0}) ℕ) (bytes : List ℕ) → IsSeen signals files (put_act put bytes) [] (put_act put bytes)
  put_same (Ok _) bytes = (refl, refl)
  put_same (Err n) bytes = (refl, refl)

  -- an opening is seen as it is
  pub open_same : (opened : Result (Unit {0}) PortFailed) → IsSeen signals files (open_act opened) [] (open_act opened)
  open_same (Ok _) = (refl, refl)
  open_same (Err e) = (refl, refl)

  -- the link was made, and its clock was read
  pub seen_begun : (inner : List Act) (looks : List Call) (seen : List Act) → inner ≡ Told began ∷ [] → looks ≡ [] → seen ≡ []
      → ∥ AreSeen signals files began inner looks seen ∥₁
  seen_begun inner looks seen inner_is no_looks none =
      merely (
      subst (λ xs. AreSeen signals files began xs looks seen) (sym inner_is)
      (subst (λ ys. AreSeen signals files began (Told began ∷ []) ys seen) (sym no_looks)
      (subst (λ zs. AreSeen signals files began (Told began ∷ []) [] zs) (sym none) begun)))
