-- Events that take no memory: each condition for that, which `TakesNoMemory` states of a world, holds of the stage that shows the
-- world.
use Rattle.gc_world.proofs.Common.{◌≡◌, ℕ, false, List, [], ◌∷◌, length, Some, inl, inr, sym, ◌∙◌, ap, subst, arith, ap₂, slice_get, Call, ById, Windowed, fits, heard, Made, Report, Behaviour, SomeInFlight, FrontIsStray, IsNoRepeat, numbers, AreOfWorld, is_begun, Numbered, World}
use Rattle.gc_world.proofs.Showing.{same_up, same_down, no_up, no_down, down_front, down_line}

-- where two queues are equally long, and as many bytes of both front lines have gone, a repeat of line k that isn't possible in
-- one (`IsNoRepeat`) isn't possible in the other
no_repeat : {A B : Type 0} (k gone gone' : ℕ) (xs : List A) (ys : List B) → length xs ≡ length ys → gone ≡ gone' → IsNoRepeat k gone' ys → IsNoRepeat k gone xs
no_repeat k gone gone' xs ys same e (inl begun) = inl (ap (is_begun k) e ∙ begun)
no_repeat k gone gone' xs ys same e (inr past) = inr (omega (arith, same, past))

module _ {State : Type 0} (acts : Behaviour State) (width : ℕ) (r : Report State) (up down : List ℕ) (c : Windowed Call) (w : World (ById Call) State) (h : AreOfWorld width r up down c w) where
  -- where the world's client has as many requests waiting as its window is wide, the stage's client
  -- has as many as its own is wide
  pub full : length w.client.waiting ≡ width → length c.ids.waiting ≡ c.width
  full t = ap (λ (x : Windowed Call). length x.ids.waiting) h.client_is ∙ t ∙ sym (ap (λ (x : Windowed Call). x.width) h.client_is)

  -- where the world's upward queue is empty, the stage's is
  pub none_up : w.wire.up ≡ [] → up ≡ []
  none_up t = h.up_is ∙ ap numbers t

  -- where a repeat of line k of the world's upward queue isn't possible (`IsNoRepeat`), one of line k of the stage's isn't
  -- either, with as many bytes gone of its front line
  pub no_repeat_up : (k gone gone' : ℕ) → gone ≡ gone' → IsNoRepeat k gone' w.wire.up → IsNoRepeat k gone up
  no_repeat_up k gone gone' e t = no_repeat k gone gone' up w.wire.up (same_up acts width r up down c w h) e t

  -- where a repeat of line k of the world's downward queue isn't possible (`IsNoRepeat`), one of line k of the stage's isn't
  -- either, with as many bytes gone of its front line
  pub no_repeat_down : (k gone gone' : ℕ) → gone ≡ gone' → IsNoRepeat k gone' w.wire.down → IsNoRepeat k gone down
  no_repeat_down k gone gone' e t = no_repeat k gone gone' down w.wire.down (same_down acts width r up down c w h) e t

  -- where the world has a line in flight, the stage has
  pub some_in_flight : SomeInFlight w.wire.up w.wire.down → SomeInFlight up down
  some_in_flight b = λ quiet. b (no_up acts width r up down c w h quiet.0, no_down acts width r up down c w h quiet.1)

  -- where the world's front reply is a stray (`FrontIsStray`), no request of the stage's client waits for a reply with these
  -- bytes: those of reply m, which the report has at place p, the front of the stage's downward queue
  pub stray : (p : ℕ) (rest : List ℕ) (m : Made) (bytes : List ℕ) → down ≡ p ∷ rest → slice_get r.made p ≡ Some m → bytes ≡ m.line.items
      → FrontIsStray w.client w.wire.down → fits c.ids (heard bytes) ≡ false
  stray p rest m bytes e found same t =
      let f = down_front acts width r up down c w h p rest e in
      ap₂ (λ (k : Windowed Call) (l : List ℕ). fits k.ids (heard l)) h.client_is
      (same ∙ ap (λ (x : Numbered (List ℕ)). x.line) (down_line acts width r up down c w h p rest m e found)) ∙ (subst (λ q. FrontIsStray w.client q) f.2 t).0
