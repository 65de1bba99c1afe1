-- What an instrument that starts anew at some requests does with a line.
use Rattle.gc_scenes.proofs.Common.{◌≡◌, ℕ, List, ◌++◌, Option, Some, None, Bool, true, false, refl, sym, ◌∙◌, ap, subst, AppendsAnswer, RequestFields, IsRequest, counted, IsPlayed, SceneState, scene_restarted, StartingState, StartsOrPlays, starts, is_start_due, sign_on, Fault}
use Rattle.gc_scenes.specs.Starting.{plays}

-- Here the instrument gets a line. `v` equals the state `s` before it, `scene` is the scene's instrument after it, `counts` are the
-- starts that have counted a request of this procedure, and `due` says whether a start was due at that.
module _ (v s : StartingState) (e : v ≡ s) (rpc : ℕ) (line : List ℕ) (scene : SceneState) (counts : List Fault) (due : Bool) (old new : List ℕ)
    (is : due ≡ is_start_due rpc v.starts) (counted_is : counts ≡ counted rpc v.starts) (q : RequestFields) (asks : IsRequest line q) (same : q.rpc ≡ rpc) where
  -- the starts have counted the request
  counts_are : counts ≡ counted q.rpc s.starts
  counts_are = counted_is ∙ ap (λ (n : ℕ). counted n v.starts) (sym same) ∙ ap (λ (t : StartingState). counted q.rpc t.starts) e

  -- whether a start was due at the request
  due_is : due ≡ is_start_due q.rpc s.starts
  due_is = is ∙ ap (λ (n : ℕ). is_start_due n v.starts) (sym same) ∙ ap (λ (t : StartingState). is_start_due q.rpc t.starts) e

  -- where none was due, what the scene's instrument appended is what `StartsOrPlays` says of the line
  pub played_as_sent : (b : Bool) → due ≡ false → AppendsAnswer (IsPlayed v.scene line scene) old new b
      → AppendsAnswer (StartsOrPlays s line (record { scene = scene; starts = counts })) old new b
  played_as_sent b none h = by_sent b h
    where
      -- the line was played in the scene's state
      here : (sent : Option (List ℕ)) → IsPlayed v.scene line scene sent → StartsOrPlays s line (record { scene = scene; starts = counts }) sent
      here sent played =
          plays q asks (sym due_is ∙ none) scene (subst (λ (t : StartingState). IsPlayed t.scene line scene sent) e played)
          (ap (λ (fs : List Fault). record { scene = scene; starts = fs }) counts_are)

      -- the lemma above, by whether something was sent (`b`)
      by_sent : (b : Bool) → AppendsAnswer (IsPlayed v.scene line scene) old new b
          → AppendsAnswer (StartsOrPlays s line (record { scene = scene; starts = counts })) old new b
      by_sent true h = (h.0, here (Some h.0) h.1, h.2)
      by_sent false h = (here None h.0, h.1)

  -- where one was due, the scene's instrument restarted, and the sign-on line was appended, that is what `StartsOrPlays` says
  pub started_as_sent : due ≡ true → scene ≡ scene_restarted v.scene → new ≡ old ++ sign_on
      → AppendsAnswer (StartsOrPlays s line (record { scene = scene; starts = counts })) old new true
  started_as_sent one restarts appended = (
    sign_on,
    starts q asks (sym due_is ∙ one)
        (ap (λ (t : SceneState). record { scene = t; starts = counts }) (restarts ∙ ap (λ (t : StartingState). scene_restarted t.scene) e)
        ∙ ap (λ (fs : List Fault). record { scene = scene_restarted s.scene; starts = fs }) counts_are) refl,
    appended,
  )
