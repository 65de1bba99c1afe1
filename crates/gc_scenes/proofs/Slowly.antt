-- What an instrument whose replies take time does with a line.
use Rattle.gc_scenes.proofs.Common.{◌≡◌, ℕ, List, Some, None, Result, Ok, Err, true, false, refl, sym, ◌∙◌, ap, subst, AppendsAnswer, GivesEach, RequestFields, IsRequest, faulty_is_no_request, StartingState, StartsOrPlays, later, SlowState, HearsLine, replies, TakesUp, IsDelay, delay_of, scene_then, taken_up}
use Rattle.gc_lines.specs.declared.fault.LineFault.{LineFault}
use Rattle.gc_lines.specs.declared.request.Request.{Request}
use Rattle.gc_scenes.specs.Slow.{silent}
use Rattle.gc_scenes.specs.declared.delay.Delay.{Delay}

-- the delay of the request that a line reads as is the delay of the line. The premise about `view` is the contract of the reading
pub delay_read : (delays : List Delay) (line : List ℕ) (view : Request → RequestFields) (r : Request) (ms : ℕ)
    → GivesEach IsRequest view line (Ok r) → ms ≡ delay_of (view r).rpc delays → IsDelay delays line ms
delay_read delays line view r ms only is = λ q reads.
    let same : ◌≡◌ {A = Result RequestFields LineFault} (Ok q) (Ok (view r)) = only q reads in
    let one : q ≡ view r = cc in
    is ∙ ap (λ (x : RequestFields). delay_of x.rpc delays) (sym one)

-- a line that doesn't read as a request is no request, so `IsDelay` holds of it with any delay. The premise about `view` is the
-- contract of the reading that failed
pub delay_unread : (delays : List Delay) (line : List ℕ) (view : Request → RequestFields) (fault : LineFault) (ms : ℕ)
    → GivesEach IsRequest view line (Err fault) → IsDelay delays line ms
delay_unread delays line view fault ms only = λ q reads. absurd (faulty_is_no_request line fault view only q reads)

-- Here a line is taken up. `v` equals the state `now` before the line, `then` is the scene's state when the instrument starts on
-- the line, and `scene` that after it.
module _ (v now : SlowState) (e : v ≡ now) (line : List ℕ) (at : ℕ) (then scene : StartingState) (old new : List ℕ)
    (taken : TakesUp now at) (starts : then ≡ scene_then now at) where
  -- where the line gets no reply, `HearsLine` holds of it
  pub silent_heard : AppendsAnswer (StartsOrPlays then line scene) old new false
      → AppendsAnswer (HearsLine now line at (record v { scene = scene })) old new false
  silent_heard h =
      subst (λ (b : SlowState). AppendsAnswer (HearsLine b line at (record v { scene = scene })) old new false) e (
        silent (subst (λ (b : SlowState). TakesUp b at) (sym e) taken) scene
            (subst (λ (s : StartingState). StartsOrPlays s line scene None) (starts ∙ ap (λ (b : SlowState). scene_then b at) (sym e)) h.0) refl refl,
        h.1,
      )

  -- where the line gets a reply, which takes `ms` milliseconds and goes out at the moment `due`, `HearsLine` holds of it
  pub reply_heard : (ms due : ℕ) → IsDelay now.delays line ms → due ≡ later (taken_up now at) ms
      → AppendsAnswer (StartsOrPlays then line scene) old new true
      → AppendsAnswer (HearsLine now line at (record v { scene = scene; free_from = due })) old new true
  reply_heard ms due delay is h =
      subst (λ (b : SlowState). AppendsAnswer (HearsLine b line at (record v { scene = scene; free_from = due })) old new true) e (
        h.0,
        replies (subst (λ (b : SlowState). TakesUp b at) (sym e) taken) scene h.0
            (subst (λ (s : StartingState). StartsOrPlays s line scene (Some h.0)) (starts ∙ ap (λ (b : SlowState). scene_then b at) (sym e)) h.1) ms
            (subst (λ (b : SlowState). IsDelay b.delays line ms) (sym e) delay)
            (ap (λ (d : ℕ). record v { scene = scene; free_from = d }) (is ∙ ap (λ (b : SlowState). later (taken_up b at) ms) (sym e))) refl,
        h.2,
      )
