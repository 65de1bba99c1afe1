-- What holds of each outcome with ways of real instruments, and that without ways it is that of the execution table.
use Rattle.gc_scenes.proofs.Common.{◌≡◌, ℕ, ℤ, ◌<◌, ◌&&◌, Bool, true, false, cond, Option, Some, None, refl, sym, ap, ◌∙◌, subst, lit<, cond_both, Decimal, Answer, Call, DateTime, Executed, Gives, exec, done, distance_outcome, measured_outcome, adjusted, pointed, unmeasured, with_kept, executed_with, State, KeptReply, Pointing, Target, exec_outcome, executes_apart, distance_apart, adjusted_apart, acted, acted_faceless, aimed, dated, faced, pointed_over, outcome, clock_shows, seen_by, SceneState, seeing, scene_of, no_ways, nearest}
use Rattle.std.specs.Prelude.{pos}
use Rattle.std.specs.Ordering.{int_eq}
use Rattle.gc_scenes.specs.declared.instrument.SceneInstrument.TheInside.{Inside}
use Rattle.gc_scenes.specs.declared.ways.Ways.{Ways}
use Rattle.gc_catalogue.specs.declared.answer.Answer.TheVariants as answer
use Rattle.gc_catalogue.specs.declared.call.Call.TheVariants as call

-- the outcome, with the face by the vertical angle if the instrument has both faces' angles (true)
abbrev faced_outcome : (faces : Bool) → Executed → Executed
faced_outcome faces x = record { state = faced faces x.state; rc = x.rc; answer = x.answer }

-- the outcome, but in this state
abbrev outcome_in : Executed → State → Executed
outcome_in x s = record { state = s; rc = x.rc; answer = x.answer }

-- an outcome is sound: its return code has 16 bits
abbrev HasSoundCode : Executed → Type 0
HasSoundCode x = x.rc < 65536

-- each outcome of the table is sound
table_sound : (s : State) (asked : Call) → HasSoundCode (exec s asked)
table_sound s asked = (exec_outcome s asked).code

-- an outcome with code 0 is sound
done_sound : (s : State) (a : Answer) → HasSoundCode (done s a)
done_sound s a = lit< tt

-- the outcome of a search that found a target, or none, is sound
adjusted_sound : (s : State) (o : Option Target) → HasSoundCode (adjusted s o)
adjusted_sound s (Some t) = done_sound (pointed s t.hz t.v) answer.Nothing
adjusted_sound s None = lit< tt

-- the outcome of asking for the distance is sound
distance_sound : (s : State) (f : Decimal → Answer) (o : Option Decimal) → HasSoundCode (distance_outcome s f o)
distance_sound s f (Some d) = done_sound s (f d)
distance_sound s f None = lit< tt

-- the outcome of asking for the date is sound
dated_sound : (now : Option DateTime) (s : State) → HasSoundCode (dated now s)
dated_sound (Some d) s = done_sound s (answer.Date d)
dated_sound None s = done_sound s (answer.Date s.date)

-- where two outcomes are sound, so is the one of them that a test chooses
either_sound : (b : Bool) (x y : Executed) → HasSoundCode x → HasSoundCode y → HasSoundCode (cond b x y)
either_sound b x y is other = cond_both b x y HasSoundCode (λ _. is) (λ _. other)

-- each outcome with ways, but for the face, is sound
faceless_sound : (w : Ways) (now : Option DateTime) (s : State) (asked : Call) → HasSoundCode (acted_faceless w now s asked)
faceless_sound w now s (call.Position hz v pos_mode atr_mode dummy) =
    let there : Pointing = record { hz = hz; v = v } in
    either_sound (w.aims && int_eq atr_mode (pos 1)) (aimed s hz v) (exec s (call.Position hz v pos_mode atr_mode dummy)) (adjusted_sound (pointed s hz v) (nearest there s.scene))
    (table_sound s (call.Position hz v pos_mode atr_mode dummy))
faceless_sound w now s (call.ChangeFace pos_mode atr_mode dummy) =
    either_sound w.faces (done (pointed_over s) answer.Nothing) (exec s (call.ChangeFace pos_mode atr_mode dummy)) (done_sound (pointed_over s) answer.Nothing)
    (table_sound s (call.ChangeFace pos_mode atr_mode dummy))
faceless_sound w now s (call.SimpleMea wait mode) =
    either_sound w.takes (measured_outcome (unmeasured s) s) (exec s (call.SimpleMea wait mode)) (distance_sound (unmeasured s) _ s.distance) (table_sound s (call.SimpleMea wait mode))
faceless_sound w now s call.GetDate = dated_sound now s
faceless_sound w now s asked = table_sound s asked

-- each outcome of a scene's instrument is sound
pub outcome_sound : (s : SceneState) (asked : Call) → (outcome s asked).rc < 65536
outcome_sound s asked = faceless_sound s.ways (clock_shows s) (seeing (seen_by s asked) s.base) asked

-- without ways, and where no clock runs, the outcome (but for the face) is the table's
pub table_without_ways : (s : State) (asked : Call) → acted_faceless no_ways None s asked ≡ exec s asked
unfolding exec
table_without_ways s (call.Position hz v pos_mode atr_mode dummy) = refl
table_without_ways s (call.ChangeFace pos_mode atr_mode dummy) = refl
table_without_ways s (call.SimpleMea wait mode) = refl
table_without_ways s call.GetDate = refl
table_without_ways s asked = refl

-- The outcome with ways doesn't depend on the stored reply.
module _ (kept : Option KeptReply) where
  -- where two outcomes don't depend on the stored reply, neither does the one of them that a test chooses
  either_apart : (b : Bool) (x y v w : Executed) → v ≡ executed_with kept x → w ≡ executed_with kept y → cond b v w ≡ executed_with kept (cond b x y)
  either_apart true x y v w is other = is
  either_apart false x y v w is other = other

  -- the outcome of asking for the date doesn't depend on the stored reply
  dated_apart : (now : Option DateTime) (s : State) → dated now (with_kept kept s) ≡ executed_with kept (dated now s)
  dated_apart (Some d) s = refl
  dated_apart None s = refl

  -- the outcome with ways, but for the face, doesn't depend on the stored reply
  faceless_apart : (w : Ways) (now : Option DateTime) (s : State) (asked : Call)
      → acted_faceless w now (with_kept kept s) asked ≡ executed_with kept (acted_faceless w now s asked)
  faceless_apart w now s (call.Position hz v pos_mode atr_mode dummy) =
      either_apart (w.aims && int_eq atr_mode (pos 1)) _ _ _ _ (sym (adjusted_apart (pointed s hz v) kept (nearest (record { hz = hz; v = v }) s.scene)))
      (executes_apart s kept (call.Position hz v pos_mode atr_mode dummy))
  faceless_apart w now s (call.ChangeFace pos_mode atr_mode dummy) = either_apart w.faces _ _ _ _ refl (executes_apart s kept (call.ChangeFace pos_mode atr_mode dummy))
  faceless_apart w now s (call.SimpleMea wait mode) =
      either_apart w.takes _ _ _ _ (sym (distance_apart (unmeasured s) kept _ s.distance))
      (executes_apart s kept (call.SimpleMea wait mode))
  faceless_apart w now s call.GetDate = dated_apart now s
  faceless_apart w now s asked = executes_apart s kept asked

  -- the face by the vertical angle doesn't depend on the stored reply
  faced_apart : (b : Bool) (s : State) → faced b (with_kept kept s) ≡ with_kept kept (faced b s)
  faced_apart true s = refl
  faced_apart false s = refl

  -- where a call with ways leads from the state s to t, it does so with any stored reply in both
  acts_apart : (w : Ways) (now : Option DateTime) (s t : State) (asked : Call) (code : ℕ) (said : Answer) → Gives (acted w now s asked) t code said
      → Gives (acted w now (with_kept kept s) asked) (with_kept kept t) code said
  acts_apart w now s t asked code said does =
      let x = acted_faceless w now s asked in
      ap (faced_outcome w.faces) (faceless_apart w now s asked) ∙ ap (outcome_in x) (faced_apart w.faces x.state) ∙ ap (executed_with kept) does

-- where a call with ways led from the state s to t, but for the face, and then the face was set by the vertical angle, if the
-- instrument has both faces' angles (`faced`), the call with ways leads to the state after that
pub acts_with_face : (w : Ways) (now : Option DateTime) (s t u : State) (asked : Call) (code : ℕ) (said : Answer) → Gives (acted_faceless w now s asked) t code said
    → u ≡ faced w.faces t → Gives (acted w now s asked) u code said
acts_with_face w now s t u asked code said does is =
    ap (faced_outcome w.faces) does ∙ ap (λ (x : State). record { state = x; rc = code; answer = said }) (sym is)

-- where the fields `i` of an instrument make up the scene's state s (`scene_of`), and the call leads from their base, with the
-- targets that it sees (`seen`), to t, it leads from s to t with the kept reply of `i`, with the same code and answer
pub acts_over_seen : (i : Inside) (s : SceneState) (seen t : State) (now : Option DateTime) (asked : Call) (code : ℕ) (said : Answer)
    → scene_of i ≡ s → seen ≡ seeing (seen_by s asked) i.base → now ≡ clock_shows s
    → Gives (acted i.ways now seen asked) t code said → Gives (outcome s asked) (with_kept i.kept t) code said
acts_over_seen i s seen t now asked code said e over date does =
    let Acts : Ways → Option DateTime → State → Type 0 = λ w n u. Gives (acted w n u asked) t code said in
    let here : Acts s.ways (clock_shows s) (seeing (seen_by s asked) i.base) =
    subst (λ (w : Ways). Acts w (clock_shows s) (seeing (seen_by s asked) i.base)) (ap (λ (u : SceneState). u.ways) e)
    (subst (λ (n : Option DateTime). Acts i.ways n (seeing (seen_by s asked) i.base)) date (subst (λ (u : State). Acts i.ways now u) over does)) in
    subst (λ (u : State). Gives (acted s.ways (clock_shows s) (seeing (seen_by s asked) u) asked) (with_kept i.kept t) code said)
    (ap (λ (u : SceneState). u.base) e)
    (acts_apart i.kept s.ways (clock_shows s) (seeing (seen_by s asked) i.base) t asked code said here)

-- The outcomes that the ways change.

-- with `faces`, the outcome of a face change, but for the face, is that of pointing at the other face's angles
pub change_face_outcome : (w : Ways) (now : Option DateTime) (s : State) (pos_mode atr_mode : ℤ) (dummy : Bool) (x : Executed) → w.faces ≡ true
    → done (pointed_over s) answer.Nothing ≡ x
    → acted_faceless w now s (call.ChangeFace pos_mode atr_mode dummy) ≡ x
change_face_outcome w now s pos_mode atr_mode dummy x is does =
    ap (λ (b : Bool). cond b (done (pointed_over s) answer.Nothing) (exec s (call.ChangeFace pos_mode atr_mode dummy))) is ∙ does

-- with `takes`, the outcome of TMC_GetSimpleMea, but for the face, is that of answering the distance and clearing it
pub simple_mea_outcome : (w : Ways) (now : Option DateTime) (s : State) (wait mode : ℤ) (x : Executed) → w.takes ≡ true
    → measured_outcome (unmeasured s) s ≡ x
    → acted_faceless w now s (call.SimpleMea wait mode) ≡ x
simple_mea_outcome w now s wait mode x is does =
    ap (λ (b : Bool). cond b (measured_outcome (unmeasured s) s) (exec s (call.SimpleMea wait mode))) is ∙ does

-- where no clock runs, the outcome of asking for the date, but for the face, is the table's
pub get_date_outcome : (w : Ways) (now : Option DateTime) (s : State) (x : Executed) → now ≡ None → exec s call.GetDate ≡ x
    → acted_faceless w now s call.GetDate ≡ x
unfolding exec
get_date_outcome w now s x is does = ap (λ (n : Option DateTime). dated n s) is ∙ does
