-- What the code does in each case is what the definitions say: a feed with and without a reply, and calls of an instrument that
-- is there. s or b is the state of the instrument before a call, and n the one after it; `old` and `new` are the text before and
-- after the reply is appended.
use Rattle.geocom_instrument_c.proofs.Common.{◌≡◌, ℕ, true, false, List, [], ◌∷◌, ◌++◌, Some, None, refl, sym, ap, ◌∙◌, subst, AppendsAnswer, with_end, BenchState, CallsBench, HearsAndAnswers, IsSent, IsWithoutReply, GeocomReplied}
use Rattle.std.proofs.Common.{Option}
use Rattle.gc_lines.specs.declared.frame.Frame.{Frame}
use Rattle.gc_lines.specs.declared.frame.Frame.TheVariants.{Line}
use Rattle.gc_scenes.specs.Prelude.{SlowState, HearsLine}

-- a feed of `used` bytes, whose frame is a line, has the result r
module _ (s n : SlowState) (frame : Frame) (line old new : List ℕ) (now used : ℕ) (r : GeocomReplied) (is : frame ≡ Line (record { items = line })) where
  -- if the instrument hears the line and has no reply, a result that says so (`IsWithoutReply`) meets `HearsAndAnswers`
  pub unanswered : AppendsAnswer (HearsLine s line now n) old new false → IsWithoutReply 0 used r → HearsAndAnswers s frame now n used r
  unanswered heard nothing =
      subst (λ (f : Frame). HearsAndAnswers s f now n used r) (sym is) (record { text = None; hears = (None, heard.0, refl); says = nothing })

  -- if the instrument hears the line and has a reply, and the text was empty before, a result with that reply and its CR LF
  -- (`IsSent`) meets `HearsAndAnswers`
  pub answered : (sent : List ℕ) → AppendsAnswer (HearsLine s line now n) old new true → old ≡ [] → sent ≡ new ++ 13 ∷ 10 ∷ []
      → IsSent sent used n.free_from r → HearsAndAnswers s frame now n used r
  answered sent heard empty ends told =
      let whole : sent ≡ with_end heard.0 = ends ∙ ap (λ (x : List ℕ). x ++ 13 ∷ 10 ∷ []) (heard.2 ∙ ap (λ (x : List ℕ). x ++ heard.0) empty) in
      subst (λ (f : Frame). HearsAndAnswers s f now n used r) (sym is)
      (record { text = Some (with_end heard.0); hears = (Some heard.0, heard.1, refl); says = subst (λ (x : List ℕ). IsSent x used n.free_from r) whole told })

-- where an instrument is there before the call and after it, and `With` holds of its states, the call is as `CallsBench` says
pub calls_bench : (o : Option BenchState) (b n : BenchState) (Without : Type 0) (With : BenchState → BenchState → Type 0) → o ≡ Some b → With b n
    → CallsBench o (Some n) Without With
calls_bench o b n Without With is so = record {
  absent = λ none. let bad : Some b ≡ None = sym is ∙ none in cc;
  present = λ d e. let both : Some b ≡ Some d = sym is ∙ e in let same : b ≡ d = cc in (n, refl, subst (λ (x : BenchState). With x n) same so);
}
