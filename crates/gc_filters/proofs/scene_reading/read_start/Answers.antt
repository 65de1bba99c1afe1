use Rattle.gc_filters.proofs.Common.{inl, List, ℕ, subst, sym, Fault, second_word, IsSpan, IsStartLine}
use Rattle.gc_filters.proofs.SceneFields.{no_number}
use Rattle.gc_filters.proofs.scene_reading.read_start.Goals as goal

pub returns-in_default : goal.returns-in_default
returns-in_default c =
    let no = no_number (IsStartLine c.args.line.now) (λ (x : Fault). x.rpc) _ (second_word c.args.line.now) 65535 (c.second_word.ensures) (λ x h. h.rpc) c.in_default.ensures in
    (no.0, (inl c.requires.begins, no.1))

pub returns-in-None : goal.returns-in-None
returns-in-None c = (
  λ f h. c.in-None.ensures (record { after = f.after; times = f.times })
      (subst (λ (ws : List ℕ). IsSpan ws (record { after = f.after; times = f.times })) (sym c.after_three_words.ensures) h.span),
  c.requires.begins,
)
