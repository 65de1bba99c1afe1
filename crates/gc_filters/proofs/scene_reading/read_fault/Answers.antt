use Rattle.gc_filters.proofs.Common.{inl, List, ℕ, subst, sym, Fault, second_word, third_word, IsFaultLine, IsSpan}
use Rattle.gc_filters.proofs.SceneFields.{no_number}
use Rattle.gc_filters.proofs.scene_reading.read_fault.Goals as goal

pub returns-in_default : goal.returns-in_default
returns-in_default c =
    let no = no_number (IsFaultLine c.args.line.now) (λ (x : Fault). x.rpc) _ (second_word c.args.line.now) 65535 (c.second_word.ensures) (λ x h. h.rpc) c.in_default.ensures in
    (no.0, (inl c.requires, no.1))

pub returns-in_default-u16_of : goal.returns-in_default-u16_of
returns-in_default-u16_of c =
    let no = no_number (IsFaultLine c.args.line.now) (λ (x : Fault). x.rc) _ (third_word c.args.line.now) 65535 (c.third_word.ensures) (λ x h. h.rc) c.in_default-u16_of.ensures in
    (no.0, inl (c.requires, no.1))

pub returns-in-None : goal.returns-in-None
returns-in-None c = (
  λ f h. c.in-None.ensures (record { after = f.after; times = f.times })
      (subst (λ (ws : List ℕ). IsSpan ws (record { after = f.after; times = f.times })) (sym c.after_three_words.ensures) h.span),
  c.requires,
)
