use Rattle.gc_filters.proofs.Common.{◌≡◌, ap, sym, ◌∙◌, codes, append_cancel_left, behind}
use Rattle.gc_filters.proofs.scene_reading.read_name.Goals as goal

pub returns-in_default : goal.returns-in_default
returns-in_default c = (λ bytes h. c.in_default.ensures bytes h.line_is, c.requires)

pub returns-in-None : goal.returns-in-None
returns-in-None c =
    let line = c.args.line.now in
    let bytes = c.in-Some.bytes.now in
    let rest : behind 32 line ≡ bytes = ap (behind 32) c.in-Some.ensures in (
      λ name h. c.in-None.ensures name (append_cancel_left (codes "name ") name bytes (sym h.line_is ∙ c.in-Some.ensures), h.text),
      (c.requires, λ is. c.in-None.ensures (behind 32 line) (rest, is)),
    )
