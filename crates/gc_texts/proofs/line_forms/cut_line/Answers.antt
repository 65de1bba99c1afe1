use Rattle.gc_texts.proofs.line_forms.cut_line.Goals as goal

pub returns : goal.returns
returns c = record { piece = c.cut_at.result.0.now; cut = c.cut_at.ensures; line_is = c.without_cr.ensures }
