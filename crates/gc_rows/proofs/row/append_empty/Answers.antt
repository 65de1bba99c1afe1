use Rattle.gc_rows.proofs.Common.{◌+◌, ◌++◌, ap, rules, sym, ◌∙◌, QUANTITIES}
use Rattle.gc_rows.proofs.Rows.{blanks_text}
use Rattle.gc_rows.proofs.row.append_empty.Goals as goal

pub returns : goal.returns
returns g c = record {
  text = c.append_blanks.ensures.text ∙ ap (λ l. c.args.row.now.items ++ l) (sym (blanks_text (QUANTITIES + c.args.columns)));
  room = search rules;
}
