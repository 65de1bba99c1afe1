use Rattle.gc_rows.proofs.Common.{◌++◌, [], ap, append_assoc, replicate, rules, sym, ◌∙◌, flat_map-append, answer_columns, behind_comma, fields_behind_commas}
use Rattle.gc_rows.proofs.Rows.{blanks_text}
use Rattle.gc_rows.proofs.row.append_called.Goals as goal

pub returns : goal.returns
returns g c =
    let old = c.args.row.now.items in
    let answer = answer_columns c.args.call.now c.args.answer.now in
    let n = c.args.columns in
    record {
      text = c.append_blanks.ensures.text ∙ ap (λ l. l ++ replicate n 44) c.append_columns.ensures.text
          ∙ append_assoc old (fields_behind_commas answer) (replicate n 44)
          ∙ ap (λ l. old ++ (fields_behind_commas answer ++ l)) (sym (blanks_text n))
          ∙ ap (λ l. old ++ l) (sym (flat_map-append behind_comma answer (replicate n [])));
      room = search rules;
    }
