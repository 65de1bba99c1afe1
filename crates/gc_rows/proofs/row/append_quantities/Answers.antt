use Rattle.gc_rows.proofs.Common.{◌≡◌, ◌++◌, ◌∙◌, Some, None, ap, rules, length-map, ending_seen, line_of, counted_answer, entry_seen, fields_behind_commas}
use Rattle.gc_rows.proofs.NamedFields.{answered_fields, unanswered_fields}
use Rattle.gc_rows.proofs.row.append_quantities.Goals as goal

pub returns-in-Some : goal.returns-in-Some
returns-in-Some g c =
    let end = ending_seen c.args.ended.ending in
    let answer = c.in-Some.answer.now in
    let line = c.in-Some.reply.now.items in
    let counts : counted_answer end ≡ Some answer = search rules in
    let came : line_of end ≡ Some line = search rules in
    record {
      text = c.append_answer.ensures.text
          ∙ ap (λ l. c.args.row.now.items ++ fields_behind_commas l) (answered_fields (entry_seen c.args.ended) answer line counts came);
      room = c.append_answer.ensures.room;
    }

pub returns-in-None : goal.returns-in-None
returns-in-None g c =
    let none : counted_answer (ending_seen c.args.ended.ending) ≡ None = search rules in
    record {
      text = c.append_empty.ensures.text
          ∙ ap (λ l. c.args.row.now.items ++ fields_behind_commas l) (unanswered_fields (entry_seen c.args.ended) _ (length-map c.args.ended.columns.now (λ n. n.items)) none);
      room = c.append_empty.ensures.room;
    }
