use Rattle.gc_rows.proofs.Common.{rules, Err, ap, sym, arith, append-nil, ◌++◌, ◌∙◌, codes, members_in, split_content, texts_member, members_text, items_within_params}
use Rattle.gc_rows.proofs.Items.{refused_is_none, few_are_split}
use Rattle.gc_rows.proofs.json_line.append_items.Goals as goal

pub append_list-requires : goal.append_list-requires
append_list-requires g c =
    let fit = items_within_params c.args.values.now c.in-Ok.items c.in-Ok.ensures.found.0 in
    let short = c.requires.short in
    (search rules, (omega (arith, fit, short), (c.in-Ok.ensures.found.1, c.requires.room)))

pub returns-in-Ok : goal.returns-in-Ok
returns-in-Ok g c =
    record {
      text = c.append_list.ensures.text ∙ ap (λ l. c.args.line.now.items ++ l) (sym (append-nil (texts_member (codes "items") c.in-Ok.items)))
          ∙ ap (λ o. c.args.line.now.items ++ members_text (members_in (codes "items") (split_content o))) (sym (few_are_split c.args.values.now c.in-Ok.items c.in-Ok.ensures.found.0 c.in-Ok.ensures.found.1));
      room = c.append_list.ensures.room;
    }

pub returns-in-Err : goal.returns-in-Err
returns-in-Err g c =
    let none = refused_is_none c.args.values.now c.in-Err.field-0 c.in-Err.ensures.faults (λ e. c.in-Err.ensures.open_quote.0 (ap Err e)) (λ e. c.in-Err.ensures.too_many.0 (ap Err e)) in
    record {
      text = sym (append-nil c.args.line.now.items) ∙ ap (λ o. c.args.line.now.items ++ members_text (members_in (codes "items") (split_content o))) (sym none);
      room = omega arith;
    }
