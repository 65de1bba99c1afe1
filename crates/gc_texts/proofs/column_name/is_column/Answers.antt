use Rattle.gc_texts.proofs.Common.{List, ℕ, ap, sym, ◌∙◌, ends_as_text, is_name_of_row, suits_name, field_seen}
use Rattle.gc_texts.proofs.ColumnSteps.{column_as_text, column_suits}
use Rattle.gc_texts.proofs.column_name.is_column.Goals as goal

pub returns-then-ends_as_text : goal.returns-then-ends_as_text
returns-then-ends_as_text c =
    let name = c.as_slice-name.ensures.value in
    sym (column_as_text (field_seen c.args.field.now) (sym (ap is_name_of_row name) ∙ sym c.is_name_of_row.ensures ∙ c.if-is_name_of_row.false)
    (sym (ap ends_as_text name) ∙ sym c.ends_as_text.ensures ∙ c.if-ends_as_text.true))

pub returns : goal.returns
returns c =
    let name = c.as_slice-name.ensures.value in
    c.suits_name.ensures ∙ ap (λ (n : List ℕ). suits_name n c.args.field.now.kind) name
    ∙ sym (column_suits (field_seen c.args.field.now) (sym (ap is_name_of_row name) ∙ sym c.is_name_of_row.ensures ∙ c.if-is_name_of_row.false)
    (sym (ap ends_as_text name) ∙ sym c.ends_as_text.ensures ∙ c.if-ends_as_text.false))
