use Rattle.gc_texts.proofs.Common.{List, ap, map, rules, sym, ◌∙◌, are_columns, IsNoColumns, Field, field_seen}
use Rattle.gc_texts.proofs.DescriptionForms.{columns_found, columns_no_end, columns_refused, no_list_no_columns}
use Rattle.gc_texts.proofs.description.read_columns.Goals as goal

pub returns-in_err-stop-clause-none : goal.returns-in_err-stop-clause-none
returns-in_err-stop-clause-none c = let none : IsNoColumns c.args.words.now = no_list_no_columns c.args.words.now c.in_err-stop.ensures.none in search rules

pub returns-in_err-more-clause-none : goal.returns-in_err-more-clause-none
returns-in_err-more-clause-none c =
    let none : IsNoColumns c.args.words.now =
    columns_no_end c.args.words.now (map field_seen c.read_fields.new.fields.items) c.read_fields.new.words c.in_ok-stop.stop c.in_ok-stop.ensures.found c.in_err-more.ensures.none in
    search rules

pub returns-then-not-are_columns-clause-none : goal.returns-then-not-are_columns-clause-none
returns-then-not-are_columns-clause-none c =
    columns_refused c.args.words.now (map field_seen c.read_fields.new.fields.items) c.read_fields.new.words c.in_ok-stop.stop c.in_ok-stop.ensures.found
    (ap (λ (fs : List Field). are_columns (map field_seen fs)) (sym c.as_slice.ensures.value) ∙ sym c.are_columns.ensures ∙ c.if-not-are_columns.true)

pub returns-clause-found : goal.returns-clause-found
returns-clause-found c =
    columns_found c.args.words.now (map field_seen c.read_fields.new.fields.items) c.read_fields.new.words c.in_ok-stop.stop c.in_ok-more.more c.in_ok-stop.ensures.found
    c.in_ok-more.ensures.found (ap (λ (fs : List Field). are_columns (map field_seen fs)) (sym c.as_slice.ensures.value) ∙ sym c.are_columns.ensures ∙ c.if-not-are_columns.false)
