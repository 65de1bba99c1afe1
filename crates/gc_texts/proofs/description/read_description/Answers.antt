use Rattle.gc_texts.proofs.Common.{map, rules, IsDescription, description_seen, field_seen, Description}
use Rattle.gc_texts.proofs.DescriptionForms.{no_columns}
use Rattle.gc_texts.proofs.description.read_description.Goals as goal

pub returns-in_err-more : goal.returns-in_err-more
returns-in_err-more c =
    let none : (d : Description) → IsDescription c.args.text.now (description_seen d) → ⊥ =
    λ d is. no_columns c.args.text.now c.new-words.result c.next.new.self c.in_ok-number.number.now c.new-words.ensures c.in_ok-number.ensures
    (map field_seen c.read_parameters.new.params.items) c.read_parameters.new.words (c.read_parameters.ensures.found c.if-not-read_parameters.false) c.in_err-more.ensures.none
    (description_seen d) is in
    search rules
