use Rattle.gc_texts.proofs.Common.{map, field_seen}
use Rattle.gc_texts.proofs.DescriptionForms.{no_list_no_params, params_found, params_other}
use Rattle.gc_texts.proofs.description.read_parameters.Goals as goal

pub returns-in-Some-clause-found : goal.returns-in-Some-clause-found
returns-in-Some-clause-found c =
    params_found c.args.words.now (map field_seen c.read_fields.new.fields.items) c.read_fields.new.words c.in-Some.stop c.is_arrow.result c.in-Some.ensures.found c.is_arrow.ensures

pub returns-in-Some-clause-none : goal.returns-in-Some-clause-none
returns-in-Some-clause-none c =
    params_other c.args.words.now (map field_seen c.read_fields.new.fields.items) c.read_fields.new.words c.in-Some.stop c.is_arrow.result c.in-Some.ensures.found c.is_arrow.ensures

pub returns-in-None-clause-none : goal.returns-in-None-clause-none
returns-in-None-clause-none c = λ _. no_list_no_params c.args.words.now c.in-None.ensures.none
