use Rattle.gc_texts.proofs.ParameterTroubles.{trouble_of_refusal}
use Rattle.gc_texts.proofs.trouble.call_trouble.Goals as goal

pub returns-in-Err-Parameters : goal.returns-in-Err-Parameters
returns-in-Err-Parameters c =
    trouble_of_refusal c.args.rpc c.parameter_count.result c.args.params.now c.in-Err-Parameters.field-0 c.in-Err-Parameters.fault c.parameters_trouble.result
    c.parameter_count.ensures.count c.in-Err-Parameters.ensures.fault c.in-Err-Parameters.field-0-is c.parameters_trouble.ensures
