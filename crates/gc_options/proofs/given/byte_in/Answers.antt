use Rattle.gc_options.proofs.Common.{ExplainsUnsignedError, HasUnsignedDigitsIfOk, ParsesUnsigned, found_of}
use Rattle.gc_options.proofs.Getters.{ReadsBits, narrow, number_read}
use Rattle.gc_options.proofs.given.byte_in.Goals as goal

pub returns : goal.returns
returns c =
    number_read _ 8 (found_of c.args.words.now) c.args.name.now c.get_one.result c.get_one.ensures.none
    (λ text is. narrow (λ t x. ParsesUnsigned 8 10 t x × ExplainsUnsignedError 10 t x × HasUnsignedDigitsIfOk t x) (ReadsBits 8) text c.get_one.result (c.get_one.ensures.value text is) (λ x gives. gives.0))
