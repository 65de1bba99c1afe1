use Rattle.gc_values.proofs.Common.{refl, ap, Ok}
use Rattle.gc_values.proofs.ByteLemmas.{one_byte}
use Rattle.gc_values.proofs.HexPair.{byte_found, no_byte}
use Rattle.gc_values.proofs.byte.read_byte.Goals as goal

pub returns-in-Some-hex_byte-clause-value : goal.returns-in-Some-hex_byte-clause-value
returns-in-Some-hex_byte-clause-value c = byte_found c.args.item.now c.in-Some.a c.in-Some.b c.in-Some-hex_byte.byte c.in-Some.ensures.found c.in-Some-hex_byte.ensures

pub returns-in-Some-hex_byte-clause-only : goal.returns-in-Some-hex_byte-clause-only
returns-in-Some-hex_byte-clause-only c n is = ap Ok (one_byte c.args.item.now c.in-Some-hex_byte.byte n (returns-in-Some-hex_byte-clause-value c) is)

pub returns-in-None-clause-fault : goal.returns-in-None-clause-fault
returns-in-None-clause-fault c = (refl, no_byte c.args.item.now c.in-Some.a c.in-Some.b c.in-Some.ensures.found c.in-None.ensures)

pub returns-in-None-clause-only : goal.returns-in-None-clause-only
returns-in-None-clause-only c n is = absurd ((returns-in-None-clause-fault c).1 n is)
