use Rattle.gc_values.proofs.Common.{◌≡◌, ◌<◌, ◌^◌, take, AreDigits, number}
use Rattle.gc_values.proofs.cutting.exponent_number.Given as goal

abbrev pub invariant-loop-byte : goal.invariant-loop-byte
invariant-loop-byte l = (l.value ≡ number (take l.byte-index l.text)) × (l.value < 10 ^ l.byte-index) × AreDigits (take l.byte-index l.text)
