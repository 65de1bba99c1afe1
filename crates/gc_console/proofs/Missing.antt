-- A connection that can't be had: the fault `Socket` of an address, and that of a device, are among the faults of a place.
use Rattle.gc_console.proofs.Common.{◌≡◌, ℕ, Some, None, Ok, Err, inl, inr, LinkResult, IsFaultOfDevice, IsFaultOfPlace, ServesEach, AnswerRule, RunFault, Socket}
use Rattle.gc_lines.specs.declared.frame.Frame.{Frame}

-- `Socket` is a fault of a place
pub socket_of_place : (fault : RunFault) → fault ≡ Socket → IsFaultOfPlace fault
socket_of_place fault is = (None, is)

-- the fault of a device is one of a place
pub device_of_place : (fault : RunFault) → IsFaultOfDevice fault → IsFaultOfPlace fault
device_of_place fault is = (Some is.0, is.1)

-- connections of an address were served (`ServesEach`), which is a place
pub each_of_place : {S : Type 0} (rule : AnswerRule S Frame) (restart : S → S) (most count : ℕ) (before after : S) (result : LinkResult)
    → ServesEach rule restart most (λ fault. fault ≡ Socket) count before after result → ServesEach rule restart most IsFaultOfPlace count before after result
each_of_place rule restart most count before after (Ok x) each = each
each_of_place rule restart most count before after (Err fault) (served, state, few, well, inl missing) =
    (served, state, few, well, inl (missing.0, socket_of_place fault missing.1))
each_of_place rule restart most count before after (Err fault) (served, state, few, well, inr one) = (served, state, few, well, inr one)
