-- Why a request names no call: the numbers and the texts of the faults, which are this project's own.
use Rattle.std.specs.Prelude.{ℕ, List, codes}
use Rattle.gc_values.specs.Prelude.{value_fault_number, value_fault_text}
use Rattle.gc_catalogue.specs.declared.fault.CallFault.{CallFault}
use Rattle.gc_catalogue.specs.declared.fault.CallFault.TheVariants.{Unknown, Parameters}

-- the number of a fault: 21 where no procedure has the request's number, and 22 for every fault of parameters
abbrev pub call_fault_number : CallFault → ℕ
call_fault_number Unknown = 21
call_fault_number (Parameters e) = 22

-- the fault's number as users see it: 21 where no procedure has the request's number, else that of the parameters' fault, 11 to
-- 15
abbrev pub refusal_number : CallFault → ℕ
refusal_number Unknown = call_fault_number Unknown
refusal_number (Parameters e) = value_fault_number e

-- the text of each fault; where the parameters are at fault, it is the text of their fault
abbrev pub call_fault_text : CallFault → List ℕ
call_fault_text Unknown = codes "no procedure has the number"
call_fault_text (Parameters e) = value_fault_text e
