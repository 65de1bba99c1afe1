-- The faults of a line and of a port, their numbers and texts: this project's own.
use Rattle.std.specs.Prelude.{ℕ, List, codes}
use Rattle.gc_lines.specs.declared.fault.LineFault.{LineFault}
use Rattle.gc_lines.specs.declared.fault.LineFault.TheVariants.{Signature, Number, Id, Colon, Code, TooLong}

-- a line fault's number: 1 to 5 for the fields from the left, and 6 for a line that is too long
abbrev pub line_fault_number : LineFault → ℕ
line_fault_number Signature = 1
line_fault_number Number = 2
line_fault_number Id = 3
line_fault_number Colon = 4
line_fault_number Code = 5
line_fault_number TooLong = 6

-- a line fault's text, as it is printed
abbrev pub line_fault_text : LineFault → List ℕ
line_fault_text Signature = codes "the line doesn't begin as a request or a reply"
line_fault_text Number = codes "the number behind the signature is missing or out of range"
line_fault_text Id = codes "the transaction id isn't one digit from 0 to 7"
line_fault_text Colon = codes "the colon is missing"
line_fault_text Code = codes "the return code is missing, out of range, or followed by something else than a comma"
line_fault_text TooLong = codes "the line would pass 512 bytes"

-- the text of a port's failure, as it is printed
abbrev pub port_text : List ℕ
port_text = codes "the port has failed"
