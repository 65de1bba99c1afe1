-- The end of a run of answering: `HasEnded`, from what the result says of the ports.
use Rattle.gc_lines.proofs.Common.{ℕ, Result, Err, OnOk, rules, IsAtEnd, Ports, EndsBecause, HasEnded}
use Rattle.gc_lines.specs.declared.served.Served.{Served}
use Rattle.gc_lines.specs.declared.served.ServeFault.{ServeFault}
use Rattle.gc_lines.specs.declared.served.ServeFault.TheVariants.{Read}

-- `HasEnded` is true if the ports are as the result says (`EndsBecause`), and if the source has no byte left where the result is
-- `Ok`
pub has_ended : (old new : Ports) (most : ℕ) (r : Result Served ServeFault) → OnOk r (IsAtEnd new.remaining)
    → EndsBecause old new most r → HasEnded old new most r
has_ended old new most (Err (Read n)) whole ends = record {
  whole = whole;
  ends = ends;
  served = search rules;
  read = search rules;
  write = search rules;
  too_many = search rules;
}
has_ended old new most r whole ends = record {
  whole = whole;
  ends = ends;
  served = search rules;
  read = search rules;
  write = search rules;
  too_many = search rules;
}
