-- The table of the faults: which number each has. The numbers are this project's own.
use Rattle.gc_texts.specs.Common.{value_fault_number, ValueFault, serve_fault_number, line_fault_number, call_fault_number, refusal_number}
use Rattle.std.specs.Prelude.{◌≡◌, ℕ, [], ◌∷◌, map}
use Rattle.gc_lines.specs.declared.served.TheConstants.{READ_FAILED, WRITE_FAILED, READS_SPENT}
use Rattle.gc_texts.specs.Faults.{run_fault_number}
use Rattle.gc_values.specs.declared.fault.ValueFault.TheVariants as value
use Rattle.gc_lines.specs.declared.fault.LineFault.TheVariants as line
use Rattle.gc_lines.specs.declared.served.ServeFault.TheVariants as serving
use Rattle.gc_catalogue.specs.declared.fault.CallFault.TheVariants as call
use Rattle.gc_texts.specs.declared.fault.RunFault.TheVariants as run

-- each fault has the number of the table
pub record FaultsHaveTheirNumbers : Type 0 where
  -- of a line: 1 to 6
  pub of_lines : map line_fault_number (line.Signature ∷ line.Number ∷ line.Id ∷ line.Colon ∷ line.Code ∷ line.TooLong ∷ [])
      ≡ 1 ∷ 2 ∷ 3 ∷ 4 ∷ 5 ∷ 6 ∷ []
  -- of a value and of a list of parameters: 11 to 15
  pub of_values : map value_fault_number (value.Spelling ∷ value.Range ∷ value.OpenQuote ∷ value.TooMany ∷ value.Count ∷ [])
      ≡ 11 ∷ 12 ∷ 13 ∷ 14 ∷ 15 ∷ []
  -- of a call: 21 and 22; and as it is printed, 21 or the number of the parameters' fault
  pub of_calls : (fault : ValueFault) → map call_fault_number (call.Unknown ∷ call.Parameters fault ∷ []) ≡ 21 ∷ 22 ∷ []
  pub of_refusals : (fault : ValueFault) → map refusal_number (call.Unknown ∷ call.Parameters fault ∷ []) ≡ 21 ∷ value_fault_number fault ∷ []
  -- of serving: 42 to 44
  pub of_serving : (replies bytes : ℕ)
      → map serve_fault_number (serving.Read replies ∷ serving.Write replies bytes ∷ serving.TooManyReads replies ∷ [])
      ≡ 42 ∷ 43 ∷ 44 ∷ []
  -- of a run: 41 to 45, and 51 to 55
  pub of_runs : (replies bytes : ℕ) → map run_fault_number (run.SceneFull ∷ run.Read ∷ run.Write replies bytes ∷ run.TooManyReads ∷ run.LinkClosed ∷ [])
      ≡ 41 ∷ 42 ∷ 43 ∷ 44 ∷ 45 ∷ []
  pub of_texts_and_ports : (number : ℕ) → map run_fault_number (run.Schedule number ∷ run.Memory ∷ run.InputTooLong ∷ run.Socket ∷ run.Output ∷ [])
      ≡ 51 ∷ 52 ∷ 53 ∷ 54 ∷ 55 ∷ []
  -- of the program: 46 to 50, 56 to 60, and 64 to 66
  pub of_the_program : map run_fault_number (run.Mute ∷ run.Clock ∷ run.Stale ∷ run.SetUp ∷ run.NoCommand
      ∷ run.StreamClosed ∷ run.Log ∷ run.NoTerminal ∷ run.Held ∷ run.Forbidden ∷ run.RecordsUnopened ∷ run.RecordsHeld ∷ run.RecordsForeign ∷ [])
      ≡ 46 ∷ 47 ∷ 48 ∷ 49 ∷ 50 ∷ 56 ∷ 57 ∷ 58 ∷ 59 ∷ 60 ∷ 64 ∷ 65 ∷ 66 ∷ []
  -- the code's names of three of them
  pub names : READ_FAILED ∷ WRITE_FAILED ∷ READS_SPENT ∷ [] ≡ 42 ∷ 43 ∷ 44 ∷ []
