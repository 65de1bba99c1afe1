-- Procedures that aren't in the table: which numbers and parameters may be asked for, why others may not, and what a reply says.
-- The lines' form is the manual's; these rules are this project's own.
use Rattle.std.specs.Prelude.{◌≡◌, ◌⊎◌, ◌<◌, ◌≤◌, ◌%◌, ℕ, List, length, Some}
use Rattle.gc_lines.specs.Prelude.{IsPlain, ReplyFields, request_text}
use Rattle.gc_values.specs.Prelude.{AreTooMany, HasOpenQuote, IsParams, quotes}
use Rattle.gc_values.specs.declared.fault.ValueFault.{ValueFault}
use Rattle.gc_catalogue.specs.declared.answer.Answer.{Answer}
use Rattle.gc_catalogue.specs.declared.answer.Answer.TheVariants.{Nothing}
use Rattle.gc_catalogue.specs.declared.answer.Reading.{Reading}
use Rattle.gc_catalogue.specs.declared.raw.RawFault.{RawFault}
use Rattle.gc_catalogue.specs.declared.raw.RawFault.TheVariants.{InTable, NotPlain, TooLong, OpenQuote, TooMany}
use Rattle.gc_catalogue.specs.Calls.{IsNoProcedure, IsProcedure}
use Rattle.gc_catalogue.specs.Readings.{IsReadingBy}
use Rattle.gc_values.specs.declared.fault.ValueFault.TheVariants as fault

-- the length, in bytes, of the line of a request with this number, these parameters and an id
abbrev pub line_length : (rpc : ℕ) → (params : List ℕ) → ℕ
line_length rpc params = length (request_text (record { rpc = rpc; id = Some 0; params = params }))

-- the parameters are a list of at most 16 items, of any kinds
abbrev pub AreFewItems : List ℕ → Type 0
AreFewItems params = (items : List (List ℕ)) × IsParams params items × (length items ≤ 16)

-- the fault for which the parameters aren't at most 16 items: an odd number of double quotes, or more than 16 items
abbrev pub IsItemsRefusal : List ℕ → ValueFault → Type 0
IsItemsRefusal params e = ((e ≡ fault.OpenQuote) × HasOpenQuote params) ⊎ ((e ≡ fault.TooMany) × AreTooMany params)

-- this number may be asked for with these parameters: it is at most 65535, no procedure of the table has it, the parameters have
-- neither CR nor LF, the request's line has at most 512 bytes with an id, the number of double quotes is even, and there are at
-- most 16 items
pub record IsRawCall (rpc : ℕ) (params : List ℕ) : Type 0 where
  pub bound : rpc < 65536
  pub no_procedure : IsNoProcedure rpc
  pub plain : IsPlain params
  pub short : line_length rpc params ≤ 512
  pub closed : quotes params % 2 ≡ 0
  pub few : (items : List (List ℕ)) → IsParams params items → length items ≤ 16

-- the fault for which a number and parameters may not be asked for as they are: the first that holds, in this order. Numbers
-- above 65535, which no request can carry, have no fault of their own
abbrev pub IsRawRefusal : ℕ → List ℕ → RawFault → Type 0
IsRawRefusal rpc params InTable = IsProcedure rpc
IsRawRefusal rpc params NotPlain = IsNoProcedure rpc × (¬ IsPlain params)
IsRawRefusal rpc params TooLong = IsNoProcedure rpc × IsPlain params × (512 < line_length rpc params)
IsRawRefusal rpc params OpenQuote = IsNoProcedure rpc × IsPlain params × (line_length rpc params ≤ 512) × HasOpenQuote params
IsRawRefusal rpc params TooMany = IsNoProcedure rpc × IsPlain params × (line_length rpc params ≤ 512) × AreTooMany params

-- the parameters of a reply of a procedure that isn't in the table are read as this answer: they are at most 16 items, and the
-- answer is `Nothing`, whatever they are
abbrev pub IsRawAnswer : List ℕ → Answer → Type 0
IsRawAnswer params answer = AreFewItems params × (answer ≡ Nothing)

-- the reply has this reading for a procedure that isn't in the table (`IsReadingBy`): its parameters are read as `Nothing`
-- (`IsRawAnswer`)
abbrev pub IsRawReading : ReplyFields → Reading → Type 0
IsRawReading r reading = IsReadingBy (IsRawAnswer r.params) (IsItemsRefusal r.params) r reading
