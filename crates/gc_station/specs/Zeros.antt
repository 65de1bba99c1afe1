-- No part of a promise: which reading the code takes for what a reply says by a form, and for what a refused one would say with return
-- code 0.
use Rattle.gc_station.specs.Common.{ReplyFields, IsReply, Reading, Asked, ReadsBy, as_zero, Form}
use Rattle.std.specs.Prelude.{◌≡◌, Option, Some, None}
use Rattle.gc_client.specs.declared.settlement.Outcome.{Outcome}
use Rattle.gc_client.specs.declared.settlement.Outcome.TheVariants.{Answered}
use Rattle.gc_station.specs.Saying.{IsSaid, IsSaidInForm}
use Rattle.gc_catalogue.specs.declared.answer.Reading.TheVariants as reading

-- `zeroed` is what the line of a refused reply to `call` would say with return code 0, read by the form if there is one; of any other
-- outcome nothing is said
abbrev pub IsZeroOf : Option Form → Asked → Outcome → Reading → Type 0
IsZeroOf form call (Answered (reading.Refused code) line) zeroed = (r : ReplyFields) → IsReply line.items r → ReadsBy (IsSaid form) call (as_zero line.items) zeroed
IsZeroOf form call _ zeroed = Unit {0}

-- `said` is what the line of a reply says by the form; there is nothing if there is no form. Of any other outcome nothing is said
abbrev pub IsByForm : Option Form → Outcome → (said : Option Reading) → Type 0
IsByForm None outcome said = said ≡ None
IsByForm (Some form) (Answered reading line) None = ⊥
IsByForm (Some form) (Answered reading line) (Some said) = (r : ReplyFields) → IsReply line.items r → IsSaidInForm form r said
IsByForm (Some form) _ said = Unit {0}
