-- What a reply says in answer to what was asked: that parameters are read only where both codes are 0 is this project's own.
use Rattle.std.specs.Prelude.{◌≡◌, ◌≢◌, ℕ, List, None}
use Rattle.gc_lines.specs.Prelude.{ReplyFields}
use Rattle.gc_values.specs.declared.fault.ValueFault.{ValueFault}
use Rattle.gc_catalogue.specs.declared.answer.Answer.{Answer}
use Rattle.gc_catalogue.specs.declared.answer.Reading.{Reading}
use Rattle.gc_catalogue.specs.declared.answer.Reading.TheVariants.{Value, Refused, ComFault, Unreadable}
use Rattle.gc_catalogue.specs.declared.call.Call.{Call}
use Rattle.gc_catalogue.specs.Answers.{IsAnswer, IsUnreadable}

-- which readings a reply has for what was asked
abbrev pub ReadingRule : Type 0 → Type 1
ReadingRule Q = Q → ReplyFields → Reading → Type 0

-- a code of the reply isn't 0, and for that the reply has this reading, whatever its parameters are: a communication fault if the
-- communication code isn't 0, else a refusal
abbrev pub IsCodeReading : ReplyFields → Reading → Type 0
IsCodeReading r (ComFault code) = (r.rc_com ≢ 0) × (code ≡ r.rc_com)
IsCodeReading r (Refused code) = (r.rc_com ≡ 0) × (r.rc ≢ 0) × (code ≡ r.rc)
IsCodeReading r (Value answer) = ⊥
IsCodeReading r (Unreadable e) = ⊥

-- the reply has this reading, where `IsRead` says which answer its parameters read as, and `IsFaulty` for which fault they don't:
-- that of its codes if one of them isn't 0 (`IsCodeReading`), else the answer or the fault
abbrev pub IsReadingBy : (IsRead : Answer → Type 0) → (IsFaulty : ValueFault → Type 0) → ReplyFields → Reading → Type 0
IsReadingBy IsRead IsFaulty r (ComFault code) = IsCodeReading r (ComFault code)
IsReadingBy IsRead IsFaulty r (Refused code) = IsCodeReading r (Refused code)
IsReadingBy IsRead IsFaulty r (Value answer) = (r.rc_com ≡ 0) × (r.rc ≡ 0) × IsRead answer
IsReadingBy IsRead IsFaulty r (Unreadable e) = (r.rc_com ≡ 0) × (r.rc ≡ 0) × IsFaulty e

-- the reply has this reading for the call (`IsReadingBy`): its parameters are read as an answer of the call
abbrev pub IsReading : Call → ReplyFields → Reading → Type 0
IsReading call r reading = IsReadingBy (IsAnswer call r.params) (IsUnreadable call r.params) r reading

-- a reply with these parameters and both codes 0; it has no id, since no reading depends on one
abbrev pub successful_reply : List ℕ → ReplyFields
successful_reply params = record { rc_com = 0; id = None; rc = 0; params = params }
