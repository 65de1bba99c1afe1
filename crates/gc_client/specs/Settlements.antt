-- How the code's settlements correspond to those of the client's rule: this project's own. A line is read by the manual's chapter
-- on the ASCII protocol.
use Rattle.std.specs.Prelude.{◌≡◌, ℕ, List, map, All, ⊤}
use Rattle.gc_lines.specs.Prelude.{ReplyFields, IsReply}
use Rattle.gc_catalogue.specs.declared.call.Call.{Call}
use Rattle.gc_catalogue.specs.declared.answer.Reading.{Reading}
use Rattle.gc_catalogue.specs.Prelude.{IsReading, ReadingRule}
use Rattle.gc_client.specs.declared.settlement.Settlement.{Settlement}
use Rattle.gc_client.specs.declared.settlement.Outcome.{Outcome}
use Rattle.gc_client.specs.declared.settlement.Outcome.TheVariants.{Answered, Late, Lost}
use Rattle.gc_client.specs.Rule

-- an outcome as the rule has it: without the reading, which the line and the call determine
abbrev pub outcome_seen : Outcome → Rule.Outcome
outcome_seen (Answered reading line) = Rule.Answered line.items
outcome_seen Late = Rule.Late
outcome_seen Lost = Rule.Lost

-- a settlement as the rule has it: with the same target and call, and with the outcome that `outcome_seen` gives
abbrev pub settlement_seen : {Q : Type 0} → Settlement Q → Rule.Settlement Q
settlement_seen s = record { target = s.target; call = s.call; outcome = outcome_seen s.outcome }

-- the line is a reply with this reading for what was asked, by the relation `says`
pub record ReadsBy {Q : Type 0} (says : ReadingRule Q) (call : Q) (line : List ℕ) (reading : Reading) : Type 0 where
  pub reply : ReplyFields
  pub is_reply : IsReply line reply
  pub is_reading : says call reply reading

-- the line is a reply with this reading for the call
abbrev pub ReadsAs : Call → (line : List ℕ) → Reading → Type 0
ReadsAs call line reading = ReadsBy IsReading call line reading

-- if the outcome is an answer, its reading is that of its line for what was asked
abbrev pub IsReadBy : {Q : Type 0} → ReadingRule Q → Q → Outcome → Type 0
IsReadBy says call (Answered reading line) = ReadsBy says call line.items reading
IsReadBy says call Late = ⊤
IsReadBy says call Lost = ⊤

-- each of these settlements that is an answer has the reading of its line for what was asked (`IsReadBy`)
abbrev pub AreReadBy : {Q : Type 0} → ReadingRule Q → List (Settlement Q) → Type 0
AreReadBy says settlements = All (λ s. IsReadBy says s.call s.outcome) settlements

-- the settlement `s` is the rule's: it has the target, call and outcome of `ruled`, and an answer's reading is that of its line
pub record IsSettledBy {Q : Type 0} (says : ReadingRule Q) (s : Settlement Q) (ruled : Rule.Settlement Q) : Type 0 where
  pub seen : settlement_seen s ≡ ruled
  pub read : IsReadBy says s.call s.outcome

-- these settlements are the rule's, one for one, each as `IsSettledBy` says
pub record AreSettledBy {Q : Type 0} (says : ReadingRule Q) (settlements : List (Settlement Q)) (ruled : List (Rule.Settlement Q)) : Type 0 where
  pub seen : map settlement_seen settlements ≡ ruled
  pub read : AreReadBy says settlements

-- these settlements of calls are the rule's, one for one
abbrev pub AreSettlements : List (Settlement Call) → List (Rule.Settlement Call) → Type 0
AreSettlements settlements ruled = AreSettledBy IsReading settlements ruled

-- the outcome is an answer with these bytes as its line, and the reading of this reply for what was asked
abbrev pub IsAnsweredBy : {Q : Type 0} → (says : ReadingRule Q) → (call : Q) → ReplyFields → (bytes : List ℕ) → Outcome → Type 0
IsAnsweredBy says call reply bytes (Answered reading line) = (line.items ≡ bytes) × says call reply reading
IsAnsweredBy says call reply bytes Late = ⊥
IsAnsweredBy says call reply bytes Lost = ⊥
