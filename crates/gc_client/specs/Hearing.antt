-- What a client does with a line, this project's own: the line settles requests, is a stray, or is no reply by the manual's
-- chapter on the ASCII protocol.
use Rattle.std.specs.Prelude.{◌≡◌, ℕ, ◌<◌, ◌≤◌, true, false, List, [], length, map, take, IsOk, Ok, Err}
use Rattle.gc_lines.specs.Prelude.{reply_at, ReplyFields}
use Rattle.gc_client.specs.declared.pending.Pending.{Pending}
use Rattle.gc_client.specs.declared.window.TheConstants.{WINDOW}
use Rattle.gc_client.specs.Places.{IsPlaceHeard}
use Rattle.gc_client.specs.declared.settlement.Settlement.{Settlement}
use Rattle.gc_client.specs.declared.heard.Heard.{Heard}
use Rattle.gc_client.specs.declared.heard.Hearing.{Hearing}
use Rattle.gc_lines.specs.declared.fault.LineFault.TheVariants.{TooLong}
use Rattle.gc_client.specs.declared.heard.Heard.TheVariants.{Settled, Stray, Unread}
use Rattle.gc_client.specs.Rule.{ById, Windowed, heard, fits, hears_line, settles_at, lost}
use Rattle.gc_catalogue.specs.Prelude.{ReadingRule}
use Rattle.gc_client.specs.Settlements.{AreSettledBy}
use Rattle.gc_client.specs.declared.heard.Hearing.TheVariants as kind

-- the settlements in what a client reports of a line
abbrev pub settlements_in : {Q : Type 0} → Heard Q → List (Settlement Q)
settlements_in (Settled settlements) = settlements.items
settlements_in Stray = []
settlements_in (Unread fault) = []

-- what a client reports of a line is right: `old` is the client before the line, and `new` after it
abbrev pub HearsInto : {Q : Type 0} → (old : ById Q) → (line : List ℕ) → Hearing → List (Settlement Q) → (new : ById Q) → Type 0
-- a request waits with the line's id. What is settled is in `AreSettledByLine`, and the client after it in `IsAfterLine`
HearsInto old line kind.Settled settlements new = fits old (heard line) ≡ true
-- the line is a reply that no request waits for, and nothing changes
HearsInto old line kind.Stray settlements new = IsOk (reply_at line) × (fits old (heard line) ≡ false) × (settlements ≡ []) × (new ≡ old)
-- the line is no reply, for this fault, and nothing changes
HearsInto old line (kind.Unread fault) settlements new = (reply_at line ≡ Err fault) × (settlements ≡ []) × (new ≡ old)

-- what a client reports of a line, without the settlements
abbrev pub hearing_of : {Q : Type 0} → Heard Q → Hearing
hearing_of (Settled settlements) = kind.Settled
hearing_of Stray = kind.Stray
hearing_of (Unread fault) = kind.Unread fault

-- what a client reports of a line, with the settlements in it, is right as `HearsInto` says
abbrev pub HearsAs : {Q : Type 0} → (old : ById Q) → (line : List ℕ) → Heard Q → (new : ById Q) → Type 0
HearsAs old line report new = HearsInto old line (hearing_of report) (settlements_in report) new

-- these settlements are those that the rule makes of the line in the client `old`. By the relation `says` an answer's reading is
-- that of its line
abbrev pub AreSettledByLine : {Q : Type 0} → ReadingRule Q → ById Q → (line : List ℕ) → List (Settlement Q) → Type 0
AreSettledByLine says old line settlements = AreSettledBy says settlements (hears_line old line).settlements

-- the client `new` is what the rule makes of `old` by the line
abbrev pub IsAfterLine : {Q : Type 0} → (old : Windowed Q) → (line : List ℕ) → (new : Windowed Q) → Type 0
IsAfterLine old line new = new ≡ record old { ids = (hears_line old.ids line).client }

-- the line, which isn't overlong, is this reply, and the request that waits at place k of the client is the one that it is for
pub record FitsAt {Q : Type 0} (c : ById Q) (k : ℕ) (reply : ReplyFields) (line : List ℕ) : Type 0 where
  pub reads : reply_at line ≡ Ok reply
  pub short : length line ≤ 512
  pub place : IsPlaceHeard c reply.id k
  pub waits : k < length c.waiting
  pub narrow : k < WINDOW

-- by the rule the line settles nothing in this client and leaves it unchanged, and the client is right to report it so
-- (`HearsInto`)
pub record ChangesNothing {Q : Type 0} (c : ById Q) (line : List ℕ) (hearing : Hearing) : Type 0 where
  pub reported : HearsInto c line hearing [] c
  pub none : (hears_line c line).settlements ≡ []
  pub same : (hears_line c line).client ≡ c

-- a line is reported as too long, with no settlements, and the client `new` is `old`
abbrev pub ReportsTooLong : {Q : Type 0} → Hearing → List (Settlement Q) → (old new : Windowed Q) → Type 0
ReportsTooLong hearing settlements old new = (hearing ≡ kind.Unread TooLong) × (settlements ≡ []) × (new ≡ old)

-- if a request of the client waits at place k, these settlements are those of the requests before it, as lost, and then that
-- of this request, by the line. By the relation `says` an answer's reading is that of its line
abbrev pub AreSettledAt : {Q : Type 0} → ReadingRule Q → ById Q → (line : List ℕ) → (k : ℕ) → List (Settlement Q) → Type 0
AreSettledAt says old line k settlements = AreSettledBy says settlements (settles_at old line k true).settlements

-- the client `new` is what is left of `old` when its request at place k, and those before it, are settled by the line
abbrev pub IsAfterSettling : {Q : Type 0} → (old : Windowed Q) → (line : List ℕ) → (k : ℕ) → (new : Windowed Q) → Type 0
IsAfterSettling old line k new = new ≡ record old { ids = (settles_at old.ids line k true).client }

-- the first `count` settlements are those of the first `count` requests as lost; `says` is the relation of replies and their
-- readings
abbrev pub AreFirstLost : {Q : Type 0} → ReadingRule Q → (count : ℕ) → List (Pending Q) → List (Settlement Q) → Type 0
AreFirstLost says count requests settlements = AreSettledBy says (take count settlements) (map lost (take count requests))
