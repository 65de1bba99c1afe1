-- What it means that rows are true: this project's own. A claim is what a row says of a reply, and a truth is a reply that came, with the
-- request on whose execution the instrument made it.
use Rattle.std.specs.Prelude.{◌≡◌, ◌↔◌, ℕ, ◌+◌, ◌<◌, ◌⊎◌, Bool, true, false, List, [], ◌∷◌, slice_get, Some, IfSome, is_some, Result, Ok, Err, if◌then◌else◌, nat_eq}
use Rattle.gc_catalogue.specs.Prelude.{asked_line, procedure_of}
use Rattle.gc_catalogue.specs.declared.asked.Asked.{Asked}
use Rattle.gc_rehearsal.specs.declared.book.Seen.{Seen}
use Rattle.gc_rehearsal.specs.declared.claim.Claim.{Claim}
use Rattle.gc_rehearsal.specs.declared.halt.FalseRow.{FalseRow}
use Rattle.gc_rehearsal.specs.declared.halt.Halt.{Halt}
use Rattle.gc_rehearsal.specs.declared.halt.Halt.TheVariants.{Fault, Untrue}
use Rattle.gc_rehearsal.specs.declared.truth.Truth.{Truth}
use Rattle.gc_texts.specs.Prelude.{End, Answered, Unreadable, Judged, Late, leaves_doubt}
use Rattle.gc_texts.specs.declared.fault.RunFault.TheVariants.{Memory}
use Rattle.gc_texts.specs.declared.quality.Quality.TheVariants.{Unconfirmed}
use Rattle.gc_texts.specs.declared.wish.Wish.{Wish}

-- whether a row with this ending says that a reply came, in time or late. Such a row makes a claim
abbrev pub speaks_of_reply : End → Bool
speaks_of_reply (Answered quality answer line) = true
speaks_of_reply (Unreadable line fault) = true
speaks_of_reply (Judged judgement line) = true
speaks_of_reply Late = true
speaks_of_reply _ = false

-- whether the values of a row with this ending don't count, by what the row says itself: it is of a first sending, which is unconfirmed,
-- or judged in a way that leaves doubt of them
abbrev pub is_in_doubt : End → Bool
is_in_doubt (Answered Unconfirmed answer line) = true
is_in_doubt (Judged judgement line) = leaves_doubt judgement
is_in_doubt _ = false

-- how many requests were sent once this command was too, before which `requests` ones were sent: null procedures aren't counted
abbrev pub requests_after : (requests : ℕ) → (command : Wish) → ℕ
requests_after requests command = if nat_eq (procedure_of command.call) 0 then requests else requests + 1

-- these bytes are the request line of what is asked, with this id, which is from 0 to 7
abbrev pub IsRequestFor : (id : ℕ) → Asked → (line : List ℕ) → Type 0
IsRequestFor id asked line = (id < 8) × (line ≡ asked_line (Some id) asked)

-- the claim speaks of this reply
pub record SpeaksOf (claim : Claim) (truth : Truth) : Type 0 where
  -- the reply came when the claim says, which may be before its request was sent, as the clock may go back
  pub at : claim.at ≡ truth.given
  -- its request is the claim's: as many were put before it on the line as were sent before the row's, null procedures apart
  pub request : claim.request ≡ truth.request
  -- its request was sent when the claim says
  pub sent : claim.sent ≡ truth.sent
  -- the claim has a line exactly if the reply came in time: before the moment `deadline` after `sent`
  pub timed : is_some claim.line ≡ true ↔ claim.at < claim.sent + claim.deadline
  -- its request asked for the claim's call, with the id of the claim's request
  pub asked : IsRequestFor claim.stamp.id claim.call truth.asked.items
  -- the claim's line, if it has one, is the reply
  pub line : IfSome claim.line (λ l. l.items ≡ truth.reply.items)

-- there is a claim at this place, and it speaks of this reply
pub record IsTrueAt (claims : List Claim) (place : ℕ) (truth : Truth) : Type 0 where
  pub claim : Claim
  pub there : slice_get claims place ≡ Some claim
  pub is : SpeaksOf claim truth

-- the first `matched` claims were matched with replies, and with this further reply the first `next` are: one more if the claim after
-- them speaks of the reply, and else as many as before
abbrev pub MatchesNext : List Claim → (matched : ℕ) → Truth → (next : ℕ) → Type 0
MatchesNext claims matched truth next =
    ((next ≡ matched) × (IsTrueAt claims matched truth → ⊥)) ⊎ ((next ≡ matched + 1) × IsTrueAt claims matched truth)

-- the claims speak of replies that came, in their order: each of one that came after the reply of the claim before it
abbrev pub AreTrue : List Claim → List Truth → Type 0
AreTrue [] truths = Unit {0}
AreTrue (claim ∷ claims) [] = ⊥
AreTrue (claim ∷ claims) (truth ∷ truths) = (SpeaksOf claim truth × AreTrue claims truths) ⊎ AreTrue (claim ∷ claims) truths

-- the claim is one of these
abbrev pub IsAmong : List Claim → Claim → Type 0
IsAmong claims claim = (place : ℕ) × (slice_get claims place ≡ Some claim)

-- the row of a claim, as it is named if the claim isn't true
abbrev pub false_row_of : Claim → FalseRow
false_row_of claim = record { row = claim.row; stamp = claim.stamp; target = claim.target }

-- a count or a claim of the rows is missing, because memory was refused for it, or some truths are, `missing` of them
abbrev pub IsIncomplete : Seen → (missing : ℕ) → Type 0
IsIncomplete seen missing = (seen.lacks_memory ≡ true) ⊎ (0 < missing)

-- how a rehearsal with this seed stops for a row of these claims: it names the row of one of them
abbrev pub NamesRow : List Claim → (seed : ℕ) → Halt → Type 0
NamesRow claims seed halt = (claim : Claim) × IsAmong claims claim × (halt ≡ Untrue seed (false_row_of claim))

-- the result of comparing these claims with these truths, where `incomplete` says that some of them are missing: none is, and the
-- claims are true; or some are, which is the fault `Memory`; or none is, the claims aren't true, and a row is named (`NamesRow`)
abbrev pub Compares : {X : Type 0} → (incomplete : Type 0) → List Claim → List Truth → (seed : ℕ) → Result X Halt → Type 0
Compares incomplete claims truths seed (Ok _) = (incomplete → ⊥) × AreTrue claims truths
Compares incomplete claims truths seed (Err halt) =
    (incomplete × (halt ≡ Fault Memory)) ⊎ ((incomplete → ⊥) × (AreTrue claims truths → ⊥) × NamesRow claims seed halt)
