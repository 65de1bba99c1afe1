-- What it means that the rows of a line that alters bytes, or whose instrument sends replies late, are explained: this project's own. A
-- claim is what a row says of a reply, and a truth is a reply that came. A reply is damaged if its bytes were altered, or those of its
-- request.
use Rattle.std.specs.Prelude.{◌≡◌, ◌⊎◌, ℕ, ◌+◌, ◌<◌, ◌≤◌, ◌||◌, Bool, true, false, List, [], ◌∷◌, drop, slice_get, Some, IfSome, Result, Ok, Err, if◌then◌else◌}
use Rattle.gc_rehearsal.specs.Claims.{NamesRow, SpeaksOf}
use Rattle.gc_rehearsal.specs.declared.claim.Claim.{Claim}
use Rattle.gc_rehearsal.specs.declared.explained.FalseRows.{FalseRows}
use Rattle.gc_rehearsal.specs.declared.explained.Verdict.{Verdict}
use Rattle.gc_rehearsal.specs.declared.explained.Verdict.TheVariants.{True, ByDamaged, BehindTwo, Unexplained}
use Rattle.gc_rehearsal.specs.declared.halt.Halt.{Halt}
use Rattle.gc_rehearsal.specs.declared.halt.Halt.TheVariants.{Fault}
use Rattle.gc_rehearsal.specs.declared.truth.Truth.{Truth}
use Rattle.gc_texts.specs.declared.fault.RunFault.TheVariants.{Memory}

-- the row booked this reply: it came at the row's moment, and is the row's line, if it has one
pub record IsBookedBy (claim : Claim) (truth : Truth) : Type 0 where
  pub at : claim.at ≡ truth.given
  pub line : IfSome claim.line (λ l. l.items ≡ truth.reply.items)

-- whether a reply may have been booked for a request that isn't its own: it is damaged, or came late
abbrev pub misleads : Truth → Bool
misleads truth = truth.is_damaged || truth.is_late

-- the row is true by the reply at this place: it isn't damaged, and the row speaks of it
pub record IsTrueByAt (claim : Claim) (truths : List Truth) (place : ℕ) : Type 0 where
  pub truth : Truth
  pub there : slice_get truths place ≡ Some truth
  pub whole : truth.is_damaged ≡ false
  pub is : SpeaksOf claim truth

-- the reply at this place is damaged, and came by this moment
pub record IsDamagedAt (at : ℕ) (truths : List Truth) (place : ℕ) : Type 0 where
  pub truth : Truth
  pub there : slice_get truths place ≡ Some truth
  pub damaged : truth.is_damaged ≡ true
  pub by : truth.given ≤ at

-- the row is by one of these replies that is damaged or came late: it is the reply that the row booked
pub record IsByDamaged (claim : Claim) (truths : List Truth) : Type 0 where
  pub place : ℕ
  pub truth : Truth
  pub there : slice_get truths place ≡ Some truth
  pub misleading : misleads truth ≡ true
  pub books : IsBookedBy claim truth

-- two of these replies are damaged, and came by the row's moment
pub record IsBehindTwo (claim : Claim) (truths : List Truth) : Type 0 where
  pub first : ℕ
  pub second : ℕ
  pub ordered : first < second
  pub one : IsDamagedAt claim.at truths first
  pub other : IsDamagedAt claim.at truths second

-- a row counts as one in doubt if it says itself that its values don't count
abbrev pub doubt_of : Claim → ℕ
doubt_of claim = if claim.is_in_doubt then 1 else 0

-- the rows are explained, where these replies came since the last true row: each is true by one of them, and the rows after it are
-- explained by the replies after that one; or it is by a damaged reply, or else behind two damaged ones, and such rows are
-- `by_damaged` and `behind_two` many. Of these `in_doubt` say themselves that their values don't count
abbrev pub AreExplained : List Claim → (left : List Truth) → (by_damaged behind_two in_doubt : ℕ) → Type 0
AreExplained [] left by_damaged behind_two in_doubt = (by_damaged ≡ 0) × (behind_two ≡ 0) × (in_doubt ≡ 0)
AreExplained (claim ∷ claims) left by_damaged behind_two in_doubt =
    ((place : ℕ) × IsTrueByAt claim left place × AreExplained claims (drop (place + 1) left) by_damaged behind_two in_doubt)
    ⊎ ((IsByDamaged claim left × (n : ℕ) × (m : ℕ) × (by_damaged ≡ n + 1) × (in_doubt ≡ m + doubt_of claim) × AreExplained claims left n behind_two m)
    ⊎ (IsBehindTwo claim left × (n : ℕ) × (m : ℕ) × (behind_two ≡ n + 1) × (in_doubt ≡ m + doubt_of claim) × AreExplained claims left by_damaged n m))

-- what a row is, where these replies came since the last true row. Nothing is said of a row that nothing explains
abbrev pub IsVerdict : Claim → (left : List Truth) → Verdict → Type 0
IsVerdict claim left (True place) = IsTrueByAt claim left place
IsVerdict claim left ByDamaged = IsByDamaged claim left
IsVerdict claim left BehindTwo = IsBehindTwo claim left
IsVerdict claim left Unexplained = Unit {0}

-- the next row is explained, where the replies `left` came since the last true row, and rows of the counts `old` weren't true before
-- it; with it these are `since` and `new`
abbrev pub ExplainsRow : Claim → (left : List Truth) → (old : FalseRows) → (since : List Truth) → (new : FalseRows) → Type 0
ExplainsRow claim left old since new =
    ((place : ℕ) × IsTrueByAt claim left place × (since ≡ drop (place + 1) left) × (new ≡ old))
    ⊎ ((IsByDamaged claim left × (since ≡ left) × (new ≡ record old { by_damaged = old.by_damaged + 1; in_doubt = old.in_doubt + doubt_of claim }))
    ⊎ (IsBehindTwo claim left × (since ≡ left) × (new ≡ record old { behind_two = old.behind_two + 1; in_doubt = old.in_doubt + doubt_of claim })))

-- the result of explaining these claims by these truths, where `incomplete` says that some of them are missing: none is, and the rows
-- are explained, with as many false ones; or some are, which is the fault `Memory`; or none is, and a row is named (`NamesRow`)
abbrev pub Explains : (incomplete : Type 0) → List Claim → List Truth → (seed : ℕ) → Result FalseRows Halt → Type 0
Explains incomplete claims truths seed (Ok rows) = (incomplete → ⊥) × AreExplained claims truths rows.by_damaged rows.behind_two rows.in_doubt
Explains incomplete claims truths seed (Err halt) = (incomplete × (halt ≡ Fault Memory)) ⊎ ((incomplete → ⊥) × NamesRow claims seed halt)
