-- What a session does next is one of nine things, and a line is heard, discarded or for the synchronization: a claim on where each leads, and
-- on what each settles, holds of what is next, and of a line.
use Rattle.geocom_c.proofs.Common.{ℕ, Bool, true, false, List, [], if◌then◌else◌, Asked, Settlement, hears_line, restarts, Next, Phase, Standing, Session, done, flushed, line_came_in, line_heard, line_heard_if, line_synchronized, null_asked, phase_cleared, renewed, settled_by, settled_in, with_standing, is_sign_on}
use Rattle.gc_session.specs.declared.next.Next.TheVariants as next
use Rattle.gc_session.specs.declared.standing.Phase.TheVariants as phase

-- Here the claim holds of the session as it is, and of where a line feed, a null procedure of the synchronization, one of the client, a
-- resynchronization and a read lead.
module _ (Claim : Session → List (Settlement Asked) → Type 0) (s : Session) (same : Claim s []) (clear : Claim (with_standing phase_cleared s) [])
    (null : Claim (null_asked s) []) (flush : Claim (flushed s) []) (renew : Claim (null_asked (renewed s)) (restarts s.client).settlements)
    (read : Claim (with_standing (λ (t : Standing). record t { listened = true }) s) []) where
  pub each_next : (n : Next) → Claim (done n s) (settled_by n s)
  each_next next.Open = same
  each_next next.Wait = same
  each_next next.Clear = clear
  each_next next.Null = null
  each_next next.Flush = flush
  each_next next.Renew = renew
  each_next next.Ask = same
  each_next next.Read = read
  each_next next.Close = same

-- Here the claim holds of the session as it is, and of where a line leads that its client hears, and one for its synchronization.
module _ (Claim : Session → List (Settlement Asked) → Type 0) (line : List ℕ) (s : Session) (same : Claim s [])
    (heard : Claim (line_heard line s) (hears_line s.client line).settlements) (synchronized : Claim (line_synchronized line s) []) where
  each_line_if : (is_cut : Bool) → Claim (line_heard_if is_cut line s) (if is_cut then [] else (hears_line s.client line).settlements)
  each_line_if true = same
  each_line_if false = heard

  pub each_line : (p : Phase) (begun : Bool) → Claim (line_came_in p begun line s) (settled_in p begun line s)
  each_line phase.Down begun = same
  each_line phase.Pausing begun = same
  each_line phase.Clearing begun = same
  each_line phase.Draining begun = same
  each_line phase.Ready true = each_line_if (is_sign_on line)
  each_line phase.Ready false = synchronized
