-- The calls of an opening, by its steps.
use Rattle.gc_links.proofs.Common.{◌≡◌, ℕ, List, [], ◌∷◌, ◌++◌, ap, refl, Option, Some, Peer, Wired, Closed, Opened, Unopened, wired_end, open_end, End, Call, Makes, Dropped, Reaches, ReachesNone, DoesOnTcp, unreached, dropped}
use Rattle.gc_links.proofs.Making.{makes_one, makes_as, makes_then}

module _ (peer : Peer) (start : ℕ) (before : Option End) where
  -- no connection could be made
  pub refused : {old new : List Call} → Makes old new (ReachesNone peer) → Makes old new (λ calls. DoesOnTcp peer start before Unopened calls before)
  refused = makes_as (ReachesNone peer) (λ calls. DoesOnTcp peer start before Unopened calls before) (λ xs ends. (refl, unreached ends))

  -- a connection was made, and dropped
  pub dropped_again : (wired : Wired) {old mid new : List Call} → Makes old mid (Reaches peer wired.address)
      → new ≡ mid ++ Dropped (wired_end wired) ∷ [] → Makes old new (λ calls. DoesOnTcp peer start before Unopened calls before)
  dropped_again wired made gone =
      makes_then (Reaches peer wired.address) (λ ys. ys ≡ Dropped (wired_end wired) ∷ [])
      (λ calls. DoesOnTcp peer start before Unopened calls before)
      (λ xs ys reaches is. (refl, dropped wired.address xs reaches (ap (λ zs. xs ++ zs) is))) made
      (makes_one (λ ys. ys ≡ Dropped (wired_end wired) ∷ []) (Dropped (wired_end wired)) gone refl)

  -- a connection was made, and then the old one dropped
  pub opened : (closed : Option End) (wired : Wired) {old mid new : List Call} → Makes old mid (Reaches peer wired.address)
      → Makes mid new (λ calls. DoesOnTcp peer start before Closed calls closed)
      → Makes old new (λ calls. DoesOnTcp peer start before Opened calls (open_end (Some wired)))
  opened closed wired made gone =
      makes_then (Reaches peer wired.address) (λ calls. DoesOnTcp peer start before Closed calls closed)
      (λ calls. DoesOnTcp peer start before Opened calls (open_end (Some wired)))
      (λ xs ys reaches closes. record {
        address = wired.address;
        making = xs;
        reaches = reaches;
        calls_are = ap (λ zs. xs ++ zs) closes.0;
        after_is = refl;
      }) made gone
