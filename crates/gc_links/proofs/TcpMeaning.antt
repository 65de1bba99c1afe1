-- How the acts of a link over TCP go on to stand on the system's calls.
use Rattle.gc_links.proofs.Common.{◌≡◌, ℕ, List, [], ◌∷◌, ◌++◌, ap, ◌∙◌, refl, Option, None, Result, Ok, Err, PortFailed, Peer, Came, Moment, Act, Told, Untold, Put, Cut, clock_act, put_act, read_act, End, Call, Makes, Monotonic, ClocksGive, DoesOver, DoesOnTcp, AreMeant}
use Rattle.gc_links.proofs.Making.{makes_as}
use Rattle.gc_links.proofs.Meaning.{meant_then}
use Rattle.gc_links.proofs.Reading.{clocks_only}
use Rattle.gc_links.specs.declared.link.Came.TheVariants as outcome

module _ (peer : Peer) (start : ℕ) where
  module _ (over : Option End) where
    -- a read leaves the connection as it is
    pub read_on : (came : Came) (buf : List ℕ) {old new : List Call} → Makes old new (DoesOver start over (read_act came buf))
        → Makes old new (λ calls. DoesOnTcp peer start over (read_act came buf) calls over)
    read_on came buf =
        makes_as (DoesOver start over (read_act came buf)) (λ calls. DoesOnTcp peer start over (read_act came buf) calls over) (on came)
      where
        on : (came : Came) (calls : List Call) → DoesOver start over (read_act came buf) calls
            → DoesOnTcp peer start over (read_act came buf) calls over
        on (outcome.Bytes n moment) calls does = (refl, does)
        on (outcome.Silence moment) calls does = (refl, does)
        on outcome.End calls does = (refl, does)
        on outcome.Failure calls does = (refl, does)
        on outcome.NoMoment calls does = (refl, does)

    -- a write leaves the connection as it is
    pub put_on : (put : Result (Unit {0}) ℕ) (bytes : List ℕ) {old new : List Call} → Makes old new (DoesOver start over (put_act put bytes))
        → Makes old new (λ calls. DoesOnTcp peer start over (put_act put bytes) calls over)
    put_on (Ok u) bytes =
        makes_as (DoesOver start over (Put bytes)) (λ calls. DoesOnTcp peer start over (Put bytes) calls over) (λ calls does. (refl, does))
    put_on (Err n) bytes =
        makes_as (DoesOver start over (Cut bytes n)) (λ calls. DoesOnTcp peer start over (Cut bytes n) calls over)
        (λ calls does. (refl, does))

    -- a reading of the clock leaves the connection as it is
    pub clock_on : (told : Result Moment PortFailed) {old new : List Call} → Makes old new (ClocksGive start told)
        → Makes old new (λ calls. DoesOnTcp peer start over (clock_act told) calls over)
    clock_on (Ok moment) made =
        makes_as (DoesOver start over (Told moment)) (λ calls. DoesOnTcp peer start over (Told moment) calls over)
        (λ calls does. (refl, does)) (clocks_only start over (Ok moment) made)
    clock_on (Err e) made =
        makes_as (DoesOver start over Untold) (λ calls. DoesOnTcp peer start over Untold calls over)
        (λ calls does. (refl, does)) (clocks_only start over (Err e) made)

  -- one act more was done, and noted
  pub tcp_then : {acts acts' : List Act} {calls calls' : List Call} {before : Option End} (noted act : Act) (after : Option End)
      → ∥ AreMeant (DoesOnTcp peer start) (Monotonic start ∷ []) None acts calls before ∥₁ → acts' ≡ acts ++ noted ∷ [] → noted ≡ act
      → Makes calls calls' (λ more. DoesOnTcp peer start before act more after)
      → ∥ AreMeant (DoesOnTcp peer start) (Monotonic start ∷ []) None acts' calls' after ∥₁
  tcp_then {acts = acts} noted act after meant added is made =
      meant_then (DoesOnTcp peer start) (Monotonic start ∷ []) None act after meant (added ∙ ap (λ a. acts ++ a ∷ []) is) made
