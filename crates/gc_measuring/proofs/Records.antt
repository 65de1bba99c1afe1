-- What is left of a link, once it is closed.
use Rattle.gc_measuring.proofs.Common.{◌≡◌, IsMeantAt, PlaceSeen, calls_in, SignalsSeen, Watched}
use Rattle.gc_links.specs.declared.watched.LinkRecord.{LinkRecord}
use Rattle.gc_measuring.specs.Noted.{IsMeantRecord}

-- if the acts of a link are what the system's calls did at this place, so are those that are left of it
pub is_meant_record : {R : Type 0} (where_to : PlaceSeen) (signals : SignalsSeen) (link : Watched R) (left : LinkRecord)
    → (left.began ≡ link.began) × (left.files ≡ link.files) × (left.history.acts ≡ link.history.acts) × (left.calls.made ≡ calls_in link.link) × (left.looks.made ≡ link.system.calls.made)
    → ∥ IsMeantAt where_to signals link ∥₁ → ∥ IsMeantRecord where_to signals left ∥₁
is_meant_record where_to signals link left same meant = rw (same.0, same.1, same.2, same.3, same.4) meant
