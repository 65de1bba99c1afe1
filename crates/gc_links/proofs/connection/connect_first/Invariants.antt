use Rattle.gc_links.proofs.Common.{◌≡◌, ◌++◌, map, List, host_addrs, SocketAddr, not_reached}
use Rattle.gc_links.proofs.connection.connect_first.Given as goal

abbrev pub invariant-loop-address : goal.invariant-loop-address
invariant-loop-address g l = record {
  can_next : (goal.iterator-loop-address g).can_next l.address-iterator;
  is_finite : (goal.iterator-loop-address g).is_finite l.address-iterator;
  tried : (tried : List SocketAddr) × (host_addrs l.fn.addresses ≡ tried ++ host_addrs l.address-iterator)
      × (l.system.calls.made ≡ l.fn.system.calls.made ++ map not_reached tried);
}
