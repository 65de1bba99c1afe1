use Rattle.gc_links.proofs.Common.{◌∷◌, ◌++◌, [], ap, ◌∙◌, host_addrs}
use Rattle.gc_links.proofs.Addresses.{one_comes, none_comes}
use Rattle.gc_links.proofs.Connecting.{reached_next, passed_next, split_next, passed_all}
use Rattle.gc_links.proofs.connection.connect_first.Goals as goal

pub returns-in-Ok : goal.returns-in-Ok
returns-in-Ok g c =
    let was = c.loop-address.invariant.tried in
    let next = one_comes c.loop-address.address-iterator c.next.new.self c.in-Some.address c.in-Some.ensures.steps.0
    c.in-Some.ensures.steps.1 in
    reached_next (host_addrs c.args.addresses) was.0 (host_addrs c.next.new.self) c.in-Some.address c.in-Ok.wired.address
    (was.1 ∙ ap (λ xs. was.0 ++ xs) next) was.2 c.in-Ok.ensures.tells c.in-Ok.ensures.there

pub loop-address-preserved : goal.loop-address-preserved
loop-address-preserved g c =
    let was = c.loop-address.invariant.tried in
    let next = one_comes c.loop-address.address-iterator c.next.new.self c.in-Some.address c.in-Some.ensures.steps.0
    c.in-Some.ensures.steps.1 in
    record {
      can_next = tt;
      is_finite = tt;
      tried = (
        was.0 ++ c.in-Some.address ∷ [],
        split_next (host_addrs c.args.addresses) was.0 (host_addrs c.loop-address.address-iterator) (host_addrs c.next.new.self)
            c.in-Some.address was.1 next,
        passed_next c.args.system.now.calls.made c.loop-address.system.calls.made c.connect.new.self.calls.made was.0 c.in-Some.address was.2 c.in-Err.ensures.tells,
      );
    }

pub returns : goal.returns
returns g c =
    let was = c.loop-address.invariant.tried in
    passed_all (host_addrs c.args.addresses) was.0 (host_addrs c.loop-address.address-iterator) was.1
    (none_comes c.loop-address.address-iterator (λ some. (c.in-None.ensures.steps some).0)) was.2
