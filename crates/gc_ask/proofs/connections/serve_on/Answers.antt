use Rattle.gc_ask.proofs.Common.{rules, ◌≡◌, arith, RunFault, Socket}
use Rattle.gc_ask.proofs.ServesMore.{well_none, well_more, each_well, each_stopped}
use Rattle.gc_ask.proofs.connections.serve_on.Goals as goal

pub loop-at-init : goal.loop-at-init
loop-at-init g c = record {
  within = omega arith;
  well = well_none _ _ _ c.args.instrument.now;
}

pub loop-at-preserved : goal.loop-at-preserved
loop-at-preserved g c = record {
  within = omega (arith, c.loop-at-test.true);
  well = well_more _ _ _ (λ (fault : RunFault). fault ≡ Socket) c.loop-at.at _ _ _ c.serve_next.result c.in_ok-serve_next.field-0 c.in_ok-serve_next.was c.loop-at.invariant.well c.serve_next.ensures;
}

pub returns-in_err-serve_next : goal.returns-in_err-serve_next
returns-in_err-serve_next g c =
    let stopped = each_stopped _ _ _ (λ (fault : RunFault). fault ≡ Socket) c.args.connections c.loop-at.at _ _ _ c.serve_next.result _ c.in_err-serve_next.was
    (omega (arith, c.loop-at-test.true)) c.loop-at.invariant.well c.serve_next.ensures in
    search rules

pub returns : goal.returns
returns g c =
    let all : c.loop-at.at ≡ c.args.connections = omega (arith, c.loop-at-test.false, c.loop-at.invariant.within) in
    record { serves = each_well _ _ _ (λ (fault : RunFault). fault ≡ Socket) c.args.connections c.loop-at.at _ _ tt all c.loop-at.invariant.well }
