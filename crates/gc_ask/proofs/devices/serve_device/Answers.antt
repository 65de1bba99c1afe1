use Rattle.gc_ask.proofs.Common.{rules, ◌≡◌, arith}
use Rattle.gc_ask.specs.Places.{IsFaultOfPlace}
use Rattle.gc_ask.proofs.ServesMore.{well_none, well_more, each_well, each_stopped}
use Rattle.gc_ask.proofs.devices.serve_device.Goals as goal

pub loop-init : goal.loop-init
loop-init g c = record {
  within = omega arith;
  well = well_none _ _ _ c.args.instrument.now;
}

pub loop-preserved : goal.loop-preserved
loop-preserved g c = record {
  within = omega (arith, c.loop-test.true);
  well = well_more _ _ _ IsFaultOfPlace c.loop.counter _ _ _ c.serve_once.result c.in_ok-serve_once.field-0 c.in_ok-serve_once.was c.loop.invariant.well c.serve_once.ensures;
}

pub returns-in_err-serve_once : goal.returns-in_err-serve_once
returns-in_err-serve_once g c =
    let stopped = each_stopped _ _ _ IsFaultOfPlace c.args.connections c.loop.counter _ _ _ c.serve_once.result _ c.in_err-serve_once.was
    (omega (arith, c.loop-test.true)) c.loop.invariant.well c.serve_once.ensures in
    search rules

pub returns : goal.returns
returns g c =
    let all : c.loop.counter ≡ c.args.connections = omega (arith, c.loop-test.false, c.loop.invariant.within) in
    record { serves = each_well _ _ _ IsFaultOfPlace c.args.connections c.loop.counter _ _ tt all c.loop.invariant.well }
