use Rattle.gc_measuring.proofs.Common.{inl, inr, refl, sym, Ok, Err, arith, Memory}
use Rattle.gc_measuring.proofs.Reached.{reaches_a_line}
use Rattle.gc_measuring.proofs.measure.run_station_text.Goals as goal

pub returns-in-Ok-end-clause-measures : goal.returns-in-Ok-end-clause-measures
returns-in-Ok-end-clause-measures g c =
    let h = rw (sym c.measure-streams.ensures.input) at c.in-Ok.ensures.found in
    let run = rw (c.in-Ok-end.is) at c.measure-streams.ensures.runs in
    (h.0, h.1, h.2, inr (_, h.3, inr (record { between = _; front = rw (c.as_slice.ensures.value) at c.in-Ok-write_front.ensures.took.0; end = Ok c.in-Ok-end.tally; is = refl; run = record { ran = run.ran; keeps = run.keeps } })))

pub returns-in-Err-end-clause-measures : goal.returns-in-Err-end-clause-measures
returns-in-Err-end-clause-measures g c =
    let h = rw (sym c.measure-streams.ensures.input) at c.in-Ok.ensures.found in
    let run = rw (c.in-Err-end.is) at c.measure-streams.ensures.runs in
    (h.0, h.1, h.2, inr (_, h.3, inr (record { between = _; front = rw (c.as_slice.ensures.value) at c.in-Ok-write_front.ensures.took.0; end = Err c.in-Err-end.fault; is = refl; run = record { ran = run.ran; keeps = run.keeps } })))

pub returns-in_default-clause-measures : goal.returns-in_default-clause-measures
returns-in_default-clause-measures g c =
    let h = c.in-Ok.ensures.found in
    let some = h.3.some in
    let reached = reaches_a_line h.0 _ _ _ h.3.are (omega (arith, some)) in
    (h.0, h.1, h.2, inl (_, refl, inl (Memory, inr (h.3.read, (h.3.read.within, reached)), refl), record { acts = refl; taken = refl; messages = refl; turns = refl }))
