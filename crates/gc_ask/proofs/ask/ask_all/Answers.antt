use Rattle.gc_ask.proofs.Common.{◌≡◌, ℕ, ◌+◌, ◌<◌, List, [], ◌++◌, length, take, drop, Ok, Err, ap, ◌∙◌, refl, arith, length-append, length-take, take_all, Consumes-trans, Consumes-nil, LinkResult, ready_for, SeenStep, heard_by, reads_of, seen_through, BothEnd, SeenAtBoth, split_at_item, RunFault, TooManyReads}
use Rattle.gc_ask.proofs.Asked.{course_start, course_all}
use Rattle.gc_ask.proofs.Ends.{sound_start, both_sound_step, both_end, both_end_well, asking_ends_weaker}
use Rattle.gc_ask.proofs.Exchanging.{course_next, run_fault}
use Rattle.gc_ask.proofs.ask.ask_all.Goals as goal

pub loop-place-init : goal.loop-place-init
loop-place-init g c = record {
  course = ([], Consumes-nil _, omega arith, rw c.new-asking.ensures.ahead (course_start _ _ _ c.new-asking.ensures.assembler c.new-asking.ensures.client));
  reads = ap (λ n. reads_of g.L.AskedLink c.args.link.now + n) c.new-asking.ensures.reads;
  sound = record { client = sound_start _; instrument = sound_start _ };
  sink = refl;
  held = refl;
}

-- the first `place` items of a list that has more are `place` items
place_is : {A : Type 0} (xs : List A) (place : ℕ) → place < length xs → length (take place xs) ≡ place
place_is xs place below = omega (arith, length-take place xs, below)

pub ask-requires : goal.ask-requires
ask-requires g c =
    let at = c.loop-place.invariant.course.3 in
    record {
      ready = at.client_is ∙ ap ready_for (place_is c.args.commands.now c.loop-place.place c.loop-place-test.true);
      stands = (at.now, at.stands);
    }

pub loop-place-preserved : goal.loop-place-preserved
loop-place-preserved g c =
    let so = c.loop-place.invariant.course in
    let at = so.3 in
    let commands = c.args.commands.now in
    let place = c.loop-place.place in
    let command = c.index-commands-place.result in
    let one = c.in_default.ensures.asks in
    let old = c.loop-place.asking in
    let asking = c.ask.new.self in
    let next = course_next g.L.AskedLink.is_remote (take place commands) command place _ one.0 (heard_by asking.end at.now (old.ahead ++ one.0) asking.ahead)
    (seen_through g.L.AskedLink c.ask.new.link g.K.Sink c.ask.new.sink) at (place_is commands place c.loop-place-test.true) (one.3 at.now at.stands) in
    let sound = both_sound_step
    (seen_through g.L.AskedLink c.args.link.now g.K.Sink c.args.sink.now) (seen_through g.L.AskedLink c.loop-place.link g.K.Sink c.loop-place.sink)
    (seen_through g.L.AskedLink c.ask.new.link g.K.Sink c.ask.new.sink) c.loop-place.invariant.sound c.in_default.ensures.ends in
    record {
      course = (
        so.0 ++ one.0,
        Consumes-trans _ _ _ so.0 one.0 so.1 one.1,
        omega (
          arith,
          so.2,
          one.2,
          length-append so.0 one.0,
          c.loop-place.invariant.sound.client.grows,
          c.in_default.ensures.spends.grows,
        ),
        rw (split_at_item commands place command c.loop-place-test.true c.index-commands-place.is).0 next,
      );
      reads = omega (arith, c.loop-place.invariant.reads, c.in_default.ensures.spends.reads);
      sound = sound;
      sink = c.in_default.ensures.ends.1 ∙ c.loop-place.invariant.sink;
      held = c.in_default.ensures.spends.held ∙ c.loop-place.invariant.held;
    }

pub returns-in-Err-clause-asks : goal.returns-in-Err-clause-asks
returns-in-Err-clause-asks g c =
    let so = c.loop-place.invariant.course in
    let at = so.3 in
    let commands = c.args.commands.now in
    let place = c.loop-place.place in
    let command = c.index-commands-place.result in
    let one = c.in-Err.ensures.asks in
    let old = c.loop-place.asking in
    let asking = c.ask.new.self in
    let first : SeenAtBoth = seen_through g.L.AskedLink c.args.link.now g.K.Sink c.args.sink.now in
    let before : SeenAtBoth = seen_through g.L.AskedLink c.loop-place.link g.K.Sink c.loop-place.sink in
    let new : SeenAtBoth = seen_through g.L.AskedLink c.ask.new.link g.K.Sink c.ask.new.sink in
    record {
      within = record {
        given = so.0 ++ one.0;
        gave = Consumes-trans _ _ _ so.0 one.0 so.1 one.1;
        few = omega (
          arith,
          so.2,
          one.2,
          length-append so.0 one.0,
          c.loop-place.invariant.sound.client.grows,
          c.in-Err.ensures.spends.grows,
        );
        asks = run_fault g.L.AskedLink.is_remote commands place _ (record {
          done = take place commands;
          command = command;
          later = drop (place + 1) commands;
          order = (split_at_item commands place command c.loop-place-test.true c.index-commands-place.is).1;
          course = at;
        }) one.0 (heard_by asking.end at.now (old.ahead ++ one.0) asking.ahead) new c.in-Err.fault
            c.loop-place.invariant.sound (place_is commands place c.loop-place-test.true)
            (one.3 at.now at.stands) c.in-Err.ensures.ends;
        ends = asking_ends_weaker (SeenStep before new) (BothEnd first new)
            (λ r. both_end first before new r c.loop-place.invariant.sound)
            first.sink.failed before.sink.failed new.sink.failed c.loop-place.invariant.sink (Err c.in-Err.fault) c.in-Err.ensures.ends;
        bound = omega (arith, c.loop-place.invariant.reads, c.in-Err.ensures.spends.reads);
        too_many = λ is. omega (arith, c.loop-place.invariant.reads, c.in-Err.ensures.spends.reads, c.in-Err.ensures.too_many is);
      };
    }

pub returns-in-Err-clause-held : goal.returns-in-Err-clause-held
returns-in-Err-clause-held g c = c.in-Err.ensures.spends.held ∙ c.loop-place.invariant.held

-- a good end is no fault
went_well : (e : RunFault) → ◌≡◌ {A = LinkResult} (Ok tt) (Err e) → ⊥
went_well e is = cc

pub returns-clause-asks : goal.returns-clause-asks
returns-clause-asks g c =
    let so = c.loop-place.invariant.course in
    let whole : take c.loop-place.place c.args.commands.now ≡ c.args.commands.now = take_all _ _ c.loop-place-test.false in
    record {
      within = record {
        given = so.0;
        gave = so.1;
        few = so.2;
        asks = course_all _ _ (rw whole at so.3);
        ends = (
          both_end_well (seen_through g.L.AskedLink c.args.link.now g.K.Sink c.args.sink.now) (seen_through g.L.AskedLink c.loop-place.link g.K.Sink c.loop-place.sink)
              c.loop-place.invariant.sound,
          c.loop-place.invariant.sink,
        );
        bound = omega (arith, c.loop-place.invariant.reads);
        too_many = λ is. absurd (went_well TooManyReads is);
      };
    }
