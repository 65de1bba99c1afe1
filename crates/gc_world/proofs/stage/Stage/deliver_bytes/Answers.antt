use Rattle.gc_world.proofs.Common.{◌<◌, inl, inr, sym, ◌∙◌, subst, arith, false≢true, Call, ById, ends_with, by_ids, delivery, stage_parts, AreStreamsOf, after_event, Streams}
use Rattle.gc_world.proofs.Handed.{reached_at_first, reaches_next, next_spares, reaches_end, runs_dry, bytes_handed, none_left_if_incomplete}
use Rattle.gc_world.proofs.Shown.{streams_idle_bytes}
use Rattle.gc_world.proofs.stage.Stage.deliver_bytes.Goals.{then-n-eq0-via-then-n-eq0, then-n-eq0-via-else-n-eq0+then-remaining-eq0}
use Rattle.gc_world.proofs.stage.Stage.deliver_bytes.Goals as goal

pub returns-then-n-eq0-clause-follows : goal.returns-then-n-eq0-clause-follows
returns-then-n-eq0-clause-follows g c =
    let s = stage_parts c.args.self.now in
    let left = c.remaining-remaining in
    elim c.then-n-eq0.branch [
      | then-n-eq0-via-then-n-eq0 w ↦ λ width v h. streams_idle_bytes g.I.Executes.acts width s v h c.args.direction c.args.n left.result (left.ensures width v h) (inl w.if-n-eq0.true)
      | then-n-eq0-via-else-n-eq0+then-remaining-eq0 w ↦ λ width v h. streams_idle_bytes g.I.Executes.acts width s v h c.args.direction c.args.n left.result (left.ensures width v h) (inr w.if-remaining-eq0.true)
    ]

pub loop-left-init : goal.loop-left-init
loop-left-init g c =
    record {
      follows = λ width v h. reached_at_first g.I.Executes.acts width c.args.direction (stage_parts c.args.self.now) v c.args.n h;
      remaining = c.remaining-remaining.ensures;
    }

pub deliver-requires-clause-idle : goal.deliver-requires-clause-idle
deliver-requires-clause-idle g c =
    let at = c.loop-left.invariant.follows c.requires.shown.0 c.requires.shown.1 c.requires.shown.2 in
    omega (arith, c.requires.idle, at.shows.lines.reports.idle, at.idle, c.requires.shown.2.lines.reports.idle)

pub deliver-requires-clause-shown : goal.deliver-requires-clause-shown
deliver-requires-clause-shown g c =
    let at = c.loop-left.invariant.follows c.requires.shown.0 c.requires.shown.1 c.requires.shown.2 in
    (c.requires.shown.0, at.now, at.shows)

pub returns-in_err-deliver-clause-spare : goal.returns-in_err-deliver-clause-spare
returns-in_err-deliver-clause-spare g c =
    let t = stage_parts c.loop-left.self in
    let done = c.completes.ensures.0 c.loop-left-test.true in
    λ width v h none.
    let at = c.loop-left.invariant.follows width v h in
    absurd (false≢true (c.in_err-deliver.ensures.spare width at.now at.shows
    (next_spares g.I.Executes.acts width c.args.direction t v c.args.n c.loop-left.left at c.loop-left.remaining
    (c.loop-left.invariant.remaining width at.now at.shows) done.0 done.1 none)))

pub remaining-remaining-requires-in-loop-left : goal.remaining-remaining-requires-in-loop-left
remaining-remaining-requires-in-loop-left g c =
    let at = c.loop-left.invariant.follows c.requires.shown.0 c.requires.shown.1 c.requires.shown.2 in
    (c.requires.shown.0, after_event (ends_with g.I.Executes.acts) c.requires.shown.0 at.now (delivery c.args.direction), c.in_ok-deliver.ensures.follows c.requires.shown.0 at.now at.shows)

pub loop-left-smaller : goal.loop-left-smaller
loop-left-smaller g c =
    let done = c.completes.ensures.0 c.loop-left-test.true in
    omega (arith, done.0, done.1)

pub loop-left-preserved : goal.loop-left-preserved
loop-left-preserved g c =
    let t = stage_parts c.loop-left.self in
    let done = c.completes.ensures.0 c.loop-left-test.true in
    record {
      follows = λ width v h.
          let at = c.loop-left.invariant.follows width v h in
          reaches_next g.I.Executes.acts width c.args.direction t v c.args.n c.loop-left.left at (stage_parts c.deliver.new.self) c.loop-left.remaining
          (c.loop-left.invariant.remaining width at.now at.shows) done.0 done.1 (c.in_ok-deliver.ensures.follows width at.now at.shows);
      remaining = c.remaining-remaining-in-loop-left.ensures;
    }

pub go_on-requires-clause-shown : goal.go_on-requires-clause-shown
go_on-requires-clause-shown g c =
    let at = c.loop-left.invariant.follows c.requires.shown.0 c.requires.shown.1 c.requires.shown.2 in
    (c.requires.shown.0, at.now, at.shows)

pub go_on-requires-clause-some : goal.go_on-requires-clause-some
go_on-requires-clause-some g c = λ width v h. subst (λ k. c.loop-left.left < k) (c.loop-left.invariant.remaining width v h) c.if-left-remaining.true

pub returns-then-left-remaining-clause-follows : goal.returns-then-left-remaining-clause-follows
returns-then-left-remaining-clause-follows g c =
    let t = stage_parts c.loop-left.self in
    let u = stage_parts c.go_on.new.self in
    let first = c.remaining-remaining in
    λ width v h.
    let at = c.loop-left.invariant.follows width v h in
    subst (λ (x : Streams (ById Call) g.row.I.Denot). AreStreamsOf width u x) (sym (bytes_handed (ends_with g.I.Executes.acts) (by_ids width (ends_with g.I.Executes.acts)) c.args.direction v c.args.n first.result (first.ensures width v h) c.if-n-eq0.false
    c.if-remaining-eq0.false))
    (reaches_end g.I.Executes.acts width c.args.direction t v c.args.n c.loop-left.left at u (c.go_on.ensures width at.now at.shows))

pub returns-else-left-remaining-clause-follows : goal.returns-else-left-remaining-clause-follows
returns-else-left-remaining-clause-follows g c =
    let t = stage_parts c.loop-left.self in
    let first = c.remaining-remaining in
    λ width v h.
    let at = c.loop-left.invariant.follows width v h in
    subst (λ (x : Streams (ById Call) g.row.I.Denot). AreStreamsOf width t x) (sym (bytes_handed (ends_with g.I.Executes.acts) (by_ids width (ends_with g.I.Executes.acts)) c.args.direction v c.args.n first.result (first.ensures width v h) c.if-n-eq0.false
    c.if-remaining-eq0.false))
    (runs_dry g.I.Executes.acts width c.args.direction t v c.args.n c.loop-left.left at
    (sym (c.loop-left.invariant.remaining width at.now at.shows) ∙ none_left_if_incomplete c.completes.result c.loop-left.remaining c.loop-left.left c.completes.ensures
    c.loop-left-test.false (λ lt. omega (arith, lt, c.if-left-remaining.false))))
