use Rattle.gc_world.proofs.Common.{◌<◌, sym, subst, Direction, Up, Down, ends_with, texts, to_go, stage_parts, Shows, after_bytes}
use Rattle.gc_world.proofs.Shown.{carries, more_left, streams_begin}
use Rattle.gc_world.proofs.stage.Stage.go_on.Goals as goal

pub go_on-requires : goal.go_on-requires
go_on-requires g c =
    let s = stage_parts c.args.self.now in
    let (width, v, h) = c.requires.shown in (
      texts Up v.world.wire,
      carries g.I.Executes.acts width s v h Up,
      more_left g.I.Executes.acts width s v h Up c.args.n
          (subst (λ (d : Direction). c.args.n < to_go d v) c.in-Up.is (c.requires.some width v h)),
    )

pub go_on-requires-in-Down : goal.go_on-requires-in-Down
go_on-requires-in-Down g c =
    let s = stage_parts c.args.self.now in
    let (width, v, h) = c.requires.shown in (
      texts Down v.world.wire,
      carries g.I.Executes.acts width s v h Down,
      more_left g.I.Executes.acts width s v h Down c.args.n
          (subst (λ (d : Direction). c.args.n < to_go d v) c.in-Down.is (c.requires.some width v h)),
    )

pub returns-in-Up : goal.returns-in-Up
returns-in-Up g c =
    let s = stage_parts c.args.self.now in
    let did = c.go_on.ensures in
    λ width v h.
    subst (λ (d : Direction). Shows width (record c.args.self.now { up = c.go_on.new.self; cut = c.go_on.new.cut }) (after_bytes (ends_with g.I.Executes.acts) width d v c.args.n)) (sym c.in-Up.is)
    (streams_begin g.I.Executes.acts width s v h Up c.args.n c.go_on.new.self (subst (λ (d : Direction). c.args.n < to_go d v) c.in-Up.is (c.requires.some width v h))
    (did.flow (texts Up v.world.wire) (carries g.I.Executes.acts width s v h Up)) did.gone did.queue)

pub returns-in-Down : goal.returns-in-Down
returns-in-Down g c =
    let s = stage_parts c.args.self.now in
    let did = c.go_on-in-Down.ensures in
    λ width v h.
    subst (λ (d : Direction). Shows width (record c.args.self.now { down = c.go_on-in-Down.new.self; cut = c.go_on-in-Down.new.cut }) (after_bytes (ends_with g.I.Executes.acts) width d v c.args.n)) (sym c.in-Down.is)
    (streams_begin g.I.Executes.acts width s v h Down c.args.n c.go_on-in-Down.new.self (subst (λ (d : Direction). c.args.n < to_go d v) c.in-Down.is (c.requires.some width v h))
    (did.flow (texts Down v.world.wire) (carries g.I.Executes.acts width s v h Down)) did.gone did.queue)
