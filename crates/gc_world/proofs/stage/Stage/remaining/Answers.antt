use Rattle.gc_world.proofs.Common.{◌≡◌, sym, subst, Direction, Up, Down, texts, to_go, stage_parts}
use Rattle.gc_world.proofs.Shown.{carries, left_is}
use Rattle.gc_world.proofs.stage.Stage.remaining.Goals as goal

pub remaining-requires : goal.remaining-requires
remaining-requires g c = (texts Up c.requires.1.world.wire, carries g.I.Executes.acts c.requires.0 (stage_parts c.args.self.now) c.requires.1 c.requires.2 Up)

pub remaining-requires-in-Down : goal.remaining-requires-in-Down
remaining-requires-in-Down g c = (texts Down c.requires.1.world.wire, carries g.I.Executes.acts c.requires.0 (stage_parts c.args.self.now) c.requires.1 c.requires.2 Down)

pub returns-in-Up : goal.returns-in-Up
returns-in-Up g c =
    let s = stage_parts c.args.self.now in
    λ width v h.
    subst (λ (d : Direction). c.remaining.result ≡ to_go d v) (sym c.in-Up.is)
    (left_is g.I.Executes.acts width s v h Up c.remaining.result (c.remaining.ensures (texts Up v.world.wire) (carries g.I.Executes.acts width s v h Up)))

pub returns-in-Down : goal.returns-in-Down
returns-in-Down g c =
    let s = stage_parts c.args.self.now in
    λ width v h.
    subst (λ (d : Direction). c.remaining-in-Down.result ≡ to_go d v) (sym c.in-Down.is)
    (left_is g.I.Executes.acts width s v h Down c.remaining-in-Down.result (c.remaining-in-Down.ensures (texts Down v.world.wire) (carries g.I.Executes.acts width s v h Down)))
