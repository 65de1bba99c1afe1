use Rattle.gc_values.proofs.Common.{rules, ◌≡◌, ◌&&◌, sym, ap, ◌∙◌, units, v_in_face_one, hz_in_face_one, is_close, is_close_on_circle}
use Rattle.gc_values.proofs.NearLemmas.{near_by_angles}
use Rattle.gc_values.proofs.direction.Direction.is_near.Goals as goal

pub returns-then-v_is_near : goal.returns-then-v_is_near
returns-then-v_is_near c =
    let d = c.args.self.now in
    let v : c.is_close-v_is_near.result ≡ is_close (units c.args.tolerance.now) (v_in_face_one d) (units c.args.place.now.v) = search rules in
    let hz : c.is_close_on_circle-hz_is_near.result ≡ is_close_on_circle (units c.args.tolerance.now) (hz_in_face_one d) (units c.args.place.now.hz) = search rules in
    ap (λ b. b && c.is_close_on_circle-hz_is_near.result) (sym c.if-v_is_near.true)
    ∙ near_by_angles d c.args.place.now c.args.tolerance.now c.is_close-v_is_near.result c.is_close_on_circle-hz_is_near.result v hz

pub returns-else-v_is_near : goal.returns-else-v_is_near
returns-else-v_is_near c =
    let d = c.args.self.now in
    let v : c.is_close-v_is_near.result ≡ is_close (units c.args.tolerance.now) (v_in_face_one d) (units c.args.place.now.v) = search rules in
    let hz : c.is_close_on_circle-hz_is_near.result ≡ is_close_on_circle (units c.args.tolerance.now) (hz_in_face_one d) (units c.args.place.now.hz) = search rules in
    c.if-v_is_near.false ∙ ap (λ b. b && c.is_close_on_circle-hz_is_near.result) (sym c.if-v_is_near.false)
    ∙ near_by_angles d c.args.place.now c.args.tolerance.now c.is_close-v_is_near.result c.is_close_on_circle-hz_is_near.result v hz
