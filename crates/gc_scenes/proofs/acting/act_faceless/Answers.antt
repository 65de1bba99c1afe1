use Rattle.gc_scenes.proofs.Common.{◌≡◌, subst, Nothing, Call, Executed, exec}
use Rattle.gc_scenes.proofs.Acted.{change_face_outcome, simple_mea_outcome, get_date_outcome}
use Rattle.gc_scenes.proofs.acting.act_faceless.Goals as goal

pub returns-then-ways-2 : goal.returns-then-ways-2
returns-then-ways-2 c =
    let x : Executed = record { state = c.turn_over.new.instrument; rc = c.turn_over.result; answer = Nothing } in
    rw c.in-ChangeFace.is (rw c.requires (change_face_outcome c.args.ways.now c.args.now c.args.instrument.now c.in-ChangeFace.pos_mode c.in-ChangeFace.atr_mode c.in-ChangeFace.dummy x
    c.if-ways-2.true c.turn_over.ensures))

pub returns-then-ways-3 : goal.returns-then-ways-3
returns-then-ways-3 c =
    let x : Executed = record { state = c.take_distance.new.instrument; rc = c.take_distance.result; answer = c.take_distance.new.answer } in
    rw c.in-SimpleMea.is (simple_mea_outcome c.args.ways.now c.args.now c.args.instrument.now c.in-SimpleMea.wait c.in-SimpleMea.mode x c.if-ways-3.true c.take_distance.ensures)

pub returns-in-None : goal.returns-in-None
returns-in-None c =
    let s = c.args.instrument.now in
    let x : Executed = record { state = c.carry_out-in-None.new.instrument; rc = c.carry_out-in-None.result; answer = c.carry_out-in-None.new.answer } in
    let does = subst (λ (k : Call). exec s k ≡ x) c.in-GetDate.is c.carry_out-in-None.ensures in
    rw c.in-GetDate.is (get_date_outcome c.args.ways.now c.args.now s x c.in-None.is does)

pub returns-in_default : goal.returns-in_default
returns-in_default c = c.carry_out_unchanged.ensures c.args.ways.now c.args.now
