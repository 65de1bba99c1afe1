use Rattle.geocom_c.proofs.Common.{◌≡◌, ◌∙◌, ℕ, List, [], length, map, nat_eq, if◌then◌else◌, refl, sym, ap, subst, arith, length-map, Asked, Settlement, settlement_seen, Standing, Session, at_step, next_of, settled_by, stepped, FirstAre, IsRest, StoresSession, phase_byte, IsRecord, StandInFront, bytes_of, rest_stepped}
use Rattle.geocom_c.proofs.Counts.{HasCounts, stepped_counts}
use Rattle.geocom_c.proofs.SessionSettings.{step_lost, stepped_settings, still_allowed}
use Rattle.geocom_c.proofs.stepping.step.Goals as goal

pub store_session-requires : goal.store_session-requires
store_session-requires c =
    subst HasCounts (sym c.step-act.ensures.session) (stepped_counts c.args.want c.args.now c.args.session c.requires.session.1.standing.exchange.counts)

pub put_lost-requires-clause-lost : goal.put_lost-requires-clause-lost
put_lost-requires-clause-lost c =
    let at = at_step c.args.want c.args.now c.args.session in
    step_lost c.args.want at c.as_slice.result.now (ap (map settlement_seen) c.as_slice.ensures.value ∙ c.step-act.ensures.settled.seen)

pub returns-clause-stepped : goal.returns-clause-stepped
returns-clause-stepped c = λ rest held.
    let want = c.args.want in
    let s = c.args.session in
    let at = at_step want c.args.now s in
    let later = stepped want c.args.now s in
    let are = c.step-act.ensures.settled.seen in
    let seen : map settlement_seen c.as_slice.result.now ≡ settled_by (next_of want at) at = ap (map settlement_seen) c.as_slice.ensures.value ∙ are in
    let after : c.phase_byte-after.result ≡ phase_byte later.standing.phase =
    c.phase_byte-after.ensures ∙ ap (λ (t : Standing). phase_byte t.phase) c.standing.ensures ∙ ap (λ (t : Session). phase_byte t.standing.phase) c.step-act.ensures.session in
    let kept : IsRest c.keep_within_phase.new.rest (rest_stepped want c.args.now s rest) =
    subst (λ n. IsRest c.keep_within_phase.new.rest (if nat_eq n (phase_byte s.standing.phase) then rest else [])) after
    (subst (λ n. IsRest c.keep_within_phase.new.rest (if nat_eq c.phase_byte-after.result n then rest else [])) held.standing.phase
    (c.keep_within_phase.ensures rest held.client.incomplete)) in
    let stored = subst (λ (t : Session). StoresSession (record c.args.state.now { client = record c.args.state.now.client { rest = c.keep_within_phase.new.rest } }) c.store_session.new.state t)
    c.step-act.ensures.session c.store_session.ensures in
    record {
      tells = record {
        fault = refl;
        act = c.step-act.result;
        is = c.step-act.ensures.act;
        act_is = c.act_number.ensures;
        until_is = c.until_of.ensures;
        bytes = subst (λ (l : List ℕ). StandInFront (bytes_of c.step-act.result l) c.put_act-bytes.result c.put_act-bytes.new.room) c.step-act.ensures.line c.put_act-bytes.ensures.front;
        count = omega (arith, c.len.ensures.value, ap length are, length-map c.step-act.new.settled.items settlement_seen);
        recorded = subst (λ (ss : List (Settlement Asked)). FirstAre (IsRecord []) c.put_lost.new.records ss) seen c.put_lost.ensures.records;
      };
      stands = stored (rest_stepped want c.args.now s rest) kept (still_allowed s.settings later.settings (stepped_settings want c.args.now s) held.settings.allowed);
    }
