use Rattle.geocom_c.proofs.Common.{rules, ◌≡◌, ◌∙◌, List, [], length, map, refl, ap, subst, arith, length-map, Asked, Settlement, settlement_seen, has_begun, Session, anew, FirstAre, HasBegunAnew, lost_anew, IsRecord}
use Rattle.geocom_c.proofs.SessionSettings.{anew_lost, anew_settings, still_allowed}
use Rattle.geocom_c.proofs.SessionTelling.{of_each, stored_as}
use Rattle.geocom_c.proofs.sessions.geocom_session_restart.Goals as goal

pub returns-in_default : goal.returns-in_default
returns-in_default c =
    let astray = c.load_session.ensures.none c.in_default.is in
    let room = c.if-settlements-lt-WINDOW.false in
    let fault = c.refused-in_default.ensures.fault in
    record {
      restarted = λ _ s rest held. absurd (astray s rest held);
      room = (λ e. absurd (omega (arith, fault, e)), λ short. absurd (omega (arith, room, short)));
      astray = (λ _. (room, astray), λ _. fault);
      done = λ e. absurd (omega (arith, fault, e));
      refused = λ _. (c.refused-in_default.ensures.count, refl, refl);
      written = record { few = omega (arith, c.refused-in_default.ensures.count); within = record { untouched = refl; length = refl } };
    }

pub put_lost-requires-clause-lost : goal.put_lost-requires-clause-lost
put_lost-requires-clause-lost c =
    anew_lost (has_begun c.in-Some.session.standing.exchange) c.in-Some.session c.as_slice.result.now
    (ap (map settlement_seen) c.as_slice.ensures.value ∙ c.restart-settled.ensures.settled.seen)

pub returns : goal.returns
returns c =
    let x = c.in-Some.session in
    let found = c.in-Some.ensures.found in
    let none = c.counted.ensures.fault in
    let are = c.restart-settled.ensures.settled.seen in
    let seen : map settlement_seen c.as_slice.result.now ≡ lost_anew x = ap (map settlement_seen) c.as_slice.ensures.value ∙ are in
    let n : c.counted.result.count ≡ length (lost_anew x) =
    omega (arith, c.counted.ensures.count, c.len.ensures.value, ap length are, length-map c.restart-settled.result.items settlement_seen) in
    record {
      restarted = λ room. of_each c.args.state.now c.load_session.result c.load_session.ensures.only
          (λ (t : Session). HasBegunAnew t c.store_cut.new.state c.counted.result c.put_lost.new.records) x c.in-Some.is
          (record {
            fault = none;
            stands = stored_as c.store_cut.new.state _ (anew x) c.restart-settled.ensures.session c.store_cut.ensures
                (still_allowed x.settings (anew x).settings (anew_settings x) found.settings.allowed);
            count = n;
            recorded = subst (λ (ss : List (Settlement Asked)). FirstAre (IsRecord []) c.put_lost.new.records ss) seen c.put_lost.ensures.records;
          });
      room = (λ e. absurd (omega (arith, none, e)), λ short. absurd (omega (arith, c.if-settlements-lt-WINDOW.false, short)));
      astray = (λ e. absurd (omega (arith, none, e)), λ both. absurd (both.1 _ _ found));
      done = λ _. (x, _, found);
      refused = λ some. absurd (some none);
      written = search rules;
    }
