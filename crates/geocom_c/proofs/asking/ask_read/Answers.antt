use Rattle.geocom_c.proofs.Common.{◌∙◌, refl, sym, subst, arith, eqb-true, same_Some, Asked, OWN, Send, Session, may_send, next_of, HasAsked, StandsForSession, NO_CLIENT, NO_ROOM, effect}
use Rattle.std.specs.Prelude.{nat_eq}
use Rattle.geocom_c.proofs.Sendings.{never_both, one_error_of, one_value_of}
use Rattle.geocom_c.proofs.SessionSteps.{fault_none, fault_not_now, fault_of_own, no_other_fault}
use Rattle.geocom_c.proofs.asking.ask_read.Goals as goal

pub returns-in_default : goal.returns-in_default
returns-in_default c =
    let room = c.if-line-lt-LINE_ROOM.false in
    let astray = c.load_session.ensures.none c.in_default.is in
    let fault = c.refused-in_default.ensures.fault in
    record {
      asked = λ _ s rest request held is. absurd (astray s rest held);
      refuses = λ _ s rest e held is. absurd (astray s rest held);
      room = (λ e. absurd (omega (arith, fault, e)), λ short. absurd (omega (arith, room, short)));
      astray = (λ _. (room, astray), λ _. fault);
      own = λ e. absurd (omega (arith, fault, e));
      not_now = λ e. absurd (omega (arith, fault, e));
      done = λ e. absurd (omega (arith, fault, e));
      refusal = λ of. absurd (of.2 fault);
      refused = λ _. (c.refused-in_default.ensures.count, refl, refl);
      written = record { untouched = refl; length = refl };
    }

pub returns-in-Ok : goal.returns-in-Ok
returns-in-Ok c =
    let room = c.if-line-lt-LINE_ROOM.false in
    let x = c.in-Some.session in
    let found = c.in-Some.ensures.found in
    let asked = c.in-Ok.asked in
    let target = c.args.target in
    let own = nat_eq target OWN in
    let may = may_send (next_of Send x) in
    let eff = effect c.args.state.now c.ask_asked.new.state c.args.line.now c.ask_asked.new.line c.ask_asked.result in
    let fault = (c.ask_asked.ensures.asked _ found).fault in
    record {
      asked = λ _ s rest request held is.
          let same = same_Some x s (sym c.in-Some.is ∙ c.load_session.ensures.only s rest held) in
          subst (λ (a : Asked). HasAsked s rest a target c.args.timeout eff) (one_value_of c.args.read asked request c.in-Ok.is is)
          (subst (λ (t : Session). HasAsked t rest asked target c.args.timeout eff) same
          (c.ask_asked.ensures.asked rest (subst (λ (t : Session). StandsForSession c.args.state.now t rest) (sym same) held)));
      refuses = λ _ s rest e held is. absurd (never_both c.args.read asked e c.in-Ok.is is);
      room = (
        λ e. absurd (no_other_fault own may NO_ROOM (λ z. absurd (omega (arith, z))) (λ z. absurd (omega (arith, z))) (λ z. absurd (omega (arith, z))) (sym fault ∙ e)),
        λ short. absurd (omega (arith, room, short)),
      );
      astray = (
        λ e. absurd (no_other_fault own may NO_CLIENT (λ z. absurd (omega (arith, z))) (λ z. absurd (omega (arith, z))) (λ z. absurd (omega (arith, z))) (sym fault ∙ e)),
        λ both. absurd (both.1 _ _ found),
      );
      own = λ e. record {
        session = x;
        rest = _;
        asked = asked;
        stands = found;
        is = c.in-Ok.is;
        meets = eqb-true target OWN (fault_of_own own may (sym fault ∙ e));
      };
      not_now = λ e. record { session = x; rest = _; asked = asked; stands = found; is = c.in-Ok.is; meets = fault_not_now own may (sym fault ∙ e) };
      done = λ e. record { session = x; rest = _; asked = asked; stands = found; is = c.in-Ok.is; meets = fault_none own may (sym fault ∙ e) };
      refusal = λ of. absurd (no_other_fault own may _ of.0 of.3 of.4 (sym fault));
      refused = c.ask_asked.ensures.refused;
      written = c.ask_asked.ensures.written;
    }

pub returns-in-Err : goal.returns-in-Err
returns-in-Err c =
    let room = c.if-line-lt-LINE_ROOM.false in
    let found = c.in-Some.ensures.found in
    let fault = c.refused-in-Err.ensures.fault in
    let of = c.requires c.in-Err.fault c.in-Err.is in
    record {
      asked = λ _ s rest request held is. absurd (never_both c.args.read request c.in-Err.fault is c.in-Err.is);
      refuses = λ _ s rest e held is. fault ∙ one_error_of c.args.read c.in-Err.fault e c.in-Err.is is;
      room = (λ e. absurd (of.1 (sym fault ∙ e)), λ short. absurd (omega (arith, room, short)));
      astray = (λ e. absurd (of.2 (sym fault ∙ e)), λ both. absurd (both.1 _ _ found));
      own = λ e. absurd (of.4 (sym fault ∙ e));
      not_now = λ e. absurd (of.3 (sym fault ∙ e));
      done = λ e. absurd (of.0 (sym fault ∙ e));
      refusal = λ _. (c.in-Err.fault, c.in-Err.is, fault);
      refused = λ _. (c.refused-in-Err.ensures.count, refl, refl);
      written = record { untouched = refl; length = refl };
    }
