use Rattle.geocom_c.proofs.Common.{rules, ◌≡◌, ◌∙◌, None, Some, refl, sym, subst, arith, same_Some, Want, Session, StandsForSession, HasRoomToStep, HasStepped, IsWant, NO_CLIENT, NO_WANT}
use Rattle.geocom_c.proofs.SessionSteps.{never_stepped}
use Rattle.geocom_c.proofs.stepping.geocom_session_next.Goals as goal

pub returns-in_default : goal.returns-in_default
returns-in_default c =
    let room : HasRoomToStep c.args.settlements.now c.args.line.now = search (rules, c.has_room_to_step.ensures) in
    let none = c.load_session.ensures.none c.in_default.is in
    never_stepped c.args.want c.args.now NO_CLIENT c.args.state.now c.args.settlements.now c.args.line.now c.unmoved-in_default.result c.unmoved-in_default.ensures
    (λ e. absurd (omega (arith, e)))
    (λ _ want is. none)
    (λ e. absurd (omega (arith, e)), λ no. absurd (no room))
    (λ _. (room, none), λ _. refl)
    (λ e. absurd (omega (arith, e)), λ all. absurd (none _ _ all.1.2))

pub returns-in-Some-want_of : goal.returns-in-Some-want_of
returns-in-Some-want_of c =
    let room : HasRoomToStep c.args.settlements.now c.args.line.now = search (rules, c.has_room_to_step.ensures) in
    let x = c.in-Some.session in
    let found = c.in-Some.ensures.found in
    let want = c.in-Some-want_of.want in
    let is_want : IsWant c.args.want = record { want = want; is = c.in-Some-want_of.ensures.found } in
    let fault = c.step.ensures.fault in
    record {
      stepped = λ _ w is s rest held.
          let same = same_Some x s (sym c.in-Some.is ∙ c.load_session.ensures.only s rest held) in
          let wants = same_Some want w (sym c.in-Some-want_of.is ∙ c.want_of.ensures.only w is) in
          subst (λ (v : Want). HasStepped v c.args.now s rest c.step.new.state c.step.result c.step.new.settlements c.step.new.line) wants
          (subst (λ (t : Session). HasStepped want c.args.now t rest c.step.new.state c.step.result c.step.new.settlements c.step.new.line) same
          (c.step.ensures.stepped rest (subst (λ (t : Session). StandsForSession c.args.state.now t rest) (sym same) held)));
      room = (λ e. absurd (omega (arith, fault, e)), λ no. absurd (no room));
      astray = (λ e. absurd (omega (arith, fault, e)), λ both. absurd (both.1 _ _ found));
      wants = (λ e. absurd (omega (arith, fault, e)), λ all. absurd (all.2 is_want));
      done = λ _. ((x, _, found), is_want);
      refused = λ some. absurd (some fault);
      written = c.step.ensures.written;
      lined = c.step.ensures.lined;
    }

pub returns-in-None : goal.returns-in-None
returns-in-None c =
    let room : HasRoomToStep c.args.settlements.now c.args.line.now = search (rules, c.has_room_to_step.ensures) in
    let found = c.in-Some.ensures.found in
    never_stepped c.args.want c.args.now NO_WANT c.args.state.now c.args.settlements.now c.args.line.now c.unmoved-in-None.result c.unmoved-in-None.ensures
    (λ e. absurd (omega (arith, e)))
    (λ _ want is. let bad : None ≡ Some want = sym c.in-None.is ∙ c.want_of.ensures.only want is in cc)
    (λ e. absurd (omega (arith, e)), λ no. absurd (no room))
    (λ e. absurd (omega (arith, e)), λ both. absurd (both.1 _ _ found))
    (λ _. (room, (c.in-Some.session, _, found), λ w. let bad : None ≡ Some w.want = sym c.in-None.is ∙ c.want_of.ensures.only w.want w.is in cc), λ _. refl)
