use Rattle.geocom_c.proofs.Common.{rules, ◌≡◌, arith, Session, status_of}
use Rattle.geocom_c.proofs.SessionTelling.{current_few, of_each, same_status}
use Rattle.geocom_c.proofs.sessions.geocom_session_status.Goals as goal

pub returns-in_default : goal.returns-in_default
returns-in_default c =
    let astray = c.load_session.ensures.none c.in_default.is in
    record { told = λ s rest held. absurd (astray s rest held); astray = λ _. search rules; done = λ e. search (rules, e) }

pub overflow_cast-result-2 : goal.overflow_cast-result-2
overflow_cast-result-2 c =
    let held = c.in-Some.ensures.found in
    omega (arith, c.current.ensures, current_few c.in-Some.session.client.waiting, held.client.waiting, held.client.head.few, held.client.head.width.1)

pub returns : goal.returns
returns c =
    let s = c.in-Some.session in
    let found = c.in-Some.ensures.found in
    record {
      told = of_each c.args.state.now c.load_session.result c.load_session.ensures.only (λ (t : Session). _ ≡ status_of t) s c.in-Some.is
          (same_status s c.standing-standing.result.now c.is_up.result c.is_ready.result c.as_number.result c.as_number-2.result c.waiting.result c.current.result
          c.standing-standing.ensures c.is_up.ensures c.is_ready.ensures c.as_number.ensures c.as_number-2.ensures c.waiting.ensures c.current.ensures);
      astray = λ none. absurd (none _ _ found);
      done = λ _. (s, _, found);
    }
