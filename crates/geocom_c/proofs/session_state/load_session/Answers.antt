use Rattle.geocom_c.proofs.Common.{◌≡◌, ◌∙◌, Some, sym, ap, same_Some, Asked, Windowed, WINDOW, Session}
use Rattle.geocom_c.proofs.SessionStates.{same_session, same_settings}
use Rattle.geocom_c.proofs.session_state.load_session.Goals as goal

pub returns-in_default-clause-only : goal.returns-in_default-clause-only
returns-in_default-clause-only c = λ session rest s. absurd (c.in_default.not-Some _ (c.load.ensures.only _ rest s.client))

pub returns-in_default-clause-none : goal.returns-in_default-clause-none
returns-in_default-clause-none c = λ none session rest s. absurd (c.in_default.not-Some _ (c.load.ensures.only _ rest s.client))

pub returns-clause-only : goal.returns-clause-only
returns-clause-only c = λ session rest s.
    let client : c.in-Some.client ≡ record { width = WINDOW; ids = session.client } = same_Some _ _ (sym c.in-Some.is ∙ c.load.ensures.only _ rest s.client) in
    let standing = same_Some _ _ (sym c.in-Some-read_standing.is ∙ c.read_standing.ensures.only _ s.standing) in
    let settings = same_settings c.args.state.now.width c.args.state.now.timeout c.args.state.now.settle session.settings s.settings.width s.settings.timeout s.settings.quiet in
    ap (λ (x : Session). Some x) (c.resume.ensures ∙ same_session _ _ _ session settings standing (ap (λ (x : Windowed Asked). x.ids) client))
