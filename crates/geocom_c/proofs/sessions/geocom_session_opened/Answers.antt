use Rattle.geocom_c.proofs.Common.{refl, opened}
use Rattle.geocom_c.proofs.SessionTelling.{never_told, was_told}
use Rattle.geocom_c.proofs.sessions.geocom_session_opened.Goals as goal

pub returns-in_default : goal.returns-in_default
returns-in_default c = never_told (opened c.args.now) c.args.state.now (c.load_session.ensures.none c.in_default.is)

pub returns : goal.returns
returns c =
    was_told c.args.state.now c.load_session.result c.load_session.ensures.only (opened c.args.now) c.store_cut.new.state c.in-Some.session _ _ c.in-Some.is c.in-Some.ensures.found
    c.opened.ensures c.store_cut.ensures refl
