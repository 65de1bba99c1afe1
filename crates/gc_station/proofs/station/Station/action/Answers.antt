use Rattle.gc_station.proofs.Common.{sym, ap, ◌∙◌, subst, action_of, waiting_of_station, SuitsAction}
use Rattle.gc_station.proofs.Facts.{action_suits}
use Rattle.gc_station.proofs.station.Station.action.Goals as goal

pub returns-clause-room : goal.returns-clause-room
returns-clause-room c =
    let plan = c.args.plan.now in
    let p = c.args.self.now.progress in
    let w = waiting_of_station c.args.self.now in
    subst (λ action. SuitsAction p w.all action) (sym (c.action.ensures ∙ ap (action_of plan p) c.waiting.ensures)) (action_suits plan p w)
