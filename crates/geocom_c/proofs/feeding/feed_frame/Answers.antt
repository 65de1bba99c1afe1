use Rattle.geocom_c.proofs.Common.{sym, subst, Frame, Asked, Windowed, StandsForClient, client_past}
use Rattle.geocom_c.proofs.feeding.feed_frame.Goals as goal

pub returns-in-Line-clause-state : goal.returns-in-Line-clause-state
returns-in-Line-clause-state c = λ rest s.
    let stored = subst (λ (d : Windowed Asked). StandsForClient c.store.new.state d rest) c.hear-told.ensures.client (c.store.ensures.client rest s.incomplete s.head.answered) in
    subst (λ (f : Frame). StandsForClient c.store.new.state (client_past c.args.client f) rest) (sym c.in-Line.is) stored
