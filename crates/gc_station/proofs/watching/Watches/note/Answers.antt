use Rattle.gc_station.proofs.Common.{sym, ◌∙◌, ending_seen}
use Rattle.gc_station.proofs.Freshness.{well_renews_each, other_renews_none}
use Rattle.gc_station.proofs.watching.Watches.note.Goals as goal

pub returns-then-renews : goal.returns-then-renews
returns-then-renews c =
    c.renew.ensures
    ∙ well_renews_each c.args.now.elapsed c.args.now.utc c.args.mark.now.cycle c.args.mark.now.expected.turn.place (ending_seen c.args.ending) c.args.self.now
    (sym c.renews.ensures ∙ c.if-renews.true)

pub returns-else-renews : goal.returns-else-renews
returns-else-renews c =
    other_renews_none c.args.now.elapsed c.args.now.utc c.args.mark.now.cycle c.args.mark.now.expected.turn.place (ending_seen c.args.ending) c.args.self.now
    (sym c.renews.ensures ∙ c.if-renews.false)
