use Rattle.gc_station.proofs.Common.{false, ap, ◌∙◌, Progress, Upcoming, commands_in, upcoming_after, advanced, early_noted}
use Rattle.gc_station.proofs.station.Station.advance_unsent.Goals as goal

pub returns : goal.returns
returns c =
    let old = c.args.self.now in
    let plan = c.args.plan.now in
    let commands = c.args.commands.now in
    let count = c.args.count in
    let past =
    c.advance.ensures ∙ ap (λ (u : Upcoming). advanced count u false c.note_moment_meanwhile.new.self) c.upcoming_after-next.ensures
    ∙ ap (advanced count (upcoming_after plan count commands old.progress) false) c.note_moment_meanwhile.ensures in
    ap (λ (p : Progress). record old { progress = p }) (c.note_early.ensures ∙ ap (λ n. early_noted plan n c.advance.new.self) c.commands_waiting-waiting.ensures
    ∙ ap (early_noted plan (commands_in old.marks.items)) past)
