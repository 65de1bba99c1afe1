use Rattle.gc_station.proofs.Common.{[], ◌∷◌, refl, ap, ◌∙◌, put_act, cleared, with_progress, commands_before}
use Rattle.gc_station.proofs.Making.{refines_with, put_puts, put_refines, put_took}
use Rattle.gc_station.proofs.station.Station.clear.Goals as goal

pub returns : goal.returns
returns g c text known =
    let put = c.put-put.result in
    let old = c.args.self.now in
    let plan = c.args.plan.now in
    let commands = c.args.commands.now in
    let feed = 10 ∷ [] in
    record {
      act = put_act put feed;
      tells = c.put-put.ensures.tells;
      goes = λ s start stands so. (
        put_puts put feed feed refl c.put-put.ensures.part,
        put_refines put feed c.commands_before-requests.result (commands_before plan commands s.progress) (with_progress cleared) s
            (record old { progress = c.note_cleared.new.self }) c.note_cut.new.self (refines_with old c.note_cleared.new.self cleared s stands c.note_cleared.ensures) c.note_cut.ensures
            (c.commands_before-requests.ensures ∙ ap (commands_before plan commands) stands.progress),
        put_took text start known put feed (commands_before plan commands s.progress) (with_progress cleared) s so,
      );
    }
