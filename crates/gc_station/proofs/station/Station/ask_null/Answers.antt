use Rattle.gc_station.proofs.Common.{ap, ◌∙◌, Progress, put_act, null_sent, null_text, with_progress, commands_before}
use Rattle.gc_station.proofs.Making.{refines_with, put_puts, put_refines, put_took}
use Rattle.gc_station.proofs.station.Station.ask_null.Goals as goal

pub returns : goal.returns
returns g c text known =
    let put = c.put_null-put.result in
    let old = c.args.self.now in
    let plan = c.args.plan.now in
    let commands = c.args.commands.now in
    let line = null_text old.progress.exchange.word in
    record {
      act = put_act put line;
      tells = c.put_null-put.ensures.tells;
      goes = λ s start stands so. (
        put_puts put line (null_text s.progress.exchange.word) (ap (λ (p : Progress). null_text p.exchange.word) stands.progress) c.put_null-put.ensures.part,
        put_refines put line c.commands_before-requests.result (commands_before plan commands s.progress) (with_progress (null_sent plan)) s
            (record old { progress = c.note_null.new.self }) c.note_cut.new.self
            (refines_with old c.note_null.new.self (null_sent plan) s stands c.note_null.ensures) c.note_cut.ensures
            (c.commands_before-requests.ensures ∙ ap (commands_before plan commands) stands.progress),
        put_took text start known put line (commands_before plan commands s.progress) (with_progress (null_sent plan)) s so,
      );
    }
