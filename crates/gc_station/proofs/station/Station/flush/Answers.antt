use Rattle.gc_station.proofs.Common.{ap, ◌∙◌, Table, NullProc, Asked, ById, Outgoing, put_act, request_noted, Model, next_request_text, null_request, asks_for, with_progress, commands_before}
use Rattle.gc_station.proofs.Making.{refines_with, asks_refines, put_puts, put_refines, put_took}
use Rattle.gc_station.proofs.station.Station.flush.Goals as goal

pub returns : goal.returns
returns g c text known =
    let put = c.ask-put.result in
    let old = c.args.self.now in
    let plan = c.args.plan.now in
    let commands = c.args.commands.now in
    let one = c.null_request.result in
    let line = next_request_text old.client.ids one.command.call in
    record {
      act = put_act put line;
      tells = c.ask-put.ensures.tells;
      goes = λ s start stands so. (
        put_puts put line (next_request_text s.client (Table NullProc)) (ap (λ (a : Outgoing). next_request_text old.client.ids a.command.call) c.null_request.ensures
            ∙ ap (λ (ids : ById Asked). next_request_text ids (Table NullProc)) stands.ids) c.ask-put.ensures.part,
        put_refines put line c.commands_before-requests.result (commands_before plan commands s.progress)
            (λ (x : Model). with_progress request_noted (asks_for (null_request plan) x)) s (record c.ask-put.new.self { progress = c.note_request.new.self }) c.note_cut.new.self
            (refines_with c.ask-put.new.self c.note_request.new.self request_noted (asks_for (null_request plan) s)
            (asks_refines old c.ask-put.new.self s one (null_request plan) stands c.requires.1 c.null_request.ensures c.ask-put.ensures.asks)
            c.note_request.ensures) c.note_cut.ensures
            (c.commands_before-requests.ensures ∙ ap (commands_before plan commands) stands.progress),
        put_took text start known put line (commands_before plan commands s.progress) (λ (x : Model). with_progress request_noted (asks_for (null_request plan) x)) s so,
      );
    }
