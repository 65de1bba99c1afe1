use Rattle.gc_station.proofs.Common.{◌≡◌, drop, ap, ◌∙◌, Asked, ById, put_act, Outgoing, setup_sent, Model, next_request_text, occasion_at, text_or_null, request_of_setup, asks_setup, mark_setup_sent, with_progress, commands_before}
use Rattle.gc_station.proofs.Making.{refines_with, asks_refines, put_puts, put_refines, put_took, setup_text}
use Rattle.gc_station.proofs.station.Station.prepare.Goals as goal

pub returns : goal.returns
returns g c text known =
    let put = c.ask-put.result in
    let old = c.args.self.now in
    let plan = c.args.plan.now in
    let commands = c.args.commands.now in
    let asking = c.next_setup-asking.result in
    let line = next_request_text old.client.ids asking.command.call in
    record {
      act = put_act put line;
      tells = c.ask-put.ensures.tells;
      goes = λ s start stands so.
          let list = drop s.progress.prepared commands in
          let mark = mark_setup_sent commands s in
          let id = s.client.next in
          let is : asking ≡ request_of_setup plan commands id s.counts s.progress =
          c.next_setup-asking.ensures ∙ ap (λ (ids : ById Asked). request_of_setup plan commands ids.next old.recorded.counts old.progress) stands.ids
          ∙ ap (λ cs. request_of_setup plan commands id cs old.progress) (stands.counts stands.reads)
          ∙ ap (request_of_setup plan commands id s.counts) stands.progress in
          let f : Model → Model = λ (x : Model). with_progress (setup_sent plan) (asks_setup plan commands x) in
          let asked = asks_refines old c.ask-put.new.self s asking (request_of_setup plan commands id s.counts s.progress) stands c.requires.1 is c.ask-put.ensures.asks in (
            put_puts put line (text_or_null (occasion_at s.progress.moment) s.client list) (ap (λ (ids : ById Asked). next_request_text ids asking.command.call) stands.ids
                ∙ ap (λ (a : Outgoing). next_request_text s.client a.command.call) is ∙ setup_text plan s.client mark list) c.ask-put.ensures.part,
            put_refines put line c.commands_before-requests.result (commands_before plan commands s.progress) f s (record c.ask-put.new.self { progress = c.note_setup.new.self }) c.note_cut.new.self
                (refines_with c.ask-put.new.self c.note_setup.new.self (setup_sent plan) (asks_setup plan commands s) asked c.note_setup.ensures) c.note_cut.ensures
                (c.commands_before-requests.ensures ∙ ap (commands_before plan commands) stands.progress),
            put_took text start known put line (commands_before plan commands s.progress) f s so,
          );
    }
