use Rattle.gc_station.proofs.Common.{◌≡◌, ◌+◌, ◌-◌, ◌<◌, List, ◌∷◌, length, drop, ap, sym, ◌∙◌, arith, drop_more, Asked, ById, Task, Outgoing, put_act, Mark, Progress, Upcoming, with_before, with_first, with_id, with_values, sent, Model, next_request_text, first_text, occasion_at, request_for, asks_next, firsts_of, mark_sent, with_progress, place_next, mark_next, upcoming_after, commands_before}
use Rattle.gc_station.proofs.Making.{refines_with, asks_refines, put_puts, put_refines, put_took, first_refines, first_took}
use Rattle.gc_station.proofs.station.Station.send.Goals as goal

pub returns : goal.returns
returns g c text known =
    let put = c.ask-put.result in
    let old = c.args.self.now in
    let plan = c.args.plan.now in
    let commands = c.args.commands.now in
    let task : Task = c.index-commands-place.result in
    let place = c.place.result in
    let at : place ≡ length commands - old.progress.unsent = c.place.ensures in
    let below : place < length commands = omega (arith, at, c.requires.unsent, c.requires.within) in
    let others : List Task = drop (place + 1) commands in
    let here : drop place commands ≡ task ∷ others =
    drop_more commands place task below ∙ ap (λ x. x ∷ others) (sym c.index-commands-place.is) in
    let mark = c.mark_sent-mark.result in
    let asking = c.request_for-asking.result in
    let line = next_request_text old.client.ids asking.command.call in
    record {
      act = put_act put line;
      tells = c.ask-put.ensures.tells;
      goes = λ s start stands so.
          let list = drop (place_next commands s.progress) commands in
          let is : list ≡ task ∷ others = sym (ap (λ n. drop n commands) (at ∙ ap (place_next commands) stands.progress)) ∙ here in
          let f : Model → Model = λ (x : Model). with_progress (sent (upcoming_after plan 1 commands x.progress)) (asks_next plan commands x) in
          let asked = asks_refines old c.ask-put.new.self s asking (request_for mark task) stands c.requires.ready.1 c.request_for-asking.ensures c.ask-put.ensures.asks in
          let occasion = occasion_at s.progress.moment in
          let values = old.progress.moment.values in
          let next : mark ≡ mark_sent plan commands s =
          c.mark_sent-mark.ensures
          ∙ ap (λ (ids : ById Asked). with_values values (with_id ids.next (with_before old.recorded.counts (with_first old.recorded.firsts (mark_next plan commands old.progress))))) stands.ids
          ∙ ap (λ fs. with_values values (with_id s.client.next (with_before old.recorded.counts (with_first fs (mark_next plan commands old.progress))))) stands.firsts
          ∙ ap (λ cs. with_values values (with_id s.client.next (with_before cs (with_first (firsts_of s) (mark_next plan commands old.progress))))) (stands.counts stands.reads)
          ∙ ap (λ (p : Progress). with_values p.moment.values (with_id s.client.next (with_before s.counts (with_first (firsts_of s) (mark_next plan commands p))))) stands.progress in
          let first = first_refines c.ask-put.new.self s mark (mark_sent plan commands s) list task others is next asked in (
            put_puts put line (first_text occasion s.client list) (ap (λ (ids : ById Asked). next_request_text ids asking.command.call) stands.ids
                ∙ ap (λ (a : Outgoing). next_request_text s.client a.command.call) (c.request_for-asking.ensures ∙ ap (λ (m : Mark). request_for m task) next) ∙ sym
                (ap (first_text occasion s.client) is)) c.ask-put.ensures.part,
            put_refines put line c.commands_before-requests.result (commands_before plan commands s.progress) f s (record c.ask-put.new.self { progress = c.note_sent.new.self }) c.note_cut.new.self
                (refines_with c.ask-put.new.self c.note_sent.new.self (sent (upcoming_after plan 1 commands s.progress)) (asks_next plan commands s) first
                (c.note_sent.ensures ∙ ap (λ (u : Upcoming). sent u c.ask-put.new.self.progress)
                (c.upcoming_after-next.ensures ∙ ap (upcoming_after plan 1 commands) stands.progress))) c.note_cut.ensures
                (c.commands_before-requests.ensures ∙ ap (commands_before plan commands) stands.progress),
            put_took text start known put line (commands_before plan commands s.progress) f s (first_took text start known s (mark_sent plan commands s) list so),
          );
    }
