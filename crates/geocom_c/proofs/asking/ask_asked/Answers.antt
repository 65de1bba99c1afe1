use Rattle.geocom_c.proofs.Common.{rules, ◌≡◌, ◌∙◌, true, Some, sym, subst, asked_line, OWN, Send, Session, asked, may_send, next_of, takes, StoresSession}
use Rattle.std.specs.Prelude.{nat_eq}
use Rattle.geocom_c.proofs.Clients.{given_if_equal}
use Rattle.geocom_c.proofs.SessionSettings.{asked_settings, still_allowed}
use Rattle.geocom_c.proofs.SessionSteps.{fault_refused, fault_taken, never_asked, same_error}
use Rattle.geocom_c.proofs.asking.ask_asked.Goals as goal

pub returns-in-Ok-clause-asked : goal.returns-in-Ok-clause-asked
returns-in-Ok-clause-asked c = λ rest held.
    let s = c.args.session in
    let call = c.args.asked.now in
    let taken : takes c.args.target s ≡ true = search (rules, c.in-Ok.ensures.taken) in
    let stored = subst (λ (t : Session). StoresSession c.args.state.now c.store_session.new.state t) c.ask.ensures.session c.store_session.ensures in
    record {
      fault = c.counted.ensures.fault ∙ sym (fault_taken (nat_eq c.args.target OWN) (may_send (next_of Send s)) taken);
      stands = stored rest held.client.incomplete (still_allowed s.settings (asked c.args.target call c.args.timeout s).settings (asked_settings c.args.target call c.args.timeout s) held.settings.allowed);
      given = λ _. given_if_equal _ (asked_line (Some s.client.next) call) _ c.counted.result.count c.put_line.new.room c.in-Ok.ensures.line c.counted.ensures.count c.put_line.ensures.given;
    }

pub returns-in-Err-clause-asked : goal.returns-in-Err-clause-asked
returns-in-Err-clause-asked c = λ rest held.
    let s = c.args.session in
    let never : takes c.args.target s ≡ true → ⊥ = λ e. let bad : ⊥ = search (rules, c.in-Err.ensures.taken, e) in bad in
    let fault = fault_refused c.in-Err.why c.not_taken_number.result c.args.target (may_send (next_of Send s)) c.not_taken_number.ensures.not_now c.not_taken_number.ensures.own
    (same_error c.in-Err.why (c.args.target ≡ OWN) c.in-Err.ensures.own) never in
    record {
      fault = c.refused.ensures.fault ∙ fault.0;
      stands = never_asked c.args.target c.args.asked.now c.args.timeout s c.args.state.now rest never held;
      given = λ zero. absurd (fault.1 (sym c.refused.ensures.fault ∙ zero));
    }
