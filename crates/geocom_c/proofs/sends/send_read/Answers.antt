use Rattle.geocom_c.proofs.Common.{◌∙◌, refl, sym, subst, arith, Asked, Windowed, sends, SendMeets, kept_bytes, same_Some, effect}
use Rattle.geocom_c.proofs.Answering.{none_left_at_eight, some_left_below_eight}
use Rattle.geocom_c.proofs.Sendings.{never_above_full, never_both, one_error_of, one_value_of}
use Rattle.geocom_c.proofs.sends.send_read.Goals as goal

pub returns-in_default-clause-sends : goal.returns-in_default-clause-sends
returns-in_default-clause-sends c =
    let room = c.if-line-lt-LINE_ROOM.false in
    let astray = c.load.ensures.none c.in_default.is in
    let fault = c.refused-in_default.ensures.fault in
    record {
      sent = λ _ c' rest x stands begun is. absurd (astray c' rest stands);
      refuses = λ _ c' rest e stands begun is. absurd (astray c' rest stands);
      begins = λ _ c' rest stands unbegun. absurd (astray c' rest stands);
      begun = λ e. absurd (omega (arith, fault, e));
      room = (λ e. absurd (omega (arith, fault, e)), λ short. absurd (omega (arith, room, short)));
      astray = (λ _. (room, astray), λ _. fault);
      full = λ e. absurd (omega (arith, fault, e));
      done = λ e. absurd (omega (arith, fault, e));
      refusal = λ of_request. absurd (of_request.3 fault);
      refused = λ _. (c.refused-in_default.ensures.count, refl, refl);
      answered = refl;
      written = record { untouched = refl; length = refl };
    }

pub returns-then-not-has_begun-clause-sends : goal.returns-then-not-has_begun-clause-sends
returns-then-not-has_begun-clause-sends c =
    let room = c.if-line-lt-LINE_ROOM.false in
    let left = some_left_below_eight c.args.state.now.answered c.if-not-has_begun.true in
    let fault = c.refused-then-not-has_begun.ensures.fault in
    record {
      sent = λ _ c' rest x stands begun is. absurd (left begun);
      refuses = λ _ c' rest e stands begun is. absurd (left begun);
      begins = λ _ c' rest stands unbegun. fault;
      begun = λ _. left;
      room = (λ e. absurd (omega (arith, fault, e)), λ short. absurd (omega (arith, room, short)));
      astray = (λ e. absurd (omega (arith, fault, e)), λ both. absurd (both.1 _ _ c.in-Some.ensures.found));
      full = λ e. absurd (omega (arith, fault, e));
      done = λ e. absurd (omega (arith, fault, e));
      refusal = λ of_request. absurd (of_request.4 fault);
      refused = λ _. (c.refused-then-not-has_begun.ensures.count, refl, refl);
      answered = refl;
      written = record { untouched = refl; length = refl };
    }

pub returns-in-Ok-clause-sends : goal.returns-in-Ok-clause-sends
returns-in-Ok-clause-sends c =
    let room = c.if-line-lt-LINE_ROOM.false in
    let client = c.in-Some.client in
    let asked = c.in-Ok.asked in
    let begun = none_left_at_eight c.args.state.now.answered c.if-not-has_begun.false in
    let s = effect c.args.state.now c.send_asked.new.state c.args.line.now c.send_asked.new.line c.send_asked.result in
    let either = c.send_asked.ensures.either in
    record {
      sent = λ _ c' rest x stands _ is.
          subst (λ (a : Asked). SendMeets c' rest a (sends c'.width c'.ids c.args.target a c.args.deadline) s) (one_value_of c.args.read asked x c.in-Ok.is is)
          (subst (λ (d : Windowed Asked). SendMeets d rest asked (sends d.width d.ids c.args.target asked c.args.deadline) s)
          (same_Some client c' (sym c.in-Some.is ∙ c.load.ensures.only c' rest stands))
          (c.send_asked.ensures.sent rest stands.incomplete stands.head.answered));
      refuses = λ _ c' rest e stands _ is. absurd (never_both c.args.read asked e c.in-Ok.is is);
      begins = λ _ c' rest stands unbegun. absurd (unbegun begun);
      begun = λ e. absurd (never_above_full _ _ either (omega arith) e);
      room = (λ e. absurd (never_above_full _ _ either (omega arith) e), λ short. absurd (omega (arith, room, short)));
      astray = (λ e. absurd (never_above_full _ _ either (omega arith) e), λ both. absurd (both.1 _ _ c.in-Some.ensures.found));
      full = λ e. record {
        client = client;
        rest = kept_bytes c.args.state.now.rest;
        asked = asked;
        stands = c.in-Some.ensures.found;
        begun = begun;
        is = c.in-Ok.is;
        fills = c.send_asked.ensures.full e;
      };
      done = λ e. record {
        client = client;
        rest = kept_bytes c.args.state.now.rest;
        asked = asked;
        stands = c.in-Some.ensures.found;
        begun = begun;
        is = c.in-Ok.is;
        fills = c.send_asked.ensures.done e;
      };
      refusal = λ of_request. absurd (of_request.1 (either of_request.0));
      refused = c.send_asked.ensures.refused;
      answered = c.send_asked.ensures.answered;
      written = c.send_asked.ensures.written;
    }

pub returns-in-Err-clause-sends : goal.returns-in-Err-clause-sends
returns-in-Err-clause-sends c =
    let room = c.if-line-lt-LINE_ROOM.false in
    let begun = none_left_at_eight c.args.state.now.answered c.if-not-has_begun.false in
    let fault = c.refused-in-Err.ensures.fault in
    let of_request = c.requires c.in-Err.fault c.in-Err.is in
    record {
      sent = λ _ c' rest x stands _ is. absurd (never_both c.args.read x c.in-Err.fault is c.in-Err.is);
      refuses = λ _ c' rest e stands _ is. fault ∙ one_error_of c.args.read c.in-Err.fault e c.in-Err.is is;
      begins = λ _ c' rest stands unbegun. absurd (unbegun begun);
      begun = λ e. absurd (of_request.4 (sym fault ∙ e));
      room = (λ e. absurd (of_request.2 (sym fault ∙ e)), λ short. absurd (omega (arith, room, short)));
      astray = (λ e. absurd (of_request.3 (sym fault ∙ e)), λ both. absurd (both.1 _ _ c.in-Some.ensures.found));
      full = λ e. absurd (of_request.1 (sym fault ∙ e));
      done = λ e. absurd (of_request.0 (sym fault ∙ e));
      refusal = λ _. (c.in-Err.fault, c.in-Err.is, fault);
      refused = λ _. (c.refused-in-Err.ensures.count, refl, refl);
      answered = refl;
      written = record { untouched = refl; length = refl };
    }
