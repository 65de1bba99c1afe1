use Rattle.geocom_instrument_c.proofs.Common.{rules, ap, lent_seen}
use Rattle.geocom_instrument_c.proofs.Cases.{unanswered, answered}
use Rattle.geocom_instrument_c.proofs.bench.answer.Goals as goal

pub returns-then-not-hear : goal.returns-then-not-hear
returns-then-not-hear c =
    unanswered c.args.slow.now c.hear.new.self (lent_seen c.args.frame) c.in-Line.line.now c.new-text.result.items c.hear.new.out.items c.args.now c.args.used c.without_reply-then-not-hear.result
    (ap (λ f. lent_seen f) c.in-Line.is) c.if-not-hear.ensures.heard c.without_reply-then-not-hear.ensures

pub returns : goal.returns
returns c =
    answered c.args.slow.now c.hear.new.self (lent_seen c.args.frame) c.in-Line.line.now c.new-text.result.items c.hear.new.out.items c.args.now c.args.used c.sent.result
    (ap (λ f. lent_seen f) c.in-Line.is) c.as_slice.result.now c.if-not-hear.ensures.heard (search rules) (search rules) (search rules)
