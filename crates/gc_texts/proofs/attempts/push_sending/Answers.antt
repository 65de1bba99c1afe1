use Rattle.gc_texts.proofs.Common.{rules, ◌≡◌, ◌<◌, [], ◌∷◌, ◌++◌, length, ap, ◌∙◌, in_attempt}
use Rattle.gc_texts.proofs.SentAs.{sent_one_more}
use Rattle.gc_texts.proofs.attempts.push_sending.Goals as goal

pub loop-nth-preserved : goal.loop-nth-preserved
loop-nth-preserved c =
    let made = in_attempt c.args.attempt.number c.args.attempt.again c.args.attempt.commands in
    let below : c.loop-nth.nth < length c.args.chain.now = search rules in
    let more : c.push_reserved.new.self.items ≡ c.loop-nth.tasks.items ++ c.in_attempt.result ∷ [] = search rules in
    more ∙ sent_one_more made c.args.sending c.args.chain.now c.loop-nth.nth c.index-chain-nth.result c.args.tasks.now.items c.loop-nth.tasks.items c.in_attempt.result below c.index-chain-nth.is
    c.loop-nth.invariant (c.in_attempt.ensures ∙ ap made c.sent_as.ensures)
