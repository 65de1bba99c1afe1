use Rattle.gc_rehearsal.proofs.Common.{ℕ, ap, rules, option_copied, IsShare}
use Rattle.gc_rehearsal.proofs.ShareForms.{parts_of_share, no_parts_without_whole, no_parts_without_places, no_parts_above_100}
use Rattle.gc_rehearsal.proofs.share.read_share.Goals as goal

pub returns-in_err-whole : goal.returns-in_err-whole
returns-in_err-whole c =
    let none : (n : ℕ) → IsShare c.args.word.now n → ⊥ =
    λ n is. no_parts_without_whole c.cut_at.result.0.now (option_copied c.cut_at.result.1) n c.in_err-whole.ensures
    (parts_of_share c.args.word.now c.cut_at.result.0.now (option_copied c.cut_at.result.1) n c.cut_at.ensures is) in
    search rules

pub returns-in_err-thousandths : goal.returns-in_err-thousandths
returns-in_err-thousandths c =
    let none : (n : ℕ) → IsShare c.args.word.now n → ⊥ =
    λ n is. no_parts_without_places c.cut_at.result.0.now (option_copied c.cut_at.result.1) c.in-Some.places.now n (ap option_copied c.in-Some.is) c.in_err-thousandths.ensures
    (parts_of_share c.args.word.now c.cut_at.result.0.now (option_copied c.cut_at.result.1) n c.cut_at.ensures is) in
    search rules

pub returns-then-share-gt-WHOLE : goal.returns-then-share-gt-WHOLE
returns-then-share-gt-WHOLE c n is =
    no_parts_above_100 c.cut_at.result.0.now (option_copied c.cut_at.result.1) c.in-Some.places.now c.in_ok-whole.whole c.in_ok-thousandths.thousandths n (ap option_copied c.in-Some.is)
    c.in_ok-whole.ensures c.in_ok-thousandths.ensures c.if-share-gt-WHOLE.true
    (parts_of_share c.args.word.now c.cut_at.result.0.now (option_copied c.cut_at.result.1) n c.cut_at.ensures is)
