use Rattle.gc_rehearsal.proofs.Common.{rules, subst, sym, IsLasting, IsShare, Frequency}
use Rattle.gc_rehearsal.proofs.rule.read_lasting.Goals as goal

pub returns-in_err-share : goal.returns-in_err-share
returns-in_err-share c =
    let none : (frequency : Frequency) → IsLasting c.args.text.now frequency → ⊥ =
    λ frequency is. c.in_err-share.ensures frequency.share (subst (λ word. IsShare word frequency.share) (sym c.front_word.ensures) is.share) in
    search rules
