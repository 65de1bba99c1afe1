use Rattle.gc_texts.proofs.Common.{◌+◌, ◌-◌, length, take, drop, length-drop, arith, take_all}
use Rattle.gc_texts.proofs.Cutting.{found_mark_cuts, missing_mark_cuts}
use Rattle.gc_texts.proofs.cuts.cut_at.Goals as goal

pub returns-in-Some : goal.returns-in-Some
returns-in-Some c =
    let text = c.args.text.now in
    let i = c.in-Some.i in
    let rest = drop (i + 1) text in
    found_mark_cuts c.args.mark text i (take (length text - (i + 1)) rest) c.in-Some.ensures (take_all (length text - (i + 1)) rest (omega (arith, length-drop (i + 1) text)))

pub returns-in-None : goal.returns-in-None
returns-in-None c = missing_mark_cuts c.args.mark c.args.text.now c.in-None.ensures
