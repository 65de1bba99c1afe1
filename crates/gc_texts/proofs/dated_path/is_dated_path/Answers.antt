use Rattle.gc_texts.proofs.Common.{sym, ◌∙◌}
use Rattle.gc_texts.proofs.DatedPaths.{formed_behind, formed_last, formed_not, formed_other, formed_whole}
use Rattle.gc_texts.proofs.Items.{no_bytes}
use Rattle.gc_texts.proofs.dated_path.is_dated_path.Goals as goal

pub returns-then-not-is_letter : goal.returns-then-not-is_letter
returns-then-not-is_letter c =
    formed_not _ _ _ _ _ _ c.loop-first.invariant c.in-Some.ensures.cases.0 c.in-Some-split_first.ensures.cases.0 c.if-first-eq37.true
    (sym c.is_letter.ensures ∙ c.if-not-is_letter.true)

pub returns-in-None : goal.returns-in-None
returns-in-None c = formed_last _ _ _ _ c.loop-first.invariant c.in-Some.ensures.cases.0 (no_bytes _ c.in-None.ensures.cases) c.if-first-eq37-2.true

pub loop-first-preserved-else-not-is_letter : goal.loop-first-preserved-else-not-is_letter
loop-first-preserved-else-not-is_letter c =
    formed_behind _ _ _ _ _ _ c.loop-first.invariant c.in-Some.ensures.cases.0 c.in-Some-split_first.ensures.cases.0 c.if-first-eq37.true
    (sym c.is_letter.ensures ∙ c.if-not-is_letter.false)

pub loop-first-preserved-in_default-split_first : goal.loop-first-preserved-in_default-split_first
loop-first-preserved-in_default-split_first c =
    formed_other _ _ _ _ c.loop-first.invariant c.in-Some.ensures.cases.0 c.if-first-eq37.false

pub loop-first-preserved : goal.loop-first-preserved
loop-first-preserved c = formed_other _ _ _ _ c.loop-first.invariant c.in-Some.ensures.cases.0 c.if-first-eq37-2.false

pub returns : goal.returns
returns c = formed_whole _ _ c.loop-first.invariant (no_bytes _ c.in_default.ensures.cases)
