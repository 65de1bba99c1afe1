use Rattle.gc_texts.proofs.Common.{sym, ◌∙◌}
use Rattle.gc_texts.proofs.DatedPaths.{date_behind, date_here, date_last, date_none, date_other, of_none}
use Rattle.gc_texts.proofs.Items.{no_bytes}
use Rattle.gc_texts.proofs.dated_path.has_date.Goals as goal

pub returns-then-is_date_letter : goal.returns-then-is_date_letter
returns-then-is_date_letter c =
    date_here _ _ _ _ _ _ c.loop-first.invariant c.in-Some.ensures.cases.0 c.in-Some-split_first.ensures.cases.0 c.if-first-eq37.true
    (sym c.is_date_letter.ensures ∙ c.if-is_date_letter.true)

pub loop-first-preserved-else-is_date_letter : goal.loop-first-preserved-else-is_date_letter
loop-first-preserved-else-is_date_letter c =
    date_behind _ _ _ _ _ _ c.loop-first.invariant c.in-Some.ensures.cases.0 c.in-Some-split_first.ensures.cases.0 c.if-first-eq37.true
    (sym c.is_date_letter.ensures ∙ c.if-is_date_letter.false)

pub loop-first-preserved-in_default-split_first : goal.loop-first-preserved-in_default-split_first
loop-first-preserved-in_default-split_first c =
    date_other _ _ _ _ c.loop-first.invariant c.in-Some.ensures.cases.0 c.if-first-eq37.false

pub loop-first-preserved : goal.loop-first-preserved
loop-first-preserved c = date_last _ _ _ _ c.loop-first.invariant c.in-Some.ensures.cases.0
    (no_bytes _ (of_none _ _ _ c.split_first-in-Some.ensures.cases c.in_default-split_first.is))

pub returns : goal.returns
returns c = date_none _ _ c.loop-first.invariant (no_bytes _ c.in_default.ensures.cases)
