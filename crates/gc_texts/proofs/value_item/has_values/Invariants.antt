use Rattle.gc_texts.proofs.Common.{◌≡◌, length, filter, is_value_item, value_items}
use Rattle.gc_texts.proofs.value_item.has_values.Given as goal

-- the items that stand for values are among those that are left
abbrev pub invariant-loop-item : goal.invariant-loop-item
invariant-loop-item l = value_items l.params ≡ filter is_value_item l.items

-- each that is taken leaves fewer
abbrev pub decreases-loop-item : goal.decreases-loop-item
decreases-loop-item l = length l.items
