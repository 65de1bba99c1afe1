use Rattle.gc_texts.proofs.Common.{length, filter, AreValueFiles, is_value_item, value_items}
use Rattle.gc_texts.proofs.value_item.are_sound.Given as goal

-- all items that stand for values have their form exactly if those that are left do
abbrev pub invariant-loop-item : goal.invariant-loop-item
invariant-loop-item l =
    (AreValueFiles (filter is_value_item l.items) → AreValueFiles (value_items l.params))
    × (AreValueFiles (value_items l.params) → AreValueFiles (filter is_value_item l.items))

-- each that is taken leaves fewer
abbrev pub decreases-loop-item : goal.decreases-loop-item
decreases-loop-item l = length l.items
