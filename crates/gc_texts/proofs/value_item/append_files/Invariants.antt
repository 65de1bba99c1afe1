use Rattle.gc_texts.proofs.Common.{length, filter, is_value_item, value_items}
use Rattle.gc_texts.proofs.ValueForms.{FilesAdded}
use Rattle.gc_texts.proofs.value_item.append_files.Given as goal

-- the files of the items so far were appended
abbrev pub invariant-loop-item : goal.invariant-loop-item
invariant-loop-item l = FilesAdded (value_items l.params) l.initial.files.items l.files.items (filter is_value_item l.items)

-- each that is taken leaves fewer
abbrev pub decreases-loop-item : goal.decreases-loop-item
decreases-loop-item l = length l.items
