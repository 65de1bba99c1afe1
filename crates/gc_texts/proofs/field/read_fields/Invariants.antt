use Rattle.gc_texts.proofs.Common.{length, map, field_seen}
use Rattle.gc_texts.proofs.FieldForms.{FieldsSoFar}
use Rattle.gc_texts.proofs.field.read_fields.Given as goal

-- the fields so far were read of the words
abbrev pub invariant-loop-name : goal.invariant-loop-name
invariant-loop-name l = FieldsSoFar l.fn.words (map field_seen l.fields.items) l.words

-- each field that is read leaves fewer words
abbrev pub decreases-loop-name : goal.decreases-loop-name
decreases-loop-name l = length l.words
