-- Labels: what a station's text says that its rows show, beside what was asked and answered. This project's own.
use Rattle.gc_measuring.specs.Common.{are_new, are_columns, description_seen, HaveNames, escaped, TasksSeen}
use Rattle.std.specs.Prelude.{◌≡◌, ℕ, true, List, map}
use Rattle.std.specs.List.{AllByRecursion}
use Rattle.gc_measuring.specs.declared.labels.Labels.{Labels}
use Rattle.gc_texts.specs.declared.description.Description.{Description}
use Rattle.gc_texts.specs.declared.name.Name.{Name}

-- the names of targets, the descriptions of procedures that aren't in the table, and the names of the columns that these add
pub record LabelsSeen : Type 0 where
  pub names : List Name
  pub described : List Description
  pub columns : List (List ℕ)

-- labels, as they are seen
abbrev pub labels_seen : Labels → LabelsSeen
labels_seen labels = record { names = labels.names.items; described = labels.described.items; columns = map (λ n. n.items) labels.columns.items }

-- the labels of a text's rows
abbrev pub labels_of : TasksSeen → LabelsSeen
labels_of all = record { names = all.names; described = all.described; columns = map (λ n. n.items) all.columns }

-- the fields of a description have names, and may be the columns of one answer
pub record HasSoundFields (d : Description) : Type 0 where
  pub columns : are_columns (description_seen d).values ≡ true
  pub named : HaveNames (description_seen d).values

-- labels as those of a text are: the fields of each description are sound, none of the names of the columns that they add is that of another
-- column of a row, and escaping changes nothing in these names
pub record AreSound (labels : LabelsSeen) : Type 0 where
  pub each : AllByRecursion HasSoundFields labels.described
  pub new : are_new labels.columns ≡ true
  pub plain : map escaped labels.columns ≡ labels.columns
