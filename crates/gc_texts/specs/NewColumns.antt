-- The columns that descriptions of procedures add to those of the table's quantities: this project's own.
use Rattle.gc_texts.specs.Common.{flat_map, list_all, list_any, bytes_eq, ArrayVec, Kind}
use Rattle.std.specs.Prelude.{ℕ, Bool, not, ◌&&◌, ◌||◌, List, [], ◌∷◌, ◌++◌, if◌then◌else◌}
use Rattle.gc_texts.specs.ColumnNames.{is_decimal, is_name_of_decimal, is_name_of_text, is_name_of_whole, is_text, is_whole}
use Rattle.gc_texts.specs.declared.description.Description.{Description}
use Rattle.gc_texts.specs.declared.field.Field.{Field}

-- whether a column of this name is none of the table's quantities
abbrev pub is_new_column : (name : List ℕ) → Bool
is_new_column name = not (is_name_of_decimal name) && not (is_name_of_whole name) && not (is_name_of_text name)

-- whether one of these columns has this name
abbrev pub has_column : List (ArrayVec ℕ) → (name : List ℕ) → Bool
has_column columns name = list_any (λ column. bytes_eq column.items name) columns

-- whether the name is of a new column that these don't have
abbrev pub is_fresh : List (ArrayVec ℕ) → (name : List ℕ) → Bool
is_fresh columns name = is_new_column name && not (has_column columns name)

-- the name of this field if it is a new column, and these columns lack it, as a list of one
abbrev pub fresh_name : List (ArrayVec ℕ) → Field → List (ArrayVec ℕ)
fresh_name columns f = if is_fresh columns f.name.items then f.name ∷ [] else []

-- the names of those fields that are new columns, and that these columns lack, in order
abbrev pub fresh_names : List (ArrayVec ℕ) → List Field → List (ArrayVec ℕ)
fresh_names columns fields = flat_map (fresh_name columns) fields

-- columns, and the new ones of these descriptions that these lack, in the order in which the descriptions first have them
abbrev pub with_columns : List (ArrayVec ℕ) → List Description → List (ArrayVec ℕ)
with_columns columns [] = columns
with_columns columns (d ∷ ds) = with_columns (columns ++ fresh_names columns d.values.items) ds

-- the new columns of these descriptions, in the order in which they first have them, each once
abbrev pub new_columns : List Description → List (ArrayVec ℕ)
new_columns described = with_columns [] described

-- whether values of two kinds are of one sort: decimals, whole numbers or texts
abbrev pub is_of_sort : Kind → Kind → Bool
is_of_sort kind other = if is_decimal kind then is_decimal other else if is_text kind then is_text other else is_whole other

-- whether two fields with one name are of one sort; two with different names always are
abbrev pub agrees_with : Field → Field → Bool
agrees_with field other = not (bytes_eq other.name.items field.name.items) || is_of_sort field.kind other.kind

-- whether each of these fields is of the same sort as those of the descriptions that have its name: decimals, whole numbers or texts
abbrev pub are_of_one_sort : List Description → List Field → Bool
are_of_one_sort described fields = list_all (λ field. list_all (λ d. list_all (agrees_with field) d.values.items) described) fields
