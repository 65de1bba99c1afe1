-- Laws of descriptions of procedures: this project's own, as descriptions are.
use Rattle.gc_texts.specs.Common.{IsNoProcedure, AreParams, IsListFault, kinds_of, ValueFault, Kind, Value}
use Rattle.std.specs.Prelude.{◌≡◌, ℕ, false, true, List, [], ◌∷◌, ◌++◌, codes}
use Rattle.gc_texts.specs.ColumnNames.{are_columns, is_column}
use Rattle.gc_texts.specs.Descriptions.{AreFields, DescriptionSeen, IsDescription, last_word}
use Rattle.gc_texts.specs.Fields.{field_words, is_field_name}
use Rattle.gc_texts.specs.KindLists.{AreOfKinds, IsKindsFault, KindsSeen}
use Rattle.gc_texts.specs.Procedures.{IsRpc}
use Rattle.gc_texts.specs.WordLists.{words_of}
use Rattle.gc_values.specs.declared.value.Kind.TheVariants as kind

-- kinds of a list that has no more items than kinds
abbrev pub closed_kinds : List Kind → KindsSeen
closed_kinds ks = record { kinds = ks; more = false }

-- where no more items may follow, parameters are refused with the fault that those of a procedure of the table with these kinds have, and
-- any others are read as values of these kinds
pub record AreCheckedAsTheTables : Type 0 where
  pub faults : (ks : List Kind) (params : List ℕ) (e : ValueFault) → IsKindsFault (closed_kinds ks) params e → IsListFault ks params e
  pub values : (ks : List Kind) (params : List ℕ) (vs : List Value) → AreOfKinds (closed_kinds ks) params vs → AreParams params vs × (kinds_of vs ≡ ks)

-- words with one space between two
abbrev pub spaced : List (List ℕ) → List ℕ
spaced [] = []
spaced (word ∷ []) = word
spaced (word ∷ next ∷ words) = word ++ 32 ∷ spaced (next ∷ words)

-- the text of a description, whose procedure's number is written so
abbrev pub description_text : (number : List ℕ) → DescriptionSeen → List ℕ
description_text number d = spaced (number ∷ (field_words d.params ++ codes "->" ∷ (field_words d.values ++ last_word d.more)))

-- what is said of a procedure may be said: the table hasn't the procedure, fields have names, and values may have their columns
pub record IsAllowed (d : DescriptionSeen) : Type 0 where
  pub outside : IsNoProcedure d.rpc
  pub params_are : AreFields d.params
  pub values_are : AreFields d.values
  pub columns : are_columns d.values ≡ true

-- the text of what may be said of a procedure is a description of it
abbrev pub DescriptionsReadBack : Type 0
DescriptionsReadBack = (number : List ℕ) (d : DescriptionSeen) → IsRpc number d.rpc → IsAllowed d → IsDescription (description_text number d) d

-- a text describes one procedure at most, in one way
abbrev pub OneDescription : Type 0
OneDescription = (text : List ℕ) (one other : DescriptionSeen) → IsDescription text one → IsDescription text other → one ≡ other

-- worked examples of names and columns
pub record ColumnExamples : Type 0 where
  pub new_name : is_field_name (codes "battery_percent") ≡ true
  pub capital : is_field_name (codes "Hz") ≡ false
  pub digit_first : is_field_name (codes "2nd") ≡ false
  pub no_name : is_field_name [] ≡ false
  pub known : is_column (record { name = codes "hz_rad"; kind = kind.Double }) ≡ true
  pub known_as_another_kind : is_column (record { name = codes "hz_rad"; kind = kind.Long }) ≡ false
  pub new : is_column (record { name = codes "cross_rad"; kind = kind.Double }) ≡ true
  pub of_the_row : is_column (record { name = codes "time"; kind = kind.Text }) ≡ false
  pub name_of_json : is_column (record { name = codes "hz_rad_text"; kind = kind.Text }) ≡ false
  pub twice : are_columns (record { name = codes "cross_rad"; kind = kind.Double } ∷ record { name = codes "cross_rad"; kind = kind.Double } ∷ []) ≡ false
  pub words : words_of (codes "11003 -> cross_rad Double ..") ≡ codes "11003" ∷ codes "->" ∷ codes "cross_rad" ∷ codes "Double" ∷ codes ".." ∷ []
