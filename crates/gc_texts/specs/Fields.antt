-- The fields of a described procedure, each a name and a kind, and the words that say them: this project's own.
use Rattle.gc_texts.specs.Common.{AllByRecursion, list_all, Kind}
use Rattle.std.specs.Prelude.{◌≡◌, ◌≤◌, ◌==◌, ◌&&◌, ◌||◌, ℕ, Bool, true, false, nat_lt, List, [], ◌∷◌, ◌++◌, length, codes}
use Rattle.gc_texts.specs.declared.field.Field.{Field}
use Rattle.gc_texts.specs.declared.field.Stop.{Stop}
use Rattle.gc_texts.specs.declared.field.Stop.TheVariants.{End, Arrow, More}
use Rattle.gc_values.specs.declared.value.Kind.TheVariants as kind

-- whether a byte is a small letter
abbrev pub is_small_letter : ℕ → Bool
is_small_letter b = nat_lt 96 b && nat_lt b 123

-- whether a name may have a byte after its first: a small letter, a digit or `_`
abbrev pub is_name_byte : ℕ → Bool
is_name_byte b = is_small_letter b || (nat_lt 47 b && nat_lt b 58) || (b == 95)

-- whether a word is a name: a small letter, and then small letters, digits and `_`; at most 32 bytes
abbrev pub is_field_name : List ℕ → Bool
is_field_name [] = false
is_field_name (b ∷ bs) = is_small_letter b && nat_lt (length bs) 32 && list_all is_name_byte bs

-- the word of each kind
abbrev pub kind_word : Kind → List ℕ
kind_word kind.Double = codes "Double"
kind_word kind.Long = codes "Long"
kind_word kind.Short = codes "Short"
kind_word kind.Byte = codes "Byte"
kind_word kind.Bool = codes "Boolean"
kind_word kind.Text = codes "String"

-- a field: its name and its kind
pub record FieldSeen : Type 0 where
  pub name : List ℕ
  pub kind : Kind

-- a field of the code as `FieldSeen`
abbrev pub field_seen : Field → FieldSeen
field_seen f = record { name = f.name.items; kind = f.kind }

-- the words of fields: of each its name and its kind
abbrev pub field_words : List FieldSeen → List (List ℕ)
field_words [] = []
field_words (f ∷ fs) = f.name ∷ kind_word f.kind ∷ field_words fs

-- each of these fields has a name
abbrev pub HaveNames : List FieldSeen → Type 0
HaveNames fields = AllByRecursion (λ f. is_field_name f.name ≡ true) fields

-- the words from the end of a list of fields on, of which `rest` are behind the word that ends it
abbrev pub words_from : Stop → (rest : List (List ℕ)) → List (List ℕ)
words_from End rest = []
words_from Arrow rest = codes "->" ∷ rest
words_from More rest = codes ".." ∷ rest

-- the words are those of these fields, at most 16, and then those from the end of their list on
pub record EndsFields (words : List (List ℕ)) (fields : List FieldSeen) (stop : Stop) (rest : List (List ℕ)) : Type 0 where
  pub words_are : words ≡ field_words fields ++ words_from stop rest
  pub named : HaveNames fields
  pub few : length fields ≤ 16

-- the words don't begin with a list of at most 16 fields and its end
abbrev pub IsNoFieldList : List (List ℕ) → Type 0
IsNoFieldList words = (fields : List FieldSeen) (stop : Stop) (rest : List (List ℕ)) → EndsFields words fields stop rest → ⊥

-- the field has this name, which is one, and the words begin with its kind, behind which `new` are
pub record ReadsField (name : List ℕ) (words : List (List ℕ)) (field : FieldSeen) (new : List (List ℕ)) : Type 0 where
  pub words_are : words ≡ kind_word field.kind ∷ new
  pub name_is : field.name ≡ name
  pub named : is_field_name name ≡ true

-- `name` is no name of a field, or the words don't begin with a kind
abbrev pub IsNoField : (name : List ℕ) → (words : List (List ℕ)) → Type 0
IsNoField name words = (field : FieldSeen) (new : List (List ℕ)) → ReadsField name words field new → ⊥
