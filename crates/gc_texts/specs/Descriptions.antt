-- Descriptions of procedures that aren't in the table: this project's own.
use Rattle.gc_texts.specs.Common.{list_any, IsNoProcedure}
use Rattle.std.specs.Prelude.{◌≡◌, ◌≤◌, ◌==◌, ℕ, Bool, true, false, List, [], ◌∷◌, ◌++◌, length, map, find, Option, codes}
use Rattle.gc_texts.specs.ColumnNames.{are_columns}
use Rattle.gc_texts.specs.Fields.{FieldSeen, HaveNames, field_seen, field_words, words_from}
use Rattle.gc_texts.specs.KindLists.{KindsSeen, kinds_of_fields}
use Rattle.gc_texts.specs.Procedures.{IsRpc}
use Rattle.gc_texts.specs.WordLists.{words_of}
use Rattle.gc_texts.specs.declared.description.Description.{Description}
use Rattle.gc_texts.specs.declared.field.Stop.{Stop}
use Rattle.gc_texts.specs.declared.field.Stop.TheVariants.{Arrow}

-- what is said of a procedure: its number, its parameters, the columns of its answer, and whether further values may follow these
pub record DescriptionSeen : Type 0 where
  pub rpc : ℕ
  pub params : List FieldSeen
  pub values : List FieldSeen
  pub more : Bool

-- a description of the code as `DescriptionSeen`
abbrev pub description_seen : Description → DescriptionSeen
description_seen d = record { rpc = d.rpc; params = map field_seen d.params.items; values = map field_seen d.values.items; more = d.more }

-- the last word of a description: `..` where further values may follow, and none where they may not
abbrev pub last_word : (more : Bool) → List (List ℕ)
last_word true = codes ".." ∷ []
last_word false = []

-- whether a list of fields ends with `->`
abbrev pub is_arrow : Stop → Bool
is_arrow Arrow = true
is_arrow _ = false

-- a list of fields that ends so, with these words behind its end, is the last of a description
abbrev pub IsEnd : Stop → (rest : List (List ℕ)) → (more : Bool) → Type 0
IsEnd stop rest more = words_from stop rest ≡ last_word more

-- a list of fields that ends so, with these words behind its end, isn't the last of a description
abbrev pub IsNoEnd : Stop → (rest : List (List ℕ)) → Type 0
IsNoEnd stop rest = (more : Bool) → IsEnd stop rest more → ⊥

-- these are fields of a description: at most 16, each with a name
pub record AreFields (fields : List FieldSeen) : Type 0 where
  pub named : HaveNames fields
  pub few : length fields ≤ 16

-- the words are those of these parameters, then `->`, and then `rest`
pub record EndsParameters (words : List (List ℕ)) (params : List FieldSeen) (rest : List (List ℕ)) : Type 0 where
  pub words_are : words ≡ field_words params ++ codes "->" ∷ rest
  pub are : AreFields params

-- the words don't begin with parameters and `->`
abbrev pub IsNoParameters : List (List ℕ) → Type 0
IsNoParameters words = (params : List FieldSeen) (rest : List (List ℕ)) → EndsParameters words params rest → ⊥

-- the words are those of these columns, which may be columns of one answer, and the last word of a description
pub record EndsColumns (words : List (List ℕ)) (values : List FieldSeen) (more : Bool) : Type 0 where
  pub words_are : words ≡ field_words values ++ last_word more
  pub are : AreFields values
  pub columns : are_columns values ≡ true

-- the words aren't columns and the last word of a description
abbrev pub IsNoColumns : List (List ℕ) → Type 0
IsNoColumns words = (values : List FieldSeen) (more : Bool) → EndsColumns words values more → ⊥

-- the text is `RPC NAME KIND .. -> COLUMN KIND ..` with one space between two words: a number that no procedure of the table has, the
-- parameters, and the columns; and a last word `..` where further values may follow
pub record IsDescription (text : List ℕ) (d : DescriptionSeen) : Type 0 where
  pub number : List ℕ
  pub words_are : words_of text ≡ number ∷ (field_words d.params ++ codes "->" ∷ (field_words d.values ++ last_word d.more))
  pub number_is : IsRpc number d.rpc
  pub outside : IsNoProcedure d.rpc
  pub params_are : AreFields d.params
  pub values_are : AreFields d.values
  pub columns : are_columns d.values ≡ true

-- the kinds of the parameters of a described procedure: a request has just as many
abbrev pub kinds_asked : Description → KindsSeen
kinds_asked d = record { kinds = kinds_of_fields (map field_seen d.params.items); more = false }

-- the description of the procedure with this number among these, if there is one: the first
abbrev pub described_as : (rpc : ℕ) → List Description → Option Description
described_as rpc described = find (λ d. d.rpc == rpc) described

-- whether one of these describes the procedure with this number
abbrev pub is_described : (rpc : ℕ) → List Description → Bool
is_described rpc described = list_any (λ d. d.rpc == rpc) described
