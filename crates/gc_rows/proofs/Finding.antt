-- What a reader gets under a name in a row or an object of cells is what the cell of this name holds: two lemmas, one for each fold, by
-- the kinds of content. A member is a name with its value; of members with one name the last is found.
use Rattle.gc_rows.proofs.Common.{◌≡◌, ◌++◌, ◌∷◌, ◌∙◌, [], ℕ, ◌+◌, List, Bool, Option, Some, None, true, false, cond, inl, inr, if◌then◌else◌, refl, sym, ap, subst, map, ◌||◌, ◌&&◌, codes, not, bytes_eq, and_parts, cases_Bool, not-true, or_parts, bytes_eq-Decides, get_member, later_or, Value, before, behind, escaped, IsSmallNumber, Blank, Bytes, Cell, Code, Content, Items, Moment, Quantity, Whole, cell, field_of, fields_of, lookup, members_in, members_of, names_of, Column, Entry, cells_from, cells_in, value_cells, Member, Text, Number, Texts, members_read, texts_read, IsShown, is_among, is_apart, is_single, text_of, under, names_from, names_if, quantity_name, quantity_text}
use Rattle.gc_rows.proofs.Plain.{boolean_plain, code_plain, decimal_plain, double_plain, signed_plain, stamp_plain, zeros_gone}
use Rattle.json.specs.Json as json
use Rattle.gc_values.specs.declared.value.Value.TheVariants as value

-- A row.

-- the field of a cell, as a reader of the row gives it, shows what the cell holds
field_shown : (content : Content) → IsShown content (escaped (field_of content))
field_shown Blank = refl
field_shown (Bytes bytes) = refl
field_shown (Moment utc) = stamp_plain utc
field_shown (Whole n) = decimal_plain n
field_shown (Code digits) = λ n is. subst (λ l. IsSmallNumber l n) (sym (code_plain digits n is)) is
field_shown (Quantity v came) = refl
field_shown (Items items) = refl

-- under each name a row shows what the first cell of this name holds
pub row_lookup : (key : List ℕ) (cells : List Cell) → IsShown (lookup key cells) (under key (names_of cells) (map escaped (fields_of cells)))
row_lookup key [] = refl
row_lookup key (c ∷ cells) = elim (cases_Bool (bytes_eq c.name key)) [
  | inl same ↦ rw same (field_shown c.content)
  | inr other ↦ rw other (row_lookup key cells)
]

-- An object.

-- what is found under a name among members
abbrev pub find : List ℕ → List Member → Option json.Json
find key ms = get_member key (members_read ms)

-- `later_or` takes its first argument, the later of two results of a search, if something was found there, and else its second
-- one, the earlier. Where there is no earlier one, it gives the later
later_none : (o : Option json.Json) → o ≡ later_or o None
later_none None = refl
later_none (Some j) = refl

-- `later_or` is associative
later_three : (a b c : Option json.Json) → later_or (later_or a b) c ≡ later_or a (later_or b c)
later_three None b c = refl
later_three (Some j) b c = refl

-- what is found under a name among two lists of members, joined, is what is found among the second, `ys`, if it is there, and
-- else what is found among the first
find_both : (key : List ℕ) (xs ys : List Member) → find key (xs ++ ys) ≡ later_or (find key ys) (find key xs)
find_both key [] ys = later_none (find key ys)
find_both key (Text name bytes ∷ xs) ys =
    let this = cond (bytes_eq name key) (Some (json.string (escaped bytes))) None in
    ap (λ (o : Option json.Json). later_or o this) (find_both key xs ys) ∙ later_three (find key ys) (find key xs) this
find_both key (Number name digits ∷ xs) ys =
    let this = cond (bytes_eq name key) (Some (json.number digits)) None in
    ap (λ (o : Option json.Json). later_or o this) (find_both key xs ys) ∙ later_three (find key ys) (find key xs) this
find_both key (Texts name texts ∷ xs) ys =
    let this = cond (bytes_eq name key) (Some (json.array (texts_read texts))) None in
    ap (λ (o : Option json.Json). later_or o this) (find_both key xs ys) ∙ later_three (find key ys) (find key xs) this

module _ (key name : List ℕ) (text : bytes_eq (name ++ codes "_text") key ≡ false) where
  -- a cell of another name has no member of this one
  missing : (content : Content) → bytes_eq name key ≡ false → find key (members_in name content) ≡ None
  missing Blank other = refl
  missing (Bytes bytes) other = rw other refl
  missing (Moment utc) other = rw other refl
  missing (Whole n) other = rw other refl
  missing (Code digits) other = rw other refl
  missing (Quantity (value.Double d) came) other = rw (other, text) refl
  missing (Quantity (value.Long n) came) other = rw (other, text) refl
  missing (Quantity (value.Short n) came) other = rw (other, text) refl
  missing (Quantity (value.Byte n) came) other = rw (other, text) refl
  missing (Quantity (value.Bool b) came) other = rw (other, text) refl
  missing (Quantity (value.Text bytes) came) other = rw other refl
  missing (Items items) other = rw other refl

  -- the member of a cell, as a reader gives it, shows what the cell holds
  member_shown : (content : Content) → bytes_eq name key ≡ true → IsShown content (text_of (find key (members_in name content)))
  member_shown Blank same = refl
  member_shown (Bytes bytes) same = rw same refl
  member_shown (Moment utc) same = rw same (stamp_plain utc)
  member_shown (Whole n) same = rw same refl
  member_shown (Code digits) same = rw same (zeros_gone digits)
  member_shown (Quantity (value.Double d) came) same = rw (same, text) (sym (double_plain d))
  member_shown (Quantity (value.Long n) came) same = rw (same, text) (sym (signed_plain n))
  member_shown (Quantity (value.Short n) came) same = rw (same, text) (sym (signed_plain n))
  member_shown (Quantity (value.Byte n) came) same = rw (same, text) (sym (decimal_plain n))
  member_shown (Quantity (value.Bool b) came) same = rw (same, text) (sym (boolean_plain b))
  member_shown (Quantity (value.Text bytes) came) same = rw same refl
  member_shown (Items items) same = rw same refl

-- cells that are apart from a name have no member of it
none_found : (key : List ℕ) (cells : List Cell) → is_apart key (names_of cells) ≡ true → find key (members_of cells) ≡ None
none_found key [] is = refl
none_found key (c ∷ cells) is =
    let parts = and_parts (not (bytes_eq c.name key) && not (bytes_eq (c.name ++ codes "_text") key)) (is_apart key (names_of cells)) is in
    let names = and_parts (not (bytes_eq c.name key)) (not (bytes_eq (c.name ++ codes "_text") key)) parts.0 in
    find_both key (members_in c.name c.content) (members_of cells)
    ∙ ap (λ o. later_or o (find key (members_in c.name c.content))) (none_found key cells parts.1)
    ∙ missing key c.name (not-true _ names.1) c.content (not-true _ names.0)

-- under a name that at most one member has an object shows what the first cell of this name holds
pub object_lookup : (key : List ℕ) (cells : List Cell) → is_single key (names_of cells) ≡ true → IsShown (lookup key cells) (text_of (find key (members_of cells)))
object_lookup key [] is = refl
object_lookup key (c ∷ cells) is =
    let parts = and_parts (not (bytes_eq (c.name ++ codes "_text") key)) _ is in
    let text = not-true _ parts.0 in
    let here = find key (members_in c.name c.content) in
    let by_name : Bool → Bool = λ b. if b then is_apart key (names_of cells) else is_single key (names_of cells) in
    elim (cases_Bool (bytes_eq c.name key)) [
      | inl same ↦ rw same (
          let none : is_apart key (names_of cells) ≡ true = sym (ap by_name same) ∙ parts.1 in
          subst (λ o. IsShown c.content (text_of o))
          (sym (find_both key (members_in c.name c.content) (members_of cells) ∙ ap (λ o. later_or o here) (none_found key cells none)))
          (member_shown key c.name text c.content same))
      | inr other ↦ rw other (
          let single : is_single key (names_of cells) ≡ true = sym (ap by_name other) ∙ parts.1 in
          subst (λ o. IsShown (lookup key cells) (text_of o))
          (sym (find_both key (members_in c.name c.content) (members_of cells) ∙ ap (later_or (find key (members_of cells))) (missing key c.name text c.content other)
          ∙ sym (later_none (find key (members_of cells)))))
          (object_lookup key cells single))
    ]

-- Records.

-- the cells in some columns have the names of these columns
pub names_in : (columns : List Column) (r : Entry) → names_of (cells_in columns r) ≡ map (λ c. c.name) columns
names_in [] r = refl
names_in (c ∷ columns) r = ap (λ names. c.name ∷ names) (names_in columns r)

-- Quantities.

-- a name that isn't among those of the first cells is looked up in the others
pub lookup_behind : (key : List ℕ) (xs ys : List Cell) → is_among key (names_of xs) ≡ false → lookup key (xs ++ ys) ≡ lookup key ys
lookup_behind key [] ys none = refl
lookup_behind key (x ∷ xs) ys none =
    let parts = or_parts (bytes_eq x.name key) (is_among key (names_of xs)) none in
    ap (λ b. if b then x.content else lookup key (xs ++ ys)) parts.0 ∙ lookup_behind key xs ys parts.1

-- of cells that have these names, the one of a name holds what belongs to this name
pub lookup_among : (key : List ℕ) (names : List (List ℕ)) (holds : List ℕ → Content) (others : List Cell) → is_among key names ≡ true
    → lookup key (map (λ n. cell n (holds n)) names ++ others) ≡ holds key
lookup_among key [] holds others is = cc
lookup_among key (n ∷ names) holds others is = elim (cases_Bool (bytes_eq n key)) [
  | inl same ↦ rw same (ap holds ((bytes_eq-Decides n key).0 same))
  | inr other ↦ rw other (lookup_among key names holds others (sym (ap (λ b. b || is_among key names) other) ∙ is))
]

-- of the cells of values, what is shown under a name is the text, escaped, that has this name among the values' texts
values_shown : (key : List ℕ) (column : ℕ) (vs : List Value) (came shown : List ℕ) → IsShown (lookup key (value_cells column vs came)) shown
    → shown ≡ escaped (under key (names_from column vs) (map quantity_text vs))
values_shown key column [] came shown is = is
values_shown key column (v ∷ vs) came shown is =
    let by_name : Bool → Content = λ b. if b then Quantity v (before 44 came) else lookup key (value_cells (column + 1) vs (behind 44 came)) in
    elim (cases_Bool (bytes_eq (quantity_name column) key)) [
      | inl same ↦ rw same (subst (λ b. IsShown (by_name b) shown) same is)
      | inr other ↦ rw other (values_shown key (column + 1) vs (behind 44 came) shown
          (subst (λ b. IsShown (by_name b) shown) other is))
    ]

-- of the cells of values from a column on, if there is one, what is shown under a name is the text, escaped, that has this name
pub from_shown : (key : List ℕ) (column : Option ℕ) (vs : List Value) (came shown : List ℕ) → IsShown (lookup key (cells_from column vs came)) shown
    → shown ≡ escaped (under key (names_if column vs) (map quantity_text vs))
from_shown key (Some first) vs came shown is = values_shown key first vs came shown is
from_shown key None vs came shown is = is
