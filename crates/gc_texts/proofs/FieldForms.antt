-- Fields and their words: words say one list of fields at most. While a list is read, `words` are those that are left.
use Rattle.gc_texts.proofs.Common.{◌≡◌, ◌≤◌, ◌<◌, ◌+◌, ◌==◌, ℕ, true, false, List, [], ◌∷◌, ◌++◌, length, get_or, arith, refl, ap, subst, sym, ◌∙◌, codes, if◌then◌else◌, length_push, Kind, FieldSeen, EndsFields, HaveNames, IsNoField, IsNoFieldList, ReadsField, field_words, is_field_name, kind_word, words_from, Stop, End, Arrow, More}
use Rattle.std.proofs.Common.{length-append}
use Rattle.gc_values.specs.declared.value.Kind.TheVariants as kind

-- the kind that a word names, by its first byte and its length; of a word that names none, any
abbrev kind_by_bytes : List ℕ → Kind
kind_by_bytes word =
    if get_or word 0 0 == 68 then kind.Double else if get_or word 0 0 == 76 then kind.Long
    else if get_or word 0 0 == 66 then (if length word == 4 then kind.Byte else kind.Bool) else if length word == 5 then kind.Short else kind.Text

-- the word of a kind shows the kind
kind_shown : (k : Kind) → kind_by_bytes (kind_word k) ≡ k
kind_shown kind.Double = refl
kind_shown kind.Long = refl
kind_shown kind.Short = refl
kind_shown kind.Byte = refl
kind_shown kind.Bool = refl
kind_shown kind.Text = refl

-- two kinds with one word are the same
pub one_kind : (k l : Kind) → kind_word k ≡ kind_word l → k ≡ l
one_kind k l e = sym (kind_shown k) ∙ ap kind_by_bytes e ∙ kind_shown l

-- two fields with one name and one kind are the same
same_field : (f g : FieldSeen) → f.name ≡ g.name → f.kind ≡ g.kind → f ≡ g
same_field f g names kinds = λ i. record { name = names i; kind = kinds i }

-- a name is neither of the words that end a list of fields
name_is_no_arrow : (name : List ℕ) → is_field_name name ≡ true → name ≡ codes "->" → ⊥
name_is_no_arrow name named e = let both : false ≡ true = ap is_field_name (sym e) ∙ named in cc

name_is_no_dots : (name : List ℕ) → is_field_name name ≡ true → name ≡ codes ".." → ⊥
name_is_no_dots name named e = let both : false ≡ true = ap is_field_name (sym e) ∙ named in cc

-- a list of fields doesn't end with a name
end_is_no_name : (stop : Stop) (rest later : List (List ℕ)) (name : List ℕ) → is_field_name name ≡ true → words_from stop rest ≡ name ∷ later → ⊥
end_is_no_name End rest later name named e = cc
end_is_no_name Arrow rest later name named e = let same : codes "->" ≡ name = cc in name_is_no_arrow name named (sym same)
end_is_no_name More rest later name named e = let same : codes ".." ≡ name = cc in name_is_no_dots name named (sym same)

-- where words are those of the fields `gs` and the end of their list, and also those of the fields `fs`, then `word`, and then
-- `later`: the fields are the same, and `word` begins what is behind them; or `gs` has a further field behind `fs`, whose name is `word`
data Next (fs gs : List FieldSeen) (tail : List (List ℕ)) (word : List ℕ) (later : List (List ℕ)) : Type 0 where
  ends : gs ≡ fs → tail ≡ word ∷ later → Next fs gs tail word later
  goes_on : (f : FieldSeen) (hs : List FieldSeen) → gs ≡ fs ++ f ∷ hs → word ≡ f.name → later ≡ kind_word f.kind ∷ (field_words hs ++ tail) → Next fs gs tail word later

-- one field more at the front of both lists
next_behind : (f : FieldSeen) (fs gs : List FieldSeen) (tail : List (List ℕ)) (word : List ℕ) (later : List (List ℕ)) → Next fs gs tail word later
    → Next (f ∷ fs) (f ∷ gs) tail word later
next_behind f fs gs tail word later (ends same at) = ends (ap (λ l. f ∷ l) same) at
next_behind f fs gs tail word later (goes_on g hs are name kind) = goes_on g hs (ap (λ l. f ∷ l) are) name kind

next_of : (fs gs : List FieldSeen) (stop : Stop) (rest : List (List ℕ)) (word : List ℕ) (later : List (List ℕ)) → HaveNames fs
    → field_words gs ++ words_from stop rest ≡ field_words fs ++ word ∷ later → Next fs gs (words_from stop rest) word later
next_of [] [] stop rest word later named e = ends refl e
next_of [] (g ∷ gs) stop rest word later named e =
    let first : word ≡ g.name = cc in
    let others : later ≡ kind_word g.kind ∷ (field_words gs ++ words_from stop rest) = cc in
    goes_on g gs refl first others
next_of (f ∷ fs) [] stop rest word later named e = absurd (end_is_no_name stop rest (kind_word f.kind ∷ (field_words fs ++ word ∷ later)) f.name named.0 e)
next_of (f ∷ fs) (g ∷ gs) stop rest word later named e =
    let names : g.name ≡ f.name = cc in
    let kinds : kind_word g.kind ≡ kind_word f.kind = cc in
    let tails : field_words gs ++ words_from stop rest ≡ field_words fs ++ word ∷ later = cc in
    let same : f ≡ g = same_field f g (sym names) (sym (one_kind g.kind f.kind kinds)) in
    subst (λ (h : FieldSeen). Next (f ∷ fs) (h ∷ gs) (words_from stop rest) word later) same
    (next_behind f fs gs (words_from stop rest) word later (next_of fs gs stop rest word later named.1 tails))

-- words are those of one list of fields at most, up to the end of the list
pub same_fields : (fs gs : List FieldSeen) (s t : Stop) (p q : List (List ℕ)) → HaveNames fs → HaveNames gs
    → field_words fs ++ words_from s p ≡ field_words gs ++ words_from t q → (fs ≡ gs) × (words_from s p ≡ words_from t q)
same_fields [] [] s t p q named others e = (refl, e)
same_fields [] (g ∷ gs) s t p q named others e = absurd (end_is_no_name s p (kind_word g.kind ∷ (field_words gs ++ words_from t q)) g.name others.0 e)
same_fields (f ∷ fs) [] s t p q named others e = absurd (end_is_no_name t q (kind_word f.kind ∷ (field_words fs ++ words_from s p)) f.name named.0 (sym e))
same_fields (f ∷ fs) (g ∷ gs) s t p q named others e =
    let names : f.name ≡ g.name = cc in
    let kinds : kind_word f.kind ≡ kind_word g.kind = cc in
    let tails : field_words fs ++ words_from s p ≡ field_words gs ++ words_from t q = cc in
    let same : f ≡ g = same_field f g names (one_kind f.kind g.kind kinds) in
    let more = same_fields fs gs s t p q named.1 others.1 tails in
    (ap (λ h. h ∷ fs) same ∙ ap (λ l. g ∷ l) more.0, more.1)

-- the fields so far were read of the words `start`, and `words` are left
pub record FieldsSoFar (start : List (List ℕ)) (fields : List FieldSeen) (words : List (List ℕ)) : Type 0 where
  pub words_are : start ≡ field_words fields ++ words
  pub named : HaveNames fields
  pub few : length fields ≤ 16

-- a field's words and those of one more behind it
field_words_push : (fs : List FieldSeen) (f : FieldSeen) (tail : List (List ℕ)) → field_words fs ++ (f.name ∷ kind_word f.kind ∷ tail) ≡ field_words (fs ++ f ∷ []) ++ tail
field_words_push [] f tail = refl
field_words_push (g ∷ fs) f tail = ap (λ l. g.name ∷ kind_word g.kind ∷ l) (field_words_push fs f tail)

-- fields with names, and one more
have_names_push : (fs : List FieldSeen) (f : FieldSeen) → HaveNames fs → is_field_name f.name ≡ true → HaveNames (fs ++ f ∷ [])
have_names_push [] f named is = (is, tt)
have_names_push (g ∷ fs) f named is = (named.0, have_names_push fs f named.1 is)

-- a field among others with names has one
middle_named : (fs : List FieldSeen) (f : FieldSeen) (hs : List FieldSeen) → HaveNames (fs ++ f ∷ hs) → is_field_name f.name ≡ true
middle_named [] f hs named = named.0
middle_named (g ∷ fs) f hs named = middle_named fs f hs named.1

-- a word that neither ends a list of fields nor begins a field isn't the next one
nothing_next : (fs gs : List FieldSeen) (stop : Stop) (rest : List (List ℕ)) (word : List ℕ) (later : List (List ℕ)) → Next fs gs (words_from stop rest) word later
    → HaveNames gs → (word ≡ codes "->" → ⊥) → (word ≡ codes ".." → ⊥) → IsNoField word later → ⊥
nothing_next fs gs stop rest word later (goes_on f hs are name kind) named no_arrow no_dots none =
    let is_named : is_field_name word ≡ true = ap is_field_name name ∙ middle_named fs f hs (subst HaveNames are named) in
    none f (field_words hs ++ words_from stop rest) (record { words_are = kind; name_is = sym name; named = is_named })
nothing_next fs gs End rest word later (ends same at) named no_arrow no_dots none = cc
nothing_next fs gs Arrow rest word later (ends same at) named no_arrow no_dots none = let is : word ≡ codes "->" = cc in no_arrow is
nothing_next fs gs More rest word later (ends same at) named no_arrow no_dots none = let is : word ≡ codes ".." = cc in no_dots is

-- where 16 fields are followed by the name of one more, there are more than 16
one_too_many : (fs gs : List FieldSeen) (stop : Stop) (rest : List (List ℕ)) (word : List ℕ) (later : List (List ℕ)) → Next fs gs (words_from stop rest) word later
    → is_field_name word ≡ true → length fs ≡ 16 → length gs ≤ 16 → ⊥
one_too_many fs gs stop rest word later (ends same at) named full few = end_is_no_name stop rest later word named at
one_too_many fs gs stop rest word later (goes_on f hs are name kind) named full few =
    let all : length gs ≡ length fs + length (f ∷ hs) = ap length are ∙ length-append fs (f ∷ hs) in
    absurd (omega (arith, all, full, few))

-- the fields `fs` were read, and `word` was taken, behind which `later` are
module _
    (start : List (List ℕ)) (fs : List FieldSeen) (words : List (List ℕ)) (at : FieldsSoFar start fs words) (word : List ℕ) (later : List (List ℕ))
    (taken : words ≡ word ∷ later) where
  -- where the word ends the list, the words are those of the fields that were read, and those from this end on
  pub list_ends : (stop : Stop) → words_from stop later ≡ word ∷ later → EndsFields start fs stop later
  list_ends stop is = record { words_are = at.words_are ∙ ap (λ l. field_words fs ++ l) (taken ∙ sym is); named = at.named; few = at.few }

  -- what a list of fields has here
  next_here : (gs : List FieldSeen) (stop : Stop) (rest : List (List ℕ)) → EndsFields start gs stop rest → Next fs gs (words_from stop rest) word later
  next_here gs stop rest is = next_of fs gs stop rest word later at.named (sym is.words_are ∙ at.words_are ∙ ap (λ l. field_words fs ++ l) taken)

  -- where the word neither ends the list nor begins a field, there is no list of fields
  pub field_fails : (word ≡ codes "->" → ⊥) → (word ≡ codes ".." → ⊥) → IsNoField word later → IsNoFieldList start
  field_fails no_arrow no_dots none gs stop rest is = nothing_next fs gs stop rest word later (next_here gs stop rest is) is.named no_arrow no_dots none

  -- where the word begins a field, and 16 were read, there is no list of fields: it would have more
  pub fields_too_many : (f : FieldSeen) (new : List (List ℕ)) → ReadsField word later f new → length fs ≡ 16 → IsNoFieldList start
  fields_too_many f new reads full gs stop rest is = one_too_many fs gs stop rest word later (next_here gs stop rest is) reads.named full is.few

  -- where the word begins a field, and fewer than 16 were read, this field is one more
  pub field_reads : (f : FieldSeen) (new : List (List ℕ)) → ReadsField word later f new → length fs < 16 → FieldsSoFar start (fs ++ f ∷ []) new
  field_reads f new reads room =
      record {
        words_are = at.words_are ∙ ap (λ l. field_words fs ++ l) (taken ∙ ap (λ w. w ∷ later) (sym reads.name_is) ∙ ap (λ l. f.name ∷ l) reads.words_are) ∙ field_words_push fs f new;
        named = have_names_push fs f at.named (ap is_field_name reads.name_is ∙ reads.named);
        few = omega (arith, room, length_push fs f);
      }

-- where no word is left, the list ends, and its fields are those that were read
pub list_ends_here : (start : List (List ℕ)) (fs : List FieldSeen) (words rest : List (List ℕ)) → FieldsSoFar start fs words → words ≡ [] → EndsFields start fs End rest
list_ends_here start fs words rest at none = record { words_are = at.words_are ∙ ap (λ l. field_words fs ++ l) none; named = at.named; few = at.few }
