-- Names that are apart from each other: what is looked up under one of them is in one part of a record's cells.
use Rattle.gc_rows.proofs.Common.{◌≡◌, ◌++◌, ◌∷◌, ◌∙◌, [], ℕ, List, Bool, true, false, inl, inr, if◌then◌else◌, refl, sym, ap, ◌||◌, codes, not, list_all, bytes_eq, and_from, and_parts, cases_Bool, false≢true, not-true, or_from, or_parts, list_any-append, bytes_eq-Decides, ends_is, ends_as_text, Blank, Cell, lookup, names_of, are_distinct, is_among, is_apart, is_single}
use Rattle.std.proofs.lemmas.Bool.Decides.{Decides-eqb}

-- two equal names are among the same
same_among : (key name : List ℕ) (names : List (List ℕ)) → bytes_eq name key ≡ true → is_among key names ≡ is_among name names
same_among key name names same = ap (λ n. is_among n names) (sym ((bytes_eq-Decides name key).0 same))

-- a name that isn't among two lists isn't among both together
pub among_neither : (key : List ℕ) (xs ys : List (List ℕ)) → is_among key xs ≡ false → is_among key ys ≡ false → is_among key (xs ++ ys) ≡ false
among_neither key xs ys one other = list_any-append (λ n. bytes_eq n key) xs ys ∙ or_from _ _ one other

-- one that isn't among both together is in neither
pub among_parts : (key : List ℕ) (xs ys : List (List ℕ)) → is_among key (xs ++ ys) ≡ false → (is_among key xs ≡ false) × (is_among key ys ≡ false)
among_parts key xs ys none = or_parts (is_among key xs) (is_among key ys) (sym (list_any-append (λ n. bytes_eq n key) xs ys) ∙ none)

-- whether none of these names is among the others
abbrev pub are_apart : (names others : List (List ℕ)) → Bool
are_apart names others = list_all (λ n. not (is_among n others)) names

-- a name of a list that is apart from others isn't among these
pub not_among : (key : List ℕ) (names others : List (List ℕ)) → are_apart names others ≡ true → is_among key names ≡ true → is_among key others ≡ false
not_among key [] others apart is = absurd (false≢true is)
not_among key (n ∷ names) others apart is =
    let parts = and_parts (not (is_among n others)) (are_apart names others) apart in
    elim (cases_Bool (bytes_eq n key)) [
      | inl same ↦ same_among key n others same ∙ not-true _ parts.0
      | inr other ↦ not_among key names others parts.1 (sym (ap (λ b. b || is_among key names) other) ∙ is)
    ]

-- names that are apart from two lists are apart from both together
pub apart_both : (names xs ys : List (List ℕ)) → are_apart names xs ≡ true → are_apart names ys ≡ true → are_apart names (xs ++ ys) ≡ true
apart_both [] xs ys one other = refl
apart_both (n ∷ names) xs ys one other =
    let x = and_parts (not (is_among n xs)) (are_apart names xs) one in
    let y = and_parts (not (is_among n ys)) (are_apart names ys) other in
    and_from _ _ (ap not (among_neither n xs ys (not-true _ x.0) (not-true _ y.0))) (apart_both names xs ys x.1 y.1)

-- that two lists are apart is the same of the second and the first
pub apart_turned : (xs ys : List (List ℕ)) → are_apart xs ys ≡ true → are_apart ys xs ≡ true
apart_turned xs [] apart = refl
apart_turned xs (y ∷ ys) apart = and_from _ _ (ap not (first xs apart)) (apart_turned xs ys (rest xs apart)) where
  -- the first of the second isn't among the first list
  first : (xs : List (List ℕ)) → are_apart xs (y ∷ ys) ≡ true → is_among y xs ≡ false
  first [] apart = refl
  first (x ∷ xs) apart =
      let parts = and_parts (not (is_among x (y ∷ ys))) (are_apart xs (y ∷ ys)) apart in
      let none = or_parts (bytes_eq y x) (is_among x ys) (not-true _ parts.0) in
      or_from _ _ (turned none.0) (first xs parts.1) where
        -- names that differ do so the other way round
        turned : bytes_eq y x ≡ false → bytes_eq x y ≡ false
        turned none = elim (cases_Bool (bytes_eq x y)) [
          | inl same ↦ absurd (false≢true (sym none ∙ (bytes_eq-Decides y x).1 (sym ((bytes_eq-Decides x y).0 same))))
          | inr other ↦ other
        ]

  -- so are the others of it
  rest : (xs : List (List ℕ)) → are_apart xs (y ∷ ys) ≡ true → are_apart xs ys ≡ true
  rest [] apart = refl
  rest (x ∷ xs) apart =
      let parts = and_parts (not (is_among x (y ∷ ys))) (are_apart xs (y ∷ ys)) apart in
      and_from _ _ (ap not (or_parts (bytes_eq y x) (is_among x ys) (not-true _ parts.0)).1) (rest xs parts.1)

-- two lists of distinct names that are apart are distinct together
pub distinct_both : (xs ys : List (List ℕ)) → are_distinct xs ≡ true → are_distinct ys ≡ true → are_apart xs ys ≡ true → are_distinct (xs ++ ys) ≡ true
distinct_both [] ys one other apart = other
distinct_both (x ∷ xs) ys one other apart =
    let d = and_parts (not (is_among x xs)) (are_distinct xs) one in
    let a = and_parts (not (is_among x ys)) (are_apart xs ys) apart in
    and_from _ _ (ap not (among_neither x xs ys (not-true _ d.0) (not-true _ a.0))) (distinct_both xs ys d.1 other a.1)

-- A name with `_text` behind it.

-- a name with `_text` behind it ends so
text_ends : (name : List ℕ) → ends_as_text (name ++ codes "_text") ≡ true
text_ends name = (ends_is Decides-eqb (name ++ codes "_text") (codes "_text") _ refl).1 name refl

-- it is no name that doesn't end so
pub no_text : (key name : List ℕ) → ends_as_text key ≡ false → bytes_eq (name ++ codes "_text") key ≡ false
no_text key name none = elim (cases_Bool (bytes_eq (name ++ codes "_text") key)) [
  | inl same ↦ absurd (false≢true (sym none ∙ ap ends_as_text (sym ((bytes_eq-Decides (name ++ codes "_text") key).0 same)) ∙ text_ends name))
  | inr other ↦ other
]

-- a name that doesn't end so and isn't among these is apart from them
apart_names : (key : List ℕ) (names : List (List ℕ)) → ends_as_text key ≡ false → is_among key names ≡ false → is_apart key names ≡ true
apart_names key [] none among = refl
apart_names key (n ∷ names) none among =
    let parts = or_parts (bytes_eq n key) (is_among key names) among in
    and_from _ _ (and_from _ _ (ap not parts.0) (ap not (no_text key n none))) (apart_names key names none parts.1)

-- of distinct names each that doesn't end so is single
pub distinct_single : (key : List ℕ) (names : List (List ℕ)) → ends_as_text key ≡ false → are_distinct names ≡ true → is_single key names ≡ true
distinct_single key [] none distinct = refl
distinct_single key (n ∷ names) none distinct =
    let parts = and_parts (not (is_among n names)) (are_distinct names) distinct in
    and_from _ _ (ap not (no_text key n none)) (elim (cases_Bool (bytes_eq n key)) [
      | inl same ↦ rw same (apart_names key names none (same_among key n names same ∙ not-true _ parts.0))
      | inr other ↦ rw other (distinct_single key names none parts.1)
    ])

-- Cells.

-- a name that isn't among those of the last cells is looked up in the others
pub lookup_before : (key : List ℕ) (xs ys : List Cell) → is_among key (names_of ys) ≡ false → lookup key (xs ++ ys) ≡ lookup key xs
lookup_before key [] ys none = lookup_none key ys none where
  -- of a name that isn't among those of cells nothing is found
  lookup_none : (key : List ℕ) (ys : List Cell) → is_among key (names_of ys) ≡ false → lookup key ys ≡ Blank
  lookup_none key [] none = refl
  lookup_none key (y ∷ ys) none =
      let parts = or_parts (bytes_eq y.name key) (is_among key (names_of ys)) none in
      ap (λ b. if b then y.content else lookup key ys) parts.0 ∙ lookup_none key ys parts.1
lookup_before key (x ∷ xs) ys none = ap (λ l. if bytes_eq x.name key then x.content else l) (lookup_before key xs ys none)

-- a name that is among those of the first cells is found there
pub lookup_first : (key : List ℕ) (xs ys : List Cell) → is_among key (names_of xs) ≡ true → lookup key (xs ++ ys) ≡ lookup key xs
lookup_first key [] ys is = absurd (false≢true is)
lookup_first key (x ∷ xs) ys is = elim (cases_Bool (bytes_eq x.name key)) [
  | inl same ↦ rw same refl
  | inr other ↦ rw other (lookup_first key xs ys (sym (ap (λ b. b || is_among key (names_of xs)) other) ∙ is))
]

-- cells without a name may be left out where this is looked up
pub lookup_without : (key : List ℕ) (xs ys zs : List Cell) → is_among key (names_of ys) ≡ false → lookup key (xs ++ (ys ++ zs)) ≡ lookup key (xs ++ zs)
lookup_without key [] ys zs none = lookup_behind key ys zs none where
  -- a name that isn't among those of the first cells is looked up in the others
  lookup_behind : (key : List ℕ) (xs ys : List Cell) → is_among key (names_of xs) ≡ false → lookup key (xs ++ ys) ≡ lookup key ys
  lookup_behind key [] ys none = refl
  lookup_behind key (x ∷ xs) ys none =
      let parts = or_parts (bytes_eq x.name key) (is_among key (names_of xs)) none in
      ap (λ b. if b then x.content else lookup key (xs ++ ys)) parts.0 ∙ lookup_behind key xs ys parts.1
lookup_without key (x ∷ xs) ys zs none = ap (λ l. if bytes_eq x.name key then x.content else l) (lookup_without key xs ys zs none)
