-- Each item is read as a value of a kind, or has a fault; and so is each parameter list read as values, or has a fault.
-- `IsDecided` says of something that it holds, or that it doesn't.
use Rattle.gc_values.proofs.Common.{◌≡◌, ◌≢◌, ℕ, zero, suc, ◌+◌, ◌*◌, ◌%◌, Bool, true, false, List, [], ◌∷◌, ◌++◌, length, replicate, ℤ, pos, negsuc, Option, Some, None, refl, sym, ap, ◌∙◌, subst, ◌⊎◌, inl, inr, arith, cases_lt, cases_eq, ints, same_from_push, hex_digit_value, number_of, NamesBoolean, IsByte, kind_of, IsItem, IsItemFault, kinds_of, AreItems, FirstFault, IsListReadOrFaulty, too_many, wrong_count, faulty_item, open_quote, faulty_items, quotes, AreSpaces, IsParams, IsStringByte, AreStringBytes, quoted, IsString, NamesWhole, IsBetween, ValueFault, Kind, Value}
use Rattle.gc_values.proofs.EachDecimal.{each_decimal}
use Rattle.gc_values.proofs.EachWhole.{IsDecided, all_or_not, whole_between}
use Rattle.gc_values.proofs.ParamLists.{has_pieces, not_even_is_odd}
use Rattle.gc_values.proofs.TextLemmas.{one_quoted}
use Rattle.gc_values.specs.declared.fault.ValueFault.TheVariants as fault
use Rattle.gc_values.specs.declared.value.Kind.TheVariants as kind
use Rattle.gc_values.specs.declared.value.Value.TheVariants as value

-- an item is read as a value of the kind, or has a fault for the kind
abbrev pub IsReadOrFaulty : Kind → List ℕ → Type 0
IsReadOrFaulty k item = ((v : Value) × (kind_of v ≡ k) × IsItem item v) ⊎ ((e : ValueFault) × IsItemFault k item e)

-- the byte that an item is
abbrev ByteOf : List ℕ → Type 0
ByteOf item = (n : ℕ) × IsByte item n

-- two bytes between single quotes are a byte parameter, or aren't
quoted_byte_or_not : (a b : ℕ) → IsDecided (ByteOf (39 ∷ a ∷ b ∷ 39 ∷ []))
quoted_byte_or_not a b = by_high (hex_digit_value a) refl where
  -- if a is a hexadecimal digit: a byte parameter or none, by whether b is a hexadecimal digit
  by_low : (high : ℕ) → hex_digit_value a ≡ Some high → (low : Option ℕ) → hex_digit_value b ≡ low → IsDecided (ByteOf (39 ∷ a ∷ b ∷ 39 ∷ []))
  by_low high h (Some low) l = inl (high * 16 + low, record { a = a; b = b; high = high; low = low; text_is = refl; high_is = h; low_is = l; value = refl })
  by_low high h None l = inr (λ x. let same : b ≡ x.1.b = let e = x.1.text_is in cc in let is = x.1.low_is in let none = ap hex_digit_value same in absurd (cc))

  -- a byte parameter or none, by whether a is a hexadecimal digit
  by_high : (high : Option ℕ) → hex_digit_value a ≡ high → IsDecided (ByteOf (39 ∷ a ∷ b ∷ 39 ∷ []))
  by_high (Some high) h = by_low high h (hex_digit_value b) refl
  by_high None h = inr (λ x. let same : a ≡ x.1.a = let e = x.1.text_is in cc in let is = x.1.high_is in let none = ap hex_digit_value same in absurd (cc))

-- four bytes of which the first and the last aren't both single quotes are no byte parameter
no_quoted_byte : (p a b q : ℕ) → (p ≡ 39 → q ≡ 39 → ⊥) → ByteOf (p ∷ a ∷ b ∷ q ∷ []) → ⊥
no_quoted_byte p a b q none x = let e = x.1.text_is in none (let first : p ≡ 39 = cc in first) (let last : q ≡ 39 = cc in last)

-- an item is a byte parameter, or isn't
byte_or_not : (item : List ℕ) → IsDecided (ByteOf item)
byte_or_not [] = inr (λ x. let e = x.1.text_is in absurd (cc))
byte_or_not (p ∷ []) = inr (λ x. let e = x.1.text_is in absurd (cc))
byte_or_not (p ∷ a ∷ []) = inr (λ x. let e = x.1.text_is in absurd (cc))
byte_or_not (p ∷ a ∷ b ∷ []) = inr (λ x. let e = x.1.text_is in absurd (cc))
byte_or_not (p ∷ a ∷ b ∷ q ∷ r ∷ rest) = inr (λ x. let e = x.1.text_is in absurd (cc))
byte_or_not (p ∷ a ∷ b ∷ q ∷ []) = elim (cases_eq p 39) [
  | inr other ↦ inr (no_quoted_byte p a b q (λ first last. other first))
  | inl first ↦ elim (cases_eq q 39) [
    | inr other ↦ inr (no_quoted_byte p a b q (λ first last. other last))
    | inl last ↦ subst (λ x. IsDecided (ByteOf (x ∷ a ∷ b ∷ q ∷ []))) (sym first) (subst (λ x. IsDecided (ByteOf (39 ∷ a ∷ b ∷ x ∷ []))) (sym last) (quoted_byte_or_not a b))
  ]
]

-- a text ends in a double quote: it is some bytes, and then the quote
abbrev EndsInQuote : List ℕ → Type 0
EndsInQuote text = (bytes : List ℕ) × (text ≡ bytes ++ 34 ∷ [])

-- a text of one byte, which is no double quote, doesn't end in a double quote
one_byte_ends_in_no_quote : (b : ℕ) → b ≢ 34 → EndsInQuote (b ∷ []) → ⊥
one_byte_ends_in_no_quote b other (bytes, is) = other (same_from_push [] bytes b 34 is).1

-- a text of at least two bytes that ends in a double quote still does without its first byte
ends_in_quote_without_first : (b c : ℕ) (rest : List ℕ) → EndsInQuote (b ∷ c ∷ rest) → EndsInQuote (c ∷ rest)
ends_in_quote_without_first b c rest ([], is) = absurd (cc)
ends_in_quote_without_first b c rest (x ∷ xs, is) = (xs, let same : c ∷ rest ≡ xs ++ 34 ∷ [] = cc in same)

-- a text ends in a double quote, or doesn't
end_quote_or_not : (text : List ℕ) → IsDecided (EndsInQuote text)
end_quote_or_not [] = inr none where
  -- the empty text doesn't end in a double quote
  none : EndsInQuote [] → ⊥
  none ([], is) = absurd (cc)
  none (x ∷ xs, is) = absurd (cc)
end_quote_or_not (b ∷ []) = elim (cases_eq b 34) [
  | inl quote ↦ inl ([], ap (λ x. x ∷ []) quote)
  | inr other ↦ inr (one_byte_ends_in_no_quote b other)
]
end_quote_or_not (b ∷ c ∷ rest) = elim (end_quote_or_not (c ∷ rest)) [
  | inl found ↦ inl (b ∷ found.0, ap (λ xs. b ∷ xs) found.1)
  | inr none ↦ inr (λ h. none (ends_in_quote_without_first b c rest h))
]

-- a byte is allowed in a string, or isn't
string_byte_or_not : (b : ℕ) → IsDecided (IsStringByte b)
string_byte_or_not b = elim (cases_eq b 34) [
  | inl quote ↦ inr (λ h. h.0 quote)
  | inr no_quote ↦ elim (cases_eq b 13) [
    | inl return ↦ inr (λ h. h.1 return)
    | inr no_return ↦ elim (cases_eq b 10) [
      | inl feed ↦ inr (λ h. h.2 feed)
      | inr no_feed ↦ inl (no_quote, no_return, no_feed)
    ]
  ]
]

-- bytes are all allowed in a string, or not
string_bytes_or_not : (bytes : List ℕ) → IsDecided (AreStringBytes bytes)
string_bytes_or_not bytes = all_or_not IsStringByte string_byte_or_not bytes

-- the bytes of the string that an item is
abbrev StringOf : List ℕ → Type 0
StringOf item = (bytes : List ℕ) × IsString item bytes

-- an item is a string, or isn't
string_or_not : (item : List ℕ) → IsDecided (StringOf item)
string_or_not [] = inr (λ s. let e = s.1.item_is in absurd (cc))
string_or_not (b ∷ rest) = elim (cases_eq b 34) [
  | inr other ↦ inr (λ s. let e = s.1.item_is in other (let same : b ≡ 34 = cc in same))
  | inl quote ↦ elim (end_quote_or_not rest) [
    | inr none ↦ inr (λ s. let e = s.1.item_is in none (s.0, let same : rest ≡ s.0 ++ 34 ∷ [] = cc in same))
    | inl found ↦
        let whole : b ∷ rest ≡ quoted found.0 = ap (λ x. x ∷ rest) quote ∙ ap (λ xs. 34 ∷ xs) found.1 in
        elim (string_bytes_or_not found.0) [
          | inl plain ↦ inl (found.0, record { item_is = whole; plain = plain })
          | inr other ↦ inr (λ s. other (subst AreStringBytes (one_quoted s.0 found.0 (sym s.1.item_is ∙ whole)) s.1.plain))
        ]
  ]
]

-- a number from 0 to 1 is that of a truth value
boolean_of_number : (z : ℤ) → IsBetween 0 1 z → (b : Bool) × (z ≡ pos (number_of b))
boolean_of_number (pos zero) within = (false, refl)
boolean_of_number (pos (suc zero)) within = (true, refl)
boolean_of_number (pos (suc (suc n))) within = let high = within.1 in absurd (omega (arith, ints, high))
boolean_of_number (negsuc n) within = let low = within.0 in absurd (omega (arith, ints, low))

-- an item that writes a whole number from 0 to 1 is a Boolean
boolean_of_item : (item : List ℕ) → ((z : ℤ) × NamesWhole item z × IsBetween 0 1 z) → (b : Bool) × NamesBoolean item b
boolean_of_item item found = let t = boolean_of_number found.0 found.2 in (t.0, subst (NamesWhole item) t.1 found.1)

-- each item is read as a value of each kind, or has a fault for it
pub each_item : (k : Kind) (item : List ℕ) → IsReadOrFaulty k item
each_item kind.Double item = elim (each_decimal item) [
  | inl found ↦ inl (value.Double found.0, refl, found.1)
  | inr (inl none) ↦ inr (fault.Spelling, inl (refl, none))
  | inr (inr far) ↦ inr (fault.Range, inr (refl, far))
]
each_item kind.Long item = elim (whole_between 2147483648 2147483647 item) [
  | inl found ↦ inl (value.Long found.0, refl, (found.1, found.2))
  | inr (inl none) ↦ inr (fault.Spelling, inl (refl, none))
  | inr (inr far) ↦ inr (fault.Range, inr (refl, far))
]
each_item kind.Short item = elim (whole_between 32768 32767 item) [
  | inl found ↦ inl (value.Short found.0, refl, (found.1, found.2))
  | inr (inl none) ↦ inr (fault.Spelling, inl (refl, none))
  | inr (inr far) ↦ inr (fault.Range, inr (refl, far))
]
each_item kind.Bool item = elim (whole_between 0 1 item) [
  | inl found ↦ let b = boolean_of_item item found in inl (value.Bool b.0, refl, b.1)
  | inr (inl none) ↦ inr (fault.Spelling, inl (refl, none))
  | inr (inr far) ↦ inr (fault.Range, inr (refl, far))
]
each_item kind.Byte item = elim (byte_or_not item) [
  | inl found ↦ inl (value.Byte found.0, refl, found.1)
  | inr none ↦ inr (fault.Spelling, inl (refl, λ n is. none (n, is)))
]
each_item kind.Text item = elim (string_or_not item) [
  | inr none ↦ inr (fault.Spelling, inl (refl, λ bytes is. none (bytes, is)))
  | inl s ↦ elim (cases_lt 64 (length s.0)) [
    | inl long ↦ inr (fault.Range, inr (refl, (s.0, s.1, long)))
    | inr few ↦ inl (value.Text s.0, refl, record { string = s.1; few = few })
  ]
]

-- items as many as kinds are read as values of these kinds, or have a first fault
items_read : (ks : List Kind) (items : List (List ℕ)) → length items ≡ length ks
    → ((vs : List Value) × (kinds_of vs ≡ ks) × AreItems items vs) ⊎ ((e : ValueFault) × FirstFault ks items e)
items_read [] [] same = inl ([], refl, tt)
items_read [] (item ∷ items) same = absurd (omega (arith, same))
items_read (k ∷ ks) [] same = absurd (omega (arith, same))
items_read (k ∷ ks) (item ∷ items) same = elim (each_item k item) [
  | inr faulty ↦ inr (faulty.0, inl faulty.1)
  | inl read ↦ elim (items_read ks items (omega (arith, same))) [
    | inl more ↦ inl (read.0 ∷ more.0, cc (read.1, more.1), (read.2, more.2))
    | inr faulty ↦ inr (faulty.0, inr (read.0, read.1, read.2, faulty.1))
  ]
]

-- parameters that split into items (`IsParams`) are read as values of the kinds, or have a fault
params_read : (ks : List Kind) (params : List ℕ) (items : List (List ℕ)) → IsParams params items → IsListReadOrFaulty ks params
params_read ks params items split = elim (cases_lt 16 (length items)) [
  | inl many ↦ inr (fault.TooMany, faulty_items items split (too_many refl many))
  | inr few ↦ elim (cases_eq (length items) (length ks)) [
    | inr other ↦ inr (fault.Count, faulty_items items split (wrong_count refl few other))
    | inl same ↦ elim (items_read ks items same) [
      | inl read ↦ inl (read.0, read.1, record { items = items; split = split; read = read.2 })
      | inr faulty ↦ inr (faulty.0, faulty_items items split (faulty_item few same faulty.1))
    ]
  ]
]

-- bytes are spaces alone, or aren't
spaces_or_not : (bytes : List ℕ) → IsDecided (AreSpaces bytes)
spaces_or_not [] = inl (0, refl)
spaces_or_not (b ∷ bs) = elim (cases_eq b 32) [
  | inr other ↦ inr (first b bs other)
  | inl space ↦ elim (spaces_or_not bs) [
    | inl more ↦ inl (suc more.0, cc (space, more.1))
    | inr none ↦ inr (rest b bs none)
  ]
] where
  -- bytes of which the first is no space aren't spaces alone
  first : (b : ℕ) (bs : List ℕ) → b ≢ 32 → AreSpaces (b ∷ bs) → ⊥
  first b bs other (zero, is) = absurd (cc)
  first b bs other (suc n, is) = other (let same : b ≡ 32 = cc in same)

  -- if the bytes after the first one aren't spaces alone, neither are all of them
  rest : (b : ℕ) (bs : List ℕ) → (AreSpaces bs → ⊥) → AreSpaces (b ∷ bs) → ⊥
  rest b bs none (zero, is) = absurd (cc)
  rest b bs none (suc n, is) = none (n, let same : bs ≡ replicate n 32 = cc in same)

-- parameters, whatever bytes they are, are read as values of the kinds, or have a fault
pub each_list : (ks : List Kind) (params : List ℕ) → IsListReadOrFaulty ks params
each_list ks params = elim (cases_eq (quotes params % 2) 0) [
  | inr odd ↦ inr (fault.OpenQuote, open_quote refl (not_even_is_odd (quotes params) odd))
  | inl even ↦ elim (spaces_or_not params) [
    | inl spaces ↦ params_read ks params [] spaces
    | inr some ↦
        let h = has_pieces params even in
        params_read ks params (h.item ∷ h.items) (record { pieces = h.first ∷ h.others; bytes_are = h.text_is; pieces_are = h.are; some = some })
  ]
]
