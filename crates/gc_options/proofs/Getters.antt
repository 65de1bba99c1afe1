-- What clap's getters give, as the words of clauses say it.
use Rattle.gc_options.proofs.Common.{◌≡◌, ◌≢◌, ◌∙◌, ℕ, ◌^◌, ◌<◌, Bool, true, false, List, Option, Some, None, Result, Ok, Err, refl, sym, subst, arith, option_map, unwrap_or, ap, codes, IfSome, IsSome, ParsesBool, ParsesUnsigned, Bor, ReadsOne, first_value, one_text, one_of, rows_of, GivesNumber, HasNumber, ReadsNumber, has_flag, text_in}
use Rattle.std.specs.Option.{option_map_or}
use Rattle.std.specs.Str.{bytes_eq}
use Rattle.std.proofs.lemmas.Slice.Eq.{bytes_eq-Decides}
use Rattle.std.specs.declared.str.ParseBoolError.{ParseBoolError}
use Rattle.clap.proofs.WalkLemmas.{first_value-rows, one_text-rows}
use Rattle.clap.specs.declared.parser.matches.Found.{Found}

-- the first value of an argument is the text that the words give for it
pub text_given : (found : Found) (name : List ℕ) (r : Option (Bor (List ℕ))) → option_map (λ text. text.now) r ≡ first_value found name
    → option_map (λ text. text.now) r ≡ text_in (rows_of found) name
text_given found name r is = is ∙ first_value-rows found name

-- what is read of a text says what it says of each result
pub narrow : {T E : Type 0} (G P : List ℕ → Result T E → Type 0) (text : List ℕ) (r : Option T) → ReadsOne G text r
    → ((x : Result T E) → G text x → P text x) → ReadsOne P text r
narrow G P text (Some v) reads f = f (Ok v) reads
narrow G P text None reads f = (reads.0, f (Err reads.0) reads.1)

-- how a text is read as a number of so many bits
abbrev pub ReadsBits : {E : Type 0} → ℕ → List ℕ → Result ℕ E → Type 0
ReadsBits bits text r = ParsesUnsigned bits 10 text r

module _ (E : Type 0) (bits : ℕ) (found : Found) (name : List ℕ) where
  -- a number that is read of a value is the one that the words give
  pub number_found : (r : Option ℕ) → (one_text found name ≡ None → r ≡ None)
      → ((text : List ℕ) → one_text found name ≡ Some text → ReadsOne {E = E} (ReadsBits bits) text r) → IfSome r (λ n. GivesNumber (rows_of found) name n)
  number_found None none reads = tt
  number_found (Some n) none reads = go (one_text found name) refl
    where
      go : (o : Option (List ℕ)) → one_text found name ≡ o → GivesNumber (rows_of found) name n
      go None e =
          let bad : ◌≡◌ {A = Option ℕ} (Some n) None = none e in
          cc
      go (Some text) e =
          let parsed = reads text e in
          record { text = text; given = sym (one_text-rows found name) ∙ e; numeral = parsed.0.0; is = parsed.1 }

  -- a number that the words give is read
  pub number_only : (r : Option ℕ) → ((text : List ℕ) → one_text found name ≡ Some text → ReadsOne {E = E} (ReadsBits bits) text r)
      → HasNumber (rows_of found) name bits → IsSome r
  number_only (Some n) reads has = refl
  number_only None reads has =
      let failed = reads has.gives.text (one_text-rows found name ∙ has.gives.given) in
      absurd (failed.1 (has.gives.numeral, subst (λ k. k < 2 ^ bits) has.gives.is has.fits))

  -- what is read of a value is the number that the words give, if they give one
  pub number_read : (r : Option ℕ) → (one_text found name ≡ None → r ≡ None)
      → ((text : List ℕ) → one_text found name ≡ Some text → ReadsOne {E = E} (ReadsBits bits) text r) → ReadsNumber (rows_of found) name bits r
  number_read r none reads = record { found = number_found r none reads; only = number_only r reads }

-- a flag that is read of a value is the one that the words have
pub flag_given : (found : Found) (name : List ℕ) (r : Option Bool) → (one_text found name ≡ None → r ≡ None)
    → ((text : List ℕ) → one_text found name ≡ Some text → ReadsOne {T = Bool} {E = ParseBoolError} ParsesBool text r)
    → unwrap_or r false ≡ has_flag (rows_of found) name
flag_given found name r none reads = go (one_text found name) refl
  where
    other : (text : List ℕ) (b : Bool) → bytes_eq text (codes "true") ≡ b → text ≢ codes "true" → bytes_eq text (codes "true") ≡ false
    other text true e apart = absurd (apart ((bytes_eq-Decides text (codes "true")).0 e))
    other text false e apart = e

    read : (text : List ℕ) (o : Option Bool) → ReadsOne {T = Bool} {E = ParseBoolError} ParsesBool text o → unwrap_or o false ≡ bytes_eq text (codes "true")
    read text (Some true) h = sym ((bytes_eq-Decides text (codes "true")).1 h)
    read text (Some false) h = rw h refl
    read text None h = sym (other text (bytes_eq text (codes "true")) refl h.1.0)

    go : (o : Option (List ℕ)) → one_text found name ≡ o → unwrap_or r false ≡ has_flag (rows_of found) name
    go None e = rw (none e, ← one_text-rows found name, e) refl
    go (Some text) e = read text r (reads text e) ∙ ap (λ o. option_map_or (λ t. bytes_eq t (codes "true")) o false) (sym e ∙ one_text-rows found name)
