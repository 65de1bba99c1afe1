-- Which records a front of their texts has whole.
use Rattle.gc_program_theorems.proofs.Common.{◌≡◌, ◌⊎◌, inl, inr, ℕ, ◌<◌, List, [], ◌∷◌, ◌++◌, length, refl, sym, ap, ◌∙◌, arith, append_assoc, cons_tail, Record, texts_of, IsPartOfNext}

-- one list is split in two ways: then the first part of one begins with that of the other
pub apart : (a b c d : List ℕ) → a ++ b ≡ c ++ d → ((e : List ℕ) × (c ≡ a ++ e) × (b ≡ e ++ d)) ⊎ ((e : List ℕ) × (a ≡ c ++ e) × (0 < length e))
apart [] b c d e = inl (c, refl, e)
apart (x ∷ a) b [] d e = inr (x ∷ a, refl, omega arith)
apart (x ∷ a) b (y ∷ c) d e =
    let same : x ≡ y = cc in
    elim (apart a b c d (cons_tail x y (a ++ b) (c ++ d) e)) [
      | inl rest ↦ inl (rest.0, ap (λ (l : List ℕ). y ∷ l) rest.1 ∙ ap (λ (n : ℕ). n ∷ (a ++ rest.0)) (sym same), rest.2)
      | inr rest ↦ inr (rest.0, ap (λ (l : List ℕ). x ∷ l) rest.1 ∙ ap (λ (n : ℕ). n ∷ (c ++ rest.0)) same, rest.2)
    ]

-- bytes that are a front of the texts of records: the records that they have whole, and a part of the next one
pub record HasWhole (text : Record → List ℕ) (records : List Record) (bytes : List ℕ) : Type 0 where
  pub written : List Record
  pub unwritten : List Record
  pub torn : List ℕ
  pub order : records ≡ written ++ unwritten
  pub is : bytes ≡ texts_of text written ++ torn
  pub part : IsPartOfNext text unwritten torn

-- each front of the texts of records is so
pub front_has_whole : (text : Record → List ℕ) (records : List Record) (bytes rest : List ℕ) → texts_of text records ≡ bytes ++ rest → HasWhole text records bytes
front_has_whole text [] [] rest e = record { written = []; unwritten = []; torn = []; order = refl; is = refl; part = refl }
front_has_whole text [] (b ∷ bytes) rest e = let wrong : [] ≡ b ∷ (bytes ++ rest) = e in absurd (cc)
front_has_whole text (r ∷ records) bytes rest e =
    elim (apart (text r) (texts_of text records) bytes rest e) [
      | inl whole ↦
          let more = front_has_whole text records whole.0 rest whole.2 in
          record {
            written = r ∷ more.written;
            unwritten = more.unwritten;
            torn = more.torn;
            order = ap (λ (l : List Record). r ∷ l) more.order;
            is = whole.1 ∙ ap (λ (l : List ℕ). text r ++ l) more.is ∙ sym (append_assoc (text r) (texts_of text more.written) more.torn);
            part = more.part;
          }
      | inr part ↦ record { written = []; unwritten = r ∷ records; torn = bytes; order = refl; is = refl; part = (part.0, part.1, part.2) }
    ]
