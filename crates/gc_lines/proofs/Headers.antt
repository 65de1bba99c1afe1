-- Reading a header finds the fields of its form, or the first that is bad.
use Rattle.gc_lines.proofs.Common.{◌≡◌, ℕ, inl, inr, List, ◌∷◌, ◌++◌, Option, Some, None, Result, Ok, Err, refl, ap, ◌∙◌, subst, get_or, eq-eqb, LineFault, Signature, Number, Id, Colon, Code, TooLong, IsSmallNumber, NoDigitFirst, EndsId, IsIdInRange, id_text, PastSignature, PastNumber, PastId, PastColon, FirstBadField, number_at, HeaderFields, signature_at, id_at, colon_at, header_at, ◌>>=◌}
use Rattle.gc_lines.proofs.Reading.{none_means_fault, fault_means_none, bind_ok, bind_err, bind_on, bind_stop}
use Rattle.gc_lines.proofs.Fields.{signature_reads, number_reads, id_reads, colon_reads}

-- the fields of the line through the colon have their form and these values, and `header.rest` follows them
pub record IsHeader (signature line : List ℕ) (header : HeaderFields) : Type 0 where
  pub number : List ℕ
  pub is_number : IsSmallNumber number header.number
  pub is_id : IsIdInRange header.id
  pub whole : line ≡ signature ++ (number ++ (id_text header.id ++ 58 ∷ header.rest))

-- what follows a header's number, which is the id's text or nothing, a colon and any rest, doesn't begin with a digit
after_number : (id : Option ℕ) (rest : List ℕ) → NoDigitFirst (id_text id ++ 58 ∷ rest)
after_number None rest = refl
after_number (Some i) rest = refl

-- the field of an id, or of none, ends before a colon, as `EndsId` has it
after_id : (id : Option ℕ) (rest : List ℕ) → EndsId id (58 ∷ rest)
after_id None rest = λ after e. let t = eq-eqb 58 44 (ap (λ b. get_or b 0 0) e) in (cc)
after_id (Some i) rest = refl

-- if the line has a header's form, the fields through the number have theirs, and the id's text, the colon and the rest follow
abbrev past_number : (signature line : List ℕ) (h : HeaderFields) (is : IsHeader signature line h)
    → PastNumber signature line (id_text h.id ++ 58 ∷ h.rest)
past_number signature line h is = record {
  from = is.number ++ (id_text h.id ++ 58 ∷ h.rest);
  number = h.number;
  before = is.whole;
  here = record { text = is.number; is_number = is.is_number; whole = refl; ends = after_number h.id h.rest };
}

-- if the line has a header's form, the fields through the colon have theirs, and the header's rest follows
abbrev past_colon : (signature line : List ℕ) (h : HeaderFields) → IsHeader signature line h → PastColon signature line h.rest
past_colon signature line h is = record {
  from = 58 ∷ h.rest;
  before = record {
    from = id_text h.id ++ 58 ∷ h.rest;
    id = h.id;
    before = past_number signature line h is;
    here = record { below = is.is_id; whole = refl; ends = after_id h.id h.rest };
  };
  here = refl;
}

-- how `header_at` reads on from the colon, once it has read this number and this id
abbrev read_from_colon : (number : ℕ) (id : Option ℕ) (bytes : List ℕ) → Result HeaderFields LineFault
read_from_colon number id bytes = colon_at bytes >>= λ rest. Ok (record { number = number; id = id; rest = rest })

-- how `header_at` reads on from the id, once it has read this number
abbrev read_from_id : (number : ℕ) (bytes : List ℕ) → Result HeaderFields LineFault
read_from_id number bytes = id_at bytes >>= λ id. read_from_colon number id.0 id.1

-- how `header_at` reads on from the number, which follows the signature
abbrev read_from_number : List ℕ → Result HeaderFields LineFault
read_from_number bytes = number_at Number bytes >>= λ number. read_from_id number.0 number.1

-- if the line is the signature and then the rest, `header_at` gives what `read_from_number` gives for the rest
header_past_signature : (signature line rest : List ℕ) → PastSignature signature line rest → header_at signature line ≡ read_from_number rest
unfolding header_at
header_past_signature signature line rest past = bind_on (signature_at signature line) _ rest ((signature_reads signature).again line rest past)

-- if the fields through the number have their form, `header_at` gives what `read_from_id` gives for the number and the rest
header_past_number : (signature line rest : List ℕ) (past : PastNumber signature line rest) → header_at signature line ≡ read_from_id past.number rest
header_past_number signature line rest past = header_past_signature signature line past.from past.before
    ∙ bind_on (number_at Number past.from) (λ number. read_from_id number.0 number.1) (past.number, rest) ((number_reads Number).again past.from (past.number, rest) past.here)

-- if the fields through the id have their form, `header_at` gives what `read_from_colon` gives for the number, the id and the
-- rest
header_past_id : (signature line rest : List ℕ) (past : PastId signature line rest) → header_at signature line ≡ read_from_colon past.before.number past.id rest
header_past_id signature line rest past = header_past_number signature line past.from past.before
    ∙ bind_on (id_at past.from) (λ id. read_from_colon past.before.number id.0 id.1) (past.id, rest) (id_reads.again past.from (past.id, rest) past.here)

-- if the fields through the colon have their form, `header_at` gives their values and the rest
pub header_past_colon : (signature line rest : List ℕ) (past : PastColon signature line rest)
    → header_at signature line ≡ Ok (record { number = past.before.before.number; id = past.before.id; rest = rest })
header_past_colon signature line rest past = header_past_id signature line past.from past.before
    ∙ bind_on (colon_at past.from) (λ r. Ok (record { number = past.before.before.number; id = past.before.id; rest = r })) rest (colon_reads.again past.from rest past.here)

-- if the line has a header's form with some values, as `IsHeader` has it, `header_at` gives these
pub header_again : (signature line : List ℕ) (h : HeaderFields) → IsHeader signature line h → header_at signature line ≡ Ok h
header_again signature line h is = header_past_colon signature line h.rest (past_colon signature line h is)

-- if `header_at` gives values, the line has a header's form with them, as `IsHeader` has it
pub header_found : (signature line : List ℕ) (h : HeaderFields) → header_at signature line ≡ Ok h → IsHeader signature line h
unfolding header_at
header_found signature line h e =
    let a = bind_ok _ _ h e in
    let b = bind_ok _ _ h a.2 in
    let c = bind_ok _ _ h b.2 in
    let d = bind_ok _ _ h c.2 in
    let sig = (signature_reads signature).found line a.0 a.1 in
    let n = (number_reads Number).found a.0 b.0 b.1 in
    let i = id_reads.found b.0.1 c.0 c.1 in
    let k = colon_reads.found c.0.1 d.0 d.1 in
    let it : IsHeader signature line (record { number = b.0.0; id = c.0.0; rest = d.0 }) = record {
      number = n.text;
      is_number = n.is_number;
      is_id = i.below;
      whole = sig ∙ ap (λ t. signature ++ t) (n.whole ∙ ap (λ t. n.text ++ t) (i.whole ∙ ap (λ t. id_text c.0.0 ++ t) k));
    } in
    let same : (let f : HeaderFields = record { number = b.0.0; id = c.0.0; rest = d.0 } in f) ≡ h = cc in
    subst (λ (f : HeaderFields). IsHeader signature line f) same it

-- if `header_at` gives a fault, that fault names the first bad field of the line, whatever `Body` says of what follows the
-- colon
pub header_fault : (signature : List ℕ) (Body : List ℕ → Type 0) (line : List ℕ) (d : LineFault) → header_at signature line ≡ Err d
    → FirstBadField signature Body line d
unfolding header_at
header_fault signature Body line d e = elim (bind_err _ _ d e) [
  | inl h ↦
      let it : FirstBadField signature Body line Signature = fault_means_none _ _ _ (signature_reads signature) line d h in
      subst (λ (f : LineFault). FirstBadField signature Body line f) ((signature_reads signature).named line d h) it
  | inr a ↦ let sig = (signature_reads signature).found line a.0 a.1 in elim (bind_err _ _ d a.2) [
    | inl h ↦
        let it : FirstBadField signature Body line Number = (a.0, sig, λ n rest. fault_means_none _ _ _ (number_reads Number) a.0 d h (n, rest)) in
        subst (λ (f : LineFault). FirstBadField signature Body line f) ((number_reads Number).named a.0 d h) it
    | inr b ↦
        let past : PastNumber signature line b.0.1 = record { from = a.0; number = b.0.0; before = sig; here = (number_reads Number).found a.0 b.0 b.1 } in
        elim (bind_err _ _ d b.2) [
          | inl h ↦
              let it : FirstBadField signature Body line Id = (b.0.1, past, λ id rest. fault_means_none _ _ _ id_reads b.0.1 d h (id, rest)) in
              subst (λ (f : LineFault). FirstBadField signature Body line f) (id_reads.named b.0.1 d h) it
          | inr c ↦ elim (bind_err _ _ d c.2) [
            | inl h ↦
                let it : FirstBadField signature Body line Colon = (
                  c.0.1,
                  record { from = b.0.1; id = c.0.0; before = past; here = id_reads.found b.0.1 c.0 c.1 },
                  fault_means_none _ _ _ colon_reads c.0.1 d h,
                ) in
                subst (λ (f : LineFault). FirstBadField signature Body line f) (colon_reads.named c.0.1 d h) it
            | inr x ↦ (cc)
          ]
        ]
  ]
]

-- A whole line: its header, and then a reader of what follows the colon.

-- a line is read as its header, and then as its body
abbrev pub line_at : {A : Type 0} → (signature : List ℕ) → (body : HeaderFields → Result A LineFault) → (line : List ℕ) → Result A LineFault
line_at signature body line = header_at signature line >>= body

-- a reader of what follows the colon fails exactly if that hasn't the form `Body`, and then with `Code`
pub record ReadsBody {A : Type 0} (body : HeaderFields → Result A LineFault) (Body : List ℕ → Type 0) : Type 0 where
  pub named : (h : HeaderFields) (d : LineFault) → body h ≡ Err d → (Code ≡ d) × (¬ Body h.rest)
  pub refused : (h : HeaderFields) → (¬ Body h.rest) → body h ≡ Err Code

-- if `body` is a reader of what follows the colon, as `ReadsBody` has it, and `line_at` gives a fault, that fault names the
-- first bad field of the line, as `FirstBadField` has it
pub line_fault : {A : Type 0} (signature : List ℕ) (body : HeaderFields → Result A LineFault) (Body : List ℕ → Type 0) → ReadsBody body Body
    → (line : List ℕ) (d : LineFault) → line_at signature body line ≡ Err d → FirstBadField signature Body line d
line_fault signature body Body reads line d e = elim (bind_err (header_at signature line) body d e) [
  | inl h ↦ header_fault signature Body line d h
  | inr a ↦
      let bad = reads.named a.0 d a.2 in
      let it : FirstBadField signature Body line Code = (a.0.rest, past_colon signature line a.0 (header_found signature line a.0 a.1), bad.1) in
      subst (λ (f : LineFault). FirstBadField signature Body line f) bad.0 it
]

-- if `body` is a reader of what follows the colon, as `ReadsBody` has it, and a fault names the first bad field of the line,
-- as `FirstBadField` has it, `line_at` gives that fault
pub line_bad : {A : Type 0} (signature : List ℕ) (body : HeaderFields → Result A LineFault) (Body : List ℕ → Type 0) → ReadsBody body Body
    → (line : List ℕ) (f : LineFault) → FirstBadField signature Body line f → line_at signature body line ≡ Err f
unfolding header_at
line_bad signature body Body reads line Signature bad =
    bind_stop (header_at signature line) body Signature (bind_stop (signature_at signature line) _ Signature (none_means_fault _ _ _ (signature_reads signature) line bad))
line_bad signature body Body reads line Number bad =
    let at : header_at signature line ≡ Err Number = header_past_signature signature line bad.0 bad.1
    ∙ bind_stop (number_at Number bad.0) (λ number. read_from_id number.0 number.1) Number (none_means_fault _ _ _ (number_reads Number) bad.0 (λ x. bad.2 x.0 x.1)) in
    bind_stop (header_at signature line) body Number at
line_bad signature body Body reads line Id bad =
    let at : header_at signature line ≡ Err Id = header_past_number signature line bad.0 bad.1
    ∙ bind_stop (id_at bad.0) (λ id. read_from_colon bad.1.number id.0 id.1) Id (none_means_fault _ _ _ id_reads bad.0 (λ x. bad.2 x.0 x.1)) in
    bind_stop (header_at signature line) body Id at
line_bad signature body Body reads line Colon bad =
    let at : header_at signature line ≡ Err Colon = header_past_id signature line bad.0 bad.1
    ∙ bind_stop (colon_at bad.0) (λ r. Ok (record { number = bad.1.before.number; id = bad.1.id; rest = r })) Colon (none_means_fault _ _ _ colon_reads bad.0 bad.2) in
    bind_stop (header_at signature line) body Colon at
line_bad signature body Body reads line Code bad =
    let h : HeaderFields = record { number = bad.1.before.before.number; id = bad.1.before.id; rest = bad.0 } in
    bind_on (header_at signature line) body h (header_past_colon signature line bad.0 bad.1) ∙ reads.refused h bad.2
line_bad signature body Body reads line TooLong bad = absurd bad
