-- Each field's reader finds just what has the field's form.
use Rattle.gc_lines.proofs.Common.{◌≡◌, ℕ, ◌+◌, ◌-◌, ◌&&◌, true, false, cond, List, [], ◌∷◌, ◌++◌, length, take, drop, get_or, Option, Some, None, Result, Ok, Err, refl, sym, ap, ◌∙◌, subst, arith, eqb, digits_value, take-append-drop, take_at, drop_at, ltb-true, lt-ltb, eqb-true, eq-eqb, and_parts, ltb, LineFault, Signature, Id, Colon, IsSmallNumber, HasNumber, NoDigitFirst, HasId, EndsId, IsIdInRange, id_text, PastSignature, number_at, digits_len, signature_at, id_at, colon_at}
use Rattle.std.specs.Cmp.Lexicographic.{bytes_decides}
use Rattle.gc_lines.proofs.Digits.{same_run, run_digits, run_stops, run_length, run_of_length_one, run_of_digit}
use Rattle.gc_lines.proofs.Reading.{ReadsField, guard_ok, guard_err}

-- the signature

-- if `signature_at` gives `rest`, the line is the signature and then `rest`
signature_found : (signature line rest : List ℕ) → signature_at signature line ≡ Ok rest → line ≡ signature ++ rest
signature_found signature line rest e =
    let n = length signature in
    let g = guard_ok _ (drop n line) rest Signature e in
    let front : take n line ≡ signature = (bytes_decides (take n line) signature).0 g.0 in
    sym (take-append-drop n line) ∙ ap (λ f. f ++ drop n line) front ∙ ap (λ t. signature ++ t) g.1

-- if the line is the signature and then `rest`, `signature_at` gives `rest`
signature_again : (signature line rest : List ℕ) → line ≡ signature ++ rest → signature_at signature line ≡ Ok rest
signature_again signature line rest e =
    let front : take (length signature) line ≡ signature = ap (λ l. take (length signature) l) e ∙ take_at signature rest (length signature) refl in
    rw ((bytes_decides (take (length signature) line) signature).1 front) (ap (λ (r : List ℕ). Ok r) (ap (λ l. drop (length signature) l) e ∙ drop_at signature rest (length signature) refl))

-- `signature_at` gives `rest` exactly if the line is the signature and then `rest`, and its one fault is `Signature`
pub signature_reads : (signature : List ℕ) → ReadsField (signature_at signature) (λ line rest. PastSignature signature line rest) Signature
signature_reads signature = record {
  found = signature_found signature;
  again = signature_again signature;
  named = λ line d e. (guard_err _ (drop (length signature) line) Signature d e).1;
}

-- a number

-- if `number_at` gives a number and what follows it, the bytes have the form of these, as `HasNumber` has it
number_found : (f : LineFault) (bytes : List ℕ) (x : ℕ × List ℕ) → number_at f bytes ≡ Ok x → HasNumber bytes x.0 x.1
number_found f bytes x e =
    let len = digits_len bytes in
    let g = guard_ok _ (digits_value 10 (take len bytes), drop len bytes) x f e in
    let t = and_parts _ _ g.0 in
    let u = and_parts _ _ t.1 in
    let value : digits_value 10 (take len bytes) ≡ x.0 = ap (λ (p : ℕ × List ℕ). p.0) g.1 in
    let rest : drop len bytes ≡ x.1 = ap (λ (p : ℕ × List ℕ). p.1) g.1 in
    let l : length (take len bytes) ≡ len = ap (λ n. length (take n bytes)) (same_run bytes) in
    record {
      text = take len bytes;
      is_number = record {
        some = omega (arith, l, ltb-true 0 len t.0);
        few = omega (arith, l, ltb-true len 6 u.0);
        digits = run_digits bytes;
        value = value;
        bound = omega (arith, value, ltb-true _ _ u.1);
      };
      whole = sym (take-append-drop len bytes) ∙ ap (λ r. take len bytes ++ r) rest;
      ends = subst NoDigitFirst rest (run_stops bytes);
    }

-- if `text` is a number's, and `rest` doesn't begin with a digit, `number_at` gives the number and `rest` for `text ++ rest`
number_of_text : (f : LineFault) (text rest : List ℕ) (n : ℕ) → IsSmallNumber text n → NoDigitFirst rest → number_at f (text ++ rest) ≡ Ok (n, rest)
number_of_text f text rest n h stop =
    rw (
      run_length text rest h.digits stop,
      take_at text rest (length text) refl,
      drop_at text rest (length text) refl,
      h.value,
      lt-ltb 0
          (length text) h.some,
      lt-ltb (length text) 6 (omega (arith, h.few)),
      lt-ltb n 65536 h.bound,
    ) refl

-- if the bytes have the form of a number and what follows it, as `HasNumber` has it, `number_at` gives these
number_again : (f : LineFault) (bytes : List ℕ) (x : ℕ × List ℕ) → HasNumber bytes x.0 x.1 → number_at f bytes ≡ Ok x
number_again f bytes x has = ap (number_at f) has.whole ∙ number_of_text f has.text x.1 x.0 has.is_number has.ends

-- `number_at` gives a number and what follows it exactly if the bytes have the form of these, and its one fault is f
pub number_reads : (f : LineFault) → ReadsField (number_at f) (λ bytes x. HasNumber bytes x.0 x.1) f
number_reads f = record {
  found = number_found f;
  again = number_again f;
  named = λ bytes d e. (guard_err _ (digits_value 10 (take (digits_len bytes) bytes), drop (digits_len bytes) bytes) f d e).1;
}

-- the id

-- if no comma comes first, the bytes have the form of no id with all of them behind it
id_none : (bytes : List ℕ) → eqb (get_or bytes 0 0) 44 ≡ false → HasId bytes None bytes
id_none bytes e = record {
  below = tt;
  whole = refl;
  ends = λ after same. let t = eq-eqb (get_or bytes 0 0) 44 (ap (λ b. get_or b 0 0) same) in (cc);
}

-- if `id_at` gives an id and what follows it for a comma and at least one byte behind it, these bytes have the form of both
id_some : (b : ℕ) (bs : List ℕ) (x : Option ℕ × List ℕ)
    → cond (eqb (digits_len (b ∷ bs)) 1 && ltb b 56) (Ok (Some (b - 48), bs)) (Err Id) ≡ Ok x → HasId (44 ∷ b ∷ bs) x.0 x.1
id_some b bs x e =
    let g = guard_ok _ (Some (b - 48), bs) x Id e in
    let t = and_parts _ _ g.0 in
    let low = run_of_length_one b bs (eqb-true _ _ t.0) in
    let back : 48 + (b - 48) ≡ b = omega arith in
    let it : HasId (44 ∷ b ∷ bs) (Some (b - 48)) bs = record {
      below = omega (arith, ltb-true b 56 t.1);
      whole = ap (λ n. 44 ∷ n ∷ bs) (sym back);
      ends = low.2;
    } in subst (λ (p : Option ℕ × List ℕ). HasId (44 ∷ b ∷ bs) p.0 p.1) g.1 it

-- if `id_at` gives an id or none, and what follows it, the bytes have the form of these, as `HasId` has it
id_found : (bytes : List ℕ) (x : Option ℕ × List ℕ) → id_at bytes ≡ Ok x → HasId bytes x.0 x.1
id_found [] x e = let same : (let p : Option ℕ × List ℕ = (None, []) in p) ≡ x = cc in subst (λ (p : Option ℕ × List ℕ). HasId [] p.0 p.1) same (id_none [] refl)
id_found (a ∷ bs) x e = elim (eqb a 44) as (λ v. eqb a 44 ≡ v → cond v
    (cond (eqb (digits_len bs) 1 && ltb (get_or bs 0 0) 56) (Ok (Some (get_or bs 0 0 - 48), drop 1 bs)) (Err Id)) (Ok (None, a ∷ bs)) ≡ Ok x
    → HasId (a ∷ bs) x.0 x.1) [
      | true ↦ λ t f. subst (λ (n : ℕ). HasId (n ∷ bs) x.0 x.1) (sym (eqb-true a 44 t)) (id_after bs x f)
      | false ↦ λ t f. let same : (let p : Option ℕ × List ℕ = (None, a ∷ bs) in p) ≡ x = cc in subst (λ (p : Option ℕ × List ℕ). HasId (a ∷ bs) p.0 p.1) same (id_none (a ∷ bs) t)
    ] refl e where
      -- if `id_at` gives an id and what follows it for a comma and then bs, which may be empty, the bytes have the form of
      -- these
      id_after : (bs : List ℕ) (x : Option ℕ × List ℕ) → cond (eqb (digits_len bs) 1 && ltb (get_or bs 0 0) 56) (Ok (Some (get_or bs 0 0 - 48), drop 1 bs)) (Err Id) ≡ Ok x → HasId (44 ∷ bs) x.0 x.1
      id_after [] x f = (cc)
      id_after (b ∷ cs) x f = id_some b cs x f

-- `rest` doesn't begin with a comma if it follows a number without an id, as `EndsId` has it
no_comma_first : (rest : List ℕ) → EndsId None rest → eqb (get_or rest 0 0) 44 ≡ false
no_comma_first [] h = refl
no_comma_first (b ∷ bs) h = elim (eqb b 44) as (λ v. eqb b 44 ≡ v → v ≡ false) [
  | true ↦ λ t. absurd (h bs (ap (λ n. n ∷ bs) (eqb-true b 44 t)))
  | false ↦ λ _. refl
] refl

-- if an id, or none, is in range, and its field ends before `rest`, as `EndsId` has it, `id_at` gives it and `rest` for its text
-- and then `rest`
id_of_text : (id : Option ℕ) (rest : List ℕ) → IsIdInRange id → EndsId id rest → id_at (id_text id ++ rest) ≡ Ok (id, rest)
id_of_text None rest below ends = rw (no_comma_first rest ends) refl
id_of_text (Some i) rest below ends =
    rw (run_of_digit i rest (omega arith) ends, lt-ltb (48 + i) 56 (omega arith)) (ap (λ n. Ok (Some n, rest)) (omega arith))

-- if the bytes have the form of an id or of none, and of what follows it, as `HasId` has it, `id_at` gives these
id_again : (bytes : List ℕ) (x : Option ℕ × List ℕ) → HasId bytes x.0 x.1 → id_at bytes ≡ Ok x
id_again bytes x has = ap id_at has.whole ∙ id_of_text x.0 x.1 has.below has.ends

-- what was read isn't a fault: if the value x were the fault d, any fault f would be d
ok_no_fault : {A : Type 0} (x : A) (d f : LineFault) → Ok x ≡ Err d → f ≡ d
ok_no_fault x d f e = (cc)

-- if `id_at` gives a fault, the fault is `Id`
id_fault_is_id : (bytes : List ℕ) (d : LineFault) → id_at bytes ≡ Err d → Id ≡ d
id_fault_is_id [] d e = let x : Option ℕ × List ℕ = (None, []) in ok_no_fault x d Id e
id_fault_is_id (a ∷ bs) d e = elim (eqb a 44) as (λ v. cond {A = Result (Option ℕ × List ℕ) LineFault} v
    (cond (eqb (digits_len bs) 1 && ltb (get_or bs 0 0) 56) (Ok (Some (get_or bs 0 0 - 48), drop 1 bs)) (Err Id)) (Ok (None, a ∷ bs)) ≡ Err d → Id ≡ d) [
      | true ↦ λ f. (let x : Option ℕ × List ℕ = (Some (get_or bs 0 0 - 48), drop 1 bs) in guard_err _ x Id d f).1
      | false ↦ λ f. let x : Option ℕ × List ℕ = (None, a ∷ bs) in ok_no_fault x d Id f
    ] e

-- `id_at` gives an id or none, and what follows it, exactly if the bytes have the form of these, and its one fault is `Id`
pub id_reads : ReadsField id_at (λ bytes x. HasId bytes x.0 x.1) Id
id_reads = record { found = id_found; again = id_again; named = id_fault_is_id }

-- the colon

-- if `colon_at` gives `rest`, the bytes are a colon and then `rest`
colon_found : (bytes rest : List ℕ) → colon_at bytes ≡ Ok rest → bytes ≡ 58 ∷ rest
colon_found [] rest e = (cc)
colon_found (a ∷ bs) rest e = let g = guard_ok (eqb a 58) bs rest Colon e in (let t = eqb-true a 58 g.0 in cc)

-- `colon_at` gives `rest` exactly if the bytes are a colon and then `rest`, and its one fault is `Colon`
pub colon_reads : ReadsField colon_at (λ bytes rest. bytes ≡ 58 ∷ rest) Colon
colon_reads = record {
  found = colon_found;
  again = λ bytes rest e. ap colon_at e;
  named = λ bytes d e. (guard_err (eqb (get_or bytes 0 0) 58) (drop 1 bytes) Colon d e).1;
}
