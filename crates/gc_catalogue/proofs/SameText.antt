-- Texts of the same bytes are equal: the unused bytes are zero, and the facts that a text carries have one proof each. Below, a
-- text's *places* are all its 503 bytes (`bytes`), its *count* says how many of them are used (`len`), and its bytes are those
-- (`raw_bytes`).
use Rattle.gc_catalogue.proofs.Common.{◌≡◌, ◌-◌, ◌≤◌, ◌++◌, ℕ, List, length, take, drop, replicate, sym, ap, ◌∙◌, subst, arith, length-take-le, take-append-drop, AreBytes, raw_bytes, RawText}
use Rattle.std.proofs.Props.{props}

-- the facts that a text with these places and this count carries
record Facts (bytes : List ℕ) (len : ℕ) : Type 0 where
  few : len ≤ 503
  long : length bytes ≡ 503
  zeros : drop len bytes ≡ replicate (503 - len) 0
  are_bytes : AreBytes (take len bytes)

-- the facts of a text
abbrev facts_of : (t : RawText) → Facts t.bytes t.len
facts_of t = record { few = t.few; long = t.long; zeros = t.zeros; are_bytes = t.are_bytes }

-- the text with these places and this count, and these proofs of its facts
abbrev text_of : (bytes : List ℕ) (len : ℕ) → Facts bytes len → RawText
text_of bytes len facts = record { bytes = bytes; len = len; few = facts.few; long = facts.long; zeros = facts.zeros; are_bytes = facts.are_bytes }

-- the facts of a text (`Facts`) have at most one proof
one_proof : (bytes : List ℕ) (len : ℕ) → IsProp (Facts bytes len)
one_proof bytes len x y =
    let few_prop : IsProp (len ≤ 503) = hlevel props in
    let long_prop : IsProp (length bytes ≡ 503) = hlevel props in
    let zeros_prop : IsProp (drop len bytes ≡ replicate (503 - len) 0) = hlevel props in
    let are_bytes_prop : IsProp (AreBytes (take len bytes)) = hlevel props in
    λ i. record {
      few = few_prop x.few y.few i;
      long = long_prop x.long y.long i;
      zeros = zeros_prop x.zeros y.zeros i;
      are_bytes = are_bytes_prop x.are_bytes y.are_bytes i;
    }

-- texts of equal places and counts are equal, whatever the proofs of their facts are
same_parts : (a b : RawText) → a.bytes ≡ b.bytes → a.len ≡ b.len → a ≡ b
same_parts a b places count =
    let P : List ℕ → Type 0 = λ bytes. (facts : Facts bytes b.len) → a ≡ text_of bytes b.len facts in
    let Q : ℕ → Type 0 = λ len. (facts : Facts a.bytes len) → a ≡ text_of a.bytes len facts in
    subst P places (subst Q count (λ facts. ap (text_of a.bytes a.len) (one_proof a.bytes a.len (facts_of a) facts))) (facts_of b)

-- a text's count is how many bytes it has
count_is_length : (t : RawText) → length (raw_bytes t) ≡ t.len
count_is_length t = length-take-le t.len t.bytes (let few = t.few in let long = t.long in omega (arith, few, long))

-- a text's places are its bytes, and zeros after them, up to 503
places_are_filled : (t : RawText) → t.bytes ≡ raw_bytes t ++ replicate (503 - length (raw_bytes t)) 0
places_are_filled t = sym (take-append-drop t.len t.bytes) ∙ ap (λ zs. raw_bytes t ++ zs) t.zeros ∙ ap (λ n. raw_bytes t ++ replicate (503 - n) 0) (sym (count_is_length t))

-- texts of the same bytes are equal
pub same_text : (a b : RawText) → raw_bytes a ≡ raw_bytes b → a ≡ b
same_text a b e =
    let places : a.bytes ≡ b.bytes = places_are_filled a ∙ ap (λ bs. bs ++ replicate (503 - length bs) 0) e ∙ sym (places_are_filled b) in
    let count : a.len ≡ b.len = sym (count_is_length a) ∙ ap length e ∙ count_is_length b in
    same_parts a b places count
