-- The test `may_have` holds of all parameters that a procedure that isn't in the table may be asked for with.
use Rattle.gc_catalogue.proofs.Common.{◌≡◌, ◌≢◌, ◌+◌, ◌≤◌, ◌==◌, ◌%◌, ◌&&◌, ◌++◌, ℕ, zero, suc, Bool, true, false, not, nat_le, nat_lt, List, [], length, replicate, refl, sym, ap, subst, inl, inr, ◌∙◌, arith, Result, Ok, Err, AllByRecursion, list_all, recursion_from_All, IsPlainByte, pieces_of, even_not_odd, joined, quoted_after, quotes, ArePieces, HasCommasInQuotes, IsParams, AreBytes, is_plain_byte, may_have, outer_commas, outer_commas-append, padded_front, quoted_by, quoted_by_quotes, closed_by, raw_bytes, IsRawCall, line_length, RawCall}
use Rattle.std.proofs.Common.{◌<◌, ◌∷◌}
use Rattle.std.specs.Result.{result_ok}
use Rattle.std.proofs.lemmas.Bool.Decides.{eqb_tells}
use Rattle.gc_values.proofs.Quotes.{IsPiece}
use Rattle.gc_catalogue.proofs.RawRules.{few_items}
use Rattle.gc_catalogue.specs.RawAgain.{request_if, with_params}

-- each comma of a text is behind an open double quote; `quoted` says whether one is open before the text
abbrev AreWithin : (quoted : Bool) → List ℕ → Type 0
AreWithin quoted text = (front rest : List ℕ) → text ≡ front ++ 44 ∷ rest → quoted_by quoted front ≡ true

-- a first byte is no comma outside double quotes
first_within : (quoted : Bool) (b : ℕ) → (b ≡ 44 → quoted ≡ true) → ((b == 44) && not quoted) ≡ false
first_within true b h = elim (eqb_tells b 44) [ inl comma ↦ ap (λ t. t && false) comma.0 | inr other ↦ ap (λ t. t && false) other.0 ]
first_within false b h = elim (eqb_tells b 44) [
  | inl comma ↦ let wrong : false ≡ true = h comma.1 in cc
  | inr other ↦ ap (λ t. t && true) other.0
]

-- where each comma is behind an open double quote, none is outside
none_outside : (quoted : Bool) (text : List ℕ) → AreWithin quoted text → outer_commas quoted text ≡ 0
none_outside quoted [] h = refl
none_outside quoted (b ∷ bs) h =
    let first : ((b == 44) && not quoted) ≡ false = first_within quoted b (λ comma. h [] bs (ap (λ c. c ∷ bs) comma)) in
    let rest : outer_commas (quoted_after b quoted) bs ≡ 0 = none_outside (quoted_after b quoted) bs (λ front behind cut. h (b ∷ front) behind (ap (λ l. b ∷ l) cut)) in
    rw first (ap (λ k. 0 + k) rest)

-- commas within quotes are none outside them
within_quotes : (text : List ℕ) → HasCommasInQuotes text → outer_commas false text ≡ 0
within_quotes text h =
    none_outside false text (λ front rest cut. elim (quoted_by_quotes false front) [
      | inl even ↦ absurd (even_not_odd (quotes front) even.0 (h front rest cut))
      | inr odd ↦ odd.1
    ])

-- pieces have one comma outside double quotes between each two
pieces_commas : (p : List ℕ) (ps : List (List ℕ)) → AllByRecursion IsPiece (p ∷ ps) → outer_commas false (joined (p ∷ ps)) ≡ length ps
pieces_commas p [] h = outer_commas-append false p [] ∙ ap (λ n. n + 0) (within_quotes p h.0.keeps)
pieces_commas p (q ∷ qs) h =
    let rest : outer_commas false (joined (q ∷ qs)) ≡ length qs = pieces_commas q qs h.1 in
    let cut : outer_commas false (joined (p ∷ q ∷ qs)) ≡ outer_commas false p + outer_commas (quoted_by false p) (44 ∷ joined (q ∷ qs)) =
    outer_commas-append false p (44 ∷ joined (q ∷ qs)) in
    let none : outer_commas false p ≡ 0 = within_quotes p h.0.keeps in
    let closed : outer_commas (quoted_by false p) (44 ∷ joined (q ∷ qs)) ≡ 1 + outer_commas false (joined (q ∷ qs)) =
    ap (λ b. outer_commas b (44 ∷ joined (q ∷ qs))) (closed_by p h.0.even) in
    omega (arith, rest, cut, none, closed)

-- pieces are as many as items
as_many : (pieces items : List (List ℕ)) → ArePieces pieces items → length pieces ≡ length items
as_many [] [] h = refl
as_many [] (i ∷ is) h = absurd h
as_many (p ∷ ps) [] h = absurd h
as_many (p ∷ ps) (i ∷ is) h = ap (λ n. suc n) (as_many ps is h.2)

-- items that join to a text have one comma outside double quotes between each two
joined_commas : (pieces items : List (List ℕ)) (i : List ℕ) → ArePieces pieces (i ∷ items) → outer_commas false (joined pieces) ≡ length items
joined_commas [] items i h = absurd h
joined_commas (p ∷ ps) items i h = pieces_commas p ps (pieces_of (p ∷ ps) (i ∷ items) h) ∙ as_many ps items h.2

-- spaces have no comma
spaces_have_none : (n : ℕ) → outer_commas false (replicate n 32) ≡ 0
spaces_have_none zero = refl
spaces_have_none (suc n) = ap (λ k. 0 + k) (spaces_have_none n)

-- a list of at most 16 parameters has less than 16 commas outside double quotes
few_commas : (params : List ℕ) (items : List (List ℕ)) → IsParams params items → length items ≤ 16 → outer_commas false params < 16
few_commas params [] is few =
    let none : outer_commas false params ≡ 0 = ap (outer_commas false) is.1 ∙ spaces_have_none is.0 in
    omega (arith, none)
few_commas params (i ∷ items) is few =
    let all : outer_commas false params ≡ length items = ap (outer_commas false) is.bytes_are ∙ joined_commas is.pieces items i is.pieces_are in
    omega (arith, all, few)

-- a byte other than this one
not_this : (b n : ℕ) → b ≢ n → not (b == n) ≡ true
not_this b n h = elim (eqb_tells b n) [ inl same ↦ absurd (h same.1) | inr other ↦ ap not other.0 ]

-- what is below a bound passes the test
passes_lt : (a b : ℕ) → a < b → nat_lt a b ≡ true
passes_lt a b h = grind arith

passes_le : (a b : ℕ) → a ≤ b → nat_le a b ≡ true
passes_le a b h = grind arith

passes_eq : (a b : ℕ) → a ≡ b → (a == b) ≡ true
passes_eq a b h = elim (eqb_tells a b) [ inl same ↦ same.0 | inr other ↦ absurd (other.1 h) ]

-- two that hold
both_hold : (a b : Bool) → a ≡ true → b ≡ true → (a && b) ≡ true
both_hold a b h k = ap (λ t. t && b) h ∙ k

-- bytes that may be inside a line pass their test
bytes_pass : (bs : List ℕ) → AllByRecursion (λ b. b < 256) bs → AllByRecursion IsPlainByte bs → list_all is_plain_byte bs ≡ true
bytes_pass [] h k = refl
bytes_pass (b ∷ bs) h k =
    both_hold (is_plain_byte b) (list_all is_plain_byte bs)
    (both_hold (nat_lt b 256) (not (b == 10) && not (b == 13)) (passes_lt b 256 h.0)
    (both_hold (not (b == 10)) (not (b == 13)) (not_this b 10 k.0.0) (not_this b 13 k.0.1)))
    (bytes_pass bs h.1 k.1)

-- parameters that a procedure that isn't in the table may be asked for with pass the test
pub tested_so : (rpc : ℕ) (params : List ℕ) → AreBytes params → IsRawCall rpc params → may_have rpc params ≡ true
tested_so rpc params bytes is =
    let few = few_items params is.closed is.few in
    let plain = list_all is_plain_byte params in
    let short = nat_le (line_length rpc params) 512 in
    let closed = quotes params % 2 == 0 in
    let commas = nat_lt (outer_commas false params) 16 in
    both_hold plain (short && (closed && commas))
    (bytes_pass params (recursion_from_All (λ b. b < 256) params bytes) (recursion_from_All IsPlainByte params is.plain))
    (both_hold short (closed && commas) (passes_le (line_length rpc params) 512 is.short)
    (both_hold closed commas (passes_eq (quotes params % 2) 0 is.closed) (passes_lt (outer_commas false params) 16 (few_commas params few.0 few.1 few.2))))

-- where requests for a number and parameters are this one or none, the one for the procedure of `raw` is what `request_if` says
asked_if : {E : Type 0} (raw : RawCall) (params : List ℕ) (b : Bool) (h : may_have raw.rpc params ≡ b) (result : Result RawCall E) → AreBytes params
    → ((other : RawCall) → other.rpc ≡ raw.rpc → raw_bytes other.params ≡ params → result ≡ Ok other)
    → ((other : RawCall) → result ≡ Ok other → (other.rpc ≡ raw.rpc) × (raw_bytes other.params ≡ params))
    → result_ok result ≡ request_if raw params b h
asked_if raw params true h result bytes only found = ap result_ok (only _ refl (padded_front params))
asked_if raw params false h (Ok other) bytes only found =
    let same = found other refl in
    let is : IsRawCall raw.rpc params = subst (λ n. IsRawCall n params) same.0 (subst (IsRawCall other.rpc) same.1 other.is) in
    let wrong : true ≡ false = sym (tested_so raw.rpc params bytes is) ∙ h in
    cc
asked_if raw params false h (Err e) bytes only found = refl

-- a request with other parameters
pub asked_again : {E : Type 0} (raw : RawCall) (params : List ℕ) (result : Result RawCall E) → AreBytes params
    → ((other : RawCall) → other.rpc ≡ raw.rpc → raw_bytes other.params ≡ params → result ≡ Ok other)
    → ((other : RawCall) → result ≡ Ok other → (other.rpc ≡ raw.rpc) × (raw_bytes other.params ≡ params))
    → result_ok result ≡ with_params raw params
asked_again raw params result = asked_if raw params (may_have raw.rpc params) refl result
