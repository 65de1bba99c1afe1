-- From the test `may_have` to what a request for a procedure that isn't in the table carries, so that `with_params` of `RawAgain` is a
-- function: this project's own.
use Rattle.std.proofs.Common.{◌≡◌, ◌≢◌, ◌+◌, ◌-◌, ◌<◌, ◌≤◌, ◌==◌, ◌%◌, ◌&&◌, ◌++◌, ◌⊎◌, ℕ, zero, suc, Bool, true, false, not, cond, eqb, nat_le, nat_lt, List, [], ◌∷◌, length, take, drop, replicate, refl, sym, ap, inl, inr, ◌∙◌, arith, length-append, zero-add}
use Rattle.std.specs.Prelude.{Option, Some, if◌then◌else◌}
use Rattle.std.specs.Cmp.{first_so, second_so}
use Rattle.std.specs.Fmt.{decimal}
use Rattle.std.specs.List.{AllByRecursion, list_all}
use Rattle.std.proofs.Math.Seq.{take-append_seam}
use Rattle.std.proofs.Transfers.{drop-appended}
use Rattle.std.proofs.lemmas.Bool.{ltb-true}
use Rattle.std.proofs.lemmas.Bool.Decides.{eqb_tells}
use Rattle.std.proofs.lemmas.Fmt.{decimal_nonempty}
use Rattle.std.proofs.lemmas.List.{length-replicate}
use Rattle.std.proofs.lemmas.List.Elements.{All-from_recursion}
use Rattle.std.proofs.lemmas.List.Sums.{sum_by-cons}
use borrow.Author.Tests.{leb-true, eqb-true}
use Rattle.gc_lines.specs.Prelude.{id_text, IsPlainByte, request_signature, request_text}
use Rattle.gc_values.specs.Prelude.{joined, quoted_after, quotes, ArePieces, IsPadded, IsParam, IsParams}
use Rattle.gc_catalogue.specs.Bytes.{AreBytes}
use Rattle.gc_catalogue.specs.Raws.{IsRawCall, line_length}

-- how many commas of a text aren't within double quotes; `quoted` says whether a double quote is open before it
abbrev pub outer_commas : (quoted : Bool) → List ℕ → ℕ
outer_commas quoted [] = 0
outer_commas quoted (b ∷ bs) = (if (b == 44) && not quoted then 1 else 0) + outer_commas (quoted_after b quoted) bs

-- whether a number is a byte that may be inside a line: neither CR nor LF
abbrev pub is_plain_byte : ℕ → Bool
is_plain_byte b = nat_lt b 256 && (not (b == 10) && not (b == 13))

-- whether a procedure that isn't in the table may be asked for with these parameters: the test of `IsRawCall`, but for the procedure's
-- number. A list of items has one more of them than commas outside double quotes, or none
abbrev pub may_have : (rpc : ℕ) → (params : List ℕ) → Bool
may_have rpc params =
    list_all is_plain_byte params && (nat_le (line_length rpc params) 512 && ((quotes params % 2 == 0) && nat_lt (outer_commas false params) 16))

-- whether a double quote is open after a text; `quoted` says whether one is before it
abbrev pub quoted_by : (quoted : Bool) → List ℕ → Bool
quoted_by quoted [] = quoted
quoted_by quoted (b ∷ bs) = quoted_by (quoted_after b quoted) bs

-- after two texts in a row, what is open after the second
quoted_by-append : (q : Bool) (xs ys : List ℕ) → quoted_by q (xs ++ ys) ≡ quoted_by (quoted_by q xs) ys
quoted_by-append q [] ys = refl
quoted_by-append q (x ∷ xs) ys = quoted_by-append (quoted_after x q) xs ys

-- spaces change nothing
quoted_by-spaces : (q : Bool) (n : ℕ) → quoted_by q (replicate n 32) ≡ q
quoted_by-spaces q zero = refl
quoted_by-spaces q (suc n) = quoted_by-spaces q n

-- an even number of double quotes changes nothing, and an odd one turns it round
abbrev pub IsQuotedBy : (q : Bool) → List ℕ → Type 0
IsQuotedBy q text = ((quotes text % 2 ≡ 0) × (quoted_by q text ≡ q)) ⊎ ((quotes text % 2 ≡ 1) × (quoted_by q text ≡ not q))

-- what is not twice is as it was
not_twice : (q : Bool) → not (not q) ≡ q
not_twice true = refl
not_twice false = refl

-- a double quote in front of a text
quote_more : (q : Bool) (b : ℕ) (bs : List ℕ) → (b == 34) ≡ true → IsQuotedBy (not q) bs → IsQuotedBy q (b ∷ bs)
quote_more q b bs e (inl even) =
    let one : quotes (b ∷ bs) ≡ 1 + quotes bs = sum_by-cons (λ b. cond (eqb b 34) 1 0) b bs ∙ ap (λ c. cond c 1 0 + quotes bs) e in
    let turned : quoted_by q (b ∷ bs) ≡ quoted_by (not q) bs = ap (λ c. quoted_by (cond c (not q) q) bs) e in
    let h = even.0 in
    inr (omega arith, turned ∙ even.1)
quote_more q b bs e (inr odd) =
    let one : quotes (b ∷ bs) ≡ 1 + quotes bs = sum_by-cons (λ b. cond (eqb b 34) 1 0) b bs ∙ ap (λ c. cond c 1 0 + quotes bs) e in
    let turned : quoted_by q (b ∷ bs) ≡ quoted_by (not q) bs = ap (λ c. quoted_by (cond c (not q) q) bs) e in
    let h = odd.0 in
    inl (omega arith, turned ∙ odd.1 ∙ not_twice q)

-- another byte in front of a text
other_more : (q : Bool) (b : ℕ) (bs : List ℕ) → (b == 34) ≡ false → IsQuotedBy q bs → IsQuotedBy q (b ∷ bs)
other_more q b bs e is =
    let none : quotes (b ∷ bs) ≡ 0 + quotes bs = sum_by-cons (λ b. cond (eqb b 34) 1 0) b bs ∙ ap (λ c. cond c 1 0 + quotes bs) e in
    let kept : quoted_by q (b ∷ bs) ≡ quoted_by q bs = ap (λ c. quoted_by (cond c (not q) q) bs) e in
    elim is [
      | inl even ↦ let h = even.0 in inl (omega arith, kept ∙ even.1)
      | inr odd ↦ let h = odd.0 in inr (omega arith, kept ∙ odd.1)
    ]

-- what is open after a text is known by its number of double quotes
pub quoted_by_quotes : (q : Bool) (text : List ℕ) → IsQuotedBy q text
quoted_by_quotes q [] = inl (refl, refl)
quoted_by_quotes q (b ∷ bs) = elim (eqb_tells b 34) [
  | inl quote ↦ quote_more q b bs quote.0 (quoted_by_quotes (not q) bs)
  | inr other ↦ other_more q b bs other.0 (quoted_by_quotes q bs)
]

-- after an even number of double quotes none is open
pub closed_by : (text : List ℕ) → quotes text % 2 ≡ 0 → quoted_by false text ≡ false
closed_by text h = elim (quoted_by_quotes false text) [ inl even ↦ even.1 | inr odd ↦ let o = odd.0 in absurd (omega (arith, h, o)) ]

-- the commas outside double quotes of two texts in a row
pub outer_commas-append : (q : Bool) (xs ys : List ℕ) → outer_commas q (xs ++ ys) ≡ outer_commas q xs + outer_commas (quoted_by q xs) ys
outer_commas-append q [] ys = sym (zero-add (outer_commas q ys))
outer_commas-append q (b ∷ bs) ys = let rest = outer_commas-append (quoted_after b q) bs ys in omega (arith, rest)

-- no double quote is open after a parameter with any spaces round it
closed_by_piece : (piece item : List ℕ) → IsPadded piece item → IsParam item → quoted_by false piece ≡ false
closed_by_piece piece item is h =
    ap (quoted_by false) is.piece_is ∙ quoted_by-append false (replicate is.before 32) (item ++ replicate is.behind 32)
    ∙ ap (λ q. quoted_by q (item ++ replicate is.behind 32)) (quoted_by-spaces false is.before) ∙ quoted_by-append false item (replicate is.behind 32)
    ∙ quoted_by-spaces (quoted_by false item) is.behind ∙ closed_by item h.pairs

-- there are no more parameters than commas outside double quotes and one
parameters_few : (pieces items : List (List ℕ)) → ArePieces pieces items → length items ≤ 1 + outer_commas false (joined pieces)
parameters_few [] [] h = omega arith
parameters_few [] (i ∷ is) h = absurd h
parameters_few (p ∷ ps) [] h = absurd h
parameters_few (p ∷ []) (i ∷ []) h = omega arith
parameters_few (p ∷ []) (i ∷ j ∷ js) h = absurd h.2
parameters_few (p ∷ q ∷ qs) (i ∷ is) h =
    let rest : length is ≤ 1 + outer_commas false (joined (q ∷ qs)) = parameters_few (q ∷ qs) is h.2 in
    let cut : outer_commas false (joined (p ∷ q ∷ qs)) ≡ outer_commas false p + outer_commas (quoted_by false p) (44 ∷ joined (q ∷ qs)) =
    outer_commas-append false p (44 ∷ joined (q ∷ qs)) in
    let closed : outer_commas (quoted_by false p) (44 ∷ joined (q ∷ qs)) ≡ 1 + outer_commas false (joined (q ∷ qs)) =
    ap (λ b. outer_commas b (44 ∷ joined (q ∷ qs))) (closed_by_piece p i h.0 h.1) in
    omega (arith, rest, cut, closed)

-- where less than 16 commas are outside double quotes there are at most 16 parameters
sixteen : (params : List ℕ) (items : List (List ℕ)) → outer_commas false params < 16 → IsParams params items → length items ≤ 16
sixteen params [] few is = omega arith
sixteen params (i ∷ items) few is =
    let all = parameters_few is.pieces (i ∷ items) is.pieces_are in
    let same : outer_commas false params ≡ outer_commas false (joined is.pieces) = ap (outer_commas false) is.bytes_are in
    omega (arith, all, same, few)

-- how long a request's line is: a signature of five bytes and a colon, beside number, id and parameters
pub length-request : (rpc : ℕ) (id : Option ℕ) (params : List ℕ)
    → length (request_text (record { rpc = rpc; id = id; params = params })) ≡ 6 + length (decimal rpc) + length (id_text id) + length params
length-request rpc id params =
    omega (
      arith,
      length-append request_signature (decimal rpc ++ (id_text id ++ 58 ∷ params)),
      length-append (decimal rpc) (id_text id ++ 58 ∷ params),
      length-append (id_text id) (58 ∷ params),
    )

-- if a request's line with an id has at most 512 bytes, and its number has 16 bits, its parameters have at most 503 bytes
pub params_short : (rpc : ℕ) (params : List ℕ) → rpc < 65536 → line_length rpc params ≤ 512 → length params ≤ 503
params_short rpc params bound short = omega (arith, short, length-request rpc (Some 0) params, decimal_nonempty rpc (omega arith))

-- a byte that isn't this one
excluded : (b n : ℕ) → not (b == n) ≡ true → b ≢ n
excluded b n h e = elim (eqb_tells b n) [
  | inl same ↦ let wrong : false ≡ true = ap not (sym same.0) ∙ h in cc
  | inr other ↦ other.1 e
]

-- a byte that may be inside a line
plain_byte : (b : ℕ) → is_plain_byte b ≡ true → (b < 256) × IsPlainByte b
plain_byte b h =
    let ends = second_so (nat_lt b 256) (not (b == 10) && not (b == 13)) h in (
      ltb-true b 256 (first_so (nat_lt b 256) (not (b == 10) && not (b == 13)) h),
      (excluded b 10 (first_so (not (b == 10)) (not (b == 13)) ends), excluded b 13 (second_so (not (b == 10)) (not (b == 13)) ends)),
    )

-- bytes that may be inside a line
plain_bytes : (bs : List ℕ) → list_all is_plain_byte bs ≡ true → AllByRecursion (λ b. b < 256) bs × AllByRecursion IsPlainByte bs
plain_bytes [] h = (tt, tt)
plain_bytes (b ∷ bs) h =
    let first = plain_byte b (first_so (is_plain_byte b) (list_all is_plain_byte bs) h) in
    let rest = plain_bytes bs (second_so (is_plain_byte b) (list_all is_plain_byte bs) h) in
    ((first.0, rest.0), (first.1, rest.1))

-- the parts of the test
record IsTested (rpc : ℕ) (params : List ℕ) : Type 0 where
  plain : list_all is_plain_byte params ≡ true
  short : line_length rpc params ≤ 512
  closed : quotes params % 2 ≡ 0
  few : outer_commas false params < 16

-- the test has these parts
tested : (rpc : ℕ) (params : List ℕ) → may_have rpc params ≡ true → IsTested rpc params
tested rpc params h =
    let plain = list_all is_plain_byte params in
    let short = nat_le (line_length rpc params) 512 in
    let closed = quotes params % 2 == 0 in
    let few = nat_lt (outer_commas false params) 16 in
    let behind : (short && (closed && few)) ≡ true = second_so plain (short && (closed && few)) h in
    let last : (closed && few) ≡ true = second_so short (closed && few) behind in
    record {
      plain = first_so plain (short && (closed && few)) h;
      short = leb-true (line_length rpc params) 512 (first_so short (closed && few) behind);
      closed = eqb-true (quotes params % 2) 0 (first_so closed few last);
      few = ltb-true (outer_commas false params) 16 (second_so closed few last);
    }

-- where the test holds and the procedure may be asked for with other parameters, it may be with these
pub allowed : (rpc : ℕ) (others params : List ℕ) → IsRawCall rpc others → may_have rpc params ≡ true → IsRawCall rpc params
allowed rpc others params is h =
    let parts = tested rpc params h in
    record {
      bound = is.bound;
      no_procedure = is.no_procedure;
      plain = All-from_recursion IsPlainByte params (plain_bytes params parts.plain).1;
      short = parts.short;
      closed = parts.closed;
      few = λ items split. sixteen params items parts.few split;
    }

-- where the test holds there are at most 503 bytes of parameters
pub params_few : (rpc : ℕ) (params : List ℕ) → rpc < 65536 → may_have rpc params ≡ true → length params ≤ 503
params_few rpc params bound h = params_short rpc params bound (tested rpc params h).short

-- where the test holds these are bytes
pub params_bytes : (rpc : ℕ) (params : List ℕ) → may_have rpc params ≡ true → AreBytes params
params_bytes rpc params h = All-from_recursion (λ b. b < 256) params (plain_bytes params (tested rpc params h).plain).0

-- the bytes of the parameters with zeros behind them
abbrev pub padded : List ℕ → List ℕ
padded params = params ++ replicate (503 - length params) 0

-- these are 503
pub padded_long : (params : List ℕ) → length params ≤ 503 → length (padded params) ≡ 503
padded_long params few = omega (arith, length-append params (replicate (503 - length params) 0), length-replicate {A = ℕ} (503 - length params) 0)

-- what is behind the parameters there is zeros
pub padded_zeros : (params : List ℕ) → drop (length params) (padded params) ≡ replicate (503 - length params) 0
padded_zeros params = drop-appended params (padded params) (replicate (503 - length params) 0) refl

-- the parameters are at the front of them
pub padded_front : (params : List ℕ) → take (length params) (padded params) ≡ params
padded_front params = take-append_seam params (replicate (503 - length params) 0)
