-- What an assembler keeps of the rest, which is the bytes since the last line feed, as more bytes come.
use Rattle.gc_lines.proofs.Common.{◌≡◌, ℕ, ◌+◌, ◌-◌, ◌<◌, ◌≤◌, true, List, ◌++◌, length, take, get_or, sym, ◌∙◌, ap, arith, inl, inr, length-append, length-take, take_all, take-append-le, append-nil, get_or-append-add, cases_lt, lt-ltb, le-ltb, take-append-add, Kept, StandsFor, frame_of, Line}
use Rattle.std.proofs.Common.{eq-eqb}
use Rattle.arrayvec.specs.ArrayVec.{ArrayVec}

-- the first `cap` bytes of `rest ++ bytes` are the first `cap` of `rest`, and then the first `cap - length rest` of `bytes`
pub take-append : (cap : ℕ) (rest bytes : List ℕ) → take cap (rest ++ bytes) ≡ take cap rest ++ take (cap - length rest) bytes
take-append cap rest bytes = elim (cases_lt (length rest) cap) [
  | inr h ↦ let none : cap - length rest ≡ 0 = omega arith in rw (none, take-append-le cap rest bytes h) (sym (append-nil (take cap rest)))
  | inl h ↦ let sum : cap ≡ length rest + (cap - length rest) = omega arith in
      ap (λ n. take n (rest ++ bytes)) sum ∙ take-append-add rest bytes (cap - length rest) ∙ ap (λ xs. xs ++ take (cap - length rest) bytes) (sym (take_all cap rest (omega arith)))
]

-- if `bytes` has at least one byte, the last byte of `rest ++ bytes` is the last of `bytes`
pub last-append : (rest bytes : List ℕ) → 0 < length bytes → get_or (rest ++ bytes) (length (rest ++ bytes) - 1) 0 ≡ get_or bytes (length bytes - 1) 0
last-append rest bytes h =
    let sum : length (rest ++ bytes) - 1 ≡ length rest + (length bytes - 1) = omega (arith, length-append rest bytes) in
    ap (λ n. get_or (rest ++ bytes) n 0) sum ∙ get_or-append-add rest bytes (length bytes - 1) 0

-- if an assembler stands for `rest`, and its `front` has fewer than 513 bytes, `rest` has as many bytes as `front`
pub all_kept : (old : Kept) (rest : List ℕ) → StandsFor old rest → length old.front < 513 → length rest ≡ length old.front
all_kept old rest s room = omega (arith, ap length s.front, length-take 513 rest)

-- if an assembler stands for `rest`, its `front` leaves as much room within 513 bytes as `rest` does: none, if `rest` has 513 or
-- more
pub same_room : (old : Kept) (rest : List ℕ) → StandsFor old rest → 513 - length old.front ≡ 513 - length rest
same_room old rest s = omega (arith, ap length s.front, length-take 513 rest)

-- An assembler that stands for `rest` gets further bytes, of which `last` is the last one; `front` is what it then keeps in
-- front.
module _ (old : Kept) (rest bytes front : List ℕ) (last : ℕ) (s : StandsFor old rest) (last_is : last ≡ get_or bytes (length bytes - 1) 0) where
  -- if the bytes, at least one, fit within 513 after the old `front`, the assembler with them after it, with `last`, and with
  -- `long` as it was, stands for `rest ++ bytes`
  pub keeps_all : 0 < length bytes → length bytes ≤ 513 - length old.front → front ≡ old.front ++ bytes
      → StandsFor (record { front = front; last = last; long = old.long }) (rest ++ bytes)
  keeps_all some fits f =
      let short : length rest ≡ length old.front = all_kept old rest s (omega arith) in
      let room : length bytes ≤ 513 - length rest = omega arith in
      record {
        front = f ∙ ap (λ xs. xs ++ bytes) s.front ∙ ap (λ xs. take 513 rest ++ xs) (sym (take_all (513 - length rest) bytes room)) ∙ sym (take-append 513 rest bytes);
        last = last_is ∙ sym (last-append rest bytes some);
        long = s.long ∙ le-ltb 513 (length rest) (omega arith) ∙ sym (le-ltb 513 (length (rest ++ bytes)) (omega (arith, length-append rest bytes)));
      }

  -- if the bytes don't all fit within 513 after the old `front`, the assembler with as many of them as fit, with `last`, and
  -- with `long` true, stands for `rest ++ bytes`
  pub keeps_part : 513 - length old.front < length bytes → front ≡ old.front ++ take (513 - length old.front) bytes
      → StandsFor (record { front = front; last = last; long = true }) (rest ++ bytes)
  keeps_part more f =
      let room = same_room old rest s in
      record {
        front = f ∙ ap (λ n. old.front ++ take n bytes) room ∙ ap (λ xs. xs ++ take (513 - length rest) bytes) s.front ∙ sym (take-append 513 rest bytes);
        last = last_is ∙ sym (last-append rest bytes (omega arith));
        long = sym (lt-ltb 513 (length (rest ++ bytes)) (omega (arith, room, length-append rest bytes)));
      }

-- if `rest` is at most 512 bytes and then a CR, and `line` holds the bytes before the CR, `line` is the frame of `rest`
pub line_frame : (rest : List ℕ) (line : ArrayVec ℕ) → 0 < length rest → get_or rest (length rest - 1) 0 ≡ 13 → length rest ≤ 513
    → line.items ≡ take (length rest - 1) rest → Line line ≡ frame_of rest
line_frame rest line some last fits items =
    rw (lt-ltb 0 (length rest) some, eq-eqb (get_or rest (length rest - 1) 0) 13 last, le-ltb 512 (length rest - 1) (omega arith)) (ap (λ xs. Line (record { items = xs })) items)
