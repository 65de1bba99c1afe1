-- How a queue may change while bytes of its front line have gone. An assembler *carries* the texts of a queue where it stands
-- for the bytes of the front line that have gone, not all of them, and no text has a CR or an LF in it (`IsFlow`).
use Rattle.gc_world.proofs.Common.{◌≡◌, ℕ, zero, suc, ◌+◌, ◌-◌, ◌<◌, ◌≤◌, false, cond, List, [], ◌∷◌, ◌++◌, length, map, refl, sym, ap, subst, arith, AllByRecursion, lt-ltb, ltb-false, all_append, Kept, StandsFor, IsPlain, with_end, IsFlow, StandsForPart, Cut, one_line_more, cut, gone_of, is_begun, remaining, without, doubled}
use Rattle.gc_world.proofs.Pieces.{end_length}
use Rattle.gc_world.proofs.Rows.{each_without, each_doubled}

-- where `is_begun` is false of line 0, of which `gone` bytes have gone, `gone` is 0
not_begun : (gone : ℕ) → is_begun 0 gone ≡ false → gone ≡ 0
not_begun gone e = let le : gone ≤ 0 = ltb-false 0 gone e in omega (arith, le)

-- an assembler at the start of a line carries plain texts of which nothing has gone
pub flow_start : (kept : Kept) (texts : List (List ℕ)) → StandsFor kept [] → AllByRecursion IsPlain texts → IsFlow kept 0 texts
flow_start kept [] s p = record { part = refl; stands = s; plain = p }
flow_start kept (text ∷ texts) s p = record { part = omega (arith, end_length text); stands = s; plain = p }

-- where an assembler carries texts, it carries them with one more plain text at the back, too
pub flow_push : (kept : Kept) (gone : ℕ) (texts : List (List ℕ)) (text : List ℕ) → IsPlain text → IsFlow kept gone texts → IsFlow kept gone (texts ++ text ∷ [])
flow_push kept gone [] text p h = subst (λ g. IsFlow kept g (text ∷ [])) (sym h.part) (flow_start kept (text ∷ []) h.stands (p, tt))
flow_push kept gone (t ∷ ts) text p h = record { part = h.part; stands = h.stands; plain = all_append _ (t ∷ ts) (text ∷ []) h.plain (p, tt) }

-- where an assembler carries texts, and no byte of the front line has gone, it also carries any other plain
-- texts (`rest`) in place of those
flow_replaced : (kept : Kept) (gone : ℕ) (text : List ℕ) (texts rest : List (List ℕ)) → gone ≡ 0 → IsFlow kept gone (text ∷ texts) → AllByRecursion IsPlain rest
    → IsFlow kept gone rest
flow_replaced kept gone text texts rest e h p =
    let at = subst (λ g. IsFlow kept g (text ∷ texts)) e h in
    subst (λ g. IsFlow kept g rest) (sym e) (flow_start kept rest at.stands p)

-- where an assembler carries texts, it still does once text k, of whose line no byte has gone (`is_begun`), is lost
pub flow_without : (k : ℕ) (kept : Kept) (gone : ℕ) (texts : List (List ℕ)) → is_begun k gone ≡ false → IsFlow kept gone texts → IsFlow kept gone (without k texts)
flow_without k kept gone [] e h = h
flow_without zero kept gone (t ∷ ts) e h = flow_replaced kept gone t ts ts (not_begun gone e) h h.plain.1
flow_without (suc k) kept gone (t ∷ ts) e h = record { part = h.part; stands = h.stands; plain = each_without _ (suc k) (t ∷ ts) h.plain }

-- where an assembler carries texts, it still does once text k, of whose line no byte has gone (`is_begun`), is repeated
pub flow_doubled : (k : ℕ) (kept : Kept) (gone : ℕ) (texts : List (List ℕ)) → is_begun k gone ≡ false → IsFlow kept gone texts → IsFlow kept gone (doubled k texts)
flow_doubled k kept gone [] e h = h
flow_doubled zero kept gone (t ∷ ts) e h = flow_replaced kept gone t ts (t ∷ t ∷ ts) (not_begun gone e) h (h.plain.0, h.plain)
flow_doubled (suc k) kept gone (t ∷ ts) e h = record { part = h.part; stands = h.stands; plain = each_doubled _ (suc k) (t ∷ ts) h.plain }

-- `line`, which has no CR and no LF in it, is the front line of `lines`, but without its CR LF; `gone` of the front line's bytes
-- have gone, not all, and the assembler stands for these
pub record IsFront (line : List ℕ) (kept : Kept) (gone : ℕ) (lines : List (List ℕ)) : Type 0 where
  pub behind : List (List ℕ)
  pub lines_are : lines ≡ with_end line ∷ behind
  pub plain : IsPlain line
  pub some : gone < length line + 2
  pub stands : StandsForPart kept gone line

-- where an assembler carries texts, `IsFront` holds of the first of them, and of the lines of all of them
pub front_of : (kept : Kept) (gone : ℕ) (text : List ℕ) (texts : List (List ℕ)) → IsFlow kept gone (text ∷ texts)
    → IsFront text kept gone (map with_end (text ∷ texts))
front_of kept gone text texts h =
    record { behind = map with_end texts; lines_are = refl; plain = h.plain.0; some = omega (arith, h.part, end_length text); stands = h.stands }

-- where `IsFront` holds of `line`, what is still to go of the front line is the length of `line`, and two more
-- for the CR LF, less what has gone
pub remaining_is : (line : List ℕ) (kept : Kept) (gone : ℕ) (lines : List (List ℕ)) → IsFront line kept gone lines → length line + 2 - gone ≡ remaining gone lines
remaining_is line kept gone lines h =
    let at : remaining gone lines ≡ length (with_end line) - gone = ap (remaining gone) h.lines_are in
    omega (arith, at, end_length line)

-- where an assembler carried texts, of which `line` is the first, and n more bytes have gone, which don't complete the front
-- line, the assembler `after`, which stands for the front line's first gone + n bytes, carries these texts
pub flow_more : (kept after : Kept) (gone n : ℕ) (line : List ℕ) (texts : List (List ℕ)) → IsFront line kept gone (map with_end texts)
    → n < remaining gone (map with_end texts) → StandsForPart after (gone + n) line → IsFlow kept gone texts → IsFlow after (gone + n) texts
flow_more kept after gone n line [] front lt s h = absurd (omega (arith, lt))
flow_more kept after gone n line (t ∷ ts) front lt s h =
    record { part = omega (arith, lt, h.part); stands = subst (StandsFor after) (sym (ap (gone_of (gone + n)) front.lines_are)) s; plain = h.plain }

-- n more bytes that don't complete the front line complete no line: of the front line gone + n bytes have gone then
pub cut_short : (lines : List (List ℕ)) (gone n : ℕ) → n < remaining gone lines → cut lines (gone + n) ≡ record { lines = 0; gone = gone + n }
cut_short [] gone n lt = absurd (omega (arith, lt))
cut_short (line ∷ lines) gone n lt =
    ap (λ b. cond {A = Cut} b (record { lines = 0; gone = gone + n }) (one_line_more (cut lines (gone + n - length line)))) (lt-ltb (gone + n) (length line) (omega (arith, lt)))
