-- The lines that a log has of more and more bytes, what is pending after these, and the bytes that the lines stand for
-- (`wire`). `TakesUnlessFailed` says that a log's sink, if it hasn't failed, took a text: a, b and c are what is seen of the sink
-- at first, then and at last; for `TakesEntries` they are what is seen of the place where the lines go. `p` is what is pending.
use Rattle.gc_logs.proofs.Common.{◌≡◌, ℕ, ◌+◌, ◌-◌, ◌<◌, ◌==◌, ◌&&◌, true, inl, inr, not, List, [], ◌∷◌, ◌++◌, length, take, get_or, refl, sym, ap, subst, ◌∙◌, arith, append_assoc, append-nil, cases_Bool, cond_both, eqb-true, ltb-true, and_parts, take_all, take_more, Taken, ends_in_return, with_end, log_line, Entry, entry, line_mark, part_mark, takes_one_more, entry_of_line, entries_at, pending_at, entries, pending_after, log_text_of, TakesEntries, TakesUnlessFailed, wire_of, wire, LogKeepsAll, Unwritten, Direction, Went, Came}
use Rattle.std.specs.Prelude.{nat_lt}
use Rattle.std.proofs.lemmas.List.Concat.{flat_map-append}
use Rattle.std.proofs.KnownBytes.{Appends-trans}
use Rattle.gc_lines.specs.declared.ports.Sink.{Ghosts as Sink}
use Rattle.gc_logs.specs.declared.logging.Lines.{Lines}

-- the lines that the bytes `bs` and then b give are those that `bs` give, and after them those that b gives
entries_more : (way : Direction) (p : Unwritten) (bs : List ℕ) (b : ℕ)
    → entries way p (bs ++ b ∷ []) ≡ entries way p bs ++ entries_at way (pending_after p bs) b
entries_more way p [] b = append-nil (entries_at way p b)
entries_more way p (c ∷ cs) b = ap (λ es. entries_at way p c ++ es) (entries_more way (pending_at p c) cs b)
    ∙ sym (append_assoc (entries_at way p c) (entries way (pending_at p c) cs) (entries_at way (pending_after (pending_at p c) cs) b))

-- what is pending after the bytes `bs` and then b is what b makes of what is pending after `bs`
pending_more : (p : Unwritten) (bs : List ℕ) (b : ℕ) → pending_after p (bs ++ b ∷ []) ≡ pending_at (pending_after p bs) b
pending_more p [] b = refl
pending_more p (c ∷ cs) b = pending_more (pending_at p c) cs b

-- if a log took one text, and then another, it took both as one
takes_both_texts : {a b c : Taken} (xs ys : List ℕ) → TakesUnlessFailed a b xs → TakesUnlessFailed b c ys → TakesUnlessFailed a c (xs ++ ys)
takes_both_texts {a} {b} {c} xs ys one next = record {
  took = λ stands. Appends-trans a.bytes b.bytes c.bytes xs ys (one.took (next.stood stands)) (next.took stands);
  stood = λ stands. one.stood (next.stood stands);
}

-- if a log took the lines of one list, and then those of another, written at the same moment, it took those of both
pub takes_both_lists : {a b c : Taken} (utc now : ℕ) (es fs : List Entry) → now ≡ utc
    → TakesUnlessFailed a b (log_text_of utc es) → TakesUnlessFailed b c (log_text_of now fs) → TakesUnlessFailed a c (log_text_of utc (es ++ fs))
takes_both_lists {a} {b} {c} utc now es fs same one next =
    subst (TakesUnlessFailed a c) (sym (flat_map-append (λ (e : Entry). log_line utc e.mark e.bytes) es fs))
    (takes_both_texts (log_text_of utc es) (log_text_of utc fs) one (subst (λ u. TakesUnlessFailed b c (log_text_of u fs)) same next))

-- if the place where a log's lines go took those of one list (`TakesEntries`), and then those of another, it took those of both
pub takes_both : {K : Type 0} {of_sink : Sink K} {a b c : Lines K} (es fs : List Entry)
    → TakesEntries of_sink a b es → TakesEntries of_sink b c fs → TakesEntries of_sink a c (es ++ fs)
takes_both {K} {of_sink} {a} {b} {c} es fs one next =
    record { took = takes_both_lists a.utc b.utc es fs one.utc one.took next.took; utc = next.utc ∙ one.utc }

-- one turn of the loop over the bytes `bs`, at byte i: `p` is pending before the loop, and `q` before this byte
module _ (p q : Unwritten) (bs : List ℕ) (i : ℕ) (within : i < length bs) (behind : q ≡ pending_after p (take i bs)) where
  -- if a log took the lines of the first i bytes, and then those of byte i, it took the lines of the first i + 1
  pub took_more : {K : Type 0} {of_sink : Sink K} {a b c : Lines K} (way : Direction)
      → TakesEntries of_sink a b (entries way p (take i bs)) → TakesEntries of_sink b c (entries_at way q (get_or bs i 0))
      → TakesEntries of_sink a c (entries way p (take (i + 1) bs))
  took_more {K} {of_sink} {a} {b} {c} way one next =
      let es = entries way p (take i bs) in
      let fs = entries_at way (pending_after p (take i bs)) (get_or bs i 0) in
      let whole : es ++ fs ≡ entries way p (take (i + 1) bs) = sym (ap (entries way p) (take_more bs i 0 within) ∙ entries_more way p (take i bs) (get_or bs i 0)) in
      let last : TakesEntries of_sink b c fs = subst (λ z. TakesEntries of_sink b c (entries_at way z (get_or bs i 0))) behind next in
      subst (TakesEntries of_sink a c) whole (takes_both es fs one last)

  -- if byte i makes `r` of what is pending before it, `r` is pending after the first i + 1
  pub pending_at_next : (r : Unwritten) → r ≡ pending_at q (get_or bs i 0) → r ≡ pending_after p (take (i + 1) bs)
  pending_at_next r next = next ∙ ap (λ z. pending_at z (get_or bs i 0)) behind ∙ sym (ap (pending_after p) (take_more bs i 0 within) ∙ pending_more p (take i bs) (get_or bs i 0))

-- bytes that end in a CR are those before it, and then the CR
last_return : (bytes : List ℕ) → ends_in_return bytes ≡ true → bytes ≡ take (length bytes - 1) bytes ++ 13 ∷ []
last_return bytes e =
    let some : 0 < length bytes = ltb-true 0 (length bytes) (and_parts (nat_lt 0 (length bytes)) _ e).0 in
    let last : get_or bytes (length bytes - 1) 0 ≡ 13 = eqb-true (get_or bytes (length bytes - 1) 0) 13 (and_parts (nat_lt 0 (length bytes)) _ e).1 in
    let n : length bytes - 1 + 1 ≡ length bytes = omega (arith, some) in
    sym (take_all (length bytes) bytes (omega arith)) ∙ ap (λ k. take k bytes) (sym n) ∙ take_more bytes (length bytes - 1) 0 (omega (arith, some))
    ∙ ap (λ b. take (length bytes - 1) bytes ++ b ∷ []) last

-- a line with its CR LF stands for its bytes and CR LF
whole_wire : (way : Direction) (bytes : List ℕ) → wire (entry (line_mark way) bytes ∷ []) ≡ with_end bytes
whole_wire Went bytes = append-nil (with_end bytes)
whole_wire Came bytes = append-nil (with_end bytes)

-- a part stands for its bytes
part_wire : (way : Direction) (bytes : List ℕ) → wire (entry (part_mark way) bytes ∷ []) ≡ bytes
part_wire Went bytes = append-nil bytes
part_wire Came bytes = append-nil bytes

-- the line that a line feed makes of what is pending stands for the pending bytes and the line feed
line_wire : (way : Direction) (p : Unwritten) → wire (entry_of_line way p ∷ []) ≡ p.bytes.items ++ 10 ∷ []
line_wire way p =
    cond_both (not p.is_long && ends_in_return p.bytes.items) (entry (line_mark way) (take (length p.bytes.items - 1) p.bytes.items)) (entry (part_mark way) (p.bytes.items ++ 10 ∷ []))
    (λ e. wire (e ∷ []) ≡ p.bytes.items ++ 10 ∷ [])
    (λ is.
    let front = take (length p.bytes.items - 1) p.bytes.items in
    let cut : p.bytes.items ≡ front ++ 13 ∷ [] = last_return p.bytes.items (and_parts (not p.is_long) (ends_in_return p.bytes.items) is).1 in
    whole_wire way front ∙ sym (append_assoc front (13 ∷ []) (10 ∷ [])) ∙ ap (λ bs. bs ++ 10 ∷ []) (sym cut))
    (λ _. part_wire way (p.bytes.items ++ 10 ∷ []))

-- the lines that one more byte gives, and what is pending then, stand for what was pending and that byte
byte_wire : (way : Direction) (p : Unwritten) (b : ℕ) → wire (entries_at way p b) ++ (pending_at p b).bytes.items ≡ p.bytes.items ++ b ∷ []
byte_wire way p b = elim (cases_Bool (b == 10)) [
  | inl feed ↦ rw feed (append-nil (wire (entry_of_line way p ∷ [])) ∙ line_wire way p ∙ ap (λ c. p.bytes.items ++ c ∷ []) (sym (eqb-true b 10 feed)))
  | inr other ↦ rw other (elim (cases_Bool (takes_one_more p)) [
    | inl short ↦ rw short refl
    | inr full ↦ rw full (ap (λ w. w ++ b ∷ []) (part_wire way p.bytes.items))
  ])
]

-- the law: of the bytes of one direction nothing is lost, nothing is added, and nothing changes places
pub log_keeps_all : LogKeepsAll
log_keeps_all way p [] = append-nil p.bytes.items
log_keeps_all way p (b ∷ bs) =
    let es = entries_at way p b in
    let q = pending_at p b in
    let fs = entries way q bs in
    let held = (pending_after q bs).bytes.items in
    sym (append_assoc p.bytes.items (b ∷ []) bs) ∙ ap (λ w. w ++ bs) (sym (byte_wire way p b)) ∙ append_assoc (wire es) q.bytes.items bs ∙ ap (λ w. wire es ++ w) (log_keeps_all way q bs)
    ∙ sym (append_assoc (wire es) (wire fs) held) ∙ ap (λ w. w ++ held) (sym (flat_map-append (λ (e : Entry). wire_of e.mark e.bytes) es fs))
