-- What is kept of a line that no line feed has ended yet, as more of it comes: at most 514 bytes, the first 513 and the last
-- one so far. A frame is what a line feed makes of the bytes before it. `GoAlike` says of two texts that the same frame comes
-- of them, however both go on.
use Rattle.geocom_c.proofs.Common.{◌≡◌, ℕ, ◌+◌, ◌-◌, ◌<◌, ◌≤◌, List, [], ◌∷◌, ◌++◌, length, take, get_or, All, refl, sym, subst, ap, ap₂, ◌∙◌, arith, append_assoc, length-append, if◌then◌else◌, ◌==◌, slice_set, length-take, take-take, take_more_set, lt-ltb, frame_of, Overlong, Cleared, IsNoLineFeed, IsRest}
use Rattle.std.proofs.lemmas.List.{append-nil}
use Rattle.std.proofs.lemmas.List.Elements.{All-append, All-push, All-take}
use Rattle.gc_lines.proofs.Keeping.{take-append, last-append}

-- the last byte of a text; 0 for an empty one
abbrev pub last_byte : List ℕ → ℕ
last_byte t = get_or t (length t - 1) 0

-- of more than 513 bytes a line feed makes the frame `Overlong` if the last of them is CR (13), and else `Cleared`
long_frame : (t : List ℕ) → 513 < length t → frame_of t ≡ (if last_byte t == 13 then Overlong else Cleared)
long_frame t h = rw (lt-ltb 0 (length t) (omega (arith, h)), lt-ltb 512 (length t - 1) (omega (arith, h))) refl

-- two texts with the same last byte still have the same one when the same bytes are added to both
last_same : (t u more : List ℕ) → last_byte t ≡ last_byte u → last_byte (t ++ more) ≡ last_byte (u ++ more)
last_same t u [] e = ap last_byte (append-nil t) ∙ e ∙ sym (ap last_byte (append-nil u))
last_same t u (b ∷ bs) e = last-append t (b ∷ bs) (omega arith) ∙ sym (last-append u (b ∷ bs) (omega arith))

-- of more than 513 bytes the first 513 and the last make the same frame as all of them, whatever bytes come next
pub cut_same : (t : List ℕ) (more : List ℕ) → 513 < length t → frame_of ((take 513 t ++ last_byte t ∷ []) ++ more) ≡ frame_of (t ++ more)
cut_same t more h =
    let u = take 513 t ++ last_byte t ∷ [] in
    let n : length u ≡ 514 = omega (arith, h, length-append (take 513 t) (last_byte t ∷ []), length-take 513 t) in
    let l : last_byte u ≡ last_byte t = last-append (take 513 t) (last_byte t ∷ []) (omega arith) in
    long_frame (u ++ more) (omega (arith, n, length-append u more))
    ∙ ap (λ b. if b == 13 then Overlong else Cleared) (last_same u t more l)
    ∙ sym (long_frame (t ++ more) (omega (arith, h, length-append t more)))

-- whatever bytes are added to both of these texts, the same frame comes of both
abbrev pub GoAlike : (t rest : List ℕ) → Type 0
GoAlike t rest = (more : List ℕ) → frame_of (t ++ more) ≡ frame_of (rest ++ more)

-- where `GoAlike` holds of the bytes kept, `t`, and those that came, `rest`, it holds of both with the piece p after them
pub alike_all : (t p rest : List ℕ) → GoAlike t rest → GoAlike (t ++ p) (rest ++ p)
alike_all t p rest same more = ap frame_of (append_assoc t p more) ∙ same (p ++ more) ∙ sym (ap frame_of (append_assoc rest p more))

-- where `GoAlike` holds of the bytes kept, `t`, and those that came, `rest`, and `t` and the piece p are more than 513 bytes:
-- it holds of the first 513 of these and the last, and of `rest` and p
pub alike_cut : (t p rest : List ℕ) → 513 < length (t ++ p) → GoAlike t rest → GoAlike (take 513 (t ++ p) ++ last_byte (t ++ p) ∷ []) (rest ++ p)
alike_cut t p rest h same more = cut_same (t ++ p) more h ∙ alike_all t p rest same more

-- where n bytes of the piece p fill the room for 514 after t, t with these bytes begins with the same 513 bytes as t with all of
-- p
same_front_once_filled : (t p : List ℕ) (n : ℕ) → length t ≤ 514 → n ≡ 514 - length t → n ≤ length p → take 513 (t ++ take n p) ≡ take 513 (t ++ p)
same_front_once_filled t p n short room fits = take-append 513 t (take n p) ∙ ap (λ xs. take 513 t ++ xs) (take-take (513 - length t) n p (omega (arith, room))) ∙ sym (take-append 513 t p)

-- a piece `p` comes after the n bytes `t` that are kept, neither of which has a line feed, and f more bytes are kept, in the room
-- `bytes`; `t` goes on as `rest` does, which came since the last line feed (`GoAlike`)
module _ (bytes t p rest : List ℕ) (n f : ℕ) (is : n ≡ length t) (clean : All IsNoLineFeed t) (cleanly : All IsNoLineFeed p) (same : GoAlike t rest) where
  -- if all of the piece was kept, what is retained stands for all bytes that came since the last line feed, `rest` and then `p`
  pub all_rest : n + f ≤ 514 → take (n + f) bytes ≡ t ++ p → IsRest (record { length = n + f; bytes = bytes }) (rest ++ p)
  all_rest short text =
      record {
        valid = record { short = short; unended = subst (All IsNoLineFeed) (sym text) (All-append IsNoLineFeed t p clean cleanly) };
        same = λ more. ap (λ u. frame_of (u ++ more)) text ∙ alike_all t p rest same more;
      }

  -- if the first f bytes of the piece were kept, as many as there was room for, and its last byte in the last place, 513, what is
  -- retained stands for all bytes that came since the last line feed, `rest` and then `p`
  pub cut_rest : (last : ℕ) (short : n ≤ 514) (room : f ≡ 514 - n) (more : f < length p) (text : take (n + f) bytes ≡ t ++ take f p)
      (within : 513 < length bytes)
      → last ≡ last_byte p → IsRest (record { length = n + f; bytes = slice_set bytes 513 last }) (rest ++ p)
  cut_rest last short room more text within e =
      let sum : n + f ≡ 514 = omega (arith, short, room) in
      let long : 513 < length (t ++ p) = omega (arith, is, sum, more, length-append t p) in
      let front : take 513 bytes ≡ take 513 (t ++ p) =
      sym (take-take 513 514 bytes (omega arith)) ∙ ap (λ k. take 513 (take k bytes)) (sym sum) ∙ ap (take 513) text
      ∙ same_front_once_filled t p f (omega (arith, is, short)) (omega (arith, is, room)) (omega (arith, more)) in
      let byte : last ≡ last_byte (t ++ p) = e ∙ sym (last-append t p (omega (arith, more))) in
      let whole : take (n + f) (slice_set bytes 513 last) ≡ take 513 (t ++ p) ++ last_byte (t ++ p) ∷ [] =
      ap (λ k. take k (slice_set bytes 513 last)) sum ∙ take_more_set bytes 513 last within ∙ ap₂ (λ u b. u ++ b ∷ []) front byte in
      let both = All-append IsNoLineFeed t p clean cleanly in
      record {
        valid = record {
          short = omega (arith, sum);
          unended = subst (All IsNoLineFeed) (sym whole) (All-push IsNoLineFeed (take 513 (t ++ p)) (last_byte (t ++ p))
              (All-take IsNoLineFeed 513 (t ++ p) both) (both (length (t ++ p) - 1) 0 (omega (arith, long))));
        };
        same = λ next. ap (λ u. frame_of (u ++ next)) whole ∙ alike_cut t p rest long same next;
      }
