-- What the functions of a queue of lines find: the line in bytes that end in CR LF, and the last line of the queue.
use Rattle.gc_rehearsal.proofs.Common.{◌≡◌, inl, inr, ℕ, suc, ◌-◌, ◌<◌, true, List, [], ◌∷◌, ◌++◌, drop, length, take, get_or, nat_eq, sym, ◌∙◌, ap, arith, map_push, take-append-drop, with_end, MayAdd, MayRepeat, texts, Flight}
use Rattle.std.proofs.Math.Seq.{take-length, take-suc}
use Rattle.std.specs.Cmp.Lexicographic.{pointwise, same_text}

-- bytes that end in CR LF are the line before these two bytes, with its CR LF
pub line_found : (bytes line : List ℕ)
    → pointwise nat_eq (drop (length bytes - 2) bytes) (13 ∷ 10 ∷ []) ≡ true → line ≡ take (length bytes - 2) bytes → bytes ≡ with_end line
line_found bytes line ends is =
    let n = length bytes - 2 in
    sym (take-append-drop n bytes) ∙ ap (λ d. take n bytes ++ d) (same_text (drop n bytes) (13 ∷ 10 ∷ []) (sym ends)) ∙ ap (λ l. l ++ 13 ∷ 10 ∷ []) (sym is)

-- a queue that isn't empty is what is before its last line, and that line
front_and_last : (flights : List Flight) (last : Flight) → 0 < length flights → last ≡ get_or flights (length flights - 1) last
    → flights ≡ take (length flights - 1) flights ++ last ∷ []
front_and_last flights last some is =
    let n = length flights - 1 in
    let all : suc n ≡ length flights = omega (arith, some) in
    sym (take-length flights) ∙ ap (λ k. take k flights) (sym all) ∙ take-suc flights n last (omega (arith, some)) ∙ ap (λ x. take n flights ++ x ∷ []) (sym is)

-- where a copy of the last line of a queue that isn't empty may have been put at its back, the queue is the same, or has its last
-- line twice
pub adds_copy : (old new : List Flight) (last again : Flight) → 0 < length old → last ≡ get_or old (length old - 1) last
    → again.line.items ≡ last.line.items → MayAdd old again new
    → MayRepeat old new
adds_copy old new last again some is same (inl none) = inl none
adds_copy old new last again some is same (inr more) =
    let front = take (length old - 1) old in
    let text : Flight → List ℕ = λ (f : Flight). f.line.items in
    inr (texts front, last.line.items, ap texts (front_and_last old last some is) ∙ map_push text front last, ap texts more ∙ map_push text old again ∙ ap (λ x. texts old ++ x ∷ []) same)
