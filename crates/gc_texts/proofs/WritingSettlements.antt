-- The lines of settlements, written one after the other.
use Rattle.gc_texts.proofs.Common.{◌≡◌, ℕ, ◌+◌, ◌<◌, List, ◌∷◌, ◌++◌, length, take, drop, map, get_or, Option, sym, ap, ◌∙◌, subst, Appends, map-append, Appends-trans, TakesFront, Appends-is, Call, Settlement, settlement_seen, settlement_line, settlement_lines_from, WrotePartOfSettlements}
use Rattle.gc_texts.proofs.SettlementLines.{split_at_item, front_length, lines_to_next}

-- a sink took the lines of the first i settlements, numbered from `place` on, and `line` is that of the next one (s). The sink
-- has taken `old` at first, `mid` after these lines, and `new` at the end
module _
    (place : ℕ) (ss : List (Settlement Call)) (i : ℕ) (s : Settlement Call) (old mid new : Option (List ℕ)) (line : List ℕ)
    (below : i < length ss) (is : s ≡ get_or ss i s) (text : line ≡ settlement_line (place + i) (settlement_seen s))
    (so : Appends old mid (settlement_lines_from place (map settlement_seen (take i ss)))) where
  -- if the sink took the next line after these, it took the lines of the first i + 1 settlements
  pub took_next : Appends mid new line → Appends old new (settlement_lines_from place (map settlement_seen (take (i + 1) ss)))
  took_next more =
      Appends-is old new _ _ (ap (λ t. settlement_lines_from place (map settlement_seen (take i ss)) ++ t) text ∙ sym (lines_to_next place ss i s below is)) (Appends-trans old mid new _ _ so more)

  -- if the sink took only the first n bytes of the next line after these, it took a part of all lines (`WrotePartOfSettlements`)
  pub took_part : (n : ℕ) → TakesFront mid new n line → WrotePartOfSettlements place (map settlement_seen ss) old new
  took_part n part =
      let front = map settlement_seen (take i ss) in
      let at : line ≡ settlement_line (place + length front) (settlement_seen s) = text ∙ ap (λ m. settlement_line (place + m) (settlement_seen s)) (sym (front_length ss i below)) in
      record {
        earlier = front;
        next = settlement_seen s;
        later = map settlement_seen (drop (i + 1) ss);
        order = ap (map settlement_seen) (split_at_item ss i s below is).1 ∙ map-append settlement_seen (take i ss) (s ∷ drop (i + 1) ss);
        part = n;
        not_all = subst (λ (t : List ℕ). n < length t) at part.0;
        took = Appends-trans old mid new _ _ so (Appends-is mid new _ _ (ap (take n) at) part.1);
      }
