-- Bytes that complete the front line, and no more, are its delivery.
use Rattle.gc_world.proofs.Common.{◌≡◌, ℕ, suc, ◌+◌, ◌-◌, cond, List, [], ◌∷◌, length, map, inl, inr, refl, sym, ◌∙◌, ap, arith, lt-ltb, with_end, Call, ById, Down, Event, DownDeliver, DownBytes, after_cut, IsDelivery, Streams, Cut, one_line_more, cut, down_texts, down_lines, remaining, flows, Ends, Rule}
use Rattle.gc_world.proofs.Directions.{passing}
use Rattle.gc_world.proofs.Handed.{cut_long, in_front}
use Rattle.gc_world.proofs.Pieces.{end_length}

-- the cut at 0 bytes (`cut`) has no completed line, and nothing of the next line has gone
cut_zero : (texts : List (List ℕ)) → cut (map with_end texts) 0 ≡ record { lines = 0; gone = 0 }
cut_zero [] = refl
cut_zero (text ∷ texts) =
    ap (λ b. cond {A = Cut} b (record { lines = 0; gone = 0 }) (one_line_more (cut (map with_end texts) (0 - length (with_end text)))))
    (lt-ltb 0 (length (with_end text)) (omega (arith, end_length text)))

module _ {State : Type 0} (ends : Ends State) (rule : Rule (ById Call)) (v : Streams (ById Call) State) where
  -- an event of exactly the bytes that remain of the reply in front does what the delivery of that reply does
  exact_bytes : (n : ℕ) → remaining v.down_gone (down_lines v.world.wire) ≡ n + 1 → flows ends rule v (DownBytes (n + 1)) ≡ flows ends rule v DownDeliver
  exact_bytes n e =
      let g = v.down_gone in
      let f = in_front g (down_texts v.world.wire) (omega (arith, e)) in
      let next : n + 1 ≡ suc n = omega arith in
      let size : length (with_end f.0) - g ≡ n + 1 = sym (ap (λ q. remaining g (map with_end q)) f.2) ∙ e in
      let none : g + suc n - length (with_end f.0) ≡ 0 = omega (arith, size) in
      let one : cut (map with_end (f.0 ∷ f.1)) (g + suc n) ≡ record { lines = 1; gone = 0 } =
      cut_long (with_end f.0) (map with_end f.1) (g + suc n) (omega (arith, size)) ∙ ap (λ k. one_line_more (cut (map with_end f.1) k)) none ∙ ap one_line_more (cut_zero f.1) in
      ap (λ q. passing ends rule Down v (map with_end q) (n + 1)) f.2 ∙ ap (passing ends rule Down v (map with_end (f.0 ∷ f.1))) next ∙ ap (after_cut ends rule Down v) one

  -- where `IsDelivery` holds of an event, so that it hands over the last byte of the reply in front, if there is one, and no byte
  -- after that, the event does what `DownDeliver` does
  pub delivery_is : (e : Event) → IsDelivery v e → flows ends rule v e ≡ flows ends rule v DownDeliver
  delivery_is e (inl is) = ap (flows ends rule v) is
  delivery_is e (inr (n, is, last)) = ap (flows ends rule v) is ∙ exact_bytes n last
