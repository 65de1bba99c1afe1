-- What a side of the stage carries: its front line, and what is still to go of it.
use Rattle.gc_world.proofs.Common.{◌≡◌, ℕ, ◌+◌, ◌-◌, List, [], ◌∷◌, length, map, Option, Some, refl, sym, ◌∙◌, ap, subst, with_end, Direction, Report, Side, text_at, IsFlow, Carries, remaining, same_Some}
use Rattle.gc_world.proofs.Streaming.{IsFront, front_of, remaining_is}

-- the texts begin with a text that f finds at this place
record AreNamed (f : ℕ → Option (List ℕ)) (place : ℕ) (texts : List (List ℕ)) : Type 0 where
  text : List ℕ
  behind : List (List ℕ)
  are : texts ≡ text ∷ behind
  found : f place ≡ Some text

-- where f finds the texts at the places of a queue, in order, and the queue begins with this place, f finds the first text there
named_first : (f : ℕ → Option (List ℕ)) (queue : List ℕ) (place : ℕ) (rest : List ℕ) (texts : List (List ℕ)) → queue ≡ place ∷ rest
    → map f queue ≡ map Some texts → AreNamed f place texts
named_first f queue place rest texts e h = by_texts texts (sym (ap (map f) e) ∙ h)
  where
    by_texts : (ts : List (List ℕ)) → map f (place ∷ rest) ≡ map Some ts → AreNamed f place ts
    by_texts [] g = cc
    by_texts (t ∷ ts) g = let one : f place ≡ Some t = cc in record { text = t; behind = ts; are = refl; found = one }

module _ {State : Type 0} (d : Direction) (r : Report State) (s : Side) (texts : List (List ℕ)) (h : Carries d r s texts) where
  -- where the queue has this place at its front, the report has a line at that place
  pub front_written : (place : ℕ) (rest : List ℕ) → s.queue ≡ place ∷ rest → (text : List ℕ) × (text_at d r place ≡ Some text)
  front_written place rest e = let f = named_first (text_at d r) s.queue place rest texts e h.names in (f.text, f.found)

  -- where the report has `line` at the place at the queue's front, `line` is as `IsFront` has it: the front line without its CR
  -- LF, and the assembler stands for the bytes of that line that have gone
  pub front_line : (place : ℕ) (rest : List ℕ) (line : List ℕ) → s.queue ≡ place ∷ rest → text_at d r place ≡ Some line
      → IsFront line s.assembler s.gone (map with_end texts)
  front_line place rest line e found =
      let f = named_first (text_at d r) s.queue place rest texts e h.names in
      let same : f.text ≡ line = same_Some f.text line (sym f.found ∙ found) in
      subst (λ (t : List ℕ). IsFront t s.assembler s.gone (map with_end texts)) same
      (subst (λ ts. IsFront f.text s.assembler s.gone (map with_end ts)) (sym f.are) (front_of s.assembler s.gone f.text f.behind (subst (λ ts. IsFlow s.assembler s.gone ts) f.are h.flow)))

  -- where the report has `line` at the place at the queue's front, the assembler carries, as `IsFlow` has it,
  -- `line` and some lines after it
  pub front_flow : (place : ℕ) (rest : List ℕ) (line : List ℕ) → s.queue ≡ place ∷ rest → text_at d r place ≡ Some line
      → (behind : List (List ℕ)) × IsFlow s.assembler s.gone (line ∷ behind)
  front_flow place rest line e found =
      let f = named_first (text_at d r) s.queue place rest texts e h.names in
      (f.behind, subst (λ (t : List ℕ). IsFlow s.assembler s.gone (t ∷ f.behind)) (same_Some f.text line (sym f.found ∙ found)) (subst (λ ts. IsFlow s.assembler s.gone ts) f.are h.flow))

  -- what is still to go of the front line is its bytes, CR LF counted, less what has gone
  pub left_of : (place : ℕ) (rest : List ℕ) (line : List ℕ) → s.queue ≡ place ∷ rest → text_at d r place ≡ Some line
      → length line + 2 - s.gone ≡ remaining s.gone (map with_end texts)
  left_of place rest line e found = remaining_is line s.assembler s.gone (map with_end texts) (front_line place rest line e found)

  -- where the queue is empty, no bytes of a front line are still to go (`remaining` is 0)
  pub none_left : s.queue ≡ [] → 0 ≡ remaining s.gone (map with_end texts)
  none_left e = by_texts texts (sym (ap (map (text_at d r)) e) ∙ h.names)
    where
      by_texts : (ts : List (List ℕ)) → [] ≡ map Some ts → 0 ≡ remaining s.gone (map with_end ts)
      by_texts [] g = refl
      by_texts (t ∷ ts) g = cc
