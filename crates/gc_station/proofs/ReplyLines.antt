-- The lines of a piece: none of them reads as a reply, or the other end was alive at the moment of the piece. `alive` is the
-- moment since which no reply line came, and `asked` whether a request was sent after the last reply line.
use Rattle.gc_station.proofs.Common.{◌≡◌, ℕ, ◌⊎◌, inl, inr, Bool, true, false, List, [], ◌∷◌, Option, None, Result, Ok, Err, if◌then◌else◌, refl, ap, ◌∙◌, is_ok, AllByRecursion, LineFault, ReplyFields, reply_at, is_answered, left_by, heard, id_in, is_reply, Progress, line_synchronizing, lines_synchronizing, IsNoReply, Model, line_came, lines_came}
use Rattle.gc_station.proofs.Walk.{lines_along}

-- the moment read last is the same after lines that are heard as before them
pub lines_moment : (s : Model) (lines : List (List ℕ)) → (lines_came s lines).progress.moment ≡ s.progress.moment
lines_moment s lines = lines_along (λ (t : Model). t.progress.moment ≡ s.progress.moment) (λ t line e. e) s lines refl

-- over these lines, from the progress p to q: none of them is a reply, `alive` and `asked` stay, and `Besides` holds; or one is,
-- so that `alive` is the moment read last, and no request was sent since
abbrev pub AliveWith : (Besides : Type 0) → List (List ℕ) → (p q : Progress) → Type 0
AliveWith Besides lines p q = (AllByRecursion IsNoReply lines × (q.exchange.alive ≡ p.exchange.alive) × (q.exchange.asked ≡ p.exchange.asked) × Besides) ⊎ ((q.exchange.alive ≡ p.moment.elapsed) × (q.exchange.asked ≡ false))

-- `AliveWith`, for lines that the client hears
abbrev pub Alive : List (List ℕ) → (p q : Progress) → Type 0
Alive lines p q = AliveWith (Unit {0}) lines p q

-- `Alive` holds after lines that the client hears
pub lines_alive : (s : Model) (lines : List (List ℕ)) → Alive lines s.progress (lines_came s lines).progress
lines_alive s [] = inl (tt, refl, refl, tt)
lines_alive s (line ∷ others) = on (is_reply line) refl (lines_alive (line_came s line) others) where
  -- where the line is a reply (`true`), `alive` is this moment; otherwise it stays
  here : (b : Bool) → is_reply line ≡ b → (line_came s line).progress.exchange.alive ≡ (if b then s.progress.moment.elapsed else s.progress.exchange.alive)
  here b e = ap (λ (x : Bool). if x then s.progress.moment.elapsed else s.progress.exchange.alive) e

  -- where the line is a reply (`true`), no request was sent since; otherwise `asked` stays
  asks : (b : Bool) → is_reply line ≡ b → (line_came s line).progress.exchange.asked ≡ (if b then false else s.progress.exchange.asked)
  asks b e = ap (λ (x : Bool). if x then false else s.progress.exchange.asked) e

  -- if `Alive` holds of the other lines after this one, it holds of this line and the others
  on : (b : Bool) → is_reply line ≡ b → Alive others (line_came s line).progress (lines_came (line_came s line) others).progress
      → Alive (line ∷ others) s.progress (lines_came (line_came s line) others).progress
  on b e (inr now) = inr now
  on true e (inl none) = inr (none.1 ∙ here true e, none.2 ∙ asks true e)
  on false e (inl none) = inl ((e, none.0), none.1 ∙ here false e, none.2 ∙ asks false e, tt)

-- a line that doesn't read as a reply has no id
no_id_without_reply : (line : List ℕ) → is_reply line ≡ false → heard line ≡ None
no_id_without_reply line e = by_reply (reply_at line) e where
  -- the lemma above, by how the line reads
  by_reply : (r : Result ReplyFields LineFault) → is_ok r ≡ false → id_in r ≡ None
  by_reply (Ok fields) e = cc
  by_reply (Err fault) e = refl

-- a line without an id answers no null procedure: the ids of `word` are left
left_same : (word : List ℕ) (id : Option ℕ) → id ≡ None → left_by word id ≡ word
left_same [] id e = refl
left_same (asked ∷ others) id e = ap (λ (i : Option ℕ). left_by (asked ∷ others) i) e

-- a line without an id doesn't change `again`, the moment at which the null procedure is sent again
again_same : (word : List ℕ) (id : Option ℕ) (again : ℕ) → id ≡ None → (if is_answered word id then 0 else again) ≡ again
again_same [] id again e = refl
again_same (asked ∷ others) id again e = ap (λ (i : Option ℕ). if is_answered (asked ∷ others) i then 0 else again) e

-- `AliveWith`, for lines that the synchronization hears: if none of them is a reply, the ids that are left (`word`) and the next
-- null procedure's moment (`again`) stay, too
abbrev pub AliveAsked : List (List ℕ) → (p q : Progress) → Type 0
AliveAsked lines p q = AliveWith ((q.exchange.word ≡ p.exchange.word) × (q.exchange.again ≡ p.exchange.again)) lines p q

-- `AliveAsked` holds after lines that the synchronization hears
pub asked_alive : (p : Progress) (lines : List (List ℕ)) → AliveAsked lines p (lines_synchronizing p lines)
asked_alive p [] = inl (tt, refl, refl, (refl, refl))
asked_alive p (line ∷ others) = on (is_reply line) refl (asked_alive (line_synchronizing p line) others) where
  -- the progress after all lines
  q : Progress
  q = lines_synchronizing (line_synchronizing p line) others

  -- where the line is a reply (`true`), `alive` is this moment; otherwise it stays
  here : (b : Bool) → is_reply line ≡ b → (line_synchronizing p line).exchange.alive ≡ (if b then p.moment.elapsed else p.exchange.alive)
  here b e = ap (λ (x : Bool). if x then p.moment.elapsed else p.exchange.alive) e

  -- where the line is a reply (`true`), no request was sent since; otherwise `asked` stays
  asks : (b : Bool) → is_reply line ≡ b → (line_synchronizing p line).exchange.asked ≡ (if b then false else p.exchange.asked)
  asks b e = ap (λ (x : Bool). if x then false else p.exchange.asked) e

  -- if `AliveAsked` holds of the other lines after this one, it holds of this line and the others
  on : (b : Bool) → is_reply line ≡ b → AliveAsked others (line_synchronizing p line) q → AliveAsked (line ∷ others) p q
  on b e (inr now) = inr now
  on true e (inl none) = inr (none.1 ∙ here true e, none.2 ∙ asks true e)
  on false e (inl none) =
      let silent = no_id_without_reply line e in
      inl ((e, none.0), none.1 ∙ here false e, none.2 ∙ asks false e, (none.3.0 ∙ left_same p.exchange.word (heard line) silent, none.3.1 ∙ again_same p.exchange.word (heard line) p.exchange.again silent))
