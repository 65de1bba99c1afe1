-- Paths with a date in them, byte by byte: a `%` with the letter behind it, and any other byte.
use Rattle.gc_texts.proofs.Common.{MatchOption, ◌≡◌, ◌≢◌, ◌==◌, ◌&&◌, ◌||◌, Bool, true, false, ℕ, List, [], ◌∷◌, ◌++◌, Option, None, refl, ap, sym, subst, ◌∙◌, append_assoc, eq-eqb, ne_eqb, dated, has_date, is_date_letter, is_dated_path, is_letter, part_text}
use Rattle.std.proofs.lemmas.List.{append-nil}

-- a byte that is no `%` stays
dated_other : (utc a : ℕ) (rest : List ℕ) → (a == 37) ≡ false → dated utc (a ∷ rest) ≡ a ∷ dated utc rest
unfolding dated
dated_other utc a [] e = refl
dated_other utc a (b ∷ bs) e = rw e refl

-- the last byte stays, whatever it is
dated_last : (utc a : ℕ) (rest : List ℕ) → rest ≡ [] → dated utc (a ∷ rest) ≡ a ∷ dated utc rest
unfolding dated
dated_last utc a rest e = rw e refl

-- a `%` and the letter behind it become what they stand for
dated_mark : (utc a b : ℕ) (bs : List ℕ) → (a == 37) ≡ true → dated utc (a ∷ b ∷ bs) ≡ part_text utc b ++ dated utc bs
unfolding dated
dated_mark utc a b bs e = rw e refl

-- so it is behind what was made before
pub made_mark : (utc a b : ℕ) (made new bs rest : List ℕ) → a ≡ 37 → rest ≡ b ∷ bs → new ≡ made ++ part_text utc b
    → new ++ dated utc bs ≡ made ++ dated utc (a ∷ rest)
made_mark utc a b made new bs rest e is made_is =
    ap (λ n. n ++ dated utc bs) made_is ∙ append_assoc made (part_text utc b) (dated utc bs)
    ∙ ap (λ xs. made ++ xs) (sym (dated_mark utc a b bs (eq-eqb a 37 e)) ∙ ap (λ xs. dated utc (a ∷ xs)) (sym is))

made_stays : (utc a : ℕ) (made new rest : List ℕ) → dated utc (a ∷ rest) ≡ a ∷ dated utc rest → new ≡ made ++ (a ∷ [])
    → new ++ dated utc rest ≡ made ++ dated utc (a ∷ rest)
made_stays utc a made new rest stays made_is =
    ap (λ n. n ++ dated utc rest) made_is ∙ append_assoc made (a ∷ []) (dated utc rest) ∙ ap (λ xs. made ++ xs) (sym stays)

-- and behind what was made before, any other byte stays
pub made_other : (utc a : ℕ) (made new rest : List ℕ) → a ≢ 37 → new ≡ made ++ (a ∷ []) → new ++ dated utc rest ≡ made ++ dated utc (a ∷ rest)
made_other utc a made new rest ne made_is = made_stays utc a made new rest (dated_other utc a rest (ne_eqb a 37 ne)) made_is

-- and so does the last one
pub made_last : (utc a : ℕ) (made new rest : List ℕ) → rest ≡ [] → new ≡ made ++ (a ∷ []) → new ++ dated utc rest ≡ made ++ dated utc (a ∷ rest)
made_last utc a made new rest e made_is = made_stays utc a made new rest (dated_last utc a rest e) made_is

-- Whether a part of the moment is in a path (`all`), by what is left of it (`left`).

date_mark : (a b : ℕ) (bs : List ℕ) → (a == 37) ≡ true → has_date (a ∷ b ∷ bs) ≡ (is_date_letter b || has_date bs)
unfolding has_date
date_mark a b bs e = rw e refl

date_behind_other : (a : ℕ) (rest : List ℕ) → (a == 37) ≡ false → has_date (a ∷ rest) ≡ has_date rest
unfolding has_date
date_behind_other a [] e = refl
date_behind_other a (b ∷ bs) e = rw e refl

date_behind_last : (a : ℕ) (rest : List ℕ) → rest ≡ [] → has_date (a ∷ rest) ≡ has_date rest
unfolding has_date
date_behind_last a rest e = rw e refl

-- it is, if a `%` and such a letter are next
pub date_here : (a b : ℕ) (all left rest bs : List ℕ) → has_date all ≡ has_date left → left ≡ a ∷ rest → rest ≡ b ∷ bs → a ≡ 37 → is_date_letter b ≡ true
    → true ≡ has_date all
date_here a b all left rest bs so e e' is letter =
    sym (so ∙ ap has_date (e ∙ ap (λ xs. a ∷ xs) e') ∙ date_mark a b bs (eq-eqb a 37 is) ∙ ap (λ l. l || has_date bs) letter)

-- it is, if one is behind a `%` and another letter
pub date_behind : (a b : ℕ) (all left rest bs : List ℕ) → has_date all ≡ has_date left → left ≡ a ∷ rest → rest ≡ b ∷ bs → a ≡ 37 → is_date_letter b ≡ false
    → has_date all ≡ has_date bs
date_behind a b all left rest bs so e e' is letter =
    so ∙ ap has_date (e ∙ ap (λ xs. a ∷ xs) e') ∙ date_mark a b bs (eq-eqb a 37 is) ∙ ap (λ l. l || has_date bs) letter

-- it is, if one is behind another byte
pub date_other : (a : ℕ) (all left rest : List ℕ) → has_date all ≡ has_date left → left ≡ a ∷ rest → a ≢ 37 → has_date all ≡ has_date rest
date_other a all left rest so e ne = so ∙ ap has_date e ∙ date_behind_other a rest (ne_eqb a 37 ne)

-- the last byte is none
pub date_last : (a : ℕ) (all left rest : List ℕ) → has_date all ≡ has_date left → left ≡ a ∷ rest → rest ≡ [] → has_date all ≡ has_date rest
date_last a all left rest so e none = so ∙ ap has_date e ∙ date_behind_last a rest none

-- and none is left in the end
pub date_none : (all left : List ℕ) → has_date all ≡ has_date left → left ≡ [] → false ≡ has_date all
unfolding has_date
date_none all left so e = sym (so ∙ ap has_date e)

-- Whether each `%` of a path (`all`) begins one of the five, by what is left of it (`left`).

formed_mark : (a b : ℕ) (bs : List ℕ) → (a == 37) ≡ true → is_dated_path (a ∷ b ∷ bs) ≡ (is_letter b && is_dated_path bs)
unfolding is_dated_path
formed_mark a b bs e = rw e refl

formed_behind_other : (a : ℕ) (rest : List ℕ) → (a == 37) ≡ false → is_dated_path (a ∷ rest) ≡ is_dated_path rest
unfolding is_dated_path
formed_behind_other a [] e = rw e refl
formed_behind_other a (b ∷ bs) e = rw e refl

formed_at_last : (a : ℕ) → (a == 37) ≡ true → is_dated_path (a ∷ []) ≡ false
unfolding is_dated_path
formed_at_last a e = rw e refl

-- not if another letter is behind a `%`
pub formed_not : (a b : ℕ) (all left rest bs : List ℕ) → is_dated_path all ≡ is_dated_path left → left ≡ a ∷ rest → rest ≡ b ∷ bs → a ≡ 37 → is_letter b ≡ false
    → false ≡ is_dated_path all
formed_not a b all left rest bs so e e' is letter =
    sym (so ∙ ap is_dated_path (e ∙ ap (λ xs. a ∷ xs) e') ∙ formed_mark a b bs (eq-eqb a 37 is) ∙ ap (λ l. l && is_dated_path bs) letter)

-- it is as it is behind a `%` and its letter
pub formed_behind : (a b : ℕ) (all left rest bs : List ℕ) → is_dated_path all ≡ is_dated_path left → left ≡ a ∷ rest → rest ≡ b ∷ bs → a ≡ 37 → is_letter b ≡ true
    → is_dated_path all ≡ is_dated_path bs
formed_behind a b all left rest bs so e e' is letter =
    so ∙ ap is_dated_path (e ∙ ap (λ xs. a ∷ xs) e') ∙ formed_mark a b bs (eq-eqb a 37 is) ∙ ap (λ l. l && is_dated_path bs) letter

-- and behind another byte
pub formed_other : (a : ℕ) (all left rest : List ℕ) → is_dated_path all ≡ is_dated_path left → left ≡ a ∷ rest → a ≢ 37 → is_dated_path all ≡ is_dated_path rest
formed_other a all left rest so e ne = so ∙ ap is_dated_path e ∙ formed_behind_other a rest (ne_eqb a 37 ne)

-- not if a `%` is last
pub formed_last : (a : ℕ) (all left rest : List ℕ) → is_dated_path all ≡ is_dated_path left → left ≡ a ∷ rest → rest ≡ [] → a ≡ 37 → false ≡ is_dated_path all
formed_last a all left rest so e none is = sym (so ∙ ap is_dated_path (e ∙ ap (λ xs. a ∷ xs) none) ∙ formed_at_last a (eq-eqb a 37 is))

-- and it is, once nothing is left
pub formed_whole : (all left : List ℕ) → is_dated_path all ≡ is_dated_path left → left ≡ [] → true ≡ is_dated_path all
unfolding is_dated_path
formed_whole all left so e = sym (so ∙ ap is_dated_path e)

-- once nothing is left of a path, all of it was made
pub made_whole : (utc : ℕ) (made left path : List ℕ) → made ++ dated utc left ≡ dated utc path → left ≡ [] → made ≡ dated utc path
unfolding dated
made_whole utc made left path so e = sym (append-nil made) ∙ ap (λ xs. made ++ xs) (sym (ap (λ xs. dated utc xs) e)) ∙ so

-- what is so of `None` is so of an option that is `None`
pub of_none : {X : Type 0} (P : Type 0) (Q : X → Type 0) (r : Option X) → MatchOption r P Q → r ≡ None → P
of_none P Q r so e = subst (λ r. MatchOption r P Q) e so
