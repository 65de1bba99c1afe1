-- What a sink took, and how long a text is once a buffer's bytes were appended.
use Rattle.gc_lines.proofs.Common.{◌≡◌, ℕ, ◌+◌, ◌≤◌, List, ◌++◌, length, take, Option, Some, None, refl, sym, ap, ◌∙◌, subst, append_assoc, length-append, Appends, length-take-le}

-- if appending the bytes xs makes b of a, so does appending any ys equal to xs
pub Appends-is : (a b : Option (List ℕ)) (xs ys : List ℕ) → xs ≡ ys → Appends a b xs → Appends a b ys
Appends-is a b xs ys e h = subst (λ (zs : List ℕ). Appends a b zs) e h

-- if appending the bytes xs and then ys makes b of a, there is something between that appending xs makes of a, and of which
-- appending ys makes b
pub Appends-parts : (a b : Option (List ℕ)) (xs ys : List ℕ) → Appends a b (xs ++ ys) → (between : Option (List ℕ)) × Appends a between xs × Appends between b ys
Appends-parts None b xs ys h = (None, tt, tt)
Appends-parts (Some old) None xs ys h = absurd h
Appends-parts (Some old) (Some new) xs ys h = (Some (old ++ xs), refl, h ∙ sym (append_assoc old xs ys))

-- if a buffer has at least n bytes, a text gets n bytes longer with the first n of them appended
pub length_more : (text buf : List ℕ) (n : ℕ) → n ≤ length buf → length (text ++ take n buf) ≡ length text + n
length_more text buf n h = length-append text (take n buf) ∙ ap (λ m. length text + m) (length-take-le n buf h)
