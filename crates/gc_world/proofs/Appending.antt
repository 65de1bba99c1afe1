-- An entry that is appended blank, and then written in its place in the list: the list is the old one with that entry appended.
use Rattle.gc_world.proofs.Common.{◌≡◌, ℕ, List, [], ◌∷◌, ◌++◌, length, get_or, sym, ◌∙◌, ap, slice_set, get_or_push, set-append_seam, ArrayVec}

-- where `items` is xs with `blank` appended at place n, and `now` is the element at place n of `items`, `now` is `blank`
pub last_is_blank : {A : Type 0} (xs items : List A) (n : ℕ) (blank now : A) → items ≡ xs ++ blank ∷ [] → n ≡ length xs → now ≡ get_or items n now → now ≡ blank
last_is_blank xs items n blank now are at is = is ∙ ap (λ l. get_or l n now) are ∙ get_or_push xs blank now n (sym at)

-- where `items` is xs with a blank appended at place n, and place n is overwritten by `new`, which is `entry`, the list is xs
-- with `entry` appended
pub set_last : {A : Type 0} (xs items : List A) (n : ℕ) (blank new entry : A) → items ≡ xs ++ blank ∷ [] → n ≡ length xs → new ≡ entry
    → slice_set items n new ≡ xs ++ entry ∷ []
set_last xs items n blank new entry are at is =
    ap (λ l. slice_set l n new) are ∙ ap (λ k. slice_set (xs ++ blank ∷ []) k new) at ∙ set-append_seam xs blank [] new ∙ ap (λ e. xs ++ e ∷ []) is

-- lines with the same bytes are equal
equal_lines : (xs ys : List ℕ) → xs ≡ ys → ◌≡◌ {A = ArrayVec ℕ} (record { items = xs }) (record { items = ys })
equal_lines xs ys e = ap {A = List ℕ} {B = ArrayVec ℕ} (λ l. record { items = l }) e

-- a line of no bytes, to which another line's bytes were appended, is that line
pub line_appended : (blank to line : ArrayVec ℕ) (bytes : List ℕ) → blank.items ≡ [] → to.items ≡ blank.items ++ bytes → bytes ≡ line.items → to ≡ line
line_appended blank to line bytes empty put are = equal_lines to.items line.items (put ∙ ap (λ l. l ++ bytes) empty ∙ are)

-- a line of no bytes is the empty line
pub empty_line : (line : ArrayVec ℕ) → line.items ≡ [] → line ≡ record { items = [] }
empty_line line e = equal_lines line.items [] e
