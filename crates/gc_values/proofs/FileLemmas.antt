-- Values of files: bytes before a zero, the path that is kept, and the line of a file.
use Rattle.gc_values.proofs.Common.{◌≡◌, ℕ, zero, suc, ◌+◌, ◌<◌, ◌≤◌, ◌||◌, Bool, true, false, length, get_or, take, drop, List, [], ◌∷◌, ◌++◌, replicate, refl, sym, ap, ◌∙◌, arith, append_assoc, drop-cons, ne_eqb, append-nil, same_from_push, take_all, take_more, drop_all, drop_more, common_steps, list_any, has_path, is_foreign, value_text, without_cr, IsLineOf}

-- what is before the first zero, after a byte that is none
text_behind : (b : ℕ) (bs : List ℕ) → (b ≡ 0 → ⊥) → value_text (b ∷ bs) ≡ b ∷ value_text bs
text_behind b bs h = rw (ne_eqb b 0 h) refl

-- one byte more, which is no zero
pub no_zero_more : (xs : List ℕ) (n : ℕ) → n < length xs → (get_or xs n 0 ≡ 0 → ⊥) → value_text xs ≡ take n xs ++ value_text (drop n xs)
    → value_text xs ≡ take (n + 1) xs ++ value_text (drop (n + 1) xs)
no_zero_more xs n h some e =
    let rest = drop (n + 1) xs in
    e ∙ ap (λ l. take n xs ++ value_text l) (drop_more xs n 0 h) ∙ ap (λ l. take n xs ++ l) (text_behind (get_or xs n 0) rest some)
    ∙ sym (append_assoc (take n xs) (get_or xs n 0 ∷ []) (value_text rest)) ∙ ap (λ l. l ++ value_text rest) (sym (take_more xs n 0 h))

-- the first zero is here
pub zero_here : (xs : List ℕ) (n : ℕ) → n < length xs → get_or xs n 0 ≡ 0 → value_text xs ≡ take n xs ++ value_text (drop n xs) → value_text xs ≡ take n xs
zero_here xs n h z e =
    let cons : drop n xs ≡ get_or xs n 0 ∷ drop (suc n) xs = drop-cons xs n 0 h in
    let none : value_text (drop n xs) ≡ [] = ap value_text cons ∙ ap (λ b. value_text (b ∷ drop (suc n) xs)) z in
    e ∙ ap (λ l. take n xs ++ l) none ∙ append-nil (take n xs)

-- there is none
pub no_zero : (xs : List ℕ) (n : ℕ) → length xs ≤ n → value_text xs ≡ take n xs ++ value_text (drop n xs) → value_text xs ≡ xs
no_zero xs n h e =
    e ∙ ap (λ l. take n xs ++ value_text l) (drop_all n xs h) ∙ append-nil (take n xs) ∙ take_all n xs h

-- zeros alone have nothing before them
zeros_have_none : (k : ℕ) → value_text (replicate k 0) ≡ []
zeros_have_none zero = refl
zeros_have_none (suc k) = refl

-- where neither holds, the first doesn't, nor the second
or_left : (a b : Bool) → (a || b) ≡ false → a ≡ false
or_left false b h = refl
or_left true b h = cc

or_right : (a b : Bool) → (a || b) ≡ false → b ≡ false
or_right false b h = h
or_right true b h = cc

-- a zero may not be in a path
not_foreign : (b : ℕ) → is_foreign b ≡ false → b ≡ 0 → ⊥
not_foreign b h e = let same : is_foreign 0 ≡ false = ap is_foreign (sym e) ∙ h in cc

-- a path is kept with zeros behind it
pub path_kept : (path : List ℕ) (k : ℕ) → list_any is_foreign path ≡ false → value_text (path ++ replicate k 0) ≡ path
path_kept [] k h = zeros_have_none k
path_kept (b ∷ bs) k h =
    let some : b ≡ 0 → ⊥ = λ e. not_foreign b (or_left _ _ h) e in
    text_behind b (bs ++ replicate k 0) some ∙ ap (λ l. b ∷ l) (path_kept bs k (or_right _ _ h))

-- a path has no byte that may not be in one
pub none_foreign : (path : List ℕ) → has_path path ≡ true → list_any is_foreign path ≡ false
none_foreign path h = grind (arith, common_steps)

-- a text that ends in a CR, without it
pub cr_goes : (text : List ℕ) → without_cr (text ++ 13 ∷ []) ≡ text
cr_goes [] = refl
cr_goes (b ∷ []) = refl
cr_goes (b ∷ c ∷ bs) = ap (λ l. b ∷ l) (cr_goes (c ∷ bs))

-- a text that ends in another byte stays
pub other_stays : (text : List ℕ) (b : ℕ) → (b ≡ 13 → ⊥) → without_cr (text ++ b ∷ []) ≡ text ++ b ∷ []
other_stays [] b h = rw (ne_eqb b 13 h) refl
other_stays (a ∷ []) b h = rw (ne_eqb b 13 h) refl
other_stays (a ∷ c ∷ bs) b h = ap (λ l. a ∷ l) (other_stays (c ∷ bs) b h)

-- bytes are one line
pub one_line : (bytes a b : List ℕ) → IsLineOf bytes a → IsLineOf bytes b → a ≡ b
one_line bytes a b x y = x.line_is ∙ ap without_cr (same_from_push x.before y.before 10 10 (sym x.bytes_are ∙ y.bytes_are)).0 ∙ sym y.line_is
