-- When a list of ids contains a word as a subsequence ("the word is in the ids"). If it doesn't, it doesn't either once ids are
-- lost; nor once an id is repeated directly after itself, if no id is in the word twice.
use Rattle.gc_theorems.proofs.Common.{◌≡◌, ℕ, zero, suc, ◌+◌, ◌-◌, ◌%◌, ◌<◌, ◌≤◌, inl, inr, Bool, true, false, not, ◌&&◌, List, [], ◌∷◌, ◌++◌, nat_eq, refl, sym, ◌∙◌, subst, arith, map, Some, AllByRecursion, ap₂, eq-eqb, eqb-true, eqb-false, false≢true, and_parts, not-true, left_by, left_when, IsSubsequence, the_word, Rising, rising_lower}
use Rattle.gc_theorems.proofs.BeginIds.{AllDiffer, upward}

-- a list with an element isn't empty
pub cons_not_nil : {A : Type 0} (x : A) (xs : List A) → x ∷ xs ≡ [] → ⊥
cons_not_nil x xs e = cc

-- Fewer ids, and repeats.

-- a word that is in ids is in them, too, once one more id is put before these ids
pub subword_more : (word ids : List ℕ) (i : ℕ) → IsSubsequence word ids → IsSubsequence word (i ∷ ids)
subword_more [] ids i h = tt
subword_more (w ∷ word) ids i h = inr h

-- if a word is in ids, the word without its first id is in them, too
pub subword_tail : (w : ℕ) (word ids : List ℕ) → IsSubsequence (w ∷ word) ids → IsSubsequence word ids
subword_tail w word [] h = absurd h
subword_tail w word (i ∷ ids) (inl h) = subword_more word ids i h.1
subword_tail w word (i ∷ ids) (inr h) = subword_more word ids i (subword_tail w word ids h)

-- the front of a word is in the ids that the word is in
pub subword_front : (word more ids : List ℕ) → IsSubsequence (word ++ more) ids → IsSubsequence word ids
subword_front [] more ids h = tt
subword_front (w ∷ word) more [] h = absurd h
subword_front (w ∷ word) more (i ∷ ids) (inl h) = inl (h.0, subword_front word more ids h.1)
subword_front (w ∷ word) more (i ∷ ids) (inr h) = inr (subword_front (w ∷ word) more ids h)

-- what holds of each of these ids holds of each id of a word that is in them
pub subword_each : (P : ℕ → Type 0) (word ids : List ℕ) → AllByRecursion P ids → IsSubsequence word ids → AllByRecursion P word
subword_each P [] ids h s = tt
subword_each P (w ∷ word) [] h s = absurd s
subword_each P (w ∷ word) (i ∷ ids) h (inl s) = (subst P (sym s.0) h.0, subword_each P word ids h.1 s.1)
subword_each P (w ∷ word) (i ∷ ids) h (inr s) = subword_each P (w ∷ word) ids h.1 s

-- the first ids contain no more words than the second ones: each word without an id twice that is in the first is in the second
abbrev pub HasNoMoreWords : (ids others : List ℕ) → Type 0
HasNoMoreWords ids others = (word : List ℕ) → AllDiffer word → IsSubsequence word ids → IsSubsequence word others

-- `HasNoMoreWords` is preserved if the same id is put before both lists
pub no_more_words_behind : (i : ℕ) (ids others : List ℕ) → HasNoMoreWords ids others → HasNoMoreWords (i ∷ ids) (i ∷ others)
no_more_words_behind i ids others f [] d h = tt
no_more_words_behind i ids others f (w ∷ word) d (inl h) = inl (h.0, f word d.1 h.1)
no_more_words_behind i ids others f (w ∷ word) d (inr h) = inr (f (w ∷ word) d h)

-- ids that begin with i twice contain no more words (`HasNoMoreWords`) than those that begin with i once
pub no_more_words_twice : (i : ℕ) (ids : List ℕ) → HasNoMoreWords (i ∷ i ∷ ids) (i ∷ ids)
no_more_words_twice i ids [] d h = tt
no_more_words_twice i ids (w ∷ []) d (inl h) = inl (h.0, tt)
no_more_words_twice i ids (w ∷ v ∷ word) d (inl h) =
    elim h.1 [
      | inl g ↦ absurd (d.0.0 (h.0 ∙ sym g.0))
      | inr g ↦ inl (h.0, g)
    ]
no_more_words_twice i ids (w ∷ word) d (inr h) = h

-- A test that no id occurs twice.

-- whether this id isn't among these
abbrev pub is_new : ℕ → List ℕ → Bool
is_new i [] = true
is_new i (j ∷ ids) = not (nat_eq i j) && is_new i ids

-- whether no id is among these twice
abbrev pub none_twice : List ℕ → Bool
none_twice [] = true
none_twice (i ∷ ids) = is_new i ids && none_twice ids

-- an id that isn't among these ids by `is_new` differs from each of them
new_differs : (i : ℕ) (ids : List ℕ) → is_new i ids ≡ true → AllByRecursion (λ j. i ≡ j → ⊥) ids
new_differs i [] e = tt
new_differs i (j ∷ ids) e =
    let h = and_parts (not (nat_eq i j)) (is_new i ids) e in
    (eqb-false i j (not-true (nat_eq i j) h.0), new_differs i ids h.1)

-- ids among which `none_twice` finds none twice all differ
pub all_differ : (ids : List ℕ) → none_twice ids ≡ true → AllDiffer ids
all_differ [] e = tt
all_differ (i ∷ ids) e = let h = and_parts (is_new i ids) (none_twice ids) e in (new_differs i ids h.0, all_differ ids h.1)

-- no id is in the word twice
pub word_ids_differ : AllDiffer the_word
word_ids_differ = all_differ the_word refl

-- The greedy way: replies with these ids, heard one after the other, answer the whole word, if it is in them.

-- what is left of a word after replies with these ids, of which each answers the first id that is left, or is discarded
abbrev pub left_by_replies : (word ids : List ℕ) → List ℕ
left_by_replies word [] = word
left_by_replies word (i ∷ ids) = left_by_replies (left_by word (Some i)) ids

-- if replies with these ids answer all of each word that the ids contain, these replies after one with the id i answer all of
-- `w ∷ word`, if `i ∷ ids` contain it, whether i is w (`b`) or not
answers_contained_word_next : (i w : ℕ) (ids word : List ℕ) (b : Bool) → nat_eq i w ≡ b → ((v : List ℕ) → IsSubsequence v ids → left_by_replies v ids ≡ [])
    → IsSubsequence (w ∷ word) (i ∷ ids) → left_by_replies (left_when b w word) ids ≡ []
answers_contained_word_next i w ids word true e f (inl h) = f word h.1
answers_contained_word_next i w ids word true e f (inr h) = f word (subword_tail w word ids h)
answers_contained_word_next i w ids word false e f (inl h) = absurd (false≢true (sym e ∙ eq-eqb i w (sym h.0)))
answers_contained_word_next i w ids word false e f (inr h) = f (w ∷ word) h

-- replies with these ids answer all of each word that the ids contain
pub answers_contained_word : (ids word : List ℕ) → IsSubsequence word ids → left_by_replies word ids ≡ []
answers_contained_word [] [] h = refl
answers_contained_word [] (w ∷ word) h = absurd h
answers_contained_word (i ∷ ids) [] h = answers_contained_word ids [] tt
answers_contained_word (i ∷ ids) (w ∷ word) h = answers_contained_word_next i w ids word (nat_eq i w) refl (answers_contained_word ids) h

-- the eight ids upward from any id on don't contain 6, 5 and 4 in this order
upward_lack_three : (i : ℕ) → i < 8 → IsSubsequence (6 ∷ 5 ∷ 4 ∷ []) (upward i 8) → ⊥
upward_lack_three zero low h = cons_not_nil _ _ (answers_contained_word (upward 0 8) (6 ∷ 5 ∷ 4 ∷ []) h)
upward_lack_three (suc zero) low h = cons_not_nil _ _ (answers_contained_word (upward 1 8) (6 ∷ 5 ∷ 4 ∷ []) h)
upward_lack_three (suc (suc zero)) low h = cons_not_nil _ _ (answers_contained_word (upward 2 8) (6 ∷ 5 ∷ 4 ∷ []) h)
upward_lack_three (suc (suc (suc zero))) low h = cons_not_nil _ _ (answers_contained_word (upward 3 8) (6 ∷ 5 ∷ 4 ∷ []) h)
upward_lack_three (suc (suc (suc (suc zero)))) low h = cons_not_nil _ _ (answers_contained_word (upward 4 8) (6 ∷ 5 ∷ 4 ∷ []) h)
upward_lack_three (suc (suc (suc (suc (suc zero))))) low h = cons_not_nil _ _ (answers_contained_word (upward 5 8) (6 ∷ 5 ∷ 4 ∷ []) h)
upward_lack_three (suc (suc (suc (suc (suc (suc zero)))))) low h = cons_not_nil _ _ (answers_contained_word (upward 6 8) (6 ∷ 5 ∷ 4 ∷ []) h)
upward_lack_three (suc (suc (suc (suc (suc (suc (suc zero))))))) low h = cons_not_nil _ _ (answers_contained_word (upward 7 8) (6 ∷ 5 ∷ 4 ∷ []) h)
upward_lack_three (suc (suc (suc (suc (suc (suc (suc (suc i)))))))) low h = absurd (omega (arith, low))

-- Numbers that never fall, within eight consecutive ones: modulo 8 they contain no word, in which no id is twice, but those
-- that the eight ids from the least one up contain.

-- the ids of requests with these numbers
abbrev pub ids_of_numbers : List ℕ → List ℕ
ids_of_numbers ns = map (λ n. n % 8) ns

-- the empty list contains no more words than any ids: only the empty word, which all ids contain
nil_no_more_words : (others : List ℕ) → HasNoMoreWords [] others
nil_no_more_words others [] d h = tt
nil_no_more_words others (w ∷ word) d h = absurd h

-- if a equals b, numbers below a are below b
each_below : (a b : ℕ) (ns : List ℕ) → a ≡ b → AllByRecursion (λ m. m < a) ns → AllByRecursion (λ m. m < b) ns
each_below a b ns e h = subst (λ c. AllByRecursion (λ m. m < c) ns) e h

-- each word without an id twice that is in the ids of the numbers `ns`, which never fall from a on and are below a + k, is in
-- the k ids upward from a
abbrev AreUpward : (a k : ℕ) (ns : List ℕ) → Type 0
AreUpward a k ns = Rising (a + 1) ns → AllByRecursion (λ m. m < a + k) ns → HasNoMoreWords (ids_of_numbers ns) (upward a k)

-- where `AreUpward` of a + 1 and k holds of m and `ns`, `AreUpward` of a and k + 1 is preserved if m is put before `ns`, whether
-- m is a (`b`) or above it
upward_first : (a k m : ℕ) (ns : List ℕ) (b : Bool) → nat_eq m a ≡ b → AreUpward (a + 1) k (m ∷ ns) → AreUpward a (suc k) ns → AreUpward a (suc k) (m ∷ ns)
upward_first a k m ns true e above more h low = λ word d s.
    let same : m ≡ a = eqb-true m a e in
    let rest = more (rising_lower (a + 1) (m + 1) ns (omega (arith, same)) h.1) low.1 in
    no_more_words_twice (a % 8) (upward (a + 1) k) word d
    (no_more_words_behind (a % 8) (ids_of_numbers ns) (upward a (suc k)) rest word d
    (subst (λ i. IsSubsequence word (i % 8 ∷ ids_of_numbers ns)) same s))
upward_first a k m ns false e above more h low = λ word d s.
    let other : m ≡ a → ⊥ = eqb-false m a e in
    let over : a + 1 + 1 ≤ m + 1 = omega (arith, h.0, other) in
    subword_more word (upward (a + 1) k) (a % 8) (above (over, h.1) (each_below (a + suc k) (a + 1 + k) (m ∷ ns) (omega arith) low) word d s)

-- if `AreUpward` holds of any numbers with a + 1 and k, it holds of any with a and k + 1
upward_more : (a k : ℕ) → ((ns : List ℕ) → AreUpward (a + 1) k ns) → (ns : List ℕ) → AreUpward a (suc k) ns
upward_more a k above [] h low = nil_no_more_words (upward a (suc k))
upward_more a k above (m ∷ ns) h low = upward_first a k m ns (nat_eq m a) refl (above (m ∷ ns)) (upward_more a k above ns) h low

-- `AreUpward` holds of any numbers
are_upward : (k a : ℕ) (ns : List ℕ) → AreUpward a k ns
are_upward zero a [] h low = nil_no_more_words []
are_upward zero a (m ∷ ns) h low = absurd (omega (arith, h.0, low.0))
are_upward (suc k) a ns h low = upward_more a k (are_upward k (a + 1)) ns h low

-- the ids upward from two numbers that are the same modulo 8 are the same
upward_round : (n a b : ℕ) → a % 8 ≡ b % 8 → upward a n ≡ upward b n
upward_round zero a b e = refl
upward_round (suc n) a b e = ap₂ (λ i ids. i ∷ ids) e (upward_round n (a + 1) (b + 1) (omega (arith, e)))

-- where `low` is above 0, and numbers never fall and are among the eight from `low` - 1 on, as those in flight in a run that has
-- synchronized: their ids don't contain 6 5 4
pub eight_rising_lack_three : (low : ℕ) (ns : List ℕ) → 0 < low → Rising low ns → AllByRecursion (λ n. n < low + 7) ns → IsSubsequence (6 ∷ 5 ∷ 4 ∷ []) (ids_of_numbers ns) → ⊥
eight_rising_lack_three low ns some h below s =
    let a : ℕ = low - 1 in
    let first : low ≡ a + 1 = omega (arith, some) in
    let within = are_upward 8 a ns (subst (λ l. Rising l ns) first h) (each_below (low + 7) (a + 8) ns (omega (arith, first)) below) (6 ∷ 5 ∷ 4 ∷ []) (all_differ (6 ∷ 5 ∷ 4 ∷ []) refl) s in
    upward_lack_three (a % 8) (omega arith) (subst (λ ids. IsSubsequence (6 ∷ 5 ∷ 4 ∷ []) ids) (upward_round 8 a (a % 8) (omega arith)) within)
