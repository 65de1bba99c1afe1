-- Texts that are words of one form (`AreWords`), one for each item, with one space (byte 32) between two. While the words are
-- read, `left` is what is unread of the text (`None` at its end), `read` the items so far, and `rest` what is left after the next
-- word.
use Rattle.gc_texts.proofs.Common.{◌≡◌, ℕ, List, [], ◌∷◌, ◌++◌, Option, Some, None, refl, ap, subst, sym, ◌∙◌, append_assoc, Cuts, Lacks, ItemForm, AreWords}
use Rattle.gc_texts.proofs.Cutting.{cut_found, cut_none, one_front, has_mark}

-- a word of this form has no space, and is one item at most
pub record IsWordForm {Item : Type 0} (form : ItemForm Item) : Type 0 where
  pub lacks : (word : List ℕ) (item : Item) → form word item → Lacks 32 word
  pub one : (word : List ℕ) (a b : Item) → form word a → form word b → a ≡ b

-- where a word of the form has no space and is one item at most (`IsWordForm`), a text is the words of one list of items at most
pub one_word_list : {Item : Type 0} (form : ItemForm Item) → IsWordForm form → (xs ys : List Item) (text : List ℕ)
    → AreWords form text xs → AreWords form text ys → xs ≡ ys
one_word_list form f [] ys text a b = absurd a
one_word_list form f (x ∷ xs) [] text a b = absurd b
one_word_list form f (x ∷ []) (y ∷ []) text a b = ap (λ z. z ∷ []) (f.one text x y a b)
one_word_list form f (x ∷ []) (y ∷ n ∷ ys) text a (word, rest, at, is, others) = absurd (has_mark 32 word rest text (sym at) (f.lacks text x a))
one_word_list form f (x ∷ m ∷ xs) (y ∷ []) text (word, rest, at, is, others) b = absurd (has_mark 32 word rest text (sym at) (f.lacks text y b))
one_word_list form f (x ∷ m ∷ xs) (y ∷ n ∷ ys) text (word, rest, at, is, others) (front, behind, so, says, more) =
    let parts = one_front 32 word front rest behind (sym at ∙ so) (f.lacks word x is) (f.lacks front y says) in
    let heads : x ≡ y = f.one front x y (subst (λ (w : List ℕ). form w x) parts.0 is) says in
    let tails : m ∷ xs ≡ n ∷ ys = one_word_list form f (m ∷ xs) (n ∷ ys) behind (subst (λ (r : List ℕ). AreWords form r (m ∷ xs)) parts.1 others) more in
    ap (λ z. z ∷ m ∷ xs) heads ∙ ap (λ zs. y ∷ zs) tails

-- what is left of a text is the words of these items; at its end there are none
abbrev pub AreLeft : {Item : Type 0} → ItemForm Item → Option (List ℕ) → List Item → Type 0
AreLeft form None later = later ≡ []
AreLeft form (Some text) later = AreWords form text later

-- the words of the items `read` were read from the text: the items of all of it are these, and after them those of what is left
pub record ReadsWords {Item : Type 0} (form : ItemForm Item) (text : List ℕ) (left : Option (List ℕ)) (read : List Item) : Type 0 where
  pub found : (later : List Item) → AreLeft form left later → AreWords form text (read ++ later)
  pub only : (all : List Item) → AreWords form text all → (later : List Item) × (all ≡ read ++ later) × AreLeft form left later

-- where a word of the form has no space (`IsWordForm`), and a text is the words of the items `later`, the first item is that of
-- the word before the first space, and the others are those of the rest
first_item : {Item : Type 0} (form : ItemForm Item) → IsWordForm form → (now word : List ℕ) (later : List Item) (rest : Option (List ℕ))
    → Cuts 32 now word rest → AreWords form now later
    → (item : Item) × (others : List Item) × (later ≡ item ∷ others) × form word item × AreLeft form rest others
first_item form f now word [] rest cut are = absurd are
first_item form f now word (item ∷ []) rest cut are =
    let parts = cut_none 32 now word rest cut (f.lacks now item are) in
    (item, [], refl, subst (λ (w : List ℕ). form w item) (sym parts.0) are, subst (λ (o : Option (List ℕ)). AreLeft form o []) (sym parts.1) refl)
first_item form f now word (item ∷ next ∷ others) rest cut (front, behind, at, is, more) =
    let parts = cut_found 32 now word rest front behind cut at (f.lacks front item is) in
    (item, next ∷ others, refl, subst (λ (w : List ℕ). form w item) (sym parts.0) is, subst (λ (o : Option (List ℕ)). AreLeft form o (next ∷ others)) (sym parts.1) more)

-- where a text is cut at its first space, the word before it is `item`'s, and the rest is the words of `others`, the text is the
-- words of `item` and `others`
words_joined : {Item : Type 0} (form : ItemForm Item) (now word : List ℕ) (rest : Option (List ℕ)) (item : Item) (others : List Item)
    → Cuts 32 now word rest → form word item
    → AreLeft form rest others → AreWords form now (item ∷ others)
words_joined form now word None item [] cut is left = subst (λ (w : List ℕ). form w item) (sym cut.0) is
words_joined form now word None item (next ∷ others) cut is left = let bad : next ∷ others ≡ [] = left in cc
words_joined form now word (Some behind) item [] cut is left = absurd left
words_joined form now word (Some behind) item (next ∷ others) cut is left = (word, behind, cut.0, is, left)

-- where nothing is left, the words that were read are those of the text
pub all_words_read : {Item : Type 0} (form : ItemForm Item) (text : List ℕ) (left : Option (List ℕ)) (read : List Item)
    → ReadsWords form text left read → left ≡ None → AreWords form text (read ++ [])
all_words_read form text left read r none = r.found [] (subst (λ (o : Option (List ℕ)). AreLeft form o []) (sym none) refl)

-- the text `now` is left, and `word` is its next word
module _
    {Item : Type 0} (form : ItemForm Item) (f : IsWordForm form) (text now word : List ℕ) (left rest : Option (List ℕ)) (read : List Item)
    (r : ReadsWords form text left read) (some : left ≡ Some now) (cut : Cuts 32 now word rest) where
  -- the items of the text are those that were read, the one of the next word, and those of the rest
  pub next_item_of : (all : List Item) → AreWords form text all
      → (item : Item) × (others : List Item) × (all ≡ read ++ item ∷ others) × form word item × AreLeft form rest others
  next_item_of all are =
      let o = r.only all are in
      let first = first_item form f now word o.0 rest cut (subst (λ (l : Option (List ℕ)). AreLeft form l o.0) some o.2) in
      (first.0, first.1, o.1 ∙ ap (λ l. read ++ l) first.2, first.3, first.4)

  -- where the next word is `item`'s, `ReadsWords` holds with `item` read after the items so far, and the rest left
  pub one_more_read : (item : Item) → form word item → ReadsWords form text rest (read ++ item ∷ [])
  one_more_read item is =
      record {
        found = λ later are.
            subst (λ (items : List Item). AreWords form text items) (sym (append_assoc read (item ∷ []) later))
            (r.found (item ∷ later) (subst (λ (l : Option (List ℕ)). AreLeft form l (item ∷ later)) (sym some) (words_joined form now word rest item later cut is are)));
        only = λ all are.
            let next = next_item_of all are in
            let same : next.0 ≡ item = f.one word next.0 item next.3 is in
            (next.1, next.2 ∙ ap (λ x. read ++ x ∷ next.1) same ∙ sym (append_assoc read (item ∷ []) next.1), next.4);
      }
