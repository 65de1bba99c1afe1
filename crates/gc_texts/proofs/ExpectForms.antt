-- Which lines have the form `T expect REQUEST = ITEMS`, and what they say.
use Rattle.gc_texts.proofs.Common.{◌≡◌, ◌≢◌, ℕ, true, false, List, [], ◌∷◌, ◌++◌, Option, Some, None, arith, refl, sym, ap, ◌∙◌, subst, codes, append_assoc, none-some, same_Some, all_by_recursion_push, Cuts, Lacks, before, ends_in_space, expectation_of, items_trouble, IsTarget, AreRequestAndItems, IsExpectLine, SetsClock, IsWorded, first_word, second_word, after_two_words, Expectation, Wish, Wording, Plain, Described, Now}
use Rattle.gc_texts.proofs.DescribedForms.{described_is_no_expect, one_worded, worded_of_target}
use Rattle.gc_texts.proofs.Cutting.{cut_found}
use Rattle.gc_texts.proofs.Fronts.{before_lacks}
use Rattle.gc_texts.proofs.RawForms.{command_is_no_expect}
use Rattle.gc_texts.proofs.WishForms.{no_wish}

-- texts with one byte more at the end are equal if they were before it
same_front : (xs ys : List ℕ) (b : ℕ) → xs ++ b ∷ [] ≡ ys ++ b ∷ [] → xs ≡ ys
same_front [] [] b e = refl
same_front [] (y ∷ []) b e = absurd (cc)
same_front [] (y ∷ z ∷ ys) b e = absurd (cc)
same_front (x ∷ []) [] b e = absurd (cc)
same_front (x ∷ z ∷ xs) [] b e = absurd (cc)
same_front (x ∷ xs) (y ∷ ys) b e =
    let tails : xs ++ b ∷ [] ≡ ys ++ b ∷ [] = cc in
    let rest = same_front xs ys b tails in
    let first : x ≡ y = cc in
    ap (λ z. z ∷ xs) first ∙ ap (λ zs. y ∷ zs) rest

-- a text that is a request and items, cut at its first `=` (byte 61), has the request and a space before it, and a space and the items
-- behind it
module _ (text front request items : List ℕ) (rest : Option (List ℕ)) (cut : Cuts 61 text front rest) (parts : AreRequestAndItems text request items) where
  pub cut_parts : (front ≡ request ++ 32 ∷ []) × (rest ≡ Some (32 ∷ items))
  cut_parts =
      cut_found 61 text front rest (request ++ 32 ∷ []) (32 ∷ items) cut (parts.are ∙ sym (append_assoc request (32 ∷ []) (61 ∷ 32 ∷ items)))
      (all_by_recursion_push (λ b. b ≢ 61) request 32 parts.plain (λ e. omega (arith, e)))

  -- so it has an `=`
  pub has_equals : rest ≡ None → ⊥
  has_equals none = none-some (32 ∷ items) (sym none ∙ cut_parts.1)

  -- and what follows that begins with a space
  pub has_space_behind : (after : List ℕ) → rest ≡ Some after → ((left : List ℕ) → after ≡ codes " " ++ left → ⊥) → ⊥
  has_space_behind after some none = none items (same_Some after (32 ∷ items) (sym some ∙ cut_parts.1))

  -- what is before it isn't empty
  pub has_front : front ≡ [] → ⊥
  has_front e = no_end request (sym e ∙ cut_parts.0) where
    no_end : (bs : List ℕ) → [] ≡ bs ++ 32 ∷ [] → ⊥
    no_end [] f = absurd (cc)
    no_end (b ∷ bs) f = absurd (cc)

  -- and ends with a space
  pub has_space_before : (before : List ℕ) (last : ℕ) → front ≡ before ++ last ∷ [] → last ≡ 32
  has_space_before before last e = same_last before request (sym e ∙ cut_parts.0) where
    same_last : (xs ys : List ℕ) → xs ++ last ∷ [] ≡ ys ++ 32 ∷ [] → last ≡ 32
    same_last [] [] f = let same : last ≡ 32 = cc in same
    same_last [] (y ∷ []) f = absurd (cc)
    same_last [] (y ∷ z ∷ ys) f = absurd (cc)
    same_last (x ∷ []) [] f = absurd (cc)
    same_last (x ∷ z ∷ xs) [] f = absurd (cc)
    same_last (x ∷ xs) (y ∷ ys) f = let tails : xs ++ last ∷ [] ≡ ys ++ 32 ∷ [] = cc in same_last xs ys tails

  -- and what is before that space doesn't end in one
  pub has_one_space : (before : List ℕ) (last : ℕ) → front ≡ before ++ last ∷ [] → last ≡ 32 → ends_in_space before ≡ true → ⊥
  has_one_space before last e is twice =
      let same = same_front before request 32 (sym (ap (λ b. before ++ b ∷ []) is) ∙ sym e ∙ cut_parts.0) in
      let bad : true ≡ false = sym twice ∙ ap ends_in_space same ∙ parts.one_space in
      cc

-- a text that was cut so is a request and items
pub are_parts : (text front request items after : List ℕ) (last : ℕ) (rest : Option (List ℕ)) → Cuts 61 text front rest → rest ≡ Some after
    → after ≡ codes " " ++ items → front ≡ request ++ last ∷ [] → last ≡ 32 → ends_in_space request ≡ false → AreRequestAndItems text request items
are_parts text front request items after last rest cut some space ends is one =
    let whole = subst (λ r. Cuts 61 text front r) some cut in
    record {
      are = whole.0 ∙ ap (λ f. f ++ 61 ∷ after) (ends ∙ ap (λ b. request ++ b ∷ []) is) ∙ ap (λ a. (request ++ 32 ∷ []) ++ 61 ∷ a) space
          ∙ append_assoc request (32 ∷ []) (61 ∷ 32 ∷ items);
      plain = front_lacks request last (subst (Lacks 61) ends whole.1);
      one_space = one;
    } where
      -- the front of bytes without the mark has none, either
      front_lacks : (bs : List ℕ) (b : ℕ) → Lacks 61 (bs ++ b ∷ []) → Lacks 61 bs
      front_lacks [] b lacks = tt
      front_lacks (x ∷ bs) b lacks = (lacks.0, front_lacks bs b lacks.1)

-- a text is one request and one text of items at most
one_parts : (text request items other others : List ℕ) → AreRequestAndItems text request items → AreRequestAndItems text other others → (request ≡ other) × (items ≡ others)
one_parts text request items other others x y =
    let cut : Cuts 61 text (request ++ 32 ∷ []) (Some (32 ∷ items)) =
    (x.are ∙ sym (append_assoc request (32 ∷ []) (61 ∷ 32 ∷ items)), all_by_recursion_push (λ b. b ≢ 61) request 32 x.plain (λ e. omega (arith, e))) in
    let same = cut_parts text (request ++ 32 ∷ []) other others (Some (32 ∷ items)) cut y in
    let behind : 32 ∷ items ≡ 32 ∷ others = same_Some (32 ∷ items) (32 ∷ others) same.1 in
    (same_front request other 32 same.0, cc)

-- a line expects one thing of the answer to one wish at most
pub one_expectation : (line : List ℕ) (v w : Wish) (m n : Wording) (d e : Expectation) → IsExpectLine line v m d → IsExpectLine line w n e → (v ≡ w) × (m ≡ n) × (d ≡ e)
one_expectation line v w m n d e x y =
    let same = one_parts (after_two_words line) x.request x.items y.request y.items x.parts y.parts in
    let asked = one_worded (first_word line ++ 32 ∷ y.request) v w m n (subst (λ r. IsWorded m (first_word line ++ 32 ∷ r) v) same.0 x.asks) y.asks in
    (asked.0, asked.1, x.expects ∙ ap expectation_of same.1 ∙ sym y.expects)

-- a line whose second word is `expect` has the form of no wish
pub wish_is_no_expect : (line : List ℕ) (wish : Wish) (m : Wording) → IsWorded m line wish → second_word line ≡ codes "expect" → ⊥
wish_is_no_expect line wish Now is word = is
wish_is_no_expect line wish Described is word = described_is_no_expect line wish is word
wish_is_no_expect line wish Plain is word =
    no_wish line (λ target raw asks. let bad : codes "raw" ≡ codes "expect" = sym asks.word ∙ word in cc) (λ command asks. command_is_no_expect line command asks word) wish is

-- nor does it set a clock
pub clock_is_no_expect : (line : List ℕ) (wish : Wish) → SetsClock line wish → second_word line ≡ codes "expect" → ⊥
clock_is_no_expect line wish sets word = let bad : codes "5007" ≡ codes "expect" = ap (before 32) (sym sets.rest_is) ∙ word in cc

-- a line `expect` begins with a target's number
pub expects_of_target : (line : List ℕ) (wish : Wish) (m : Wording) (e : Expectation) → IsExpectLine line wish m e → IsTarget (first_word line) wish.target
expects_of_target line wish m e is = worded_of_target (first_word line) is.request (before_lacks 32 line) m wish is.asks

-- lines that expect nothing
module _ (line : List ℕ) where
  -- what is read of such a line, if anything
  abbrev Read : Type 0
  Read = Wish × Wording × Expectation

  -- its second word isn't `expect`
  pub unexpecting : (second_word line ≡ codes "expect" → ⊥) → (r : Read) → IsExpectLine line r.0 r.1 r.2 → ⊥
  unexpecting none r is = none is.word

  -- it has no request and items
  pub partless : ((request items : List ℕ) → AreRequestAndItems (after_two_words line) request items → ⊥) → (r : Read) → IsExpectLine line r.0 r.1 r.2 → ⊥
  partless none r is = none is.request is.items is.parts

  -- these are its request and items
  module _ (request items : List ℕ) (parts : AreRequestAndItems (after_two_words line) request items) where
    -- with its target the request is no wish
    pub wishless : ((r : Wish × Wording) → IsWorded r.1 (first_word line ++ 32 ∷ request) r.0 → ⊥) → (r : Read) → IsExpectLine line r.0 r.1 r.2 → ⊥
    wishless none r is =
        none (r.0, r.1) (subst (λ q. IsWorded r.1 (first_word line ++ 32 ∷ q) r.0) (one_parts (after_two_words line) is.request is.items request items is.parts parts).0 is.asks)

    -- the items are at fault
    pub unsound : (items_trouble items ≡ None → ⊥) → (r : Read) → IsExpectLine line r.0 r.1 r.2 → ⊥
    unsound none r is = none (ap items_trouble (sym (one_parts (after_two_words line) is.request is.items request items is.parts parts).1) ∙ is.sound)
