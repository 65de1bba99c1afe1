-- The items of a text, taken one after the other, and the place of `..` in one.
use Rattle.gc_texts.proofs.Common.{◌≡◌, ◌≤◌, ◌+◌, ◌==◌, ℕ, Bool, true, false, List, [], ◌∷◌, length, filter, cond, Option, Some, None, arith, refl, ap, sym, ◌∙◌, codes, starts_with, counters_in, dots_in, is_counter, is_item, items_in, no_item_in}
use Rattle.std.proofs.Common.{option_map}
use Rattle.gc_texts.proofs.WordLists.{pieces_few}

-- a text without bytes is empty
pub no_bytes : (bs : List ℕ) → length bs ≡ 0 → bs ≡ []
no_bytes [] e = refl
no_bytes (b ∷ bs) e = absurd (omega (arith, e))

-- a text of at most 128 bytes has at most 129 items
pub items_few : (text : List ℕ) → length text ≤ 128 → length (items_in text) ≤ 129
items_few text short = let few = pieces_few 44 text in omega (arith, few, short)

-- of the items of this text `count` were taken, and `items` are left
pub record AreCounted (text : List ℕ) (count : ℕ) (items : List (List ℕ)) : Type 0 where
  pub all : length (items_in text) ≡ count + length items
  pub few : count + length items ≤ 129

-- at first all are left
pub all_left : (text : List ℕ) (items : List (List ℕ)) → items ≡ items_in text → length text ≤ 128 → AreCounted text 0 items
all_left text items are short =
    let few = items_few text short in
    let all = ap length are in
    record { all = omega (arith, all); few = omega (arith, few, all) }

-- of the items of this text some were taken, and `count` of these are `>`; `items` are left
pub record CountsSoFar (text : List ℕ) (count : ℕ) (items : List (List ℕ)) : Type 0 where
  pub counters : counters_in text ≡ count + length (filter is_counter items)
  pub few : count + length items ≤ 129

-- at first none was taken
pub counted_from_none : (text : List ℕ) (items : List (List ℕ)) → items ≡ items_in text → length text ≤ 128 → CountsSoFar text 0 items
counted_from_none text items are short =
    let few = items_few text short in
    let all = ap length are in
    record { counters = sym (ap (λ l. length (filter is_counter l)) are) ∙ omega arith; few = omega (arith, few, all) }

-- one more is `>`, or it isn't
module _ (text : List ℕ) (count : ℕ) (old : List (List ℕ)) (item : List ℕ) (items : List (List ℕ)) (so : CountsSoFar text count old) (taken : old ≡ item ∷ items) where
  pub one_counter_more : is_counter item ≡ true → CountsSoFar text (count + 1) items
  one_counter_more is =
      let left : length (filter is_counter old) ≡ length (item ∷ filter is_counter items) =
      ap (λ l. length (filter is_counter l)) taken ∙ ap (λ b. length (cond b (item ∷ filter is_counter items) (filter is_counter items))) is in
      let many = ap length taken in
      record { counters = omega (arith, so.counters, left); few = omega (arith, so.few, many) }

  pub no_counter_more : is_counter item ≡ false → CountsSoFar text count items
  no_counter_more isnt =
      let left : length (filter is_counter old) ≡ length (filter is_counter items) =
      ap (λ l. length (filter is_counter l)) taken ∙ ap (λ b. length (cond b (item ∷ filter is_counter items) (filter is_counter items))) isnt in
      let many = ap length taken in
      record { counters = omega (arith, so.counters, left); few = omega (arith, so.few, many) }

-- a place among what is left, counted from the front of all
abbrev pub shifted : (passed : ℕ) → Option ℕ → Option ℕ
shifted passed place = option_map (λ n. n + passed) place

-- shifting by one and then by others is shifting by all
pub shifted_on : (passed : ℕ) (place : Option ℕ) → shifted passed (option_map (λ n. n + 1) place) ≡ shifted (passed + 1) place
shifted_on passed None = refl
shifted_on passed (Some n) = ap Some (omega arith)

pub shifted_by_none : (place : Option ℕ) → place ≡ shifted 0 place
shifted_by_none None = refl
shifted_by_none (Some n) = ap Some (omega arith)

-- of the items of this text `passed` are items, and `items` are left
pub record PassesSoFar (text : List ℕ) (passed : ℕ) (items : List (List ℕ)) : Type 0 where
  pub found : no_item_in (items_in text) ≡ shifted passed (no_item_in items)
  pub few : passed + length items ≤ 129

-- at first none was taken
pub none_passed : (text : List ℕ) (items : List (List ℕ)) → items ≡ items_in text → length text ≤ 128 → PassesSoFar text 0 items
none_passed text items are short =
    let few = items_few text short in
    let all = ap length are in
    record { found = sym (ap no_item_in are) ∙ shifted_by_none (no_item_in items); few = omega (arith, few, all) }

-- the next is an item, or it isn't
module _ (text : List ℕ) (passed : ℕ) (old : List (List ℕ)) (item : List ℕ) (items : List (List ℕ)) (so : PassesSoFar text passed old) (taken : old ≡ item ∷ items) where
  abbrev next_or_later : Bool → Option ℕ
  next_or_later b = cond b (option_map (λ n. n + 1) (no_item_in items)) (Some 1)

  pub passes_next : is_item item ≡ true → PassesSoFar text (passed + 1) items
  passes_next is =
      let many = ap length taken in
      record {
        found = so.found ∙ ap (λ l. shifted passed (no_item_in l)) taken ∙ ap (λ b. shifted passed (next_or_later b)) is ∙ shifted_on passed (no_item_in items);
        few = omega (arith, so.few, many);
      }

  pub fails_next : is_item item ≡ false → Some (passed + 1) ≡ no_item_in (items_in text)
  fails_next isnt = sym (so.found ∙ ap (λ l. shifted passed (no_item_in l)) taken ∙ ap (λ b. shifted passed (next_or_later b)) isnt ∙ ap Some (omega arith))

-- The place of `..`.

-- whether a text begins with `..`
abbrev pub begins_with_dots : List ℕ → Bool
begins_with_dots text = starts_with (λ x y. x == y) text (codes "..")

-- `..` isn't in an item before this place, from which on `left` is left
pub record NoDotsBefore (item : List ℕ) (place : ℕ) (left : List ℕ) : Type 0 where
  pub found : dots_in item ≡ shifted place (dots_in left)
  pub long : length item ≡ place + length left

-- at first no byte was passed
pub dots_ahead : (item : List ℕ) → NoDotsBefore item 0 item
dots_ahead item = record { found = shifted_by_none (dots_in item); long = omega arith }

-- at this place is a byte
module _ (item : List ℕ) (place : ℕ) (left : List ℕ) (so : NoDotsBefore item place left) (b : ℕ) (rest : List ℕ) (is : left ≡ b ∷ rest) where
  -- `..` is here, or later
  here_or_later : dots_in left ≡ cond (begins_with_dots left) (Some 0) (option_map (λ n. n + 1) (dots_in rest))
  here_or_later = ap dots_in is ∙ ap (λ l. cond (begins_with_dots l) (Some 0) (option_map (λ n. n + 1) (dots_in rest))) (sym is)

  pub dots_here : begins_with_dots left ≡ true → Some place ≡ dots_in item
  dots_here found =
      sym (so.found ∙ ap (shifted place) (here_or_later ∙ ap (λ z. cond z (Some 0) (option_map (λ n. n + 1) (dots_in rest))) found) ∙ ap Some (omega arith))

  pub dots_later : begins_with_dots left ≡ false → NoDotsBefore item (place + 1) rest
  dots_later none =
      let many = ap length is in
      record {
        found = so.found ∙ ap (shifted place) (here_or_later ∙ ap (λ z. cond z (Some 0) (option_map (λ n. n + 1) (dots_in rest))) none) ∙ shifted_on place (dots_in rest);
        long = omega (arith, many, so.long);
      }

-- `..` isn't in an item if nothing is left
pub dots_nowhere : (item : List ℕ) (place : ℕ) (left : List ℕ) → NoDotsBefore item place left → left ≡ [] → None ≡ dots_in item
dots_nowhere item place left so none = sym (so.found ∙ ap (λ l. shifted place (dots_in l)) none)
