-- Synchronizations that are killed: each makes the front of the word that the ids in flight contain longer by one id at most.
-- (The word has the ids of a synchronization's null procedures.) `first` has the ids in flight at the start of a
-- synchronization, and `left` those of the word that aren't answered yet; old lines are from before it, own ones are its own.
-- `IsTrying` is the invariant.
use Rattle.gc_theorems.proofs.Common.{◌≡◌, ℕ, zero, ◌⊎◌, inl, inr, Bool, true, false, List, [], ◌∷◌, ◌++◌, nat_eq, refl, sym, ◌∙◌, ap, subst, append-nil, append_assoc, Some, AllByRecursion, map-map, eqb-true, false≢true, append_cancel_left, map-append, left_by, left_when, IsSubsequence, the_word, without, doubled, all_append, every_behind as all_behind, every_weaker as all_on, each_without, each_doubled, cons_head, one_front_begins_other}
use Rattle.gc_theorems.proofs.BeginIds.{IdSent, IdModel, IdMove, moved, aged, begun_anew, AllPairsByRecursion, AllDiffer, Begins, ids_in_flight, ids_of}
use Rattle.gc_theorems.proofs.BeginLists.{each_all, each_both, each_map, each_to_map, pairs_front, pairs_back}
use Rattle.gc_theorems.proofs.BeginWords.{HasNoMoreWords, subword_front, subword_each, word_ids_differ}
use Rattle.gc_theorems.proofs.BeginMoves.{Lasts, holds_moved}
use Rattle.gc_theorems.proofs.BeginLines.{FrontAnswers, IsLine, IsOld, IsOwn, KeepsOwn, HasNoneIfOwn, KeepsTheId, OwnIdsFit, old_if, olds, olds_all, olds_push, no_more_words_without, no_more_words_doubled, line_without, line_doubled, line_asked, line_came}
use Rattle.gc_theorems.proofs.BeginSound.{sound_at_start}

-- The invariant of one synchronization.

-- only old replies have answered yet, with the ids `done`: each word without an id twice that is in the old ids now was in
-- `first`; and so was `done` with a word after it that is in the old ids now, if no id is twice in both together
pub record IsHearing (first done : List ℕ) (line : List IdSent) : Type 0 where
  pub from : HasNoMoreWords (olds line) first
  pub heard : (word : List ℕ) → AllDiffer (done ++ word) → IsSubsequence word (olds line) → IsSubsequence (done ++ word) first

-- this is the first id that is left
abbrev pub IsFirstLeft : ℕ → List ℕ → Type 0
IsFirstLeft i [] = ⊥
IsFirstLeft i (asked ∷ later) = i ≡ asked

-- this id is `p`, or the first that is left
abbrev pub IsOneOfTwo : (p : ℕ) (left : List ℕ) (i : ℕ) → Type 0
IsOneOfTwo p left i = (i ≡ p) ⊎ IsFirstLeft i left

-- this line is of the synchronization, and its id is `p`, or the first that is left
abbrev pub IsOwnOfTwo : (p : ℕ) (left : List ℕ) (x : IdSent) → Type 0
IsOwnOfTwo p left x = IsOwn x × IsOneOfTwo p left x.id

-- once an own reply answered: all that is in flight is of this synchronization, and has two ids at most
abbrev pub AreOwnOfTwo : List ℕ → List IdSent → Type 0
AreOwnOfTwo left line = (p : ℕ) × AllByRecursion (IsOwnOfTwo p left) line

-- the invariant of a synchronization that may be killed: `IsLine` holds; the ids `done` of the word are answered; and either only
-- old replies have answered yet, or an own one has, and no old line is in flight any more
pub record IsTrying (z : ℕ) (word first left : List ℕ) (line : List IdSent) : Type 0 where
  pub sound : IsLine z left line
  pub done : List ℕ
  pub split : word ≡ done ++ left
  pub phase : IsHearing first done line ⊎ AreOwnOfTwo left line

-- Old lines are lost or repeated.

-- `IsHearing` is preserved if the old lines change so that their ids contain no more words than before (`HasNoMoreWords`)
hearing_no_more_words : (first done : List ℕ) (line other : List IdSent) → HasNoMoreWords (olds other) (olds line) → IsHearing first done line → IsHearing first done other
hearing_no_more_words first done line other has h =
    record {
      from = λ word d s. h.from word d (has word d s);
      heard = λ word d s. h.heard word d (has word (pairs_back (λ i j. i ≡ j → ⊥) done word d) s);
    }

module _ (z : ℕ) (word first : List ℕ) where
  -- `IsTrying` is preserved if the line becomes `other`, where `IsLine` holds of `other`, the old ids contain no more words then
  -- (`HasNoMoreWords`), and each line is `IsOwnOfTwo` then, if each was before
  trying_line : (left : List ℕ) (line other : List IdSent) → IsLine z left other → HasNoMoreWords (olds other) (olds line)
      → ((p : ℕ) → AllByRecursion (IsOwnOfTwo p left) line → AllByRecursion (IsOwnOfTwo p left) other)
      → IsTrying z word first left line → IsTrying z word first left other
  trying_line left line other sound has each h =
      record {
        sound = sound;
        done = h.done;
        split = h.split;
        phase =
            elim h.phase [
              | inl g ↦ inl (hearing_no_more_words first h.done line other has g)
              | inr g ↦ inr (g.0, each g.0 g.1)
            ];
      }

  -- `IsTrying` is preserved if a line is lost
  trying_lost : (left : List ℕ) (k : ℕ) (line : List IdSent) → IsTrying z word first left line → IsTrying z word first left (without k line)
  trying_lost left k line h =
      trying_line left line (without k line) (line_without z left k line h.sound) (no_more_words_without k line) (λ p g. each_without (IsOwnOfTwo p left) k line g) h

  -- `IsTrying` is preserved if a line comes twice
  trying_twice : (left : List ℕ) (k : ℕ) (line : List IdSent) → IsTrying z word first left line → IsTrying z word first left (doubled k line)
  trying_twice left k line h =
      trying_line left line (doubled k line) (line_doubled z left k line h.sound) (no_more_words_doubled k line) (λ p g. each_doubled (IsOwnOfTwo p left) k line g) h

  -- `IsTrying` is preserved if the client asks
  trying_asked : (id : ℕ) (later : List ℕ) (line : List IdSent) → IsTrying z word first (id ∷ later) line → IsTrying z word first (id ∷ later) (line ++ record { id = id; old = false } ∷ [])
  trying_asked id later line h =
      let new : IdSent = record { id = id; old = false } in
      trying_line (id ∷ later) line (line ++ new ∷ []) (line_asked z id later line h.sound) (λ v d s. subst (λ ids. IsSubsequence v ids) (olds_push id line) s)
      (λ p g. all_append (IsOwnOfTwo p (id ∷ later)) line (new ∷ []) g ((refl, inr refl), tt)) h

  -- a reply comes, and is the answer

  -- if a word v is in the ids of old lines, and an old line (`b`) with the id `id` is put before them, `id` followed by v is in
  -- the ids of all of these
  old_contains : (b : Bool) (i id : ℕ) (ids v : List ℕ) → b ≡ true → i ≡ id → IsSubsequence v ids → IsSubsequence (id ∷ v) (old_if b i ids)
  old_contains true i id ids v o e s = inl (sym e, s)
  old_contains false i id ids v o e s = absurd (false≢true o)

  -- if the front line, x, is old and has the id `id`, `IsHearing` with the ids `done` before x is heard gives `IsHearing` with
  -- `done` and then `id` of the lines after x
  old_answers : (id : ℕ) (done : List ℕ) (x : IdSent) (rest : List IdSent) → IsOld x → x.id ≡ id → IsHearing first done (x ∷ rest) → IsHearing first (done ++ id ∷ []) rest
  old_answers id done x rest o e h =
      record {
        from = λ v d s. h.from v d (no_more_words_without zero (x ∷ rest) v d s);
        heard = λ v d s. subst (λ l. IsSubsequence l first) (sym (append_assoc done (id ∷ []) v))
            (h.heard (id ∷ v) (subst AllDiffer (append_assoc done (id ∷ []) v) d) (old_contains x.old x.id id (olds rest) v o e s));
      }

  -- where the front line, x, is own and answers (`FrontAnswers`), `AreOwnOfTwo` holds of the ids that are left after that one,
  -- and the lines after x
  own_answers : (id : ℕ) (later : List ℕ) (x : IdSent) (rest : List IdSent) → FrontAnswers z id later x rest → IsOwn x → AreOwnOfTwo later rest
  own_answers id later x rest h o =
      (id, each_both (KeepsOwn x) (KeepsTheId id x) (IsOwnOfTwo id later) (λ y f g. (f o, inl (g o h.same))) rest h.line.ordered.0 h.line.own.1.0)

  -- where the front line, x, answers, `IsHearing` or `AreOwnOfTwo` still holds once x was heard, be x old (`b` is true) or own
  phase_answered : (id : ℕ) (later done : List ℕ) (x : IdSent) (rest : List IdSent) (b : Bool) → x.old ≡ b → FrontAnswers z id later x rest
      → IsHearing first done (x ∷ rest) ⊎ AreOwnOfTwo (id ∷ later) (x ∷ rest) → IsHearing first (done ++ id ∷ []) rest ⊎ AreOwnOfTwo later rest
  phase_answered id later done x rest false o h p = inr (own_answers id later x rest h o)
  phase_answered id later done x rest true o h (inl g) = inl (old_answers id done x rest o h.same g)
  phase_answered id later done x rest true o h (inr g) = absurd (false≢true (sym g.1.0.0 ∙ o))

  -- `IsTrying` is preserved if a reply comes
  trying_came : (left : List ℕ) (x : IdSent) (rest : List IdSent) → IsTrying z word first left (x ∷ rest) → IsTrying z word first (left_by left (Some x.id)) rest
  trying_came [] x rest h = trying_lost [] zero (x ∷ rest) h
  trying_came (id ∷ later) x rest h = chosen (nat_eq x.id id) refl (line_came z (id ∷ later) x rest h.sound) where
    -- the lemma above, by whether the reply has the id that is asked for (`b`)
    chosen : (b : Bool) → nat_eq x.id id ≡ b → IsLine z (left_when (nat_eq x.id id) id later) rest → IsTrying z word first (left_when b id later) rest
    chosen true e line =
        record {
          sound = subst (λ b. IsLine z (left_when b id later) rest) e line;
          done = h.done ++ id ∷ [];
          split = h.split ∙ sym (append_assoc h.done (id ∷ []) later);
          phase = phase_answered id later h.done x rest x.old refl (record { line = h.sound; same = eqb-true x.id id e }) h.phase;
        }
    chosen false e line = trying_lost (id ∷ later) zero (x ∷ rest) h

  -- `IsTrying` is preserved by all that happens to the line
  trying_lasts : Lasts (IsTrying z word first)
  trying_lasts = record { lost = trying_lost; twice = trying_twice; asked = trying_asked; came = trying_came }

-- What can be in flight meanwhile.

-- a word that is split at its id c: a and b are its first two ids, `more` are those after them and before c, and `tail` those
-- after c
pub record SplitWord (word : List ℕ) : Type 0 where
  pub a : ℕ
  pub b : ℕ
  pub more : List ℕ
  pub c : ℕ
  pub tail : List ℕ
  pub is : word ≡ a ∷ b ∷ (more ++ c ∷ tail)

-- the ids of a split word before c
abbrev pub ids_before : {word : List ℕ} → SplitWord word → List ℕ
ids_before w = w.a ∷ w.b ∷ w.more

-- the ids of a split word up to c
abbrev pub ids_upto : {word : List ℕ} → SplitWord word → List ℕ
ids_upto w = w.a ∷ w.b ∷ (w.more ++ w.c ∷ [])

-- if a word is split into `done` and `left`, and also into `front`, an id c, and `tail`: `front` is a front of `done`, or c is
-- in `left`, after its first id
front_or_left : (done left front : List ℕ) (c : ℕ) (tail : List ℕ) → done ++ left ≡ front ++ c ∷ tail
    → ((more : List ℕ) × (done ≡ front ++ more)) ⊎ ((asked : ℕ) × (more : List ℕ) × (left ≡ asked ∷ (more ++ c ∷ tail)))
front_or_left done left front c tail e =
    elim (one_front_begins_other done left front (c ∷ tail) e) [
      | inl h ↦ by_more h.0 h.1
      | inr h ↦ inl h
    ]
  where
    -- the lemma above, where `front` is `done` and then `more`
    by_more : (more : List ℕ) → front ≡ done ++ more
        → ((more : List ℕ) × (done ≡ front ++ more)) ⊎ ((asked : ℕ) × (more : List ℕ) × (left ≡ asked ∷ (more ++ c ∷ tail)))
    by_more [] is = inl ([], sym (is ∙ append-nil done) ∙ sym (append-nil front))
    by_more (asked ∷ more) is =
        inr (asked, more, append_cancel_left done left (asked ∷ (more ++ c ∷ tail)) (e ∙ ap (λ l. l ++ c ∷ tail) is ∙ append_assoc done (asked ∷ more) (c ∷ tail)))

-- where a word in which no id is twice is split into `done` and `left`, and its first id, a, is the first one left: the whole word
-- is left
whole_if_first_left : (word done left : List ℕ) (a : ℕ) (after : List ℕ) → AllDiffer word → word ≡ a ∷ after → word ≡ done ++ left → IsFirstLeft a left → left ≡ word
whole_if_first_left word [] left a after d e split first = sym split
whole_if_first_left word (i ∷ done) [] a after d e split first = absurd first
whole_if_first_left word (i ∷ done) (asked ∷ rest) a after d e split first =
    let same : i ≡ asked = cons_head i a (done ++ asked ∷ rest) after (sym split ∙ e) ∙ first in
    absurd ((all_behind (λ j. i ≡ j → ⊥) done (asked ∷ rest) (subst AllDiffer split d).0).0 same)

-- ids among which c, the last id of a word, isn't don't contain the word
lacks_without_last : (front : List ℕ) (c : ℕ) (ids : List ℕ) → AllByRecursion (λ i. c ≡ i → ⊥) ids → IsSubsequence (front ++ c ∷ []) ids → ⊥
lacks_without_last front c ids h s = (all_behind (λ i. c ≡ i → ⊥) front (c ∷ []) (subword_each (λ i. c ≡ i → ⊥) (front ++ c ∷ []) ids h s)).0 refl

-- where no old line is after an own one, a word that is in the ids of lines, and whose last id, c, no own line has, is in the ids
-- of the old lines
word_in_olds : (xs : List IdSent) (front : List ℕ) (c : ℕ) → AllPairsByRecursion KeepsOwn xs → AllByRecursion (λ x. IsOwn x → c ≡ x.id → ⊥) xs
    → IsSubsequence (front ++ c ∷ []) (ids_of xs) → IsSubsequence (front ++ c ∷ []) (olds xs)
word_in_olds [] front c before none s = s
word_in_olds (x ∷ xs) front c before none s = chosen x.old refl (λ f. word_in_olds xs f c before.1 none.1) front s where
  -- the lemma above, by whether the first line is old (`b`)
  chosen : (b : Bool) → x.old ≡ b → ((f : List ℕ) → IsSubsequence (f ++ c ∷ []) (ids_of xs) → IsSubsequence (f ++ c ∷ []) (olds xs)) → (front : List ℕ)
      → IsSubsequence (front ++ c ∷ []) (x.id ∷ ids_of xs) → IsSubsequence (front ++ c ∷ []) (old_if b x.id (olds xs))
  chosen true o f [] (inl s) = inl (s.0, tt)
  chosen true o f [] (inr s) = inr (f [] s)
  chosen true o f (a ∷ front) (inl s) = inl (s.0, f front s.1)
  chosen true o f (a ∷ front) (inr s) = inr (f (a ∷ front) s)
  chosen false o f front s =
      absurd (lacks_without_last front c (x.id ∷ ids_of xs) (
        none.0 o,
        each_to_map
            (λ i. c ≡ i → ⊥) (λ (y : IdSent). y.id) xs (each_both (KeepsOwn x) (λ y. IsOwn y → c ≡ y.id → ⊥) (λ y. c ≡ y.id → ⊥) (λ y g n. n (g o)) xs before.0 none.1),
      ) s)

-- only one id is the first that is left
same_first_left : (left : List ℕ) (i j : ℕ) → IsFirstLeft i left → IsFirstLeft j left → i ≡ j
same_first_left [] i j a b = absurd a
same_first_left (asked ∷ later) i j a b = a ∙ sym b

-- three ids that differ aren't all `IsOneOfTwo`
three_not_one_of_two : (p : ℕ) (left : List ℕ) (a b c : ℕ) → (a ≡ b → ⊥) → (a ≡ c → ⊥) → (b ≡ c → ⊥) → IsOneOfTwo p left a → IsOneOfTwo p left b → IsOneOfTwo p left c → ⊥
three_not_one_of_two p left a b c ab ac bc (inl x) (inl y) z = ab (x ∙ sym y)
three_not_one_of_two p left a b c ab ac bc (inr x) (inr y) z = ab (same_first_left left a b x y)
three_not_one_of_two p left a b c ab ac bc (inl x) (inr y) (inl z) = ac (x ∙ sym z)
three_not_one_of_two p left a b c ab ac bc (inl x) (inr y) (inr z) = bc (same_first_left left b c y z)
three_not_one_of_two p left a b c ab ac bc (inr x) (inl y) (inl z) = bc (y ∙ sym z)
three_not_one_of_two p left a b c ab ac bc (inr x) (inl y) (inr z) = ac (same_first_left left a c x z)

-- where each line in flight is own and has one of two ids (`IsOwnOfTwo`), the ids in flight don't contain a word of three or more
-- ids that differ
own_of_two_lack_three : (p : ℕ) (left word : List ℕ) (line : List IdSent) (a b c : ℕ) → AllDiffer (a ∷ b ∷ c ∷ word)
    → AllByRecursion (IsOwnOfTwo p left) line → IsSubsequence (a ∷ b ∷ c ∷ word) (ids_of line) → ⊥
own_of_two_lack_three p left word line a b c d h s =
    let near = subword_each (IsOneOfTwo p left) (a ∷ b ∷ c ∷ word) (ids_of line)
    (each_map (IsOwnOfTwo p left) (IsOneOfTwo p left) (λ (x : IdSent). x.id) (λ x g. g.1) line h) s in
    three_not_one_of_two p left a b c d.0.0 d.0.1.0 d.1.0.0 near.0 near.1.0 near.1.1.0

-- if no id is in the word twice, none is among those up to its id c twice
upto_differs : (word : List ℕ) (w : SplitWord word) → AllDiffer word → AllDiffer (ids_upto w)
upto_differs word w d =
    pairs_front (λ i j. i ≡ j → ⊥) (ids_upto w) w.tail (subst AllDiffer (w.is ∙ sym (ap (λ l. w.a ∷ w.b ∷ l) (append_assoc w.more (w.c ∷ []) w.tail))) d)

-- where `IsLine` holds, and c isn't answered yet, and isn't the first id left, no own line has it
own_none : (z : ℕ) (left : List ℕ) (line : List IdSent) (c asked : ℕ) (between tail : List ℕ) → left ≡ asked ∷ (between ++ c ∷ tail) → IsLine z left line
    → AllByRecursion (λ x. IsOwn x → c ≡ x.id → ⊥) line
own_none z left line c asked between tail f sound =
    all_on (HasNoneIfOwn (between ++ c ∷ tail)) (λ x. IsOwn x → c ≡ x.id → ⊥) line (λ x g o. (all_behind (λ i. i ≡ x.id → ⊥) between (c ∷ tail) (g o)).0)
    (subst (λ l. OwnIdsFit z l line) f sound.own).0

-- where `IsTrying` holds of what is in flight, no id is in the word twice, and its first id is left, so that none is answered: if
-- the ids at the start (`first`) didn't contain those of the word up to its id c (`ids_upto`), the ids in flight don't either
upto_absent_if_unanswered : (z : ℕ) (word first left : List ℕ) (line : List IdSent) (w : SplitWord word) → AllDiffer word → (IsSubsequence (ids_upto w) first → ⊥)
    → IsFirstLeft w.a left → IsTrying z word first left line → IsSubsequence (ids_upto w) (ids_of line) → ⊥
upto_absent_if_unanswered z word first left line w d none is_left h s =
    elim h.phase [
      | inl g ↦ none (g.from (ids_upto w) (upto_differs word w d) (word_in_olds line (ids_before w) w.c h.sound.ordered own s))
      | inr g ↦ lacks_without_last (ids_before w) w.c (ids_of line) (each_to_map (λ i. w.c ≡ i → ⊥) (λ (y : IdSent). y.id) line
          (each_both (IsOwnOfTwo g.0 left) (λ x. IsOwn x → w.c ≡ x.id → ⊥) (λ x. w.c ≡ x.id → ⊥) (λ x f n. n f.0) line g.1 own)) s
    ]
  where
    -- no own line has the id c
    own : AllByRecursion (λ x. IsOwn x → w.c ≡ x.id → ⊥) line
    own = own_none z left line w.c w.a (w.b ∷ w.more) w.tail (whole_if_first_left word h.done left w.a (w.b ∷ (w.more ++ w.c ∷ w.tail)) d w.is h.split is_left ∙ w.is) h.sound

-- where `IsTrying` holds of what is in flight, and no id is in the word twice: if the ids at the start (`first`) didn't contain
-- those of the word before its id c (`ids_before`), the ids in flight don't contain them with c after them (`ids_upto`)
upto_absent_if_trying : (z : ℕ) (word first left : List ℕ) (line : List IdSent) (w : SplitWord word) → AllDiffer word → (IsSubsequence (ids_before w) first → ⊥)
    → IsTrying z word first left line → IsSubsequence (ids_upto w) (ids_of line) → ⊥
upto_absent_if_trying z word first left line w d none h s =
    elim h.phase [
      | inl g ↦ (
          elim (front_or_left h.done left (ids_before w) w.c w.tail (sym h.split ∙ w.is)) [
            | inl f ↦ none (subword_front (ids_before w) f.0 first (subst
                (λ l. IsSubsequence l first) (append-nil h.done ∙ f.1) (g.heard [] (subst AllDiffer (sym (append-nil h.done)) done_differs) tt)))
            | inr f ↦ none (subword_front (ids_before w) (w.c ∷ []) first (g.from (ids_upto w) (upto_differs word w d) (word_in_olds line (ids_before w) w.c h.sound.ordered (own_none z left line w.c f.0 f.1 w.tail f.2 h.sound) s)))
          ])
      | inr g ↦ third w.more (upto_differs word w d) s g.0 g.1
    ]
  where
    -- no id is among the answered ones twice
    done_differs : AllDiffer h.done
    done_differs = pairs_front (λ i j. i ≡ j → ⊥) h.done left (subst AllDiffer h.split d)

    -- the ids up to c are three at least, so they aren't in the ids of lines that have two ids at most
    third : (more : List ℕ) → AllDiffer (w.a ∷ w.b ∷ (more ++ w.c ∷ [])) → IsSubsequence (w.a ∷ w.b ∷ (more ++ w.c ∷ [])) (ids_of line) → (p : ℕ)
        → AllByRecursion (IsOwnOfTwo p left) line → ⊥
    third [] d s p g = own_of_two_lack_three p left [] line w.a w.b w.c d g s
    third (m ∷ more) d s p g = own_of_two_lack_three p left (more ++ w.c ∷ []) line w.a w.b m d g s

-- One synchronization after the other.

-- requests or replies that are made old (`aged`) have the same ids as before
ids_aged : (xs : List IdSent) → ids_of (aged xs) ≡ ids_of xs
ids_aged xs = map-map _ _ xs

-- all requests or replies that are made old (`aged`) are old
all_aged : (xs : List IdSent) → AllByRecursion IsOld (aged xs)
all_aged xs = each_to_map IsOld (λ (x : IdSent). record { id = x.id; old = true }) xs (each_all (λ (x : IdSent). true ≡ true) (λ x. refl) xs)

-- if a synchronization starts again, the ids in flight stay the same
ids_anew : (s : IdModel) → ids_in_flight (begun_anew the_word s) ≡ ids_in_flight s
ids_anew s = ap (λ l. l ++ ids_of (aged s.up)) (ids_aged s.down) ∙ ap (λ l. ids_of s.down ++ l) (ids_aged s.up)

-- `Begins` holds of a synchronization that starts over what is in flight, if the ids in flight don't contain the word
pub begins_anew : (s : IdModel) → (IsSubsequence the_word (ids_in_flight s) → ⊥) → Begins the_word (begun_anew the_word s)
begins_anew s none = record { left = refl; up = all_aged s.up; down = all_aged s.down; absent = λ h. none (subst (λ ids. IsSubsequence the_word ids) (ids_anew s) h) }

-- `IsTrying` holds at the start of a synchronization (`Begins`)
trying_at_start : (s : IdModel) → Begins the_word s → IsTrying 7 the_word (ids_in_flight s) s.left (s.down ++ s.up)
trying_at_start s h =
    let same = olds_all s.down s.up h.down h.up in
    record {
      sound = (sound_at_start the_word s word_ids_differ h).line;
      done = [];
      split = sym h.left;
      phase = inl (record { from = λ v d g. subst (λ ids. IsSubsequence v ids) same g; heard = λ v d g. subst (λ ids. IsSubsequence v ids) same g });
    }

-- `IsTrying` holds after any moves of a synchronization, wherever it is killed, if the ids in flight at its start didn't contain a
-- front of the word
trying_after_moves : (s : IdModel) (ms : List IdMove) (front tail : List ℕ) → the_word ≡ front ++ tail → (IsSubsequence front (ids_in_flight s) → ⊥)
    → IsTrying 7 the_word (ids_in_flight (begun_anew the_word s)) (moved ms (begun_anew the_word s)).left
    ((moved ms (begun_anew the_word s)).down ++ (moved ms (begun_anew the_word s)).up)
trying_after_moves s ms front tail split none =
    let anew : IdModel = begun_anew the_word s in
    let begins : Begins the_word anew = begins_anew s (λ g. none (subword_front front tail (ids_in_flight s) (subst (λ l. IsSubsequence l (ids_in_flight s)) split g))) in
    holds_moved (IsTrying 7 the_word (ids_in_flight anew)) (trying_lasts 7 the_word (ids_in_flight anew)) ms anew (trying_at_start anew begins)

-- a word that is in the ids in flight is in those of the line, replies and then requests
in_line : (s : IdModel) (word : List ℕ) → IsSubsequence word (ids_in_flight s) → IsSubsequence word (ids_of (s.down ++ s.up))
in_line s word h = subst (λ ids. IsSubsequence word ids) (sym (map-append (λ (x : IdSent). x.id) s.down s.up)) h

-- where the word is split at its id c, and the ids in flight don't contain those of the word before c (`ids_before`): the ids in
-- flight after any moves of a synchronization, wherever it is killed, don't contain them with c after them (`ids_upto`)
pub upto_absent_after_moves : (s : IdModel) (ms : List IdMove) (w : SplitWord the_word) → (IsSubsequence (ids_before w) (ids_in_flight s) → ⊥)
    → IsSubsequence (ids_upto w) (ids_in_flight (moved ms (begun_anew the_word s))) → ⊥
upto_absent_after_moves s ms w none h =
    let anew : IdModel = begun_anew the_word s in
    let end : IdModel = moved ms anew in
    upto_absent_if_trying 7 the_word (ids_in_flight anew) end.left (end.down ++ end.up) w word_ids_differ
    (λ g. none (subst (λ ids. IsSubsequence (ids_before w) ids) (ids_anew s) g)) (trying_after_moves s ms (ids_before w) (w.c ∷ w.tail) w.is none)
    (in_line end (ids_upto w) h)

-- where the word is split at its id c, and the ids in flight don't contain those up to c (`ids_upto`): the ids in flight after
-- moves of a synchronization that leave the word's first id unanswered don't contain them either
pub upto_absent_unanswered : (s : IdModel) (ms : List IdMove) (w : SplitWord the_word) → (IsSubsequence (ids_upto w) (ids_in_flight s) → ⊥)
    → IsFirstLeft w.a (moved ms (begun_anew the_word s)).left → IsSubsequence (ids_upto w) (ids_in_flight (moved ms (begun_anew the_word s))) → ⊥
upto_absent_unanswered s ms w none is_left h =
    let anew : IdModel = begun_anew the_word s in
    let end : IdModel = moved ms anew in
    let split : the_word ≡ ids_upto w ++ w.tail = w.is ∙ sym (ap (λ l. w.a ∷ w.b ∷ l) (append_assoc w.more (w.c ∷ []) w.tail)) in
    upto_absent_if_unanswered 7 the_word (ids_in_flight anew) end.left (end.down ++ end.up) w word_ids_differ
    (λ g. none (subst (λ ids. IsSubsequence (ids_upto w) ids) (ids_anew s) g)) is_left (trying_after_moves s ms (ids_upto w) w.tail split none)
    (in_line end (ids_upto w) h)
