-- The whole line, replies first: what holds of it from the synchronization on, whatever it loses or repeats, and whatever
-- comes. A line, be it a request or a reply, is old if it is from before this synchronization, and else own. `left` has the ids
-- of the word that aren't answered yet, and z is the word's last id. `IsLine` is the invariant.
use Rattle.gc_theorems.proofs.Common.{◌≡◌, ℕ, zero, suc, inl, Bool, true, false, List, [], ◌∷◌, ◌++◌, nat_eq, refl, sym, ◌∙◌, ap, subst, Some, AllByRecursion, eqb-true, true≢false, false≢true, all_append, every_weaker as all_on, left_by, left_when, IsSubsequence, without, doubled, each_without, each_doubled}
use Rattle.gc_theorems.proofs.BeginIds.{IdSent, AllPairsByRecursion, AllDiffer, ids_of, last}
use Rattle.gc_theorems.proofs.BeginLists.{pairs_without, pairs_doubled, pairs_push, pairs_of_each}
use Rattle.gc_theorems.proofs.BeginWords.{HasNoMoreWords, no_more_words_behind, no_more_words_twice, subword_more, cons_not_nil}

-- The invariant.

-- this line is from before the synchronization
abbrev pub IsOld : IdSent → Type 0
IsOld x = x.old ≡ true

-- this line is of the synchronization
abbrev pub IsOwn : IdSent → Type 0
IsOwn x = x.old ≡ false

-- these ids, with the id i of a line before them if that line is old (true)
abbrev pub old_if : Bool → ℕ → List ℕ → List ℕ
old_if true i ids = i ∷ ids
old_if false i ids = ids

-- the ids of the old lines
abbrev pub olds : List IdSent → List ℕ
olds [] = []
olds (x ∷ xs) = old_if x.old x.id (olds xs)

-- if x is own, so is y, which is after it
abbrev pub KeepsOwn : (x y : IdSent) → Type 0
KeepsOwn x y = IsOwn x → IsOwn y

-- if x is own, it has none of these ids
abbrev pub HasNoneIfOwn : List ℕ → IdSent → Type 0
HasNoneIfOwn ids x = IsOwn x → AllByRecursion (λ i. i ≡ x.id → ⊥) ids

-- if x is own and has the id `asked`, y, which is after it, has that id, too
abbrev pub KeepsTheId : (asked : ℕ) (x y : IdSent) → Type 0
KeepsTheId asked x y = IsOwn x → x.id ≡ asked → y.id ≡ asked

-- what holds of the own lines. If no id is left, each has the last id of the word. Else none has one of the ids `later`, and
-- after a line with the id `asked` each line has that id
abbrev pub OwnIdsFit : ℕ → List ℕ → List IdSent → Type 0
OwnIdsFit z [] line = AllByRecursion (λ x. IsOwn x → x.id ≡ z) line
OwnIdsFit z (asked ∷ later) line = AllByRecursion (HasNoneIfOwn later) line × AllPairsByRecursion (KeepsTheId asked) line

-- the invariant of all that is in flight, replies first: the ids that are left differ, and the last of them, if any is left, is
-- z; each own line is behind the old ones; and the own lines are as `OwnIdsFit` says
pub record IsLine (z : ℕ) (left : List ℕ) (line : List IdSent) : Type 0 where
  pub differ : AllDiffer left
  pub ends : last z left ≡ z
  pub ordered : AllPairsByRecursion KeepsOwn line
  -- the ids of the old lines contain the ids left only if no id is left, and then there is no old line
  pub clear : IsSubsequence left (olds line) → olds line ≡ []
  pub own : OwnIdsFit z left line

-- The ids of the old lines.

-- if the front line is own, and those after it have no old ids, there are no old ids
olds_none_if : (b : Bool) (i : ℕ) (ids : List ℕ) → b ≡ false → ids ≡ [] → old_if b i ids ≡ []
olds_none_if true i ids e f = absurd (true≢false e)
olds_none_if false i ids e f = f

-- if there are no old ids, the front line is own, and those after it have no old ids
own_if_olds_none : (b : Bool) (i : ℕ) (ids : List ℕ) → old_if b i ids ≡ [] → (b ≡ false) × (ids ≡ [])
own_if_olds_none true i ids e = absurd (cons_not_nil i ids e)
own_if_olds_none false i ids e = (refl, e)

-- own lines have no old ids
pub olds_none : (xs : List IdSent) → AllByRecursion IsOwn xs → olds xs ≡ []
olds_none [] h = refl
olds_none (x ∷ xs) h = olds_none_if x.old x.id (olds xs) h.0 (olds_none xs h.1)

-- if there are no old ids, each line is own
pub each_own : (xs : List IdSent) → olds xs ≡ [] → AllByRecursion IsOwn xs
each_own [] e = tt
each_own (x ∷ xs) e = let h = own_if_olds_none x.old x.id (olds xs) e in (h.0, each_own xs h.1)

-- if the front line is old, the old ids are its id and those of the lines after it
olds_all_if : (b : Bool) (i : ℕ) (ids others : List ℕ) → b ≡ true → ids ≡ others → old_if b i ids ≡ i ∷ others
olds_all_if true i ids others e f = ap (λ l. i ∷ l) f
olds_all_if false i ids others e f = absurd (false≢true e)

-- if all lines are old, the old ids are those of all lines
pub olds_all : (xs ys : List IdSent) → AllByRecursion IsOld xs → AllByRecursion IsOld ys → olds (xs ++ ys) ≡ ids_of xs ++ ids_of ys
olds_all [] [] h g = refl
olds_all [] (y ∷ ys) h g = olds_all_if y.old y.id (olds ys) (ids_of ys) g.0 (olds_all [] ys tt g.1)
olds_all (x ∷ xs) ys h g = olds_all_if x.old x.id (olds (xs ++ ys)) (ids_of xs ++ ids_of ys) h.0 (olds_all xs ys h.1 g)

-- an own line at the end adds no old id
pub olds_push : (i : ℕ) (xs : List IdSent) → olds (xs ++ record { id = i; old = false } ∷ []) ≡ olds xs
olds_push i [] = refl
olds_push i (x ∷ xs) = ap (λ l. old_if x.old x.id l) (olds_push i xs)

-- `HasNoMoreWords` is preserved if the same line, old or own, is put before both
no_more_words_if : (b : Bool) (i : ℕ) (ids others : List ℕ) → HasNoMoreWords ids others → HasNoMoreWords (old_if b i ids) (old_if b i others)
no_more_words_if true i ids others h = no_more_words_behind i ids others h
no_more_words_if false i ids others h = h

-- without the front line, old or own, the old ids contain no more words than with it (`HasNoMoreWords`)
no_more_words_without_front : (b : Bool) (i : ℕ) (ids : List ℕ) → HasNoMoreWords ids (old_if b i ids)
no_more_words_without_front true i ids = λ word d h. subword_more word ids i h
no_more_words_without_front false i ids = λ word d h. h

-- if the front line, old or own, comes twice, the old ids contain no more words than if it comes once (`HasNoMoreWords`)
no_more_words_front_twice : (b : Bool) (i : ℕ) (ids : List ℕ) → HasNoMoreWords (old_if b i (old_if b i ids)) (old_if b i ids)
no_more_words_front_twice true i ids = no_more_words_twice i ids
no_more_words_front_twice false i ids = λ word d h. h

-- if a line is lost, the old ids contain no more words than before (`HasNoMoreWords`)
pub no_more_words_without : (k : ℕ) (line : List IdSent) → HasNoMoreWords (olds (without k line)) (olds line)
no_more_words_without k [] = λ word d h. h
no_more_words_without zero (x ∷ xs) = no_more_words_without_front x.old x.id (olds xs)
no_more_words_without (suc k) (x ∷ xs) = no_more_words_if x.old x.id (olds (without k xs)) (olds xs) (no_more_words_without k xs)

-- if a line comes twice, the old ids contain no more words than before (`HasNoMoreWords`)
pub no_more_words_doubled : (k : ℕ) (line : List IdSent) → HasNoMoreWords (olds (doubled k line)) (olds line)
no_more_words_doubled k [] = λ word d h. h
no_more_words_doubled zero (x ∷ xs) = no_more_words_front_twice x.old x.id (olds xs)
no_more_words_doubled (suc k) (x ∷ xs) = no_more_words_if x.old x.id (olds (doubled k xs)) (olds xs) (no_more_words_doubled k xs)

-- The line loses one, or repeats one.

-- `OwnIdsFit` is preserved if a line is lost
own_without : (z : ℕ) (left : List ℕ) (k : ℕ) (line : List IdSent) → OwnIdsFit z left line → OwnIdsFit z left (without k line)
own_without z [] k line h = each_without (λ x. IsOwn x → x.id ≡ z) k line h
own_without z (asked ∷ later) k line h = (each_without (HasNoneIfOwn later) k line h.0, pairs_without (KeepsTheId asked) k line h.1)

-- `OwnIdsFit` is preserved if a line comes twice
own_doubled : (z : ℕ) (left : List ℕ) (k : ℕ) (line : List IdSent) → OwnIdsFit z left line → OwnIdsFit z left (doubled k line)
own_doubled z [] k line h = each_doubled (λ x. IsOwn x → x.id ≡ z) k line h
own_doubled z (asked ∷ later) k line h = (each_doubled (HasNoneIfOwn later) k line h.0, pairs_doubled (KeepsTheId asked) (λ x o e. e) k line h.1)

-- `IsLine` is preserved if a line is lost
pub line_without : (z : ℕ) (left : List ℕ) (k : ℕ) (line : List IdSent) → IsLine z left line → IsLine z left (without k line)
line_without z left k line h =
    record {
      differ = h.differ;
      ends = h.ends;
      ordered = pairs_without KeepsOwn k line h.ordered;
      clear = λ s. olds_none (without k line) (each_without IsOwn k line (each_own line (h.clear (no_more_words_without k line left h.differ s))));
      own = own_without z left k line h.own;
    }

-- `IsLine` is preserved if a line comes twice
pub line_doubled : (z : ℕ) (left : List ℕ) (k : ℕ) (line : List IdSent) → IsLine z left line → IsLine z left (doubled k line)
line_doubled z left k line h =
    record {
      differ = h.differ;
      ends = h.ends;
      ordered = pairs_doubled KeepsOwn (λ x o. o) k line h.ordered;
      clear = λ s. olds_none (doubled k line) (each_doubled IsOwn k line (each_own line (h.clear (no_more_words_doubled k line left h.differ s))));
      own = own_doubled z left k line h.own;
    }

-- A null procedure is sent.

-- `IsLine` is preserved if the client asks
pub line_asked : (z asked : ℕ) (later : List ℕ) (line : List IdSent) → IsLine z (asked ∷ later) line → IsLine z (asked ∷ later) (line ++ record { id = asked; old = false } ∷ [])
line_asked z asked later line h =
    let new : IdSent = record { id = asked; old = false } in
    record {
      differ = h.differ;
      ends = h.ends;
      ordered = pairs_push KeepsOwn new (λ x o. refl) line h.ordered;
      clear = λ s. olds_push asked line ∙ h.clear (subst (λ l. IsSubsequence (asked ∷ later) l) (olds_push asked line) s);
      own = (
        all_append (HasNoneIfOwn later) line (new ∷ []) h.own.0 ((λ o. all_on (λ i. asked ≡ i → ⊥) (λ i. i ≡ asked → ⊥) later (λ i f e. f (sym e)) h.differ.0), tt),
        pairs_push (KeepsTheId asked) new (λ x o e. refl) line h.own.1,
      );
    }

-- The front reply comes.

-- if the front line is old (`b`) and has the id `asked` (`i`), and the old ids contain `asked` followed by the word only if there
-- are no old ids: the old ids after the front line (`ids`) don't contain the word
olds_lack_word : (b : Bool) (i asked : ℕ) (ids word : List ℕ) → b ≡ true → i ≡ asked → (IsSubsequence (asked ∷ word) (old_if b i ids) → old_if b i ids ≡ []) → IsSubsequence word ids → ⊥
olds_lack_word true i asked ids word o e f s = cons_not_nil i ids (f (inl (sym e, s)))
olds_lack_word false i asked ids word o e f s = false≢true o

-- `IsLine` holds, and the front line, x, has the first id that is left, `asked`, and so answers it
pub record FrontAnswers (z asked : ℕ) (later : List ℕ) (x : IdSent) (rest : List IdSent) : Type 0 where
  pub line : IsLine z (asked ∷ later) (x ∷ rest)
  pub same : x.id ≡ asked

-- where the front line, x, answers the only id that is left, x is own
pub front_is_own : (z asked : ℕ) (x : IdSent) (rest : List IdSent) → FrontAnswers z asked [] x rest → IsOwn x
front_is_own z asked x rest h = chosen x.old refl where
  -- the lemma above, by whether the reply is old (`b`)
  chosen : (b : Bool) → x.old ≡ b → x.old ≡ false
  chosen true o = absurd (olds_lack_word x.old x.id asked (olds rest) [] o h.same h.line.clear tt)
  chosen false o = o

-- where the last id of `asked` and the ids after it, `later`, is z, the last id of `later` is z, too, if `later` isn't empty
last_of_later : (z asked : ℕ) (later : List ℕ) → last asked later ≡ z → last z later ≡ z
last_of_later z asked [] e = refl
last_of_later z asked (i ∷ later) e = e

-- where the front line, x, answers, `OwnIdsFit` holds of the ids left after that one, and the lines after x
own_answered : (z asked : ℕ) (later : List ℕ) (x : IdSent) (rest : List IdSent) → FrontAnswers z asked later x rest → OwnIdsFit z later rest
own_answered z asked [] x rest h =
    all_on (KeepsTheId asked x) (λ y. IsOwn y → y.id ≡ z) rest (λ y f o. f (front_is_own z asked x rest h) h.same ∙ h.line.ends) h.line.own.1.0
own_answered z asked (i ∷ later) x rest h = (
  all_on (HasNoneIfOwn (i ∷ later)) (HasNoneIfOwn later) rest (λ y f o. (f o).1) h.line.own.0.1,
  pairs_of_each (HasNoneIfOwn (i ∷ later)) (KeepsTheId i) (λ y w f o g. absurd ((f o).0 (sym g))) rest h.line.own.0.1,
)

-- `IsLine` is preserved if the front line comes and answers
line_answered : (z asked : ℕ) (later : List ℕ) (x : IdSent) (rest : List IdSent) → FrontAnswers z asked later x rest → IsLine z later rest
line_answered z asked later x rest h =
    record {
      differ = h.line.differ.1;
      ends = last_of_later z asked later h.line.ends;
      ordered = h.line.ordered.1;
      clear = clear x.old refl;
      own = own_answered z asked later x rest h;
    }
  where
    -- whether the front line, x, is old (`b`) or not: the old ids after x contain the ids of `later` only if there is no old line
    -- after x
    clear : (b : Bool) → x.old ≡ b → IsSubsequence later (olds rest) → olds rest ≡ []
    clear true o s = absurd (olds_lack_word x.old x.id asked (olds rest) later o h.same h.line.clear s)
    clear false o s = olds_none rest (all_on (KeepsOwn x) IsOwn rest (λ y f. f o) h.line.ordered.0)

-- `IsLine` is preserved if a reply comes
pub line_came : (z : ℕ) (left : List ℕ) (x : IdSent) (rest : List IdSent) → IsLine z left (x ∷ rest) → IsLine z (left_by left (Some x.id)) rest
line_came z [] x rest h = line_without z [] zero (x ∷ rest) h
line_came z (asked ∷ later) x rest h = chosen (nat_eq x.id asked) refl where
  -- the lemma above, by whether the reply has the id that is asked for (`b`)
  chosen : (b : Bool) → nat_eq x.id asked ≡ b → IsLine z (left_when b asked later) rest
  chosen true e = line_answered z asked later x rest (record { line = h; same = eqb-true x.id asked e })
  chosen false e = line_without z (asked ∷ later) zero (x ∷ rest) h
