-- A whole synchronization: the invariant of its line (`IsLine`) holds through each move, and so does what is known of the id of
-- the reply that the instrument keeps (`KeptIdFits`). `IsSound` is both.
use Rattle.gc_theorems.proofs.Common.{◌≡◌, ℕ, Bool, true, false, List, [], ◌∷◌, ◌++◌, Option, Some, None, nat_eq, refl, sym, ◌∙◌, subst, AllByRecursion, eqb-true, false≢true, left_by, left_when, IsSubsequence, the_word, without, doubled, all_append, every_front as all_front, every_behind as all_behind, every_weaker as all_on, each_without, each_doubled}
use Rattle.std.proofs.Common.{IfSome}
use Rattle.gc_theorems.proofs.BeginIds.{IdSent, IdModel, IdMove, Ask, Reach, Pass, Come, Up_lose, Up_repeat, Down_lose, Down_repeat, Anew, asks, reaches, kept_past, passes, comes, moves, moved, AllDiffer, ids_of, last, Begins, IsCleanByIds}
use Rattle.gc_theorems.proofs.BeginLists.{each_all, each_both, pairs_before, pairs_of_each}
use Rattle.gc_theorems.proofs.BeginMoves.{Lasts, holds_moves}
use Rattle.gc_theorems.proofs.BeginWords.{word_ids_differ}
use Rattle.gc_theorems.proofs.BeginLines.{FrontAnswers, IsLine, IsOld, IsOwn, KeepsOwn, HasNoneIfOwn, KeepsTheId, OwnIdsFit, olds_all, each_own, line_without, line_doubled, line_asked, line_came, front_is_own}

-- The invariant.

-- if this is an own reply with the id `asked`, the reply that the instrument keeps, if it keeps one, has that id, too
abbrev pub IsKeptIfOwn : ℕ → Option ℕ → IdSent → Type 0
IsKeptIfOwn asked kept x = IsOwn x → x.id ≡ asked → IfSome kept (λ i. i ≡ asked)

-- what is known of the id `kept` of the reply that the instrument keeps, if it keeps one. If no id of the word is left, that
-- id is z, the word's last. Else, as soon as a reply of this synchronization with the first id that is left, `asked`, is in
-- flight (`down`), that id is `asked`
abbrev pub KeptIdFits : ℕ → List ℕ → List IdSent → Option ℕ → Type 0
KeptIdFits z [] down kept = IfSome kept (λ i. i ≡ z)
KeptIdFits z (asked ∷ later) down kept = AllByRecursion (IsKeptIfOwn asked kept) down

-- in this state `KeptIdFits` holds of what the instrument keeps
abbrev pub KeptFits : ℕ → IdModel → Type 0
KeptFits z s = KeptIdFits z s.left s.down s.kept

-- what holds of a state of a synchronization, where z is the word's last id: of the line, and of what is kept
pub record IsSound (z : ℕ) (s : IdModel) : Type 0 where
  pub line : IsLine z s.left (s.down ++ s.up)
  pub keeps : KeptFits z s

-- What is kept.

-- `KeptIdFits` is preserved if a reply is lost
keeps_without : (z : ℕ) (left : List ℕ) (k : ℕ) (down : List IdSent) (kept : Option ℕ) → KeptIdFits z left down kept → KeptIdFits z left (without k down) kept
keeps_without z [] k down kept h = h
keeps_without z (asked ∷ later) k down kept h = each_without (IsKeptIfOwn asked kept) k down h

-- `KeptIdFits` is preserved if a reply comes twice
keeps_doubled : (z : ℕ) (left : List ℕ) (k : ℕ) (down : List IdSent) (kept : Option ℕ) → KeptIdFits z left down kept → KeptIdFits z left (doubled k down) kept
keeps_doubled z [] k down kept h = h
keeps_doubled z (asked ∷ later) k down kept h = each_doubled (IsKeptIfOwn asked kept) k down h

-- `KeptIdFits` holds if nothing is kept
keeps_nothing : (z : ℕ) (left : List ℕ) (down : List IdSent) → KeptIdFits z left down None
keeps_nothing z [] down = tt
keeps_nothing z (asked ∷ later) down = each_all (IsKeptIfOwn asked None) (λ x o e. tt) down

-- where `IsLine` holds, `KeptIdFits` holds with the id of the front request, x, as the one that is kept: if an own reply has
-- the first id that is left, so has x; and if no id is left, x has the word's last id
keeps_reached : (z : ℕ) (left : List ℕ) (down : List IdSent) (x : IdSent) (rest : List IdSent) → IsLine z left (down ++ x ∷ rest) → KeptIdFits z left down (Some x.id)
keeps_reached z [] down x rest h =
    let own : IsOwn x = (all_behind IsOwn down (x ∷ rest) (each_own (down ++ x ∷ rest) (h.clear tt))).0 in
    (all_behind (λ y. IsOwn y → y.id ≡ z) down (x ∷ rest) h.own).0 own
keeps_reached z (asked ∷ later) down x rest h = pairs_before (KeepsTheId asked) down x rest h.own.1

-- `KeptIdFits` is preserved if the reply to a request, x, is sent, whose id is the one that is kept
keeps_replied : (z : ℕ) (left : List ℕ) (down : List IdSent) (x : IdSent) → KeptIdFits z left down (Some x.id) → KeptIdFits z left (down ++ x ∷ []) (Some x.id)
keeps_replied z [] down x h = h
keeps_replied z (asked ∷ later) down x h = all_append (IsKeptIfOwn asked (Some x.id)) down (x ∷ []) h ((λ o e. e), tt)

-- `KeptIdFits` is preserved if the front reply, x, comes and answers (`FrontAnswers`)
keeps_answered : (z asked : ℕ) (later : List ℕ) (x : IdSent) (rest up : List IdSent) (kept : Option ℕ) → FrontAnswers z asked later x (rest ++ up)
    → KeptIdFits z (asked ∷ later) (x ∷ rest) kept → KeptIdFits z later rest kept
keeps_answered z asked [] x rest up kept h k = subst (λ id. IfSome kept (λ i. i ≡ id)) h.line.ends (k.0 (front_is_own z asked x (rest ++ up) h) h.same)
keeps_answered z asked (i ∷ later) x rest up kept h k =
    all_on (HasNoneIfOwn (i ∷ later)) (IsKeptIfOwn i kept) rest (λ y f o g. absurd ((f o).0 (sym g))) (all_front (HasNoneIfOwn (i ∷ later)) rest up h.line.own.0.1)

-- where `IsLine` holds, `KeptIdFits` is preserved if the front reply, x, is heard: it holds of the ids that are left then, and of
-- the replies after x
keeps_heard : (z : ℕ) (left : List ℕ) (x : IdSent) (rest up : List IdSent) (kept : Option ℕ) → IsLine z left (x ∷ (rest ++ up)) → KeptIdFits z left (x ∷ rest) kept
    → KeptIdFits z (left_by left (Some x.id)) rest kept
keeps_heard z [] x rest up kept h k = k
keeps_heard z (asked ∷ later) x rest up kept h k = chosen (nat_eq x.id asked) refl where
  -- the lemma above, by whether the reply has the id that is asked for (`b`)
  chosen : (b : Bool) → nat_eq x.id asked ≡ b → KeptIdFits z (left_when b asked later) rest kept
  chosen true e = keeps_answered z asked later x rest up kept (record { line = h; same = eqb-true x.id asked e }) k
  chosen false e = k.1

-- Each move.

-- `IsLine` is preserved by all that happens to the line
line_lasts : (z : ℕ) → Lasts (IsLine z)
line_lasts z = record { lost = line_without z; twice = line_doubled z; asked = line_asked z; came = line_came z }

-- where `IsSound` holds of a state, `KeptFits` holds after the client asked
keeps_asks : (z : ℕ) (s : IdModel) (left : List ℕ) → IsSound z s → KeptFits z (asks s left)
keeps_asks z s [] h = h.keeps
keeps_asks z s (asked ∷ later) h = h.keeps

-- where `IsSound` holds of a state, `KeptFits` holds after a request reached the instrument
keeps_reaches : (z : ℕ) (s : IdModel) (up : List IdSent) → s.up ≡ up → IsSound z s → KeptFits z (reaches s up)
keeps_reaches z s [] e h = h.keeps
keeps_reaches z s (x ∷ rest) e h = keeps_replied z s.left s.down x (keeps_reached z s.left s.down x rest (subst (λ q. IsLine z s.left (s.down ++ q)) e h.line))

-- nothing is both old and own
old_not_own : (x : IdSent) → IsOld x → IsOwn x → ⊥
old_not_own x old own = false≢true (sym own ∙ old)

-- `KeptIdFits` is preserved if the reply to an old request is sent, and what is kept stays
keeps_old : (z : ℕ) (left : List ℕ) (down : List IdSent) (x : IdSent) (kept : Option ℕ) → IsOld x → KeptIdFits z left down kept → KeptIdFits z left (down ++ x ∷ []) kept
keeps_old z [] down x kept old h = h
keeps_old z (asked ∷ later) down x kept old h = all_append (IsKeptIfOwn asked kept) down (x ∷ []) h ((λ own e. absurd (old_not_own x old own)), tt)

-- where `IsSound` holds of a state, `KeptFits` holds after `Pass`
keeps_passes : (z : ℕ) (s : IdModel) (up : List IdSent) → s.up ≡ up → IsSound z s → KeptFits z (passes s up)
keeps_passes z s [] e h = h.keeps
keeps_passes z s (x ∷ rest) e h = by_case x.old refl where
  -- the lemma above, by whether the request is old (`old`)
  by_case : (old : Bool) → x.old ≡ old → KeptIdFits z s.left (s.down ++ x ∷ []) (kept_past old x.id s.kept)
  by_case true old = keeps_old z s.left s.down x s.kept old h.keeps
  by_case false own = keeps_replied z s.left s.down x (keeps_reached z s.left s.down x rest (subst (λ q. IsLine z s.left (s.down ++ q)) e h.line))

-- where `IsSound` holds of a state, `KeptFits` holds after the front reply came, if one is in flight
keeps_comes : (z : ℕ) (s : IdModel) (down : List IdSent) → s.down ≡ down → IsSound z s → KeptFits z (comes s down)
keeps_comes z s [] e h = h.keeps
keeps_comes z s (x ∷ rest) e h =
    keeps_heard z s.left x rest s.up s.kept (subst (λ q. IsLine z s.left (q ++ s.up)) e h.line) (subst (λ q. KeptIdFits z s.left q s.kept) e h.keeps)

-- where `IsSound` holds of a state, `KeptFits` holds after any move
keeps_moves : (z : ℕ) (s : IdModel) (m : IdMove) → IsSound z s → KeptFits z (moves s m)
keeps_moves z s Ask h = keeps_asks z s s.left h
keeps_moves z s Reach h = keeps_reaches z s s.up refl h
keeps_moves z s Pass h = keeps_passes z s s.up refl h
keeps_moves z s Come h = keeps_comes z s s.down refl h
keeps_moves z s (Up_lose k) h = h.keeps
keeps_moves z s (Up_repeat k) h = h.keeps
keeps_moves z s (Down_lose k) h = keeps_without z s.left k s.down s.kept h.keeps
keeps_moves z s (Down_repeat k) h = keeps_doubled z s.left k s.down s.kept h.keeps
keeps_moves z s Anew h = keeps_nothing z s.left s.down

-- `IsSound` is preserved by each move
sound_moves : (z : ℕ) (s : IdModel) (m : IdMove) → IsSound z s → IsSound z (moves s m)
sound_moves z s m h = record { line = holds_moves (IsLine z) (line_lasts z) s m h.line; keeps = keeps_moves z s m h }

-- `IsSound` is preserved by moves
pub sound_moved : (z : ℕ) (ms : List IdMove) (s : IdModel) → IsSound z s → IsSound z (moved ms s)
sound_moved z [] s h = h
sound_moved z (m ∷ ms) s h = sound_moved z ms (moves s m) (sound_moves z s m h)

-- Its start.

-- the last id of a word, or z if the word is empty, stays the same if that id is put in place of z
last_of_last : (z : ℕ) (word : List ℕ) → last (last z word) word ≡ last z word
last_of_last z [] = refl
last_of_last z (i ∷ word) = refl

-- `OwnIdsFit` holds at the start, if all lines in flight are old
own_at_start : (z : ℕ) (word : List ℕ) (line : List IdSent) → AllByRecursion IsOld line → OwnIdsFit z word line
own_at_start z [] line h = all_on IsOld (λ x. IsOwn x → x.id ≡ z) line (λ x old own. absurd (old_not_own x old own)) h
own_at_start z (asked ∷ later) line h = (
  all_on IsOld (HasNoneIfOwn later) line (λ x old own. absurd (old_not_own x old own)) h,
  pairs_of_each IsOld (KeepsTheId asked) (λ x y old own e. absurd (old_not_own x old own)) line h,
)

-- `KeptIdFits` holds at the start, if the word isn't empty and all replies in flight are old
keeps_at_start : (z : ℕ) (word : List ℕ) (down : List IdSent) (kept : Option ℕ) → (word ≡ [] → ⊥) → AllByRecursion IsOld down → KeptIdFits z word down kept
keeps_at_start z [] down kept some h = absurd (some refl)
keeps_at_start z (asked ∷ later) down kept some h = all_on IsOld (IsKeptIfOwn asked kept) down (λ x old own e. absurd (old_not_own x old own)) h

-- `IsSound` holds at the start of a synchronization (`Begins`), if no id is in the word twice
pub sound_at_start : (word : List ℕ) (s : IdModel) → AllDiffer word → Begins word s → IsSound (last 0 word) s
sound_at_start word s differ h =
    let z : ℕ = last 0 word in
    let line : List IdSent = s.down ++ s.up in
    let old : AllByRecursion IsOld line = all_append IsOld s.down s.up h.down h.up in
    let starts : IsLine z word line =
    record {
      differ = differ;
      ends = last_of_last 0 word;
      ordered = pairs_of_each IsOld KeepsOwn (λ x y old own. absurd (old_not_own x old own)) line old;
      clear = λ stands. absurd (h.absent (subst (λ ids. IsSubsequence word ids) (olds_all s.down s.up h.down h.up) stands));
      own = own_at_start z word line old;
    } in
    let some : word ≡ [] → ⊥ = λ e. h.absent (subst (λ w. IsSubsequence w (ids_of s.down ++ ids_of s.up)) (sym e) tt) in
    record {
      line = subst (λ l. IsLine z l line) (sym h.left) starts;
      keeps = subst (λ l. KeptIdFits z l s.down s.kept) (sym h.left) (keeps_at_start z word s.down s.kept some h.down);
    }

-- Its end.

-- if no id is left, a sound state is clean
clean_if_done : (z : ℕ) (s : IdModel) → s.left ≡ [] → IsSound z s → IsCleanByIds z s
clean_if_done z s done h =
    let line : IsLine z [] (s.down ++ s.up) = subst (λ l. IsLine z l (s.down ++ s.up)) done h.line in
    let keeps : IfSome s.kept (λ i. i ≡ z) = subst (λ l. KeptIdFits z l s.down s.kept) done h.keeps in
    let each : AllByRecursion (λ x. (x.old ≡ false) × (x.id ≡ z)) (s.down ++ s.up) =
    each_both IsOwn (λ x. IsOwn x → x.id ≡ z) (λ x. (x.old ≡ false) × (x.id ≡ z)) (λ x o f. (o, f o)) (s.down ++ s.up) (each_own (s.down ++ s.up) (line.clear tt)) line.own in
    record {
      up = all_behind (λ x. (x.old ≡ false) × (x.id ≡ z)) s.down s.up each;
      down = all_front (λ x. (x.old ≡ false) × (x.id ≡ z)) s.down s.up each;
      kept = λ i e. subst (λ k. IfSome k (λ i. i ≡ z)) e keeps;
    }

-- if the ids in flight at the start of a synchronization don't contain the word that a station uses (`Begins`), and no id of it
-- is left after these moves, it has ended cleanly
pub the_word_begins_cleanly : (s : IdModel) (ms : List IdMove) → Begins the_word s → (moved ms s).left ≡ [] → IsCleanByIds 7 (moved ms s)
the_word_begins_cleanly s ms begins done = clean_if_done 7 (moved ms s) done (sound_moved 7 ms s (sound_at_start the_word s word_ids_differ begins))
