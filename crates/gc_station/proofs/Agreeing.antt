-- Each answer of a first sending that is kept is that of a record, and so is the one with which a mark has that of a second sending
-- compared. `fs` are the kept answers; a fact of a record and of those before it goes from record to record (`AllAfter`).
use Rattle.gc_station.proofs.Common.{◌≡◌, ◌==◌, ◌&&◌, ◌-◌, ℕ, ◌+◌, Bool, true, false, nat_lt, if◌then◌else◌, List, [], ◌∷◌, ◌++◌, take, Option, Some, None, refl, sym, ap, ◌∙◌, subst, append_assoc, append-nil, arith, inl, inr, slice_get, unwrap_or, AllByRecursion, and_parts, eqb_tells, every_take, Answer, End, Answered, Twice, Unconfirmed, Turn, HasFirst, IsConfirmed, answer_found, answer_first, put, first_noted, firsts_after, Record, FirstAnswer, Task}
use Rattle.gc_station.specs.declared.firsts.TheConstants.{FIRSTS}
use Rattle.gc_station.proofs.Lists.{all_append, all_at, all_on, cons_head, cons_tail}
use Rattle.gc_texts.specs.declared.agree.Twice.TheVariants as twice

-- Records, and those before them.

-- P holds of each of the records `rs`, with the records before it; `before` are those before the first one
abbrev pub AllAfter : (P : List Record → Record → Type 0) → (before rs : List Record) → Type 0
AllAfter P before [] = Unit {0}
AllAfter P before (r ∷ rs) = P before r × AllAfter P (before ++ r ∷ []) rs

-- it holds of two lists, one after the other, if it does of the first, and of the second after the first
pub after_append : (P : List Record → Record → Type 0) (before xs ys : List Record) → AllAfter P before xs → AllAfter P (before ++ xs) ys → AllAfter P before (xs ++ ys)
after_append P before [] ys all more = subst (λ bs. AllAfter P bs ys) (append-nil before) more
after_append P before (x ∷ xs) ys all more =
    (all.0, after_append P (before ++ x ∷ []) xs ys all.1 (subst (λ bs. AllAfter P bs ys) (sym (append_assoc before (x ∷ []) xs)) more))

-- it holds of one among them
pub after_split : (P : List Record → Record → Type 0) (before rs earlier : List Record) (r : Record) (later : List Record)
    → AllAfter P before rs → rs ≡ earlier ++ r ∷ later → P (before ++ earlier) r
after_split P before [] [] r later all e = cc
after_split P before [] (y ∷ earlier) r later all e = cc
after_split P before (x ∷ rs) [] r later all e =
    subst (λ bs. P bs r) (sym (append-nil before)) (subst (λ y. P before y) (cons_head x r rs later e) all.0)
after_split P before (x ∷ rs) (y ∷ earlier) r later all e =
    let same : x ≡ y = cons_head x y rs (earlier ++ r ∷ later) e in
    subst (λ bs. P bs r) (append_assoc before (x ∷ []) earlier ∙ ap (λ z. before ++ z ∷ earlier) same)
    (after_split P (before ++ x ∷ []) rs earlier r later all.1 (cons_tail x y rs (earlier ++ r ∷ later) e))

-- it holds of records of which P holds with those before the first one, if more before them don't change that
pub after_all : (P : List Record → Record → Type 0) → ((bs more : List Record) (r : Record) → P bs r → P (bs ++ more) r)
    → (before rs : List Record) → AllByRecursion (P before) rs → AllAfter P before rs
after_all P grows before [] all = tt
after_all P grows before (r ∷ rs) all =
    (all.0, after_all P grows (before ++ r ∷ []) rs (all_on (P before) (P (before ++ r ∷ [])) rs (λ x. grows before (r ∷ []) x) all.1))

-- what follows of each from it and those before it, whichever these are, holds of each
pub each_after : (P : List Record → Record → Type 0) (Q : Record → Type 0) → ((before : List Record) (r : Record) → P before r → Q r) → (before rs : List Record) → AllAfter P before rs → AllByRecursion Q rs
each_after P Q gives before [] all = tt
each_after P Q gives before (r ∷ rs) all = (gives before r all.0, each_after P Q gives (before ++ r ∷ []) rs all.1)

-- two facts of each element are one
pub all_both : {A : Type 0} (P Q : A → Type 0) (xs : List A) → AllByRecursion P xs → AllByRecursion Q xs → AllByRecursion (λ x. P x × Q x) xs
all_both P Q [] p q = tt
all_both P Q (x ∷ xs) p q = ((p.0, q.0), all_both P Q xs p.1 q.1)

-- A first sending that is among records is still among them with more behind.

pub has_first_more : (rs more : List Record) (cycle : ℕ) (turn : Turn) (answer : Option Answer) → HasFirst rs cycle turn answer → HasFirst (rs ++ more) cycle turn answer
has_first_more rs more cycle turn answer h = record {
  front = h.front;
  first = h.first;
  behind = h.behind ++ more;
  order = ap (λ xs. xs ++ more) h.order ∙ append_assoc h.front (h.first ∷ h.behind) more;
  own_cycle = h.own_cycle;
  own_place = h.own_place;
  one_before = h.one_before;
  line = h.line;
  answered = h.answered;
}

-- a record that is confirmed by those before it is confirmed by these and more
pub confirmed_more : (commands : List Task) (bs more : List Record) (r : Record) → IsConfirmed commands bs r → IsConfirmed commands (bs ++ more) r
confirmed_more commands bs more r h task agree nth quality answer line at second ended good =
    let a = h task agree nth quality answer line at second ended good in
    record { said = a.said; first = has_first_more bs more r.cycle r.turn a.said a.first; agreed = a.agreed }

-- Kept answers.

-- the kept answer `f` is that of one of these records
record IsOf (rs : List Record) (f : FirstAnswer) : Type 0 where
  front : List Record
  first : Record
  behind : List Record
  order : rs ≡ front ++ first ∷ behind
  own_cycle : first.cycle ≡ f.cycle
  own_turn : first.turn ≡ f.turn
  line : List ℕ
  answered : first.end ≡ Answered Unconfirmed f.answer line

-- a place of the kept answers has none, or one of a record
abbrev IsBacked : List Record → Option FirstAnswer → Type 0
IsBacked rs None = Unit {0}
IsBacked rs (Some f) = IsOf rs f

-- with more records behind, it still has
backed_more : (rs more : List Record) (f : Option FirstAnswer) → IsBacked rs f → IsBacked (rs ++ more) f
backed_more rs more None h = tt
backed_more rs more (Some f) h = record {
  front = h.front;
  first = h.first;
  behind = h.behind ++ more;
  order = ap (λ xs. xs ++ more) h.order ∙ append_assoc h.front (h.first ∷ h.behind) more;
  own_cycle = h.own_cycle;
  own_turn = h.own_turn;
  line = h.line;
  answered = h.answered;
}

-- one more answer that is that of a record leaves all so
put_backed : (rs : List Record) (f : FirstAnswer) (fs : List (Option FirstAnswer)) → IsOf rs f → AllByRecursion (IsBacked rs) fs → AllByRecursion (IsBacked rs) (put f fs)
put_backed rs f fs is all = by_test (nat_lt f.turn.link FIRSTS) where
  -- the lemma above, by whether the answer is kept
  by_test : (b : Bool) → AllByRecursion (IsBacked rs) (if b then take f.turn.link fs ++ Some f ∷ [] else fs)
  by_test true = all_append (IsBacked rs) (take f.turn.link fs) (Some f ∷ []) (every_take (IsBacked rs) fs f.turn.link all) (is, tt)
  by_test false = all

-- one more record leaves all so
noted_backed : (before : List Record) (r : Record) (fs : List (Option FirstAnswer)) → AllByRecursion (IsBacked before) fs
    → AllByRecursion (IsBacked (before ++ r ∷ [])) (first_noted r.cycle r.turn r.end fs)
noted_backed before r fs all = by_end r.end refl where
  -- all are so after the record, before it is noted
  here : AllByRecursion (IsBacked (before ++ r ∷ [])) fs
  here = all_on (IsBacked before) (IsBacked (before ++ r ∷ [])) fs (λ f. backed_more before (r ∷ []) f) all

  -- the lemma above, by how the record ended
  by_end : (end : End) → r.end ≡ end → AllByRecursion (IsBacked (before ++ r ∷ [])) (first_noted r.cycle r.turn end fs)
  by_end (Answered Unconfirmed answer line) e =
      put_backed (before ++ r ∷ []) (record { cycle = r.cycle; turn = r.turn; answer = answer }) fs
      (record { front = before; first = r; behind = []; order = refl; own_cycle = refl; own_turn = refl; line = line; answered = e }) here
  by_end end e = here

-- more records leave all so
firsts_backed : (before rs : List Record) (fs : List (Option FirstAnswer)) → AllByRecursion (IsBacked before) fs → AllByRecursion (IsBacked (before ++ rs)) (firsts_after fs rs)
firsts_backed before [] fs all = subst (λ bs. AllByRecursion (IsBacked bs) fs) (sym (append-nil before)) all
firsts_backed before (r ∷ rs) fs all =
    subst (λ bs. AllByRecursion (IsBacked bs) (firsts_after fs (r ∷ rs))) (append_assoc before (r ∷ []) rs)
    (firsts_backed (before ++ r ∷ []) rs (first_noted r.cycle r.turn r.end fs) (noted_backed before r fs all))

-- two numbers that are equal by the test are equal
same_number : (m n : ℕ) → (m == n) ≡ true → m ≡ n
same_number m n e = elim (eqb_tells m n) as (λ _. m ≡ n) [
  | inl same ↦ same.1
  | inr other ↦ let bad : false ≡ true = sym other.0 ∙ e in cc
]

-- an answer that is found for a command is that of its first sending
found_is_first : (rs : List Record) (found : Option FirstAnswer) (cycle : ℕ) (turn : Turn) (answer : Option Answer) → IsBacked rs found
    → answer_found found cycle turn ≡ Some answer → HasFirst rs cycle turn answer
found_is_first rs None cycle turn answer h e = cc
found_is_first rs (Some f) cycle turn answer h e =
    by_test ((f.cycle == cycle) && ((f.turn.place == turn.place) && (turn.attempt - f.turn.attempt == 1))) refl e where
      -- the lemma above, by whether the answer is that of the command
      by_test : (b : Bool) → ((f.cycle == cycle) && ((f.turn.place == turn.place) && (turn.attempt - f.turn.attempt == 1))) ≡ b
          → (if b then Some f.answer else None) ≡ Some answer → HasFirst rs cycle turn answer
      by_test true is e =
          let parts = and_parts (f.cycle == cycle) ((f.turn.place == turn.place) && (turn.attempt - f.turn.attempt == 1)) is in
          let more = and_parts (f.turn.place == turn.place) (turn.attempt - f.turn.attempt == 1) parts.1 in
          let less : turn.attempt - f.turn.attempt ≡ 1 = same_number (turn.attempt - f.turn.attempt) 1 more.1 in
          let same : f.answer ≡ answer = cc in
          record {
            front = h.front;
            first = h.first;
            behind = h.behind;
            order = h.order;
            own_cycle = h.own_cycle ∙ same_number f.cycle cycle parts.0;
            own_place = ap (λ (t : Turn). t.place) h.own_turn ∙ same_number f.turn.place turn.place more.0;
            one_before = (let one : turn.attempt ≡ f.turn.attempt + 1 = omega (arith, less) in one) ∙ ap (λ (t : Turn). t.attempt + 1) (sym h.own_turn);
            line = h.line;
            answered = h.answered ∙ ap (λ (a : Option Answer). Answered Unconfirmed a h.line) same;
          }
      by_test false is e = cc

-- after these records, the answer with which that of a command is compared is that of its first sending
pub first_is_recorded : (rs : List Record) (cycle : ℕ) (turn : Turn) (t : Twice) (answer : Option Answer) → answer_first (firsts_after [] rs) cycle turn t ≡ Some answer
    → HasFirst rs cycle turn answer
first_is_recorded rs cycle turn (twice.Second agree nth) answer e =
    let fs = firsts_after [] rs in
    found_is_first rs (unwrap_or (slice_get fs nth) None) cycle turn answer (backed (slice_get fs nth) refl) e where
      -- a place of the kept answers is backed, also one that there isn't
      backed : (o : Option (Option FirstAnswer)) → slice_get (firsts_after [] rs) nth ≡ o → IsBacked rs (unwrap_or o None)
      backed None is = tt
      backed (Some f) is = all_at (IsBacked rs) (firsts_after [] rs) nth f (firsts_backed [] rs [] tt) is
first_is_recorded rs cycle turn twice.Once answer e = cc
first_is_recorded rs cycle turn twice.First answer e = cc
