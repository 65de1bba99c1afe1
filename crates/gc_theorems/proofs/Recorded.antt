-- What a station records, by the parts of its run: each record of a command that was sent is of a settlement of one part, or of a
-- request that was outstanding at the part's end.
use Rattle.gc_theorems.proofs.Common.{◌≡◌, ◌⊎◌, inl, inr, ℕ, zero, suc, ◌+◌, Bool, true, false, List, [], ◌∷◌, ◌++◌, length, map, drop, Option, Some, None, refl, sym, ◌∙◌, ap, subst, arith, append_assoc, append-nil, if◌then◌else◌, slice_get, AllByRecursion, none-some, same_Some, Asked, Restart, Settlement, fresh, lost, Pending, Task, client_after, commands_in, record_of, records_of, Model, Part, MarksAsk, mark_of, sent_of, timeless, went_out, Record, Reads, Expected, sent_append, sent_by, settled_append, settled_by, BooksInParts, IsRecordOf, is_record_of, sent_before, sent_until}
use Rattle.std.proofs.Common.{take}
use Rattle.std.proofs.lemmas.List.{length-drop}

-- the type of what this function gives
abbrev given_by : {A : Type 0} → (Expected → Record → A) → Type 0
given_by {A = A} f = A

-- the type of marks
abbrev pub Mark : Type 0
Mark = given_by mark_of

-- Numbers.

-- P holds of each of these with its number, which counts from `first`
abbrev pub AllFrom : {A : Type 0} → (P : ℕ → A → Type 0) → (first : ℕ) → List A → Type 0
AllFrom P first [] = Unit {0}
AllFrom P first (x ∷ xs) = P first x × AllFrom P (suc first) xs

-- it does so of two lists, one after the other
from_append : {A : Type 0} (P : ℕ → A → Type 0) (first : ℕ) (xs ys : List A) → AllFrom P first xs → AllFrom P (first + length xs) ys → AllFrom P first (xs ++ ys)
from_append P first [] ys h g = let e : first + 0 ≡ first = omega arith in subst (λ n. AllFrom P n ys) e g
from_append P first (x ∷ xs) ys h g =
    let e : first + suc (length xs) ≡ suc first + length xs = omega arith in (h.0, from_append P (suc first) xs ys h.1 (subst (λ n. AllFrom P n ys) e g))

-- a record is of a command of one of these parts, before which `number` commands were sent: it is of the settlement x of the part's
-- request m, whose mark is `mark`; or of that request as lost
pub record IsOfPart (ps : List Part) (number : ℕ) (r : Record) : Type 0 where
  pub k : ℕ
  pub part : Part
  pub of_parts : slice_get ps k ≡ Some part
  pub m : ℕ
  pub mark : Mark
  pub marked : slice_get part.marks m ≡ Some (Some mark)
  pub counted : sent_before ps k m ≡ number
  pub x : Settlement Asked
  pub waiting : List (Pending Asked)
  pub found : slice_get (settled_by fresh part.steps ++ map lost waiting) m ≡ Some x
  pub is_of : IsRecordOf r mark x

-- it is so with one more part before them
of_later : (p : Part) (ps : List Part) (number : ℕ) (r : Record) → IsOfPart ps number r → IsOfPart (p ∷ ps) (commands_in p.marks + number) r
of_later p ps number r h = record {
  k = suc h.k;
  part = h.part;
  of_parts = h.of_parts;
  m = h.m;
  mark = h.mark;
  marked = h.marked;
  counted = ap (λ n. commands_in p.marks + n) h.counted;
  x = h.x;
  waiting = h.waiting;
  found = h.found;
  is_of = h.is_of;
}

-- it is so whatever the moment at which the record was recorded
of_timeless : (ps : List Part) (number : ℕ) (r : Record) → IsOfPart ps number (timeless r) → IsOfPart ps number r
of_timeless ps number r h = record {
  k = h.k;
  part = h.part;
  of_parts = h.of_parts;
  m = h.m;
  mark = h.mark;
  marked = h.marked;
  counted = h.counted;
  x = h.x;
  waiting = h.waiting;
  found = h.found;
  is_of = record { cycle = h.is_of.cycle; place = h.is_of.place; sent = h.is_of.sent; id = h.is_of.id; command = h.is_of.command; reads = h.is_of.reads; ended = h.is_of.ended };
}

-- the same of all these records
all_timeless : (ps : List Part) (first : ℕ) (rs : List Record) → AllFrom (IsOfPart ps) first (map timeless rs) → AllFrom (IsOfPart ps) first rs
all_timeless ps first [] h = tt
all_timeless ps first (r ∷ rs) h = (of_timeless ps first r h.0, all_timeless ps (suc first) rs h.1)

-- with one more part before them, the numbers of records count from the commands of that part
all_later : (p : Part) (ps : List Part) (first : ℕ) (rs : List Record) → AllFrom (IsOfPart ps) first rs → AllFrom (IsOfPart (p ∷ ps)) (commands_in p.marks + first) rs
all_later p ps first [] h = tt
all_later p ps first (r ∷ rs) h =
    let e : commands_in p.marks + suc first ≡ suc (commands_in p.marks + first) = omega arith in
    (of_later p ps first r h.0, subst (λ n. AllFrom (IsOfPart (p ∷ ps)) n rs) e (all_later p ps (suc first) rs h.1))

module _ (reads : Reads) where
  -- the record of a settlement has as its number how many commands the marks before its own are of
  numbered : (P : ℕ → Record → Type 0) (first : ℕ) (marks : List (Option Mark)) (xs : List (Settlement Asked))
      → ((m : ℕ) (mark : Mark) (x : Settlement Asked) → slice_get marks m ≡ Some (Some mark) → slice_get xs m ≡ Some x → P (first + commands_in (take m marks)) (record_of reads 0 mark x))
      → AllFrom P first (records_of reads 0 marks xs)
  numbered P first [] xs f = tt
  numbered P first (mark ∷ marks) [] f = tt
  numbered P first (None ∷ marks) (x ∷ xs) f = numbered P first marks xs (λ m mark y at got. f (suc m) mark y at got)
  numbered P first (Some mark ∷ marks) (x ∷ xs) f =
      let e : first + 0 ≡ first = omega arith in (
        subst (λ n. P n (record_of reads 0 mark x)) e (f 0 mark x refl refl),
        numbered P (suc first) marks xs
            (λ m other y at got. let more : first + suc (commands_in (take m marks)) ≡ suc first + commands_in (take m marks) = omega arith in
            subst (λ n. P n (record_of reads 0 other y)) more (f (suc m) other y at got)),
      )

  -- where each mark has a settlement, there are as many records as the marks are of commands
  as_many : (marks : List (Option Mark)) (xs : List (Settlement Asked)) → length xs ≡ length marks → length (records_of reads 0 marks xs) ≡ commands_in marks
  as_many [] xs e = refl
  as_many (mark ∷ marks) [] e = absurd (omega (arith, e))
  as_many (None ∷ marks) (x ∷ xs) e = as_many marks xs (omega (arith, e))
  as_many (Some mark ∷ marks) (x ∷ xs) e = ap suc (as_many marks xs (omega (arith, e)))

module _ (reads : Reads) (commands : List Task) where
  -- the records of these settlements of the first part, and of what is outstanding, are of that part
  of_first : (p : Part) (ps : List Part) (waiting : List (Pending Asked)) (xs : List (Settlement Asked)) → xs ≡ settled_by fresh p.steps ++ map lost waiting
      → AllFrom (IsOfPart (p ∷ ps)) 0 (records_of reads 0 p.marks xs)
  of_first p ps waiting xs e =
      numbered reads (IsOfPart (p ∷ ps)) 0 p.marks xs (λ n mark x at got. record {
        k = 0;
        part = p;
        of_parts = refl;
        m = n;
        mark = mark;
        marked = at;
        counted = omega arith;
        x = x;
        waiting = waiting;
        found = ap (λ l. slice_get l n) (sym e) ∙ got;
        is_of = is_record_of reads 0 mark x;
      })

  -- the records of these parts, with the moment 0
  abbrev pub recorded : List Part → List Record
  recorded [] = []
  recorded (p ∷ []) = records_of reads 0 p.marks (settled_by fresh p.steps)
  recorded (p ∷ q ∷ ps) = records_of reads 0 p.marks (settled_by fresh p.steps ++ map lost (client_after fresh p.steps).waiting) ++ recorded (q ∷ ps)

  -- where the parts lead to `end`, each is of one of the parts
  recorded_of_parts : (ps : List Part) (rs : List Record) (end : Model) → BooksInParts reads commands fresh [] rs ps end → AllFrom (IsOfPart ps) 0 (recorded ps)
  recorded_of_parts [] rs end h = absurd h
  recorded_of_parts (p ∷ []) rs end h = of_first p [] [] (settled_by fresh p.steps) (sym (append-nil (settled_by fresh p.steps)))
  recorded_of_parts (p ∷ q ∷ ps) rs end h =
      let waiting = (client_after fresh p.steps).waiting in
      let xs = settled_by fresh p.steps ++ map lost waiting in
      let all = settled_by fresh (p.steps ++ Restart ∷ []) in
      let e : length all ≡ length xs =
      ap length (settled_append fresh p.steps (Restart ∷ []) ∙ ap (λ l. settled_by fresh p.steps ++ l) (append-nil (map lost waiting))) in
      let whole : length (p.marks ++ []) ≡ length p.marks = ap length (append-nil p.marks) in
      let none : 0 ≡ length (drop (length all) (p.marks ++ [])) = ap length h.1.wrote.marks in
      let dropped = length-drop (length all) (p.marks ++ []) in
      let few = h.1.wrote.count in
      let many : 0 + length (records_of reads 0 p.marks xs) ≡ commands_in p.marks + 0 = let n = as_many reads p.marks xs (omega (arith, e, whole, none, dropped, few)) in omega (arith, n) in
      from_append (IsOfPart (p ∷ q ∷ ps)) 0 (records_of reads 0 p.marks xs) (recorded (q ∷ ps)) (of_first p (q ∷ ps) waiting xs refl)
      (subst (λ n. AllFrom (IsOfPart (p ∷ q ∷ ps)) n (recorded (q ∷ ps))) (sym many) (all_later p (q ∷ ps) 0 (recorded (q ∷ ps)) (recorded_of_parts (q ∷ ps) h.0 end h.2)))

  -- where the parts lead from the records `rs` to `end`, their records are added
  recorded_from : (ps : List Part) (rs : List Record) (end : Model) → BooksInParts reads commands fresh [] rs ps end → map timeless (sent_of end.records) ≡ map timeless rs ++ recorded ps
  recorded_from [] rs end h = absurd h
  recorded_from (p ∷ []) rs end h = h.wrote.records
  recorded_from (p ∷ q ∷ ps) rs end h =
      let waiting = (client_after fresh p.steps).waiting in
      let xs = settled_by fresh (p.steps ++ Restart ∷ []) in
      let e : xs ≡ settled_by fresh p.steps ++ map lost waiting =
      settled_append fresh p.steps (Restart ∷ []) ∙ ap (λ l. settled_by fresh p.steps ++ l) (append-nil (map lost waiting)) in
      let ys = records_of reads 0 p.marks (settled_by fresh p.steps ++ map lost waiting) in
      recorded_from (q ∷ ps) h.0 end h.2
      ∙ ap (λ l. l ++ recorded (q ∷ ps))
      (h.1.wrote.records ∙ ap (λ marks. map timeless rs ++ records_of reads 0 marks xs) (append-nil p.marks) ∙ ap (λ l. map timeless rs ++ records_of reads 0 p.marks l) e)
      ∙ append_assoc (map timeless rs) ys (recorded (q ∷ ps))

  -- the records of a run, but for those of commands that weren't sent, are those of its parts
  pub all_recorded : (ps : List Part) (end : Model) → BooksInParts reads commands fresh [] [] ps end → map timeless (sent_of end.records) ≡ recorded ps
  all_recorded ps end h = recorded_from ps [] end h

  -- a record is of one of the parts, or of a command that wasn't sent
  abbrev pub IsOfPartIfSent : List Part → (number : ℕ) → Record → Type 0
  IsOfPartIfSent ps number r = (went_out r.end ≡ false) ⊎ IsOfPart ps number r

  -- where the first of these records is of the parts if its command was sent (`b`), it is so
  at_first : (ps : List Part) (first : ℕ) (r : Record) (rest : List Record) (b : Bool) → went_out r.end ≡ b → AllFrom (IsOfPart ps) first (if b then r ∷ rest else rest) → IsOfPartIfSent ps (first + 0) r
  at_first ps first r rest true out h = let e : first ≡ first + 0 = omega arith in inr (subst (λ n. IsOfPart ps n r) e h.0)
  at_first ps first r rest false out h = inl out

  -- what holds after a record, whether its command was sent (`b`) or not
  at_later : (ps : List Part) (first : ℕ) (r other : Record) (rest before : List Record) (b : Bool)
      → ((n : ℕ) → AllFrom (IsOfPart ps) n rest → IsOfPartIfSent ps (n + length before) r)
      → AllFrom (IsOfPart ps) first (if b then other ∷ rest else rest) → IsOfPartIfSent ps (first + length (if b then other ∷ before else before)) r
  at_later ps first r other rest before true on h =
      let e : suc first + length before ≡ first + suc (length before) = omega arith in subst (λ n. IsOfPartIfSent ps n r) e (on (suc first) h.1)
  at_later ps first r other rest before false on h = on first h

  -- where those of commands that were sent are of the parts, all are so
  all_if_sent : (ps : List Part) (first : ℕ) (rs : List Record) → AllFrom (IsOfPart ps) first (sent_of rs) → (n : ℕ) (r : Record) → slice_get rs n ≡ Some r
      → IsOfPartIfSent ps (first + sent_until rs n) r
  all_if_sent ps first [] h n r e = absurd (none-some r e)
  all_if_sent ps first (x ∷ rs) h zero r e = subst (λ y. IsOfPartIfSent ps (first + 0) y) (same_Some x r e) (at_first ps first x (sent_of rs) (went_out x.end) refl h)
  all_if_sent ps first (x ∷ rs) h (suc n) r e =
      at_later ps first r x (sent_of rs) (sent_of (take n rs)) (went_out x.end) (λ m g. all_if_sent ps m rs g n r e) h

  -- each record of a run is of one of its parts, or of a command that wasn't sent
  pub all_of_parts : (ps : List Part) (end : Model) → BooksInParts reads commands fresh [] [] ps end → (n : ℕ) (r : Record) → slice_get end.records n ≡ Some r
      → IsOfPartIfSent ps (sent_until end.records n) r
  all_of_parts ps end h n r got =
      let e : 0 + sent_until end.records n ≡ sent_until end.records n = omega arith in
      subst (λ number. IsOfPartIfSent ps number r) e
      (all_if_sent ps 0 end.records (all_timeless ps 0 (sent_of end.records) (subst (AllFrom (IsOfPart ps) 0) (sym (all_recorded ps end h)) (recorded_of_parts ps [] end h))) n r got)

  -- the requests of each part are of the commands that its marks name
  pub all_ask : (ps : List Part) (rs : List Record) (end : Model) → BooksInParts reads commands fresh [] rs ps end → AllByRecursion (λ p. MarksAsk commands p.marks (sent_by fresh p.steps)) ps
  all_ask [] rs end h = absurd h
  all_ask (p ∷ []) rs end h = (h.wrote.sent, tt)
  all_ask (p ∷ q ∷ ps) rs end h =
      let asks : sent_by fresh (p.steps ++ Restart ∷ []) ≡ sent_by fresh p.steps = sent_append fresh p.steps (Restart ∷ []) ∙ append-nil (sent_by fresh p.steps) in (
        subst (λ marks. MarksAsk commands marks (sent_by fresh p.steps)) (append-nil p.marks) (subst (MarksAsk commands (p.marks ++ [])) asks h.1.wrote.sent),
        all_ask (q ∷ ps) h.0 end h.2,
      )
