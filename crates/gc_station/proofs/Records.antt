-- Records, written one after the other by the marks of requests. A mark says which command an outstanding request is of, or
-- `None` of a null procedure; settlements are of the oldest outstanding requests, and have their marks, one for one.
-- `WritesPart text before all old new`: a book that had taken `old` has taken the records `before` whole and broken off within
-- the others of `all`; `new` is what it has taken then.
use Rattle.gc_station.proofs.Common.{◌≡◌, ℕ, ◌+◌, ◌<◌, Bool, true, false, List, [], ◌∷◌, ◌++◌, length, take, drop, map, get_or, Option, Some, None, is_some, if◌then◌else◌, refl, sym, ap, ◌∙◌, subst, arith, append_assoc, append-nil, get_or_default, length-map, length-take, map-append, map_more, take_more, take-append-drop, Appends, Appends-trans, flat_map-append, TakesFront, Answer, Reading, Decimal, ValueFault, Asked, settlement_seen, Mark, lists_code, End, Answered, Unreadable, Judged, is_off_target, Judgement, Expected, Quality, Fine, Warning, Refused, first_noted, firsts_after, FirstAnswer, code_of, listed_after, listed_after_settlements, counts_after_settlement, counts_after_settlements, commands_in, first_mark, quality_in, judged_by, unless_judged, answered_as, warned_as, refused_as, answer_as, end_of, command_of, record_with, record_of, records_of, is_well, last_well, unexpected_noted, any_unexpected, renewed_by, fresh_after, Watch, Record, Grew, texts_of, WritesPart, Reads, counted_in, tallied, recorded_after, Moment, Recorded, Counts, busy_after, busy_after_settlements}
use Rattle.gc_client.specs.declared.settlement.Settlement.{Settlement}
use Rattle.gc_catalogue.specs.declared.answer.Reading.TheVariants as reading
use Rattle.gc_client.specs.Rule

-- Marks.

-- the commands of two lists of marks are as many as those of both together
pub commands-append : (xs ys : List (Option Mark)) → commands_in (xs ++ ys) ≡ commands_in xs + commands_in ys
commands-append [] ys = omega arith
commands-append (None ∷ xs) ys = commands-append xs ys
commands-append (Some m ∷ xs) ys = let more = commands-append xs ys in omega (arith, more)

-- one mark counts as one command if it is a command's (`counts`), and else as none
commands_one : (mark : Option Mark) (counts : Bool) → is_some mark ≡ counts → commands_in (mark ∷ []) ≡ (if counts then 1 else 0)
commands_one None true e = cc
commands_one None false e = refl
commands_one (Some m) true e = refl
commands_one (Some m) false e = cc

-- if `mark` is the one at place i of `marks`, it is a command's just when the one that `get_or` gives there is
pub is_command_there : (marks : List (Option Mark)) (i : ℕ) (mark : Option Mark) → i < length marks → mark ≡ get_or marks i mark → is_some mark ≡ is_some (get_or marks i None)
is_command_there marks i mark below is = ap is_some (is ∙ get_or_default marks i mark None below)

-- the commands among the first i + 1 marks are those among the first i, and that of the mark at place i, if it is a command's
-- (`counts`)
pub commands_more : (marks : List (Option Mark)) (i : ℕ) (counts : Bool) → i < length marks → counts ≡ is_some (get_or marks i None)
    → commands_in (take (i + 1) marks) ≡ commands_in (take i marks) + (if counts then 1 else 0)
commands_more marks i b below e =
    ap commands_in (take_more marks i None below) ∙ commands-append (take i marks) (get_or marks i None ∷ [])
    ∙ ap (λ n. commands_in (take i marks) + n) (commands_one (get_or marks i None) b (sym e))

-- Endings.

-- a fact of endings holds of the ending by a line with an answer, or without one, judged or not, if it holds of each answer by this line, and
-- of each judgement on it
answered_along : (P : End → Type 0) (expected : Expected) (q : Quality) (away : Bool) (said : Option Answer) (line : List ℕ)
    → ((quality : Quality) (answer : Option Answer) → P (Answered quality answer line)) → ((judgement : Judgement) → P (Judged judgement line)) → P (answered_as expected q away said line)
answered_along P expected q away said line answered judged = by_judgement (judged_by expected away said line) where
  -- the lemma above, by the judgement
  by_judgement : (o : Option Judgement) → P (unless_judged o (Answered (quality_in expected.twice q) said line) line)
  by_judgement None = answered (quality_in expected.twice q) said
  by_judgement (Some judgement) = judged judgement

-- so it does of the ending by a reply with an accepted code, whatever the line says with return code 0 (`zeroed`)
warned_along : (P : End → Type 0) (expected : Expected) (zeroed : Reading) (line : List ℕ)
    → ((quality : Quality) (answer : Option Answer) → P (Answered quality answer line)) → ((judgement : Judgement) → P (Judged judgement line)) → P (warned_as expected zeroed line)
warned_along P expected (reading.Value said) line answered judged = answered_along P expected Warning (is_off_target expected.near said) (Some said) line answered judged
warned_along P expected (reading.Refused code) line answered judged = answered_along P expected Warning false None line answered judged
warned_along P expected (reading.ComFault code) line answered judged = answered_along P expected Warning false None line answered judged
warned_along P expected (reading.Unreadable fault) line answered judged = answered_along P expected Warning false None line answered judged

-- so it does of the ending by a refused reply, whether its code is accepted or not
refused_along : (P : End → Type 0) (accepted : Bool) (expected : Expected) (zeroed : Reading) (line : List ℕ)
    → ((quality : Quality) (answer : Option Answer) → P (Answered quality answer line)) → ((judgement : Judgement) → P (Judged judgement line)) → P (refused_as accepted expected zeroed line)
refused_along P true expected zeroed line answered judged = warned_along P expected zeroed line answered judged
refused_along P false expected zeroed line answered judged = answered Refused None

-- so it does of the ending by any reply in time, if it holds of each ending as unreadable by this line, too
pub answer_along : (P : End → Type 0) (expected : Expected) (said zeroed : Reading) (line : List ℕ)
    → ((quality : Quality) (answer : Option Answer) → P (Answered quality answer line)) → ((judgement : Judgement) → P (Judged judgement line)) → ((fault : ValueFault) → P (Unreadable line fault))
    → P (answer_as expected said zeroed line)
answer_along P expected (reading.Value said) zeroed line answered judged unreadable =
    answered_along P expected Fine (is_off_target expected.near said) (Some said) line answered judged
answer_along P expected (reading.Refused code) zeroed line answered judged unreadable =
    refused_along P (lists_code expected.accepted code) expected zeroed line answered judged
answer_along P expected (reading.ComFault code) zeroed line answered judged unreadable = answered Refused None
answer_along P expected (reading.Unreadable fault) zeroed line answered judged unreadable = unreadable fault

-- Records.

-- without settlements there are no records
pub records-none : (reads : Reads) (utc : ℕ) (marks : List (Option Mark)) → records_of reads utc marks [] ≡ []
records-none reads utc [] = refl
records-none reads utc (mark ∷ marks) = refl

-- the record of one settlement, which is of the oldest request, is made by the first mark alone
records_here : (reads : Reads) (utc : ℕ) (mark : Option Mark) (marks : List (Option Mark)) (x : Rule.Settlement Asked)
    → records_of reads utc (mark ∷ marks) (x ∷ []) ≡ records_of reads utc (mark ∷ []) (x ∷ [])
records_here reads utc None marks x = records-none reads utc marks
records_here reads utc (Some mark) marks x = ap (λ rs. record_of reads utc mark x ∷ rs) (records-none reads utc marks)

-- the record of one settlement is made by the first mark alone
records_first : (reads : Reads) (utc : ℕ) (marks : List (Option Mark)) (x : Rule.Settlement Asked)
    → records_of reads utc marks (x ∷ []) ≡ records_of reads utc (first_mark marks ∷ []) (x ∷ [])
records_first reads utc [] x = refl
records_first reads utc (m ∷ marks) x = records_here reads utc m marks x

-- the records of the settlements `xs` and then `ys` are those of `xs`, and after them those of `ys` by the marks that are left
pub records-append : (reads : Reads) (utc : ℕ) (marks : List (Option Mark)) (xs ys : List (Rule.Settlement Asked))
    → records_of reads utc marks (xs ++ ys) ≡ records_of reads utc marks xs ++ records_of reads utc (drop (length xs) marks) ys
records-append reads utc [] [] ys = refl
records-append reads utc [] (x ∷ xs) ys = refl
records-append reads utc (mark ∷ marks) [] ys = refl
records-append reads utc (None ∷ marks) (x ∷ xs) ys = records-append reads utc marks xs ys
records-append reads utc (Some mark ∷ marks) (x ∷ xs) ys = ap (λ rs. record_of reads utc mark x ∷ rs) (records-append reads utc marks xs ys)

-- the records of settlements as the code has them
abbrev records_seen : (reads : Reads) (utc : ℕ) (marks : List (Option Mark)) → List (Settlement Asked) → List Record
records_seen reads utc marks ss = records_of reads utc marks (map settlement_seen ss)

-- the records of all settlements are those of the first i, and after them those of the others by the marks that are left
pub records_seen_left : (reads : Reads) (utc : ℕ) (marks : List (Option Mark)) (ss : List (Settlement Asked)) (i : ℕ)
    → records_seen reads utc marks ss ≡ records_seen reads utc marks (take i ss) ++ records_seen reads utc (drop (length (map settlement_seen (take i ss))) marks) (drop i ss)
records_seen_left reads utc marks ss i =
    ap (λ xs. records_of reads utc marks (map settlement_seen xs)) (sym (take-append-drop i ss))
    ∙ ap (records_of reads utc marks) (map-append settlement_seen (take i ss) (drop i ss))
    ∙ records-append reads utc marks (map settlement_seen (take i ss)) (map settlement_seen (drop i ss))

-- without settlements, `listed_after_settlements` stays as it was: b
pub listed-none : (reads : Reads) (b : Bool) (marks : List (Option Mark)) → listed_after_settlements reads b marks [] ≡ b
listed-none reads b [] = refl
listed-none reads b (mark ∷ marks) = refl

-- `listed_after_settlements` of one settlement, which is of the oldest request, depends, but for b, on the first mark alone
listed_here : (reads : Reads) (b : Bool) (mark : Option Mark) (marks : List (Option Mark)) (x : Rule.Settlement Asked)
    → listed_after_settlements reads b (mark ∷ marks) (x ∷ []) ≡ listed_after_settlements reads b (mark ∷ []) (x ∷ [])
listed_here reads b None marks x = listed-none reads b marks
listed_here reads b (Some mark) marks x = listed-none reads _ marks

-- `listed_after_settlements` of one settlement depends, but for b, on the first mark alone
listed_first : (reads : Reads) (b : Bool) (marks : List (Option Mark)) (x : Rule.Settlement Asked)
    → listed_after_settlements reads b marks (x ∷ []) ≡ listed_after_settlements reads b (first_mark marks ∷ []) (x ∷ [])
listed_first reads b [] x = refl
listed_first reads b (m ∷ marks) x = listed_here reads b m marks x

-- `listed_after_settlements` of the settlements `xs` and then `ys`, from b on, is that of `ys` with the marks that are left, from
-- that of `xs` on
listed-append : (reads : Reads) (marks : List (Option Mark)) (xs ys : List (Rule.Settlement Asked)) (b : Bool)
    → listed_after_settlements reads b marks (xs ++ ys) ≡ listed_after_settlements reads (listed_after_settlements reads b marks xs) (drop (length xs) marks) ys
listed-append reads [] [] ys b = refl
listed-append reads [] (x ∷ xs) ys b = refl
listed-append reads (mark ∷ marks) [] ys b = refl
listed-append reads (None ∷ marks) (x ∷ xs) ys b = listed-append reads marks xs ys b
listed-append reads (Some mark ∷ marks) (x ∷ xs) ys b =
    listed-append reads marks xs ys (listed_after b mark.expected (code_of reads x.call x.outcome) (end_of reads mark.expected x.call x.outcome))

-- the same of the counts: without settlements they stay as they were
pub counts-none : (reads : Reads) (b : List (Option Decimal)) (marks : List (Option Mark)) → counts_after_settlements reads b marks [] ≡ b
counts-none reads b [] = refl
counts-none reads b (mark ∷ marks) = refl

-- the counts after one settlement, which is of the oldest request, depend, but for b, on the first mark alone
counts_here : (reads : Reads) (b : List (Option Decimal)) (mark : Option Mark) (marks : List (Option Mark)) (x : Rule.Settlement Asked)
    → counts_after_settlements reads b (mark ∷ marks) (x ∷ []) ≡ counts_after_settlements reads b (mark ∷ []) (x ∷ [])
counts_here reads b None marks x = counts-none reads b marks
counts_here reads b (Some mark) marks x = counts-none reads _ marks

-- the counts after one settlement depend, but for b, on the first mark alone
counts_first : (reads : Reads) (b : List (Option Decimal)) (marks : List (Option Mark)) (x : Rule.Settlement Asked)
    → counts_after_settlements reads b marks (x ∷ []) ≡ counts_after_settlements reads b (first_mark marks ∷ []) (x ∷ [])
counts_first reads b [] x = refl
counts_first reads b (m ∷ marks) x = counts_here reads b m marks x

-- the counts after the settlements `xs` and then `ys`, from b on, are those after `ys` with the marks that are left, from those after `xs`
-- on
counts-append : (reads : Reads) (marks : List (Option Mark)) (xs ys : List (Rule.Settlement Asked)) (b : List (Option Decimal))
    → counts_after_settlements reads b marks (xs ++ ys) ≡ counts_after_settlements reads (counts_after_settlements reads b marks xs) (drop (length xs) marks) ys
counts-append reads [] [] ys b = refl
counts-append reads [] (x ∷ xs) ys b = refl
counts-append reads (mark ∷ marks) [] ys b = refl
counts-append reads (None ∷ marks) (x ∷ xs) ys b = counts-append reads marks xs ys b
counts-append reads (Some mark ∷ marks) (x ∷ xs) ys b = counts-append reads marks xs ys (counts_after_settlement reads b mark x)

-- the counts after settlements as the code has them
abbrev counts_seen : (reads : Reads) (counts : List (Option Decimal)) (marks : List (Option Mark)) → List (Settlement Asked) → List (Option Decimal)
counts_seen reads counts marks ss = counts_after_settlements reads counts marks (map settlement_seen ss)

-- `listed_after_settlements` of settlements as the code has them
abbrev listed_seen : (reads : Reads) (listed : Bool) (marks : List (Option Mark)) → List (Settlement Asked) → Bool
listed_seen reads listed marks ss = listed_after_settlements reads listed marks (map settlement_seen ss)

-- Records are added, and none goes.

-- records are a front of themselves
pub grew_none : (rs : List Record) → Grew rs rs
grew_none rs = ([], sym (append-nil rs))

-- a front of a front is a front
pub grew_then : (a b c : List Record) → Grew a b → Grew b c → Grew a c
grew_then a b c g h = (g.0 ++ h.0, h.1 ∙ ap (λ rs. rs ++ h.0) g.1 ∙ append_assoc a g.0 h.0)

-- if a book took the records `before`, and then a part of the record r alone, it broke off within r (`WritesPart`)
pub part_one : (text : Record → List ℕ) (before : List Record) (r : Record) (start old new : Option (List ℕ)) (part : ℕ)
    → Appends start old (texts_of text before) → TakesFront old new part (text r) → WritesPart text before (before ++ r ∷ []) start new
part_one text before r start old new part so took = record {
  earlier = [];
  next = r;
  later = [];
  order = refl;
  part = part;
  not_all = took.0;
  took = subst (λ (rs : List Record). Appends start new (texts_of text rs ++ take part (text r))) (sym (append-nil before))
      (Appends-trans start old new (texts_of text before) (take part (text r)) so took.1);
}

-- if a book took the records `before`, and then the record r, it took them all
pub whole_one : (text : Record → List ℕ) (before : List Record) (r : Record) (start old new : Option (List ℕ))
    → Appends start old (texts_of text before) → Appends old new (text r) → Appends start new (texts_of text (before ++ r ∷ []))
whole_one text before r start old new so took =
    subst (λ (l : List ℕ). Appends start new l) (ap (λ l. texts_of text before ++ l) (sym (append-nil (text r))) ∙ sym (flat_map-append text before (r ∷ [])))
    (Appends-trans start old new (texts_of text before) (text r) so took)

-- a write that broke off within the records `all` broke off within `all` and more
pub part_more : (text : Record → List ℕ) (before all more : List Record) (old new : Option (List ℕ)) → WritesPart text before all old new → WritesPart text before (all ++ more) old new
part_more text before all more old new w = record {
  earlier = w.earlier;
  next = w.next;
  later = w.later ++ more;
  order = ap (λ rs. rs ++ more) w.order ∙ append_assoc before (w.earlier ++ w.next ∷ w.later) more ∙ ap (λ rs. before ++ rs) (append_assoc w.earlier (w.next ∷ w.later) more);
  part = w.part;
  not_all = w.not_all;
  took = w.took;
}

-- a write that took `before` and `front` whole, and then broke off, took `before` whole and broke off after it
pub part_since : (text : Record → List ℕ) (before front all : List Record) (old new : Option (List ℕ)) → WritesPart text (before ++ front) all old new → WritesPart text before all old new
part_since text before front all old new w = record {
  earlier = front ++ w.earlier;
  next = w.next;
  later = w.later;
  order = w.order ∙ append_assoc before front (w.earlier ++ w.next ∷ w.later) ∙ ap (λ rs. before ++ rs) (sym (append_assoc front w.earlier (w.next ∷ w.later)));
  part = w.part;
  not_all = w.not_all;
  took = subst (λ (rs : List Record). Appends old new (texts_of text rs ++ take w.part (text w.next))) (append_assoc before front w.earlier) w.took;
}

-- `mid` is `before` and more records: a write that took `mid` whole, and then broke off, took `before` whole and broke off
-- after it
pub part_since_grew : (text : Record → List ℕ) (before mid all : List Record) (old new : Option (List ℕ)) → Grew before mid → WritesPart text mid all old new → WritesPart text before all old new
part_since_grew text before mid all old new g w = part_since text before g.0 all old new (subst (λ (rs : List Record). WritesPart text rs all old new) g.1 w)

-- `all` is `mid` and more records: a write that broke off within `mid` broke off within `all`
pub part_more_grew : (text : Record → List ℕ) (before mid all : List Record) (old new : Option (List ℕ)) → Grew mid all → WritesPart text before mid old new → WritesPart text before all old new
part_more_grew text before mid all old new g w = subst (λ (rs : List Record). WritesPart text before rs old new) (sym g.1) (part_more text before mid g.0 old new w)

-- `all` begins with `front` and then `more`: a write that took `before` and `front`, and broke off within `more`, broke off
-- within `all`
pub part_behind : (text : Record → List ℕ) (before front next more all later : List Record) (start new : Option (List ℕ)) → next ≡ front ++ more → all ≡ next ++ later
    → WritesPart text (before ++ front) ((before ++ front) ++ more) start new → WritesPart text before (before ++ all) start new
part_behind text before front next more all later start new is whole w =
    let order : before ++ all ≡ ((before ++ front) ++ more) ++ later =
    ap (λ rs. before ++ rs) (whole ∙ ap (λ rs. rs ++ later) is) ∙ ap (λ rs. before ++ rs) (append_assoc front more later)
    ∙ sym (append_assoc before front (more ++ later)) ∙ sym (append_assoc (before ++ front) more later) in
    part_since text before front (before ++ all) start new (part_more_grew text (before ++ front) ((before ++ front) ++ more) (before ++ all) start new (later, order) w)

-- The longest wait after busy answers: it is carried over settlements, as the counts are.

-- without settlements it stays
busy-none : (reads : Reads) (k : ℕ) (marks : List (Option Mark)) → busy_after_settlements reads k marks [] ≡ k
busy-none reads k [] = refl
busy-none reads k (mark ∷ marks) = refl

-- that of one settlement is by the first mark alone
busy_first : (reads : Reads) (k : ℕ) (marks : List (Option Mark)) (x : Rule.Settlement Asked)
    → busy_after_settlements reads k marks (x ∷ []) ≡ busy_after_settlements reads k (first_mark marks ∷ []) (x ∷ [])
busy_first reads k [] x = refl
busy_first reads k (None ∷ marks) x = busy-none reads k marks
busy_first reads k (Some mark ∷ marks) x = busy-none reads _ marks

-- that of two lists of settlements is that of the second, with the marks that are left, from that of the first on
busy-append : (reads : Reads) (marks : List (Option Mark)) (xs ys : List (Rule.Settlement Asked)) (k : ℕ)
    → busy_after_settlements reads k marks (xs ++ ys) ≡ busy_after_settlements reads (busy_after_settlements reads k marks xs) (drop (length xs) marks) ys
busy-append reads [] [] ys k = refl
busy-append reads [] (x ∷ xs) ys k = refl
busy-append reads (mark ∷ marks) [] ys k = refl
busy-append reads (None ∷ marks) (x ∷ xs) ys k = busy-append reads marks xs ys k
busy-append reads (Some mark ∷ marks) (x ∷ xs) ys k = busy-append reads marks xs ys (busy_after k mark.expected (code_of reads x.call x.outcome))

-- that of settlements as the client returns them
abbrev busy_seen : (reads : Reads) (longest : ℕ) (marks : List (Option Mark)) → List (Settlement Asked) → ℕ
busy_seen reads longest marks ss = busy_after_settlements reads longest marks (map settlement_seen ss)

-- f carries a value over records. If it takes two joined lists one after the other (`append`), b is what it makes of a and
-- `front`, c of b and `one`, and `next` is `front` and then `one`, c is what it makes of a and `next`
fold_more : {A : Type 0} (f : A → List Record → A) → ((a : A) (xs ys : List Record) → f a (xs ++ ys) ≡ f (f a xs) ys) → (a b c : A) (front one next : List Record) → b ≡ f a front → c ≡ f b one
    → next ≡ front ++ one → c ≡ f a next
fold_more f append a b c front one next so more is = more ∙ ap (λ x. f x one) so ∙ sym (append a front one) ∙ sym (ap (f a) is)

-- to count the records of two lists is to count those of the first, and then those of the second
pub tallied-append : (t : Counts) (xs ys : List Record) → tallied t (xs ++ ys) ≡ tallied (tallied t xs) ys
tallied-append t [] ys = refl
tallied-append t (x ∷ xs) ys = tallied-append (counted_in x.cycle x.turn x.end t) xs ys

-- whether the last record of two lists, one after the other, was answered well is known from the second list; if that is empty,
-- from the first; and if both are, it is b
pub last-append : (b : Bool) (xs ys : List Record) → last_well b (xs ++ ys) ≡ last_well (last_well b xs) ys
last-append b [] ys = refl
last-append b (x ∷ xs) ys = last-append (is_well x.end) xs ys

-- `fresh_after` of the records `xs` and then `ys`, which were recorded at the moment `now`, is that of `ys` from that of `xs` on
pub fresh-append : (now : ℕ) (fresh : List Watch) (xs ys : List Record) → fresh_after now fresh (xs ++ ys) ≡ fresh_after now (fresh_after now fresh xs) ys
fresh-append now fresh [] ys = refl
fresh-append now fresh (x ∷ xs) ys = fresh-append now (map (renewed_by now x) fresh) xs ys

-- the kept answers of a first sending after the records `xs` and then `ys` are those after `ys` from those after `xs` on
pub firsts-append : (fs : List (Option FirstAnswer)) (xs ys : List Record) → firsts_after fs (xs ++ ys) ≡ firsts_after (firsts_after fs xs) ys
firsts-append fs [] ys = refl
firsts-append fs (x ∷ xs) ys = firsts-append (first_noted x.cycle x.turn x.end fs) xs ys

-- whether one of the records `xs` and then `ys` is of a command that ended as unexpected is known from `ys`, from what it is of `xs` on
pub unexpected-append : (b : Bool) (xs ys : List Record) → any_unexpected b (xs ++ ys) ≡ any_unexpected (any_unexpected b xs) ys
unexpected-append b [] ys = refl
unexpected-append b (x ∷ xs) ys = unexpected-append (unexpected_noted x.end b) xs ys

-- what is kept of records is equal where each of its fields is
recorded_same : (a b : Recorded) → a.tally ≡ b.tally → a.well ≡ b.well → a.listed ≡ b.listed → a.fresh ≡ b.fresh → a.firsts ≡ b.firsts → a.counts ≡ b.counts
    → a.unexpected ≡ b.unexpected → a.busy ≡ b.busy → a ≡ b
recorded_same a b tally well listed fresh firsts counts unexpected busy =
    ap (λ (x : Counts). record a { tally = x }) tally
    ∙ ap (λ (x : Bool). record a { tally = b.tally; well = x }) well
    ∙ ap (λ (x : Bool). record a { tally = b.tally; well = b.well; listed = x }) listed
    ∙ ap (λ (x : List Watch). record a { tally = b.tally; well = b.well; listed = b.listed; fresh = x }) fresh
    ∙ ap (λ (x : List (Option FirstAnswer)). record a { tally = b.tally; well = b.well; listed = b.listed; fresh = b.fresh; firsts = x }) firsts
    ∙ ap (λ (x : List (Option Decimal)). record a { tally = b.tally; well = b.well; listed = b.listed; fresh = b.fresh; firsts = b.firsts; counts = x }) counts
    ∙ ap (λ (x : Bool). record b { unexpected = x; busy = a.busy }) unexpected
    ∙ ap (λ (x : ℕ). record b { busy = x }) busy

-- without settlements, what is kept of records stays as it was
pub recorded-none : (reads : Reads) (now : Moment) (marks : List (Option Mark)) (r : Recorded) → recorded_after now marks [] reads r ≡ r
recorded-none reads now marks r =
    let none = records-none reads now.utc marks in
    recorded_same (recorded_after now marks [] reads r) r (ap (tallied r.tally) none) (ap (last_well r.well) none) (listed-none reads r.listed marks)
    (ap (fresh_after now.elapsed r.fresh) none) (ap (firsts_after r.firsts) none) (counts-none reads r.counts marks) (ap (any_unexpected r.unexpected) none)
    (busy-none reads r.busy marks)

-- `s` is the settlement at place i, and `mark` the first of the marks from place i on
module _ (reads : Reads) (marks : List (Option Mark)) (ss : List (Settlement Asked)) (i : ℕ) (s : Settlement Asked) (mark : Option Mark)
    (below : i < length ss) (is : s ≡ get_or ss i s) (first : mark ≡ first_mark (drop i marks)) where
  -- the first i settlements are i
  front_length : length (map settlement_seen (take i ss)) ≡ i
  front_length = length-map (take i ss) settlement_seen ∙ omega (arith, length-take i ss, below)

  -- the records of the first i + 1 settlements are those of the first i, and that of s, by `mark`
  pub records_seen_more : (utc : ℕ) → records_seen reads utc marks (take (i + 1) ss) ≡ records_seen reads utc marks (take i ss) ++ records_seen reads utc (mark ∷ []) (s ∷ [])
  records_seen_more utc =
      let front = map settlement_seen (take i ss) in
      ap (records_of reads utc marks) (map_more settlement_seen ss i s below ∙ ap (λ x. front ++ settlement_seen x ∷ []) (sym is))
      ∙ records-append reads utc marks front (settlement_seen s ∷ [])
      ∙ ap (λ n. records_of reads utc marks front ++ records_of reads utc (drop n marks) (settlement_seen s ∷ [])) front_length
      ∙ ap (λ rs. records_of reads utc marks front ++ rs)
      (records_first reads utc (drop i marks) (settlement_seen s) ∙ ap (λ k. records_of reads utc (k ∷ []) (settlement_seen s ∷ [])) (sym first))

  -- c is `listed_after_settlements` of the first i + 1 settlements, from a on, if b is that of the first i, and c is that of s,
  -- with `mark`, from b on
  listed_more : (a b c : Bool) → b ≡ listed_seen reads a marks (take i ss) → c ≡ listed_seen reads b (mark ∷ []) (s ∷ []) → c ≡ listed_seen reads a marks (take (i + 1) ss)
  listed_more a b c so more =
      let front = map settlement_seen (take i ss) in
      more ∙ ap (λ x. listed_after_settlements reads x (mark ∷ []) (settlement_seen s ∷ [])) so
      ∙ ap (λ k. listed_after_settlements reads (listed_after_settlements reads a marks front) (k ∷ []) (settlement_seen s ∷ [])) first
      ∙ sym (listed_first reads (listed_after_settlements reads a marks front) (drop i marks) (settlement_seen s))
      ∙ ap (λ n. listed_after_settlements reads (listed_after_settlements reads a marks front) (drop n marks) (settlement_seen s ∷ [])) (sym front_length)
      ∙ sym (listed-append reads marks front (settlement_seen s ∷ []) a)
      ∙ sym (ap (listed_after_settlements reads a marks) (map_more settlement_seen ss i s below ∙ ap (λ x. front ++ settlement_seen x ∷ []) (sym is)))

  -- the same of the counts
  counts_more : (a b c : List (Option Decimal)) → b ≡ counts_seen reads a marks (take i ss) → c ≡ counts_seen reads b (mark ∷ []) (s ∷ []) → c ≡ counts_seen reads a marks (take (i + 1) ss)
  counts_more a b c so more =
      let front = map settlement_seen (take i ss) in
      more ∙ ap (λ x. counts_after_settlements reads x (mark ∷ []) (settlement_seen s ∷ [])) so
      ∙ ap (λ k. counts_after_settlements reads (counts_after_settlements reads a marks front) (k ∷ []) (settlement_seen s ∷ [])) first
      ∙ sym (counts_first reads (counts_after_settlements reads a marks front) (drop i marks) (settlement_seen s))
      ∙ ap (λ n. counts_after_settlements reads (counts_after_settlements reads a marks front) (drop n marks) (settlement_seen s ∷ [])) (sym front_length)
      ∙ sym (counts-append reads marks front (settlement_seen s ∷ []) a)
      ∙ sym (ap (counts_after_settlements reads a marks) (map_more settlement_seen ss i s below ∙ ap (λ x. front ++ settlement_seen x ∷ []) (sym is)))

  -- the same of the longest wait
  busy_more : (a b c : ℕ) → b ≡ busy_seen reads a marks (take i ss) → c ≡ busy_seen reads b (mark ∷ []) (s ∷ []) → c ≡ busy_seen reads a marks (take (i + 1) ss)
  busy_more a b c so more =
      let front = map settlement_seen (take i ss) in
      more ∙ ap (λ x. busy_after_settlements reads x (mark ∷ []) (settlement_seen s ∷ [])) so
      ∙ ap (λ k. busy_after_settlements reads (busy_after_settlements reads a marks front) (k ∷ []) (settlement_seen s ∷ [])) first
      ∙ sym (busy_first reads (busy_after_settlements reads a marks front) (drop i marks) (settlement_seen s))
      ∙ ap (λ n. busy_after_settlements reads (busy_after_settlements reads a marks front) (drop n marks) (settlement_seen s ∷ [])) (sym front_length)
      ∙ sym (busy-append reads marks front (settlement_seen s ∷ []) a)
      ∙ sym (ap (busy_after_settlements reads a marks) (map_more settlement_seen ss i s below ∙ ap (λ x. front ++ settlement_seen x ∷ []) (sym is)))

  -- if b is what the first i settlements make of a, and c what s makes of b, c is what the first i + 1 make of a
  pub recorded_more : (now : Moment) (a b c : Recorded) → b ≡ recorded_after now marks (map settlement_seen (take i ss)) reads a
      → c ≡ recorded_after now (mark ∷ []) (settlement_seen s ∷ []) reads b → c ≡ recorded_after now marks (map settlement_seen (take (i + 1) ss)) reads a
  recorded_more now a b c so more =
      let front = records_seen reads now.utc marks (take i ss) in
      let one = records_seen reads now.utc (mark ∷ []) (s ∷ []) in
      let next = records_seen_more now.utc in
      recorded_same c (recorded_after now marks (map settlement_seen (take (i + 1) ss)) reads a)
      (fold_more tallied tallied-append a.tally b.tally c.tally front one _ (ap (λ (r : Recorded). r.tally) so) (ap (λ (r : Recorded). r.tally) more) next)
      (fold_more last_well last-append a.well b.well c.well front one _ (ap (λ (r : Recorded). r.well) so) (ap (λ (r : Recorded). r.well) more) next)
      (listed_more a.listed b.listed c.listed (ap (λ (r : Recorded). r.listed) so) (ap (λ (r : Recorded). r.listed) more))
      (fold_more (fresh_after now.elapsed) (fresh-append now.elapsed) a.fresh b.fresh c.fresh front one _ (ap (λ (r : Recorded). r.fresh) so) (ap (λ (r : Recorded). r.fresh) more) next)
      (fold_more firsts_after firsts-append a.firsts b.firsts c.firsts front one _ (ap (λ (r : Recorded). r.firsts) so) (ap (λ (r : Recorded). r.firsts) more) next)
      (counts_more a.counts b.counts c.counts (ap (λ (r : Recorded). r.counts) so) (ap (λ (r : Recorded). r.counts) more))
      (fold_more any_unexpected unexpected-append a.unexpected b.unexpected c.unexpected front one _ (ap (λ (r : Recorded). r.unexpected) so) (ap (λ (r : Recorded). r.unexpected) more) next)
      (busy_more a.busy b.busy c.busy (ap (λ (r : Recorded). r.busy) so) (ap (λ (r : Recorded). r.busy) more))

-- the record with the ending that a settlement gives is the record of the settlement
pub record_of_ending : (reads : Reads) (utc : ℕ) (mark : Mark) (x : Rule.Settlement Asked) (end : End) → end ≡ end_of reads mark.expected x.call x.outcome
    → record_with utc mark (Some mark.sent) (command_of x) end ≡ record_of reads utc mark x
record_of_ending reads utc mark x end is = ap (record_with utc mark (Some mark.sent) (command_of x)) is
