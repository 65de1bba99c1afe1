-- What is recorded of a client's steps: how each request ended, by its mark. A course is what a client has sent and settled so
-- far, and the client after that. A step is a send, a line heard, a moment read or a restart. `Books` says that a part's steps
-- take a client, its marks and its records to those after them; `Wrote` says the same of the marks and the records alone, by
-- what was settled and sent.
use Rattle.gc_station.proofs.Common.{◌≡◌, ℕ, zero, suc, ◌+◌, ◌<◌, ◌≤◌, Bool, true, false, List, [], ◌∷◌, ◌++◌, length, map, drop, Option, Some, None, refl, sym, ◌∙◌, ap, subst, arith, append_assoc, append-nil, if◌then◌else◌, slice_get, AllByRecursion, length-map, length-append, length-drop, map-append, drop-append-le, ne_eqb, same_Some, Asked, WINDOW, Wanted, Course, Step, Hear, Expire, Restart, sent_on, course_after, course, of_settled, of_pending, course_at, ById, Late, Lost, Sending, Settlement, fresh, heard, hears, expires, lost, send_unless_full, sends, heard_parts, lost_parts, as_zero, End, Expected, Task, client_sent, client_stepped, client_after, Mark, Outgoing, end_of, record_of, records_of, Record, of_command, later, sent_to, SyncStep, Part, only_sync_steps, only_steps, idle_part, parts_joined, request_part, MarkAsks, MarksAsk, went_out, sent_of, timeless, client_of, Reads, filter-append}
use Rattle.std.proofs.lemmas.List.{drop-drop}
use Rattle.gc_client.specs.Prelude.{Send, Outcome, Answered}
use Rattle.gc_station.proofs.Lists.{all_append, all_at}
use Rattle.gc_station.proofs.Records.{answer_along, records-none, records-append}

-- Steps.

-- what these steps add to one list of a course, which `list` gives, from this client on
abbrev pub added_by : {A : Type 0} → (list : Course Asked → List A) → ById Asked → List (Step Asked) → List A
added_by list c [] = []
added_by list c (s ∷ ss) = list (course_after WINDOW (course_at c) s) ++ added_by list (client_stepped c s) ss

-- what these steps settle, from this client on
abbrev pub settled_by : ById Asked → List (Step Asked) → List (Settlement Asked)
settled_by c ss = added_by (λ (x : Course Asked). x.settlements) c ss

-- what these steps send, from this client on
abbrev pub sent_by : ById Asked → List (Step Asked) → List (Wanted Asked)
sent_by c ss = added_by (λ (x : Course Asked). x.sent) c ss

-- a client after two lists of steps is the one after the second, from the one after the first on
pub client_append : (c : ById Asked) (first later : List (Step Asked)) → client_after c (first ++ later) ≡ client_after (client_after c first) later
client_append c [] later = refl
client_append c (s ∷ first) later = client_append (client_stepped c s) first later

-- two lists of steps add what the first adds and then what the second adds after it
added_append : {A : Type 0} (list : Course Asked → List A) (c : ById Asked) (first later : List (Step Asked))
    → added_by list c (first ++ later) ≡ added_by list c first ++ added_by list (client_after c first) later
added_append list c [] later = refl
added_append list c (s ∷ first) later =
    ap (λ k. list (course_after WINDOW (course_at c) s) ++ k) (added_append list (client_stepped c s) first later)
    ∙ sym (append_assoc (list (course_after WINDOW (course_at c) s)) (added_by list (client_stepped c s) first) (added_by list (client_after (client_stepped c s) first) later))

-- two lists of steps settle what the first settles and then what the second settles after it
pub settled_append : (c : ById Asked) (first later : List (Step Asked)) → settled_by c (first ++ later) ≡ settled_by c first ++ settled_by (client_after c first) later
settled_append c first later = added_append (λ (x : Course Asked). x.settlements) c first later

-- two lists of steps send what the first sends and then what the second sends after it
pub sent_append : (c : ById Asked) (first later : List (Step Asked)) → sent_by c (first ++ later) ≡ sent_by c first ++ sent_by (client_after c first) later
sent_append c first later = added_append (λ (x : Course Asked). x.sent) c first later

-- a send adds the same to any course as to one at its start with the same client
sent_parts : (x : Course Asked) (target : ℕ) (call : Asked) (o : Option (Sending (ById Asked)))
    → ((sent_on x target call o).settlements ≡ x.settlements ++ (sent_on (course_at x.client) target call o).settlements)
    × ((sent_on x target call o).sent ≡ x.sent ++ (sent_on (course_at x.client) target call o).sent)
sent_parts x target call None = (sym (append-nil x.settlements), sym (append-nil x.sent))
sent_parts x target call (Some s) = (sym (append-nil x.settlements), refl)

-- so does a step
step_parts : (x : Course Asked) (s : Step Asked)
    → ((course_after WINDOW x s).settlements ≡ x.settlements ++ (course_after WINDOW (course_at x.client) s).settlements)
    × ((course_after WINDOW x s).sent ≡ x.sent ++ (course_after WINDOW (course_at x.client) s).sent)
step_parts x (Send target call deadline) = sent_parts x target call (sends WINDOW x.client target call deadline)
step_parts x (Hear line) = (refl, sym (append-nil x.sent))
step_parts x (Expire now) = (sym (append-nil x.settlements), sym (append-nil x.sent))
step_parts x Restart = (refl, sym (append-nil x.sent))

-- steps add to one list of a course what they add to it from its client on, if each step adds the same to any course as to one at
-- its start with the same client
course_added : {A : Type 0} (list : Course Asked → List A)
    → ((x : Course Asked) (s : Step Asked) → list (course_after WINDOW x s) ≡ list x ++ list (course_after WINDOW (course_at x.client) s))
    → (steps : List (Step Asked)) (x : Course Asked) → list (course WINDOW x steps) ≡ list x ++ added_by list x.client steps
course_added list adds [] x = sym (append-nil (list x))
course_added list adds (s ∷ ss) x =
    let y = course_after WINDOW x s in
    let now = list (course_after WINDOW (course_at x.client) s) in
    course_added list adds ss y ∙ ap (λ l. l ++ added_by list y.client ss) (adds x s) ∙ ap (λ c. (list x ++ now) ++ added_by list c ss) (client_of x s)
    ∙ append_assoc (list x) now (added_by list (client_stepped x.client s) ss)

-- steps add to the settlements of a course what they settle from its client on
pub course_settled : (steps : List (Step Asked)) (x : Course Asked) → (course WINDOW x steps).settlements ≡ x.settlements ++ settled_by x.client steps
course_settled steps x = course_added (λ (y : Course Asked). y.settlements) (λ y s. (step_parts y s).0) steps x

-- steps add to the requests of a course what they send from its client on
pub course_sent : (steps : List (Step Asked)) (x : Course Asked) → (course WINDOW x steps).sent ≡ x.sent ++ sent_by x.client steps
course_sent steps x = course_added (λ (y : Course Asked). y.sent) (λ y s. (step_parts y s).1) steps x

-- Lists.

-- to drop as many elements as the settlements `ss`, and then as `ts`, is to drop as many as both
drop_twice : {A : Type 0} (ss ts : List (Settlement Asked)) (xs : List A) → drop (length ts) (drop (length ss) xs) ≡ drop (length (ss ++ ts)) xs
drop_twice ss ts xs = drop-drop (length ts) (length ss) xs ∙ ap (λ n. drop n xs) (sym (length-append ss ts))

-- the records of settlements, without their moments (`timeless`), are those of the moment 0
records_timeless : (reads : Reads) (utc : ℕ) (ms : List (Option Mark)) (ss : List (Settlement Asked)) → map timeless (records_of reads utc ms ss) ≡ records_of reads 0 ms ss
records_timeless reads utc [] ss = refl
records_timeless reads utc (m ∷ ms) [] = refl
records_timeless reads utc (None ∷ ms) (s ∷ ss) = records_timeless reads utc ms ss
records_timeless reads utc (Some mark ∷ ms) (s ∷ ss) = ap (λ rs. record_of reads 0 mark s ∷ rs) (records_timeless reads utc ms ss)

-- settlements, of which there are no more than marks `ms`, have the same records if the marks `more` come after `ms`
records_more : (reads : Reads) (ms more : List (Option Mark)) (ss : List (Settlement Asked)) → length ss ≤ length ms → records_of reads 0 (ms ++ more) ss ≡ records_of reads 0 ms ss
records_more reads [] more [] le = records-none reads 0 more
records_more reads [] more (s ∷ ss) le = absurd (omega (arith, le))
records_more reads (m ∷ ms) more [] le = refl
records_more reads (None ∷ ms) more (s ∷ ss) le = records_more reads ms more ss (omega (arith, le))
records_more reads (Some mark ∷ ms) more (s ∷ ss) le = ap (λ rs. record_of reads 0 mark s ∷ rs) (records_more reads ms more ss (omega (arith, le)))

-- a command whose request was settled was sent, however it ended
pub ended_sent : (reads : Reads) (expected : Expected) (call : Asked) (o : Outcome) → went_out (end_of reads expected call o) ≡ true
ended_sent reads expected call (Answered line) =
    answer_along (λ (end : End). went_out end ≡ true) expected (reads expected.form call line) (reads expected.form call (as_zero line)) line (λ quality answer. refl) (λ judgement. refl) (λ fault. refl)
ended_sent reads expected call Late = refl
ended_sent reads expected call Lost = refl

-- all records of settlements are of commands that were sent
records_sent : (reads : Reads) (utc : ℕ) (ms : List (Option Mark)) (ss : List (Settlement Asked)) → sent_of (records_of reads utc ms ss) ≡ records_of reads utc ms ss
records_sent reads utc [] ss = refl
records_sent reads utc (m ∷ ms) [] = refl
records_sent reads utc (None ∷ ms) (s ∷ ss) = records_sent reads utc ms ss
records_sent reads utc (Some mark ∷ ms) (s ∷ ss) =
    let r = record_of reads utc mark s in
    let rest = sent_of (records_of reads utc ms ss) in
    ap (λ (b : Bool). if b then r ∷ rest else rest) (ended_sent reads mark.expected s.call s.outcome) ∙ ap (λ rs. r ∷ rs) (records_sent reads utc ms ss)

-- among `rs` followed by records of settlements, the sent ones are the sent ones of `rs`, followed by all those records
pub sent_of-append_records : (reads : Reads) (rs : List Record) (utc : ℕ) (ms : List (Option Mark)) (ss : List (Settlement Asked))
    → sent_of (rs ++ records_of reads utc ms ss) ≡ sent_of rs ++ records_of reads utc ms ss
sent_of-append_records reads rs utc ms ss = filter-append _ rs (records_of reads utc ms ss) ∙ ap (λ xs. sent_of rs ++ xs) (records_sent reads utc ms ss)

-- `MarksAsk` says of marks and requests, one for one, that each request is of the command that its mark names. If it holds of
-- `ms` and `xs`, and of `ns` and `ys`, it holds of both joined
pub marks_ask_append : (commands : List Task) (ms ns : List (Option Mark)) (xs ys : List (Wanted Asked)) → MarksAsk commands ms xs → MarksAsk commands ns ys → MarksAsk commands (ms ++ ns) (xs ++ ys)
marks_ask_append commands [] ns [] ys h g = g
marks_ask_append commands [] ns (x ∷ xs) ys h g = absurd h
marks_ask_append commands (m ∷ ms) ns [] ys h g = absurd h
marks_ask_append commands (m ∷ ms) ns (x ∷ xs) ys h g = (h.0, marks_ask_append commands ms ns xs ys h.1 g)

-- where `MarksAsk` holds, there are as many marks as requests
pub marks_ask_length : (commands : List Task) (ms : List (Option Mark)) (xs : List (Wanted Asked)) → MarksAsk commands ms xs → length ms ≡ length xs
marks_ask_length commands [] [] h = refl
marks_ask_length commands [] (x ∷ xs) h = absurd h
marks_ask_length commands (m ∷ ms) [] h = absurd h
marks_ask_length commands (m ∷ ms) (x ∷ xs) h = ap suc (marks_ask_length commands ms xs h.1)

-- where `MarksAsk` holds, a mark at place n has a request at the same place, which asks what the mark says
pub marks_ask_at : (commands : List Task) (ms : List (Option Mark)) (xs : List (Wanted Asked)) (n : ℕ) (mark : Option Mark) → MarksAsk commands ms xs
    → slice_get ms n ≡ Some mark → (a : Wanted Asked) × (slice_get xs n ≡ Some a) × MarkAsks commands mark a
marks_ask_at commands [] [] n mark h e = cc
marks_ask_at commands [] (x ∷ xs) n mark h e = absurd h
marks_ask_at commands (m ∷ ms) [] n mark h e = absurd h
marks_ask_at commands (m ∷ ms) (x ∷ xs) zero mark h e = (x, refl, subst (λ (k : Option Mark). MarkAsks commands k x) (same_Some m mark e) h.0)
marks_ask_at commands (m ∷ ms) (x ∷ xs) (suc n) mark h e = marks_ask_at commands ms xs n mark h.1 e

-- if P holds of the record of each settlement with the command's mark at the same place, P holds of all records of the
-- settlements `ss` with the marks `ms`; all records are of the moment `utc`
pub all_records : (reads : Reads) (utc : ℕ) (P : Record → Type 0) (ms : List (Option Mark)) (ss : List (Settlement Asked))
    → ((n : ℕ) (mark : Mark) (s : Settlement Asked) → slice_get ms n ≡ Some (Some mark) → slice_get ss n ≡ Some s → P (record_of reads utc mark s)) → AllByRecursion P (records_of reads utc ms ss)
all_records reads utc P [] ss f = tt
all_records reads utc P (m ∷ ms) [] f = tt
all_records reads utc P (None ∷ ms) (s ∷ ss) f = all_records reads utc P ms ss (λ n mark x at got. f (suc n) mark x at got)
all_records reads utc P (Some mark ∷ ms) (s ∷ ss) f = (f 0 mark s refl refl, all_records reads utc P ms ss (λ n other x at got. f (suc n) other x at got))

-- Q holds of all records `rs` and of those of the settlements `ss` after them, if Q holds of `rs`, P of all marks `ms`, and P of
-- a mark gives Q of the record of any settlement with that mark
pub all_settled : (P : Option Mark → Type 0) (Q : Record → Type 0) (reads : Reads) (utc : ℕ) (ms : List (Option Mark)) (rs : List Record) (ss : List (Settlement Asked))
    → ((mark : Mark) (x : Settlement Asked) → P (Some mark) → Q (record_of reads utc mark x)) → AllByRecursion P ms → AllByRecursion Q rs → AllByRecursion Q (rs ++ records_of reads utc ms ss)
all_settled P Q reads utc ms rs ss one marks records =
    all_append Q rs (records_of reads utc ms ss) records (all_records reads utc Q ms ss (λ n mark x at got. one mark x (all_at P ms n (Some mark) marks at)))

-- if the requests that were settled, and those still outstanding after them, are the ones that were outstanding, each of which
-- has a mark, no more are settled than have marks
few_settled : (ms : List (Option Mark)) (c d : ById Asked) (ss : List (Settlement Asked)) → length ms ≡ length c.waiting
    → map of_settled ss ++ map of_pending d.waiting ≡ map of_pending c.waiting → length ss ≤ length ms
few_settled ms c d ss paired parts =
    let ended : length (map of_settled ss) ≡ length ss = length-map ss of_settled in
    let count : length (map of_settled ss) + length (map of_pending d.waiting) ≡ length c.waiting =
    sym (length-append (map of_settled ss) (map of_pending d.waiting)) ∙ ap length parts ∙ length-map c.waiting of_pending in
    omega (arith, ended, count, paired)

-- the part of a restart of the client
abbrev pub restarting : Part
restarting = only_steps (Restart ∷ [])

-- what a send of this call to this target gives, if the client doesn't refuse it: the id, and the client after the send
abbrev pub sending_of : ById Asked → ℕ → Asked → ℕ → Sending (ById Asked)
sending_of c target call deadline = record { id = c.next; client = client_sent c (send_unless_full c target call deadline false) }

-- a send isn't refused if the window has room
pub sends_with_room : (c : ById Asked) (target : ℕ) (call : Asked) (deadline : ℕ) → length c.waiting < WINDOW → sends WINDOW c target call deadline ≡ Some (sending_of c target call deadline)
sends_with_room c target call deadline room = ap (λ b. send_unless_full c target call deadline b) (ne_eqb (length c.waiting) WINDOW (λ e. omega (arith, e, room)))

-- What is recorded.

-- each reply says of its call what `reads` gives
module _ (reads : Reads) (commands : List Task) where
  -- a station with the marks `ms` and the records `rs` sends the requests `asks`, with the marks `more`, and the settlements `ss`
  -- come: then it has the marks `ms'` and the records `rs'`, which are compared without their moments
  pub record Wrote (ms : List (Option Mark)) (rs : List Record) (more : List (Option Mark))
      (ss : List (Settlement Asked)) (asks : List (Wanted Asked)) (ms' : List (Option Mark)) (rs' : List Record) : Type 0 where
    pub marks : ms' ≡ drop (length ss) (ms ++ more)
    pub count : length ss ≤ length (ms ++ more)
    pub records : map timeless rs' ≡ map timeless rs ++ records_of reads 0 (ms ++ more) ss
    pub sent : MarksAsk commands more asks

  -- where `Wrote` holds of settlements, and of others after them, it holds of all
  wrote_both : (ms ms1 ms2 more1 more2 : List (Option Mark)) (rs rs1 rs2 : List Record) (ss1 ss2 : List (Settlement Asked))
      (asks1 asks2 : List (Wanted Asked))
      → Wrote ms rs more1 ss1 asks1 ms1 rs1 → Wrote ms1 rs1 more2 ss2 asks2 ms2 rs2
      → Wrote ms rs (more1 ++ more2) (ss1 ++ ss2) (asks1 ++ asks2) ms2 rs2
  wrote_both ms ms1 ms2 more1 more2 rs rs1 rs2 ss1 ss2 asks1 asks2 h g =
      let all = ms ++ (more1 ++ more2) in
      let whole : (ms ++ more1) ++ more2 ≡ all = append_assoc ms more1 more2 in
      let left : ms1 ++ more2 ≡ drop (length ss1) all = ap (λ xs. xs ++ more2) h.marks ∙ sym (drop-append-le (length ss1) (ms ++ more1) more2 h.count) ∙ ap (drop (length ss1)) whole in
      let many : length (ss1 ++ ss2) ≡ length ss1 + length ss2 = length-append ss1 ss2 in
      let first : length ms1 ≡ length (drop (length ss1) (ms ++ more1)) = ap length h.marks in
      let dropped : length (ms ++ more1) ≡ length ss1 + length (drop (length ss1) (ms ++ more1)) = let d = length-drop (length ss1) (ms ++ more1) in omega (arith, d, h.count) in
      let lens1 : length (ms1 ++ more2) ≡ length ms1 + length more2 = length-append ms1 more2 in
      let lens2 : length all ≡ length (ms ++ more1) + length more2 = sym (ap length whole) ∙ length-append (ms ++ more1) more2 in
      record {
        marks = g.marks ∙ ap (drop (length ss2)) left ∙ drop_twice ss1 ss2 all;
        count = omega (arith, many, first, dropped, lens1, lens2, g.count);
        records =
            g.records ∙ ap (λ l. l ++ records_of reads 0 (ms1 ++ more2) ss2) h.records
            ∙ append_assoc (map timeless rs) (records_of reads 0 (ms ++ more1) ss1) (records_of reads 0 (ms1 ++ more2) ss2)
            ∙ ap (λ l. map timeless rs ++ (records_of reads 0 (ms ++ more1) ss1 ++ records_of reads 0 l ss2)) left
            ∙ ap (λ l. map timeless rs ++ (l ++ records_of reads 0 (drop (length ss1) all) ss2)) (sym (records_more reads (ms ++ more1) more2 ss1 h.count) ∙ ap (λ l. records_of reads 0 l ss1) whole)
            ∙ ap (λ l. map timeless rs ++ l) (sym (records-append reads 0 all ss1 ss2));
        sent = marks_ask_append commands more1 more2 asks1 asks2 h.sent g.sent;
      }

  -- the steps of part `p` take client `c`, with its marks and records, to client `c'` with the last marks and records
  pub record Books (c : ById Asked) (ms : List (Option Mark)) (rs : List Record) (p : Part) (c' : ById Asked)
      (ms' : List (Option Mark)) (rs' : List Record) : Type 0 where
    pub client : client_after c p.steps ≡ c'
    pub wrote : Wrote ms rs p.marks (settled_by c p.steps) (sent_by c p.steps) ms' rs'

  -- where part p takes a client to c1, and part q takes c1 to c2 (`Books`), p joined with q takes it to c2
  pub books_both : (c c1 c2 : ById Asked) (ms ms1 ms2 : List (Option Mark)) (rs rs1 rs2 : List Record) (p q : Part)
      → Books c ms rs p c1 ms1 rs1 → Books c1 ms1 rs1 q c2 ms2 rs2 → Books c ms rs (parts_joined p q) c2 ms2 rs2
  books_both c c1 c2 ms ms1 ms2 rs rs1 rs2 p q h g =
      let at = client_after c p.steps in
      let g' : Wrote ms1 rs1 q.marks (settled_by at q.steps) (sent_by at q.steps) ms2 rs2 =
      subst (λ (d : ById Asked). Wrote ms1 rs1 q.marks (settled_by d q.steps) (sent_by d q.steps) ms2 rs2) (sym h.client) g.wrote in
      record {
        client = client_append c p.steps q.steps ∙ ap (λ d. client_after d q.steps) h.client ∙ g.client;
        wrote =
            subst (λ ss. Wrote ms rs (p.marks ++ q.marks) ss (sent_by c (p.steps ++ q.steps)) ms2 rs2) (sym (settled_append c p.steps q.steps))
            (subst (λ (asks : List (Wanted Asked)). Wrote ms rs (p.marks ++ q.marks) (settled_by c p.steps ++ settled_by at q.steps) asks ms2 rs2) (sym (sent_append c p.steps q.steps))
            (wrote_both ms ms1 ms2 p.marks q.marks rs rs1 rs2 (settled_by c p.steps) (settled_by at q.steps) (sent_by c p.steps) (sent_by at q.steps) h.wrote g'));
      }

  -- Single steps.

  -- if nothing is settled and nothing sent, the marks and the records stay
  wrote_none : (ms : List (Option Mark)) (rs : List Record) → Wrote ms rs [] [] [] ms rs
  wrote_none ms rs = record {
    marks = sym (append-nil ms);
    count = omega arith;
    records = sym (append-nil (map timeless rs)) ∙ ap (λ l. map timeless rs ++ l) (sym (records-none reads 0 (ms ++ [])));
    sent = tt;
  }

  -- a part in which nothing happens leaves the client, the marks and the records
  pub books_nothing : (c : ById Asked) (ms : List (Option Mark)) (rs : List Record) → Books c ms rs idle_part c ms rs
  books_nothing c ms rs = record { client = refl; wrote = wrote_none ms rs }

  -- steps of a synchronization leave the client, the marks and the records
  pub books_sync_steps : (c : ById Asked) (ms : List (Option Mark)) (rs : List Record) (sync_steps : List SyncStep)
      → Books c ms rs (only_sync_steps sync_steps) c ms rs
  books_sync_steps c ms rs sync_steps = record { client = refl; wrote = wrote_none ms rs }

  -- a moment, at which requests may time out, leaves the marks and the records
  pub books_moment : (c : ById Asked) (ms : List (Option Mark)) (rs : List Record) (now : ℕ)
      → Books c ms rs (only_steps (Expire now ∷ [])) (expires c now) ms rs
  books_moment c ms rs now = record { client = refl; wrote = wrote_none ms rs }

  -- `Wrote` holds of settlements of the oldest requests (`ss`, and `ts` is the same list), of which there are no more than marks:
  -- as many of the first marks are taken out, and the records of the settlements are added
  wrote_settled : (ms : List (Option Mark)) (rs : List Record) (utc : ℕ) (ss ts : List (Settlement Asked))
      → ts ≡ ss → length ss ≤ length ms → Wrote ms rs [] ts [] (drop (length ss) ms) (rs ++ records_of reads utc ms ss)
  wrote_settled ms rs utc ss ts same few =
      let whole : ms ++ [] ≡ ms = append-nil ms in
      subst (λ xs. Wrote ms rs [] xs [] (drop (length ss) ms) (rs ++ records_of reads utc ms ss)) (sym same) (record {
        marks = ap (drop (length ss)) (sym whole);
        count = subst (λ (xs : List (Option Mark)). length ss ≤ length xs) (sym whole) few;
        records = map-append timeless rs (records_of reads utc ms ss) ∙ ap (λ l. map timeless rs ++ l) (records_timeless reads utc ms ss ∙ ap (λ xs. records_of reads 0 xs ss) (sym whole));
        sent = tt;
      })

  -- a line that the client hears, where each outstanding request has a mark: its settlements take out their marks, and add their
  -- records
  pub books_line : (c : ById Asked) (ms : List (Option Mark)) (rs : List Record) (utc : ℕ) (line : List ℕ) → length ms ≡ length c.waiting
      → (let x = hears c line (heard line) in Books c ms rs (only_steps (Hear line ∷ [])) x.client (drop (length x.settlements) ms) (rs ++ records_of reads utc ms x.settlements))
  books_line c ms rs utc line paired =
      let x = hears c line (heard line) in
      record {
        client = refl;
        wrote = wrote_settled ms rs utc x.settlements (x.settlements ++ []) (append-nil x.settlements)
            (few_settled ms c x.client x.settlements paired (heard_parts c line (heard line)));
      }

  -- a restart, where each outstanding request has a mark: all outstanding requests are lost, which removes their marks and adds
  -- their records
  pub books_restart : (c : ById Asked) (ms : List (Option Mark)) (rs : List Record) (utc : ℕ) → length ms ≡ length c.waiting
      → Books c ms rs restarting fresh (drop (length (map lost c.waiting)) ms) (rs ++ records_of reads utc ms (map lost c.waiting))
  books_restart c ms rs utc paired =
      let ss = map lost c.waiting in
      record { client = refl; wrote = wrote_settled ms rs utc ss (ss ++ []) (append-nil ss) (few_settled ms c fresh ss paired (append-nil (map of_settled ss) ∙ lost_parts c.waiting)) }

  -- a send to `target` of `call` with the outcome `o` (the last argument; `None` if the client refuses it) takes the client c to
  -- `client_sent c o`, and adds its mark to the marks `ms`; the records `rs` stay
  abbrev pub IsSendBooked : ById Asked → List (Option Mark) → List Record → ℕ → Asked → Option Mark → Option (Sending (ById Asked)) → Type 0
  IsSendBooked c ms rs target call mark o =
      ((sent_on (course_at c) target call o).client ≡ client_sent c o)
      × Wrote ms rs (mark ∷ []) ((sent_on (course_at c) target call o).settlements ++ []) ((sent_on (course_at c) target call o).sent ++ []) (ms ++ mark ∷ []) rs

  -- `IsSendBooked` holds of a send that isn't refused, if it asks for what its mark says
  some_send_booked : (c : ById Asked) (ms : List (Option Mark)) (rs : List Record) (target : ℕ) (call : Asked)
      (mark : Option Mark) (x : Sending (ById Asked)) → MarkAsks commands mark (record { target = target; call = call })
      → IsSendBooked c ms rs target call mark (Some x)
  some_send_booked c ms rs target call mark x is = (
    refl,
    record {
      marks = refl;
      count = omega arith;
      records = sym (append-nil (map timeless rs)) ∙ ap (λ l. map timeless rs ++ l) (sym (records-none reads 0 (ms ++ mark ∷ [])));
      sent = (is, tt);
    },
  )

  -- a send of what its mark says, if there is room: the mark is added, and the records stay
  pub books_send : (c : ById Asked) (ms : List (Option Mark)) (rs : List Record) (now : ℕ) (x : Outgoing) → length c.waiting < WINDOW → MarkAsks commands x.mark (of_command x.command)
      → Books c ms rs (request_part now x) (sent_to WINDOW c x.command now x.wait) (ms ++ x.mark ∷ []) rs
  books_send c ms rs now x room is =
      let target = x.command.target in
      let call = x.command.call in
      let deadline = later now x.wait in
      let h : IsSendBooked c ms rs target call x.mark (sends WINDOW c target call deadline) =
      subst (IsSendBooked c ms rs target call x.mark) (sym (sends_with_room c target call deadline room))
      (some_send_booked c ms rs target call x.mark (sending_of c target call deadline) is) in
      record { client = h.0; wrote = h.1 }
