-- What a line settles, and which requests it leaves waiting. P is what is known of an outstanding request, by its number (how
-- many acts came before the one that put it), its place among those that are outstanding, the request itself and its mark. An
-- act is one call on the link, with its result. `EndedBy` says how a request that a line settles has ended, and by which id.
use Rattle.gc_station.proofs.Common.{◌≡◌, ℕ, zero, suc, ◌+◌, ◌-◌, ◌<◌, ◌≤◌, Bool, true, false, List, [], ◌∷◌, length, drop, Option, Some, None, if◌then◌else◌, nat_lt, refl, sym, ap, ◌∙◌, subst, arith, AllByRecursion, slice_get, ltb-true, length-drop, Reading, Asked, IDS, Pending, id_at_place, IsWithinLimits, id_of, ById, Settlement, Settled, Late, Lost, place_in, settled_by_line, settle, hears, settles_at, settling_keeps_ids, length-settle, Wish, Task, End, line_of, as_zero, Expected, met_lost, Mark, Plan, Act, answer_as, end_of, command_of, record_of, records_of, Record, state_after, Puts, IsOwnRequest, next_request_text, Scope, Reads}
use Rattle.gc_client.specs.Prelude.{Outcome, Answered}
use Rattle.gc_station.proofs.Lists.{AllAt, AllRisingAt, RisingAt, rising_shifted, rising_drop, rising_at}
use Rattle.gc_station.proofs.Records.{answer_along}
use Rattle.gc_station.proofs.Waiting.{AsksThen, WasAsked, TimedOutAsReadBy, StillWaitsAt, asked_with_equal_id}
use Rattle.gc_client.specs.Ids
use Rattle.gc_texts.specs.Endings as ends

-- an id was heard, and this is the place (`place_in`) of the outstanding request that has it, if one has
pub record HasPlace (c : ById Asked) (o : Option ℕ) (at : ℕ) : Type 0 where
  pub id : ℕ
  pub has : o ≡ Some id
  pub is : at ≡ place_in c id

-- after the request with this number and at this place, another one is outstanding, whose id was heard
pub record Overtakes (P : ℕ → ℕ → Pending Asked → Option Mark → Type 0) (c : ById Asked) (o : Option ℕ) (number at : ℕ) : Type 0 where
  pub place : ℕ
  pub above : at < place
  pub found : RisingAt P (suc number) place
  pub heard : HasPlace c o place

-- this settlement is of the outstanding request at the place `at`, with this mark. If it is an answer, it is this line, and the
-- request hasn't timed out; if it is late, the request has timed out; in both cases the id that was heard is the request's. If
-- it is lost, that id is of a request after it
pub record EndedBy (P : ℕ → ℕ → Pending Asked → Option Mark → Type 0) (c : ById Asked) (o : Option ℕ) (line : List ℕ) (at : ℕ) (x : Settlement Asked) (mark : Option Mark) : Type 0 where
  pub number : ℕ
  pub pending : Pending Asked
  pub holds : P number at pending mark
  pub asks : pending.call ≡ x.call
  pub answered : (l : List ℕ) → x.outcome ≡ Answered l → (l ≡ line) × (pending.given_up ≡ false) × HasPlace c o at
  pub late : x.outcome ≡ Late → (pending.given_up ≡ true) × HasPlace c o at
  pub lost : x.outcome ≡ Lost → Overtakes P c o number at

-- how a request settles whose own reply, `line`, comes: late if it has timed out (`given_up`), and else answered
abbrev pub met_outcome : (given_up : Bool) (line : List ℕ) → Outcome
met_outcome given_up line = if given_up then Late else Answered line

-- if a request whose own reply comes settles as answered by l, l is that reply's line, and the request hasn't timed out
met_answered : (given_up : Bool) (line l : List ℕ) → met_outcome given_up line ≡ Answered l → (l ≡ line) × (given_up ≡ false)
met_answered true line l e = cc
met_answered false line l e = let same : l ≡ line = cc in (same, refl)

-- if a request whose own reply comes settles as late, it has timed out
met_late : (given_up : Bool) (line : List ℕ) → met_outcome given_up line ≡ Late → given_up ≡ true
met_late true line e = refl
met_late false line e = cc

-- where P holds of the request at the place `at`, whose id was heard, `EndedBy` holds of its settlement by the line
met_ended : (P : ℕ → ℕ → Pending Asked → Option Mark → Type 0) (c : ById Asked) (o : Option ℕ) (line : List ℕ) (number at : ℕ) (p : Pending Asked) (mark : Option Mark)
    → HasPlace c o at → P number at p mark → EndedBy P c o line at (settled_by_line p line) mark
met_ended P c o line number at p mark place holds = record {
  number = number;
  pending = p;
  holds = holds;
  asks = refl;
  answered = λ l e. let it = met_answered p.given_up line l e in (it.0, it.1, place);
  late = λ e. (met_late p.given_up line e, place);
  lost = λ e. absurd (met_lost p.given_up line e);
}

-- the request at the place `there`, whose id was heard, is k places behind the first of `ps`, which is at the place `at`. Where P
-- holds of `ps` with their marks, `EndedBy` holds of each of their settlements up to that request's
settle_ended : (P : ℕ → ℕ → Pending Asked → Option Mark → Type 0) (c : ById Asked) (o : Option ℕ) (line : List ℕ) (there low k at : ℕ) (ps : List (Pending Asked))
    (marks : List (Option Mark)) → HasPlace c o there → there ≡ k + at → k < length ps
    → AllRisingAt P low at ps marks → AllAt (EndedBy P c o line) at (settle k line ps) marks
settle_ended P c o line there low k at [] marks has is below all = absurd (omega (arith, below))
settle_ended P c o line there low k at (p ∷ ps) [] has is below all = absurd all
settle_ended P c o line there low zero at (p ∷ ps) (mark ∷ marks) has is below all =
    let here : there ≡ at = omega (arith, is) in (met_ended P c o line all.0 at p mark (subst (λ (i : ℕ). HasPlace c o i) here has) all.2, tt)
settle_ended P c o line there low (suc k) at (p ∷ ps) (mark ∷ marks) has is below all =
    let next : there ≡ k + suc at = omega (arith, is) in
    let seen : there ≡ suc at + k = omega (arith, is) in
    let fewer : k < length ps = omega (arith, below) in
    let above : at < there = omega (arith, is) in (
      record {
        number = all.0;
        pending = p;
        holds = all.2;
        asks = refl;
        answered = λ l e. cc;
        late = λ e. cc;
        lost = λ e. record { place = there; above = above; found = rising_at P (suc all.0) (suc at) k there ps marks seen fewer all.3; heard = has };
      },
      settle_ended P c o line there (suc all.0) k (suc at) ps marks has next fewer all.3,
    )

-- where P holds of each outstanding request, with its mark, `EndedBy` holds of each settlement by the line, in which the id `o`
-- was heard, if one was
pub heard_ended : (P : ℕ → ℕ → Pending Asked → Option Mark → Type 0) (c : ById Asked) (marks : List (Option Mark)) (line : List ℕ) (o : Option ℕ)
    → AllRisingAt P 0 0 c.waiting marks → AllAt (EndedBy P c o line) 0 (hears c line o).settlements marks
heard_ended P c marks line None all = tt
heard_ended P c marks line (Some id) all = by_test (place_in c id) refl (nat_lt (place_in c id) (length c.waiting)) refl where
  -- the lemma above, by whether a request with this id waits (`true`)
  by_test : (k : ℕ) → k ≡ place_in c id → (b : Bool) → nat_lt (place_in c id) (length c.waiting) ≡ b → AllAt (EndedBy P c (Some id) line) 0 (settles_at c line k b).settlements marks
  by_test k is true fits =
      let at : k ≡ k + 0 = omega arith in
      let there = ltb-true (place_in c id) (length c.waiting) fits in
      let below : k < length c.waiting = omega (arith, is, there) in
      settle_ended P c (Some id) line k 0 k 0 c.waiting marks (record { id = id; has = refl; is = is }) at below all
  by_test k is false fits = tt

-- `x` is what a line settled: `count` of the requests that waited, the oldest; the others wait on, and the client's next id stays
pub record SettlesOldest (c : ById Asked) (x : Settled Asked (ById Asked)) : Type 0 where
  pub count : ℕ
  pub enough : count ≤ length c.waiting
  pub next : x.client.next ≡ c.next
  pub waiting : x.client.waiting ≡ drop count c.waiting
  pub settled : length x.settlements ≡ count

-- `SettlesOldest` holds after any line
pub hears_settles_oldest : (c : ById Asked) (line : List ℕ) (o : Option ℕ) → SettlesOldest c (hears c line o)
hears_settles_oldest c line None = record { count = 0; enough = omega arith; next = refl; waiting = refl; settled = refl }
hears_settles_oldest c line (Some id) = by_test (place_in c id) (nat_lt (place_in c id) (length c.waiting)) refl where
  -- the lemma above, by whether the id is of an outstanding request (`true`)
  by_test : (k : ℕ) (b : Bool) → nat_lt k (length c.waiting) ≡ b → SettlesOldest c (settles_at c line k b)
  by_test k true fits = let low = ltb-true k (length c.waiting) fits in record { count = k + 1; enough = omega (arith, low); next = refl; waiting = refl; settled = length-settle k line c.waiting low }
  by_test k false fits = record { count = 0; enough = omega arith; next = refl; waiting = refl; settled = refl }

-- where `SettlesOldest` holds, as many requests wait after the line as waited before it, less the `count` that it settled
pub left_count : (c : ById Asked) (x : Settled Asked (ById Asked)) (l : SettlesOldest c x) → length x.client.waiting ≡ length c.waiting - l.count
left_count c x l = ap length l.waiting ∙ length-drop l.count c.waiting

-- a line after which `SettlesOldest` holds preserves `IsWithinLimits`
pub left_within_limits : (c : ById Asked) (x : Settled Asked (ById Asked)) → SettlesOldest c x → IsWithinLimits c → IsWithinLimits x.client
left_within_limits c x l w = let many = left_count c x l in record { digit = subst (λ (n : ℕ). n < IDS) (sym l.next) w.digit; few = omega (arith, many, w.few) }

-- the requests that a line leaves waiting are as they were (`StillWaitsAt`), with the same numbers, at places that are lower by
-- as many requests as the line settled
pub left_still_wait : (plan : Plan) (commands : List Task) (scope : Scope) (acts : List Act) (first : ById Asked) (now : ℕ) (c : ById Asked) (x : Settled Asked (ById Asked))
    (marks : List (Option Mark)) → SettlesOldest c x → IsWithinLimits c
    → AllRisingAt (StillWaitsAt plan commands scope acts first now c.next (length c.waiting)) 0 0 c.waiting marks
    → AllRisingAt (StillWaitsAt plan commands scope acts first now x.client.next (length x.client.waiting)) 0 0 x.client.waiting (drop (length x.settlements) marks)
left_still_wait plan commands scope acts first now c x marks l w all =
    let n = l.count in
    let d = x.client in
    let W = StillWaitsAt plan commands scope acts first now c.next (length c.waiting) in
    let dropped = rising_drop W n 0 0 c.waiting marks all in
    let there = subst (λ (ps : List (Pending Asked)). AllRisingAt W 0 (n + 0) ps (drop n marks)) (sym l.waiting) dropped in
    let marked = subst (λ (k : ℕ). AllRisingAt W 0 (n + 0) d.waiting (drop k marks)) (sym l.settled) there in
    rising_shifted W (StillWaitsAt plan commands scope acts first now d.next (length d.waiting)) n 0 0 d.waiting (drop (length x.settlements) marks)
    (λ number j p mark low wait.
    let many = left_count c x l in
    let enough = l.enough in
    let below : n + j < length c.waiting = omega (arith, low, many) in
    let ids : id_of d j ≡ id_of c (n + j) =
    ap (λ (y : ℕ). id_at_place y (length d.waiting) j) l.next ∙ ap (λ (y : ℕ). id_at_place c.next y j) many ∙ settling_keeps_ids c.next (length c.waiting) w.few n j below in (
      asked_with_equal_id plan commands scope acts (TimedOutAsReadBy now) number (n + j) j _ _ p mark (λ above. omega (arith, above)) ids wait.0,
      subst (λ (i : ℕ). Ids.Waits first i) (sym ids) wait.1,
    )) marked

-- a record is of this settlement, of the request with this mark: it has the cycle, the place, the moment and the id of the mark, and the
-- settlement's command and ending, by some function that reads replies
pub record IsRecordOf (r : Record) (mark : Mark) (x : Settlement Asked) : Type 0 where
  pub cycle : r.cycle ≡ mark.cycle
  pub place : r.place ≡ mark.place
  pub sent : r.sent ≡ Some mark.sent
  pub id : r.id ≡ mark.id
  pub command : r.command ≡ command_of x
  pub reads : Reads
  pub ended : r.end ≡ end_of reads mark.expected x.call x.outcome

-- the record that `record_of` gives is of its settlement and mark
pub is_record_of : (reads : Reads) (utc : ℕ) (mark : Mark) (x : Settlement Asked) → IsRecordOf (record_of reads utc mark x) mark x
is_record_of reads utc mark x = record { cycle = refl; place = refl; sent = refl; id = refl; command = refl; reads = reads; ended = refl }

-- a record of a settlement has a moment of sending
pub some_sent : (r : Record) (mark : Mark) (x : Settlement Asked) → IsRecordOf r mark x → r.sent ≡ None → r.id ≡ 0
some_sent r mark x is none = let never : Some mark.sent ≡ None = sym is.sent ∙ none in cc

-- if a record is of the settlement of a request that was put among these acts (`WasAsked`), the act that put it writes the
-- record's own request
pub own_request : (plan : Plan) (commands : List Task) (scope : Scope) (acts : List Act) (S : Bool → ℕ → List Act → Type 0) (number at id : ℕ) (p : Pending Asked) (mark : Mark)
    (r : Record) (x : Settlement Asked) → IsRecordOf r mark x → p.call ≡ x.call → (s : WasAsked plan commands scope acts S number at id p (Some mark))
    → IsOwnRequest plan commands (state_after plan commands scope s.before) s.request r
own_request plan commands scope acts S number at id p mark r x of_it asks s =
    let its = s.its mark refl in
    record {
      sends = its.sends;
      cycle = of_it.cycle ∙ its.cycle;
      place = of_it.place ∙ its.place;
      sent = of_it.sent ∙ ap Some its.sent;
      id = of_it.id ∙ its.id;
      put = subst (λ (y : Asked). Puts (next_request_text (state_after plan commands scope s.before).client y) s.request)
          (asks ∙ sym (ap (λ (y : Wish). y.call) of_it.command)) s.put;
    }

-- and its call is what its command asks for if it is sent then
pub made_then : (plan : Plan) (commands : List Task) (scope : Scope) (acts : List Act) (S : Bool → ℕ → List Act → Type 0) (number at id : ℕ) (p : Pending Asked) (mark : Mark)
    (r : Record) (x : Settlement Asked) → IsRecordOf r mark x → p.call ≡ x.call → (s : WasAsked plan commands scope acts S number at id p (Some mark))
    → AsksThen plan commands scope s.before r.place r.command.call
made_then plan commands scope acts S number at id p mark r x of_it asks s =
    let made = s.made mark refl in
    (made.0, ap (slice_get commands) of_it.place ∙ made.1, ap (λ (y : Wish). y.call) of_it.command ∙ sym asks ∙ made.2)

-- the ending by a reply in time has the reply's line, whatever it says
pub answer_line : (expected : Expected) (x y : Reading) (line : List ℕ) → line_of (answer_as expected x y line) ≡ Some line
answer_line expected x y line = answer_along (λ (end : End). line_of end ≡ Some line) expected x y line (λ quality answer. refl) (λ judgement. refl) (λ fault. refl)

-- an ending without a line isn't that by a reply in time
unanswered : (expected : Expected) (x y : Reading) (line : List ℕ) (end : End) → line_of end ≡ None → answer_as expected x y line ≡ end → ⊥
unanswered expected x y line end none e = let bad : Some line ≡ None = sym (answer_line expected x y line) ∙ ap line_of e ∙ none in cc

-- if the ending of a command by `o` has the line l, `o` is an answer by l
pub settled_answered : (reads : Reads) (expected : Expected) (call : Asked) (o : Outcome) (l : List ℕ) → line_of (end_of reads expected call o) ≡ Some l → o ≡ Answered l
settled_answered reads expected call (Answered line) l e = let same : Some line ≡ Some l = sym (answer_line expected (reads expected.form call line) (reads expected.form call (as_zero line)) line) ∙ e in cc
settled_answered reads expected call Late l e = cc
settled_answered reads expected call Lost l e = cc

-- a command that ended as late was settled as late
settled_late : (reads : Reads) (expected : Expected) (call : Asked) (o : Outcome) → end_of reads expected call o ≡ ends.Late → o ≡ Late
settled_late reads expected call (Answered line) e = absurd (unanswered expected (reads expected.form call line) (reads expected.form call (as_zero line)) line ends.Late refl e)
settled_late reads expected call Late e = refl
settled_late reads expected call Lost e = cc

-- a command that ended as lost was settled as lost
settled_lost : (reads : Reads) (expected : Expected) (call : Asked) (o : Outcome) → end_of reads expected call o ≡ ends.Lost → o ≡ Lost
settled_lost reads expected call (Answered line) e = absurd (unanswered expected (reads expected.form call line) (reads expected.form call (as_zero line)) line ends.Lost refl e)
settled_lost reads expected call Late e = cc
settled_lost reads expected call Lost e = refl

-- if the ending of a record has a line, its settlement is an answer by that line
pub was_answered : (r : Record) (mark : Mark) (x : Settlement Asked) → IsRecordOf r mark x → (l : List ℕ) → line_of r.end ≡ Some l → x.outcome ≡ Answered l
was_answered r mark x is l e = settled_answered is.reads mark.expected x.call x.outcome l (ap line_of (sym is.ended) ∙ e)

-- the settlement of a late record is late
pub was_late : (r : Record) (mark : Mark) (x : Settlement Asked) → IsRecordOf r mark x → r.end ≡ ends.Late → x.outcome ≡ Late
was_late r mark x is e = settled_late is.reads mark.expected x.call x.outcome (sym is.ended ∙ e)

-- the settlement of a lost record is lost
pub was_lost : (r : Record) (mark : Mark) (x : Settlement Asked) → IsRecordOf r mark x → r.end ≡ ends.Lost → x.outcome ≡ Lost
was_lost r mark x is e = settled_lost is.reads mark.expected x.call x.outcome (sym is.ended ∙ e)

-- where Q of a settlement, at whatever place, and of its mark, if it has one, gives R of its record, and Q holds of these
-- settlements and marks, one for one, with places from j on, R holds of all their records
pub all_records_at : (Q : ℕ → Settlement Asked → Option Mark → Type 0) (R : Record → Type 0) (reads : Reads) (utc j : ℕ) (xs : List (Settlement Asked)) (marks : List (Option Mark))
    → ((i : ℕ) (x : Settlement Asked) (m : Mark) → Q i x (Some m) → R (record_of reads utc m x)) → AllAt Q j xs marks → AllByRecursion R (records_of reads utc marks xs)
all_records_at Q R reads utc j xs [] step all = tt
all_records_at Q R reads utc j [] (mark ∷ marks) step all = tt
all_records_at Q R reads utc j (x ∷ xs) (None ∷ marks) step all = all_records_at Q R reads utc (suc j) xs marks step all.1
all_records_at Q R reads utc j (x ∷ xs) (Some m ∷ marks) step all = (step j x m all.0, all_records_at Q R reads utc (suc j) xs marks step all.1)
