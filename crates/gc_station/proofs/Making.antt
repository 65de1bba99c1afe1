-- What each call of a station makes: after it, the station is as its model (`Refines`) after one act more. An act is one call
-- on the link, with its result. `told` and `told'` are what the link had recorded before the call and has recorded after it,
-- `start`, `taken` and `taken'` what the book had taken at first, before the call and after it; `text` is how a record is
-- written.
use Rattle.gc_station.proofs.Common.{◌≡◌, ℕ, ◌+◌, ◌<◌, Bool, true, false, List, [], ◌∷◌, ◌++◌, length, nat_eq, Option, None, Result, Ok, Err, refl, sym, ap, ◌∙◌, subst, append-nil, arith, map, ne_eqb, length-append, StandsFor, Asked, WINDOW, ById, send_unless_full, Decimal, End, Expected, Task, Turn, Moment, client_sent, FirstAnswer, Mark, Plan, Read, Progress, Until, Station, Act, AddsActs, put_act, IsPartIfErr, later, count_noted, first_noted, firsts_after, is_well, ended_confirmed, last_well, occasion_of, record_with, unexpected_noted, failing, unsent_at, Record, Puts, ReadsLink, Model, sent_to, request_for, request_or_null, asks_for, asks_first, end_unsent, first_unsent_record, with_progress, with_listed, with_more_records, after_put, after_read, text_or_null, next_request_text, Refines, Took, cut_progress, as_seen, station_asking, MakesMove, Moves, KeepsToModel, AreReadings, listed_after, empty_counts, counted_in, tallied, noted, recorded_unsent, Recorded, Outgoing, renewed, Watch}
use Rattle.gc_station.proofs.Records.{tallied-append, last-append, firsts-append}
use Rattle.gc_station.proofs.Walk.{first_along, unsent_along}
use Rattle.gc_station.proofs.Freshness.{unwell_changes_none}
use Rattle.gc_station.specs.declared.cause.Cause.TheVariants as cause

-- if a station is as the model `s`, then with the progress `p`, which is `f` of its own, it is as `s` with its progress changed
-- by `f`
pub refines_with : (station : Station) (p : Progress) (f : Progress → Progress) (s : Model) → Refines station s → p ≡ f station.progress → Refines (record station { progress = p }) (with_progress f s)
refines_with station p f s stands is = record {
  progress = is ∙ ap f stands.progress;
  ids = stands.ids;
  width = stands.width;
  marks = stands.marks;
  paired = stands.paired;
  assembles = stands.assembles;
  tally = stands.tally;
  well = stands.well;
  listed = stands.listed;
  fresh = stands.fresh;
  reads = stands.reads;
  firsts = stands.firsts;
  counts = stands.counts;
}

-- Bytes are put.

-- the act of a write of `bytes` with the result `put`, which says that all of them were written or fewer (`IsPartIfErr`), puts
-- the bytes `want`, whole or in part (`Puts`), if `bytes` is equal to `want`
pub put_puts : (put : Result (Unit {0}) ℕ) (bytes want : List ℕ) → bytes ≡ want → IsPartIfErr put bytes → Puts want (put_act put bytes)
put_puts (Ok r) bytes want is part = is
put_puts (Err n) bytes want is part = (is, subst (λ (xs : List ℕ). n < length xs) is part)

-- if the station `mid` is as the model `f s`, then `mid` with its progress after a write with the result `put` (`cut_progress`)
-- is as `s` after that write, whole or cut, by which `f` changes it (`after_put`). `requests` and `wanted` are the same number
pub put_refines : (put : Result (Unit {0}) ℕ) (bytes : List ℕ) (requests wanted : ℕ) (f : Model → Model) (s : Model) (mid new : Station) → Refines mid (f s)
    → new ≡ record mid { progress = cut_progress put requests mid.progress } → requests ≡ wanted → Refines new (after_put wanted f s (put_act put bytes))
put_refines (Ok r) bytes requests wanted f s mid new stands is same = subst (λ (x : Station). Refines x (f s)) (sym is) stands
put_refines (Err n) bytes requests wanted f s mid new stands is same =
    let why = ap (λ (k : ℕ). failing (cause.Write k n) mid.progress) same in
    subst (λ (x : Station). Refines x (with_progress (failing (cause.Write wanted n)) (f s))) (sym is)
    (refines_with mid (cut_progress (Err n) requests mid.progress) (failing (cause.Write wanted n)) (f s) stands why)

-- a book that has the records of the model `f s` (`Took`) has those of `s` after a write, whole or cut, by which `f` changes it
-- (`after_put`)
pub put_took : (text : Record → List ℕ) (start taken : Option (List ℕ)) (put : Result (Unit {0}) ℕ) (bytes : List ℕ) (requests : ℕ) (f : Model → Model)
    (s : Model) → Took text start taken (f s) → Took text start taken (after_put requests f s (put_act put bytes))
put_took text start taken (Ok r) bytes requests f s so = so
put_took text start taken (Err n) bytes requests f s so = so

-- Requests are sent.

-- if the window isn't full (`full` is false), one request more waits after a send
sent_count : (c : ById Asked) (target : ℕ) (call : Asked) (deadline : ℕ) (full : Bool) → full ≡ false
    → length (client_sent c (send_unless_full c target call deadline full)).waiting ≡ length c.waiting + 1
sent_count c target call deadline true e = cc
sent_count c target call deadline false e = length-append c.waiting _

-- if the station `old` is as the model `s`, and there is room for a request, then `old` after it sent `asking`
-- (`station_asking`) is as `s` after it sent the same (`other`)
pub asks_refines : (old new : Station) (s : Model) (asking other : Outgoing) → Refines old s → length old.client.ids.waiting < WINDOW → asking ≡ other
    → new ≡ station_asking asking old → Refines new (asks_for other s)
asks_refines old new s asking other stands room e is =
    let elapsed = old.progress.moment.elapsed in
    let fewer : length s.client.waiting < WINDOW = subst (λ (c : ById Asked). length c.waiting < WINDOW) stands.ids room in
    let more = sent_count s.client other.command.target other.command.call (later s.progress.moment.elapsed other.wait) (nat_eq (length s.client.waiting) WINDOW)
    (ne_eqb (length s.client.waiting) WINDOW (λ same. omega (arith, same, fewer))) in
    let marks : length (s.marks ++ other.mark ∷ []) ≡ length s.marks + 1 = length-append s.marks (other.mark ∷ []) in
    record {
      progress = ap (λ (n : Station). n.progress) is ∙ stands.progress;
      ids = ap (λ (n : Station). n.client.ids) is
          ∙ ap (λ width. sent_to width old.client.ids asking.command elapsed asking.wait) stands.width
          ∙ ap (λ ids. sent_to WINDOW ids asking.command elapsed asking.wait) stands.ids
          ∙ ap (λ (x : Outgoing). sent_to WINDOW s.client x.command elapsed x.wait) e
          ∙ ap (λ (p : Progress). sent_to WINDOW s.client other.command p.moment.elapsed other.wait) stands.progress;
      width = ap (λ (n : Station). n.client.width) is ∙ stands.width;
      marks = ap (λ (n : Station). n.marks.items) is ∙ ap (λ ms. ms ++ asking.mark ∷ []) stands.marks ∙ ap (λ (x : Outgoing). s.marks ++ x.mark ∷ []) e;
      paired = marks ∙ ap (λ n. n + 1) stands.paired ∙ sym more;
      assembles = subst (λ (x : Station). StandsFor x.assembler s.rest) (sym is) stands.assembles;
      tally = λ are. ap (λ (n : Station). n.recorded.tally) is ∙ stands.tally are;
      well = λ are. ap (λ (n : Station). n.recorded.well) is ∙ stands.well are;
      listed = λ are. ap (λ (n : Station). n.recorded.listed) is ∙ stands.listed are;
      fresh = λ are. ap (λ (n : Station). n.recorded.fresh) is ∙ stands.fresh are;
      reads = stands.reads;
      firsts = ap (λ (n : Station). n.recorded.firsts) is ∙ stands.firsts;
      counts = λ are. ap (λ (n : Station). n.recorded.counts) is ∙ stands.counts are;
    }

-- a station that is as the model `s` after it sent `task` with `mark` is as `s` after it sent the first of the commands in `list`
-- with `mark'`, if `list` begins with `task` and the two marks are equal
pub first_refines : (new : Station) (s : Model) (mark mark' : Mark) (list : List Task) (task : Task) (others : List Task) → list ≡ task ∷ others → mark ≡ mark'
    → Refines new (asks_for (request_for mark task) s) → Refines new (asks_first mark' list s)
first_refines new s mark mark' list task others is e stands =
    subst (λ (ts : List Task). Refines new (asks_first mark' ts s)) (sym is) (subst (λ (m : Mark). Refines new (asks_for (request_for m task) s)) e stands)

-- a book that has the records of the model `s` (`Took`) has those of `s` after it sent the first of the commands in `list`, if
-- there is one: the send adds no record
pub first_took : (text : Record → List ℕ) (start taken : Option (List ℕ)) (s : Model) (mark : Mark) (list : List Task) → Took text start taken s → Took text start taken (asks_first mark list s)
first_took text start taken s mark list so = first_along (Took text start taken) mark list s (λ task. so) so

-- the bytes of the request that `request_or_null` gives are those that `text_or_null` gives
pub setup_text : (plan : Plan) (client : ById Asked) (mark : Mark) (list : List Task) → next_request_text client (request_or_null plan mark list).command.call ≡ text_or_null (occasion_of mark) client list
setup_text plan client mark [] = refl
setup_text plan client mark (task ∷ others) = refl

-- A command is skipped.

-- if `list` begins with `task`, and the two marks are equal, the record of `task` as missed, without a value or skipped (`end`), with the moment
-- of `unsent_at`, is the one record that the model adds (`first_unsent_record`)
pub skip_record_same : (p : Progress) (m : Moment) (mark mark' : Mark) (utc : ℕ) (end : End) (list : List Task) (task : Task) (others : List Task)
    → list ≡ task ∷ others → mark ≡ mark' → utc ≡ unsent_at m p → end ≡ end_unsent p
    → record_with utc mark None task.command end ∷ [] ≡ first_unsent_record p m mark' list
skip_record_same p m mark mark' utc end list task others is e at ends =
    ap (λ (u : ℕ). record_with u mark None task.command end ∷ []) at
    ∙ ap (λ (x : Mark). record_with (unsent_at m p) x None task.command end ∷ []) e
    ∙ ap (λ (x : End). record_with (unsent_at m p) mark' None task.command x ∷ []) ends
    ∙ sym (ap (first_unsent_record p m mark') is)

-- no ending of a command that isn't sent is that of one that was answered well
pub unwell_end : (p : Progress) → is_well (end_unsent p) ≡ false
unwell_end p = unsent_along (λ (end : End). is_well end ≡ false) refl refl refl p

-- nor that of one with a confirmed answer
pub unconfirmed_end : (p : Progress) → ended_confirmed (end_unsent p) ≡ false
unconfirmed_end p = unsent_along (λ (end : End). ended_confirmed end ≡ false) refl refl refl p

-- nor does it have an answer of a first sending
pub unsent_is_no_first : (cycle : ℕ) (turn : Turn) (p : Progress) (fs : List (Option FirstAnswer)) → first_noted cycle turn (end_unsent p) fs ≡ fs
unsent_is_no_first cycle turn p fs = unsent_along (λ (end : End). first_noted cycle turn end fs ≡ fs) refl refl refl p

-- nor a line with a number of a counter
unsent_counts_none : (expected : Expected) (p : Progress) (counts : List (Option Decimal)) → count_noted expected (end_unsent p) counts ≡ counts
unsent_counts_none expected p counts = unsent_along (λ (end : End). count_noted expected end counts ≡ counts) refl refl refl p

-- nor is it an unexpected one
unsent_as_expected : (p : Progress) (b : Bool) → unexpected_noted (end_unsent p) b ≡ b
unsent_as_expected p b = unsent_along (λ (end : End). unexpected_noted end b ≡ b) refl refl refl p

-- what is noted of the first command of `list`, which isn't sent, if the two marks are equal: its record is counted, and it
-- wasn't answered well
pub noted_unsent : (p : Progress) (m : Moment) (mark mark' : Mark) (end : End) (list : List Task) (task : Task) (others : List Task) (r : Recorded)
    → list ≡ task ∷ others → mark ≡ mark' → end ≡ end_unsent p
    → noted mark m None end r
    ≡ recorded_unsent (first_unsent_record p m mark' list) (listed_after r.listed mark'.expected None (end_unsent p)) r
noted_unsent p m mark mark' end list task others r is e ends =
    ap (λ (x : Mark). noted x m None end r) e
    ∙ ap (λ (x : End). noted mark' m None x r) ends
    ∙ ap (λ (b : Bool). record {
      tally = counted_in mark'.cycle mark'.expected.turn (end_unsent p) r.tally;
      well = b;
      listed = listed_after r.listed mark'.expected None (end_unsent p);
      fresh = map (renewed m.elapsed m.utc mark'.cycle mark'.expected.turn.place (end_unsent p)) r.fresh;
      firsts = first_noted mark'.cycle mark'.expected.turn (end_unsent p) r.firsts;
      counts = count_noted mark'.expected (end_unsent p) r.counts;
      unexpected = unexpected_noted (end_unsent p) r.unexpected;
      busy = r.busy;
    }) (unwell_end p)
    ∙ ap (λ (ws : List Watch). record {
      tally = counted_in mark'.cycle mark'.expected.turn (end_unsent p) r.tally;
      well = false;
      listed = listed_after r.listed mark'.expected None (end_unsent p);
      fresh = ws;
      firsts = first_noted mark'.cycle mark'.expected.turn (end_unsent p) r.firsts;
      counts = count_noted mark'.expected (end_unsent p) r.counts;
      unexpected = unexpected_noted (end_unsent p) r.unexpected;
      busy = r.busy;
    }) (unwell_changes_none m.elapsed m.utc mark'.cycle mark'.expected.turn.place (end_unsent p) r.fresh (unconfirmed_end p))
    ∙ ap (λ (fs : List (Option FirstAnswer)). record {
      tally = counted_in mark'.cycle mark'.expected.turn (end_unsent p) r.tally;
      well = false;
      listed = listed_after r.listed mark'.expected None (end_unsent p);
      fresh = r.fresh;
      firsts = fs;
      counts = count_noted mark'.expected (end_unsent p) r.counts;
      unexpected = unexpected_noted (end_unsent p) r.unexpected;
      busy = r.busy;
    }) (unsent_is_no_first mark'.cycle mark'.expected.turn p r.firsts)
    ∙ ap (λ (cs : List (Option Decimal)). record r {
      tally = counted_in mark'.cycle mark'.expected.turn (end_unsent p) r.tally;
      well = false;
      listed = listed_after r.listed mark'.expected None (end_unsent p);
      counts = cs;
      unexpected = unexpected_noted (end_unsent p) r.unexpected;
    }) (unsent_counts_none mark'.expected p r.counts)
    ∙ ap (λ (b : Bool). record r {
      tally = counted_in mark'.cycle mark'.expected.turn (end_unsent p) r.tally;
      well = false;
      listed = listed_after r.listed mark'.expected None (end_unsent p);
      unexpected = b;
    }) (unsent_as_expected p r.unexpected)
    ∙ sym (ap (λ (left : List Task). recorded_unsent (first_unsent_record p m mark' left) (listed_after r.listed mark'.expected None (end_unsent p)) r) is)

-- after the record of the first of the commands in `list`, of which there is one, as not sent, the last command wasn't answered
-- well
pub skips_unwell : (well : Bool) (p : Progress) (m : Moment) (mark : Mark) (list : List Task) → 0 < length list
    → last_well well (first_unsent_record p m mark list) ≡ false
skips_unwell b p m mark [] some = absurd (omega (arith, some))
skips_unwell b p m mark (task ∷ others) some = unwell_end p

-- the record of a command that isn't sent has no answer of a first sending
pub skips_no_first : (p : Progress) (m : Moment) (mark : Mark) (list : List Task) (fs : List (Option FirstAnswer)) → firsts_after fs (first_unsent_record p m mark list) ≡ fs
skips_no_first p m mark [] fs = refl
skips_no_first p m mark (task ∷ others) fs = unsent_is_no_first mark.cycle mark.expected.turn p fs

-- if the station `old` is as the model `s`, and after the records `rs` the last command wasn't answered well, whatever it was
-- before them, and they have no answer of a first sending, then `old` with these records counted, and `b` as `listed`, is as `s` with these records, and b' as `listed`. b
-- and b' are equal if what `s` has for `reads` is right (`AreReadings`)
pub skipped_refines : (old new : Station) (s : Model) (rs : List Record) (b b' : Bool) → Refines old s → ((b : Bool) → last_well b rs ≡ false)
    → ((fs : List (Option FirstAnswer)) → firsts_after fs rs ≡ fs) → (AreReadings s.reads → b ≡ b')
    → new ≡ record old { recorded = recorded_unsent rs b old.recorded } → Refines new (with_listed b' (with_more_records rs s))
skipped_refines old new s rs b b' stands unwell none same is = record {
  progress = ap (λ (n : Station). n.progress) is ∙ stands.progress;
  ids = ap (λ (n : Station). n.client.ids) is ∙ stands.ids;
  width = ap (λ (n : Station). n.client.width) is ∙ stands.width;
  marks = ap (λ (n : Station). n.marks.items) is ∙ stands.marks;
  paired = stands.paired;
  assembles = subst (λ (x : Station). StandsFor x.assembler s.rest) (sym is) stands.assembles;
  tally = λ are. ap (λ (n : Station). n.recorded.tally) is ∙ ap (λ t. tallied t rs) (stands.tally are) ∙ sym (tallied-append empty_counts s.records rs);
  well = λ are. ap (λ (n : Station). n.recorded.well) is ∙ sym (last-append false s.records rs ∙ unwell (last_well false s.records));
  listed = λ are. ap (λ (n : Station). n.recorded.listed) is ∙ same are;
  fresh = λ are. ap (λ (n : Station). n.recorded.fresh) is ∙ stands.fresh are;
  reads = stands.reads;
  firsts = ap (λ (n : Station). n.recorded.firsts) is ∙ stands.firsts ∙ sym (firsts-append [] s.records rs ∙ none (firsts_after [] s.records));
  counts = λ are. ap (λ (n : Station). n.recorded.counts) is ∙ stands.counts are;
}

-- a model to which no records are added is as it was
pub with_no_records : (s : Model) → with_more_records [] s ≡ s
with_no_records s = ap (λ (rs : List Record). record s { records = rs }) (append-nil s.records)

-- A read.

-- from `station` to `new`, the link recorded one act, which is a read
module _ (plan : Plan) (commands : List Task) (until : Until) (text : Record → List ℕ) (told told' : Option (List Act)) (taken taken' : Option (List ℕ))
    (station new : Station) (act : Act) where
  -- `MakesMove` holds of the read, if after it the station is as the model after the read, and the book has that model's records
  pub makes_read : AddsActs told told' (act ∷ []) → ReadsLink act
      → ((s : Model) (start : Option (List ℕ)) → Refines station s → Took text start taken s → Refines new (after_read plan until s act) × Took text start taken' (after_read plan until s act))
      → MakesMove plan commands (Read until) (as_seen told text taken station) (as_seen told' text taken' new)
  makes_read tells reads goes = record { act = act; tells = tells; goes = λ s start stands so. let g = goes s start stands so in (reads, g.0, g.1) }

  -- `Moves` holds of the read with this result, if after it the station is as the model after the read, and the book has that
  -- model's records, or failed at one of them (`KeepsToModel`)
  pub made_read : {X E : Type 0} (result : Result X E) → AddsActs told told' (act ∷ []) → ReadsLink act
      → KeepsToModel (λ (s : Model). after_read plan until s act) text taken taken' station new result
      → Moves plan commands (Read until) (as_seen told text taken station) (as_seen told' text taken' new) result
  made_read (Ok r) tells reads goes = makes_read tells reads goes
  made_read (Err r) tells reads goes = record { act = act; tells = tells; goes = λ s start stands so. (reads, goes s start stands so) }
