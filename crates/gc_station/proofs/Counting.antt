-- A tally counts the records of the last attempts. `count` is one of its counts, and `so` says which endings it counts; no count
-- exceeds 2^64 - 1 (`capped`).
use Rattle.gc_station.proofs.Common.{◌||◌, ◌&&◌, not, nat_eq, nat_lt, ◌≡◌, ℕ, suc, ◌+◌, Bool, true, false, List, [], ◌∷◌, if◌then◌else◌, refl, sym, ap, ◌∙◌, arith, End, Answered, Unreadable, Judged, Skipped, NoValue, Missed, capped, one_more, judged_count, judged_one_more, Fine, Warning, Unconfirmed, Refused, Record, empty_tally, counted, sum, empty_counts, tallied, total, tally_of, Judgement, Counts, Tally}
use Rattle.gc_texts.specs.Prelude.{Late, Lost}
use Rattle.gc_station.specs.Counting.{is_followed, last_attempts, further_attempts, how_many, ended_answered, ended_refused, ended_unreadable, ended_judged, ended_late, ended_lost, ended_skipped, ended_missed, TalliesCountRecords}
use Rattle.gc_texts.proofs.Judgements.{counted_by_judgement, count_of_none, count_of_sum}
use Rattle.gc_texts.specs.declared.judgement.JudgementCounts.{JudgementCounts}

-- a count comes to the same whether a command is counted with its attempt (`attempt`) or with the commands after it (`rest`).
-- `before` is the count of the chains before, and `counts` says whether the command has the ending that is counted. If another
-- attempt follows (`followed`), neither the attempt nor the command counts
counted_either_way : (followed counts : Bool) (before attempt rest : ℕ)
    → capped (before + ((if followed then 0 else (if counts then one_more attempt else attempt)) + rest))
    ≡ capped (before + ((if followed then 0 else attempt) + (if followed then rest else (if counts then suc rest else rest))))
counted_either_way true counts before attempt rest = refl
counted_either_way false true before attempt rest = omega arith
counted_either_way false false before attempt rest = refl

-- an attempt without commands so far adds nothing to a count, whether it is followed or not
adds_nothing : (followed : Bool) (before rest : ℕ) → capped (before + ((if followed then 0 else 0) + rest)) ≡ capped (before + (0 + rest))
adds_nothing true before rest = refl
adds_nothing false before rest = refl

-- once the next chain begins, the count of the last attempt (`attempt`) is among those of the chains before, and the attempt that
-- begins, `followed` by another one or not, has none yet
last_attempt_settled : (followed : Bool) (before attempt rest : ℕ) → capped (capped (before + attempt) + ((if followed then 0 else 0) + rest)) ≡ capped (before + (attempt + rest))
last_attempt_settled followed before attempt rest = adds_nothing followed (capped (before + attempt)) rest ∙ omega arith

-- the counts `c` once an attempt begins, as `started` gives them: it is a further one (`true`), or the first one of its chain
abbrev attempt_begun : Counts → Bool → Counts
attempt_begun c further =
    if further then record { settled = record c.settled { retried = one_more c.settled.retried }; attempt = empty_tally }
    else record { settled = sum c.settled c.attempt; attempt = empty_tally }

-- to count the records with an ending for which `so` is true, with r before `rs` unless its attempt is followed (q), is to count
-- those of `rs`, and one more if r is there and has such an ending
counted_in_front : (so : End → Bool) (q : Bool) (r : Record) (rs : List Record)
    → how_many so (if q then rs else r ∷ rs) ≡ (if q then how_many so rs else (if so r.end then suc (how_many so rs) else how_many so rs))
counted_in_front so true r rs = refl
counted_in_front so false r rs = refl

-- the counts of judgements with one more where a judgement is this ending
abbrev with_judged : End → JudgementCounts → JudgementCounts
with_judged (Judged judgement line) c = judged_one_more judgement c
with_judged _ c = c

-- the count of a judgement grows by one for each command that it ended, and stays for any other
judged_step : (j : Judgement) (end : End) (c : JudgementCounts) → judged_count j (with_judged end c) ≡ (if ended_judged j end then one_more (judged_count j c) else judged_count j c)
judged_step j (Judged k line) c = counted_by_judgement j k c
judged_step j (Answered quality answer line) c = refl
judged_step j (Unreadable line fault) c = refl
judged_step j Late c = refl
judged_step j Lost c = refl
judged_step j Skipped c = refl
judged_step j NoValue c = refl
judged_step j Missed c = refl

-- the tally `t` with one more in the count that counts this ending
abbrev with_counted : End → Tally → Tally
with_counted end t = record {
  answered = if ended_answered end then one_more t.answered else t.answered;
  refused = if ended_refused end then one_more t.refused else t.refused;
  late = if ended_late end then one_more t.late else t.late;
  lost = if ended_lost end then one_more t.lost else t.lost;
  skipped = if ended_skipped end then one_more t.skipped else t.skipped;
  unreadable = if ended_unreadable end then one_more t.unreadable else t.unreadable;
  missed = if ended_missed end then one_more t.missed else t.missed;
  judged = with_judged end t.judged;
  retried = t.retried;
}

-- a command is counted in the count of its ending, and in no other
counted_by_ending : (end : End) (t : Tally) → counted end t ≡ with_counted end t
counted_by_ending (Answered Fine answer line) t = refl
counted_by_ending (Answered Warning answer line) t = refl
counted_by_ending (Answered Unconfirmed answer line) t = refl
counted_by_ending (Answered Refused answer line) t = refl
counted_by_ending (Unreadable line fault) t = refl
counted_by_ending (Judged judgement line) t = refl
counted_by_ending Late t = refl
counted_by_ending Lost t = refl
counted_by_ending Skipped t = refl
counted_by_ending NoValue t = refl
counted_by_ending Missed t = refl

-- a count that grows by one for each command with this ending (`so`), stays for any other, adds up, and doesn't depend on `retried`
module _ (count : Tally → ℕ) (so : End → Bool) (step : (end : End) (t : Tally) → count (with_counted end t) ≡ (if so end then one_more (count t) else count t))
    (adds : (a b : Tally) → count (sum a b) ≡ capped (count a + count b)) (none : count empty_tally ≡ 0) (stays : (t : Tally) (n : ℕ) → count (record t { retried = n }) ≡ count t) where
  -- if x is the count with r, the next command of an attempt, counted with that attempt (t), x is also the count with r counted
  -- among the records in its place, in front of `rs`. If the attempt is followed (q), r isn't counted either way
  counts_next : (x s : ℕ) (t : Tally) (r : Record) (rs : List Record) (q : Bool) → x ≡ capped (s + ((if q then 0 else count (counted r.end t)) + how_many so rs))
      → x ≡ capped (s + ((if q then 0 else count t) + how_many so (if q then rs else r ∷ rs)))
  counts_next x s t r rs q is =
      is ∙ ap (λ n. capped (s + ((if q then 0 else n) + how_many so rs))) (ap count (counted_by_ending r.end t) ∙ step r.end t) ∙ counted_either_way q (so r.end) s (count t) (how_many so rs)
      ∙ ap (λ n. capped (s + ((if q then 0 else count t) + n))) (sym (counted_in_front so q r rs))

  -- a count after these records is the sum of that of the chains before, of that of the attempt before unless a further one
  -- follows, and of the number of records of last attempts with its ending; at most 2^64 - 1
  counts : (c : Counts) (rs : List Record) → count (total (tallied c rs)) ≡ capped (count c.settled + ((if is_followed rs then 0 else count c.attempt) + how_many so (last_attempts rs)))
  counts c [] = adds c.settled c.attempt ∙ omega arith
  counts c (r ∷ rs) = by_tests (λ d. counts d rs) (nat_eq r.cycle 0) (nat_eq r.turn.link 0) (nat_lt 1 r.turn.attempt) where
    -- the lemma above, whether the record is of the setup (z), whether an attempt begins with it (l), and whether that is a
    -- further one (f)
    by_tests : ((d : Counts) → count (total (tallied d rs)) ≡ capped (count d.settled + ((if is_followed rs then 0 else count d.attempt) + how_many so (last_attempts rs)))) → (z l f : Bool)
        → count (total (tallied (if z then c else (let d = (if l then attempt_begun c f else c) in record d { attempt = counted r.end d.attempt })) rs))
        ≡ capped (count c.settled + ((if (if z || not l then is_followed rs else f) then 0 else count c.attempt) + how_many so
        (if z || is_followed rs then last_attempts rs else r ∷ last_attempts rs)))
    by_tests ih true l f = ih c
    by_tests ih false false f = counts_next _ (count c.settled) c.attempt r (last_attempts rs) (is_followed rs) (ih (record c { attempt = counted r.end c.attempt }))
    by_tests ih false true true =
        counts_next _ (count (record c.settled { retried = one_more c.settled.retried })) empty_tally r (last_attempts rs) (is_followed rs)
        (ih (record { settled = record c.settled { retried = one_more c.settled.retried }; attempt = counted r.end empty_tally }))
        ∙ ap (λ n. capped (n + ((if is_followed rs then 0 else count empty_tally) + how_many so (if is_followed rs then last_attempts rs else r ∷ last_attempts rs))))
        (stays c.settled (one_more c.settled.retried))
        ∙ ap (λ n. capped (count c.settled + ((if is_followed rs then 0 else n) + how_many so (if is_followed rs then last_attempts rs else r ∷ last_attempts rs)))) none
        ∙ adds_nothing (is_followed rs) (count c.settled) _
    by_tests ih false true false =
        counts_next _ (count (sum c.settled c.attempt)) empty_tally r (last_attempts rs) (is_followed rs) (ih (record { settled = sum c.settled c.attempt; attempt = counted r.end empty_tally }))
        ∙ ap (λ n. capped (n + ((if is_followed rs then 0 else count empty_tally) + how_many so (if is_followed rs then last_attempts rs else r ∷ last_attempts rs)))) (adds c.settled c.attempt)
        ∙ ap (λ n. capped (capped (count c.settled + count c.attempt) + ((if is_followed rs then 0 else n) + how_many so (if is_followed rs then last_attempts rs else r ∷ last_attempts rs)))) none
        ∙ last_attempt_settled (is_followed rs) (count c.settled) (count c.attempt) _

  -- a count of a tally of all records is the number of records of last attempts with its ending, at most 2^64 - 1
  pub counts_all : (records : List Record) → count (tally_of records) ≡ capped (how_many so (last_attempts records))
  counts_all records =
      counts empty_counts records ∙ ap (λ n. capped (n + ((if is_followed records then 0 else n) + how_many so (last_attempts records)))) none
      ∙ adds_nothing (is_followed records) 0 (how_many so (last_attempts records)) ∙ omega arith

-- the number of further attempts of chains, after these records, is that before them plus those among them, at most 2^64 - 1, if
-- none is counted in the attempt itself
retried_counts : (c : Counts) (rs : List Record) → c.attempt.retried ≡ 0 → (total (tallied c rs)).retried ≡ capped (c.settled.retried + further_attempts rs)
retried_counts c [] none = omega (arith, none)
retried_counts c (r ∷ rs) none = by_tests (λ d n. retried_counts d rs n) (nat_eq r.cycle 0) (nat_eq r.turn.link 0) (nat_lt 1 r.turn.attempt) where
  -- the lemma above, whether the record is of the setup (z), whether an attempt begins with it (l), and whether that is a
  -- further one (f)
  by_tests : ((d : Counts) → d.attempt.retried ≡ 0 → (total (tallied d rs)).retried ≡ capped (d.settled.retried + further_attempts rs)) → (z l f : Bool)
      → (total (tallied (if z then c else (let d = (if l then attempt_begun c f else c) in record d { attempt = counted r.end d.attempt })) rs)).retried
      ≡ capped (c.settled.retried + (if not z && l && f then suc (further_attempts rs) else further_attempts rs))
  by_tests ih true l f = ih c none
  by_tests ih false false f = ih (record c { attempt = counted r.end c.attempt }) (ap (λ (t : Tally). t.retried) (counted_by_ending r.end c.attempt) ∙ none)
  by_tests ih false true true =
      ih (record { settled = record c.settled { retried = one_more c.settled.retried }; attempt = counted r.end empty_tally })
      (ap (λ (t : Tally). t.retried) (counted_by_ending r.end empty_tally)) ∙ omega arith
  by_tests ih false true false =
      ih (record { settled = sum c.settled c.attempt; attempt = counted r.end empty_tally }) (ap (λ (t : Tally). t.retried) (counted_by_ending r.end empty_tally))
      ∙ ap (λ n. capped (capped (c.settled.retried + n) + further_attempts rs)) none ∙ omega arith

-- each count of a tally is the number of the records of last attempts with its ending, and `retried` is the number of further
-- attempts; each at most 2^64 - 1
pub count_records : TalliesCountRecords
count_records = record {
  answered = counts_all (λ (t : Tally). t.answered) ended_answered (λ end t. refl) (λ a b. refl) refl (λ t n. refl);
  refused = counts_all (λ (t : Tally). t.refused) ended_refused (λ end t. refl) (λ a b. refl) refl (λ t n. refl);
  unreadable = counts_all (λ (t : Tally). t.unreadable) ended_unreadable (λ end t. refl) (λ a b. refl) refl (λ t n. refl);
  late = counts_all (λ (t : Tally). t.late) ended_late (λ end t. refl) (λ a b. refl) refl (λ t n. refl);
  lost = counts_all (λ (t : Tally). t.lost) ended_lost (λ end t. refl) (λ a b. refl) refl (λ t n. refl);
  skipped = counts_all (λ (t : Tally). t.skipped) ended_skipped (λ end t. refl) (λ a b. refl) refl (λ t n. refl);
  missed = counts_all (λ (t : Tally). t.missed) ended_missed (λ end t. refl) (λ a b. refl) refl (λ t n. refl);
  judged = λ j.
      counts_all (λ (t : Tally). judged_count j t.judged) (ended_judged j) (λ end t. judged_step j end t.judged) (λ a b. count_of_sum j a.judged b.judged) (count_of_none j) (λ t n. refl);
  retried = λ records. retried_counts empty_counts records refl ∙ omega arith;
}
