-- The last command among the outstanding requests: if it is alone there until it times out, a line that answers it well leaves nothing
-- outstanding. Requests and marks are one for one; a mark says which command a request is of, or `None` of a null procedure.
use Rattle.gc_station.proofs.Common.{◌≡◌, ℕ, zero, suc, ◌<◌, ◌||◌, Bool, true, false, not, if◌then◌else◌, List, [], ◌∷◌, ◌++◌, length, map, filter, drop, Option, Some, None, nat_le, nat_eq, refl, sym, ap, ◌∙◌, arith, slice_get, AllByRecursion, both_ways, nat_tests, is_of_table, Asked, Pending, deadlines, expired, settle, Settlement, Late, is_some_of_table, Mark, commands_in, records_of, end_of, is_well, last_well, Reads}
use Rattle.gc_client.specs.Prelude.{Answered}
use Rattle.gc_station.proofs.InFlight.{EndsBy, EndsAfter}
use Rattle.gc_station.proofs.Records.{commands-append, records-none}

-- unless the request has timed out, no request was sent after it; and if it isn't a call of the table, its deadline is `Early`
abbrev pub IsAlone : (Early : ℕ → Type 0) → Pending Asked → (later : List (Pending Asked)) → Type 0
IsAlone Early q later = q.given_up ≡ false → (later ≡ []) × (is_of_table q.call ≡ false → Early q.deadline)

-- the last command among these outstanding requests, if there is one, is as `IsAlone` says
abbrev pub LastIsAlone : (Early : ℕ → Type 0) → List (Option Mark) → List (Pending Asked) → Type 0
LastIsAlone Early [] qs = Unit {0}
LastIsAlone Early (mark ∷ marks) [] = Unit {0}
LastIsAlone Early (None ∷ marks) (q ∷ qs) = LastIsAlone Early marks qs
LastIsAlone Early (Some mark ∷ marks) (q ∷ qs) = (commands_in marks ≡ 0 → IsAlone Early q qs) × LastIsAlone Early marks qs

-- it is so of the requests after the first ones
pub alone_dropped : (Early : ℕ → Type 0) (n : ℕ) (marks : List (Option Mark)) (qs : List (Pending Asked)) → LastIsAlone Early marks qs → LastIsAlone Early (drop n marks) (drop n qs)
alone_dropped Early zero marks qs h = h
alone_dropped Early (suc n) [] qs h = tt
alone_dropped Early (suc n) (mark ∷ marks) [] h = none (drop n marks) where
  -- without requests nothing is claimed
  none : (ms : List (Option Mark)) → LastIsAlone Early ms []
  none [] = tt
  none (m ∷ ms) = tt
alone_dropped Early (suc n) (None ∷ marks) (q ∷ qs) h = alone_dropped Early n marks qs h
alone_dropped Early (suc n) (Some mark ∷ marks) (q ∷ qs) h = alone_dropped Early n marks qs h.1

-- it stays so once requests may have timed out, and if more deadlines are early
pub alone_expired : (Early Later : ℕ → Type 0) → ((d : ℕ) → Early d → Later d) → (now : ℕ) (marks : List (Option Mark)) (qs : List (Pending Asked))
    → LastIsAlone Early marks qs → LastIsAlone Later marks (map (expired now) qs)
alone_expired Early Later more now [] qs h = tt
alone_expired Early Later more now (mark ∷ marks) [] h = tt
alone_expired Early Later more now (None ∷ marks) (q ∷ qs) h = alone_expired Early Later more now marks qs h
alone_expired Early Later more now (Some mark ∷ marks) (q ∷ qs) h = (
  λ none e. let it = h.0 none (was q.given_up e) in (ap (map (expired now)) it.0, λ raw. more q.deadline (it.1 raw)),
  alone_expired Early Later more now marks qs h.1,
) where
  -- a request that hasn't timed out hadn't before
  was : (b : Bool) → (b || nat_le q.deadline now) ≡ false → b ≡ false
  was true e = cc
  was false e = refl

-- once a command was sent, it is alone
pub alone_sent : (Early : ℕ → Type 0) (mark : Mark) (one : Pending Asked) → (is_of_table one.call ≡ false → Early one.deadline)
    → (marks : List (Option Mark)) (qs : List (Pending Asked)) → length marks ≡ length qs → LastIsAlone Early (marks ++ Some mark ∷ []) (qs ++ one ∷ [])
alone_sent Early mark one early [] [] same = (λ none e. (refl, early), tt)
alone_sent Early mark one early [] (q ∷ qs) same = absurd (omega (arith, same))
alone_sent Early mark one early (m ∷ marks) [] same = absurd (omega (arith, same))
alone_sent Early mark one early (None ∷ marks) (q ∷ qs) same = alone_sent Early mark one early marks qs (omega (arith, same))
alone_sent Early mark one early (Some m ∷ marks) (q ∷ qs) same =
    (λ none. let more = commands-append marks (Some mark ∷ []) in absurd (omega (arith, none, more)), alone_sent Early mark one early marks qs (omega (arith, same)))

-- if none of these requests is in flight that hasn't timed out, the last command stays so once a null procedure was sent
pub alone_flushed : (Early : ℕ → Type 0) (one : Pending Asked) (marks : List (Option Mark)) (qs : List (Pending Asked)) → length marks ≡ length qs → deadlines qs ≡ []
    → LastIsAlone Early marks qs → LastIsAlone Early (marks ++ None ∷ []) (qs ++ one ∷ [])
alone_flushed Early one [] [] same none h = tt
alone_flushed Early one [] (q ∷ qs) same none h = absurd (omega (arith, same))
alone_flushed Early one (m ∷ marks) [] same none h = absurd (omega (arith, same))
alone_flushed Early one (m ∷ marks) (q ∷ qs) same none h = by_test (alone_flushed Early one marks qs (omega (arith, same))) q.given_up refl where
  -- if this one hasn't timed out, it is in flight
  left : Bool → List ℕ
  left b = map (λ (p : Pending Asked). p.deadline) (if not b then q ∷ filter (λ (p : Pending Asked). not p.given_up) qs else filter (λ (p : Pending Asked). not p.given_up) qs)

  -- the lemma above, by the first mark, if the first request has timed out
  by_mark : (deadlines qs ≡ [] → LastIsAlone Early marks qs → LastIsAlone Early (marks ++ None ∷ []) (qs ++ one ∷ []))
      → (m : Option Mark) → LastIsAlone Early (m ∷ marks) (q ∷ qs) → q.given_up ≡ true → deadlines qs ≡ [] → LastIsAlone Early ((m ∷ marks) ++ None ∷ []) ((q ∷ qs) ++ one ∷ [])
  by_mark others None all given rest = others rest all
  by_mark others (Some mark) all given rest = (λ settled e. absurd (both_ways q.given_up e given), others rest all.1)

  -- the lemma above, whether the first request has timed out
  by_test : (deadlines qs ≡ [] → LastIsAlone Early marks qs → LastIsAlone Early (marks ++ None ∷ []) (qs ++ one ∷ []))
      → (b : Bool) → q.given_up ≡ b → LastIsAlone Early ((m ∷ marks) ++ None ∷ []) ((q ∷ qs) ++ one ∷ [])
  by_test others true e = by_mark others m h e (sym (ap left e) ∙ none)
  by_test others false e = let some : q.deadline ∷ deadlines qs ≡ [] = sym (ap left e) ∙ none in cc

-- without commands there are no records
pub none_recorded : (reads : Reads) (utc : ℕ) (marks : List (Option Mark)) (xs : List (Settlement Asked)) → commands_in marks ≡ 0 → records_of reads utc marks xs ≡ []
none_recorded reads utc [] xs none = refl
none_recorded reads utc (mark ∷ marks) [] none = refl
none_recorded reads utc (None ∷ marks) (x ∷ xs) none = none_recorded reads utc marks xs none
none_recorded reads utc (Some mark ∷ marks) (x ∷ xs) none = absurd (omega (arith, none))

-- if a line settles these requests up to the one at place k, and with them the last command, and that was answered well, it was the last
-- request of all; and the moment `now` is before its deadline, which is `limit` or earlier, and `Early` unless it is a call of the table
pub heard_well : (Early : ℕ → Type 0) (limit now : ℕ) (line : List ℕ) (reads : Reads) (utc k : ℕ) (marks : List (Option Mark)) (qs : List (Pending Asked)) (before : Bool)
    → LastIsAlone Early marks qs → AllByRecursion (EndsBy limit) qs → AllByRecursion (EndsAfter now) qs → k < length qs → 0 < commands_in marks → commands_in (drop (suc k) marks) ≡ 0
    → last_well before (records_of reads utc marks (settle k line qs)) ≡ true
    → (drop (suc k) qs ≡ []) × (now < limit) × (is_some_of_table (slice_get (settle k line qs) k) ≡ false → (d : ℕ) × (now < d) × Early d)
heard_well Early limit now line reads utc k [] qs before h by after below some none well = absurd (omega (arith, some))
heard_well Early limit now line reads utc k (m ∷ marks) [] before h by after below some none well = absurd (omega (arith, below))
heard_well Early limit now line reads utc zero (None ∷ marks) (q ∷ qs) before h by after below some none well = absurd (omega (arith, some, none))
heard_well Early limit now line reads utc zero (Some mark ∷ marks) (q ∷ qs) before h by after below some none well = by_test q.given_up refl where
  -- how the command ends, whether its request has timed out
  ends : Bool → Bool
  ends given = is_well (end_of reads mark.expected q.call (if given then Late else Answered line))

  -- the last record is this one
  is : ends q.given_up ≡ true
  is = sym (ap (last_well (ends q.given_up)) (records-none reads utc marks)) ∙ well

  -- the lemma above, whether the request has timed out
  by_test : (b : Bool) → q.given_up ≡ b → (qs ≡ []) × (now < limit) × (is_of_table q.call ≡ false → (d : ℕ) × (now < d) × Early d)
  by_test true e = let bad : false ≡ true = sym (ap ends e) ∙ is in cc
  by_test false e =
      let it = h.0 none e in
      let low = by.0 e in
      let high = after.0 e in
      (it.0, omega (arith, low, high), λ raw. (q.deadline, high, it.1 raw))
heard_well Early limit now line reads utc (suc k) (None ∷ marks) (q ∷ qs) before h by after below some none well =
    heard_well Early limit now line reads utc k marks qs before h by.1 after.1 (omega (arith, below)) some none well
heard_well Early limit now line reads utc (suc k) (Some mark ∷ marks) (q ∷ qs) before h by after below some none well =
    by_test (λ more. heard_well Early limit now line reads utc k marks qs false h.1 by.1 after.1 (omega (arith, below)) more none well) (nat_eq (commands_in marks) 0) refl where
      -- what is claimed
      Claim : Type 0
      Claim = (drop (suc k) qs ≡ []) × (now < limit) × (is_some_of_table (slice_get (settle k line qs) k) ≡ false → (d : ℕ) × (now < d) × Early d)

      -- the lemma above, whether another command comes after this one, which is lost
      by_test : (0 < commands_in marks → Claim) → (b : Bool) → nat_eq (commands_in marks) 0 ≡ b → Claim
      by_test others true e =
          let alone : commands_in marks ≡ 0 = grind (arith, nat_tests, e) in
          let bad : false ≡ true = sym (ap (last_well false) (none_recorded reads utc marks (settle k line qs) alone)) ∙ well in cc
      by_test others false e = others (grind (arith, nat_tests, e))
