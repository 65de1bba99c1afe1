-- How many requests a client sent after the last call of the table that a reply ended. A course is what a client has sent and settled so
-- far, and the client after that. `CountsBehind` says that a count is right for a course.
use Rattle.gc_session.proofs.Common.{◌≡◌, ℕ, zero, suc, ◌+◌, ◌-◌, ◌<◌, ◌≤◌, Bool, true, false, List, [], ◌∷◌, ◌++◌, length, map, Option, Some, None, refl, sym, ap, ◌∙◌, subst, arith, if◌then◌else◌, nat_lt, ltb-true, cond_both, ltb-false, get_more, is_of_table, Asked, Course, Step, Send, Hear, Expire, Restart, sent_on, course_after, of_settled, of_pending, AccountsForSends, ById, Sending, Settlement, Lost, Late, Answered, heard, hears, hears_line, settles_at, settle, settled_by_line, sends, restarts, Pending, WINDOW, length-settle, one_more_in_window, IsRepliedTableCall, IsNearTheTable, is_some_of_table, ends_with_table}
use Rattle.std.specs.Prelude.{slice_get}
use Rattle.std.proofs.lemmas.List.{length-map, length-append}

-- the count after one step of this client, if it was `b` before: how many requests were sent, up to seven, after the last call of the
-- table that a reply ended
abbrev pub behind_step : ById Asked → (b : ℕ) → Step Asked → ℕ
behind_step c b (Send target call deadline) = one_more_in_window b
behind_step c b (Hear line) = if ends_with_table (hears_line c line).settlements then length (hears_line c line).client.waiting else b
behind_step c b other = b

-- at most `b` requests were sent after some call of the table that a reply ended
abbrev pub IsAtMostBehind : Course Asked → (b : ℕ) → Type 0
IsAtMostBehind x b =
    (k : ℕ) × (s : Settlement Asked) × (slice_get x.settlements k ≡ Some s) × IsRepliedTableCall s × (length x.sent ≤ suc k + b)

-- if the count `b` is below seven, `IsAtMostBehind` holds of it
abbrev pub CountsBehind : Course Asked → (b : ℕ) → Type 0
CountsBehind x b = b < WINDOW → IsAtMostBehind x b

-- what is at place n of two lists in a row is what is at place k of the second, if n is k more than the length of the first
pub get_behind : {A : Type 0} (xs ys : List A) (n k : ℕ) → n ≡ length xs + k → slice_get (xs ++ ys) n ≡ slice_get ys k
get_behind [] ys n k e = let same : n ≡ k = omega (arith, e) in ap (slice_get ys) same
get_behind (x ∷ xs) ys zero k e = absurd (omega (arith, e))
get_behind (x ∷ xs) ys (suc n) k e = get_behind xs ys n k (omega (arith, e))

-- what a reply ended isn't lost
pub met_lost : (given_up : Bool) (line : List ℕ) → (if given_up then Late else Answered line) ≡ Lost → ⊥
met_lost true line e = cc
met_lost false line e = cc

-- the last of the requests that a reply settles isn't lost
last_settled_not_lost : (k : ℕ) (line : List ℕ) (ps : List (Pending Asked)) (x : Settlement Asked) → k < length ps → slice_get (settle k line ps) k ≡ Some x → x.outcome ≡ Lost → ⊥
last_settled_not_lost k line [] x low e lost = absurd (omega (arith, low))
last_settled_not_lost zero line (p ∷ ps) x low e lost = met_lost p.given_up line (ap (λ (y : Settlement Asked). y.outcome) same ∙ lost) where
  -- the only settlement is that of the first request
  same : settled_by_line p line ≡ x
  same = cc
last_settled_not_lost (suc k) line (p ∷ ps) x low e lost = last_settled_not_lost k line ps x (omega (arith, low)) e lost

-- a list of settlements ends with one that is of the table and was replied to
record EndsReplied (xs : List (Settlement Asked)) : Type 0 where
  last : Settlement Asked
  some : 0 < length xs
  at : slice_get xs (length xs - 1) ≡ Some last
  replied : IsRepliedTableCall last

-- if the test `is_some_of_table` holds of what may be a settlement, there is a settlement, and it is of a call of the table
table_one : (o : Option (Settlement Asked)) → is_some_of_table o ≡ true → (x : Settlement Asked) × (o ≡ Some x) × (is_of_table x.call ≡ true)
table_one None e = cc
table_one (Some x) e = (x, refl, e)

-- if the last request that a line settles is a call of the table, a reply ended it
ends_replied : (c : ById Asked) (line : List ℕ) (o : Option ℕ) → ends_with_table (hears c line o).settlements ≡ true → EndsReplied (hears c line o).settlements
ends_replied c line None e = cc
ends_replied c line (Some id) e = by_test _ _ refl e where
  -- the lemma above, by whether the id is of an outstanding request (`true`)
  by_test : (k : ℕ) (b : Bool) → nat_lt k (length c.waiting) ≡ b → ends_with_table (settles_at c line k b).settlements ≡ true → EndsReplied (settles_at c line k b).settlements
  by_test k false fits e = cc
  by_test k true fits e =
      let low = ltb-true k (length c.waiting) fits in
      let xs = settle k line c.waiting in
      let many = length-settle k line c.waiting low in
      let at : length xs - 1 ≡ k = omega (arith, many) in
      let last = table_one (slice_get xs (length xs - 1)) e in
      record {
        last = last.0;
        some = omega (arith, many);
        at = last.1;
        replied = (last.2, last_settled_not_lost k line c.waiting last.0 low (ap (slice_get xs) (sym at) ∙ last.1));
      }

-- a course that accounts for its sends sent as many requests as it has settlements and outstanding requests
pub settled_and_waiting : (x : Course Asked) → AccountsForSends x → length x.settlements + length x.client.waiting ≡ length x.sent
settled_and_waiting x one =
    let a = length-append (map of_settled x.settlements) (map of_pending x.client.waiting) in
    let b = length-map x.settlements of_settled in
    let d = length-map x.client.waiting of_pending in
    let e = ap length one in
    omega (arith, a, b, d, e)

-- `IsAtMostBehind` is preserved if settlements are added, whatever client is left
at_most_more : (x : Course Asked) (more : List (Settlement Asked)) (client : ById Asked) (b : ℕ) → IsAtMostBehind x b
    → IsAtMostBehind (record { sent = x.sent; settlements = x.settlements ++ more; client = client }) b
at_most_more x more client b (k, s, at, replied, near) = (k, s, get_more x.settlements more k s at, replied, near)

-- `IsAtMostBehind` is preserved by a send, with the count one higher, whether the client refuses the send (`None`) or not
at_most_sent : (x : Course Asked) (target : ℕ) (call : Asked) (o : Option (Sending (ById Asked))) (b : ℕ) → IsAtMostBehind x b → IsAtMostBehind (sent_on x target call o) (b + 1)
at_most_sent x target call None b (k, s, at, replied, near) = (k, s, at, replied, omega (arith, near))
at_most_sent x target call (Some sending) b (k, s, at, replied, near) =
    let more = length-append x.sent (record { target = target; call = call } ∷ []) in (k, s, at, replied, omega (arith, more, near))

-- if `one_more_in_window` of a number is below seven, so is the number, and the former is the number plus 1
one_more_if_below : (b : ℕ) → one_more_in_window b < WINDOW → (b < WINDOW) × (one_more_in_window b ≡ b + 1)
one_more_if_below b low = cond_both (nat_lt b WINDOW) (b + 1) b (λ n. n < WINDOW → (b < WINDOW) × (n ≡ b + 1)) (λ e l. (ltb-true b WINDOW e, refl))
    (λ e l. let high : WINDOW ≤ b = ltb-false b WINDOW e in absurd (omega (arith, l, high))) low

-- a count stays right if it counts one request more
pub counts_one_more : (x : Course Asked) (b : ℕ) → CountsBehind x b → CountsBehind x (one_more_in_window b)
counts_one_more x b h low =
    let is = one_more_if_below b low in
    let (k, s, at, replied, near) = h is.0 in
    subst (λ (n : ℕ). IsAtMostBehind x n) (sym is.1) (k, s, at, replied, omega (arith, near))

-- a step preserves `CountsBehind`, with the count that `behind_step` gives, if the course after the step accounts for its sends
pub counts_step : (x : Course Asked) (b : ℕ) (step : Step Asked) → AccountsForSends (course_after WINDOW x step) → CountsBehind x b
    → CountsBehind (course_after WINDOW x step) (behind_step x.client b step)
counts_step x b (Send target call deadline) one h low =
    let is = one_more_if_below b low in
    subst (λ (n : ℕ). IsAtMostBehind (course_after WINDOW x (Send target call deadline)) n) (sym is.1) (at_most_sent x target call (sends WINDOW x.client target call deadline) b (h is.0))
counts_step x b (Hear line) one h low = by_test (ends_with_table (hears_line x.client line).settlements) refl low where
  -- the lemma above, by whether the last request that the line settles is a call of the table (`t`)
  by_test : (t : Bool) → ends_with_table (hears_line x.client line).settlements ≡ t → (if t then length (hears_line x.client line).client.waiting else b) < WINDOW
      → IsAtMostBehind (course_after WINDOW x (Hear line)) (if t then length (hears_line x.client line).client.waiting else b)
  by_test false e low = let y = hears_line x.client line in at_most_more x y.settlements y.client b (h low)
  by_test true e low =
      let y = hears_line x.client line in
      let last = ends_replied x.client line (heard line) e in
      let k = length x.settlements + (length y.settlements - 1) in
      let many = length-append x.settlements y.settlements in
      let all = settled_and_waiting (course_after WINDOW x (Hear line)) one in
      (k, last.last, get_behind x.settlements y.settlements k (length y.settlements - 1) refl ∙ last.at, last.replied, omega (arith, many, all, last.some))
counts_step x b (Expire now) one h low = h low
counts_step x b Restart one h low = at_most_more x (restarts x.client).settlements (restarts x.client).client b (h low)

-- if `CountsBehind` holds of a count below seven, `IsNearTheTable` holds of the course
pub near_by_count : (x : Course Asked) (b : ℕ) → CountsBehind x b → b < WINDOW → IsNearTheTable x
near_by_count x b h low = let it = h low in (it.0, it.1, it.2, it.3, let near = it.4 in omega (arith, near, low))
