-- Until a reply has ended a null procedure of a client, that client has sent nothing but null procedures. A course is what a client
-- has sent and settled so far, and the client after that; its steps are to send, to hear a line, to read the clock and to restart.
-- `b` counts the requests after the last call of the table that a reply ended, by `behind_by` of `Behind`.
use Rattle.gc_station.proofs.Common.{◌≡◌, ◌⊎◌, inl, inr, ℕ, zero, suc, ◌<◌, Bool, true, false, List, [], ◌∷◌, ◌++◌, length, map, Option, Some, None, refl, sym, ap, ◌∙◌, subst, arith, append_assoc, append-nil, if◌then◌else◌, nat_lt, nat_eq, slice_get, AllByRecursion, ltb-true, Asked, Table, NullProc, Wanted, Course, Step, Hear, Expire, Restart, begun, sent_on, course_after, course, ById, Settlement, Lost, heard, hears, settles_at, settle, settled_by_line, send_unless_full, pending_of, expired, fits, place_in, Pending, WINDOW, accounts_for_sends, one_more_in_window, ends_with_table, client_stepped, behind_step, settled_and_waiting, met_lost, course_of, course_append, course_client, HasEndedANull}
use Rattle.gc_client.specs.Prelude.{Send}
use Rattle.gc_station.proofs.Behind.{behind_by}
use Rattle.gc_station.proofs.Booking.{course_settled, course_sent, settled_by, sent_by}
use Rattle.gc_station.proofs.Lists.{get_more, all_append}

-- an outstanding request is a null procedure
abbrev IsNull : Pending Asked → Type 0
IsNull p = p.call ≡ Table NullProc

-- a step sends null procedures alone, and isn't a restart
abbrev pub SendsNulls : Step Asked → Type 0
SendsNulls (Send target call deadline) = call ≡ Table NullProc
SendsNulls (Hear line) = Unit {0}
SendsNulls (Expire now) = Unit {0}
SendsNulls Restart = ⊥

-- a client settled nothing yet, only null procedures wait, and the count is seven
abbrev pub NoneSettled : Course Asked → (b : ℕ) → Type 0
NoneSettled x b = (b ≡ WINDOW) × (x.settlements ≡ []) × AllByRecursion IsNull x.client.waiting

-- a reply has ended a null procedure of the client, or it settled nothing yet
abbrev pub AwaitsOrHasReply : Course Asked → (b : ℕ) → Type 0
AwaitsOrHasReply x b = HasEndedANull x ⊎ NoneSettled x b

-- of some null procedures that wait, a line settles the one at the place k, which a reply ends then
settle_null : (k : ℕ) (line : List ℕ) (ps : List (Pending Asked)) → k < length ps → AllByRecursion IsNull ps
    → (s : Settlement Asked) × (slice_get (settle k line ps) k ≡ Some s) × (s.call ≡ Table NullProc) × (s.outcome ≡ Lost → ⊥)
settle_null k line [] low all = absurd (omega (arith, low))
settle_null zero line (p ∷ ps) low all = (settled_by_line p line, refl, all.0, met_lost p.given_up line)
settle_null (suc k) line (p ∷ ps) low all = settle_null k line ps (omega (arith, low)) all.1

-- null procedures that may have timed out are null procedures
expired_nulls : (now : ℕ) (ps : List (Pending Asked)) → AllByRecursion IsNull ps → AllByRecursion IsNull (map (expired now) ps)
expired_nulls now [] all = tt
expired_nulls now (p ∷ ps) all = (all.0, expired_nulls now ps all.1)

-- a null procedure that is sent, or refused since the window is full (`full`), preserves `NoneSettled`
none_sent : (x : Course Asked) (b target : ℕ) (call : Asked) (deadline : ℕ) → call ≡ Table NullProc → NoneSettled x b → (full : Bool)
    → NoneSettled (sent_on x target call (send_unless_full x.client target call deadline full)) (one_more_in_window b)
none_sent x b target call deadline null h true = (ap one_more_in_window h.0, h.1, h.2)
none_sent x b target call deadline null h false =
    (ap one_more_in_window h.0, h.1, all_append IsNull x.client.waiting (pending_of target call deadline ∷ []) h.2 (null, tt))

-- after a line a reply has ended a null procedure, or still nothing is settled
none_heard : (x : Course Asked) (b : ℕ) (line : List ℕ) (o : Option ℕ) → NoneSettled x b
    → AwaitsOrHasReply (record { sent = x.sent; settlements = x.settlements ++ (hears x.client line o).settlements; client = (hears x.client line o).client })
    (if ends_with_table (hears x.client line o).settlements then length (hears x.client line o).client.waiting else b)
none_heard x b line None h = inr (h.0, append-nil x.settlements ∙ h.1, h.2)
none_heard x b line (Some id) h = by_test (place_in x.client id) (fits x.client (Some id)) refl where
  -- the lemma above, by whether the id is of an outstanding request (`true`)
  by_test : (k : ℕ) (waits : Bool) → nat_lt k (length x.client.waiting) ≡ waits
      → AwaitsOrHasReply (record { sent = x.sent; settlements = x.settlements ++ (settles_at x.client line k waits).settlements; client = (settles_at x.client line k waits).client })
      (if ends_with_table (settles_at x.client line k waits).settlements then length (settles_at x.client line k waits).client.waiting else b)
  by_test k false e = inr (h.0, append-nil x.settlements ∙ h.1, h.2)
  by_test k true e =
      let it = settle_null k line x.client.waiting (ltb-true k (length x.client.waiting) e) h.2 in
      inl (k, it.0, ap (λ (l : List (Settlement Asked)). slice_get (l ++ settle k line x.client.waiting) k) h.1 ∙ it.1, it.2, it.3)

-- a step that sends a null procedure or nothing preserves `NoneSettled`, or a reply has ended a null procedure
none_step : (x : Course Asked) (b : ℕ) (step : Step Asked) → SendsNulls step → NoneSettled x b → AwaitsOrHasReply (course_after WINDOW x step) (behind_step x.client b step)
none_step x b (Send target call deadline) null h = inr (none_sent x b target call deadline null h (nat_eq (length x.client.waiting) WINDOW))
none_step x b (Hear line) null h = none_heard x b line (heard line) h
none_step x b (Expire now) null h = inr (h.0, h.1, expired_nulls now x.client.waiting h.2)
none_step x b Restart null h = absurd null

-- where a reply has ended a null procedure, that stays so
ended_steps : (x : Course Asked) (steps : List (Step Asked)) → HasEndedANull x → HasEndedANull (course WINDOW x steps)
ended_steps x steps (k, s, at, null, not_lost) =
    (k, s, ap (λ (l : List (Settlement Asked)). slice_get l k) (course_settled steps x) ∙ get_more x.settlements (settled_by x.client steps) k s at, null, not_lost)

-- steps that send null procedures or nothing preserve `NoneSettled`, or a reply has ended a null procedure
none_steps : (x : Course Asked) (b : ℕ) (steps : List (Step Asked)) → AllByRecursion SendsNulls steps → NoneSettled x b → AwaitsOrHasReply (course WINDOW x steps) (behind_by x.client b steps)
none_steps x b [] all h = inr h
none_steps x b (step ∷ steps) all h = by_case (λ none. none_steps (course_after WINDOW x step) (behind_step x.client b step) steps all.1 none) (none_step x b step all.0 h) where
  -- the client of a course after a step is its client before it with that step made
  client : (course_after WINDOW x step).client ≡ client_stepped x.client step
  client = course_client (step ∷ []) x

  -- the lemma above, by what is so after the first step
  by_case : (NoneSettled (course_after WINDOW x step) (behind_step x.client b step)
      → AwaitsOrHasReply (course WINDOW x (step ∷ steps)) (behind_by (course_after WINDOW x step).client (behind_step x.client b step) steps))
      → AwaitsOrHasReply (course_after WINDOW x step) (behind_step x.client b step) → AwaitsOrHasReply (course WINDOW x (step ∷ steps)) (behind_by x.client b (step ∷ steps))
  by_case rest (inl ended) = inl (ended_steps (course_after WINDOW x step) steps ended)
  by_case rest (inr none) =
      subst (λ (c : ById Asked). AwaitsOrHasReply (course WINDOW x (step ∷ steps)) (behind_by c (behind_step x.client b step) steps)) client (rest none)

-- if `AwaitsOrHasReply` holds of the count b after the steps `done`, it holds after further steps of the count that `behind_by` makes
-- of b, if these send null procedures or nothing as long as the count is seven
pub awaits_steps : (done steps : List (Step Asked)) (b : ℕ) → (b ≡ WINDOW → AllByRecursion SendsNulls steps) → AwaitsOrHasReply (course_of done) b
    → AwaitsOrHasReply (course_of (done ++ steps)) (behind_by (course_of done).client b steps)
awaits_steps done steps b nulls h =
    subst (λ (y : Course Asked). AwaitsOrHasReply y (behind_by (course_of done).client b steps)) (sym (course_append WINDOW done steps begun)) (by_case h) where
      -- the lemma above, by what is so before the further steps
      by_case : AwaitsOrHasReply (course_of done) b → AwaitsOrHasReply (course WINDOW (course_of done) steps) (behind_by (course_of done).client b steps)
      by_case (inl ended) = inl (ended_steps (course_of done) steps ended)
      by_case (inr none) = none_steps (course_of done) b steps (nulls none.0) none

-- a client that sent nothing has settled nothing, so no reply has ended a null procedure of it
pub none_ended_yet : (done : List (Step Asked)) → (course_of done).sent ≡ [] → HasEndedANull (course_of done) → ⊥
none_ended_yet done none (k, s, at, null, not_lost) = by_list (course_of done).settlements refl where
  -- the lemma above, by what is settled
  by_list : (l : List (Settlement Asked)) → (course_of done).settlements ≡ l → ⊥
  by_list [] e = let no : ◌≡◌ {A = Option (Settlement Asked)} None (Some s) = ap (λ (l : List (Settlement Asked)). slice_get l k) (sym e) ∙ at in cc
  by_list (x ∷ xs) e =
      let all = settled_and_waiting (course_of done) (accounts_for_sends WINDOW done) in
      let some : length (course_of done).settlements ≡ suc (length xs) = ap length e in
      let nothing : length (course_of done).sent ≡ 0 = ap length none in
      omega (arith, all, some, nothing)

-- the step that sends the first of these requests, and the steps before it, by which nothing is sent
pub record SendsFirst (steps : List (Step Asked)) (asked : Wanted Asked) : Type 0 where
  pub front : List (Step Asked)
  pub later : List (Step Asked)
  pub deadline : ℕ
  pub split : steps ≡ front ++ Send asked.target asked.call deadline ∷ later
  pub none : (course_of front).sent ≡ []

-- after the steps `done`, by which nothing is sent, some step sends the first request, if there is one
pub sends_first : (done steps : List (Step Asked)) (asked : Wanted Asked) → (course_of done).sent ≡ [] → slice_get (course_of (done ++ steps)).sent 0 ≡ Some asked
    → SendsFirst (done ++ steps) asked
sends_first done [] asked none at =
    let no : ◌≡◌ {A = Option (Wanted Asked)} None (Some asked) =
    sym (ap (λ (l : List (Step Asked)). slice_get (course_of l).sent 0) (append-nil done) ∙ ap (λ (l : List (Wanted Asked)). slice_get l 0) none) ∙ at in cc
sends_first done (step ∷ steps) asked none at = by_list (λ e got. sends_first (done ++ step ∷ []) steps asked e got) (course_of (done ++ step ∷ [])).sent refl where
  -- all steps, with the first of these beside those before
  order : (done ++ step ∷ []) ++ steps ≡ done ++ step ∷ steps
  order = append_assoc done (step ∷ []) steps

  -- what is sent by the first step and the steps before
  one : (course_of (done ++ step ∷ [])).sent ≡ (course_after WINDOW (course_of done) step).sent
  one = ap (λ (x : Course Asked). x.sent) (course_append WINDOW done (step ∷ []) begun)

  -- the lemma above, by what is sent by then
  by_list : ((course_of (done ++ step ∷ [])).sent ≡ [] → slice_get (course_of ((done ++ step ∷ []) ++ steps)).sent 0 ≡ Some asked → SendsFirst ((done ++ step ∷ []) ++ steps) asked)
      → (l : List (Wanted Asked)) → (course_of (done ++ step ∷ [])).sent ≡ l → SendsFirst (done ++ step ∷ steps) asked
  by_list rest [] e = subst (λ (l : List (Step Asked)). SendsFirst l asked) order (rest e (ap (λ (l : List (Step Asked)). slice_get (course_of l).sent 0) order ∙ at))
  by_list rest (first ∷ others) e =
      let same : first ≡ asked = by_more in
      by_step step refl (sym one ∙ e ∙ ap (λ (a : Wanted Asked). a ∷ others) same) where
        -- what is sent first is the first request
        by_more : first ≡ asked
        by_more =
            let more = sent_by (course_of (done ++ step ∷ [])).client steps in
            let all : (course_of ((done ++ step ∷ []) ++ steps)).sent ≡ (first ∷ others) ++ more =
            ap (λ (x : Course Asked). x.sent) (course_append WINDOW (done ++ step ∷ []) steps begun) ∙ course_sent steps (course_of (done ++ step ∷ [])) ∙ ap (λ l. l ++ more) e in
            let got : ◌≡◌ {A = Option (Wanted Asked)} (Some first) (Some asked) =
            sym (ap (λ (l : List (Wanted Asked)). slice_get l 0) all) ∙ ap (λ (l : List (Step Asked)). slice_get (course_of l).sent 0) order ∙ at in cc

        -- a step that sends nothing doesn't send it
        nothing_more : (course_of done).sent ≡ asked ∷ others → ⊥
        nothing_more e = let no : ◌≡◌ {A = List (Wanted Asked)} [] (asked ∷ others) = sym none ∙ e in cc

        -- a step that sends it asks what it asks
        sent_one : (target : ℕ) (call : Asked) (full : Bool) (deadline : ℕ)
            → (sent_on (course_of done) target call (send_unless_full (course_of done).client target call deadline full)).sent ≡ asked ∷ others
            → Send target call deadline ≡ Send asked.target asked.call deadline
        sent_one target call true deadline sent = absurd (nothing_more sent)
        sent_one target call false deadline sent =
            let both : ◌≡◌ {A = List (Wanted Asked)} ((record { target = target; call = call }) ∷ []) (asked ∷ others) =
            sym (ap (λ l. l ++ (record { target = target; call = call }) ∷ []) none) ∙ sent in
            let own : ◌≡◌ {A = Wanted Asked} (record { target = target; call = call }) asked = cc in
            ap (λ (a : Wanted Asked). Send a.target a.call deadline) own

        -- the step that sends it, by which step it is
        by_step : (x : Step Asked) → step ≡ x → (course_after WINDOW (course_of done) step).sent ≡ asked ∷ others → SendsFirst (done ++ step ∷ steps) asked
        by_step (Send target call deadline) is sent =
            let it = sent_one target call (nat_eq (length (course_of done).client.waiting) WINDOW) deadline
            (sym (ap (λ (x : Step Asked). (course_after WINDOW (course_of done) x).sent) is) ∙ sent) in
            record {
              front = done;
              later = steps;
              deadline = deadline;
              split = ap (λ (x : Step Asked). done ++ x ∷ steps) (is ∙ it);
              none = none;
            }
        by_step (Hear line) is sent = absurd (nothing_more (ap (λ (x : Step Asked). (course_after WINDOW (course_of done) x).sent) (sym is) ∙ sent))
        by_step (Expire now) is sent = absurd (nothing_more (ap (λ (x : Step Asked). (course_after WINDOW (course_of done) x).sent) (sym is) ∙ sent))
        by_step Restart is sent = absurd (nothing_more (ap (λ (x : Step Asked). (course_after WINDOW (course_of done) x).sent) (sym is) ∙ sent))
