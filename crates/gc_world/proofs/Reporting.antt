-- What holds of a run's wire holds of a report that has its lists and counts (`IsReport`).
use Rattle.gc_world.proofs.Common.{◌≡◌, ℕ, zero, suc, ◌+◌, ◌<◌, ◌≤◌, inl, inr, List, [], ◌∷◌, length, Some, refl, sym, ◌∙◌, ap, subst, arith, AllByRecursion, slice_get, cases_lt, length-map, recursion_from_All, IsFitting, request_line, IsReading, Call, IsReadBy, settlement_seen, outcome_seen, State, IsFittingState, restarted, exec, executed_line, without_kept, Made, Report, Sent, OneForOne, IsBookedAnswer, BooksAnswers, has_number, restarted_if, AreStatesBefore, IsReplyOf, RecordsExecution, ActsOnce, sent_seen, AgreesWith, Increasing, IsOneForOne, IsBooked, IsExecutedIn, HasExecutions, made_seen, IsReport, IsNoLongerThan, ends, Numbered, Wire, same_Some, none-some, slice_get_within}
use Rattle.gc_client.specs.declared.settlement.Settlement.{Settlement}
use Rattle.gc_client.specs.declared.settlement.Outcome.{Outcome}
use Rattle.gc_client.specs.declared.settlement.Outcome.TheVariants.{Answered, Late, Lost}
use Rattle.gc_world.proofs.Counts.{IsWithin}
use Rattle.gc_world.proofs.Handing.{without_kept_after, line_without_kept, without_kept_restarted, fine}
use Rattle.gc_world.proofs.Places.{get_map, get_seen, element_at, all_at}
use Rattle.gc_client.specs.Rule
use Rattle.gc_world.specs.World

-- increasing numbers from `low` on are at least `low`
above_low : (low : ℕ) (xs : List ℕ) (j m : ℕ) → Increasing low xs → slice_get xs j ≡ Some m → low ≤ m
above_low low [] j m h e = absurd (none-some m e)
above_low low (x ∷ xs) zero m h e = subst (λ k. low ≤ k) (same_Some x m e) h.0
above_low low (x ∷ xs) (suc j) m h e = omega (arith, h.0, above_low (x + 1) xs j m h.1 e)

-- of increasing numbers the one at a later place is greater than the one at an earlier place
increasing_rises : (low : ℕ) (xs : List ℕ) (i j n m : ℕ) → Increasing low xs → i < j → slice_get xs i ≡ Some n → slice_get xs j ≡ Some m → n < m
increasing_rises low [] i j n m h lt e f = absurd (none-some n e)
increasing_rises low (x ∷ xs) i zero n m h lt e f = absurd (omega (arith, lt))
increasing_rises low (x ∷ xs) zero (suc j) n m h lt e f = let above = above_low (x + 1) xs j m h.1 f in omega (arith, above, same_Some x n e)
increasing_rises low (x ∷ xs) (suc i) (suc j) n m h lt e f = increasing_rises (x + 1) xs i j n m h.1 (omega (arith, lt)) e f

module _ (r : Report State) (w : Wire State) (h : IsReport r w) where
  -- the report has as many requests as the run
  sent_length : length r.sent ≡ length w.sent
  sent_length = sym (length-map r.sent sent_seen) ∙ ap length h.sent

  -- the report has as many replies as the run
  made_length : length r.made ≡ length w.made
  made_length = sym (length-map r.made made_seen) ∙ ap length h.made

  -- the report has as many settlements as the run
  settled_length : length r.settled ≡ length w.settled
  settled_length = sym (length-map r.settled settlement_seen) ∙ ap length h.settled.seen

  -- the settlement at a place of the report is the run's at that place
  settled_at : (m : ℕ) (s : Settlement Call) → slice_get r.settled m ≡ Some s → slice_get w.settled m ≡ Some (settlement_seen s)
  settled_at m s e = ap (λ l. slice_get l m) (sym h.settled.seen) ∙ get_map settlement_seen r.settled m s e

  -- where the run is one for one, the report is
  pub one_for_one : IsOneForOne w.sent w.settled → OneForOne r
  one_for_one one =
      record {
        count = omega (arith, one.count, sent_length, settled_length);
        same = λ m s q e f.
            one.same m (settlement_seen s) (sent_seen q) (settled_at m s e) (ap (λ l. slice_get l m) (sym h.sent) ∙ get_map sent_seen r.sent m q f);
      }

  -- Premises: the calls of the report fit, and the run's answers are booked, for fitting states.
  module _ (fits : AllByRecursion (λ (q : Sent). IsFitting q.call) r.sent)
      (booked : (m : ℕ) (s : Rule.Settlement Call) → slice_get w.settled m ≡ Some s → IsBooked ends IsFittingState w.made m s) where
    -- where the report is one for one, settlement m of the report, with the outcome o, is booked for request m if it is an answer
    -- whose reading is that of its line
    booked_at : (one : OneForOne r)
        → (m : ℕ) (s : Settlement Call) (o : Outcome) → s.outcome ≡ o → slice_get r.settled m ≡ Some s → IsReadBy IsReading s.call o → IsBookedAnswer r m s.call o
    booked_at one m s Late o e read = tt
    booked_at one m s Lost o e read = tt
    booked_at one m s (Answered reading line) o e read =
        let b = booked m (settlement_seen s) (settled_at m s e) line.items (ap outcome_seen o) in
        let at = b.0.0 in
        let entry = get_seen made_seen r.made at (record { number = m; line = line.items }) (ap (λ l. slice_get l at) h.made ∙ b.0.1) in
        let q = element_at r.sent m (omega (arith, one.count, slice_get_within r.settled m s e)) in
        let same = (one.same m s q.0 e q.1).1 in
        record {
          place = at;
          entry = entry.0;
          made = entry.1;
          number = ap (λ (x : Numbered (List ℕ)). x.number) entry.2;
          same_line = ap (λ (x : Numbered (List ℕ)). x.line) entry.2;
          reads = read;
          fine = fine s.call line.items reading b.1 (subst IsFitting (sym same) (all_at (λ (p : Sent). IsFitting p.call) r.sent m q.0 fits q.1)) read;
        }

    -- where the report is one for one, its answers are booked
    pub books_answers : OneForOne r → BooksAnswers r
    books_answers one m s e =
        booked_at one m s s.outcome refl e
        (all_at (λ (x : Settlement Call). IsReadBy IsReading x.call x.outcome) r.settled m s
        (recursion_from_All (λ (x : Settlement Call). IsReadBy IsReading x.call x.outcome) r.settled h.settled.read) e)

  module _ (opening : State) (x : HasExecutions ends opening w) where
    -- the state before each execution, as the run has it, but with no kept reply
    abbrev before : ℕ → State
    before j = without_kept (x.before j)

    -- the number at a place of the report's executions is the run's
    executed_is : (j n : ℕ) → slice_get r.executed j ≡ Some n → slice_get w.executed j ≡ Some n
    executed_is j n e = ap (λ l. slice_get l j) (sym h.executed) ∙ e

    -- where request n was executed (`IsExecutedIn`), the report's request n is that request
    request_of : (j n : ℕ) (d : IsExecutedIn ends w.sent n (x.before j)) → (q : Sent) × (slice_get r.sent n ≡ Some q) × (sent_seen q ≡ d.request)
    request_of j n d = get_seen sent_seen r.sent n d.request (ap (λ l. slice_get l n) h.sent ∙ d.found)

    -- the states `before` are those before the executions of the report, as `AreStatesBefore` has it
    states : AreStatesBefore opening r before
    states =
        record {
          first = ap without_kept x.first;
          next = λ j n request e sent.
              let one = x.each j n (executed_is j n e) in
              let d = one.is_executed in
              let q = request_of j n d in
              let call : d.request.call ≡ request.call = sym (ap (λ (p : World.Sent). p.call) q.2) ∙ ap (λ (p : Sent). p.call) (same_Some q.0 request (sym q.1 ∙ sent)) in
              ap without_kept one.next
              ∙ without_kept_restarted (has_number (j + 1) w.starts) _ _ (without_kept_after (x.before j) d.id d.request.call d.executed)
              ∙ ap (λ starts. restarted_if restarted (has_number (j + 1) starts) (exec (before j) d.request.call).state) (sym h.starts)
              ∙ ap (λ c. restarted_if restarted (has_number (j + 1) r.starts) (exec (before j) c).state) call;
        }

    -- the report's executed numbers strictly increase
    climbs : (i j n m : ℕ) → i < j → slice_get r.executed i ≡ Some n → slice_get r.executed j ≡ Some m → n < m
    climbs i j n m lt e f = increasing_rises 0 w.executed i j n m x.climbs lt (executed_is i n e) (executed_is j m f)

    -- no number was executed twice
    alone : (i j n : ℕ) → slice_get r.executed i ≡ Some n → slice_get r.executed j ≡ Some n → i ≡ j
    alone i j n e f = elim (cases_lt i j) [
      | inl lt ↦ absurd (omega (arith, climbs i j n n lt e f))
      | inr ge ↦ elim (cases_lt j i) [
        | inl gt ↦ absurd (omega (arith, climbs j i n n gt f e))
        | inr le ↦ omega (arith, ge, le)
      ]
    ]

    -- each reply of the report is that of an execution, as `IsReplyOf` has it
    reply_of : (k : ℕ) (entry : Made) → slice_get r.made k ≡ Some entry → IsReplyOf r before entry
    reply_of k entry e =
        let y = x.replies k (made_seen entry) (ap (λ l. slice_get l k) (sym h.made) ∙ get_map made_seen r.made k entry e) in
        let d = y.execution.is_executed in
        let q = request_of y.j entry.number d in
        let call : q.0.call ≡ d.request.call = ap (λ (p : World.Sent). p.call) q.2 in
        let executed = ap (λ l. slice_get l y.j) h.executed ∙ y.executed in
        record {
          j = y.j;
          executed = executed;
          alone = λ i f. alone i y.j entry.number f executed;
          request = q.0;
          sent = q.1;
          id = d.id;
          digit = d.small;
          request_is = ap (λ (p : World.Sent). p.line) q.2 ∙ d.line ∙ ap (λ c. request_line (Some d.id) c) (sym call);
          line_is = y.line ∙ line_without_kept (x.before y.j) d.id d.request.call d.executed ∙ ap (λ c. executed_line d.id (exec (before y.j) c)) (sym call);
        }

    -- each executed number has a reply in the report
    replied : (j n : ℕ) → slice_get r.executed j ≡ Some n → (k : ℕ) × (entry : Made) × (slice_get r.made k ≡ Some entry) × (entry.number ≡ n)
    replied j n e =
        let d = x.each j n (executed_is j n e) in
        let entry = get_seen made_seen r.made d.place _ (ap (λ l. slice_get l d.place) h.made ∙ d.made) in
        (d.place, entry.0, entry.1, ap (λ (y : Numbered (List ℕ)). y.number) entry.2)

    -- the report records the execution
    pub records_execution : RecordsExecution opening r
    records_execution = record { before = before; states = states; replies = reply_of; replied = replied }

    -- by the report each request acted at most once (`ActsOnce`)
    pub acts_once : ActsOnce opening r
    acts_once =
        record {
          climbs = climbs;
          before = before;
          states = states;
          last = ap without_kept (h.instrument ∙ x.last) ∙ ap (λ l. before (length l)) (sym h.executed);
        }

  -- the report agrees (`AgreesWith`) with each wire v that equals the run's
  pub agrees_with : (v : Wire State) → w ≡ v → AgreesWith v r
  agrees_with v same = subst (λ u. AgreesWith u r) same (record { sent = h.sent; settled = h.settled; refused = h.refused; idle = h.idle })

  -- where the run's lists are within n (`IsWithin`), and the report is one for one, no list of the report is longer than n
  pub no_longer : (n : ℕ) → IsWithin n w → OneForOne r → IsNoLongerThan n r
  no_longer n few one =
      record {
        sent = omega (arith, sent_length, few.sent);
        executed = omega (arith, ap length h.executed, few.executed);
        made = omega (arith, made_length, few.made);
        settled = omega (arith, sent_length, few.sent, one.count);
        starts = subst (λ l. length l ≤ n) (sym h.starts) few.starts;
      }
