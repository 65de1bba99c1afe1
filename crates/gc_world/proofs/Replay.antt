-- A replay: the executions of a run, one after the other, with the instrument's state before each and the reply to each.
use Rattle.gc_world.proofs.Common.{◌≡◌, ℕ, ◌+◌, ◌<◌, ◌||◌, Bool, true, false, List, [], ◌∷◌, ◌++◌, length, Some, refl, sym, ◌∙◌, ap, subst, arith, eqb, AllByRecursion, slice_get, ne_eqb, eq-eqb, or_right, Numbered, Ends, has_number, restarted_if, IsExecutedIn, handed_in}
use Rattle.gc_world.specs.World.{Sent}
use Rattle.gc_world.proofs.Places.{get_more}
use Rattle.gc_world.specs.Worlds

-- a number above all of these isn't among them
pub no_number : (n : ℕ) (xs : List ℕ) → AllByRecursion (λ x. x < n) xs → has_number n xs ≡ false
no_number n [] h = refl
no_number n (x ∷ xs) h = ap (λ b. b || has_number n xs) (ne_eqb x n (λ e. omega (arith, h.0, e))) ∙ no_number n xs h.1

-- appending a number m to a list doesn't change whether another number, n, is in it
has_number_push_other : (n m : ℕ) (xs : List ℕ) → (m ≡ n → ⊥) → has_number n (xs ++ m ∷ []) ≡ has_number n xs
has_number_push_other n m [] ne = ap (λ b. b || false) (ne_eqb m n ne)
has_number_push_other n m (x ∷ xs) ne = ap (λ b. eqb x n || b) (has_number_push_other n m xs ne)

-- a number that was appended to a list is in it
has_number_pushed : (n : ℕ) (xs : List ℕ) → has_number n (xs ++ n ∷ []) ≡ true
has_number_pushed n [] = ap (λ b. b || false) (eq-eqb n n refl)
has_number_pushed n (x ∷ xs) = ap (λ b. eqb x n || b) (has_number_pushed n xs) ∙ or_right (eqb x n) true refl

module _ {State : Type 0} (ends : Ends State) where
  -- the instrument executes request n in this state, makes this entry and goes on to the next state
  pub record Executes (sent : List Sent) (state : State) (n : ℕ) (entry : Numbered (List ℕ)) (after : State) : Type 0 where
    pub is_executed : IsExecutedIn ends sent n state
    pub number : entry.number ≡ n
    pub line : entry.line ≡ (handed_in ends is_executed).reply
    pub leads : (handed_in ends is_executed).state ≡ after

  -- a replay: requests ns are executed one after the other, from state s to state t, with replies ms. j executions came before;
  -- and after each execution the instrument is restarted where `starts` has the count of executions until then
  abbrev pub Replays : (sent : List Sent) (starts : List ℕ) (j : ℕ) (s : State) (ns : List ℕ) (ms : List (Numbered (List ℕ))) (t : State) → Type 0
  Replays sent starts j s [] [] t = s ≡ t
  Replays sent starts j s (n ∷ ns) (m ∷ ms) t = (mid : _) × Executes sent s n m mid × Replays sent starts (j + 1) (restarted_if ends.restarted (has_number (j + 1) starts) mid) ns ms t
  Replays sent starts j s [] (m ∷ ms) t = ⊥
  Replays sent starts j s (n ∷ ns) [] t = ⊥

  -- an execution stays one when more requests are sent
  executes_more : (sent more : List Sent) (s : State) (n : ℕ) (m : Numbered (List ℕ)) (t : State) → Executes sent s n m t → Executes (sent ++ more) s n m t
  executes_more sent more s n m t h =
      let d = h.is_executed in
      record {
        is_executed = record {
          request = d.request;
          found = get_more sent more n d.request d.found;
          id = d.id;
          small = d.small;
          line = d.line;
          executed = d.executed;
        };
        number = h.number;
        line = h.line;
        leads = h.leads;
      }

  -- a replay stays one when more requests are sent
  pub replays_more : (sent more : List Sent) (starts : List ℕ) (j : ℕ) (s : State) (ns : List ℕ) (ms : List (Numbered (List ℕ))) (t : State)
      → Replays sent starts j s ns ms t → Replays (sent ++ more) starts j s ns ms t
  replays_more sent more starts j s [] [] t h = h
  replays_more sent more starts j s (n ∷ ns) (m ∷ ms) t h = (h.0, executes_more sent more s n m h.0 h.1, replays_more sent more starts (j + 1) _ ns ms t h.2)
  replays_more sent more starts j s [] (m ∷ ms) t h = h
  replays_more sent more starts j s (n ∷ ns) [] t h = h

  -- where a replay ends in the state t, an execution leads from t to u, and `starts` doesn't have the number l of executions
  -- then, the replay followed by that execution is a replay that ends in u
  pub replays_push : (sent : List Sent) (starts : List ℕ) (j l : ℕ) (s : State) (ns : List ℕ) (ms : List (Numbered (List ℕ))) (t : State) (n : ℕ)
      (m : Numbered (List ℕ)) (u : State) → j + length ns + 1 ≡ l → has_number l starts ≡ false → Executes sent t n m u → Replays sent starts j s ns ms t
      → Replays sent starts j s (ns ++ n ∷ []) (ms ++ m ∷ []) u
  replays_push sent starts j l s [] [] t n m u e none r h =
      let e1 : l ≡ j + 1 = omega (arith, e) in
      (u, subst (λ x. Executes sent x n m u) (sym h) r, ap (λ b. restarted_if ends.restarted b u) (subst (λ k. has_number k starts ≡ false) e1 none))
  replays_push sent starts j l s (k ∷ ns) (x ∷ ms) t n m u e none r h = (h.0, h.1, replays_push sent starts (j + 1) l _ ns ms t n m u (omega (arith, e)) none r h.2)
  replays_push sent starts j l s [] (x ∷ ms) t n m u e none r h = absurd h
  replays_push sent starts j l s (k ∷ ns) [] t n m u e none r h = absurd h

  -- if restarting twice is restarting once, a restart leads to the same state, whether there was another one directly before it
  -- (b) or not
  restarted_twice : ((s : State) → ends.restarted (ends.restarted s) ≡ ends.restarted s) → (b : Bool) (s : State)
      → ends.restarted s ≡ ends.restarted (restarted_if ends.restarted b s)
  restarted_twice twice false s = refl
  restarted_twice twice true s = sym (twice s)

  -- if restarting twice is restarting once, a replay of at least one execution, with one more start after the last, is a replay
  -- that ends in the restarted state
  replays_start : ((s : State) → ends.restarted (ends.restarted s) ≡ ends.restarted s)
      → (sent : List Sent) (starts : List ℕ) (j l : ℕ) (s : State) (n : ℕ) (ns : List ℕ) (ms : List (Numbered (List ℕ))) (t : State) → j + length ns + 1 ≡ l
      → Replays sent starts j s (n ∷ ns) ms t → Replays sent (starts ++ l ∷ []) j s (n ∷ ns) ms (ends.restarted t)
  replays_start twice sent starts j l s n [] (m ∷ []) t e h =
      let e1 : j + 1 ≡ l = omega (arith, e) in (
        h.0,
        h.1,
        ap (λ b. restarted_if ends.restarted b h.0) (ap (λ k. has_number k (starts ++ l ∷ [])) e1 ∙ has_number_pushed l starts)
            ∙ restarted_twice twice (has_number (j + 1) starts) h.0 ∙ ap ends.restarted h.2,
      )
  replays_start twice sent starts j l s n (k ∷ ns) (m ∷ ms) t e h =
      let b = has_number_push_other (j + 1) l starts (λ same. omega (arith, e, same)) in (
        h.0,
        h.1,
        subst (λ v. Replays sent (starts ++ l ∷ []) (j + 1) (restarted_if ends.restarted v h.0) (k ∷ ns) ms (ends.restarted t)) (sym b)
            (replays_start twice sent starts (j + 1) l _ k ns ms t (omega (arith, e)) h.2),
      )
  replays_start twice sent starts j l s n [] [] t e h = absurd h
  replays_start twice sent starts j l s n [] (m ∷ (x ∷ ms)) t e h = absurd h.2
  replays_start twice sent starts j l s n (k ∷ ns) [] t e h = absurd h

  -- if restarting twice is restarting once, a replay from the restarted opening state on, also of no executions, with one more
  -- start after it, is a replay that ends in the restarted state
  pub replays_started : ((s : State) → ends.restarted (ends.restarted s) ≡ ends.restarted s)
      → (sent : List Sent) (starts : List ℕ) (opening : State) (ns : List ℕ) (ms : List (Numbered (List ℕ))) (t : State)
      → Replays sent starts 0 (ends.restarted opening) ns ms t → Replays sent (starts ++ length ns ∷ []) 0 (ends.restarted opening) ns ms (ends.restarted t)
  replays_started twice sent starts opening [] [] t h = sym (twice opening) ∙ ap ends.restarted h
  replays_started twice sent starts opening (n ∷ ns) ms t h = replays_start twice sent starts 0 (length (n ∷ ns)) (ends.restarted opening) n ns ms t (omega arith) h
  replays_started twice sent starts opening [] (m ∷ ms) t h = absurd h

-- a request in flight is the one that was sent with its number: it has that one's call, and an id below 8 with which that one's
-- line was written
pub record IsAsSent {Q : Type 0} (written : ℕ → Q → List ℕ) (sent : List (Worlds.Sent Q)) (x : Numbered (Worlds.Request Q)) : Type 0 where
  pub request : Worlds.Sent Q
  pub found : slice_get sent x.number ≡ Some request
  pub small : x.line.id < 8
  pub call : request.call ≡ x.line.call
  pub text : request.line ≡ written x.line.id x.line.call

-- a request in flight stays the one that was sent with its number when more are sent
pub as_sent_more : {Q : Type 0} (written : ℕ → Q → List ℕ) (sent more : List (Worlds.Sent Q)) (x : Numbered (Worlds.Request Q)) → IsAsSent written sent x
    → IsAsSent written (sent ++ more) x
as_sent_more written sent more x h = record { request = h.request; found = get_more sent more x.number h.request h.found; small = h.small; call = h.call; text = h.text }
