-- Null procedures behind a raw command of a setup: each that is lost leaves one fewer that may yet be sent, until one is answered or seven
-- are outstanding. An act is one call on the link, with its result.
use Rattle.gc_station.proofs.Common.{◌≡◌, inl, inr, ℕ, zero, suc, ◌+◌, ◌-◌, ◌*◌, ◌<◌, ◌≤◌, Bool, true, false, if◌then◌else◌, List, [], ◌∷◌, length, take, drop, refl, sym, ap, ◌∙◌, subst, arith, AllByRecursion, both_ways, length-append, suc-mul, every_weaker, is_of_table, Asked, Table, NullProc, pending_of, Pending, WINDOW, Occasion, Task, one_more_in_window, later, Model, asks_for, null_request, raw_count, command_at, Plan}
use Rattle.gc_station.proofs.HeldUp.{IsTableCall, of_table_at_any_moment}
use Rattle.gc_station.proofs.InFlight.{EndsEarly}
use Rattle.gc_station.proofs.Lists.{all_append}
use Rattle.gc_station.proofs.UnderWay.{sent_with_room, IsFlushing, setup_limit, GoesNext}

-- the raw commands among the first ones are no fewer than those among fewer of them
pub raws_rise : (k n : ℕ) (commands : List Task) → k ≤ n → raw_count (take k commands) ≤ raw_count (take n commands)
raws_rise zero n commands more = omega arith
raws_rise (suc k) zero commands more = absurd (omega (arith, more))
raws_rise (suc k) (suc n) [] more = omega arith
raws_rise (suc k) (suc n) (task ∷ commands) more = let on = raws_rise k n commands (omega (arith, more)) in omega (arith, on)

-- they are no more than all
pub raws_within : (k : ℕ) (commands : List Task) → raw_count (take k commands) ≤ raw_count commands
raws_within zero commands = omega arith
raws_within (suc k) [] = omega arith
raws_within (suc k) (task ∷ commands) = let on = raws_within k commands in omega (arith, on)

-- one more of the first n ones is a raw one
pub raws_next : (n k : ℕ) (commands : List Task) (task : Task) (others : List Task) → k < n → drop k commands ≡ task ∷ others → is_of_table task.command.call ≡ false
    → raw_count (take (suc k) (take n commands)) ≡ suc (raw_count (take k (take n commands)))
raws_next zero k commands task others below e raw = absurd (omega (arith, below))
raws_next (suc n) zero [] task others below e raw = cc
raws_next (suc n) zero (x ∷ commands) task others below e raw =
    let same : x ≡ task = cc in ap (λ (b : Bool). (if b then 0 else 1) + 0) (ap (λ (t : Task). is_of_table t.command.call) same ∙ raw)
raws_next (suc n) (suc k) [] task others below e raw = cc
raws_next (suc n) (suc k) (x ∷ commands) task others below e raw = let on = raws_next n k commands task others (omega (arith, below)) e raw in omega (arith, on)

-- a task that asks for a raw command asks for one in its text
pub raw_text : (task : Task) (occasion : Occasion) → is_of_table (command_at occasion task).call ≡ false → is_of_table task.command.call ≡ false
raw_text task occasion raw = by_test (is_of_table task.command.call) refl where
  -- the lemma above, whether its text has a call of the table
  by_test : (b : Bool) → is_of_table task.command.call ≡ b → is_of_table task.command.call ≡ false
  by_test false e = e
  by_test true e = absurd (both_ways (is_of_table (command_at occasion task).call) raw (of_table_at_any_moment task occasion e))

-- if a number of null procedures may yet be sent, and seven are reached with those that were, but not without, it isn't 0
one_fewer : (n more : ℕ) → 7 ≤ n + more → n < 7 → (left : ℕ) × (more ≡ suc left)
one_fewer n zero enough few = absurd (omega (arith, enough, few))
one_fewer n (suc left) enough few = (left, refl)

module _ (plan : Plan) (longest call turn loss : ℕ) (commands : List Task) (few : plan.deadline ≤ longest) (turns : longest + call ≤ turn) (losses : 7 * turn ≤ loss) (s : Model) where
  -- the moment by which all is over
  abbrev limit : ℕ
  limit = setup_limit plan longest call turn loss commands s.progress

  -- what is so of null procedures behind a raw command before another is sent: `left` may be sent behind that
  pub record MayFlush : Type 0 where
    pub raw : 0 < raw_count (take (plan.setup - 1) commands)
    pub tables : AllByRecursion IsTableCall s.client.waiting
    pub left : ℕ
    pub enough : 6 ≤ length s.client.waiting + left
    pub ends : AllByRecursion (EndsEarly (suc (call + left * turn)) limit) s.client.waiting
    pub soon : (s.progress.moment.elapsed + turn) + left * turn < limit

  -- it is so where the next command of the setup waits for a null procedure
  pub may_flush : WINDOW ≤ s.progress.exchange.behind → length s.client.waiting < WINDOW → GoesNext plan longest call turn loss commands s → MayFlush
  may_flush far room (inl (empty, read, inl (near, soon))) = absurd (omega (arith, near, far))
  may_flush far room (inl (empty, read, inr (raw, soon))) =
      record {
        raw = raw;
        tables = subst (λ (ws : List (Pending Asked)). AllByRecursion IsTableCall ws) (sym empty) tt;
        left = 6;
        enough = omega arith;
        ends = subst (λ (ws : List (Pending Asked)). AllByRecursion (EndsEarly (suc (call + 6 * turn)) limit) ws) (sym empty) tt;
        soon = omega (arith, soon, losses);
      }
  may_flush far room (inr f) =
      let it = one_fewer (length s.client.waiting) f.more (f.enough far) room in
      let same = it.1 in
      let enough = f.enough far in
      let soon = f.soon in
      let times : f.more * turn ≡ suc it.0 * turn = ap (λ (n : ℕ). n * turn) same in
      let more = suc-mul it.0 turn in
      record {
        raw = f.raw;
        tables = f.tables;
        left = it.0;
        enough = omega (arith, enough, same);
        ends = every_weaker (EndsEarly (suc (call + f.more * turn)) limit) (EndsEarly (suc (call + it.0 * turn)) limit) s.client.waiting
            (λ q by e. let low = by e in omega (arith, low, times, more)) f.ends;
        soon = omega (arith, soon, times, more);
      }

  -- after another null procedure was sent
  pub flushed_again : WINDOW ≤ s.progress.exchange.behind → (room : length s.client.waiting < WINDOW) → MayFlush
      → IsFlushing (raw_count (take (plan.setup - 1) commands)) call turn limit (one_more_in_window s.progress.exchange.behind) s.progress.moment.elapsed true (asks_for (null_request plan) s).client.waiting
  flushed_again far room f =
      let now = s.progress.moment.elapsed in
      let one = pending_of 0 (Table NullProc) (later now plan.deadline) in
      let more = length-append s.client.waiting (one ∷ []) in
      let enough = f.enough in
      let soon = f.soon in
      let early : EndsEarly (suc (call + f.left * turn)) limit one = λ e. omega (arith, soon, turns, few) in
      subst (λ (ws : List (Pending Asked)).
      IsFlushing (raw_count (take (plan.setup - 1) commands)) call turn limit (one_more_in_window s.progress.exchange.behind) now true ws)
      (sym (sent_with_room s.client (null_request plan).command now plan.deadline room))
      (record {
        raw = f.raw;
        tables = all_append IsTableCall s.client.waiting (one ∷ []) f.tables (refl, tt);
        more = f.left;
        enough = λ far'. omega (arith, more, enough);
        ends = all_append (EndsEarly (suc (call + f.left * turn)) limit) s.client.waiting (one ∷ []) f.ends (early, tt);
        soon = omega (arith, soon, turns);
      })
