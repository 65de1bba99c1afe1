-- A setup of which something was sent is under way: its last command is alone, and once that was answered well, before its deadline was
-- read, nothing is outstanding. So if the first command was sent before the cycle was out of time, each later one is sent at most a
-- deadline later than the one before it; or, after a raw one, once up to seven null procedures were lost. An act is one call on the link,
-- with its result.
use Rattle.gc_station.proofs.Common.{◌≡◌, ◌⊎◌, inl, inr, ℕ, suc, ◌+◌, ◌*◌, ◌-◌, ◌<◌, ◌≤◌, ◌&&◌, ◌||◌, Bool, true, false, not, if◌then◌else◌, List, [], ◌∷◌, ◌++◌, length, take, drop, Option, Some, None, nat_lt, nat_le, nat_eq, refl, sym, ap, ◌∙◌, subst, arith, append-nil, slice_get, AllByRecursion, both_ways, nat_tests, every_drop, Asked, ById, hears, heard, settles_at, nothing_settled, fits, place_in, settle, pending_of, send_unless_full, WINDOW, Pending, length-settle, Task, Wish, is_reply, ends_with_table, is_some_of_table, client_sent, later, has_begun, is_up, is_preparing, setup_permits, commands_in, last_well, records_of, Model, waiting_of, with_progress, sent_to, line_came, line_doubted, line_settles, losing, with_losses, failing, is_over, is_over_in, loses_all, raw_count, Record, Cause, Plan, Phase, Progress, Waiting}
use Rattle.gc_station.proofs.HeldUp.{IsTableCall, settle_tables}
use Rattle.gc_station.proofs.InFlight.{EndsBy, EndsAfter, EndsEarly, all_heard}
use Rattle.gc_station.proofs.Invariant.{is_before_requests}
use Rattle.gc_station.proofs.LastCommand.{LastIsAlone, alone_dropped, none_recorded, heard_well}
use Rattle.gc_station.proofs.Losing.{loses_nothing}
use Rattle.gc_station.proofs.Records.{last-append, records-none}
use Rattle.gc_station.specs.declared.progress.Phase.TheVariants as phase

-- Tests.

-- a setup that keeps a cycle from being abandoned isn't done, something of it was sent, and no command is outstanding
pub not_permitted : (plan : Plan) (p : Progress) (w : Waiting) → setup_permits plan p w ≡ false → (is_preparing plan p w ≡ true) × (0 < p.prepared) × (w.commands ≡ 0)
not_permitted plan p w e = by_tests (is_preparing plan p w) (nat_eq p.prepared 0) (nat_lt 0 w.commands) refl refl refl e where
  -- the lemma above, by each test
  by_tests : (preparing none some : Bool) → is_preparing plan p w ≡ preparing → nat_eq p.prepared 0 ≡ none → nat_lt 0 w.commands ≡ some → (not preparing || (none || some)) ≡ false
      → (is_preparing plan p w ≡ true) × (0 < p.prepared) × (w.commands ≡ 0)
  by_tests true false false a b c f = (a, grind (arith, nat_tests, b), grind (arith, nat_tests, c))
  by_tests false none some a b c f = cc
  by_tests true true some a b c f = cc
  by_tests true false true a b c f = cc

-- while the setup isn't done, `preparing` says so
pub preparing_then : (b c : Bool) → (b && c) ≡ true → b ≡ true
preparing_then true c e = refl
preparing_then false c e = cc

-- if the setup isn't done, though no command is outstanding and the last one was answered well, some of it wasn't sent
pub some_unsent : (plan : Plan) (p : Progress) (w : Waiting) → is_preparing plan p w ≡ true → w.commands ≡ 0 → w.well ≡ true → p.prepared < plan.setup
some_unsent plan p w on none well = by_tests p.preparing (nat_le plan.setup p.prepared) (nat_eq w.commands 0) w.well refl (grind (arith, nat_tests, none)) well on where
  -- the lemma above, by each test
  by_tests : (preparing all settled well : Bool) → nat_le plan.setup p.prepared ≡ all → settled ≡ true → well ≡ true → (preparing && not (all && settled && well)) ≡ true → p.prepared < plan.setup
  by_tests preparing false settled well e s w f = grind (arith, nat_tests, e)
  by_tests false true settled well e s w f = cc
  by_tests true true true true e s w f = cc
  by_tests true true false well e s w f = cc
  by_tests true true true false e s w f = cc

-- while not all of the setup was sent, it isn't done
pub still_preparing : (plan : Plan) (p : Progress) (w : Waiting) → p.preparing ≡ true → p.prepared < plan.setup → is_preparing plan p w ≡ true
still_preparing plan p w on some = by_tests p.preparing (nat_le plan.setup p.prepared) (nat_eq w.commands 0) w.well on (grind (arith, nat_tests, some)) where
  -- the lemma above, by each test
  by_tests : (preparing all settled well : Bool) → preparing ≡ true → all ≡ false → (preparing && not (all && settled && well)) ≡ true
  by_tests true false settled well a b = refl
  by_tests false all settled well a b = cc
  by_tests true true settled well a b = cc

-- a cycle that begins or goes on in the middle of a setup ends that
pub none_prepared : (b : Bool) (n : ℕ) → (b && nat_eq n 0) ≡ true → 0 < n → ⊥
none_prepared false n e some = cc
none_prepared true n e some = grind (arith, nat_tests, e, some)

-- a call that failed isn't followed by a phase before requests, nor by `Ready`
failed_phase : (up : Bool) (why : Cause) → (is_before_requests (if up then phase.Closing why else phase.Over why) ≡ false) × ((if up then phase.Closing why else phase.Over why) ≡ phase.Ready → ⊥)
failed_phase true why = (refl, λ e. cc)
failed_phase false why = (refl, λ e. cc)

-- a request is added to those that are outstanding, if there is room
pub sent_with_room : (c : ById Asked) (command : Wish) (now wait : ℕ) → length c.waiting < WINDOW → (sent_to WINDOW c command now wait).waiting ≡ c.waiting ++ pending_of command.target command.call (later now wait) ∷ []
sent_with_room c command now wait room = ap (λ (b : Bool). (client_sent c (send_unless_full c command.target command.call (later now wait) b)).waiting) (less (length c.waiting) room) where
  -- a number below seven isn't seven
  less : (n : ℕ) → n < 7 → nat_eq n 7 ≡ false
  less n low = grind (arith, nat_tests, low)

-- of a raw command of the setup, which has `raws` of them before its last command: its deadline `d` is at least `loss` before `limit`
pub record IsEarly (raws loss limit d : ℕ) : Type 0 where
  pub raw : 0 < raws
  pub by : d + loss ≤ limit

-- behind a raw command of a setup, which has `raws` of them, null procedures are sent until one is answered. Of a station that counts
-- `behind` requests after the last answered call of the table, with the moment `now` read last, which is out of date (`due`) or not, and with these
-- null procedures outstanding: `more` of them may yet be sent, each of which takes `turn` at most, of which `call` is what a call takes;
-- so all is over by `limit`
pub record IsFlushing (raws call turn limit behind now : ℕ) (due : Bool) (ws : List (Pending Asked)) : Type 0 where
  pub raw : 0 < raws
  pub tables : AllByRecursion IsTableCall ws
  pub more : ℕ
  pub enough : WINDOW ≤ behind → WINDOW ≤ length ws + more
  pub ends : AllByRecursion (EndsEarly (suc (call + more * turn)) limit) ws
  pub soon : (now + (if due then call else 0)) + more * turn < limit

module _ (plan : Plan) (longest call turn loss : ℕ) (commands : List Task) where
  -- how many raw commands the setup has before its last command
  abbrev pub raws : ℕ
  raws = raw_count (take (plan.setup - 1) commands)

  -- the moment by which the last command of the setup that was sent has timed out at the latest, or, if that is raw, the null procedures
  -- behind it: that at which the cycle is out of time, the longest deadline once more than commands of the setup were sent, and `loss` for
  -- each raw one of these
  abbrev pub setup_limit : Progress → ℕ
  setup_limit p = (p.began + 2 * plan.every) + ((longest + p.prepared * longest) + raw_count (take p.prepared (take (plan.setup - 1) commands)) * loss)

  -- the deadline `d` of the command of the setup that was sent last is early, if that is raw, and another command follows
  abbrev pub IsEarlyIn : Progress → (d : ℕ) → Type 0
  IsEarlyIn p d = p.prepared < plan.setup → IsEarly raws loss (setup_limit p) d

  -- the last command of the setup was just answered: nothing is outstanding, the moment was read, and it is before `setup_limit`; if a
  -- null procedure is wanted, it is `loss` before that
  abbrev pub IsSettled : Model → Type 0
  IsSettled x =
      (x.client.waiting ≡ []) × (x.progress.clock_due ≡ false)
      × (((x.progress.exchange.behind < WINDOW) × (x.progress.moment.elapsed < setup_limit x.progress))
      ⊎ ((0 < raws) × (x.progress.moment.elapsed + loss < setup_limit x.progress)))

  -- the last command of the setup was answered, and the next is sent at once, or behind null procedures
  abbrev pub GoesNext : Model → Type 0
  GoesNext x = IsSettled x ⊎ IsFlushing raws call turn (setup_limit x.progress) x.progress.exchange.behind x.progress.moment.elapsed x.progress.clock_due x.client.waiting

  -- of a setup of which something was sent: its last command is alone (`LastIsAlone`), each request ends by `setup_limit`, and if all that
  -- was sent is settled, the last command was answered well, and another one is left, `GoesNext` holds
  abbrev pub IsUnderWay : Model → Type 0
  IsUnderWay x =
      LastIsAlone (IsEarlyIn x.progress) x.marks x.client.waiting × AllByRecursion (EndsBy (setup_limit x.progress)) x.client.waiting
      × (x.progress.prepared < plan.setup → commands_in x.marks ≡ 0 → last_well false x.records ≡ true → GoesNext x)

  -- if something of the setup was sent, and no command of a cycle after it, it is under way
  abbrev pub GoesOn : Model → Type 0
  GoesOn x = x.progress.preparing ≡ true → 0 < x.progress.prepared → IsUnderWay x

  -- if something of the setup was sent, and no command of a cycle after it, the station has synchronized, and the connection is quiet
  abbrev pub IsWithin : Progress → Type 0
  IsWithin p = p.preparing ≡ true → 0 < p.prepared → (has_begun p ≡ true) × (is_before_requests p.phase ≡ false)

  -- both, the former in the phase `Ready`
  abbrev pub SettingUp : Model → Type 0
  SettingUp x = IsWithin x.progress × (x.progress.phase ≡ phase.Ready → GoesOn x)

  -- where the next command of a setup that keeps the cycle from being abandoned is to be sent, the moment is before `setup_limit`
  pub soon_if_well : (s : Model) → SettingUp s → s.progress.phase ≡ phase.Ready
      → (is_preparing plan s.progress (waiting_of s) ≡ true) × (0 < s.progress.prepared) × (commands_in s.marks ≡ 0) → last_well false s.records ≡ true
      → s.progress.moment.elapsed < setup_limit s.progress
  soon_if_well s h ready setup well =
      by_way ((h.1 ready (preparing_then s.progress.preparing _ setup.0) setup.1).2 (some_unsent plan s.progress (waiting_of s) setup.0 setup.2 well) setup.2 well) where
        -- the lemma above, by how the setup goes on
        by_way : GoesNext s → s.progress.moment.elapsed < setup_limit s.progress
        by_way (inl (empty, read, inl (near, soon))) = soon
        by_way (inl (empty, read, inr (raw, soon))) = omega (arith, soon)
        by_way (inr it) = let soon = it.soon in omega (arith, soon)

  -- Lines.

  -- a line that settles nothing keeps a setup under way
  nothing_heard : (x : Model) (line : List ℕ) → IsUnderWay x → IsUnderWay (line_settles (is_reply line) (nothing_settled x.client) x)
  nothing_heard x line h = (
    h.0,
    h.1,
    λ few none well. h.2 few none (sym (ap (last_well false) (ap (λ rs. x.records ++ rs) (records-none x.reads x.progress.moment.utc x.marks) ∙ append-nil x.records)) ∙ well),
  )

  -- a line that settles requests keeps a setup under way: if it answers the last command well, that was alone
  some_heard : (x : Model) (line : List ℕ) (k : ℕ) → k < length x.client.waiting → IsUnderWay x → AllByRecursion (EndsAfter x.progress.moment.elapsed) x.client.waiting
      → x.progress.clock_due ≡ false → IsUnderWay (line_settles (is_reply line) (settles_at x.client line k true) x)
  some_heard x line k below h after read =
      let ws = x.client.waiting in
      let many = length-settle k line ws below in
      let n = length (settle k line ws) in
      let e : n ≡ suc k = omega (arith, many) in
      let f : k + 1 ≡ suc k = omega arith in (
        subst (λ (i : ℕ). LastIsAlone early (drop i x.marks) (drop (k + 1) ws)) (sym e)
            (subst (λ (j : ℕ). LastIsAlone early (drop (suc k) x.marks) (drop j ws)) (sym f) (alone_dropped early (suc k) x.marks ws h.0)),
        every_drop (EndsBy (setup_limit x.progress)) ws (k + 1) h.1,
        λ few none well. by_test few (subst (λ (i : ℕ). commands_in (drop i x.marks) ≡ 0) e none) well (nat_eq (commands_in x.marks) 0) refl,
      ) where
        -- which deadlines of raw commands are early
        early : ℕ → Type 0
        early = IsEarlyIn x.progress

        -- the records of what the line settles
        news : List Record
        news = records_of x.reads x.progress.moment.utc x.marks (settle k line x.client.waiting)

        -- the settlement at place k is the last one
        last_at : length (settle k line x.client.waiting) - 1 ≡ k
        last_at = let many = length-settle k line x.client.waiting below in omega (arith, many)

        -- the count of requests after the last answered call of the table is how many are left, if the last settlement is of such a call
        counts : (b : Bool) → is_some_of_table (slice_get (settle k line x.client.waiting) k) ≡ b
            → (if ends_with_table (settle k line x.client.waiting) then length (drop (k + 1) x.client.waiting) else x.progress.exchange.behind)
            ≡ (if b then length (drop (k + 1) x.client.waiting) else x.progress.exchange.behind)
        counts b e =
            ap (λ (t : Bool). if t then length (drop (k + 1) x.client.waiting) else x.progress.exchange.behind)
            (ap (λ n. is_some_of_table (slice_get (settle k line x.client.waiting) n)) last_at ∙ e)

        -- null procedures that were settled
        flushed : GoesNext x → GoesNext (line_settles (is_reply line) (settles_at x.client line k true) x)
        flushed (inl it) = let empty : length x.client.waiting ≡ 0 = ap length it.0 in absurd (omega (arith, empty, below))
        flushed (inr it) =
            let same = counts true (settle_tables k line x.client.waiting below it.tables) in
            inr (record {
              raw = it.raw;
              tables = every_drop IsTableCall x.client.waiting (k + 1) it.tables;
              more = it.more;
              enough = λ far. omega (arith, same, far);
              ends = every_drop (EndsEarly (suc (call + it.more * turn)) (setup_limit x.progress)) x.client.waiting (k + 1) it.ends;
              soon = it.soon;
            })

        -- the lemma above, whether commands were outstanding before
        by_test : x.progress.prepared < plan.setup → commands_in (drop (suc k) x.marks) ≡ 0 → last_well false (x.records ++ news) ≡ true
            → (b : Bool) → nat_eq (commands_in x.marks) 0 ≡ b → GoesNext (line_settles (is_reply line) (settles_at x.client line k true) x)
        by_test few none well true e =
            let settled : commands_in x.marks ≡ 0 = grind (arith, nat_tests, e) in
            let no_news : news ≡ [] = none_recorded x.reads x.progress.moment.utc x.marks (settle k line x.client.waiting) settled in
            flushed (h.2 few settled (sym (ap (last_well false) (ap (λ rs. x.records ++ rs) no_news ∙ append-nil x.records)) ∙ well))
        by_test few none well false e = by_table (is_some_of_table (slice_get (settle k line x.client.waiting) k)) refl where
          -- how the last command was answered
          it : (drop (suc k) x.client.waiting ≡ []) × (x.progress.moment.elapsed < setup_limit x.progress)
              × (is_some_of_table (slice_get (settle k line x.client.waiting) k) ≡ false → (d : ℕ) × (x.progress.moment.elapsed < d) × early d)
          it = heard_well early (setup_limit x.progress) x.progress.moment.elapsed line x.reads x.progress.moment.utc k x.marks x.client.waiting (last_well false x.records)
              h.0 h.1 after below (grind (arith, nat_tests, e)) none (sym (last-append false x.records news) ∙ well)

          -- nothing is left
          left : drop (k + 1) x.client.waiting ≡ []
          left = let f : k + 1 ≡ suc k = omega arith in ap (λ (j : ℕ). drop j x.client.waiting) f ∙ it.0

          -- the lemma above, whether the last command is a call of the table
          by_table : (b : Bool) → is_some_of_table (slice_get (settle k line x.client.waiting) k) ≡ b → GoesNext (line_settles (is_reply line) (settles_at x.client line k true) x)
          by_table true e =
              let near = counts true e in
              let none_left : length (drop (k + 1) x.client.waiting) ≡ 0 = ap length left in
              inl (left, read, inl (omega (arith, near, none_left), it.1))
          by_table false e =
              let far = it.2 e in
              let low = far.1 in
              let it_is = far.2 few in
              let high = it_is.by in
              inl (left, read, inr (it_is.raw, omega (arith, low, high)))

  -- of a model whose moment was read: each request that hasn't timed out has its deadline after it, and the setup goes on
  abbrev pub Listens : Model → Type 0
  Listens x = GoesOn x × AllByRecursion (EndsAfter x.progress.moment.elapsed) x.client.waiting × (x.progress.clock_due ≡ false)

  -- a line keeps this
  pub line_heard : (x : Model) (line : List ℕ) → Listens x → Listens (line_came x line)
  line_heard x line h = (λ on some. by_id (heard line) (h.0 on some), all_heard (EndsAfter x.progress.moment.elapsed) x.client line (heard line) h.1, h.2) where
    -- by the id of the line
    by_id : (o : Option ℕ) → IsUnderWay x → IsUnderWay (line_settles (is_reply line) (hears x.client line o) (line_doubted line x))
    by_id None under = nothing_heard (line_doubted line x) line under
    by_id (Some id) under = by_test (place_in x.client id) (fits x.client (Some id)) refl where
      -- whether a request has that id
      by_test : (k : ℕ) (b : Bool) → nat_lt k (length x.client.waiting) ≡ b → IsUnderWay (line_settles (is_reply line) (settles_at x.client line k b) (line_doubted line x))
      by_test k true e = some_heard (line_doubted line x) line k (grind (arith, nat_tests, e)) under h.1 h.2
      by_test k false e = nothing_heard (line_doubted line x) line under

  -- a call that failed leaves a setup within its connection
  failed_within : (p : Progress) (why : Cause) → IsWithin p → IsWithin (failing why p)
  failed_within p why h on some = ((h on some).0, (failed_phase (is_up p.phase) why).0)

  -- so after it all is as it should be
  pub failed_sets : (x : Model) (why : Cause) → IsWithin x.progress → SettingUp (with_progress (failing why) x)
  failed_sets x why h = (failed_within x.progress why h, λ ready. absurd ((failed_phase (is_up x.progress.phase) why).1 ready))

  -- the loss of what is outstanding keeps `SettingUp`: in the phase `Ready` nothing is lost once the station has synchronized
  pub sets_losses : (t : Model) → SettingUp t → SettingUp (with_losses t)
  sets_losses t h = by_test (loses_all t.progress) refl where
    -- the lemma above, whether all is lost
    by_test : (b : Bool) → loses_all t.progress ≡ b → SettingUp (losing b t)
    by_test false e = h
    by_test true e = (
      h.0,
      λ ready on some.
          let going : is_over t.progress ≡ false = ap (λ (at : Phase). is_over_in at || (not (is_up at) && nat_eq t.progress.turns 0)) ready in
          absurd (both_ways (loses_all t.progress) (loses_nothing (has_begun t.progress) (is_over t.progress) (h.0 on some).0 going) e),
    )
