-- Each mark expects of its command's answer what the text says, and each record is as its text says: it has the turn of its
-- command; an answer that ends as answered was measured at the target, as far as it says where, and one that ends as off target
-- wasn't; and its quality is as listed. Besides, `listed` of a model is what its records say. `KeepsToText` says all of this of a
-- model. An act is one call on the link, with its result. A mark says which command an outstanding request is of, and what is
-- expected of its answer.
use Rattle.gc_station.proofs.Common.{◌≡◌, ℕ, zero, suc, Bool, List, [], ◌∷◌, ◌++◌, drop, Option, Some, None, refl, sym, ap, ◌∙◌, subst, ◌<◌, ◌||◌, true, false, length, if◌then◌else◌, nat_eq, arith, append-nil, slice_get, AllByRecursion, every_drop, Answer, Asked, heard, hears, restarts, Decimal, End, Answered, Judged, Unreadable, is_off_target, repeats_after, OffTarget, Disagree, Expected, Task, Act, Told, Gave, Cut, Moment, HasFirst, AgreesWithFirst, IsComparedInFull, IsConfirmed, IsUnconfirmed, DisagreesInSecond, answer_first, compares, firsts_after, agrees_in, quality_in, record_of, records_of, end_of, Model, opening, action_at, asks_for, asks_next, with_progress, with_moment, line_came, is_heard, after_piece, end_unsent, first_unsent_record, losing, moved, after, asks_setup, waiting_of, listed_unsent, request_for, null_request, mark_sent, mark_setup_sent, expected_first, mark_next, place_next, commands_left, cycles_begun, IsAtItsTarget, HasAnswer, OffTargetIsJustified, IsAsRead, IsUnreadableIfSo, IsOfQuality, IsAsListed, accepted_at, form_at, quality_as, twice_at, turned, moment_noted, loses_all, Record, state_after, Scope, Reads, Mark, Plan, Action, Progress, Outgoing, length-drop, Again, code_of, listed_after_settlements, HoldsBefore, expected_of, code_of_end, HasItsTurn}
use Rattle.gc_texts.proofs.Placing.{there_unless_off_target, off_target_has_place}
use Rattle.gc_station.proofs.Agreeing.{AllAfter, after_append, after_all, all_both, has_first_more, confirmed_more, first_is_recorded}
use Rattle.gc_station.proofs.Booking.{all_settled}
use Rattle.gc_station.proofs.Lists.{all_append, all_on}
use Rattle.gc_station.proofs.Qualified.{ended_near, ended_away, ended_quality, ended_good, ended_second}
use Rattle.gc_station.proofs.Tasked.{no_end_of_sent}
use Rattle.gc_station.proofs.Unread.{no_line_unsent, says_unreadable, unreadable_says}
use Rattle.gc_station.proofs.Walk.{came_along, first_along, setup_along, losing_along, acts_along, moved_changed, unsent_along}
use Rattle.gc_station.proofs.EachRun.{invariant_after, invariant_opening}
use Rattle.gc_station.proofs.Facts.{action_for}
use Rattle.gc_station.proofs.InCycle.{not_zero}
use Rattle.gc_station.proofs.Invariant.{Invariant}
use Rattle.gc_station.proofs.Listed.{code_is_in_line, named_by, any_listed, any_append, expected_as, near_expected, accepted_expected, form_expected, twice_expected}
use Rattle.gc_client.specs.Rule
use Rattle.gc_texts.specs.declared.agree.Twice.TheVariants as twice
use Rattle.gc_station.specs.declared.progress.Action.TheVariants as actions

-- what is expected of the answer of the command at a place is what its task says
pub expected_there : (commands : List Task) (k : ℕ) (task : Task) → slice_get commands k ≡ Some task → expected_first (drop k commands) ≡ expected_first (task ∷ [])
expected_there [] zero task e = cc
expected_there [] (suc k) task e = cc
expected_there (t ∷ commands) zero task e = let same : t ≡ task = cc in ap (λ (x : Task). expected_first (x ∷ [])) same
expected_there (t ∷ commands) (suc k) task e = expected_there commands k task e

-- before a command is sent it isn't known with which answer its own is compared
none_known : (commands : List Task) (k : ℕ) (answer : Option Answer) → (expected_first (drop k commands)).first ≡ Some answer → ⊥
none_known commands k answer e = by_front (drop k commands) e where
  -- the lemma above, by the commands from there on
  by_front : (left : List Task) → (expected_first left).first ≡ Some answer → ⊥
  by_front [] e = cc
  by_front (task ∷ others) e = cc

-- an answer with which another is compared if that is compared in all that it has in columns: it is, and this is the answer
compared_first : (full : Bool) (found : Option (Option Answer)) (answer : Option Answer) → (if full then found else None) ≡ Some answer → (full ≡ true) × (found ≡ Some answer)
compared_first true found answer e = (refl, e)
compared_first false found answer e = cc

module _ (plan : Plan) (commands : List Task) (scope : Scope) where
  -- a mark expects of its command's answer what the text says; of a command of the setup, in the attempt of its turn. With which answer of
  -- a first sending it is compared, which number its counter had, and which values files had, the text doesn't say
  abbrev pub ExpectsAsText : Option Mark → Type 0
  ExpectsAsText None = Unit {0}
  ExpectsAsText (Some mark) = mark.expected ≡ record (expected_of commands mark.cycle mark.expected.turn.attempt mark.place) { first = mark.expected.first; before = mark.expected.before; values = mark.expected.values }

  -- the answer of a first sending with which a mark has its own compared, if there is one, is that of one of these records, and its own is
  -- compared in all that it has in columns
  abbrev ComesFrom : List Record → Option Mark → Type 0
  ComesFrom rs None = Unit {0}
  ComesFrom rs (Some mark) =
      (answer : Option Answer) → mark.expected.first ≡ Some answer → HasFirst rs mark.cycle mark.expected.turn answer × (compares mark.expected.form ≡ true)

  -- with more records behind, it still is
  comes_more : (rs more : List Record) (mark : Option Mark) → ComesFrom rs mark → ComesFrom (rs ++ more) mark
  comes_more rs more None h = tt
  comes_more rs more (Some mark) h = λ answer e. let so = h answer e in (has_first_more rs more mark.cycle mark.expected.turn answer so.0, so.1)

  -- a record is as its text says: `HasItsTurn`, `IsAtItsTarget`, `OffTargetIsJustified`, `IsAsListed`, `IsUnconfirmed`,
  -- `DisagreesInSecond`, `IsAsRead` and `IsUnreadableIfSo` hold of it
  abbrev pub IsAsItsText : Record → Type 0
  IsAsItsText r =
      HasItsTurn commands r × IsAtItsTarget commands r × OffTargetIsJustified scope.reads commands r × IsAsListed scope.reads commands r
      × IsUnconfirmed commands r × DisagreesInSecond commands r
      × IsAsRead (scope.reads (form_at commands r.place)) r × IsUnreadableIfSo (scope.reads (form_at commands r.place)) r

  -- a mark that is `ExpectsAsText` expects the place of its command's target
  near_as_text : (mark : Mark) → ExpectsAsText (Some mark) → mark.expected.near ≡ (expected_first (drop mark.place commands)).near
  near_as_text mark placed = ap (λ (k : Expected). k.near) placed ∙ near_expected (nat_eq mark.cycle 0) mark.expected.turn.attempt (expected_first (drop mark.place commands))

  -- a mark that is `ExpectsAsText` accepts the return codes of its command (`accepted_at`)
  codes_as_text : (mark : Mark) → ExpectsAsText (Some mark) → mark.expected.accepted ≡ accepted_at commands mark.place
  codes_as_text mark placed = ap (λ (k : Expected). k.accepted) placed ∙ accepted_expected (nat_eq mark.cycle 0) mark.expected.turn.attempt (expected_first (drop mark.place commands))

  -- a mark that is `ExpectsAsText` has the form of its command (`form_at`)
  form_as_text : (mark : Mark) → ExpectsAsText (Some mark) → mark.expected.form ≡ form_at commands mark.place
  form_as_text mark placed = ap (λ (k : Expected). k.form) placed ∙ form_expected (nat_eq mark.cycle 0) mark.expected.turn.attempt (expected_first (drop mark.place commands))

  -- a mark that is `ExpectsAsText` is of the sending of its command (`twice_at`)
  sending_as_text : (mark : Mark) → ExpectsAsText (Some mark) → mark.expected.twice ≡ twice_at commands mark.place
  sending_as_text mark placed = ap (λ (k : Expected). k.twice) placed ∙ twice_expected (nat_eq mark.cycle 0) mark.expected.turn.attempt (expected_first (drop mark.place commands))

  -- so it is of that of its task
  twice_as_text : (mark : Mark) (task : Task) → ExpectsAsText (Some mark) → slice_get commands mark.place ≡ Some task → mark.expected.twice ≡ task.twice
  twice_as_text mark task placed at =
      sending_as_text mark placed ∙ ap (λ (k : Expected). k.twice) (expected_there commands mark.place task at)

  -- the record of a settlement whose mark is `ExpectsAsText` is as its text says
  record_keeps : (utc : ℕ) (mark : Mark) (x : Rule.Settlement Asked) → ExpectsAsText (Some mark) → IsAsItsText (record_of scope.reads utc mark x)
  record_keeps utc mark x placed = (
    ap (λ (k : Expected). k.turn) placed,
    (λ task near quality answer line at has e.
        let stands : mark.expected.near ≡ Some near = near_as_text mark placed ∙ ap (λ (k : Expected). k.near) (expected_there commands mark.place task at) ∙ has in
        there_unless_off_target near answer (ap (λ o. is_off_target o answer) (sym stands) ∙ ended_near scope.reads mark.expected x.call line x.outcome quality answer e)),
    (λ task line at e.
        let away = ended_away scope.reads mark.expected x.call line x.outcome e in
        let is = off_target_has_place mark.expected.near away.0 away.2 in
        let near_there = near_as_text mark placed ∙ ap (λ (k : Expected). k.near) (expected_there commands mark.place task at) in
        let there = codes_as_text mark placed ∙ ap (λ (k : Expected). k.accepted) (expected_there commands mark.place task at) in
        record {
          answer = away.0;
          near = is.0;
          says = subst (λ codes. HasAnswer (scope.reads task.form) codes x.call line away.0) there
              (subst (λ form. HasAnswer (scope.reads form) mark.expected.accepted x.call line away.0) (form_as_text mark placed ∙ ap (λ (k : Expected). k.form) (expected_there commands mark.place task at)) away.1);
          known = sym near_there ∙ is.1;
          away = is.2;
        }),
    (λ quality said line e.
        let so = ended_quality scope.reads mark.expected x.call line quality said x.outcome e in (
          so.0,
          so.1 ∙ ap (λ t. quality_as t so.0) (sending_as_text mark placed),
          subst (λ form. IsOfQuality (scope.reads form) (accepted_at commands mark.place) x.call so.0 said line) (form_as_text mark placed)
              (subst (λ codes. IsOfQuality (scope.reads mark.expected.form) codes x.call so.0 said line) (codes_as_text mark placed) so.2),
        )),
    (λ task quality answer line at first e good.
        let so = ended_good scope.reads mark.expected x.call line x.outcome quality answer e good in
        sym so.quality ∙ ap (λ t. quality_in t so.would_be) (twice_as_text mark task placed at ∙ first)),
    (λ task line at e.
        let so = ended_second scope.reads mark.expected x.call line x.outcome e in
        (so.0, so.1, sym (twice_as_text mark task placed at) ∙ so.2)),
    (λ line why e.
        ap (λ form. scope.reads form x.call line) (sym (form_as_text mark placed)) ∙ unreadable_says scope.reads mark.expected x.call x.outcome line why e),
    (λ line why its says.
        says_unreadable scope.reads mark.expected x.call x.outcome line why its (ap (λ form. scope.reads form x.call line) (form_as_text mark placed) ∙ says)),
  )

  -- a record is confirmed by these, and compared in all that it has in columns
  abbrev pub IsFullyConfirmed : List Record → Record → Type 0
  IsFullyConfirmed rs r = IsConfirmed commands rs r × IsComparedInFull commands r

  -- it is so by more records, too
  fully_more : (bs more : List Record) (r : Record) → IsFullyConfirmed bs r → IsFullyConfirmed (bs ++ more) r
  fully_more bs more r h = (confirmed_more commands bs more r h.0, h.1)

  -- a mark that is `ExpectsAsText` has the form of its task
  form_of_task : (mark : Mark) (task : Task) → ExpectsAsText (Some mark) → slice_get commands mark.place ≡ Some task → mark.expected.form ≡ task.form
  form_of_task mark task placed at = form_as_text mark placed ∙ ap (λ (k : Expected). k.form) (expected_there commands mark.place task at)

  -- the record of a settlement whose mark is `ExpectsAsText`, and has its answer compared with that of one of these records, is confirmed
  -- by them
  record_confirmed : (rs : List Record) (utc : ℕ) (mark : Mark) (x : Rule.Settlement Asked) → ExpectsAsText (Some mark) → ComesFrom rs (Some mark)
      → IsConfirmed commands rs (record_of scope.reads utc mark x)
  record_confirmed rs utc mark x placed from task agree nth quality answer line at second e good =
      let twice_is : mark.expected.twice ≡ twice.Second agree nth = twice_as_text mark task placed at ∙ second in
      let so = ended_good scope.reads mark.expected x.call line x.outcome quality answer e good in
      by_first mark.expected.first refl (ap (λ t. agrees_in t mark.expected.first answer) (sym twice_is) ∙ so.agrees) where
        -- the lemma above, by the answer with which its own is compared
        by_first : (first : Option (Option Answer)) → mark.expected.first ≡ first → agrees_in (twice.Second agree nth) first answer ≡ true
            → AgreesWithFirst agree rs (record_of scope.reads utc mark x) answer
        by_first None is agreed = cc
        by_first (Some said) is agreed = record { said = said; first = (from said is).0; agreed = agreed }

  -- and it is compared in all that it has in columns
  record_compared : (rs : List Record) (utc : ℕ) (mark : Mark) (x : Rule.Settlement Asked) → ExpectsAsText (Some mark) → ComesFrom rs (Some mark)
      → IsComparedInFull commands (record_of scope.reads utc mark x)
  record_compared rs utc mark x placed from task agree nth quality answer line at second e good =
      let twice_is : mark.expected.twice ≡ twice.Second agree nth = twice_as_text mark task placed at ∙ second in
      let so = ended_good scope.reads mark.expected x.call line x.outcome quality answer e good in
      by_first mark.expected.first refl (ap (λ t. agrees_in t mark.expected.first answer) (sym twice_is) ∙ so.agrees) where
        -- the lemma above, by the answer with which its own is compared
        by_first : (first : Option (Option Answer)) → mark.expected.first ≡ first → agrees_in (twice.Second agree nth) first answer ≡ true → compares task.form ≡ true
        by_first None is agreed = cc
        by_first (Some said) is agreed = ap compares (sym (form_of_task mark task placed at)) ∙ (from said is).1

  -- once a cycle has begun, the mark of the next command of a cycle is `ExpectsAsText`, whatever its answer is compared with,
  -- and whichever values files had
  next_expects : (p : Progress) (first : Option (Option Answer)) (before : Option Decimal) (values : List (List ℕ)) → 0 < cycles_begun plan p
      → let mark = mark_next plan commands p in ExpectsAsText (Some (record mark { expected = record mark.expected { first = first; before = before; values = values } }))
  next_expects p first before values many =
      let expected = expected_first (drop (place_next commands p) commands) in
      ap (λ (b : Bool). record (expected_as b expected.turn.attempt expected) { first = first; before = before; values = values }) (sym (not_zero (cycles_begun plan p) many))

  -- so is it if that isn't known
  next_expects_so_far : (p : Progress) → 0 < cycles_begun plan p → ExpectsAsText (Some (mark_next plan commands p))
  next_expects_so_far p many = let expected = (mark_next plan commands p).expected in next_expects p expected.first expected.before expected.values many

  -- `listed_after_settlements` of settlements is `any_listed` of their records, if their marks are `ExpectsAsText`
  listed_as_recorded : (utc : ℕ) (marks : List (Option Mark)) (xs : List (Rule.Settlement Asked)) (b : Bool) → AllByRecursion ExpectsAsText marks
      → listed_after_settlements scope.reads b marks xs ≡ any_listed scope.reads commands b (records_of scope.reads utc marks xs)
  listed_as_recorded utc [] xs b all = refl
  listed_as_recorded utc (mark ∷ marks) [] b all = refl
  listed_as_recorded utc (None ∷ marks) (x ∷ xs) b all = listed_as_recorded utc marks xs b all.1
  listed_as_recorded utc (Some mark ∷ marks) (x ∷ xs) b all =
      let end = end_of scope.reads mark.expected x.call x.outcome in
      let code = code_of scope.reads x.call x.outcome in
      let kept = if nat_eq mark.expected.turn.link 0 then false else b in
      let same = named_by scope.reads mark.expected.again x.call code end (λ q said l e. code_is_in_line scope.reads mark.expected x.call x.outcome q said l e)
      ∙ ap (λ (k : Expected). repeats_after k.again (code_of_end scope.reads x.call end) end) all.0 in
      listed_as_recorded utc marks xs (kept || repeats_after mark.expected.again code end) all.1
      ∙ ap (λ y. any_listed scope.reads commands (kept || y) (records_of scope.reads utc marks xs)) same

  -- a model reads replies as the scope does, each of its marks is `ExpectsAsText`, each of its records `IsAsItsText`, and its
  -- `listed` is what its records say; what its marks have their answers compared with comes from its records, each of which is confirmed by
  -- those before it, and compared in all that it has in columns
  pub record KeepsToText (s : Model) : Type 0 where
    pub reads : s.reads ≡ scope.reads
    pub marks : AllByRecursion ExpectsAsText s.marks
    pub records : AllByRecursion IsAsItsText s.records
    pub listed : s.listed ≡ any_listed scope.reads commands false s.records
    pub firsts : AllByRecursion (ComesFrom s.records) s.marks
    pub agreed : AllAfter IsFullyConfirmed [] s.records

  -- if `KeepsToText` holds of `s`, its records and those of the settlements `x` after them are all `IsAsItsText`
  settles_keeps : (s : Model) (x : List (Rule.Settlement Asked)) → KeepsToText s → AllByRecursion IsAsItsText (s.records ++ records_of s.reads s.progress.moment.utc s.marks x)
  settles_keeps s x k =
      let utc = s.progress.moment.utc in
      subst (λ (reads : Reads). AllByRecursion IsAsItsText (s.records ++ records_of reads utc s.marks x)) (sym k.reads)
      (all_settled ExpectsAsText IsAsItsText scope.reads utc s.marks s.records x (record_keeps utc) k.marks k.records)

  -- if `KeepsToText` holds of `s`, `listed_after_settlements` of the settlements `x` is what its records and those of `x` after
  -- them say
  settles_listed : (s : Model) (x : List (Rule.Settlement Asked)) → KeepsToText s
      → listed_after_settlements s.reads s.listed s.marks x ≡ any_listed scope.reads commands false (s.records ++ records_of s.reads s.progress.moment.utc s.marks x)
  settles_listed s x k =
      let utc = s.progress.moment.utc in
      ap (λ (reads : Reads). listed_after_settlements reads s.listed s.marks x) k.reads
      ∙ listed_as_recorded utc s.marks x s.listed k.marks
      ∙ ap (λ b. any_listed scope.reads commands b (records_of scope.reads utc s.marks x)) k.listed
      ∙ sym (any_append scope.reads commands s.records (records_of scope.reads utc s.marks x) false)
      ∙ sym (ap (λ (reads : Reads). any_listed scope.reads commands false (s.records ++ records_of reads utc s.marks x)) k.reads)

  -- if `KeepsToText` holds of `s`, what its marks have their answers compared with comes from its records and those of `x`, also of the marks
  -- that are left
  settles_firsts : (s : Model) (n : ℕ) (x : List (Rule.Settlement Asked)) → KeepsToText s
      → AllByRecursion (ComesFrom (s.records ++ records_of s.reads s.progress.moment.utc s.marks x)) (drop n s.marks)
  settles_firsts s n x k =
      let news = records_of s.reads s.progress.moment.utc s.marks x in
      every_drop (ComesFrom (s.records ++ news)) s.marks n (all_on (ComesFrom s.records) (ComesFrom (s.records ++ news)) s.marks (comes_more s.records news) k.firsts)

  -- if `KeepsToText` holds of `s`, each of its records and those of the settlements `x` is confirmed by those before it
  settles_agreed : (s : Model) (x : List (Rule.Settlement Asked)) → KeepsToText s
      → AllAfter IsFullyConfirmed [] (s.records ++ records_of s.reads s.progress.moment.utc s.marks x)
  settles_agreed s x k =
      let utc = s.progress.moment.utc in
      let rs = s.records in
      subst (λ (reads : Reads). AllAfter IsFullyConfirmed [] (rs ++ records_of reads utc s.marks x)) (sym k.reads)
      (after_append IsFullyConfirmed [] rs (records_of scope.reads utc s.marks x) k.agreed
      (after_all IsFullyConfirmed fully_more rs (records_of scope.reads utc s.marks x)
      (all_settled (λ m. ExpectsAsText m × ComesFrom rs m) (IsFullyConfirmed rs) scope.reads utc s.marks [] x
      (λ mark y both. (record_confirmed rs utc mark y both.0 both.1, record_compared rs utc mark y both.0 both.1)) (all_both ExpectsAsText (ComesFrom rs) s.marks k.marks k.firsts) tt)))

  -- `KeepsToText` is preserved by a line that is heard
  pub line_keeps : (s : Model) (line : List ℕ) → KeepsToText s → KeepsToText (line_came s line)
  line_keeps s line k =
      let x = hears s.client line (heard line) in
      record {
        reads = k.reads;
        marks = every_drop ExpectsAsText s.marks _ k.marks;
        records = settles_keeps s x.settlements k;
        listed = settles_listed s x.settlements k;
        firsts = settles_firsts s _ x.settlements k;
        agreed = settles_agreed s x.settlements k;
      }

  -- `KeepsToText` is preserved by a piece
  came_keeps : (heard : Bool) (word piece : List ℕ) (s : Model) → KeepsToText s → KeepsToText (after_piece heard word piece s)
  came_keeps heard word piece s k =
      came_along KeepsToText line_keeps heard word piece s (record { reads = k.reads; marks = k.marks; records = k.records; listed = k.listed; firsts = k.firsts; agreed = k.agreed })
      (record { reads = k.reads; marks = k.marks; records = k.records; listed = k.listed; firsts = k.firsts; agreed = k.agreed }) k

  -- `KeepsToText` is preserved by the loss of what is outstanding
  losing_keeps : (all : Bool) (s : Model) → KeepsToText s → KeepsToText (losing all s)
  losing_keeps all s k =
      let x = restarts s.client in
      losing_along KeepsToText all s
      (record {
        reads = k.reads;
        marks = every_drop ExpectsAsText s.marks _ k.marks;
        records = settles_keeps s x.settlements k;
        listed = settles_listed s x.settlements k;
        firsts = settles_firsts s _ x.settlements k;
        agreed = settles_agreed s x.settlements k;
      }) k

  -- `KeepsToText` is preserved by a request that is sent, if its mark is `ExpectsAsText`, and what it has its answer compared with comes from
  -- the records
  asks_keeps : (x : Outgoing) (s : Model) → ExpectsAsText x.mark → ComesFrom s.records x.mark → KeepsToText s → KeepsToText (asks_for x s)
  asks_keeps x s placed from k = record {
    reads = k.reads;
    marks = all_append ExpectsAsText s.marks _ k.marks (placed, tt);
    records = k.records;
    listed = k.listed;
    firsts = all_append (ComesFrom s.records) s.marks _ k.firsts (from, tt);
    agreed = k.agreed;
  }

  -- `KeepsToText` is preserved by the send of the next command of a cycle, once one has begun
  next_keeps : (s : Model) → 0 < cycles_begun plan s.progress → KeepsToText s → KeepsToText (asks_next plan commands s)
  next_keeps s many k =
      let mark = mark_sent plan commands s in
      first_along KeepsToText mark (drop (place_next commands s.progress) commands) s
      (λ task. asks_keeps (request_for mark task) s (next_expects s.progress mark.expected.first mark.expected.before mark.expected.values many)
      (λ answer e.
      let so = compared_first (compares mark.expected.form) (answer_first (firsts_after [] s.records) mark.cycle mark.expected.turn mark.expected.twice) answer e in
      (first_is_recorded s.records mark.cycle mark.expected.turn mark.expected.twice answer so.1, so.0)) k) k

  -- `KeepsToText` is preserved by the send of the next command of the setup
  setup_keeps : (s : Model) → KeepsToText s → KeepsToText (asks_setup plan commands s)
  setup_keeps s k =
      let mark = mark_setup_sent commands s in
      setup_along KeepsToText plan mark (drop s.progress.prepared commands) s
      (λ task. asks_keeps (request_for mark task) s refl (λ answer e. absurd (none_known commands s.progress.prepared answer e)) k) (asks_keeps (null_request plan) s tt tt k)

  -- whether a rule names the end of a command that isn't sent is the same without a code and with the code of that end
  unsent_named : (again : Again) (call : Asked) (p : Progress)
      → repeats_after again None (end_unsent p) ≡ repeats_after again (code_of_end scope.reads call (end_unsent p)) (end_unsent p)
  unsent_named again call p = unsent_along (λ (end : End). repeats_after again None end ≡ repeats_after again (code_of_end scope.reads call end) end) refl refl refl p

  -- the record of a command that isn't sent, and whose mark is `ExpectsAsText`, is as its text says
  skips_keeps : (p : Progress) (m : Moment) (mark : Mark) (left : List Task) → ExpectsAsText (Some mark) → AllByRecursion IsAsItsText (first_unsent_record p m mark left)
  skips_keeps p m mark [] placed = tt
  skips_keeps p m mark (task ∷ others) placed = (
    (
      ap (λ (k : Expected). k.turn) placed,
      (λ t near quality answer line at has e. absurd (no_end_of_sent p (Answered quality (Some answer) line) refl e)),
      (λ t line at e. absurd (no_end_of_sent p (Judged OffTarget line) refl e)),
      (λ quality said line e. absurd (no_end_of_sent p (Answered quality said line) refl e)),
      (λ t quality answer line at first e good. absurd (no_end_of_sent p (Answered quality answer line) refl e)),
      (λ t line at e. absurd (no_end_of_sent p (Judged Disagree line) refl e)),
      (λ line why e. absurd (no_end_of_sent p (Unreadable line why) refl e)),
      (λ line why its says. absurd (no_line_unsent p line its)),
    ),
    tt,
  )

  -- the record of a command that isn't sent is confirmed by any records: it isn't answered
  skips_confirmed : (rs : List Record) (p : Progress) (m : Moment) (mark : Mark) (left : List Task) → AllByRecursion (IsFullyConfirmed rs) (first_unsent_record p m mark left)
  skips_confirmed rs p m mark [] = tt
  skips_confirmed rs p m mark (task ∷ others) = (
    (
      (λ t agree nth quality answer line at second e good. absurd (no_end_of_sent p (Answered quality answer line) refl e)),
      (λ t agree nth quality answer line at second e good. absurd (no_end_of_sent p (Answered quality answer line) refl e)),
    ),
    tt,
  )

  -- once a cycle has begun, `listed_unsent` of the next command, of which there is one, is `any_listed` of its
  -- record
  skips_listed : (b : Bool) (p : Progress) (m : Moment) (left : List Task) → 0 < cycles_begun plan p → 0 < length left
      → listed_unsent plan commands p b ≡ any_listed scope.reads commands b (first_unsent_record p m (mark_next plan commands p) left)
  skips_listed b p m [] many some = absurd (omega (arith, some))
  skips_listed b p m (task ∷ others) many some =
      let mark = mark_next plan commands p in
      let end = end_unsent p in
      ap (λ x. (if nat_eq mark.expected.turn.link 0 then false else b) || x)
      (unsent_named mark.expected.again task.command.call p
      ∙ ap (λ (k : Expected). repeats_after k.again (code_of_end scope.reads task.command.call end) end) (next_expects_so_far p many))

  -- if this action sends the next command of a cycle, or records it without sending it, a cycle has begun, and there is such a
  -- command
  abbrev HasItsCommand : Action → Model → Type 0
  HasItsCommand actions.Send s = (0 < cycles_begun plan s.progress) × (0 < length (commands_left commands s.progress))
  HasItsCommand actions.Skip s = (0 < cycles_begun plan s.progress) × (0 < length (commands_left commands s.progress))
  HasItsCommand next s = Unit {0}

  -- `KeepsToText` is preserved by an act of each action of which `HasItsCommand` holds, before what is outstanding is lost
  moved_keeps : (next : Action) (s : Model) (act : Act) → HasItsCommand next s → KeepsToText s → KeepsToText (moved plan commands next s act)
  moved_keeps actions.Prepare s (Cut bytes count) some k = let n = setup_keeps s k in record { reads = n.reads; marks = n.marks; records = n.records; listed = n.listed; firsts = n.firsts; agreed = n.agreed }
  moved_keeps actions.Prepare s act some k = let n = setup_keeps s k in record { reads = n.reads; marks = n.marks; records = n.records; listed = n.listed; firsts = n.firsts; agreed = n.agreed }
  moved_keeps actions.Send s (Cut bytes count) some k = let n = next_keeps s some.0 k in record { reads = n.reads; marks = n.marks; records = n.records; listed = n.listed; firsts = n.firsts; agreed = n.agreed }
  moved_keeps actions.Send s act some k = let n = next_keeps s some.0 k in record { reads = n.reads; marks = n.marks; records = n.records; listed = n.listed; firsts = n.firsts; agreed = n.agreed }
  moved_keeps actions.Flush s (Cut bytes count) some k = let n = asks_keeps (null_request plan) s tt tt k in record { reads = n.reads; marks = n.marks; records = n.records; listed = n.listed; firsts = n.firsts; agreed = n.agreed }
  moved_keeps actions.Flush s act some k = let n = asks_keeps (null_request plan) s tt tt k in record { reads = n.reads; marks = n.marks; records = n.records; listed = n.listed; firsts = n.firsts; agreed = n.agreed }
  moved_keeps actions.Skip s (Told m) some k =
      let left = drop (place_next commands s.progress) commands in
      let p = s.progress in
      let rs = first_unsent_record p m (mark_next plan commands p) left in
      record {
        reads = k.reads;
        marks = k.marks;
        records = all_append IsAsItsText s.records _ k.records (skips_keeps p m (mark_next plan commands p) left (next_expects_so_far p some.0));
        firsts = all_on (ComesFrom s.records) (ComesFrom (s.records ++ rs)) s.marks (comes_more s.records rs) k.firsts;
        agreed = after_append IsFullyConfirmed [] s.records rs k.agreed
            (after_all IsFullyConfirmed fully_more s.records rs (skips_confirmed s.records p m (mark_next plan commands p) left));
        listed = skips_listed s.listed p m left some.0 some.1 ∙ ap (λ b. any_listed scope.reads commands b rs) k.listed ∙ sym (any_append scope.reads commands s.records rs false);
      }
  moved_keeps actions.Skip s act some k = record {
    reads = k.reads;
    marks = k.marks;
    records = all_append IsAsItsText s.records [] k.records tt;
    listed = k.listed ∙ sym (ap (any_listed scope.reads commands false) (append-nil s.records));
    firsts = all_on (ComesFrom s.records) (ComesFrom (s.records ++ [])) s.marks (comes_more s.records []) k.firsts;
    agreed = after_append IsFullyConfirmed [] s.records [] k.agreed tt;
  }
  moved_keeps (actions.Read until) s (Gave bytes m) some k =
      let n = came_keeps (is_heard s.progress.phase) s.progress.exchange.word bytes (with_moment m (with_progress (moment_noted m) s))
      (record { reads = k.reads; marks = k.marks; records = k.records; listed = k.listed; firsts = k.firsts; agreed = k.agreed }) in
      record { reads = n.reads; marks = n.marks; records = n.records; listed = n.listed; firsts = n.firsts; agreed = n.agreed }
  moved_keeps (actions.Read until) s act some k = record { reads = k.reads; marks = k.marks; records = k.records; listed = k.listed; firsts = k.firsts; agreed = k.agreed }
  moved_keeps next s act some k = subst KeepsToText (sym (moved_changed plan commands next s act)) (record { reads = k.reads; marks = k.marks; records = k.records; listed = k.listed; firsts = k.firsts; agreed = k.agreed })

  -- `KeepsToText` is preserved by an act, if `Invariant` holds before it
  after_keeps : (s : Model) (act : Act) → Invariant plan commands s → KeepsToText s → KeepsToText (after plan commands s act)
  after_keeps s act fine k =
      let t = moved plan commands (action_at plan s) (with_progress turned s) act in
      losing_keeps (loses_all t.progress) t (moved_keeps (action_at plan s) (with_progress turned s) act (next_has_its_command (action_at plan s) (action_for plan s.progress (waiting_of s)))
      (record { reads = k.reads; marks = k.marks; records = k.records; listed = k.listed; firsts = k.firsts; agreed = k.agreed })) where
        -- if a command is unsent, a cycle has begun, and there is a next command
        has_next_if_unsent : 0 < s.progress.unsent → (0 < cycles_begun plan s.progress) × (0 < length (commands_left commands s.progress))
        has_next_if_unsent unsent =
            let many = length-drop (place_next commands s.progress) commands in
            let within = fine.unsent in
            let below = fine.begun unsent in (omega (arith, below), omega (arith, many, unsent, within))

        -- `HasItsCommand` holds of the action that is next
        next_has_its_command : (next : Action) → HoldsBefore plan s.progress (waiting_of s) next → HasItsCommand next (with_progress turned s)
        next_has_its_command actions.Send needs = has_next_if_unsent needs.2
        next_has_its_command actions.Skip needs = has_next_if_unsent needs.2
        next_has_its_command next needs = tt

  -- `KeepsToText` holds after any acts
  pub kept_all : (acts : List Act) → KeepsToText (state_after plan commands scope acts)
  kept_all acts =
      (acts_along plan commands (λ (s : Model). Invariant plan commands s × KeepsToText s) (λ s act h. (invariant_after plan commands s act h.0, after_keeps s act h.0 h.1))
      (opening plan scope) acts (invariant_opening plan commands scope, record { reads = refl; marks = tt; records = tt; listed = refl; firsts = tt; agreed = tt })).1
