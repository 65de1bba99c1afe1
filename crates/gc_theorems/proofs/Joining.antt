-- A run of a station and what happens on its line, joined: each part of the run, from one synchronization to the next, goes
-- with a stretch of the line, and each answer that is recorded was made in one of the stretches. The *marks* of a part say for
-- which command each of its requests is, in order, and with which id it is sent.
use Rattle.gc_theorems.proofs.Common.{◌≡◌, inl, inr, ℕ, suc, ◌<◌, ◌+◌, ◌≤◌, Bool, true, false, List, [], ◌∷◌, ◌++◌, map, length, Option, Some, refl, sym, ◌∙◌, ap, subst, arith, append_assoc, append-nil, drop, if◌then◌else◌, slice_get, AllByRecursion, AllZip, asked_line, Asked, the_word, Wanted, Restart, begun, course, ById, Outcome, Answered, Late, Lost, Settlement, fresh, lost, Pending, KeptReply, call_at, End, line_of, Task, IsNearTheTable, client_after, course_client, unanswered_after, AreBegun, heard_in, occasion_of, record_of, records_of, Part, parts_joined, MarksAsk, went_out, sent_of, timeless, Record, state_after, Model, opening, Reads, parts_begun, Books, settled_by, sent_by, settled_append, sent_append, course_settled, course_sent, marks_ask_at, all_records, restarting, CountUp, counted_at, ids_count, invariant_opening, each_once, BooksInParts, follows, is_record_of, was_answered, was_late, all_on, IsReplyTo, slice_get_within, Ends, IsOwnRun, SyncModel, UnderWay, begins, leaves, AreOwn, ArePossibleIfBegun, AreRuns, IsOwnIfBegun, Run, after_turns, left_by_run, IsFaithful, IsSafe, WasMadeOn, placed_runs, Move, seen, IsAnInstrument, asked, HasRequest, IsInField, IsOwnAnswer, Program, program_parts, program_records, LateHasExecution, RunsInFieldAreFaithful, IsFaithfulThroughout, SettlesByFirstReply, RaisesNoDoubt, own_sent, own_settled, world, written_over, AreShownAs, Stretch, stretches, get_seen, drop-map, true≢false}
use Rattle.gc_client.specs.Prelude.{Send, Step}
use Rattle.gc_station.proofs.SentWell.{behind_the_table}
use Rattle.gc_station.proofs.Lists.{all_append}
use Rattle.gc_theorems.proofs.BegunRuns.{AreBegunButLast, are_own, own_runs, possible_if_begun, possible_runs}
use Rattle.gc_theorems.proofs.BegunFaithful.{sent_is}
use Rattle.gc_theorems.proofs.ById.{made_by_id}
use Rattle.gc_theorems.proofs.InTime.{IsSoundStretch, in_time, faithful_throughout}
use Rattle.gc_theorems.proofs.Meant.{are_meant}
use Rattle.gc_theorems.proofs.NoDoubt.{none_raised}
use Rattle.gc_theorems.proofs.Owning.{answer_not_lost, late_not_lost}
use Rattle.gc_theorems.proofs.Safe.{goes_out}
use Rattle.gc_theorems.proofs.Shown.{left_is}
use Rattle.gc_theorems.proofs.Unbegun.{faithful_none}
use Rattle.gc_theorems.proofs.Timeless.{IsOwnRecord, own_later, own_timeless}
use Rattle.gc_theorems.proofs.Among.{among_first, get_drop, zip_each, zip_on}
use Rattle.gc_texts.specs.Endings as end

module _ {State : Type 0} (ends : Ends State) (Good : State → Type 0) (kept : State → Option KeptReply) (is : IsAnInstrument ends Good kept) where
  -- A stretch with its part.

  -- a part and a stretch are of the same run: the client sees the stretch's moves as the part's steps, and the stretch is sound
  -- and faithful
  pub record Fits (p : Part) (s : Stretch State) : Type 0 where
    pub steps : seen s.moves ≡ p.steps
    pub sound : IsSoundStretch ends Good kept is s
    pub faithful : IsFaithful 7 ends s.from s.moves Good kept

  -- there are as many parts as stretches, and each part fits the stretch at its place
  abbrev pub AllFit : List Part → List (Stretch State) → Type 0
  AllFit ps ss = AllZip Fits ps ss

  -- the stretch of a run that is its own, by what is left of its word, fits the part that its moves show, if these are possible
  fits_own : (left : List ℕ) (s : SyncModel State) (ms : List (Move State)) (p : Part) → ArePossibleIfBegun 7 ends Good kept left s ms → IsOwnIfBegun 7 ends Good kept left s ms → seen ms ≡ p.steps
      → Fits p (record { from = leaves s; moves = ms })
  fits_own [] s ms p possible own e = record { steps = e; sound = record { possible = possible; clean = inl own.0.clean }; faithful = own.1 }
  fits_own (asked ∷ rest) s ms p none own e =
      record {
        steps = e;
        sound = record { possible = possible_if_begun 7 ends Good kept (asked ∷ rest) s ms none; clean = inr none };
        faithful = subst (λ l. IsFaithful 7 ends (leaves s) l Good kept) (sym none) (faithful_none ends Good kept (leaves s));
      }

  -- where possible runs that are their own show these parts, the parts fit the stretches
  all_fit : (ps : List Part) (rs : List (Run State)) (u : UnderWay State) → AreShownAs ends u rs ps → AreRuns 7 ends Good kept u rs
      → AllByRecursion (IsOwnRun 7 ends Good kept) (placed_runs 7 ends u rs) → AllFit ps (stretches ends u rs)
  all_fit [] [] u s p own = tt
  all_fit [] (r ∷ rs) u s p own = absurd s
  all_fit (x ∷ ps) [] u s p own = absurd s
  all_fit (x ∷ ps) (r ∷ rs) u s p own =
      (fits_own (after_turns ends u r).left (after_turns ends u r) r.moves x p.0.1 own.0 s.1, all_fit ps rs (left_by_run 7 ends u r) s.2 p.1 own.1)

  -- where runs show these parts, and `AreBegun` holds of the parts, each run but the last has synchronized
  begun_but_last : (ps : List Part) (rs : List (Run State)) (u : UnderWay State) → AreShownAs ends u rs ps → AreBegun the_word ps → AreBegunButLast 7 ends u rs
  begun_but_last ps [] u s b = tt
  begun_but_last ps (r ∷ []) u s b = tt
  begun_but_last [] (r ∷ t ∷ rs) u s b = absurd s
  begun_but_last (x ∷ []) (r ∷ t ∷ rs) u s b = absurd s.2
  begun_but_last (x ∷ y ∷ ps) (r ∷ t ∷ rs) u s b = (
    left_is ends r.turns (begins u) ∙ ap (λ l. unanswered_after the_word (heard_in l)) s.0 ∙ b.0,
    begun_but_last (y ∷ ps) (t ∷ rs) (left_by_run 7 ends u r) s.2 b.1,
  )

  -- each request of a stretch that is a command, by its part's marks, is safe
  abbrev pub IsSafePart : Part → Stretch State → Type 0
  IsSafePart p s = (n : ℕ) (mark : _) → slice_get p.marks n ≡ Some (Some mark) → IsSafe 7 ends s.from Good kept s.moves (8 + n)

  -- a part's steps settle what its stretch settled
  fit_settled : (p : Part) (s : Stretch State) → Fits p s → settled_by fresh p.steps ≡ own_settled ends s
  fit_settled p s f = ap (settled_by fresh) (sym f.steps) ∙ sym (course_settled (seen s.moves) begun) ∙ sym (ap (drop 8) f.faithful.settled)

  -- a part's steps lead to the client that its stretch left
  fit_client : (p : Part) (s : Stretch State) → Fits p s → client_after fresh p.steps ≡ (world ends s).client
  fit_client p s f = ap (client_after fresh) (sym f.steps) ∙ sym (course_client (seen s.moves) begun) ∙ f.faithful.stands

  -- a part's steps send what its stretch sent
  fit_sent : (p : Part) (s : Stretch State) → Fits p s → sent_by fresh p.steps ≡ map asked (own_sent ends s)
  fit_sent p s f =
      ap (sent_by fresh) (sym f.steps) ∙ sym (course_sent (seen s.moves) begun) ∙ sym (ap (drop 8) (sent_is ends Good kept is 7 (omega arith) s.from s.moves f.sound.possible))
      ∙ drop-map asked 8 (world ends s).wire.sent

  -- a part's steps, and a restart after them, settle what its stretch settled, and as lost what is outstanding
  fit_ended : (p : Part) (s : Stretch State) → Fits p s → settled_by fresh (p.steps ++ Restart ∷ []) ≡ own_settled ends s ++ map lost (world ends s).client.waiting
  fit_ended p s f =
      let c = client_after fresh p.steps in
      settled_append fresh p.steps (Restart ∷ [])
      ∙ ap (λ l. settled_by fresh p.steps ++ l) (append-nil (map lost c.waiting) ∙ ap (λ (d : ById Asked). map lost d.waiting) (fit_client p s f))
      ∙ ap (λ l. l ++ map lost (world ends s).client.waiting) (fit_settled p s f)

  -- the station's rule holds of a part: wherever a command is sent, it is sent near the table
  abbrev IsRuled : Part → Type 0
  IsRuled p =
      (front later : List (Step Asked)) (target : ℕ) (call : Asked) (deadline : ℕ) (mark : _) → p.steps ≡ front ++ Send target call deadline ∷ later
      → slice_get p.marks (length (course 7 begun front).sent) ≡ Some (Some mark) → IsNearTheTable (course 7 begun front)

  -- if the station's rule holds of a part, and its marks are of the requests of its stretch (`MarksAsk`), each of these requests
  -- that is a command is safe
  safe_part : (commands : List Task) (p : Part) (s : Stretch State) → IsRuled p → Fits p s → MarksAsk commands p.marks (map asked (own_sent ends s)) → IsSafePart p s
  safe_part commands p s rule f sent n mark at =
      let a = marks_ask_at commands p.marks (map asked (own_sent ends s)) n (Some mark) sent at in
      let size : length (course 7 begun p.steps).sent ≡ length (map asked (own_sent ends s)) = ap length (course_sent p.steps begun ∙ fit_sent p s f) in
      let low : n < length (map asked (own_sent ends s)) = slice_get_within (map asked (own_sent ends s)) n a.0 a.1 in
      inr (inr (goes_out ends Good kept is s f.sound p.steps f.steps n (omega (arith, size, low))
      (λ front later target call deadline e count at_send. rule front later target call deadline mark e (subst (λ k. slice_get p.marks k ≡ Some (Some mark)) (sym count) at))))

  -- a part of a run and a stretch of its line match: they fit; the part's marks are of the stretch's requests, whose ids count up from 0; and
  -- each of these requests that is a command is safe
  pub record Matches (commands : List Task) (p : Part) (s : Stretch State) : Type 0 where
    pub fits : Fits p s
    pub sent : MarksAsk commands p.marks (map asked (own_sent ends s))
    pub counted : CountUp 0 p.marks
    pub safe : IsSafePart p s

  module _ (reads : Reads) (commands : List Task) where
    -- where `Books` holds of the last part, from the records `rs` on: its marks are of the requests of its stretch; and at its end the records
    -- of commands that were sent, without their moments, are `rs`, and then those of what the stretch settled
    booked_last : (rs : List Record) (p : Part) (s : Stretch State) (end : Model) → Fits p s → Books reads commands fresh [] rs p end.client end.marks (sent_of end.records)
        → MarksAsk commands p.marks (map asked (own_sent ends s)) × (map timeless (sent_of end.records) ≡ map timeless rs ++ records_of reads 0 p.marks (own_settled ends s))
    booked_last rs p s end f h = (subst (MarksAsk commands p.marks) (fit_sent p s f) h.wrote.sent, h.wrote.records ∙ ap (λ l. map timeless rs ++ records_of reads 0 p.marks l) (fit_settled p s f))

    -- where `Books` holds of a part at whose end the client restarts: its marks are of the requests of its stretch, too; and the records
    -- afterwards are `rs`, and then those of what the stretch settled, and of what is outstanding, as lost
    booked_ended : (rs mid : List Record) (p : Part) (s : Stretch State) → Fits p s → Books reads commands fresh [] rs (parts_joined p restarting) fresh [] mid
        → MarksAsk commands p.marks (map asked (own_sent ends s)) × (map timeless mid ≡ map timeless rs ++ records_of reads 0 p.marks (own_settled ends s ++ map lost (world ends s).client.waiting))
    booked_ended rs mid p s f h =
        let asks : sent_by fresh (p.steps ++ Restart ∷ []) ≡ map asked (own_sent ends s) = sent_append fresh p.steps (Restart ∷ []) ∙ append-nil (sent_by fresh p.steps) ∙ fit_sent p s f in (
          subst (λ marks. MarksAsk commands marks (map asked (own_sent ends s))) (append-nil p.marks) (subst (MarksAsk commands (p.marks ++ [])) asks h.wrote.sent),
          h.wrote.records ∙ ap (λ marks. map timeless rs ++ records_of reads 0 marks (settled_by fresh (p.steps ++ Restart ∷ []))) (append-nil p.marks)
              ∙ ap (λ l. map timeless rs ++ records_of reads 0 p.marks l) (fit_ended p s f),
        )

    -- a part that fits its stretch matches it, if its marks are of the stretch's requests, with ids that count up from 0, and the station's
    -- rule holds of it
    matches : (p : Part) (s : Stretch State) → Fits p s → MarksAsk commands p.marks (map asked (own_sent ends s)) → CountUp 0 p.marks → IsRuled p → Matches commands p s
    matches p s fits sent counted rule = record { fits = fits; sent = sent; counted = counted; safe = safe_part commands p s rule fits sent }

    -- so parts that fit their stretches match them, where `BooksInParts` holds of them, from the records `rs` on; and the records of commands
    -- that were sent, without their moments, are `rs`, and then those that the stretches record
    all_match : (ps : List Part) (ss : List (Stretch State)) (rs : List Record) (end : Model) → AllFit ps ss → AllByRecursion (λ (p : Part). CountUp 0 p.marks) ps
        → ((i : ℕ) (p : Part) → slice_get ps i ≡ Some p → IsRuled p) → BooksInParts reads commands fresh [] rs ps end
        → AllZip (Matches commands) ps ss × (map timeless (sent_of end.records) ≡ map timeless rs ++ written_over ends reads ps ss)
    all_match [] ss rs end f counted rules h = absurd h
    all_match (p ∷ ps) [] rs end f counted rules h = absurd f
    all_match (p ∷ []) (s ∷ []) rs end f counted rules h =
        let here = booked_last rs p s end f.0 h in ((matches p s f.0 here.0 counted.0 (rules 0 p refl), tt), here.1)
    all_match (p ∷ []) (s ∷ t ∷ ss) rs end f counted rules h = absurd f.1
    all_match (p ∷ q ∷ ps) (s ∷ []) rs end f counted rules h = absurd f.1
    all_match (p ∷ q ∷ ps) (s ∷ t ∷ ss) rs end f counted rules h =
        let here = booked_ended rs h.0 p s f.0 h.1 in
        let more = all_match (q ∷ ps) (t ∷ ss) h.0 end f.1 counted.1 (λ i x e. rules (suc i) x e) h.2 in (
          (matches p s f.0 here.0 counted.0 (rules 0 p refl), more.0),
          more.1 ∙ ap (λ l. l ++ written_over ends reads (q ∷ ps) (t ∷ ss)) here.1
              ∙ append_assoc (map timeless rs) (records_of reads 0 p.marks (own_settled ends s ++ map lost (world ends s).client.waiting)) (written_over ends reads (q ∷ ps) (t ∷ ss)),
        )

  -- What the first stretch records.

  -- if the ids of a part's requests count up from 0, a line that was made on executing its request n, for this call, was made on
  -- the request line of the id of that request's mark and the call
  its_line : (p : Part) (s : Stretch State) → Fits p s → (n : ℕ) (mark : _) → CountUp 0 p.marks → slice_get p.marks n ≡ Some (Some mark)
      → (asked call : Asked) → asked ≡ call → (line : List ℕ) (made : WasMadeOn 7 ends s.from s.moves (8 + n) call line)
      → asked_line (Some made.id) call ≡ asked_line (Some mark.id) asked
  its_line p s f n mark counted at asked call same line made =
      let id = made_by_id ends Good kept is s f.sound (8 + n) call line made in
      let marked = counted_at 0 p.marks n mark (omega arith) counted at in
      let own : made.id ≡ mark.id = omega (arith, id, marked) in
      ap (λ id. asked_line (Some id) call) own ∙ ap (λ x. asked_line (Some mark.id) x) (sym same)

  -- where a part and a stretch are the first of a run, and match: each record of what the stretch settled, and of what was lost then
  -- (`waiting`), is its own
  own_first : (reads : Reads) (commands : List Task) (p : Part) (s : Stretch State) (ps : List Part) (ss : List (Stretch State)) (waiting : List (Pending Asked)) (xs : List (Settlement Asked))
      → xs ≡ own_settled ends s ++ map lost waiting → Matches commands p s → AllByRecursion (IsOwnRecord ends Good kept commands (p ∷ ps) (s ∷ ss)) (records_of reads 0 p.marks xs)
  own_first reads commands p s ps ss waiting xs e h =
      all_records reads 0 (IsOwnRecord ends Good kept commands (p ∷ ps) (s ∷ ss)) p.marks xs
      (λ n mark x at got.
      let beyond : 8 ≤ 8 + n = omega arith in
      let a = marks_ask_at commands p.marks (map asked (own_sent ends s)) n (Some mark) h.sent at in
      let r = get_seen asked (own_sent ends s) n a.0 a.1 in
      let here : (x.outcome ≡ Lost → ⊥) → slice_get (own_settled ends s) n ≡ Some x = λ other. among_first (own_settled ends s) waiting n x other (sym (ap (λ l. slice_get l n) e) ∙ got) in
      let there : (x.outcome ≡ Lost → ⊥) → slice_get (world ends s).wire.settled (8 + n) ≡ Some x = λ other. get_drop 8 n (world ends s).wire.settled x (here other) in
      let right : (x.outcome ≡ Lost → ⊥) → x.call ≡ call_at a.2.0 (occasion_of mark) =
      λ other. (h.fits.faithful.one_for_one.same (8 + n) x r.0 (there other) (get_drop 8 n (world ends s).wire.sent r.0 r.1)).1 ∙ ap (λ (o : Wanted Asked). o.call) (r.2 ∙ a.2.2) in
      let of : HasRequest commands (p ∷ ps) (s ∷ ss) (record_of reads 0 mark x) =
      record { k = 0; part = p; stretch = s; of_parts = refl; of_stretches = refl; m = n; expected = mark.expected; mark = at; task = a.2.0; listed = a.2.1 } in (
        λ line says.
            let answered : x.outcome ≡ Answered line = was_answered (record_of reads 0 mark x) mark x (is_record_of reads 0 mark x) line says in
            let other = answer_not_lost x line answered in
            let b = h.fits.faithful.booked (8 + n) x (beyond, h.safe n mark at) (there other) line answered in
            let made_on = subst (λ call. WasMadeOn 7 ends s.from s.moves (8 + n) call line) (right other) (h.fits.faithful.made_on (8 + n) x (beyond, h.safe n mark at) (there other) line answered) in
            record {
              of = of;
              request = r.0;
              sent = r.1;
              asks = r.2 ∙ a.2.2;
              settled = here other ∙ ap (λ (o : Outcome). Some (record { target = x.target; call = x.call; outcome = o })) answered;
              made = b.0;
              reply = subst (λ call. IsReplyTo ends Good call line) (right other) b.1;
              executed = h.fits.faithful.executed (8 + n) x (beyond, h.safe n mark at) (there other) line answered;
              made_on = made_on;
              as_recorded = its_line p s h.fits n mark h.counted at x.call (call_at a.2.0 (occasion_of mark)) (right other) line made_on;
            },
        λ says.
            let late : x.outcome ≡ Late = was_late (record_of reads 0 mark x) mark x (is_record_of reads 0 mark x) says in
            let other = late_not_lost x late in
            let made = h.fits.faithful.late (8 + n) x (beyond, h.safe n mark at) (there other) late in
            let made_on = subst (λ call. WasMadeOn 7 ends s.from s.moves (8 + n) call made.0) (right other) made.1 in
            record {
              of = of;
              line = made.0;
              made_on = made_on;
              as_recorded = its_line p s h.fits n mark h.counted at x.call (call_at a.2.0 (occasion_of mark)) (right other) made.0 made_on;
            },
      ))

  -- the end of a command that wasn't sent is no answer
  none_unsent : (e : End) → went_out e ≡ false → (line : List ℕ) → line_of e ≡ Some line → ⊥
  none_unsent (end.Answered quality said l) out line answered = cc
  none_unsent e out line answered = cc

  -- a record of a command that wasn't sent is its own: it is no answer, and isn't late
  unsent_own : (commands : List Task) (ps : List Part) (ss : List (Stretch State)) (r : Record) → went_out r.end ≡ false → IsOwnRecord ends Good kept commands ps ss r
  unsent_own commands ps ss r out = (
    λ line answered. absurd (none_unsent r.end out line answered),
    λ late. let never : true ≡ false = sym (ap went_out late) ∙ out in absurd (true≢false never),
  )

  -- All that is recorded.

  -- where the parts and the stretches match, each record of the stretches is its own
  all_over : (reads : Reads) (commands : List Task) (ps : List Part) (ss : List (Stretch State)) → AllZip (Matches commands) ps ss
      → AllByRecursion (IsOwnRecord ends Good kept commands ps ss) (written_over ends reads ps ss)
  all_over reads commands [] [] h = tt
  all_over reads commands [] (s ∷ ss) h = absurd h
  all_over reads commands (p ∷ ps) [] h = absurd h
  all_over reads commands (p ∷ []) (s ∷ []) h =
      own_first reads commands p s [] [] [] (own_settled ends s) (sym (append-nil (own_settled ends s))) h.0
  all_over reads commands (p ∷ []) (s ∷ t ∷ ss) h = absurd h.1
  all_over reads commands (p ∷ q ∷ ps) (s ∷ []) h = absurd h.1
  all_over reads commands (p ∷ q ∷ ps) (s ∷ t ∷ ss) h =
      let xs = own_settled ends s ++ map lost (world ends s).client.waiting in
      let Own = IsOwnRecord ends Good kept commands in
      all_append (Own (p ∷ q ∷ ps) (s ∷ t ∷ ss)) (records_of reads 0 p.marks xs) (written_over ends reads (q ∷ ps) (t ∷ ss))
      (own_first reads commands p s (q ∷ ps) (t ∷ ss) (world ends s).client.waiting xs refl h.0)
      (all_on (Own (q ∷ ps) (t ∷ ss)) (Own (p ∷ q ∷ ps) (s ∷ t ∷ ss)) (written_over ends reads (q ∷ ps) (t ∷ ss))
      (own_later ends Good kept commands p s (q ∷ ps) (t ∷ ss))
      (all_over reads commands (q ∷ ps) (t ∷ ss) h.1))

  -- what holds of the records of commands that were sent, and of any record of a command that wasn't, holds of all records
  all_if_sent : (P : Record → Type 0) → ((r : Record) → went_out r.end ≡ false → P r) → (rs : List Record) → AllByRecursion P (sent_of rs) → AllByRecursion P rs
  all_if_sent P unsent [] h = tt
  all_if_sent P unsent (r ∷ rs) h = by_case (went_out r.end) refl (all_if_sent P unsent rs) h where
    -- the lemma above, by whether the command of the first record was sent (`b`)
    by_case : (b : Bool) → went_out r.end ≡ b → (AllByRecursion P (sent_of rs) → AllByRecursion P rs) → AllByRecursion P (if b then r ∷ sent_of rs else sent_of rs) → AllByRecursion P (r ∷ rs)
    by_case true out others g = (g.0, others g.1)
    by_case false out others g = (unsent r out, others g)

  -- where the parts and the stretches match, each of these records is its own, if those of commands that were sent are what the stretches
  -- record, without their moments
  all_recorded : (reads : Reads) (commands : List Task) (ps : List Part) (ss : List (Stretch State)) (rs : List Record) → AllZip (Matches commands) ps ss
      → map timeless (sent_of rs) ≡ written_over ends reads ps ss → AllByRecursion (IsOwnRecord ends Good kept commands ps ss) rs
  all_recorded reads commands ps ss rs matched written =
      all_if_sent (IsOwnRecord ends Good kept commands ps ss) (unsent_own commands ps ss) rs
      (own_timeless ends Good kept commands ps ss (sent_of rs) (subst (AllByRecursion (IsOwnRecord ends Good kept commands ps ss)) (sym written) (all_over reads commands ps ss matched)))

  -- The whole.

  -- what holds of a run in the field, part by part: what happens on the line is `AreOwn`; the parts and the stretches match; and the records of
  -- commands that were sent are what the stretches record, without their moments
  pub record IsJoined (u : UnderWay State) (x : Program State) : Type 0 where
    pub own : AreOwn 7 ends Good kept u x.runs
    pub matched : AllZip (Matches x.commands) (program_parts x) (stretches ends u x.runs)
    pub written : map timeless (sent_of (program_records x)) ≡ written_over ends x.scope.reads (program_parts x) (stretches ends u x.runs)

  -- it holds of each
  pub joined : (u : UnderWay State) (x : Program State) → IsInField ends Good kept u x → IsJoined u x
  joined u x h =
      let start = opening x.plan x.scope in
      let ps = program_parts x in
      let ss = stretches ends u x.runs in
      let own = own_runs ends Good kept is 7 (omega arith) x.runs u h.lines h.none (possible_runs 7 ends Good kept x.runs u h.possible)
      (begun_but_last ps x.runs u h.shown (parts_begun x.plan x.commands start x.acts h.runs)) in
      let on = follows x.plan x.commands x.scope.reads start x.acts refl (invariant_opening x.plan x.commands x.scope) h.runs in
      let all = all_match x.scope.reads x.commands ps ss [] (state_after x.plan x.commands x.scope x.acts) (all_fit ps x.runs u h.shown h.possible own)
      (ids_count x.plan x.commands x.scope x.acts h.runs) (λ i p e front later target call deadline mark. behind_the_table x.plan x.commands x.scope x.acts h.runs i p e front later target call deadline mark)
      on in
      record { own = are_own 7 ends Good kept x.runs u own; matched = all.0; written = all.1 }

  -- a run in the field is faithful
  pub run_faithful : RunsInFieldAreFaithful ends Good kept
  run_faithful u x h =
      let start = opening x.plan x.scope in
      let ps = program_parts x in
      let ss = stretches ends u x.runs in
      let j = joined u x h in
      let Match = Matches x.commands in
      let Own = IsOwnRecord ends Good kept x.commands ps ss in
      let own = all_recorded x.scope.reads x.commands ps ss (program_records x) j.matched j.written in
      record {
        begun = parts_begun x.plan x.commands start x.acts h.runs;
        clean = j.own;
        own = all_on Own (IsOwnAnswer ends Good kept x.commands ps ss) (program_records x) (λ r h. h.0) own;
        late = all_on Own (LateHasExecution ends Good kept x.commands ps ss) (program_records x) (λ r h. h.1) own;
        one_for_one = each_once x.plan x.commands x.scope x.acts;
        sent = zip_on Match (λ p s. MarksAsk x.commands p.marks (map asked (own_sent ends s))) (λ p s m. m.sent) ps ss j.matched;
        written = j.written;
        meant = are_meant x.plan x.commands start x.acts (invariant_opening x.plan x.commands x.scope) h.runs;
        in_time = zip_each Match (SettlesByFirstReply ends) (λ p s m. in_time ends Good kept is s m.fits.sound) ps ss j.matched;
        no_doubt = zip_each Match (RaisesNoDoubt ends) (λ p s m. none_raised ends Good kept is s m.fits.sound) ps ss j.matched;
        each = zip_each Match (IsFaithfulThroughout ends Good kept) (λ p s m. faithful_throughout ends Good kept is s m.fits.sound) ps ss j.matched;
      }
