-- The lines of the piece that an act brings, heard one by one: the outstanding requests were put among the acts before
-- (`StillWaitsAt` of `Waiting`), and each record that is written is true (`IsJustified`). An act is one call on the link, with its
-- result. `HonestSoFar` says both of the model after some of the lines.
use Rattle.gc_station.proofs.Common.{◌≡◌, inl, ℕ, ◌<◌, Bool, true, false, List, [], ◌∷◌, ◌++◌, length, Option, Some, refl, sym, ap, ◌∙◌, subst, arith, append_assoc, append-nil, AllByRecursion, rest_behind, Asked, Pending, Waits, IsWithinLimits, id_of, ById, Settlement, heard, hears, id_back, heard_digit, Decimal, End, Answered, line_of, meets, Task, Mark, Plan, Moment, Act, Gave, ReadsBefore, Completes, IsRepliedIn, IsAnsweredIn, IsOwnRequest, IsRecordedBy, IsWrittenAt, OneReadsPast, IsLateIn, IsOvertaken, count_at, IsCompared, IsByExpectation, records_of, is_well, expected_at, IsAsking, Record, state_after, Puts, Model, action_at, next_request_text, with_rest, line_came, lines_came, lines_completed, after_piece, Scope, Reads}
use Rattle.gc_texts.specs.declared.expectation.Expectation.{Expectation}
use Rattle.gc_station.proofs.Growing.{lines_records}
use Rattle.gc_station.proofs.Lists.{all_append, all_split, cuts_on, AllRisingAt}
use Rattle.gc_station.proofs.Meets.{HasPlace, EndedBy, heard_ended, hears_settles_oldest, left_within_limits, left_still_wait, all_records_at, IsRecordOf, is_record_of, some_sent, own_request, made_then, was_answered, was_late, was_lost}
use Rattle.gc_station.proofs.Qualified.{ended_met, ended_unmet}
use Rattle.gc_station.proofs.Waiting.{WasAsked, TimedOutAsRead, TimedOutAsReadBy, StillWaitsAt, IsJustified, IsHonest, as_read_after_moment, still_wait_at_moment, expired_within_limits, still_wait_after_moment, honest_after_moment}
use Rattle.gc_station.proofs.Walk.{piece_before}

-- five lists of records and the record r, joined in two ways, give the same list
regroup : (start news front : List Record) (r : Record) (back more : List Record) → ((start ++ news) ++ (front ++ r ∷ back)) ++ more ≡ start ++ ((news ++ front) ++ r ∷ (back ++ more))
regroup start news front r back more =
    append_assoc (start ++ news) (front ++ r ∷ back) more ∙ ap (λ xs. (start ++ news) ++ xs) (append_assoc front (r ∷ back) more)
    ∙ append_assoc start news (front ++ r ∷ (back ++ more)) ∙ ap (λ xs. start ++ xs) (sym (append_assoc news front (r ∷ (back ++ more))))

-- if the id that was heard has the place `at`, and the request at that place has the id `next`, then `next` was heard
id_heard : (c : ById Asked) (line : List ℕ) (at next : ℕ) → IsWithinLimits c → HasPlace c (heard line) at → id_of c at ≡ next → heard line ≡ Some next
id_heard c line at next w has is =
    let back = id_back c.next (length c.waiting) has.id w.digit w.few (heard_digit line has.id has.has) in
    has.has ∙ ap Some (sym back ∙ ap (λ (k : ℕ). id_of c k) (sym has.is) ∙ is)

module _ (plan : Plan) (commands : List Task) (scope : Scope) (acts : List Act) where
  -- the model after these acts
  abbrev state : List Act → Model
  state acts = state_after plan commands scope acts

  -- this record is of a request that the line settles (`EndedBy`)
  abbrev IsRecorded : (now : ℕ) → ById Asked → (line : List ℕ) → Record → Type 0
  IsRecorded now c line r =
      (at : ℕ) × (mark : Mark) × (x : Settlement Asked) × IsRecordOf r mark x
      × EndedBy (StillWaitsAt plan commands scope acts (state acts).client now c.next (length c.waiting)) c (heard line) line at x (Some mark)

  -- where `StillWaitsAt` holds of the requests that wait, with their marks, each record of a line is of a request that the line
  -- settles (`IsRecorded`)
  line_written : (reads : Reads) (now utc : ℕ) (c : ById Asked) (marks : List (Option Mark)) (line : List ℕ)
      → AllRisingAt (StillWaitsAt plan commands scope acts (state acts).client now c.next (length c.waiting)) 0 0 c.waiting marks
      → AllByRecursion (IsRecorded now c line) (records_of reads utc marks (hears c line (heard line)).settlements)
  line_written reads now utc c marks line waits =
      let W = StillWaitsAt plan commands scope acts (state acts).client now c.next (length c.waiting) in
      all_records_at (EndedBy W c (heard line) line) (IsRecorded now c line) reads utc 0 (hears c line (heard line)).settlements marks
      (λ i y mark ended. (i, mark, y, is_record_of reads utc mark y, ended)) (heard_ended W c marks line (heard line) waits)

  module _ (piece : List ℕ) (m : Moment) where
    -- the acts, and the one that brings the piece
    abbrev up_to_piece : List Act
    up_to_piece = acts ++ Gave piece m ∷ []

    -- after some lines of the piece the model is x: the outstanding requests were put among the acts before it, and the records
    -- so far are true by the acts up to it
    record HonestSoFar (x : Model) : Type 0 where
      window : IsWithinLimits x.client
      waiting : AllRisingAt (StillWaitsAt plan commands scope acts (state acts).client m.elapsed x.client.next (length x.client.waiting)) 0 0 x.client.waiting x.marks
      written : AllByRecursion (IsJustified plan commands scope up_to_piece) x.records
      news : List Record
      grew : x.records ≡ (state acts).records ++ news

    -- `line` is one of the lines of the piece, after those of `front`; and c, the client that hears it, is within its limits
    record IsLineOfPiece (c : ById Asked) (line : List ℕ) : Type 0 where
      front : List (List ℕ)
      others : List (List ℕ)
      split : front ++ line ∷ others ≡ lines_completed (state acts).rest piece
      limits : IsWithinLimits c

    -- the request p, which waits at the place `at` of the client c, was put among the acts (`WasAsked`), after `number` others;
    -- and `TimedOutAsReadBy` holds since, at the moment of the piece
    abbrev WasPut : ById Asked → (number at : ℕ) → Pending Asked → Option Mark → Type 0
    WasPut c number at p mark = WasAsked plan commands scope acts (TimedOutAsReadBy m.elapsed) number at (id_of c at) p mark

    -- `acts` are the acts `before`, then `request`, then `between`; `request` is the very request of the record r; and r was
    -- written at the act after `acts`, which brought the piece
    record WrittenDown (before : List Act) (request : Act) (between : List Act) (r : Record) : Type 0 where
      order : up_to_piece ≡ before ++ request ∷ (between ++ Gave piece m ∷ [])
      own : IsOwnRequest plan commands (state before) request r
      written : IsWrittenAt plan commands scope (before ++ request ∷ between) (Gave piece m) r

    -- after the piece the records are those before it, `news`, `earlier`, then r, `later` and `more`
    abbrev RecordsAre : (news earlier : List Record) → Record → (later more : List Record) → Type 0
    RecordsAre news earlier r later more = (state up_to_piece).records ≡ (((state acts).records ++ news) ++ (earlier ++ r ∷ later)) ++ more

    -- a record that the piece wrote, of the settlement of the request with this mark, is `WrittenDown`: that request was put
    -- before, and is the record's own
    written_down : (c : ById Asked) (number at : ℕ) (p : Pending Asked) (mark : Mark) (r : Record) (x : Settlement Asked) (news earlier later more : List Record)
        → IsRecordOf r mark x → (asks : p.call ≡ x.call)
        → (s : WasPut c number at p (Some mark)) → RecordsAre news earlier r later more → WrittenDown s.before s.request s.between r
    written_down c number at p mark r x news earlier later more of_it asks s ends = record {
      order = ap (λ xs. xs ++ Gave piece m ∷ []) s.order ∙ append_assoc s.before (s.request ∷ s.between) (Gave piece m ∷ []);
      own = own_request plan commands scope acts (TimedOutAsReadBy m.elapsed) number at (id_of c at) p mark r x of_it asks s;
      written = record {
        earlier = news ++ earlier;
        later = later ++ more;
        written = ap (λ (xs : List Act). (state (xs ++ Gave piece m ∷ [])).records) (sym s.order) ∙ ends
            ∙ regroup (state acts).records news earlier r later more
            ∙ ap (λ (xs : List Act). (state xs).records ++ ((news ++ earlier) ++ r ∷ (later ++ more))) s.order;
      };
    }

    -- a record that is `WrittenDown` is recorded by the read that gave the piece
    abbrev recorded_by : (before : List Act) (request : Act) (between : List Act) (r : Record) → WrittenDown before request between r
        → IsRecordedBy plan commands scope up_to_piece r (Gave piece m)
    recorded_by before request between r down =
        record { before = before; request = request; between = between; behind = []; order = down.order; own = down.own; written = down.written }

    -- the piece completes each of its lines (`Completes`), if the acts are `before`, `request` and `between`
    piece_completes : (c : ById Asked) (line : List ℕ) (before : List Act) (request : Act) (between : List Act) → IsLineOfPiece c line
        → acts ≡ before ++ request ∷ between → Completes (state (before ++ request ∷ between)).rest piece line
    piece_completes c line before request between l order = record {
      front = l.front;
      others = l.others;
      is = sym (ap (λ (xs : List Act). lines_completed (state xs).rest piece) order) ∙ sym l.split;
    }

    -- a record that is `WrittenDown`, of a request that was put before, is as `IsRepliedIn` says of a line of the piece that has
    -- the request's id
    abbrev replied_in_piece : (c : ById Asked) (line : List ℕ) (number at : ℕ) (p : Pending Asked) (mark : Option Mark) (r : Record) → IsLineOfPiece c line
        → (s : WasPut c number at p mark) → WrittenDown s.before s.request s.between r → HasPlace c (heard line) at → IsRepliedIn plan commands scope up_to_piece r line
    replied_in_piece c line number at p mark r l s down has = record {
      piece = piece;
      moment = m;
      its = recorded_by s.before s.request s.between r down;
      came = piece_completes c line s.before s.request s.between l s.order;
      id = id_heard c line at _ l.limits has s.id;
    }

    -- a record that is `WrittenDown`, of the request with this mark, is as `IsAnsweredIn` says of the line y, if that is the
    -- line of the piece that has the request's id, and the request hasn't timed out
    answered_in_piece : (c : ById Asked) (line y : List ℕ) (number at : ℕ) (p : Pending Asked) (mark : Mark) (r : Record) → IsLineOfPiece c line
        → (s : WasPut c number at p (Some mark)) → WrittenDown s.before s.request s.between r → y ≡ line → p.given_up ≡ false → HasPlace c (heard line) at
        → IsAnsweredIn plan commands scope up_to_piece r y
    answered_in_piece c line y number at p mark r l s down same given has =
        let both : AllByRecursion (ReadsBefore p.deadline) s.between × (m.elapsed < p.deadline) = subst (λ (b : Bool). TimedOutAsReadBy m.elapsed b p.deadline s.between) given s.stays in
        subst (λ z. IsAnsweredIn plan commands scope up_to_piece r z) (sym same) (record {
          reply = replied_in_piece c line number at p (Some mark) r l s down has;
          waits = subst (λ (d : ℕ). AllByRecursion (ReadsBefore d) s.between) (s.deadline mark refl) both.0;
          in_time = subst (λ (d : ℕ). m.elapsed < d) (s.deadline mark refl) both.1;
        })

    -- a record that is `WrittenDown`, of the request with this mark, is as `IsLateIn` says, if a line of the piece has the
    -- request's id, and the request has timed out
    late_in_piece : (c : ById Asked) (line : List ℕ) (number at : ℕ) (p : Pending Asked) (mark : Mark) (r : Record) → IsLineOfPiece c line
        → (s : WasPut c number at p (Some mark)) → WrittenDown s.before s.request s.between r → p.given_up ≡ true → HasPlace c (heard line) at
        → IsLateIn plan commands scope up_to_piece r
    late_in_piece c line number at p mark r l s down given has = record {
      line = line;
      reply = replied_in_piece c line number at p (Some mark) r l s down has;
      too_late = subst (λ (d : ℕ). OneReadsPast d (s.between ++ Gave piece m ∷ [])) (s.deadline mark refl)
          (subst (λ (b : Bool). TimedOutAsRead b p.deadline (s.between ++ Gave piece m ∷ [])) given
          (as_read_after_moment (Gave piece m) m refl p.given_up p.deadline s.between s.stays));
    }

    -- a record that is `WrittenDown`, of the request with this mark, was compared with what the text expects, as its line was with what the
    -- mark does
    compared_in_piece : (c : ById Asked) (number at : ℕ) (p : Pending Asked) (mark : Mark) (r : Record) (x : Settlement Asked) → IsRecordOf r mark x
        → (s : WasPut c number at p (Some mark)) → WrittenDown s.before s.request s.between r → (line : List ℕ) (met : Bool) → line_of r.end ≡ Some line
        → meets mark.expected.expects mark.expected.before line ≡ met → IsCompared plan commands scope up_to_piece r met
    compared_in_piece c number at p mark r x of_it s down line met its is =
        let sent = s.its mark refl in
        let counts = (state s.before).counts in
        record {
          line = line;
          its_line = its;
          act = Gave piece m;
          its = recorded_by s.before s.request s.between r down;
          compared = ap (λ (k : ℕ). meets (expected_at commands k).expects (count_at counts (expected_at commands k).counter) line) of_it.place
              ∙ ap (λ (expects : Option Expectation). meets expects (count_at counts (expected_at commands mark.place).counter) line) (sym sent.expects)
              ∙ ap (λ (before : Option Decimal). meets mark.expected.expects before line) (sym sent.before) ∙ is;
        }

    -- such a record is as the text expects it, if it was answered well, and isn't, if it ended as unexpected
    expected_in_piece : (c : ById Asked) (number at : ℕ) (p : Pending Asked) (mark : Mark) (r : Record) (x : Settlement Asked) → IsRecordOf r mark x
        → (s : WasPut c number at p (Some mark)) → WrittenDown s.before s.request s.between r → IsByExpectation plan commands scope up_to_piece r
    expected_in_piece c number at p mark r x of_it s down = (
      (λ well. by_end r.end refl well),
      (λ line e. compared_in_piece c number at p mark r x of_it s down line false (ap line_of e) (ended_unmet of_it.reads mark.expected x.call line x.outcome (sym of_it.ended ∙ e))),
    ) where
      -- a record that was answered well, by how it ended
      by_end : (end : End) → r.end ≡ end → is_well end ≡ true → IsCompared plan commands scope up_to_piece r true
      by_end (Answered k said line) e well =
          let ends = sym of_it.ended ∙ e in
          compared_in_piece c number at p mark r x of_it s down line true (ap line_of e)
          (ended_met of_it.reads mark.expected x.call line x.outcome (ap line_of ends) (ap is_well ends ∙ well))
      by_end end e well = cc

    -- if a line of the piece has the id of a request q that waits, and that was put after the request p, p is overtaken at the
    -- read that gave the piece (`IsOvertaken`)
    overtaken_in_piece : (c : ById Asked) (line : List ℕ) (number number' at there : ℕ) (p q : Pending Asked) (mark mark' : Option Mark) → IsLineOfPiece c line
        → (s : WasPut c number at p mark) → StillWaitsAt plan commands scope acts (state acts).client m.elapsed c.next (length c.waiting) number' there q mark'
        → number < number' → at < there → HasPlace c (heard line) there → IsOvertaken plan commands scope s.before s.request s.between (Gave piece m)
    overtaken_in_piece c line number number' at there p q mark mark' l s waits low above has =
        let t = waits.0 in
        let longer : length s.before < length t.before = omega (arith, s.many, t.many, low) in
        let cut = cuts_on s.before t.before s.between t.between s.request t.request (sym s.order ∙ t.order) longer in
        let above_none : 0 < there = omega (arith, above) in
        let on = cut.goes_on in
        record {
          first = cut.between;
          other = t.request;
          next = t.between;
          order = cut.splits;
          asks = subst (λ (xs : List Act). IsAsking (action_at plan (state xs))) on (t.asks above_none);
          call = q.call;
          put = subst (λ (xs : List Act). Puts (next_request_text (state xs).client q.call) t.request) on t.put;
          waits = subst (λ (xs : List Act). Waits (state (s.before ++ s.request ∷ s.between)).client (state xs).client.next) on
              (subst (λ (i : ℕ). Waits (state (s.before ++ s.request ∷ s.between)).client i) t.id
              (subst (λ (xs : List Act). Waits (state xs).client (id_of c there)) s.order waits.1));
          piece = piece;
          moment = m;
          reads = refl;
          line = line;
          came = piece_completes c line s.before s.request s.between l s.order;
          id = id_heard c line there _ l.limits has (t.id ∙ ap (λ (xs : List Act). (state xs).client.next) on);
        }

    -- the record of a request that a line of the piece settles (`IsRecorded`) is true by the acts with the one that brought the
    -- piece
    line_true : (c : ById Asked) (line : List ℕ) (r : Record) (news earlier later more : List Record) → IsLineOfPiece c line → RecordsAre news earlier r later more
        → IsRecorded m.elapsed c line r → IsJustified plan commands scope up_to_piece r
    line_true c line r news earlier later more l ends it =
        let at = it.0 in
        let mark = it.1 in
        let of_it = it.3 in
        let x = it.4 in
        let s = x.holds.0 in
        let down = written_down c x.number at x.pending mark r it.2 news earlier later more of_it x.asks s ends in
        record {
          answered = λ y e. let a = x.answered y (was_answered r mark it.2 of_it y e) in answered_in_piece c line y x.number at x.pending mark r l s down a.0 a.1 a.2;
          late = λ e. let a = x.late (was_late r mark it.2 of_it e) in late_in_piece c line x.number at x.pending mark r l s down a.0 a.1;
          lost = λ e.
              let a = x.lost (was_lost r mark it.2 of_it e) in
              let f = a.found in
              let above : x.number < f.number = f.least in
              record {
                act = Gave piece m;
                its = recorded_by s.before s.request s.between r down;
                shown = inl (overtaken_in_piece c line x.number f.number at a.place x.pending f.one (Some mark) f.beside l s f.holds above a.above a.heard);
              };
          made = λ utc e. record {
            act = Gave piece m;
            its = recorded_by s.before s.request s.between r down;
            asks = made_then plan commands scope acts (TimedOutAsReadBy m.elapsed) x.number at (id_of c at) x.pending mark r it.2 of_it x.asks s;
          };
          unsent = λ e. some_sent r mark it.2 of_it e;
          expected = expected_in_piece c x.number at x.pending mark r it.2 of_it s down;
        }

    -- `HonestSoFar` is preserved by the lines of a piece that are left after those of `front`; `tail` are the records that are
    -- written after them at the same act
    hear_all : (front lines : List (List ℕ)) (x : Model) (tail : List Record) → front ++ lines ≡ lines_completed (state acts).rest piece
        → (state up_to_piece).records ≡ (lines_came x lines).records ++ tail → HonestSoFar x → HonestSoFar (lines_came x lines)
    hear_all front [] x tail split ends h = h
    hear_all front (line ∷ others) x tail split ends h =
        let R = IsJustified plan commands scope up_to_piece in
        let c = x.client in
        let done = hears c line (heard line) in
        let written : List Record = records_of x.reads x.progress.moment.utc x.marks done.settlements in
        let left = hears_settles_oldest c line (heard line) in
        let more = lines_records (line_came x line) others in
        let all_written = line_written x.reads m.elapsed x.progress.moment.utc c x.marks line h.waiting in
        let true_written = all_split (IsRecorded m.elapsed c line) R [] written written refl
        (λ (earlier : List Record) (r : Record) (later : List Record) at said.
        line_true c line r h.news earlier later (more.0 ++ tail) (record { front = front; others = others; split = split; limits = h.window })
        (ends ∙ ap (λ xs. xs ++ tail) more.1 ∙ append_assoc (x.records ++ written) more.0 tail ∙ ap (λ xs. (xs ++ written) ++ (more.0 ++ tail)) h.grew
        ∙ ap (λ xs. (((state acts).records ++ h.news) ++ xs) ++ (more.0 ++ tail)) (sym at))
        said)
        all_written in
        hear_all (front ++ line ∷ []) others (line_came x line) tail (append_assoc front (line ∷ []) others ∙ split) ends
        (record {
          window = left_within_limits c done left h.window;
          waiting = left_still_wait plan commands scope acts (state acts).client m.elapsed c done x.marks left h.window h.waiting;
          written = all_append R x.records written h.written true_written;
          news = h.news ++ written;
          grew = ap (λ xs. xs ++ written) h.grew ∙ append_assoc (state acts).records h.news written;
        })

    -- once the lines of a piece were heard, `IsHonest` holds after the act that brought it
    behind_piece : (x : Model) → HonestSoFar x → IsHonest plan commands scope up_to_piece up_to_piece x
    behind_piece x h = record {
      waiting = still_wait_after_moment plan commands scope acts (Gave piece m) (state acts).client m _ _ x.client.waiting x.marks refl h.waiting;
      written = h.written;
    }

    -- `IsHonest` is preserved by a piece that an act brings, before what is outstanding is lost; `tail` are the records that the
    -- act writes after those of the piece
    pub piece_honest : (heard : Bool) (word : List ℕ) (tail : List Record)
        → (state up_to_piece).records ≡ (after_piece heard word piece (piece_before m (state acts))).records ++ tail
        → IsWithinLimits (state acts).client → IsHonest plan commands scope acts up_to_piece (state acts)
        → IsHonest plan commands scope up_to_piece up_to_piece (after_piece heard word piece (piece_before m (state acts)))
    piece_honest false word tail ends window h =
        let s = state acts in honest_after_moment plan commands scope acts (Gave piece m) m s.client s.marks s.records refl h
    piece_honest true (asked ∷ others) tail ends window h =
        let s = state acts in honest_after_moment plan commands scope acts (Gave piece m) m s.client s.marks s.records refl h
    piece_honest true [] tail ends window h =
        let s = state acts in
        behind_piece _
        (hear_all [] (lines_completed s.rest piece) (with_rest (rest_behind s.rest piece) (piece_before m s)) tail refl ends
        (record {
          window = expired_within_limits s.client m.elapsed window;
          waiting = still_wait_at_moment plan commands scope acts m.elapsed s.client s.marks h.waiting;
          written = h.written;
          news = [];
          grew = sym (append-nil s.records);
        }))
