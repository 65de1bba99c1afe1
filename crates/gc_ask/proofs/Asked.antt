-- What was asked so far, command after command. Throughout, `done` are the commands asked so far, s says where the run is, `more`
-- are the bytes that come next, and `new` is what is seen of both ends of the link and of the sink after one more command.
use Rattle.gc_ask.proofs.Common.{◌≡◌, ℕ, ◌+◌, ◌<◌, Bool, true, ltb, List, [], ◌∷◌, ◌++◌, length, take, map, Option, Some, None, refl, sym, ap, ◌∙◌, subst, arith, append_assoc, append-nil, Appends, ltb-true, length_push, Appends-trans, Appends-nil, all_of, Kept, StandsFor, lines, rest_of, rest_behind, lines_completed, rest-append, Appends-is, Call, ById, Settlement, heard, fits, hears, hears_line, settled_by_line, place_in, settlement_seen, awaited, ready_for, waiting_for, FirstReply, first_reply, settled_by, asked_from, asked, written_request, written_requests, lost_of, LinkResult, IsNext, AsksAll, ReachesCommand, IsCutAt, LosesOne, StopsAt, WritesPart, Command, settlement_line, settlement_lines, settlement_lines_from, WrotePartOfSettlements, SeenAtBoth, written_at_both, ClientHeard, Settles, lines_of_one_more}
use Rattle.gc_lines.proofs.InOrder.{all_of-append}
use Rattle.gc_ask.proofs.FirstReplies.{lines_completed-append, first_reply-at}

-- One request that waits.

-- a number that a test finds to be below 1 is 0
zero_if_below_one : (p : ℕ) (b : Bool) → b ≡ ltb p 1 → b ≡ true → p ≡ 0
zero_if_below_one p b is e = omega (arith, ltb-true p 1 (sym is ∙ e))

-- a line that fits the client which waits for request k settles that request alone, and the client is then ready for the next
pub hears_one : (k : ℕ) (c : Command) (line : List ℕ) → fits (waiting_for k c) (heard line) ≡ true
    → ((hears_line (waiting_for k c) line).settlements ≡ settled_by_line (awaited c) line ∷ []) × ((hears_line (waiting_for k c) line).client ≡ ready_for (k + 1))
hears_one k c line fit = by_id (heard line) fit where
  -- the lemma above for whatever id is heard (`o`), or none, where it fits the client
  by_id : (o : Option ℕ) → fits (waiting_for k c) o ≡ true
      → ((hears (waiting_for k c) line o).settlements ≡ settled_by_line (awaited c) line ∷ []) × ((hears (waiting_for k c) line o).client ≡ ready_for (k + 1))
  by_id None e = (cc)
  by_id (Some id) e =
      let first : place_in (waiting_for k c) id ≡ 0 = zero_if_below_one _ _ refl e in
      rw first (refl, refl)

-- Requests and settlements in order.

-- the request lines of the commands `done` and then c, the first of which is request k, are those of `done`, and then that of c
requests_last : (k : ℕ) (done : List Command) (c : Command) → written_requests k (done ++ c ∷ []) ≡ written_requests k done ++ written_request (k + length done) c ∷ []
requests_last k [] c = ap (λ n. written_request n c ∷ []) (omega arith)
requests_last k (x ∷ done) c =
    let place : k + 1 + length done ≡ k + length (x ∷ done) = omega arith in
    ap (λ ts. written_request k x ∷ ts) (requests_last (k + 1) done c ∙ ap (λ n. written_requests (k + 1) done ++ written_request n c ∷ []) place)

-- the text of the request lines of `done` and then c is that of `done`, and then the line of c
pub all_requests_last : (done : List Command) (c : Command) → all_of (written_requests 0 (done ++ c ∷ [])) ≡ all_of (written_requests 0 done) ++ written_request (length done) c
all_requests_last done c =
    let place : 0 + length done ≡ length done = omega arith in
    ap all_of (requests_last 0 done c ∙ ap (λ n. written_requests 0 done ++ written_request n c ∷ []) place) ∙ all_of-append (written_requests 0 done) (written_request (length done) c ∷ [])
    ∙ ap (λ t. all_of (written_requests 0 done) ++ t) (append-nil (written_request (length done) c))

-- the lines of k settlements and one more are those of the k, and then the line of that one, at place k
pub lines_last : (settled : List (Settlement Call)) (k : ℕ) (next : Settlement Call) → length settled ≡ k
    → settlement_lines (settled ++ next ∷ []) ≡ settlement_lines settled ++ settlement_lines_from k (next ∷ [])
lines_last settled k next is =
    let place : 0 + length settled ≡ k = omega (arith, is) in
    lines_of_one_more 0 settled next ∙ ap (λ n. settlement_lines settled ++ settlement_line n next) place ∙ ap (λ t. settlement_lines settled ++ t) (sym (append-nil (settlement_line k next)))

-- The course of a run.

-- where a run is: the bytes that the link gave (`given`), those of them that weren't looked at yet (`left`), what the assembler keeps,
-- the client, and what is seen of both ends of the link and of the sink, at first and by now
pub record RunState : Type 0 where
  pub given : List ℕ
  pub left : List ℕ
  pub kept : Kept
  pub client : ById Call
  pub first : SeenAtBoth
  pub latest : SeenAtBoth

-- the course of a run so far: the commands `done` were asked, and settled by the bytes that the link gave. `looked` are the lines
-- looked at, and `now` is the rest of a line that the assembler keeps
pub record Course (done : List Command) (s : RunState) : Type 0 where
  pub now : List ℕ
  pub looked : List (List ℕ)
  pub settled : List (Settlement Call)
  pub stands : StandsFor s.kept now
  pub seen : lines s.given ≡ looked ++ lines_completed now s.left
  pub rests : rest_of s.given ≡ rest_behind now s.left
  pub count : length settled ≡ length done
  pub asks : (more : List Command) (later : List (List ℕ)) → asked_from 0 (done ++ more) (looked ++ later) ≡ settled ++ asked_from (length done) more later
  pub client_is : s.client ≡ ready_for (length done)
  pub link : Appends s.first.client.taken s.latest.client.taken (all_of (written_requests 0 done))
  pub sink : Appends s.first.sink.bytes s.latest.sink.bytes (settlement_lines settled)

-- the bytes `more` go on where the course is: with them at the end of the bytes given, and of those left, its lines and its rest are
-- still as `Course` has them (`seen`, `rests`)
lines_and_rest_with_more : (done : List Command) (s : RunState) (more : List ℕ) (at : Course done s)
    → (lines (s.given ++ more) ≡ at.looked ++ lines_completed at.now (s.left ++ more)) × (rest_of (s.given ++ more) ≡ rest_behind at.now (s.left ++ more))
lines_and_rest_with_more done s more at =
    let old = lines_completed at.now s.left in
    let new = lines_completed (rest_behind at.now s.left) more in (
      lines_completed-append [] s.given more ∙ ap (λ r. lines s.given ++ lines_completed r more) at.rests ∙ ap (λ zs. zs ++ new) at.seen
          ∙ append_assoc at.looked old new ∙ ap (λ zs. at.looked ++ zs) (sym (lines_completed-append at.now s.left more)),
      rest-append [] s.given more ∙ ap (λ r. rest_behind r more) at.rests ∙ sym (rest-append at.now s.left more),
    )

-- what the client's end has heard, `h`, as the course has it once the bytes `more` came: its rest is the course's, and its bytes
-- are those that weren't looked at, and then `more`
abbrev pub heard_after : {done : List Command} {s : RunState} → Course done s → (more : List ℕ) → ClientHeard → ClientHeard
heard_after {s = s} at more h = record h { rest = at.now; bytes = s.left ++ more }

-- where a run is once the bytes `more` came, the client's end has heard h, and `new` is seen of both ends and of the sink
abbrev pub run_state_after : RunState → (more : List ℕ) → ClientHeard → (new : SeenAtBoth) → RunState
run_state_after s more h new =
    record { given = s.given ++ more; left = h.left; kept = h.kept; client = h.client; first = s.first; latest = new }

-- where the assembler keeps nothing, and the client is ready for request 0, `Course` is true with no commands asked and no
-- bytes given
pub course_start : (kept : Kept) (client : ById Call) (seen : SeenAtBoth) → StandsFor kept [] → client ≡ ready_for 0
    → Course [] (record { given = []; left = []; kept = kept; client = client; first = seen; latest = seen })
course_start kept client seen s is = record {
  now = [];
  looked = [];
  settled = [];
  stands = s;
  seen = refl;
  rests = refl;
  count = refl;
  asks = λ more later. refl;
  client_is = is;
  link = Appends-nil seen.client.taken;
  sink = Appends-nil seen.sink.bytes;
}

-- by all bytes that came, also by those that come next, the commands asked so far are settled as the course says
pub asked_as_in_course : (done : List Command) (s : RunState) (more : List ℕ) (at : Course done s) → asked done (s.given ++ more) ≡ at.settled
asked_as_in_course done s more at =
    let came = lines_completed at.now (s.left ++ more) in
    ap (λ xs. asked_from 0 xs (lines (s.given ++ more))) (sym (append-nil done)) ∙ ap (asked_from 0 (done ++ [])) (lines_and_rest_with_more done s more at).0
    ∙ at.asks [] came ∙ append-nil at.settled

-- where `r` is the first reply to one more command, the bytes that came settle what the course says, then that command by
-- `r`, and then the later ones by the lines after `r`; without a reply they settle what the course says, and no more
asked_past_course : (done : List Command) (s : RunState) (more : List ℕ) (at : Course done s) (command : Command) (later : List Command) (r : Option FirstReply)
    → first_reply (waiting_for (length done) command) (lines_completed at.now (s.left ++ more)) ≡ r
    → asked (done ++ command ∷ later) (s.given ++ more) ≡ at.settled ++ settled_by (waiting_for (length done) command) (asked_from (length done + 1) later) r
asked_past_course done s more at command later r is =
    let came = lines_completed at.now (s.left ++ more) in
    ap (asked_from 0 (done ++ command ∷ later)) (lines_and_rest_with_more done s more at).0
    ∙ at.asks (command ∷ later) came ∙ ap (λ x. at.settled ++ settled_by (waiting_for (length done) command) (asked_from (length done + 1) later) x) is

-- a line that settles a request of the client `from` (`Settles`) is the first reply among the lines that were completed, and the lines
-- of the bytes that are left come after it
first_reply_is : (from : ById Call) (h : ClientHeard) (s : Settles from h)
    → first_reply from (lines_completed h.rest h.bytes) ≡ Some (record { line = s.line; later = lines_completed [] h.left })
first_reply_is from h s = ap (first_reply from) s.seen ∙ first_reply-at from s.front s.line (lines_completed [] h.left) s.none s.fits

-- where a line settles the request of a client that waits for request k alone (`Settles`), what was settled is that one request,
-- by that line, and the client is then ready for request k + 1
pub settled_is : (k : ℕ) (command : Command) (h : ClientHeard) (s : Settles (waiting_for k command) h)
    → (map settlement_seen h.settled ≡ settled_by_line (awaited command) s.line ∷ []) × (h.client ≡ ready_for (k + 1))
settled_is k command h s =
    let one = hears_one k command s.line s.fits in
    (s.settles.seen ∙ one.0, s.client ∙ one.1)

-- where a line of the bytes that came settles one more command (`Settles`), these bytes settle what the course says, and then
-- this command by that line
pub asked_with_reply : (done : List Command) (s : RunState) (more : List ℕ) (at : Course done s) (command : Command) (h : ClientHeard)
    (by : Settles (waiting_for (length done) command) (heard_after at more h))
    → asked (done ++ command ∷ []) (s.given ++ more) ≡ at.settled ++ settled_by_line (awaited command) by.line ∷ []
asked_with_reply done s more at command h by =
    asked_past_course done s more at command [] (Some (record { line = by.line; later = lines_completed [] h.left }))
    (first_reply_is (waiting_for (length done) command) (heard_after at more h) by)
    ∙ ap (λ zs. at.settled ++ (zs ++ [])) (hears_one (length done) command by.line by.fits).0

-- where `Course` is true of the commands `done`, one more command was sent, a line settles it (`Settles`), and the line of its
-- settlement was written, `Course` is true of `done` and that command
pub course_more : (done : List Command) (command : Command) (s : RunState) (more : List ℕ) (h : ClientHeard) (new : SeenAtBoth) (at : Course done s)
    → Settles (waiting_for (length done) command) (heard_after at more h)
    → Appends s.latest.client.taken new.client.taken (written_request (length done) command)
    → Appends s.latest.sink.bytes new.sink.bytes (settlement_lines_from (length done) (map settlement_seen h.settled))
    → Course (done ++ command ∷ []) (run_state_after s more h new)
course_more done command s more h new at by sent told =
    let k = length done in
    let is = settled_is k command (heard_after at more h) by in
    let next = settled_by_line (awaited command) by.line in
    let front : List (List ℕ) = by.front ++ by.line ∷ [] in
    let came = lines_and_rest_with_more done s more at in
    let place : k + 1 ≡ length (done ++ command ∷ []) = sym (length_push done command) in
    record {
      now = [];
      looked = at.looked ++ front;
      settled = at.settled ++ next ∷ [];
      stands = by.stands;
      seen = came.0 ∙ ap (λ zs. at.looked ++ zs) (by.seen ∙ sym (append_assoc by.front (by.line ∷ []) (lines_completed [] h.left)))
          ∙ sym (append_assoc at.looked front (lines_completed [] h.left));
      rests = came.1 ∙ by.rests;
      count = length_push at.settled next ∙ ap (λ n. n + 1) at.count ∙ place;
      asks = λ others later.
          let found : first_reply (waiting_for k command) (front ++ later) ≡ Some (record { line = by.line; later = later }) =
          ap (first_reply (waiting_for k command)) (append_assoc by.front (by.line ∷ []) later) ∙ first_reply-at (waiting_for k command) by.front by.line later by.none by.fits in
          ap (λ xs. asked_from 0 xs ((at.looked ++ front) ++ later)) (append_assoc done (command ∷ []) others)
          ∙ ap (asked_from 0 (done ++ command ∷ others)) (append_assoc at.looked front later)
          ∙ at.asks (command ∷ others) (front ++ later)
          ∙ ap (λ x. at.settled ++ settled_by (waiting_for k command) (asked_from (k + 1) others) x) found
          ∙ ap (λ zs. at.settled ++ (zs ++ asked_from (k + 1) others later)) (hears_one k command by.line by.fits).0
          ∙ ap (λ n. at.settled ++ next ∷ asked_from n others later) place
          ∙ sym (append_assoc at.settled (next ∷ []) (asked_from (length (done ++ command ∷ [])) others later));
      client_is = is.1 ∙ ap ready_for place;
      link = Appends-is _ _ _ _ (sym (all_requests_last done command)) (Appends-trans _ _ _ _ _ at.link sent);
      sink = Appends-is _ _ _ _ (ap (λ zs. settlement_lines at.settled ++ settlement_lines_from k zs) is.0 ∙ sym (lines_last at.settled k next at.count)) (Appends-trans _ _ _ _ _ at.sink told);
    }

-- Ends.

-- where `Course` is true of all commands, all were asked and settled, as `AsksAll` has it
pub course_all : (commands : List Command) (s : RunState) → Course commands s → AsksAll commands s.given (written_at_both s.first s.latest)
course_all commands s at =
    let all : asked commands s.given ≡ at.settled = ap (asked commands) (sym (append-nil s.given)) ∙ asked_as_in_course commands s [] at in
    record {
      settled = ap length all ∙ at.count;
      sent = at.link;
      sink_took = Appends-is _ _ _ _ (ap settlement_lines (sym all)) at.sink;
    }

-- the commands are `done`, then `command`, and then `later`, and `Course` is true of `done`: `command` is the next to be asked
pub record AtNext (commands : List Command) (s : RunState) : Type 0 where
  pub done : List Command
  pub command : Command
  pub later : List Command
  pub order : commands ≡ done ++ command ∷ later
  pub course : Course done s

-- the sink took the line that says the next command is lost, as is seen by `new`
abbrev TookLost : {commands : List Command} {s : RunState} → AtNext commands s → (new : SeenAtBoth) → Type 0
TookLost {s = s} n new = Appends s.latest.sink.bytes new.sink.bytes (settlement_lines_from (length n.done) (lost_of n.command ∷ []))

-- by all bytes that came, also those that come next, asking reached the next command (`ReachesCommand`)
abbrev course_reaches : (commands : List Command) (s : RunState) (n : AtNext commands s) (more : List ℕ) → ReachesCommand commands (s.given ++ more)
course_reaches commands s n more = record {
  earlier = n.done;
  command = n.command;
  later = n.later;
  order = n.order;
  settled = ap length (asked_as_in_course n.done s more n.course) ∙ n.course.count;
}

-- where the line was written that says the next command is lost (`TookLost`), that command is lost (`LosesOne`)
abbrev course_loses : (commands : List Command) (s : RunState) (n : AtNext commands s) (more : List ℕ) (new : SeenAtBoth)
    → TookLost n new → LosesOne commands (s.given ++ more) (written_at_both s.first new)
course_loses commands s n more new told =
    let course = n.course in
    let so : asked n.done (s.given ++ more) ≡ course.settled = asked_as_in_course n.done s more course in
    record {
      at = course_reaches commands s n more;
      sink_took = Appends-is _ _ _ _ (sym (lines_last course.settled (length n.done) (lost_of n.command) course.count)
          ∙ ap (λ zs. settlement_lines (zs ++ lost_of n.command ∷ [])) (sym so)) (Appends-trans _ _ _ _ _ course.sink told);
    }

-- where the next command was sent, what came doesn't settle it if the link is remote, and the line was written that says it is lost
-- (`TookLost`), asking stopped there (`StopsAt`)
pub course_stops : (is_remote : Bool) (commands : List Command) (s : RunState) (n : AtNext commands s) (more : List ℕ) (new : SeenAtBoth)
    → (is_remote ≡ true → first_reply (waiting_for (length n.done) n.command) (lines_completed n.course.now (s.left ++ more)) ≡ None)
    → Appends s.latest.client.taken new.client.taken (written_request (length n.done) n.command)
    → TookLost n new
    → StopsAt is_remote commands (s.given ++ more) (written_at_both s.first new)
course_stops is_remote commands s n more new none sent told = record {
  loses = course_loses commands s n more new told;
  sent = Appends-is _ _ _ _ (sym (all_requests_last n.done n.command)) (Appends-trans _ _ _ _ _ n.course.link sent);
  no_more = λ is. ap (λ xs. asked xs (s.given ++ more)) n.order ∙ asked_past_course n.done s more n.course n.command n.later None (none is) ∙ append-nil n.course.settled
      ∙ sym (asked_as_in_course n.done s more n.course);
}

-- where the link took the first `bytes` bytes of the next command's request (if the link is remote, `part` bytes, and not all), and the
-- line was written that says the command is lost (`TookLost`), asking was cut there (`IsCutAt`), after `count` commands
pub course_cut : (is_remote : Bool) (commands : List Command) (s : RunState) (n : AtNext commands s) (more : List ℕ) (new : SeenAtBoth)
    (count part bytes : ℕ) → count ≡ length n.done → (is_remote ≡ true → (bytes ≡ part) × (part < length (written_request (length n.done) n.command)))
    → Appends s.latest.client.taken new.client.taken (take bytes (written_request (length n.done) n.command))
    → TookLost n new
    → IsCutAt is_remote commands (s.given ++ more) (written_at_both s.first new) count part
course_cut is_remote commands s n more new count part bytes is cut sent told = record {
  loses = course_loses commands s n more new told;
  count_is = is;
  bytes = bytes;
  sent = Appends-is _ _ _ _ (ap (λ k. all_of (written_requests 0 n.done) ++ take bytes (written_request k n.command)) (sym is)) (Appends-trans _ _ _ _ _ n.course.link sent);
  cut = subst (λ k. is_remote ≡ true → (bytes ≡ part) × (part < length (written_request k n.command))) (sym is) cut;
}

-- where the link took the first `bytes` bytes of the next command's request, the link's use ended with `link` (`over`), and the sink
-- failed as it took the line of the next settlement (`IsNext`), asking ended there (`WritesPart`)
pub course_sink_failed : (commands : List Command) (s : RunState) (n : AtNext commands s) (more : List ℕ) (new : SeenAtBoth)
    (bytes : ℕ) (next : Settlement Call) (over : LinkResult → Type 0) (link : LinkResult)
    → over link → (asked n.done (s.given ++ more) ≡ n.course.settled → IsNext n.done n.command (s.given ++ more) next link)
    → Appends s.latest.client.taken new.client.taken (take bytes (written_request (length n.done) n.command))
    → WrotePartOfSettlements (length n.done) (next ∷ []) s.latest.sink.bytes new.sink.bytes
    → WritesPart commands (s.given ++ more) (written_at_both s.first new) over
course_sink_failed commands s n more new bytes next over link ends is sent told =
    let done = n.done in
    let course = n.course in
    let so : asked done (s.given ++ more) ≡ course.settled = asked_as_in_course done s more course in
    let alone = alone_in told.earlier told.later told.next next told.order in
    let same : length done + length told.earlier ≡ length done = ap (λ (xs : List (Settlement Call)). length done + length xs) alone.0 ∙ omega arith in
    record {
      at = course_reaches commands s n more;
      bytes = bytes;
      sent = Appends-trans _ _ _ _ _ course.link sent;
      link = link;
      ends = ends;
      next = next;
      next_is = is so;
      part = told.part;
      not_all = subst (λ (t : List ℕ). told.part < length t) (the_line same alone.1) told.not_all;
      sink_took = Appends-is _ _ _ _ (ap (λ zs. settlement_lines zs ++ take told.part (settlement_line (length done) next)) (sym so))
          (Appends-trans _ _ _ _ _ course.sink (Appends-is _ _ _ _ (ap (λ (xs : List (Settlement Call)). settlement_lines_from (length done) xs ++ take told.part
          (settlement_line (length done + length told.earlier) told.next)) alone.0 ∙ ap (take told.part) (the_line same alone.1)) told.took));
    } where
      -- a list of one element that is split round an element has that one, with nothing before it
      alone_in : (xs ys : List (Settlement Call)) (x y : Settlement Call) → y ∷ [] ≡ xs ++ x ∷ ys → (xs ≡ []) × (x ≡ y)
      alone_in [] ys x y e = (refl, cc)
      alone_in (z ∷ []) ys x y e = absurd (omega (arith, ap length e))
      alone_in (z ∷ w ∷ zs) ys x y e = absurd (omega (arith, ap length e))

      -- the line of a settlement is determined by its place and the settlement
      the_line : {j k : ℕ} {x y : Settlement Call} → j ≡ k → x ≡ y → settlement_line j x ≡ settlement_line k y
      the_line e f = cc
