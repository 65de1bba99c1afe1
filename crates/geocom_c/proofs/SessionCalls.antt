-- Any calls of C on a session's state are calls on its session, and do what these do.
use Rattle.geocom_c.proofs.Common.{◌≡◌, ◌≢◌, ◌∙◌, ◌⊎◌, inl, inr, ◌<◌, ◌≤◌, ◌&&◌, ℕ, Bool, true, false, not, if◌then◌else◌, List, [], ◌∷◌, ◌++◌, length, take, map, nat_eq, Option, Some, None, refl, sym, ap, subst, arith, append_assoc, append-nil, AllByRecursion, position, cases_eq, cases_lt, eq-eqb, ne_eqb, map-append, is_line_feed, frame_of, with_end, Frame, Line, Cleared, Overlong, More, asked_line, procedure_of, Asked, IsWidth, Settlement, WINDOW, Next, OWN, Want, Nothing, Answers, Send, Call, Asks, Closes, Opens, Restarts, Steps, after, after_all, settled_all, settles, taken_all, taken_by, taken_if, Session, act_for, at_step, came, line_of, may_send, next_of, opening, IsAsk, HasRoomToSettle, FirstAre, IsFeed, at_feed, frame_settles, session_past, RequestRule, raw_rule, table_rule, AreMade, AreOfSession, ArePart, AreSideBySide, Handed, IsAskPart, IsHanded, IsMade, IsOfItsCalls, IsPart, IsPartOf, KeepsSession, Part, Request, SessionCall, SessionCallsAreCalls, bytes_all, bytes_by, comes_calls, fed_part, first_handed, handed_all, handed_by, hears_calls, request_by, request_if, request_of, requests_all, state_after, state_before, written_all, written_by, StandsForSession, IsInit, IsRecord, HasRoomToStep, IsStep, bytes_of, want_number, GeocomHeard, GeocomStep, LINE_ROOM, NOT_NOW, OWN_TARGET, TEXT_ROOM, WANT_ANSWERS, WANT_NOTHING, WANT_SEND, GeocomSession, GeocomSettlement, Effect, SettlingEffect}
use Rattle.geocom_c.proofs.SessionSteps.{fault_if, no_other_fault, roomy}
use Rattle.gc_session.specs.declared.next.Next.TheVariants as next
use Rattle.geocom_c.specs.SessionCalls

-- Lists side by side.

both_append : {A B : Type 0} (Is : A → B → Type 0) (xs more : List A) (ys others : List B) → AreSideBySide Is xs ys → AreSideBySide Is more others
    → AreSideBySide Is (xs ++ more) (ys ++ others)
both_append Is [] more [] others a b = b
both_append Is [] more (y ∷ ys) others a b = absurd a
both_append Is (x ∷ xs) more [] others a b = absurd a
both_append Is (x ∷ xs) more (y ∷ ys) others a b = (a.0, both_append Is xs more ys others a.1 b)

first_of : (text : List ℕ) (records : List GeocomSettlement) (ss : List (Settlement Asked)) → FirstAre (IsRecord text) records ss
    → AreSideBySide IsHanded (first_handed text (length ss) records) ss
first_of text records [] are = tt
first_of text [] (s ∷ ss) are = absurd are
first_of text (r ∷ records) (s ∷ ss) are = (are.0, first_of text records ss are.1)

-- as many of the first records as there are settlements are those of these settlements
counted_of : (text : List ℕ) (count : ℕ) (records : List GeocomSettlement) (ss : List (Settlement Asked)) → count ≡ length ss → FirstAre (IsRecord text) records ss
    → AreSideBySide IsHanded (first_handed text count records) ss
counted_of text count records ss e are = subst (λ n. AreSideBySide IsHanded (first_handed text n records) ss) (sym e) (first_of text records ss are)

-- none of the records is handed out
none_handed : (text : List ℕ) (count : ℕ) (records : List GeocomSettlement) → count ≡ 0 → first_handed text count records ≡ []
none_handed text count records e = ap (λ n. first_handed text n records) e

-- Calls on a session, one after the other.

after_append : (xs ys : List Call) (s : Session) → after_all (xs ++ ys) s ≡ after_all ys (after_all xs s)
after_append [] ys s = refl
after_append (x ∷ xs) ys s = after_append xs ys (after x s)

settled_append : (xs ys : List Call) (s : Session) → settled_all (xs ++ ys) s ≡ settled_all xs s ++ settled_all ys (after_all xs s)
settled_append [] ys s = refl
settled_append (x ∷ xs) ys s =
    ap (λ l. settles x s ++ l) (settled_append xs ys (after x s)) ∙ sym (append_assoc (settles x s) (settled_all xs (after x s)) (settled_all ys (after_all xs (after x s))))

taken_append : (xs ys : List Call) (s : Session) → taken_all (xs ++ ys) s ≡ taken_all xs s ++ taken_all ys (after_all xs s)
taken_append [] ys s = refl
taken_append (x ∷ xs) ys s =
    ap (λ l. taken_by x s ++ l) (taken_append xs ys (after x s)) ∙ sym (append_assoc (taken_by x s) (taken_all xs (after x s)) (taken_all ys (after_all xs (after x s))))

written_append : (xs ys : List Call) (s : Session) → written_all (xs ++ ys) s ≡ written_all xs s ++ written_all ys (after_all xs s)
written_append [] ys s = refl
written_append (x ∷ xs) ys s =
    ap (λ l. written_by x s ++ l) (written_append xs ys (after x s)) ∙ sym (append_assoc (written_by x s) (written_all xs (after x s)) (written_all ys (after_all xs (after x s))))

-- One call.

-- a call that is this part of the session s does what the part does: it leaves this state, hands out these records, has its caller write
-- these bytes, and makes these requests
record Does (s : Session) (part : Part) (state : GeocomSession) (handed : List Handed) (bytes : List ℕ) (requests : List Request) : Type 0 where
  stands : StandsForSession state (after_all part.calls s) part.rest
  settled : AreSideBySide IsHanded handed (settled_all part.calls s)
  written : bytes ≡ written_all part.calls s
  taken : requests ≡ map request_of (taken_all part.calls s)

module _ (s : Session) (state : GeocomSession) where
  -- a call that is nothing to a session
  does_nothing : (rest : List ℕ) (part : Part) (handed : List Handed) (bytes : List ℕ) (requests : List Request) → part ≡ record { calls = []; rest = rest }
      → StandsForSession state s rest → handed ≡ [] → bytes ≡ [] → requests ≡ [] → Does s part state handed bytes requests
  does_nothing rest part handed bytes requests same stands none silent free =
      subst (λ p. Does s p state handed bytes requests) (sym same)
      (record { stands = stands; settled = subst (λ l. AreSideBySide IsHanded l []) (sym none) tt; written = silent; taken = free })

  -- a call that is one call on a session
  does_one : (call : Call) (rest : List ℕ) (part : Part) (handed : List Handed) (bytes : List ℕ) (requests : List Request) → part ≡ record { calls = call ∷ []; rest = rest }
      → StandsForSession state (after call s) rest → AreSideBySide IsHanded handed (settles call s) → bytes ≡ written_by call s
      → requests ≡ map request_of (taken_by call s) → Does s part state handed bytes requests
  does_one call rest part handed bytes requests same stands settled written taken =
      subst (λ p. Does s p state handed bytes requests) (sym same)
      (record {
        stands = stands;
        settled = subst (λ ss. AreSideBySide IsHanded handed ss) (sym (append-nil (settles call s))) settled;
        written = written ∙ sym (append-nil (written_by call s));
        taken = taken ∙ ap (map request_of) (sym (append-nil (taken_by call s)));
      })

-- what a call is to a session, by whether something is asked for
part_of : {X : Type 0} (rest : List ℕ) (Is : X → Type 0) (to : X → Part) → ((x : X) × Is x) ⊎ ((x : X) → Is x → ⊥) → (part : Part) × IsPartOf rest Is to part
part_of rest Is to (inl (x, is)) = (to x, inl (x, is, refl))
part_of rest Is to (inr none) = (_, inr (none, refl))

-- Steps.

same_bytes : (n : Next) (until : ℕ) (line : List ℕ) → bytes_of (act_for n until) line ≡ bytes_of (act_for n 0) line
same_bytes next.Open until line = refl
same_bytes next.Wait until line = refl
same_bytes next.Clear until line = refl
same_bytes next.Null until line = refl
same_bytes next.Flush until line = refl
same_bytes next.Renew until line = refl
same_bytes next.Ask until line = refl
same_bytes next.Read until line = refl
same_bytes next.Close until line = refl

step_does : (number now : ℕ) (x : SettlingEffect GeocomStep) (s : Session) (rest : List ℕ) (part : Part) → IsStep number now x → StandsForSession x.old s rest
    → IsPart s rest (SessionCalls.Next number now x) part → Does s part x.new (first_handed [] x.told.count x.records) (take x.told.bytes x.text) []
step_does number now x s rest part did held (inl (want, (room, is), same)) =
    let h = did.stepped room want is s rest held in
    let at = at_step want now s in
    let n = next_of want at in
    does_one s x.new (Steps want now) _ part _ _ [] same h.stands (counted_of [] x.told.count x.records _ h.tells.count h.tells.recorded)
    (h.tells.bytes.1 ∙ ap (λ a. bytes_of a (line_of n at)) h.tells.is.done_by ∙ same_bytes n _ (line_of n at)) refl
step_does number now x s rest part did held (inr (none, same)) =
    let fault : x.told.fault ≢ 0 = λ zero.
    let want = (did.done zero).1 in
    absurd (omega (arith, did.room.1 (λ room. none want.want (room, want.is)), zero)) in
    let r = did.refused fault in
    does_nothing s x.new rest part _ _ [] same (subst (λ t. StandsForSession t s rest) (sym r.1) held)
    (none_handed [] x.told.count x.records (ap (λ (t : GeocomStep). t.count) r.0)) (ap (λ (t : GeocomStep). take t.bytes x.text) r.0) refl

-- Requests.

no_request : (fault target procedure : ℕ) → fault ≢ 0 → request_if fault target procedure ≡ []
no_request fault target procedure some =
    ap (λ b. if b then (let r : Request = record { target = target; procedure = procedure } in r) ∷ [] else []) (ne_eqb fault 0 some)

one_request : (fault target procedure : ℕ) → fault ≡ 0 → request_if fault target procedure ≡ record { target = target; procedure = procedure } ∷ []
one_request fault target procedure none =
    ap (λ b. if b then (let r : Request = record { target = target; procedure = procedure } in r) ∷ [] else []) (eq-eqb fault 0 none)

-- what is written and taken of a request, by whether its target is that of the session's own, and by whether it is its turn
asked_by : (own may : Bool) (fault count target procedure : ℕ) (after line : List ℕ) (call : Asked) → fault ≡ fault_if own may → procedure_of call ≡ procedure
    → (fault ≡ 0 → take count after ≡ line) → (fault ≢ 0 → count ≡ 0)
    → (take count after ≡ (if not own && may then line else [])) × (request_if fault target procedure ≡ map request_of (taken_if (not own && may) target call))
asked_by true may fault count target procedure after line call e is given refused =
    let some : fault ≢ 0 = λ zero. omega (arith, e, zero) in
    (ap (λ n. take n after) (refused some), no_request fault target procedure some)
asked_by false true fault count target procedure after line call e is given refused =
    (given e, one_request fault target procedure e ∙ ap (λ p. (let r : Request = record { target = target; procedure = p } in r) ∷ []) (sym is))
asked_by false false fault count target procedure after line call e is given refused =
    let some : fault ≢ 0 = λ zero. omega (arith, e, zero) in
    (ap (λ n. take n after) (refused some), no_request fault target procedure some)

module _ {X E : Type 0} (rule : RequestRule X E) (target timeout procedure : ℕ) (x : Effect GeocomSession ℕ) (s : Session) (rest : List ℕ) (did : IsAsk rule target timeout x)
    (held : StandsForSession x.old s rest) where
  ask_does : (part : Part) → ((y : X) → rule.is y → procedure_of (rule.to y) ≡ procedure) → IsAskPart rest rule target timeout x.before part
      → Does s part x.new [] (take x.told.count x.after) (request_if x.told.fault target procedure)
  ask_does part numbered (inl (y, (room, is), same)) =
      let h = did.asked room s rest y held is in
      let b = asked_by (nat_eq target OWN) (may_send (next_of Send s)) x.told.fault x.told.count target procedure x.after (with_end (asked_line (Some s.client.next) (rule.to y))) (rule.to y)
      h.fault (numbered y is) (λ zero. (h.given zero).1) (λ some. (did.refused some).0) in
      does_one s x.new (Asks target (rule.to y) timeout) rest part [] _ _ same h.stands tt b.0 b.1
  ask_does part numbered (inr (none, same)) =
      let some : x.told.fault ≢ 0 = λ zero.
      let w = did.done zero in
      none w.asked (roomy (length x.before) x.told.fault did.room zero, w.is) in
      let r = did.refused some in
      does_nothing s x.new rest part [] _ _ same (subst (λ t. StandsForSession t s rest) (sym r.1) held) refl (ap (λ n. take n x.after) r.0) (no_request x.told.fault target procedure some)

  -- a request is asked, or none is
  asks_something : (length x.before < LINE_ROOM) ⊎ (LINE_ROOM ≤ length x.before) → (x.told.fault ≡ 0) ⊎ (x.told.fault ≡ 0 → ⊥)
      → (x.told.fault ≡ NOT_NOW) ⊎ (x.told.fault ≡ NOT_NOW → ⊥) → (x.told.fault ≡ OWN_TARGET) ⊎ (x.told.fault ≡ OWN_TARGET → ⊥)
      → ((y : X) × ((LINE_ROOM ≤ length x.before) × rule.is y)) ⊎ ((y : X) → (LINE_ROOM ≤ length x.before) × rule.is y → ⊥)
  asks_something (inl short) zero now own = inr (λ y both. omega (arith, short, both.0))
  asks_something (inr room) (inl zero) now own = let w = did.done zero in inl (w.asked, (room, w.is))
  asks_something (inr room) (inr zero) (inl now) own = let w = did.not_now now in inl (w.asked, (room, w.is))
  asks_something (inr room) (inr zero) (inr now) (inl own) = let w = did.own own in inl (w.asked, (room, w.is))
  asks_something (inr room) (inr zero) (inr now) (inr own) =
      inr (λ y both. no_other_fault (nat_eq target OWN) (may_send (next_of Send s)) x.told.fault zero now own (sym (did.asked room s rest y held both.1).fault))

  ask_part : (part : Part) × IsAskPart rest rule target timeout x.before part
  ask_part =
      part_of rest _ _ (asks_something (cases_lt (length x.before) LINE_ROOM) (cases_eq x.told.fault 0) (cases_eq x.told.fault NOT_NOW) (cases_eq x.told.fault OWN_TARGET))

-- Bytes.

-- these calls make of the session s the session t, settle this, and write and take nothing
record Makes (calls : List Call) (s t : Session) (settled : List (Settlement Asked)) : Type 0 where
  reached : after_all calls s ≡ t
  settles : settled_all calls s ≡ settled
  silent : written_all calls s ≡ []
  free : taken_all calls s ≡ []

comes_make : (now : ℕ) (bytes : List ℕ) (s : Session) → Makes (comes_calls now bytes) s (at_feed now bytes s) []
comes_make now [] s = record { reached = refl; settles = refl; silent = refl; free = refl }
comes_make now (byte ∷ bytes) s = record { reached = refl; settles = refl; silent = refl; free = refl }

hears_make : (f : Frame) (s : Session) → Makes (hears_calls f) s (session_past s f) (frame_settles s f)
hears_make (Line line) s = record { reached = refl; settles = append-nil _; silent = refl; free = refl }
hears_make Cleared s = record { reached = refl; settles = refl; silent = refl; free = refl }
hears_make Overlong s = record { reached = refl; settles = refl; silent = refl; free = refl }
hears_make More s = record { reached = refl; settles = refl; silent = refl; free = refl }

fed_make : (now : ℕ) (bytes : List ℕ) (f : Frame) (s : Session)
    → Makes (comes_calls now bytes ++ hears_calls f) s (session_past (at_feed now bytes s) f) (frame_settles (at_feed now bytes s) f)
fed_make now [] f s = hears_make f s
fed_make now (byte ∷ bytes) f s =
    let h = hears_make f (came now s) in record { reached = h.reached; settles = h.settles; silent = h.silent; free = h.free }

does_as : (s t : Session) (calls : List Call) (rest : List ℕ) (part : Part) (settled : List (Settlement Asked)) (state : GeocomSession) (handed : List Handed)
    → part ≡ record { calls = calls; rest = rest } → Makes calls s t settled → StandsForSession state t rest → AreSideBySide IsHanded handed settled → Does s part state handed [] []
does_as s t calls rest part settled state handed same m stands are =
    subst (λ p. Does s p state handed [] []) (sym same)
    (record {
      stands = subst (λ u. StandsForSession state u rest) (sym m.reached) stands;
      settled = subst (λ ss. AreSideBySide IsHanded handed ss) (sym m.settles) are;
      written = sym m.silent;
      taken = ap (map request_of) (sym m.free);
    })

module _ (now : ℕ) (bytes : List ℕ) (x : SettlingEffect GeocomHeard) (s : Session) (rest : List ℕ) (part : Part) (did : IsFeed now bytes x) (held : StandsForSession x.old s rest) where
  fed_does : HasRoomToSettle x.before x.blank → (place : Option ℕ) → position is_line_feed bytes ≡ place → part ≡ fed_part now rest bytes place
      → Does s part x.new (first_handed x.text x.told.count x.records) [] []
  fed_does room None none same =
      let f = did.more room s rest held none in
      does_as s (at_feed now bytes s) _ _ part [] x.new _ same (comes_make now bytes s) f.1
      (subst (λ l. AreSideBySide IsHanded l []) (sym (none_handed x.text x.told.count x.records (ap (λ (t : GeocomHeard). t.count) f.0))) tt)
  fed_does room (Some at) some same =
      let f = did.frame room s rest at held some in
      does_as s (session_past (at_feed now bytes s) (frame_of (rest ++ take at bytes))) _ _ part _ x.new _ same (fed_make now bytes (frame_of (rest ++ take at bytes)) s) f.stands
      (counted_of x.text x.told.count x.records _ f.fed.count f.fed.recorded)

  feed_does : IsPart s rest (SessionCalls.Feed now bytes x) part → Does s part x.new (first_handed x.text x.told.count x.records) [] []
  feed_does (inl (any, room, same)) = fed_does room (position is_line_feed bytes) refl same
  feed_does (inr (none, same)) =
      let fault = did.room.1 (λ room. none tt room) in
      let r = did.refused (λ zero. omega (arith, fault, zero)) in
      does_nothing s x.new rest part _ [] [] same (subst (λ t. StandsForSession t s rest) (sym r.1) held)
      (none_handed x.text x.told.count x.records (ap (λ (t : GeocomHeard). t.count) r.0)) refl refl

-- a number that isn't at least another is less than that
short_by : (n least : ℕ) → (least ≤ n → ⊥) → (n < least) ⊎ (least ≤ n) → n < least
short_by n least never (inl short) = short
short_by n least never (inr wide) = absurd (never wide)

short_if : (n least : ℕ) → (least ≤ n → ⊥) → n < least
short_if n least never = short_by n least never (cases_lt n least)

-- Each call.

does : (call : SessionCall) (s : Session) (rest : List ℕ) (part : Part) → StandsForSession (state_before call) s rest → KeepsSession call → IsMade call → IsPart s rest call part
    → Does s part (state_after call) (handed_by call) (bytes_by call) (request_by call)
does (SessionCalls.Init width timeout quiet old new fault) s rest part held keeps did same =
    let r = did.refused (λ wide. keeps (did.made wide).0) in
    does_nothing s new rest part [] [] [] same (subst (λ t. StandsForSession t s rest) (sym r.1) held) refl refl refl
does (SessionCalls.Opened now old new fault) s rest part held keeps did same = does_one s new (Opens now) [] part [] [] [] same (did.stands s rest held).1 tt refl refl
does (SessionCalls.Closed now old new fault) s rest part held keeps did same = does_one s new (Closes now) [] part [] [] [] same (did.stands s rest held).1 tt refl refl
does (SessionCalls.Next want now x) s rest part held keeps did is = step_does want now x s rest part did held is
does (SessionCalls.Ask target timeout procedure params x) s rest part held keeps did is =
    ask_does (table_rule procedure params) target timeout procedure x s rest did held part (λ y fits. fits.number) is
does (SessionCalls.AskRaw target timeout procedure params x) s rest part held keeps did is =
    ask_does (raw_rule procedure params) target timeout procedure x s rest did held part (λ y fits. fits.0) is
does (SessionCalls.Feed now bytes x) s rest part held keeps did is = feed_does now bytes x s rest part did held is
does (SessionCalls.Restart x) s rest part held keeps did (inl (any, room, same)) =
    let h = did.restarted room s rest held in
    does_one s x.new Restarts [] part _ [] [] same h.stands (counted_of [] x.told.count x.after _ h.count h.recorded) refl refl
does (SessionCalls.Restart x) s rest part held keeps did (inr (none, same)) =
    let fault = did.room.1 (short_if (length x.before) WINDOW (none tt)) in
    let r = did.refused (λ zero. omega (arith, fault, zero)) in
    does_nothing s x.new rest part _ [] [] same (subst (λ t. StandsForSession t s rest) (sym r.1) held) (none_handed [] x.told.count x.after r.0) refl refl
does (SessionCalls.Status state told) s rest part held keeps did same = does_nothing s state rest part [] [] [] same held refl refl refl

no_want : (number : ℕ) → number ≢ WANT_NOTHING → number ≢ WANT_ANSWERS → number ≢ WANT_SEND → (want : Want) → number ≡ want_number want → ⊥
no_want number a b c Nothing e = a e
no_want number a b c Answers e = b e
no_want number a b c Send e = c e

wants_something : (number : ℕ) → (number ≡ WANT_NOTHING) ⊎ (number ≡ WANT_NOTHING → ⊥) → (number ≡ WANT_ANSWERS) ⊎ (number ≡ WANT_ANSWERS → ⊥)
    → (number ≡ WANT_SEND) ⊎ (number ≡ WANT_SEND → ⊥) → ((want : Want) × (number ≡ want_number want)) ⊎ ((want : Want) → number ≡ want_number want → ⊥)
wants_something number (inl e) b c = inl (Nothing, e)
wants_something number (inr a) (inl e) c = inl (Answers, e)
wants_something number (inr a) (inr b) (inl e) = inl (Send, e)
wants_something number (inr a) (inr b) (inr c) = inr (no_want number a b c)

wide_by : (n least : ℕ) → (n < least) ⊎ (least ≤ n) → (least ≤ n) ⊎ (least ≤ n → ⊥)
wide_by n least (inl short) = inr (λ wide. omega (arith, short, wide))
wide_by n least (inr wide) = inl wide

wide_or_not : (n least : ℕ) → (least ≤ n) ⊎ (least ≤ n → ⊥)
wide_or_not n least = wide_by n least (cases_lt n least)

both_or_not : {A B Both : Type 0} → (A × B → Both) → (Both → A × B) → A ⊎ (A → ⊥) → B ⊎ (B → ⊥) → Both ⊎ (Both → ⊥)
both_or_not make parts (inl a) (inl b) = inl (make (a, b))
both_or_not make parts (inr never) b = inr (λ y. never (parts y).0)
both_or_not make parts (inl a) (inr never) = inr (λ y. never (parts y).1)

-- room is all that is asked for
any_or_none : {Room : Type 0} → Room ⊎ (Room → ⊥) → ((any : Unit {0}) × Room) ⊎ ((any : Unit {0}) → Room → ⊥)
any_or_none (inl room) = inl (tt, room)
any_or_none (inr never) = inr (λ any. never)

step_or_none : {Room : Type 0} (number : ℕ) → Room ⊎ (Room → ⊥) → ((want : Want) × (number ≡ want_number want)) ⊎ ((want : Want) → number ≡ want_number want → ⊥)
    → ((want : Want) × (Room × (number ≡ want_number want))) ⊎ ((want : Want) → Room × (number ≡ want_number want) → ⊥)
step_or_none number (inl room) (inl wants) = inl (wants.0, (room, wants.1))
step_or_none number (inl room) (inr never) = inr (λ want both. never want both.1)
step_or_none number (inr never) wants = inr (λ want both. never both.0)

-- each call is something to a session, or nothing
has_part : (call : SessionCall) (s : Session) (rest : List ℕ) → StandsForSession (state_before call) s rest → IsMade call → (part : Part) × IsPart s rest call part
has_part (SessionCalls.Init width timeout quiet old new fault) s rest held did = (_, refl)
has_part (SessionCalls.Opened now old new fault) s rest held did = (_, refl)
has_part (SessionCalls.Closed now old new fault) s rest held did = (_, refl)
has_part (SessionCalls.Next number now x) s rest held did =
    part_of rest _ _
    (step_or_none number
    (both_or_not {Both = HasRoomToStep x.before x.blank} (λ both. record { for_records = both.0; for_line = both.1 }) (λ room. (room.for_records, room.for_line))
    (wide_or_not (length x.before) WINDOW) (wide_or_not (length x.blank) LINE_ROOM))
    (wants_something number (cases_eq number WANT_NOTHING) (cases_eq number WANT_ANSWERS) (cases_eq number WANT_SEND)))
has_part (SessionCalls.Ask target timeout procedure params x) s rest held did = ask_part (table_rule procedure params) target timeout procedure x s rest did held
has_part (SessionCalls.AskRaw target timeout procedure params x) s rest held did = ask_part (raw_rule procedure params) target timeout procedure x s rest did held
has_part (SessionCalls.Feed now bytes x) s rest held did =
    part_of rest _ _
    (any_or_none
    (both_or_not {Both = HasRoomToSettle x.before x.blank} (λ both. record { for_records = both.0; for_text = both.1 }) (λ room. (room.for_records, room.for_text))
    (wide_or_not (length x.before) WINDOW) (wide_or_not (length x.blank) TEXT_ROOM)))
has_part (SessionCalls.Restart x) s rest held did = part_of rest _ _ (any_or_none (wide_or_not (length x.before) WINDOW))
has_part (SessionCalls.Status state told) s rest held did = (_, refl)

-- All calls.

are : (calls : List SessionCall) (s : Session) (rest : List ℕ) (old new : GeocomSession) → StandsForSession old s rest → AllByRecursion KeepsSession calls → AreMade old calls new
    → (all : List Call) × (last : List ℕ) × ArePart s rest calls all last
are [] s rest old new held keeps made = ([], rest, (refl, refl))
are (call ∷ calls) s rest old new held keeps made =
    let begins = subst (λ t. StandsForSession t s rest) (sym made.0) held in
    let p = has_part call s rest begins made.1 in
    let one = does call s rest p.0 begins keeps.0 made.1 p.1 in
    let more = are calls (after_all p.0.calls s) p.0.rest (state_after call) new one.stands keeps.1 made.2 in
    (p.0.calls ++ more.0, more.1, (p.0, more.0, p.1, refl, more.2))

did : (calls : List SessionCall) (s : Session) (rest : List ℕ) (old new : GeocomSession) → StandsForSession old s rest → AllByRecursion KeepsSession calls → AreMade old calls new
    → (all : List Call) (last : List ℕ) → ArePart s rest calls all last → AreOfSession s all last calls new
did [] s rest old new held keeps made all last p =
    let none : AreOfSession s [] rest [] old = record { stands = held; settled = tt; written = refl; taken = refl } in
    subst (λ t. AreOfSession s all last [] t) (sym made) (subst (λ l. AreOfSession s all l [] old) (sym p.1) (subst (λ a. AreOfSession s a rest [] old) (sym p.0) none))
did (call ∷ calls) s rest old new held keeps made all last (part, later, is, split, others) =
    let begins = subst (λ t. StandsForSession t s rest) (sym made.0) held in
    let one = does call s rest part begins keeps.0 made.1 is in
    let more = did calls (after_all part.calls s) part.rest (state_after call) new one.stands keeps.1 made.2 later last others in
    subst (λ a. AreOfSession s a last (call ∷ calls) new) (sym split)
    (record {
      stands = subst (λ t. StandsForSession new t last) (sym (after_append part.calls later s)) more.stands;
      settled = subst (λ ss. AreSideBySide IsHanded (handed_by call ++ handed_all calls) ss) (sym (settled_append part.calls later s))
          (both_append IsHanded (handed_by call) (handed_all calls) (settled_all part.calls s) (settled_all later (after_all part.calls s)) one.settled more.settled);
      written = ap (λ l. l ++ bytes_all calls) one.written ∙ ap (λ l. written_all part.calls s ++ l) more.written ∙ sym (written_append part.calls later s);
      taken = ap (λ l. l ++ requests_all calls) one.taken
          ∙ ap (λ l. map request_of (taken_all part.calls s) ++ l) more.taken
          ∙ sym (map-append request_of (taken_all part.calls s) (taken_all later (after_all part.calls s)))
          ∙ ap (map request_of) (sym (taken_append part.calls later s));
    })

-- calls that are made after others
made_since : (earlier later : List SessionCall) (old new : GeocomSession) → AreMade old (earlier ++ later) new → (from : GeocomSession) × AreMade from later new
made_since [] later old new made = (old, made)
made_since (call ∷ earlier) later old new made = made_since earlier later (state_after call) new made.2

-- the state after an init that returned 0 is a new session's
init_made : (width timeout quiet : ℕ) (old new : GeocomSession) (fault : ℕ) → IsInit width timeout quiet old new fault → fault ≡ 0 → IsWidth width ⊎ (IsWidth width → ⊥)
    → StandsForSession new (opening (record { width = width; timeout = timeout; quiet = quiet })) []
init_made width timeout quiet old new fault did none (inl wide) = (did.made wide).1
init_made width timeout quiet old new fault did none (inr never) = absurd (omega (arith, (did.refused never).0, none))

-- calls on a session's state are calls on the session, and do what these do
on_session : (s : Session) (rest : List ℕ) (old new : GeocomSession) (calls : List SessionCall) → StandsForSession old s rest → AllByRecursion KeepsSession calls → AreMade old calls new
    → IsOfItsCalls s rest calls new
on_session s rest old new calls held keeps made =
    record { are = are calls s rest old new held keeps made; did = did calls s rest old new held keeps made }

-- the law: so are any calls since an init that returned 0
pub calls_are_calls : SessionCallsAreCalls
calls_are_calls = record {
  on = on_session;
  since = λ old new made_of made earlier later width timeout quiet fault none keeps all.
      let here = (made_since earlier (SessionCalls.Init width timeout quiet made_of made fault ∷ later) old new all).1 in
      let wide = both_or_not {Both = IsWidth width} (λ both. both) (λ both. both) (wide_or_not width 1) (wide_or_not WINDOW width) in
      on_session _ [] made new later (init_made width timeout quiet made_of made fault here.1 none wide) keeps here.2;
}
