-- After a clean synchronization any possible moves are faithful. The eight null procedures count as requests 0 to 7, which are
-- settled, and what is in flight belongs to the last of them.
use Rattle.gc_theorems.proofs.Common.{◌≡◌, ℕ, ◌+◌, ◌<◌, ◌≤◌, inl, inr, Bool, true, List, [], ◌∷◌, ◌++◌, map, length, Option, Some, None, refl, sym, ◌∙◌, ap, subst, arith, append_assoc, AllByRecursion, slice_get, none-some, Asked, Table, NullProc, asked_line, is_of_table, Wanted, Course, Hear, Restart, begun, course, course_after, of_settled, of_pending, sent_on, settled_on, ById, Sending, Settled, Settlement, expires, fresh, heard, restarts, sends, hears_line, accounts_for_sends, KeptReply, ByNumber, by_numbers, IsExchange, Rising, numbers, of_sent, Ends, Numbered, Request, Wire, World, written, IsAsSent, IsGoing, IsComing, Sound, UnderWay, ArePossibleOnceBegun, IsBehindTheTable, IsClean, IsFaithful, IsSafe, WasMadeOn, WentOutBehindTheTable, eighth_null, of_eighth, ids_begun, numbers_begun, nulls, nulls_settled, world_once_begun, Move, Sends, AsksOnly, moved, seen, IsAnInstrument, IsAnInstrumentFor, all_known, AccountForSent}
use Rattle.gc_client.specs.Prelude.{Step, Send, Expire}
use Rattle.gc_theorems.proofs.BeginLists.{each_map}
use Rattle.gc_theorems.proofs.Faithful.{faithful_from}
use Rattle.gc_theorems.proofs.Fresh.{AllBut, AnyLine, AnyRequest, AllExcepted, asks_all, near_the_table, renewed}
use Rattle.gc_theorems.proofs.Instruments.{alike_knows_all, exchange_of}
use Rattle.gc_theorems.proofs.Moving.{Both, both_all, IsOwnSettlement, IsVouchedFor, RepliesHave, replies_have_later, vouched_for, trusted_all, made_here}
use Rattle.gc_theorems.proofs.Possible.{front_possible, later_possible, moved_append}
use Rattle.gc_theorems.proofs.Seen.{same_all}
use Rattle.gc_theorems.proofs.KeptReplies.{KeptIs}
use Rattle.gc_theorems.proofs.NearTable.{IsNear}
use Rattle.gc_theorems.proofs.Vouched.{AllVouched, Vouched}

-- The course of a client, after what was sent and settled before.

-- course x is course y with the requests `before` and the settlements `old` put before its own
pub record IsPrefixed (before : List (Wanted Asked)) (old : List (Settlement Asked)) (x y : Course Asked) : Type 0 where
  pub sent : x.sent ≡ before ++ y.sent
  pub settled : x.settlements ≡ old ++ y.settlements
  pub client : x.client ≡ y.client

-- `IsPrefixed` is preserved by a send
prefixed_send : (before : List (Wanted Asked)) (old : List (Settlement Asked)) (x y : Course Asked) (target : ℕ) (call : Asked) (o : Option (Sending (ById Asked))) → IsPrefixed before old x y
    → IsPrefixed before old (sent_on x target call o) (sent_on y target call o)
prefixed_send before old x y target call None h = h
prefixed_send before old x y target call (Some s) h =
    record { sent = ap (λ l. l ++ record { target = target; call = call } ∷ []) h.sent ∙ append_assoc before y.sent (record { target = target; call = call } ∷ []); settled = h.settled; client = refl }

-- `IsPrefixed` is preserved by settlements
prefixed_settled : (before : List (Wanted Asked)) (old : List (Settlement Asked)) (x y : Course Asked) (s : Settled Asked (ById Asked)) → IsPrefixed before old x y
    → IsPrefixed before old (settled_on x s) (settled_on y s)
prefixed_settled before old x y s h = record { sent = h.sent; settled = ap (λ l. l ++ s.settlements) h.settled ∙ append_assoc old y.settlements s.settlements; client = refl }

-- `IsPrefixed` is preserved by a step
prefixed_step : (width : ℕ) (before : List (Wanted Asked)) (old : List (Settlement Asked)) (x y : Course Asked) (step : Step Asked) → IsPrefixed before old x y
    → IsPrefixed before old (course_after width x step) (course_after width y step)
prefixed_step width before old x y (Send target call deadline) h =
    subst (λ c. IsPrefixed before old (sent_on x target call (sends width c target call deadline)) (sent_on y target call (sends width y.client target call deadline))) (sym h.client)
    (prefixed_send before old x y target call (sends width y.client target call deadline) h)
prefixed_step width before old x y (Hear line) h =
    subst (λ c. IsPrefixed before old (settled_on x (hears_line c line)) (settled_on y (hears_line y.client line))) (sym h.client)
    (prefixed_settled before old x y (hears_line y.client line) h)
prefixed_step width before old x y (Expire now) h = record { sent = h.sent; settled = h.settled; client = ap (λ c. expires c now) h.client }
prefixed_step width before old x y Restart h =
    subst (λ c. IsPrefixed before old (settled_on x (restarts c)) (settled_on y (restarts y.client))) (sym h.client) (prefixed_settled before old x y (restarts y.client) h)

-- `IsPrefixed` is preserved by steps
pub prefixed_all : (width : ℕ) (before : List (Wanted Asked)) (old : List (Settlement Asked)) (steps : List (Step Asked)) (x y : Course Asked) → IsPrefixed before old x y
    → IsPrefixed before old (course width x steps) (course width y steps)
prefixed_all width before old [] x y h = h
prefixed_all width before old (step ∷ steps) x y h = prefixed_all width before old steps _ _ (prefixed_step width before old x y step h)

-- a course in which the eight null procedures were sent and settled, and whose client is new
abbrev course_after_nulls : Course Asked
course_after_nulls = record { sent = map of_sent nulls; settlements = nulls_settled; client = fresh }

-- `course_after_nulls` is the course `begun` of a new client, with the null procedures before it
pub begun_prefixed : IsPrefixed (map of_sent nulls) nulls_settled course_after_nulls begun
begun_prefixed = record { sent = refl; settled = refl; client = refl }

-- Numbers.

module _ {Line : Type 0} where
  -- the numbers of lines that all have number 7 never fall, from 7 on
  rising_up : (xs : List Line) → Rising 8 (numbers (of_eighth xs))
  rising_up [] = tt
  rising_up (x ∷ xs) = (omega arith, rising_up xs)

  -- where Q of a line implies P of the line with the number 7, and each line has Q, each has P with that number
  pub each_of_eighth : (P : Numbered Line → Type 0) (Q : Line → Type 0) → ((x : Line) → Q x → P (record { number = 7; line = x })) → (xs : List Line)
      → AllByRecursion Q xs → AllByRecursion P (of_eighth xs)
  each_of_eighth P Q f xs h = each_map Q P (λ x. record { number = 7; line = x }) f xs h

-- where the lines of two lists all have number 7, the numbers of one list followed by those of the other never fall, from 7 on
rising_both : {A B : Type 0} (xs : List A) (ys : List B) → Rising 8 (numbers (of_eighth xs) ++ numbers (of_eighth ys))
rising_both [] ys = rising_up ys
rising_both (x ∷ xs) ys = (omega arith, rising_both xs ys)

module _ {State : Type 0} (ends : Ends State) (Good : State → Type 0) (kept : State → Option KeptReply) (keeper : IsAnInstrument ends Good kept) (width : ℕ) (narrow : width ≤ 7) where
  -- what the proofs of the world ask of an instrument, which this one meets
  abbrev pub exchange : IsExchange ends Good
  exchange = exchange_of ends Good kept keeper

  -- what was sent: the null procedures, and then what the client sent
  pub sent_is : (u : UnderWay State) (ms : List (Move State)) → ArePossibleOnceBegun width ends u Good kept ms
      → map of_sent (world_once_begun width ends u ms).wire.sent ≡ map of_sent nulls ++ (course width begun (seen ms)).sent
  sent_is u ms p =
      let one = same_all width ends keeper.hears Good kept ms course_after_nulls (ids_begun u) p (record { sent = refl; settled = refl; client = refl }) in
      sym one.sent ∙ (prefixed_all width (map of_sent nulls) nulls_settled (seen ms) course_after_nulls begun begun_prefixed).sent

  module _ (u : UnderWay State) (clean : IsClean Good kept u) where
    -- after a clean synchronization the world of the client that is given numbers is `Sound`
    sound_begun : Sound width ends Good (numbers_begun u)
    sound_begun =
        let within : 8 ≤ 8 = omega arith in
        let few : 8 ≤ 8 + width = omega arith in
        let from : 0 ≤ 8 = omega arith in
        record {
          good = clean.good;
          counted = refl;
          booked = refl;
          begun = from;
          within = within;
          few = few;
          order = rising_both u.down u.up;
          going = each_of_eighth (IsGoing 0 8) (λ x. x ≡ eighth_null) (λ x e. record { recent = omega arith; sent = omega arith; id = ap (λ (r : Request). r.id) e }) u.up clean.up;
          coming = each_of_eighth (IsComing width ends Good 0 8) (λ line. heard line ≡ Some 7) (λ x e. record { recent = omega arith; sent = omega arith; id = keeper.hears x ∙ e }) u.down clean.down;
        }

    -- after a clean synchronization the world of the client that knows ids and that of the client that is given numbers agree
    pub both_begun : Both width narrow ends Good exchange kept (ids_begun u) (numbers_begun u)
    both_begun = record { agree = record { wire = refl; client = record { window = refl; next = refl } }; sound = sound_begun }

    -- the eighth null procedure is among the requests of a synchronization, with the number 7
    line_is : (x : Request) → x ≡ eighth_null → IsAsSent written nulls (record { number = 7; line = x })
    line_is x e = record {
      request = record { target = 0; call = Table NullProc; line = asked_line (Some 7) (Table NullProc) };
      found = refl;
      small = (let id : x.id ≡ 7 = ap (λ (r : Request). r.id) e in omega (arith, id));
      call = sym (ap (λ (r : Request). r.call) e);
      text = sym (ap (λ (r : Request). asked_line (Some r.id) r.call) e);
    }

    module _ (knows : Asked → Bool) (is : IsAnInstrumentFor ends Good kept knows) (E : ℕ → Type 0) (early : (n : ℕ) → n < 8 → E n) (MustKnow : Type 0) (M : ℕ → Asked → List ℕ → Type 0) where
      -- right after a synchronization the line is vouched for as the reply to request n, or request n is excepted (E)
      abbrev IsVouchedAtStart : ℕ → List ℕ → Type 0
      IsVouchedAtStart n line = Vouched width narrow knows ends Good kept is 8 E MustKnow M nulls [] [] 7 n line

      -- any line is `IsVouchedAtStart` as a reply to the eighth null procedure, number 7, because that request is excepted
      last_null_vouched : (line : List ℕ) → IsVouchedAtStart 7 line
      last_null_vouched line = (inl (omega arith), inl (early 7 (omega arith)))

      -- after a clean synchronization, what the instrument keeps, if anything, is the reply to the eighth null procedure
      kept_begun : (k : Option KeptReply) → kept u.state ≡ k → KeptIs IsVouchedAtStart 0 8 7 k
      kept_begun None e = tt
      kept_begun (Some k) e = record { number = 7; recent = omega arith; before = omega arith; behind = omega arith; id = clean.keeps k e; line = last_null_vouched k.line }

      -- after a clean synchronization the invariant `AllVouched` of `Vouched` holds of the world of the client that is given
      -- numbers, if `IsNear` holds of the null procedures: what is in flight is of the eighth, which is excepted
      vouched_begun : IsNear knows E MustKnow nulls 8 7 → AllVouched width narrow knows ends Good kept is 8 E MustKnow M (numbers_begun u)
      vouched_begun near =
          let within : 8 ≤ 8 = omega arith in
          record {
            top = 8;
            last = 7;
            counted = within;
            within = within;
            lower = omega arith;
            least = within;
            above = each_of_eighth (λ x. 8 ≤ x.number + 1) (λ x. x ≡ eighth_null) (λ x e. omega arith) u.up clean.up;
            below = each_of_eighth (λ x. x.number < 8) (λ line. heard line ≡ Some 7) (λ x e. omega arith) u.down clean.down;
            holds = kept_begun (kept u.state) refl;
            lines = each_of_eighth (IsAsSent written nulls) (λ x. x ≡ eighth_null) line_is u.up clean.up;
            near = near;
            coming = each_of_eighth (λ x. IsVouchedAtStart x.number x.line) (λ line. heard line ≡ Some 7) (λ x e. last_null_vouched x) u.down clean.down;
            answers = (tt, (tt, (tt, (tt, (tt, (tt, (tt, (tt, tt))))))));
            order = record { order = λ i j m n lt a b. absurd (none-some n b); below = tt };
            once = λ keeps k. record {
              once = λ i j m n lt run a b. absurd (none-some n b);
              below = tt;
              last = inr (record { idle = λ none. inl refl; same = clean.keeps });
            };
          }

    -- `RepliesHave` holds of any moves with `AnyLine`, which every line meets
    replies_have_any : (ms : List (Move State)) (b : World (ByNumber Asked) State) → RepliesHave width ends AnyLine ms b
    replies_have_any ms b front later e x rest q exe = tt

    -- if the instrument knows the null procedures, and all that these possible moves ask, `IsVouchedFor` holds after them, with
    -- the requests below number 8 excepted
    own_if_all_known : (knows : Asked → Bool) → IsAnInstrumentFor ends Good kept knows → knows (Table NullProc) ≡ true → (ms : List (Move State))
        → ArePossibleOnceBegun width ends u Good kept ms → AsksOnly knows ms
        → IsVouchedFor ends Good kept (λ n. n < 8) (λ n call line. WasMadeOn width ends u ms n call line) (moved ends (by_numbers width) ms (numbers_begun u)).wire
    own_if_all_known knows is null ms p asks =
        let M : ℕ → Asked → List ℕ → Type 0 = λ n call line. WasMadeOn width ends u ms n call line in
        let E : ℕ → Type 0 = λ n. n < 8 in
        let on = made_here width narrow ends Good exchange kept (ids_begun u) (numbers_begun u) both_begun ms p in
        let start = vouched_begun knows is E (λ n l. l) (Unit {0}) M (inl (tt, omega arith, (null, (null, (null, (null, (null, (null, (null, (null, tt)))))))))) in
        vouched_for width narrow knows ends Good exchange kept is 8 E (Unit {0}) M (moved ends (by_numbers width) ms (numbers_begun u))
        (trusted_all width narrow knows ends Good exchange kept is 8 E (Unit {0}) M ms (ids_begun u) (numbers_begun u) both_begun p (λ all. asks) on start)

    -- `AllExcepted` holds of the world of the client that is given numbers after possible moves
    all_excepted : (ms : List (Move State)) → ArePossibleOnceBegun width ends u Good kept ms
        → AllExcepted width narrow ends Good kept keeper 8 (moved ends (by_numbers width) ms (numbers_begun u))
    all_excepted ms p =
        trusted_all width narrow is_of_table ends Good exchange kept keeper 8 AnyRequest ⊥ AnyLine ms (ids_begun u) (numbers_begun u) both_begun p (λ never. absurd never)
        (replies_have_any ms (numbers_begun u)) (vouched_begun is_of_table keeper AnyRequest (λ n l. tt) ⊥ AnyLine (inr (λ n. inl tt)))

    -- `IsVouchedFor` holds after possible moves with all requests excepted but one, m, that was sent after the table
    -- (`WentOutBehindTheTable`)
    behind_own : (ms : List (Move State)) → ArePossibleOnceBegun width ends u Good kept ms → (m : ℕ) → WentOutBehindTheTable width ends u ms m
        → IsVouchedFor ends Good kept (AllBut m) (λ n call line. WasMadeOn width ends u ms n call line) (moved ends (by_numbers width) ms (numbers_begun u)).wire
    behind_own ms p m h =
        let M : ℕ → Asked → List ℕ → Type 0 = λ n call line. WasMadeOn width ends u ms n call line in
        let rest = Sends h.target h.call h.deadline ∷ h.later in
        let before = front_possible width ends Good kept ms h.front rest (ids_begun u) h.split p in
        let a = world_once_begun width ends u h.front in
        let b = moved ends (by_numbers width) h.front (numbers_begun u) in
        let both = both_all width narrow ends Good exchange kept h.front (ids_begun u) (numbers_begun u) before both_begun in
        let same : a.wire ≡ b.wire = both.agree.wire in
        let size : length b.wire.sent ≡ m = sym (ap (λ (w : Wire State). length w.sent) same) ∙ h.number in
        let none = all_excepted h.front before in
        let near = near_the_table width narrow ends Good kept keeper 8 m b none (omega arith) size (subst (λ (w : Wire State). IsBehindTheTable w) same h.behind_table) in
        let one = renewed width narrow ends Good kept keeper 8 M m b both.sound none size near in
        let made = made_here width narrow ends Good exchange kept (ids_begun u) (numbers_begun u) both_begun ms p in
        let on = replies_have_later width ends M h.front rest (numbers_begun u) (subst (λ l. RepliesHave width ends M l (numbers_begun u)) h.split made) in
        let last = trusted_all width narrow is_of_table ends Good exchange kept keeper 8 (AllBut m) ⊥ M rest a b both
        (later_possible width ends Good kept ms h.front rest (ids_begun u) h.split p) (λ never. absurd never) on one in
        let there : moved ends (by_numbers width) ms (numbers_begun u) ≡ moved ends (by_numbers width) rest b =
        ap (λ l. moved ends (by_numbers width) l (numbers_begun u)) h.split ∙ moved_append ends (by_numbers width) h.front rest (numbers_begun u) in
        subst (λ (w : World (ByNumber Asked) State). IsVouchedFor ends Good kept (AllBut m) M w.wire) (sym there)
        (vouched_for width narrow is_of_table ends Good exchange kept keeper 8 (AllBut m) ⊥ M (moved ends (by_numbers width) rest b) last)

    -- after possible moves the settlement of a request from number 8 on that is `IsSafe` is its own
    safe_own : (ms : List (Move State)) → ArePossibleOnceBegun width ends u Good kept ms → (m : ℕ) (s : Settlement Asked) → 8 ≤ m → IsSafe width ends u Good kept ms m
        → slice_get (moved ends (by_numbers width) ms (numbers_begun u)).wire.settled m ≡ Some s
        → IsOwnSettlement ends Good (λ n call line. WasMadeOn width ends u ms n call line) (moved ends (by_numbers width) ms (numbers_begun u)).wire m s
    safe_own ms p m s ge (inl table) e = (own_if_all_known is_of_table keeper refl ms p table).own m s (λ l. omega (arith, l, ge)) e
    safe_own ms p m s ge (inr (inl alike)) e = (own_if_all_known all_known (alike_knows_all ends Good kept keeper alike) refl ms p (asks_all ms)).own m s (λ l. omega (arith, l, ge)) e
    safe_own ms p m s ge (inr (inr went)) e = (behind_own ms p m went).own m s (λ other. other refl) e

    -- possible moves after a clean synchronization are faithful (`IsFaithful`)
    pub faithful : (ms : List (Move State)) → ArePossibleOnceBegun width ends u Good kept ms → IsFaithful width ends u ms Good kept
    faithful ms p =
        let a = world_once_begun width ends u ms in
        let one = same_all width ends keeper.hears Good kept ms course_after_nulls (ids_begun u) p (record { sent = refl; settled = refl; client = refl }) in
        let y = course width begun (seen ms) in
        let from = prefixed_all width (map of_sent nulls) nulls_settled (seen ms) course_after_nulls begun begun_prefixed in
        let settlements : a.wire.settled ≡ nulls_settled ++ y.settlements = sym one.settled ∙ from.settled in
        let stands : y.client ≡ a.client = sym from.client ∙ one.client in
        let parts : AccountForSent a.wire.settled a.client.waiting a.wire.sent =
        ap (λ l. map of_settled l ++ map of_pending a.client.waiting) settlements
        ∙ ap (λ (c : ById Asked). map of_settled (nulls_settled ++ y.settlements) ++ map of_pending c.waiting) (sym stands)
        ∙ ap (λ l. map of_sent nulls ++ l) (accounts_for_sends width (seen ms)) ∙ sym from.sent ∙ one.sent in
        let all = vouched_for width narrow is_of_table ends Good exchange kept keeper 8 AnyRequest ⊥ AnyLine (moved ends (by_numbers width) ms (numbers_begun u)) (all_excepted ms p) in
        faithful_from ends Good kept keeper width narrow (ids_begun u) (numbers_begun u) both_begun ms p nulls_settled (λ m. (8 ≤ m) × IsSafe width ends u Good kept ms m) settlements stands parts all
        (λ m s sure e. safe_own ms p m s sure.0 sure.1 e)
