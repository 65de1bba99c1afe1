-- The request to which an instrument's kept reply is: the last one that it was handed and knows (`last`), or a later one.
-- And what it means that a line is vouched for: it was made for its request, as that request's call was executed. The id of
-- request n is the difference of n and `since`, modulo 8.
use Rattle.gc_theorems.proofs.Common.{◌≡◌, ℕ, ◌+◌, ◌-◌, ◌%◌, ◌<◌, ◌≤◌, ◌⊎◌, inl, inr, Bool, true, false, List, Option, Some, None, refl, sym, ◌∙◌, ap, subst, arith, slice_get, Asked, Settlement, Handed, KeptReply, ByNumber, IsReplyTo, Request, Sent, Numbered, Ends, World, written, Has, IsAsSent, IsOwnOrNone, KeepsItsReply, MayBeKept, MayForget}
use Rattle.gc_theorems.proofs.Once.{IsUnknown, IsUnknownOrRetained, Log}

-- The newest known request.

-- the number of the newest known request once request n was handed, where it was `last` before; `known` says whether request n is
-- known
abbrev pub newest : (known : Bool) (n last : ℕ) → ℕ
newest true n last = n
newest false n last = last

-- if n isn't before `last`, the newest known request once n was handed isn't before `last` either
pub newest_not_before : (known : Bool) (n last : ℕ) → last ≤ n → last ≤ newest known n last
newest_not_before true n last le = le
newest_not_before false n last le = omega arith

-- if n isn't before `last`, the newest known request once n was handed is n or an earlier one
pub newest_not_later : (known : Bool) (n last : ℕ) → last ≤ n → newest known n last ≤ n
newest_not_later true n last le = omega arith
newest_not_later false n last le = le

-- request n isn't a known one that is later than `last`: it isn't later, or it isn't known
abbrev pub IsNoNewerKnown : (knows : Asked → Bool) (sent : List Sent) (last n : ℕ) → Type 0
IsNoNewerKnown knows sent last n = (n ≤ last) ⊎ IsUnknown knows sent n

-- once request n was handed, it is `IsNoNewerKnown`, if it is `IsUnknown` where `known` is false
pub newest_no_newer : (knows : Asked → Bool) (sent : List Sent) (known : Bool) (n last : ℕ) → ((known ≡ false) → IsUnknown knows sent n) → IsNoNewerKnown knows sent (newest known n last) n
newest_no_newer knows sent true n last f = inl (omega arith)
newest_no_newer knows sent false n last f = inr (f refl)

-- What is kept.

module _ (P : ℕ → List ℕ → Type 0) (since : ℕ) where
  -- the kept reply `k` is to request `number`, which is `last` or a later one, from `since` on and before `top`: it has that
  -- request's id, and the property P
  pub record IsKept (top last : ℕ) (k : KeptReply) : Type 0 where
    pub number : ℕ
    pub recent : since ≤ number
    pub before : number < top
    pub behind : last ≤ number
    pub id : k.id ≡ (number - since) % 8
    pub line : P number k.line

  -- if anything is kept, `IsKept` holds of it
  abbrev pub KeptIs : (top last : ℕ) → Option KeptReply → Type 0
  KeptIs top last None = Unit {0}
  KeptIs top last (Some k) = IsKept top last k

  -- if nothing is kept, `KeptIs` holds
  pub kept_none : (top last : ℕ) (k : Option KeptReply) → k ≡ None → KeptIs top last k
  kept_none top last k e = subst (λ k. KeptIs top last k) (sym e) tt

  -- if `IsKept` holds of a reply, and what is kept is that reply, or nothing, `KeptIs` holds
  pub kept_one : (top last : ℕ) (own : KeptReply) (k : Option KeptReply) → IsKept top last own → IsOwnOrNone own k → KeptIs top last k
  kept_one top last own k is (inl none) = kept_none top last k none
  kept_one top last own k is (inr e) = subst (λ k. KeptIs top last k) (sym e) is

  -- `KeptIs` is preserved if what is kept stays, or nothing is kept any more
  pub kept_still : (top last : ℕ) (k after : Option KeptReply) → MayForget k after → KeptIs top last k → KeptIs top last after
  kept_still top last k after (inl none) h = kept_none top last after none
  kept_still top last k after (inr same) h = subst (λ k. KeptIs top last k) (sym same) h

  -- where `KeptIs` holds with `top`, it holds with `next` in its place, if `top` is at most `next`
  kept_longer : (top next last : ℕ) (k : Option KeptReply) → top ≤ next → KeptIs top last k → KeptIs next last k
  kept_longer top next last None le h = tt
  kept_longer top next last (Some k) le h = record { number = h.number; recent = h.recent; before = omega (arith, h.before, le); behind = h.behind; id = h.id; line = h.line }

  -- where request n is handed to the instrument, and no later one was handed before (`top`), `KeptIs` is preserved, with n + 1
  -- for `top`, and the newest known request for `last`: by what is kept afterwards (`MayBeKept`), if `IsKept` holds of the
  -- reply to n (`own`)
  pub kept_handed : (top last n : ℕ) (own : KeptReply) (known : Bool) (k after : Option KeptReply) → top ≤ n + 1
      → IsKept (n + 1) (newest known n last) own → MayBeKept known own k after → KeptIs top last k → KeptIs (n + 1) (newest known n last) after
  kept_handed top last n own known k after le is (inl now) h = kept_one (n + 1) (newest known n last) own after is now
  kept_handed top last n own known k after le is (inr same) h =
      subst (λ t. KeptIs (n + 1) t after) (sym (ap (λ b. newest b n last) same.0))
      (kept_longer top (n + 1) last after le (kept_still top last k after (inr same.1) h))

-- where P implies Q of each number below `top`, `KeptIs` of P gives `KeptIs` of Q
pub kept_below : (P Q : ℕ → List ℕ → Type 0) (since top last : ℕ) → ((n : ℕ) (line : List ℕ) → n < top → P n line → Q n line) → (k : Option KeptReply)
    → KeptIs P since top last k → KeptIs Q since top last k
kept_below P Q since top last f None h = tt
kept_below P Q since top last f (Some k) h =
    record { number = h.number; recent = h.recent; before = h.before; behind = h.behind; id = h.id; line = f h.number k.line h.before h.line }

-- where P implies Q, `KeptIs` of P gives `KeptIs` of Q
pub kept_more : (P Q : ℕ → List ℕ → Type 0) → ((n : ℕ) (line : List ℕ) → P n line → Q n line) → (since top last : ℕ) (k : Option KeptReply)
    → KeptIs P since top last k → KeptIs Q since top last k
kept_more P Q f since top last k h = kept_below P Q since top last (λ n line l p. f n line p) k h

-- What is vouched for.

-- what the invariant of `Vouched` speaks of: of the client, the number that its ids are counted from (`since`) and how many of
-- its requests are settled (`count`); the fields of the wire; and the reply that the instrument keeps
pub record VouchedFields : Type 0 where
  pub since : ℕ
  pub count : ℕ
  pub sent : List Sent
  pub executed : List ℕ
  pub starts : List ℕ
  pub made : List (Numbered (List ℕ))
  pub settled : List (Settlement Asked)
  pub up : List (Numbered Request)
  pub down : List (Numbered (List ℕ))
  pub retained : Option KeptReply

-- the `VouchedFields` of a world, where `kept` gives the reply that an instrument keeps
abbrev pub fields_of : {State : Type 0} → (State → Option KeptReply) → World (ByNumber Asked) State → VouchedFields
fields_of kept w =
    record {
      since = w.client.since;
      count = w.client.count;
      sent = w.wire.sent;
      executed = w.wire.executed;
      starts = w.wire.starts;
      made = w.wire.made;
      settled = w.wire.settled;
      up = w.wire.up;
      down = w.wire.down;
      retained = kept w.wire.state;
    }

-- what these fields say of the instrument
abbrev pub log_of : VouchedFields → Log
log_of v = record { sent = v.sent; executed = v.executed; starts = v.starts; retained = v.retained }

module _ {State : Type 0} (ends : Ends State) (Good : State → Type 0) (kept : State → Option KeptReply) where
  -- in a good state, if the instrument keeps its reply to each request that `keeps` names: `keeps` doesn't name request x,
  -- which it is handed; or the reply to x is kept, with its id
  pub unknown_or_retained : (w : World (ByNumber Asked) State) (x : Numbered Request) (hd : Handed State) (keeps : Asked → Bool) (b : Bool) → keeps x.line.call ≡ b
      → KeepsItsReply ends Good kept keeps → ends.handed w.wire.state x.line.id x.line.call ≡ hd → Good w.wire.state → (since : ℕ) → x.line.id ≡ (x.number - since) % 8
      → IsAsSent written w.wire.sent x
      → IsUnknownOrRetained keeps w.wire.sent since x.number (kept hd.state)
  unknown_or_retained w x hd keeps true e is handed good since own o =
      let back : x.number ≡ x.number + 1 - 1 = omega arith in
      inr (
        record { id = x.line.id; line = hd.reply },
        subst (λ (k : Handed State). kept k.state ≡ Some (record { id = x.line.id; line = k.reply })) handed (is.always w.wire.state x.line.id x.line.call good o.small e),
        own ∙ ap (λ i. (i - since) % 8) back,
      )
  unknown_or_retained w x hd keeps false e is handed good since own o = inl (o.request, o.found, ap keeps o.call ∙ e)

module _ {State : Type 0} (ends : Ends State) (Good : State → Type 0) (M : ℕ → Asked → List ℕ → Type 0) where
  -- the line was made for request n, as its call was executed, is a reply to that call, and has the property M
  pub record IsVouched (sent : List Sent) (executed : List ℕ) (made : List (Numbered (List ℕ))) (n : ℕ) (line : List ℕ) : Type 0 where
    pub among : Has (record { number = n; line = line }) made
    pub acted : Has n executed
    pub request : Sent
    pub found : slice_get sent n ≡ Some request
    pub reply : IsReplyTo ends Good request.call line
    pub on : M n request.call line

-- if the instrument executes the front request, x, when that is handed to it, its reply has the property M
abbrev pub ReplyHas : {State : Type 0} → Ends State → (ℕ → Asked → List ℕ → Type 0) → World (ByNumber Asked) State → Numbered Request → Type 0
ReplyHas ends M w x = (ends.handed w.wire.state x.line.id x.line.call).executed ≡ true → M x.number x.line.call (ends.handed w.wire.state x.line.id x.line.call).reply
