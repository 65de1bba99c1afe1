-- What holds of one request, m, from the moment at which it is sent after the table: it is near the last call of the table that
-- the instrument was handed, so the line that answers it was made for it. Of what was sent before nothing need be known.
use Rattle.gc_theorems.proofs.Common.{◌≡◌, ℕ, ◌+◌, ◌<◌, ◌≤◌, ◌⊎◌, inl, inr, Bool, true, false, List, [], ◌∷◌, length, Option, refl, subst, arith, ltb, ltb-true, ltb-false, is_of_table, Asked, Outcome, Answered, Late, Lost, KeptReply, ByNumber, Ends, Numbered, World, Sound, IsBehindTheTable, IsByReply, Move, Sends, AsksOnly, IsAnInstrument, all_known}
use Rattle.gc_theorems.proofs.Answered.{HoldsOfOutcome, holds_get, holds_below}
use Rattle.gc_theorems.proofs.BeginLists.{each_both}
use Rattle.gc_theorems.proofs.Once.{known_not_unknown}
use Rattle.gc_theorems.proofs.KeptReplies.{IsNoNewerKnown, kept_below}
use Rattle.gc_theorems.proofs.Vouched.{AllVouched, Vouched}

-- any moves ask only what is known, if each request is known (`all_known`)
pub asks_all : {State : Type 0} (ms : List (Move State)) → AsksOnly all_known ms
asks_all [] = tt
asks_all (Sends target call deadline ∷ ms) = (refl, asks_all ms)
asks_all (m ∷ ms) = asks_all ms

-- request n is another one than m
abbrev pub AllBut : (m n : ℕ) → Type 0
AllBut m n = n ≡ m → ⊥

-- this holds of each request, by its number
abbrev pub AnyRequest : ℕ → Type 0
AnyRequest n = Unit {0}

-- this holds of each line, as the reply to any request
abbrev pub AnyLine : ℕ → Asked → List ℕ → Type 0
AnyLine n call line = Unit {0}

module _ {State : Type 0} (width : ℕ) (narrow : width ≤ 7) (ends : Ends State) (Good : State → Type 0) (kept : State → Option KeptReply) (keeper : IsAnInstrument ends Good kept) (low : ℕ) where
  -- `AllVouched`, with all requests excepted
  abbrev pub AllExcepted : World (ByNumber Asked) State → Type 0
  AllExcepted w = AllVouched width narrow is_of_table ends Good kept keeper low AnyRequest ⊥ AnyLine w

  -- `AllVouched`, with all requests excepted but m
  abbrev pub AllExceptedBut : (ℕ → Asked → List ℕ → Type 0) → ℕ → World (ByNumber Asked) State → Type 0
  AllExceptedBut M m w = AllVouched width narrow is_of_table ends Good kept keeper low (AllBut m) ⊥ M w

  -- if `AllExcepted` holds of a sound world in which m requests were sent, request m isn't sent yet; so if m is at most seven
  -- after the last call of the table that the instrument was handed, `AllExceptedBut` holds of the world with m
  pub renewed : (M : ℕ → Asked → List ℕ → Type 0) (m : ℕ) (w : World (ByNumber Asked) State) → Sound width ends Good w → (t : AllExcepted w) → length w.wire.sent ≡ m → m ≤ t.last + 7
      → AllExceptedBut M m w
  renewed M m w s t size near =
      let v = w.wire in
      let P : ℕ → List ℕ → Type 0 = λ n line. Vouched width narrow is_of_table ends Good kept keeper low AnyRequest ⊥ AnyLine v.sent v.executed v.made t.last n line in
      let Q : ℕ → List ℕ → Type 0 = λ n line. Vouched width narrow is_of_table ends Good kept keeper low (AllBut m) ⊥ M v.sent v.executed v.made t.last n line in
      let f : (n : ℕ) (line : List ℕ) → n < t.top → P n line → Q n line = λ n line l p. (p.0, inl (λ e. omega (arith, e, l, t.within, size))) in
      record {
        top = t.top;
        last = t.last;
        counted = t.counted;
        within = t.within;
        lower = t.lower;
        least = t.least;
        above = t.above;
        below = t.below;
        holds = kept_below P Q w.client.since t.top t.last f (kept v.state) t.holds;
        lines = t.lines;
        near = inr (λ n. is_near n near);
        coming =
            each_both (λ (x : Numbered (List ℕ)). x.number < t.top) (λ x. P x.number x.line) (λ x. Q x.number x.line) (λ x l p. f x.number x.line l p) v.down t.below t.coming;
        answers = holds_below P Q t.top f 0 v.settled (omega (arith, s.booked, t.counted)) t.answers;
        order = t.order;
        once = t.once;
      }
    where
      -- where m is at most seven after the last call of the table that the instrument was handed, each request is another one
      -- than m, or is at most seven after that call, too
      is_near : (n : ℕ) → m ≤ t.last + 7 → AllBut m n ⊎ (n ≤ t.last + 7)
      is_near n near = by_case (ltb n m) (ltb m n) refl refl where
        -- the lemma above, by whether n is below m (`a`), and m below n (`b`)
        by_case : (a b : Bool) → ltb n m ≡ a → ltb m n ≡ b → AllBut m n ⊎ (n ≤ t.last + 7)
        by_case true b e f = let l : n < m = ltb-true n m e in inl (λ same. omega (arith, same, l))
        by_case false true e f = let l : m < n = ltb-true m n f in inl (λ same. omega (arith, same, l))
        by_case false false e f = let l : n ≤ m = ltb-false m n f in inr (omega (arith, l, near))

  -- where P of request n and any line implies D, and `HoldsOfOutcome` of P holds of an outcome by a reply, D holds
  given_by_reply : (P : ℕ → List ℕ → Type 0) (D : Type 0) (n : ℕ) (o : Outcome) → ((line : List ℕ) → P n line → D) → IsByReply o → HoldsOfOutcome P n o → D
  given_by_reply P D n (Answered line) f by h = f line h
  given_by_reply P D n Late f by h = f h.0 h.1
  given_by_reply P D n Lost f by h = absurd by

  -- where `low` is at least 8, and `AllExcepted` holds: if request m is sent next, and after the table (`IsBehindTheTable`), m is
  -- at most seven after the last call of the table that the instrument was handed
  pub near_the_table : (m : ℕ) (w : World (ByNumber Asked) State) → (t : AllExcepted w) → 8 ≤ low → length w.wire.sent ≡ m → IsBehindTheTable w.wire → m ≤ t.last + 7
  near_the_table m w t eight size is =
      elim is.3 [
        | inl seven ↦ omega (arith, seven, size, is.2, t.least, eight)
        | inr e ↦ (
            let P : ℕ → List ℕ → Type 0 = λ n line. Vouched width narrow is_of_table ends Good kept keeper low AnyRequest ⊥ AnyLine w.wire.sent w.wire.executed w.wire.made t.last n line in
            let i : 0 + is.0 ≡ is.0 = omega arith in
            let so : HoldsOfOutcome P is.0 e.1.outcome = subst (λ k. HoldsOfOutcome P k e.1.outcome) i (holds_get P 0 w.wire.settled is.0 e.1 t.answers e.4) in
            let no_newer : IsNoNewerKnown is_of_table w.wire.sent t.last is.0 = given_by_reply P (IsNoNewerKnown is_of_table w.wire.sent t.last is.0) is.0 e.1.outcome (λ line p. p.0) e.5 so in
            elim no_newer [
              | inl le ↦ omega (arith, le, size, is.2)
              | inr u ↦ absurd (known_not_unknown is_of_table w.wire.sent is.0 e.0 e.2 e.3 u)
            ])
      ]
