-- The law on answers, `IsFaithfulFrom`, put together from its parts, and that of a client that doesn't synchronize.
use Rattle.gc_theorems.proofs.Common.{slice_get, is_of_table, ◌≡◌, ℕ, ◌<◌, ◌≤◌, Some, false, List, [], Option, sym, ◌∙◌, ap, subst, arith, map, ◌++◌, Asked, begun, course, of_settled, of_pending, ById, Settlement, accounts_for_sends, ByNumber, by_ids, by_numbers, ids_open, numbers_open, IsReplyTo, KeptReply, Ends, Wire, World, has_at, Move, moved, ArePossible, AsksTheTable, IsFirstAlone, seen, IsFaithfulFrom, IsFaithfulUnsynchronized, WasMadeFrom, ExecutesOnce, IsInOrder, IsAnInstrument, AccountForSent}
use Rattle.gc_theorems.proofs.Moving.{Both, both_all, both_open, first_reply, IsOwnSettlement, IsVouchedFor, vouched_at, made_here}
use Rattle.gc_theorems.proofs.Instruments.{exchange_of}
use Rattle.gc_theorems.proofs.Seen.{same_all, same_open}
use Rattle.gc_world.proofs.Settled as settled

module _ {State : Type 0} (ends : Ends State) (Good : State → Type 0) (kept : State → Option KeptReply) (keeper : IsAnInstrument ends Good kept) (width : ℕ) (narrow : width ≤ 7) where
  -- where two worlds go together (`Both`), possible moves from there on are faithful for the requests that are sure: if they settle and
  -- leave what a new client does (`old` is settled before them) and account for what was sent, what was executed in the world of numbers is as
  -- `IsVouchedFor` says, and there the settlement of each sure request is its own
  pub faithful_from : {E : ℕ → Type 0} {N : ℕ → Asked → List ℕ → Type 0} (ids : World (ById Asked) State) (numbers : World (ByNumber Asked) State) → Both width narrow ends Good (exchange_of ends Good kept keeper) kept ids numbers → (ms : List (Move State))
      → ArePossible ends Good kept (by_ids width ends) ms ids → (old : List (Settlement Asked)) (IsSure : ℕ → Type 0) →
      let a = moved ends (by_ids width ends) ms ids in let b = moved ends (by_numbers width) ms numbers in
      a.wire.settled ≡ old ++ (course width begun (seen ms)).settlements → (course width begun (seen ms)).client ≡ a.client → AccountForSent a.wire.settled a.client.waiting a.wire.sent
      → IsVouchedFor ends Good kept E N b.wire
      → ((m : ℕ) (s : Settlement Asked) → IsSure m → slice_get b.wire.settled m ≡ Some s → IsOwnSettlement ends Good (λ n call line. WasMadeFrom width ends ids ms n call line) b.wire m s)
      → IsFaithfulFrom width ends ids numbers ms old IsSure Good kept
  faithful_from ids numbers start ms p old IsSure settlements stands parts all own_there =
      let ex = exchange_of ends Good kept keeper in
      let a = moved ends (by_ids width ends) ms ids in
      let b = moved ends (by_numbers width) ms numbers in
      let both = both_all width narrow ends Good ex kept ms ids numbers p start in
      let same : a.wire ≡ b.wire = both.agree.wire in
      let pairs = settled.one_for_one a.wire.settled a.client.waiting a.wire.sent parts in
      let M : ℕ → Asked → List ℕ → Type 0 = λ n call line. WasMadeFrom width ends ids ms n call line in
      let own : (m : ℕ) (s : Settlement Asked) → IsSure m → slice_get a.wire.settled m ≡ Some s → IsOwnSettlement ends Good M a.wire m s =
      λ m s sure e. subst (λ (w : Wire State). IsOwnSettlement ends Good M w m s) (sym same) (own_there m s sure (subst (λ (w : Wire State). slice_get w.settled m ≡ Some s) same e)) in
      record {
        settled = settlements;
        stands = stands;
        accounted = parts;
        one_for_one = pairs;
        booked = λ m s sure e bytes answered.
            let v = (own m s sure e).answered bytes answered in
            let right = (pairs.same m s v.request e v.found).1 in
            (has_at _ a.wire.made v.among, subst (λ call. IsReplyTo ends Good call bytes) (sym right) v.reply);
        executed = λ m s sure e bytes answered. has_at m a.wire.executed ((own m s sure e).answered bytes answered).acted;
        made_on = λ m s sure e bytes answered.
            let v = (own m s sure e).answered bytes answered in
            subst (λ call. M m call bytes) (sym (pairs.same m s v.request e v.found).1) v.on;
        in_order = subst (λ (w : Wire State). IsInOrder w.executed) (sym same) all.order;
        late = λ m s sure e late.
            let v = (own m s sure e).late late in
            (v.0, subst (λ call. M m call v.0) (sym (pairs.same m s v.1.request e v.1.found).1) v.1.on);
        once = λ keeps k. subst (λ (w : Wire State). ExecutesOnce keeps w.sent w.executed w.starts) (sym same) (all.once keeps k);
        agrees = same;
        first_reply = λ n line rest e le. first_reply width narrow ends Good ex kept a b n line rest both e le;
      }

  -- possible moves from a good state on are faithful, if their requests are calls of the table, and the first is sent alone
  pub faithful : (state : State) → Good state → (ms : List (Move State)) → ArePossible ends Good kept (by_ids width ends) ms (ids_open state) → AsksTheTable ms
      → IsFirstAlone false ms → IsFaithfulUnsynchronized width ends state ms Good kept
  faithful state good ms p table l =
      let ex = exchange_of ends Good kept keeper in
      let a = moved ends (by_ids width ends) ms (ids_open state) in
      let start = both_open width narrow ends Good ex kept state good in
      let one = same_all width ends keeper.hears Good kept ms begun (ids_open state) p (same_open width ends keeper.hears Good kept state) in
      let x = course width begun (seen ms) in
      let parts : AccountForSent a.wire.settled a.client.waiting a.wire.sent =
      ap (λ l. map of_settled l ++ map of_pending a.client.waiting) (sym one.settled)
      ∙ ap (λ (c : _). map of_settled x.settlements ++ map of_pending c.waiting) (sym one.client)
      ∙ accounts_for_sends width (seen ms)
      ∙ one.sent in
      let M : ℕ → Asked → List ℕ → Type 0 = λ n call line. WasMadeFrom width ends (ids_open state) ms n call line in
      let on = made_here width narrow ends Good ex kept (ids_open state) (numbers_open state) start ms p in
      let all = vouched_at width narrow is_of_table ends Good ex kept keeper (λ n. n < 1) (omega arith) M ms state good p table l on in
      faithful_from (ids_open state) (numbers_open state) start ms p [] (λ m. 0 < m) (sym one.settled) one.client parts all (λ m s gt e. all.own m s (λ l. omega (arith, l, gt)) e)
