-- What a run over any link is, where the link is remote (somebody other than this program answers at its other end).
use Rattle.gc_ask.proofs.Common.{◌≡◌, ℕ, Bool, true, List, Ok, Err, inl, inr, refl, ap, subst, arith, AskRuns, AsksAtClient, SeenAtClient, written_at_client, Asks, LinkResult, UseEnds, WritesPart, Written, AsksAtBoth, BothEnd, RunsAtBoth, SeenAtBoth, at_client, written_at_both, Command, Read, Write, TooManyReads, LinkClosed, Output, Memory, Input}
use Rattle.gc_ask.proofs.Ends.{at_remote, remote_end, asking_ends_weaker}

-- `WritesPart` with a condition `over` on the link's end holds with any weaker condition `other`
writes_part_weaker : (commands : List Command) (given : List ℕ) (w : Written) (over other : LinkResult → Type 0) → ((r : LinkResult) → over r → other r)
    → WritesPart commands given w over → WritesPart commands given w other
writes_part_weaker commands given w over other so t = record {
  at = t.at;
  bytes = t.bytes;
  sent = t.sent;
  link = t.link;
  ends = so t.link t.ends;
  next = t.next;
  next_is = t.next_is;
  part = t.part;
  not_all = t.not_all;
  sink_took = t.sink_took;
}

-- what was asked over a link (`Asks`) with a condition `over` on the link's end was asked with any weaker condition `other`
asks_weaker : (is_remote : Bool) (commands : List Command) (given : List ℕ) (w : Written) (over other : LinkResult → Type 0) → ((r : LinkResult) → over r → other r)
    → (r : LinkResult) → Asks is_remote commands given w over r → Asks is_remote commands given w other r
asks_weaker is_remote commands given w over other so (Ok u) x = x
asks_weaker is_remote commands given w over other so (Err Read) x = x
asks_weaker is_remote commands given w over other so (Err LinkClosed) x = x
asks_weaker is_remote commands given w over other so (Err TooManyReads) x = x
asks_weaker is_remote commands given w over other so (Err (Write count part)) x = x
asks_weaker is_remote commands given w over other so (Err Output) x = writes_part_weaker commands given w over other so x
asks_weaker is_remote commands given w over other so (Err e) x = absurd x

-- a run of commands over a remote link is what `AsksAtClient` says
pub over_remote : (commands : List Command) (most : ℕ) (old new : SeenAtClient) (r : LinkResult)
    → AsksAtBoth true commands most (at_remote old) (at_remote new) r → AsksAtClient commands most old new r
over_remote commands most old new r x = record {
  within = record {
    given = x.within.given;
    gave = x.within.gave;
    few = x.within.few;
    asks = asks_weaker true commands x.within.given (written_at_client old new) (BothEnd (at_remote old) (at_remote new)) (UseEnds old.link new.link) (remote_end old new) r x.within.asks;
    bound = omega (arith, x.within.bound);
    too_many = λ is. omega (arith, x.within.too_many is);
    ends = asking_ends_weaker (BothEnd (at_remote old) (at_remote new)) (UseEnds old.link new.link) (remote_end old new) old.sink.failed old.sink.failed new.sink.failed refl r x.within.ends;
  };
}

-- a run of a text over a remote link is what `AskRuns` says
pub runs_remote : (text_old text_new : Input) (most : ℕ) (old new : SeenAtClient) (r : LinkResult)
    → RunsAtBoth true text_old text_new most (at_remote old) (at_remote new) r → AskRuns text_old text_new most old new r
runs_remote text_old text_new most old new r (given, gave, few, inl x) = (given, gave, few, inl (x.0, x.1, x.2, ap at_client x.3))
runs_remote text_old text_new most old new r (given, gave, few, inr x) = (given, gave, few, inr (x.0, x.1, over_remote x.0 most old new r x.2))

-- asking commands never ends with `Memory`
pub no_memory : (is_remote : Bool) (commands : List Command) (most : ℕ) (old new : SeenAtBoth) (r : LinkResult)
    → AsksAtBoth is_remote commands most old new r → r ≡ Err Memory → ⊥
no_memory is_remote commands most old new r x is =
    subst (λ (e : LinkResult). Asks is_remote commands x.within.given (written_at_both old new) (BothEnd old new) e) is x.within.asks
