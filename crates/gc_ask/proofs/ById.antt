-- A request that waits alone is settled by its id.
use Rattle.gc_ask.proofs.Common.{◌≡◌, ℕ, ◌+◌, ◌-◌, ◌%◌, true, false, cond, List, [], ◌∷◌, ◌++◌, Option, Some, None, refl, ap, ◌∙◌, arith, Call, IsWithinLimits, Waits, heard, fits, Settlement, waiting_for, first_reply, settled_by, asked_from, Command}
use Rattle.gc_client.proofs.Digits.{fits_where_it_waits, heard_digit}
use Rattle.gc_ask.specs.Laws.{HasNoReply, AsksById}
use Rattle.gc_ask.proofs.Asked.{hears_one}
use Rattle.gc_ask.proofs.FirstReplies.{first_reply-at}

-- a client that waits for one request has a window that the rule allows
one_within_limits : (k : ℕ) (c : Command) → IsWithinLimits (waiting_for k c)
one_within_limits k c = record { digit = omega arith; few = omega arith }

-- the rule's id of the oldest request that waits, where request k is the only one, is k modulo 8
oldest_id : (k : ℕ) → ((k + 1) % 8 + 8 - 1 + 0) % 8 ≡ k % 8
oldest_id k = omega arith

-- a reply with the id of request k fits the client that waits for it
fits_by_id : (k : ℕ) (c : Command) (line : List ℕ) → heard line ≡ Some (k % 8) → fits (waiting_for k c) (heard line) ≡ true
fits_by_id k c line e =
    ap (fits (waiting_for k c)) e ∙ (fits_where_it_waits (waiting_for k c) (k % 8) (one_within_limits k c) (heard_digit line (k % 8) e)).1 (0, omega arith, oldest_id k)

-- only a reply with the id of request k fits the client that waits for it
fits_by_id_only : (k : ℕ) (c : Command) (line : List ℕ) → fits (waiting_for k c) (heard line) ≡ true → heard line ≡ Some (k % 8)
fits_by_id_only k c line fit = by_id (heard line) refl fit where
  -- an id for which a request waits is that of request k
  the_id : (id : ℕ) → heard line ≡ Some id → Waits (waiting_for k c) id → id ≡ k % 8
  the_id id e (place, below, same) = omega (arith, below, same)

  -- what is heard of the line (`o`), if it fits, is the id of request k
  by_id : (o : Option ℕ) → heard line ≡ o → fits (waiting_for k c) o ≡ true → o ≡ Some (k % 8)
  by_id None e f = (cc)
  by_id (Some id) e f = ap Some (the_id id e ((fits_where_it_waits (waiting_for k c) id (one_within_limits k c) (heard_digit line id e)).0 f))

-- lines without a reply to request k have no first reply to it
no_first_reply : (k : ℕ) (c : Command) (came : List (List ℕ)) → HasNoReply k came → first_reply (waiting_for k c) came ≡ None
no_first_reply k c [] none = refl
no_first_reply k c (line ∷ later) none = elim (fits (waiting_for k c) (heard line)) as
    (λ v. fits (waiting_for k c) (heard line) ≡ v → cond v (Some (record { line = line; later = later })) (first_reply (waiting_for k c) later) ≡ None) [
      | true ↦ λ e. absurd (none.0 (fits_by_id_only k c line e))
      | false ↦ λ e. no_first_reply k c later none.1
    ] refl

-- the law: each request is settled by the first reply with its id, after the one that settled the request before it
pub asks_by_id : (k : ℕ) (command : Command) (later : List Command) → AsksById k command later
asks_by_id k command later = record {
  settled = λ front line rest none its.
      let fit = fits_by_id k command line its in
      ap (settled_by (waiting_for k command) (asked_from (k + 1) later)) (first_reply-at (waiting_for k command) front line rest (no_first_reply k command front none) fit)
      ∙ ap (λ (zs : List (Settlement Call)). zs ++ asked_from (k + 1) later rest) (hears_one k command line fit).0;
  unsettled = λ came none. ap (settled_by (waiting_for k command) (asked_from (k + 1) later)) (no_first_reply k command came none);
}
