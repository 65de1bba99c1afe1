-- What a record says of the stretches of a run stays so with one more stretch before them, and doesn't depend on the moment at
-- which it was recorded: whose reply its answer is, and that a late record's command was executed. A *stretch* is a run once it
-- has synchronized: what is in flight then, and its moves.
use Rattle.gc_theorems.proofs.Common.{◌≡◌, ℕ, suc, List, [], ◌∷◌, map, Option, Some, slice_get, AllByRecursion, KeptReply, Task, Part, timeless, Record, Ends, HasRequest, IsOwnAnswer, LateHasExecution, Stretch}

-- the request of a record in a run with the parts `ps` and the stretches `ss` is its request in a run with the parts `qs` and the
-- stretches `ts` where its part and its stretch are at place k, whatever the moment (`utc`) at which the record was recorded
request_moved : {State : Type 0} (commands : List Task) (ps qs : List Part) (ss ts : List (Stretch State)) (r : Record) (utc : ℕ) (h : HasRequest commands ps ss (record r { utc = utc })) (k : ℕ)
    → slice_get qs k ≡ Some h.part → slice_get ts k ≡ Some h.stretch → HasRequest commands qs ts r
request_moved commands ps qs ss ts r utc h k of_parts of_stretches = record {
  k = k;
  part = h.part;
  stretch = h.stretch;
  of_parts = of_parts;
  of_stretches = of_stretches;
  m = h.m;
  expected = h.expected;
  mark = h.mark;
  task = h.task;
  listed = h.listed;
}

module _ {State : Type 0} (ends : Ends State) (Good : State → Type 0) (kept : State → Option KeptReply) (commands : List Task) where
  -- a record is its own, in a run with these parts and stretches: if it is of a reply in time, by `IsOwnAnswer`; and if it is late, by
  -- `LateHasExecution`
  abbrev pub IsOwnRecord : List Part → List (Stretch State) → Record → Type 0
  IsOwnRecord ps ss r = IsOwnAnswer ends Good kept commands ps ss r × LateHasExecution ends Good kept commands ps ss r

  -- a record that is its own is so where its part and its stretch, at place n, are at place `at n`, and whatever the moment (`utc`) at which
  -- it was recorded
  own_moved : (ps qs : List Part) (ss ts : List (Stretch State)) (r : Record) (utc : ℕ) (at : ℕ → ℕ) → ((n : ℕ) (p : Part) → slice_get ps n ≡ Some p → slice_get qs (at n) ≡ Some p)
      → ((n : ℕ) (s : Stretch State) → slice_get ss n ≡ Some s → slice_get ts (at n) ≡ Some s) → IsOwnRecord ps ss (record r { utc = utc }) → IsOwnRecord qs ts r
  unfolding request_moved
  own_moved ps qs ss ts r utc at parts stretches own = (
    λ line answered.
        let h = own.0 line answered in
        record {
          of = request_moved commands ps qs ss ts r utc h.of (at h.of.k) (parts h.of.k h.of.part h.of.of_parts) (stretches h.of.k h.of.stretch h.of.of_stretches);
          request = h.request;
          sent = h.sent;
          asks = h.asks;
          settled = h.settled;
          made = h.made;
          reply = h.reply;
          executed = h.executed;
          made_on = h.made_on;
          as_recorded = h.as_recorded;
        },
    λ late.
        let h = own.1 late in
        record {
          of = request_moved commands ps qs ss ts r utc h.of (at h.of.k) (parts h.of.k h.of.part h.of.of_parts) (stretches h.of.k h.of.stretch h.of.of_stretches);
          line = h.line;
          made_on = h.made_on;
          as_recorded = h.as_recorded;
        },
  )

  -- a record that is its own is so with one more part and one more stretch before the others, too
  pub own_later : (p : Part) (s : Stretch State) (ps : List Part) (ss : List (Stretch State)) (r : Record) → IsOwnRecord ps ss r → IsOwnRecord (p ∷ ps) (s ∷ ss) r
  own_later p s ps ss r own = own_moved ps (p ∷ ps) ss (s ∷ ss) r r.utc (λ n. suc n) (λ n x e. e) (λ n x e. e) own

  -- records that are their own without their moments are so with them
  pub own_timeless : (ps : List Part) (ss : List (Stretch State)) (rs : List Record) → AllByRecursion (IsOwnRecord ps ss) (map timeless rs) → AllByRecursion (IsOwnRecord ps ss) rs
  own_timeless ps ss [] h = tt
  own_timeless ps ss (r ∷ rs) h = (own_moved ps ps ss ss r 0 (λ n. n) (λ n x e. e) (λ n x e. e) h.0, own_timeless ps ss rs h.1)
