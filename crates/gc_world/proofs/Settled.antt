-- What is settled and what is waiting are the requests that were sent, in order, each once.
use Rattle.gc_world.proofs.Common.{◌≡◌, ℕ, zero, suc, ◌+◌, Bool, true, false, List, [], ◌∷◌, ◌++◌, length, map, Some, refl, sym, ◌∙◌, ap, subst, ◌%◌, arith, append_assoc, length-append, eqb, slice_get, map-append, append-nil, length-map, Pending, Settlement, Settled, ById, pending_of, send_unless_full, Sending, Wanted, of_settled, of_pending, lost_parts, expired_parts, heard_parts, of_sent, started, with_settled, by_ids, ids_open, IsOneForOne, same_Some, none-some}
use Rattle.gc_world.specs.Worlds.{Sent, Ends, Step, Wire, World, requested, run}
use Rattle.gc_world.proofs.Stable.{IsStable, stable_all}

-- the settled requests, and after them those that wait, are those that were sent, in order
abbrev pub AccountForSent : {Q : Type 0} → (settled : List (Settlement Q)) → (waiting : List (Pending Q)) → (sent : List (Sent Q)) → Type 0
AccountForSent settled waiting sent = map of_settled settled ++ map of_pending waiting ≡ map of_sent sent

module _ {Q State : Type 0} (width : ℕ) (ends : Ends Q State) where
  -- a world is whole: its settled requests, and those that wait, are those that were sent (`AccountForSent`)
  abbrev pub Whole : World Q (ById Q) State → Type 0
  Whole w = AccountForSent w.wire.settled w.client.waiting w.wire.sent

  -- a send that isn't refused keeps a world whole
  whole_sent : (written : ℕ → Q → List ℕ) (w : World Q (ById Q) State) (target : ℕ) (call : Q) (deadline : ℕ) (full : Bool) (x : Sending (ById Q))
      → send_unless_full w.client target call deadline full ≡ Some x → Whole w → Whole (requested written w target call (Some x))
  whole_sent written w target call deadline true x e h = absurd (none-some x e)
  whole_sent written w target call deadline false x e h =
      let y : Sending (ById Q) = record { id = w.client.next; client = record { next = (w.client.next + 1) % 8; waiting = w.client.waiting ++ pending_of target call deadline ∷ [] } } in
      let done : Whole (requested written w target call (Some y)) = simp map-append
      (sym (append_assoc (map of_settled w.wire.settled) (map of_pending w.client.waiting) _)
      ∙ ap (λ l. l ++ record { target = target; call = call } ∷ []) h) in
      subst (λ z. Whole (requested written w target call (Some z))) (same_Some y x e) done

  -- where w is whole, `wire` has w's settlements and requests sent, and the requests that x settles, and after them those that
  -- wait then, are those that waited in w, the world that x leaves on `wire` (`with_settled`) is whole
  whole_booked : (w : World Q (ById Q) State) (wire : Wire Q State) (x : Settled Q (ById Q)) → wire.settled ≡ w.wire.settled → wire.sent ≡ w.wire.sent
      → map of_settled x.settlements ++ map of_pending x.client.waiting ≡ map of_pending w.client.waiting → Whole w → Whole (with_settled wire x)
  whole_booked w wire x e1 e2 p h =
      pieces ∙ ap (λ l. map of_settled wire.settled ++ l) p ∙ ap (λ l. map of_settled l ++ map of_pending w.client.waiting) e1 ∙ h ∙ ap (λ l. map of_sent l) (sym e2)
    where
      pieces : map of_settled (wire.settled ++ x.settlements) ++ map of_pending x.client.waiting ≡ map of_settled wire.settled ++ (map of_settled x.settlements ++ map of_pending x.client.waiting)
      pieces = simp (map-append, append_assoc)

  -- a restart of the client, with one of the instrument (b true) or without, keeps a world whole
  whole_restarted : (w : World Q (ById Q) State) (b : Bool) → Whole w → Whole (with_settled (started ends w.wire b) ((by_ids width ends).restart w.client))
  whole_restarted w false h = whole_booked w w.wire ((by_ids width ends).restart w.client) refl refl (append-nil _ ∙ lost_parts w.client.waiting) h
  whole_restarted w true h = whole_booked w (started ends w.wire true) ((by_ids width ends).restart w.client) refl refl (append-nil _ ∙ lost_parts w.client.waiting) h

  -- each elementary change keeps a world whole
  keeps_whole : (written : ℕ → Q → List ℕ) → IsStable written ends (by_ids width ends) Whole
  keeps_whole written =
      record {
        idles = λ w h. h;
        refuses = λ w h. h;
        sends = λ w target call deadline x e h. whole_sent written w target call deadline (eqb (length w.client.waiting) width) x e h;
        answers = λ w x rest q h. h;
        loses_up = λ w k h. h;
        repeats_up = λ w k h. h;
        loses_down = λ w k h. h;
        repeats_down = λ w k h. h;
        hears = λ w x rest q h. whole_booked w (record w.wire { down = rest }) ((by_ids width ends).reply w.client x) refl refl (heard_parts w.client x.line (ends.heard x.line)) h;
        expires = λ w now h. ap (λ l. map of_settled w.wire.settled ++ l) (expired_parts now w.client.waiting) ∙ h;
        restarts = λ w u d h. whole_restarted w ends.joint h;
        starts = λ w u d h. h;
      }

  -- every run by ids ends in a whole world
  pub whole_at : (written : ℕ → Q → List ℕ) (es : List (Step Q)) (state : State) → Whole (run written ends (by_ids width ends) es (ids_open state))
  whole_at written es state = stable_all written ends (by_ids width ends) Whole (keeps_whole written) es (ids_open state) refl

-- where the settled requests, with `rest` after them, are those that were sent, settlement m has the target and the call of
-- request m
same_at : {Q : Type 0} (settled : List (Settlement Q)) (rest : List (Wanted Q)) (sent : List (Sent Q)) (m : ℕ) (s : Settlement Q) (r : Sent Q)
    → map of_settled settled ++ rest ≡ map of_sent sent → slice_get settled m ≡ Some s → slice_get sent m ≡ Some r → of_settled s ≡ of_sent r
same_at [] rest sent m s r e g h = absurd (none-some s g)
same_at (x ∷ xs) rest [] m s r e g h = absurd (none-some r h)
same_at (x ∷ xs) rest (y ∷ ys) zero s r e g h =
    let front : of_settled x ≡ of_sent y = cc in
    sym (ap of_settled (same_Some x s g)) ∙ front ∙ ap of_sent (same_Some y r h)
same_at (x ∷ xs) rest (y ∷ ys) (suc m) s r e g h =
    let tail : map of_settled xs ++ rest ≡ map of_sent ys = cc in
    same_at xs rest ys m s r tail g h

-- where the settled requests, and those that wait, are those that were sent (`AccountForSent`), settlement m has the target and
-- the call of request m, and there are no more settlements than requests (`IsOneForOne`)
pub one_for_one : {Q : Type 0} (settled : List (Settlement Q)) (waiting : List (Pending Q)) (sent : List (Sent Q)) → AccountForSent settled waiting sent
    → IsOneForOne sent settled
one_for_one {Q} settled waiting sent e =
    record {
      count = omega (arith, length-append (map of_settled settled) (map of_pending waiting), length-map settled of_settled, length-map sent of_sent, ap length e);
      same = λ m s r g h.
          let a = same_at settled (map of_pending waiting) sent m s r e g h in
          (ap (λ (x : Wanted Q). x.target) a, ap (λ (x : Wanted Q). x.call) a);
    }
