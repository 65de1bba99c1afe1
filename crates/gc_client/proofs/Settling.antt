-- For the loop that settles requests as lost: what one more settlement adds to those made so far.
use Rattle.gc_client.proofs.Common.{◌≡◌, ℕ, zero, suc, ◌+◌, ◌<◌, List, [], ◌∷◌, ◌++◌, length, map, take, drop, set, Some, sym, subst, ◌∙◌, ap, ap₂, arith, slice_get, map-append, take_more_set, All-append, Pending, Settlement, lost, ReadingRule, settlement_seen, IsReadBy, AreReadBy, IsSettledBy, AreSettledBy}
use Rattle.gc_client.proofs.Lists.{take_next, head_of_drop}
use Rattle.gc_client.specs.Rule

-- where the outcome of a settlement is read by `says`, so are the outcomes of the list of this settlement alone
well_read_one : {Q : Type 0} (says : ReadingRule Q) (s : Settlement Q) → IsReadBy says s.call s.outcome → AreReadBy says (s ∷ [])
well_read_one says s read zero d lt = read
well_read_one says s read (suc k) d lt = absurd (omega arith)

-- where the settlements ss are the rule's settlements rs (`AreSettledBy`), and ts are us, ss and then ts are rs and then us
pub settled_append : {Q : Type 0} (says : ReadingRule Q) (ss ts : List (Settlement Q)) (rs us : List (Rule.Settlement Q))
    → AreSettledBy says ss rs → AreSettledBy says ts us → AreSettledBy says (ss ++ ts) (rs ++ us)
settled_append says ss ts rs us first next =
    record {
      seen = map-append settlement_seen ss ts ∙ ap₂ (λ xs ys. xs ++ ys) first.seen next.seen;
      read = All-append (λ s. IsReadBy says s.call s.outcome) ss ts first.read next.read;
    }

-- where the settlements ss are the rule's settlements rs (`AreSettledBy`), and s is the rule's r (`IsSettledBy`), ss and then s
-- are rs and then r
settled_one_more : {Q : Type 0} (says : ReadingRule Q) (ss : List (Settlement Q)) (rs : List (Rule.Settlement Q)) (s : Settlement Q) (r : Rule.Settlement Q)
    → AreSettledBy says ss rs → IsSettledBy says s r
    → AreSettledBy says (ss ++ s ∷ []) (rs ++ r ∷ [])
settled_one_more says ss rs s r are is =
    settled_append says ss (s ∷ []) rs (r ∷ []) are (record { seen = ap (λ x. x ∷ []) is.seen; read = well_read_one says s is.read })

-- where the first k settlements of ss, which has more than k, are the rule's rs, and s is the rule's r, the first k + 1, once s
-- is written over the one at place k, are rs and then r
pub settled_one_written : {Q : Type 0} (says : ReadingRule Q) (ss : List (Settlement Q)) (k : ℕ) (rs : List (Rule.Settlement Q)) (s : Settlement Q) (r : Rule.Settlement Q)
    → k < length ss
    → AreSettledBy says (take k ss) rs → IsSettledBy says s r → AreSettledBy says (take (k + 1) (set ss k s)) (rs ++ r ∷ [])
settled_one_written says ss k rs s r lt are is =
    subst (λ xs. AreSettledBy says xs (rs ++ r ∷ [])) (sym (take_more_set ss k s lt)) (settled_one_more says (take k ss) rs s r are is)

-- the first k + 1 requests, settled as lost, are the first k, settled as lost, and then p, settled as lost, where p is the first
-- of the requests from place k on
pub next_lost : {Q : Type 0} (ws : List (Pending Q)) (k : ℕ) (p : Pending Q) (qs qs' : List (Pending Q)) → qs ≡ drop k ws → qs ≡ p ∷ qs'
    → map lost (take (k + 1) ws) ≡ map lost (take k ws) ++ lost p ∷ []
next_lost ws k p qs qs' rest first =
    let here : slice_get ws k ≡ Some p = head_of_drop ws k p qs' (sym rest ∙ first) in
    let n : k + 1 ≡ suc k = omega arith in
    ap (λ m. map lost (take m ws)) n ∙ ap (map lost) (take_next ws k p here) ∙ map-append lost (take k ws) (p ∷ [])
