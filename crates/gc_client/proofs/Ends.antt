-- What a reply settles.
use Rattle.gc_client.proofs.Common.{◌≡◌, ℕ, zero, suc, ◌≤◌, Bool, false, List, [], ◌∷◌, ◌++◌, length, map, take, drop, Ok, sym, ap, ap₂, ◌∙◌, arith, length-drop, ReplyFields, reply_at, reply_found, Pending, lost, settled_by_line, settle, ReadingRule, IsAnsweredBy, IsSettledBy}
use Rattle.gc_client.specs.declared.settlement.Outcome.{Outcome}
use Rattle.gc_client.specs.declared.settlement.Outcome.TheVariants.{Answered, Late, Lost}

-- where a request hadn't timed out, and an outcome is the answer that this reply line gives it, the request with that
-- outcome is the settlement that the rule makes of it by that line
pub answered_is : {Q : Type 0} (says : ReadingRule Q) (p : Pending Q) (line : List ℕ) (fields : ReplyFields) (o : Outcome) → p.given_up ≡ false
    → reply_at line ≡ Ok fields
    → IsAnsweredBy says p.call fields line o → IsSettledBy says (record { target = p.target; call = p.call; outcome = o }) (settled_by_line p line)
answered_is says p line fields (Answered reading copy) e reads (same, is_said) =
    record {
      seen = ap₂ (λ (bytes : List ℕ) (b : Bool). settled_by_line (record p { given_up = b }) bytes) same (sym e);
      read = record { reply = fields; is_reply = reply_found copy.items fields (ap reply_at same ∙ reads); is_reading = is_said };
    }
answered_is says p line fields Late e reads is = absurd is
answered_is says p line fields Lost e reads is = absurd is

-- where p is the request at place k, settling through place k settles the first k requests as lost, and p by the line
pub settle_is : {Q : Type 0} (k : ℕ) (line : List ℕ) (ws : List (Pending Q)) (p : Pending Q) (left : List (Pending Q)) → drop k ws ≡ p ∷ left
    → settle k line ws ≡ map lost (take k ws) ++ settled_by_line p line ∷ []
settle_is zero line [] p left e = cc
settle_is (suc k) line [] p left e = cc
settle_is zero line (w ∷ ws) p left e = let same : w ≡ p = cc in ap (λ x. settled_by_line x line ∷ []) same
settle_is (suc k) line (w ∷ ws) p left e = ap (λ rs. lost w ∷ rs) (settle_is k line ws p left e)

-- where at most `width` elements are in a list that has one at place k, at most `width` are left after place k
pub fewer_left : {A : Type 0} (width k : ℕ) (ws : List A) (p : A) (left : List A) → drop k ws ≡ p ∷ left → length ws ≤ width → length left ≤ width
fewer_left width k ws p left next few = let same = ap length next in omega (arith, same, length-drop k ws)
