-- Which lines have the forms of a schedule.
use Rattle.gc_filters.proofs.Common.{◌≡◌, ℕ, List, ◌++◌, Option, Some, ap, subst, sym, ◌∙◌, codes, Event, Send, Cuts, IsNumber, IsProcedureText, IsTarget, NoTarget, IsReadAs, read_alike, holds_of_rest, same_Some, IsNumbered, IsRequested, IsSend, IsEvent, Requested, SendsRequested}
use Rattle.gc_catalogue.specs.declared.call.Call.{Call}
use Rattle.gc_filters.proofs.InThree.{first_cut, second_cut}

-- if a line is `word` and `rest`, the number up to `max` that is read of `rest`, or `None`, is also read of the line, as the number
-- after `word` (`IsReadAs`)
pub read_as_numbered : (word line rest : List ℕ) (max : ℕ) (r : Option ℕ) → line ≡ word ++ rest
    → IsReadAs (λ n. IsNumber rest n max) r → IsReadAs (λ n. IsNumbered word line n max) r
read_as_numbered word line rest max r e =
    read_alike (λ n. IsNumber rest n max) (λ n. IsNumbered word line n max) r (λ n number. record { rest = rest; line_is = e; is = number })
    (λ n found. holds_of_rest word (λ digits. IsNumber digits n max) line rest e found)

-- the parts of a text that writes a request (q): a target, a deadline, and a procedure with its parameters
module _ (text : List ℕ) (q : Requested) (r : IsRequested text q) where
  -- what stands before the first space is a target, a number of 32 bits
  pub has_target : (target rest : List ℕ) → Cuts 32 text target (Some rest) → NoTarget target → ⊥
  has_target target rest cut none =
      none q.target (subst (λ (ds : List ℕ). IsTarget ds q.target) (sym (first_cut text r.parts target (Some rest) cut).0) r.target_is)

  -- what stands between the first two spaces is a deadline, a number of 64 bits
  pub has_deadline : (target rest deadline : List ℕ) (behind : Option (List ℕ)) → Cuts 32 text target (Some rest) → Cuts 32 rest deadline behind
      → ((n : ℕ) → IsNumber deadline n 18446744073709551615 → ⊥) → ⊥
  has_deadline target rest deadline behind cut next none =
      none q.deadline (subst (λ (ds : List ℕ). IsNumber ds q.deadline 18446744073709551615) (sym (second_cut text r.parts target rest deadline behind cut next).0) r.deadline_is)

  -- what stands after the second space is a procedure and its parameters
  pub has_procedure : (target rest deadline procedure : List ℕ) → Cuts 32 text target (Some rest) → Cuts 32 rest deadline (Some procedure)
      → ((c : Call) → IsProcedureText procedure c → ⊥) → ⊥
  has_procedure target rest deadline procedure cut next none =
      let same = same_Some procedure r.parts.third (second_cut text r.parts target rest deadline (Some procedure) cut next).1 in
      none q.call (subst (λ (p : List ℕ). IsProcedureText p q.call) (sym same) r.procedure_is)

-- where a line is `send ` and `rest`, and `event` is the send that `rest` requests, the line has the form of the event
pub requested_send_is_event : (word line rest : List ℕ) (event : Event) → word ≡ codes "send " → line ≡ word ++ rest → SendsRequested rest event → IsEvent line event
requested_send_is_event word line rest (Send t call d) same e requested = record { rest = rest; line_is = e ∙ ap (λ w. w ++ rest) same; is = requested }
requested_send_is_event word line rest _ same e requested = absurd requested

-- where a line is `send ` and `rest`, and `rest` requests no call, the line has the form of no send
pub unrequested_is_no_send : (word line rest : List ℕ) → word ≡ codes "send " → line ≡ word ++ rest
    → ((q : Requested) → IsRequested rest q → ⊥) → (q : Requested) → IsSend line q → ⊥
unrequested_is_no_send word line rest same e none q sent =
    none q (holds_of_rest (codes "send ") (λ x. IsRequested x q) line rest (e ∙ ap (λ w. w ++ rest) same) sent)
