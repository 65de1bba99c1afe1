-- Ids and places of the requests that wait, as numbers: `next` is the client's next id, and `waiting` how many requests wait.
use Rattle.gc_client.proofs.Common.{◌≡◌, ℕ, ◌<◌, ◌≤◌, List, length, Option, Some, Result, Ok, Err, refl, sym, subst, ap, ◌∙◌, arith, lt-ltb, ltb-true, IsIdInRange, ReplyFields, IsReply, reply_at, reply_found, reply_again, ById, place, place_in, heard, id_in}
use Rattle.gc_lines.specs.declared.fault.LineFault.{LineFault}
use Rattle.gc_client.specs.Ids.{id_at_place, FitsWaiting, IdsDiffer, IdsHavePlaces, SendKeepsIds, SettlingKeepsIds, HearsByGrammar}

-- where the next id is below 8 and fewer than seven requests wait, a request that is sent has the next id, and the others keep
-- theirs
pub send_keeps_ids : (next waiting : ℕ) → next < 8 → waiting < 7 → SendKeepsIds next waiting
send_keeps_ids next waiting digit room =
    record {
      own = omega arith;
      others = λ k below. omega arith;
    }

-- where at most seven requests wait, and the first of them are settled, however many, those that are left keep their ids
pub settling_keeps_ids : (next waiting : ℕ) → waiting ≤ 7 → SettlingKeepsIds next waiting
settling_keeps_ids next waiting few count k below = omega arith

-- where the next id is below 8, and at most seven requests wait, `place` gives k for the id of the request at place k, where one
-- waits
place_back : (next waiting k : ℕ) → next < 8 → waiting ≤ 7 → k < waiting → place next waiting (id_at_place next waiting k) ≡ k
place_back next waiting k digit few below = omega arith

-- where the next id is below 8, and at most seven requests wait, the place that `place` gives for an id below 8 has this id
pub id_back : (next waiting id : ℕ) → next < 8 → waiting ≤ 7 → id < 8 → id_at_place next waiting (place next waiting id) ≡ id
id_back next waiting id digit few below = omega arith

-- in a client within its limits the id of each request that waits leads back to its place
pub place_of_id : {Q : Type 0} (c : ById Q) → IdsHavePlaces c
place_of_id c k w below = place_back c.next (length c.waiting) k w.digit w.few below

-- in a client within its limits requests that wait at different places have different ids
pub same_id_same_place : {Q : Type 0} (c : ById Q) → IdsDiffer c
same_id_same_place c j k w below_j below_k same = sym (place_of_id c j w below_j) ∙ ap (place_in c) same ∙ place_of_id c k w below_k

-- in a client within its limits a reply's id below 8 fits exactly where a request with that id waits
pub fits_where_it_waits : {Q : Type 0} (c : ById Q) → FitsWaiting c
fits_where_it_waits c id w digit = (
  λ fit. (place_in c id, ltb-true _ _ fit, id_back c.next (length c.waiting) id w.digit w.few digit),
  λ (k, below, same). lt-ltb _ _ (subst (λ j. j < length c.waiting) (sym (place_of_id c k w below) ∙ ap (place_in c) same) below),
)

-- a line that is a reply is heard with the reply's id, or with none if the reply has none; and a line that is heard with an id is
-- a reply with it
pub heard_by_grammar : (line : List ℕ) → HearsByGrammar line
heard_by_grammar line =
    record {
      its = λ reply is. ap id_in (reply_again line reply is);
      only = λ id e. read (reply_at line) refl id e;
    }
  where
    -- where what the line reads as has an id, the line is a reply with that id
    read : (r : Result ReplyFields LineFault) → reply_at line ≡ r → (id : ℕ) → id_in r ≡ Some id
        → (reply : ReplyFields) × IsReply line reply × (reply.id ≡ Some id)
    read (Ok reply) reads id e = (reply, reply_found line reply reads, e)
    read (Err fault) reads id e = cc

-- an id that is heard is below 8
pub heard_digit : (line : List ℕ) (id : ℕ) → heard line ≡ Some id → id < 8
heard_digit line id e =
    let reply = (heard_by_grammar line).only id e in
    subst (λ (o : Option ℕ). IsIdInRange o) reply.2 reply.1.is_id
