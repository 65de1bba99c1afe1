-- The records of the eventful run lie in the types of the program: so its lines of JSON are their own, too.
use Rattle.gc_program_theorems.proofs.Common.{◌≡◌, ◌<◌, ◌^◌, ℕ, Bool, true, List, [], ◌∷◌, Option, Some, None, Ok, refl, arith, lit<, ltb-true, and_parts, ints, AllByRecursion, list_all, codes, nat_lt, ◌&&◌, reply_found, header_at, reply_at, IsEndOfBytes, IsReplyOfBytes, Json, Record, chained_record, off_target_reply, empty_reply, measured_reply, number_record, numbered_reply, pointed_reply, points_record, records, AreTyped, IsTyped, survey}
use Rattle.std.proofs.lemmas.List.Sums.{AllPass-from_list_all}
use Rattle.std.specs.Fmt.{digits}
use Rattle.std.specs.Option.{IfSome}
use Rattle.gc_program_theorems.proofs.TrueReadings.{replied}

-- a line of bytes that reads as a reply with both codes 0 is a reply of bytes
reply_of_bytes : (line params : List ℕ) (id : ℕ) → reply_at line ≡ Ok (replied id params) → list_all (λ b. nat_lt b 256) line ≡ true → IsReplyOfBytes line
reply_of_bytes line params id reads small =
    (replied id params, reply_found line (replied id params) reads, λ k d within. ltb-true _ 256 (AllPass-from_list_all (λ b. nat_lt b 256) line small k d within))

-- the reply to command 0 is of bytes
pointed_of_bytes : IsReplyOfBytes pointed_reply
unfolding header_at reply_at digits
pointed_of_bytes = reply_of_bytes pointed_reply [] 1 refl refl

-- the reply to command 1 is of bytes
measured_of_bytes : IsReplyOfBytes measured_reply
unfolding header_at reply_at digits
measured_of_bytes = reply_of_bytes measured_reply (codes "2.25,1.625,110.0625") 2 refl refl

-- the reply to command 2 is of bytes
off_target_of_bytes : IsReplyOfBytes off_target_reply
unfolding header_at reply_at digits
off_target_of_bytes = reply_of_bytes off_target_reply (codes "0.5,1.5,87.25") 3 refl refl

-- the reply to command 3 is of bytes
numbered_of_bytes : IsReplyOfBytes numbered_reply
unfolding header_at reply_at digits
numbered_of_bytes = reply_of_bytes numbered_reply (codes "31") 4 refl refl

-- the reply to command 4 is of bytes
empty_of_bytes : IsReplyOfBytes empty_reply
unfolding header_at reply_at digits
empty_of_bytes = reply_of_bytes empty_reply [] 5 refl refl

-- the ending of command 0 is of bytes (`IsEndOfBytes`)
points_end : IsEndOfBytes points_record.end
points_end = (pointed_of_bytes, tt)

-- the ending of command 1 is of bytes
chained_end : IsEndOfBytes chained_record.end
chained_end = (measured_of_bytes, (tt, (tt, (tt, tt))))

-- the ending of command 3 is of bytes
number_end : IsEndOfBytes number_record.end
number_end = (numbered_of_bytes, ((omega (arith, ints), omega (arith, ints)), tt))

-- the endings of all records of this run are of bytes
all_of_bytes : AllByRecursion (λ (r : Record). IsEndOfBytes r.end) records
all_of_bytes = let none : Unit {0} × Unit {0} = (tt, tt) in (none, (none, (none, (none, (none, (none, (none, (none, (none, (none, (none, (none, (none, (none, (points_end, (chained_end, ((off_target_of_bytes, tt), (number_end, ((empty_of_bytes, tt), (none, (none, tt)))))))))))))))))))))

-- whether a number is below 2^64
abbrev is_small : ℕ → Bool
is_small n = nat_lt n (2 ^ 64)

-- whether the moment at which a command was sent is below 2^64, if it was sent
abbrev sent_is_small : Option ℕ → Bool
sent_is_small None = true
sent_is_small (Some utc) = is_small utc

-- whether all numbers that are written of these records are below 2^64
abbrev are_small : List Record → Bool
are_small [] = true
are_small (r ∷ rs) = (sent_is_small r.sent && (is_small r.utc && (is_small r.cycle && (is_small r.turn.place && (is_small r.turn.attempt && is_small r.command.target))))) && are_small rs

-- a moment is below 2^64 where `sent_is_small` says so
sent_below : (sent : Option ℕ) → sent_is_small sent ≡ true → IfSome sent (λ utc. utc < 2 ^ 64)
sent_below None e = tt
sent_below (Some utc) e = ltb-true utc (2 ^ 64) e

-- records of a run that began at moment 0 are `IsTyped` where their numbers are small and their ends are of bytes
all_typed : (rs : List Record) → are_small rs ≡ true → AllByRecursion (λ (r : Record). IsEndOfBytes r.end) rs → AllByRecursion (IsTyped 0) rs
all_typed [] e h = tt
all_typed (r ∷ rs) e h =
    let target = is_small r.command.target in
    let attempt = is_small r.turn.attempt && target in
    let place = is_small r.turn.place && attempt in
    let cycle = is_small r.cycle && place in
    let utc = is_small r.utc && cycle in
    let all = and_parts (sent_is_small r.sent && utc) (are_small rs) e in
    let of_sent = and_parts (sent_is_small r.sent) utc all.0 in
    let of_utc = and_parts (is_small r.utc) cycle of_sent.1 in
    let of_cycle = and_parts (is_small r.cycle) place of_utc.1 in
    let of_place = and_parts (is_small r.turn.place) attempt of_cycle.1 in
    let of_attempt = and_parts (is_small r.turn.attempt) target of_place.1 in (
      (
        record {
          sent = sent_below r.sent of_sent.0;
          utc = ltb-true r.utc (2 ^ 64) of_utc.0;
          cycle = ltb-true r.cycle (2 ^ 64) of_cycle.0;
          place = ltb-true r.turn.place (2 ^ 64) of_place.0;
          attempt = ltb-true r.turn.attempt (2 ^ 64) of_attempt.0;
        },
        ltb-true r.command.target (2 ^ 64) of_attempt.1,
        h.0,
      ),
      all_typed rs all.1 h.1,
    )

-- the records of the eventful run are of bytes and of numbers of 64 bits
pub records_are_typed : AreTyped (survey Json) records
records_are_typed = record { run = lit< tt; names = tt; each = all_typed records refl all_of_bytes }
