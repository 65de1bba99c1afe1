use Rattle.geocom_c.proofs.Common.{◌≡◌, length, take, drop, map, settlement_seen, FirstAre, IsRecord}
use Rattle.geocom_c.proofs.settled.put_records.Given as goal

-- the first k records are those of the first k settlements, and none after those of all settlements has changed
abbrev pub invariant-loop-k : goal.invariant-loop-k
invariant-loop-k l =
    record {
      records : FirstAre (IsRecord l.told.text.items) l.records (take l.k (map settlement_seen l.settled));
      size : length l.records ≡ length l.initial.records;
      untouched : drop (length l.settled) l.records ≡ drop (length l.settled) l.initial.records;
    }
