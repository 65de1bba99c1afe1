use Rattle.gc_station.proofs.Common.{◌≡◌, ℕ, ◌++◌, List, Option, take, drop, map, Appends, settlement_seen, records_of, Record, texts_of, AreReadings, Reads, recorded_after}
use Rattle.gc_station.proofs.writing.write_settlements.Given as goal

-- the records of the settlements before this one are in the book, which writes records as at first, and has failed exactly if it
-- had at first; what is kept of the records is as these settlements make it; and the marks of these settlements are taken out
abbrev pub invariant-loop-settlement : goal.invariant-loop-settlement
invariant-loop-settlement g l = record {
  wrote : (reads : Reads) → AreReadings reads → (start : Option (List ℕ)) (before : List Record)
      → Appends start (g.B.Book.taken l.initial.book) (texts_of (g.B.Book.text l.initial.book) before)
      → Appends start (g.B.Book.taken l.book) (texts_of (g.B.Book.text l.initial.book)
      (before ++ records_of reads l.now.utc l.initial.marks.items (map settlement_seen (take l.settlement-index l.settlements))));
  recorded : (reads : Reads) → AreReadings reads
      → l.recorded ≡ recorded_after l.now l.initial.marks.items (map settlement_seen (take l.settlement-index l.settlements)) reads l.initial.recorded;
  marks : l.marks.items ≡ drop l.settlement-index l.initial.marks.items;
  form : g.B.Book.text l.book ≡ g.B.Book.text l.initial.book;
  failed : g.B.Book.failed l.book ≡ g.B.Book.failed l.initial.book;
}
