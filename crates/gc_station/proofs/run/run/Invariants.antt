use Rattle.gc_station.proofs.Common.{◌≡◌, ◌≤◌, ◌-◌, length, AreReadings, Reads, places_of}
use Rattle.gc_station.proofs.Going.{Went, HasModel}
use Rattle.gc_station.proofs.Noting.{Noted}
use Rattle.gc_station.proofs.Turns.{left_to_do}
use Rattle.gc_station.proofs.run.run.Given as goal

-- the station is as a model after the acts that the link recorded (`Went`), and at each of these acts a snapshot was taken
-- (`Noted`); no more commands are unsent than the cycle has; and the book writes records as at first, and has failed exactly if
-- it had at first
abbrev pub invariant-loop-unsynced : goal.invariant-loop-unsynced
invariant-loop-unsynced g l = record {
  within : l.station.progress.unsent ≤ length l.commands;
  below : l.station.progress.unsent ≤ length l.commands - l.plan.setup;
  some : HasModel l.station;
  went : (reads : Reads) → AreReadings reads
      → Went l.plan l.commands (record { turns = l.max_turns; watched = places_of l.fn.watches; reads = reads }) (g.B.Book.text l.initial.book) (g.L.Link.acts l.initial.link)
      (g.L.Link.acts l.link) (g.B.Book.taken l.initial.book) (g.B.Book.taken l.book) l.station;
  noted : (reads : Reads) → AreReadings reads
      → Noted l.plan l.commands (record { turns = l.max_turns; watched = places_of l.fn.watches; reads = reads }) (g.B.Book.text l.initial.book) (g.L.Link.acts l.initial.link) (g.B.Book.taken l.initial.book)
      (g.L.Link.acts l.link) (g.B.Book.taken l.book) l.station l.initial.kept.turns l.kept.turns;
  form : g.B.Book.text l.book ≡ g.B.Book.text l.initial.book;
  failed : g.B.Book.failed l.book ≡ g.B.Book.failed l.initial.book;
}

-- how much is left to be done: two for each turn, and one for a connection
abbrev pub decreases-loop-unsynced : goal.decreases-loop-unsynced
decreases-loop-unsynced g l = left_to_do l.station.progress
