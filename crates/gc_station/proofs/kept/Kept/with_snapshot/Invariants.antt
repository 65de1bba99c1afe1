use Rattle.gc_station.proofs.kept.Kept.with_snapshot.Given as goal

-- the snapshot that is added: what the link has recorded, what the book has taken, and whether the book is durable
abbrev pub ghost-with_turn : goal.ghost-with_turn
ghost-with_turn g a = record { acts = g.L.Link.acts a._link.now; taken = g.B.Book.taken a._book.now; lasts = g.B.Book.is_durable a._book.now }
