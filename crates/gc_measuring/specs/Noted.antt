-- What is left of the link of a run, once it is closed: this project's own.
use Rattle.gc_measuring.specs.Common.{MeansActs, PlaceSeen, SignalsSeen, LinkRecord}

-- the acts of a link to this place, which looked for the files of these signals, where they are named, are what the system's calls did
-- (`MeansActs`), as both were noted of it
abbrev pub IsMeantRecord : PlaceSeen → SignalsSeen → LinkRecord → Type 0
IsMeantRecord where_to signals link = MeansActs where_to signals link.files.items link.began link.history.acts link.calls.made link.looks.made
