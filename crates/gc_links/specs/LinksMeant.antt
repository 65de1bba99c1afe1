-- What a station's link did, from its acts down to the system's calls: this project's own.
use Rattle.std.specs.Prelude.{List}
use Rattle.gc_values.specs.declared.file_value.ValueFile.{ValueFile}
use Rattle.gc_links.specs.Acts.{Act}
use Rattle.gc_links.specs.Calls.{Call}
use Rattle.gc_links.specs.Placed.{PlaceSeen, AreMeantAt, place_in, calls_in}
use Rattle.gc_links.specs.Seeing.{AreSeen, SignalsSeen, signals_at}
use Rattle.gc_links.specs.declared.link.Moment.{Moment}
use Rattle.gc_links.specs.declared.watched.Watched.{Watched}

-- a link to this place, which looked for the files of these signals, where they are named, read these files with values, and whose clock was
-- first read at the moment `began`, did these acts by these calls of the system, and by these looks for the signals' files and reads of the
-- others: each act of the link to the place (`inner`) was done by its own calls, in order (`AreMeantAt`), and the acts are these, but that a
-- moment says that the end of the run is asked for where the one file was there, and when the other was changed last, and has the values that
-- the others had by then (`AreSeen`)
pub record MeansActs (where_to : PlaceSeen) (signals : SignalsSeen) (files : List ValueFile) (began : Moment) (acts : List Act) (calls looks : List Call) : Type 0 where
  pub inner : List Act
  pub meant : AreMeantAt where_to inner calls
  pub seen : AreSeen signals files began inner looks acts

-- the place that a station's link leads to
abbrev pub place_of_link : {R : Type 0} → Watched R → PlaceSeen
place_of_link w = place_in w.link

-- a link to this place that looks for the files of these signals, and reads files with values of its own, did its acts by its calls of the
-- system (`MeansActs`)
abbrev pub IsMeantAt : {R : Type 0} → PlaceSeen → SignalsSeen → Watched R → Type 0
IsMeantAt where_to signals w = MeansActs where_to signals w.files.items w.began w.history.acts (calls_in w.link) w.system.calls.made

-- a link did its acts by its calls of the system, at its own place
abbrev pub IsMeant : {R : Type 0} → Watched R → Type 0
IsMeant w = IsMeantAt (place_of_link w) (signals_at w.signals) w
