-- The act for which each note of a history stands: this project's own.
use Rattle.gc_links.specs.Acts as act
use Rattle.gc_links.specs.Acts.{Act}
use Rattle.gc_links.specs.declared.history.Note.{Note}
use Rattle.gc_links.specs.declared.history.Note.TheVariants.{Told, Untold, Put, Cut, Gave, Silent, Ended, Broke, Closed, Opened, Unopened}

-- the act that a note stands for
abbrev pub act_of : Note → Act
act_of (Told m) = act.Told m
act_of Untold = act.Untold
act_of (Put bytes) = act.Put bytes.now
act_of (Cut bytes count) = act.Cut bytes.now count
act_of (Gave bytes m) = act.Gave bytes.now m
act_of (Silent m) = act.Silent m
act_of Ended = act.Ended
act_of Broke = act.Broke
act_of Closed = act.Closed
act_of Opened = act.Opened
act_of Unopened = act.Unopened
