-- What a feed does to an instrument, and what it answers: this project's own.
use Rattle.std.specs.Prelude.{◌≡◌, ℕ, ◌+◌, List, [], ◌++◌, length, take, Option, Some, None}
use Rattle.std.specs.List.{position}
use Rattle.gc_lines.specs.Prelude.{StandsFor, is_line_feed, frame_of}
use Rattle.gc_lines.specs.declared.frame.Frame.{Frame}
use Rattle.gc_scenes.specs.Prelude.{SlowState, HearsFrame}
use Rattle.geocom_instrument_c.specs.Bench.{BenchState, CallsBench}
use Rattle.geocom_instrument_c.specs.declared.header.TheConstants.{NO_INSTRUMENT}
use Rattle.geocom_instrument_c.specs.declared.replied.GeocomReplied.{GeocomReplied}

-- there is no reply, the fault is this one (0 stands for none), and this many bytes were used
pub record IsWithoutReply (fault used : ℕ) (r : GeocomReplied) : Type 0 where
  pub has_fault : r.fault ≡ fault
  pub used_bytes : r.used ≡ used
  pub none : r.count ≡ 0
  pub not_due : r.due ≡ 0

-- the text is the reply, which goes out at the moment `due`, and this many bytes were used
pub record IsSent (text : List ℕ) (used due : ℕ) (r : GeocomReplied) : Type 0 where
  pub no_fault : r.fault ≡ 0
  pub used_bytes : r.used ≡ used
  pub counted : r.count ≡ length text
  pub reply : take r.count r.reply ≡ text
  pub is_due : r.due ≡ due

-- the result of a feed that used this many bytes: the text, if there is one, is the reply, which goes out at the moment `due`
abbrev pub CarriesReply : Option (List ℕ) → (used due : ℕ) → GeocomReplied → Type 0
CarriesReply None used due r = IsWithoutReply 0 used r
CarriesReply (Some text) used due r = IsSent text used due r

-- the instrument hears a frame at the moment `now`, which changes its state from `before` to `after`; and the result has its
-- reply, if there is one
pub record HearsAndAnswers (before : SlowState) (frame : Frame) (now : ℕ) (after : SlowState) (used : ℕ) (r : GeocomReplied) : Type 0 where
  pub text : Option (List ℕ)
  pub hears : HearsFrame before frame now after text
  pub says : CarriesReply text used after.free_from r

-- bytes without a line feed: they are kept, and nothing else is done
pub record IsKept (before : BenchState) (bytes : List ℕ) (after : BenchState) (r : GeocomReplied) : Type 0 where
  pub says : IsWithoutReply 0 (length bytes) r
  pub same : after.slow ≡ before.slow
  pub more : (rest : List ℕ) → StandsFor before.incomplete rest → StandsFor after.incomplete (rest ++ bytes)

-- bytes whose first line feed is at this place: the instrument hears the frame that the line feed ends, at the moment `now`, and
-- the result has its reply, if there is one. All bytes through the line feed were used, and no byte of a line is left
pub record HearsFirstFrame (before : BenchState) (bytes : List ℕ) (at now : ℕ) (after : BenchState) (r : GeocomReplied) : Type 0 where
  pub answers : (rest : List ℕ) → StandsFor before.incomplete rest → HearsAndAnswers before.slow (frame_of (rest ++ take at bytes)) now after.slow (at + 1) r
  pub start : StandsFor after.incomplete []

-- bytes were fed to an instrument at the moment `now`: through the first line feed, or all if there is none
pub record IsFedTo (before : BenchState) (bytes : List ℕ) (now : ℕ) (after : BenchState) (r : GeocomReplied) : Type 0 where
  pub none : position is_line_feed bytes ≡ None → IsKept before bytes after r
  pub some : (at : ℕ) → position is_line_feed bytes ≡ Some at → HearsFirstFrame before bytes at now after r

-- bytes were fed at the moment `now` where there may be no instrument: without one no byte was used, and the fault says so; with
-- one they were fed to it (`IsFedTo`)
abbrev pub IsFed : (before : Option BenchState) → (bytes : List ℕ) → (now : ℕ) → (after : Option BenchState) → GeocomReplied → Type 0
IsFed before bytes now after r = CallsBench before after (IsWithoutReply NO_INSTRUMENT 0 r) (λ from to. IsFedTo from bytes now to r)
