-- What a contract sees of an instrument, and what is known of every one: this project's own.
use Rattle.std.specs.Prelude.{Option, IfSome}
use Rattle.gc_lines.specs.Prelude.{IsPlain}
use Rattle.gc_instrument.specs.State.{State, KeptReply, IsFittingState}
use Rattle.gc_instrument.specs.declared.instrument.Instrument.TheInside.{Inside}

-- the state that an instrument's fields make up
abbrev pub state_of : Inside → State
state_of i = record {
  serial = i.serial;
  name = i.name;
  scene = i.scene.items;
  precision = i.settings.precision;
  station = i.settings.station;
  height = i.settings.height;
  face = i.settings.face;
  pointing = i.settings.pointing;
  distance = i.settings.distance;
  date = i.settings.date;
  prism = i.settings.prism;
  kept = i.kept;
}

-- the stored line, if there is one, has neither CR nor LF
abbrev pub IsPlainKept : Option KeptReply → Type 0
IsPlainKept kept = IfSome kept (λ k. IsPlain k.line)

-- what is known of the state of every instrument: its values are in range (`IsFittingState`), and its stored line has neither CR
-- nor LF
abbrev pub IsSoundState : State → Type 0
IsSoundState s = IsFittingState s × IsPlainKept s.kept

-- what is known of every instrument: its state is sound
abbrev pub IsSound : Inside → Type 0
IsSound i = IsSoundState (state_of i)
