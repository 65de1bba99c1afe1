-- What a contract sees of a scene's instrument: this project's own.
use Rattle.gc_scenes.specs.Common.{with_kept}
use Rattle.std.specs.Prelude.{[]}
use Rattle.gc_instrument.specs.Seen.{IsPlainKept}
use Rattle.gc_scenes.specs.SceneState.{SceneState, seeing}
use Rattle.gc_scenes.specs.declared.instrument.SceneInstrument.TheInside.{Inside}

-- the state that the fields of a scene's instrument make up; the targets of `base`, which are those that the last call saw, are
-- left out
abbrev pub scene_of : Inside → SceneState
scene_of i = record {
  base = with_kept i.kept (seeing [] i.base);
  prisms = i.prisms.items;
  faults = i.faults.items;
  answers = i.answers.items;
  noise = i.noise;
  looks = i.looks;
  repeats = i.repeats;
  ways = i.ways;
  clock = i.clock;
  moment = i.moment;
}

-- what holds of the fields: the stored line, if there is one, has neither CR nor LF
abbrev pub IsSound : Inside → Type 0
IsSound i = IsPlainKept i.kept
