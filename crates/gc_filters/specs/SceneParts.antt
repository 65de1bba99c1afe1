-- What the lines of a scene say together, in the parts of which an instrument is made: this project's own.
use Rattle.gc_filters.specs.Common.{simulator_opening, no_ways, Prism}
use Rattle.std.specs.Prelude.{◌≡◌, true, false, List, None}
use Rattle.gc_scenes.specs.declared.rules.SceneRules.{SceneRules}
use Rattle.gc_filters.specs.Scenes.{answers_of, delays_of, drops_from, faults_of, late_of, name_of, noise_of, prisms_of, repeats_of, serial_of, starts_of, targets_of, ways_of}
use Rattle.gc_filters.specs.declared.scene_line.SceneLine.{SceneLine}
use Rattle.gc_filters.specs.declared.scene_parts.Base.{Base}
use Rattle.gc_filters.specs.declared.scene_parts.Parts.{Parts}
use Rattle.gc_filters.specs.declared.scene_parts.Times.{Times}

-- a base has what these lines say: a serial number or a name that they don't say is the simulator's, and the targets are theirs
-- alone
pub record IsBaseOf (lines : List SceneLine) (base : Base) : Type 0 where
  pub serial : base.serial ≡ serial_of simulator_opening.serial lines
  pub name : base.name ≡ name_of simulator_opening.name lines
  pub targets : base.targets.items ≡ targets_of lines

-- these rules are what the lines say, with these targets
pub record AreRulesOf (lines : List SceneLine) (targets : List Prism) (rules : SceneRules) : Type 0 where
  pub prisms : rules.prisms.items ≡ targets
  pub faults : rules.faults.items ≡ faults_of lines
  pub answers : rules.answers.items ≡ answers_of lines
  pub noise : rules.noise ≡ noise_of None lines
  pub repeats : rules.repeats ≡ repeats_of true lines
  pub ways : rules.ways ≡ ways_of no_ways lines

-- these starts and delays are those of the lines, and lines that come while the instrument is busy are dropped if they say so
pub record AreTimesOf (lines : List SceneLine) (times : Times) : Type 0 where
  pub starts : times.starts.items ≡ starts_of lines
  pub delays : times.delays.items ≡ delays_of lines
  pub drops : times.drops ≡ drops_from false lines
  pub late : times.late.items ≡ late_of lines

-- these parts are what the lines say together
pub record ArePartsOf (lines : List SceneLine) (parts : Parts) : Type 0 where
  pub base : IsBaseOf lines parts.base
  pub rules : AreRulesOf lines (prisms_of lines 1 (targets_of lines)) parts.rules
  pub times : AreTimesOf lines parts.times
