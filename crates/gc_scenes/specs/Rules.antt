-- What each rule of a scene does to targets, to requests and to answers: this project's own. A look is a measurement or a search.
-- `rpc` is a procedure's number.
use Rattle.gc_scenes.specs.Common.{units, Decimal, Answer, is_at, Target}
use Rattle.std.specs.Prelude.{ℕ, ◌+◌, ◌-◌, ◌==◌, ◌&&◌, not, Bool, true, false, List, [], ◌∷◌, Option, Some, None, nat_le, nat_lt, if◌then◌else◌, min, find, map, option_map}
use Rattle.gc_scenes.specs.Shifting.{shifted, next, deviation}
use Rattle.gc_scenes.specs.Ways.{target_in_face}
use Rattle.gc_scenes.specs.declared.rules.Prism.{Prism}
use Rattle.gc_scenes.specs.declared.rules.Offset.{Offset}
use Rattle.gc_scenes.specs.declared.rules.Fault.{Fault}
use Rattle.gc_scenes.specs.declared.rules.Scripted.{Scripted}
use Rattle.gc_scenes.specs.declared.rules.Sight.{Sight}
use Rattle.gc_scenes.specs.declared.rules.Noise.{Noise}
use Rattle.gc_catalogue.specs.declared.answer.Answer.TheVariants as answer

-- one more, but at most the greatest number of 32 bits
abbrev pub one_more : ℕ → ℕ
one_more n = min (n + 1) 4294967295

-- Targets.

-- whether the target isn't hidden in the look with this number, counted from 1
abbrev pub is_clear : (look : ℕ) → Prism → Bool
is_clear look p = not (nat_le p.from look && nat_le look p.to)

-- the targets that aren't hidden in the look of this sight, each with the angles at which the telescope points at it: those of
-- face II if it is in that face
abbrev pub seen : Sight → List Prism → List Target
seen s [] = []
seen s (p ∷ ps) = if is_clear s.look p then target_in_face s.turned p.at ∷ seen s ps else seen s ps

-- the target moved by this offset; what would leave a decimal's range stays
abbrev pub applied_to : Offset → Target → Target
applied_to o t = record { hz = shifted t.hz (units o.hz); v = shifted t.v (units o.v); distance = shifted t.distance (units o.distance) }

-- the target after a measurement of it: moved by its drift, if it has one
abbrev pub moved_by : Option Offset → Prism → Prism
moved_by None p = p
moved_by (Some o) p = record p { at = applied_to o p.at }

-- the target after a measurement with this sight: moved by its drift, if it isn't hidden and the telescope points exactly at it
abbrev pub moved : Sight → Prism → Prism
moved s p = if is_clear s.look p && is_at s.there (target_in_face s.turned p.at) then moved_by p.drift p else p

-- the targets after a measurement with this sight: all that aren't hidden and lie exactly where the telescope points have moved
-- by their drift
abbrev pub drifted : Sight → List Prism → List Prism
drifted s ps = map (moved s) ps

-- Requests.

-- whether the fault is due at the next request of this procedure: the fault is one of the procedure, and the procedure's requests
-- so far, `met` of them, are at least `after`, and fewer than `after` + `times`
abbrev pub is_due : (rpc : ℕ) → Fault → Bool
is_due rpc f = (f.rpc == rpc) && (nat_le f.after f.met && nat_lt (f.met - f.after) f.times)

-- the return code with which the first fault that is due answers the next request of this procedure; none if none is due
abbrev pub fault_of : (rpc : ℕ) → List Fault → Option ℕ
fault_of rpc faults = option_map (λ f. f.rc) (find (is_due rpc) faults)

-- the fault after one more request of this procedure, which it counts if the procedure is its own
abbrev pub met_once : (rpc : ℕ) → Fault → Fault
met_once rpc f = if f.rpc == rpc then record f { met = one_more f.met } else f

-- the faults after one more request of this procedure
abbrev pub counted : (rpc : ℕ) → List Fault → List Fault
counted rpc faults = map (met_once rpc) faults

-- the first reply that the scene has for this procedure, if it has one
abbrev pub scripted_reply : (rpc : ℕ) → List Scripted → Option Scripted
scripted_reply rpc replies = find (λ a. a.rpc == rpc) replies

-- Answers.

-- a horizontal direction with the first deviation of an answer, by the generator's next number
abbrev pub deviated_hz : Noise → Decimal → Decimal
deviated_hz n hz = shifted hz (deviation n.hz (next n.seed))

-- a vertical angle with the second deviation of an answer, by the generator's second next number
abbrev pub deviated_v : Noise → Decimal → Decimal
deviated_v n v = shifted v (deviation n.v (next (next n.seed)))

-- a distance with the third deviation of an answer, by the generator's third next number
abbrev pub deviated_distance : Noise → Decimal → Decimal
deviated_distance n d = shifted d (deviation n.distance (next (next (next n.seed))))

-- the answer with three deviations if it has angles and a distance, even if that was measured earlier (TMC_GetSimpleMea); else as
-- it is
abbrev pub disturbed : Noise → Answer → Answer
disturbed n (answer.Measured hz v d) = answer.Measured (deviated_hz n hz) (deviated_v n v) (deviated_distance n d)
disturbed n (answer.MeasuredMode hz v d mode) = answer.MeasuredMode (deviated_hz n hz) (deviated_v n v) (deviated_distance n d) mode
disturbed n other = other

-- whether an answer has angles and a distance
abbrev pub is_measured : Answer → Bool
is_measured (answer.Measured hz v d) = true
is_measured (answer.MeasuredMode hz v d mode) = true
is_measured other = false

-- the noise after an answer: one with angles and a distance takes the generator's next three numbers, and any other none
abbrev pub advanced : Noise → Answer → Noise
advanced n a = if is_measured a then record n { seed = next (next (next n.seed)) } else n

-- an answer with the scene's noise, if it has one
abbrev pub noisy : Option Noise → Answer → Answer
noisy None a = a
noisy (Some n) a = disturbed n a

-- the scene's noise, if it has one, after an answer
abbrev pub noise_after : Option Noise → Answer → Option Noise
noise_after noise a = option_map (λ n. advanced n a) noise
