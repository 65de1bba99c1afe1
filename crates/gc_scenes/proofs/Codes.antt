-- The return code of a call has 16 bits, whatever faults the scene has.
use Rattle.gc_scenes.proofs.Common.{◌≡◌, ℕ, ◌<◌, List, Option, Some, None, refl, subst, find, option_map, Call, fault_of, is_due, plays, unless_faulted, SceneState, Fault}
use Rattle.std.proofs.lemmas.Option.{same_Some}
use Rattle.gc_scenes.proofs.Acted.{outcome_sound}

-- the code of a fault, if there is one, is below 65536
code_bound : (o : Option Fault) (code : ℕ) → option_map (λ f. f.rc) o ≡ Some code → code < 65536
code_bound None code e = let wrong : ⊥ = cc in absurd wrong
code_bound (Some f) code e = subst (λ (c : ℕ). c < 65536) (same_Some f.rc code e) f.fits

-- the code of the fault that is due at a procedure is below 65536
pub fault_bound : (rpc : ℕ) (fs : List Fault) (code : ℕ) → fault_of rpc fs ≡ Some code → code < 65536
fault_bound rpc fs code e = code_bound (find (is_due rpc) fs) code e

-- where the code of a fault is below 65536, so is the return code of a call, with that fault or without one
pub call_bound : (s : SceneState) (call : Call) (o : Option ℕ) → ((code : ℕ) → o ≡ Some code → code < 65536) → (unless_faulted s call o).rc < 65536
unfolding plays
call_bound s call (Some code) is = is code refl
call_bound s call None is = outcome_sound s call
