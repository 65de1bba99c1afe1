-- Words for which no job was done: what is said of their answer, together. `r` is its result.
use Rattle.gc_console.proofs.Common.{◌≡◌, ℕ, Bool, true, List, Option, Some, Result, Ok, Err, IfOk, subst, list_any, takes, program, HasNoJob, IsAnswered, LacksMemory, asks_for_text, Opening, Traces}
use Rattle.gc_console.specs.Stations.{HasNoRun}

-- no job was done. `asks` says whether a word asks for the help or the version, and `told` is what the messages have then
pub no_job : {T E : Type 0} (r : Result T E) (status_of : T → ℕ) (begun : Opening) (words : List (List ℕ)) (traces : Traces) (asks : Bool) (told : Option (List ℕ))
    → asks ≡ list_any asks_for_text words → told ≡ Some traces.said.bytes → IfOk r (λ x. IsAnswered asks (status_of x) begun.told told)
    → (takes program words ≡ true → IfOk r (λ x. LacksMemory (status_of x) begun.told told)) → HasNoRun traces.acted → IfOk r (λ x. HasNoJob begun words traces (status_of x))
no_job (Ok x) status_of begun words traces asks told same noted answers taken none = record {
  answers = subst (λ (a : Bool). IsAnswered a (status_of x) begun.told (Some traces.said.bytes)) same
      (subst (λ (t : Option (List ℕ)). IsAnswered asks (status_of x) begun.told t) noted answers);
  taken = λ is. subst (λ (t : Option (List ℕ)). LacksMemory (status_of x) begun.told t) noted (taken is);
  none = none;
}
no_job (Err e) status_of begun words traces asks told same noted answers taken none = tt
