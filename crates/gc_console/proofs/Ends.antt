-- What holds of the status of a run that ended, by what holds of it in each case, and of what a run that appended to a file left.
use Rattle.gc_console.proofs.Common.{◌≡◌, IfOk, Result, Ok, Err, Option, Some, None, IfSome, file_of}
use Rattle.gc_measuring.specs.declared.recording.Appended.{Appended}
use Rattle.gc_logs.specs.declared.following.Followed.{Followed}

-- what holds of a value where a condition is met, and what holds of it where another is, give what holds of it in any case
pub in_any_case : {T E : Type 0} (r : Result T E) (A B : Type 0) (P Q R : T → Type 0) → ((x : T) → (A → P x) → (B → Q x) → R x) → (A → IfOk r P) → (B → IfOk r Q) → IfOk r R
in_any_case (Ok x) A B P Q R f p q = f x p q
in_any_case (Err e) A B P Q R f p q = tt

-- what holds of a status that was handed on
pub of_ended : {T E : Type 0} (r ended : Result T E) (P : T → Type 0) → IfOk r (λ x. ended ≡ Ok x) → IfOk ended P → IfOk r P
of_ended (Ok x) ended P is h = rw (is) at h
of_ended (Err e) ended P is h = tt

-- what holds of the file in what a run left holds of the file that it left
pub of_file : {R : Type 0} (Holds : Followed R → Type 0) (left : Option (Appended R)) → IfSome left (λ l. Holds l.file) → IfSome (file_of left) Holds
of_file Holds (Some left) is = is
of_file Holds None is = tt
