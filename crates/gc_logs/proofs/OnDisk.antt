-- What was written into the files of a log on the disk, as lines go on in another file.
use Rattle.gc_logs.proofs.Common.{◌≡◌, ℕ, List, ◌++◌, ap, ◌∙◌, append_assoc, Step, appended, appended_two, LogFiles}

-- the files with these parts
abbrev pub made_of : (earlier older newest : List ℕ) (older_size size : ℕ) → LogFiles
made_of earlier older newest older_size size =
    record { earlier = earlier; older = older; newest = newest; older_size = older_size; size = size }

-- files of which each part is the same are the same
pub same_files : {e o n f g h : List ℕ} {p s q t : ℕ} → e ≡ f → o ≡ g → n ≡ h → p ≡ q → s ≡ t → made_of e o n p s ≡ made_of f g h q t
same_files {e} {o} {n} {f} {g} {h} {p} {s} {q} {t} a b c d x =
    ap (λ y. made_of y o n p s) a ∙ ap (λ y. made_of f y n p s) b ∙ ap (λ y. made_of f g y p s) c ∙ ap (λ y. made_of f g h y s) d ∙ ap (λ y. made_of f g h q y) x

-- what three pasts appended, one after the other
pub appended_three : (steps earlier older newest : List Step) → steps ≡ (earlier ++ older) ++ newest
    → appended steps ≡ appended earlier ++ (appended older ++ appended newest)
appended_three steps earlier older newest is =
    ap appended is ∙ appended_two (earlier ++ older) newest ∙ ap (λ (l : List ℕ). l ++ appended newest) (appended_two earlier older)
    ∙ append_assoc (appended earlier) (appended older) (appended newest)
