use Rattle.gc_filters.proofs.Common.{List, ℕ, ℤ, subst, sym, behind, FitsLong, NamesWhole}
use Rattle.gc_filters.proofs.scene_reading.read_serial.Goals as goal

pub returns-in-None : goal.returns-in-None
returns-in-None c =
    let none : (n : ℤ) → NamesWhole (behind 32 c.args.line.now) n → FitsLong n → ⊥ =
    λ n names fits. c.in-None.ensures n (subst (λ (t : List ℕ). NamesWhole t n) (sym c.behind.ensures.is) names, fits) in
    (λ n h. none n h.1 h.2, (c.requires, none))
