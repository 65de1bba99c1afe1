-- A step of the loop that counts days.
use Rattle.gc_scenes.proofs.Common.{◌≡◌, ℕ, suc, ◌+◌, ap, ◌∙◌, arith, DateTime, days_on, next_day}

-- if `day` is n days after d, and `after` is the day after `day`, `after` is n + 1 days after d
pub one_day_later : (n : ℕ) (d day after : DateTime) → day ≡ days_on n d → after ≡ next_day day → after ≡ days_on (n + 1) d
one_day_later n d day after is next =
    let one : suc n ≡ n + 1 = omega arith in
    next ∙ ap next_day is ∙ ap (λ (k : ℕ). days_on k d) one
