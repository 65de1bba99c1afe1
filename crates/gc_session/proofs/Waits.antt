-- At which moments waits end.
use Rattle.gc_session.proofs.Common.{◌≡◌, ◌↔◌, ℕ, ◌+◌, ◌-◌, ◌<◌, ◌≤◌, ◌&&◌, true, max, min, nat_eq, nat_le, arith, nat_tests, hold_left, WaitsEndAtTheirMoments}

-- a wait is over from its moment on
past_from : (wait now since : ℕ) → 0 < wait → since + wait ≤ 18446744073709551615 → (nat_le wait (now - since) ≡ true) ↔ (min (since + wait) 18446744073709551615 ≤ now)
past_from wait now since some fits = (λ e. grind (arith, nat_tests, some, fits, e), λ h. grind (arith, nat_tests, some, fits, h))

-- a null procedure may be sent from its moment on
asks_from : (again hold now : ℕ) → ((nat_eq (hold_left hold now) 0 && nat_le again now) ≡ true) ↔ (max again hold ≤ now)
asks_from again hold now = (λ e. grind (arith, nat_tests, e), λ h. grind (arith, nat_tests, h))

-- the law
pub waits_end : WaitsEndAtTheirMoments
waits_end = record {
  past = λ wait now x some fits. past_from wait now x.since some fits;
  asks = λ now x. asks_from x.again x.hold now;
}
