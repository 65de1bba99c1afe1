-- Runs that are computed: those in which damage spreads, and those that meet the premises.
use Rattle.gc_theorems.proofs.Common.{refl, inr, arith, IsDamagedSynchronization, SixAreTooMany}
use Rattle.gc_theorems.specs.Spreading.{HoldingBackMayStop, OneDamagedLineSpreads, RareBoundIsSharp, TwoInARowSpread}
use Rattle.gc_theorems.specs.PremisesMet.{PremisesAreMet}

-- one damaged line spreads
pub one_spreads : OneDamagedLineSpreads
one_spreads = record {
  possible = (tt, (tt, (tt, (tt, (tt, (tt, (tt, (tt, (tt, (tt, (tt, (tt, (refl, (tt, (refl, (tt, (refl, (tt, (refl, tt)))))))))))))))))));
  one = refl;
  false_ends = refl;
}

-- the bound on rare damage is sharp
pub rare_bound_is_sharp : RareBoundIsSharp
rare_bound_is_sharp = record {
  seven = record { possible = (tt, (tt, (refl, (tt, (tt, (tt, (tt, (tt, (tt, (tt, (tt, (tt, (tt, (tt, (tt, (tt, (tt, (tt, (refl, tt))))))))))))))))))); damaged = refl; false_end = refl };
  six = record { possible = (tt, (tt, (refl, (tt, (tt, (tt, (tt, (tt, (tt, (tt, (tt, (tt, (tt, (tt, (tt, (tt, (refl, tt))))))))))))))))); damaged = refl; false_end = refl };
  five = record { possible = (tt, (tt, (refl, (tt, (tt, (tt, (tt, (tt, (tt, (tt, (tt, (tt, (tt, (tt, (refl, tt))))))))))))))); damaged = refl; false_end = refl };
  four = record { possible = (tt, (tt, (refl, (tt, (tt, (tt, (tt, (tt, (tt, (tt, (tt, (tt, (refl, tt))))))))))))); damaged = refl; false_end = refl };
  three = record { possible = (tt, (tt, (refl, (tt, (tt, (tt, (tt, (tt, (tt, (tt, (tt, (tt, (tt, (tt, (refl, tt))))))))))))))); damaged = refl; false_end = refl };
  two = record { possible = (tt, (tt, (refl, (tt, (tt, (tt, (tt, (tt, (tt, (tt, (tt, (tt, (tt, (tt, (refl, tt))))))))))))))); damaged = refl; false_end = refl };
  one = record { possible = (tt, (tt, (refl, (tt, (tt, (tt, (tt, (tt, (tt, (tt, (tt, (tt, (tt, (tt, (tt, (tt, (tt, (tt, (refl, tt))))))))))))))))))); damaged = refl; false_end = refl };
}

-- two in a row spread
pub two_spread : TwoInARowSpread
two_spread = record {
  possible = (tt, (tt, (tt, (tt, (tt, (tt, (tt, (tt, (tt, (tt, (tt, (tt, (tt, (refl, tt))))))))))))));
  held_back = refl;
  two = refl;
  false_end = refl;
}

-- holding back may stop a client
pub may_stop : HoldingBackMayStop
may_stop = record {
  possible = (tt, (tt, (tt, (tt, (tt, (tt, (tt, (tt, (tt, (tt, (tt, (refl, (tt, (tt, tt))))))))))))));
  undamaged = tt;
  held_back = refl;
  one = refl;
  none = refl;
  refused = refl;
}

-- the premises are met
pub premises_are_met : PremisesAreMet
premises_are_met = record {
  possible = (tt, (tt, (tt, (tt, (tt, (tt, (tt, (refl, (refl, (refl, (tt, (refl, (tt, (tt, (refl, (refl, tt))))))))))))))));
  slack = (tt, ((omega arith, tt), ((omega arith, (omega arith, tt)), (tt, (tt, (tt, ((omega arith, (omega arith, (omega arith, tt))), (tt, (tt, (tt, ((omega arith, tt), (tt, (tt, ((omega arith, tt), (tt, (tt, tt))))))))))))))));
  rare = (tt, ((omega arith, tt), ((omega arith, (omega arith, tt)), (tt, (tt, (tt, ((omega arith, (omega arith, (omega arith, tt))), (tt, (tt, (tt, ((omega arith, tt), (tt, (tt, ((omega arith, tt), (tt, (tt, tt))))))))))))))));
  apart = (tt, tt, (tt, tt, (tt, tt, (tt, tt, (tt, tt, (tt, inr refl, (tt, tt, (refl, tt, (refl, tt, (refl, tt, (tt, tt, (refl, tt, (tt, inr refl, (tt, tt, (refl, tt, (refl, tt, tt))))))))))))))));
  came = refl;
  ended = refl;
  fresh = (tt, (tt, (tt, (tt, (tt, (record { was_sent = omega arith; id = refl; near = omega arith }, (record { was_sent = omega arith; id = refl; near = omega arith }, (record { was_sent = omega arith; id = refl; near = omega arith }, (tt, (record { was_sent = omega arith; id = refl; near = omega arith }, (tt, (tt, (record { was_sent = omega arith; id = refl; near = omega arith }, (record { was_sent = omega arith; id = refl; near = omega arith }, tt))))))))))))));
  as_events = refl;
  held_back = refl;
  over_the_line = (tt, ((omega arith, tt), ((omega arith, (omega arith, tt)), (tt, (tt, (tt, (tt, (tt, ((omega arith, (omega arith, (omega arith, (omega arith, tt)))), (tt, (tt, (tt, (refl, (refl, (refl, (tt, (tt, (tt, (tt, (tt, (refl, tt)))))))))))))))))))));
  line_came = refl;
  line_ended = refl;
  stale = (tt, (tt, (tt, (tt, (tt, (tt, (tt, (tt, (tt, (tt, tt))))))))));
  stale_settled = refl;
  stale_sent = refl;
  undamaged = tt;
  undamaged_possible = (tt, (tt, (refl, tt)));
  stray_next = refl;
  stray = refl;
}

-- some synchronization is damaged
pub some_synchronization_is_damaged : IsDamagedSynchronization
some_synchronization_is_damaged = record {
  old = (1, refl, omega arith, omega arith, refl, (8, refl, omega arith, omega arith, refl, tt));
  all = refl;
  five = refl;
  none = refl;
}

-- six are too many
pub six_are_too_many : SixAreTooMany
six_are_too_many = record {
  old = (1, refl, omega arith, omega arith, refl, (7, refl, omega arith, omega arith, refl, (8, refl, omega arith, omega arith, refl, tt)));
  all = refl;
  six = refl;
  left = refl;
}
