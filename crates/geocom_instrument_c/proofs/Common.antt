-- The names that this crate's proofs cite, passed on from one place. Declares nothing.
pub use Rattle.std.proofs.Common.{List, None, Some, [], ap, false, refl, rules, subst, sym, true, ℕ, ◌++◌, ◌∙◌, ◌∷◌, ◌≡◌}
pub use Rattle.std.specs.Prelude.{Option}
pub use Rattle.gc_lines.specs.Prelude.{AppendsAnswer, lent_seen, with_end}
pub use Rattle.geocom_instrument_c.specs.Bench.{BenchState, CallsBench}
pub use Rattle.geocom_instrument_c.specs.Feeding.{HearsAndAnswers, IsFed, IsFedTo, IsSent, IsWithoutReply}
pub use Rattle.geocom_instrument_c.specs.Setting.{IsBenchRestarted, IsRestarted, IsSetUp}
pub use Rattle.geocom_instrument_c.specs.contracts.bench.GeocomInstrument.{the_row}
pub use Rattle.geocom_instrument_c.specs.declared.header.TheConstants.{NO_INSTRUMENT}
pub use Rattle.geocom_instrument_c.specs.declared.replied.GeocomReplied.{GeocomReplied}
