-- The names that this crate's proofs cite, passed on from one place. Declares nothing.
pub use Rattle.clap.specs.Matches.{ReadsOne, first_value, found_of, one_text}
pub use Rattle.clap.specs.Walk.{Rule, Text, one_of, rows_of, rule_of}
pub use Rattle.std.proofs.Common.{Bool, Err, List, None, Ok, Option, Result, Some, [], ap, append-nil, append_assoc, arith, codes, false, get_or, length, map, option_map, refl, subst, sym, take, true, unwrap_or, ℕ, ◌++◌, ◌+◌, ◌<◌, ◌^◌, ◌∙◌, ◌∷◌, ◌≡◌, ◌≢◌}
pub use Rattle.std.specs.Borrow.{Bor}
pub use Rattle.std.specs.Prelude.{IfSome, IsSome}
pub use Rattle.std.specs.Str.Parse.{ExplainsUnsignedError, HasUnsignedDigitsIfOk, ParsesBool, ParsesUnsigned}
pub use Rattle.gc_options.specs.Tables.{HasArguments, HasRule, HaveRules, alone, rule_of_row}
pub use Rattle.gc_options.specs.Words.{GivesNumber, HasNumber, ReadsNumber, Words, has_flag, text_in, words_of}
