-- The names that crates above cite, passed on from one place. Declares nothing.
pub use Rattle.gc_values.specs.Boolean.{NamesBoolean, boolean_text, number_of}
pub use Rattle.gc_values.specs.Byte.{IsByte, byte_text}
pub use Rattle.gc_values.specs.Cut.{CutsDigits, CutsFraction, CutsSign, ReadsExponent, ReadsNumeral, StartsNoDigit}
pub use Rattle.gc_values.specs.Decimals.{SpellsDecimal, decimal, decimal_eq, decimal_text, fraction, units, zero}
unfoldable pub use Rattle.gc_values.specs.Decimals.{is_within, rounded}
pub use Rattle.gc_values.specs.Digits.{AreDigits, IsDigit, number}
pub use Rattle.gc_values.specs.Directions.{IsNear, half_turn, is_up_to, turn}
unfoldable pub use Rattle.gc_values.specs.Directions.{is_near, is_place, is_tolerance}
pub use Rattle.gc_values.specs.FileValues.{IsFileAt, IsValueIn, has_path, is_foreign, no_value, no_values, path_of, value_bytes, value_text}
pub use Rattle.gc_values.specs.Fraction.{Fraction, IsCanonical, IsInRange, IsRounded, IsWithin, SameValue, is_decimal, is_negative, signed}
pub use Rattle.gc_values.specs.Item.{IsItem, IsItemFault, IsValue, kind_of, text}
pub use Rattle.gc_values.specs.Lists.{AreItems, AreParams, AreValues, FirstFault, IsListFault, faulty_items, kinds_of, open_quote, wrong_count}
pub use Rattle.gc_values.specs.Nearest.{half_up}
pub use Rattle.gc_values.specs.Params.{ArePieces, AreSpaces, AreTooMany, HasCommasInQuotes, HasOpenQuote, IsPadded, IsParam, IsParams, joined, quoted_after, quotes, total_length}
pub use Rattle.gc_values.specs.Pieces.{put_before, without_end_spaces, without_front_spaces}
pub use Rattle.gc_values.specs.RoundedFacts.{half_up_rounds, stripped_is, ten_pow_pos, unsigned_abs-signed, zeros_in_range}
pub use Rattle.gc_values.specs.Spelling.{Absent, Exponent, IsExponent, IsExponentDigits, Minus, NamesFraction, Plus, Sign, Spells, downs, exponent_text, fraction_digits, is_minus, mark, parts_value, sign_text, ups}
pub use Rattle.gc_values.specs.Text.{AreStringBytes, IsStringByte, IsText, IsTextItem}
pub use Rattle.gc_values.specs.ValueFault.{value_fault_number, value_fault_text}
pub use Rattle.gc_values.specs.Whole.{FitsLong, FitsShort, IsBetween, NamesNumber, NamesWhole, signed_text}
pub use Rattle.gc_values.specs.Written.{minus_text, places_text, whole_text, written}
pub use Rattle.gc_values.specs.WrittenForm.{HasDecimalForm, HasWholeForm, IsWholePart, minus_where}
pub use Rattle.gc_values.specs.Zeros.{Placed, stripped}
