-- The names that this crate's proofs cite, passed on from one place. Declares nothing.
pub use mir.Syntax.{w128}
pub use mir.Val.{SFits}
pub use Rattle.hex.specs.Hex.{decode_sized, digit_or_error, encode_lower, hex_digit_value, lower_digits, ◌>>=◌}
pub use Rattle.std.proofs.Common.{Bool, Bor, Err, FitsSigned, IfErr, IsTrue, List, MatchResult, None, Ok, Option, Result, Some, [], add-one, ap, append_assoc, arith, cond, drop, drop-cons, eqb, false, get_or, inl, inr, int_le, length, length-append, lit<, lit≤, lt_of_mul-lt-mul_right, ltb, map, min, mul-lt-mul_of_pos_right, neg_ℤ, negsuc, not, of_z, pos, refl, replicate, rules, slice_index_or, subst, suc, sym, take, to_z, true, unsigned_abs, w32, zero, zero-add, ℕ, ℤ, ◌%◌, ◌&&◌, ◌*ℤ◌, ◌*◌, ◌++◌, ◌+ℤ◌, ◌+◌, ◌-ℤ◌, ◌-◌, ◌/◌, ◌<ℤ◌, ◌<◌, ◌==◌, ◌^◌, ◌||◌, ◌↔◌, ◌∙◌, ◌∷◌, ◌≡◌, ◌≢◌, ◌≤ℤ◌, ◌≤◌, ◌⊎◌}
pub use Rattle.std.proofs.Math.IntN.{negsuc-*ℤ-pos, pos-*ℤ-pos}
pub use Rattle.std.proofs.Math.Nat.{div-add-mod', div-div-eq-div-mul, div-one, eq_of_mul-eq-mul_left, le_of_mul-le-mul_right, lt_of_mul-lt-mul_left, mod-eq-sub-div-mul, mod-lt, mul-le-mul_left, mul-le-mul_right, mul-lt-mul_of_pos_left, mul-pos, mul_comm, one-le-pow, pos_of_ne-zero, pow-le-pow_right, pow-suc}
pub use Rattle.std.proofs.Math.Seq.{drop-append_seam, drop-length, get_or-append_right, take-append_seam, take-suc}
pub use Rattle.std.proofs.lemmas.Bool.{agree_below_at, and_parts, cases_eq, cases_lt, cases_order, cond_both, eq-eqb, eqb-true, ltb-true, ne_eqb, or_cases, or_left, or_right, true_from_ne_false}
pub use Rattle.std.proofs.lemmas.Bool.Decides.{eqb_tells, nat_tests}
pub use Rattle.std.proofs.lemmas.Grind.{common_steps}
pub use Rattle.std.proofs.lemmas.Int.{fits_signed_from_abs, ints, to_z-of_z, unsigned_abs-mul}
pub use Rattle.std.proofs.lemmas.Int.Digits.{all_below_base_digits_of, digits_of_step, first_digits_of, length-digits_of-le, number_digits_of}
pub use Rattle.std.proofs.lemmas.List.{append-nil, append_cancel_right, drop-drop, drop-replicate, drop_all, drop_more, get_or_default, get_or_past, length-map, length-replicate, length-take-le, map-append, same_from_push, take-append-drop, take_all, take_more, take_rest}
pub use Rattle.std.proofs.lemmas.List.Elements.{All-from_recursion, All-weaker, recursion_from_All}
pub use Rattle.std.proofs.lemmas.Nat.{div-mul-add, div_below, mod-mul-add, pow-add, same_from_place}
pub use Rattle.std.proofs.lemmas.Option.{IfSome_then}
pub use Rattle.std.specs.Cmp.{both_ways, first_so, int_ranks, second_so, signed_Decides, unsigned_Decides}
pub use Rattle.std.specs.Int.Digits.{AllBelowBase, digits_of, number_from_digits_after}
pub use Rattle.std.specs.List.{All, AllByRecursion, flat_map, list_any}
pub use Rattle.std.specs.Option.{option_copied}
pub use Rattle.std.specs.Ordering.{MatchOrdering, int_cmp, int_eq}
pub use Rattle.std.specs.Prelude.{IfOk, IsSomeAnd, slice_index}
pub use Rattle.gc_values.specs.Boolean.{NamesBoolean, boolean_text, number_of}
pub use Rattle.gc_values.specs.Byte.{IsByte, byte_text}
pub use Rattle.gc_values.specs.Cut.{CutsDigits, CutsFraction, CutsSign, ReadsExponent, ReadsNumeral, StartsNoDigit, StartsNoPoint, StartsNoSign}
pub use Rattle.gc_values.specs.DecimalOrder.{units_once, zeros_at_24}
pub use Rattle.gc_values.specs.Decimals.{GivesSpelled, SpellsDecimal, decimal_cmp, decimal_eq, decimal_text, fraction, units}
unfoldable pub use Rattle.gc_values.specs.Decimals.{is_within, rounded}
pub use Rattle.gc_values.specs.Digits.{AreDigits, IsDigit, number}
pub use Rattle.gc_values.specs.Directions.{NearIsWithinTheTolerance, hz_in_face_one, is_close, is_close_on_circle, is_close_turned, turn, v_in_face_one}
unfoldable pub use Rattle.gc_values.specs.Directions.{is_near}
pub use Rattle.gc_values.specs.FileValues.{HasValue, IsLineOf, are_fresh, has_path, is_foreign, value_bytes, value_text, without_cr}
pub use Rattle.gc_values.specs.Fraction.{Fraction, IsBelow, IsCanonical, IsInRange, IsRounded, IsWithin, SameValue, distance, is_negative, signed}
pub use Rattle.gc_values.specs.Item.{HasNoForm, IsBeyond, IsItem, IsItemFault, IsValue, kind_of, text}
pub use Rattle.gc_values.specs.KeptDigits.{IsRoundedWithCap, RoundsToUnits, all_digits, carry, digit_or_zero, kept_and_rounded}
unfoldable pub use Rattle.gc_values.specs.KeptDigits.{kept}
pub use Rattle.gc_values.specs.Lists.{AreItems, AreParams, AreValues, FirstFault, IsItemsFault, IsListFault, IsListReadOrFaulty, faulty_item, faulty_items, kinds_of, open_quote, too_many, wrong_count}
pub use Rattle.gc_values.specs.Nearest.{RoundsHalfUp, SignedWithoutZeros, half_up, rounded_to}
pub use Rattle.gc_values.specs.Params.{AreJoined, ArePieces, AreSpaces, AreTooMany, EndsNoSpace, HasCommasInQuotes, HasOpenQuote, IsPadded, IsParam, IsParams, StartsNoSpace, joined, quoted_after, quotes, total_length}
pub use Rattle.gc_values.specs.Pieces.{CutsPiece, IsTrimmed, TrimsBack, TrimsFront, put_before, without_end_spaces, without_front_spaces}
pub use Rattle.gc_values.specs.Plainly.{ArePlain, CountsDigits, CutsDecimal, CutsNumber, CutsPlain, IsItemAndRest, LeftPlain}
pub use Rattle.gc_values.specs.RoundedFacts.{half_up_rounds, rounded_canonical, rounded_to_is, ten_pow_cut, ten_pow_pos}
pub use Rattle.gc_values.specs.Spelling.{Absent, Exponent, IsExponent, IsExponentDigits, IsNumeral, Minus, NamesFraction, Parts, Plus, Sign, Spells, SpellsBeyond, SpellsNothing, downs, exponent_text, fraction_digits, fraction_text, is_minus, mark, parts_value, sign_text, spelling, ups}
pub use Rattle.gc_values.specs.Text.{AreStringBytes, IsLongString, IsString, IsStringByte, IsTextItem, quoted}
pub use Rattle.gc_values.specs.ValueFault.{IsEither}
pub use Rattle.gc_values.specs.Whole.{FitsLong, FitsShort, IsBetween, IsNumberFault, IsWholeFault, NamesNoWhole, NamesNumber, NamesWhole, NamesWholeBeyond, signed_text}
pub use Rattle.gc_values.specs.Written.{digits_text, last_digits, minus_text, places_text, whole_text, written}
pub use Rattle.gc_values.specs.Zeros.{WithoutZeros, stripped}
pub use Rattle.gc_values.specs.declared.decimal.Decimal.{Decimal}
pub use Rattle.gc_values.specs.declared.fault.ValueFault.{ValueFault}
pub use Rattle.gc_values.specs.declared.fault.ValueFault.TheVariants.{OpenQuote, Range, Spelling, TooMany}
pub use Rattle.gc_values.specs.declared.numeral.Numeral.{Numeral}
pub use Rattle.gc_values.specs.declared.units.TheConstants.{CAP}
pub use Rattle.gc_values.specs.declared.value.Kind.{Kind}
pub use Rattle.gc_values.specs.declared.value.Value.{Value}
