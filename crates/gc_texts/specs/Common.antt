-- The names that this crate's definitions cite of others, passed on from one place. Declares nothing.
pub use Rattle.arrayvec.specs.ArrayVec.{ArrayVec}
pub use Rattle.std.specs.Fmt.{decimal}
pub use Rattle.std.specs.Io.KnownBytes.{Appends, Consumes, IsAtEnd}
pub use Rattle.std.specs.List.{AllByRecursion, AllZip, ends_with, flat_map, list_all, list_any, starts_with}
pub use Rattle.std.specs.Str.{bytes_eq}
pub use Rattle.gc_lines.specs.Prelude.{Ports, ReplyFields, how_far, line_fault_number, numbered_fault, reply_text, serve_fault_number}
unfoldable pub use Rattle.gc_lines.specs.Prelude.{reply_at}
pub use Rattle.gc_lines.specs.declared.fault.LineFault.{LineFault}
pub use Rattle.gc_values.specs.Prelude.{AreParams, AreTooMany, FirstFault, HasOpenQuote, IsFileAt, IsItem, IsListFault, IsNear, IsParams, IsWithin, NamesNumber, Placed, SpellsDecimal, decimal_eq, fraction, half_up, is_decimal, is_up_to, joined, kind_of, kinds_of, number, signed, stripped, units, value_bytes, value_fault_number, value_text, zero}
unfoldable pub use Rattle.gc_values.specs.Prelude.{is_near, is_place, is_tolerance, is_within}
pub use Rattle.gc_values.specs.declared.decimal.Decimal.{Decimal}
pub use Rattle.gc_values.specs.declared.direction.Direction.{Direction}
pub use Rattle.gc_values.specs.declared.fault.ValueFault.{ValueFault}
pub use Rattle.gc_values.specs.declared.fault.ValueFault.TheVariants.{Count, OpenQuote, TooMany}
pub use Rattle.gc_values.specs.declared.file_value.TheConstants.{FILE_VALUES}
pub use Rattle.gc_values.specs.declared.file_value.ValueFile.{ValueFile}
pub use Rattle.gc_values.specs.declared.value.Kind.{Kind}
pub use Rattle.gc_values.specs.declared.value.Kind.TheVariants.{Bool}
pub use Rattle.gc_values.specs.declared.value.Value.{Value}
pub use Rattle.gc_catalogue.specs.Prelude.{IsAnswerOf, IsCall, IsNoProcedure, IsParameterCount, IsProcedure, IsRawCall, IsRawRefusal, IsRefusal, call_fault_number, call_fields, call_name, is_leap, month_days, raw_bytes, refusal_number, with_params}
pub use Rattle.gc_catalogue.specs.declared.answer.Answer.{Answer}
pub use Rattle.gc_catalogue.specs.declared.answer.Answer.TheVariants.{Angles, Date, Height, Long, Measured, MeasuredMode, Name, Nothing, Place, Short, Temperature, Version}
pub use Rattle.gc_catalogue.specs.declared.answer.Reading.{Reading}
pub use Rattle.gc_catalogue.specs.declared.asked.Asked.{Asked}
pub use Rattle.gc_catalogue.specs.declared.asked.Asked.TheVariants.{Raw, Table}
pub use Rattle.gc_catalogue.specs.declared.call.Call.{Call}
pub use Rattle.gc_catalogue.specs.declared.call.Call.TheVariants.{ChangeFace, ComVersion, CsvVersion, DoMeasure, FineAdjust, GetAngle, GetDate, GetFace, GetHeight, GetPrecision, GetPrism, GetStation, InstrumentName, InstrumentNo, IntTemp, MeasDistance, NullProc, Position, QuickDist, SetDate, SetHeight, SetPrecision, SetPrism, SetStation, SimpleMea}
pub use Rattle.gc_catalogue.specs.declared.call.DateTime.{DateTime}
pub use Rattle.gc_catalogue.specs.declared.raw.RawCall.{RawCall}
pub use Rattle.gc_client.specs.Prelude.{Answered, Late, Lost, Outcome, Settlement, place}
