-- The names that crates above cite, passed on from one place. Declares nothing.
pub use Rattle.gc_catalogue.specs.Answers.{IsAnswerOf, IsFittingAnswer, answer_fields, rounded_answer}
pub use Rattle.gc_catalogue.specs.Asked.{IsAsked, IsAskedFitting, IsAskedReading, asked_line, asked_request, is_of_table, procedure_of, raw_params}
pub use Rattle.gc_catalogue.specs.AskedLaws.{ReadsBackAsked}
pub use Rattle.gc_catalogue.specs.Calendar.{is_leap, month_days}
pub use Rattle.gc_catalogue.specs.CallFault.{call_fault_number, refusal_number}
pub use Rattle.gc_catalogue.specs.Calls.{IsCall, IsFitting, IsNoProcedure, IsParameterCount, IsProcedure, IsRefusal, call_fields}
pub use Rattle.gc_catalogue.specs.Laws.{ReadsBackAnswer, ReadsBackRefusal, ReadsBackValue}
pub use Rattle.gc_catalogue.specs.Lists.{behind_commas, params_of}
pub use Rattle.gc_catalogue.specs.Moments.{later}
pub use Rattle.gc_catalogue.specs.Names.{call_name}
pub use Rattle.gc_catalogue.specs.RawAgain.{request_if, with_params}
pub use Rattle.gc_catalogue.specs.RawFacts.{may_have, params_few}
pub use Rattle.gc_catalogue.specs.RawTexts.{raw_bytes}
pub use Rattle.gc_catalogue.specs.Raws.{IsRawCall, IsRawRefusal}
pub use Rattle.gc_catalogue.specs.Readings.{IsReading, IsReadingBy, ReadingRule}
pub use Rattle.gc_catalogue.specs.Structs.{date_values}
pub use Rattle.gc_catalogue.specs.Texts.{answer_params, reply_line, reply_of, request_line, request_of}
