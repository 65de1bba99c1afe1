-- The names that crates above cite, passed on from one place. Declares nothing.
pub use Rattle.gc_lines.specs.Answering.{AnswerRule, AnswersAll, AnswersFrames, AnswersInOrder, AnswersPart, AnswersRun, AppendsAnswer, AppendsText, EndsBecause, GaveInReads, HasEnded, IsRunOverPorts, Ports, Progress, Taken, WholeOrCut, all_of, how_far, numbered_fault, ports_of, progress, serve_fault_number, serve_fault_text, taken_by}
pub use Rattle.gc_lines.specs.AnsweringLines.{AnswersLines, HasOneReply, RepliesTo, answers, silent}
pub use Rattle.gc_lines.specs.Assembler.{Kept, StandsFor}
pub use Rattle.gc_lines.specs.Faults.{line_fault_number}
pub use Rattle.gc_lines.specs.Frames.{HasNoLineFeed, ends_in_return, frame_of, frames, is_line_feed, line_in, lines, pieces_behind, rest_behind, rest_of}
pub use Rattle.gc_lines.specs.Headers.{GivesEach, IsIdInRange, MayBeId, PastSignature, id_text}
pub use Rattle.gc_lines.specs.Laws.{IsReplyInRange}
pub use Rattle.gc_lines.specs.Lent.{IsLentLine, lent_seen}
pub use Rattle.gc_lines.specs.Lines.{IsPlain, IsPlainByte, with_end}
pub use Rattle.gc_lines.specs.Numbers.{IsSmallNumber}
pub use Rattle.gc_lines.specs.Passing.{completed, frames_behind, lines_completed, whole_and_part}
pub use Rattle.gc_lines.specs.Ports.{FailsWith, TakesFront, TakesPart}
unfoldable pub use Rattle.gc_lines.specs.Readers.{header_at, reply_at, request_at}
pub use Rattle.gc_lines.specs.Replies.{EndsCode, FirstBadOfReply, IsReply, ReplyFields, params_text, reply_seen, reply_signature, reply_text}
pub use Rattle.gc_lines.specs.Requests.{FirstBadOfRequest, IsNoRequest, IsRequest, RequestFields, request_seen, request_signature, request_text}
pub use Rattle.gc_lines.specs.Taking.{EndsFrame, KeepsPiece}
