-- What a check of a log writes of each of its lines: this project's own. `given` are the bytes that the source gave, `rest` those
-- of a line that no line feed has ended, and `old` and `new` what the sink had taken before and has taken after, where that is
-- known.
use Rattle.gc_filters.specs.Common.{Appends, IsRunOverPorts, Ports, all_of, ends_in_return, pieces_behind, rest_behind, Served, ServeFault, marked_text, escaped, IsLogLine, LogMark}
use Rattle.std.specs.Prelude.{◌≡◌, ℕ, ◌+◌, ◌-◌, ◌<◌, ◌≤◌, ◌==◌, ◌&&◌, Bool, true, false, not, nat_lt, List, [], ◌∷◌, ◌++◌, length, take, get_or, map, Option, Some, None, Result, if◌then◌else◌, codes}
use Rattle.gc_filters.specs.Checking.{WritesAll, WritesBy, WritesPart}
use Rattle.gc_filters.specs.Verdicts.{IsLineVerdict, verdict_text}
use Rattle.gc_filters.specs.LogClients.{after_entry, is_impossible_entry, nothing_known}
use Rattle.gc_filters.specs.Remarks.{remark_text}
use Rattle.gc_filters.specs.declared.check_log.LogCheck.{LogCheck}
use Rattle.gc_filters.specs.declared.check_log.PartialLine.{PartialLine}
use Rattle.gc_filters.specs.declared.log_client.LogClient.{LogClient}
use Rattle.gc_filters.specs.declared.verdict.Verdict.{Verdict}
use Rattle.gc_texts.specs.declared.log_line.LogMark.TheVariants as mark
use Rattle.gc_filters.specs.declared.verdict.Verdict.TheVariants as verdict

-- the verdict on a line that went or came whole, as text: `overlong` if it has more than 512 bytes, else that of `check`
pub data IsWholeVerdict (bytes text : List ℕ) : Type 0 where
  overlong : 512 < length bytes → text ≡ verdict_text verdict.Overlong → IsWholeVerdict bytes text
  line : (v : Verdict) → length bytes ≤ 512 → IsLineVerdict bytes v → text ≡ verdict_text v → IsWholeVerdict bytes text

-- whether bytes end in a line feed without a CR before it
abbrev pub ends_cleared : List ℕ → Bool
ends_cleared bytes = nat_lt 0 (length bytes) && (get_or bytes (length bytes - 1) 0 == 10) && not (ends_in_return (take (length bytes - 1) bytes))

-- the verdict on bytes that are no whole line: `cleared` if a line feed without a CR before it ends them, else `part`
abbrev pub part_verdict : List ℕ → List ℕ
part_verdict bytes = if ends_cleared bytes then verdict_text verdict.Cleared else codes "part"

-- the text is the verdict that the bytes of a log line get by its mark. The words of a line about the connection or the log (`Link`) are
-- repeated as in the log
abbrev pub IsMarkedVerdict : LogMark → (bytes text : List ℕ) → Type 0
IsMarkedVerdict mark.Went bytes text = IsWholeVerdict bytes text
IsMarkedVerdict mark.WentPart bytes text = text ≡ part_verdict bytes
IsMarkedVerdict mark.Came bytes text = IsWholeVerdict bytes text
IsMarkedVerdict mark.CamePart bytes text = text ≡ part_verdict bytes
IsMarkedVerdict mark.Link bytes text = text ≡ escaped bytes

-- the text is what is written of a log line with this moment, mark and bytes, of which the reply is impossible or not (`doubted`): the
-- moment and the mark as they are, the verdict on the bytes, and what is remarked of them
abbrev pub IsMarkedVerdictLine : (doubted : Bool) → (moment : List ℕ) → LogMark → (bytes text : List ℕ) → Type 0
IsMarkedVerdictLine doubted moment mark bytes text =
    (words : List ℕ) × IsMarkedVerdict mark bytes words × (text ≡ marked_text moment mark (words ++ (remark_text doubted mark bytes ++ codes "\n")))

-- the most bytes of a line of a log that is read: this project's own
abbrev pub log_line_most : ℕ
log_line_most = 2100

-- the text is what is written of a line of the checked log, before which the client was `old`, as far as the log shows it, and after which
-- it is `new`. If the line reads as a log line, that is as `IsMarkedVerdictLine` says; if not, that it is no log line, and nothing is
-- known of the client any more. A line of more than `log_line_most` bytes, or of more than 514 bytes of the connection, doesn't read
pub data IsLogVerdict (old : LogClient) (line text : List ℕ) (new : LogClient) : Type 0 where
  reads : (moment bytes : List ℕ) (mark : LogMark) → length line ≤ log_line_most → length bytes ≤ 514 → IsLogLine line moment mark bytes
      → IsMarkedVerdictLine (is_impossible_entry old mark bytes) moment mark bytes text → new ≡ after_entry old mark bytes
      → IsLogVerdict old line text new
  unread : (length line ≤ log_line_most → (moment : List ℕ) (mark : LogMark) (bytes : List ℕ) → length bytes ≤ 514 → IsLogLine line moment mark bytes → ⊥)
      → text ≡ codes "no log line\n" → new ≡ nothing_known → IsLogVerdict old line text new

-- the texts are what is written of these lines of a checked log, one for one; they take the client, as far as the log shows it, from
-- `old` to `new`
abbrev pub AreVerdictsBetween : (old new : LogClient) → (lines texts : List (List ℕ)) → Type 0
AreVerdictsBetween old new [] [] = new ≡ old
AreVerdictsBetween old new [] (text ∷ texts) = ⊥
AreVerdictsBetween old new (l ∷ lines) [] = ⊥
AreVerdictsBetween old new (l ∷ lines) (text ∷ texts) =
    (next : LogClient) × IsLogVerdict old l text next × AreVerdictsBetween next new lines texts

-- the texts are what is written of these lines of a checked log, one for one, where the client before them was this one, as far as the
-- log shows it
pub record AreVerdictsFrom (old : LogClient) (lines texts : List (List ℕ)) : Type 0 where
  pub new : LogClient
  pub are : AreVerdictsBetween old new lines texts

-- the texts are what is written of the lines of a checked log, one for one. Of its client nothing is known at first
abbrev pub AreLogVerdicts : (lines texts : List (List ℕ)) → Type 0
AreLogVerdicts lines texts = AreVerdictsFrom nothing_known lines texts

-- the value `kept` holds the bytes since the last line feed, `rest`: all of them, or only that they are more than `log_line_most`
pub record KeepsLine (kept : PartialLine) (rest : List ℕ) : Type 0 where
  pub whole : kept.is_long ≡ false → rest ≡ kept.bytes.items
  pub long : kept.is_long ≡ true → log_line_most < length rest

-- Of a piece of the log. It came after the bytes `rest`, which no line feed had ended.

-- the verdict on each line that ends in the piece went out; these lines take the client from `from` to `to`, as far as the log shows it
abbrev pub WritesVerdicts : (from to : LogClient) → (rest piece : List ℕ) → (old new : Option (List ℕ)) → (before count : ℕ) → Type 0
WritesVerdicts from to rest piece old new before count = WritesAll (AreVerdictsBetween from to) (pieces_behind rest piece) old new before count

-- of the verdicts on the lines that end in the piece only a front went out
abbrev pub WritesVerdictsInPart : (from : LogClient) → (rest piece : List ℕ) → (old new : Option (List ℕ)) → (before count bytes : ℕ) → Type 0
WritesVerdictsInPart from rest piece old new before count bytes =
    WritesPart (AreVerdictsFrom from) (pieces_behind rest piece) old new before count bytes

-- the check is done with the piece: it keeps what follows the last line feed, and the verdicts on the lines that end in the piece
-- went out. `from` is the client before the piece, as far as the log shows it, and `count` how many verdicts had gone out
abbrev pub HasChecked : (from : LogClient) → LogCheck → (rest piece : List ℕ) → (old new : Option (List ℕ)) → (count : ℕ) → Type 0
HasChecked from check rest piece old new count =
    KeepsLine check.kept (rest_behind rest piece) × WritesVerdicts from check.client rest piece old new count check.replies

-- a piece was checked, which took the check from `before` to `after`, whatever rest of a line was kept (`HasChecked`)
abbrev pub TakesPiece : (before after : LogCheck) → (piece : List ℕ) → (old new : Option (List ℕ)) → Type 0
TakesPiece before after piece old new =
    (rest : List ℕ) → KeepsLine before.kept rest → HasChecked before.client after rest piece old new before.replies

-- a piece was checked until the sink failed, after the first `bytes` bytes of a verdict's line, which took the check from `before` to
-- `after`: whatever rest of a line was kept, only a front of the verdicts on the lines that end in the piece went out
abbrev pub TakesPieceInPart : (before after : LogCheck) → (piece : List ℕ) → (old new : Option (List ℕ)) → (bytes : ℕ) → Type 0
TakesPieceInPart before after piece old new bytes =
    (rest : List ℕ) → KeepsLine before.kept rest → WritesVerdictsInPart before.client rest piece old new before.replies after.replies bytes

-- Of verdicts that wait to be written. No part of a promise.

-- no text waits
abbrev pub NoneWait : LogCheck → Type 0
NoneWait check = (check.text.items ≡ []) × (check.lengths.items ≡ [])

-- a check has room for one more text, and for its length
abbrev pub HasRoom : LogCheck → Type 0
HasRoom check = (length check.text.items + 4300 ≤ 8192) × (length check.lengths.items < 256)

-- how many texts of a check went out whole, or wait
abbrev pub texts_in : LogCheck → ℕ
texts_in check = check.replies + length check.lengths.items

-- how many bytes are left of a piece, if something is
abbrev pub bytes_left : Option (List ℕ) → ℕ
bytes_left None = 0
bytes_left (Some bytes) = length bytes

-- the check has judged the lines that end in the piece, and keeps what follows the last line feed: the first verdicts, `done`, went
-- out, and the others, `held`, wait, with their lengths. `from` is the client before the piece, as far as the log shows it, and `count`
-- how many verdicts had gone out
pub record HasJudged (from : LogClient) (check : LogCheck) (rest piece : List ℕ) (old new : Option (List ℕ)) (count : ℕ) : Type 0 where
  pub keeps : KeepsLine check.kept (rest_behind rest piece)
  pub done : List (List ℕ)
  pub held : List (List ℕ)
  pub are : AreVerdictsBetween from check.client (pieces_behind rest piece) (done ++ held)
  pub took : Appends old new (all_of done)
  pub counts : check.replies ≡ count + length done
  pub text_is : check.text.items ≡ all_of held
  pub lengths_are : check.lengths.items ≡ map length held

-- a check that has judged any piece has also judged these further bytes after it (`HasJudged`)
abbrev pub JudgesMore : (before after : LogCheck) → (more : List ℕ) → (old new : Option (List ℕ)) → Type 0
JudgesMore before after more old new =
    (from : LogClient) (rest piece : List ℕ) (start : Option (List ℕ)) (count : ℕ)
    → HasJudged from before rest piece start old count → HasJudged from after rest (piece ++ more) start new count

-- the bytes through the first line feed were judged, and `behind` is what follows it; all bytes, if there is none
abbrev pub TakesLine : (before after : LogCheck) → (bytes : List ℕ) → (behind : Option (List ℕ)) → (old new : Option (List ℕ)) → Type 0
TakesLine before after bytes None old new = JudgesMore before after bytes old new
TakesLine before after bytes (Some behind) old new =
    (line : List ℕ) × (bytes ≡ line ++ 10 ∷ behind) × JudgesMore before after (line ++ 10 ∷ []) old new

-- what is written of the line that the check keeps joins the texts that wait, and the next line begins
pub record JudgesLine (before after : LogCheck) (line : List ℕ) : Type 0 where
  pub text : List ℕ
  pub is : IsLogVerdict before.client line text after.client
  pub longer : after.text.items ≡ before.text.items ++ text
  pub counted : after.lengths.items ≡ before.lengths.items ++ length text ∷ []

-- all texts that waited went out, and what was judged is still the same (`HasJudged`)
abbrev pub WritesWaiting : (before after : LogCheck) → (old new : Option (List ℕ)) → Type 0
WritesWaiting before after old new =
    (from : LogClient) (rest piece : List ℕ) (start : Option (List ℕ)) (count : ℕ)
    → HasJudged from before rest piece start old count → HasJudged from after rest piece start new count

-- the sink failed while texts that waited were written, after the first `bytes` bytes of one of them
abbrev pub StopsWriting : (before after : LogCheck) → (old new : Option (List ℕ)) → (bytes : ℕ) → Type 0
StopsWriting before after old new bytes =
    (from : LogClient) (rest piece : List ℕ) (start : Option (List ℕ)) (count : ℕ)
    → HasJudged from before rest piece start old count → WritesVerdictsInPart from rest piece start new count after.replies bytes

-- Of a whole log.

-- how much of the verdicts on the lines of a log went out, by the result. Bytes after the last line feed are no line
abbrev pub ChecksLog : List ℕ → (old new : Option (List ℕ)) → Result Served ServeFault → Type 0
ChecksLog given old new result = WritesBy AreLogVerdicts (pieces_behind [] given) old new result

-- a check of a log in at most `most` reads took the ports from old to new, and gave this result; what it wrote is as `ChecksLog` says
abbrev pub IsCheckingLog : (old new : Ports) → (most : ℕ) → Result Served ServeFault → Type 0
IsCheckingLog old new most result = IsRunOverPorts ChecksLog old new most result
