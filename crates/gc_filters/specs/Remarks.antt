-- What a check remarks of a line behind its verdict: this project's own. A line may be no reply, because it is measured data in GSI, has
-- a sign-on in it, or is replies with another line end; or, of a log, because it is a request of this end that came back.
use Rattle.gc_filters.specs.Common.{starts_with, request_at, Frame, Line, has_part, is_sign_on, LogMark}
use Rattle.std.specs.Prelude.{ℕ, ◌+◌, ◌==◌, ◌&&◌, ◌||◌, Bool, true, false, List, [], get_or, is_ok, if◌then◌else◌, codes}
use Rattle.gc_texts.specs.declared.log_line.LogMark.TheVariants as mark

-- whether a GSI word begins at this place of a line: the word index 11 of measured data, or 41 of a code block, and behind four more bytes
-- a sign
abbrev pub is_gsi_word : (place : ℕ) → List ℕ → Bool
is_gsi_word place line =
    ((get_or line place 0 == 49) || (get_or line place 0 == 52)) && (get_or line (place + 1) 0 == 49)
    && ((get_or line (place + 6) 0 == 43) || (get_or line (place + 6) 0 == 45))

-- whether a line is measured data in GSI, as `*110001+0000000000000001 ` and `110001+00000001 ` begin it: its first word begins it, or
-- stands behind one `*`
abbrev pub is_gsi : List ℕ → Bool
is_gsi line = if get_or line 0 0 == 42 then is_gsi_word 1 line else is_gsi_word 0 line

-- whether bytes have a CR behind which the next reply begins, without a line feed
abbrev pub has_lone_return : List ℕ → Bool
has_lone_return bytes = has_part (codes "\r%R1P,") bytes

-- whether a line begins with a sign-on
abbrev pub begins_as_sign_on : List ℕ → Bool
begins_as_sign_on line = starts_with (λ x y. x == y) line (codes "%N1,")

-- what is remarked of a whole line, whichever way it went: that it has a sign-on in it, or a CR alone, or is measured data in GSI
abbrev pub line_remark : List ℕ → List ℕ
line_remark line =
    if is_sign_on line then codes " sign-on" else if has_lone_return line then codes " CR alone" else if is_gsi line then codes " GSI" else []

-- what is remarked of a frame: of a line that of `line_remark`, and nothing of any other
abbrev pub frame_remark : Frame → List ℕ
frame_remark (Line line) = line_remark line.items
frame_remark _ = []

-- what is remarked of a whole line that came: a request is one that came back, unless it has a sign-on in it
abbrev pub came_remark : List ℕ → List ℕ
came_remark bytes = if is_sign_on bytes then codes " sign-on" else if is_ok (request_at bytes) then codes " echo" else line_remark bytes

-- what is remarked of bytes that came and are no whole line
abbrev pub part_remark : List ℕ → List ℕ
part_remark bytes = if has_lone_return bytes then codes " CR alone" else []

-- what is written behind the verdict on a line of the log with this mark and these bytes: that the reply is impossible, if it is
-- (`doubted`); else what is remarked of bytes that came
abbrev pub remark_text : (doubted : Bool) → LogMark → (bytes : List ℕ) → List ℕ
remark_text true m bytes = codes " impossible"
remark_text false mark.Came bytes = came_remark bytes
remark_text false mark.CamePart bytes = part_remark bytes
remark_text false _ bytes = []
