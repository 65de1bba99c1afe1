-- What a check says of each frame of a stream: this project's own.
use Rattle.gc_filters.specs.Common.{decimal, AllZip, numbered_fault, line_fault_number, frames, PastSignature, ReplyFields, IsReply, FirstBadOfReply, reply_signature, RequestFields, IsRequest, FirstBadOfRequest, LineFault, Frame, Line, Cleared, Overlong, More, refusal_number, IsCall, IsRefusal, Call}
use Rattle.std.specs.Prelude.{◌≡◌, ℕ, ◌+◌, List, [], ◌∷◌, ◌++◌, codes}
use Rattle.gc_catalogue.specs.declared.fault.CallFault.{CallFault}
use Rattle.gc_filters.specs.Remarks.{frame_remark}
use Rattle.gc_filters.specs.declared.verdict.Verdict.{Verdict}
use Rattle.gc_filters.specs.declared.verdict.Verdict.TheVariants as verdict

-- the verdict on a request
pub data IsRequestVerdict (q : RequestFields) (v : Verdict) : Type 0 where
  -- its call reads
  reads : (call : Call) → IsCall q.rpc q.params call → v ≡ verdict.Request q.rpc → IsRequestVerdict q v
  -- its call doesn't
  refuses : (fault : CallFault) → IsRefusal q.rpc q.params fault → v ≡ verdict.RequestFault q.rpc fault → IsRequestVerdict q v

-- the line begins as a reply does: with `%R1P,`
abbrev pub BeginsAsReply : List ℕ → Type 0
BeginsAsReply line = (rest : List ℕ) × PastSignature reply_signature line rest

-- the verdict on a line
pub data IsLineVerdict (line : List ℕ) (v : Verdict) : Type 0 where
  -- it reads as a request
  request : (q : RequestFields) → IsRequest line q → IsRequestVerdict q v → IsLineVerdict line v
  -- it reads as a reply
  reply : (r : ReplyFields) → IsReply line r → v ≡ verdict.Reply r.rc_com r.rc → IsLineVerdict line v
  -- it begins as a reply, and the first field that is bad in a reply is named
  no_reply : (fault : LineFault) → BeginsAsReply line → FirstBadOfReply line fault → v ≡ verdict.Fault fault → IsLineVerdict line v
  -- it begins otherwise, and the first field that is bad in a request is named
  no_request : (fault : LineFault) → ¬ BeginsAsReply line → FirstBadOfRequest line fault → v ≡ verdict.Fault fault → IsLineVerdict line v

-- the verdict on a frame. A frame that no line feed has ended (`More`) has none, and `frames` gives no such frame
abbrev pub IsVerdict : Frame → Verdict → Type 0
IsVerdict (Line line) v = IsLineVerdict line.items v
IsVerdict Cleared v = v ≡ verdict.Cleared
IsVerdict Overlong v = v ≡ verdict.Overlong
IsVerdict More v = ⊥

-- a verdict as it is printed, a fault by its number
abbrev pub verdict_text : Verdict → List ℕ
verdict_text verdict.Cleared = codes "cleared"
verdict_text verdict.Overlong = codes "overlong"
verdict_text (verdict.Request rpc) = codes "request " ++ decimal rpc ++ codes " ok"
verdict_text (verdict.RequestFault rpc fault) = codes "request " ++ decimal rpc ++ codes " fault " ++ decimal (refusal_number fault)
verdict_text (verdict.Reply rc_com rc) = codes "reply " ++ decimal rc_com ++ codes " " ++ decimal rc
verdict_text (verdict.Fault fault) = numbered_fault (line_fault_number fault)

-- what a check says of a frame: its verdict as it is printed, and what is remarked of it
abbrev pub said_of : Frame → Verdict → List ℕ
said_of frame v = verdict_text v ++ frame_remark frame

-- this text is what a check says of a frame
pub record IsSaidOf (frame : Frame) (said : List ℕ) : Type 0 where
  pub verdict : Verdict
  pub is : IsVerdict frame verdict
  pub text : said ≡ said_of frame verdict

-- these texts are what a check says of these frames, one for one
abbrev pub AreSaidOf : List Frame → List (List ℕ) → Type 0
AreSaidOf seen said = AllZip IsSaidOf seen said

-- the line of what is said of frame n
abbrev pub verdict_line : ℕ → (said : List ℕ) → List ℕ
verdict_line n said = decimal n ++ codes " " ++ said ++ codes "\n"

-- the lines of what is said of frames, the first of which is frame n
abbrev pub verdict_lines_from : ℕ → List (List ℕ) → List (List ℕ)
verdict_lines_from n [] = []
verdict_lines_from n (s ∷ ss) = verdict_line n s ∷ verdict_lines_from (n + 1) ss

-- the lines of what is said of frames, counted from 1
pub record AreFrameVerdicts (seen : List Frame) (lines : List (List ℕ)) : Type 0 where
  pub said : List (List ℕ)
  pub are : AreSaidOf seen said
  pub numbered : lines ≡ verdict_lines_from 1 said

-- the lines of the verdicts on a whole stream
abbrev pub AreVerdictLines : List ℕ → List (List ℕ) → Type 0
AreVerdictLines stream lines = AreFrameVerdicts (frames stream) lines
