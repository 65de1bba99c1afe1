-- What is claimed of the definitions themselves, apart from any call: this project's own.
use Rattle.std.specs.Prelude.{◌≡◌, ◌↔◌, ℕ, ◌<◌, ◌≤◌, List, [], ◌∷◌, ◌++◌, length, Result, Ok, Err}
use Rattle.gc_lines.specs.declared.fault.LineFault.{LineFault}
use Rattle.gc_lines.specs.declared.frame.Frame.TheVariants.{Line}
use Rattle.gc_lines.specs.Headers.{IsIdInRange}
use Rattle.gc_lines.specs.Lines.{IsPlain, with_end}
use Rattle.gc_lines.specs.Frames.{IsCut, pieces, rest_of, frames}
use Rattle.gc_lines.specs.Requests.{RequestFields, IsRequest, IsWrittenRequest, FirstBadOfRequest, request_text}
use Rattle.gc_lines.specs.Replies.{ReplyFields, IsReply, IsWrittenReply, FirstBadOfReply, reply_text}
use Rattle.gc_lines.specs.Readers.{request_at, reply_at}

-- a stream can be cut at its line feeds in one way alone: into its `pieces` and its `rest_of`
abbrev pub OneCut : Type 0
OneCut = (stream : List ℕ) (parts : List (List ℕ)) (rest : List ℕ)
    → IsCut stream parts rest ↔ ((parts ≡ pieces stream) × (rest ≡ rest_of stream))

-- wherever a stream is cut in two, its frames are those of the front, and then those of the front's rest with the back after it;
-- and its rest is that of the front's rest with the back after it
abbrev pub FramesHoweverCut : Type 0
FramesHoweverCut = (front back : List ℕ)
    → (frames (front ++ back) ≡ frames front ++ frames (rest_of front ++ back)) × (rest_of (front ++ back) ≡ rest_of (rest_of front ++ back))

-- a stream of at most 512 bytes without CR and LF, and then CR LF, is one line, and no rest
abbrev pub PlainIsOneLine : Type 0
PlainIsOneLine = (bytes : List ℕ) → IsPlain bytes → length bytes ≤ 512
    → (frames (with_end bytes) ≡ Line (record { items = bytes }) ∷ []) × (rest_of (with_end bytes) ≡ [])

-- a reader gives fields exactly where the line has the grammar with them, as `Is` says, and a fault exactly where its field is
-- the first bad one, as `Bad` says; and a line has the grammar with at most one list of fields
pub record ReadsExactly {F : Type 0} (read : List ℕ → Result F LineFault) (Is : List ℕ → F → Type 0) (Bad : List ℕ → LineFault → Type 0) : Type 0 where
  pub found : (line : List ℕ) (x : F) → (read line ≡ Ok x) ↔ Is line x
  pub fault : (line : List ℕ) (f : LineFault) → (read line ≡ Err f) ↔ Bad line f
  pub one : (line : List ℕ) (x y : F) → Is line x → Is line y → x ≡ y

-- a line is read as a request exactly by the grammar of requests
abbrev pub ReadsRequests : Type 0
ReadsRequests = ReadsExactly request_at IsRequest FirstBadOfRequest

-- a line is read as a reply exactly by the grammar of replies
abbrev pub ReadsReplies : Type 0
ReadsReplies = ReadsExactly reply_at IsReply FirstBadOfReply

-- a request's number is below 65536, and its id, where it has one, below 8: a line can have them
pub record IsRequestInRange (q : RequestFields) : Type 0 where
  pub rpc : q.rpc < 65536
  pub id : IsIdInRange q.id

-- a reply's numbers are below 65536, and its id, where it has one, is below 8: a line can have them
pub record IsReplyInRange (r : ReplyFields) : Type 0 where
  pub rc_com : r.rc_com < 65536
  pub id : IsIdInRange r.id
  pub rc : r.rc < 65536

-- fields have a written line exactly where they are in range. Their text is then the one written line with them, reads back, and
-- is plain where the parameters are
pub record WritesOneLine {F : Type 0} (IsWritten : List ℕ → F → Type 0) (InRange : F → Type 0) (text : F → List ℕ)
    (read : List ℕ → Result F LineFault) (params : F → List ℕ) : Type 0 where
  pub written : (line : List ℕ) (x : F) → IsWritten line x ↔ (InRange x × (line ≡ text x))
  pub back : (x : F) → InRange x → read (text x) ≡ Ok x
  pub plain : (x : F) → InRange x → IsPlain (params x) → IsPlain (text x)

-- a request in range, and no other, has one written line
abbrev pub WritesRequests : Type 0
WritesRequests = WritesOneLine IsWrittenRequest IsRequestInRange request_text request_at (λ q. q.params)

-- a reply in range, and no other, has one written line
abbrev pub WritesReplies : Type 0
WritesReplies = WritesOneLine IsWrittenReply IsReplyInRange reply_text reply_at (λ r. r.params)
