-- A piece of the stream while it is answered: which of its frames were answered, and what is left of it (`PieceAnswered`).
use Rattle.gc_lines.proofs.Common.{◌≡◌, ℕ, ◌+◌, ◌<◌, Bool, true, false, eqb, cond, ◌-◌, List, [], ◌∷◌, ◌++◌, length, take, drop, map, Some, None, refl, sym, ap, ◌∙◌, subst, arith, append_assoc, position, nat_tests, append-nil, drop_all, map-append, AnswerRule, AnswersPart, Progress, progress, Kept, StandsFor, is_line_feed, ends_in_return, frame_of, frames, pieces_behind, rest_behind, completed, frames_behind, Gathering, GathersPart, NoneWait, Frame, Line, Cleared, Overlong, More}
use Rattle.gc_lines.specs.declared.session.Session.{Session}
use Rattle.gc_lines.proofs.Cutting.{cut_none, cut_some, pieces-append}
use Rattle.gc_lines.proofs.Gathering.{gathering_start}
use Rattle.gc_lines.proofs.InOrder.{no_frames_answered, part_with_later}

-- the frames of `given ++ piece` are those of `given`, and then those that the piece completes after the rest of `given`
pub frames-append : (given piece : List ℕ) → frames (given ++ piece) ≡ frames given ++ frames_behind (rest_behind [] given) piece
frames-append given piece = ap (λ ps. map frame_of ps) (pieces-append [] given piece) ∙ map-append frame_of (pieces_behind [] given) (pieces_behind (rest_behind [] given) piece)

-- `completed` gives the frame of any bytes in a list of its own, as that frame is never `More`
frame_is_completed : (bytes : List ℕ) → completed (frame_of bytes) ≡ frame_of bytes ∷ []
frame_is_completed bytes = by_tests (ends_in_return bytes) _ where
  -- whichever frame the two tests of `frame_of` choose, it is completed
  by_tests : (a b : Bool) → completed (cond a (cond b Overlong (Line (record { items = take (length bytes - 1) bytes }))) Cleared) ≡ cond a
      (cond b Overlong (Line (record { items = take (length bytes - 1) bytes }))) Cleared ∷ []
  by_tests true true = refl
  by_tests true false = refl
  by_tests false b = refl

-- after the bytes `rest`, an assembler used the first `used` bytes of `left`, returned `frame`, and now keeps `kept`, which
-- stands for `now`. The frames that `left` completes after `rest` are `frame`, if it is complete, and then those that the unused
-- bytes complete after `now`; and in both cases the same bytes follow the last line feed
pub record Takes (rest left : List ℕ) (used : ℕ) (frame : Frame) (kept : Kept) : Type 0 where
  pub now : List ℕ
  pub stands : StandsFor kept now
  pub seen : frames_behind rest left ≡ completed frame ++ frames_behind now (drop used left)
  pub rests : rest_behind rest left ≡ rest_behind now (drop used left)

-- `Takes` is true if `left` has no line feed, all of it was used, the frame is `More`, and the assembler stands for `rest` and
-- then `left`
takes_without_feed : (rest left : List ℕ) (used : ℕ) (frame : Frame) (kept : Kept) → position is_line_feed left ≡ None
    → used ≡ length left → frame ≡ More
    → StandsFor kept (rest ++ left) → Takes rest left used frame kept
takes_without_feed rest left used frame kept none all more s =
    let cut = cut_none rest left none in
    let nothing : drop used left ≡ [] = drop_all used left (omega arith) in
    record {
      now = rest ++ left;
      stands = s;
      seen = rw (more, nothing) (ap (λ ps. map frame_of ps) cut.0);
      rests = rw nothing cut.1;
    }

-- `Takes` is true if the first line feed of `left` is at place `at`, the bytes through it were used, the frame is that of `rest`
-- and the bytes before the line feed, and the assembler stands for no bytes
takes_with_feed : (rest left : List ℕ) (at used : ℕ) (frame : Frame) (kept : Kept) → position is_line_feed left ≡ Some at → used ≡ at + 1
    → frame ≡ frame_of (rest ++ take at left) → StandsFor kept [] → Takes rest left used frame kept
takes_with_feed rest left at used frame kept some next is s =
    let cut = cut_some rest left at some in
    record {
      now = [];
      stands = s;
      seen = rw (next, is, frame_is_completed (rest ++ take at left)) (ap (λ ps. map frame_of ps) cut.0);
      rests = rw next cut.1;
    }

-- `Takes` is true if what `Assembler::next` ensures is so: of bytes `left` without a line feed, and of bytes with their first
-- one at place `at`
pub assembler_takes : (rest left : List ℕ) (used : ℕ) (frame : Frame) (kept : Kept)
    → (position is_line_feed left ≡ None → (used ≡ length left) × (frame ≡ More) × StandsFor kept (rest ++ left))
    → ((at : ℕ) → position is_line_feed left ≡ Some at → (used ≡ at + 1) × (frame ≡ frame_of (rest ++ take at left)) × StandsFor kept [])
    → Takes rest left used frame kept
assembler_takes rest left used frame kept more whole = elim (position is_line_feed left) as (λ v. position is_line_feed left ≡ v → Takes rest left used frame kept) [
  | None ↦ λ e. let m = more e in takes_without_feed rest left used frame kept e m.0 m.1 m.2
  | Some at ↦ λ e. let m = whole at e in takes_with_feed rest left at used frame kept e m.0 m.1 m.2
] refl

-- of a piece that came after the bytes `rest`, only `left` isn't used yet: the frames that the used part completed were answered,
-- texts of theirs may wait in the session, and its assembler stands for the bytes since the last line feed (`now`)
pub record PieceAnswered {State : Type 0} (rule : AnswerRule State Frame) (rest piece left : List ℕ) (from to : Progress State) (session : Session) : Type 0 where
  pub now : List ℕ
  pub answered : List Frame
  pub stands : StandsFor session.assembler now
  pub seen : frames_behind rest piece ≡ answered ++ frames_behind now left
  pub rests : rest_behind rest piece ≡ rest_behind now left
  pub gathered : Gathering rule from to answered session.text.items session.lengths

-- `PieceAnswered` is true before the first frame, if the assembler stands for `rest`, nothing of the piece was used, and no text
-- waits
pub piece_start : {State : Type 0} (rule : AnswerRule State Frame) (rest piece : List ℕ) (start : Progress State) (session : Session)
    → NoneWait session → StandsFor session.assembler rest → PieceAnswered rule rest piece piece start start session
piece_start rule rest piece start session nothing s = record {
  now = rest;
  answered = [];
  stands = s;
  seen = refl;
  rests = refl;
  gathered = rw (nothing.0, nothing.1) (gathering_start rule start start [] (no_frames_answered rule start));
}

-- if `all` is `answered` and then `left`, and `left` is `frame` and then `later`, `all` is `answered ++ frame` and then `later`
seen_more : (answered frame later all left : List Frame) → all ≡ answered ++ left → left ≡ frame ++ later → all ≡ (answered ++ frame) ++ later
seen_more answered frame later all left e f = e ∙ ap (λ zs. answered ++ zs) f ∙ sym (append_assoc answered frame later)

-- Here `PieceAnswered` is true, and the assembler takes more of the piece, as `Takes` has it.
module _ {State : Type 0} (rule : AnswerRule State Frame) (rest piece left : List ℕ) (from to : Progress State) (session : Session)
    (g : PieceAnswered rule rest piece left from to session) (used : ℕ) (frame : Frame) (kept : Kept) (taken : Takes g.now left used frame kept) where
  -- if the next session has this assembler, and `Gathering` is true of the frames answered before and the one that this
  -- completed, if any, with the texts that wait in that session, `PieceAnswered` is true of it and what is left of the piece now
  pub piece_goes_on : (to' : Progress State) (next : Session) → next.assembler ≡ kept
      → Gathering rule from to' (g.answered ++ completed frame) next.text.items next.lengths
      → PieceAnswered rule rest piece (drop used left) from to' next
  piece_goes_on to' next same more = record {
    now = taken.now;
    answered = g.answered ++ completed frame;
    stands = subst (λ (k : Kept). StandsFor k taken.now) (sym same) taken.stands;
    seen = seen_more g.answered (completed frame) (frames_behind taken.now (drop used left)) (frames_behind rest piece) (frames_behind g.now left) g.seen taken.seen;
    rests = g.rests ∙ taken.rests;
    gathered = more;
  }

  -- if `GathersPart` is true of the frames answered before and the one that this completed, if any, it is true of all frames of
  -- the piece
  pub piece_cut : (last : Progress State) (bytes : ℕ) (gathers : Bool) → GathersPart rule from last (g.answered ++ completed frame) bytes gathers
      → GathersPart rule from last (frames_behind rest piece) bytes gathers
  piece_cut last bytes gathers part =
      let later = frames_behind taken.now (drop used left) in
      let all = seen_more g.answered (completed frame) later (frames_behind rest piece) (frames_behind g.now left) g.seen taken.seen in
      record {
        reached = part.reached;
        part = subst (λ (seen : List Frame). AnswersPart rule from (progress part.reached last.taken last.whole) seen bytes) (sym all)
            (part_with_later rule from (progress part.reached last.taken last.whole) (g.answered ++ completed frame) later bytes part.part);
        alone = part.alone;
      }

-- if `PieceAnswered` is true with nothing left of the piece, the assembler stands for what follows the last line feed of
-- `rest` and the piece, and `Gathering` is true of all frames that the piece completes: they were answered, though texts may wait
pub piece_end : {State : Type 0} (rule : AnswerRule State Frame) (rest piece : List ℕ) (from to : Progress State) (session : Session)
    → PieceAnswered rule rest piece [] from to session
    → StandsFor session.assembler (rest_behind rest piece) × Gathering rule from to (frames_behind rest piece) session.text.items session.lengths
piece_end rule rest piece from to session g = (
  subst (λ (xs : List ℕ). StandsFor session.assembler xs) (sym g.rests) g.stands,
  subst (λ (xs : List Frame). Gathering rule from to xs session.text.items session.lengths) (sym (g.seen ∙ append-nil g.answered)) g.gathered,
)

-- a length is above 0 if the test whether it is 0 fails
pub not_empty : (n : ℕ) (b : Bool) → b ≡ eqb n 0 → b ≡ false → 0 < n
not_empty n b is e = grind (arith, nat_tests)
