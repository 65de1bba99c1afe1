-- The first line that settles a request, over the bytes that a link gives piece by piece. `rest` is the first part of a line
-- whose end hasn't come. `from` is the client at first; `a`, `b` and `c` are the client before, between and after two pieces.
use Rattle.gc_ask.proofs.Common.{◌≡◌, ℕ, ◌+◌, true, false, cond, List, [], ◌∷◌, ◌++◌, take, drop, map, Option, Some, None, refl, sym, ap, ◌∙◌, subst, append_assoc, append-nil, position, filter_map, map-append, Kept, StandsFor, is_line_feed, frame_of, line_in, pieces_behind, rest_behind, completed, frames_behind, lines_completed, Frame, Line, Cleared, Overlong, More, cut_some, pieces-append, rest-append, Takes, Call, ById, heard, fits, hears_line, AreSettlements, first_reply, SettlesNothing, TakesFrame, IsQuiet, ClientHeard, Settles}
use Rattle.std.specs.Option.{option_to_list}
use Rattle.std.proofs.lemmas.List.Elements.{filter_map-append}
use Rattle.gc_client.specs.declared.settlement.Settlement.{Settlement}

-- the lines among pieces of a stream that was cut at its line feeds
abbrev lines_among : List (List ℕ) → List (List ℕ)
lines_among pieces = filter_map line_in (map frame_of pieces)

-- the lines among the pieces `xs ++ ys` are those among `xs`, and then those among `ys`
lines_among-append : (xs ys : List (List ℕ)) → lines_among (xs ++ ys) ≡ lines_among xs ++ lines_among ys
lines_among-append xs ys = ap (λ fs. filter_map line_in fs) (map-append frame_of xs ys) ∙ filter_map-append line_in (map frame_of xs) (map frame_of ys)

-- the lines of the bytes `xs ++ ys` are those of `xs`, and then those that `ys` complete after what `xs` leave
pub lines_completed-append : (rest xs ys : List ℕ) → lines_completed rest (xs ++ ys) ≡ lines_completed rest xs ++ lines_completed (rest_behind rest xs) ys
lines_completed-append rest xs ys = ap lines_among (pieces-append rest xs ys) ∙ lines_among-append (pieces_behind rest xs) (pieces_behind (rest_behind rest xs) ys)

-- where the lines in front have no first reply, the first reply of all lines is that of the others
pub first_reply-none : (c : ById Call) (xs ys : List (List ℕ)) → first_reply c xs ≡ None → first_reply c (xs ++ ys) ≡ first_reply c ys
first_reply-none c [] ys e = refl
first_reply-none c (x ∷ xs) ys e = (elim (fits c (heard x)) as (λ v. cond v (Some (record { line = x; later = xs })) (first_reply c xs) ≡ None
    → cond v (Some (record { line = x; later = xs ++ ys })) (first_reply c (xs ++ ys)) ≡ first_reply c ys) [
      | true ↦ λ f. (cc)
      | false ↦ λ f. first_reply-none c xs ys f
    ]) e

-- where the lines `front` have no first reply, and the line after them fits, that line is the first reply, with the lines `later`
-- after it
pub first_reply-at : (c : ById Call) (front : List (List ℕ)) (line : List ℕ) (later : List (List ℕ)) → first_reply c front ≡ None → fits c (heard line) ≡ true
    → first_reply c (front ++ line ∷ later) ≡ Some (record { line = line; later = later })
first_reply-at c front line later none fit = first_reply-none c front (line ∷ later) none ∙ rw fit refl

-- Quiet pieces.

-- where a piece settles nothing, and neither does the piece after it, the two together settle nothing
pub quiet_then : {kept kept' : Kept} {a b c : ById Call} (rest xs ys : List ℕ) → IsQuiet rest xs kept a b
    → IsQuiet (rest_behind rest xs) ys kept' b c → IsQuiet rest (xs ++ ys) kept' a c
quiet_then {kept' = kept'} {a = a} rest xs ys q r = record {
  none = ap (first_reply a) (lines_completed-append rest xs ys) ∙ first_reply-none a (lines_completed rest xs) (lines_completed (rest_behind rest xs) ys) q.none
      ∙ ap (λ x. first_reply x (lines_completed (rest_behind rest xs) ys)) (sym q.same) ∙ r.none;
  stands = subst (λ (zs : List ℕ). StandsFor kept' zs) (sym (rest-append rest xs ys)) r.stands;
  same = r.same ∙ q.same;
}

-- where a piece settles nothing, and the bytes that were heard after it (h) settle a request, the two together settle that
-- request
pub settles_then : {kept : Kept} {a b : ById Call} (rest xs : List ℕ) (h : ClientHeard) → IsQuiet rest xs kept a b
    → Settles b (record h { rest = rest_behind rest xs }) → Settles a (record h { rest = rest; bytes = xs ++ h.bytes })
settles_then {a = a} rest xs h q s =
    let front : List (List ℕ) = lines_completed rest xs in
    let at : Settles a (record h { rest = rest_behind rest xs }) = subst (λ (x : ById Call). Settles x (record h { rest = rest_behind rest xs })) q.same s in
    record {
      front = front ++ at.front;
      line = at.line;
      seen = lines_completed-append rest xs h.bytes ∙ ap (λ zs. front ++ zs) at.seen ∙ sym (append_assoc front at.front (at.line ∷ lines_completed [] h.left));
      rests = rest-append rest xs h.bytes ∙ at.rests;
      none = first_reply-none a front at.front q.none ∙ at.none;
      fits = at.fits;
      stands = at.stands;
      settles = at.settles;
      client = at.client;
    }

-- A piece on the way.

-- of the bytes that were heard (h), those before `h.left` were looked at, and none of their lines, which are `front`, settled a
-- request. `now` is what the assembler keeps of a line whose end hasn't come
pub record Passed (from : ById Call) (h : ClientHeard) : Type 0 where
  pub now : List ℕ
  pub front : List (List ℕ)
  pub stands : StandsFor h.kept now
  pub seen : lines_completed h.rest h.bytes ≡ front ++ lines_completed now h.left
  pub rests : rest_behind h.rest h.bytes ≡ rest_behind now h.left
  pub none : first_reply from front ≡ None
  pub same : h.client ≡ from

-- what was heard, once `used` more bytes than in h were looked at. The rest and the bytes are those of h; what the assembler
-- keeps, the client and the settlements are those of `next`
abbrev pub heard_once_used : (h next : ClientHeard) → (used : ℕ) → ClientHeard
heard_once_used h next used = record next { rest = h.rest; bytes = h.bytes; left = drop used h.left }

-- where all bytes were passed, so that nothing of them is left, they settled nothing
pub passed_end : (from : ById Call) (h : ClientHeard) → Passed from (record h { left = [] }) → IsQuiet h.rest h.bytes h.kept from h.client
passed_end from h p = record {
  none = ap (first_reply from) (p.seen ∙ append-nil p.front) ∙ p.none;
  stands = subst (λ (zs : List ℕ). StandsFor h.kept zs) (sym p.rests) p.stands;
  same = p.same;
}

-- the lines of a frame are its line, if it has one
completed_lines : (f : Frame) → filter_map line_in (completed f) ≡ option_to_list (line_in f)
completed_lines (Line line) = refl
completed_lines Cleared = refl
completed_lines Overlong = refl
completed_lines More = refl

-- where the line of a frame, if it has one, settles nothing, it is no first reply
no_reply : (c : ById Call) (line : Option (List ℕ)) → SettlesNothing c line → first_reply c (option_to_list line) ≡ None
no_reply c None q = refl
no_reply c (Some line) q = rw q refl

-- where the bytes before `h.left` were passed (`Passed`), and the line of the next frame, if it has one, settles nothing, the
-- bytes were passed as far as that frame's end
pub passed_on : (from : ById Call) (h next : ClientHeard) (used : ℕ) (frame : Frame) → (p : Passed from h) → Takes p.now h.left used frame next.kept
    → TakesFrame h.client next.client (line_in frame) next.settled false → Passed from (heard_once_used h next used)
passed_on from h next used frame p t taken =
    let later : List (List ℕ) = lines_completed t.now (drop used h.left) in
    let lines_now : lines_completed p.now h.left ≡ option_to_list (line_in frame) ++ later =
    ap (λ fs. filter_map line_in fs) t.seen ∙ filter_map-append line_in (completed frame) (frames_behind t.now (drop used h.left))
    ∙ ap (λ zs. zs ++ later) (completed_lines frame) in
    let silent : SettlesNothing from (line_in frame) = subst (λ (x : ById Call). SettlesNothing x (line_in frame)) p.same taken.1 in
    record {
      now = t.now;
      front = p.front ++ option_to_list (line_in frame);
      stands = t.stands;
      seen = p.seen ∙ ap (λ zs. p.front ++ zs) lines_now ∙ sym (append_assoc p.front (option_to_list (line_in frame)) later);
      rests = p.rests ∙ t.rests;
      none = first_reply-none from p.front (option_to_list (line_in frame)) p.none ∙ no_reply from (line_in frame) silent;
      same = taken.0 ∙ p.same;
    }

-- `line` is the first line of `rest` and the bytes `left` after it: the first `used` bytes of `left` end it, and after it
-- come those that weren't used
record TakesLine (rest left : List ℕ) (used : ℕ) (line : List ℕ) (kept : Kept) : Type 0 where
  seen : lines_completed rest left ≡ line ∷ lines_completed [] (drop used left)
  rests : rest_behind rest left ≡ rest_behind [] (drop used left)
  stands : StandsFor kept []

-- the line of the first frame is the first line
first_line : (f : Frame) (line : List ℕ) (fs : List Frame) → line_in f ≡ Some line → filter_map line_in (f ∷ fs) ≡ line ∷ filter_map line_in fs
first_line f line fs e = filter_map-append line_in (f ∷ []) fs ∙ ap (λ zs. zs ++ filter_map line_in fs) (alone (line_in f) e) where
  -- filtering a list of one frame, which has this line, gives this line
  alone : (o : Option (List ℕ)) → o ≡ Some line → filter_map (λ (x : Frame). o) (f ∷ []) ≡ line ∷ []
  alone None e = (cc)
  alone (Some x) e = ap (λ (l : List ℕ). l ∷ []) (cc)

-- the frame that an assembler gives of the bytes `left` after `rest`: without a line feed it is `More`; else the bytes through the first
-- line feed were used, the frame is that of `rest` and the bytes before the line feed, and the assembler keeps nothing
pub record GivesFrame (rest left : List ℕ) (used : ℕ) (frame : Frame) (kept : Kept) : Type 0 where
  pub unended : position is_line_feed left ≡ None → frame ≡ More
  pub ended : (at : ℕ) → position is_line_feed left ≡ Some at → (used ≡ at + 1) × (frame ≡ frame_of (rest ++ take at left)) × StandsFor kept []

-- if the frame that an assembler gives has a line, that is the first line of the bytes (`TakesLine`)
takes_line : (rest left : List ℕ) (used : ℕ) (frame : Frame) (line : List ℕ) (kept : Kept) → line_in frame ≡ Some line
    → GivesFrame rest left used frame kept → TakesLine rest left used line kept
takes_line rest left used frame line kept is gives = elim (position is_line_feed left) as (λ v. position is_line_feed left ≡ v → TakesLine rest left used line kept) [
  | None ↦ λ e. absurd (no_line (line_in frame) (ap line_in (gives.unended e)) is)
  | Some at ↦ λ e.
      let w = gives.ended at e in
      let cut = cut_some rest left at e in
      let its : line_in (frame_of (rest ++ take at left)) ≡ Some line = ap line_in (sym w.1) ∙ is in
      record {
        seen = ap lines_among cut.0 ∙ first_line (frame_of (rest ++ take at left)) line (map frame_of (pieces_behind [] (drop (at + 1) left))) its
            ∙ ap (λ n. line ∷ lines_completed [] (drop n left)) (sym w.0);
        rests = cut.1 ∙ ap (λ n. rest_behind [] (drop n left)) (sym w.0);
        stands = w.2;
      }
] refl where
  -- what is `None` isn't this line
  no_line : (o : Option (List ℕ)) → o ≡ None → o ≡ Some line → ⊥
  no_line o e f = (cc)

-- a frame that settled a request has a line, which fits; what was settled, and the client then, are by the client's rule for that
-- line
settling_line : (a b : ById Call) (o : Option (List ℕ)) (settled : List (Settlement Call)) → TakesFrame a b o settled true
    → (line : List ℕ) × (o ≡ Some line) × (fits a (heard line) ≡ true) × AreSettlements settled (hears_line a line).settlements × (b ≡ (hears_line a line).client)
settling_line a b None settled t = absurd t
settling_line a b (Some line) settled t = (line, refl, t.0, t.1, t.2)

-- where the bytes before `h.left` were passed (`Passed`), and the line of the frame that the assembler gives of `h.left` settles a request,
-- the bytes settle that request (`Settles`)
pub passed_settles : (from : ById Call) (h next : ClientHeard) (used : ℕ) (frame : Frame) → (p : Passed from h)
    → TakesFrame h.client next.client (line_in frame) next.settled true → GivesFrame p.now h.left used frame next.kept
    → Settles from (heard_once_used h next used)
passed_settles from h next used frame p taken gives =
    let (line, is, fit, settles, client) = settling_line h.client next.client (line_in frame) next.settled taken in
    let t = takes_line p.now h.left used frame line next.kept is gives in
    record {
      front = p.front;
      line = line;
      seen = p.seen ∙ ap (λ zs. p.front ++ zs) t.seen;
      rests = p.rests ∙ t.rests;
      none = p.none;
      fits = subst (λ (x : ById Call). fits x (heard line) ≡ true) p.same fit;
      stands = t.stands;
      settles = subst (λ (x : ById Call). AreSettlements next.settled (hears_line x line).settlements) p.same settles;
      client = subst (λ (x : ById Call). next.client ≡ (hears_line x line).client) p.same client;
    }

-- Reading on.

-- reading goes on: after the bytes `start`, which were left from before, `given` came. Of all these, `looked_at` were looked
-- at and settle nothing, and `ahead` weren't looked at yet. `kept` is what the assembler keeps now. The client is `from` before and
-- `to` after, which are the same
pub record ReadsOn (rest start given ahead : List ℕ) (kept : Kept) (from to : ById Call) : Type 0 where
  pub looked_at : List ℕ
  pub order : start ++ given ≡ looked_at ++ ahead
  pub quiet : IsQuiet rest looked_at kept from to

-- where all that was ahead settles nothing, and one more piece was read, `ReadsOn` is true with that piece as what is ahead
pub reading_more : {rest start given ahead : List ℕ} {kept kept' : Kept} {a b c : ById Call} (piece : List ℕ) → (r : ReadsOn rest start given ahead kept a b)
    → IsQuiet (rest_behind rest r.looked_at) ahead kept' b c
    → ReadsOn rest start (given ++ piece) piece kept' a c
reading_more {rest = rest} {start = start} {given = given} {ahead = ahead} piece r q = record {
  looked_at = r.looked_at ++ ahead;
  order = sym (append_assoc start given piece) ∙ ap (λ zs. zs ++ piece) r.order;
  quiet = quiet_then rest r.looked_at ahead r.quiet q;
}

-- where all that is ahead settles nothing either, no line of all bytes since the start is a first reply, and the client is as
-- before
pub reading_quiet : {rest start given ahead : List ℕ} {kept kept' : Kept} {a b c : ById Call}
    (r : ReadsOn rest start given ahead kept a b) → IsQuiet (rest_behind rest r.looked_at) ahead kept' b c
    → (first_reply a (lines_completed rest (start ++ given)) ≡ None) × (c ≡ a)
reading_quiet {rest = rest} {ahead = ahead} {a = a} r q =
    let all = quiet_then rest r.looked_at ahead r.quiet q in
    (ap (λ zs. first_reply a (lines_completed rest zs)) r.order ∙ all.none, all.same)

-- where the bytes that are ahead, which h has heard, settle a request after those that were looked at, all bytes since the start
-- settle it
pub reading_settles : {rest start given : List ℕ} {kept : Kept} {a b : ById Call} (h : ClientHeard) → (r : ReadsOn rest start given h.bytes kept a b)
    → Settles b (record h { rest = rest_behind rest r.looked_at }) → Settles a (record h { rest = rest; bytes = start ++ given })
reading_settles {rest = rest} {a = a} h r s =
    subst (λ (zs : List ℕ). Settles a (record h { rest = rest; bytes = zs })) (sym r.order) (settles_then rest r.looked_at h r.quiet s)
