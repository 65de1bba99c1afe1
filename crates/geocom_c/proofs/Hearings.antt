-- Bytes that are heard: the frame that the first line feed ends, and then those of the bytes that are left. `hears` says where
-- lines lead that are heard in order; a frame is what a line feed makes of the bytes before it; `rest` is the bytes since the last
-- line feed. `HeardBut` says that all bytes but some were heard. A course is what a client has sent and settled so far, and the
-- client after that.
use Rattle.geocom_c.proofs.Common.{◌≡◌, ◌≢◌, ℕ, ◌+◌, arith, length, inl, inr, Option, List, [], ◌∷◌, ◌++◌, map, take, drop, Some, None, refl, sym, ap, subst, ◌∙◌, position, filter_map, cases_eq, drop_all, Asked, is_line_feed, frame_of, line_in, pieces_behind, rest_behind, Frame, Line, Cleared, Overlong, More, cut_none, cut_some, ById, Sending, Course, course_after, sent_on, client_past, SendMeets, hearing_lines, StandsForCourse, lines_completed, HeardBut, GeocomClient, Effect}
use Rattle.gc_client.specs.OneForOne as one

-- hearing no line changes nothing, and hearing the lines of the frames f and `fs` is hearing f, as `past` says, and then the lines
-- of `fs`
pub record HearsInTurn {X : Type 0} (hears : X → List (List ℕ) → X) (past : X → Frame → X) : Type 0 where
  pub none : (x : X) → hears x [] ≡ x
  pub first : (x : X) (f : Frame) (fs : List Frame) → hears x (filter_map line_in (f ∷ fs)) ≡ hears (past x f) (filter_map line_in fs)

-- `Stands` says what holds of where hearing lines led, and of the bytes since the last line feed.
module _ {X : Type 0} (hears : X → List (List ℕ) → X) (past : X → Frame → X) (turns : HearsInTurn hears past) (Stands : X → List ℕ → Type 0) where
  -- if no line feed came, and the bytes were kept, all of them were heard
  pub heard_none : (x : X) (rest bytes left : List ℕ) → position is_line_feed bytes ≡ None → left ≡ [] → Stands x (rest ++ bytes)
      → HeardBut hears Stands x rest bytes left
  heard_none x rest bytes left e none stands =
      let cut = cut_none rest bytes e in
      record {
        reached = x;
        now = rest ++ bytes;
        stands = stands;
        same = ap (λ bs. hears x (lines_completed (rest ++ bytes) bs)) none ∙ sym (ap (λ ps. hears x (filter_map line_in (map frame_of ps))) cut.0);
        behind = ap (rest_behind (rest ++ bytes)) none ∙ sym cut.1;
      }

  -- if the first line feed ended a frame, which was heard, the bytes through that line feed were heard
  pub heard_some : (x : X) (rest bytes left : List ℕ) (at : ℕ) → position is_line_feed bytes ≡ Some at → left ≡ drop (at + 1) bytes
      → Stands (past x (frame_of (rest ++ take at bytes))) [] → HeardBut hears Stands x rest bytes left
  heard_some x rest bytes left at e n stands =
      let cut = cut_some rest bytes at e in
      let frame = frame_of (rest ++ take at bytes) in
      record {
        reached = past x frame;
        now = [];
        stands = stands;
        same = ap (λ bs. hears (past x frame) (lines_completed [] bs)) n
            ∙ sym (ap (λ ps. hears x (filter_map line_in (map frame_of ps))) cut.0 ∙ turns.first x frame (map frame_of (pieces_behind [] (drop (at + 1) bytes))));
        behind = ap (rest_behind []) n ∙ sym cut.1;
      }

  -- if all bytes were heard, `Stands` holds of where all of them lead
  pub heard_all : (x : X) (rest bytes left : List ℕ) → HeardBut hears Stands x rest bytes left → left ≡ []
      → Stands (hears x (lines_completed rest bytes)) (rest_behind rest bytes)
  heard_all x rest bytes left f none =
      let same : f.reached ≡ hears x (lines_completed rest bytes) =
      sym (turns.none f.reached) ∙ sym (ap (λ bs. hears f.reached (lines_completed f.now bs)) none) ∙ f.same in
      let behind : f.now ≡ rest_behind rest bytes = sym (ap (rest_behind f.now) none) ∙ f.behind in
      subst (λ y. Stands y (rest_behind rest bytes)) same (subst (λ r. Stands f.reached r) behind f.stands)

-- if all bytes but `left` were heard, and then all of `left` but `end`, all bytes but `end` were heard
pub heard_on : {X : Type 0} (hears : X → List (List ℕ) → X) (Old New : X → List ℕ → Type 0) (x : X) (rest bytes left end : List ℕ)
    (f : HeardBut hears Old x rest bytes left) → HeardBut hears New f.reached f.now left end → HeardBut hears New x rest bytes end
heard_on hears Old New x rest bytes left end f g = record { reached = g.reached; now = g.now; stands = g.stands; same = g.same ∙ f.same; behind = g.behind ∙ f.behind }

-- `P` holds if it follows from there being no place, and from each place that there may be (`o` is the place, if there is one)
pub by_place : {P : Type 0} (o : Option ℕ) → (o ≡ None → P) → ((at : ℕ) → o ≡ Some at → P) → P
by_place None f g = f refl
by_place (Some at) f g = g at refl

-- if all bytes were used, none is left
pub nothing_left : (bytes : List ℕ) (used : ℕ) → used ≡ length bytes → drop used bytes ≡ []
nothing_left bytes used e = drop_all used bytes (omega (arith, e))

-- the course after a frame
abbrev pub course_past : ℕ → Course Asked → Frame → Course Asked
course_past width x (Line line) = course_after width x (one.Hear line.items)
course_past width x other = x

-- the client after a frame is that of the course after it
pub client_of_course : (width : ℕ) (x : Course Asked) (f : Frame)
    → client_past (record { width = width; ids = x.client }) f ≡ record { width = width; ids = (course_past width x f).client }
client_of_course width x (Line line) = refl
client_of_course width x Cleared = refl
client_of_course width x Overlong = refl
client_of_course width x More = refl

-- courses hear lines in turn, frame by frame (`course_past`)
pub courses_in_turn : (width : ℕ) → HearsInTurn (hearing_lines width) (course_past width)
courses_in_turn width = record { none = λ x. refl; first = first } where
  -- hearing the lines of the frames f and `fs` is hearing f, and then the lines of `fs`
  first : (x : Course Asked) (f : Frame) (fs : List Frame)
      → hearing_lines width x (filter_map line_in (f ∷ fs)) ≡ hearing_lines width (course_past width x f) (filter_map line_in fs)
  first x (Line line) fs = refl
  first x Cleared fs = refl
  first x Overlong fs = refl
  first x More fs = refl

-- after a send, taken or refused by the rule, the state stands for the course after that send (`sent_on`), if before it the state
-- stood for the course x
pub sent_course : (width : ℕ) (x : Course Asked) (rest : List ℕ) (call : Asked) (target : ℕ) (o : Option (Sending (ById Asked))) (sent : Effect GeocomClient ℕ)
    → StandsForCourse width sent.old x rest → SendMeets (record { width = width; ids = x.client }) rest call o sent
    → StandsForCourse width sent.new (sent_on x target call o) rest
sent_course width x rest call target None sent s is = subst (λ (t : GeocomClient). StandsForCourse width t x rest) (sym is.1) s
sent_course width x rest call target (Some q) sent s is = is.1

-- `P` holds if it follows from two numbers being equal, and from their being different
pub by_equality : {P : Type 0} (n m : ℕ) → (n ≡ m → P) → (n ≢ m → P) → P
by_equality n m f g = elim (cases_eq n m) [
  | inl e ↦ f e
  | inr e ↦ g e
]
