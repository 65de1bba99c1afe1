-- Hearing a piece frame by frame: to hear what is left of it, after the frames so far, comes to the same as to hear the whole
-- piece. And what a station records of the settlements of a line. An act is one call on the link, with its result. A book had
-- taken `start` before the records of the model, and has taken `taken` (and later `taken'`) with them; `text` is how a record is
-- written. `left` is what is not heard yet of the piece, `rest` the bytes since the last line feed. A piece is the bytes that one
-- read gave, and a frame what a line feed ends. `Refines station s`: the station stands for the model s. `HeardSoFar` says how far a
-- piece was heard; `begun`: whether the station had synchronized before the piece.
use Rattle.gc_station.proofs.Common.{◌≡◌, ℕ, zero, suc, ◌+◌, ◌-◌, List, [], ◌∷◌, ◌++◌, Bool, true, false, length, drop, map, Option, Some, None, Result, Ok, Err, OnOk, refl, sym, ap, ◌∙◌, subst, append_assoc, arith, filter_map, option_to_list, Appends, length-map, Kept, StandsFor, line_in, rest_behind, completed, frames_behind, lent_seen, Takes, Asked, Pending, ById, Settled, Settlement, hears, settles_at, settle, lost, restarts, place_in, expires, expired, calls_for_renewal, Act, Untold, AddsActs, Moment, Task, Mark, Plan, Cause, Action, Progress, Until, Waiting, Recorded, Station, listed_after_settlements, counts_after_settlements, firsts_after, commands_in, records_of, last_well, any_unexpected, fresh_after, cut_to, doubt_noted, hold_noted, line_noted, bytes_noted, early_noted, after_failure, closed, failing, lines_synchronizing, line_synchronizing, Record, Grew, texts_of, WritesPart, WritesBy, Model, Performs, line_called, line_came, lines_came, lines_completed, lines_taken, with_rest, with_progress, with_moment, waiting_of, settles, piece_heard, waiting_of_station, Refines, Took, TookPart, RefinesOrTookPart, Makes, ReadsMoment, DropsMarks, as_seen, station_expiring, AreReadings, ForEachReadings, empty_counts, tallied, recorded_after, busy_after_settlements}
use Rattle.std.proofs.Common.{length-drop}
use Rattle.gc_lines.specs.declared.frame.Frame.{Frame}
use Rattle.gc_lines.specs.declared.frame.Frame.TheVariants.{Line, Cleared, Overlong, More}
use Rattle.gc_lines.specs.declared.frame.Lent.{Lent}
use Rattle.gc_station.proofs.Growing.{lines_records}
use Rattle.gc_station.proofs.Making.{refines_with}
use Rattle.gc_station.proofs.Readings.{lines_reads, same_readings}
use Rattle.gc_station.proofs.Records.{grew_none, grew_then, part_since_grew, part_more_grew, tallied-append, last-append, firsts-append}
use Rattle.gc_lines.specs.declared.frame.Lent.TheVariants as lent
use Rattle.gc_station.specs.declared.cause.Cause.TheVariants as cause

-- the lines of a frame and of the frames after it: first its line, if it has one
pub lines_split : (frame : Frame) (later : List Frame) → filter_map line_in (completed frame ++ later) ≡ option_to_list (line_in frame) ++ filter_map line_in later
lines_split More later = refl
lines_split (Line line) later = refl
lines_split Cleared later = refl
lines_split Overlong later = refl

-- a frame that isn't a line gives no line to be heard
pub no_line : (frame : Lent) → ((line : _) → frame ≡ lent.Line line → ⊥) → line_in (lent_seen frame) ≡ None
no_line (lent.Line line) never = absurd (never line refl)
no_line lent.Cleared never = refl
no_line lent.Overlong never = refl
no_line lent.More never = refl

-- the model after two lists of lines is the one after the second, from the one after the first on
pub lines_came-append : (s : Model) (xs ys : List (List ℕ)) → lines_came s (xs ++ ys) ≡ lines_came (lines_came s xs) ys
lines_came-append s [] ys = refl
lines_came-append s (x ∷ xs) ys = lines_came-append (line_came s x) xs ys

-- the progress after two lists of lines is the one after the second, from the one after the first on
pub lines_synchronizing-append : (p : Progress) (xs ys : List (List ℕ)) → lines_synchronizing p (xs ++ ys) ≡ lines_synchronizing (lines_synchronizing p xs) ys
lines_synchronizing-append p [] ys = refl
lines_synchronizing-append p (x ∷ xs) ys = lines_synchronizing-append (line_synchronizing p x) xs ys

-- to set the bytes since the last line feed before lines are heard, or after, comes to the same
pub lines_rest : (s : Model) (rest : List ℕ) (lines : List (List ℕ)) → lines_came (with_rest rest s) lines ≡ with_rest rest (lines_came s lines)
lines_rest s rest [] = refl
lines_rest s rest (line ∷ others) = lines_rest (line_came s line) rest others

-- without lines the model stays as it is
pub taken_none : (begun : Bool) (s : Model) → lines_taken begun [] s ≡ s
taken_none true s = refl
taken_none false s = refl

-- lines only add records
taken_records : (begun : Bool) (s : Model) (lines : List (List ℕ)) → Grew s.records (lines_taken begun lines s).records
taken_records true s lines = lines_records s lines
taken_records false s lines = grew_none s.records

-- lines don't change what replies say
taken_reads : (begun : Bool) (s : Model) (lines : List (List ℕ)) → (lines_taken begun lines s).reads ≡ s.reads
taken_reads true s lines = lines_reads s lines
taken_reads false s lines = refl

-- a station that has heard a piece but for `left`, and is as the model `now`: hearing what is left comes to what hearing the
-- whole piece from the model s comes to
pub record HeardSoFar (begun : Bool) (text : Record → List ℕ) (start taken : Option (List ℕ)) (station : Station) (s : Model) (piece left : List ℕ) : Type 0 where
  pub now : Model
  pub stands : Refines station now
  pub wrote : Took text start taken now
  pub grown : Grew s.records now.records
  pub goes : piece_heard begun left now ≡ piece_heard begun piece s

-- the model s after a frame: the line of the frame was heard, if it is a line, and the bytes `rest` of the next one are kept
abbrev pub after_frame : (begun : Bool) (rest : List ℕ) → Frame → (s : Model) → Model
after_frame begun rest frame s = lines_taken begun (option_to_list (line_in frame)) (with_rest rest s)

-- what isn't heard yet of a piece, `left`, begins with `frame` (`seen`); `later` comes after it, with the bytes `rest` kept
-- (`rests`)
module _ (s : Model) (left later rest : List ℕ) (frame : Frame) (seen : frames_behind s.rest left ≡ completed frame ++ frames_behind rest later)
    (rests : rest_behind s.rest left ≡ rest_behind rest later) where
  -- the line of the frame, if it is one
  abbrev first_line : List (List ℕ)
  first_line = option_to_list (line_in frame)

  -- the lines that `left` completes are that line, and then those that `later` completes
  lines_first : lines_completed s.rest left ≡ first_line ++ lines_completed rest later
  lines_first = ap (filter_map line_in) seen ∙ lines_split frame (frames_behind rest later)

  -- once the station has synchronized, to hear `left` is to hear the line of the frame, and then `later`
  came_first : piece_heard true left s ≡ piece_heard true later (after_frame true rest frame s)
  came_first =
      let end = rest_behind rest later in
      ap (λ xs. lines_came (with_rest (rest_behind s.rest left) s) xs) lines_first
      ∙ ap (λ r. lines_came (with_rest r s) (first_line ++ lines_completed rest later)) rests
      ∙ lines_came-append (with_rest end s) first_line (lines_completed rest later)
      ∙ ap (λ x. lines_came x (lines_completed rest later)) (lines_rest (with_rest rest s) end first_line)
      ∙ sym (ap (λ r. lines_came (with_rest (rest_behind r later) (lines_came (with_rest rest s) first_line)) (lines_completed r later))
      (ap (λ (x : Model). x.rest) (lines_rest s rest first_line)))

  -- while the station synchronizes, to hear `left` is to hear the line of the frame, and then `later`
  asked_first : piece_heard false left s ≡ piece_heard false later (after_frame false rest frame s)
  asked_first =
      ap (λ r. shown r (lines_synchronizing s.progress (lines_completed s.rest left))) rests
      ∙ ap (λ xs. shown (rest_behind rest later) (lines_synchronizing s.progress xs)) lines_first
      ∙ ap (shown (rest_behind rest later)) (lines_synchronizing-append s.progress first_line (lines_completed rest later)) where
        -- the model s with these bytes kept of a line, and this progress
        shown : List ℕ → Progress → Model
        shown r p = record s { rest = r; progress = p }

  -- to hear `left` is to hear the line of its first frame, if that is a line, and then `later`
  frame_first : (begun : Bool) → piece_heard begun left s ≡ piece_heard begun later (after_frame begun rest frame s)
  frame_first true = came_first
  frame_first false = asked_first

-- a piece was heard but for `left` (`HeardSoFar`), of which the first `used` bytes are the next frame; after that the book has taken
-- `taken'`
module _ (begun : Bool) (text : Record → List ℕ) (start taken taken' : Option (List ℕ)) (station : Station) (s : Model) (piece left : List ℕ) (used : ℕ) (frame : Frame) (kept : Kept)
    (h : HeardSoFar begun text start taken station s piece left) (t : Takes h.now.rest left used frame kept) where
  -- the model after the frame
  abbrev mid : Model
  mid = after_frame begun t.now frame h.now

  -- `HeardSoFar` is preserved by the frame, if the station `new` is as the model after it, and the book has taken the records of
  -- that model
  pub hearing_on : (new : Station) → Refines new mid × Took text start taken' mid → HeardSoFar begun text start taken' new s piece (drop used left)
  hearing_on new more = record {
    now = mid;
    stands = more.0;
    wrote = more.1;
    grown = grew_then s.records h.now.records _ h.grown (taken_records begun (with_rest t.now h.now) (option_to_list (line_in frame)));
    goes = sym (frame_first h.now left (drop used left) t.now frame t.seen t.rests begun) ∙ h.goes;
  }

  -- if the book failed at the frame's line, it failed at a record of the whole piece
  pub hearing_part : TookPart text h.now.records start taken' mid → TookPart text s.records start taken' (piece_heard begun piece s)
  hearing_part part are =
      let later = drop used left in
      let whole : piece_heard begun later mid ≡ piece_heard begun piece s = sym (frame_first h.now left later t.now frame t.seen t.rests begun) ∙ h.goes in
      let more = taken_records begun (with_rest (rest_behind mid.rest later) mid) (lines_completed mid.rest later) in
      let same : mid.reads ≡ (piece_heard begun piece s).reads =
      sym (taken_reads begun (with_rest (rest_behind mid.rest later) mid) (lines_completed mid.rest later)) ∙ ap (λ (x : Model). x.reads) whole in
      let all = part_more_grew text h.now.records mid.records (piece_heard begun later mid).records start taken' more
      (part (same_readings mid.reads (piece_heard begun piece s).reads same are)) in
      part_since_grew text s.records h.now.records (piece_heard begun piece s).records start taken' h.grown
      (subst (λ (x : Model). WritesPart text h.now.records x.records start taken') whole all)

-- if nothing is left of the piece, the station is as the model after the whole piece, and the book has taken the records of that
-- model
pub hearing_end : (begun : Bool) (text : Record → List ℕ) (start taken : Option (List ℕ)) (station : Station) (s : Model) (piece : List ℕ)
    → HeardSoFar begun text start taken station s piece []
    → Refines station (piece_heard begun piece s) × Took text start taken (piece_heard begun piece s)
hearing_end begun text start taken station s piece h =
    let goes : h.now ≡ piece_heard begun piece s = sym (taken_none begun h.now) ∙ h.goes in (
      subst (λ (x : Model). Refines station x) goes h.stands,
      subst (λ (x : Model). Took text start taken x) goes h.wrote,
    )

-- a station with this assembler in place of its own is as the model with the bytes that this assembler keeps
pub refines_kept : (station : Station) (kept : Kept) (rest : List ℕ) (s : Model) → Refines station s → StandsFor kept rest → Refines (record station { assembler = kept }) (with_rest rest s)
refines_kept station kept rest s stands is = record {
  progress = stands.progress;
  ids = stands.ids;
  width = stands.width;
  marks = stands.marks;
  paired = stands.paired;
  assembles = is;
  tally = stands.tally;
  well = stands.well;
  listed = stands.listed;
  fresh = stands.fresh;
  reads = stands.reads;
  firsts = stands.firsts;
  counts = stands.counts;
}

-- As many marks are taken out as requests are settled.

-- after a reply to the request at place k, as many requests are left as come after that place; none if there is no such place
settle_less : (k : ℕ) (line : List ℕ) (ps : List (Pending Asked)) → length ps - length (settle k line ps) ≡ length ps - (k + 1)
settle_less k line [] = omega arith
settle_less zero line (p ∷ ps) = omega arith
settle_less (suc k) line (p ∷ ps) = let more = settle_less k line ps in omega (arith, more)

-- each request that is left after these settlements has a mark, where `marks` are those before: as many of them go as there are
-- settlements
abbrev pub StayPaired : (marks : List (Option Mark)) → Settled Asked (ById Asked) → Type 0
StayPaired marks x = length (drop (length x.settlements) marks) ≡ length x.client.waiting

-- if each request had a mark, `StayPaired` holds after a line, whether it has the id of the request at place k (`b`) or no id
-- that waits
settled_paired : (marks : List (Option Mark)) (c : ById Asked) (line : List ℕ) (k : ℕ) (b : Bool) → length marks ≡ length c.waiting → StayPaired marks (settles_at c line k b)
settled_paired marks c line k true is =
    let less = settle_less k line c.waiting in
    let left = length-drop (length (settle k line c.waiting)) marks in
    let right = length-drop (k + 1) c.waiting in
    omega (arith, is, less, left, right)
settled_paired marks c line k false is = is

-- if each request had a mark, `StayPaired` holds after any line
pub hears_paired : (marks : List (Option Mark)) (c : ById Asked) (line : List ℕ) (id : Option ℕ) → length marks ≡ length c.waiting → StayPaired marks (hears c line id)
hears_paired marks c line None is = is
hears_paired marks c line (Some id) is = settled_paired marks c line (place_in c id) _ is

-- if each request had a mark, `StayPaired` holds after a restart
pub restarts_paired : (marks : List (Option Mark)) (c : ById Asked) → length marks ≡ length c.waiting → StayPaired marks (restarts c)
restarts_paired marks c is =
    let many = length-map c.waiting lost in
    let left = length-drop (length (map lost c.waiting)) marks in
    omega (arith, is, many, left)

-- a station (`mid`) whose client has settled requests, so that it is at `ids`, and which has written none of their records yet:
-- all else is as before (`old`)
pub record Between (old mid : Station) (ids : ById Asked) : Type 0 where
  pub ids_are : mid.client.ids ≡ ids
  pub width : mid.client.width ≡ old.client.width
  pub marks : mid.marks ≡ old.marks
  pub assembler : mid.assembler ≡ old.assembler
  pub progress : mid.progress ≡ old.progress
  pub recorded : mid.recorded ≡ old.recorded

-- from `mid` to `new` what is kept of the records becomes what these settlements make of it
abbrev pub UpdatesRecorded : (mid new : Station) → List (Settlement Asked) → Type 0
UpdatesRecorded mid new xs = ForEachReadings (λ reads. new.recorded ≡ recorded_after mid.progress.moment mid.marks.items xs reads mid.recorded)

-- the station `old` is as the model s; its client has settled requests as x says (`Between`), and `xs` are these settlements
module _ (text : Record → List ℕ) (old mid : Station) (s : Model) (x : Settled Asked (ById Asked)) (xs : List (Settlement Asked)) (stands : Refines old s)
    (between : Between old mid x.client) (same : xs ≡ x.settlements) where
  -- the records of these settlements, which the station is to write
  abbrev to_write : List Record
  to_write = records_of s.reads mid.progress.moment.utc mid.marks.items xs

  -- these records are those that the model has for the settlements
  records_same : to_write ≡ records_of s.reads s.progress.moment.utc s.marks x.settlements
  records_same =
      ap (λ (p : Progress). records_of s.reads p.moment.utc mid.marks.items xs) (between.progress ∙ stands.progress)
      ∙ ap (λ (ms : List (Option Mark)). records_of s.reads s.progress.moment.utc ms xs) (ap (λ ms. ms.items) between.marks ∙ stands.marks)
      ∙ ap (records_of s.reads s.progress.moment.utc s.marks) same

  -- if these records were written, counted and noted, and the marks of the settlements taken out, the station is as the model
  -- after the settlements (`new`), and the book has taken the records of that model
  pub settles_ok : (new : Station) (n : ℕ) (start taken' : Option (List ℕ)) → (many : n ≡ length x.settlements) → (paired : StayPaired s.marks x)
      → (wrote : AreReadings s.reads → Appends start taken' (texts_of text (s.records ++ to_write))) → (takes : DropsMarks mid new n)
      → (notes : UpdatesRecorded mid new xs) → Refines new (settles x s) × Took text start taken' (settles x s)
  settles_ok new n start taken' many paired wrote is notes =
      let added : List Record = to_write in
      let kept : AreReadings s.reads → new.recorded ≡ recorded_after mid.progress.moment mid.marks.items xs s.reads old.recorded =
      λ are. notes s.reads are ∙ ap (recorded_after mid.progress.moment mid.marks.items xs s.reads) between.recorded in
      let records = records_same in (
        record {
          progress = ap (λ (n : Station). n.progress) is ∙ between.progress ∙ stands.progress;
          ids = ap (λ (n : Station). n.client.ids) is ∙ between.ids_are;
          width = ap (λ (n : Station). n.client.width) is ∙ between.width ∙ stands.width;
          marks = ap (λ (n : Station). n.marks.items) is ∙ ap (λ k. drop k mid.marks.items) many ∙ ap (λ ms. drop (length x.settlements) ms) (ap (λ ms. ms.items) between.marks ∙ stands.marks);
          paired = paired;
          assembles = subst (λ (k : Kept). StandsFor k s.rest) (sym (ap (λ (n : Station). n.assembler) is ∙ between.assembler)) stands.assembles;
          tally = λ are. ap (λ (r : Recorded). r.tally) (kept are) ∙ ap (λ t. tallied t added) (stands.tally are) ∙ sym (tallied-append empty_counts s.records added)
              ∙ ap (λ rs. tallied empty_counts (s.records ++ rs)) records;
          well = λ are. ap (λ (r : Recorded). r.well) (kept are) ∙ ap (λ b. last_well b added) (stands.well are)
              ∙ sym (last-append false s.records added) ∙ ap (λ rs. last_well false (s.records ++ rs)) records;
          listed = λ are. ap (λ (r : Recorded). r.listed) (kept are) ∙ ap (λ b. listed_after_settlements s.reads b mid.marks.items xs) (stands.listed are)
              ∙ ap (λ (ms : List (Option Mark)). listed_after_settlements s.reads s.listed ms xs) (ap (λ ms. ms.items) between.marks ∙ stands.marks)
              ∙ ap (listed_after_settlements s.reads s.listed s.marks) same;
          fresh = λ are. ap (λ (r : Recorded). r.fresh) (kept are) ∙ ap (λ f. fresh_after mid.progress.moment.elapsed f added) (stands.fresh are)
              ∙ ap (λ (p : Progress). fresh_after p.moment.elapsed s.fresh added) (between.progress ∙ stands.progress)
              ∙ ap (fresh_after s.progress.moment.elapsed s.fresh) records;
          reads = stands.reads;
          firsts = ap (λ (r : Recorded). r.firsts) (kept stands.reads) ∙ ap (λ fs. firsts_after fs added) stands.firsts ∙ sym (firsts-append [] s.records added)
              ∙ ap (λ rs. firsts_after [] (s.records ++ rs)) records;
          counts = λ are. ap (λ (r : Recorded). r.counts) (kept are) ∙ ap (λ b. counts_after_settlements s.reads b mid.marks.items xs) (stands.counts are)
              ∙ ap (λ (ms : List (Option Mark)). counts_after_settlements s.reads s.counts ms xs) (ap (λ ms. ms.items) between.marks ∙ stands.marks)
              ∙ ap (counts_after_settlements s.reads s.counts s.marks) same;
        },
        λ are. subst (λ (rs : List Record). Appends start taken' (texts_of text (s.records ++ rs))) records (wrote are),
      )

  -- if these records were noted, and none had been noted as unexpected before, it is noted whether one of them is (`any_unexpected`)
  pub settles_unexpected : (new : Station) → mid.recorded.unexpected ≡ false → UpdatesRecorded mid new xs
      → new.recorded.unexpected ≡ any_unexpected false (records_of s.reads s.progress.moment.utc s.marks x.settlements)
  settles_unexpected new none notes =
      ap (λ (r : Recorded). r.unexpected) (notes s.reads stands.reads) ∙ ap (λ b. any_unexpected b to_write) none ∙ ap (any_unexpected false) records_same

  -- if these records were noted, and no busy answer had been before, the longest wait is noted that one of them calls for
  pub settles_busy : (new : Station) → mid.recorded.busy ≡ 0 → UpdatesRecorded mid new xs
      → new.recorded.busy ≡ busy_after_settlements s.reads 0 s.marks x.settlements
  settles_busy new none notes =
      ap (λ (r : Recorded). r.busy) (notes s.reads stands.reads) ∙ ap (λ k. busy_after_settlements s.reads k mid.marks.items xs) none
      ∙ ap (λ (ms : List (Option Mark)). busy_after_settlements s.reads 0 ms xs) (ap (λ ms. ms.items) between.marks ∙ stands.marks)
      ∙ ap (busy_after_settlements s.reads 0 s.marks) same

  -- if the book failed at one of these records, it took the earlier records of the model and a part of the others
  pub settles_part : (start taken' : Option (List ℕ))
      → (AreReadings s.reads → WritesPart text s.records (s.records ++ to_write) start taken') → TookPart text s.records start taken' (settles x s)
  settles_part start taken' wrote are = subst (λ (rs : List Record). WritesPart text s.records (s.records ++ rs) start taken') records_same (wrote are)

  -- as `settles_ok` and `settles_part` together, by whether the book took all records (`Ok`) or failed at one (`Err`)
  pub settles_either : {X E : Type 0} (new : Station) (n : ℕ) (start taken' : Option (List ℕ)) (result : Result X E) → (many : n ≡ length x.settlements) → (paired : StayPaired s.marks x)
      → (wrote : AreReadings s.reads → WritesBy text s.records (s.records ++ to_write) start taken' result) → (takes : OnOk result (DropsMarks mid new n))
      → (notes : OnOk result (UpdatesRecorded mid new xs)) → RefinesOrTookPart text s.records new start taken' (settles x s) result
  settles_either new n start taken' (Ok r) many paired wrote is notes = settles_ok new n start taken' many paired wrote is notes
  settles_either new n start taken' (Err r) many paired wrote is notes = settles_part start taken' wrote

-- a link that recorded the acts `xs` and then the acts `ys` recorded `xs ++ ys`
pub adds_acts_append : (a b c : Option (List Act)) (xs ys : List Act) → AddsActs a b xs → AddsActs b c ys → AddsActs a c (xs ++ ys)
adds_acts_append None b c xs ys p q = tt
adds_acts_append (Some a) None c xs ys p q = absurd p
adds_acts_append (Some a) (Some b) None xs ys p q = absurd q
adds_acts_append (Some a) (Some b) (Some c) xs ys p q = q ∙ ap (λ zs. zs ++ ys) p ∙ append_assoc a xs ys

-- a station is as a model, whatever it has noted of commands that ended as unexpected, or by a busy answer
refines_forgetting : (station : Station) (b : Bool) (k : ℕ) (s : Model) → Refines station s
    → Refines (record station { recorded = record station.recorded { unexpected = b; busy = k } }) s
refines_forgetting station b k s stands = record {
  progress = stands.progress;
  ids = stands.ids;
  width = stands.width;
  marks = stands.marks;
  paired = stands.paired;
  assembles = stands.assembles;
  tally = stands.tally;
  well = stands.well;
  listed = stands.listed;
  fresh = stands.fresh;
  reads = stands.reads;
  firsts = stands.firsts;
  counts = stands.counts;
}

-- a station that noted whether a line that comes calls for a synchronization, and that no command ended as unexpected or by a busy answer, is
-- as the model that noted the former
pub refines_called : (mid new : Station) (line : List ℕ) (s : Model) → Refines mid s
    → new ≡ record mid { progress = doubt_noted (calls_for_renewal mid.client.ids line) mid.progress; recorded = record mid.recorded { unexpected = false; busy = 0 } }
    → Refines new (line_called line s)
refines_called mid new line s stands is =
    subst (λ (x : Station). Refines x (line_called line s)) (sym is)
    (refines_forgetting (record mid { progress = doubt_noted (calls_for_renewal mid.client.ids line) mid.progress }) false 0 (line_called line s)
    (refines_with mid (doubt_noted (calls_for_renewal mid.client.ids line) mid.progress) (doubt_noted (calls_for_renewal s.client line)) s stands
    (ap (λ ids. doubt_noted (calls_for_renewal ids line) mid.progress) stands.ids)))

-- a station that noted whether a line ended a command as unexpected is as the model that noted it
pub refines_doubted : (mid : Station) (p : Progress) (b b' : Bool) (s : Model) → Refines mid s → b ≡ b' → p ≡ doubt_noted b mid.progress
    → Refines (record mid { progress = p }) (with_progress (doubt_noted b') s)
refines_doubted mid p b b' s stands e is = refines_with mid p (doubt_noted b') s stands (is ∙ ap (λ t. doubt_noted t mid.progress) e)

-- a station that noted the wait that a line's busy answers call for is as the model that noted it
pub refines_held : (mid : Station) (p : Progress) (k k' : ℕ) (s : Model) → Refines mid s → k ≡ k' → p ≡ hold_noted k mid.progress
    → Refines (record mid { progress = p }) (with_progress (hold_noted k') s)
refines_held mid p k k' s stands e is = refines_with mid p (hold_noted k') s stands (is ∙ ap (λ n. hold_noted n mid.progress) e)

-- a station that noted what a line was and settled is as the model that noted it
pub refines_noted : (mid : Station) (p : Progress) (b b' : Bool) (l l' : List (Settlement Asked)) (n n' : ℕ) (s : Model) → Refines mid s → b ≡ b' → l ≡ l' → n ≡ n'
    → p ≡ line_noted b l n mid.progress → Refines (record mid { progress = p }) (with_progress (line_noted b' l' n') s)
refines_noted mid p b b' l l' n n' s stands e f h is =
    refines_with mid p (line_noted b' l' n') s stands
    (is ∙ ap (λ t. line_noted t l n mid.progress) e ∙ ap (λ t. line_noted b' t n mid.progress) f ∙ ap (λ t. line_noted b' l' t mid.progress) h)

-- a station whose progress changed, and whose requests timed out at a moment, is as the model at that moment
pub refines_expired : (station new : Station) (p q : Progress) (m : Moment) (s : Model) → Refines station s → p ≡ q
    → new ≡ station_expiring m.elapsed (record station { progress = p })
    → Refines new (with_moment m (with_progress (λ x. q) s))
refines_expired station new p q m s stands e is = subst (λ (x : Station). Refines x (with_moment m (with_progress (λ x. q) s))) (sym is) (record {
  progress = e;
  ids = ap (λ ids. expires ids m.elapsed) stands.ids;
  width = stands.width;
  marks = stands.marks;
  paired = stands.paired ∙ sym (length-map s.client.waiting (expired m.elapsed));
  assembles = stands.assembles;
  tally = stands.tally;
  well = stands.well;
  listed = stands.listed;
  fresh = λ are. ap (map (cut_to m.elapsed)) (stands.fresh are);
  reads = stands.reads;
  firsts = stands.firsts;
  counts = stands.counts;
})

-- a station whose requests timed out at a moment is as the model at that moment
pub refines_timed_out : (old new : Station) (m : Moment) (s : Model) → Refines old s → new ≡ station_expiring m.elapsed old → Refines new (with_moment m s)
refines_timed_out old new m s stands is = refines_expired old new old.progress s.progress m s stands stands.progress is

-- a station that couldn't read the clock, and noted that, made an act that performs `action`, if that action may have such an act
-- (`performs`), and the model notes no more of it than the cause (`same`)
pub untold_does : {commands : List Task} {action : Action} {next : Model → Act → Model} {told told' : Option (List Act)} {old new : Station}
    → (performs : (s : Model) → Performs commands s action Untold) → (same : (s : Model) → with_progress (failing cause.Clock) s ≡ next s Untold)
    → ReadsMoment told told' old new None
    → (text : Record → List ℕ) (known : Option (List ℕ)) → Makes commands action next (as_seen told text known old) (as_seen told' text known new)
untold_does {old = old} {new = new} performs same read text known = record {
  act = Untold;
  tells = read.0;
  goes = λ s start stands so.
      let failed : Refines (record old { progress = failing cause.Clock old.progress }) (with_progress (failing cause.Clock) s) =
      refines_with old (failing cause.Clock old.progress) (failing cause.Clock) s stands refl in (
        performs s,
        subst (λ (x : Model). Refines new x) (same s) (subst (λ (x : Station). Refines x (with_progress (failing cause.Clock) s)) (sym read.1) failed),
        subst (λ (x : Model). Took text start known x) (same s) so,
      );
}

-- as many requests are outstanding at a station as in its model
pub outstanding_same : (station : Station) (s : Model) → Refines station s → (waiting_of_station station).all ≡ (waiting_of s).all
outstanding_same station s stands = ap (λ (c : ById Asked). length c.waiting) stands.ids

-- as many commands are outstanding at a station as in its model
pub outstanding_commands_same : (station : Station) (s : Model) → Refines station s → (waiting_of_station station).commands ≡ (waiting_of s).commands
outstanding_commands_same station s stands = ap commands_in stands.marks

-- once what a piece settled is counted, equal progresses still are equal, if as many commands were outstanding before the piece,
-- and as many requests and commands are after it
pub early_noted_same : (plan : Plan) (until : Until) (b b' : ℕ) (w w' : Waiting) (p p' : Progress) → b ≡ b' → w.all ≡ w'.all → w.commands ≡ w'.commands → p ≡ p'
    → early_noted plan w.commands (bytes_noted plan until b w p) ≡ early_noted plan w'.commands (bytes_noted plan until b' w' p')
early_noted_same plan until b b' w w' p p' eb ea ec ep =
    ap (λ x. early x w.all w.commands p) eb ∙ ap (λ x. early b' x w.commands p) ea ∙ ap (λ x. early b' w'.all x p) ec ∙ ap (λ x. early b' w'.all w'.commands x) ep where
      -- the progress once what a piece settled is counted, from p: `before` commands were outstanding before the piece, and `all`
      -- requests, of which `commands` are of commands, are after it
      early : ℕ → ℕ → ℕ → Progress → Progress
      early before all commands p = early_noted plan commands (bytes_noted plan until before (record { all = all; current = 0; commands = commands; well = false; listed = false; fresh = 0 }) p)

-- a close makes equal progresses of equal ones, where as many commands are outstanding
pub closed_same : (plan : Plan) (w w' : Waiting) (why : Cause) (p p' : Progress) → w.commands ≡ w'.commands → p ≡ p' → closed plan w why p ≡ closed plan w' why p'
closed_same plan w w' why p p' ec ep = kept why ∙ ap (closed plan w' why) ep where
  -- the lemma above, for one progress
  kept : (why : Cause) → closed plan w why p ≡ closed plan w' why p
  kept cause.Done = refl
  kept cause.Clock = refl
  kept cause.Turns = refl
  kept cause.Stale = refl
  kept cause.Stopped = refl
  kept why = ap (λ n. after_failure plan n why p) ec
