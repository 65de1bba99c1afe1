-- What a judge writes of frames, one after the other, is the lines of their verdicts. A frame is ended where a line feed has
-- ended it. Throughout, s, t and u are states of the judge, which count the frames so far, and a and b what the sink had taken
-- before and has taken after.
use Rattle.gc_filters.proofs.Common.{◌≡◌, ℕ, ◌+◌, ◌-◌, ◌<◌, ◌≤◌, ◌^◌, min, true, false, cond, List, [], ◌∷◌, ◌++◌, length, take, map, Option, Some, Result, Ok, Err, refl, sym, ap, ◌∙◌, subst, arith, append_assoc, length-append, cond_both, length-map, option_to_list, Ports, AnswersInOrder, AnswersAll, AnswersPart, AnswersFrames, EndsBecause, progress, frames, frame_of, pieces_behind, is_line_feed, ends_in_return, Frame, Line, Cleared, Overlong, More, in_order_then, in_order_one, IsVerdict, AreSaidOf, said_of, verdict_text, verdict_line, verdict_lines_from, AreFrameVerdicts, frame_remark, WritesVerdictOn, JudgesFrame, WritesAll, WritesPart, Checks, Verdict}
use Rattle.std.specs.Prelude.{nat_lt}
use Rattle.std.specs.Fmt.{decimal}
use Rattle.gc_lines.specs.declared.served.Served.{Served}
use Rattle.gc_lines.specs.declared.served.ServeFault.{ServeFault}
use Rattle.gc_lines.specs.declared.served.ServeFault.TheVariants.{Read, Write, TooManyReads}
use Rattle.gc_filters.specs.declared.check.Judge.{Judge}

-- a line feed has ended each of these frames
AreEnded : List Frame → Type 0
AreEnded [] = Unit {0}
AreEnded (Line line ∷ later) = AreEnded later
AreEnded (Cleared ∷ later) = AreEnded later
AreEnded (Overlong ∷ later) = AreEnded later
AreEnded (More ∷ later) = ⊥

-- the frames of pieces that line feeds ended are ended
ended_pieces : (parts : List (List ℕ)) → AreEnded (map frame_of parts)
unfolding AreEnded
ended_pieces [] = tt
ended_pieces (part ∷ later) =
    let others = ended_pieces later in
    let line : Frame = Line (record { items = take (length part - 1) part }) in
    let long = nat_lt 512 (length part - 1) in
    cond_both (ends_in_return part) (cond long Overlong line) Cleared (λ frame. AreEnded (frame ∷ map frame_of later))
    (λ _. cond_both long Overlong line (λ frame. AreEnded (frame ∷ map frame_of later)) (λ _. others) (λ _. others)) (λ _. others)

-- where all frames of two lists are ended, so are those of the first
ended_front : (xs ys : List Frame) → AreEnded (xs ++ ys) → AreEnded xs
unfolding AreEnded
ended_front [] ys h = tt
ended_front (Line line ∷ xs) ys h = ended_front xs ys h
ended_front (Cleared ∷ xs) ys h = ended_front xs ys h
ended_front (Overlong ∷ xs) ys h = ended_front xs ys h
ended_front (More ∷ xs) ys h = h

-- there are no more pieces than bytes
few_pieces : (before bytes : List ℕ) → length (pieces_behind before bytes) ≤ length bytes
few_pieces before [] = omega arith
few_pieces before (b ∷ bs) = elim (is_line_feed b) as (λ t. length (cond t (before ∷ pieces_behind [] bs) (pieces_behind (before ++ b ∷ []) bs)) ≤ length (b ∷ bs)) [
  | true ↦ omega (arith, few_pieces [] bs)
  | false ↦ omega (arith, few_pieces (before ++ b ∷ []) bs)
]

-- there are no more frames than bytes
few_frames : (given : List ℕ) → length (frames given) ≤ length given
few_frames given = omega (arith, length-map (pieces_behind [] given) frame_of, few_pieces [] given)

-- these texts are the lines of the verdicts on these frames, the first of which is frame n + 1
record Judged (n : ℕ) (seen : List Frame) (texts : List (List ℕ)) : Type 0 where
  said : List (List ℕ)
  are : AreSaidOf seen said
  numbered : texts ≡ verdict_lines_from (n + 1) said

-- where n + 1 is below 2^64, the judge had counted n frames and wrote the verdict on the next (`WritesVerdictOn`), and `rest` are
-- the lines of the verdicts on the later frames, from the count n + 1 on (`Judged`), the written text and `rest` are those of
-- this frame and the later ones, from the count n on
judged_next : (s u : Judge) (frame : Frame) (later : List Frame) (text : Option (List ℕ)) (rest : List (List ℕ)) (n : ℕ) → s.frames ≡ n → n + 1 < 2 ^ 64
    → WritesVerdictOn s frame u text → (u.frames ≡ n + 1 → Judged (n + 1) later rest) → Judged n (frame ∷ later) (option_to_list text ++ rest)
judged_next s u frame later text rest n at few (said, is, counts, told) next =
    let more : u.frames ≡ n + 1 = omega (arith, at, few, counts) in
    let k = next more in
    record {
      said = said ∷ k.said;
      are = (is, k.are);
      numbered = ap (λ (o : Option (List ℕ)). option_to_list o ++ rest) told ∙ ap (λ (m : ℕ). verdict_line m said ∷ rest) more
          ∙ ap (λ (ts : List (List ℕ)). verdict_line (n + 1) said ∷ ts) k.numbered;
    }

-- ended frames that were judged in order, from the count n on, got the lines of their verdicts, as long as 64 bits can count them
judged_in_order : (s t : Judge) (seen : List Frame) (texts : List (List ℕ)) (n : ℕ) → s.frames ≡ n → n + length seen < 2 ^ 64 → AreEnded seen
    → AnswersInOrder Judge Frame JudgesFrame s seen t texts → Judged n seen texts
unfolding AreEnded
judged_in_order s t [] texts n at few ended h = record { said = []; are = tt; numbered = h.1 }
judged_in_order s t (Line line ∷ later) texts n at few ended h = subst (Judged n (Line line ∷ later)) (sym h.5)
    (judged_next s h.0 (Line line) later h.1 h.2 n at (omega (arith, few)) h.3 (λ more. judged_in_order h.0 t later h.2 (n + 1) more (omega (arith, few)) ended h.4))
judged_in_order s t (Cleared ∷ later) texts n at few ended h = subst (Judged n (Cleared ∷ later)) (sym h.5)
    (judged_next s h.0 Cleared later h.1 h.2 n at (omega (arith, few)) h.3 (λ more. judged_in_order h.0 t later h.2 (n + 1) more (omega (arith, few)) ended h.4))
judged_in_order s t (Overlong ∷ later) texts n at few ended h = subst (Judged n (Overlong ∷ later)) (sym h.5)
    (judged_next s h.0 Overlong later h.1 h.2 n at (omega (arith, few)) h.3 (λ more. judged_in_order h.0 t later h.2 (n + 1) more (omega (arith, few)) ended h.4))
judged_in_order s t (More ∷ later) texts n at few ended h = absurd ended

-- ended frames that were judged from the first on got the lines of their verdicts, if they are fewer than 2 ^ 64
verdicts_of : (s t : Judge) (seen : List Frame) (texts : List (List ℕ)) → s.frames ≡ 0 → length seen < 2 ^ 64 → AreEnded seen
    → AnswersInOrder Judge Frame JudgesFrame s seen t texts → AreFrameVerdicts seen texts
verdicts_of s t seen texts at few ended h =
    let k = judged_in_order s t seen texts 0 at (omega (arith, few)) ended h in
    record { said = k.said; are = k.are; numbered = k.numbered }

-- a judge that has counted no frame gets fewer than 2 ^ 64 bytes. a and b are what the sink had taken before and after, and
-- `count` is how many lines of verdicts went out whole
module _
    (s t : Judge) (given : List ℕ) (a b : Option (List ℕ)) (count : ℕ) (at : s.frames ≡ 0) (few : length given < 2 ^ 64) where
  -- where all frames were judged, and the lines of their verdicts went out, the check is as `WritesAll` has it
  all_checked : AnswersAll JudgesFrame (progress s a 0) (progress t b count) (frames given) → WritesAll AreFrameVerdicts (frames given) a b 0 count
  all_checked all = record {
    texts = all.texts;
    are = verdicts_of s t (frames given) all.texts at (omega (arith, few, few_frames given)) (ended_pieces (pieces_behind [] given)) all.answers;
    counts = omega (arith, all.counts);
    took = all.took;
  }

  -- where the first frames were judged, and the lines of their verdicts went out, but of the last line only a front that isn't all
  -- of it, the check is as `WritesPart` has it
  part_checked : (bytes : ℕ) → AnswersPart JudgesFrame (progress s a 0) (progress t b count) (frames given) bytes
      → WritesPart AreFrameVerdicts (frames given) a b 0 count bytes
  part_checked bytes part =
      let seen = part.earlier ++ part.frame ∷ [] in
      let order : frames given ≡ seen ++ part.later = part.order ∙ sym (append_assoc part.earlier (part.frame ∷ []) part.later) in
      let ended : AreEnded seen = ended_front seen part.later (subst (λ (fs : List Frame). AreEnded fs) order (ended_pieces (pieces_behind [] given))) in
      let fewer : length seen < 2 ^ 64 = omega (arith, few, few_frames given, ap (λ (fs : List Frame). length fs) order, length-append seen part.later) in
      record {
        seen = seen;
        later = part.later;
        order = order;
        whole = part.texts;
        line = part.text;
        are = verdicts_of s t seen (part.texts ++ part.text ∷ []) at fewer ended
            (in_order_then JudgesFrame s part.state t part.earlier (part.frame ∷ []) part.texts (part.text ∷ []) part.answers
            (in_order_one JudgesFrame part.state t part.frame (Some part.text) part.gives));
        counts = omega (arith, part.counts);
        not_all = part.not_all;
        took = part.took;
      }

-- where the frames of fewer than 2 ^ 64 bytes were judged from the first on, what went out of their verdicts' lines, by the
-- result, is what `Checks` says
pub frames_are_checked : (s t : Judge) (given : List ℕ) (a b : Option (List ℕ)) (r : Result Served ServeFault) → s.frames ≡ 0 → length given < 2 ^ 64
    → AnswersFrames JudgesFrame s t (frames given) a b r → Checks given a b r
frames_are_checked s t given a b (Ok served) at few h = all_checked s t given a b served.replies at few h
frames_are_checked s t given a b (Err (Read n)) at few h = all_checked s t given a b n at few h
frames_are_checked s t given a b (Err (Write n bytes)) at few h = part_checked s t given a b n at few bytes h
frames_are_checked s t given a b (Err (TooManyReads n)) at few h = all_checked s t given a b n at few h

-- if a stream ended for the reason that the result gives (`EndsBecause`), no more reads were answered than are allowed
pub few_reads : (old new : Ports) (most : ℕ) (r : Result Served ServeFault) → EndsBecause old new most r → new.reads ≤ old.reads + most
few_reads old new most (Ok served) h = h.1
few_reads old new most (Err (Read n)) h = omega (arith, h.0)
few_reads old new most (Err (Write n bytes)) h = h.1
few_reads old new most (Err (TooManyReads n)) h = omega (arith, h.0)

-- where a frame has this verdict, and the count grows by one, the line of what is said of the frame is what `JudgesFrame` has the judge
-- write
pub judged_frame : (s u : Judge) (frame : Frame) (v : Verdict) → IsVerdict frame v → u.frames ≡ min (s.frames + 1) (2 ^ 64 - 1)
    → JudgesFrame s frame u (Some (verdict_line u.frames (said_of frame v)))
judged_frame s u (Line line) v is counts = (said_of (Line line) v, record { verdict = v; is = is; text = refl }, counts, refl)
judged_frame s u Cleared v is counts = (said_of Cleared v, record { verdict = v; is = is; text = refl }, counts, refl)
judged_frame s u Overlong v is counts = (said_of Overlong v, record { verdict = v; is = is; text = refl }, counts, refl)
judged_frame s u More v is counts = absurd is

-- where the number n, a space (byte 32), the text of the verdict v, what is remarked of the frame and a line feed (10) were appended to
-- `old`, one after the other, the line of what is said of the frame was appended to it
pub line_of_parts : (n : ℕ) (frame : Frame) (v : Verdict) (old a b c d e : List ℕ)
    → a ≡ old ++ decimal n → b ≡ a ++ 32 ∷ [] → c ≡ b ++ verdict_text v → d ≡ c ++ frame_remark frame → e ≡ d ++ 10 ∷ []
    → e ≡ old ++ verdict_line n (said_of frame v)
line_of_parts n frame v old a b c d e first second third fourth last =
    let digits = decimal n in
    let verdict = verdict_text v in
    let remark = frame_remark frame in
    let said : d ≡ ((old ++ digits) ++ 32 ∷ []) ++ (verdict ++ remark) =
    fourth ∙ ap (λ (xs : List ℕ). xs ++ remark) (third ∙ ap (λ (xs : List ℕ). xs ++ verdict) (second ∙ ap (λ (xs : List ℕ). xs ++ 32 ∷ []) first))
    ∙ append_assoc ((old ++ digits) ++ 32 ∷ []) verdict remark in
    let whole : e ≡ old ++ digits ++ 32 ∷ [] ++ (verdict ++ remark) ++ 10 ∷ [] = last ∙ ap (λ (xs : List ℕ). xs ++ 10 ∷ []) said in
    let line : e ≡ old ++ (digits ++ 32 ∷ [] ++ (verdict ++ remark) ++ 10 ∷ []) = whole ∙ simp append_assoc in
    line
