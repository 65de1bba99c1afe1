-- Frames that an instrument answered are lines that it was handed; frames that are no lines are ignored.
use Rattle.gc_instrument.proofs.Common.{◌≡◌, ℕ, ◌+◌, ◌<◌, List, [], ◌∷◌, ◌++◌, length, map, take, Bool, Option, Some, None, Result, Ok, Err, refl, sym, ap, ◌∙◌, subst, true, false, option_map, option_to_list, length-map, AnswersInOrder, AnswersAll, AnswersPart, AnswersFrames, AppendsAnswer, Progress, all_of, progress, AnswersLines, RepliesTo, frames, line_in, lines, rest_of, rest_behind, with_end, frames_behind, State, IsReplied, IsReplyToRequest, Hears, replies_text}
use Rattle.std.specs.List.{filter_map}
use Rattle.std.proofs.lemmas.Option.{none-some}
use Rattle.std.proofs.lemmas.List.Elements.{filter_map-append}
use Rattle.std.proofs.lemmas.List.Folds.{flat_map-map}
use Rattle.gc_lines.specs.declared.frame.Frame.{Frame}
use Rattle.gc_lines.specs.declared.frame.Frame.TheVariants.{Line, Cleared, Overlong, More}
use Rattle.gc_lines.specs.declared.served.Served.{Served}
use Rattle.gc_lines.specs.declared.served.ServeFault.{ServeFault}
use Rattle.gc_lines.specs.declared.served.ServeFault.TheVariants.{Read, Write, TooManyReads}
use Rattle.gc_lines.proofs.Known.{Appends-is}
use Rattle.gc_lines.proofs.Passing.{frames-append}
use Rattle.gc_instrument.proofs.Answering.{is_replied}
use Rattle.gc_instrument.specs.Serving.{AnswersFrame, ServesAll, ServesPart, Serves}

-- a text that answers a frame by replies that are `IsReplyToRequest` answers it as `AnswersFrame` says
answers_frame : (before after : State) (frame : Frame) (text : Option (List ℕ)) → AnswersLines (RepliesTo IsReplyToRequest) before frame after text
    → AnswersFrame before frame after text
answers_frame before after (Line line) text h = (h.0, is_replied before after line.items h.0 h.1, h.2)
answers_frame before after Cleared text h = h
answers_frame before after Overlong text h = h
answers_frame before after More text h = h

-- where the text that was appended, or none, answers a frame by replies that are `IsReplyToRequest`, it answers the frame as
-- `AnswersFrame` says
pub answered_frame : (before after : State) (frame : Frame) (old new : List ℕ) (has_text : Bool)
    → AppendsAnswer (AnswersLines (RepliesTo IsReplyToRequest) before frame after) old new has_text
    → AppendsAnswer (AnswersFrame before frame after) old new has_text
answered_frame before after frame old new true h = (h.0, answers_frame before after frame (Some h.0) h.1, h.2)
answered_frame before after frame old new false h = (answers_frame before after frame None h.0, h.1)

-- What an instrument heard of frames.

-- the lines of frames
abbrev pub lines_of : List Frame → List (List ℕ)
lines_of seen = filter_map line_in seen

-- mapping f over an optional element, and over the list after it, is mapping f over the two in a row
option_to_list_map : {X Y : Type 0} (f : X → Y) (o : Option X) (xs : List X)
    → option_to_list (option_map f o) ++ map f xs ≡ map f (option_to_list o ++ xs)
option_to_list_map f None xs = refl
option_to_list_map f (Some x) xs = refl

-- these lines take the instrument from s to t, and the texts are its replies, each with its CR LF
record Heard (s t : State) (heard : List (List ℕ)) (texts : List (List ℕ)) : Type 0 where
  replies : List (List ℕ)
  hears : Hears s heard t replies
  texts_are : texts ≡ map with_end replies

-- Here the instrument answers a frame by `text`, and goes from s to u; `Heard` holds of the lines and texts behind, from u to t.
module _ (s u t : State) (text : Option (List ℕ)) (heard rest : List (List ℕ)) (behind : Heard u t heard rest) where
  -- if the frame is a line, `Heard` holds from s to t, with the line and its text in front
  heard_line : (line : List ℕ) → AnswersFrame s (Line (record { items = line })) u text → Heard s t (line ∷ heard) (option_to_list text ++ rest)
  heard_line line (reply, replied, text_is) = record {
    replies = option_to_list reply ++ behind.replies;
    hears = (u, reply, behind.replies, replied, behind.hears, refl);
    texts_are = ap (λ (o : Option (List ℕ)). option_to_list o ++ rest) text_is
        ∙ ap (λ (ts : List (List ℕ)). option_to_list (option_map with_end reply) ++ ts) behind.texts_are ∙ option_to_list_map with_end reply behind.replies;
  }

  -- if the frame is no line, so that it changes nothing and has no text, `Heard` holds of the same lines from s to t
  heard_silence : (u ≡ s) × (text ≡ None) → Heard s t heard (option_to_list text ++ rest)
  heard_silence (same, none) = record {
    replies = behind.replies;
    hears = subst (λ (v : State). Hears v heard t behind.replies) same behind.hears;
    texts_are = ap (λ (o : Option (List ℕ)). option_to_list o ++ rest) none ∙ behind.texts_are;
  }

-- where an instrument answered frames in order, with these texts, it heard the lines among them, and the texts are its replies
-- (`Heard`)
heard_frames : (s t : State) (seen : List Frame) (texts : List (List ℕ)) → AnswersInOrder State Frame AnswersFrame s seen t texts
    → Heard s t (lines_of seen) texts
heard_frames s t [] texts h = record { replies = []; hears = (h.0, refl); texts_are = h.1 }
heard_frames s t (Line line ∷ later) texts h = subst (Heard s t (line.items ∷ lines_of later)) (sym h.5) (heard_line s h.0 t h.1 (lines_of later) h.2 (heard_frames h.0 t later h.2 h.4) line.items h.3)
heard_frames s t (Cleared ∷ later) texts h = subst (Heard s t (lines_of later)) (sym h.5) (heard_silence s h.0 t h.1 (lines_of later) h.2 (heard_frames h.0 t later h.2 h.4) h.3)
heard_frames s t (Overlong ∷ later) texts h = subst (Heard s t (lines_of later)) (sym h.5) (heard_silence s h.0 t h.1 (lines_of later) h.2 (heard_frames h.0 t later h.2 h.4) h.3)
heard_frames s t (More ∷ later) texts h = subst (Heard s t (lines_of later)) (sym h.5) (heard_silence s h.0 t h.1 (lines_of later) h.2 (heard_frames h.0 t later h.2 h.4) h.3)

-- where frames were all answered, the lines among them were all served
all_serves : (s t : Progress State) (seen : List Frame) → AnswersAll AnswersFrame s t seen → ServesAll s t (lines_of seen)
all_serves s t seen all =
    let h = heard_frames s.state t.state seen all.texts all.answers in
    record {
      replies = h.replies;
      hears = h.hears;
      counts = all.counts ∙ ap (λ (texts : List (List ℕ)). s.whole + length texts) h.texts_are ∙ ap (λ n. s.whole + n) (length-map h.replies with_end);
      took = Appends-is s.taken t.taken _ _ (ap all_of h.texts_are ∙ flat_map-map (λ (text : List ℕ). text) with_end h.replies) all.took;
    }

-- the frame is a line with a reply, and the text is that reply with its CR LF
record RepliedLine (s t : State) (frame : Frame) (text : List ℕ) : Type 0 where
  line : List ℕ
  reply : List ℕ
  is_line : (later : List Frame) → lines_of (frame ∷ later) ≡ line ∷ lines_of later
  replied : IsReplied s line t (Some reply)
  text_is : text ≡ with_end reply

-- a line whose text is sent has a reply, and the text is that reply with its CR LF (`RepliedLine`)
replied_line : (s t : State) (line : List ℕ) (reply : Option (List ℕ)) (text : List ℕ) → IsReplied s line t reply
    → ◌≡◌ {A = Option (List ℕ)} (Some text) (option_map with_end reply) → RepliedLine s t (Line (record { items = line })) text
replied_line s t line None text replied is = let wrong : ⊥ = cc in absurd wrong
replied_line s t line (Some reply) text replied is = record { line = line; reply = reply; is_line = λ later. refl; replied = replied; text_is = cc }

-- a frame whose text is sent is a line with a reply, and the text is that reply with its CR LF (`RepliedLine`)
replied_frame : (s t : State) (frame : Frame) (text : List ℕ) → AnswersFrame s frame t (Some text) → RepliedLine s t frame text
replied_frame s t (Line line) text h = replied_line s t line.items h.0 text h.1 h.2
replied_frame s t Cleared text h = absurd (none-some text (sym h.1))
replied_frame s t Overlong text h = absurd (none-some text (sym h.1))
replied_frame s t More text h = absurd (none-some text (sym h.1))

-- where frames were answered up to a part of a text, the lines among them were served up to the same part of a reply with its CR
-- LF
part_serves : (s t : Progress State) (seen : List Frame) (bytes : ℕ) → AnswersPart AnswersFrame s t seen bytes → ServesPart s t (lines_of seen) bytes
part_serves s t seen bytes part =
    let h = heard_frames s.state part.state part.earlier part.texts part.answers in
    let d = replied_frame part.state t.state part.frame part.text part.gives in
    record {
      earlier = lines_of part.earlier;
      line = d.line;
      later = lines_of part.later;
      order = ap lines_of part.order ∙ filter_map-append line_in part.earlier (part.frame ∷ part.later) ∙ ap (λ (xs : List (List ℕ)). lines_of part.earlier ++ xs) (d.is_line part.later);
      state = part.state;
      replies = h.replies;
      hears = h.hears;
      reply = d.reply;
      gives = d.replied;
      counts = part.counts ∙ ap (λ (texts : List (List ℕ)). s.whole + length texts) h.texts_are ∙ ap (λ n. s.whole + n) (length-map h.replies with_end);
      not_all = subst (λ (text : List ℕ). bytes < length text) d.text_is part.not_all;
      took = Appends-is s.taken t.taken _ _ (ap (λ (xs : List ℕ). xs ++ take bytes part.text) (ap all_of h.texts_are ∙ flat_map-map (λ (text : List ℕ). text) with_end h.replies)
          ∙ ap (λ (xs : List ℕ). replies_text h.replies ++ take bytes xs) d.text_is) part.took;
    }

-- answering the frames with some result is serving their lines with that result
pub serves_frames : (s t : State) (seen : List Frame) (a b : Option (List ℕ)) (r : Result Served ServeFault)
    → AnswersFrames AnswersFrame s t seen a b r → Serves s t (lines_of seen) a b r
serves_frames s t seen a b (Ok served) h = all_serves (progress s a 0) (progress t b served.replies) seen h
serves_frames s t seen a b (Err (Read n)) h = all_serves (progress s a 0) (progress t b n) seen h
serves_frames s t seen a b (Err (Write n bytes)) h = part_serves (progress s a 0) (progress t b n) seen bytes h
serves_frames s t seen a b (Err (TooManyReads n)) h = all_serves (progress s a 0) (progress t b n) seen h

-- the lines of two streams, one after the other, of which the first is empty or ends in a line feed, are those of the first
-- and then those of the second
pub lines-next : (first next : List ℕ) → rest_of first ≡ [] → lines (first ++ next) ≡ lines first ++ lines next
lines-next first next none =
    ap lines_of (frames-append first next) ∙ filter_map-append line_in (frames first) (frames_behind (rest_behind [] first) next)
    ∙ ap (λ (rest : List ℕ). lines first ++ lines_of (frames_behind rest next)) none
