-- Texts that wait for one another: how one more joins them, how they are sent, and which part of them went out.
use Rattle.gc_lines.proofs.Common.{◌≡◌, ℕ, ◌+◌, ◌-◌, ◌<◌, ◌≤◌, Bool, true, false, List, [], ◌∷◌, ◌++◌, length, take, map, Option, Some, None, nat_lt, cond, refl, sym, ap, ◌∙◌, subst, arith, append_assoc, length-append, option_to_list, Appends, ltb-true, ltb-false, lt-ltb, append-nil, length-map, map-append, take-append-le, take-append-add, Appends-nil, AnswerRule, AnswersInOrder, AnswersAll, AnswersPart, Progress, all_of, progress, Gathering, GathersPart, TakesTextsPart, whole_and_part, TakesFront, Frame}
use Rattle.gc_lines.proofs.InOrder.{in_order_then, in_order_one, all_of-append, all_then, part_then, part_with_later, one_part}
use Rattle.gc_lines.proofs.Known.{Appends-is, Appends-parts}

-- if all frames `seen` were answered and their texts went out, `Gathering` is true of `seen`, with no text that waits
pub gathering_start : {State : Type 0} (rule : AnswerRule State Frame) (from to : Progress State) (seen : List Frame)
    → AnswersAll rule from to seen → Gathering rule from to seen [] []
gathering_start rule from to seen all = record {
  state = to.state;
  done = seen;
  held = [];
  texts = [];
  order = sym (append-nil seen);
  all = all;
  holds = (refl, refl);
  text_is = refl;
  lengths_are = refl;
}

-- if the texts have no lengths, there are no texts
no_texts : (texts : List (List ℕ)) → [] ≡ map length texts → texts ≡ []
no_texts [] e = refl
no_texts (t ∷ ts) e = cc

-- the text `more` joined the texts that wait, and its length theirs: they were `text` and `lengths`, and are now `text'` and
-- `lengths'`
pub record Joins (text lengths more text' lengths' : List ℕ) : Type 0 where
  pub longer : text' ≡ text ++ more
  pub counted : lengths' ≡ lengths ++ length more ∷ []

-- Here `Gathering` is true of the frames `seen`, with the texts that wait in `text`, and their lengths in `lengths`.
module _ {State : Type 0} (rule : AnswerRule State Frame) (from to : Progress State) (seen : List Frame) (text lengths : List ℕ)
    (g : Gathering rule from to seen text lengths) where
  -- if there are no lengths, no text waits
  no_text : lengths ≡ [] → text ≡ []
  no_text none = g.text_is ∙ ap all_of (no_texts g.texts (sym none ∙ g.lengths_are))

  -- if the rule answers the next frame without a text, `Gathering` is true of `seen` and then that frame, with the same texts
  -- waiting, and with the state after that frame
  pub gathering_silent : (next : State) (frame : Frame) → rule to.state frame next None
      → Gathering rule from (progress next to.taken to.whole) (seen ++ frame ∷ []) text lengths
  gathering_silent next frame gives =
      let same = append-nil g.texts in
      record {
        state = g.state;
        done = g.done;
        held = g.held ++ frame ∷ [];
        texts = g.texts ++ [];
        order = ap (λ (fs : List Frame). fs ++ frame ∷ []) g.order ∙ append_assoc g.done g.held (frame ∷ []);
        all = g.all;
        holds = in_order_then rule g.state to.state next g.held (frame ∷ []) g.texts [] g.holds (in_order_one rule to.state next frame None gives);
        text_is = g.text_is ∙ sym (ap all_of same);
        lengths_are = g.lengths_are ∙ sym (ap (λ (ts : List (List ℕ)). map length ts) same);
      }

  -- if the rule answers the next frame with the text `more`, which joins the texts that wait, `Gathering` is true of `seen` and
  -- then that frame, with the texts and lengths of then and the state after that frame
  pub gathering_more : (next : State) (frame : Frame) (more text' lengths' : List ℕ) → rule to.state frame next (Some more)
      → Joins text lengths more text' lengths' → Gathering rule from (progress next to.taken to.whole) (seen ++ frame ∷ []) text' lengths'
  gathering_more next frame more text' lengths' gives joins = record {
    state = g.state;
    done = g.done;
    held = g.held ++ frame ∷ [];
    texts = g.texts ++ more ∷ [];
    order = ap (λ (fs : List Frame). fs ++ frame ∷ []) g.order ∙ append_assoc g.done g.held (frame ∷ []);
    all = g.all;
    holds = in_order_then rule g.state to.state next g.held (frame ∷ []) g.texts (more ∷ []) g.holds (in_order_one rule to.state next frame (Some more) gives);
    text_is = joins.longer ∙ ap (λ (xs : List ℕ). xs ++ more) g.text_is ∙ ap (λ (xs : List ℕ). all_of g.texts ++ xs) (sym (append-nil more))
        ∙ sym (all_of-append g.texts (more ∷ []));
    lengths_are = joins.counted ∙ ap (λ (ns : List ℕ). ns ++ length more ∷ []) g.lengths_are ∙ sym (map-append length g.texts (more ∷ []));
  }

  -- if the sink then took all texts that waited, all of `seen` were answered and their texts went out; `total` counts the
  -- texts that had gone out before and those that waited
  pub gathering_written : (after : Option (List ℕ)) (total : ℕ) → Appends to.taken after text → total ≡ to.whole + length lengths
      → AnswersAll rule from (progress to.state after total) seen
  gathering_written after total took counts =
      let out : AnswersAll rule (progress g.state to.taken to.whole) (progress to.state after total) g.held = record {
        texts = g.texts;
        answers = g.holds;
        counts = counts ∙ ap (λ (ns : List ℕ). to.whole + length ns) g.lengths_are ∙ ap (λ n. to.whole + n) (length-map g.texts length);
        took = Appends-is to.taken after text (all_of g.texts) g.text_is took;
      } in
      subst (λ (fs : List Frame). AnswersAll rule from (progress to.state after total) fs) (sym g.order)
      (all_then rule from (progress g.state to.taken to.whole) (progress to.state after total) g.done g.held g.all out)

  -- if there are no lengths, so that no text waits, all of `seen` were answered and their texts went out
  pub gathering_end : lengths ≡ [] → AnswersAll rule from to seen
  gathering_end none =
      gathering_written to.taken to.whole (Appends-is to.taken to.taken [] text (sym (no_text none)) (Appends-nil to.taken))
      (omega (arith, ap (λ (ns : List ℕ). length ns) none))

-- the first n bytes of the texts end within one of them: if the sink took just these, `AnswersPart` says which frames were
-- answered, and `whole_and_part` gives its numbers
record EndsWithin {State : Type 0} (rule : AnswerRule State Frame) (from : State) (seen : List Frame) (texts : List (List ℕ)) (whole n : ℕ) : Type 0 where
  reached : State
  count : ℕ
  bytes : ℕ
  part : (old new : Option (List ℕ)) → Appends old new (take n (all_of texts)) → AnswersPart rule (progress from old whole) (progress reached new count) seen bytes
  counts : whole_and_part whole n (map length texts) ≡ (count, bytes)

-- Here the rule answers the first frame with the first text.
module _ {State : Type 0} (rule : AnswerRule State Frame) (s u : State) (frame : Frame) (later : List Frame) (t : List ℕ) (rest : List (List ℕ)) (whole n : ℕ)
    (gives : rule s frame u (Some t)) where
  -- if the n bytes end within the first text, `EndsWithin` is true
  ends_in_first : nat_lt n (length t) ≡ true → EndsWithin rule s (frame ∷ later) (t ∷ rest) whole n
  ends_in_first e =
      let less : n < length t = ltb-true n (length t) e in
      let within : n ≤ length t = omega arith in
      let front : take n (t ++ all_of rest) ≡ take n t = take-append-le n t (all_of rest) within in
      record {
        reached = u;
        count = whole;
        bytes = n;
        part = λ old new took. part_with_later rule (progress s old whole) (progress u new whole) (frame ∷ []) later n
            (one_part rule (progress s old whole) (progress u new whole) frame t n gives (less, Appends-is old new _ _ front took) refl);
        counts = ap (λ (b : Bool). cond b (whole, n) (whole_and_part (whole + 1) (n - length t) (map length rest))) e;
      }

  -- if the n bytes hold the first text whole, and `EndsWithin` is true of the later frames and texts, with the bytes after that
  -- text and with one text more that went out whole, it is true of all frames and texts
  ends_in_later : nat_lt n (length t) ≡ false → EndsWithin rule u later rest (whole + 1) (n - length t)
      → EndsWithin rule s (frame ∷ later) (t ∷ rest) whole n
  ends_in_later e k =
      let more : length t ≤ n = ltb-false n (length t) e in
      let sizes : n ≡ length t + (n - length t) = omega arith in
      let front : take n (t ++ all_of rest) ≡ t ++ take (n - length t) (all_of rest) =
      ap (λ (m : ℕ). take m (t ++ all_of rest)) sizes ∙ take-append-add t (all_of rest) (n - length t) in
      record {
        reached = k.reached;
        count = k.count;
        bytes = k.bytes;
        part = λ old new took.
            let cut = Appends-parts old new t (take (n - length t) (all_of rest)) (Appends-is old new _ _ front took) in
            let first : AnswersAll rule (progress s old whole) (progress u cut.0 (whole + 1)) (frame ∷ []) = record {
              texts = t ∷ [];
              answers = in_order_one rule s u frame (Some t) gives;
              counts = omega arith;
              took = Appends-is old cut.0 t (t ++ []) (sym (append-nil t)) cut.1;
            } in
            part_then rule (progress s old whole) (progress u cut.0 (whole + 1)) (progress k.reached new k.count) (frame ∷ []) later k.bytes first
            (k.part cut.0 new cut.2);
        counts = ap (λ (b : Bool). cond b (whole, n) (whole_and_part (whole + 1) (n - length t) (map length rest))) e ∙ k.counts;
      }

-- Here a frame is answered before the later ones. n is a number of bytes, and `whole` counts the texts that went out before.
module _ {State : Type 0} (rule : AnswerRule State Frame) (s u : State) (frame : Frame) (later : List Frame) (whole n : ℕ) where
  -- if the rule answers the frame without a text, and `EndsWithin` is true of the later frames, it is true of the frame and the
  -- later ones, with the same texts and bytes
  ends_past_silent : (texts : List (List ℕ)) → rule s frame u None → EndsWithin rule u later texts whole n → EndsWithin rule s (frame ∷ later) texts whole n
  ends_past_silent texts gives k = record {
    reached = k.reached;
    count = k.count;
    bytes = k.bytes;
    part = λ old new took.
        let first : AnswersAll rule (progress s old whole) (progress u old whole) (frame ∷ []) = record {
          texts = [];
          answers = in_order_one rule s u frame None gives;
          counts = omega arith;
          took = Appends-nil old;
        } in
        part_then rule (progress s old whole) (progress u old whole) (progress k.reached new k.count) (frame ∷ []) later k.bytes first (k.part old new took);
    counts = k.counts;
  }

  -- if the rule answers the frame, with a text or without, n is less than the bytes of this text and the later ones, and
  -- `EndsWithin` is true of the later frames and each number below the bytes of their texts, it is true of the frame and the
  -- later ones, and of n
  ends_at_text : (text : Option (List ℕ)) (rest : List (List ℕ)) → rule s frame u text
      → n < length (all_of (option_to_list text ++ rest))
      → ((w m : ℕ) → m < length (all_of rest) → EndsWithin rule u later rest w m)
      → EndsWithin rule s (frame ∷ later) (option_to_list text ++ rest) whole n
  ends_at_text None rest gives less next = ends_past_silent rest gives (next whole n less)
  ends_at_text (Some t) rest gives less next = elim (nat_lt n (length t)) as (λ b. nat_lt n (length t) ≡ b → EndsWithin rule s (frame ∷ later) (t ∷ rest) whole n) [
    | true ↦ λ e. ends_in_first rule s u frame later t rest whole n gives e
    | false ↦ λ e. let more : length t ≤ n = ltb-false n (length t) e in
        let left : n - length t < length (all_of rest) = omega (arith, less, more, length-append t (all_of rest)) in
        ends_in_later rule s u frame later t rest whole n gives e (next (whole + 1) (n - length t) left)
  ] refl

-- if the frames were answered in order with these texts, `EndsWithin` is true of each n below the bytes of all texts
ends_within : {State : Type 0} (rule : AnswerRule State Frame) (from to : State) (seen : List Frame) (texts : List (List ℕ)) (whole n : ℕ)
    → AnswersInOrder State Frame rule from seen to texts → n < length (all_of texts) → EndsWithin rule from seen texts whole n
ends_within rule from to [] texts whole n h less =
    let none : length (all_of texts) ≡ 0 = ap (λ (ts : List (List ℕ)). length (all_of ts)) h.1 in
    let wrong : ⊥ = omega (arith, none, less) in
    absurd wrong
ends_within rule from to (frame ∷ later) texts whole n h less =
    subst (λ (ts : List (List ℕ)). EndsWithin rule from (frame ∷ later) ts whole n) (sym h.5)
    (ends_at_text rule from h.0 frame later whole n h.1 h.2 h.3 (subst (λ (ts : List (List ℕ)). n < length (all_of ts)) h.5 less) (λ w m fewer. ends_within rule h.0 to later h.2 w m h.4 fewer))

-- Here `Gathering` is true of the frames `seen`, with the texts that wait in `text`, and their lengths in `lengths`. The
-- next block uses the lemma of this one at other frames.
module _ {State : Type 0} (rule : AnswerRule State Frame) (from to : Progress State) (seen : List Frame) (text lengths : List ℕ)
    (g : Gathering rule from to seen text lengths) where
  -- if the sink took only a part of the texts that wait, as `TakesTextsPart` has it, the frames were answered up to one whose
  -- text went out in part (`AnswersPart`), with `total` texts whole and `bytes` bytes of that text
  pub gathering_part : (after : Option (List ℕ)) (total bytes : ℕ) → TakesTextsPart to.taken after to.whole total text lengths bytes
      → (reached : State) × AnswersPart rule from (progress reached after total) seen bytes
  gathering_part after total bytes (n, took, counts) =
      let k = ends_within rule g.state to.state g.held g.texts to.whole n g.holds (subst (λ (xs : List ℕ). n < length xs) g.text_is took.0) in
      let same : (total, bytes) ≡ (k.count, k.bytes) = counts ∙ ap (λ (ns : List ℕ). whole_and_part to.whole n ns) g.lengths_are ∙ k.counts in
      let part : AnswersPart rule (progress g.state to.taken to.whole) (progress k.reached after k.count) g.held k.bytes =
      k.part to.taken after (Appends-is to.taken after _ _ (ap (λ (xs : List ℕ). take n xs) g.text_is) took.1) in
      let out : AnswersPart rule (progress g.state to.taken to.whole) (progress k.reached after total) g.held bytes =
      subst (λ (p : ℕ × ℕ). AnswersPart rule (progress g.state to.taken to.whole) (progress k.reached after p.0) g.held p.1) (sym same) part in (
        k.reached,
        subst (λ (fs : List Frame). AnswersPart rule from (progress k.reached after total) fs bytes) (sym g.order)
            (part_then rule from (progress g.state to.taken to.whole) (progress k.reached after total) g.done g.held bytes g.all out),
      )

-- Here `Gathering` is true of the frames `seen`, with the texts that wait in `text`, and their lengths in `lengths`; both lemmas
-- assume that no text waits unless texts are gathered.
module _ {State : Type 0} (rule : AnswerRule State Frame) (from to : Progress State) (seen : List Frame) (text lengths : List ℕ)
    (g : Gathering rule from to seen text lengths) where
  -- if the rule answers one more frame with the text `more`, which joins the texts that wait, and the sink took only a part of
  -- the texts that wait then, `GathersPart` is true of `seen` and then that frame
  pub answered_part : (last : Progress State) (frame : Frame) (more text' lengths' : List ℕ) (bytes : ℕ) (gathers : Bool)
      → (gathers ≡ false → lengths ≡ []) → rule to.state frame last.state (Some more) → Joins text lengths more text' lengths'
      → TakesTextsPart to.taken last.taken to.whole last.whole text' lengths' bytes → GathersPart rule from last (seen ++ frame ∷ []) bytes gathers
  answered_part last frame more text' lengths' bytes true alone gives joins took =
      let it = gathering_part rule from (progress last.state to.taken to.whole) (seen ++ frame ∷ []) text' lengths'
      (gathering_more rule from to seen text lengths g last.state frame more text' lengths' gives joins) last.taken last.whole bytes took in
      record { reached = it.0; part = it.1; alone = λ e. cc }
  answered_part last frame more text' lengths' bytes false alone gives joins (n, took, counts) =
      let none = alone refl in
      let nothing : text ≡ [] = no_text rule from to seen text lengths g none in
      let took_more : TakesFront to.taken last.taken n more =
      subst (λ (xs : List ℕ). TakesFront to.taken last.taken n xs) (joins.longer ∙ ap (λ (xs : List ℕ). xs ++ more) nothing) took in
      let less : nat_lt n (length more) ≡ true = lt-ltb n (length more) took_more.0 in
      let same : (last.whole, bytes) ≡ (to.whole, n) = counts ∙ ap (λ (ns : List ℕ). whole_and_part to.whole n ns) (joins.counted ∙ ap (λ (ns : List ℕ). ns ++ length more ∷ []) none)
      ∙ ap (λ (b : Bool). cond b (to.whole, n) (to.whole + 1, n - length more)) less in
      let part : AnswersPart rule to (progress last.state last.taken to.whole) (frame ∷ []) n =
      one_part rule to (progress last.state last.taken to.whole) frame more n gives took_more refl in
      let all = gathering_end rule from to seen text lengths g none in
      let told = part_then rule from to (progress last.state last.taken to.whole) seen (frame ∷ []) n all part in
      record {
        reached = last.state;
        part = subst (λ (p : ℕ × ℕ). AnswersPart rule from (progress last.state last.taken p.0) (seen ++ frame ∷ []) p.1) (sym same) told;
        alone = λ _. refl;
      }

  -- if the sink took only a part of the texts that wait, `GathersPart` is true of `seen`
  pub waiting_part : (after : Option (List ℕ)) (total bytes : ℕ) (gathers : Bool) → (gathers ≡ false → lengths ≡ [])
      → TakesTextsPart to.taken after to.whole total text lengths bytes → GathersPart rule from (progress to.state after total) seen bytes gathers
  waiting_part after total bytes true alone took =
      let it = gathering_part rule from to seen text lengths g after total bytes took in
      record { reached = it.0; part = it.1; alone = λ e. cc }
  waiting_part after total bytes false alone (n, took, counts) =
      let nothing : text ≡ [] = no_text rule from to seen text lengths g (alone refl) in
      let wrong : ⊥ = omega (arith, ap (λ (xs : List ℕ). length xs) nothing, took.0) in
      absurd wrong
