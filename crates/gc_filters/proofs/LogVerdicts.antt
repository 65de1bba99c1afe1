-- The verdicts on the lines of a log, written piece by piece. `rest` is the bytes since the last line feed, and `p` and `q` are
-- pieces that come after it. `WritesVerdicts`: the verdicts on the lines that end in a piece went out. `WritesVerdictsInPart`:
-- only a front of them did. `HasChecked`: they did, and the check keeps the bytes since the last line feed. `HasJudged`: some of them
-- did, and the others wait. a, b and c are what the sink had taken at three moments, in order, and n, m and k how many verdicts had
-- gone out by then. The client is as far as the log shows it: `x` before p, `y` after it, and `z` after q.
use Rattle.gc_filters.proofs.Common.{◌≡◌, ℕ, ◌+◌, ◌-◌, ◌<◌, ◌≤◌, Bool, true, false, cond, nat_lt, List, [], ◌∷◌, ◌++◌, length, take, map, Option, Some, None, refl, sym, ap, subst, ◌∙◌, arith, append_assoc, append-nil, length-append, ltb-true, ltb-false, length-map, map-append, take-append-le, Appends-nil, Appends-trans, all_of, pieces_behind, rest_behind, whole_and_part, TakesFront, all_of-append, Cuts, Lacks, WritesPart, AreVerdictsBetween, AreVerdictsFrom, HasChecked, HasJudged, JudgesLine, JudgesMore, KeepsLine, NoneWait, StopsWriting, TakesLine, TakesPiece, TakesPieceInPart, WritesVerdicts, WritesVerdictsInPart, WritesWaiting}
use Rattle.std.specs.Io.KnownBytes.{Appends}
use Rattle.std.proofs.Math.Seq.{take-append-add}
use Rattle.gc_lines.proofs.Cutting.{front_joins_piece, pieces-append, rest-append}
use Rattle.gc_lines.proofs.Known.{Appends-is}
use Rattle.gc_filters.specs.declared.check_log.LogCheck.{LogCheck}
use Rattle.gc_filters.specs.declared.check_log.PartialLine.{PartialLine}
use Rattle.gc_filters.specs.declared.log_client.LogClient.{LogClient}

-- where texts are what is written of the lines `ls`, and then of `ms`, they are what is written of all
verdicts_append : (x y z : LogClient) (ls ms ts us : List (List ℕ)) → AreVerdictsBetween x y ls ts → AreVerdictsBetween y z ms us
    → AreVerdictsBetween x z (ls ++ ms) (ts ++ us)
verdicts_append x y z [] ms [] us h k = subst (λ (w : LogClient). AreVerdictsBetween w z ms us) h k
verdicts_append x y z [] ms (t ∷ ts) us h k = absurd h
verdicts_append x y z (l ∷ ls) ms [] us h k = absurd h
verdicts_append x y z (l ∷ ls) ms (t ∷ ts) us (next, is, more) k = (next, is, verdicts_append next y z ls ms ts us more k)

-- where texts are what is written of lines, the first of them are what is written of the first lines
verdicts_split : (x z : LogClient) (ls ts us : List (List ℕ)) → AreVerdictsBetween x z ls (ts ++ us)
    → (ms : List (List ℕ)) × (ns : List (List ℕ)) × (ls ≡ ms ++ ns) × AreVerdictsFrom x ms ts
verdicts_split x z ls [] us h = ([], ls, refl, record { new = x; are = refl })
verdicts_split x z [] (t ∷ ts) us h = absurd h
verdicts_split x z (l ∷ ls) (t ∷ ts) us (next, is, more) =
    let k = verdicts_split next z ls ts us more in
    (l ∷ k.0, k.1, ap (λ (ms : List (List ℕ)). l ∷ ms) k.2, record { new = k.3.new; are = (next, is, k.3.are) })

-- where `WritesVerdicts` is true of p, and then of q after it, it is true of `p ++ q`
verdicts_then : (x y z : LogClient) (rest p q : List ℕ) (a b c : Option (List ℕ)) (n m k : ℕ) → WritesVerdicts x y rest p a b n m
    → WritesVerdicts y z (rest_behind rest p) q b c m k → WritesVerdicts x z rest (p ++ q) a c n k
verdicts_then x y z rest p q a b c n m k one next = record {
  texts = one.texts ++ next.texts;
  are = subst (λ ls. AreVerdictsBetween x z ls (one.texts ++ next.texts)) (sym (pieces-append rest p q))
      (verdicts_append x y z (pieces_behind rest p) (pieces_behind (rest_behind rest p) q) one.texts next.texts one.are next.are);
  took = Appends-is a c (all_of one.texts ++ all_of next.texts) (all_of (one.texts ++ next.texts)) (sym (all_of-append one.texts next.texts)) (Appends-trans a b c _ _ one.took next.took);
  counts = omega (arith, one.counts, next.counts, length-append one.texts next.texts);
}

-- where `WritesVerdicts` is true of p, and then `WritesVerdictsInPart` of q after it, `WritesVerdictsInPart` is true of `p ++ q`
verdicts_part_then : (x y : LogClient) (rest p q : List ℕ) (a b c : Option (List ℕ)) (n m k bytes : ℕ) → WritesVerdicts x y rest p a b n m
    → WritesVerdictsInPart y (rest_behind rest p) q b c m k bytes → WritesVerdictsInPart x rest (p ++ q) a c n k bytes
verdicts_part_then x y rest p q a b c n m k bytes one next = record {
  seen = pieces_behind rest p ++ next.seen;
  later = next.later;
  order = pieces-append rest p q ∙ ap (λ ls. pieces_behind rest p ++ ls) next.order ∙ sym (append_assoc (pieces_behind rest p) next.seen next.later);
  whole = one.texts ++ next.whole;
  line = next.line;
  are = record {
    new = next.are.new;
    are = subst (AreVerdictsBetween x next.are.new (pieces_behind rest p ++ next.seen)) (sym (append_assoc one.texts next.whole (next.line ∷ [])))
        (verdicts_append x y next.are.new (pieces_behind rest p) next.seen one.texts (next.whole ++ next.line ∷ []) one.are next.are.are);
  };
  counts = omega (arith, one.counts, next.counts, length-append one.texts next.whole);
  not_all = next.not_all;
  took = Appends-is a c _ _
      (sym (append_assoc (all_of one.texts) (all_of next.whole) (take bytes next.line))
      ∙ ap (λ l. l ++ take bytes next.line) (sym (all_of-append one.texts next.whole))) (Appends-trans a b c _ _ one.took next.took);
}

-- where `WritesVerdictsInPart` is true of p, it is true of `p ++ q`: what comes after a failed write changes nothing
verdicts_part_before : (x : LogClient) (rest p q : List ℕ) (a b : Option (List ℕ)) (n k bytes : ℕ) → WritesVerdictsInPart x rest p a b n k bytes
    → WritesVerdictsInPart x rest (p ++ q) a b n k bytes
verdicts_part_before x rest p q a b n k bytes one = record {
  seen = one.seen;
  later = one.later ++ pieces_behind (rest_behind rest p) q;
  order = pieces-append rest p q ∙ ap (λ ls. ls ++ pieces_behind (rest_behind rest p) q) one.order ∙ append_assoc one.seen one.later _;
  whole = one.whole;
  line = one.line;
  are = one.are;
  counts = one.counts;
  not_all = one.not_all;
  took = one.took;
}

-- where bytes have no LF, no line ends in them, and all of them come after the rest
lacking : (rest bs : List ℕ) → Lacks 10 bs → (pieces_behind rest bs ≡ []) × (rest_behind rest bs ≡ rest ++ bs)
lacking rest bs lacks = subst (λ l. (pieces_behind rest l ≡ []) × (rest_behind rest l ≡ rest ++ bs)) (append-nil bs) (front_joins_piece rest bs [] lacks)

-- where texts have no lengths, there are none
no_texts : (texts : List (List ℕ)) → [] ≡ map length texts → texts ≡ []
no_texts [] e = refl
no_texts (t ∷ ts) e = cc

-- the first `taken` bytes of texts end within one of them, `text`, after `bytes` bytes of it; `whole_and_part` gives the numbers
record CutsTexts (texts : List (List ℕ)) (whole taken : ℕ) : Type 0 where
  front : List (List ℕ)
  text : List ℕ
  later : List (List ℕ)
  bytes : ℕ
  order : texts ≡ front ++ text ∷ later
  within : bytes < length text
  taken_is : take taken (all_of texts) ≡ all_of front ++ take bytes text
  counts : whole_and_part whole taken (map length texts) ≡ (whole + length front, bytes)

-- the first bytes of the text t and then others
module _ (t : List ℕ) (ts : List (List ℕ)) (whole taken : ℕ) where
  -- where they end within t
  cuts_first : nat_lt taken (length t) ≡ true → CutsTexts (t ∷ ts) whole taken
  cuts_first e =
      let less : taken < length t = ltb-true taken (length t) e in
      let same : whole ≡ whole + 0 = omega arith in
      record {
        front = [];
        text = t;
        later = ts;
        bytes = taken;
        order = refl;
        within = less;
        taken_is = take-append-le taken t (all_of ts) (omega (arith, less));
        counts = ap (λ (b : Bool). cond b (whole, taken) (whole_and_part (whole + 1) (taken - length t) (map length ts))) e ∙ ap (λ (w : ℕ). (w, taken)) same;
      }

  -- where they end within a later text
  cuts_later : nat_lt taken (length t) ≡ false → CutsTexts ts (whole + 1) (taken - length t) → CutsTexts (t ∷ ts) whole taken
  cuts_later e k =
      let more : length t ≤ taken = ltb-false taken (length t) e in
      let sizes : taken ≡ length t + (taken - length t) = omega (arith, more) in
      let same : whole + 1 + length k.front ≡ whole + length (t ∷ k.front) = omega arith in
      record {
        front = t ∷ k.front;
        text = k.text;
        later = k.later;
        bytes = k.bytes;
        order = ap (λ l. t ∷ l) k.order;
        within = k.within;
        taken_is = ap (λ (m : ℕ). take m (t ++ all_of ts)) sizes ∙ take-append-add t (all_of ts) (taken - length t) ∙ ap (λ l. t ++ l) k.taken_is
            ∙ sym (append_assoc t (all_of k.front) (take k.bytes k.text));
        counts = ap (λ (b : Bool). cond b (whole, taken) (whole_and_part (whole + 1) (taken - length t) (map length ts))) e ∙ k.counts
            ∙ ap (λ (w : ℕ). (w, k.bytes)) same;
      }

-- fewer bytes than the texts have end within one of them
cuts_texts : (texts : List (List ℕ)) (whole taken : ℕ) → taken < length (all_of texts) → CutsTexts texts whole taken
cuts_texts [] whole taken less = absurd (omega (arith, less))
cuts_texts (t ∷ ts) whole taken less = elim (nat_lt taken (length t)) as (λ b. nat_lt taken (length t) ≡ b → CutsTexts (t ∷ ts) whole taken) [
  | true ↦ λ e. cuts_first t ts whole taken e
  | false ↦ λ e. let more : length t ≤ taken = ltb-false taken (length t) e in
      let left : taken - length t < length (all_of ts) = omega (arith, less, more, length-append t (all_of ts)) in
      cuts_later t ts whole taken e (cuts_texts ts (whole + 1) (taken - length t) left)
] refl

-- of the lines that end in p the check `check` has judged all
module _ (x : LogClient) (check : LogCheck) (rest p : List ℕ) (a b : Option (List ℕ)) (n : ℕ) (h : HasJudged x check rest p a b n) where
  -- where bytes without LF come, and are kept, the same lines are judged
  pub judged_kept : (kept : PartialLine) (line : List ℕ) → Lacks 10 line → ((r : List ℕ) → KeepsLine check.kept r → KeepsLine kept (r ++ line))
      → HasJudged x (record { kept = kept; client = check.client; text = check.text; lengths = check.lengths; replies = check.replies }) rest (p ++ line) a b n
  judged_kept kept line lacks keeps = record {
    keeps = subst (KeepsLine kept) (sym (rest-append rest p line ∙ (lacking (rest_behind rest p) line lacks).1)) (keeps (rest_behind rest p) h.keeps);
    done = h.done;
    held = h.held;
    are = subst (λ ls. AreVerdictsBetween x check.client ls (h.done ++ h.held))
        (sym (pieces-append rest p line ∙ ap (λ ls. pieces_behind rest p ++ ls) (lacking (rest_behind rest p) line lacks).0 ∙ append-nil (pieces_behind rest p))) h.are;
    took = h.took;
    counts = h.counts;
    text_is = h.text_is;
    lengths_are = h.lengths_are;
  }

  -- where an LF ends the line that is kept, and what is written of it joins the texts that wait, that line is judged, too
  pub judged_line : (after : LogCheck) → JudgesLine check after (rest_behind rest p) → KeepsLine after.kept [] → after.replies ≡ check.replies
      → HasJudged x after rest (p ++ 10 ∷ []) a b n
  judged_line after j keeps same = record {
    keeps = subst (KeepsLine after.kept) (sym (rest-append rest p (10 ∷ []))) keeps;
    done = h.done;
    held = h.held ++ j.text ∷ [];
    are = subst (λ ls. AreVerdictsBetween x after.client ls (h.done ++ (h.held ++ j.text ∷ []))) (sym (pieces-append rest p (10 ∷ [])))
        (subst (AreVerdictsBetween x after.client (pieces_behind rest p ++ rest_behind rest p ∷ [])) (append_assoc h.done h.held (j.text ∷ []))
        (verdicts_append x check.client after.client (pieces_behind rest p) (rest_behind rest p ∷ []) (h.done ++ h.held) (j.text ∷ []) h.are (after.client, j.is, refl)));
    took = h.took;
    counts = same ∙ h.counts;
    text_is = j.longer ∙ ap (λ (xs : List ℕ). xs ++ j.text) h.text_is ∙ ap (λ (xs : List ℕ). all_of h.held ++ xs) (sym (append-nil j.text))
        ∙ sym (all_of-append h.held (j.text ∷ []));
    lengths_are = j.counted ∙ ap (λ (ns : List ℕ). ns ++ length j.text ∷ []) h.lengths_are ∙ sym (map-append length h.held (j.text ∷ []));
  }

  -- where all texts that wait go out, the same lines are judged, and none waits
  pub judged_written : (c : Option (List ℕ)) (after : LogCheck) → Appends b c check.text.items → after.kept ≡ check.kept → after.client ≡ check.client
      → NoneWait after → after.replies ≡ check.replies + length check.lengths.items → HasJudged x after rest p a c n
  judged_written c after took kept client none counts = record {
    keeps = subst (λ k. KeepsLine k (rest_behind rest p)) (sym kept) h.keeps;
    done = h.done ++ h.held;
    held = [];
    are = subst (λ (w : LogClient). AreVerdictsBetween x w (pieces_behind rest p) ((h.done ++ h.held) ++ [])) (sym client)
        (subst (AreVerdictsBetween x check.client (pieces_behind rest p)) (sym (append-nil (h.done ++ h.held))) h.are);
    took = Appends-is a c _ _ (sym (all_of-append h.done h.held)) (Appends-trans a b c _ _ h.took (Appends-is b c _ _ h.text_is took));
    counts = omega (arith, counts, h.counts, ap (λ (ns : List ℕ). length ns) h.lengths_are, length-map h.held length, length-append h.done h.held);
    text_is = none.0;
    lengths_are = none.1;
  }

  -- where only the first `taken` bytes of the texts that wait go out, `WritesVerdictsInPart` is true of p
  pub judged_part : (c : Option (List ℕ)) (taken total bytes : ℕ) → TakesFront b c taken check.text.items
      → (total, bytes) ≡ whole_and_part check.replies taken check.lengths.items → WritesVerdictsInPart x rest p a c n total bytes
  judged_part c taken total bytes took counts =
      let k = cuts_texts h.held check.replies taken (subst (λ (xs : List ℕ). taken < length xs) h.text_is took.0) in
      let grown : check.replies + length k.front ≡ n + length (h.done ++ k.front) = omega (arith, h.counts, length-append h.done k.front) in
      let same : (total, bytes) ≡ (check.replies + length k.front, k.bytes) = counts ∙ ap (λ (ns : List ℕ). whole_and_part check.replies taken ns) h.lengths_are ∙ k.counts in
      let order : h.done ++ h.held ≡ ((h.done ++ k.front) ++ k.text ∷ []) ++ k.later =
      ap (λ l. h.done ++ l) k.order ∙ sym (append_assoc h.done k.front (k.text ∷ k.later)) ∙ sym (append_assoc (h.done ++ k.front) (k.text ∷ []) k.later) in
      let cut = verdicts_split x check.client (pieces_behind rest p) ((h.done ++ k.front) ++ k.text ∷ []) k.later (subst (AreVerdictsBetween x check.client (pieces_behind rest p)) order h.are) in
      let part : WritesVerdictsInPart x rest p a c n (check.replies + length k.front) k.bytes = record {
        seen = cut.0;
        later = cut.1;
        order = cut.2;
        whole = h.done ++ k.front;
        line = k.text;
        are = cut.3;
        counts = grown;
        not_all = k.within;
        took = Appends-is a c _ _ (sym (append_assoc (all_of h.done) (all_of k.front) (take k.bytes k.text)) ∙ ap (λ l. l ++ take k.bytes k.text) (sym (all_of-append h.done k.front)))
            (Appends-trans a b c _ _ h.took (Appends-is b c _ _ (ap (λ (xs : List ℕ). take taken xs) h.text_is ∙ k.taken_is) took.1));
      } in
      subst (λ (w : ℕ × ℕ). WritesVerdictsInPart x rest p a c n w.0 w.1) (sym same) part

  -- where no text waits, the check is done with p
  pub judged_all : NoneWait check → HasChecked x check rest p a b n
  judged_all none =
      let all : h.done ++ h.held ≡ h.done = ap (λ l. h.done ++ l) (no_texts h.held (sym none.1 ∙ h.lengths_are)) ∙ append-nil h.done in (
        h.keeps,
        record { texts = h.done; are = subst (AreVerdictsBetween x check.client (pieces_behind rest p)) all h.are; took = h.took; counts = h.counts },
      )

-- the check with these bytes kept in place of those before
abbrev with_kept : LogCheck → PartialLine → LogCheck
with_kept check kept = record { kept = kept; client = check.client; text = check.text; lengths = check.lengths; replies = check.replies }

-- bytes were cut at their first LF, and what is before it, `line`, was kept
module _ (check : LogCheck) (kept : PartialLine) where
  -- where there is no LF, all bytes were taken
  pub takes_all : (bytes line : List ℕ) (a : Option (List ℕ)) → Cuts 10 bytes line None
      → ((r : List ℕ) → KeepsLine check.kept r → KeepsLine kept (r ++ line)) → TakesLine check (with_kept check kept) bytes None a a
  takes_all bytes line a cut keeps x rest piece start count h =
      subst (λ l. HasJudged x (with_kept check kept) rest (piece ++ l) start a count) (sym cut.0) (judged_kept x check rest piece start a count h kept line cut.1 keeps)

  -- where the LF then ended that line, the bytes through it were taken
  pub takes_line : (next : LogCheck) (bytes line behind : List ℕ) (a b : Option (List ℕ)) → Cuts 10 bytes line (Some behind)
      → ((r : List ℕ) → KeepsLine check.kept r → KeepsLine kept (r ++ line)) → JudgesMore (with_kept check kept) next (10 ∷ []) a b
      → TakesLine check next bytes (Some behind) a b
  takes_line next bytes line behind a b cut keeps more = (
    line,
    cut.0,
    λ x rest piece start count h.
        subst (λ l. HasJudged x next rest l start b count) (append_assoc piece line (10 ∷ []))
        (more x rest (piece ++ line) start count (judged_kept x check rest piece start a count h kept line cut.1 keeps)),
  )

  -- where the sink then failed, it is as if it had failed before
  pub stops_behind : (next : LogCheck) (bytes line behind : List ℕ) (a b : Option (List ℕ)) (n : ℕ) → Cuts 10 bytes line (Some behind)
      → ((r : List ℕ) → KeepsLine check.kept r → KeepsLine kept (r ++ line)) → StopsWriting (with_kept check kept) next a b n
      → StopsWriting check next a b n
  stops_behind next bytes line behind a b n cut keeps stops x rest piece start count h =
      let same : pieces_behind rest (piece ++ line) ≡ pieces_behind rest piece =
      pieces-append rest piece line ∙ ap (λ ls. pieces_behind rest piece ++ ls) (lacking (rest_behind rest piece) line cut.1).0 ∙ append-nil (pieces_behind rest piece) in
      subst (λ ls. WritesPart (AreVerdictsFrom x) ls start b count next.replies n) same
      (stops x rest (piece ++ line) start count (judged_kept x check rest piece start a count h kept line cut.1 keeps))

-- what is left of a piece; nothing, if nothing is (`None`)
abbrev pub all_left : Option (List ℕ) → List ℕ
all_left None = []
all_left (Some bytes) = bytes

-- the check, which was `first` before the piece, has judged the lines that end before what is left of it
pub record Walks (first check : LogCheck) (piece : List ℕ) (left : Option (List ℕ)) (a b : Option (List ℕ)) : Type 0 where
  pub front : List ℕ
  pub whole : front ++ all_left left ≡ piece
  pub judged : (rest : List ℕ) → KeepsLine first.kept rest → HasJudged first.client check rest front a b first.replies

-- before a piece, if no text waits
pub walk_begins : (first : LogCheck) (piece : List ℕ) (a : Option (List ℕ)) → NoneWait first → Walks first first piece (Some piece) a a
walk_begins first piece a none = record {
  front = [];
  whole = refl;
  judged = λ rest keeps. record {
    keeps = keeps;
    done = [];
    held = [];
    are = refl;
    took = Appends-nil a;
    counts = omega arith;
    text_is = none.0;
    lengths_are = none.1;
  };
}

-- once further bytes were taken
pub walk_goes_on : (first check next : LogCheck) (piece bytes : List ℕ) (behind : Option (List ℕ)) (a b c : Option (List ℕ))
    → Walks first check piece (Some bytes) a b → TakesLine check next bytes behind b c → Walks first next piece behind a c
walk_goes_on first check next piece bytes None a b c w more = record {
  front = w.front ++ bytes;
  whole = append-nil (w.front ++ bytes) ∙ w.whole;
  judged = λ rest keeps. more first.client rest w.front a first.replies (w.judged rest keeps);
}
walk_goes_on first check next piece bytes (Some behind) a b c w (line, is, more) = record {
  front = w.front ++ (line ++ 10 ∷ []);
  whole = append_assoc w.front (line ++ 10 ∷ []) behind ∙ ap (λ l. w.front ++ l) (append_assoc line (10 ∷ []) behind ∙ sym is) ∙ w.whole;
  judged = λ rest keeps. more first.client rest w.front a first.replies (w.judged rest keeps);
}

-- what became of a piece of which nothing is left, once no text waits
pub walk_ends : (first check next : LogCheck) (piece : List ℕ) (a b c : Option (List ℕ)) → Walks first check piece None a b
    → WritesWaiting check next b c → NoneWait next → TakesPiece first next piece a c
walk_ends first check next piece a b c w writes none rest keeps =
    let whole : w.front ≡ piece = sym (append-nil w.front) ∙ w.whole in
    subst (λ l. HasChecked first.client next rest l a c first.replies) whole
    (judged_all first.client next rest w.front a c first.replies (writes first.client rest w.front a first.replies (w.judged rest keeps)) none)

-- what became of a piece, where the sink failed
pub walk_stops : (first check next : LogCheck) (piece : List ℕ) (left a b c : Option (List ℕ)) (bytes : ℕ)
    → Walks first check piece left a b → StopsWriting check next b c bytes → TakesPieceInPart first next piece a c bytes
walk_stops first check next piece left a b c bytes w stops rest keeps =
    subst (λ l. WritesVerdictsInPart first.client rest l a c first.replies next.replies bytes) w.whole
    (verdicts_part_before first.client rest w.front (all_left left) a c first.replies next.replies bytes (stops first.client rest w.front a first.replies (w.judged rest keeps)))

-- the check is done with p, and q, which comes after it, takes it from `check` to `next`
module _ (x : LogClient) (check next : LogCheck) (rest p q : List ℕ) (a b c : Option (List ℕ)) (n : ℕ) (so : HasChecked x check rest p a b n) where
  -- where q was checked whole, the check is done with `p ++ q`
  pub checked_more : TakesPiece check next q b c → HasChecked x next rest (p ++ q) a c n
  checked_more takes =
      let it = takes (rest_behind rest p) so.0 in (
        subst (λ l. KeepsLine next.kept l) (sym (rest-append rest p q)) it.0,
        verdicts_then x check.client next.client rest p q a b c n check.replies next.replies so.1 it.1,
      )

  -- where the sink failed in q, `WritesVerdictsInPart` is true of `p ++ q`
  pub checked_part : (bytes : ℕ) → TakesPieceInPart check next q b c bytes → WritesVerdictsInPart x rest (p ++ q) a c n next.replies bytes
  checked_part bytes takes = verdicts_part_then x check.client rest p q a b c n check.replies next.replies bytes so.1 (takes (rest_behind rest p) so.0)
