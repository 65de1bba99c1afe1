-- The files of a log: where each of them ends, and the lines that they have.
use Rattle.gc_logs.proofs.Common.{◌≡◌, ℕ, ◌+◌, ◌-◌, ◌<◌, ◌≤◌, ◌==◌, inl, inr, false, not, nat_eq, Result, Ok, Err, List, [], ◌∷◌, ◌++◌, length, take, get_or, refl, sym, ap, subst, ◌∙◌, arith, append_assoc, append-nil, AllByRecursion, cases_Bool, eqb-false, eqb-true, not-false, length-take-le, take_more, all_of, Lacks, IsPrintableByte, log_text, stamp_text, IsBegun, LogFiles, RollsOver, StayBelow, TurnsTo, added, bytes_of, elsewhere, rolled, EndsLine, EndInLines, IsLine, CutAtLines, LogsKeepTheNewest}
use Rattle.std.proofs.lemmas.List.Elements.{recursion_from_All}
use Rattle.gc_texts.proofs.Cutting.{one_front}
use Rattle.gc_texts.proofs.LogStamps.{log_lines_are_printable}

-- bytes end in a line feed if their last part does, which isn't empty
pub ends_append : (xs ys : List ℕ) → 0 < length ys → EndsLine ys → EndsLine (xs ++ ys)
ends_append [] ys some e = e
ends_append (x ∷ []) [] some e = absurd (omega (arith, some))
ends_append (x ∷ []) (y ∷ ys) some e = e
ends_append (x ∷ c ∷ xs) ys some e = ends_append (c ∷ xs) ys some e

-- bytes end in a line feed if both parts of them do
pub ends_both : (xs ys : List ℕ) → EndsLine xs → EndsLine ys → EndsLine (xs ++ ys)
ends_both xs [] one next = subst EndsLine (sym (append-nil xs)) one
ends_both xs (y ∷ ys) one next = ends_append xs (y ∷ ys) (omega arith) next

-- what a write leaves ends in a line feed, if the last byte that it took is one
pub ends_taken : (xs bytes : List ℕ) (n : ℕ) → 0 < n → n ≤ length bytes → get_or bytes (n - 1) 0 ≡ 10 → EndsLine (xs ++ take n bytes)
ends_taken xs bytes n some within feed =
    let one : n - 1 + 1 ≡ n = omega (arith, some) in
    let below : n - 1 < length bytes = omega (arith, some, within) in
    let cut : take n bytes ≡ take (n - 1) bytes ++ 10 ∷ [] =
    ap (λ k. take k bytes) (sym one) ∙ take_more bytes (n - 1) 0 below ∙ ap (λ b. take (n - 1) bytes ++ b ∷ []) feed in
    subst EndsLine (append_assoc xs (take (n - 1) bytes) (10 ∷ []) ∙ ap (λ t. xs ++ t) (sym cut))
    (ends_append (xs ++ take (n - 1) bytes) (10 ∷ []) (omega arith) refl)

-- what a sink of lines knows of its files between two lines
pub record Fit (most : ℕ) (files : LogFiles) : Type 0 where
  pub below : StayBelow most files
  pub ends : EndInLines files
  pub whole : EndsLine files.newest

-- lines that go on in another file leave all as it has to be
fit_elsewhere : (most size : ℕ) (files : LogFiles) → Fit most files → Fit most (elsewhere files size)
fit_elsewhere most size files fit = record {
  below = record { newest = λ some. absurd (omega (arith, some)); older = λ some. absurd (omega (arith, some)) };
  ends = record { earlier = ends_both files.earlier (files.older ++ files.newest) fit.ends.earlier (ends_both files.older files.newest fit.ends.older fit.whole); older = refl };
  whole = refl;
}

-- a new file in place of the present one leaves all as it has to be
fit_rolled : (most : ℕ) (files : LogFiles) → Fit most files → Fit most (rolled files)
fit_rolled most files fit = record {
  below = record { newest = λ some. absurd (omega (arith, some)); older = fit.below.newest };
  ends = record { earlier = ends_both files.earlier files.older fit.ends.earlier fit.ends.older; older = fit.whole };
  whole = refl;
}

-- a look for the file of a line leaves all as it has to be
pub fit_turned : {E : Type 0} (most : ℕ) (old new : LogFiles) (r : Result Unit E) → TurnsTo old new r → Fit most old → Fit most new
fit_turned most old new (Ok u) (inl same) fit = subst (Fit most) (sym same) fit
fit_turned most old new (Ok u) (inr (size, is)) fit = subst (Fit most) (sym is) (fit_elsewhere most size old fit)
fit_turned most old new (Err e) same fit = subst (Fit most) (sym same) fit

-- a new file leaves all as it has to be
pub fit_over : {E : Type 0} (most : ℕ) (old new : LogFiles) (r : Result Unit E) → RollsOver old new r → Fit most old → Fit most new
fit_over most old new (Ok u) (inl is) fit = subst (Fit most) (sym is) (fit_rolled most old fit)
fit_over most old new (Ok u) (inr (size, is)) fit = subst (Fit most) (sym is) (fit_elsewhere most size old fit)
fit_over most old new (Err e) same fit = subst (Fit most) (sym same) fit

-- a file that has room for bytes is the one for them
pub begun_here : (files : LogFiles) (bytes : List ℕ) (most : ℕ) → IsBegun files files bytes most
begun_here files bytes most = record { turned = files; turns = inl refl; begins = inl refl }

-- a write put the first n bytes into the present file, at least one
abbrev pub Took : (old new : LogFiles) (n : ℕ) (bytes : List ℕ) → Type 0
Took old new n bytes = (n ≤ length bytes) × (0 < n) × (new ≡ added old (take n bytes))

-- a write of what has room leaves no file above the bound
pub put_below : (most : ℕ) (old new : LogFiles) (n : ℕ) (bytes : List ℕ) → Took old new n bytes → StayBelow most old
    → old.size + length bytes ≤ most → StayBelow most new
put_below most old new n bytes puts below room =
    let front : length (take n bytes) ≤ length bytes = omega (arith, length-take-le n bytes puts.0, puts.0) in
    subst (StayBelow most) (sym puts.2) (record { newest = λ _. omega (arith, front, room); older = below.older })

-- a write changes no file but the present one
pub put_ends : (old new : LogFiles) (n : ℕ) (bytes : List ℕ) → Took old new n bytes → EndInLines old → EndInLines new
put_ends old new n bytes puts ends = subst EndInLines (sym puts.2) (record { earlier = ends.earlier; older = ends.older })

-- if the last byte that a write took is a line feed, the present file ends in one
pub put_whole : (old new : LogFiles) (n : ℕ) (bytes : List ℕ) → Took old new n bytes
    → not (nat_eq (get_or bytes (n - 1) 0) 10) ≡ false → EndsLine new.newest
put_whole old new n bytes puts is =
    let feed = eqb-true (get_or bytes (n - 1) 0) 10 (not-false (nat_eq (get_or bytes (n - 1) 0) 10) is) in
    subst (λ (f : LogFiles). EndsLine f.newest) (sym puts.2) (ends_taken old.newest bytes n puts.1 puts.0 feed)

-- a text with a line feed, cut at the first one: what is before it, and what follows it
record CutAtFeed (bytes : List ℕ) : Type 0 where
  front : List ℕ
  rest : List ℕ
  is : bytes ≡ front ++ 10 ∷ rest
  lacks : Lacks 10 front
  ends : EndsLine rest

-- bytes that end in a line feed, cut at the first one
cut_at_feed : (b : ℕ) (bs : List ℕ) → EndsLine (b ∷ bs) → CutAtFeed (b ∷ bs)
cut_at_feed b [] e = record { front = []; rest = []; is = ap (λ c. c ∷ []) (eqb-true b 10 e); lacks = tt; ends = refl }
cut_at_feed b (c ∷ cs) e = elim (cases_Bool (b == 10)) [
  | inl feed ↦ record { front = []; rest = c ∷ cs; is = ap (λ d. d ∷ c ∷ cs) (eqb-true b 10 feed); lacks = tt; ends = e }
  | inr other ↦
      let more = cut_at_feed c cs e in
      record { front = b ∷ more.front; rest = more.rest; is = ap (λ t. b ∷ t) more.is; lacks = (eqb-false b 10 other, more.lacks); ends = more.ends }
]

-- lines, split at the end of a text `front` that has the first of them
record Split (lines : List (List ℕ)) (front behind : List ℕ) : Type 0 where
  first : List (List ℕ)
  later : List (List ℕ)
  all : lines ≡ first ++ later
  in_front : front ≡ all_of first
  in_behind : behind ≡ all_of later
  are : AllByRecursion IsLine later

-- a text of lines that is cut behind a line feed is cut between two lines
split : (lines : List (List ℕ)) (front behind : List ℕ) → AllByRecursion IsLine lines → EndsLine front → front ++ behind ≡ all_of lines
    → Split lines front behind
split lines [] behind are ends e = record { first = []; later = lines; all = refl; in_front = refl; in_behind = e; are = are }
split [] (b ∷ bs) behind are ends e = absurd (cc e)
split (l ∷ ls) (b ∷ bs) behind are ends e =
    let c = cut_at_feed b bs ends in
    let line = are.0 in
    let joined : c.front ++ 10 ∷ (c.rest ++ behind) ≡ line.text ++ 10 ∷ all_of ls =
    sym (append_assoc c.front (10 ∷ c.rest) behind) ∙ ap (λ t. t ++ behind) (sym c.is) ∙ e ∙ ap (λ t. t ++ all_of ls) line.is
    ∙ append_assoc line.text (10 ∷ []) (all_of ls) in
    let same = one_front 10 c.front line.text (c.rest ++ behind) (all_of ls) joined c.lacks line.lacks in
    let more = split ls c.rest behind are.1 c.ends same.1 in
    record {
      first = l ∷ more.first;
      later = more.later;
      all = ap (λ z. l ∷ z) more.all;
      in_front = c.is ∙ ap (λ f. f ++ 10 ∷ c.rest) same.0 ∙ ap (λ r. line.text ++ 10 ∷ r) more.in_front
          ∙ sym (append_assoc line.text (10 ∷ []) (all_of more.first)) ∙ ap (λ t. t ++ all_of more.first) (sym line.is);
      in_behind = more.in_behind;
      are = more.are;
    }

-- no line is split over two files, and none is missing between them
cut_at_lines : (files : LogFiles) (lines : List (List ℕ)) → AllByRecursion IsLine lines → EndInLines files → bytes_of files ≡ all_of lines
    → CutAtLines files lines
cut_at_lines files lines are ends e =
    let one = split lines files.earlier (files.older ++ files.newest) are ends.earlier e in
    let two = split one.later files.older files.newest one.are ends.older one.in_behind in
    record {
      dropped = one.first;
      older = two.first;
      newest = two.later;
      all = one.all ∙ ap (λ z. one.first ++ z) two.all;
      in_earlier = one.in_front;
      in_older = two.in_front;
      in_newest = two.in_behind;
    }

-- printable characters are no line feeds
printable_lacks : (bs : List ℕ) → AllByRecursion IsPrintableByte bs → Lacks 10 bs
printable_lacks [] are = tt
printable_lacks (b ∷ bs) are = ((λ e. let low = are.0.0 in omega (arith, e, low)), printable_lacks bs are.1)

-- the law: no line of a log is split over two of its files
pub keep_the_newest : LogsKeepTheNewest
keep_the_newest = record {
  cut = cut_at_lines;
  log_lines = λ utc mark bytes h are. record {
    text = log_text (stamp_text utc) mark bytes;
    lacks = printable_lacks (log_text (stamp_text utc) mark bytes) (recursion_from_All IsPrintableByte (log_text (stamp_text utc) mark bytes) (log_lines_are_printable utc mark bytes h are));
    is = refl;
  };
}
