-- Delivering bytes in one event leaves the same streams as delivering them in two, in either direction, where a line is in flight
-- between the two. The cut of lines at n bytes (`cut`) says how many lines these bytes complete, and how many bytes of the next
-- line they reach.
use Rattle.gc_world.proofs.Common.{◌≡◌, ℕ, zero, suc, ◌+◌, ◌-◌, ◌<◌, ◌≤◌, Bool, true, false, cond, List, [], ◌∷◌, length, map, drop, refl, sym, ◌∙◌, ap, subst, arith, ltb, ap₂, replicate, ltb-false, drop-drop, drop-map, replicate-append-replicate, with_end, Direction, deliver, bytes, texts, lines, gone, with_front_gone, after_cut, Streams, Cut, one_line_more, cut, flows, Ends, Rule, World, idle, happens, run}
use Rattle.gc_world.proofs.Directions.{gone_reached, reaches_again, passing, bytes_pass, one_less, idle_leaves_texts}
use Rattle.gc_world.proofs.Flow.{run_append}
use Rattle.gc_world.proofs.Handed.{cut_long}

-- the cut c, with k more completed lines before it
abbrev with_more_lines : ℕ → Cut → Cut
with_more_lines k c = record { lines = k + c.lines; gone = c.gone }

-- a cut with no more lines before it is the same cut
with_no_more_lines : (c : Cut) → with_more_lines 0 c ≡ c
with_no_more_lines c = let e : 0 + c.lines ≡ c.lines = omega arith in ap (λ k. record { lines = k; gone = c.gone }) e

-- a cut with k more lines in front, and then one more, is the cut with k + 1 more
with_one_more_line : (k : ℕ) (c : Cut) → one_line_more (with_more_lines k c) ≡ with_more_lines (suc k) c
with_one_more_line k c = let e : suc (k + c.lines) ≡ suc k + c.lines = omega arith in ap (λ n. record { lines = n; gone = c.gone }) e

-- the cut c of these lines, continued by n further bytes
abbrev continued_by : List (List ℕ) → ℕ → Cut → Cut
continued_by lines n c = with_more_lines c.lines (cut (drop c.lines lines) (c.gone + n))

-- the cut at m + n bytes is the cut at m bytes, continued by n further ones
cut_add : (lines : List (List ℕ)) (m n : ℕ) → cut lines (m + n) ≡ continued_by lines n (cut lines m)
cut_add [] m n = sym (with_no_more_lines (record { lines = 0; gone = 0 }))
cut_add (line ∷ lines) m n = by_size (ltb m (length line)) refl (cut_add lines (m - length line) n)
  where
    by_size : (b : Bool) → ltb m (length line) ≡ b → cut lines (m - length line + n) ≡ continued_by lines n (cut lines (m - length line))
        → cut (line ∷ lines) (m + n) ≡ continued_by (line ∷ lines) n (cond {A = Cut} b (record { lines = 0; gone = m }) (one_line_more (cut lines (m - length line))))
    by_size true e more = sym (with_no_more_lines (cut (line ∷ lines) (m + n)))
    by_size false e more =
        let le : length line ≤ m = ltb-false m (length line) e in
        let rest : m + n - length line ≡ m - length line + n = omega (arith, le) in
        let c = cut lines (m - length line) in
        cut_long line lines (m + n) (omega (arith, le)) ∙ ap (λ k. one_line_more (cut lines k)) rest ∙ ap one_line_more more
        ∙ with_one_more_line c.lines (cut (drop c.lines lines) (c.gone + n))

-- where n bytes complete all of the lines, the cut at n bytes says that nothing of a next line has gone
cut_all : (lines : List (List ℕ)) (n : ℕ) → drop (cut lines n).lines lines ≡ [] → (cut lines n).gone ≡ 0
cut_all [] n e = refl
cut_all (line ∷ lines) n e = by_size (ltb n (length line)) (cut_all lines (n - length line)) e
  where
    by_size : (b : Bool) → (drop (cut lines (n - length line)).lines lines ≡ [] → (cut lines (n - length line)).gone ≡ 0)
        → drop (cond {A = Cut} b (record { lines = 0; gone = n }) (one_line_more (cut lines (n - length line)))).lines (line ∷ lines) ≡ []
        → (cond {A = Cut} b (record { lines = 0; gone = n }) (one_line_more (cut lines (n - length line)))).gone ≡ 0
    by_size true rest e = cc
    by_size false rest e = rest e

-- where the first m bytes complete all lines, further bytes change nothing of the cut
cut_end : (lines : List (List ℕ)) (m n : ℕ) → drop (cut lines m).lines lines ≡ [] → cut lines (m + n) ≡ cut lines m
cut_end lines m n e =
    let c = cut lines m in
    let same : c.lines + 0 ≡ c.lines = omega arith in
    cut_add lines m n ∙ ap (λ q. with_more_lines c.lines (cut q (c.gone + n))) e ∙ ap₂ (λ k g. record { lines = k; gone = g }) same (sym (cut_all lines m e))

-- dropping one element, and then k more, is dropping k + 1
drop_one : {A : Type 0} (k : ℕ) (xs : List A) → drop k (drop 1 xs) ≡ drop (suc k) xs
drop_one k xs = let e : 1 + k ≡ suc k = omega arith in drop-drop k 1 xs ∙ ap (λ n. drop n xs) e

module _ {Client State : Type 0} (ends : Ends State) (rule : Rule Client) (d : Direction) where
  -- after k deliveries in a direction, the texts in flight in it are those behind the first k: none, if there were k or fewer
  texts_left : (k : ℕ) (w : World Client State) → texts d (run ends rule (replicate k (deliver d)) w).wire ≡ drop k (texts d w.wire)
  texts_left zero w = refl
  texts_left (suc k) w = texts_left k (happens ends rule w (deliver d)) ∙ ap (drop k) (one_less ends rule d w) ∙ drop_one k (texts d w.wire)

  -- after k deliveries in a direction, the lines in flight in it are those behind the first k: none, if there were k or fewer
  lines_left : (k : ℕ) (w : World Client State) → lines d (run ends rule (replicate k (deliver d)) w).wire ≡ drop k (lines d w.wire)
  lines_left k w = ap (map with_end) (texts_left k w) ∙ sym (drop-map with_end k (texts d w.wire))

  -- where q isn't empty, n + 1 bytes that go over with q as the lines in flight lead to the cut of q at the bytes gone before and
  -- these n + 1 together
  some_pass : (v : Streams Client State) (n : ℕ) (q : List (List ℕ)) → 0 < length q
      → passing ends rule d v q (n + 1) ≡ after_cut ends rule d v (cut q (gone d v + (n + 1)))
  some_pass v n [] some = absurd (omega (arith, some))
  some_pass v n (line ∷ q) some =
      let next : n + 1 ≡ suc n = omega arith in
      ap (passing ends rule d v (line ∷ q)) next ∙ ap (λ k. after_cut ends rule d v (cut (line ∷ q) (gone d v + k))) (sym next)

  -- where a line is in flight in the direction, an event of n + 1 bytes leads to the cut of the lines in flight at the bytes gone
  -- before and these n + 1 together
  some_bytes : (v : Streams Client State) (n : ℕ) → 0 < length (lines d v.world.wire)
      → flows ends rule v (bytes d (n + 1)) ≡ after_cut ends rule d v (cut (lines d v.world.wire) (gone d v + (n + 1)))
  some_bytes v n some = bytes_pass ends rule d v (n + 1) ∙ some_pass v n (lines d v.world.wire) some

  -- going to the cut b, and then on to the cut c, is going to one cut: the one with the lines of both, and with as many bytes of
  -- the next line as c
  to_behind : (v : Streams Client State) (b : Cut) (c : Cut)
      → after_cut ends rule d v (with_more_lines b.lines c) ≡ after_cut ends rule d (after_cut ends rule d v b) c
  to_behind v b c =
      let w = run ends rule (replicate b.lines (deliver d)) v.world in
      ap (λ x. with_front_gone d v x c.gone) (ap (λ s. run ends rule s v.world) (sym (replicate-append-replicate b.lines c.lines (deliver d)))
      ∙ run_append ends rule (replicate b.lines (deliver d)) (replicate c.lines (deliver d)) v.world)
      ∙ sym (reaches_again d v w b.gone (run ends rule (replicate c.lines (deliver d)) w) c.gone)

  -- where q is the lines in flight in the direction, and n bytes leave a line in flight there, q isn't empty
  some_before : (v : Streams Client State) (n : ℕ) (q : List (List ℕ)) → lines d v.world.wire ≡ q
      → 0 < length (lines d (passing ends rule d v q n).world.wire) → 0 < length q
  some_before v n [] e some =
      let same : lines d (idle v.world.wire) ≡ [] = ap (map with_end) (idle_leaves_texts d v.world.wire) ∙ e in
      absurd (omega (arith, some, ap length same))
  some_before v n (line ∷ q) e some = omega arith

  -- where m + 1 bytes leave a line in flight in the direction, these and n + 1 more leave the same streams in one event as in two
  pub bytes_add : (v : Streams Client State) (m n : ℕ) → 0 < length (lines d (flows ends rule v (bytes d (m + 1))).world.wire)
      → flows ends rule v (bytes d (m + 1 + (n + 1))) ≡ flows ends rule (flows ends rule v (bytes d (m + 1))) (bytes d (n + 1))
  bytes_add v m n some =
      let all = lines d v.world.wire in
      let g = gone d v in
      let c = cut all (g + (m + 1)) in
      let under : 0 < length all = some_before v (m + 1) all refl (subst (λ (x : Streams Client State). 0 < length (lines d x.world.wire)) (bytes_pass ends rule d v (m + 1)) some) in
      let first : flows ends rule v (bytes d (m + 1)) ≡ after_cut ends rule d v c = some_bytes v m under in
      let u = after_cut ends rule d v c in
      let after : lines d u.world.wire ≡ drop c.lines all = lines_left c.lines v.world in
      let under_u : 0 < length (lines d u.world.wire) = subst (λ (x : Streams Client State). 0 < length (lines d x.world.wire)) first some in
      let sum : m + 1 + (n + 1) ≡ m + 1 + n + 1 = omega arith in
      let total : g + (m + 1 + n + 1) ≡ g + (m + 1) + (n + 1) = omega arith in
      ap (λ k. flows ends rule v (bytes d k)) sum ∙ some_bytes v (m + 1 + n) under
      ∙ ap (λ k. after_cut ends rule d v (cut all k)) total ∙ ap (after_cut ends rule d v) (cut_add all (g + (m + 1)) (n + 1))
      ∙ to_behind v c (cut (drop c.lines all) (c.gone + (n + 1)))
      ∙ ap₂ (λ q k. after_cut ends rule d u (cut q (k + (n + 1)))) (sym after) (sym (gone_reached d v u.world c.gone))
      ∙ sym (some_bytes u n under_u)
      ∙ ap (λ x. flows ends rule x (bytes d (n + 1))) (sym first)

  -- where q is the lines in flight in the direction, and m + 1 bytes leave none in flight there, n further bytes in the same
  -- event change nothing
  bytes_stop : (v : Streams Client State) (m n : ℕ) (q : List (List ℕ)) → lines d v.world.wire ≡ q → lines d (flows ends rule v (bytes d (m + 1))).world.wire ≡ []
      → flows ends rule v (bytes d (m + 1 + n)) ≡ flows ends rule v (bytes d (m + 1))
  bytes_stop v m n [] e none =
      bytes_pass ends rule d v (m + 1 + n) ∙ ap (λ q. passing ends rule d v q (m + 1 + n)) e
      ∙ ap (λ q. passing ends rule d v q (m + 1)) (sym e) ∙ sym (bytes_pass ends rule d v (m + 1))
  bytes_stop v m n (line ∷ q) e none =
      let all = lines d v.world.wire in
      let under : 0 < length all = subst (λ (l : List (List ℕ)). 0 < length l) (sym e) (omega arith) in
      let sum : m + 1 + n ≡ m + n + 1 = omega arith in
      let total : gone d v + (m + n + 1) ≡ gone d v + (m + 1) + n = omega arith in
      let c = cut all (gone d v + (m + 1)) in
      let first : flows ends rule v (bytes d (m + 1)) ≡ after_cut ends rule d v c = some_bytes v m under in
      let done : drop c.lines all ≡ [] = sym (lines_left c.lines v.world) ∙ ap (λ (x : Streams Client State). lines d x.world.wire) (sym first) ∙ none in
      ap (λ k. flows ends rule v (bytes d k)) sum ∙ some_bytes v (m + n) under ∙ ap (λ k. after_cut ends rule d v (cut all k)) total
      ∙ ap (after_cut ends rule d v) (cut_end all (gone d v + (m + 1)) n done) ∙ sym first

  -- where m + 1 bytes leave no line in flight in the direction, n further bytes in the same event change nothing
  pub bytes_end : (v : Streams Client State) (m n : ℕ) → lines d (flows ends rule v (bytes d (m + 1))).world.wire ≡ []
      → flows ends rule v (bytes d (m + 1 + n)) ≡ flows ends rule v (bytes d (m + 1))
  bytes_end v m n none = bytes_stop v m n (lines d v.world.wire) refl none
