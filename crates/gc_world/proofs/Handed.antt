-- For the loop that hands over n bytes of a direction, one completed line after the other: at each turn, handing over the bytes
-- that are left leads to the same streams as handing over all n bytes at the start. An event *takes no memory* where
-- `TakesNoMemory` holds of it: no list grows, as where bytes complete no line.
use Rattle.gc_world.proofs.Common.{◌≡◌, ℕ, zero, suc, ◌+◌, ◌-◌, ◌<◌, ◌≤◌, Bool, false, cond, List, [], ◌∷◌, length, map, drop, Option, Some, None, refl, sym, ◌∙◌, ap, subst, arith, ap₂, replicate, IsTrue, ◌↔◌, both_ways, le-ltb, with_end, Call, ById, fits, heard, hears, place_in, settles_at, Direction, Up, Down, Behaviour, ends_with, by_ids, deliver, delivery, bytes, texts, lines, gone, to_go, with_front_gone, after_cut, handed_over, FrontIsStray, AreStrays, TakesNoMemory, IsPartOfFront, StageParts, after_step, AreStreamsOf, after_event, after_bytes, Streams, Cut, one_line_more, cut, down_lines, remaining, flows, Numbered, Ends, Rule, Down_deliver, down_delivered, happens, run}
use Rattle.gc_world.proofs.Directions.{gone_reached, reaches_again, unmoved, delivered, passing, bytes_pass, one_less, not_idle}
use Rattle.gc_world.proofs.Shown.{part}

-- where n bytes complete the front line, the cut at n bytes is the cut of the lines after that line at the bytes that are
-- left, with one more completed line
pub cut_long : (line : List ℕ) (lines : List (List ℕ)) (n : ℕ) → length line ≤ n → cut (line ∷ lines) n ≡ one_line_more (cut lines (n - length line))
cut_long line lines n le = ap (λ b. cond {A = Cut} b (record { lines = 0; gone = n }) (one_line_more (cut lines (n - length line)))) (le-ltb n (length line) le)

-- where bytes of the front line are still to go, a line is in flight
pub in_front : (gone : ℕ) (texts : List (List ℕ)) → 0 < remaining gone (map with_end texts) → (t : List ℕ) × (ts : List (List ℕ)) × (texts ≡ t ∷ ts)
in_front gone [] some = absurd (omega (arith, some))
in_front gone (t ∷ ts) some = (t, ts, refl)

-- where no byte of the front line is still to go, no line is in flight, and no byte has gone: by `IsPartOfFront` of a line in
-- flight not all bytes have gone
none_in_flight : (gone : ℕ) (lines : List (List ℕ)) → IsPartOfFront gone lines → remaining gone lines ≡ 0 → (lines ≡ []) × (gone ≡ 0)
none_in_flight gone [] part e = (refl, part)
none_in_flight gone (line ∷ lines) part e = absurd (omega (arith, part, e))

-- a line that no request waits for leaves the client as it is
stray_same : (c : ById Call) (line : List ℕ) (o : Option ℕ) → fits c o ≡ false → (hears c line o).client ≡ c
stray_same c line None e = refl
stray_same c line (Some id) e = ap (λ b. (settles_at c line (place_in c id) b).client) e

-- One turn of that loop: n bytes of the direction d are to go over on the streams v, and `used` of them complete the front line.
module _ {Client State : Type 0} (ends : Ends State) (rule : Rule Client) (d : Direction) (v : Streams Client State) where
  -- the front line takes `used` of the n bytes: the cut at the bytes gone before and the n bytes together is the cut of the lines
  -- after that line at the n - used others, with one more completed line
  pub record IsNext (n used : ℕ) : Type 0 where
    pub text : List ℕ
    pub behind : List (List ℕ)
    pub front : texts d v.world.wire ≡ text ∷ behind
    pub cut_is : cut (lines d v.world.wire) (gone d v + n) ≡ one_line_more (cut (map with_end behind) (n - used))
    pub tail : behind ≡ texts d (happens ends rule v.world (deliver d)).wire

  -- `IsNext` holds where the front line takes what remains of it, which is some bytes and no more than n
  pub next : (n used : ℕ) → used ≡ to_go d v → 0 < used → used ≤ n → IsNext n used
  next n used e some le =
      let f = in_front (gone d v) (texts d v.world.wire) (subst (λ k. 0 < k) e some) in
      let size : used ≡ length (with_end f.0) - gone d v = e ∙ ap (λ q. remaining (gone d v) (map with_end q)) f.2 in
      let left : gone d v + n - length (with_end f.0) ≡ n - used = omega (arith, size, some, le) in
      record {
        text = f.0;
        behind = f.1;
        front = f.2;
        cut_is = ap (λ q. cut (map with_end q) (gone d v + n)) f.2 ∙ cut_long (with_end f.0) (map with_end f.1) (gone d v + n) (omega (arith, size, some, le))
            ∙ ap (λ k. one_line_more (cut (map with_end f.1) k)) left;
        tail = sym (one_less ends rule d v.world ∙ ap (drop 1) f.2);
      }

  -- the streams after the delivery of the front line
  abbrev after : Streams Client State
  after = with_front_gone d v (happens ends rule v.world (deliver d)) 0

  -- handing over n bytes is delivering the front line, and then handing over the n - used others
  pub next_same : (n used : ℕ) → IsNext n used → handed_over ends rule d v n ≡ handed_over ends rule d (flows ends rule v (delivery d)) (n - used)
  next_same n used h =
      let c = cut (map with_end h.behind) (n - used) in
      let w = happens ends rule v.world (deliver d) in
      let none : gone d after ≡ 0 = gone_reached d v w 0 in
      let more : n - used ≡ gone d after + (n - used) = omega (arith, none) in
      ap (after_cut ends rule d v) h.cut_is ∙ sym (reaches_again d v w 0 (run ends rule (replicate c.lines (deliver d)) w) c.gone)
      ∙ ap₂ (λ q k. after_cut ends rule d after (cut (map with_end q) k)) h.tail more
      ∙ ap (λ x. handed_over ends rule d x (n - used)) (sym (delivered ends rule d v))

  -- the delivery of the front line is no idle event
  pub next_idle : (n used : ℕ) → IsNext n used → (flows ends rule v (delivery d)).world.wire.idle ≡ v.world.wire.idle
  next_idle n used h =
      let some : length (texts d v.world.wire) ≡ suc (length h.behind) = ap length h.front in
      ap (λ (x : Streams Client State). x.world.wire.idle) (delivered ends rule d v) ∙ not_idle ends rule d v.world (omega (arith, some))

  -- where no byte of the front line remains, handing over n bytes changes nothing: by `IsPartOfFront` no line is in flight then
  pub none_to_hand_over : (n : ℕ) → IsPartOfFront (gone d v) (lines d v.world.wire) → to_go d v ≡ 0 → handed_over ends rule d v n ≡ v
  none_to_hand_over n part e =
      let none = none_in_flight (gone d v) (lines d v.world.wire) part e in
      ap (λ q. after_cut ends rule d v (cut q (gone d v + n))) none.0 ∙ ap (with_front_gone d v v.world) (sym none.1) ∙ unmoved d v v.world

  -- an event of n bytes leads to the streams that `handed_over` gives, where n isn't 0 and bytes are in flight
  pub bytes_handed : (n r : ℕ) → r ≡ to_go d v → (n ≡ 0 → ⊥) → (r ≡ 0 → ⊥)
      → flows ends rule v (bytes d n) ≡ handed_over ends rule d v n
  bytes_handed n r e not none = bytes_pass ends rule d v n ∙ by_cases n (lines d v.world.wire) not (λ z. none (e ∙ z))
    where
      by_cases : (k : ℕ) (q : List (List ℕ)) → (k ≡ 0 → ⊥) → (remaining (gone d v) q ≡ 0 → ⊥) → passing ends rule d v q k ≡ after_cut ends rule d v (cut q (gone d v + k))
      by_cases zero q some more = absurd (some refl)
      by_cases (suc k) [] some more = absurd (more refl)
      by_cases (suc k) (l ∷ ls) some more = refl

-- A delivery that takes no memory: upward there is none, and downward it is one of a stray.
module _ {State : Type 0} (acts : Behaviour State) (width : ℕ) (v : Streams (ById Call) State) where
  -- bytes upward that complete the front line (`IsNext`) take memory
  next_takes : (n used : ℕ) → IsNext (ends_with acts) (by_ids width (ends_with acts)) Up v n used → TakesNoMemory width v (bytes Up n) → ⊥
  next_takes n used h z =
      let s : suc (cut (map with_end h.behind) (n - used)).lines ≡ 0 = sym (ap (λ (c : Cut). c.lines) h.cut_is) ∙ z in
      absurd (omega (arith, s))

  -- where bytes downward that complete the front line take no memory, the delivery of this line takes none, and the other bytes
  -- take none after it
  next_strays : (n used : ℕ) → IsNext (ends_with acts) (by_ids width (ends_with acts)) Down v n used → (q : List (Numbered (List ℕ))) → v.world.wire.down ≡ q
      → TakesNoMemory width v (bytes Down n)
      → TakesNoMemory width v (delivery Down) × TakesNoMemory width (after_event (ends_with acts) width v (delivery Down)) (bytes Down (n - used))
  next_strays n used h [] e t = let wrong : [] ≡ h.text ∷ h.behind = sym (ap (map (λ x. x.line)) e) ∙ h.front in cc
  next_strays n used h (x ∷ xs) e t =
      let w = after_step acts width v.world Down_deliver in
      let k = (cut (map with_end h.behind) (n - used)).lines in
      let all = subst (λ q. AreStrays v.world.client (suc k) q) e (subst (λ (c : Cut). AreStrays v.world.client c.lines v.world.wire.down) h.cut_is t) in
      let same : w.client ≡ v.world.client = ap (λ q. (down_delivered (by_ids width (ends_with acts)) v.world q).client) e ∙ stray_same v.world.client x.line (heard x.line) all.0 in
      let tail : xs ≡ w.wire.down = sym (ap (λ q. (down_delivered (by_ids width (ends_with acts)) v.world q).wire.down) e) in
      let zero_more : n - used ≡ 0 + (n - used) = omega arith in
      let count : (cut (map with_end h.behind) (n - used)).lines ≡ (cut (down_lines w.wire) (0 + (n - used))).lines = ap₂ (λ q j. (cut (map with_end q) j).lines) h.tail zero_more in (
        subst (λ l. FrontIsStray v.world.client l) (sym e) (all.0, tt),
        subst (λ c. AreStrays c (cut (down_lines w.wire) (0 + (n - used))).lines w.wire.down) (sym same)
            (subst (λ j. AreStrays v.world.client j w.wire.down) count (subst (λ q. AreStrays v.world.client k q) tail all.1)),
      )

-- in either direction: where the bytes of an event complete the front line and take no memory, the delivery of this line takes
-- none, and the other bytes take none after it
front_spared : {State : Type 0} (acts : Behaviour State) (width : ℕ) (d : Direction) (v : Streams (ById Call) State) (n used : ℕ) → IsNext (ends_with acts) (by_ids width (ends_with acts)) d v n used → TakesNoMemory width v (bytes d n)
    → TakesNoMemory width v (delivery d) × TakesNoMemory width (after_event (ends_with acts) width v (delivery d)) (bytes d (n - used))
front_spared acts width Up v n used h t = absurd (next_takes acts width v n used h t)
front_spared acts width Down v n used h t = next_strays acts width v n used h v.world.wire.down refl t

-- n bytes are to be handed over on the streams v, and `left` of them are left: the stage shows streams `now` from which handing
-- over those left leads where all n lead from v. Since v no event was counted as not possible; and those left take no memory if
-- all n take none (`spare`)
pub record IsReached {State : Type 0} (acts : Behaviour State) (width : ℕ) (d : Direction) (s : StageParts State) (v : Streams (ById Call) State) (n left : ℕ) : Type 0 where
  pub now : Streams (ById Call) State
  pub shows : AreStreamsOf width s now
  pub same : after_bytes (ends_with acts) width d now left ≡ after_bytes (ends_with acts) width d v n
  pub spare : TakesNoMemory width v (bytes d n) → TakesNoMemory width now (bytes d left)
  pub idle : now.world.wire.idle ≡ v.world.wire.idle

-- where a stage shows the streams v, `IsReached` holds before any byte was handed over, with all n bytes left
pub reached_at_first : {State : Type 0} (acts : Behaviour State) (width : ℕ) (d : Direction) (s : StageParts State) (v : Streams (ById Call) State) (n : ℕ) → AreStreamsOf width s v → IsReached acts width d s v n n
reached_at_first acts width d s v n h = record { now = v; shows = h; same = refl; spare = λ t. t; idle = refl }

module _ {State : Type 0} (acts : Behaviour State) (width : ℕ) (d : Direction) (s : StageParts State) (v : Streams (ById Call) State) (n left : ℕ) (h : IsReached acts width d s v n left) where
  -- `IsReached` holds also once one more line was delivered, which took `used` of the bytes that were left: `left - used` are
  -- left then
  pub reaches_next : (t : StageParts State) (used : ℕ) → used ≡ to_go d h.now → 0 < used → used ≤ left
      → AreStreamsOf width t (after_event (ends_with acts) width h.now (delivery d)) → IsReached acts width d t v n (left - used)
  reaches_next t used e some le shows =
      let one = next (ends_with acts) (by_ids width (ends_with acts)) d h.now left used e some le in
      record {
        now = after_event (ends_with acts) width h.now (delivery d);
        shows = shows;
        same = sym (next_same (ends_with acts) (by_ids width (ends_with acts)) d h.now left used one) ∙ h.same;
        spare = λ t. (front_spared acts width d h.now left used one (h.spare t)).1;
        idle = next_idle (ends_with acts) (by_ids width (ends_with acts)) d h.now left used one ∙ h.idle;
      }

  -- where the bytes that are left complete the front line, of which `used` remain, and the n bytes of the event take no memory,
  -- the delivery of this line takes none
  pub next_spares : (used : ℕ) → used ≡ to_go d h.now → 0 < used → used ≤ left
      → TakesNoMemory width v (bytes d n) → TakesNoMemory width h.now (delivery d)
  next_spares used e some le t = (front_spared acts width d h.now left used (next (ends_with acts) (by_ids width (ends_with acts)) d h.now left used e some le) (h.spare t)).0

  -- where a stage shows the streams that handing over the bytes that are left leads to, it shows those that all n bytes lead to
  pub reaches_end : (t : StageParts State) → AreStreamsOf width t (after_bytes (ends_with acts) width d h.now left) → AreStreamsOf width t (after_bytes (ends_with acts) width d v n)
  reaches_end t shows = subst (λ x. AreStreamsOf width t x) h.same shows

  -- where no byte is in flight any more, the stage shows the streams that all n bytes lead to
  pub runs_dry : to_go d h.now ≡ 0 → AreStreamsOf width s (after_bytes (ends_with acts) width d v n)
  runs_dry e = subst (λ x. AreStreamsOf width s x) (sym (none_to_hand_over (ends_with acts) (by_ids width (ends_with acts)) d h.now left (part acts width s h.now h.shows d) e) ∙ h.same) h.shows

-- where l bytes are at least the r bytes that are left of a line, and don't complete it (b is false), no byte is left: r is 0
pub none_left_if_incomplete : (b : Bool) (r l : ℕ) → IsTrue b ↔ ((0 < r) × (r ≤ l)) → b ≡ false → (l < r → ⊥) → r ≡ 0
none_left_if_incomplete b zero l iff e le = refl
none_left_if_incomplete b (suc r) l iff e le = absurd (both_ways b e (iff.1 (omega arith, omega (arith, le))))
