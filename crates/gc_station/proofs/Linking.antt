-- Chains by the parts of a run (a part reaches from one synchronization to the next): of two commands that are sent, the later
-- one has a later place or cycle; and the commands of a chain are requests of one part. An act is one call on the link, with
-- its result. A mark says which command a request is of, or `None` of a null procedure. Places, parts and requests count from
-- 0. `AnsweredInPart` says of an earlier command that it was sent, was answered well, and is of the part that still goes on.
use Rattle.gc_station.proofs.Common.{◌≡◌, inl, inr, ℕ, zero, suc, ◌+◌, ◌-◌, ◌<◌, ◌≤◌, Bool, true, false, List, [], ◌∷◌, ◌++◌, length, drop, Some, if◌then◌else◌, refl, sym, ◌∙◌, ap, subst, arith, append_assoc, append-nil, slice_get, unwrap_or, length-drop, append_cancel_left, none-some, same_Some, Task, Mark, Plan, Action, Prepare, Send, Act, Put, Cut, IsLinked, has_begun, IsFurther, AreChained, IsBefore, WasAnsweredWell, IsAnsweredEarlier, ChainsStay, MarksGoOn, parts, Part, parts_joined, first_request_part, client_part, sync_part, part_of_act, ends_part, in_front, parts_of, mark_of, state_after, Scope, Puts, Model, Runs, opening, action_at, cycle_to_send, after, after_all, mark_sent, place_next, commands_left, cycles_begun}
use Rattle.gc_lines.proofs.Lists.{get_push}
use Rattle.gc_station.proofs.Chaining.{StaysBegun, SendsNoSetup, PreparesNothing, each_act_append, chain_linked, IsLinkedStill}
use Rattle.gc_station.proofs.EachRun.{invariant_holds}
use Rattle.gc_station.proofs.Outs.{sends_next_of_cycle, send_cycle, send_place, sends_of_cycle}
use Rattle.gc_station.proofs.Further.{send_goes_on}
use Rattle.gc_station.proofs.Going.{after_all-append, runs_front, runs_behind}
use Rattle.gc_station.proofs.SentAt.{records_stay, SentAt, sent_at}
use Rattle.gc_station.proofs.OnePart.{puts_text, same_part}
use Rattle.gc_station.proofs.PartFronts.{HasSome, IsFront, front_parts, front_not_longer, some_parts}
use Rattle.gc_station.proofs.Lists.{get_more, get_behind, cons_head, cons_tail, one_front_begins_other}
use Rattle.gc_station.proofs.Closings.{needs_of}
use Rattle.gc_station.proofs.Interleaving.{before_not_after}

-- The commands go on.

module _ (plan : Plan) (commands : List Task) (scope : Scope) where
  -- if a command of a cycle is to be sent after the acts `xs`, the station is further (`IsFurther`) after the act that sends it
  -- and any acts more (`ys`) than after `xs`
  further_after_send : (xs ys more : List Act) → action_at plan (state_after plan commands scope xs) ≡ Send → ys ≡ xs ++ more → (more ≡ [] → ⊥)
      → IsFurther plan commands (state_after plan commands scope xs) (state_after plan commands scope ys)
  further_after_send xs ys [] sends e some = absurd (some refl)
  further_after_send xs ys (act ∷ more) sends e some =
      subst (λ l. IsFurther plan commands (state_after plan commands scope xs) (state_after plan commands scope l)) (sym e) (send_goes_on plan commands scope xs more act sends)

  -- of two commands that were sent (x before y, in the order of parts and requests), the second one was sent at least one
  -- act later
  goes_before : (acts : List Act) (i j m n : ℕ) (a b : Mark) → IsBefore i m j n → (x : SentAt plan commands (opening plan scope) acts i m a)
      → (y : SentAt plan commands (opening plan scope) acts j n b) → (more : List Act) × (y.before ≡ x.before ++ more) × (more ≡ [] → ⊥)
  goes_before acts i j m n a b l x y =
      elim (one_front_begins_other x.before (x.act ∷ x.rest) y.before (y.act ∷ y.rest) (sym x.order ∙ y.order)) [
        | inl h ↦ (h.0, h.1, λ none. not_later [] (sym (h.1 ∙ ap (λ l. x.before ++ l) none ∙ append-nil x.before) ∙ sym (append-nil y.before)))
        | inr h ↦ absurd (not_later h.0 h.1)
      ]
    where
      -- the first command isn't sent at the act that sends the second one, or after it
      not_later : (more : List Act) → x.before ≡ y.before ++ more → ⊥
      not_later more e =
          let front = subst (λ l. IsFront (parts plan commands scope y.before) (parts plan commands scope l)) (sym e)
          (front_parts plan commands (opening plan scope) y.before more) in
          let there = front_not_longer (parts plan commands scope y.before)
          (parts plan commands scope x.before) j i y.so_far x.so_far front y.last x.last y.of_parts x.of_parts in
          let counts_x : length x.so_far.marks ≡ m = x.count in
          let counts_y : length y.so_far.marks ≡ n = y.count in
          before_not_after i j m n l (elim there [
            | inl k ↦ inl k
            | inr k ↦ (let le : length y.so_far.marks ≤ length x.so_far.marks = k.1 in inr (k.0, omega (arith, le, counts_x, counts_y)))
          ])

  -- of two commands that were sent (x before y, in the order of parts and requests), the first one by `Send`, the second one is
  -- of a later place or cycle
  second_is_further : (acts : List Act) (i j m n : ℕ) (a b : Mark) → IsBefore i m j n → (x : SentAt plan commands (opening plan scope) acts i m a)
      → action_at plan (state_after plan commands scope x.before) ≡ Send → (y : SentAt plan commands (opening plan scope) acts j n b)
      → IsFurther plan commands (state_after plan commands scope x.before) (state_after plan commands scope y.before)
  second_is_further acts i j m n a b l x sends y = let h = goes_before acts i j m n a b l x y in further_after_send x.before y.before h.0 sends h.1 h.2

-- the law: of two commands of cycles that are sent, the later one is of a later place in its cycle, or of a later cycle
pub marks_go_on : MarksGoOn
marks_go_on plan commands scope acts runs i j m n p q a b e f g h l above below =
    let x = sent_at plan commands (opening plan scope) acts i m p a e g in
    let y = sent_at plan commands (opening plan scope) acts j n q b f h in
    let at_x = mark_sent plan commands (state_after plan commands scope x.before) in
    let x_is = sends_next_of_cycle plan commands (state_after plan commands scope x.before) (action_at plan (state_after plan commands scope x.before)) a x.its above in
    let y_is = sends_next_of_cycle plan commands (state_after plan commands scope y.before) (action_at plan (state_after plan commands scope y.before)) b y.its below in
    subst (λ (u : Mark). IsBefore u.cycle u.place b.cycle b.place) (sym x_is.1)
    (subst (λ (u : Mark). IsBefore at_x.cycle at_x.place u.cycle u.place) (sym y_is.1) (second_is_further plan commands scope acts i j m n a b l x x_is.0 y))

-- The mark of a request.

-- the part that sends the first of these commands, if there is one, has its mark first
asked_mark : (now : ℕ) (mark : Mark) (left : List Task) → 0 < length left → slice_get (first_request_part now mark left).marks 0 ≡ Some (Some mark)
asked_mark now mark [] some = absurd (omega (arith, some))
asked_mark now mark (task ∷ others) some = refl

-- once the station has synchronized, the part of an act that puts bytes for `Send` has the mark of the cycle's next command
-- first, if there is one
put_asks : (plan : Plan) (commands : List Task) (s : Model) (act : Act) (bytes : List ℕ) → Puts bytes act → has_begun s.progress ≡ true → 0 < length (commands_left commands s.progress)
    → slice_get (part_of_act plan commands s Send act).marks 0 ≡ Some (Some (mark_sent plan commands s))
put_asks plan commands s act bytes puts begun some = subst (λ (b : Bool). slice_get
    (if b then client_part plan commands s Send act else sync_part s Send act).marks 0 ≡ Some (Some (mark_sent plan commands s))) (sym begun)
    (by_act act puts) where
      -- the lemma above, by how the act puts the bytes: whole or in part
      by_act : (a : Act) → Puts bytes a → slice_get (client_part plan commands s Send a).marks 0 ≡ Some (Some (mark_sent plan commands s))
      by_act (Put out) puts = asked_mark s.progress.moment.elapsed (mark_sent plan commands s) (drop (place_next commands s.progress) commands) some
      by_act (Cut out count) puts = asked_mark s.progress.moment.elapsed (mark_sent plan commands s) (drop (place_next commands s.progress) commands) some
      by_act a puts = absurd puts

-- part i of these parts, counted from 0, has a request with this mark
abbrev HasMark : List Part → (i : ℕ) → Mark → Type 0
HasMark ps i mark = (part : Part) × (slice_get ps i ≡ Some part) × (m : ℕ) × (slice_get part.marks m ≡ Some (Some mark))

-- if the first request of the part p has this mark, the first of the parts `ps` with p before them (`in_front`) has a request
-- with it
first_has_mark : (p : Part) (ends : Bool) (ps : List Part) (mark : Mark) → slice_get p.marks 0 ≡ Some (Some mark) → HasMark (in_front p ends ps) 0 mark
first_has_mark p true ps mark e = (p, refl, 0, e)
first_has_mark p false [] mark e = (p, refl, 0, e)
first_has_mark p false (q ∷ ps) mark e = (parts_joined p q, refl, 0, get_more p.marks q.marks 0 (Some mark) e)

-- if part i has a request with a mark, it still has it once another part is joined to the front of the first one
still_has_mark : (p : Part) (qs : List Part) (i : ℕ) (mark : Mark) → HasMark qs i mark → HasMark (in_front p false qs) i mark
still_has_mark p [] i mark h = absurd (none-some h.0 h.1)
still_has_mark p (y ∷ qs) zero mark h =
    let same : h.0 ≡ y = sym (same_Some y h.0 h.1) in
    (parts_joined p y, refl, length p.marks + h.2, get_behind p.marks y.marks (length p.marks + h.2) h.2 refl ∙ subst (λ (x : Part). slice_get x.marks h.2 ≡ Some (Some mark)) same h.3)
still_has_mark p (y ∷ qs) (suc i) mark h = h

-- `ps` are the parts of some first acts, and `qs` those of all acts. If the part of `qs` at the place of the last part of `ps`
-- has a request with a mark, it still has it once one act more, whose part is p, is put before both
last_has_mark : (p : Part) (ends : Bool) (ps qs : List Part) (i : ℕ) (mark : Mark) → HasSome ps → length (in_front p ends ps) ≡ suc i
    → ((j : ℕ) → length ps ≡ suc j → HasMark qs j mark) → HasMark (in_front p ends qs) i mark
last_has_mark p true [] qs i mark some size has = absurd some
last_has_mark p true (x ∷ ps) qs zero mark some size has = absurd (omega (arith, size))
last_has_mark p true (x ∷ ps) qs (suc i) mark some size has = has i (omega (arith, size))
last_has_mark p false [] qs i mark some size has = absurd some
last_has_mark p false (x ∷ ps) qs i mark some size has = still_has_mark p qs i mark (has i size)

-- the first request of this act, by a station with the model u, has the mark of the next command of a cycle
abbrev SendsNextFirst : Plan → List Task → (u : Model) → Act → Type 0
SendsNextFirst plan commands u act = slice_get (part_of_act plan commands u (action_at plan u) act).marks 0 ≡ Some (Some (mark_sent plan commands u))

-- part i is the last one after the acts `start`. If the first request of the act that follows has the next command's mark, part i
-- of all acts (`start`, that act and `rest`) has that mark, too
has_mark_after_all : (plan : Plan) (commands : List Task) (s : Model) (start : List Act) (act : Act) (rest : List Act) (i : ℕ) → length (parts_of plan commands s start) ≡ suc i
    → SendsNextFirst plan commands (after_all plan commands s start) act
    → HasMark (parts_of plan commands s (start ++ act ∷ rest)) i (mark_sent plan commands (after_all plan commands s start))
has_mark_after_all plan commands s [] act rest zero size e =
    first_has_mark (part_of_act plan commands s (action_at plan s) act) (ends_part plan commands s act) (parts_of plan commands (after plan commands s act) rest) (mark_sent plan commands s) e
has_mark_after_all plan commands s [] act rest (suc i) size e = absurd (omega (arith, size))
has_mark_after_all plan commands s (x ∷ start) act rest i size e =
    let u = after plan commands s x in
    last_has_mark (part_of_act plan commands s (action_at plan s) x) (ends_part plan commands s x) (parts_of plan commands u start)
    (parts_of plan commands u (start ++ act ∷ rest)) i (mark_sent plan commands (after_all plan commands u start)) (some_parts plan commands u start) size
    (λ j many. has_mark_after_all plan commands u start act rest j many e)

-- Back along a chain.

module _ (plan : Plan) (commands : List Task) (scope : Scope) where
  -- the model after these acts
  abbrev at : List Act → Model
  at acts = state_after plan commands scope acts

  -- a command is sent once: two fronts of a run after which the same command is to be sent are the same
  same_send : (acts xs us ys vs : List Act) → (first : acts ≡ xs ++ us) → (second : acts ≡ ys ++ vs) → (sends : action_at plan (at xs) ≡ Send) → (sends_too : action_at plan (at ys) ≡ Send)
      → (cycle : cycles_begun plan (at xs).progress ≡ cycles_begun plan (at ys).progress) → (place : place_next commands (at xs).progress ≡ place_next commands (at ys).progress) → xs ≡ ys
  same_send acts xs us ys vs e f go_x go_y cycle place =
      elim (one_front_begins_other xs us ys vs (sym e ∙ f)) [
        | inl h ↦ sym (none_between h.0 xs ys h.1 go_x cycle place)
        | inr h ↦ none_between h.0 ys xs h.1 go_y (sym cycle) (sym place)
      ]
    where
      -- no acts lie between two fronts after which the same command is to be sent
      none_between : (more zs ws : List Act) → ws ≡ zs ++ more → action_at plan (at zs) ≡ Send
          → cycles_begun plan (at zs).progress ≡ cycles_begun plan (at ws).progress
          → place_next commands (at zs).progress ≡ place_next commands (at ws).progress → ws ≡ zs
      none_between [] zs ws is go c p = is ∙ append-nil zs
      none_between (act ∷ more) zs ws is go c p =
          absurd (before_not_after (cycles_begun plan (at zs).progress) (cycles_begun plan (at ws).progress) (place_next commands (at zs).progress) (place_next commands (at ws).progress)
          (subst (λ l. IsFurther plan commands (at zs) (at l)) (sym is) (send_goes_on plan commands scope zs more act go)) (inr (sym c, omega (arith, p))))

  -- the command at place a of this cycle was answered well among the acts `before`, as a request of the part that still goes on:
  -- after the acts `start` it was sent by `act`, with the mark of its record; since then no part ended, and no command of the
  -- setup was sent
  record AnsweredInPart (before : List Act) (cycle a : ℕ) : Type 0 where
    its : WasAnsweredWell scope.reads commands (at before).records cycle a
    start : List Act
    act : Act
    rest : List Act
    order : before ≡ start ++ act ∷ rest
    sends : action_at plan (at start) ≡ Send
    mark : mark_of (mark_sent plan commands (at start)).expected its.answer ≡ mark_sent plan commands (at start)
    same : length (parts plan commands scope before) ≡ length (parts plan commands scope start)
    no_setup : PreparesNothing plan commands (at start) (act ∷ rest)

  -- no part ended since the command before a chained one was sent (`IsLinked`), if the station has synchronized after each act
  -- since
  same_link : (acts : List Act) → Runs plan commands (opening plan scope) acts → action_at plan (at acts) ≡ Send → (l : IsLinked plan commands scope acts)
      → StaysBegun plan commands (at l.before) (l.request ∷ l.between) → length (parts plan commands scope acts) ≡ length (parts plan commands scope l.before)
  same_link acts runs next l keeps =
      subst (λ xs. length (parts plan commands scope xs) ≡ length (parts plan commands scope l.before)) (sym l.order)
      (same_part plan commands scope l.before l.between l.request (subst
      (λ xs. Runs plan commands (opening plan scope) xs) l.order runs) keeps (subst (λ xs. action_at plan (at xs) ≡ Send) l.order next))

  -- if a chained command is to be sent, at place a + 1, `AnsweredInPart` holds of the command before it (`IsLinkedStill`)
  answered_one_before : (acts : List Act) (a : ℕ) → (runs : Runs plan commands (opening plan scope) acts) → (sends : action_at plan (at acts) ≡ Send)
      → (place : place_next commands (at acts).progress ≡ a + 1) → IsLinkedStill plan commands scope acts → AnsweredInPart acts (cycles_begun plan (at acts).progress) a
  answered_one_before acts a runs next place (l, keeps, no_setup) =
      let t = l.in_time.reply in
      let b = at l.before in
      let some_cycle = (invariant_holds plan commands scope l.before).begun (needs_of plan b Send l.sends).2 in
      let own : l.answer.cycle ≡ cycles_begun plan b.progress = l.own_cycle in
      let its : l.answer.cycle ≡ cycle_to_send plan (at t.its.before) = t.its.own.cycle in
      let sends = sends_of_cycle plan (at t.its.before) t.its.own.sends (omega (arith, own, its, some_cycle)) in
      let one : t.its.before ≡ l.before = same_send acts t.its.before _ l.before (l.request ∷ l.between) t.its.order l.order sends l.sends
      (sym (send_cycle plan (at t.its.before) sends) ∙ sym t.its.own.cycle ∙ l.own_cycle) (sym (send_place plan commands (at t.its.before) sends) ∙ sym t.its.own.place ∙ l.own_place) in
      let utc : l.answer.sent ≡ Some (at l.before).progress.moment.utc = t.its.own.sent ∙ ap (λ xs. Some (at xs).progress.moment.utc) one in
      let before_place : place_next commands (at acts).progress ≡ place_next commands (at l.before).progress + 1 = l.place in
      let here : place_next commands (at l.before).progress ≡ a = omega (arith, before_place, place) in
      record {
        its = record {
          k = length l.earlier;
          answer = l.answer;
          among = ap (λ xs. slice_get xs (length l.earlier)) l.last ∙ get_push l.earlier l.answer;
          own_cycle = l.own_cycle ∙ sym l.cycle;
          own_place = l.own_place ∙ here;
          good = l.good;
        };
        start = l.before;
        act = l.request;
        rest = l.between;
        order = l.order;
        sends = l.sends;
        mark =
            let expected = (mark_sent plan commands (at l.before)).expected in
            let id : l.answer.id ≡ (at l.before).client.next = t.its.own.id ∙ ap (λ xs. (at xs).client.next) one in
            ap (λ c. record { cycle = c; place = l.answer.place; sent = unwrap_or l.answer.sent 0; id = l.answer.id; expected = expected }) l.own_cycle
            ∙ ap (λ p. record { cycle = cycles_begun plan (at l.before).progress; place = p; sent = unwrap_or l.answer.sent 0; id = l.answer.id; expected = expected }) l.own_place
            ∙ ap (λ o. record { cycle = cycles_begun plan (at l.before).progress; place = place_next commands (at l.before).progress; sent = unwrap_or o 0; id = l.answer.id; expected = expected }) utc
            ∙ ap (λ n. record { cycle = cycles_begun plan (at l.before).progress; place = place_next commands (at l.before).progress; sent = (at l.before).progress.moment.utc; id = n; expected = expected }) id;
        same = same_link acts runs next l keeps;
        no_setup = no_setup;
      }

  -- a chained command is to be sent, and `it` has the acts before the command that precedes it (`it.0.before`). If
  -- `AnsweredInPart` holds after these acts of an earlier command of the cycle, it holds of that command still
  answered_still : (acts : List Act) (a : ℕ) → (runs : Runs plan commands (opening plan scope) acts) → (sends : action_at plan (at acts) ≡ Send) → (it : IsLinkedStill plan commands scope acts)
      → AnsweredInPart it.0.before (cycles_begun plan (at it.0.before).progress) a → AnsweredInPart acts (cycles_begun plan (at acts).progress) a
  answered_still acts a runs next (l, keeps, no_setup) h =
      let grown = records_stay plan commands scope l.before (l.request ∷ l.between) in
      record {
        its = record {
          k = h.its.k;
          answer = h.its.answer;
          among = ap (λ xs. slice_get (at xs).records h.its.k) l.order ∙ ap (λ rs. slice_get rs h.its.k) grown.1 ∙ get_more (at l.before).records grown.0 h.its.k h.its.answer h.its.among;
          own_cycle = h.its.own_cycle ∙ sym l.cycle;
          own_place = h.its.own_place;
          good = h.its.good;
        };
        start = h.start;
        act = h.act;
        rest = h.rest ++ l.request ∷ l.between;
        order = l.order ∙ ap (λ xs. xs ++ l.request ∷ l.between) h.order ∙ append_assoc h.start (h.act ∷ h.rest) (l.request ∷ l.between);
        sends = h.sends;
        mark = h.mark;
        same = same_link acts runs next l keeps ∙ h.same;
        no_setup =
            let back = after_all-append plan commands (opening plan scope) h.start (h.act ∷ h.rest) in
            let here : after_all plan commands (at h.start) (h.act ∷ h.rest) ≡ at l.before = sym back ∙ ap at (sym h.order) in
            each_act_append (SendsNoSetup plan) plan commands (at h.start) (h.act ∷ h.rest) (l.request ∷ l.between) h.no_setup
            (subst (λ (x : Model). PreparesNothing plan commands x (l.request ∷ l.between)) (sym here) no_setup);
      }

  -- if a command is to be sent, `AnsweredInPart` holds of the command d + 1 places before it, at place a, if that is one of a
  -- cycle, and all commands after it up to the next one are chained
  answered_any_before : (d a : ℕ) (acts : List Act) → (runs : Runs plan commands (opening plan scope) acts) → (sends : action_at plan (at acts) ≡ Send)
      → (place : place_next commands (at acts).progress ≡ a + suc d) → (low : plan.setup ≤ a) → AreChained commands a (place_next commands (at acts).progress)
      → AnsweredInPart acts (cycles_begun plan (at acts).progress) a
  answered_any_before zero a acts runs next place low chained =
      let x = chain_linked plan commands scope acts runs next (omega (arith, place, low), chained (place_next commands (at acts).progress) (omega (arith, place)) (omega arith)) in
      answered_one_before acts a runs next (omega (arith, place)) x
  answered_any_before (suc d) a acts runs next place low chained =
      let x = chain_linked plan commands scope acts runs next (omega (arith, place, low), chained (place_next commands (at acts).progress) (omega (arith, place)) (omega arith)) in
      let l = x.0 in
      let on : place_next commands (at acts).progress ≡ place_next commands (at l.before).progress + 1 = l.place in
      answered_still acts a runs next x
      (answered_any_before d a l.before (runs_front plan commands (opening plan scope) l.before (l.request ∷ l.between)
      (subst (λ xs. Runs plan commands (opening plan scope) xs) l.order runs)) l.sends (omega (arith, on, place)) low
      (λ p above upto. chained p above (omega (arith, on, upto))))

  -- none of these acts sends a command of the setup, so it isn't next after any of them
  no_prepare : (s : Model) (xs ys zs : List Act) (act : Act) → PreparesNothing plan commands s xs → xs ≡ ys ++ act ∷ zs → action_at plan (after_all plan commands s ys) ≡ Prepare → ⊥
  no_prepare s [] [] zs act h e is = cc
  no_prepare s [] (y ∷ ys) zs act h e is = cc
  no_prepare s (x ∷ xs) [] zs act h e is = h.0 is
  no_prepare s (x ∷ xs) (y ∷ ys) zs act h e is =
      no_prepare (after plan commands s x) xs ys zs act h.1 (cons_tail x y xs (ys ++ act ∷ zs) e)
      (subst (λ (a : Act). action_at plan (after_all plan commands (after plan commands s a) ys) ≡ Prepare) (sym (cons_head x y xs (ys ++ act ∷ zs) e)) is)

  -- of the part that still goes on, each command after the one that `AnsweredInPart` speaks of, which is request m, is of a
  -- cycle: one of the setup would be sent by an act after that one
  cycles_behind : (acts : List Act) (i m cycle a : ℕ) (first : Part) → (there : slice_get (parts plan commands scope acts) i ≡ Some first) → (h : AnsweredInPart acts cycle a)
      → (mark_there : slice_get first.marks m ≡ Some (Some (mark_sent plan commands (at h.start))))
      → (some : 0 < cycles_begun plan (at h.start).progress)
      → (x : ℕ) (mark : Mark) → (behind : m < x) → slice_get first.marks x ≡ Some (Some mark) → 0 < mark.cycle
  cycles_behind acts i m cycle a first of_parts h got many x mark later found =
      let own = mark_sent plan commands (at h.start) in
      let p = sent_at plan commands (opening plan scope) acts i m first own of_parts got in
      let q = sent_at plan commands (opening plan scope) acts i x first mark of_parts found in
      let p_is = sends_next_of_cycle plan commands (at p.before) (action_at plan (at p.before)) own p.its many in
      let one : p.before ≡ h.start = same_send acts p.before (p.act ∷ p.rest) h.start (h.act ∷ h.rest) p.order h.order p_is.0 h.sends
      (ap (λ (k : Mark). k.cycle) (sym p_is.1)) (ap (λ (k : Mark). k.place) (sym p_is.1)) in
      let more = goes_before plan commands scope acts i i m x own mark (inr (refl, later)) p q in
      let behind : q.before ≡ h.start ++ more.0 = more.1 ∙ ap (λ xs. xs ++ more.0) one in
      let rest : h.act ∷ h.rest ≡ more.0 ++ q.act ∷ q.rest = append_cancel_left h.start (h.act ∷ h.rest) (more.0 ++ q.act ∷ q.rest)
      (sym h.order ∙ q.order ∙ ap (λ xs. xs ++ q.act ∷ q.rest) behind ∙ append_assoc h.start more.0 (q.act ∷ q.rest)) in
      let there : at q.before ≡ after_all plan commands (at h.start) more.0 = ap at behind ∙ after_all-append plan commands (opening plan scope) h.start more.0 in
      elim q.its [
        | inl it ↦ (
            let own : mark.cycle ≡ cycles_begun plan (at q.before).progress = ap (λ (k : Mark). k.cycle) it.1 in
            let below = (invariant_holds plan commands scope q.before).begun (needs_of plan (at q.before) Send it.0).2 in
            omega (arith, own, below)
            )
        | inr it ↦ absurd (no_prepare (at h.start) (h.act ∷ h.rest) more.0 q.rest q.act h.no_setup rest (ap (action_at plan) (sym there) ∙ it.0))
      ]

  -- where `AnsweredInPart` holds of a command, `IsAnsweredEarlier` does: its request is one of the last part
  answered_earlier : (acts : List Act) (i cycle a : ℕ) (first : Part) → Runs plan commands (opening plan scope) acts
      → slice_get (parts plan commands scope acts) i ≡ Some first → length (parts plan commands scope acts) ≡ suc i → AnsweredInPart acts cycle a
      → IsAnsweredEarlier plan commands scope acts first cycle a
  answered_earlier acts i cycle a first runs of_parts last h =
      let s = at h.start in
      let on = runs_behind plan commands (opening plan scope) h.start (h.act ∷ h.rest) (subst (λ xs. Runs plan commands (opening plan scope) xs) h.order runs) in
      let fine = invariant_holds plan commands scope h.start in
      let needs = needs_of plan s Send h.sends in
      let unsent : 0 < s.progress.unsent = needs.2 in
      let many : length (drop (place_next commands s.progress) commands) ≡ length commands - place_next commands s.progress = length-drop (place_next commands s.progress) commands in
      let asks = put_asks plan commands s h.act _ (puts_text commands plan s h.act h.sends on.0) needs.1 (omega (arith, many, unsent, fine.unsent)) in
      let asks_here = subst (λ (o : Action). slice_get (part_of_act plan commands s o h.act).marks 0 ≡ Some (Some (mark_sent plan commands s))) (sym h.sends) asks in
      let has = has_mark_after_all plan commands (opening plan scope) h.start h.act h.rest i (sym h.same ∙ last) asks_here in
      let same : has.0 ≡ first = same_Some has.0 first (sym has.1 ∙ ap (λ xs. slice_get (parts plan commands scope xs) i) (sym h.order) ∙ of_parts) in
      record {
        its = h.its;
        m = has.2;
        expected = (mark_sent plan commands s).expected;
        mark =
            subst (λ (p : Part). slice_get p.marks has.2 ≡ Some (Some (mark_of (mark_sent plan commands s).expected h.its.answer))) same
            (subst (λ (k : Mark). slice_get has.0.marks has.2 ≡ Some (Some k)) (sym h.mark) has.3);
        of_cycles =
            cycles_behind acts i has.2 cycle a first of_parts h (subst (λ (p : Part). slice_get p.marks has.2 ≡ Some (Some (mark_sent plan commands s))) same has.3)
            (let below = fine.begun unsent in omega (arith, below));
      }

-- the law: each command of a chain is sent after the answers of the earlier ones, as a request of the same part
pub chains_stay : ChainsStay
chains_stay plan commands scope acts runs i n part mark e f above =
    let x = sent_at plan commands (opening plan scope) acts i n part mark e f in
    let runs_there = runs_front plan commands (opening plan scope) x.before (x.act ∷ x.rest) (subst (λ xs. Runs plan commands (opening plan scope) xs) x.order runs) in
    let is = sends_next_of_cycle plan commands (state_after plan commands scope x.before) (action_at plan (state_after plan commands scope x.before)) mark x.its above in
    let cycle : mark.cycle ≡ cycles_begun plan (state_after plan commands scope x.before).progress = ap (λ (k : Mark). k.cycle) is.1 in
    let place : mark.place ≡ place_next commands (state_after plan commands scope x.before).progress = ap (λ (k : Mark). k.place) is.1 in
    record {
      before = x.before;
      rest = x.act ∷ x.rest;
      order = x.order;
      so_far = x.so_far;
      of_parts = x.of_parts;
      last = x.last;
      count = x.count;
      chain = λ a low less chained.
          subst (λ c. IsAnsweredEarlier plan commands scope x.before x.so_far c a) (sym cycle)
          (answered_earlier plan commands scope x.before i (cycles_begun plan (state_after plan commands scope x.before).progress) a x.so_far runs_there x.of_parts x.last
          (answered_any_before plan commands scope (mark.place - suc a) a x.before runs_there is.0 (omega (arith, place, less)) low (subst (λ p. AreChained commands a p) place chained)));
    }
