-- A synchronization over lines of bytes is one over their ids: any turns of the former are some moves of the latter. `Shows`
-- says that the state of the one over ids is that of the one over lines.
use Rattle.gc_theorems.proofs.Common.{◌≡◌, ℕ, ◌<◌, ◌⊎◌, inl, inr, Bool, true, false, List, [], ◌∷◌, ◌++◌, map, Option, Some, None, refl, sym, ◌∙◌, ap, subst, arith, append_assoc, map-map, ap₂, filter_map, cons_option, AllByRecursion, ne_eqb, true≢false, map-append, is_of_table, Asked, Table, NullProc, IsSubsequence, the_word, is_answered, left_by, left_when, Handed, KeptReply, kept_id, Ends, Request, without, doubled, same_Some, none-some, each_without, each_doubled, IsWellFormed, LacksTheWord, AreTurns, SyncModel, SyncTurn, Asks, Reaches, UnderWay, begins, leaves, ids_under_way, asks, comes, reaches, turns, turned, left_by_turns, HasSynchronizedCleanly, eighth_null, IsAnInstrument, IsOwnOrNone, MayForget, own_reply, all_append, every_front as all_front}
use Rattle.gc_theorems.specs.Begin.{InFlight, Comes, Foreign, Up_lose, Up_repeat, Down_lose, Down_repeat, Anew, Changes}
use Rattle.gc_theorems.specs.Begun.{NoneIsOld}
use Rattle.gc_theorems.proofs.BeginIds.{IdSent, IsCleanByIds, aged, begun_anew, ids_in_flight, ids_of, moved}
use Rattle.gc_theorems.proofs.BeginKilled.{IsFirstLeft, SplitWord, upto_absent_after_moves, upto_absent_unanswered, begins_anew, ids_before, ids_upto}
use Rattle.gc_theorems.proofs.BeginLists.{each_map}
use Rattle.gc_theorems.proofs.BeginSound.{the_word_begins_cleanly}
use Rattle.gc_theorems.proofs.Once.{still_retained}
use Rattle.gc_world.proofs.Queues.{without_map, doubled_map}
use Rattle.gc_client.specs.Rule as rule
use Rattle.gc_theorems.proofs.BeginIds as ids

-- Ids. For a line without an id there is the number 8, which no line has as its id.

-- this id, or 8 for none, which no request has
abbrev id_or : Option ℕ → ℕ
id_or None = 8
id_or (Some id) = id

-- all these ids are below 8
abbrev pub AreSmall : List ℕ → Type 0
AreSmall word = AllByRecursion (λ i. i < 8) word

-- the mark of a request in flight: its id, and whether it is old
abbrev request_mark : InFlight Request → IdSent
request_mark x = record { id = x.line.id; old = x.old }

-- the mark of a reply in flight: its id, or 8 if it has none, and whether it is old
abbrev reply_mark : InFlight (List ℕ) → IdSent
reply_mark x = record { id = id_or (rule.heard x.line); old = x.old }

-- the ids of the word are below 8
pub word_small : AreSmall the_word
word_small = (omega arith, (omega arith, (omega arith, (omega arith, (omega arith, (omega arith, (omega arith, (omega arith, tt))))))))

-- if all ids that are left are below 8, so are those that are left then, whether the first was answered (`b`) or not
small_if : (b : Bool) (asked : ℕ) (rest : List ℕ) → AreSmall (asked ∷ rest) → AreSmall (left_when b asked rest)
small_if true asked rest h = h.1
small_if false asked rest h = h

-- if all ids that are left are below 8, so are those that a line leaves of them
pub small_left : (left : List ℕ) (o : Option ℕ) → AreSmall left → AreSmall (left_by left o)
small_left [] o h = tt
small_left (asked ∷ rest) o h = small_if (is_answered (asked ∷ rest) o) asked rest h

-- where the ids left are below 8, a line leaves the same ids by the client's rule (`left_by`) as in the synchronization over ids,
-- in which a line without an id counts as one with the id 8
same_left : (left : List ℕ) (o : Option ℕ) → AreSmall left → left_by left (Some (id_or o)) ≡ left_by left o
same_left [] o h = refl
same_left (asked ∷ rest) (Some id) h = refl
same_left (asked ∷ rest) None h = ap (λ b. left_when b asked rest) (ne_eqb 8 asked (λ e. omega (arith, e, h.0)))

-- a line without an id leaves all ids
left_by_none : (left : List ℕ) → left_by left None ≡ left
left_by_none [] = refl
left_by_none (asked ∷ rest) = refl

-- One state shows another.

-- a request's id is below 8, and if the request is of this synchronization, it is a null procedure
abbrev IsNullIfOwn : InFlight Request → Type 0
IsNullIfOwn x = (x.line.id < 8) × (x.old ≡ false → x.line.call ≡ (Table NullProc))

module _ {State : Type 0} (ends : Ends State) (Good : State → Type 0) (kept : State → Option KeptReply) (is : IsAnInstrument ends Good kept) where
  -- the state p of a synchronization over ids is that of the synchronization over lines, s, with the ids of its lines; and in s
  -- the instrument is in a good state, the requests in flight are `IsNullIfOwn`, and the ids that are left are below 8
  pub record Shows (s : SyncModel State) (p : ids.IdModel) : Type 0 where
    pub up : p.up ≡ map request_mark s.up
    pub down : p.down ≡ map reply_mark s.down
    pub left : p.left ≡ s.left
    pub keeps : (k : KeptReply) → kept s.state ≡ Some k → p.kept ≡ Some k.id
    pub good : Good s.state
    pub known : AllByRecursion IsNullIfOwn s.up
    pub small : AreSmall s.left

  -- `Shows` is preserved if the client asks
  shows_asks : (s : SyncModel State) (p : ids.IdModel) (left : List ℕ) → s.left ≡ left → Shows s p → Shows (asks s left) (ids.asks p left)
  shows_asks s p [] e g = g
  shows_asks s p (asked ∷ rest) e g =
      let new : InFlight Request = record { old = false; line = record { id = asked; call = Table NullProc } } in
      record {
        up = ap (λ l. l ++ request_mark new ∷ []) g.up ∙ sym (map-append request_mark s.up (new ∷ []));
        down = g.down;
        left = g.left;
        keeps = g.keeps;
        good = g.good;
        known = all_append IsNullIfOwn s.up (new ∷ []) g.known (((subst AreSmall e g.small).0, (λ o. refl)), tt);
        small = g.small;
      }

  -- `Shows` is preserved if the front one of the replies q comes, if there is one, and those after it are in flight then
  shows_comes : (s : SyncModel State) (p : ids.IdModel) (q : List (InFlight (List ℕ))) → Shows s p → Shows (comes s q) (ids.comes p (map reply_mark q))
  shows_comes s p [] g = g
  shows_comes s p (x ∷ rest) g = record {
    up = g.up;
    down = refl;
    left = ap (λ l. left_by l (Some (id_or (rule.heard x.line)))) g.left ∙ same_left s.left (rule.heard x.line) g.small;
    keeps = g.keeps;
    good = g.good;
    known = g.known;
    small = small_left s.left (rule.heard x.line) g.small;
  }

  -- `Shows` is preserved if a line without an id comes
  shows_foreign : (s : SyncModel State) (p : ids.IdModel) (line : List ℕ) → rule.heard line ≡ None → Shows s p → Shows (record s { left = left_by s.left (rule.heard line) }) p
  shows_foreign s p line e g = record {
    up = g.up;
    down = g.down;
    left = g.left ∙ sym (ap (left_by s.left) e ∙ left_by_none s.left);
    keeps = g.keeps;
    good = g.good;
    known = g.known;
    small = small_left s.left (rule.heard line) g.small;
  }

  -- if what an instrument keeps after a request (`k`) is its reply to that request (`own`), or nothing, what it keeps, if
  -- anything, has the id of `own`
  kept_has_own_id : (k : Option KeptReply) (own r : KeptReply) → IsOwnOrNone own k → k ≡ Some r → Some own.id ≡ Some r.id
  kept_has_own_id k own r (inl none) e = absurd (none-some r (sym none ∙ e))
  kept_has_own_id k own r (inr some) e = ap (λ (x : KeptReply). Some x.id) (same_Some own r (sym some ∙ e))

  -- a request that is `IsNullIfOwn`, and no call of the table, is old
  raw_is_old : (x : InFlight Request) → IsNullIfOwn x → is_of_table x.line.call ≡ false → x.old ≡ true
  raw_is_old x known raw = by_case x.old refl where
    -- the lemma above, by whether the request is old (`b`)
    by_case : (b : Bool) → x.old ≡ b → b ≡ true
    by_case true e = refl
    by_case false e = absurd (true≢false (sym (ap is_of_table (known.1 e)) ∙ raw))

  -- if x, the front request, reaches the instrument, `Shows` is preserved by each state q over ids in which x isn't in flight any
  -- more, its reply is in flight after the others, the ids that are left are the same, and the kept id, if the instrument
  -- keeps anything, is that of what it keeps
  shows_reached : (s : SyncModel State) (p q : ids.IdModel) (x : InFlight Request) (rest : List (InFlight Request)) → s.up ≡ x ∷ rest → Shows s p → q.up ≡ map request_mark rest
      → q.down ≡ p.down ++ request_mark x ∷ [] → q.left ≡ p.left
      → ((k : KeptReply) → kept (ends.handed s.state x.line.id x.line.call).state ≡ Some k → q.kept ≡ Some k.id) → Shows (reaches ends s (x ∷ rest)) q
  shows_reached s p q x rest e g up down left keeps =
      let known = subst (AllByRecursion IsNullIfOwn) e g.known in
      let small : x.line.id < 8 = known.0.0 in
      let hd : Handed State = ends.handed s.state x.line.id x.line.call in
      let reply : InFlight (List ℕ) = record { old = x.old; line = hd.reply } in
      record {
        up = up;
        down =
            down ∙ ap (λ l. l ++ request_mark x ∷ []) g.down
            ∙ ap (λ o. map reply_mark s.down ++ record { id = id_or o; old = x.old } ∷ []) (sym (is.replies s.state x.line.id x.line.call g.good small))
            ∙ sym (map-append reply_mark s.down (reply ∷ []));
        left = left ∙ g.left;
        keeps = keeps;
        good = is.stays_good s.state x.line.id x.line.call g.good small;
        known = known.1;
        small = g.small;
      }

  -- `Shows` is preserved if the front request reaches the instrument: over ids it reaches it, too (`reaches`); or, if the
  -- instrument goes on keeping what it kept, the move is `Pass` (`passes`)
  shows_reaches : (s : SyncModel State) (p : ids.IdModel) (q : List (InFlight Request)) → s.up ≡ q → Shows s p
      → Shows (reaches ends s q) (ids.reaches p (map request_mark q)) ⊎ Shows (reaches ends s q) (ids.passes p (map request_mark q))
  shows_reaches s p [] e g = inl g
  shows_reaches s p (x ∷ rest) e g =
      let known = subst (AllByRecursion IsNullIfOwn) e g.known in
      let hd : Handed State = ends.handed s.state x.line.id x.line.call in
      elim (is.keeps s.state x.line.id x.line.call g.good known.0.0) [
        | inl own ↦ inl (shows_reached s p (ids.reaches p (map request_mark (x ∷ rest))) x rest e g refl refl refl (λ k f. kept_has_own_id (kept hd.state) (own_reply x.line.id hd) k own f))
        | inr third ↦ inr (shows_reached s p (ids.passes p (map request_mark (x ∷ rest))) x rest e g refl refl refl
            (λ k f. ap (λ b. ids.kept_past b x.line.id p.kept) (raw_is_old x known.0 third.0) ∙ g.keeps k (sym third.1 ∙ f)))
      ]

  -- `Shows` is preserved if the requests in flight change alike in both, to some that are `IsNullIfOwn`
  shows_up : (s : SyncModel State) (p : ids.IdModel) (up : List (InFlight Request)) (ups : List IdSent) → ups ≡ map request_mark up → AllByRecursion IsNullIfOwn up → Shows s p
      → Shows (record s { up = up }) (record p { up = ups })
  shows_up s p up ups e known g = record { up = e; down = g.down; left = g.left; keeps = g.keeps; good = g.good; known = known; small = g.small }

  -- `Shows` is preserved if the replies in flight change alike in both
  shows_down : (s : SyncModel State) (p : ids.IdModel) (down : List (InFlight (List ℕ))) (downs : List IdSent) → downs ≡ map reply_mark down → Shows s p
      → Shows (record s { down = down }) (record p { down = downs })
  shows_down s p down downs e g = record { up = g.up; down = e; left = g.left; keeps = g.keeps; good = g.good; known = g.known; small = g.small }

  -- `Shows` is preserved if the instrument's state changes to a good one, in which it keeps the same, or nothing
  shows_state : (s : SyncModel State) (p : ids.IdModel) (state : State) → Good state → MayForget (kept s.state) (kept state) → Shows s p → Shows (record s { state = state }) p
  shows_state s p state good same g =
      record {
        up = g.up;
        down = g.down;
        left = g.left;
        keeps = still_retained (λ (r : KeptReply). p.kept ≡ Some r.id) (kept s.state) (kept state) same g.keeps;
        good = good;
        known = g.known;
        small = g.small;
      }

  -- from p on, some moves over ids lead to a state that shows s
  abbrev IsShown : SyncModel State → ids.IdModel → Type 0
  IsShown s p = (ms : List ids.IdMove) × Shows s (moved ms p)

  -- where `Shows` holds of s and p, any possible turns from s on come to some moves over ids from p on (`IsShown`)
  pub shown : (ts : List (SyncTurn State)) (s : SyncModel State) (p : ids.IdModel) → AreTurns ends Good kept ts s → Shows s p → IsShown (turned ends ts s) p
  shown [] s p h g = ([], g)
  shown (Asks ∷ ts) s p h g =
      let r = shown ts (turns ends s Asks) (ids.moves p ids.Ask) h.1 (subst (λ l. Shows (asks s s.left) (ids.asks p l)) (sym g.left) (shows_asks s p s.left refl g)) in
      (ids.Ask ∷ r.0, r.1)
  shown (Comes ∷ ts) s p h g =
      let r = shown ts (turns ends s Comes) (ids.moves p ids.Come) h.1 (subst (λ l. Shows (comes s s.down) (ids.comes p l)) (sym g.down) (shows_comes s p s.down g)) in
      (ids.Come ∷ r.0, r.1)
  shown (Foreign line ∷ ts) s p h g = shown ts (turns ends s (Foreign line)) p h.1 (shows_foreign s p line h.0 g)
  shown (Reaches ∷ ts) s p h g =
      elim (shows_reaches s p s.up refl g) [
        | inl r ↦ (let x = shown ts (turns ends s Reaches) (ids.moves p ids.Reach) h.1 (subst (λ l. Shows (reaches ends s s.up) (ids.reaches p l)) (sym g.up) r) in
            (ids.Reach ∷ x.0, x.1))
        | inr r ↦ (let x = shown ts (turns ends s Reaches) (ids.moves p ids.Pass) h.1 (subst (λ l. Shows (reaches ends s s.up) (ids.passes p l)) (sym g.up) r) in
            (ids.Pass ∷ x.0, x.1))
      ]
  shown (Up_lose k ∷ ts) s p h g =
      let r = shown ts (turns ends s (Up_lose k)) (ids.moves p (ids.Up_lose k)) h.1
      (shows_up s p (without k s.up) (without k p.up) (ap (without k) g.up ∙ without_map request_mark k s.up) (each_without IsNullIfOwn k s.up g.known) g) in
      (ids.Up_lose k ∷ r.0, r.1)
  shown (Up_repeat k ∷ ts) s p h g =
      let r = shown ts (turns ends s (Up_repeat k)) (ids.moves p (ids.Up_repeat k)) h.1
      (shows_up s p (doubled k s.up) (doubled k p.up) (ap (doubled k) g.up ∙ doubled_map request_mark k s.up) (each_doubled IsNullIfOwn k s.up g.known) g) in
      (ids.Up_repeat k ∷ r.0, r.1)
  shown (Down_lose k ∷ ts) s p h g =
      let r = shown ts (turns ends s (Down_lose k)) (ids.moves p (ids.Down_lose k)) h.1
      (shows_down s p (without k s.down) (without k p.down) (ap (without k) g.down ∙ without_map reply_mark k s.down) g) in
      (ids.Down_lose k ∷ r.0, r.1)
  shown (Down_repeat k ∷ ts) s p h g =
      let r = shown ts (turns ends s (Down_repeat k)) (ids.moves p (ids.Down_repeat k)) h.1
      (shows_down s p (doubled k s.down) (doubled k p.down) (ap (doubled k) g.down ∙ doubled_map reply_mark k s.down) g) in
      (ids.Down_repeat k ∷ r.0, r.1)
  shown (Anew ∷ ts) s p h g = shown ts (turns ends s Anew) p h.1 (shows_state s p (ends.restarted s.state) (is.starts_good s.state g.good) (is.starts s.state g.good) g)
  shown (Changes state ∷ ts) s p h g = shown ts (turns ends s (Changes state)) p h.1 (shows_state s p state h.0.0 (inr h.0.1) g)

  -- Its start.

  -- what is in flight, as ids, all old, and the id of what is kept; the whole word is left
  abbrev marks : UnderWay State → ids.IdModel
  marks u = record {
    up = map (λ x. record { id = x.id; old = true }) u.up;
    down = map (λ x. record { id = id_or (rule.heard x); old = true }) u.down;
    kept = kept_id (kept u.state);
    left = the_word;
  }

  -- to reduce requests to their ids and make these old is the same as to make the requests old and then reduce them
  up_marks : (xs : List Request) → aged (map (λ x. record { id = x.id; old = true }) xs) ≡ map request_mark (map (λ x. record { old = true; line = x }) xs)
  up_marks xs = map-map _ _ xs ∙ sym (map-map request_mark _ xs)

  -- to reduce replies to their ids and make these old is the same as to make the replies old and then reduce them
  down_marks : (xs : List (List ℕ)) → aged (map (λ x. record { id = id_or (rule.heard x); old = true }) xs) ≡ map reply_mark (map (λ x. record { old = true; line = x }) xs)
  down_marks xs = map-map _ _ xs ∙ sym (map-map reply_mark _ xs)

  -- requests from before, with ids below 8, are `IsNullIfOwn`
  old_is_null_if_own : (xs : List Request) → AllByRecursion (λ x. x.id < 8) xs → AllByRecursion IsNullIfOwn (map (λ x. record { old = true; line = x }) xs)
  old_is_null_if_own xs h = each_map (λ (x : Request). x.id < 8) IsNullIfOwn (λ x. record { old = true; line = x }) (λ x small. (small, λ o. absurd (true≢false o))) xs h

  -- `Shows` holds at the start of a synchronization over what is `IsWellFormed`
  shows_begins : (u : UnderWay State) → IsWellFormed Good u → Shows (begins u) (begun_anew the_word (marks u))
  shows_begins u h = record {
    up = up_marks u.up;
    down = down_marks u.down;
    left = refl;
    keeps = λ k e. ap kept_id e;
    good = h.good;
    known = old_is_null_if_own u.up h.ids;
    small = word_small;
  }

  -- Its words: a line without an id makes no difference.

  -- the ids of the marks of requests are the requests' ids
  ids_of_marked : (xs : List Request) → ids_of (map (λ x. record { id = x.id; old = true }) xs) ≡ map (λ x. x.id) xs
  ids_of_marked xs = map-map _ _ xs

  -- if each word of ids below 8 that is in the ids of lines with 8 for a line without one, `ids`, is in the ids that the lines
  -- have, `others`, the same holds with one line more before them, whose id, if any, is `o`
  heard_contain_next : (o : Option ℕ) (word ids : List ℕ) (others : List ℕ) → AreSmall word → ((w : List ℕ) → AreSmall w → IsSubsequence w ids → IsSubsequence w others)
      → IsSubsequence word (id_or o ∷ ids) → IsSubsequence word (cons_option o others)
  heard_contain_next o [] ids others s f h = tt
  heard_contain_next (Some id) (w ∷ word) ids others s f (inl h) = inl (h.0, f word s.1 h.1)
  heard_contain_next (Some id) (w ∷ word) ids others s f (inr h) = inr (f (w ∷ word) s h)
  heard_contain_next None (w ∷ word) ids others s f (inl h) = absurd (let low = s.0 in omega (arith, h.0, low))
  heard_contain_next None (w ∷ word) ids others s f (inr h) = f (w ∷ word) s h

  -- if each word that is in the ids that lines have, `others`, is in their ids with 8 for a line without one, `ids`, the same
  -- holds with one line more before them, whose id, if any, is `o`
  marked_contain_next : (o : Option ℕ) (word ids others : List ℕ) → ((w : List ℕ) → IsSubsequence w others → IsSubsequence w ids)
      → IsSubsequence word (cons_option o others) → IsSubsequence word (id_or o ∷ ids)
  marked_contain_next o [] ids others f h = tt
  marked_contain_next (Some id) (w ∷ word) ids others f (inl h) = inl (h.0, f word h.1)
  marked_contain_next (Some id) (w ∷ word) ids others f (inr h) = inr (f (w ∷ word) h)
  marked_contain_next None (w ∷ word) ids others f h = inr (f (w ∷ word) h)

  -- a word of ids below 8 that is in the ids of replies, with 8 for a reply without one, followed by other ids (`up`) is in the
  -- ids that the replies have, followed by the same ids (`ups`)
  heard_contain_marked : (down : List (List ℕ)) (word up ups : List ℕ) → up ≡ ups → AreSmall word
      → IsSubsequence word (ids_of (map (λ x. record { id = id_or (rule.heard x); old = true }) down) ++ up)
      → IsSubsequence word (filter_map rule.heard down ++ ups)
  heard_contain_marked [] word up ups e s h = subst (IsSubsequence word) e h
  heard_contain_marked (x ∷ down) word up ups e s h =
      split (rule.heard x) word (heard_contain_next (rule.heard x) word (ids_of (map
      (λ x. record { id = id_or (rule.heard x); old = true }) down) ++ up) (filter_map rule.heard down ++ ups) s
      (λ w t g. heard_contain_marked down w up ups e t g) h)
    where
      -- it is the same whether the first line's id, if it has one, is put before the ids of both queues or of the replies alone
      split : (o : Option ℕ) (word : List ℕ) → IsSubsequence word (cons_option o (filter_map rule.heard down ++ ups)) → IsSubsequence word (cons_option o (filter_map rule.heard down) ++ ups)
      split None word h = h
      split (Some id) word h = h

  -- a word that is in the ids that replies have, followed by other ids (`up`), is in their ids with 8 for a reply without one,
  -- followed by the same ids (`ups`)
  marked_contain_heard : (down : List (InFlight (List ℕ))) (word up ups : List ℕ) → up ≡ ups
      → IsSubsequence word (filter_map rule.heard (map (λ x. x.line) down) ++ up) → IsSubsequence word (ids_of (map reply_mark down) ++ ups)
  marked_contain_heard [] word up ups e h = subst (IsSubsequence word) e h
  marked_contain_heard (x ∷ down) word up ups e h =
      marked_contain_next (rule.heard x.line) word (ids_of (map reply_mark down) ++ ups)
      (filter_map rule.heard (map (λ x. x.line) down) ++ up) (λ w g. marked_contain_heard down w up ups e g) (split (rule.heard x.line) word h)
    where
      -- it is the same whether the first line's id, if it has one, is put before the ids of the replies alone or of both queues
      split : (o : Option ℕ) (word : List ℕ) → IsSubsequence word (cons_option o
          (filter_map rule.heard (map (λ x. x.line) down)) ++ up) → IsSubsequence word (cons_option o (filter_map rule.heard (map (λ x. x.line) down) ++ up))
      split None word h = h
      split (Some id) word h = h

  -- a word of ids below 8 that isn't in the ids in flight isn't in those of the marks
  absent_marks : (u : UnderWay State) (word : List ℕ) → AreSmall word → (IsSubsequence word (ids_under_way u) → ⊥) → IsSubsequence word (ids_in_flight (marks u)) → ⊥
  absent_marks u word s none h = none (heard_contain_marked u.down word (ids_of (marks u).up) (map (λ x. x.id) u.up) (ids_of_marked u.up) s h)

  -- the ids of the requests that a synchronization leaves are those of their marks
  up_left : (xs : List (InFlight Request)) → map (λ x. x.id) (map (λ x. x.line) xs) ≡ ids_of (map request_mark xs)
  up_left xs = map-map _ _ xs ∙ sym (map-map _ request_mark xs)

  -- where `Shows` holds of s and p, a word that is in the ids of what s leaves in flight is in the ids in flight in p
  left_marks : (s : SyncModel State) (p : ids.IdModel) (word : List ℕ) → Shows s p → IsSubsequence word (ids_under_way (leaves s)) → IsSubsequence word (ids_in_flight p)
  left_marks s p word g h =
      subst (λ l. IsSubsequence word (ids_of l ++ ids_of p.up)) (sym g.down)
      (subst (λ l. IsSubsequence word (ids_of (map reply_mark s.down) ++ ids_of l)) (sym g.up)
      (marked_contain_heard s.down word (map (λ x. x.id) (map (λ x. x.line) s.up)) (ids_of (map request_mark s.up)) (up_left s.up) h))

  -- Its end.

  -- a line whose id, or 8 if it has none, is 7 has the id 7
  heard_seven : (o : Option ℕ) → id_or o ≡ 7 → o ≡ Some 7
  heard_seven None e = absurd (omega (arith, e))
  heard_seven (Some id) e = ap Some e

  -- a null procedure with id 7 is the eighth
  null_seven_is_eighth : (x : Request) → x.id ≡ 7 → x.call ≡ (Table NullProc) → x ≡ eighth_null
  null_seven_is_eighth x e f = ap₂ (λ (i : ℕ) (c : Asked). record { id = i; call = c }) e f

  -- requests in flight that are `IsNullIfOwn`, and by their marks not old and of id 7, are not old, and copies of the eighth null
  -- procedure
  up_is_clean : (xs : List (InFlight Request)) → AllByRecursion IsNullIfOwn xs → AllByRecursion (λ x. (x.old ≡ false) × (x.id ≡ 7)) (map request_mark xs)
      → NoneIsOld xs × AllByRecursion (λ x. x ≡ eighth_null) (map (λ (x : InFlight Request). x.line) xs)
  up_is_clean [] k h = (tt, tt)
  up_is_clean (x ∷ xs) k h = let others = up_is_clean xs k.1 h.1 in ((h.0.0, others.0), (null_seven_is_eighth x.line h.0.1 (k.0.1 h.0.0), others.1))

  -- replies in flight that are by their marks not old and of id 7 are not old, and read as replies with id 7
  down_is_clean : (xs : List (InFlight (List ℕ))) → AllByRecursion (λ x. (x.old ≡ false) × (x.id ≡ 7)) (map reply_mark xs)
      → NoneIsOld xs × AllByRecursion (λ line. rule.heard line ≡ Some 7) (map (λ (x : InFlight (List ℕ)). x.line) xs)
  down_is_clean [] h = (tt, tt)
  down_is_clean (x ∷ xs) h = let others = down_is_clean xs h.1 in ((h.0.0, others.0), (heard_seven (rule.heard x.line) h.0.1, others.1))

  -- where `Shows` holds of s and p, and the synchronization over ids ended cleanly in p, that over lines was clean in s
  clean_if_by_ids : (s : SyncModel State) (p : ids.IdModel) → Shows s p → IsCleanByIds 7 p → HasSynchronizedCleanly Good kept s
  clean_if_by_ids s p g c =
      let up = up_is_clean s.up g.known (subst (AllByRecursion (λ x. (x.old ≡ false) × (x.id ≡ 7))) g.up c.up) in
      let down = down_is_clean s.down (subst (AllByRecursion (λ x. (x.old ≡ false) × (x.id ≡ 7))) g.down c.down) in
      record {
        up = up.0;
        down = down.0;
        clean = record { good = g.good; up = up.1; down = down.1; keeps = λ k e. c.kept k.id (g.keeps k e) };
      }

  -- if what is in flight at the start of a synchronization is well formed, its turns are possible, the ids in flight at its start
  -- don't contain the word, and no id is left after its turns, it has synchronized cleanly
  pub begins_cleanly : (u : UnderWay State) (ts : List (SyncTurn State)) → IsWellFormed Good u → AreTurns ends Good kept ts (begins u)
      → LacksTheWord u → (turned ends ts (begins u)).left ≡ []
      → HasSynchronizedCleanly Good kept (turned ends ts (begins u))
  begins_cleanly u ts lines possible none done =
      let r = shown ts (begins u) (begun_anew the_word (marks u)) possible (shows_begins u lines) in
      clean_if_by_ids (turned ends ts (begins u)) (moved r.0 (begun_anew the_word (marks u))) r.1
      (the_word_begins_cleanly (begun_anew the_word (marks u)) r.0 (begins_anew (marks u) (absent_marks u the_word word_small none)) (r.1.left ∙ done))

  -- where what is in flight at the start of a synchronization is `IsWellFormed`, and its turns are possible, what it leaves,
  -- killed or not, is `IsWellFormed`, too: requests with ids below 8, and an instrument in a good state
  pub left_well_formed : (u : UnderWay State) (ts : List (SyncTurn State)) → IsWellFormed Good u → AreTurns ends Good kept ts (begins u) → IsWellFormed Good (left_by_turns ends ts u)
  left_well_formed u ts lines possible =
      let r = shown ts (begins u) (begun_anew the_word (marks u)) possible (shows_begins u lines) in
      record {
        ids = each_map IsNullIfOwn (λ (x : Request). x.id < 8) (λ (x : InFlight Request). x.line) (λ x known. known.0) (turned ends ts (begins u)).up r.1.known;
        good = r.1.good;
      }

  -- where the word is split at its id c, what is in flight at the start of a synchronization is `IsWellFormed`, its ids don't
  -- contain those of the word before c (`ids_before`), and the turns are possible: the ids that the synchronization leaves,
  -- killed or not, don't contain them with c after them (`ids_upto`)
  pub upto_absent_in_left : (u : UnderWay State) (ts : List (SyncTurn State)) (w : SplitWord the_word) → IsWellFormed Good u → AreTurns ends Good kept ts (begins u)
      → (IsSubsequence (ids_before w) (ids_under_way u) → ⊥) → IsSubsequence (ids_upto w) (ids_under_way (left_by_turns ends ts u)) → ⊥
  upto_absent_in_left u ts w lines possible none h =
      let r = shown ts (begins u) (begun_anew the_word (marks u)) possible (shows_begins u lines) in
      let small : AreSmall (ids_before w) = all_front (λ i. i < 8) (ids_before w) (w.c ∷ w.tail) (subst AreSmall w.is word_small) in
      upto_absent_after_moves (marks u) r.0 w (absent_marks u (ids_before w) small none)
      (left_marks (turned ends ts (begins u)) (moved r.0 (begun_anew the_word (marks u))) (ids_upto w) r.1 h)

  -- where the word is split at its id c, what is in flight at the start of a synchronization is `IsWellFormed`, its ids don't
  -- contain those of the word up to c (`ids_upto`), and the turns are possible, and leave the word's first id unanswered: the ids
  -- that the synchronization leaves don't contain them either
  pub upto_absent_in_left_unanswered : (u : UnderWay State) (ts : List (SyncTurn State)) (w : SplitWord the_word) → IsWellFormed Good u → AreTurns ends Good kept ts (begins u)
      → (IsSubsequence (ids_upto w) (ids_under_way u) → ⊥) → IsFirstLeft w.a (turned ends ts (begins u)).left → IsSubsequence (ids_upto w) (ids_under_way (left_by_turns ends ts u)) → ⊥
  upto_absent_in_left_unanswered u ts w lines possible none is_left h =
      let r = shown ts (begins u) (begun_anew the_word (marks u)) possible (shows_begins u lines) in
      let split : the_word ≡ ids_upto w ++ w.tail = w.is ∙ sym (ap (λ l. w.a ∷ w.b ∷ l) (append_assoc w.more (w.c ∷ []) w.tail)) in
      let small : AreSmall (ids_upto w) = all_front (λ i. i < 8) (ids_upto w) w.tail (subst AreSmall split word_small) in
      upto_absent_unanswered (marks u) r.0 w (absent_marks u (ids_upto w) small none) (subst (IsFirstLeft w.a) (sym r.1.left) is_left)
      (left_marks (turned ends ts (begins u)) (moved r.0 (begun_anew the_word (marks u))) (ids_upto w) r.1 h)
