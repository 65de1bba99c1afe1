-- A connection is closed for a dead line only if no reply line came for long enough. A silence begins with an act that reads a
-- moment, after which no reply line comes. An act is one call on the link, with its result. `alive` is the moment since which
-- no reply line came, `now` the moment read last, `asked` whether a request was sent after the last reply line; `before` and
-- `behind` are the acts before and after the act `start`, with which a silence begins. Moments are in milliseconds.
use Rattle.gc_station.proofs.Common.{◌≡◌, ℕ, ◌-◌, ◌<◌, ◌≤◌, ◌⊎◌, inl, inr, ◌&&◌, ◌||◌, Bool, true, false, List, [], ◌∷◌, ◌++◌, length, drop, if◌then◌else◌, nat_lt, nat_le, min, refl, sym, ap, ◌∙◌, subst, arith, append_assoc, AllByRecursion, min-eq_left, min-eq_right, nil_from_length, leb-true, leb-false, ltb-true, and_parts, both_ways, or_right, rest_behind, Asked, the_word, ById, deadlines, Table, NullProc, Task, is_none_left, Moment, Plan, Phase, Action, Progress, Act, Told, Put, Gave, Silent, has_begun, goes_on, later, dead_after, turned, moment_noted, lines_synchronizing, TellsMoment, IsListening, StaysConnected, HoldsBefore, state_after, HasAllTimedOut, latest, IsNoReply, BringsNoReply, IsMute, WentBack, PutsFirst, IsMuteFor, Model, next_request_text, null_text, first_text, occasion_at, opening, action_at, waiting_of, with_progress, with_moment, with_rest, lines_came, lines_completed, after_piece, is_heard, after, after_all, Runs, text_or_null, place_next, Scope}
use Rattle.gc_station.proofs.Closings.{came_phase}
use Rattle.gc_station.proofs.Connected.{is_in_use, HoldsInUse, holds_in_use_always}
use Rattle.gc_station.proofs.Since.{Since, since_now, since_on, extend_cut}
use Rattle.gc_station.proofs.EachRun.{invariant_holds}
use Rattle.gc_station.proofs.Facts.{action_for, action_wakes}
use Rattle.gc_station.proofs.InCycle.{or_first, Awake, Wakes}
use Rattle.gc_station.proofs.Going.{after_all-append}
use Rattle.gc_station.proofs.Lists.{all_append}
use Rattle.gc_station.proofs.Silences.{LastTells, awake_last, not_closing, closes_at_its_end, second_holds}
use Rattle.gc_station.proofs.Invariant.{Invariant}
use Rattle.gc_station.proofs.Walk.{asked_along, came_along}
use Rattle.gc_station.proofs.ReplyLines.{lines_moment, AliveWith, Alive, lines_alive, AliveAsked, asked_alive}
use Rattle.gc_station.proofs.Ticking.{latest_more}
use Rattle.gc_station.specs.declared.cause.Cause.TheVariants as cause
use Rattle.gc_station.specs.declared.progress.Phase.TheVariants as phase
use Rattle.gc_station.specs.declared.progress.Action.TheVariants as actions

-- whether a reply line is waited for on the connection: the station has synchronized (no id of `word` is left), or a null
-- procedure was sent on it (`again`), or a request after the last reply line (`asked`)
abbrev is_sought : (word : List ℕ) → (again : ℕ) → (asked : Bool) → Bool
is_sought word again asked = is_none_left word || (nat_lt 0 again || asked)

-- once the station has synchronized, a reply line is waited for
sought_begun : (word : List ℕ) (again : ℕ) (asked : Bool) → is_none_left word ≡ true → is_sought word again asked ≡ true
sought_begun word again asked e = ap (λ b. b || (nat_lt 0 again || asked)) e

-- if a null procedure of the synchronization was sent on this connection, a reply line is waited for
sought_again : (word : List ℕ) (again : ℕ) (asked : Bool) → nat_lt 0 again ≡ true → is_sought word again asked ≡ true
sought_again word again asked e = ap (λ b. is_none_left word || (b || asked)) e ∙ or_right (is_none_left word) true refl

-- if a request was sent after the last reply line, a reply line is waited for
sought_asked : (word : List ℕ) (again : ℕ) (asked : Bool) → asked ≡ true → is_sought word again asked ≡ true
sought_asked word again asked e =
    ap (λ b. is_none_left word || (nat_lt 0 again || b)) e
    ∙ ap (λ b. is_none_left word || b) (or_right (nat_lt 0 again) true refl) ∙ or_right (is_none_left word) true refl

-- of the acts `behind`, after a silence began at the moment `from`. If no request was sent after the last reply line (`asked` is
-- false), each of these acts only listens (`IsListening`); otherwise the first of them put all its bytes, or the clock went back
-- to `from` after the acts `before` (`WentBack`)
abbrev AsksInSilence : (asked : Bool) → (from : ℕ) → (before behind : List Act) → Type 0
AsksInSilence false from before behind = AllByRecursion IsListening behind
AsksInSilence true from before behind = PutsFirst behind ⊎ WentBack from before

-- `AsksInSilence` with `true` is preserved by any act
asks_kept : (from : ℕ) (before behind : List Act) (act : Act) → AsksInSilence true from before behind → AsksInSilence true from before (behind ++ act ∷ [])
asks_kept from before behind act (inl put) = inl (put.0, put.1 ++ act ∷ [], ap (λ xs. xs ++ act ∷ []) put.2)
asks_kept from before behind act (inr back) = inr back

-- an act that only listens (`IsListening`) preserves `AsksInSilence`
asks_listening : (asked : Bool) (from : ℕ) (before behind : List Act) (act : Act) → IsListening act → AsksInSilence asked from before behind → AsksInSilence asked from before (behind ++ act ∷ [])
asks_listening false from before behind act listens asks = all_append IsListening behind (act ∷ []) asks (listens, tt)
asks_listening true from before behind act listens asks = asks_kept from before behind act asks

-- whether a request was sent after the last reply line (`asked`) or not, `AsksInSilence` gives what `IsMuteFor` says of requests
asks_as_is_mute : (asked : Bool) (from : ℕ) (before behind : List Act) → AsksInSilence asked from before behind
    → AllByRecursion IsListening behind ⊎ (PutsFirst behind ⊎ WentBack from before)
asks_as_is_mute false from before behind asks = inl asks
asks_as_is_mute true from before behind asks = inr asks

module _ (plan : Plan) (commands : List Task) (scope : Scope) where
  -- a silence began with `start`, which reads the moment `alive`: after it no act brings a reply line, or closes the connection
  -- or makes one, requests were sent as `AsksInSilence` says, and `now`, which isn't before `alive`, is the moment read last
  abbrev Mutes : (asked : Bool) → (alive now : ℕ) → (before : List Act) → (start : Act) → (behind : List Act) → Type 0
  Mutes asked alive now before start behind =
      TellsMoment alive start × AllByRecursion StaysConnected behind × IsMute plan commands (state_after plan commands scope (before ++ start ∷ [])) behind
      × AsksInSilence asked alive before behind × (latest alive behind ≡ now) × (alive ≤ now)

  -- one of these acts begins a silence (`Mutes`)
  abbrev IsMuted : (asked : Bool) → (alive now : ℕ) → List Act → Type 0
  IsMuted asked alive now acts = Since (Mutes asked alive now) acts

  -- if acts bring no reply line, and one more brings none, all of them bring none
  mute_more : (s : Model) (xs : List Act) (act : Act) → IsMute plan commands s xs → BringsNoReply (after_all plan commands s xs).rest act → IsMute plan commands s (xs ++ act ∷ [])
  mute_more s [] act mute here = (here, tt)
  mute_more s (x ∷ xs) act mute here = (mute.0, mute_more (after plan commands s x) xs act mute.1 here)

  -- a silence begins with an act that reads a moment, if `AsksInSilence` holds of no acts after it
  muted_from : (asked : Bool) (now : ℕ) (acts : List Act) (act : Act) → TellsMoment now act → AsksInSilence asked now acts [] → IsMuted asked now now (acts ++ act ∷ [])
  muted_from asked now acts act tells asks = let least : now ≤ now = omega arith in since_now (Mutes asked now now) acts act (tells, tt, tt, asks, refl, least)

  -- an act that reads a moment begins a silence, in which no request was sent yet (`asked` is false)
  muted_now : (now : ℕ) (acts : List Act) (act : Act) → TellsMoment now act → IsMuted false now now (acts ++ act ∷ [])
  muted_now now acts act tells = muted_from false now acts act tells tt

  -- a silence goes on after an act that stays on the connection, brings no reply line, preserves `AsksInSilence`, and reads no moment
  -- before `alive`
  muted_on : (asked : Bool) (alive now : ℕ) (acts : List Act) (act : Act) → (stays : StaysConnected act) → (none : BringsNoReply (state_after plan commands scope acts).rest act)
      → (asks : (before behind : List Act) → AsksInSilence asked alive before behind → AsksInSilence asked alive before (behind ++ act ∷ []))
      → (least : alive ≤ latest now (act ∷ [])) → IsMuted asked alive now acts
      → IsMuted asked alive (latest now (act ∷ [])) (acts ++ act ∷ [])
  muted_on asked alive now acts act stays none asks least q =
      since_on (Mutes asked alive now) (Mutes asked alive (latest now (act ∷ []))) acts (act ∷ [])
      (λ before start behind order h.
      let there : state_after plan commands scope acts ≡ after_all plan commands (state_after plan commands scope (before ++ start ∷ [])) behind =
      ap (state_after plan commands scope) (order ∙ sym (append_assoc before (start ∷ []) behind)) ∙ after_all-append plan commands (opening plan scope) (before ++ start ∷ []) behind in (
        h.0,
        all_append StaysConnected behind (act ∷ []) h.1 (stays, tt),
        mute_more (state_after plan commands scope (before ++ start ∷ [])) behind act h.2 (subst (λ (x : Model). BringsNoReply x.rest act) there none),
        asks before behind h.3,
        latest_more alive behind act ∙ ap (λ n. latest n (act ∷ [])) h.4,
        least,
      )) q

  -- if a request is sent, a silence begins with the act before it, which read the last moment
  muted_asking : (now : ℕ) (acts : List Act) (out : List ℕ) → LastTells now acts → IsMuted true now now (acts ++ Put out ∷ [])
  muted_asking now acts out (front, last, order, tells) =
      let least : now ≤ now = omega arith in
      record {
        before = front;
        start = last;
        behind = Put out ∷ [];
        order = extend_cut (acts ++ Put out ∷ []) acts front (last ∷ []) (Put out ∷ []) refl order;
        holds = (tells, (tt, tt), (tt, tt), inl (out, [], refl), refl, least);
      }

  -- if the clock goes back to a moment (m) before a silence began, `AsksInSilence` holds of the silence that begins at m
  went_back : (asked : Bool) (alive now m : ℕ) (acts : List Act) → m < alive → IsMuted asked alive now acts → AsksInSilence asked m acts []
  went_back false alive now m acts less q = tt
  went_back true alive now m acts less q =
      let least = q.holds.5 in
      let last = q.holds.4 in
      let later : m < latest alive q.behind = omega (arith, less, least, last) in
      inr (record {
        earlier = q.before;
        act = q.start;
        told = alive;
        others = q.behind;
        order = q.order;
        tells = q.holds.0;
        later = later;
      })

  -- after these acts `act` reads the moment `told`, only listens, stays on the connection and brings no reply line; `now` is the
  -- moment read before it
  record ReadsInSilence (now told : ℕ) (acts : List Act) (act : Act) : Type 0 where
    tells : TellsMoment told act
    reads_it : latest now (act ∷ []) ≡ told
    stays : StaysConnected act
    listens : IsListening act
    none : BringsNoReply (state_after plan commands scope acts).rest act

  -- a silence goes on after an act that is `ReadsInSilence`; or it starts again there if the clock went back to before `alive`
  -- (`rises` is false)
  muted_clock : (asked : Bool) (alive now : ℕ) (m : Moment) (acts : List Act) (act : Act) (rises : Bool) → (is : nat_le alive m.elapsed ≡ rises)
      → ReadsInSilence now m.elapsed acts act → IsMuted asked alive now acts → IsMuted asked (min alive m.elapsed) m.elapsed (acts ++ act ∷ [])
  muted_clock asked alive now m acts act true e r q =
      let is = r.reads_it in
      let low = leb-true alive m.elapsed e in
      let least : alive ≤ latest now (act ∷ []) = omega (arith, is, low) in
      subst (λ n. IsMuted asked n m.elapsed (acts ++ act ∷ [])) (sym (min-eq_left low))
      (subst (λ n. IsMuted asked alive n (acts ++ act ∷ [])) is
      (muted_on asked alive now acts act r.stays r.none (λ before behind asks. asks_listening asked alive before behind act r.listens asks) least q))
  muted_clock asked alive now m acts act false e r q =
      let low = leb-false alive m.elapsed e in
      let below : m.elapsed < alive = omega (arith, low) in
      let less : m.elapsed ≤ alive = omega (arith, low) in
      subst (λ n. IsMuted asked n m.elapsed (acts ++ act ∷ [])) (sym (min-eq_right less)) (muted_from asked m.elapsed acts act r.tells (went_back asked alive now m.elapsed acts below q))

  -- By the phase.

  -- in the phase `Ready`, if a reply line is waited for (`sought`), there has been a silence since `alive`; in any other phase,
  -- nothing
  abbrev Mute : (sought asked : Bool) → (alive now : ℕ) → Phase → List Act → Type 0
  Mute sought asked alive now phase.Ready acts = sought ≡ true → IsMuted asked alive now acts
  Mute sought asked alive now _ acts = Unit {0}

  -- `Mute` in this phase, by the fields of a progress
  abbrev MuteIn : Progress → Phase → List Act → Type 0
  MuteIn p at acts = Mute (is_sought p.exchange.word p.exchange.again p.exchange.asked) p.exchange.asked p.exchange.alive p.moment.elapsed at acts

  -- `MuteIn` in the phase of the progress
  abbrev MuteAt : Progress → List Act → Type 0
  MuteAt p acts = MuteIn p p.phase acts

  -- there has been a silence, by the fields of a progress
  abbrev IsMutedAt : Progress → List Act → Type 0
  IsMutedAt p acts = IsMuted p.exchange.asked p.exchange.alive p.moment.elapsed acts

  -- after the acts, at which the progress is p, these lines came at the moment m, after which it is q (`AliveWith`): if none of
  -- them is a reply, there was a silence before them; if one is, q begins a silence at m, in which no request was sent yet
  abbrev SilentOver : List (List ℕ) → Moment → List Act → (p q : Progress) → Type 0
  SilentOver lines m acts p q = AliveWith (IsMutedAt p acts) lines (moment_noted m p) q

  -- What each act leaves.

  -- if no connection is in use, `Mute` says nothing
  mute_none : (sought asked : Bool) (alive now : ℕ) (at : Phase) (acts : List Act) → is_in_use at ≡ false → Mute sought asked alive now at acts
  mute_none sought asked alive now phase.Ready acts none = cc
  mute_none sought asked alive now at acts none = tt

  -- `Mute` is preserved by an act that is `ReadsInSilence`. After it `sought'` may stand for `sought`, if in the phase `Ready`
  -- it is true only where `sought` is
  mute_told : (sought sought' asked : Bool) (alive now : ℕ) (m : Moment) (at : Phase) (acts : List Act) (act : Act) → (back : at ≡ phase.Ready → sought' ≡ true → sought ≡ true)
      → ReadsInSilence now m.elapsed acts act → Mute sought asked alive now at acts → Mute sought' asked (min alive m.elapsed) m.elapsed at (acts ++ act ∷ [])
  mute_told sought sought' asked alive now m phase.Ready acts act back r q =
      λ so. muted_clock asked alive now m acts act (nat_le alive m.elapsed) refl r (q (back refl so))
  mute_told sought sought' asked alive now m at acts act back r q = tt

  -- after a piece, of whose lines `SilentOver` holds up to q, there is a silence, as q says
  heard_mute : (s : Model) (bytes : List ℕ) (m : Moment) (acts : List Act) (q : Progress) → (state_after plan commands scope acts).rest ≡ s.rest → q.moment.elapsed ≡ m.elapsed
      → SilentOver (lines_completed s.rest bytes) m acts s.progress q → IsMutedAt q (acts ++ Gave bytes m ∷ [])
  heard_mute s bytes m acts q rest now h = by_alive h where
    -- the same silence, with `asked` and `alive` as q has them
    carried : (b : Bool) (a : ℕ) → q.exchange.asked ≡ b → q.exchange.alive ≡ a → IsMuted b a m.elapsed (acts ++ Gave bytes m ∷ []) → IsMutedAt q (acts ++ Gave bytes m ∷ [])
    carried b a eb ea x =
        subst (λ c. IsMuted c q.exchange.alive q.moment.elapsed (acts ++ Gave bytes m ∷ [])) (sym eb)
        (subst (λ c. IsMuted b c q.moment.elapsed (acts ++ Gave bytes m ∷ [])) (sym ea) (subst (λ c. IsMuted b a c (acts ++ Gave bytes m ∷ [])) (sym now) x))

    -- the lemma above, by whether a reply line is in the piece
    by_alive : SilentOver (lines_completed s.rest bytes) m acts s.progress q → IsMutedAt q (acts ++ Gave bytes m ∷ [])
    by_alive (inl none) =
        let quiet = subst (λ r. AllByRecursion IsNoReply (lines_completed r bytes)) (sym rest) none.0 in
        carried s.progress.exchange.asked (min s.progress.exchange.alive m.elapsed) none.2 none.1
        (muted_clock s.progress.exchange.asked s.progress.exchange.alive s.progress.moment.elapsed m acts (Gave bytes m) (nat_le s.progress.exchange.alive m.elapsed) refl
        (record { tells = refl; reads_it = refl; stays = tt; listens = refl; none = quiet }) none.3)
    by_alive (inr reply) = carried false m.elapsed reply.1 reply.0 (muted_now m.elapsed acts (Gave bytes m) refl)

  -- after a piece the moment read last is the same as before it
  came_moment : (heard : Bool) (word bytes : List ℕ) (s : Model) → (after_piece heard word bytes s).progress.moment ≡ s.progress.moment
  came_moment h word bytes s =
      came_along (λ (t : Model). t.progress.moment ≡ s.progress.moment) (λ t line e. e) h word bytes s refl
      (asked_along (λ (q : Progress). q.moment ≡ s.progress.moment) (λ q line e. e) s.progress (lines_completed s.rest bytes) refl) refl

  -- `Mute` is preserved by a piece in the phase `Ready`
  ready_mute : (s : Model) (bytes : List ℕ) (m : Moment) (acts : List Act) (word : List ℕ) → s.progress.exchange.word ≡ word → (state_after plan commands scope acts).rest ≡ s.rest
      → MuteIn s.progress phase.Ready acts
      → MuteIn (after_piece true word bytes (with_moment m (with_progress (moment_noted m) s))).progress phase.Ready (acts ++ Gave bytes m ∷ [])
  ready_mute s bytes m acts [] e rest h so = heard_mute s bytes m acts (lines_came mid lines).progress rest
      (ap (λ (x : Moment). x.elapsed) (lines_moment mid lines)) (by_lines (lines_alive mid lines)) where
        -- the model before the lines: the moment was read, and the bytes after the last line feed are kept
        mid : Model
        mid = with_rest (rest_behind s.rest bytes) (with_moment m (with_progress (moment_noted m) s))

        -- the lines of the piece
        lines : List (List ℕ)
        lines = lines_completed s.rest bytes

        -- `SilentOver` holds of these lines
        by_lines : Alive lines mid.progress (lines_came mid lines).progress → SilentOver lines m acts s.progress (lines_came mid lines).progress
        by_lines (inl none) = inl (none.0, none.1, none.2, h (sought_begun s.progress.exchange.word s.progress.exchange.again s.progress.exchange.asked (ap is_none_left e)))
        by_lines (inr now) = inr now
  ready_mute s bytes m acts (first ∷ others) e rest h so = heard_mute s bytes m acts q rest
      (ap (λ (x : Moment). x.elapsed) (came_moment true (first ∷ others) bytes mid)) (by_lines (asked_alive mid.progress lines)) where
        -- the model before the lines: the moment was read
        mid : Model
        mid = with_moment m (with_progress (moment_noted m) s)

        -- the lines of the piece
        lines : List (List ℕ)
        lines = lines_completed s.rest bytes

        -- the progress after the lines
        q : Progress
        q = lines_synchronizing mid.progress lines

        -- `SilentOver` holds of these lines
        by_lines : AliveAsked lines mid.progress q → SilentOver lines m acts s.progress q
        by_lines (inl none) =
            let same : is_sought s.progress.exchange.word s.progress.exchange.again s.progress.exchange.asked ≡ is_sought q.exchange.word q.exchange.again q.exchange.asked =
            ap (λ w. is_sought w s.progress.exchange.again s.progress.exchange.asked) (sym none.3.0) ∙ ap (λ n. is_sought q.exchange.word n s.progress.exchange.asked) (sym none.3.1) ∙ ap (λ b. is_sought q.exchange.word q.exchange.again b) (sym none.2) in
            inl (none.0, none.1, none.2, h (same ∙ so))
        by_lines (inr now) = inr now

  -- `Mute` is preserved by a piece in any phase
  gave_mute : (s : Model) (bytes : List ℕ) (m : Moment) (at : Phase) (acts : List Act) → s.progress.phase ≡ at → (state_after plan commands scope acts).rest ≡ s.rest
      → MuteIn s.progress at acts
      → MuteAt (after_piece (is_heard at) s.progress.exchange.word bytes (with_moment m (with_progress (moment_noted m) s))).progress (acts ++ Gave bytes m ∷ [])
  gave_mute s bytes m phase.Ready acts is rest h =
      let q = (after_piece true s.progress.exchange.word bytes (with_moment m (with_progress (moment_noted m) s))).progress in
      subst (λ (x : Phase). MuteIn q x (acts ++ Gave bytes m ∷ []))
      (sym (came_phase true s.progress.exchange.word bytes (with_moment m (with_progress (moment_noted m) s)) ∙ is))
      (ready_mute s bytes m acts s.progress.exchange.word refl rest h)
  gave_mute s bytes m at acts is rest h =
      let q = (after_piece (is_heard at) s.progress.exchange.word bytes (with_moment m (with_progress (moment_noted m) s))).progress in
      subst (λ (x : Phase). MuteIn q x (acts ++ Gave bytes m ∷ []))
      (sym (came_phase (is_heard at) s.progress.exchange.word bytes (with_moment m (with_progress (moment_noted m) s)) ∙ is)) tt

  -- after a request the silence goes on, if another one was sent after the last reply line (`asked`); otherwise a silence
  -- begins with the moment read last
  muted_asks : (asked : Bool) (alive now : ℕ) (acts : List Act) (out : List ℕ) → LastTells now acts → (asked ≡ true → IsMuted true alive now acts)
      → IsMuted true (if asked then alive else now) now (acts ++ Put out ∷ [])
  muted_asks true alive now acts out tells q = let it = q refl in muted_on true alive now acts (Put out) tt tt (λ before behind asks. asks_kept alive before behind (Put out) asks) it.holds.5 it
  muted_asks false alive now acts out tells q = muted_asking now acts out tells

  -- if this action sends a request, the last of the acts read the progress's moment
  abbrev ReadsBeforeAsking : Progress → List Act → Action → Type 0
  ReadsBeforeAsking p acts actions.Ask = LastTells p.moment.elapsed acts
  ReadsBeforeAsking p acts actions.Prepare = LastTells p.moment.elapsed acts
  ReadsBeforeAsking p acts actions.Send = LastTells p.moment.elapsed acts
  ReadsBeforeAsking p acts actions.Flush = LastTells p.moment.elapsed acts
  ReadsBeforeAsking p acts _ = Unit {0}

  -- what `MuteAt` says in this phase
  in_phase : (p : Progress) (at : Phase) (acts : List Act) → p.phase ≡ at → MuteAt p acts → MuteIn p at acts
  in_phase p at acts is q = subst (λ (x : Phase). MuteIn p x acts) is q

  -- where `MuteAt` holds, `Mute` holds after an act that reads the clock, with any `sought` that in the phase `Ready` is true
  -- only where a reply line was waited for before the act
  told_mute : (sought : Bool) (p : Progress) (m : Moment) (acts : List Act)
      → (p.phase ≡ phase.Ready → sought ≡ true → is_sought p.exchange.word p.exchange.again p.exchange.asked ≡ true) → MuteAt p acts
      → Mute sought p.exchange.asked (min p.exchange.alive m.elapsed) m.elapsed p.phase (acts ++ Told m ∷ [])
  told_mute sought p m acts back q =
      mute_told (is_sought p.exchange.word p.exchange.again p.exchange.asked) sought p.exchange.asked p.exchange.alive p.moment.elapsed m p.phase acts (Told m) back
      (record { tells = refl; reads_it = refl; stays = tt; listens = refl; none = tt }) q

  -- after a request that is sent in the phase `Ready`, `Mute` holds, if the last act before it read the progress's moment, and
  -- `MuteAt` held before it
  asks_mute : (sought : Bool) (p : Progress) (acts : List Act) (out : List ℕ) → p.phase ≡ phase.Ready → LastTells p.moment.elapsed acts → MuteAt p acts
      → Mute sought true (if p.exchange.asked then p.exchange.alive else p.moment.elapsed) p.moment.elapsed p.phase (acts ++ Put out ∷ [])
  asks_mute sought p acts out is tells q =
      subst (λ (x : Phase). Mute sought true (if p.exchange.asked then p.exchange.alive else p.moment.elapsed) p.moment.elapsed x (acts ++ Put out ∷ [])) (sym is)
      (λ so. muted_asks p.exchange.asked p.exchange.alive p.moment.elapsed acts out tells
      (λ e. subst (λ b. IsMuted b p.exchange.alive p.moment.elapsed acts) e (in_phase p phase.Ready acts is q (sought_asked p.exchange.word p.exchange.again p.exchange.asked e))))

  -- `Mute` holds of a connection that was cleared: if a synchronization goes on with it, no null procedure was sent on it yet
  cleared_mute : (begun : Bool) (p : Progress) (acts : List Act) → has_begun p ≡ begun
      → Mute (is_sought p.exchange.word 0 false) false p.exchange.alive p.moment.elapsed (if begun then phase.Draining else phase.Ready) acts
  cleared_mute true p acts e = tt
  cleared_mute false p acts e = λ so. absurd (both_ways (is_sought p.exchange.word 0 false) (ap (λ b. b || false) e) so)

  -- `Mute` is preserved if the station resynchronizes, where a request that was sent after the last reply line counts only if
  -- `on`
  mute_resynchronizing : (asked on : Bool) (alive now : ℕ) (at : Phase) (acts : List Act) → Mute (is_sought the_word 0 asked) asked alive now at acts
      → Mute (is_sought the_word 0 (asked && on)) (asked && on) alive now at acts
  mute_resynchronizing true true alive now at acts q = q
  mute_resynchronizing true false alive now phase.Ready acts q = λ so. cc
  mute_resynchronizing true false alive now at acts q = tt
  mute_resynchronizing false on alive now at acts q = q

  -- `MuteAt` is preserved by an act of any action that leaves a connection in use, if `HoldsBefore` and `ReadsBeforeAsking` hold
  -- of the action
  mute_line : (next : Action) (s : Model) (acts : List Act) → HoldsBefore plan s.progress (waiting_of s) next → ReadsBeforeAsking s.progress acts next
      → (state_after plan commands scope acts).rest ≡ s.rest → MuteAt s.progress acts → HoldsInUse plan commands MuteAt next (with_progress turned s) acts
  mute_line actions.Open s acts needs tells rest q = λ m. tt
  mute_line actions.Clear s acts needs tells rest q = λ m. cleared_mute (has_begun s.progress) s.progress (acts ++ Put (10 ∷ []) ∷ []) refl
  mute_line actions.Renew s acts needs tells rest q =
      let p = s.progress in
      λ m. mute_resynchronizing p.exchange.asked (goes_on plan (moment_noted m p)) (min p.exchange.alive m.elapsed) m.elapsed p.phase (acts ++ Told m ∷ [])
      (told_mute (is_sought the_word 0 p.exchange.asked) p m acts (λ ready so. sought_begun p.exchange.word p.exchange.again p.exchange.asked needs.1) q)
  mute_line actions.Ask s acts needs tells rest q =
      let p = s.progress in λ m. asks_mute (is_sought p.exchange.word (later p.moment.elapsed plan.deadline) true) p acts (null_text p.exchange.word) needs.0 tells q
  mute_line actions.Prepare s acts needs tells rest q =
      let p = s.progress in λ m. asks_mute (is_sought p.exchange.word p.exchange.again true) p acts (text_or_null (occasion_at s.progress.moment) s.client (drop p.prepared commands)) needs.0 tells q
  mute_line actions.Send s acts needs tells rest q =
      let p = s.progress in λ m. asks_mute (is_sought p.exchange.word p.exchange.again true) p acts (first_text (occasion_at s.progress.moment) s.client (drop (place_next commands p) commands)) needs.0 tells q
  mute_line actions.Flush s acts needs tells rest q = let p = s.progress in λ m. asks_mute (is_sought p.exchange.word p.exchange.again true) p acts (next_request_text s.client (Table NullProc)) needs.0 tells q
  mute_line (actions.Read until) s acts needs tells rest q =
      let p = s.progress in
      let sought = is_sought p.exchange.word p.exchange.again p.exchange.asked in (
        λ bytes m. gave_mute (with_progress turned s) bytes m p.phase acts refl rest q,
        λ m. (
          mute_told sought sought p.exchange.asked p.exchange.alive p.moment.elapsed m p.phase acts (Silent m) (λ ready so. so) (record { tells = refl; reads_it = refl; stays = tt; listens = refl; none = tt }) q,
          λ draining past so. muted_now m.elapsed acts (Silent m) refl,
        ),
      )
  mute_line (actions.Close why) s acts needs tells rest q = tt
  mute_line (actions.Stop why) s acts needs tells rest q = tt
  mute_line next s acts needs tells rest q = let p = s.progress in λ m. told_mute (is_sought p.exchange.word p.exchange.again p.exchange.asked) p m acts (λ ready so. so) q

  -- Whole runs.

  -- `ReadsBeforeAsking` holds of an action of which `Wakes` holds, if the last of the acts read the progress's moment where the
  -- station is `Awake`
  reads_before_asking : (p : Progress) (acts : List Act) (next : Action) → Wakes p next → (Awake p → LastTells p.moment.elapsed acts) → ReadsBeforeAsking p acts next
  reads_before_asking p acts actions.Ask awake last = last awake
  reads_before_asking p acts actions.Prepare awake last = last awake
  reads_before_asking p acts actions.Send awake last = last awake
  reads_before_asking p acts actions.Flush awake last = last awake
  reads_before_asking p acts next awake last = tt

  -- `MuteAt` holds after every run
  mute_holds : (acts : List Act) → Runs plan commands (opening plan scope) acts → MuteAt (state_after plan commands scope acts).progress acts
  mute_holds acts runs =
      holds_in_use_always plan commands MuteAt (λ x acts none. mute_none (is_sought x.exchange.word x.exchange.again x.exchange.asked) x.exchange.asked x.exchange.alive x.moment.elapsed x.phase acts none) scope (λ done runs q.
      let s = state_after plan commands scope done in
      let p = s.progress in
      let tells = reads_before_asking p done (action_at plan s) (action_wakes plan p (waiting_of s)) (λ awake. awake_last plan commands scope done runs awake) in
      mute_line (action_at plan s) s done (action_for plan p (waiting_of s)) tells refl q) tt acts runs

  -- if a request is outstanding, or a null procedure was sent on this connection, a reply line is waited for
  outstanding_is_sought : (s : Model) → Invariant plan commands s → (nat_lt 0 (length s.client.waiting) || nat_lt 0 s.progress.exchange.again) ≡ true
      → is_sought s.progress.exchange.word s.progress.exchange.again s.progress.exchange.asked ≡ true
  outstanding_is_sought s fine e = by_again (nat_lt 0 s.progress.exchange.again) refl where
    -- the progress after the acts
    p : Progress
    p = s.progress

    -- if a request is outstanding, by whether the station has synchronized: no request is outstanding while it synchronizes
    by_begun : (b : Bool) → has_begun p ≡ b → nat_lt 0 (length s.client.waiting) ≡ true → is_sought p.exchange.word p.exchange.again p.exchange.asked ≡ true
    by_begun true begun some = sought_begun p.exchange.word p.exchange.again p.exchange.asked begun
    by_begun false begins some =
        let none : length s.client.waiting ≡ 0 = ap (λ (c : ById Asked). length c.waiting) (fine.begins begins) in
        let many = ltb-true 0 (length s.client.waiting) some in
        absurd (omega (arith, none, many))

    -- the lemma above, by whether a null procedure of the synchronization was sent on this connection (`true`)
    by_again : (b : Bool) → nat_lt 0 p.exchange.again ≡ b → is_sought p.exchange.word p.exchange.again p.exchange.asked ≡ true
    by_again true again = sought_again p.exchange.word p.exchange.again p.exchange.asked again
    by_again false again = by_begun (has_begun p) refl (or_first (nat_lt 0 (length s.client.waiting)) (nat_lt 0 p.exchange.again) e again)

  -- a connection is closed for a dead line only after a silence that was long enough
  pub mute_close : (acts : List Act) → Runs plan commands (opening plan scope) acts
      → action_at plan (state_after plan commands scope acts) ≡ actions.Close cause.Dead → IsMuteFor (dead_after plan) plan commands scope acts
  mute_close acts runs is = record {
    before = q.before;
    start = q.start;
    from = s.progress.exchange.alive;
    behind = q.behind;
    order = q.order;
    starts = q.holds.0;
    stays = q.holds.1;
    mute = q.holds.2;
    asked = asks_as_is_mute s.progress.exchange.asked s.progress.exchange.alive q.before q.behind q.holds.3;
    long = subst (λ n. dead_after plan ≤ n - s.progress.exchange.alive) (sym q.holds.4) (leb-true (dead_after plan) (s.progress.moment.elapsed - s.progress.exchange.alive) dead.1);
  } where
    -- the model after the acts
    s : Model
    s = state_after plan commands scope acts

    -- a dead line is no failed call, so the phase hasn't decided the close before
    never : s.progress.phase ≡ phase.Closing cause.Dead → ⊥
    never = not_closing plan commands scope acts cause.Dead runs (λ act shows. shows)

    -- the phase is `Ready`, and the moment was read
    awake : Awake s.progress
    awake = second_holds (subst (λ (next : Action). Wakes s.progress next) is (action_wakes plan s.progress (waiting_of s))) never

    -- a reply line is waited for, and for long enough none came
    dead : ((nat_lt 0 (length s.client.waiting) || nat_lt 0 s.progress.exchange.again) ≡ true) × (nat_le (dead_after plan) (s.progress.moment.elapsed - s.progress.exchange.alive) ≡ true)
    dead =
        let long : Bool = nat_le (dead_after plan) (s.progress.moment.elapsed - s.progress.exchange.alive) in
        let sought : Bool = nat_lt 0 (length s.client.waiting) || nat_lt 0 s.progress.exchange.again in
        and_parts sought long (and_parts s.progress.exchange.asked (sought && long) (closes_at_its_end plan s cause.Dead is never).0).1

    -- a silence has lasted since `alive`
    q : IsMutedAt s.progress acts
    q = in_phase s.progress phase.Ready acts awake.1 (mute_holds acts runs) (outstanding_is_sought s (invariant_holds plan commands scope acts) dead.0)

-- a connection is closed for a dead line only once all that is outstanding has timed out
pub dead_after_deadlines : (plan : Plan) (commands : List Task) (scope : Scope) (acts : List Act) → Runs plan commands (opening plan scope) acts
    → action_at plan (state_after plan commands scope acts) ≡ actions.Close cause.Dead → HasAllTimedOut (state_after plan commands scope acts)
dead_after_deadlines plan commands scope acts runs is =
    let s = state_after plan commands scope acts in
    let ends = closes_at_its_end plan s cause.Dead is (not_closing plan commands scope acts cause.Dead runs (λ act shows. shows)) in
    (nil_from_length (deadlines s.client.waiting) ends.1, ends.2)
