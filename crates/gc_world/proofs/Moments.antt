-- A request that waits has timed out exactly if there was a moment at or past its deadline.
use Rattle.gc_world.proofs.Common.{◌≡◌, ℕ, zero, suc, ◌+◌, ◌<◌, ◌≤◌, Bool, true, false, cond, List, [], ◌∷◌, ◌++◌, ◌⊎◌, inl, inr, Contains, refl, sym, ◌∙◌, ap, subst, arith, leb, replicate, le-leb, lt-leb, leb-true, leb-false, or_from, or_left, or_right, Contains-append_right, Call, Pending, Event, UpDeliver, UpBytes, UpLose, UpRepeat, DownDeliver, DownBytes, DownLose, DownRepeat, RestartClient, RestartInstrument, Streams, passed, cut, is_begun, effect_on, flows, Ends, Rule, Step, Up_deliver, Up_lose, Up_repeat, Down_deliver, Down_lose, Down_repeat}
use Rattle.gc_world.specs.declared.event.Event.TheVariants.{Send, Expire}
use Rattle.gc_world.proofs.Flow.{taken}
use Rattle.gc_world.proofs.Marks.{touched, touched_all}
use Rattle.gc_world.specs.World

-- an event is no moment at or past the deadline
abbrev IsEarly : ℕ → Event → Type 0
IsEarly deadline e = (now : ℕ) → e ≡ Expire now → now < deadline

-- each moment among the events lies before the deadline
abbrev pub AllEarly : ℕ → List Event → Type 0
AllEarly deadline es = (now : ℕ) → Contains es (Expire now) → now < deadline

-- an event makes q of a request p that waits: the deadline stays; q has timed out if p had, or if the event is a moment at
-- or past the deadline; and else it hasn't
pub record IsTouched (e : Event) (p q : Pending Call) : Type 0 where
  pub deadline : q.deadline ≡ p.deadline
  pub stays : p.given_up ≡ true → q.given_up ≡ true
  pub early : p.given_up ≡ false → IsEarly p.deadline e → q.given_up ≡ false
  pub reached : (now : ℕ) → e ≡ Expire now → p.deadline ≤ now → q.given_up ≡ true

-- where an event is no moment, `IsTouched` holds of it and a request that stays as it is
untouched_by : (e : Event) (p : Pending Call) → ((now : ℕ) → e ≡ Expire now → ⊥) → IsTouched e p p
untouched_by e p none = record { deadline = refl; stays = λ g. g; early = λ g h. g; reached = λ now is le. absurd (none now is) }

-- equal `Expire` events have the same moment
same_moment : (a b : ℕ) → Expire a ≡ Expire b → a ≡ b
same_moment a b e = cc

-- a step leaves every request that waits as it is
abbrev IsQuiet : Step → Type 0
IsQuiet step = (p : Pending Call) → touched step p ≡ p

-- a quiet step (b false), or the step `Nothing` in its place (b true), leaves a waiting request as it is
quiet_or_nothing : (step : Step) (p : Pending Call) (b : Bool) → IsQuiet step → touched_all (cond b World.Nothing step ∷ []) p ≡ p
quiet_or_nothing step p true q = refl
quiet_or_nothing step p false q = q p

-- a quiet step made k times leaves requests as they are
quiet_all : (step : Step) (k : ℕ) (p : Pending Call) → IsQuiet step → touched_all (replicate k step) p ≡ p
quiet_all step zero p q = refl
quiet_all step (suc k) p q = ap (touched_all (replicate k step)) (q p) ∙ quiet_all step k p q

-- the steps that k bytes make of a quiet step (`passed`) leave requests as they are
quiet_passed : (step : Step) (lines : List (List ℕ)) (gone k : ℕ) (p : Pending Call) → IsQuiet step → touched_all (passed step lines gone k) p ≡ p
quiet_passed step [] gone k p q = refl
quiet_passed step (line ∷ lines) gone zero p q = refl
quiet_passed step (line ∷ lines) gone (suc k) p q = quiet_all step (cut (line ∷ lines) (gone + suc k)).lines p q

-- what steps and then others make of a request is what all of them make
touched_append : (xs ys : List Step) (p : Pending Call) → touched_all (xs ++ ys) p ≡ touched_all ys (touched_all xs p)
touched_append [] ys p = refl
touched_append (x ∷ xs) ys p = touched_append xs ys (touched x p)

-- where q equals p, `IsTouched e p p` gives `IsTouched e p q`
equal_touched : (e : Event) (p q : Pending Call) → q ≡ p → IsTouched e p p → IsTouched e p q
equal_touched e p q is h = subst (λ x. IsTouched e p x) (sym is) h

module _ {Client State : Type 0} (ends : Ends State) (rule : Rule Client) where
  -- what an event on these streams leaves of a request that waits
  abbrev pub marked : Streams Client State → Event → Pending Call → Pending Call
  marked v e p = touched_all (effect_on v e).steps p

  -- each event touches a request as `IsTouched` says
  touch : (v : Streams Client State) (e : Event) (p : Pending Call) → IsTouched e p (marked v e p)
  touch v (Expire now) p =
      record {
        deadline = refl;
        stays = λ g. or_left p.given_up (leb p.deadline now) g;
        early = λ g h. or_from p.given_up (leb p.deadline now) g (lt-leb _ _ (h now refl));
        reached = λ m is le. or_right p.given_up (leb p.deadline now) (le-leb p.deadline now (omega (arith, same_moment now m is, le)));
      }
  touch v (Send target call deadline) p = untouched_by (Send target call deadline) p (λ now is. cc)
  touch v UpDeliver p = untouched_by UpDeliver p (λ now is. cc)
  touch v (UpBytes k) p = equal_touched (UpBytes k) p _ (quiet_passed Up_deliver _ v.up_gone k p (λ x. refl)) (untouched_by (UpBytes k) p (λ now is. cc))
  touch v (UpLose k) p = equal_touched (UpLose k) p _ (quiet_or_nothing (Up_lose k) p (is_begun k v.up_gone) (λ x. refl)) (untouched_by (UpLose k) p (λ now is. cc))
  touch v (UpRepeat k) p = equal_touched (UpRepeat k) p _ (quiet_or_nothing (Up_repeat k) p (is_begun k v.up_gone) (λ x. refl)) (untouched_by (UpRepeat k) p (λ now is. cc))
  touch v DownDeliver p = untouched_by DownDeliver p (λ now is. cc)
  touch v (DownBytes k) p = equal_touched (DownBytes k) p _ (quiet_passed Down_deliver _ v.down_gone k p (λ x. refl)) (untouched_by (DownBytes k) p (λ now is. cc))
  touch v (DownLose k) p = equal_touched (DownLose k) p _ (quiet_or_nothing (Down_lose k) p (is_begun k v.down_gone) (λ x. refl)) (untouched_by (DownLose k) p (λ now is. cc))
  touch v (DownRepeat k) p = equal_touched (DownRepeat k) p _ (quiet_or_nothing (Down_repeat k) p (is_begun k v.down_gone) (λ x. refl)) (untouched_by (DownRepeat k) p (λ now is. cc))
  touch v RestartClient p = untouched_by RestartClient p (λ now is. cc)
  touch v RestartInstrument p = untouched_by RestartInstrument p (λ now is. cc)

module _ {A : Type 0} where
  -- a list has its first element
  at_head : (x y : A) (xs : List A) → x ≡ y → Contains (x ∷ xs) y
  at_head x y xs e = (zero, omega arith, e)

  -- a list has what its rest has
  at_tail : (x y : A) (xs : List A) → Contains xs y → Contains (x ∷ xs) y
  at_tail x y xs has = Contains-append_right (x ∷ []) xs y has

  -- what a list has is its first element or in its rest
  head_or_tail : (x y : A) (xs : List A) → Contains (x ∷ xs) y → (x ≡ y) ⊎ Contains xs y
  head_or_tail x y xs (zero, lt, is) = inl is
  head_or_tail x y xs (suc k, lt, is) = inr (k, omega (arith, lt), is)

  -- the empty list has no element
  none_in : (y : A) → Contains [] y → ⊥
  none_in y (k, lt, is) = absurd (omega (arith, lt))

module _ {Client State : Type 0} (ends : Ends State) (rule : Rule Client) where
  -- what these events leave of a request that waits
  abbrev pub marked_all : List Event → Streams Client State → Pending Call → Pending Call
  marked_all es v p = touched_all (taken ends rule es v) p

  -- what one event and then others leave of a request is what the others leave of what the first one left
  marked_more : (e : Event) (es : List Event) (v : Streams Client State) (p : Pending Call)
      → marked_all (e ∷ es) v p ≡ marked_all es (flows ends rule v e) (marked ends rule v e p)
  marked_more e es v p = touched_append (effect_on v e).steps (taken ends rule es (flows ends rule v e)) p

  -- a request that had timed out before some events has timed out after them, too
  stays_marked : (es : List Event) (v : Streams Client State) (p : Pending Call) → p.given_up ≡ true → (marked_all es v p).given_up ≡ true
  stays_marked [] v p g = g
  stays_marked (e ∷ es) v p g = ap (λ (q : Pending Call). q.given_up) (marked_more e es v p) ∙ stays_marked es (flows ends rule v e) (marked ends rule v e p) ((touch ends rule v e p).stays g)

  -- a request that hadn't timed out before some events still hasn't after them, where each moment
  -- among them lies before its deadline
  pub in_time : (es : List Event) (v : Streams Client State) (p : Pending Call) → p.given_up ≡ false → AllEarly p.deadline es
      → (marked_all es v p).given_up ≡ false
  in_time [] v p g h = g
  in_time (e ∷ es) v p g h =
      let t = touch ends rule v e p in
      ap (λ (q : Pending Call). q.given_up) (marked_more e es v p)
      ∙ in_time es (flows ends rule v e) (marked ends rule v e p) (t.early g (λ now is. h now (at_head e (Expire now) es is)))
      (λ now has. subst (λ d. now < d) (sym t.deadline) (h now (at_tail e (Expire now) es has)))

  -- the step of the induction in `too_late`: where a moment at or past the request's deadline is the event e, or among the
  -- events es, the request has timed out; for es this is the premise
  late_by : (e : Event) (es : List Event) (v : Streams Client State) (p : Pending Call) (now : ℕ) → p.deadline ≤ now
      → (Contains es (Expire now) → (marked_all es (flows ends rule v e) (marked ends rule v e p)).given_up ≡ true)
      → (e ≡ Expire now) ⊎ Contains es (Expire now) → (marked_all es (flows ends rule v e) (marked ends rule v e p)).given_up ≡ true
  late_by e es v p now le rest (inl is) = stays_marked es (flows ends rule v e) (marked ends rule v e p) ((touch ends rule v e p).reached now is le)
  late_by e es v p now le rest (inr has) = rest has

  -- a request has timed out after some events where a moment among them is at or past its deadline
  pub too_late : (es : List Event) (v : Streams Client State) (p : Pending Call) (now : ℕ) → Contains es (Expire now) → p.deadline ≤ now
      → (marked_all es v p).given_up ≡ true
  too_late [] v p now has le = absurd (none_in (Expire now) has)
  too_late (e ∷ es) v p now has le =
      ap (λ (q : Pending Call). q.given_up) (marked_more e es v p)
      ∙ late_by e es v p now le
      (λ more. too_late es (flows ends rule v e) (marked ends rule v e p) now more (subst (λ d. d ≤ now) (sym (touch ends rule v e p).deadline) le))
      (head_or_tail e (Expire now) es has)

-- an event is a moment at or past the deadline
abbrev Reaches : ℕ → Event → Type 0
Reaches deadline e = (now : ℕ) × (e ≡ Expire now) × (deadline ≤ now)

-- a moment lies before a deadline, or reaches it
moment_early_or_reaching : (deadline now : ℕ) (b : Bool) → leb deadline now ≡ b → IsEarly deadline (Expire now) ⊎ Reaches deadline (Expire now)
moment_early_or_reaching deadline now true t = inr (now, refl, leb-true _ _ t)
moment_early_or_reaching deadline now false t = inl (λ m is. omega (arith, same_moment now m is, leb-false _ _ t))

-- an event is early, or reaches the deadline
event_early_or_reaching : (deadline : ℕ) (e : Event) → IsEarly deadline e ⊎ Reaches deadline e
event_early_or_reaching deadline (Expire now) = moment_early_or_reaching deadline now (leb deadline now) refl
event_early_or_reaching deadline (Send target call d) = inl (λ now is. cc)
event_early_or_reaching deadline UpDeliver = inl (λ now is. cc)
event_early_or_reaching deadline (UpBytes k) = inl (λ now is. cc)
event_early_or_reaching deadline (UpLose k) = inl (λ now is. cc)
event_early_or_reaching deadline (UpRepeat k) = inl (λ now is. cc)
event_early_or_reaching deadline DownDeliver = inl (λ now is. cc)
event_early_or_reaching deadline (DownBytes k) = inl (λ now is. cc)
event_early_or_reaching deadline (DownLose k) = inl (λ now is. cc)
event_early_or_reaching deadline (DownRepeat k) = inl (λ now is. cc)
event_early_or_reaching deadline RestartClient = inl (λ now is. cc)
event_early_or_reaching deadline RestartInstrument = inl (λ now is. cc)

-- a moment among the events is at or past the deadline
abbrev pub OneReaches : ℕ → List Event → Type 0
OneReaches deadline es = (now : ℕ) × Contains es (Expire now) × (deadline ≤ now)

-- where the event e and all the events es are early, a moment that is e or among es lies before the deadline
early_moment : (deadline now : ℕ) (e : Event) (es : List Event) → IsEarly deadline e → AllEarly deadline es
    → (e ≡ Expire now) ⊎ Contains es (Expire now) → now < deadline
early_moment deadline now e es h hs (inl is) = h now is
early_moment deadline now e es h hs (inr has) = hs now has

-- where e is early or reaches the deadline, and all events es are early or one of them reaches it, the same holds of e and es
-- together
early_or_reached_with : (deadline : ℕ) (e : Event) (es : List Event) → IsEarly deadline e ⊎ Reaches deadline e → AllEarly deadline es ⊎ OneReaches deadline es
    → AllEarly deadline (e ∷ es) ⊎ OneReaches deadline (e ∷ es)
early_or_reached_with deadline e es (inr (now, is, le)) rest = inr (now, at_head e (Expire now) es is, le)
early_or_reached_with deadline e es (inl h) (inr (now, has, le)) = inr (now, at_tail e (Expire now) es has, le)
early_or_reached_with deadline e es (inl h) (inl hs) = inl (λ now has. early_moment deadline now e es h hs (head_or_tail e (Expire now) es has))

-- the moments among some events either all lie before a deadline, or one is at or past it
pub early_or_reached : (deadline : ℕ) (es : List Event) → AllEarly deadline es ⊎ OneReaches deadline es
early_or_reached deadline [] = inl (λ now has. absurd (none_in (Expire now) has))
early_or_reached deadline (e ∷ es) = early_or_reached_with deadline e es (event_early_or_reaching deadline e) (early_or_reached deadline es)
