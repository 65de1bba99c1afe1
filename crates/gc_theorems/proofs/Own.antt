-- In the field with damage each answer is own or damaged: what `Well` says, of steps from a start on.
use Rattle.gc_theorems.proofs.Common.{◌≡◌, ℕ, ◌+◌, ◌≤◌, ◌⊎◌, inl, inr, List, [], ◌∷◌, ◌++◌, length, Option, Some, refl, sym, ◌∙◌, ap, subst, arith, append_assoc, append-nil, slice_get, cons_tail, Asked, Outcome, KeptReply, Ends, Move, Comes, UnderWay, IsClean, IsAnInstrument, Harm, Does, Strikes, Harmed, harms, harmed, harm_begun, AllMayHarm, WasMadeAmid, WasMadeOfDamage, IsByDamage, IsOwn, IsCleanBut, AreOwnOr, no_line}
use Rattle.gc_theorems.proofs.Answered.{HoldsOfOutcome, holds_get}
use Rattle.gc_theorems.proofs.DamagedCounting.{few_by_damage}
use Rattle.gc_theorems.proofs.Well.{Booked, KnownOf, Well, well_begun, well_harm, well_more}

module _ {State : Type 0} (width : ℕ) (narrow : width ≤ 7) (ends : Ends State) (Good : State → Type 0) (kept : State → Option KeptReply) (is : IsAnInstrument ends Good kept) where
  -- one step more
  harmed_push : (front : List (Harm State)) (m : Harm State) (h : Harmed State) → harmed width ends (front ++ m ∷ []) h ≡ harms width ends (harmed width ends front h) m
  harmed_push [] m h = refl
  harmed_push (x ∷ front) m h = harmed_push front m (harms width ends h x)

  -- equal lists with the same front go on with the same element
  same_next : {A : Type 0} (front : List A) (x y : A) (xs ys : List A) → front ++ x ∷ xs ≡ front ++ y ∷ ys → x ≡ y
  same_next [] x y xs ys e = cc
  same_next (z ∷ front) x y xs ys e = same_next front x y xs ys (cons_tail z z (front ++ x ∷ xs) (front ++ y ∷ ys) e)

  -- the last step is the one at which a list of steps is split, or it comes later
  before_last : (front f later : List (Harm State)) (m x : Harm State) → front ++ m ∷ [] ≡ f ++ x ∷ later → (m ≡ x) ⊎ ((rest : List (Harm State)) × (front ≡ f ++ x ∷ rest))
  before_last [] [] later m x e = inl (cc)
  before_last [] (y ∷ []) later m x e = let never : ⊥ = cc in absurd never
  before_last [] (y ∷ z ∷ f) later m x e = let never : ⊥ = cc in absurd never
  before_last (a ∷ front) [] later m x e = let same : a ≡ x = cc in inr (front, ap (λ b. b ∷ front) same)
  before_last (a ∷ front) (y ∷ f) later m x e = elim (before_last front f later m x (cons_tail a y (front ++ m ∷ []) (f ++ x ∷ later) e)) [
    | inl same ↦ inl same
    | inr more ↦ let same : a ≡ y = cc in inr (more.0, ap (λ l. a ∷ l) more.1 ∙ ap (λ b. b ∷ (f ++ x ∷ more.0)) same)
  ]

  module _ (Old : List ℕ → Type 0) (start : Harmed State) (ms : List (Harm State)) where
    -- what was made at one of these steps
    abbrev M : ℕ → Asked → List ℕ → Type 0
    M n call line = WasMadeAmid width ends start ms n call line

    -- what was made of a request that damage made, at one of the steps `front` or before them (`Old`)
    abbrev D : List (Harm State) → List ℕ → Type 0
    D front line = WasMadeOfDamage width ends start front line ⊎ Old line

    -- what was settled by a damaged line
    abbrev B : ℕ → List ℕ → Type 0
    B n line = IsByDamage width ends start ms Old n line

    -- it was also made at one of these and one more
    made_more : (front : List (Harm State)) (m : Harm State) (line : List ℕ) → D front line → D (front ++ m ∷ []) line
    made_more front m line (inl w) =
        inl (record {
          front = w.front;
          later = w.later ++ m ∷ [];
          id = w.id;
          call = w.call;
          split = ap (λ l. l ++ m ∷ []) w.split ∙ append_assoc w.front (Strikes w.id w.call ∷ w.later) (m ∷ []);
          reply = w.reply;
        })
    made_more front m line (inr old) = inr old

    -- if the one more is a move of the field, it was made before that
    made_before : (front : List (Harm State)) (move : Move State) (line : List ℕ) → D (front ++ Does move ∷ []) line → D front line
    made_before front move line (inl w) = elim (before_last front w.front w.later (Does move) (Strikes w.id w.call) w.split) [
      | inl same ↦ let never : ⊥ = cc in absurd never
      | inr more ↦ inl (record { front = w.front; later = more.0; id = w.id; call = w.call; split = more.1; reply = w.reply })
    ]
    made_before front move line (inr old) = inr old

    -- what is to be known of a step of these
    known : (front : List (Harm State)) (m : Harm State) (later : List (Harm State)) → ms ≡ front ++ m ∷ later
        → KnownOf M (D (front ++ m ∷ [])) B width narrow ends Good kept is (harmed width ends front start) m
    known front m later e =
        record {
          made = λ same x rest up id yes. record { front = front; later = later; split = e ∙ ap (λ k. front ++ k ∷ later) same; id = x.line.id; own_id = id; rest = rest; reaches = up; executed = yes; reply = refl };
          came = λ line n same le size. record { front = front; step = m; later = later; split = e; before = le; after = size; damaged = inl same };
          again = λ like line n rest same down broken le size. record {
            front = front;
            step = m;
            later = later;
            split = e;
            before = le;
            after = size;
            damaged =
                inr (record {
                  like = like;
                  is = same;
                  rest = rest;
                  next = down;
                  made = made_before front (Comes like) line (subst (λ k. D (front ++ k ∷ []) line) same broken);
                });
          };
          struck = λ id call same. inl (record { front = front; later = []; id = id; call = call; split = ap (λ k. front ++ k ∷ []) same; reply = refl });
        }

    -- after these steps and the later ones the invariant holds
    well_later : (later front : List (Harm State)) → ms ≡ front ++ later → AllMayHarm width ends Good kept later (harmed width ends front start)
        → Well M (D front) B width narrow ends Good kept is (harmed width ends front start) → Well M (D ms) B width narrow ends Good kept is (harmed width ends ms start)
    well_later [] front e p w =
        subst (λ l. Well M (D l) B width narrow ends Good kept is (harmed width ends l start)) (sym (e ∙ append-nil front)) w
    well_later (m ∷ later) front e p w =
        let next = well_harm M (D (front ++ m ∷ [])) B width narrow ends Good kept is (harmed width ends front start) m p.0 (known front m later e)
        (well_more M (D front) (D (front ++ m ∷ [])) B width narrow ends Good kept is (made_more front m) (harmed width ends front start) w) in
        well_later later (front ++ m ∷ []) (e ∙ sym (append_assoc front (m ∷ []) later))
        (subst (λ h. AllMayHarm width ends Good kept later h) (sym (harmed_push front m start)) p.1)
        (subst (λ h. Well M (D (front ++ m ∷ [])) B width narrow ends Good kept is h) (sym (harmed_push front m start)) next)

    -- what is booked for a request from number 8 on was made for it, or is damaged
    of_booked : (m : ℕ) (line : List ℕ) → 8 ≤ m → Booked M (D ms) B (harmed width ends ms start).world.wire.sent (0 + m) line → IsOwn width ends start ms m line ⊎ B m line
    of_booked m line ge (inl l) = absurd (omega (arith, l, ge))
    of_booked m line ge (inr (inl d)) = let z : 0 + m ≡ m = omega arith in inr (subst (λ i. B i line) z d)
    of_booked m line ge (inr (inr t)) =
        let z : 0 + m ≡ m = omega arith in
        inl (record {
          request = t.0;
          sent = subst (λ i. slice_get (harmed width ends ms start).world.wire.sent i ≡ Some t.0) z t.1;
          made = subst (λ i. M i t.0.call line) z t.2;
        })

    -- a damaged line that comes settles one request at most
    one_each : (m n : ℕ) (line other : List ℕ) (a : B m line) (b : B n other) → a.front ≡ b.front → m ≡ n
    one_each m n line other a b e =
        let same : a.step ≡ b.step = same_next a.front a.step b.step a.later b.later (sym a.split ∙ b.split ∙ ap (λ f. f ++ b.step ∷ b.later) (sym e)) in
        let size : length (harms width ends (harmed width ends a.front start) a.step).world.wire.settled ≡ length (harms width ends (harmed width ends b.front start) b.step).world.wire.settled =
        ap (λ f. length (harms width ends (harmed width ends f start) a.step).world.wire.settled) e
        ∙ ap (λ step. length (harms width ends (harmed width ends b.front start) step).world.wire.settled) same in
        let x = a.after in
        let y = b.after in
        omega (arith, x, y, size)

    -- from a start of which `Well` holds, each answer is own or damaged
    own_or_from : AllMayHarm width ends Good kept ms start → Well M (D []) B width narrow ends Good kept is start → AreOwnOr width ends Old start ms
    own_or_from p h =
        let w = well_later ms [] refl p h in
        record {
          answered = λ m s line ge e out.
              of_booked m line ge
              (subst (λ (o : Outcome). HoldsOfOutcome (Booked M (D ms) B (harmed width ends ms start).world.wire.sent) (0 + m) o) out
              (holds_get _ 0 (harmed width ends ms start).world.wire.settled m s w.answers e));
          late = λ m s ge e out.
              let t = subst (λ (o : Outcome). HoldsOfOutcome (Booked M (D ms) B (harmed width ends ms start).world.wire.sent) (0 + m) o) out
              (holds_get _ 0 (harmed width ends ms start).world.wire.settled m s w.answers e) in
              (t.0, of_booked m t.0 ge t.1);
          few = few_by_damage width ends Old start ms;
          one_each = one_each;
        }

  -- after a synchronization that is clean but for a kept reply that is damaged, each answer is own or damaged
  pub own_or_broken : (Old : List ℕ → Type 0) (u : UnderWay State) (ms : List (Harm State)) → IsCleanBut Old Good kept u → AllMayHarm width ends Good kept ms (harm_begun width ends u)
      → AreOwnOr width ends Old (harm_begun width ends u) ms
  own_or_broken Old u ms clean p =
      own_or_from Old (harm_begun width ends u) ms p
      (well_begun (λ n call line. WasMadeAmid width ends (harm_begun width ends u) ms n call line) (λ line. WasMadeOfDamage width ends (harm_begun width ends u) [] line ⊎ Old line)
      (λ n line. IsByDamage width ends (harm_begun width ends u) ms Old n line) width narrow ends Good kept is u
      (record { good = clean.good; up = clean.up; down = clean.down; keeps = λ k e. elim (clean.keeps k e) [ inl id ↦ inl id | inr old ↦ inr (inr old) ] }))

  -- after a clean synchronization each answer is own or damaged
  pub own_or_damaged : (u : UnderWay State) → IsClean Good kept u → (ms : List (Harm State)) → AllMayHarm width ends Good kept ms (harm_begun width ends u)
      → AreOwnOr width ends no_line (harm_begun width ends u) ms
  own_or_damaged u clean ms p = own_or_broken no_line u ms (record { good = clean.good; up = clean.up; down = clean.down; keeps = λ k e. inl (clean.keeps k e) }) p
