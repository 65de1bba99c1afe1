-- If the eighth null procedure is answered by its own reply, a synchronization with damage is clean, but for a kept reply that is
-- damaged. An own line with the id 7 has only such lines behind it, since the client asks for nothing else once it asked for that.
use Rattle.gc_theorems.proofs.Common.{◌≡◌, ℕ, zero, suc, ◌<◌, ◌⊎◌, inl, inr, Bool, true, false, List, [], ◌∷◌, ◌++◌, map, Option, Some, refl, sym, ◌∙◌, ap, subst, arith, append_assoc, AllByRecursion, true≢false, same_Some, none-some, all_append, every_weaker as all_on, Asked, Table, NullProc, is_of_table, left_by, left_when, is_answered, the_word, heard, KeptReply, Ends, Request, without, doubled, each_without, each_doubled, IsTurn, IsWellFormed, SyncModel, SyncTurn, Asks, Reaches, UnderWay, asks, begins, comes, reaches, turns, eighth_null, IsAnInstrument, MayBeKept, MayForget, own_reply, SyncHarm, sync_harms, sync_harmed, MaySyncHarm, AllMaySyncHarm, OwnEighthComes, WasStruck, IsCleanButStruck}
use Rattle.gc_theorems.specs.Begin.{InFlight, Comes, Foreign, Up_lose, Up_repeat, Down_lose, Down_repeat, Anew, Changes}
use Rattle.gc_theorems.specs.DamagedSynchronizing.{Does, Damages, Strikes}

-- an own request with the id 7
abbrev OwnUp : InFlight Request → Type 0
OwnUp x = (x.old ≡ false) × (x.line.id ≡ 7)

-- an own reply with the id 7
abbrev OwnDown : InFlight (List ℕ) → Type 0
OwnDown x = (x.old ≡ false) × (heard x.line ≡ Some 7)

-- behind each own request with the id 7 there are only such
abbrev UpBehind : List (InFlight Request) → Type 0
UpBehind [] = Unit {0}
UpBehind (x ∷ xs) = (OwnUp x → AllByRecursion OwnUp xs) × UpBehind xs

-- behind each own reply with the id 7 there are only such, and only such requests
abbrev DownBehind : List (InFlight Request) → List (InFlight (List ℕ)) → Type 0
DownBehind up [] = Unit {0}
DownBehind up (x ∷ xs) = (OwnDown x → AllByRecursion OwnDown xs × AllByRecursion OwnUp up) × DownBehind up xs

-- only the last null procedure isn't answered, or none
abbrev AtEnd : List ℕ → Type 0
AtEnd left = (left ≡ 7 ∷ []) ⊎ (left ≡ [])

-- ids that are left: each is a digit, and 7 is the last
abbrev IsLeft : List ℕ → Type 0
IsLeft [] = Unit {0}
IsLeft (w ∷ ws) = (w < 8) × (w ≡ 7 → ws ≡ []) × IsLeft ws

-- what is left stays so as lines come
left_when_ok : (b : Bool) (w : ℕ) (ws : List ℕ) → IsLeft (w ∷ ws) → IsLeft (left_when b w ws)
left_when_ok true w ws h = h.2
left_when_ok false w ws h = h

-- what is left stays so once a line with this id came, or one without an id
left_ok : (left : List ℕ) (id : Option ℕ) → IsLeft left → IsLeft (left_by left id)
left_ok [] id h = tt
left_ok (w ∷ ws) id h = left_when_ok (is_answered (w ∷ ws) id) w ws h

-- at the end it stays at the end
end_when : (b : Bool) → AtEnd (left_when b 7 [])
end_when true = inr refl
end_when false = inl refl

-- the same of what is left
end_ok : (left : List ℕ) (id : Option ℕ) → AtEnd left → AtEnd (left_by left id)
end_ok left id (inl e) = subst (λ l. AtEnd (left_by l id)) (sym e) (end_when (is_answered (7 ∷ []) id))
end_ok left id (inr e) = subst (λ l. AtEnd (left_by l id)) (sym e) (inr refl)

-- requests of which one is lost
up_without : (k : ℕ) (xs : List (InFlight Request)) → UpBehind xs → UpBehind (without k xs)
up_without k [] h = tt
up_without zero (x ∷ xs) h = h.1
up_without (suc k) (x ∷ xs) h = ((λ o. each_without OwnUp k xs (h.0 o)), up_without k xs h.1)

-- the same of requests of which one is repeated
up_doubled : (k : ℕ) (xs : List (InFlight Request)) → UpBehind xs → UpBehind (doubled k xs)
up_doubled k [] h = tt
up_doubled zero (x ∷ xs) h = ((λ o. (o, h.0 o)), (h.0, h.1))
up_doubled (suc k) (x ∷ xs) h = ((λ o. each_doubled OwnUp k xs (h.0 o)), up_doubled k xs h.1)

-- the same of replies of which one is lost
down_without : (up : List (InFlight Request)) (k : ℕ) (xs : List (InFlight (List ℕ))) → DownBehind up xs → DownBehind up (without k xs)
down_without up k [] h = tt
down_without up zero (x ∷ xs) h = h.1
down_without up (suc k) (x ∷ xs) h = ((λ o. (each_without OwnDown k xs (h.0 o).0, (h.0 o).1)), down_without up k xs h.1)

-- the same of replies of which one is repeated
down_doubled : (up : List (InFlight Request)) (k : ℕ) (xs : List (InFlight (List ℕ))) → DownBehind up xs → DownBehind up (doubled k xs)
down_doubled up k [] h = tt
down_doubled up zero (x ∷ xs) h = ((λ o. ((o, (h.0 o).0), (h.0 o).1)), (h.0, h.1))
down_doubled up (suc k) (x ∷ xs) h = ((λ o. (each_doubled OwnDown k xs (h.0 o).0, (h.0 o).1)), down_doubled up k xs h.1)

-- replies, with other requests of which all are own if those were
down_over : (up after : List (InFlight Request)) (xs : List (InFlight (List ℕ))) → (AllByRecursion OwnUp up → AllByRecursion OwnUp after) → DownBehind up xs → DownBehind after xs
down_over up after [] f h = tt
down_over up after (x ∷ xs) f h = ((λ o. ((h.0 o).0, f (h.0 o).1)), down_over up after xs f h.1)

-- a request is put last, which is own if an own one with the id 7 is before it
up_push : (y : InFlight Request) (xs : List (InFlight Request)) → AllByRecursion (λ x. OwnUp x → OwnUp y) xs → UpBehind xs → UpBehind (xs ++ y ∷ [])
up_push y [] f h = ((λ o. tt), tt)
up_push y (x ∷ xs) f h = ((λ o. all_append OwnUp xs (y ∷ []) (h.0 o) (f.0 o, tt)), up_push y xs f.1 h.1)

-- the same of the replies before that request
down_push_up : (y : InFlight Request) (up : List (InFlight Request)) (xs : List (InFlight (List ℕ))) → AllByRecursion (λ x. OwnDown x → OwnUp y) xs → DownBehind up xs → DownBehind (up ++ y ∷ []) xs
down_push_up y up [] f h = tt
down_push_up y up (x ∷ xs) f h = ((λ o. ((h.0 o).0, all_append OwnUp up (y ∷ []) (h.0 o).1 (f.0 o, tt))), down_push_up y up xs f.1 h.1)

-- the front request becomes the last reply
down_reached : (x : InFlight Request) (r : InFlight (List ℕ)) (rest : List (InFlight Request)) (xs : List (InFlight (List ℕ))) → (OwnUp x → OwnDown r) → (OwnDown r → OwnUp x)
    → UpBehind (x ∷ rest) → DownBehind (x ∷ rest) xs → DownBehind rest (xs ++ r ∷ [])
down_reached x r rest [] f g u h = ((λ o. (tt, u.0 (g o))), tt)
down_reached x r rest (y ∷ ys) f g u h =
    ((λ o. let b = h.0 o in (all_append OwnDown ys (r ∷ []) b.0 (f b.1.0, tt), b.1.1)), down_reached x r rest ys f g u h.1)

-- an old line, as it is marked at the start
abbrev marked : {Line : Type 0} → Line → InFlight Line
marked x = record { old = true; line = x }

-- D says of a line that it was made of a request that damage made
module _ {State : Type 0} (ends : Ends State) (Good : State → Type 0) (kept : State → Option KeptReply) (is : IsAnInstrument ends Good kept) (D : List ℕ → Type 0) where
  -- what is kept has the id 7, or is damaged
  abbrev KeptOk : State → Type 0
  KeptOk state = (k : KeptReply) → kept state ≡ Some k → (k.id ≡ 7) ⊎ D k.line

  -- another state that keeps the same, or nothing
  forgets_ok : (state after : State) → MayForget (kept state) (kept after) → KeptOk state → KeptOk after
  forgets_ok state after (inl none) ok k e = absurd (none-some k (sym none ∙ e))
  forgets_ok state after (inr same) ok k e = ok k (sym same ∙ e)

  -- once the instrument got the null procedure with the id 7
  seven_ok : (state : State) (id : ℕ) (call : Asked) → Good state → id < 8 → id ≡ 7 → call ≡ Table NullProc → KeptOk (ends.handed state id call).state
  seven_ok state id call good small seven null k e = by_case (is.keeps state id call good small) where
    -- by what is kept then
    by_case : MayBeKept (is_of_table call) (own_reply id (ends.handed state id call)) (kept state) (kept (ends.handed state id call).state) → (k.id ≡ 7) ⊎ D k.line
    by_case (inl (inl none)) = absurd (none-some k (sym none ∙ e))
    by_case (inl (inr same)) =
        let one : own_reply id (ends.handed state id call) ≡ k = same_Some _ _ (sym same ∙ e) in
        inl (sym (ap (λ (k : KeptReply). k.id) one) ∙ seven)
    by_case (inr f) = let t : is_of_table call ≡ true = ap is_of_table null in absurd (true≢false (sym t ∙ f.0))

  -- once the instrument got a request that damage made
  struck_ok : (state : State) (id : ℕ) (call : Asked) → Good state → id < 8 → D (ends.handed state id call).reply → KeptOk state → KeptOk (ends.handed state id call).state
  struck_ok state id call good small d ok k e = by_case (is.keeps state id call good small) where
    -- by what is kept then
    by_case : MayBeKept (is_of_table call) (own_reply id (ends.handed state id call)) (kept state) (kept (ends.handed state id call).state) → (k.id ≡ 7) ⊎ D k.line
    by_case (inl (inl none)) = absurd (none-some k (sym none ∙ e))
    by_case (inl (inr same)) =
        let one : own_reply id (ends.handed state id call) ≡ k = same_Some _ _ (sym same ∙ e) in
        inr (subst (λ (k : KeptReply). D k.line) one d)
    by_case (inr f) = ok k (sym f.1 ∙ e)

  -- the invariant before the own reply to the eighth null procedure came
  pub record Fine (s : SyncModel State) : Type 0 where
    pub good : Good s.state
    pub digits : AllByRecursion (λ x. x.line.id < 8) s.up
    pub nulls : AllByRecursion (λ x. x.old ≡ false → x.line.call ≡ Table NullProc) s.up
    pub is_left : IsLeft s.left
    pub up : UpBehind s.up
    pub down : DownBehind s.up s.down
    pub end_up : AllByRecursion (λ x. OwnUp x → AtEnd s.left) s.up
    pub end_down : AllByRecursion (λ x. OwnDown x → AtEnd s.left) s.down
    pub keeps : AllByRecursion (λ x. OwnDown x → KeptOk s.state) s.down

  -- the invariant after that
  pub record Done (s : SyncModel State) : Type 0 where
    pub good : Good s.state
    pub left : s.left ≡ []
    pub up : AllByRecursion (λ x. (x.old ≡ false) × (x.line ≡ eighth_null)) s.up
    pub down : AllByRecursion OwnDown s.down
    pub keeps : KeptOk s.state

  -- the reply to a request has its id
  reply_id : (state : State) (x : Request) → Good state → x.id < 8 → heard (ends.handed state x.id x.call).reply ≡ Some x.id
  reply_id state x good small = is.replies state x.id x.call good small

  -- other ids are left, because a line came
  fine_left : (s : SyncModel State) (id : Option ℕ) → Fine s → Fine (record { up = s.up; down = s.down; state = s.state; left = left_by s.left id })
  fine_left s id h =
      record {
        good = h.good;
        digits = h.digits;
        nulls = h.nulls;
        is_left = left_ok s.left id h.is_left;
        up = h.up;
        down = h.down;
        end_up = all_on (λ x. OwnUp x → AtEnd s.left) (λ x. OwnUp x → AtEnd (left_by s.left id)) s.up (λ x f o. end_ok s.left id (f o)) h.end_up;
        end_down = all_on (λ x. OwnDown x → AtEnd s.left) (λ x. OwnDown x → AtEnd (left_by s.left id)) s.down (λ x f o. end_ok s.left id (f o)) h.end_down;
        keeps = h.keeps;
      }

  -- the null procedure of the first id that is left is sent
  fine_asks : (s : SyncModel State) (left : List ℕ) → s.left ≡ left → Fine s → Fine (asks s left)
  fine_asks s [] e h = h
  fine_asks s (w ∷ ws) e h =
      let y : InFlight Request = record { old = false; line = record { id = w; call = Table NullProc } } in
      let ok = subst IsLeft e h.is_left in
      record {
        good = h.good;
        digits = all_append (λ x. x.line.id < 8) s.up (y ∷ []) h.digits (ok.0, tt);
        nulls = all_append (λ x. x.old ≡ false → x.line.call ≡ Table NullProc) s.up (y ∷ []) h.nulls ((λ o. refl), tt);
        is_left = h.is_left;
        up = up_push y s.up (all_on (λ x. OwnUp x → AtEnd s.left) (λ x. OwnUp x → OwnUp y) s.up (λ x f o. own_y (subst AtEnd e (f o))) h.end_up) h.up;
        down = down_push_up y s.up s.down (all_on (λ x. OwnDown x → AtEnd s.left) (λ x. OwnDown x → OwnUp y) s.down (λ x f o. own_y (subst AtEnd e (f o))) h.end_down) h.down;
        end_up = all_append (λ x. OwnUp x → AtEnd s.left) s.up (y ∷ []) h.end_up ((λ o. subst AtEnd (sym e) (inl (ap (λ l. w ∷ l) (ok.1 o.1) ∙ ap (λ i. i ∷ []) o.1))), tt);
        end_down = h.end_down;
        keeps = h.keeps;
      }
    where
      -- at the end it is the eighth null procedure
      own_y : AtEnd (w ∷ ws) → OwnUp (record { old = false; line = record { id = w; call = Table NullProc } })
      own_y (inl g) = (refl, first_same g) where
        -- the first elements of equal lists
        first_same : w ∷ ws ≡ 7 ∷ [] → w ≡ 7
        first_same g = cc
      own_y (inr g) = absurd (not_nil g) where
        -- a list with an element isn't empty
        not_nil : w ∷ ws ≡ [] → ⊥
        not_nil g = cc

  -- the front reply comes
  fine_comes : (s : SyncModel State) (down : List (InFlight (List ℕ))) → s.down ≡ down → Fine s → Fine (comes s down)
  fine_comes s [] e h = h
  fine_comes s (x ∷ rest) e h =
      let id = heard x.line in
      record {
        good = h.good;
        digits = h.digits;
        nulls = h.nulls;
        is_left = left_ok s.left id h.is_left;
        up = h.up;
        down = (subst (λ d. DownBehind s.up d) e h.down).1;
        end_up = all_on (λ x. OwnUp x → AtEnd s.left) (λ x. OwnUp x → AtEnd (left_by s.left id)) s.up (λ x f o. end_ok s.left id (f o)) h.end_up;
        end_down = all_on (λ x. OwnDown x → AtEnd s.left) (λ x. OwnDown x → AtEnd (left_by s.left id)) rest (λ x f o. end_ok s.left id (f o)) (subst (λ d. AllByRecursion (λ x. OwnDown x → AtEnd s.left) d) e h.end_down).1;
        keeps = (subst (λ d. AllByRecursion (λ x. OwnDown x → KeptOk s.state) d) e h.keeps).1;
      }

  -- the front request reaches the instrument
  fine_reaches : (s : SyncModel State) (up : List (InFlight Request)) → s.up ≡ up → Fine s → Fine (reaches ends s up)
  fine_reaches s [] e h = h
  fine_reaches s (x ∷ rest) e h =
      let hd = ends.handed s.state x.line.id x.line.call in
      let r : InFlight (List ℕ) = record { old = x.old; line = hd.reply } in
      let digits = subst (λ u. AllByRecursion (λ x. x.line.id < 8) u) e h.digits in
      let nulls = subst (λ u. AllByRecursion (λ x. x.old ≡ false → x.line.call ≡ Table NullProc) u) e h.nulls in
      let up = subst (λ u. UpBehind u) e h.up in
      let down = subst (λ u. DownBehind u s.down) e h.down in
      let end_up = subst (λ u. AllByRecursion (λ x. OwnUp x → AtEnd s.left) u) e h.end_up in
      let same = reply_id s.state x.line h.good digits.0 in
      let to_down : OwnUp x → OwnDown r = λ o. (o.0, same ∙ ap Some o.1) in
      let to_up : OwnDown r → OwnUp x = λ o. (o.0, same_Some _ _ (sym same ∙ o.1)) in
      let ok : OwnUp x → KeptOk hd.state = λ o. seven_ok s.state x.line.id x.line.call h.good digits.0 o.1 (nulls.0 o.0) in
      record {
        good = is.stays_good s.state x.line.id x.line.call h.good digits.0;
        digits = digits.1;
        nulls = nulls.1;
        is_left = h.is_left;
        up = up.1;
        down = down_reached x r rest s.down to_down to_up up down;
        end_up = end_up.1;
        end_down = all_append (λ x. OwnDown x → AtEnd s.left) s.down (r ∷ []) h.end_down ((λ o. end_up.0 (to_up o)), tt);
        keeps = all_append (λ x. OwnDown x → KeptOk hd.state) s.down (r ∷ []) (own_up s.down x rest hd.state down ok) ((λ o. ok (to_up o)), tt);
      }
    where
      -- of each own reply with the id 7 the request x is behind it
      own_up : (xs : List (InFlight (List ℕ))) (x : InFlight Request) (rest : List (InFlight Request)) (state : State) → DownBehind (x ∷ rest) xs → (OwnUp x → KeptOk state) → AllByRecursion (λ y. OwnDown y → KeptOk state) xs
      own_up [] x rest state b ok = tt
      own_up (y ∷ ys) x rest state b ok = ((λ o. ok (b.0 o).1.0), own_up ys x rest state b.1 ok)

  -- another state of the instrument
  fine_state : (s : SyncModel State) (state : State) → Good state → (KeptOk s.state → KeptOk state) → Fine s → Fine (record { up = s.up; down = s.down; state = state; left = s.left })
  fine_state s state good f h =
      record {
        good = good;
        digits = h.digits;
        nulls = h.nulls;
        is_left = h.is_left;
        up = h.up;
        down = h.down;
        end_up = h.end_up;
        end_down = h.end_down;
        keeps = all_on (λ x. OwnDown x → KeptOk s.state) (λ x. OwnDown x → KeptOk state) s.down (λ x g o. f (g o)) h.keeps;
      }

  -- another upward queue
  fine_up : (s : SyncModel State) (up : List (InFlight Request)) → AllByRecursion (λ x. x.line.id < 8) up → AllByRecursion (λ x. x.old ≡ false → x.line.call ≡ Table NullProc) up → UpBehind up
      → (AllByRecursion OwnUp s.up → AllByRecursion OwnUp up) → AllByRecursion (λ x. OwnUp x → AtEnd s.left) up → Fine s → Fine (record { up = up; down = s.down; state = s.state; left = s.left })
  fine_up s up d n u f a h =
      record { good = h.good; digits = d; nulls = n; is_left = h.is_left; up = u; down = down_over s.up up s.down f h.down; end_up = a; end_down = h.end_down; keeps = h.keeps }

  -- another downward queue
  fine_down : (s : SyncModel State) (down : List (InFlight (List ℕ))) → DownBehind s.up down → AllByRecursion (λ x. OwnDown x → AtEnd s.left) down → AllByRecursion (λ x. OwnDown x → KeptOk s.state) down
      → Fine s → Fine (record { up = s.up; down = down; state = s.state; left = s.left })
  fine_down s down d a k h = record { good = h.good; digits = h.digits; nulls = h.nulls; is_left = h.is_left; up = h.up; down = d; end_up = h.end_up; end_down = a; keeps = k }

  -- what is to be known of a step: D of what is made of a request that damage made
  abbrev pub TellsStruck : SyncModel State → SyncHarm State → Type 0
  TellsStruck s t = (id : ℕ) (call : Asked) → t ≡ Strikes id call → D (ends.handed s.state id call).reply

  -- each turn keeps the invariant
  fine_turn : (s : SyncModel State) (t : SyncTurn State) → IsTurn Good kept s t → Fine s → Fine (turns ends s t)
  fine_turn s Asks p h = fine_asks s s.left refl h
  fine_turn s Comes p h = fine_comes s s.down refl h
  fine_turn s (Foreign line) p h = fine_left s (heard line) h
  fine_turn s Reaches p h = fine_reaches s s.up refl h
  fine_turn s (Up_lose k) p h = fine_up s (without k s.up) (each_without _ k s.up h.digits) (each_without _ k s.up h.nulls) (up_without k s.up h.up) (λ a. each_without OwnUp k s.up a) (each_without _ k s.up h.end_up) h
  fine_turn s (Up_repeat k) p h = fine_up s (doubled k s.up) (each_doubled _ k s.up h.digits) (each_doubled _ k s.up h.nulls) (up_doubled k s.up h.up) (λ a. each_doubled OwnUp k s.up a) (each_doubled _ k s.up h.end_up) h
  fine_turn s (Down_lose k) p h = fine_down s (without k s.down) (down_without s.up k s.down h.down) (each_without _ k s.down h.end_down) (each_without _ k s.down h.keeps) h
  fine_turn s (Down_repeat k) p h = fine_down s (doubled k s.down) (down_doubled s.up k s.down h.down) (each_doubled _ k s.down h.end_down) (each_doubled _ k s.down h.keeps) h
  fine_turn s Anew p h = fine_state s (ends.restarted s.state) (is.starts_good s.state h.good) (forgets_ok s.state (ends.restarted s.state) (is.starts s.state h.good)) h
  fine_turn s (Changes state) p h = fine_state s state p.0 (forgets_ok s.state state (inr p.1)) h

  -- each step keeps the invariant
  fine_step : (s : SyncModel State) (t : SyncHarm State) → MaySyncHarm ends Good kept s t → TellsStruck s t → Fine s → Fine (sync_harms ends s t)
  fine_step s (Does turn) p d h = fine_turn s turn p h
  fine_step s (Damages line) p d h = fine_left s (heard line) h
  fine_step s (Strikes id call) p d h =
      fine_state s (ends.handed s.state id call).state (is.stays_good s.state id call h.good p) (struck_ok s.state id call h.good p (d id call refl)) h

  -- After the own reply to the eighth null procedure.

  -- the eighth null procedure reaches the instrument
  done_reaches : (s : SyncModel State) (up : List (InFlight Request)) → s.up ≡ up → Done s → Done (reaches ends s up)
  done_reaches s [] e h = h
  done_reaches s (x ∷ rest) e h =
      let u = subst (λ u. AllByRecursion (λ x. (x.old ≡ false) × (x.line ≡ eighth_null)) u) e h.up in
      let id : x.line.id ≡ 7 = ap (λ (r : Request). r.id) u.0.1 in
      let call : x.line.call ≡ Table NullProc = ap (λ (r : Request). r.call) u.0.1 in
      let small : x.line.id < 8 = omega (arith, id) in
      record {
        good = is.stays_good s.state x.line.id x.line.call h.good small;
        left = h.left;
        up = u.1;
        down = all_append OwnDown s.down _ h.down ((u.0.0, reply_id s.state x.line h.good small ∙ ap Some id), tt);
        keeps = seven_ok s.state x.line.id x.line.call h.good small id call;
      }

  -- a reply comes
  done_comes : (s : SyncModel State) (down : List (InFlight (List ℕ))) → s.down ≡ down → Done s → Done (comes s down)
  done_comes s [] e h = h
  done_comes s (x ∷ rest) e h =
      record { good = h.good; left = ap (λ l. left_by l (heard x.line)) h.left; up = h.up; down = (subst (λ d. AllByRecursion OwnDown d) e h.down).1; keeps = h.keeps }

  -- nothing is asked for any more
  done_asks : (s : SyncModel State) (left : List ℕ) → s.left ≡ left → Done s → Done (asks s left)
  done_asks s [] e h = h
  done_asks s (w ∷ ws) e h = absurd (not_nil (sym e ∙ h.left)) where
    -- a list with an element isn't empty
    not_nil : w ∷ ws ≡ [] → ⊥
    not_nil g = cc

  -- each turn keeps it done
  done_turn : (s : SyncModel State) (t : SyncTurn State) → IsTurn Good kept s t → Done s → Done (turns ends s t)
  done_turn s Asks p h = done_asks s s.left refl h
  done_turn s Comes p h = done_comes s s.down refl h
  done_turn s (Foreign line) p h = record { good = h.good; left = ap (λ l. left_by l (heard line)) h.left; up = h.up; down = h.down; keeps = h.keeps }
  done_turn s Reaches p h = done_reaches s s.up refl h
  done_turn s (Up_lose k) p h = record { good = h.good; left = h.left; up = each_without _ k s.up h.up; down = h.down; keeps = h.keeps }
  done_turn s (Up_repeat k) p h = record { good = h.good; left = h.left; up = each_doubled _ k s.up h.up; down = h.down; keeps = h.keeps }
  done_turn s (Down_lose k) p h = record { good = h.good; left = h.left; up = h.up; down = each_without _ k s.down h.down; keeps = h.keeps }
  done_turn s (Down_repeat k) p h = record { good = h.good; left = h.left; up = h.up; down = each_doubled _ k s.down h.down; keeps = h.keeps }
  done_turn s Anew p h = record { good = is.starts_good s.state h.good; left = h.left; up = h.up; down = h.down; keeps = forgets_ok s.state (ends.restarted s.state) (is.starts s.state h.good) h.keeps }
  done_turn s (Changes state) p h = record { good = p.0; left = h.left; up = h.up; down = h.down; keeps = forgets_ok s.state state (inr p.1) h.keeps }

  -- each step keeps it done
  done_step : (s : SyncModel State) (t : SyncHarm State) → MaySyncHarm ends Good kept s t → TellsStruck s t → Done s → Done (sync_harms ends s t)
  done_step s (Does turn) p d h = done_turn s turn p h
  done_step s (Damages line) p d h = record { good = h.good; left = ap (λ l. left_by l (heard line)) h.left; up = h.up; down = h.down; keeps = h.keeps }
  done_step s (Strikes id call) p d h =
      record { good = is.stays_good s.state id call h.good p; left = h.left; up = h.up; down = h.down; keeps = struck_ok s.state id call h.good p (d id call refl) h.keeps }

  -- the own reply to the eighth null procedure comes
  done_now : (s : SyncModel State) (x : InFlight (List ℕ)) (rest : List (InFlight (List ℕ))) → s.down ≡ x ∷ rest → s.left ≡ 7 ∷ [] → OwnDown x → Fine s → Done (comes s (x ∷ rest))
  done_now s x rest e l o h =
      let b = (subst (λ d. DownBehind s.up d) e h.down).0 o in
      record {
        good = h.good;
        left = ap (λ l. left_by l (heard x.line)) l ∙ ap (λ i. left_by (7 ∷ []) i) o.1;
        up = both s.up b.1 h.nulls;
        down = b.0;
        keeps = (subst (λ d. AllByRecursion (λ x. OwnDown x → KeptOk s.state) d) e h.keeps).0 o;
      }
    where
      -- an own request with the id 7 is the eighth null procedure
      both : (xs : List (InFlight Request)) → AllByRecursion OwnUp xs → AllByRecursion (λ x. x.old ≡ false → x.line.call ≡ Table NullProc) xs
          → AllByRecursion (λ x. (x.old ≡ false) × (x.line ≡ eighth_null)) xs
      both [] a n = tt
      both (y ∷ ys) a n = ((a.0.0, whole y.line a.0.1 (n.0 a.0.0)), both ys a.1 n.1) where
        -- a request is its id and its call
        whole : (r : Request) → r.id ≡ 7 → r.call ≡ Table NullProc → r ≡ eighth_null
        whole r i c = ap (λ id. record { id = id; call = r.call }) i ∙ ap (λ call. record { id = 7; call = call }) c

  -- what is to be known of these steps
  abbrev pub AllTellStruck : List (SyncHarm State) → SyncModel State → Type 0
  AllTellStruck [] s = Unit {0}
  AllTellStruck (t ∷ ts) s = TellsStruck s t × AllTellStruck ts (sync_harms ends s t)

  -- steps after that
  done_all : (ts : List (SyncHarm State)) (s : SyncModel State) → AllMaySyncHarm ends Good kept ts s → AllTellStruck ts s → Done s → Done (sync_harmed ends ts s)
  done_all [] s p d h = h
  done_all (t ∷ ts) s p d h = done_all ts (sync_harms ends s t) p.1 d.1 (done_step s t p.0 d.0 h)

  -- steps before that, and then the reply, and then others
  pub done_from : (front later : List (SyncHarm State)) (s : SyncModel State) → AllMaySyncHarm ends Good kept (front ++ Does Comes ∷ later) s → AllTellStruck (front ++ Does Comes ∷ later) s
      → (x : InFlight (List ℕ)) (rest : List (InFlight (List ℕ))) → (sync_harmed ends front s).down ≡ x ∷ rest → (sync_harmed ends front s).left ≡ 7 ∷ [] → OwnDown x
      → Fine s → Done (sync_harmed ends (front ++ Does Comes ∷ later) s)
  done_from [] later s p d x rest e l o h =
      done_all later (sync_harms ends s (Does Comes)) p.1 d.1 (subst (λ q. Done (comes s q)) (sym e) (done_now s x rest e l o h))
  done_from (t ∷ front) later s p d x rest e l o h = done_from front later (sync_harms ends s t) p.1 d.1 x rest e l o (fine_step s t p.0 d.0 h)

  -- at the start all is old
  pub fine_begins : (u : UnderWay State) → IsWellFormed Good u → Fine (begins u)
  fine_begins u well =
      record {
        good = well.good;
        digits = digits u.up well.ids;
        nulls = olds u.up;
        is_left = (omega arith, (λ e. absurd (omega (arith, e))), (omega arith, (λ e. absurd (omega (arith, e))), (omega arith, (λ e. absurd (omega (arith, e))), (omega arith, (λ e. absurd (omega (arith, e))), (omega arith, (λ e. absurd (omega (arith, e))), (omega arith, (λ e. absurd (omega (arith, e))), (omega arith, (λ e. absurd (omega (arith, e))), (omega arith, (λ e. refl), tt))))))));
        up = ups u.up;
        down = downs (begins u).up u.down;
        end_up = end_ups u.up;
        end_down = end_downs u.down;
        keeps = keep u.down;
      }
    where
      -- of the requests, all of which are old
      digits : (xs : List Request) → AllByRecursion (λ x. x.id < 8) xs → AllByRecursion (λ x. x.line.id < 8) (map marked xs)
      digits [] h = tt
      digits (x ∷ xs) h = (h.0, digits xs h.1)

      -- none of them is of this synchronization
      olds : (xs : List Request) → AllByRecursion (λ x. x.old ≡ false → x.line.call ≡ Table NullProc) (map marked xs)
      olds [] = tt
      olds (x ∷ xs) = ((λ e. absurd (true≢false e)), olds xs)

      -- so each is as `UpBehind` says
      ups : (xs : List Request) → UpBehind (map marked xs)
      ups [] = tt
      ups (x ∷ xs) = ((λ o. absurd (true≢false o.0)), ups xs)

      -- and none shows that the end is reached
      end_ups : (xs : List Request) → AllByRecursion (λ x. OwnUp x → AtEnd the_word) (map marked xs)
      end_ups [] = tt
      end_ups (x ∷ xs) = ((λ o. absurd (true≢false o.0)), end_ups xs)

      -- of the replies, all of which are old
      downs : (up : List (InFlight Request)) (xs : List (List ℕ)) → DownBehind up (map marked xs)
      downs up [] = tt
      downs up (x ∷ xs) = ((λ o. absurd (true≢false o.0)), downs up xs)

      -- none of them shows that the end is reached
      end_downs : (xs : List (List ℕ)) → AllByRecursion (λ x. OwnDown x → AtEnd the_word) (map marked xs)
      end_downs [] = tt
      end_downs (x ∷ xs) = ((λ o. absurd (true≢false o.0)), end_downs xs)

      -- and none says what is kept
      keep : (xs : List (List ℕ)) → AllByRecursion (λ x. OwnDown x → KeptOk u.state) (map marked xs)
      keep [] = tt
      keep (x ∷ xs) = ((λ o. absurd (true≢false o.0)), keep xs)

module _ {State : Type 0} (ends : Ends State) (Good : State → Type 0) (kept : State → Option KeptReply) (is : IsAnInstrument ends Good kept) where
  -- one step more
  sync_push : (front : List (SyncHarm State)) (t : SyncHarm State) (s : SyncModel State) → sync_harmed ends (front ++ t ∷ []) s ≡ sync_harms ends (sync_harmed ends front s) t
  sync_push [] t s = refl
  sync_push (x ∷ front) t s = sync_push front t (sync_harms ends s x)

  -- if the eighth null procedure is answered by its own reply, the synchronization is clean but for a kept reply that is damaged
  pub own_eighth_is_clean : (u : UnderWay State) (ts : List (SyncHarm State)) → IsWellFormed Good u → AllMaySyncHarm ends Good kept ts (begins u) → OwnEighthComes ends u ts
      → IsCleanButStruck ends Good kept u ts (sync_harmed ends ts (begins u))
  own_eighth_is_clean u ts well p o =
      let made_for = all_known ts [] refl in
      let done = subst (λ l. Done ends Good kept is (λ line. WasStruck ends u ts line) (sync_harmed ends l (begins u))) (sym o.split)
      (done_from ends Good kept is (λ line. WasStruck ends u ts line) o.front o.later (begins u) (subst (λ l. AllMaySyncHarm ends Good kept l (begins u)) o.split p)
      (subst (λ l. AllTellStruck ends Good kept is (λ line. WasStruck ends u ts line) l (begins u)) o.split made_for) o.reply o.rest o.next o.alone (o.own, o.id) (fine_begins ends Good kept is (λ line. WasStruck ends u ts line) u well)) in
      record { good = done.good; up = done.up; down = done.down; keeps = done.keeps }
    where
      -- what is made of such a request at one of these steps
      all_known : (later front : List (SyncHarm State)) → ts ≡ front ++ later → AllTellStruck ends Good kept is (λ line. WasStruck ends u ts line) later (sync_harmed ends front (begins u))
      all_known [] front e = tt
      all_known (t ∷ later) front e = (
        (λ id call same. record { front = front; later = later; at_id = id; call = call; split = e ∙ ap (λ k. front ++ k ∷ later) same; reply = refl }),
        subst (λ s. AllTellStruck ends Good kept is (λ line. WasStruck ends u ts line) later s) (sync_push front t (begins u)) (all_known later (front ++ t ∷ []) (e ∙ sym (append_assoc front (t ∷ []) later))),
      )
