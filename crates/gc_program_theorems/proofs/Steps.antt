-- What happens on a rehearsed line, as steps of what is in flight in the field: requests with their ids, replies, and the
-- instrument.
use Rattle.gc_program_theorems.proofs.Common.{◌≡◌, inl, inr, ℕ, zero, suc, ◌<◌, List, [], ◌∷◌, ◌++◌, length, Option, Some, refl, sym, ◌∙◌, ap, subst, AllByRecursion, AllZip, Act, asked_line, IsAskedFitting, Asked, Table, Raw, IsPlayed, SceneState, scene_restarted, at_moment, UnderWay, MayBecome, KeptReplyReads, scene_handed, scene_kept, Request, without, doubled, scene_is_an_instrument, Lines, Happening, Acts, Reaches, Restarts, Passes, Repeats_up, Repeats_down, Loses_up, Loses_down, Loses_front, HasReached, IsOneLine, IsSentOrLost, Leads, TakesReply, Exchange, exchange_at, exchange_in, exchange_of_front, all_append, every_behind as all_behind}
use Rattle.gc_scenes.proofs.Turns.{one_reply}

-- What is in flight.

-- this is the line of the request, whose id and numbers lie in their types
pub record IsLineOf (r : Request) (line : List ℕ) : Type 0 where
  pub text : line ≡ asked_line (Some r.id) r.call
  pub id : r.id < 8
  pub fits : IsAskedFitting r.call

-- these are the lines of the requests, in order
abbrev pub AreLinesOf : List Request → List (List ℕ) → Type 0
AreLinesOf rs lines = AllZip IsLineOf rs lines

-- these requests and replies in flight, with the instrument in this state
abbrev pub under_way : List Request → List (List ℕ) → SceneState → UnderWay SceneState
under_way up down state = record { up = up; down = down; state = state }

-- what is in flight in the field is what is in flight on the line, with the instrument in the same state; each reply is one
-- line, and what the instrument keeps reads with its id
pub record Holds (u : UnderWay SceneState) (l : Lines) : Type 0 where
  pub up : AreLinesOf u.up l.up
  pub down : u.down ≡ l.down
  pub one : AllByRecursion IsOneLine l.down
  pub state : u.state ≡ l.state
  pub good : KeptReplyReads u.state

-- Steps.

-- one step of the line or of the instrument
pub data Step : Type 0 where
  -- the request in front reaches the instrument
  Reach : Step
  -- the request at this place of those in flight is lost (`Lose_up`), or comes twice (`Repeat_up`)
  Lose_up : (which : ℕ) → Step
  Repeat_up : (which : ℕ) → Step
  -- the reply at this place of those in flight is lost (`Lose_down`), or comes twice (`Repeat_down`)
  Lose_down : (which : ℕ) → Step
  Repeat_down : (which : ℕ) → Step
  -- the instrument restarts
  Start : Step
  -- the instrument's state becomes this one
  Change : (state : SceneState) → Step

-- what is in flight once the front one of these requests, if there is one, reached the instrument
abbrev pub reached : UnderWay SceneState → List Request → UnderWay SceneState
reached u [] = u
reached u (r ∷ rest) = under_way rest (u.down ++ (scene_handed u.state r.id r.call).reply ∷ []) (scene_handed u.state r.id r.call).state

-- what is in flight after a step
abbrev pub stepped : UnderWay SceneState → Step → UnderWay SceneState
stepped u Reach = reached u u.up
stepped u (Lose_up k) = record u { up = without k u.up }
stepped u (Repeat_up k) = record u { up = doubled k u.up }
stepped u (Lose_down k) = record u { down = without k u.down }
stepped u (Repeat_down k) = record u { down = doubled k u.down }
stepped u Start = record u { state = scene_restarted u.state }
stepped u (Change state) = record u { state = state }

-- what is in flight after these steps, in order
abbrev pub all_stepped : List Step → UnderWay SceneState → UnderWay SceneState
all_stepped [] u = u
all_stepped (x ∷ xs) u = all_stepped xs (stepped u x)

-- a step is possible
abbrev pub IsStep : UnderWay SceneState → Step → Type 0
IsStep u (Change state) = MayBecome KeptReplyReads scene_kept u.state state
IsStep u _ = Unit {0}

-- each of these steps is possible when it comes
abbrev pub AreSteps : List Step → UnderWay SceneState → Type 0
AreSteps [] u = Unit {0}
AreSteps (x ∷ xs) u = IsStep u x × AreSteps xs (stepped u x)

-- the exchange of a step, from what is in flight
abbrev pub exchange_of_step : UnderWay SceneState → Step → List Exchange
exchange_of_step u Reach = exchange_in u
exchange_of_step u other = []

-- the exchanges of these steps, in order
abbrev pub exchanges_of_steps : List Step → UnderWay SceneState → List Exchange
exchanges_of_steps [] u = []
exchanges_of_steps (x ∷ xs) u = exchange_of_step u x ++ exchanges_of_steps xs (stepped u x)

-- steps lead from what is in flight in the field to what is in flight on the line, with these exchanges
pub record Steps (u : UnderWay SceneState) (m : Lines) (es : List Exchange) : Type 0 where
  pub steps : List Step
  pub are : AreSteps steps u
  pub same : exchanges_of_steps steps u ≡ es
  pub holds : Holds (all_stepped steps u) m

-- Lists.

-- without the last element, a list with one more at its end is the list
pub without_last : {A : Type 0} (xs : List A) (x : A) → without (length xs) (xs ++ x ∷ []) ≡ xs
without_last [] x = refl
without_last (y ∷ xs) x = ap (λ l. y ∷ l) (without_last xs x)

-- to repeat the last element is to add it once more at the end
pub doubled_last : {A : Type 0} (xs : List A) (x : A) → doubled (length xs) (xs ++ x ∷ []) ≡ (xs ++ x ∷ []) ++ x ∷ []
doubled_last [] x = refl
doubled_last (y ∷ xs) x = ap (λ l. y ∷ l) (doubled_last xs x)

-- the lines of requests, and of one more, are those of the longer list
pub lines_one_more : (rs : List Request) (lines : List (List ℕ)) (r : Request) (line : List ℕ) → AreLinesOf rs lines → IsLineOf r line → AreLinesOf (rs ++ r ∷ []) (lines ++ line ∷ [])
lines_one_more [] [] r line all one = (one, tt)
lines_one_more [] (x ∷ lines) r line all one = absurd all
lines_one_more (s ∷ rs) [] r line all one = absurd all
lines_one_more (s ∷ rs) (x ∷ lines) r line all one = (all.0, lines_one_more rs lines r line all.1 one)

-- what is in flight in the field is what is in flight on the line (`Holds`), also once one more request is, in both
pub holds_one_more : (u : UnderWay SceneState) (l n : Lines) (r : Request) (line : List ℕ) → Holds u l → IsLineOf r line → n ≡ record l { up = l.up ++ line ∷ [] }
    → Holds (under_way (u.up ++ r ∷ []) u.down u.state) n
holds_one_more u l n r line holds of_line more =
    subst (Holds (under_way (u.up ++ r ∷ []) u.down u.state)) (sym more)
    (record { up = lines_one_more u.up l.up r line holds.up of_line; down = holds.down; one = holds.one; state = holds.state; good = holds.good })

-- where `front` and then `line` are the lines of the requests `rs`, these lines and then `line` once more are those of `rs`
-- with the request at some place k doubled
pub lines_twice : (rs : List Request) (front : List (List ℕ)) (line : List ℕ) → AreLinesOf rs (front ++ line ∷ [])
    → (k : ℕ) × AreLinesOf (doubled k rs) ((front ++ line ∷ []) ++ line ∷ [])
lines_twice [] [] line all = absurd all
lines_twice [] (x ∷ front) line all = absurd all
lines_twice (r ∷ []) [] line all = (zero, (all.0, (all.0, tt)))
lines_twice (r ∷ s ∷ rs) [] line all = absurd all.1
lines_twice (r ∷ rs) (x ∷ front) line all = let rest = lines_twice rs front line all.1 in (suc rest.0, (all.0, rest.1))

-- what the instrument of the field does with a request is what it does with the request's line
request_played_as_line : (s : SceneState) (r : Request) (line : List ℕ) → IsLineOf r line → IsPlayed s line (scene_handed s r.id r.call).state (Some (scene_handed s r.id r.call).reply)
request_played_as_line s r line is = subst (λ x. IsPlayed s x (scene_handed s r.id r.call).state (Some (scene_handed s r.id r.call).reply)) (sym is.text) (by_call r.call is.fits) where
  -- the lemma above, by whether the call is one of the table
  by_call : (call : Asked) → IsAskedFitting call → IsPlayed s (asked_line (Some r.id) call) (scene_handed s r.id call).state (Some (scene_handed s r.id call).reply)
  by_call (Table call) fits = scene_is_an_instrument.calls s r.id call is.id fits
  by_call (Raw raw) fits = scene_is_an_instrument.raws s r.id raw is.id

-- What happens.

-- there are possible steps that lose all requests, and leave the replies and the state as they are; they have no exchange
lose_all_up : (rs : List Request) (down : List (List ℕ)) (state : SceneState)
    → (xs : List Step) × AreSteps xs (under_way rs down state) × (all_stepped xs (under_way rs down state) ≡ under_way [] down state) × (exchanges_of_steps xs (under_way rs down state) ≡ [])
lose_all_up [] down state = ([], tt, refl, refl)
lose_all_up (r ∷ rs) down state = let rest = lose_all_up rs down state in (Lose_up zero ∷ rest.0, (tt, rest.1), rest.2, rest.3)

-- there are possible steps that lose all replies, and leave the requests and the state as they are; they have no exchange
lose_all_down : (up : List Request) (down : List (List ℕ)) (state : SceneState)
    → (xs : List Step) × AreSteps xs (under_way up down state) × (all_stepped xs (under_way up down state) ≡ under_way up [] state) × (exchanges_of_steps xs (under_way up down state) ≡ [])
lose_all_down up [] state = ([], tt, refl, refl)
lose_all_down up (x ∷ down) state = let rest = lose_all_down up down state in (Lose_down zero ∷ rest.0, (tt, rest.1), rest.2, rest.3)

-- if the instrument goes to a good state (`KeptReplyReads`) by the front request r, and each reply of `down` is one line, steps
-- lead to lines m with that state, with the lines of the requests `rs` behind r, and with the replies of `down` once the reply
-- to r was sent on its way or lost at once (`IsSentOrLost`)
sends_out : (rs : List Request) (down : List (List ℕ)) (s : SceneState) (r : Request) (m : Lines) → m.state ≡ (scene_handed s r.id r.call).state
    → KeptReplyReads (scene_handed s r.id r.call).state → AreLinesOf rs m.up → AllByRecursion IsOneLine down
    → IsSentOrLost down (Some (scene_handed s r.id r.call).reply) m.down → Steps (under_way (r ∷ rs) down s) m (exchange_of_front s (r ∷ rs))
sends_out rs down s r m state good lines one (inl lost) = record {
  steps = Reach ∷ Lose_down (length down) ∷ [];
  are = (tt, (tt, tt));
  same = refl;
  holds = record {
    up = lines;
    down = without_last down (scene_handed s r.id r.call).reply ∙ sym lost;
    one = subst (AllByRecursion IsOneLine) (sym lost) one;
    state = sym state;
    good = good;
  };
}
sends_out rs down s r m state good lines one (inr out) = record {
  steps = Reach ∷ [];
  are = (tt, tt);
  same = refl;
  holds = record {
    up = lines;
    down = sym out.1;
    one = subst (AllByRecursion IsOneLine) (sym out.1) (all_append IsOneLine down ((scene_handed s r.id r.call).reply ∷ []) one (out.0, tt));
    state = sym state;
    good = good;
  };
}

-- exchanges with the same parts are the same
same_exchange : (request line : List ℕ) (before first after last : SceneState) (reply sent : Option (List ℕ)) → request ≡ line → before ≡ first → after ≡ last → reply ≡ sent
    → ◌≡◌ {A = Exchange} (record { request = request; before = before; after = after; reply = reply }) (record { request = line; before = first; after = last; reply = sent })
same_exchange request line before first after last reply sent same_line same_before same_after same_reply =
    ap (λ x. record { request = x; before = before; after = after; reply = reply }) same_line
    ∙ ap (λ x. record { request = line; before = x; after = after; reply = reply }) same_before
    ∙ ap (λ x. record { request = line; before = first; after = x; reply = reply }) same_after
    ∙ ap (λ x. record { request = line; before = first; after = last; reply = x }) same_reply

-- where the front line reaches the instrument (`HasReached`), steps of what is in flight in the field lead to the lines after
-- that, with that exchange
reaches_by_steps : (rs : List Request) (down : List (List ℕ)) (s : SceneState) (l m : Lines) → Holds (under_way rs down s) l → (h : HasReached l m) → Steps (under_way rs down s) m (exchange_at l Reaches m h)
reaches_by_steps [] down s l m holds h = absurd (subst (AreLinesOf []) h.front holds.up)
reaches_by_steps (r ∷ rs) down s l m holds h =
    subst (Steps (under_way (r ∷ rs) down s) m) did
    (sends_out rs down s r m same.0 (scene_is_an_instrument.instrument.stays_good s r.id r.call holds.good lines.0.id) lines.1
    (subst (AllByRecursion IsOneLine) (sym holds.down) holds.one)
    (subst (λ x. IsSentOrLost x (Some (scene_handed s r.id r.call).reply) m.down) (sym holds.down) (subst (λ x. IsSentOrLost l.down x m.down) same.1 h.plays.sends))) where
      -- the lines of the requests in flight are the front line and those behind it
      lines : AreLinesOf (r ∷ rs) (h.line ∷ m.up)
      lines = subst (AreLinesOf (r ∷ rs)) h.front holds.up

      -- the instrument plays the front line
      played : IsPlayed s h.line m.state h.plays.reply
      played = subst (λ x. IsPlayed x h.line m.state h.plays.reply) (sym holds.state) h.plays.played

      -- what it makes of the line is what the instrument of the field makes of the request
      same : (m.state ≡ (scene_handed s r.id r.call).state) × (h.plays.reply ≡ Some (scene_handed s r.id r.call).reply)
      same = one_reply s m.state (scene_handed s r.id r.call).state h.line h.plays.reply (Some (scene_handed s r.id r.call).reply) played (request_played_as_line s r h.line lines.0)

      -- so the exchange in the field is the one that happened
      did : exchange_of_front s (r ∷ rs) ≡ exchange_at l Reaches m h
      did =
          ap (λ e. e ∷ []) (same_exchange (asked_line (Some r.id) r.call) h.line s l.state (scene_handed s r.id r.call).state m.state (Some (scene_handed s r.id r.call).reply) h.plays.reply
          (sym lines.0.text) holds.state (sym same.0) (sym same.1))

-- what is in flight in the field is what is in flight on the line (`Holds`), also without the front reply in both: `down` are
-- the replies behind it
pub holds_one_less : (u : UnderWay SceneState) (down : List (List ℕ)) (l : Lines) (line : List ℕ) (n : Lines) → Holds u l → TakesReply l line n → down ≡ n.down
    → Holds (under_way u.up down u.state) n
holds_one_less u down l line n holds takes is =
    subst (Holds (under_way u.up down u.state)) (sym takes.others)
    (record { up = holds.up; down = is; one = (subst (AllByRecursion IsOneLine) takes.front holds.one).1; state = holds.state; good = holds.good })

-- what is in flight in the field is what is in flight on the line (`Holds`), also once the front reply is lost in both
pub holds_dropped : (u : UnderWay SceneState) (l : Lines) (line : List ℕ) (n : Lines) → Holds u l → TakesReply l line n → Holds (stepped u (Lose_down zero)) n
holds_dropped u l line n holds takes = holds_one_less u (without zero u.down) l line n holds takes (ap (without zero) (holds.down ∙ takes.front))

-- what happens on the line, and is no act, happens by steps, with its exchange
pub happens_by_steps : (u : UnderWay SceneState) (l m : Lines) (h : Happening) → ((act : Act) → h ≡ Acts act → ⊥) → Holds u l → (does : Leads l h m) → Steps u m (exchange_at l h m does)
happens_by_steps u l m (Acts act) never holds leads = absurd (never act refl)
happens_by_steps u l m Reaches never holds leads = reaches_by_steps u.up u.down u.state l m holds leads
happens_by_steps u l m Restarts never holds leads = record {
  steps = Start ∷ [];
  are = (tt, tt);
  same = refl;
  holds = subst (Holds (stepped u Start)) (sym leads)
      (record { up = holds.up; down = holds.down; one = holds.one; state = ap scene_restarted holds.state; good = scene_is_an_instrument.instrument.starts_good u.state holds.good });
}
happens_by_steps u l m (Passes moment) never holds leads = record {
  steps = Change (at_moment moment u.state) ∷ [];
  are = (scene_is_an_instrument.passes u.state moment holds.good, tt);
  same = refl;
  holds = subst (Holds (stepped u (Change (at_moment moment u.state)))) (sym leads)
      (record { up = holds.up; down = holds.down; one = holds.one; state = ap (at_moment moment) holds.state; good = (scene_is_an_instrument.passes u.state moment holds.good).0 });
}
happens_by_steps u l m Repeats_up never holds leads =
    let twice = leads.1 in
    let lines = lines_twice u.up twice.0 twice.1 (subst (AreLinesOf u.up) twice.2 holds.up) in
    record {
      steps = Repeat_up lines.0 ∷ [];
      are = (tt, tt);
      same = refl;
      holds = subst (Holds (stepped u (Repeat_up lines.0))) (sym leads.2) (record {
        up = subst (AreLinesOf (doubled lines.0 u.up)) (ap (λ q. q ++ twice.1 ∷ []) (sym twice.2) ∙ sym twice.3) lines.1;
        down = holds.down;
        one = holds.one;
        state = holds.state;
        good = holds.good;
      });
    }
happens_by_steps u l m Repeats_down never holds leads =
    let twice = leads.1 in
    let ones = subst (AllByRecursion IsOneLine) twice.2 holds.one in
    let new : doubled (length twice.0) u.down ≡ leads.0 =
    ap (doubled (length twice.0)) (holds.down ∙ twice.2) ∙ doubled_last twice.0 twice.1 ∙ ap (λ q. q ++ twice.1 ∷ []) (sym twice.2) ∙ sym twice.3 in
    record {
      steps = Repeat_down (length twice.0) ∷ [];
      are = (tt, tt);
      same = refl;
      holds = subst (Holds (stepped u (Repeat_down (length twice.0)))) (sym leads.2) (record {
        up = holds.up;
        down = new;
        one = subst (AllByRecursion IsOneLine) (ap (λ q. q ++ twice.1 ∷ []) (sym twice.2) ∙ sym twice.3)
            (all_append IsOneLine (twice.0 ++ twice.1 ∷ []) (twice.1 ∷ []) ones ((all_behind IsOneLine twice.0 (twice.1 ∷ []) ones).0, tt));
        state = holds.state;
        good = holds.good;
      });
    }
happens_by_steps u l m Loses_up never holds leads =
    let lost = lose_all_up u.up u.down u.state in
    record {
      steps = lost.0;
      are = lost.1;
      same = lost.3;
      holds = subst (λ v. Holds v m) (sym lost.2)
          (subst (Holds (under_way [] u.down u.state)) (sym leads) (record { up = tt; down = holds.down; one = holds.one; state = holds.state; good = holds.good }));
    }
happens_by_steps u l m Loses_down never holds leads =
    let lost = lose_all_down u.up u.down u.state in
    record {
      steps = lost.0;
      are = lost.1;
      same = lost.3;
      holds = subst (λ v. Holds v m) (sym lost.2) (subst (Holds (under_way u.up [] u.state)) (sym leads) (record { up = holds.up; down = refl; one = tt; state = holds.state; good = holds.good }));
    }
happens_by_steps u l m Loses_front never holds leads = record {
  steps = Lose_down zero ∷ [];
  are = (tt, tt);
  same = refl;
  holds = holds_dropped u l leads.0 m holds leads.1;
}
