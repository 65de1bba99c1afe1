-- The events on a line, and one more. That acts have come to lines (`HasComeTo`) says that they are the acts of events which lead
-- to these lines.
use Rattle.gc_rehearsal.proofs.Common.{◌≡◌, inl, inr, ℕ, Bool, true, false, List, [], ◌∷◌, ◌++◌, None, refl, sym, ◌∙◌, ap, subst, IfSome, map_push, with_end, Act, Put, Gave, SceneState, scene_restarted, at_moment, Lines, Happening, Acts, Reaches, Restarts, Passes, Repeats_up, Repeats_down, Loses_up, Loses_down, Loses_front, ActLeads, CarriesNothing, Leads, LeadAll, acts_of, HasComeTo, told, texts, lines_of, MayAddLine, MayRepeat, MayHandOver, Flight}
use Rattle.std.proofs.lemmas.List.{append-nil}
use Rattle.gc_links.specs.declared.link.Moment.{Moment}
use Rattle.gc_rehearsal.specs.declared.carried.Traffic.{Traffic}

-- where the events `hs` lead from `l` to `m`, and one more leads from `m` to `n`, all of them lead from `l` to `n`
lead_one_more : (hs : List Happening) (h : Happening) (l m n : Lines) → LeadAll l hs m → Leads m h n → LeadAll l (hs ++ h ∷ []) n
lead_one_more [] h l m n all one = (n, subst (λ x. Leads x h n) all one, refl)
lead_one_more (g ∷ hs) h l m n all one = (all.0, all.1, lead_one_more hs h all.0 m n all.2 one)

-- the acts of events and one more are those of the events, and then that of the last, if it is an act
acts_of_one_more : (hs : List Happening) (h : Happening) → acts_of (hs ++ h ∷ []) ≡ acts_of hs ++ acts_of (h ∷ [])
acts_of_one_more [] h = refl
acts_of_one_more (Acts act ∷ hs) h = ap (λ l. act ∷ l) (acts_of_one_more hs h)
acts_of_one_more (Reaches ∷ hs) h = acts_of_one_more hs h
acts_of_one_more (Restarts ∷ hs) h = acts_of_one_more hs h
acts_of_one_more (Passes moment ∷ hs) h = acts_of_one_more hs h
acts_of_one_more (Repeats_up ∷ hs) h = acts_of_one_more hs h
acts_of_one_more (Repeats_down ∷ hs) h = acts_of_one_more hs h
acts_of_one_more (Loses_up ∷ hs) h = acts_of_one_more hs h
acts_of_one_more (Loses_down ∷ hs) h = acts_of_one_more hs h
acts_of_one_more (Loses_front ∷ hs) h = acts_of_one_more hs h

-- these lines in flight, up and down, and the instrument in this state
abbrev pub lines : (up down : List (List ℕ)) → SceneState → Lines
lines up down state = record { up = up; down = down; state = state }

-- where acts have come to the lines `l`, and one more event leads from these to `m`, the acts, and after them that event if it is
-- an act, have come to `m`
one_more_happened : (acts : List Act) (h : Happening) (l m : Lines)
    → HasComeTo acts l → Leads l h m → HasComeTo (acts ++ acts_of (h ∷ [])) m
one_more_happened acts h l m c one = record {
  start = c.start;
  happened = c.happened ++ h ∷ [];
  none = c.none;
  acts_are = acts_of_one_more c.happened h ∙ ap (λ x. x ++ acts_of (h ∷ [])) c.acts_are;
  leads = lead_one_more c.happened h (lines [] [] c.start) l m c.leads one;
}

-- where acts have come to the lines `l`, and one more event, which is no act, leads from these to `m`, the same acts have come to
-- `m`
one_more_unseen : (acts : List Act) (h : Happening) (l m : Lines)
    → acts_of (h ∷ []) ≡ [] → HasComeTo acts l → Leads l h m → HasComeTo acts m
one_more_unseen acts h l m none c one = subst (λ x. HasComeTo x m) (ap (λ x. acts ++ x) none ∙ append-nil acts) (one_more_happened acts h l m c one)

-- where the instrument stores no reply, the empty list of acts has come to the lines with nothing in flight and this instrument
pub nothing_happened : (state : SceneState) → state.base.kept ≡ None → HasComeTo [] (lines [] [] state)
nothing_happened state none = record { start = state; happened = []; none = none; acts_are = refl; leads = refl }

-- a quiet act leads from lines to the same lines
quiet_leads : (act : Act) (l : Lines) → CarriesNothing act → ActLeads l act l
quiet_leads (Put bytes) l q = absurd q
quiet_leads (Gave bytes moment) l q = absurd q
quiet_leads act l q = refl

-- where acts have come to the lines `l`, these acts, and a quiet one after them, have come to `l`
pub quiet_act_noted : (acts : List Act) (act : Act) (l : Lines) → CarriesNothing act → HasComeTo acts l → HasComeTo (acts ++ act ∷ []) l
quiet_act_noted acts act l q c = one_more_happened acts (Acts act) l l c (quiet_leads act l q)

-- where acts have come to the lines `l`, these acts, and a write after them whose bytes don't arrive, have come to `l`
pub put_lost : (acts : List Act) (bytes : List ℕ) (l : Lines) → HasComeTo acts l → HasComeTo (acts ++ Put bytes ∷ []) l
put_lost acts bytes l c = one_more_happened acts (Acts (Put bytes)) l l c (inl refl)

-- where acts have come to lines, these acts, and a write of these bytes after them, have come to the lines after the write: the
-- queue up is the same, or has the written line at its back (`MayAddLine`)
pub put_may_arrive : (acts : List Act) (bytes : List ℕ) (up up' : List Flight) (down : List (List ℕ)) (state : SceneState)
    → MayAddLine up bytes up'
    → HasComeTo acts (lines (texts up) down state) → HasComeTo (acts ++ Put bytes ∷ []) (lines (texts up') down state)
put_may_arrive acts bytes up up' down state (inl same) c =
    subst (λ x. HasComeTo (acts ++ Put bytes ∷ []) (lines (texts x) down state)) (sym same) (put_lost acts bytes (lines (texts up) down state) c)
put_may_arrive acts bytes up up' down state (inr x) c =
    let l = lines (texts up) down state in
    let new = ap texts x.2 ∙ map_push (λ (f : Flight). f.line.items) up x.0 in
    one_more_happened acts (Acts (Put bytes)) l (lines (texts up') down state) c (inr (x.0.line.items, x.1, ap (λ q. lines q down state) new))

-- acts that have come to lines have also come to those in which the last request may be there twice (`MayRepeat`)
pub repeats_up : (acts : List Act) (up up' : List Flight) (down : List (List ℕ)) (state : SceneState) → MayRepeat up up'
    → HasComeTo acts (lines (texts up) down state) → HasComeTo acts (lines (texts up') down state)
repeats_up acts up up' down state (inl same) c = subst (λ x. HasComeTo acts (lines (texts x) down state)) (sym same) c
repeats_up acts up up' down state (inr x) c =
    one_more_unseen acts Repeats_up (lines (texts up) down state) (lines (texts up') down state) refl c (texts up', x, refl)

-- acts that have come to lines have also come to those in which the last reply may be there twice (`MayRepeat`)
pub repeats_down : (acts : List Act) (up : List (List ℕ)) (down down' : List Flight) (state : SceneState) → MayRepeat down down'
    → HasComeTo acts (lines up (texts down) state) → HasComeTo acts (lines up (texts down') state)
repeats_down acts up down down' state (inl same) c = subst (λ x. HasComeTo acts (lines up (texts x) state)) (sym same) c
repeats_down acts up down down' state (inr x) c =
    one_more_unseen acts Repeats_down (lines up (texts down) state) (lines up (texts down') state) refl c (texts down', x, refl)

-- acts that have come to lines have also come to those without the requests in flight
pub loses_up : (acts : List Act) (up up' : List (List ℕ)) (down : List (List ℕ)) (state : SceneState)
    → up' ≡ [] → HasComeTo acts (lines up down state) → HasComeTo acts (lines up' down state)
loses_up acts up up' down state none c =
    one_more_unseen acts Loses_up (lines up down state) (lines up' down state) refl c (ap (λ q. lines q down state) none)

-- acts that have come to lines have also come to those without the replies in flight
pub loses_down : (acts : List Act) (up down down' : List (List ℕ)) (state : SceneState)
    → down' ≡ [] → HasComeTo acts (lines up down state) → HasComeTo acts (lines up down' state)
loses_down acts up down down' state none c =
    one_more_unseen acts Loses_down (lines up down state) (lines up down' state) refl c (ap (λ q. lines up q state) none)

-- acts that have come to lines have also come to those with the instrument restarted
pub restarts_instrument : (acts : List Act) (up down : List (List ℕ)) (state state' : SceneState)
    → state' ≡ scene_restarted state → HasComeTo acts (lines up down state) → HasComeTo acts (lines up down state')
restarts_instrument acts up down state state' is c =
    one_more_unseen acts Restarts (lines up down state) (lines up down state') refl c (ap (λ s. lines up down s) is)

-- acts that have come to lines have also come to those with the instrument's clock set to a moment
pub sets_clock : (acts : List Act) (moment : ℕ) (up down : List (List ℕ)) (state state' : SceneState) → state' ≡ at_moment moment state
    → HasComeTo acts (lines up down state) → HasComeTo acts (lines up down state')
sets_clock acts moment up down state state' is c =
    one_more_unseen acts (Passes moment) (lines up down state) (lines up down state') refl c (ap (λ s. lines up down s) is)

-- acts that have come to lines have also come to those in which the request in front may have been handed to the instrument
-- (`MayHandOver`)
pub hands_front_over : (acts : List Act) (old new : Traffic) → MayHandOver old new → HasComeTo acts (lines_of old) → HasComeTo acts (lines_of new)
hands_front_over acts old new (inl same) c = subst (HasComeTo acts) (sym same) c
hands_front_over acts old new (inr x) c =
    one_more_unseen acts Reaches (lines_of old) (lines_of new) refl c
    (record { line = x.request.line.items; front = ap texts x.front; plays = x.plays })

-- acts that have come to lines have also come to those without the reply in front
pub loses_front : (acts : List Act) (up : List (List ℕ)) (down down' : List Flight) (flight : Flight) (state : SceneState) → down ≡ flight ∷ down'
    → HasComeTo acts (lines up (texts down) state) → HasComeTo acts (lines up (texts down') state)
loses_front acts up down down' flight state front c =
    one_more_unseen acts Loses_front (lines up (texts down) state) (lines up (texts down') state) refl c
    (flight.line.items, record { front = ap texts front; others = refl })

-- where acts have come to lines, the acts and a read of the reply in front, whole with its CR LF, have come to the lines without
-- that reply
pub gives_front : (acts : List Act) (bytes : List ℕ) (moment : Moment)
    (up : List (List ℕ)) (down down' : List Flight) (flight : Flight) (state : SceneState)
    → down ≡ flight ∷ down' → bytes ≡ with_end flight.line.items
    → HasComeTo acts (lines up (texts down) state) → HasComeTo (acts ++ Gave bytes moment ∷ []) (lines up (texts down') state)
gives_front acts bytes moment up down down' flight state front is c =
    one_more_happened acts (Acts (Gave bytes moment)) (lines up (texts down) state) (lines up (texts down') state) c
    (flight.line.items, is, record { front = ap texts front; others = refl })

-- What contracts see.

-- what holds of acts if the link alters no bytes holds of them if they are seen
pub told_if_sure : (alters : Bool) (acts : List Act) (P : List Act → Type 0) → (alters ≡ false → P acts) → IfSome (told alters acts) P
told_if_sure true acts P if_sure = tt
told_if_sure false acts P if_sure = if_sure refl
