-- A run, part by part (a part reaches from one synchronization to the next): the records that the client's steps of each part
-- record are those of the run. An act is one call on the link, with its result. Steps of the client are to send, to hear a
-- line, to read the clock and to restart. `BooksInParts` says that these steps, part by part, write the records of a model.
use Rattle.gc_station.proofs.Common.{◌≡◌, ℕ, ◌&&◌, Bool, true, false, List, [], ◌∷◌, ◌++◌, length, map, drop, Option, refl, sym, ◌∙◌, ap, subst, append_assoc, append-nil, nil_from_length, Asked, Step, ById, fresh, lost, Task, Mark, Plan, Act, has_begun, records_of, SyncStep, Part, idle_part, parts_joined, part_of_act, in_front, parts_of, sent_of, turned, loses_all, Record, Model, action_at, waiting_of, with_progress, moved, losing, after, after_all, Runs, with_losses, Reads}
use Rattle.gc_station.proofs.Booking.{Books, books_both, books_nothing, books_restart, sent_of-append_records, restarting}
use Rattle.gc_station.proofs.Counts.{losing_progress}
use Rattle.gc_station.proofs.EachRun.{invariant_after, mid_moved}
use Rattle.gc_station.proofs.Facts.{action_for}
use Rattle.gc_station.proofs.Invariant.{Paired, Invariant}
use Rattle.gc_station.proofs.Parting.{LeadsBy, Leads, leads, keeps_new_client}
use Rattle.gc_station.proofs.Readings.{moved_reads, losing_reads}
use Rattle.gc_station.proofs.Records.{records-none}

-- three parts joined are the same, whether the first two are joined first or the last two
pub joined_assoc : (p q r : Part) → parts_joined (parts_joined p q) r ≡ parts_joined p (parts_joined q r)
joined_assoc p q r =
    ap (λ (sync_steps : List SyncStep). record { sync_steps = sync_steps; steps = (p.steps ++ q.steps) ++ r.steps; marks = (p.marks ++ q.marks) ++ r.marks })
    (append_assoc p.sync_steps q.sync_steps r.sync_steps)
    ∙ ap (λ (steps : List (Step Asked)). record { sync_steps = p.sync_steps ++ (q.sync_steps ++ r.sync_steps); steps = steps; marks = (p.marks ++ q.marks) ++ r.marks })
    (append_assoc p.steps q.steps r.steps)
    ∙ ap (λ (marks : List (Option Mark)). record { sync_steps = p.sync_steps ++ (q.sync_steps ++ r.sync_steps); steps = p.steps ++ (q.steps ++ r.steps); marks = marks })
    (append_assoc p.marks q.marks r.marks)

-- each reply says of its call what `reads` gives
module _ (reads : Reads) (commands : List Task) where
  -- there is a part, and the steps of these parts, from this client, these marks and these records on, lead to the model `end`:
  -- after each part but the last the client restarts, and what is outstanding is recorded as lost
  abbrev pub BooksInParts : ById Asked → List (Option Mark) → List Record → List Part → Model → Type 0
  BooksInParts c ms rs [] end = ⊥
  BooksInParts c ms rs (p ∷ []) end = Books reads commands c ms rs p end.client end.marks (sent_of end.records)
  BooksInParts c ms rs (p ∷ q ∷ ps) end =
      (records : List Record) × Books reads commands c ms rs (parts_joined p restarting) fresh [] records × BooksInParts fresh [] records (q ∷ ps) end

  -- if the part p and a restart lead to a new client, no marks and the records `mid` (`Books`), and `BooksInParts` holds of the
  -- parts `ps` from there on, it holds of p and the parts after it
  follows_cut : (c : ById Asked) (ms : List (Option Mark)) (rs mid : List Record) (p : Part) (ps : List Part) (end : Model)
      → Books reads commands c ms rs (parts_joined p restarting) fresh [] mid → BooksInParts fresh [] mid ps end → BooksInParts c ms rs (p ∷ ps) end
  follows_cut c ms rs mid p [] end h g = absurd g
  follows_cut c ms rs mid p (q ∷ ps) end h g = (mid, h, g)

  -- if the part p leads to the client c1, with its marks and records (`Books`), and `BooksInParts` holds of the parts `ps` from
  -- there on, it holds of these with p joined to the front of the first one
  follows_on : (c c1 : ById Asked) (ms ms1 : List (Option Mark)) (rs rs1 : List Record) (p : Part) (ps : List Part) (end : Model)
      → Books reads commands c ms rs p c1 ms1 rs1 → BooksInParts c1 ms1 rs1 ps end → BooksInParts c ms rs (in_front p false ps) end
  follows_on c c1 ms ms1 rs rs1 p [] end h g = absurd g
  follows_on c c1 ms ms1 rs rs1 p (q ∷ []) end h g = books_both reads commands c c1 end.client ms ms1 end.marks rs rs1 (sent_of end.records) p q h g
  follows_on c c1 ms ms1 rs rs1 p (q ∷ next ∷ ps) end h g =
      let both = books_both reads commands c c1 fresh ms ms1 [] rs rs1 g.0 p (parts_joined q restarting) h g.1 in
      (g.0, subst (λ (x : Part). Books reads commands c ms rs x fresh [] g.0) (sym (joined_assoc p q restarting)) both, g.2)

-- After an act.

-- if each outstanding request has a mark, and all are lost (`all`), the restart of the client leads to the model after the loss
leads_lost : (commands : List Task) (t : Model) (all : Bool) → all ≡ true → Paired t → Leads commands t restarting (losing all t)
leads_lost commands t true is paired =
    subst (λ (rs : List Record). Books t.reads commands t.client t.marks (sent_of t.records) restarting fresh
    (drop (length (map lost t.client.waiting)) t.marks) rs) (sym (sent_of-append_records t.reads t.records t.progress.moment.utc t.marks (map lost t.client.waiting)))
    (books_restart t.reads commands t.client t.marks (sent_of t.records) t.progress.moment.utc paired)
leads_lost commands t false is paired = cc

-- if all outstanding requests are lost, the client is new
pub lost_fresh : (t : Model) (all : Bool) → all ≡ true → (losing all t).client ≡ fresh
lost_fresh t true is = refl
lost_fresh t false is = cc

-- if nothing is lost, the model stays
pub losing_none : (t : Model) (all : Bool) → all ≡ false → losing all t ≡ t
losing_none t true is = cc
losing_none t false is = refl

-- if the client is new, nothing is outstanding, so the part in which nothing happens leads to the marks and the records after the
-- loss of what is outstanding
leads_idle : (reads : Reads) (commands : List Task) (c : ById Asked) (ms : List (Option Mark)) (rs : List Record) (utc : ℕ) → c ≡ fresh
    → Books reads commands c ms (sent_of rs) idle_part fresh (drop (length (map lost c.waiting)) ms) (sent_of (rs ++ records_of reads utc ms (map lost c.waiting)))
leads_idle reads commands c ms rs utc is =
    subst (λ (d : ById Asked). Books reads commands d ms (sent_of rs) idle_part fresh (drop (length (map lost d.waiting)) ms) (sent_of (rs ++ records_of reads utc ms (map lost d.waiting)))) (sym is)
    (subst (λ (l : List Record). Books reads commands fresh ms (sent_of rs) idle_part fresh ms (sent_of l))
    (sym (ap (λ l. rs ++ l) (records-none reads utc ms) ∙ append-nil rs)) (books_nothing reads commands fresh ms (sent_of rs)))

-- if the client is new, a loss of what is outstanding leads on by the part in which nothing happens
idle_lost : (commands : List Task) (t : Model) (all : Bool) → t.client ≡ fresh → Leads commands t idle_part (losing all t)
idle_lost commands t true is = leads_idle t.reads commands t.client t.marks t.records t.progress.moment.utc is
idle_lost commands t false is = books_nothing t.reads commands t.client t.marks (sent_of t.records)

-- a part with nothing after it is that part
joined_nothing : (p : Part) → parts_joined p idle_part ≡ p
joined_nothing p =
    ap (λ (sync_steps : List SyncStep). record { sync_steps = sync_steps; steps = p.steps ++ []; marks = p.marks ++ [] }) (append-nil p.sync_steps)
    ∙ ap (λ (steps : List (Step Asked)). record { sync_steps = p.sync_steps; steps = steps; marks = p.marks ++ [] }) (append-nil p.steps)
    ∙ ap (λ (marks : List (Option Mark)). record { sync_steps = p.sync_steps; steps = p.steps; marks = marks }) (append-nil p.marks)

-- `Leads` gives `LeadsBy` with the model's own readings
leads_by : (reads : Reads) (commands : List Task) (s : Model) (p : Part) (t : Model) → s.reads ≡ reads → Leads commands s p t → LeadsBy reads commands s p t
leads_by reads commands s p t is h = subst (λ (r : Reads). LeadsBy r commands s p t) is h

module _ (plan : Plan) (commands : List Task) (reads : Reads) where
  -- if `LeadsBy` holds from s to t, and the client of t is new, as while the station synchronizes, `LeadsBy` holds from s to the
  -- model after the loss, too
  leads_to_with_losses : (s : Model) (p : Part) (t : Model) → t.reads ≡ reads → t.client ≡ fresh → LeadsBy reads commands s p t → LeadsBy reads commands s p (with_losses t)
  leads_to_with_losses s p t same is h =
      let u = with_losses t in
      subst (λ (x : Part). LeadsBy reads commands s x u) (joined_nothing p)
      (books_both reads commands s.client t.client u.client s.marks t.marks u.marks (sent_of s.records) (sent_of t.records) (sent_of u.records) p idle_part h
      (leads_by reads commands t idle_part u same (idle_lost commands t (loses_all t.progress) is)))

  -- an act leads from the model s to t, before what is outstanding is lost, by its part p; while the station synchronizes, by p
  -- also to the model after the loss. `Invariant` holds after the act, and each outstanding request of t has a mark
  record LeadsOn (s : Model) (p : Part) (t : Model) : Type 0 where
    same_reads : t.reads ≡ reads
    fine : Invariant plan commands (with_losses t)
    paired : Paired t
    led : LeadsBy reads commands s p t
    led_idle : has_begun s.progress ≡ false → LeadsBy reads commands s p (with_losses t)

  -- where `LeadsOn` holds of an act's part p, and the parts `ps` of later acts lead from the model after the act to `end`, p
  -- and `ps` lead from s to `end` (`BooksInParts`). p is a part of its own if the station had synchronized and all that is
  -- outstanding is lost, and else the front of the first part of `ps`
  follows_act : (s : Model) (p : Part) (t : Model) (ps : List Part) (end : Model) (begun lost_all : Bool) → (is_begun : has_begun s.progress ≡ begun) → (is_lost : loses_all t.progress ≡ lost_all)
      → LeadsOn s p t → (let u = with_losses t in BooksInParts reads commands u.client u.marks (sent_of u.records) ps end)
      → BooksInParts reads commands s.client s.marks (sent_of s.records) (in_front p (begun && lost_all) ps) end
  follows_act s p t ps end false lost_all w l a others =
      let u = with_losses t in
      follows_on reads commands s.client u.client s.marks u.marks (sent_of s.records) (sent_of u.records) p ps end (a.led_idle w) others
  follows_act s p t ps end true false w l a others =
      let kept = losing_none t (loses_all t.progress) l in
      follows_on reads commands s.client t.client s.marks t.marks (sent_of s.records) (sent_of t.records) p ps end a.led
      (subst (λ (u : Model). BooksInParts reads commands u.client u.marks (sent_of u.records) ps end) kept others)
  follows_act s p t ps end true true w l a others =
      let u = with_losses t in
      let new : u.client ≡ fresh = lost_fresh t (loses_all t.progress) l in
      let none : u.marks ≡ [] = nil_from_length u.marks (a.fine.paired ∙ ap (λ (c : ById Asked). length c.waiting) new) in
      let lost_here = leads_by reads commands t restarting u a.same_reads (leads_lost commands t (loses_all t.progress) l a.paired) in
      let both = books_both reads commands s.client t.client u.client s.marks t.marks u.marks (sent_of s.records) (sent_of t.records) (sent_of u.records) p restarting a.led lost_here in
      follows_cut reads commands s.client s.marks (sent_of s.records) (sent_of u.records) p ps end
      (subst (λ (ms : List (Option Mark)). Books reads commands s.client s.marks (sent_of s.records) (parts_joined p restarting) fresh ms (sent_of u.records)) none
      (subst (λ (c : ById Asked). Books reads commands s.client s.marks (sent_of s.records) (parts_joined p restarting) c u.marks (sent_of u.records)) new both))
      (subst (λ (ms : List (Option Mark)). BooksInParts reads commands fresh ms (sent_of u.records) ps end) none
      (subst (λ (c : ById Asked). BooksInParts reads commands c u.marks (sent_of u.records) ps end) new others))

  -- the client's steps of the parts of acts, from the model s on, lead to the model after these acts (`BooksInParts`)
  pub follows : (s : Model) (acts : List Act) → s.reads ≡ reads → Invariant plan commands s → Runs plan commands s acts
      → BooksInParts reads commands s.client s.marks (sent_of s.records) (parts_of plan commands s acts) (after_all plan commands s acts)
  follows s [] is_so fine runs = books_nothing reads commands s.client s.marks (sent_of s.records)
  follows s (act ∷ acts) is_so fine runs =
      let o = action_at plan s in
      let is = action_for plan s.progress (waiting_of s) in
      let p = part_of_act plan commands s o act in
      let t = moved plan commands o (with_progress turned s) act in
      let u = after plan commands s act in
      let ps = parts_of plan commands u acts in
      let end = after_all plan commands u acts in
      let later = invariant_after plan commands s act fine in
      let same : t.reads ≡ reads = moved_reads plan commands o (with_progress turned s) act ∙ is_so in
      let h = leads_by reads commands s p t is_so (leads plan commands s o act fine is runs.0) in
      subst (λ b. BooksInParts reads commands s.client s.marks (sent_of s.records) (in_front p (has_begun s.progress && b) ps) end) (sym (ap loses_all (losing_progress (loses_all t.progress) t)))
      (follows_act s p t ps end (has_begun s.progress) (loses_all t.progress) refl refl
      (record {
        same_reads = same;
        fine = later;
        paired = (mid_moved plan commands s o act fine is).0.paired;
        led = h;
        led_idle = λ w. leads_to_with_losses s p t same (keeps_new_client plan commands s o act is runs.0 w (fine.begins w)).0 h;
      })
      (follows u acts (losing_reads (loses_all t.progress) t ∙ same) later runs.1))
