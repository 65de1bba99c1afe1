-- What each act is to the client (its part, `Parts`), and what is recorded at it. An act is one call on the link, with its
-- result. Steps of the client are to send, to hear a line, to read the clock and to restart; one of a synchronization is a null
-- procedure that is put, or a line heard, while the station synchronizes. `Leads` says that the steps of a part take the client, the marks and
-- the records of one model to those of another.
use Rattle.gc_station.proofs.Common.{◌≡◌, ℕ, ◌-◌, ◌<◌, Bool, true, false, List, [], ◌∷◌, length, map, drop, Option, if◌then◌else◌, refl, sym, ap, ◌∙◌, ◌++◌, subst, arith, append-nil, if◌then◌else◌, length-map, both_ways, cond_both, rest_behind, Asked, WINDOW, Hear, Expire, ById, fresh, heard, hears, expired, expires, head_of_drop, Task, is_none_left, Moment, Plan, Action, Progress, Until, Act, Told, Gave, has_begun, SyncStep, Part, only_sync_steps, only_steps, idle_part, put_part, first_request_part, heard_steps, client_part, sync_part, part_of_act, sent_of, request_part, turned, HoldsBefore, Record, Mark, Model, waiting_of, Performs, with_progress, with_moment, with_rest, asks_first, unsent_record, first_unsent_record, line_came, lines_came, lines_completed, is_heard, after_piece, after_read, moved, request_for, null_request, request_or_null, asks_for, mark_sent, mark_setup_sent, place_next, mark_next, Reads, filter-append}
use Rattle.std.proofs.Common.{length-drop}
use Rattle.gc_station.proofs.InCycle.{within_window}
use Rattle.gc_station.proofs.Asked.{sync_part_only_sync_steps}
use Rattle.gc_station.proofs.Booking.{Books, books_sync_steps, sent_of-append_records, books_both, books_nothing, books_moment, books_line, books_send}
use Rattle.gc_station.proofs.Invariant.{Paired, Invariant}
use Rattle.gc_station.proofs.Hearing.{hears_paired}
use Rattle.gc_station.proofs.Tasked.{unsent_end}
use Rattle.gc_station.proofs.Walk.{sent_same, walk, piece_before}
use Rattle.gc_station.specs.declared.progress.Action.TheVariants as action

-- the part p takes the client of one model, with its marks and records, to those of another, with these readings of replies
abbrev pub LeadsBy : Reads → List Task → Model → (p : Part) → Model → Type 0
LeadsBy reads commands s p t = Books reads commands s.client s.marks (sent_of s.records) p t.client t.marks (sent_of t.records)

-- `LeadsBy` with the readings of the model s
abbrev pub Leads : List Task → (s : Model) → Part → Model → Type 0
Leads commands s p t = LeadsBy s.reads commands s p t

module _ (plan : Plan) (commands : List Task) where
  -- an act of this action leads from one model to another by the part that `client_part` gives it
  abbrev LeadsByPart : Action → Model → Act → Model → Type 0
  LeadsByPart o s act t = Leads commands s (client_part plan commands s o act) t

  -- if each request that waits has a mark, a line that is heard leads on by the step that hears it
  leads_line : (s : Model) (line : List ℕ) → Paired s → Leads commands s (only_steps (Hear line ∷ [])) (line_came s line)
  leads_line s line paired =
      let x = hears s.client line (heard line) in
      let written = sent_of-append_records s.reads s.records s.progress.moment.utc s.marks x.settlements in
      subst (λ (rs : List Record). Books s.reads commands s.client s.marks (sent_of s.records) (only_steps (Hear line ∷ [])) x.client (drop (length x.settlements) s.marks) rs) (sym written)
      (books_line s.reads commands s.client s.marks (sent_of s.records) s.progress.moment.utc line paired)

  -- if each request that waits has a mark, lines that are heard lead on by the steps that hear them, in order
  leads_lines : (s : Model) (lines : List (List ℕ)) → Paired s → Leads commands s (only_steps (map Hear lines)) (lines_came s lines)
  leads_lines s [] paired = books_nothing s.reads commands s.client s.marks (sent_of s.records)
  leads_lines s (line ∷ others) paired =
      let t = line_came s line in
      let u = lines_came t others in
      books_both s.reads commands s.client t.client u.client s.marks t.marks u.marks (sent_of s.records) (sent_of t.records) (sent_of u.records)
      (only_steps (Hear line ∷ [])) (only_steps (map Hear others))
      (leads_line s line paired)
      (leads_lines t others (hears_paired s.marks s.client line (heard line) paired))

  -- if each request that waits has a mark, and the station has synchronized (no id of `word` is left), a piece leads on by the
  -- steps that hear its lines; by none if it is discarded (`heard` is false)
  leads_came : (heard : Bool) (word piece : List ℕ) (s : Model) → is_none_left word ≡ true → Paired s → Leads commands s (only_steps (heard_steps heard s.rest piece)) (after_piece heard word piece s)
  leads_came true (asked ∷ others) piece s begun paired = cc
  leads_came true [] piece s begun paired = leads_lines (with_rest (rest_behind s.rest piece) s) (lines_completed s.rest piece) paired
  leads_came false word piece s begun paired = books_nothing s.reads commands s.client s.marks (sent_of s.records)

  -- if a moment times requests out, each still has a mark
  paired_told : (s : Model) (m : ℕ) → Paired s → length s.marks ≡ length (map (expired m) s.client.waiting)
  paired_told s m paired = paired ∙ sym (length-map s.client.waiting (expired m))

  -- once the station has synchronized, and if each request that waits has a mark, a read that gave bytes leads on by its part
  leads_gave : (s : Model) (until : Until) (bytes : List ℕ) (m : Moment) → has_begun s.progress ≡ true → Paired s
      → LeadsByPart (action.Read until) s (Gave bytes m) (after_read plan until (with_progress turned s) (Gave bytes m))
  leads_gave s until bytes m begun paired =
      let x = piece_before m s in
      let t = after_piece (is_heard s.progress.phase) s.progress.exchange.word bytes x in
      books_both s.reads commands s.client x.client t.client s.marks s.marks t.marks (sent_of s.records) (sent_of s.records) (sent_of t.records)
      (only_steps (Expire m.elapsed ∷ [])) (only_steps (heard_steps (is_heard s.progress.phase) s.rest bytes))
      (books_moment s.reads commands s.client s.marks (sent_of s.records) m.elapsed)
      (leads_came (is_heard s.progress.phase) s.progress.exchange.word bytes x begun (paired_told s m.elapsed paired))

  -- `left` are the commands from the place of this mark on. The first of them, if there is one and room for it, leads on by the
  -- part of its request once it is sent with the mark
  leads_first : (s : Model) (mark : Mark) (left : List Task) → drop mark.place commands ≡ left → 0 < length left → length s.client.waiting < WINDOW
      → Leads commands s (first_request_part s.progress.moment.elapsed mark left) (asks_first mark left (with_progress turned s))
  leads_first s mark [] at some room = absurd (omega (arith, some))
  leads_first s mark (task ∷ others) at some room =
      books_send s.reads commands s.client s.marks (sent_of s.records) s.progress.moment.elapsed (request_for mark task) room
      (task, head_of_drop commands mark.place task others at, refl)

  -- a null procedure of the station's own, if there is room for it, leads on by the part of its request once it is sent
  leads_null : (s : Model) → length s.client.waiting < WINDOW → Leads commands s (request_part s.progress.moment.elapsed (null_request plan)) (asks_for (null_request plan) s)
  leads_null s room = books_send s.reads commands s.client s.marks (sent_of s.records) s.progress.moment.elapsed (null_request plan) room refl

  -- `left` are the commands from the next place of the setup on. The first of them, or a null procedure if there is none, leads
  -- on by the part of its request once it is sent, if there is room for it
  leads_setup : (s : Model) (left : List Task) → drop s.progress.prepared commands ≡ left → length s.client.waiting < WINDOW
      → Leads commands s (request_part s.progress.moment.elapsed (request_or_null plan (mark_setup_sent commands s) left))
      (asks_for (request_or_null plan (mark_setup_sent commands s) left) (with_progress turned s))
  leads_setup s [] at room = leads_null s room
  leads_setup s (task ∷ others) at room = leads_first s (mark_setup_sent commands s) (task ∷ others) at (omega arith) room

  -- the record of a command that isn't sent isn't among those of commands that were sent
  skips_first_unsent : (p : Progress) (m : Moment) (mark : Mark) (left : List Task) → sent_of (first_unsent_record p m mark left) ≡ []
  skips_first_unsent p m mark [] = refl
  skips_first_unsent p m mark (task ∷ others) = ap (λ (out : Bool). if out then first_unsent_record p m mark (task ∷ others) else []) (unsent_end p)

  -- the record of the next command, if that isn't sent, isn't among those of commands that were sent
  skips_unsent : (s : Model) (m : Moment) → sent_of (unsent_record plan commands s.progress (Told m)) ≡ []
  skips_unsent s m = skips_first_unsent s.progress m (mark_next plan commands s.progress) (drop (place_next commands s.progress) commands)

  -- records of commands that weren't sent add none to those of commands that were
  unsent_add_none : (rs more : List Record) → sent_of more ≡ [] → sent_of (rs ++ more) ≡ sent_of rs
  unsent_add_none rs more none = filter-append _ rs more ∙ ap (λ xs. sent_of rs ++ xs) none ∙ append-nil (sent_of rs)

  -- a model leads to itself by the part in which nothing happens
  leads_idle : (s : Model) → Leads commands s idle_part s
  leads_idle s = books_nothing s.reads commands s.client s.marks (sent_of s.records)

  -- a moment leads on by the step that reads it
  leads_moment : (s : Model) (m : Moment) → Leads commands s (only_steps (Expire m.elapsed ∷ [])) (with_moment m s)
  leads_moment s m = books_moment s.reads commands s.client s.marks (sent_of s.records) m.elapsed

  -- once the station has synchronized, an act of each action leads on by its part, if `Invariant` holds before it, and
  -- `HoldsBefore` of the action
  leads_synchronized : (s : Model) (o : Action) (act : Act) → Invariant plan commands s → HoldsBefore plan s.progress (waiting_of s) o → Performs commands s o act → has_begun s.progress ≡ true
      → LeadsByPart o s act (moved plan commands o (with_progress turned s) act)
  leads_synchronized s action.Open act fine is obeys begun = walk plan commands (LeadsByPart action.Open s) action.Open (with_progress turned s) act obeys (λ m. leads_idle s, λ n. leads_idle s)
  leads_synchronized s action.Clear act fine is obeys begun = walk plan commands (LeadsByPart action.Clear s) action.Clear (with_progress turned s) act obeys (λ m. leads_idle s, λ n. leads_idle s)
  leads_synchronized s action.Ask act fine is obeys begun = absurd (both_ways (has_begun s.progress) is.1 begun)
  leads_synchronized s action.Flush act fine is obeys begun =
      walk plan commands (LeadsByPart action.Flush s) action.Flush (with_progress turned s) act obeys (λ m. leads_null s (within_window _ _ is.4.1), λ n. leads_null s (within_window _ _ is.4.1))
  leads_synchronized s action.Prepare act fine is obeys begun =
      let prepares = leads_setup s (drop s.progress.prepared commands) refl (within_window _ _ is.3.1) in
      walk plan commands (LeadsByPart action.Prepare s) action.Prepare (with_progress turned s) act obeys (λ m. prepares, λ n. prepares)
  leads_synchronized s action.Send act fine is obeys begun =
      let left = drop (place_next commands s.progress) commands in
      let many : length left ≡ length commands - place_next commands s.progress = length-drop (place_next commands s.progress) commands in
      let sends = subst (λ (t : Model). Leads commands s (put_part plan commands s action.Send) t) (sym (sent_same plan commands (with_progress turned s)))
      (leads_first s (mark_sent plan commands s) left refl (omega (arith, many, is.2, fine.unsent)) (within_window _ _ is.3.1)) in
      walk plan commands (LeadsByPart action.Send s) action.Send (with_progress turned s) act obeys (λ m. sends, λ n. sends)
  leads_synchronized s action.Skip act fine is obeys begun =
      let books = Books s.reads commands s.client s.marks (sent_of s.records) in
      walk plan commands (LeadsByPart action.Skip s) action.Skip (with_progress turned s) act obeys (
        λ m. subst (λ (rs : List Record). books (only_steps (Expire m.elapsed ∷ [])) (expires s.client m.elapsed) s.marks rs)
            (sym (unsent_add_none s.records (unsent_record plan commands (turned s.progress) (Told m)) (skips_unsent (with_progress turned s) m))) (leads_moment s m),
        λ n. subst (λ (rs : List Record). books idle_part s.client s.marks rs) (sym (unsent_add_none s.records [] refl)) (leads_idle s),
      )
  leads_synchronized s (action.Read until) act fine is obeys begun =
      walk plan commands (LeadsByPart (action.Read until) s) (action.Read until) (with_progress turned s) act obeys
      (λ bytes m. leads_gave s until bytes m begun fine.paired, λ m. leads_moment s m, leads_idle s, leads_idle s, leads_idle s)
  leads_synchronized s (action.Close why) act fine is obeys begun = walk plan commands (LeadsByPart (action.Close why) s) (action.Close why) (with_progress turned s) act obeys (leads_idle s)
  leads_synchronized s (action.Stop why) act fine is obeys begun = absurd obeys
  leads_synchronized s o act fine is obeys begun = walk plan commands (LeadsByPart o s) o (with_progress turned s) act obeys (λ m. leads_moment s m, λ n. leads_idle s)

  -- While the station synchronizes no step is taken.

  -- the client of the model t is new, and t has the marks and the records of the model s, from before the act
  abbrev KeepsNewClient : (s t : Model) → Type 0
  KeepsNewClient s t = (t.client ≡ fresh) × (t.marks ≡ s.marks) × (sent_of t.records ≡ sent_of s.records)

  -- while the station synchronizes, a piece leaves the client new, and the marks and the records as they are
  keeps_came : (heard : Bool) (word piece : List ℕ) (s : Model) → is_none_left word ≡ false → s.client ≡ fresh
      → KeepsNewClient s (after_piece heard word piece s)
  keeps_came true [] piece s begins new = cc
  keeps_came true (asked ∷ others) piece s begins new = (new, refl, refl)
  keeps_came false word piece s begins new = (new, refl, refl)

  -- a moment times out nothing of a new client, in which no request is outstanding
  new_told : (s : Model) (m : Moment) → s.client ≡ fresh → expires s.client m.elapsed ≡ fresh
  new_told s m new = ap (λ c. expires c m.elapsed) new

  -- while the station synchronizes, an act of each action of which `HoldsBefore` holds leaves a new client new, and the marks and
  -- the records as they are
  pub keeps_new_client : (s : Model) (o : Action) (act : Act) → HoldsBefore plan s.progress (waiting_of s) o → Performs commands s o act → has_begun s.progress ≡ false
      → s.client ≡ fresh → KeepsNewClient s (moved plan commands o (with_progress turned s) act)
  keeps_new_client s action.Renew act is obeys begins new = absurd (both_ways (has_begun s.progress) begins is.1)
  keeps_new_client s action.Begin act is obeys begins new = walk plan commands (λ a. KeepsNewClient s) action.Begin (with_progress turned s) act obeys
      (λ m. (new_told s m new, refl, refl), λ n. (new, refl, refl))
  keeps_new_client s action.Prepare act is obeys begins new = absurd (both_ways (has_begun s.progress) begins is.1)
  keeps_new_client s action.Send act is obeys begins new = absurd (both_ways (has_begun s.progress) begins is.1)
  keeps_new_client s action.Skip act is obeys begins new = walk plan commands (λ a. KeepsNewClient s) action.Skip (with_progress turned s) act obeys (
    λ m. (new_told s m new, refl, unsent_add_none s.records (unsent_record plan commands (turned s.progress) (Told m)) (skips_unsent (with_progress turned s) m)),
    λ n. (new, refl, unsent_add_none s.records [] refl),
  )
  keeps_new_client s action.Pass act is obeys begins new = walk plan commands (λ a. KeepsNewClient s) action.Pass (with_progress turned s) act obeys
      (λ m. (new_told s m new, refl, refl), λ n. (new, refl, refl))
  keeps_new_client s action.Flush act is obeys begins new = absurd (both_ways (has_begun s.progress) begins is.1)
  keeps_new_client s action.ReadClock act is obeys begins new = walk plan commands (λ a. KeepsNewClient s) action.ReadClock (with_progress turned s) act obeys
      (λ m. (new_told s m new, refl, refl), λ n. (new, refl, refl))
  keeps_new_client s (action.Read until) act is obeys begins new =
      walk plan commands (λ a. KeepsNewClient s) (action.Read until) (with_progress turned s) act obeys (
        λ bytes m. keeps_came (is_heard s.progress.phase) s.progress.exchange.word bytes (piece_before m s) begins (new_told s m new),
        λ m. (new_told s m new, refl, refl),
        (new, refl, refl),
        (new, refl, refl),
        (new, refl, refl),
      )
  keeps_new_client s (action.Close why) act is obeys begins new = walk plan commands (λ a. KeepsNewClient s) (action.Close why) (with_progress turned s) act obeys (new, refl, refl)
  keeps_new_client s (action.Stop why) act is obeys begins new = absurd obeys
  keeps_new_client s o act is obeys begins new = walk plan commands (λ a. KeepsNewClient s) o (with_progress turned s) act obeys (λ m. (new, refl, refl), λ n. (new, refl, refl))

  -- steps of a synchronization lead on to a model with the same client, marks and records
  leads_with_same_client : (s : Model) (sync_steps : List SyncStep) (t : Model) → s.client ≡ t.client → s.marks ≡ t.marks → sent_of s.records ≡ sent_of t.records → Leads commands s (only_sync_steps sync_steps) t
  leads_with_same_client s sync_steps t c ms rs =
      let books = Books s.reads commands s.client s.marks (sent_of s.records) (only_sync_steps sync_steps) in
      subst (λ (x : ById Asked). books x t.marks (sent_of t.records)) c
      (subst (λ (x : List (Option Mark)). books s.client x (sent_of t.records)) ms
      (subst (λ (x : List Record). books s.client s.marks x) rs (books_sync_steps s.reads commands s.client s.marks (sent_of s.records) sync_steps)))

  -- while the station synchronizes, an act of each action leads on by its part, if `Invariant` holds before it, and `HoldsBefore`
  -- of the action
  leads_synchronizing : (s : Model) (o : Action) (act : Act) → Invariant plan commands s → HoldsBefore plan s.progress (waiting_of s) o → Performs commands s o act → has_begun s.progress ≡ false
      → Leads commands s (sync_part s o act) (moved plan commands o (with_progress turned s) act)
  leads_synchronizing s o act fine is obeys begins =
      let t = moved plan commands o (with_progress turned s) act in
      let new = fine.begins begins in
      let k = keeps_new_client s o act is obeys begins new in
      subst (λ (p : Part). Leads commands s p t) (sym (sync_part_only_sync_steps s o act)) (leads_with_same_client s (sync_part s o act).sync_steps t (new ∙ sym k.0) (sym k.1) (sym k.2))

  -- an act of each action leads on by its part, if `Invariant` holds before it, and `HoldsBefore` of the action
  pub leads : (s : Model) (o : Action) (act : Act) → Invariant plan commands s → HoldsBefore plan s.progress (waiting_of s) o → Performs commands s o act
      → Leads commands s (part_of_act plan commands s o act) (moved plan commands o (with_progress turned s) act)
  leads s o act fine is obeys =
      cond_both (has_begun s.progress) (client_part plan commands s o act) (sync_part s o act) (λ (p : Part). Leads commands s p (moved plan commands o (with_progress turned s) act))
      (λ begun. leads_synchronized s o act fine is obeys begun) (λ begins. leads_synchronizing s o act fine is obeys begins)
