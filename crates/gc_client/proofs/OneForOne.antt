-- A course is what has come so far: the sends that weren't refused, the settlements, and the client. It accounts for its sends
-- where the settled requests, and after them those that wait, are the requests that were sent. Every course that begins with a
-- new client does.
use Rattle.gc_client.proofs.Common.{◌≡◌, ℕ, zero, suc, ◌+◌, ◌<◌, Bool, true, false, List, [], ◌∷◌, ◌++◌, length, map, drop, Option, Some, None, refl, sym, ap, ◌∙◌, arith, append_assoc, ltb, eqb, map-append, append-nil, Pending, Settled, ById, expired, lost, settle, place, heard, send_unless_full, settles_at, hears, restarts}
use Rattle.gc_client.specs.OneForOne.{Step, Send, Hear, Expire, Restart, Course, of_settled, of_pending, begun, sent_on, settled_on, course_after, course, AccountsForSends}

-- where a request waits at place k, settling through place k settles k + 1 requests
pub length-settle : {Q : Type 0} (k : ℕ) (line : List ℕ) (ps : List (Pending Q)) → k < length ps → length (settle k line ps) ≡ k + 1
length-settle k line [] h = omega arith
length-settle zero line (p ∷ ps) h = refl
length-settle (suc k) line (p ∷ ps) h = ap suc (length-settle k line ps (omega arith)) ∙ omega arith

-- the requests settled through place k, and after them the requests past that place, are those that waited, in order
settle_parts : {Q : Type 0} (k : ℕ) (line : List ℕ) (ps : List (Pending Q))
    → map of_settled (settle k line ps) ++ map of_pending (drop (suc k) ps) ≡ map of_pending ps
settle_parts k line [] = refl
settle_parts zero line (p ∷ ps) = refl
settle_parts (suc k) line (p ∷ ps) = ap (λ qs. of_pending p ∷ qs) (settle_parts k line ps)

-- requests that are lost are settled with their targets and calls
pub lost_parts : {Q : Type 0} (ps : List (Pending Q)) → map of_settled (map lost ps) ≡ map of_pending ps
lost_parts [] = refl
lost_parts (p ∷ ps) = ap (λ qs. of_pending p ∷ qs) (lost_parts ps)

-- after a moment the requests have the targets and calls that they had before it
pub expired_parts : {Q : Type 0} (now : ℕ) (ps : List (Pending Q)) → map of_pending (map (expired now) ps) ≡ map of_pending ps
expired_parts now [] = refl
expired_parts now (p ∷ ps) = ap (λ qs. of_pending p ∷ qs) (expired_parts now ps)

-- `x` accounts for the requests `waiting`, in order: they are those that it settles, and after them those that then wait
abbrev pub AccountsForWaiting : {Q : Type 0} → Settled Q (ById Q) → (waiting : List (Pending Q)) → Type 0
AccountsForWaiting x waiting = map of_settled x.settlements ++ map of_pending x.client.waiting ≡ map of_pending waiting

-- what a reply to place k settles accounts for the requests that waited, whether one waits at that place (b true) or none
reply_parts : {Q : Type 0} (c : ById Q) (line : List ℕ) (k : ℕ) (b : Bool) → AccountsForWaiting (settles_at c line k b) c.waiting
reply_parts c line k false = refl
reply_parts c line k true = ap (λ n. map of_settled (settle k line c.waiting) ++ map of_pending (drop n c.waiting)) (let e : k + 1 ≡ suc k = omega arith in e) ∙ settle_parts k line c.waiting

-- what a line with this id, or without one, settles accounts for the requests that waited
pub heard_parts : {Q : Type 0} (c : ById Q) (line : List ℕ) (o : Option ℕ) → AccountsForWaiting (hears c line o) c.waiting
heard_parts c line None = refl
heard_parts c line (Some id) = reply_parts c line (place c.next (length c.waiting) id) (ltb (place c.next (length c.waiting) id) (length c.waiting))

-- a course that accounts for its sends still does after a send, also after one that is refused (`full`)
sent_keeps : {Q : Type 0} (x : Course Q) (target : ℕ) (call : Q) (deadline : ℕ) (full : Bool) → AccountsForSends x
    → AccountsForSends (sent_on x target call (send_unless_full x.client target call deadline full))
sent_keeps x target call deadline true h = h
sent_keeps x target call deadline false h =
    simp map-append (sym (append_assoc (map of_settled x.settlements) (map of_pending x.client.waiting) _) ∙ ap (λ l. l ++ record { target = target; call = call } ∷ []) h)

-- a course that accounts for its sends still does after a settling that accounts for the requests that waited
settled_keeps : {Q : Type 0} (x : Course Q) (s : Settled Q (ById Q)) → AccountsForWaiting s x.client.waiting → AccountsForSends x
    → AccountsForSends (settled_on x s)
settled_keeps x s parts h = pieces ∙ ap (λ l. map of_settled x.settlements ++ l) parts ∙ h where
  -- all settled requests and those that wait are those settled before, and then those settled now with those that wait
  pieces : map of_settled (x.settlements ++ s.settlements) ++ map of_pending s.client.waiting ≡ map of_settled x.settlements ++ (map of_settled s.settlements ++ map of_pending s.client.waiting)
  pieces = simp (map-append, append_assoc)

-- a course that accounts for its sends still does after any step
step_keeps : {Q : Type 0} (width : ℕ) (x : Course Q) (step : Step Q) → AccountsForSends x → AccountsForSends (course_after width x step)
step_keeps width x (Send target call deadline) h = sent_keeps x target call deadline (eqb (length x.client.waiting) width) h
step_keeps width x (Hear line) h = settled_keeps x (hears x.client line (heard line)) (heard_parts x.client line (heard line)) h
step_keeps width x (Expire now) h = ap (λ l. map of_settled x.settlements ++ l) (expired_parts now x.client.waiting) ∙ h
step_keeps width x Restart h = settled_keeps x (restarts x.client) (append-nil _ ∙ lost_parts x.client.waiting) h

-- a course that accounts for its sends still does after any steps, one after the other
steps_keep : {Q : Type 0} (width : ℕ) (x : Course Q) (steps : List (Step Q)) → AccountsForSends x → AccountsForSends (course width x steps)
steps_keep width x [] h = h
steps_keep width x (step ∷ steps) h = steps_keep width (course_after width x step) steps (step_keeps width x step h)

-- the course of a new client accounts for its sends after any steps
pub accounts_for_sends : {Q : Type 0} (width : ℕ) (steps : List (Step Q)) → AccountsForSends (course width begun steps)
accounts_for_sends width steps = steps_keep width begun steps refl
