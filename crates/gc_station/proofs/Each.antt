-- The records and the outstanding commands are, in order, the commands that had their turn, but for those of attempts that were
-- left out, whatever the link does. A mark says which command an outstanding request is of, or `None` of a null procedure.
use Rattle.gc_station.proofs.Common.{◌≡◌, ℕ, zero, suc, ◌+◌, ◌-◌, ◌<◌, ◌≤◌, nat_eq, List, [], ◌∷◌, ◌++◌, length, take, drop, map, Option, Some, None, ◌⊎◌, inl, inr, refl, sym, ap, ◌∙◌, arith, append_assoc, append-nil, take-add, not, if◌then◌else◌, length-map, length-drop, length-take, map-append, take_all, drop_all, drop-append-le, Asked, Pending, Settlement, expired, Wanted, of_settled, of_pending, expired_parts, Task, Mark, RunRequest, requests, of_task, all_cycles, commands_reached, of_record, of_waiting, still_waiting, of_cycles, of_text, in_text, asked_at, of_command, commands_in, occasion_of, record_of, records_of, with_marks, Record, Reads, filter-append}
use Rattle.gc_station.proofs.Timing.{asked_text, unsent_text}
use Rattle.gc_station.proofs.InCycle.{not_zero}

-- the requests of one cycle for two lists of commands are those of the first list, and after them those of the second, from the
-- next place on
pub requests-append : (cycle place : ℕ) (xs ys : List (Wanted Asked)) → requests cycle place (xs ++ ys) ≡ requests cycle place xs ++ requests cycle (place + length xs) ys
requests-append cycle place [] ys = ap (λ n. requests cycle n ys) (omega arith)
requests-append cycle place (x ∷ xs) ys =
    let one : RunRequest = record { cycle = cycle; place = place; asked = x } in
    let at : (place + 1) + length xs ≡ place + length (x ∷ xs) = omega arith in
    ap (λ rs. one ∷ rs) (requests-append cycle (place + 1) xs ys ∙ ap (λ n. requests cycle (place + 1) xs ++ requests cycle n ys) at)

-- the requests of these marks, one for one with what they ask; a null procedure, which has no mark, gives none
abbrev pub marked : List (Option Mark) → List (Wanted Asked) → List RunRequest
marked ms asks = map (λ (x : Mark × Wanted Asked). record { cycle = x.0.cycle; place = x.0.place; asked = x.1 }) (with_marks ms asks)

-- the outstanding commands are the requests of their marks
pub waiting_marked : (ms : List (Option Mark)) (ws : List (Pending Asked)) → still_waiting ms ws ≡ marked ms (map of_pending ws)
waiting_marked [] ws = refl
waiting_marked (m ∷ ms) [] = refl
waiting_marked (None ∷ ms) (w ∷ ws) = waiting_marked ms ws
waiting_marked (Some mark ∷ ms) (w ∷ ws) = ap (λ rs. of_waiting mark w ∷ rs) (waiting_marked ms ws)

-- the records of settlements are of the requests of their marks
records_marked : (reads : Reads) (utc : ℕ) (ms : List (Option Mark)) (ss : List (Settlement Asked)) → map of_record (records_of reads utc ms ss) ≡ marked ms (map of_settled ss)
records_marked reads utc [] ss = refl
records_marked reads utc (m ∷ ms) [] = refl
records_marked reads utc (None ∷ ms) (s ∷ ss) = records_marked reads utc ms ss
records_marked reads utc (Some mark ∷ ms) (s ∷ ss) = ap (λ rs. of_record (record_of reads utc mark s) ∷ rs) (records_marked reads utc ms ss)

-- the requests for two lists of what is asked are those of the first list, and after them those of the second with the marks
-- that are left
marked_append : (ms : List (Option Mark)) (xs ys : List (Wanted Asked)) → marked ms (xs ++ ys) ≡ marked ms xs ++ marked (drop (length xs) ms) ys
marked_append [] [] ys = refl
marked_append [] (x ∷ xs) ys = refl
marked_append (m ∷ ms) [] ys = refl
marked_append (None ∷ ms) (x ∷ xs) ys = marked_append ms xs ys
marked_append (Some mark ∷ ms) (x ∷ xs) ys = ap (λ rs. record { cycle = mark.cycle; place = mark.place; asked = x } ∷ rs) (marked_append ms xs ys)

-- where there are as many marks as requests, one mark more, with what it asks, adds its request after the others, if the mark is
-- of a command
marked_more : (ms : List (Option Mark)) (asks : List (Wanted Asked)) (m : Option Mark) (a : Wanted Asked) → length ms ≡ length asks
    → marked (ms ++ m ∷ []) (asks ++ a ∷ []) ≡ marked ms asks ++ marked (m ∷ []) (a ∷ [])
marked_more [] [] m a e = refl
marked_more [] (x ∷ xs) m a e = absurd (omega (arith, e))
marked_more (n ∷ ms) [] m a e = absurd (omega (arith, e))
marked_more (None ∷ ms) (x ∷ xs) m a e = marked_more ms xs m a (omega (arith, e))
marked_more (Some mark ∷ ms) (x ∷ xs) m a e = ap (λ rs. record { cycle = mark.cycle; place = mark.place; asked = x } ∷ rs) (marked_more ms xs m a (omega (arith, e)))

-- if no mark is of a command, there is no request of a command
pub marked_none : (ms : List (Option Mark)) (asks : List (Wanted Asked)) → commands_in ms ≡ 0 → marked ms asks ≡ []
marked_none [] asks e = refl
marked_none (m ∷ ms) [] e = refl
marked_none (None ∷ ms) (a ∷ asks) e = marked_none ms asks e
marked_none (Some mark ∷ ms) (a ∷ asks) e = absurd (omega (arith, e))

-- the requests of cycles in two lists, as the text has them, are those in the first list, and after them those in the second
pub of_text-append : (commands : List Task) (xs ys : List RunRequest) → of_text commands (xs ++ ys) ≡ of_text commands xs ++ of_text commands ys
of_text-append commands xs ys = ap (map (in_text commands)) (filter-append _ xs ys) ∙ map-append (in_text commands) (of_cycles xs) (of_cycles ys)

-- `of_cycles` keeps all requests of a cycle other than 0, which is the setup
cycles_all : (cycle place : ℕ) (asks : List (Wanted Asked)) → 0 < cycle → of_cycles (requests cycle place asks) ≡ requests cycle place asks
cycles_all cycle place [] some = refl
cycles_all cycle place (a ∷ others) some =
    let one : RunRequest = record { cycle = cycle; place = place; asked = a } in
    let rest = of_cycles (requests cycle (place + 1) others) in
    ap (λ b. if not b then one ∷ rest else rest) (not_zero cycle some) ∙ ap (λ xs. one ∷ xs) (cycles_all cycle (place + 1) others some)

-- the requests of the records, followed by those of the outstanding commands
abbrev pub row : List (Option Mark) → List (Pending Asked) → List Record → List RunRequest
row ms ws rs = map of_record rs ++ still_waiting ms ws

-- the requests of the row (`row`) that are of a cycle are `kept`, as the text has them (`of_text`). The row is of the records
-- `rs`, and of the requests `ws`, which are outstanding, with their marks `ms`
abbrev pub IsRowInText : List Task → (ms : List (Option Mark)) → (ws : List (Pending Asked)) → (rs : List Record) → (kept : List RunRequest) → Type 0
IsRowInText commands ms ws rs kept = of_text commands (row ms ws rs) ≡ kept

-- a moment, at which requests may time out, leaves the row
pub row_moment : (ms : List (Option Mark)) (ws : List (Pending Asked)) (rs : List Record) (m : ℕ) → row ms (map (expired m) ws) rs ≡ row ms ws rs
row_moment ms ws rs m = ap (λ xs. map of_record rs ++ xs) (waiting_marked ms (map (expired m) ws) ∙ ap (marked ms) (expired_parts m ws) ∙ sym (waiting_marked ms ws))

-- a moment, at which requests may time out, preserves `IsRowInText`
pub row_in_text_moment : (commands : List Task) (ms : List (Option Mark)) (ws : List (Pending Asked)) (rs : List Record) (kept : List RunRequest) (m : ℕ)
    → IsRowInText commands ms ws rs kept → IsRowInText commands ms (map (expired m) ws) rs kept
row_in_text_moment commands ms ws rs kept m h = ap (of_text commands) (row_moment ms ws rs m) ∙ h

-- if no command is outstanding, the row is that of the records alone
pub row_settled : (ms : List (Option Mark)) (ws : List (Pending Asked)) (rs : List Record) → commands_in ms ≡ 0 → row ms ws rs ≡ map of_record rs
row_settled ms ws rs none =
    ap (λ xs. map of_record rs ++ xs) (waiting_marked ms ws ∙ marked_none ms (map of_pending ws) none) ∙ append-nil (map of_record rs)

-- if nothing is outstanding, the row is that of the records alone, whatever the marks
pub row_empty : (ms : List (Option Mark)) (ws : List (Pending Asked)) (rs : List Record) → ws ≡ [] → row ms ws rs ≡ map of_record rs
row_empty ms ws rs none =
    ap (λ xs. map of_record rs ++ xs) (ap (still_waiting ms) none ∙ nothing ms) ∙ append-nil (map of_record rs) where
      -- if no request is outstanding, no command is
      nothing : (ms : List (Option Mark)) → still_waiting ms [] ≡ []
      nothing [] = refl
      nothing (m ∷ ms) = refl

-- settlements of the oldest requests leave the row: their records take the place of the requests
pub row_settles : (reads : Reads) (utc : ℕ) (ms : List (Option Mark)) (ws left : List (Pending Asked)) (ss : List (Settlement Asked)) (rs : List Record)
    → map of_settled ss ++ map of_pending left ≡ map of_pending ws → row (drop (length ss) ms) left (rs ++ records_of reads utc ms ss) ≡ row ms ws rs
row_settles reads utc ms ws left ss rs parts =
    let front = map of_record rs in
    let ended = map of_settled ss in
    let waits = map of_pending left in
    let count : length ended ≡ length ss = length-map ss of_settled in
    ap (λ xs. xs ++ still_waiting (drop (length ss) ms) left) (map-append of_record rs (records_of reads utc ms ss))
    ∙ append_assoc front (map of_record (records_of reads utc ms ss)) (still_waiting (drop (length ss) ms) left)
    ∙ ap (λ xs. front ++ (xs ++ still_waiting (drop (length ss) ms) left)) (records_marked reads utc ms ss)
    ∙ ap (λ xs. front ++ (marked ms ended ++ xs)) (waiting_marked (drop (length ss) ms) left ∙ ap (λ n. marked (drop n ms) waits) (sym count))
    ∙ ap (λ xs. front ++ xs) (sym (marked_append ms ended waits) ∙ ap (marked ms) parts ∙ sym (waiting_marked ms ws))

-- settlements of the oldest requests preserve `IsRowInText`
pub row_in_text_settles : (reads : Reads) (commands : List Task) (utc : ℕ) (ms : List (Option Mark)) (ws left : List (Pending Asked)) (ss : List (Settlement Asked)) (rs : List Record)
    (kept : List RunRequest) → map of_settled ss ++ map of_pending left ≡ map of_pending ws
    → IsRowInText commands ms ws rs kept → IsRowInText commands (drop (length ss) ms) left (rs ++ records_of reads utc ms ss) kept
row_in_text_settles reads commands utc ms ws left ss rs kept parts h = ap (of_text commands) (row_settles reads utc ms ws left ss rs parts) ∙ h

-- where each outstanding request has a mark: if one more request is outstanding after the others, its command, if it has one, is
-- added after the outstanding commands
pub more_waiting : (ms : List (Option Mark)) (ws : List (Pending Asked)) (m : Option Mark) (p : Pending Asked) → length ms ≡ length ws
    → still_waiting (ms ++ m ∷ []) (ws ++ p ∷ []) ≡ still_waiting ms ws ++ marked (m ∷ []) (of_pending p ∷ [])
more_waiting ms ws m p paired =
    let asked = map of_pending ws in
    let count : length ms ≡ length asked = paired ∙ sym (length-map ws of_pending) in
    waiting_marked (ms ++ m ∷ []) (ws ++ p ∷ []) ∙ ap (marked (ms ++ m ∷ [])) (map-append of_pending ws (p ∷ []))
    ∙ marked_more ms asked m (of_pending p) count ∙ ap (λ xs. xs ++ marked (m ∷ []) (of_pending p ∷ [])) (sym (waiting_marked ms ws))

-- a null procedure that is sent preserves `IsRowInText`, where each outstanding request has a mark
pub row_in_text_null : (commands : List Task) (ms : List (Option Mark)) (ws : List (Pending Asked)) (p : Pending Asked) (rs : List Record) (kept : List RunRequest) → length ms ≡ length ws
    → IsRowInText commands ms ws rs kept → IsRowInText commands (ms ++ None ∷ []) (ws ++ p ∷ []) rs kept
row_in_text_null commands ms ws p rs kept paired h = ap (λ xs. of_text commands (map of_record rs ++ xs)) (more_waiting ms ws None p paired ∙ append-nil (still_waiting ms ws)) ∙ h

-- a command of the setup (its mark has the cycle 0) that is sent preserves `IsRowInText`, where each outstanding request has a
-- mark
pub row_in_text_prepared : (commands : List Task) (mark : Mark) (ms : List (Option Mark)) (ws : List (Pending Asked)) (p : Pending Asked) (rs : List Record) (kept : List RunRequest) → mark.cycle ≡ 0
    → length ms ≡ length ws → IsRowInText commands ms ws rs kept → IsRowInText commands (ms ++ Some mark ∷ []) (ws ++ p ∷ []) rs kept
row_in_text_prepared commands mark ms ws p rs kept none paired h =
    let front = map of_record rs in
    let waits = still_waiting ms ws in
    let one = of_waiting mark p in
    ap (of_text commands) (ap (λ xs. front ++ xs) (more_waiting ms ws (Some mark) p paired) ∙ sym (append_assoc front waits (one ∷ [])))
    ∙ of_text-append commands (front ++ waits) (one ∷ [])
    ∙ ap (λ n. of_text commands (front ++ waits) ++ map (in_text commands) (if not (nat_eq n 0) then one ∷ [] else [])) none
    ∙ append-nil (of_text commands (front ++ waits)) ∙ h

-- nothing is left of the first `place` commands without the first `setup`, if `place` is at most `setup`
none_taken : (setup place : ℕ) (commands : List Task) → place ≤ setup → drop setup (take place commands) ≡ []
none_taken setup place commands e = let many = length-take place commands in drop_all setup (take place commands) (omega (arith, many, e))

-- from a place after the setup on, in a cycle that has begun: the commands that had their turn, with the next `count` ones after
-- them, are those that had their turn at a place `count` further on, or at the end of the list if that is nearer
pub reached_past : (setup : ℕ) (commands : List Task) (begun place count place' : ℕ) → setup ≤ place → place ≤ length commands → 0 < begun
    → (place' ≡ place + count) ⊎ ((place' ≡ length commands) × (length commands ≤ place + count))
    → commands_reached setup commands begun place ++ requests begun place (map of_task (take count (drop place commands))) ≡ commands_reached setup commands begun place'
reached_past setup commands zero place count place' low within some at = absurd (omega (arith, some))
reached_past setup commands (suc n) place count place' low within some at =
    let front = drop setup (take place commands) in
    let taken = map of_task front in
    let more = map of_task (take count (drop place commands)) in
    let cycles = all_cycles setup commands n in
    let many : length (take place commands) ≡ place = let l = length-take place commands in omega (arith, l, within) in
    let count_is : setup + length taken ≡ place = let m = length-map front of_task in let d = length-drop setup (take place commands) in omega (arith, m, d, many, low) in
    append_assoc cycles (requests (suc n) setup taken) (requests (suc n) place more)
    ∙ ap (λ b. cycles ++ (requests (suc n) setup taken ++ requests (suc n) b more)) (sym count_is)
    ∙ ap (λ xs. cycles ++ xs) (sym (requests-append (suc n) setup taken more))
    ∙ ap (λ xs. cycles ++ requests (suc n) setup xs) (sym (map-append of_task front (take count (drop place commands)))
    ∙ ap (map of_task) (sym (drop-append-le setup (take place commands) (take count (drop place commands)) (omega (arith, many, low))) ∙ ap
    (drop setup) (sym (take-add place count commands) ∙ as_many at))) where
      -- the first `place + count` commands are those before the new place
      as_many : ((place' ≡ place + count) ⊎ ((place' ≡ length commands) × (length commands ≤ place + count))) → take (place + count) commands ≡ take place' commands
      as_many (inl is) = ap (λ (k : ℕ). take k commands) (sym is)
      as_many (inr is) = take_all (place + count) commands is.1 ∙ sym (take_all place' commands (omega (arith, is.0)))

-- at a place after the setup, in a cycle that has begun: the commands that had their turn, with the next one after them, are
-- those that had their turn one place later
pub reached_next : (setup : ℕ) (commands : List Task) (begun place : ℕ) (task : Task) (others : List Task) → drop place commands ≡ task ∷ others → setup ≤ place → 0 < begun
    → commands_reached setup commands begun place ++ requests begun place (of_task task ∷ []) ≡ commands_reached setup commands begun (place + 1)
reached_next setup commands begun place task others at within some =
    let next : take 1 (drop place commands) ≡ task ∷ [] = ap (take 1) at in
    let left : length commands - place ≡ length (task ∷ others) = sym (length-drop place commands) ∙ ap length at in
    ap (λ (ts : List Task). commands_reached setup commands begun place ++ requests begun place (map of_task ts)) (sym next)
    ∙ reached_past setup commands begun place 1 (place + 1) within (omega (arith, left)) some (inl refl)

-- `IsRowInText` holds of the requests `kept`; and the next command of a cycle is `task`
module _ (commands : List Task) (ms : List (Option Mark)) (ws : List (Pending Asked)) (rs : List Record) (task : Task) (others : List Task) (kept : List RunRequest)
    (h : IsRowInText commands ms ws rs kept) where
  -- if each outstanding request has a mark, `IsRowInText` holds after the command is sent with this mark, with its request after
  -- `kept`
  pub row_in_text_sent : (mark : Mark) (p : Pending Asked) → (paired : length ms ≡ length ws) → (there : drop mark.place commands ≡ task ∷ others) → (asks : of_pending p ≡ asked_at (occasion_of mark) task)
      → (above : 0 < mark.cycle) → IsRowInText commands (ms ++ Some mark ∷ []) (ws ++ p ∷ []) rs (kept ++ requests mark.cycle mark.place (of_task task ∷ []))
  row_in_text_sent mark p paired at is some =
      let begun = mark.cycle in
      let place = mark.place in
      let occasion = occasion_of mark in
      let front = map of_record rs in
      let one = requests begun place (asked_at occasion task ∷ []) in
      let waits = still_waiting ms ws in
      ap (of_text commands) (ap (λ xs. front ++ xs) (more_waiting ms ws (Some mark) p paired ∙ ap (λ a. waits ++ requests begun place (a ∷ [])) is)
      ∙ sym (append_assoc front waits one))
      ∙ of_text-append commands (front ++ waits) one
      ∙ ap (λ xs. of_text commands (front ++ waits) ++ map (in_text commands) xs) (cycles_all begun place (asked_at occasion task ∷ []) some)
      ∙ ap (λ x. of_text commands (front ++ waits) ++ x ∷ []) (asked_text commands begun place occasion task others at)
      ∙ ap (λ xs. xs ++ requests begun place (of_task task ∷ [])) h

  -- if no command is outstanding, `IsRowInText` holds after the command is recorded without being sent, with its request after
  -- `kept`, and its record `r` after `rs`
  pub row_in_text_skipped : (begun place : ℕ) (r : Record) → (none : commands_in ms ≡ 0) → (there : drop place commands ≡ task ∷ others)
      → (own : of_record r ∷ [] ≡ requests begun place (of_command task.command ∷ [])) → (above : 0 < begun)
      → IsRowInText commands ms ws (rs ++ r ∷ []) (kept ++ requests begun place (of_task task ∷ []))
  row_in_text_skipped begun place r none at is some =
      let one = requests begun place (of_command task.command ∷ []) in
      let listed = requests begun place (of_task task ∷ []) in
      let front = map of_record rs in
      ap (of_text commands) (row_settled ms ws (rs ++ r ∷ []) none ∙ map-append of_record rs (r ∷ []) ∙ ap (λ xs. front ++ xs) is)
      ∙ of_text-append commands front one ∙ ap (λ xs. of_text commands front ++ map (in_text commands) xs) (cycles_all begun place (of_command task.command ∷ []) some)
      ∙ ap (λ x. of_text commands front ++ x ∷ []) (unsent_text commands begun place task others at)
      ∙ ap (λ xs. xs ++ listed) (ap (of_text commands) (sym (row_settled ms ws rs none)) ∙ h)

-- at the end of a cycle, all commands of the cycles so far had their turn
pub reached_whole : (setup : ℕ) (commands : List Task) (begun place : ℕ) → place ≡ length commands → commands_reached setup commands begun place ≡ all_cycles setup commands begun
reached_whole setup commands zero place e = refl
reached_whole setup commands (suc n) place e = ap (λ xs. all_cycles setup commands n ++ requests (suc n) setup (map of_task (drop setup xs)))
    (ap (λ m. take m commands) e ∙ take_all (length commands) commands (omega arith))

-- at the beginning of a cycle, all commands of the cycles before it had their turn
pub reached_none : (setup : ℕ) (commands : List Task) (begun next place : ℕ) → next ≡ suc begun → place ≤ setup → commands_reached setup commands next place ≡ all_cycles setup commands begun
reached_none setup commands begun next place is none =
    ap (λ n. commands_reached setup commands n place) is
    ∙ ap (λ xs. all_cycles setup commands begun ++ requests (suc begun) setup (map of_task xs)) (none_taken setup place commands none) ∙ append-nil (all_cycles setup commands begun)
