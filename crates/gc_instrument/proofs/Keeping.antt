-- The stored reply: for which id it is found, that no call's outcome depends on it, and what is stored after an execution. Below,
-- a line is *plain* if it has neither CR nor LF, and a state *fits* if `IsFittingState` holds of it.
use Rattle.gc_instrument.proofs.Common.{◌≡◌, ℤ, pos, ◌||◌, Bool, true, false, cond, ℕ, List, Option, Some, None, refl, sym, ap, ◌∙◌, eqb, ◌+◌, ◌-◌, ◌++◌, length, take, drop, arith, length-append, int_lt, unwrap_or, take_all, IsPlain, int_eq, Decimal, Answer, Nothing, Call, NullProc, Executed, exec, done, refused, set_if, distance_outcome, commanded, searched, adjusted, measured, unmeasured, ExecutesApart, IsReplyToCall, IsReplyToExecuted, executes, IsAnswered, kept_after, kept_line, with_kept, executed_with, IsSoundState, State, KeptReply, IsFittingState, IsFittingKept, kept_id, kept_in, first_within, Target}
use Rattle.std.proofs.Math.Seq.{drop-append_seam}

-- the stored reply that `kept_in` makes of an id and a line has that id; without an id it makes none
pub id_kept : (id : Option ℕ) (line : List ℕ) → id ≡ kept_id (kept_in id line)
id_kept None line = refl
id_kept (Some id) line = refl

-- a request without an id finds no stored line
pub none_asked : (kept : Option KeptReply) (id : Option ℕ) → id ≡ None → None ≡ kept_line kept id
none_asked None id e = refl
none_asked (Some k) None e = refl
none_asked (Some k) (Some n) e = let never : ⊥ = cc in absurd never

-- where `kept_in` stores nothing, as there is no id, no stored line is found, whatever id is asked for
pub none_kept : (id asked : Option ℕ) (line : List ℕ) → id ≡ None → None ≡ kept_line (kept_in id line) asked
none_kept None asked line e = refl
none_kept (Some n) asked line e = let never : ⊥ = cc in absurd never

-- where b is whether the id asked for is the stored one, the stored line is found if b is true, and none if it is false
kept_by_test : (b : Bool) (id asked : Option ℕ) (k n : ℕ) (line : List ℕ) → id ≡ Some k → asked ≡ Some n → eqb k n ≡ b
    → cond b (Some line) None ≡ kept_line (kept_in id line) asked
kept_by_test b id asked k n line e f is =
    sym (ap (λ (o : Option ℕ). kept_line (kept_in o line) asked) e ∙ ap (kept_line (Some (record { id = k; line = line }))) f ∙ ap (λ (c : Bool). cond c (Some line) None) is)

-- where the id asked for is the stored one, the stored line is found
pub same_kept : (id asked : Option ℕ) (k n : ℕ) (line : List ℕ) → id ≡ Some k → asked ≡ Some n → eqb k n ≡ true
    → Some line ≡ kept_line (kept_in id line) asked
same_kept = kept_by_test true

-- where the id asked for isn't the stored one, no stored line is found
pub other_kept : (id asked : Option ℕ) (k n : ℕ) (line : List ℕ) → id ≡ Some k → asked ≡ Some n → eqb k n ≡ false
    → None ≡ kept_line (kept_in id line) asked
other_kept = kept_by_test false

-- The outcome of a call doesn't depend on the stored reply. On the left of each equation is the outcome in the state `s` itself,
-- by which the search finds the equation.

-- setting a value doesn't depend on the stored reply
set_apart : (b : Bool) (s t : State) (kept : Option KeptReply) → executed_with kept (set_if b s t) ≡ set_if b (with_kept kept s) (with_kept kept t)
set_apart true s t kept = refl
set_apart false s t kept = refl

-- answering with a distance doesn't depend on the stored reply
pub distance_apart : (s : State) (kept : Option KeptReply) (answer_with : Decimal → Answer) (d : Option Decimal)
    → executed_with kept (distance_outcome s answer_with d) ≡ distance_outcome (with_kept kept s) answer_with d
distance_apart s kept answer_with None = refl
distance_apart s kept answer_with (Some d) = refl

-- the outcome of a measuring command by its three tests: whether it is 0 (`a`), 1 (`b`) or 3 (`c`)
abbrev pub commanded_by_tests : State → (a b c : Bool) → Executed
commanded_by_tests t a b c = cond a (done t Nothing) (cond b (done (measured t) Nothing) (cond c (done (unmeasured t) Nothing) (refused t 2)))

-- carrying out a measuring command doesn't depend on the stored reply
commanded_apart : (s : State) (kept : Option KeptReply) (command : ℤ)
    → executed_with kept (commanded s command) ≡ commanded (with_kept kept s) command
commanded_apart s kept command = by_tests (int_eq command (pos 0)) (int_eq command (pos 1)) (int_eq command (pos 3)) where
  -- whichever outcome the three tests of the command choose, it doesn't depend on the stored reply
  by_tests : (a b c : Bool) → executed_with kept (commanded_by_tests s a b c) ≡ commanded_by_tests (with_kept kept s) a b c
  by_tests true b c = refl
  by_tests false true c = refl
  by_tests false false true = refl
  by_tests false false false = refl

-- pointing at the target that a search found, or finding none, doesn't depend on the stored reply
pub adjusted_apart : (s : State) (kept : Option KeptReply) (t : Option Target) → executed_with kept (adjusted s t) ≡ adjusted (with_kept kept s) t
adjusted_apart s kept None = refl
adjusted_apart s kept (Some t) = refl

-- a search within areas doesn't depend on the stored reply
searched_apart : (s : State) (kept : Option KeptReply) (area_hz area_v : Decimal)
    → executed_with kept (searched s area_hz area_v) ≡ searched (with_kept kept s) area_hz area_v
searched_apart s kept area_hz area_v = by_test (int_lt area_hz.digits (pos 0) || int_lt area_v.digits (pos 0)) where
  -- whether an area is below zero (true) or none is, the outcome doesn't depend on the stored reply
  by_test : (b : Bool) → executed_with kept (cond b (refused s 2) (adjusted s (first_within s.pointing area_hz area_v s.scene))) ≡ cond b
      (refused (with_kept kept s) 2) (adjusted (with_kept kept s) (first_within s.pointing area_hz area_v s.scene))
  by_test true = refl
  by_test false = adjusted_apart s kept (first_within s.pointing area_hz area_v s.scene)

-- the lemmas of which the search proves each row of the execution table
ruleset apart_rules = (set_apart, distance_apart, commanded_apart, searched_apart)

-- no call's outcome depends on the stored reply. A new row of the table is made of the same parts, so it needs nothing here
exec_apart : (s : State) (kept : Option KeptReply) (call : Call) → executed_with kept (exec s call) ≡ exec (with_kept kept s) call
unfolding exec
exec_apart s kept NullProc = refl
exec_apart s kept call = search apart_rules

-- the outcome of a call doesn't depend on the stored reply, and leaves that reply as it is
pub executes_apart : ExecutesApart
executes_apart s kept call = sym (exec_apart s kept call)

-- What is stored of an execution.

-- carrying out a call leaves the stored reply as it is
pub kept_stays : (s : State) (call : Call) → (exec s call).state.kept ≡ s.kept
kept_stays s call = ap (λ (x : Executed). x.state.kept) (executes_apart s s.kept call)

-- the bytes from the old length on are what was appended
pub appended_bytes : (old new text : List ℕ) (start : ℕ) → new ≡ old ++ text → start ≡ length old → take (length new - start) (drop start new) ≡ text
appended_bytes old new text start is first =
    let whole : drop start new ≡ text = ap (λ n. drop n new) first ∙ ap (drop (length old)) is ∙ drop-append_seam old text in
    let size : length new ≡ length old + length text = ap length is ∙ length-append old text in
    let enough : length new - start ≡ length text = omega (arith, size, first) in
    ap (take (length new - start)) whole ∙ ap (λ n. take n text) enough ∙ take_all (length text) text (omega arith)

-- a state that fits (`IsFittingState`) does so with another stored reply, if that fits, too
pub fits_kept : (s : State) (kept : Option KeptReply) → IsFittingState s → IsFittingKept kept → IsFittingState (with_kept kept s)
fits_kept s kept h k = record { precision = h.precision; serial = h.serial; name = h.name; date = h.date; prism = h.prism; kept = k }

-- where a state is sound (`IsSoundState`), and `line` is the plain reply to a call (`IsAnswered`) with this id, or with 0 without
-- one, the state is still sound once `line` is stored as `kept_after` has it
pub sound_keeping : (s before : State) (id : Option ℕ) (call : Call) (line : List ℕ) → IsSoundState s
    → IsAnswered before (unwrap_or id 0) call line → IsPlain line → IsSoundState (with_kept (kept_after s.kept id line) s)
sound_keeping s before None call line sound says plain = sound
sound_keeping s before (Some n) call line sound says plain =
    (fits_kept s (kept_after s.kept (Some n) line) sound.0 (record { fields = says.fields; is_reply = says.is_reply; same_id = says.same_id }), plain)

-- carrying out a call for whose id no line is stored, with the id or with 0 without one, and storing the reply if there is an id
-- (`kept_after`), makes of the reply (`IsReplyToExecuted`) that of the call (`IsReplyToCall`)
pub kept_anew : (before after : State) (id : Option ℕ) (call : Call) (text : List ℕ) → kept_line before.kept id ≡ None
    → IsReplyToExecuted before (unwrap_or id 0) call after text → IsReplyToCall before id call (with_kept (kept_after after.kept id text) after) text
kept_anew before after id call text none h =
    let stays : after.kept ≡ before.kept = ap (λ (s : State). s.kept) h.state ∙ kept_stays before call in
    record {
      plain = h.plain;
      answers = executes none (ap (λ k. with_kept (kept_after k id text) after) stays ∙ ap (with_kept (kept_after before.kept id text)) h.state) h.line;
      says = λ new. h.says;
    }
