-- Texts of comma-separated values, one after the other, are read as their rows, one after the other: by the reader of the
-- toolchain.
use Rattle.gc_program_theorems.proofs.Common.{◌≡◌, ℕ, zero, suc, ◌+◌, ◌<◌, Bool, true, false, cond, List, [], ◌∷◌, ◌++◌, length, map, Option, None, Some, refl, sym, ap, subst, ◌∙◌, arith, append_assoc, ◌==◌, ◌&&◌, flat_map, cond_both, false≢true, escaped, row_of, rows_read_back, same_Some, AreReadAs, number_of}
use Rattle.csv.specs.Machine.{Read, field_after, fields_after, after_end, ends_at_end, ends_with, in_field, is_byte, is_end, line_feed, next_record, start_field, start_record, step}
use Rattle.csv.specs.Reading.{default_config, records, records_from, records_next}
use Rattle.csv.specs.declared.parser.Action.{Action}
use Rattle.csv.specs.declared.parser.Config.{Config}
use Rattle.csv.specs.declared.parser.State.{State}
use Rattle.csv.specs.declared.parser.Terminator.{Terminator}
use Rattle.csv.specs.declared.parser.Action.TheVariants as act
use Rattle.csv.specs.declared.parser.State.TheVariants as st
use Rattle.csv.specs.declared.parser.Terminator.TheVariants as term

-- Each read of a record leaves fewer reads.

-- x is a step of the reader: the state to which it leads, and its action. If the action ends a record, the reader is between
-- records in that state: the end of the input doesn't end another one
abbrev IsBetween : State × Action → Type 0
IsBetween x = is_end x.1 ≡ true → ends_at_end x.0 ≡ false

-- in the state after a byte that ends a record, the end of the input ends no further record
after_between : (t : Terminator) (c : ℕ) → ends_at_end (after_end t c) ≡ false
after_between term.CRLF c = cond_both (c == 13) st.AfterCr st.StartRecord (λ s. ends_at_end s ≡ false) (λ _. refl) (λ _. refl)
after_between (term.Any t) c = refl

-- a step within a field is `IsBetween`
field_between : (cfg : Config) (c : ℕ) → IsBetween (in_field cfg c)
field_between cfg c =
    cond_both (c == cfg.delimiter) (st.StartField, act.EndField) _ IsBetween (λ _ e. absurd (false≢true e))
    (λ _. cond_both (ends_with cfg.terminator c) (after_end cfg.terminator c, act.EndRecord) (st.InField, act.Copy) IsBetween
    (λ _ _. after_between cfg.terminator c) (λ _ e. absurd (false≢true e)))

-- a step at the start of a field is `IsBetween`
start_between : (cfg : Config) (c : ℕ) → IsBetween (start_field cfg c)
start_between cfg c = cond_both (cfg.quoting && (c == cfg.quote)) (st.InQuoted, act.Skip) (in_field cfg c) IsBetween (λ _ e. absurd (false≢true e)) (λ _. field_between cfg c)

-- a step at the start of a record is `IsBetween`
record_between : (cfg : Config) (c : ℕ) → IsBetween (start_record cfg c)
record_between cfg c =
    cond_both (ends_with cfg.terminator c) (st.StartRecord, act.Skip) _ IsBetween (λ _ e. absurd (false≢true e))
    (λ _. cond_both (is_byte cfg.comment c) (st.InComment, act.Skip) (start_field cfg c) IsBetween (λ _ e. absurd (false≢true e)) (λ _. start_between cfg c))

-- each step of the reader is `IsBetween`
step_between : (cfg : Config) (s : State) (c : ℕ) → IsBetween (step cfg s c)
step_between cfg st.StartRecord c = record_between cfg c
step_between cfg st.StartField c = start_between cfg c
step_between cfg st.InField c = field_between cfg c
step_between cfg st.InQuoted c =
    cond_both (cfg.quoting && (c == cfg.quote)) (st.AfterQuote, act.Skip) _ IsBetween (λ _ e. absurd (false≢true e))
    (λ _. cond_both (cfg.quoting && is_byte cfg.escape c) (st.InEscape, act.Skip) (st.InQuoted, act.Copy) IsBetween (λ _ e. absurd (false≢true e)) (λ _ e. absurd (false≢true e)))
step_between cfg st.InEscape c = λ e. absurd (false≢true e)
step_between cfg st.AfterQuote c =
    cond_both (cfg.quoting && cfg.double_quote && (c == cfg.quote)) (st.InQuoted, act.Copy) (in_field cfg c) IsBetween (λ _ e. absurd (false≢true e)) (λ _. field_between cfg c)
step_between cfg st.InComment c =
    cond_both (c == line_feed) (st.StartRecord, act.Skip) (st.InComment, act.Skip) IsBetween (λ _ e. absurd (false≢true e)) (λ _ e. absurd (false≢true e))
step_between cfg st.AfterCr c = cond_both (c == line_feed) (st.StartRecord, act.Skip) (start_record cfg c) IsBetween (λ _ e. absurd (false≢true e)) (λ _. record_between cfg c)

-- how many records can still be read, at most
abbrev reads_left : State → List ℕ → ℕ
reads_left s xs = length xs + number_of (ends_at_end s)

-- the number of a truth value is at most 1
truth_below_two : (b : Bool) → number_of b < 2
truth_below_two true = omega arith
truth_below_two false = omega arith

-- after a read that gives a record, `reads_left` is smaller than before it
reads_left_falls : (cfg : Config) (s : State) (fields : List (List ℕ)) (field xs : List ℕ) (p : Read) → next_record cfg s fields field xs ≡ Some p → reads_left p.1 p.2 < reads_left s xs
unfolding next_record
reads_left_falls cfg s fields field [] p = at_end (ends_at_end s) where
  -- the lemma above at the end of the input, by whether that ends a record (`b`)
  at_end : (b : Bool) → cond b (Some (fields ++ (field ∷ []), st.StartRecord, [])) None ≡ Some p → reads_left p.1 p.2 < 0 + number_of b
  at_end true e = subst (λ (x : Read). reads_left x.1 x.2 < 1) (same_Some _ p e) (omega arith)
  at_end false e = cc
reads_left_falls cfg s fields field (c ∷ rest) p = at_byte (is_end (step cfg s c).1) refl (reads_left_falls cfg (step cfg s c).0 _ _ rest p) where
  -- the read after a step that leads to this state, with this action
  goes_on : State × Action → Option Read
  goes_on x = next_record cfg x.0 (fields_after x.1 fields field) (field_after x.1 c field) rest

  -- the lemma above at a byte, by whether that ends the record (`b`), if the lemma holds of the read after the byte
  at_byte : (b : Bool) → is_end (step cfg s c).1 ≡ b
      → (next_record cfg (step cfg s c).0 (fields_after (step cfg s c).1 fields field) (field_after (step cfg s c).1 c field) rest ≡ Some p → reads_left p.1 p.2 < reads_left (step cfg s c).0 rest)
      → cond b (Some (fields_after (step cfg s c).1 fields field, (step cfg s c).0, rest)) (goes_on (step cfg s c)) ≡ Some p
      → reads_left p.1 p.2 < suc (length rest) + number_of (ends_at_end s)
  at_byte true is more e =
      subst (λ (x : Read). reads_left x.1 x.2 < suc (length rest) + number_of (ends_at_end s)) (same_Some _ p e)
      (let none = ap number_of (step_between cfg s c is) in omega (arith, none))
  at_byte false is more e = let less = more e in let few = truth_below_two (ends_at_end (step cfg s c).0) in omega (arith, less, few)

-- reading at most m records, or at most n, gives the same, where both are above `reads_left`
enough_reads : (cfg : Config) (m n : ℕ) (s : State) (xs : List ℕ) → reads_left s xs < m → reads_left s xs < n → records_from cfg m s xs ≡ records_from cfg n s xs
unfolding records_from
enough_reads cfg zero n s xs few many = absurd (omega (arith, few))
enough_reads cfg (suc m) zero s xs few many = absurd (omega (arith, many))
enough_reads cfg (suc m) (suc n) s xs few many = by_read (enough_reads cfg m n) (next_record cfg s [] [] xs) refl where
  -- the lemma above with m + 1 and n + 1, by the first read, if the lemma holds with m and n
  by_read : ((t : State) (ys : List ℕ) → reads_left t ys < m → reads_left t ys < n → records_from cfg m t ys ≡ records_from cfg n t ys)
      → (o : Option Read) → next_record cfg s [] [] xs ≡ o → records_next (records_from cfg m) o ≡ records_next (records_from cfg n) o
  by_read more None e = refl
  by_read more (Some p) e = let less = reads_left_falls cfg s [] [] xs p e in ap (λ l. p.0 ∷ l) (more p.1 p.2 (omega (arith, less, few)) (omega (arith, less, many)))

-- Texts that are read.

-- if a first record is read, after which the reader is at the start of a record, the records of a text are that one and those
-- of what comes after it
one_read : (xs behind : List ℕ) (row : List (List ℕ)) → next_record default_config st.StartRecord [] [] xs ≡ Some (row, st.StartRecord, behind)
    → records default_config xs ≡ row ∷ records default_config behind
unfolding records_from
one_read xs behind row e =
    let less = reads_left_falls default_config st.StartRecord [] [] xs (row, st.StartRecord, behind) e in
    let counted : length xs + 1 ≡ suc (length xs) = omega arith in
    ap (λ n. records_from default_config n st.StartRecord xs) counted
    ∙ ap (λ o. records_next (records_from default_config (length xs)) o) e
    ∙ ap (λ l. row ∷ l) (enough_reads default_config (length xs) (length behind + 1) st.StartRecord behind (omega (arith, less)) (omega arith))

-- a row of more than one field is read as its fields, `escaped`
pub row_reads : (fields : List (List ℕ)) → 1 < length fields → AreReadAs (row_of fields) (map escaped fields ∷ [])
row_reads fields many behind = one_read (row_of fields ++ behind) behind (map escaped fields) (rows_read_back.row fields many behind)

-- the empty text is read as no rows
pub none_read : AreReadAs [] []
none_read behind = refl

-- a text with another one after it is read as the rows of both
pub both_read : (xs ys : List ℕ) (rows others : List (List (List ℕ))) → AreReadAs xs rows → AreReadAs ys others → AreReadAs (xs ++ ys) (rows ++ others)
both_read xs ys rows others first second behind =
    ap (records default_config) (append_assoc xs ys behind) ∙ first (ys ++ behind) ∙ ap (λ l. rows ++ l) (second behind) ∙ sym (append_assoc rows others (records default_config behind))

-- texts one after the other, each of which is read as one row, are read as their rows
pub each_reads : {X : Type 0} (text : X → List ℕ) (row : X → List (List ℕ)) → ((x : X) → AreReadAs (text x) (row x ∷ [])) → (xs : List X) → AreReadAs (flat_map text xs) (map row xs)
each_reads text row one [] = none_read
each_reads text row one (x ∷ xs) = both_read (text x) (flat_map text xs) (row x ∷ []) (map row xs) (one x) (each_reads text row one xs)
