-- A text of lines, each of which is written for one item: this project's own.
use Rattle.gc_texts.specs.Common.{AllZip}
use Rattle.std.specs.Prelude.{◌≡◌, ℕ, ◌+◌, ◌-◌, ◌<◌, ◌≤◌, ◌↔◌, ◌==◌, Bool, true, List, [], ◌∷◌, ◌++◌, length, get_or, map, filter, not, if◌then◌else◌, MatchOption, Option, Result, Err}
use Rattle.gc_texts.specs.Cuts.{Cuts}
use Rattle.gc_texts.specs.declared.fault.RunFault.{RunFault}
use Rattle.gc_texts.specs.declared.fault.RunFault.TheVariants.{Schedule, Memory, InputTooLong}
use Rattle.gc_texts.specs.declared.text.TheConstants.{TEXT_LIMIT}

-- a form of lines: it says which lines are written for which item
abbrev pub ItemForm : Type 0 → Type 1
ItemForm Item = List ℕ → Item → Type 0

-- what was read is a value of which `Says` holds, or `None` where it holds of none
abbrev pub IsReadAs : {Value : Type 0} → (Says : Value → Type 0) → (read : Option Value) → Type 0
IsReadAs {Value} Says read = MatchOption read ((v : Value) → Says v → ⊥) (λ v. Says v)

-- the pieces of a text, cut at each LF; `before` is the beginning of the first
abbrev pub text_pieces : (before bs : List ℕ) → List (List ℕ)
text_pieces before [] = before ∷ []
text_pieces before (b ∷ bs) = if b == 10 then before ∷ text_pieces [] bs else text_pieces (before ++ b ∷ []) bs

-- a line without one CR at its end, if it has one
abbrev pub without_cr : List ℕ → List ℕ
without_cr [] = []
without_cr (b ∷ []) = if b == 13 then [] else b ∷ []
without_cr (b ∷ c ∷ bs) = b ∷ without_cr (c ∷ bs)

-- a text begins with this line, which is what is before the first LF, without one CR at its end; and `rest` is what follows that LF,
-- and `None` where the text has none
pub record CutsLine (text line : List ℕ) (rest : Option (List ℕ)) : Type 0 where
  pub piece : List ℕ
  pub cut : Cuts 10 text piece rest
  pub line_is : line ≡ without_cr piece

-- the lines of a text; an empty piece after the last LF is an empty line, which is skipped
abbrev pub text_lines : List ℕ → List (List ℕ)
text_lines text = map without_cr (text_pieces [] text)

-- line number n of a text, counted from 1 (0 gives the first, too); empty where the text has fewer
abbrev pub line_at : List ℕ → ℕ → List ℕ
line_at text n = get_or (text_lines text) (n - 1) []

-- whether a line is skipped: it is empty, or begins with `#`
abbrev pub is_skipped : List ℕ → Bool
is_skipped [] = true
is_skipped (b ∷ bs) = b == 35

-- whether a line isn't skipped, so that it must have the form of an item
abbrev pub is_kept : List ℕ → Bool
is_kept line = not (is_skipped line)

-- these lines have the forms of these items, one for one and in order
abbrev pub AreLinesOf : {Item : Type 0} → ItemForm Item → List (List ℕ) → List Item → Type 0
AreLinesOf form lines items = AllZip form lines items

-- the lines of the text that aren't skipped have the forms of these items, one for one and in order
abbrev pub IsTextOf : {Item : Type 0} → ItemForm Item → List ℕ → List Item → Type 0
IsTextOf form text items = AreLinesOf form (filter is_kept (text_lines text)) items

-- the text has this line, which isn't skipped, after the lines `front`
pub record HasKeptLine (text : List ℕ) (front : List (List ℕ)) (line : List ℕ) : Type 0 where
  pub rest : List (List ℕ)
  pub lines_are : text_lines text ≡ front ++ line ∷ rest
  pub kept : is_kept line ≡ true

-- line number n, counted from 1, is the first that isn't skipped and has the form of no item
pub record FirstFaulty {Item : Type 0} (form : ItemForm Item) (text : List ℕ) (n : ℕ) : Type 0 where
  pub front : List (List ℕ)
  pub line : List ℕ
  pub here : HasKeptLine text front line
  pub place : n ≡ length front + 1
  pub no_item : (x : Item) → form line x → ⊥
  pub items : List Item
  pub before : AreLinesOf form (filter is_kept front) items

-- the text has a line that isn't skipped and has the form of an item, and no faulty line before it: a reader comes to such a
-- line, and memory may be refused there
pub record ReachesASoundLine {Item : Type 0} (form : ItemForm Item) (text : List ℕ) : Type 0 where
  pub front : List (List ℕ)
  pub line : List ℕ
  pub here : HasKeptLine text front line
  pub item : Item
  pub is_item : form line item
  pub items : List Item
  pub before : AreLinesOf form (filter is_kept front) items

-- why the reading of a text gave no items: the text is too long; or it isn't, and either line n is its first faulty one, of which
-- `IsFirstFaulty` holds, or memory was refused at a sound line, and `ReachesASound` holds of the text
abbrev pub TextFaultBy : (IsFirstFaulty : List ℕ → ℕ → Type 0) → (ReachesASound : List ℕ → Type 0) → List ℕ → RunFault → Type 0
TextFaultBy IsFirstFaulty ReachesASound text InputTooLong = TEXT_LIMIT < length text
TextFaultBy IsFirstFaulty ReachesASound text (Schedule n) = (length text ≤ TEXT_LIMIT) × IsFirstFaulty text n
TextFaultBy IsFirstFaulty ReachesASound text Memory = (length text ≤ TEXT_LIMIT) × ReachesASound text
TextFaultBy IsFirstFaulty ReachesASound text _ = ⊥

-- why the reading of a text whose lines are to have this form gave no items (`TextFaultBy`)
abbrev pub TextFault : {Item : Type 0} → ItemForm Item → List ℕ → RunFault → Type 0
TextFault form text fault = TextFaultBy (FirstFaulty form) (ReachesASoundLine form) text fault

-- the reading of this text had this result, which is `InputTooLong` exactly if the text has more bytes than a text may have
abbrev pub RefusesLong : {A : Type 0} → List ℕ → Result A RunFault → Type 0
RefusesLong text result = (result ≡ Err InputTooLong) ↔ (TEXT_LIMIT < length text)

-- if a reading had this result, and it is `Schedule`, `faulty` holds of the number of the line that it names
abbrev pub NamesFaulty : {A : Type 0} → (faulty : ℕ → Type 0) → Result A RunFault → Type 0
NamesFaulty faulty result = (n : ℕ) → result ≡ Err (Schedule n) → faulty n

-- if a reading had this result, and it is `Memory`, `Reached` holds
abbrev pub MemoryOnlyIf : {A : Type 0} → (Reached : Type 0) → Result A RunFault → Type 0
MemoryOnlyIf Reached result = result ≡ Err Memory → Reached
