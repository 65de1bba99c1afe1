-- The rules of a text together: this project's own.
use Rattle.std.specs.Prelude.{◌≡◌, ℕ, ◌+◌, ◌⊎◌, List, [], ◌∷◌, ◌++◌, length, get_or, slice_set, Option, None, Some}
use Rattle.gc_texts.specs.Prelude.{before, text_lines}
use Rattle.gc_rehearsal.specs.RuleForms.{place_of, IsRule, IsNoRule}
use Rattle.gc_rehearsal.specs.Spaced.{IsBlank}
use Rattle.gc_rehearsal.specs.declared.frequency.Frequency.{Frequency}
use Rattle.gc_rehearsal.specs.declared.rules.Rules.{Rules}
use Rattle.gc_rehearsal.specs.declared.rule.RuleFault.{RuleFault}
use Rattle.gc_rehearsal.specs.declared.rule.RuleFault.TheVariants.{Again}
use Rattle.gc_rehearsal.specs.declared.rule.Rule.{Rule}
use Rattle.gc_rehearsal.specs.declared.rule.Word.{Word}

-- the rules of a text without a word
abbrev pub no_rules : Rules
no_rules = record { frequencies = None ∷ None ∷ None ∷ None ∷ None ∷ None ∷ None ∷ None ∷ None ∷ [] }

-- the frequency of a word; `None` if the text doesn't have the word
abbrev pub frequency_of : Rules → Word → Option Frequency
frequency_of rules word = get_or rules.frequencies (place_of word) None

-- these rules, with one more rule, which replaces that of its word
abbrev pub with_rule : Rules → Rule → Rules
with_rule rules rule = record { frequencies = slice_set rules.frequencies (place_of rule.word) (Some rule.frequency) }

-- a line without its comment, which begins with `#` (byte 35)
abbrev pub without_comment : List ℕ → List ℕ
without_comment line = before 35 line

-- a line leads from the rules `old` of the lines before it to the rules `new`: without its comment it is blank, and `new` are
-- `old`, or it is a rule whose word no earlier line has, and `new` are `old` with this rule
abbrev pub Leads : (old : Rules) → List ℕ → (new : Rules) → Type 0
Leads old line new = (IsBlank (without_comment line) × (new ≡ old))
    ⊎ ((rule : Rule) × IsRule (without_comment line) rule × (frequency_of old rule.word ≡ None) × (new ≡ with_rule old rule))

-- these lines lead from the rules `old` to the rules `new`
abbrev pub LeadAll : (old : Rules) → List (List ℕ) → (new : Rules) → Type 0
LeadAll old [] new = new ≡ old
LeadAll old (line ∷ lines) new = (between : Rules) × Leads old line between × LeadAll between lines new

-- the text has these rules: its lines lead from no rules to these
abbrev pub AreRules : List ℕ → Rules → Type 0
AreRules text rules = LeadAll no_rules (text_lines text) rules

-- what is wrong with a line after lines that have these rules: an earlier line has its word, or it is no rule
abbrev pub IsRuleFault : Rules → List ℕ → RuleFault → Type 0
IsRuleFault rules line (Again word) = (rule : Rule) × IsRule (without_comment line) rule × (rule.word ≡ word) × (frequency_of rules word ≡ None → ⊥)
IsRuleFault rules line fault = IsNoRule (without_comment line) fault

-- a line is faulty, with this fault, after lines that have these rules: without its comment it is neither blank nor a rule whose
-- word is new
abbrev pub IsFaultyRule : Rules → List ℕ → RuleFault → Type 0
IsFaultyRule rules line fault = (IsBlank (without_comment line) → ⊥) × IsRuleFault rules line fault

-- line number n of a text, counted from 1, is its first faulty line, and has this fault: the lines before it lead to rules, and
-- it is faulty after these (`IsFaultyRule`)
pub record IsFirstFaultyRule (text : List ℕ) (n : ℕ) (fault : RuleFault) : Type 0 where
  pub front : List (List ℕ)
  pub line : List ℕ
  pub rest : List (List ℕ)
  pub lines_are : text_lines text ≡ front ++ line ∷ rest
  pub place : n ≡ length front + 1
  pub rules : Rules
  pub before : LeadAll no_rules front rules
  pub faulty : IsFaultyRule rules line fault
