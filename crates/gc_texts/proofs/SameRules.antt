-- The rules of a chain, its retry and its `agree`, are those of each of its commands.
use Rattle.gc_texts.proofs.Common.{◌⊎◌, ◌&&◌, nat_lt, ◌≡◌, inr, inl, Bool, true, false, List, [], ◌∷◌, ◌++◌, Option, None, refl, ap, sym, ◌∙◌, if◌then◌else◌, and_parts, none-some, mode_after, continues_group, task_at, planned_of, Agree, Retry, TaskLine, Mode, Planned}
use Rattle.gc_texts.proofs.TaskLaws.{continued_group_is}
use Rattle.gc_texts.specs.declared.task_line.TaskLine.TheVariants as says

-- a command has this retry and this `agree`
pub record HasRules (retry : Retry) (agree : Option Agree) (p : Planned) : Type 0 where
  pub retry_is : p.retry ≡ retry
  pub agree_is : p.agree ≡ agree

-- each chained command has the rules of the one before it; `retry` and `agree` are those of the command before these
abbrev pub SameRules : (retry : Retry) (agree : Option Agree) → List Planned → Type 0
SameRules retry agree [] = Unit {0}
SameRules retry agree (p ∷ later) = (p.task.chained ≡ true → HasRules retry agree p) × SameRules p.retry p.agree later

-- a mode has this retry and this `agree`
abbrev pub ModeHasRules : (retry : Retry) (agree : Option Agree) (mode : Mode) → Type 0
ModeHasRules retry agree mode = (mode.retry ≡ retry) × (mode.agree ≡ agree)

-- where the mode is the setup's, or has no group, or has the rules of the command before these lines, each chained command of the cycle
-- has the rules of the one before it (`SameRules`)
pub same_rules : (mode : Mode) (retry : Retry) (agree : Option Agree) (lines : List TaskLine)
    → (mode.setup ≡ true) ⊎ ((mode.group ≡ None) ⊎ ModeHasRules retry agree mode) → SameRules retry agree (planned_of mode lines)
same_rules mode retry agree [] h = tt
same_rules mode retry agree (says.Command c w x ∷ later) h =
    by_setup mode.setup refl h (λ e. same_rules (mode_after mode (says.Command c w x)) retry agree later (inl e))
    (same_rules (mode_after mode (says.Command c w x)) mode.retry mode.agree later (inr (inr (refl, refl)))) where
      -- the lemma above for a command and the lines after it, by whether the mode is that of the setup (`b`)
      by_setup : (b : Bool) → mode.setup ≡ b → (mode.setup ≡ true) ⊎ ((mode.group ≡ None) ⊎ ModeHasRules retry agree mode)
          → (mode.setup ≡ true → SameRules retry agree (planned_of (mode_after mode (says.Command c w x)) later))
          → SameRules mode.retry mode.agree (planned_of (mode_after mode (says.Command c w x)) later)
          → SameRules retry agree
          ((if b then [] else record { task = task_at mode c w x; retry = mode.retry; agree = mode.agree } ∷ []) ++ planned_of (mode_after mode (says.Command c w x)) later)
      by_setup true e h at_start in_cycle = at_start e
      by_setup false e (inl is) at_start in_cycle = let bad : true ≡ false = sym is ∙ e in cc
      by_setup false e (inr (inr is)) at_start in_cycle = ((λ on. record { retry_is = is.0; agree_is = is.1 }), in_cycle)
      by_setup false e (inr (inl is)) at_start in_cycle = (
        (λ on.
            let so : (mode.chained && continues_group mode.group c.target) ≡ true = ap (λ b. if b then nat_lt 0 mode.begun else mode.chained && continues_group mode.group c.target) (sym e) ∙ on in
            absurd (none-some c.target (sym is ∙ continued_group_is mode.group c.target (and_parts mode.chained (continues_group mode.group c.target) so).1))),
        in_cycle,
      )
same_rules mode retry agree (says.Chained ∷ later) h = same_rules (mode_after mode says.Chained) retry agree later (inr (inl refl))
same_rules mode retry agree (says.Unchained ∷ later) h = same_rules (mode_after mode says.Unchained) retry agree later (inr (inl refl))
same_rules mode retry agree (says.Retrying r ∷ later) h = same_rules (mode_after mode (says.Retrying r)) retry agree later (inr (inl refl))
same_rules mode retry agree (says.Agreeing a ∷ later) h = same_rules (mode_after mode (says.Agreeing a)) retry agree later (inr (inl refl))
same_rules mode retry agree (says.AtStart ∷ later) h = same_rules (mode_after mode says.AtStart) retry agree later (inr (inl refl))
same_rules mode retry agree (says.EachCycle ∷ later) h = same_rules (mode_after mode says.EachCycle) retry agree later (inr (inl refl))
same_rules mode retry agree (says.Every n ∷ later) h = same_rules (mode_after mode (says.Every n)) retry agree later (inr (inl refl))
same_rules mode retry agree (line ∷ later) h = same_rules (mode_after mode line) retry agree later h
