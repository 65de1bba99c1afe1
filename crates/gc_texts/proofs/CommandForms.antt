-- Which lines have the form of a command, and of which one.
use Rattle.gc_texts.proofs.Common.{◌≡◌, ℕ, List, Option, Some, None, ap, subst, sym, ◌∙◌, same_Some, Call, IsCommand, Cuts, OneCommandList, is_kept, text_lines, IsTarget, IsProcedureText, NoTarget, Command}
use Rattle.std.specs.Prelude.{filter}
use Rattle.gc_texts.proofs.Cutting.{cut_found, one_front, digits_lack_spaces}
use Rattle.gc_texts.proofs.OneReading.{one_procedure, one_list}
use Rattle.gc_texts.proofs.Procedures.{one_number}

-- the parts of a line that has the form of a command, and which lines can't have it
module _ (line : List ℕ) (command : Command) (is : IsCommand line command) where
  -- the first space of a command's line is between its target and its procedure
  cut_after_target : (target : List ℕ) (rest : Option (List ℕ)) → Cuts 32 line target rest → (target ≡ is.target_text) × (rest ≡ Some is.procedure)
  cut_after_target target rest cut = cut_found 32 line target rest is.target_text is.procedure cut is.line_is (digits_lack_spaces is.target_text is.target_is.names.digits)

  -- a line without a space is no command's
  pub unspaced_is_no_command : (target : List ℕ) → Cuts 32 line target None → ⊥
  unspaced_is_no_command target cut = let parts = cut_after_target target None cut in let bad : None ≡ Some is.procedure = parts.1 in cc

  -- a line with no target before its first space is no command's
  pub targetless_is_no_command : (target : List ℕ) (rest : Option (List ℕ)) → Cuts 32 line target rest → NoTarget target → ⊥
  targetless_is_no_command target rest cut none = none command.target (subst (λ (ds : List ℕ). IsTarget ds command.target) (sym (cut_after_target target rest cut).0) is.target_is)

  -- a line with no call after its first space is no command's
  pub callless_is_no_command : (target procedure : List ℕ) → Cuts 32 line target (Some procedure)
      → ((c : Call) → IsProcedureText procedure c → ⊥) → ⊥
  callless_is_no_command target procedure cut none = none command.call (subst (λ (p : List ℕ). IsProcedureText p command.call)
      (sym (same_Some procedure is.procedure (cut_after_target target (Some procedure) cut).1)) is.procedure_is)

-- two commands with equal targets and equal calls are equal
same_command : (c d : Command) → c.target ≡ d.target → c.call ≡ d.call → c ≡ d
same_command c d e f = ap (λ t. record { target = t; call = c.call }) e ∙ ap (λ x. record { target = d.target; call = x }) f

-- a line has the form of one command at most
pub one_command : (line : List ℕ) (c d : Command) → IsCommand line c → IsCommand line d → c ≡ d
one_command line c d r s =
    let parts = one_front 32 r.target_text s.target_text r.procedure s.procedure (sym r.line_is ∙ s.line_is)
    (digits_lack_spaces r.target_text r.target_is.names.digits) (digits_lack_spaces s.target_text s.target_is.names.digits) in
    same_command c d
    (one_number s.target_text c.target d.target 4294967295 (subst (λ (x : List ℕ). IsTarget x c.target) parts.0 r.target_is) s.target_is)
    (one_procedure s.procedure c.call d.call (subst (λ (x : List ℕ). IsProcedureText x c.call) parts.1 r.procedure_is) s.procedure_is)

-- the law: a text gives one list of commands at most
pub one_command_list : OneCommandList
one_command_list text xs ys h k = one_list IsCommand one_command (filter is_kept (text_lines text)) xs ys h k
