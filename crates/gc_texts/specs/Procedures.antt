-- Numbers of a text, and procedures with their parameters, as the texts of commands, stations and schedules have them: this project's own.
use Rattle.gc_texts.specs.Common.{NamesNumber, IsCall, Call}
use Rattle.std.specs.Prelude.{◌≡◌, ℕ, ◌<◌, ◌≤◌, List, [], ◌∷◌, ◌++◌, length, Option, Some, None, unwrap_or}

-- the text is the number `n` in digits, without a sign, and `n` is at most `max`
pub record IsNumber (text : List ℕ) (n max : ℕ) : Type 0 where
  pub names : NamesNumber text n
  pub within : n ≤ max

-- the text is the number of a target
abbrev pub IsTarget : (text : List ℕ) → (target : ℕ) → Type 0
IsTarget text target = IsNumber text target 4294967295

-- the text is the number of a procedure, in the table or not
abbrev pub IsRpc : (text : List ℕ) → (rpc : ℕ) → Type 0
IsRpc text rpc = IsNumber text rpc 65535

-- what follows a procedure's number: nothing, or a space and the parameters
abbrev pub params_text_of : Option (List ℕ) → List ℕ
params_text_of None = []
params_text_of (Some params) = 32 ∷ params

-- where there are parameters, they have at least one byte
abbrev pub HasBytes : Option (List ℕ) → Type 0
HasBytes None = Unit {0}
HasBytes (Some params) = 0 < length params

-- the text is a procedure's number, and after it a space and parameters, or nothing; the number and the parameters make the call
pub record IsProcedureText (text : List ℕ) (call : Call) : Type 0 where
  pub rpc_text : List ℕ
  pub rpc : ℕ
  pub params : Option (List ℕ)
  pub text_is : text ≡ rpc_text ++ params_text_of params
  pub number : IsRpc rpc_text rpc
  pub some : HasBytes params
  pub calls : IsCall rpc (unwrap_or params []) call
