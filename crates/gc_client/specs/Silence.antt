-- Foreign lines, this project's own: lines that are no replies, and replies without an id.
use Rattle.std.specs.Prelude.{◌≡◌, ℕ, Bool, List, [], ◌∷◌, ◌++◌, filter, Some}
use Rattle.std.specs.Option.{is_some}
use Rattle.gc_lines.specs.Prelude.{ReplyFields, IsReply}
use Rattle.gc_client.specs.Rule.{Settlement, Settled, ById, heard, nothing_settled, hears_line}

-- a line is a reply with an id, by the grammar
pub record IsReplyWithId (line : List ℕ) : Type 0 where
  pub reply : ReplyFields
  pub id : ℕ
  pub is_reply : IsReply line reply
  pub has_id : reply.id ≡ Some id

-- whether the client takes an id from a line, as it does from each reply with an id (`ours` of the law
-- `foreign_lines_are_silent`)
abbrev pub is_ours : List ℕ → Bool
is_ours line = is_some (heard line)

-- `x` with these earlier settlements in front of its own
abbrev pub preceded_by : {Q : Type 0} → List (Settlement Q) → Settled Q (ById Q) → Settled Q (ById Q)
preceded_by settlements x = record { settlements = settlements ++ x.settlements; client = x.client }

-- what all these lines settle, in order, and the client after them
abbrev pub hears_all : {Q : Type 0} → ById Q → List (List ℕ) → Settled Q (ById Q)
hears_all c [] = nothing_settled c
hears_all c (line ∷ lines) = preceded_by (hears_line c line).settlements (hears_all (hears_line c line).client lines)

-- from this client on, a list of lines and that list without its foreign lines give the same settlements and the same client
abbrev pub IgnoresForeign : {Q : Type 0} → ById Q → (lines : List (List ℕ)) → Type 0
IgnoresForeign c lines = hears_all c lines ≡ hears_all c (filter is_ours lines)
