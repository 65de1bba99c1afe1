-- Foreign lines change nothing.
use Rattle.gc_client.proofs.Common.{◌≡◌, ℕ, ◌↔◌, true, List, [], ◌∷◌, filter, Option, Some, None, refl, ap, ◌∙◌, if◌then◌else◌, is_some, ById, heard, hears}
use Rattle.gc_client.specs.Silence.{IsReplyWithId, is_ours, preceded_by, hears_all, IgnoresForeign}
use Rattle.gc_client.proofs.Digits.{heard_by_grammar}

-- `is_ours` is true of a line exactly where the line is a reply with an id
pub ours_by_grammar : (line : List ℕ) → (is_ours line ≡ true) ↔ IsReplyWithId line
ours_by_grammar line = (λ b. heard_is_reply (heard line) refl b, λ is. ap is_some ((heard_by_grammar line).its is.reply is.is_reply ∙ is.has_id)) where
  -- a line in which an id is heard is a reply with an id
  heard_is_reply : (h : Option ℕ) → heard line ≡ h → is_some h ≡ true → IsReplyWithId line
  heard_is_reply None e b = cc
  heard_is_reply (Some id) e b =
      let found = (heard_by_grammar line).only id e in
      record { reply = found.0; id = id; is_reply = found.1; has_id = found.2 }

-- where two lists of lines do the same to every client, they still do once a line is put in front of the first, and in front of
-- the second only if an id is heard in the line
one_more_line : {Q : Type 0} (c : ById Q) (line : List ℕ) (lines kept : List (List ℕ)) (h : Option ℕ) → heard line ≡ h
    → ((d : ById Q) → hears_all d lines ≡ hears_all d kept)
    → hears_all c (line ∷ lines) ≡ hears_all c (if is_some h then line ∷ kept else kept)
one_more_line c line lines kept None e rest = ap (λ o. preceded_by (hears c line o).settlements (hears_all (hears c line o).client lines)) e ∙ rest c
one_more_line c line lines kept (Some id) e rest = ap (preceded_by (hears c line (heard line)).settlements) (rest (hears c line (heard line)).client)

-- in every client a list of lines does the same as that list without the lines that `is_ours` isn't true of
pub foreign_lines_are_silent : {Q : Type 0} (c : ById Q) (lines : List (List ℕ)) → IgnoresForeign c lines
foreign_lines_are_silent c [] = refl
foreign_lines_are_silent c (line ∷ lines) = one_more_line c line lines (filter is_ours lines) (heard line) refl (λ d. foreign_lines_are_silent d lines)
