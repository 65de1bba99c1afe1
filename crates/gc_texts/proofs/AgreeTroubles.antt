-- What is at fault in the numbers of a line `agree` is at fault in the line.
use Rattle.gc_texts.proofs.Common.{◌≡◌, ℕ, List, codes, behind, IsAgreeTrouble, IsWordTrouble, first_word, Trouble}
use Rattle.gc_texts.specs.declared.trouble.Trouble.TheVariants as trouble

-- the trouble of the numbers that follow the word `agree` is one of the line, which sets something
pub agree_is_setting : (line : List ℕ) (t : Trouble) → first_word line ≡ codes "agree" → IsAgreeTrouble (behind 32 line) t → IsWordTrouble line t
agree_is_setting line trouble.AgreeHz first is = (first, is)
agree_is_setting line trouble.AgreeV first is = (first, is)
agree_is_setting line trouble.AgreeDistance first is = (first, is)
agree_is_setting line trouble.Agree first is = (first, is)
agree_is_setting line _ first is = absurd is
