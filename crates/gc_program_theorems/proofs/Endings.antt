-- How a command ended, by the word of its outcome.
use Rattle.gc_program_theorems.proofs.Common.{◌≡◌, inl, inr, ℕ, Bool, false, List, [], get_or, Option, Some, is_some, refl, sym, ap, arith, codes, Answer, ValueFault, End, Answered, Judged, Late, Lost, Skipped, NoValue, Missed, word_of, fault_of, quality_of, quality_text, line_of, judgements, IsJudgement, named_among, no_judgement_word, Quality, fault_field, IsOutcomeOfReply}
use Rattle.gc_texts.specs.Prelude.{Unreadable}
use Rattle.gc_texts.specs.declared.judgement.Judgement.{Judgement}

-- the first letter of a word
abbrev pub first_letter : List ℕ → ℕ
first_letter word = get_or word 0 0

-- whether a word is that of a judgement
abbrev names_judgement : List ℕ → Bool
names_judgement word = is_some (named_among judgements word)

-- a word that names no judgement isn't that of one
not_judged : (word : List ℕ) → names_judgement word ≡ false → (j : Judgement) → IsJudgement word j → ⊥
not_judged word none j is = no_judgement_word names_judgement refl word none j is

-- a word with the first letter of neither `answered` nor `unreadable`, which names no judgement, is no outcome of a reply
pub no_outcome_of_reply : (word : List ℕ) → (first_letter word ≡ first_letter (codes "answered") → ⊥) → (first_letter word ≡ first_letter (codes "unreadable") → ⊥)
    → names_judgement word ≡ false → IsOutcomeOfReply word → ⊥
no_outcome_of_reply word a u none (inl is) = a (ap first_letter is)
no_outcome_of_reply word a u none (inr (inl is)) = u (ap first_letter is)
no_outcome_of_reply word a u none (inr (inr is)) = not_judged word none is.0 is.1

-- if the outcome is that of a reply, a reply in time ended the command
pub reply_ended : (end : End) → IsOutcomeOfReply (word_of end) → (line : List ℕ) × (line_of end ≡ Some line)
reply_ended (Answered quality answer line) is = (line, refl)
reply_ended (Unreadable line fault) is = (line, refl)
reply_ended (Judged judgement line) is = (line, refl)
reply_ended Late is = absurd (no_outcome_of_reply (codes "late") (λ e. omega (arith, e)) (λ e. omega (arith, e)) refl is)
reply_ended Lost is = absurd (no_outcome_of_reply (codes "lost") (λ e. omega (arith, e)) (λ e. omega (arith, e)) refl is)
reply_ended Skipped is = absurd (no_outcome_of_reply (codes "skipped") (λ e. omega (arith, e)) (λ e. omega (arith, e)) refl is)
reply_ended NoValue is = absurd (no_outcome_of_reply (codes "no_value") (λ e. omega (arith, e)) (λ e. omega (arith, e)) refl is)
reply_ended Missed is = absurd (no_outcome_of_reply (codes "missed") (λ e. omega (arith, e)) (λ e. omega (arith, e)) refl is)

-- a word with another first letter than `answered` isn't `answered`
pub not_answered : (word : List ℕ) → (first_letter word ≡ first_letter (codes "answered") → ⊥) → word ≡ codes "answered" → ⊥
not_answered word other is = other (ap first_letter is)

-- a word with another first letter than `unreadable` isn't `unreadable`
not_unreadable : (word : List ℕ) → (first_letter word ≡ first_letter (codes "unreadable") → ⊥) → word ≡ codes "unreadable" → ⊥
not_unreadable word other is = other (ap first_letter is)

-- a command whose outcome is `answered` ended as `Answered`, with a quality and maybe with values
pub is_answered : (end : End) → word_of end ≡ codes "answered" → (quality : Quality) × (values : Option Answer) × (line : List ℕ) × (end ≡ Answered quality values line)
is_answered (Answered quality values line) word = (quality, values, line, refl)
is_answered (Unreadable l fault) word = absurd (not_answered (codes "unreadable") (λ e. omega (arith, e)) word)
is_answered (Judged judgement l) word = absurd (not_judged (codes "answered") refl judgement (sym word))
is_answered Late word = absurd (not_answered (codes "late") (λ e. omega (arith, e)) word)
is_answered Lost word = absurd (not_answered (codes "lost") (λ e. omega (arith, e)) word)
is_answered Skipped word = absurd (not_answered (codes "skipped") (λ e. omega (arith, e)) word)
is_answered NoValue word = absurd (not_answered (codes "no_value") (λ e. omega (arith, e)) word)
is_answered Missed word = absurd (not_answered (codes "missed") (λ e. omega (arith, e)) word)

-- a command whose outcome isn't `answered` has no quality
pub without_quality : (end : End) → (word_of end ≡ codes "answered" → ⊥) → quality_text (quality_of end) ≡ []
without_quality (Answered quality values line) other = absurd (other refl)
without_quality (Unreadable l fault) other = refl
without_quality (Judged judgement l) other = refl
without_quality Late other = refl
without_quality Lost other = refl
without_quality Skipped other = refl
without_quality NoValue other = refl
without_quality Missed other = refl

-- a command whose outcome is `unreadable` ended as `Unreadable`, for a fault
pub is_unreadable : (end : End) → word_of end ≡ codes "unreadable" → (line : List ℕ) × (why : ValueFault) × (end ≡ Unreadable line why)
is_unreadable (Answered quality values l) word = absurd (not_unreadable (codes "answered") (λ e. omega (arith, e)) word)
is_unreadable (Unreadable line why) word = (line, why, refl)
is_unreadable (Judged judgement l) word = absurd (not_judged (codes "unreadable") refl judgement (sym word))
is_unreadable Late word = absurd (not_unreadable (codes "late") (λ e. omega (arith, e)) word)
is_unreadable Lost word = absurd (not_unreadable (codes "lost") (λ e. omega (arith, e)) word)
is_unreadable Skipped word = absurd (not_unreadable (codes "skipped") (λ e. omega (arith, e)) word)
is_unreadable NoValue word = absurd (not_unreadable (codes "no_value") (λ e. omega (arith, e)) word)
is_unreadable Missed word = absurd (not_unreadable (codes "missed") (λ e. omega (arith, e)) word)

-- a command whose outcome isn't `unreadable` has no fault
pub without_fault : (end : End) → (word_of end ≡ codes "unreadable" → ⊥) → fault_field (fault_of end) ≡ []
without_fault (Answered quality values line) other = refl
without_fault (Unreadable l fault) other = absurd (other refl)
without_fault (Judged judgement l) other = refl
without_fault Late other = refl
without_fault Lost other = refl
without_fault Skipped other = refl
without_fault NoValue other = refl
without_fault Missed other = refl
