-- What `Decimal::read` answers for a text, as `IsDecimalRead` has it.
use Rattle.gc_values.proofs.Common.{◌≡◌, ◌↔◌, inl, ℕ, ◌*◌, ◌^◌, ◌<◌, ◌≤◌, List, Result, Ok, Err, IfErr, MatchResult, refl, ap, GivesSpelled, SpellsDecimal, SignedWithoutZeros, SpellsBeyond, SpellsNothing, IsEither, Decimal, ValueFault, Spelling, Range, Numeral}
use Rattle.std.proofs.Common.{IfOk}
use Rattle.gc_values.proofs.DecimalLaws.{spells_unique, spelled_not_beyond}
use Rattle.gc_values.proofs.ReadLemmas.{ReadsUnits, reads_value, reads_beyond}

-- the clauses of `Decimal::read` but `again`, which follows from `only`: r is the decimal that the text spells, or the fault of a
-- text that spells none
pub record IsDecimalRead (text : List ℕ) (r : Result Decimal ValueFault) : Type 0 where
  pub value : IfOk r (λ d. SpellsDecimal text d)
  pub only : GivesSpelled text r
  pub range : (r ≡ Err Range) ↔ SpellsBeyond text
  pub spelling : (r ≡ Err Spelling) ↔ SpellsNothing text
  pub faults : IfErr r (λ e. IsEither Range Spelling e)

-- a result isn't both a value and a fault
ok_is_no_err : (d : Decimal) (e : ValueFault) (r : Result Decimal ValueFault) → r ≡ Ok d → r ≡ Err e → ⊥
ok_is_no_err d e r h k = absurd (cc)

-- a result isn't both the fault `Range` and the fault `Spelling`
range_is_not_spelling : (r : Result Decimal ValueFault) → r ≡ Err Range → r ≡ Err Spelling → ⊥
range_is_not_spelling r h k = absurd (cc)

-- a text that spells a decimal is read as that decimal (`IsDecimalRead`)
pub reads_ok : (text : List ℕ) (d : Decimal) → SpellsDecimal text d → IsDecimalRead text (Ok d)
reads_ok text d spelled = record {
  value = spelled;
  only = λ e other. ap Ok (spells_unique text d e spelled other);
  range = (λ h. absurd (ok_is_no_err d Range (Ok d) refl h), λ beyond. absurd (spelled_not_beyond text d spelled beyond));
  spelling = (λ h. absurd (ok_is_no_err d Spelling (Ok d) refl h), λ nothing. absurd (nothing spelled.0 spelled.1));
  faults = tt;
}

-- a text that spells a number out of range is read as the fault `Range` (`IsDecimalRead`)
pub reads_range : (text : List ℕ) (e : ValueFault) → e ≡ Range → SpellsBeyond text → IsDecimalRead text (Err e)
reads_range text e is beyond = record {
  value = tt;
  only = λ d spelled. absurd (spelled_not_beyond text d spelled beyond);
  range = (λ _. beyond, λ _. ap Err is);
  spelling = (λ h. absurd (range_is_not_spelling (Err e) (ap Err is) h), λ nothing. absurd (nothing beyond.2.0 beyond.2.1));
  faults = inl is;
}

-- if a text reads as `units` over 10^p (`ReadsUnits`), and r is the decimal that is made of it (`SignedWithoutZeros`), or
-- `Range` where it is out of range, the text is read as r (`IsDecimalRead`)
pub reads_units : (text : List ℕ) (n : Numeral) (units p : ℕ) (r : Result Decimal ValueFault) → ReadsUnits text n units p
    → IfOk r (λ d. SignedWithoutZeros n.negative units p d.digits d.scale)
    → MatchResult r (λ _. units ≤ 10 ^ 13 * 10 ^ p) (λ e. (e ≡ Range) × (10 ^ 13 * 10 ^ p < units)) → IsDecimalRead text r
reads_units text n units p (Ok d) reads made within = reads_ok text d (reads_value text n units p d.digits d.scale reads within made)
reads_units text n units p (Err e) reads made above = reads_range text e above.0 (reads_beyond text n units p reads above.1)
