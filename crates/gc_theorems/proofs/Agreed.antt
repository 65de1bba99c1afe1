-- Of an agreed answer and the one that it agrees with, one line at least is own, or both are damaged: both records have their answers, and
-- two records have two requests, which aren't settled by damaged lines at one step.
use Rattle.gc_theorems.proofs.Common.{◌≡◌, inl, inr, ℕ, ◌+◌, ◌<◌, true, List, ◌∷◌, ◌++◌, length, Option, Some, sym, ◌∙◌, ap, subst, arith, append_assoc, slice_get, same_Some, Answer, KeptReply, line_of, AgreesWithFirst, went_out, Record, get_behind, Ends, UnderWay, IsAnInstrument, HarmedProgram, IsInHarmedField, IsLocal, IsRunLocal, WasSettledByDamage, parts_of_program, records_of_program, sent_before, HarmedStretch, HasDamageApart}
use Rattle.std.proofs.lemmas.List.{length-append}
use Rattle.gc_lines.proofs.Lists.{all_at}
use Rattle.gc_texts.specs.declared.agree.Agree.{Agree}
use Rattle.gc_station.proofs.Nearly.{rows_agree}
use Rattle.gc_theorems.specs.Agreed.{AnswerOf, HasAnOwnAnswer, HasAnOwnAnswerIfAgreed, IsOneOwn}
use Rattle.gc_theorems.proofs.FewRecords.{more_sent}
use Rattle.gc_theorems.proofs.DamagedRuns.{run_local}

-- the element behind these is at their number
at_length : {A : Type 0} (all front : List A) (y : A) (behind : List A) → all ≡ front ++ y ∷ behind → slice_get all (length front) ≡ Some y
at_length all front y behind e = ap (λ l. slice_get l (length front)) e ∙ get_behind front (y ∷ behind) (length front) 0 (omega arith)

module _ {State : Type 0} (ends : Ends State) (Good : State → Type 0) (kept : State → Option KeptReply) (is : IsAnInstrument ends Good kept) where
  -- requests of one stretch that are settled by damaged lines at one step are one
  one_at_a_step : (s t : HarmedStretch State) (m n : ℕ) (said line : List ℕ) → s ≡ t → IsLocal ends Good kept s
      → (a : WasSettledByDamage ends s m said) (b : WasSettledByDamage ends t n line) → a.front ≡ b.front → m ≡ n
  one_at_a_step s t m n said line e local a =
      subst (λ t. (b : WasSettledByDamage ends t n line) → a.front ≡ b.front → m ≡ n) e (λ b front. local.own.one_each m n said line a b front)

  module _ (x : HarmedProgram State) (local : IsRunLocal ends Good kept x) where
    -- two records of such a run, of which `f`, which was answered, is before `r`
    record AreInOrder (front before : List Record) (f r : Record) : Type 0 where
      got : slice_get (records_of_program x) (length front) ≡ Some f
      out : went_out f.end ≡ true
      order : length front < length before

    -- of two records one line at least is own, or both are damaged
    one_own : (front before : List Record) (f r : Record) (said line : List ℕ) → AreInOrder front before f r → (a : AnswerOf ends x front f said) (b : AnswerOf ends x before r line)
        → HasDamageApart ends a.of.stretch → HasDamageApart ends b.of.stretch → IsOneOwn ends x front before f r a.of b.of said line
    one_own front before f r said line in_order a b apart apart' = elim (a.from apart) [
      | inl own ↦ inl own
      | inr damaged ↦ elim (b.from apart') [
        | inl own ↦ inr (inl own)
        | inr also ↦ inr (inr (record {
          first = damaged;
          second = also;
          two = λ same step.
              let stretch = same_Some a.of.stretch b.of.stretch (sym a.of.of_stretches ∙ ap (λ k. slice_get x.stretches k) same ∙ b.of.of_stretches) in
              let here = all_at (λ s. HasDamageApart ends s → IsLocal ends Good kept s) x.stretches a.of.k a.of.stretch local.each a.of.of_stretches apart in
              let m : 8 + a.of.m ≡ 8 + b.of.m = one_at_a_step a.of.stretch b.of.stretch (8 + a.of.m) (8 + b.of.m) said line stretch here damaged also step in
              let m' : a.of.m ≡ b.of.m = omega (arith, m) in
              let count = sym a.of.counted ∙ ap (λ k. sent_before (parts_of_program x) k a.of.m) same ∙ ap (λ m. sent_before (parts_of_program x) b.of.k m) m' ∙ b.of.counted in
              let more = more_sent (records_of_program x) (length front) (length before) f in_order.got in_order.out in_order.order in
              absurd (omega (arith, count, more));
        }))
      ]
    ]

    -- an answer that agrees with that of a first sending has an own one
    has_own : (agree : Agree) (before later : List Record) (r : Record) (answer : Option Answer) (line : List ℕ) → records_of_program x ≡ before ++ r ∷ later → line_of r.end ≡ Some line
        → AgreesWithFirst agree before r answer → HasAnOwnAnswer ends x agree before r answer line
    has_own agree before later r answer line at says agreed =
        let g = agreed.first in
        let split : records_of_program x ≡ g.front ++ g.first ∷ (g.behind ++ r ∷ later) =
        at ∙ ap (λ l. l ++ r ∷ later) g.order ∙ append_assoc g.front (g.first ∷ g.behind) (r ∷ later) in
        let got = at_length (records_of_program x) g.front g.first (g.behind ++ r ∷ later) split in
        let many = ap length g.order ∙ length-append g.front (g.first ∷ g.behind) in
        let a = local.answers (length g.front) g.first got g.line (ap line_of g.answered) in
        let b = local.answers (length before) r (at_length (records_of_program x) before r later at) line says in
        record {
          agreed = agreed;
          first = a;
          second = b;
          own = λ apart apart'. one_own g.front before g.first r g.line line (record { got = got; out = ap went_out g.answered; order = omega (arith, many) }) a b apart apart';
        }

  -- each record of a run over a line that damages is so
  pub agreed_own : (u : UnderWay State) (x : HarmedProgram State) → IsInHarmedField ends Good kept u x
      → (before later : List Record) (r : Record) → records_of_program x ≡ before ++ r ∷ later → HasAnOwnAnswerIfAgreed ends x before r
  agreed_own u x field before later r at task agree nth quality answer line listed twice ended good =
      has_own x (run_local ends Good kept is u x field) agree before later r answer line at (ap line_of ended)
      (rows_agree.second x.plan x.commands x.scope x.acts before later r at task agree nth quality answer line listed twice ended good)
