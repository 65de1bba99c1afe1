-- Records that calls of C on a session's state hand out: each is its own, as the settlement is that it is of.
use Rattle.geocom_c.proofs.Common.{◌≡◌, ◌∙◌, ℕ, List, [], ◌∷◌, take, Option, refl, sym, ap, arith, AllByRecursion, Asked, Settlement, WINDOW, KeptReply, PlacedRun, placed_runs, EachSessionIsOwn, IsOwnIfCallers, Ends, AreSideBySide, Handed, IsHanded, handed_all, HasOutcome, ANSWERED, LATE, GeocomSettlement}
use Rattle.geocom_c.specs.SessionLaws.{EachRecordIsOwn, IsOwnHanded}
use Rattle.geocom_c.proofs.SessionCalls.{calls_are_calls}
use Rattle.gc_client.specs.Rule as rule

-- a record of an answer is of a request that was answered, by the line at the front of the text
of_answer : (r : GeocomSettlement) (text : List ℕ) (call : Asked) (o : rule.Outcome) → HasOutcome r text call o → r.outcome ≡ ANSWERED
    → o ≡ rule.Answered (take r.line_length text)
of_answer r text call (rule.Answered line) has is = ap (λ l. rule.Answered l) (sym has.front)
of_answer r text call rule.Late has is = absurd (omega (arith, has.unanswered, is))
of_answer r text call rule.Lost has is = absurd (omega (arith, has.unanswered, is))

-- a record of a late reply is of a request that is late
of_late : (r : GeocomSettlement) (text : List ℕ) (call : Asked) (o : rule.Outcome) → HasOutcome r text call o → r.outcome ≡ LATE → o ≡ rule.Late
of_late r text call (rule.Answered line) has is = absurd (omega (arith, has.answered, is))
of_late r text call rule.Late has is = refl
of_late r text call rule.Lost has is = absurd (omega (arith, has.unanswered, is))

module _ {State : Type 0} (ends : Ends State) (Good : State → Type 0) (kept : State → Option KeptReply) where
  handed_own : (ps : List (PlacedRun State)) (h : Handed) (s : Settlement Asked) → IsHanded h s → IsOwnIfCallers ends Good kept ps s → IsOwnHanded ends Good kept ps h s
  handed_own ps h s is own = record {
    is = is;
    answer = λ other answered. (own (λ e. other (is.target ∙ e))).answer _ (of_answer h.settlement h.text s.call s.outcome is.outcome answered);
    late = λ other late. (own (λ e. other (is.target ∙ e))).late (of_late h.settlement h.text s.call s.outcome is.outcome late);
  }

  each_handed_own : (ps : List (PlacedRun State)) (hs : List Handed) (ss : List (Settlement Asked)) → AreSideBySide IsHanded hs ss
      → AllByRecursion (IsOwnIfCallers ends Good kept ps) ss → AreSideBySide (IsOwnHanded ends Good kept ps) hs ss
  each_handed_own ps [] [] are own = tt
  each_handed_own ps [] (s ∷ ss) are own = absurd are
  each_handed_own ps (h ∷ hs) [] are own = absurd are
  each_handed_own ps (h ∷ hs) (s ∷ ss) are own = (handed_own ps h s are.0 own.0, each_handed_own ps hs ss are.1 own.1)

  -- the law: where each settlement of a session is its own, so is each record that is handed out
  pub records_own : EachSessionIsOwn ends Good kept → EachRecordIsOwn ends Good kept
  records_own law old new calls x last held keeps made part u lines may over =
      each_handed_own (placed_runs WINDOW ends u x.runs) (handed_all calls) _ ((calls_are_calls.on _ [] old new calls held keeps made).did x.calls last part).settled
      (law u lines may x over).own
