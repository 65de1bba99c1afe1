-- Callers who are served one after the other, and what is written of them. `ServesCallers` says how many callers were served, which ends
-- their connections had, and that the messages grew by the lines of these.
use Rattle.gc_ask.proofs.Common.{◌≡◌, ℕ, suc, ◌+◌, Bool, true, List, [], ◌∷◌, ◌++◌, length, Option, Some, None, refl, sym, ap, ◌∙◌, subst, arith, append_assoc, length-append, codes, Appends, Appends-trans, Appends-nil, run_fault_number, Appends-is, ConnectionEnd, AddsEnds, KeepsCallers, ServesCallers, ServesTurns, caller_line, end_line, end_lines}
use Rattle.std.proofs.lemmas.List.{append-nil}
use Rattle.std.specs.Fmt.{decimal}
use Rattle.gc_ask.specs.declared.callers.CallerFault.TheVariants.{Socket}
use Rattle.gc_texts.specs.declared.fault.RunFault.TheVariants as fault

-- where the ends that are known grew by some, and then by others, they grew by both in this order
pub adds_more : (a b c : Option (List ConnectionEnd)) (xs ys : List ConnectionEnd) → AddsEnds a b xs → AddsEnds b c ys → AddsEnds a c (xs ++ ys)
adds_more None b c xs ys h k = tt
adds_more (Some a) b c xs ys h k = subst (λ (o : Option (List ConnectionEnd)). AddsEnds o c ys) h k ∙ ap Some (append_assoc a xs ys)

-- ends that stayed the same grew by none
pub adds_none : (a : Option (List ConnectionEnd)) → AddsEnds a a []
adds_none None = tt
adds_none (Some a) = ap Some (sym (append-nil a))

-- what is written of connections, the first of which has the number n, and of one more is what is written of them, and then what
-- is written of that one under the next number
pub end_lines_append : (n : ℕ) (ends : List ConnectionEnd) (end : ConnectionEnd) → end_lines n (ends ++ end ∷ []) ≡ end_lines n ends ++ end_line (n + length ends) end
end_lines_append n [] end =
    let at : n ≡ n + 0 = omega arith in
    append-nil (end_line n end) ∙ ap (λ (m : ℕ). end_line m end) at
end_lines_append n (first ∷ later) end =
    let at : n + 1 + length later ≡ n + suc (length later) = omega arith in
    ap (λ xs. end_line n first ++ xs) (end_lines_append (n + 1) later end ∙ ap (λ (m : ℕ). end_lines (n + 1) later ++ end_line m end) at)
    ∙ sym (append_assoc (end_line n first) (end_lines (n + 1) later) (end_line (n + suc (length later)) end))

-- before anybody is served, `ServesCallers` is true with 0 callers
pub serves_none : (served : Option (List ConnectionEnd)) (messages : Option (List ℕ)) → ServesCallers 0 true served served messages messages
serves_none served messages = record {
  ends = [];
  count = refl;
  served = adds_none served;
  lines = λ _. Appends-nil messages;
}

-- where `ServesCallers` is true with n callers, and one more was served, it is true with n + 1, if `all_written'` says that his line was
-- written, too. `s0` are the ends known at first, `s1` before this caller, and `s2` after him; `m0` to `m2` are the messages then
pub serves_more : (n : ℕ) (all_written all_written' : Bool) (s0 s1 s2 : Option (List ConnectionEnd)) (m0 m1 m2 : Option (List ℕ)) (end : ConnectionEnd)
    → ServesCallers n all_written s0 s1 m0 m1 → AddsEnds s1 s2 (end ∷ []) → (all_written' ≡ true → (all_written ≡ true) × Appends m1 m2 (end_line (n + 1) end))
    → ServesCallers (n + 1) all_written' s0 s2 m0 m2
serves_more n all_written all_written' s0 s1 s2 m0 m1 m2 end kept grew tells =
    let at : 1 + length kept.ends ≡ n + 1 = omega (arith, kept.count) in
    let text : end_lines 1 kept.ends ++ end_line (n + 1) end ≡ end_lines 1 (kept.ends ++ end ∷ []) =
    ap (λ (m : ℕ). end_lines 1 kept.ends ++ end_line m end) (sym at) ∙ sym (end_lines_append 1 kept.ends end) in
    record {
      ends = kept.ends ++ end ∷ [];
      count = length-append kept.ends (end ∷ []) ∙ ap (λ m. m + 1) kept.count;
      served = adds_more s0 s1 s2 kept.ends (end ∷ []) kept.served grew;
      lines = λ all.
          let t = tells all in
          Appends-is m0 m2 _ _ text (Appends-trans m0 m1 m2 (end_lines 1 kept.ends) (end_line (n + 1) end) (kept.lines t.0) t.1);
    }

-- the pieces that are written one after the other of the line of the fault `Socket`, whose number is n, make up that line
pub socket_line : (number n : ℕ) → n ≡ run_fault_number fault.Socket
    → codes "geocom: connection " ++ (decimal number ++ (codes ": fault " ++ (decimal n ++ codes "\n"))) ≡ caller_line number Socket
socket_line number n is =
    ap (λ m. codes "geocom: connection " ++ (decimal number ++ (codes ": fault " ++ (decimal m ++ codes "\n")))) is
    ∙ ap (λ xs. codes "geocom: connection " ++ (decimal number ++ (codes ": fault " ++ (xs ++ codes "\n")))) (sym (append-nil (decimal (run_fault_number fault.Socket))))

-- what is done of each caller
module _ {C : Type 0} (serves : C → C → ConnectionEnd → Type 0) where
  -- callers who were served, and one more
  turns_more : (before mid after : C) (ends : List ConnectionEnd) (end : ConnectionEnd) → ServesTurns serves before ends mid → serves mid after end
      → ServesTurns serves before (ends ++ end ∷ []) after
  turns_more before mid after [] end turns one = (after, subst (λ state. serves state after end) turns one, refl)
  turns_more before mid after (first ∷ later) end turns one = (turns.0, turns.1, turns_more turns.0 mid after later end turns.2 one)

  -- before anybody is served, and after one more caller was, as `serves_none` and `serves_more` say
  pub keeps_none : (served : C → Option (List ConnectionEnd)) (before : C) (messages : Option (List ℕ)) → KeepsCallers serves served 0 true before before messages messages
  unfolding serves_none
  keeps_none served before messages = record { kept = serves_none (served before) messages; turns = refl }

  pub keeps_more : (served : C → Option (List ConnectionEnd)) (n : ℕ) (all_written all_written' : Bool) (before mid after : C) (m0 m1 m2 : Option (List ℕ)) (end : ConnectionEnd)
      → KeepsCallers serves served n all_written before mid m0 m1 → AddsEnds (served mid) (served after) (end ∷ []) → serves mid after end
      → (all_written' ≡ true → (all_written ≡ true) × Appends m1 m2 (end_line (n + 1) end)) → KeepsCallers serves served (n + 1) all_written' before after m0 m2
  unfolding serves_more
  keeps_more served n all_written all_written' before mid after m0 m1 m2 end keeps grew one tells = record {
    kept = serves_more n all_written all_written' (served before) (served mid) (served after) m0 m1 m2 end keeps.kept grew tells;
    turns = turns_more before mid after keeps.kept.ends end keeps.turns one;
  }

  -- what is seen of callers after each turn, where something of them stays fixed
  pub turns_seen : {State : Type 0} (see : C → State) (fixed : C → ℕ) (most : ℕ) (on : State → State → ConnectionEnd → Type 0)
      → ((a b : C) (end : ConnectionEnd) → fixed a ≡ most → serves a b end → (fixed b ≡ most) × on (see a) (see b) end)
      → (before after : C) (ends : List ConnectionEnd) → fixed before ≡ most → ServesTurns serves before ends after → ServesTurns on (see before) ends (see after)
  turns_seen see fixed most on each before after [] is turns = ap see turns
  turns_seen see fixed most on each before after (end ∷ later) is turns =
      let one = each before turns.0 end is turns.1 in
      (see turns.0, one.1, turns_seen see fixed most on each turns.0 after later one.0 turns.2)
