-- Of a chain over a line that damages: a command is sent only after the answers of those before it in its chain, as a request of the same
-- stretch; and of two requests of a stretch the one that was sent first is executed first.
use Rattle.gc_theorems.proofs.Common.{◌≡◌, ℕ, ◌+◌, ◌<◌, List, ◌∷◌, ◌++◌, length, Option, Some, sym, ◌∙◌, ap, subst, arith, slice_get, same_Some, slice_get_within, KeptReply, line_of, IsAnsweredEarlier, IsSentAfter, MarksGoOnIn, parts, Part, mark_of, Record, state_after, opening, chains_stay, marks_go_on, get_more, IsFront, front_last, front_parts, records_stay, Ends, Up_deliver, UnderWay, OnLine, IsAnInstrument, Harm, Does, WasMadeAmid, HarmedProgram, IsInHarmedField, IsRunLocal, parts_of_program, records_of_program, left_by_sync, HarmedStretch, once_synchronized}
use Rattle.gc_theorems.proofs.Chained.{not_before_itself, same_place}
use Rattle.gc_theorems.specs.DamagedChains.{AnswerAt, IsChainedTo, IsInOrderInChain}
use Rattle.gc_theorems.proofs.InOrder.{made_in_order, rises_begun}
use Rattle.gc_theorems.proofs.DamagedRuns.{run_local}

module _ {State : Type 0} (ends : Ends State) where
  -- of two requests of one stretch, the one that was sent first is executed first
  stretch_in_order : (s t : HarmedStretch State) (m n : ℕ) → s ≡ t → m < n → {call_m call_n : _} {line_m line_n : List ℕ}
      → (f : WasMadeAmid 7 ends (once_synchronized ends s) s.steps (8 + m) call_m line_m)
      → (h : WasMadeAmid 7 ends (once_synchronized ends t) t.steps (8 + n) call_n line_n)
      → (between : List (Harm State)) × (h.front ≡ f.front ++ Does (OnLine Up_deliver) ∷ between)
  stretch_in_order s t m n e less {call_m = call_m} {call_n = call_n} {line_m = line_m} {line_n = line_n} f =
      subst (λ (t : HarmedStretch State). (h : WasMadeAmid 7 ends (once_synchronized ends t) t.steps (8 + n) call_n line_n) → (between : List (Harm State)) × (h.front ≡ f.front ++ Does (OnLine Up_deliver) ∷ between)) e
      (λ h. made_in_order 7 ends (once_synchronized ends s) s.steps (8 + m) (8 + n) call_m call_n line_m line_n (rises_begun 7 ends (left_by_sync ends s.over s.turns)) (omega (arith, less)) f h)

  module _ (Good : State → Type 0) (kept : State → Option KeptReply) (is : IsAnInstrument ends Good kept) (x : HarmedProgram State) where
    -- a record whose request was sent after the answer to the command at place a (`back`) is `IsChainedTo` that place, in a run whose commands
    -- go on (`MarksGoOnIn`)
    chained_to : IsRunLocal ends Good kept x → MarksGoOnIn (parts_of_program x) → (a n : ℕ) (b : Record) (line : List ℕ) (second : AnswerAt ends x n b line) → 0 < b.cycle
        → (sent : IsSentAfter x.plan x.commands x.scope x.acts second.of.k second.of.m (mark_of second.of.expected b))
        → (back : IsAnsweredEarlier x.plan x.commands x.scope sent.before sent.so_far b.cycle a) → IsChainedTo ends x a n b line
    chained_to local go_on a n b line second many sent back =
        let q = second.of in
        let answer = back.its.answer in
        let k = back.its.k in
        let mark = mark_of back.expected answer in
        let front : IsFront (parts x.plan x.commands x.scope sent.before) (parts_of_program x) =
        subst (λ l. IsFront (parts x.plan x.commands x.scope sent.before) (parts x.plan x.commands x.scope l)) (sym sent.order) (front_parts x.plan x.commands (opening x.plan x.scope) sent.before sent.rest) in
        let more = front_last (parts x.plan x.commands x.scope sent.before) (parts_of_program x) q.k sent.so_far q.part front sent.last sent.of_parts q.of_parts in
        let mark_a : slice_get q.part.marks back.m ≡ Some (Some mark) =
        ap (λ (p : Part). slice_get p.marks back.m) more.1 ∙ get_more sent.so_far.marks more.0.marks back.m (Some mark) back.mark in
        let small : back.m < length sent.so_far.marks = slice_get_within sent.so_far.marks back.m (Some mark) back.mark in
        let grown = records_stay x.plan x.commands x.scope sent.before sent.rest in
        let among : slice_get (records_of_program x) k ≡ Some answer =
        ap (λ l. slice_get (state_after x.plan x.commands x.scope l).records k) sent.order ∙ ap (λ l. slice_get l k) grown.1
        ∙ get_more (state_after x.plan x.commands x.scope sent.before).records grown.0 k answer back.its.among in
        let first : AnswerAt ends x k answer back.its.good.line = local.answers k answer among back.its.good.line (ap line_of back.its.good.answered) in
        let p = first.of in
        let own : 0 < answer.cycle = subst (λ c. 0 < c) (sym back.its.own_cycle) many in
        let place = same_place p.k q.k p.m back.m
        (λ l. not_before_itself answer.cycle answer.place (go_on p.k q.k p.m back.m p.part q.part (mark_of p.expected answer) mark p.of_parts q.of_parts p.mark mark_a l own own))
        (λ l. not_before_itself answer.cycle answer.place (go_on q.k p.k back.m p.m q.part p.part mark (mark_of p.expected answer) q.of_parts p.of_parts mark_a p.mark l own own)) in
        let here = place.1 in
        let goes_on : p.m < q.m = omega (arith, here, small, sent.count) in
        let stretch = same_Some p.stretch q.stretch (sym p.of_stretches ∙ ap (λ k. slice_get x.stretches k) place.0 ∙ q.of_stretches) in
        record {
          earlier = record { k = k; answer = answer; among = among; own_cycle = back.its.own_cycle; own_place = back.its.own_place; good = back.its.good };
          first = first;
          second = second;
          one_stretch = place.0;
          goes_on = goes_on;
          in_order = λ f h. stretch_in_order p.stretch q.stretch p.m q.m stretch goes_on f h;
        }

    -- each record of a run over a line that damages is `IsInOrderInChain`
    pub chains_in_order : (u : UnderWay State) → IsInHarmedField ends Good kept u x
        → (n : ℕ) (b : Record) → slice_get (records_of_program x) n ≡ Some b → IsInOrderInChain ends x n b
    chains_in_order u field n b at line a ended many low less chained =
        let local = run_local ends Good kept is u x field in
        let second : AnswerAt ends x n b line = local.answers n b at line ended in
        let q = second.of in
        let sent = chains_stay x.plan x.commands x.scope x.acts field.runs q.k q.m q.part (mark_of q.expected b) q.of_parts q.mark many in
        chained_to local (marks_go_on x.plan x.commands x.scope x.acts field.runs) a n b line second many sent (sent.chain a low less chained)
