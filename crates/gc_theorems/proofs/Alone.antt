-- Two requests are sent at once, and the instrument keeps a reply with the second one's id: that reply is booked for the
-- second request.
use Rattle.gc_theorems.proofs.Common.{◌≡◌, ℕ, true, false, List, [], ◌∷◌, ◌++◌, Option, Some, sym, ◌∙◌, ap, subst, lit<, Table, NullProc, Asked, WINDOW, ById, hears, handed_again, Handed, kept_line, State, IsFittingState, by_ids, ids_open, simulator_ends, Numbered, Request, World, Up_deliver, Up_lose, on_wire, replied, with_settled, down_delivered, exchange, Move, Sends, OnLine, moved, WasMadeFrom, wire_behind}
use Rattle.gc_world.proofs.Handing.{kept_of}
use Rattle.gc_theorems.specs.Alone.{SecondIsBookedUnexecuted, two_at_once}

module _ (s : State) (line : List ℕ) where
  -- the world in which the second request alone is in flight
  abbrev second_out : World (ById Asked) State
  second_out = moved simulator_ends (by_ids 7 simulator_ends) (Sends 1 (Table NullProc) 9 ∷ Sends 2 (Table NullProc) 9 ∷ OnLine (Up_lose 0) ∷ []) (ids_open s)

  -- the world once the second request reached an instrument that did `h` with that request
  abbrev reached : Handed State → World (ById Asked) State
  reached h = on_wire second_out (replied second_out.wire 1 [] h)

  -- what the instrument does with a request for whose id it keeps `line`: it sends that line again
  abbrev again : Handed State
  again = record { state = s; reply = line; executed = false }

  -- the world once the reply of an instrument that did `h` came
  abbrev came : Handed State → World (ById Asked) State
  came h = down_delivered (by_ids 7 simulator_ends) (reached h) (reached h).wire.down

  -- the world once the line that was sent again came, if `o` is the id that the client reads in it
  abbrev heard_as : Option ℕ → World (ById Asked) State
  heard_as o = with_settled (record (reached again).wire { down = [] }) (hears (reached again).client line o)

  -- if the instrument keeps a reply with id 1, it sends that reply again for a request with that id
  handed_is : kept_line (kept_of s) (Some 1) ≡ Some line → simulator_ends.handed s 1 (Table NullProc) ≡ again
  handed_is k = handed_again s 1 NullProc line k

  -- if the instrument, in a state that fits (`IsFittingState`), keeps the line with id 1, the client reads id 1 in that line
  heard_is : IsFittingState s → kept_line (kept_of s) (Some 1) ≡ Some line → simulator_ends.heard line ≡ Some 1
  heard_is fits k = ap (λ (h : Handed State). simulator_ends.heard h.reply) (sym (handed_is k)) ∙ exchange.reads s 1 NullProc fits (lit< tt)

  -- if a request reaches the instrument at one of the moves `two_at_once`, the moves before that one are these: two requests are
  -- sent, and the first is lost
  moves_before : (front later : List (Move State)) → two_at_once line ≡ front ++ OnLine Up_deliver ∷ later → front ≡ Sends 1 (Table NullProc) 9 ∷ Sends 2 (Table NullProc) 9 ∷ OnLine (Up_lose 0) ∷ []
  moves_before [] later e = let never : ⊥ = cc in absurd never
  moves_before (a ∷ []) later e = let never : ⊥ = cc in absurd never
  moves_before (a ∷ b ∷ []) later e = let never : ⊥ = cc in absurd never
  moves_before (a ∷ b ∷ c ∷ []) later e = cc
  moves_before (a ∷ b ∷ c ∷ d ∷ []) later e = let never : ⊥ = cc in absurd never
  moves_before (a ∷ b ∷ c ∷ d ∷ f ∷ []) later e = let never : ⊥ = cc in absurd never
  moves_before (a ∷ b ∷ c ∷ d ∷ f ∷ g ∷ front) later e = let never : ⊥ = cc in absurd never

  -- the id of the first of these requests, or 0 if there is none
  abbrev first_id : List (Numbered Request) → ℕ
  first_id [] = 0
  first_id (x ∷ rest) = x.line.id

  -- if the instrument keeps the line with id 1, the line wasn't made on executing the second request
  unmade : kept_line (kept_of s) (Some 1) ≡ Some line → WasMadeFrom WINDOW simulator_ends (ids_open s) (two_at_once line) 1 (Table NullProc) line → ⊥
  unmade k h =
      let here = moves_before h.front h.later h.split in
      let reaches = subst (λ front. (wire_behind WINDOW simulator_ends (ids_open s) front).up ≡ record { number = 1; line = record { id = h.id; call = Table NullProc } } ∷ h.rest) here h.reaches in
      let id : 1 ≡ h.id = ap first_id reaches in
      let executed : (simulator_ends.handed s h.id (Table NullProc)).executed ≡ true =
      subst (λ front. (simulator_ends.handed (wire_behind WINDOW simulator_ends (ids_open s) front).state h.id (Table NullProc)).executed ≡ true) here h.executed in
      let never : false ≡ true =
      sym (ap (λ (h : Handed State). h.executed) (handed_is k)) ∙ subst (λ i. (simulator_ends.handed s i (Table NullProc)).executed ≡ true) (sym id) executed in
      cc

  -- if the instrument, in a state that fits, keeps the line with id 1, the line is booked for the second request, which isn't
  -- executed
  pub booked : IsFittingState s → kept_line (kept_of s) (Some 1) ≡ Some line → SecondIsBookedUnexecuted s line
  booked fits k =
      record {
        possible = (tt, (tt, (tt, (tt, ((1, [], ap (λ (h : Handed State). (reached h).wire.down) (handed_is k)), tt)))));
        settled = ap (λ h. (came h).wire.settled) (handed_is k) ∙ ap (λ o. (heard_as o).wire.settled) (heard_is fits k);
        executed = ap (λ h. (came h).wire.executed) (handed_is k) ∙ ap (λ o. (heard_as o).wire.executed) (heard_is fits k);
        unmade = unmade k;
      }
