-- With a width of eight, the repeat of the first reply has the id of the ninth request.
use Rattle.gc_world.proofs.Common.{◌≡◌, ℕ, List, [], ◌∷◌, ◌++◌, length, Option, Some, refl, sym, ◌∙◌, ap, lit<, arith, Call, ById, hears, State, restarted, by_ids, ids_open, by_numbers, numbers_open, ends, IsExchange, Ends, Step, Send, Up_deliver, Down_deliver, Down_repeat, World, Wire, run}
use Rattle.gc_catalogue.specs.declared.call.Call.TheVariants.{NullProc}
use Rattle.gc_world.specs.Width.{EightDiffers, EightSettlesNine, NumbersSettleOne}
use Rattle.gc_world.specs.World.{with_settled}
use Rattle.gc_world.proofs.Handing.{KeptFits, kept_exchange}

-- the steps before the first delivery of the first reply: its request is sent and handed over, and the reply is repeated
abbrev pub opening_steps : List Step
opening_steps = Send 1 NullProc 9 ∷ Up_deliver ∷ Down_repeat 0 ∷ []

-- the eight further sends
abbrev pub eight_sends : List Step
eight_sends =
    Send 2 NullProc 9 ∷ Send 3 NullProc 9 ∷ Send 4 NullProc 9 ∷ Send 5 NullProc 9 ∷ Send 6 NullProc 9 ∷ Send 7 NullProc 9 ∷ Send 8 NullProc 9 ∷ Send 9 NullProc 9 ∷ []

-- all steps: the opening ones, the delivery of the reply, the sends, and the delivery of the repeat
abbrev pub schedule : List Step
schedule = opening_steps ++ Down_deliver ∷ eight_sends ++ Down_deliver ∷ []

module _ {State : Type 0} (ends : Ends State) (Good : State → Type 0) (ex : IsExchange ends Good) (s : State) (good : Good s) where
  -- the line of the first reply, which is never looked into
  abbrev line : List ℕ
  line = (ends.handed s 0 NullProc).reply

  -- the line of the first reply reads as a reply with the id 0
  zero_heard : ends.heard line ≡ Some 0
  zero_heard = ex.reads s 0 NullProc good (lit< tt)

  -- the world in which the first reply is in the downward queue twice
  abbrev twice : World (ById Call) State
  twice = run ends (by_ids 8 ends) opening_steps (ids_open s)

  -- the world after the first reply was heard once, with this id
  abbrev once_heard : Option ℕ → World (ById Call) State
  once_heard o = with_settled (record twice.wire { down = record { number = 0; line = line } ∷ [] }) (hears twice.client line o)

  -- the world after the first reply was heard once, with the id 0, and then eight other requests were sent
  abbrev full : World (ById Call) State
  full = run ends (by_ids 8 ends) eight_sends (once_heard (Some 0))

  -- the world after these sends (`full`), once the first reply was heard again, with this id
  abbrev heard_again : Option ℕ → World (ById Call) State
  heard_again o = with_settled (record full.wire { down = [] }) (hears full.client line o)

  -- by ids, with a window of eight, the steps of `schedule` settle all nine requests: the first `Down_deliver` one of them, and
  -- the second the other eight
  pub settles_nine : length (run ends (by_ids 8 ends) schedule (ids_open s)).wire.settled ≡ 9
  settles_nine =
      ap (λ o. length (run ends (by_ids 8 ends) (eight_sends ++ Down_deliver ∷ []) (once_heard o)).wire.settled) zero_heard
      ∙ ap (λ o. length (heard_again o).wire.settled) zero_heard

  -- by numbers, with a window of eight, the steps of `schedule` settle one request
  pub settles_one : length (run ends (by_numbers 8) schedule (numbers_open s)).wire.settled ≡ 1
  settles_one = refl

-- with a width of eight the run by ids of `boundary_of_eight` settles nine requests
pub eight_settles_nine : EightSettlesNine
eight_settles_nine opening = settles_nine ends KeptFits kept_exchange (restarted opening) tt

-- with a width of eight the run by numbers of `boundary_of_eight` settles one request
pub numbers_settle_one : NumbersSettleOne
numbers_settle_one opening = settles_one ends KeptFits kept_exchange (restarted opening) tt

-- with a width of eight the two runs of `boundary_of_eight` leave different wires
pub eight_differs : EightDiffers
eight_differs opening e =
    let h : 9 ≡ 1 = sym (eight_settles_nine opening) ∙ ap (λ (w : Wire State). length w.settled) e ∙ numbers_settle_one opening in
    absurd (omega (arith, h))
