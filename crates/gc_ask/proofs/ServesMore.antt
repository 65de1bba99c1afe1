-- Connections that are served one after the other.
use Rattle.gc_ask.proofs.Common.{◌≡◌, ℕ, ◌+◌, ◌<◌, List, [], ◌∷◌, ◌++◌, length, Result, Ok, Err, refl, sym, ap, ◌∙◌, subst, arith, length-append, AllByRecursion, AnswerRule, Frame, end_of_serving, RunFault, LinkResult, EndedWell, ServedConnection, ServesConnection, ServesInOrder, ServesNext, ServesOne, ServesEach, ServesWell}
use Rattle.gc_lines.specs.declared.served.Served.{Served}
use Rattle.gc_lines.specs.declared.served.ServeFault.{ServeFault}

-- all of these, and one more
all_and_one : (xs : List ServedConnection) (x : ServedConnection) → AllByRecursion EndedWell xs → EndedWell x → AllByRecursion EndedWell (xs ++ x ∷ [])
all_and_one [] x all one = (one, tt)
all_and_one (first ∷ later) x all one = (all.0, all_and_one later x all.1 one)

-- an instrument that serves
module _ {State : Type 0} (rule : AnswerRule State Frame) (restart : State → State) (most : ℕ) where
  -- connections in order, and one after them
  in_order_and_one : (before mid after : State) (served : List ServedConnection) (one : ServedConnection) → ServesInOrder rule restart most before served mid
      → ServesConnection rule restart most mid after one → ServesInOrder rule restart most before (served ++ one ∷ []) after
  in_order_and_one before mid after [] one order serves =
      (after, subst (λ state. ServesConnection rule restart most state after one) order serves, refl)
  in_order_and_one before mid after (first ∷ later) one order serves =
      (order.0, order.1, in_order_and_one order.0 mid after later one order.2 serves)

  -- before the first connection
  pub well_none : (before : State) → ServesWell rule restart most 0 before before
  well_none before = record { served = []; order = refl; number = refl; well = tt }

  -- after one more that ended well
  pub well_more : (Missing : RunFault → Type 0) (count : ℕ) (before mid after : State) (result : LinkResult) (x : Unit {0}) → result ≡ Ok x → ServesWell rule restart most count before mid
      → ServesNext rule restart most Missing mid after result → ServesWell rule restart most (count + 1) before after
  well_more Missing count before mid after (Ok y) x is well next = record {
    served = well.served ++ next.2.connection ∷ [];
    order = in_order_and_one before mid after well.served next.2.connection well.order next.2.serves;
    number = length-append well.served (next.2.connection ∷ []) ∙ ap (λ n. n + 1) well.number;
    well = all_and_one well.served next.2.connection well.well (ap end_of_serving next.2.end_is ∙ next.1);
  }
  well_more Missing count before mid after (Err fault) x is well next =
      let never : ⊥ = cc in
      absurd never

  -- all were served
  pub each_well : (Missing : RunFault → Type 0) (count number : ℕ) (before after : State) (x : Unit {0}) → number ≡ count → ServesWell rule restart most number before after
      → ServesEach rule restart most Missing count before after (Ok x)
  each_well Missing count number before after x is well = subst (λ (n : ℕ). ServesWell rule restart most n before after) is well

  -- the next one had a fault
  pub each_stopped : (Missing : RunFault → Type 0) (count number : ℕ) (before mid after : State) (result : LinkResult) (fault : RunFault) → result ≡ Err fault → number < count
      → ServesWell rule restart most number before mid → ServesNext rule restart most Missing mid after result → ServesEach rule restart most Missing count before after (Err fault)
  each_stopped Missing count number before mid after result fault is few well next =
      (number, mid, few, well, subst (λ (r : LinkResult). ServesNext rule restart most Missing mid after r) is next)
