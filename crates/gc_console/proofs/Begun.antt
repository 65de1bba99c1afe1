-- A subcommand that began over the standard streams: what its clauses say of the status of its end, together. `r` is its result.
use Rattle.gc_console.proofs.Common.{◌≡◌, ◌≤◌, ℕ, Bool, List, Option, Some, None, Result, Ok, Err, IfOk, subst, Ports, PlaysScene, ReadsWholeSource, TellsDrill, EndSeen, end_seen, Traces, DoesCheck, DoesDrill, DoesExec, EndsFrom, opening, opening_ports}
use Rattle.gc_client.specs.declared.window.TheConstants.{WINDOW}
use Rattle.gc_console.specs.Serves.{FailsByPorts, IsDoneAtEnd, TellsChecking, TellsExec}
use Rattle.gc_console.specs.declared.drill.Drilling.{Drilling}

-- what is known of the ports and the messages at the start is what is known of the streams; and what output and messages took is what is
-- noted
pub ends_from : {T E : Type 0} (r : Result T E) (status_of : T → ℕ) (Does : EndSeen → Type 0) (remaining before : Option (List ℕ)) (traces : Traces) (old new : Ports)
    (m told : Option (List ℕ)) → old ≡ opening_ports remaining → m ≡ before → new.taken ≡ Some traces.told.bytes → told ≡ Some traces.said.bytes
    → IfOk r (λ x. Does (end_seen old new (status_of x) m told)) → IfOk r (λ x. EndsFrom Does (opening remaining before) traces (status_of x))
ends_from (Ok x) status_of Does remaining before traces old new m told is same took noted does = record {
  new = new;
  took = took;
  does = subst (λ (t : Option (List ℕ)). Does (end_seen (opening_ports remaining) new (status_of x) before t)) noted
      (subst (λ (ports : Ports). Does (end_seen ports new (status_of x) before told)) is
      (subst (λ (b : Option (List ℕ)). Does (end_seen old new (status_of x) b told)) same does));
}
ends_from (Err e) status_of Does remaining before traces old new m told is same took noted does = tt

-- the clauses of `exec`
pub exec_did : {Name T E : Type 0} (r : Result T E) (status_of : T → ℕ) (scene : Option Name) (old new : Ports) (m told : Option (List ℕ))
    → IfOk r (λ x. TellsExec scene (end_seen old new (status_of x) m told)) → IfOk r (λ x. IsDoneAtEnd old new (status_of x))
    → (scene ≡ None → IfOk r (λ x. FailsByPorts old new (status_of x))) → IfOk r (λ x. DoesExec scene (end_seen old new (status_of x) m told))
exec_did (Ok x) status_of scene old new m told tells done fault = record { told = tells; done = done; fault = fault }
exec_did (Err e) status_of scene old new m told tells done fault = tt

-- the clauses of `check`
pub check_did : {T E : Type 0} (r : Result T E) (status_of : T → ℕ) (is_log : Bool) (old new : Ports) (m told : Option (List ℕ))
    → IfOk r (λ x. TellsChecking is_log (end_seen old new (status_of x) m told)) → IfOk r (λ x. IsDoneAtEnd old new (status_of x))
    → IfOk r (λ x. DoesCheck is_log (end_seen old new (status_of x) m told))
check_did (Ok x) status_of is_log old new m told tells done = record { told = tells; done = done }
check_did (Err e) status_of is_log old new m told tells done = tt

-- the clauses of `drill`
pub drill_did : {T E : Type 0} (r : Result T E) (status_of : T → ℕ) (drilling : Drilling) (old new : Ports) (m told : Option (List ℕ))
    → IfOk r (λ x. TellsDrill drilling (end_seen old new (status_of x) m told))
    → (1 ≤ drilling.width → drilling.width ≤ WINDOW → IfOk r (λ x. status_of x ≤ 1))
    → IfOk r (λ x. status_of x ≡ 0 → PlaysScene drilling old new) → IfOk r (λ x. status_of x ≡ 0 → ReadsWholeSource old new)
    → IfOk r (λ x. DoesDrill drilling (end_seen old new (status_of x) m told))
drill_did (Ok x) status_of drilling old new m told tells width done whole = record { told = tells; width = width; done = done; whole = whole }
drill_did (Err e) status_of drilling old new m told tells width done whole = tt
