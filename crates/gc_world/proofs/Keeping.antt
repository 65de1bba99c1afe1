-- The instrument of a scene that stores its last reply keeps replies as `IsKeeper` of gc_world asks; one that stores none executes
-- each request each time.
use Rattle.gc_world.proofs.Common.{◌≡◌, ℕ, true, false, cond, List, Option, Some, None, refl, ◌∙◌, ap, call_fields, Call, kept_line, KeptReply, fault_of, Played, played_call, again_or_played, handed_call, resent_line, SceneState, scene_handed, scene_ends, IsExchange, IsKeeper}
use Rattle.gc_world.proofs.Exchanges.{StoredReads, exchange, same_repeats}

-- the reply that the instrument of a scene stores, if any
abbrev pub stored : SceneState → Option KeptReply
stored s = s.base.kept

-- a state of an instrument that stores its last reply, and whose stored line, if there is one, reads as a reply with the stored id
abbrev pub StoresReplies : SceneState → Type 0
StoresReplies s = StoredReads s × (s.repeats ≡ true)

-- where the instrument stores replies, the line that it sends again is the stored one for the id
resent_is_kept : (s : SceneState) (id : ℕ) → s.repeats ≡ true → resent_line s (Some id) ≡ kept_line s.base.kept (Some id)
resent_is_kept s id stores = ap (λ b. cond b (kept_line s.base.kept (Some id)) None) stores

-- where no stored line answers a request, the instrument stores the reply, if it stores replies once the call was played
played_is_stored : (s : SceneState) (id : ℕ) (p : Played) (o : Option (List ℕ)) → o ≡ None → p.state.repeats ≡ true
    → stored (again_or_played s (Some id) p o).state ≡ Some (record { id = id; line = (again_or_played s (Some id) p o).reply })
played_is_stored s id p (Some line) none same = let never : ⊥ = cc in absurd never
played_is_stored s id p None none same = ap (λ b. cond b (Some (record { id = id; line = (again_or_played s (Some id) p None).reply })) None) same

-- where no stored line answers a request, it is executed
played_is_executed : (s : SceneState) (id : ℕ) (p : Played) (o : Option (List ℕ)) → o ≡ None → (again_or_played s (Some id) p o).executed ≡ true
played_is_executed s id p (Some line) none = let never : ⊥ = cc in absurd never
played_is_executed s id p None none = refl

-- whether a line is sent again (`o`) or a call is played, the instrument stores replies afterwards exactly as before
repeats_after : (s : SceneState) (id : ℕ) (p : Played) (o : Option (List ℕ)) → p.state.repeats ≡ s.repeats → (again_or_played s (Some id) p o).state.repeats ≡ s.repeats
repeats_after s id p (Some line) same = refl
repeats_after s id p None same = same

-- a request leaves as it is whether the instrument stores replies
pub stores_after : (s : SceneState) (id : ℕ) (call : Call) → (scene_handed s id call).state.repeats ≡ s.repeats
unfolding handed_call
stores_after s id call =
    let rpc = (call_fields call).number in
    repeats_after s id (played_call s rpc call) (resent_line s (Some id)) (same_repeats s rpc call (fault_of rpc s.faults))

-- `exchange` also of the states of an instrument that stores replies
pub storing_exchange : IsExchange scene_ends StoresReplies
storing_exchange = record {
  reads = λ s id call good small. exchange.reads s id call good.0 small;
  stays_good = λ s id call good small. (exchange.stays_good s id call good.0 small, stores_after s id call ∙ good.1);
  restart_good = λ s good. (tt, good.1);
}

-- with a stored line for its id, a request gets that line again
again_at : (s : SceneState) (id : ℕ) (call : Call) (line : List ℕ) → resent_line s (Some id) ≡ Some line
    → scene_handed s id call ≡ record { state = s; reply = line; executed = false }
unfolding handed_call
again_at s id call line is = ap (again_or_played s (Some id) (played_call s (call_fields call).number call)) is

-- without a stored line for its id, a request is executed
pub executed_at : (s : SceneState) (id : ℕ) (call : Call) → resent_line s (Some id) ≡ None → (scene_handed s id call).executed ≡ true
unfolding handed_call
executed_at s id call none = played_is_executed s id (played_call s (call_fields call).number call) (resent_line s (Some id)) none

-- without a stored line for its id, the reply to a request is stored, where the instrument stores replies
stored_at : (s : SceneState) (id : ℕ) (call : Call) → s.repeats ≡ true → resent_line s (Some id) ≡ None
    → stored (scene_handed s id call).state ≡ Some (record { id = id; line = (scene_handed s id call).reply })
unfolding handed_call
stored_at s id call stores none =
    let rpc = (call_fields call).number in
    played_is_stored s id (played_call s rpc call) (resent_line s (Some id)) none (same_repeats s rpc call (fault_of rpc s.faults) ∙ stores)

-- the instrument of a scene that stores its last reply keeps it as `IsKeeper` asks
pub storing_keeper : IsKeeper scene_ends StoresReplies stored
storing_keeper = record {
  twice = λ s. refl;
  forgets = λ s. refl;
  again = λ s id call line good e. again_at s id call line (resent_is_kept s id good.1 ∙ e);
  executes = λ s id call good e. executed_at s id call (resent_is_kept s id good.1 ∙ e);
  keeps = λ s id call good e. stored_at s id call good.1 (resent_is_kept s id good.1 ∙ e);
}
