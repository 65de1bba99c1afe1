-- The instrument of a scene is an instrument (`IsAnInstrument`).
use Rattle.gc_theorems.proofs.Common.{◌≡◌, ℕ, ◌<◌, inl, inr, Bool, true, false, List, [], Option, Some, None, cond, refl, subst, lit<, request_found, asked_again, asked_line, asked_request, is_of_table, call_fields, IsFitting, request_line, request_of, Asked, Table, Raw, Call, RawCall, heard, Handed, kept_after, KeptReply, IsOwnOrNone, MayBeKept, own_reply, ReadsWithItsId, again_kept, kept_reads, reply_heard, same_Some, true≢false}
use Rattle.std.specs.Option.{option_map}
use Rattle.gc_catalogue.proofs.LineLaws.{call_again}
use Rattle.gc_scenes.proofs.Codes.{fault_bound, call_bound}
use Rattle.gc_scenes.specs.Prelude.{fault_of, scripted_reply, scripted_params, Played, played_call, played_raw, unless_faulted_raw, scripted_played, counting, IsPlayed, answers, names_call, names_none, resent_line, again_or_played, handed_call, handed_raw, played_or_refused, played_line, SceneState}
use Rattle.gc_scenes.specs.declared.rules.Scripted.{Scripted}
use Rattle.gc_theorems.specs.SceneField.{scene_handed, SceneIsAnInstrument, KeptReplyReads}

-- what the instrument does with a request, of which `known` says whether it is a call of the table, meets the clauses of
-- `IsAnInstrument`
record MeetsClauses (s : SceneState) (id : ℕ) (known : Bool) (h : Handed SceneState) : Type 0 where
  reads : KeptReplyReads s → heard h.reply ≡ Some id
  repeats : h.executed ≡ false → s.base.kept ≡ Some (own_reply id h)
  keeps : MayBeKept known (own_reply id h) s.base.kept h.state.base.kept
  good : KeptReplyReads s → KeptReplyReads h.state

-- what is kept after a request: its own reply, or nothing
own_or_none : (b : Bool) (id : ℕ) (line : List ℕ) (k : Option KeptReply) → IsOwnOrNone (record { id = id; line = line }) (cond b (kept_after k (Some id) line) None)
own_or_none true id line k = inr refl
own_or_none false id line k = inl refl

-- what the instrument does with a request with an id below 8 that it answers again by what it keeps, or plays with a return
-- code below 65536, meets the clauses
played_meets_clauses : (s : SceneState) (id : ℕ) (known : Bool) (p : Played) (o : Option (List ℕ)) → resent_line s (Some id) ≡ o → id < 8 → p.rc < 65536
    → MeetsClauses s id known (again_or_played s (Some id) p o)
played_meets_clauses s id known p (Some line) again small code =
    let kept = again_kept s.repeats s.base.kept id line again in
    record { reads = λ good. subst ReadsWithItsId kept good; repeats = λ _. kept; keeps = inl (inr kept); good = λ good. good }
played_meets_clauses s id known p None again small code =
    let line = played_line id p in
    record {
      reads = λ good. reply_heard 0 id p.rc p.params (lit< tt) small code;
      repeats = λ not. absurd (true≢false not);
      keeps = inl (own_or_none p.state.repeats id line p.state.base.kept);
      good = λ good. kept_reads p.state.repeats id line p.state.base.kept (reply_heard 0 id p.rc p.params (lit< tt) small code);
    }

-- the code of a reply that the scene gives to a procedure is below 65536
scripted_bound : (s : SceneState) (a : Option Scripted) (p : Played) → option_map (scripted_played s) a ≡ Some p → p.rc < 65536
scripted_bound s None p e = let wrong : ⊥ = cc in absurd wrong
scripted_bound s (Some a) p e = subst (λ (q : Played). q.rc < 65536) (same_Some {A = Played} (record { state = s; rc = a.rc; params = scripted_params a.with }) p e) a.fits

-- the code of a reply to a request that is no call of the table is below 65536, if the code that the scene sets for it (`o`), if
-- any, is
raw_bound : (s : SceneState) (rpc : ℕ) (o : Option ℕ) (p : Played) → ((code : ℕ) → o ≡ Some code → code < 65536) → unless_faulted_raw s rpc o ≡ Some p → p.rc < 65536
raw_bound s rpc (Some code) p is e = subst (λ (q : Played). q.rc < 65536) (same_Some {A = Played} (record { state = s; rc = code; params = [] }) p e) (is code refl)
raw_bound s rpc None p is e = scripted_bound s (scripted_reply rpc s.answers) p e

-- what the instrument does with a call of the table, with an id below 8, meets the clauses
call_meets_clauses : (s : SceneState) (id : ℕ) (call : Call) → id < 8 → MeetsClauses s id true (handed_call s (call_fields call).number (Some id) call)
unfolding handed_call
call_meets_clauses s id call small =
    let rpc = (call_fields call).number in
    played_meets_clauses s id true (played_call s rpc call) (resent_line s (Some id)) refl small (call_bound (counting rpc s) call (fault_of rpc s.faults) (fault_bound rpc s.faults))

-- what the instrument does with a request that is no call of the table, with an id below 8, meets the clauses, whether the scene
-- plays it, with a code below 65536, or it is refused
played_or_refused_meets_clauses : (s : SceneState) (id rpc : ℕ) (o : Option Played) → id < 8 → ((p : Played) → o ≡ Some p → p.rc < 65536)
    → MeetsClauses s id false (played_or_refused s rpc (Some id) o)
played_or_refused_meets_clauses s id rpc (Some p) small code = played_meets_clauses s id false p (resent_line s (Some id)) refl small (code p refl)
played_or_refused_meets_clauses s id rpc None small code = record {
  reads = λ good. reply_heard 3081 id 0 [] (lit< tt) small (lit< tt);
  repeats = λ not. absurd (true≢false not);
  keeps = inr (refl, refl);
  good = λ good. good;
}

-- what the instrument does with a request that is no call of the table, with an id below 8, meets the clauses
raw_meets_clauses : (s : SceneState) (id : ℕ) (raw : RawCall) → id < 8 → MeetsClauses s id false (handed_raw s raw.rpc (Some id))
unfolding handed_raw
raw_meets_clauses s id raw small =
    played_or_refused_meets_clauses s id raw.rpc (played_raw s raw.rpc) small (λ p e. raw_bound (counting raw.rpc s) raw.rpc (fault_of raw.rpc s.faults) p (fault_bound raw.rpc s.faults) e)

-- what the instrument does with any request with an id below 8 meets the clauses
asked_meets_clauses : (s : SceneState) (id : ℕ) (asked : Asked) → id < 8 → MeetsClauses s id (is_of_table asked) (scene_handed s id asked)
asked_meets_clauses s id (Table call) small = call_meets_clauses s id call small
asked_meets_clauses s id (Raw raw) small = raw_meets_clauses s id raw small

-- what `scene_handed` says of a call of the table that fits, with an id below 8, is what the instrument does with its line
call_is_played : (s : SceneState) (id : ℕ) (call : Call) → id < 8 → IsFitting call
    → IsPlayed s (request_line (Some id) call) (scene_handed s id (Table call)).state (Some (scene_handed s id (Table call)).reply)
call_is_played s id call small fits =
    let q = request_of (Some id) call in
    let back = call_again (Some id) call small fits in
    answers q (request_found (request_line (Some id) call) q back.line) (scene_handed s id (Table call)).reply (names_call call back.is_asked (record { state = refl; line = refl })) refl

-- what `scene_handed` says of another procedure, with an id below 8, is what the instrument does with its line
raw_is_played : (s : SceneState) (id : ℕ) (raw : RawCall) → id < 8
    → IsPlayed s (asked_line (Some id) (Raw raw)) (scene_handed s id (Raw raw)).state (Some (scene_handed s id (Raw raw)).reply)
raw_is_played s id raw small =
    let q = asked_request (Some id) (Raw raw) in
    let back = asked_again (Some id) (Raw raw) small raw.is in
    answers q (request_found (asked_line (Some id) (Raw raw)) q back.line) (scene_handed s id (Raw raw)).reply (names_none raw.is.no_procedure (record { state = refl; line = refl })) refl

-- the instrument of a scene is an instrument, and what `scene_handed` says of a request is what it does with the line
pub scene_is_an_instrument : SceneIsAnInstrument
scene_is_an_instrument = record {
  instrument = record {
    hears = λ line. refl;
    replies = λ s id asked good small. (asked_meets_clauses s id asked small).reads good;
    repeats = λ s id asked good small not. (asked_meets_clauses s id asked small).repeats not;
    keeps = λ s id asked good small. (asked_meets_clauses s id asked small).keeps;
    starts = λ s good. inl refl;
    stays_good = λ s id asked good small. (asked_meets_clauses s id asked small).good good;
    starts_good = λ s good. tt;
  };
  passes = λ s moment good. (good, refl);
  calls = call_is_played;
  raws = raw_is_played;
}
