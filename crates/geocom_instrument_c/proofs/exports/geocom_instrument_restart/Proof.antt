-- The instrument at the pointer is lent to `restart`, and is there again afterwards.
use Rattle.geocom_instrument_c.proofs.Common.{Option, IsRestarted, BenchState, the_row as R}
use Rattle.geocom_instrument_c.proofs.Steps.{◌≡◌, ℕ, List, [], ◌∷◌, refl, ap, w32, proved, full_share, sep, emp, ex, ex_i, id⊢, GName, ftrue, flft, flent, named, Val, vint, vptr, WpFn, fact, fact_i, tables, sem, Body, lft_new, lft_end, ‵, raw, ◌⊛◌, some, later, prop, ◌$◌, ◌∵◌, !, qed, done, move, keep, drop, use0, use1, use2, use3, split, join, fsplit, rewrite, pick, await, regoal, suffices, group, enter, of_opd, addr, stop, no_more, and_then, returns, alloc_all, pass_all, free_all, look_at, get, through, sets, lands_as, u32, yes, shows, lends_ref, ref_back, mem, part_at, uint_Tells, Ptr, RawPtr, block_ptr, lies_at, in_a_block, rawptr_vals, rawptr_Tells, MutRef, plain, nothing, heard, peeks, calls_at, lasts, only, triple_of, Stays, walk_of, stay_dropped, Goes-dropped, ends_at, framed}
use Rattle.geocom_instrument_c.proofs.exports.geocom_instrument_restart.Statement.{statement}
use Rattle.geocom_instrument_c.proofs.bench.GeocomInstrument.restart.Met.{met}
use mathlib.Core.List
use Rattle.geocom_instrument_c.specs.contracts.exports.geocom_instrument_restart as f
use Rattle.geocom_instrument_c.proofs.exports.geocom_instrument_restart.Code as code
use Rattle.geocom_instrument_c.specs.contracts.bench.GeocomInstrument.restart as g

-- at the exit of the call nothing is owned of its parameters
abbrev stayed : Stays f.ended.signature.params f.ended.kept
stayed = (stay_dropped _ yes, tt)

-- the call meets its contract: the instrument at the pointer is there afterwards, too, and `IsRestarted` says what the call did
pub geocom_instrument_restart_spec : {M : Type 1} → statement M
geocom_instrument_restart_spec 𝓤 𝓛 𝓜 𝓡 wired =
    let c = f.clauses 𝓛 𝓜.mem 𝓡.returns in let W = walk_of 𝓛 f.ended stayed c in let 𝓣 = tables 𝓤 𝓛.H 𝓜 𝓡 𝓡.env in
    proved 𝓛 f.ended stayed c 𝓜 𝓡 (Goes-dropped 𝓛 0 (plain (λ _. RawPtr)) yes (λ κs x w. refl), tt)
    f.Key.name code.function (code.unfolded 𝓤 𝓛.H 𝓜 𝓡 wired)
    (λ κs. (rawptr_vals, tt)) (λ κs. (rawptr_Tells, tt)) (λ κs qs bounds a before are.
    let y : Ptr → W.Ghost = λ p. ((κs, qs, bounds, (p, tt), (rawptr_vals p, tt)), before) in
    qed 𝓛 ((‵ ftrue ⊛ ‵ (RawPtr.own_val a.0 (rawptr_vals a.0)) ⊛ ‵ ftrue) ∷ ‵ (lies_at R full_share a.0 before) ∷ []) ∵
    drop ! $
    in_a_block ! a.0 (λ p. lies_at R full_share p before) (id⊢ 𝓤 _) (λ b o e.
    regoal ! (λ p. prop (WpFn 𝓤 𝓛.H 𝓣.C 𝓣.Λ code.function (List.◌++◌ (rawptr_vals p) []) (W.post (y p)))) e refl $
    enter ! _ _ _ _ _ $ alloc_all ! (λ l. pass_all ! refl ((tt, tt), tt) $
    -- [the instrument]
    sets ! (of_opd ! (get ! refl)) refl (tt, tt) $
    sets ! (addr ! (through ! refl (stop !))) refl (tt, tt) $
    lft_new ! tt (λ α. move ! (1 ∷ []) $
    use1 𝓛 (later (some (λ (γ : GName). ‵ ((MutRef (named 0) (α ∷ []) R).own_val (record { ref_ptr = (b, o); ghost_name = γ; now = before }) (vptr b o ∷ []))
    ⊛ ‵ (flent (α ∷ []) (Body (mem R) b o γ))))) (lends_ref 𝓛 R (named 0) (α ∷ []) before b o) $
    await ! tt $ pick ! (λ γ. split ! $
    -- [the loan; what is lent; the token of α]
    let G = triple_of 𝓛 g.signature (g.spec 𝓛 𝓜.mem 𝓡.returns) in
    let z : G.Ghost = (((α ∷ [], tt), (full_share, tt), tt, (record { ref_ptr = (b, o); ghost_name = γ; now = before }, tt), (vptr b o ∷ [], tt)), tt) in
    nothing ! $ move ! (1 ∷ 0 ∷ []) $ join ! $ nothing ! $ move ! (3 ∷ 0 ∷ []) $ join ! $ join ! $
    nothing ! $ move ! (1 ∷ 0 ∷ []) $ use2 𝓛 (raw (G.pre z)) (id⊢ 𝓤 _) $
    calls_at ! (framed 𝓤 𝓛.H 𝓜 𝓣) G (met 𝓤 𝓛 𝓜 𝓡 (code.calls-geocom_instrument_c::bench::GeocomInstrument::restart 𝓡.env wired)) z
    (and_then ! (get ! refl) (no_more !)) (λ v.
    use1 𝓛 (later (some (λ (r : ℕ). ((‵ (flft (α ∷ []) full_share) ⊛ ‵ ftrue) ⊛ ‵ (u32.own_val r (v ∷ []))) ⊛
    some (λ (ws : Option BenchState × Unit {0}). ‵ (lasts g.ended z.0.0 z.0.3 ws) ⊛ raw (fact 𝓤 (IsRestarted before ws.0 r)))))) (id⊢ 𝓤 _) $
    await ! tt $ pick ! (λ r. split ! $ split ! $ split ! $ lft_end ! tt $
    -- [α is over; nothing; the result; the last value and what is known; what is lent]
    move ! (2 ∷ []) $ peeks ! u32 _ (shows 𝓛 u32) r (v ∷ []) (λ is. let told : (v ∷ []) ≡ vint w32 r ∷ [] = uint_Tells w32 r (v ∷ []) is in
    rewrite ! 0 (λ (vs : List Val). ‵ (u32.own_val r vs)) told refl $
    lands_as ! (ap only told) refl (tt, record { fits = is.1 }) $
    move ! (3 ∷ []) $ pick ! (λ ws. split ! $ move ! (1 ∷ []) $ heard ! _ (λ done_so. fsplit ! $ fsplit ! $
    -- [the last value; the loan's borrow; nothing; the result; α is over; nothing; what is lent]
    move ! (4 ∷ 6 ∷ 0 ∷ []) $ use3 𝓛 (later (‵ (part_at R full_share ws.0 b o))) (ref_back 𝓛 R (α ∷ []) γ ws.0 b o) $ await ! tt $
    returns ! (look_at ! 0 refl) $ free_all ! refl $ keep ! (0 ∷ 3 ∷ []) $
    -- [the instrument; the result]
    use0 𝓛 (raw (fact 𝓤 (IsRestarted before ws.0 r))) (fact_i 𝓤 (IsRestarted before ws.0 r) (emp 𝓤) done_so) $ move ! (1 ∷ 0 ∷ []) $ join ! $
    use1 𝓛 (raw (ex 𝓤 (λ (w : Option BenchState). sep 𝓤 (sem 𝓛 (lies_at R full_share (block_ptr b o) w)) (fact 𝓤 (IsRestarted before w r)))))
    (ex_i 𝓤 (λ (w : Option BenchState). sep 𝓤 (sem 𝓛 (lies_at R full_share (block_ptr b o) w)) (fact 𝓤 (IsRestarted before w r))) ws.0) $
    suffices ! _ (ends_at 𝓛 f.ended stayed c (y (block_ptr b o)) (vint w32 r) r (tt, tt) (tt, tt)) $
    move ! (1 ∷ 0 ∷ []) $ nothing ! $ nothing ! $ join ! $ nothing ! $ group ! 3 $ done !))))))))))
