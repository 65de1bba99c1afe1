-- The instrument at the pointer is lent to `feed`, and is there again afterwards.
use Rattle.geocom_instrument_c.proofs.Common.{Option, IsFed, GeocomReplied, BenchState, the_row as R}
use Rattle.geocom_instrument_c.proofs.Steps.{ℕ, List, [], ◌∷◌, refl, w64, proved, full_share, sep, emp, ex, ex_i, id⊢, GName, ftrue, flft, flent, named, vptr, WpFn, fact, fact_i, tables, sem, Body, lft_new, lft_end, ‵, raw, ◌⊛◌, some, later, prop, ◌$◌, ◌∵◌, !, qed, done, move, keep, use0, use1, use2, use3, split, join, fsplit, pick, await, regoal, suffices, group, enter, of_opd, addr, stop, no_more, and_then, returns, alloc_all, pass_all, free_all, look_at, get, through, sets, lands_as, u8, u64, yes, shows, lends_ref, ref_back, mem, part_at, uint_vals, uint_Tells, Ptr, RawPtr, block_ptr, lies_at, in_a_block, rawptr_vals, rawptr_Tells, MutRef, ShrSlice, shr_slice_vals, shr_slice_Tells, plain, nothing, heard, peeks, calls_at, lasts, triple_of, Stays, walk_of, stay_dropped, Goes-dropped, ends_at, framed}
use Rattle.geocom_instrument_c.specs.contracts.replied.GeocomReplied.{the_row as Said}
use Rattle.geocom_instrument_c.proofs.replied.GeocomReplied.TheLaws.{the_row_laws as said_laws}
use Rattle.geocom_instrument_c.proofs.exports.geocom_instrument_feed.Statement.{statement}
use Rattle.geocom_instrument_c.proofs.bench.GeocomInstrument.feed.Met.{met}
use mathlib.Core.List
use Rattle.geocom_instrument_c.specs.contracts.exports.geocom_instrument_feed as f
use Rattle.geocom_instrument_c.proofs.exports.geocom_instrument_feed.Code as code
use Rattle.geocom_instrument_c.specs.contracts.bench.GeocomInstrument.feed as g

-- at the exit of the call nothing is owned of its parameters
abbrev stayed : Stays f.ended.signature.params f.ended.kept
stayed = (stay_dropped _ yes, (stay_dropped _ yes, (stay_dropped _ yes, tt)))

-- the call meets its contract: the instrument at the pointer is there afterwards, too, and `IsFed` says what the call did
pub geocom_instrument_feed_spec : {M : Type 1} → statement M
geocom_instrument_feed_spec 𝓤 𝓛 𝓜 𝓡 wired =
    let c = f.clauses 𝓛 𝓜.mem 𝓡.returns in let W = walk_of 𝓛 f.ended stayed c in let 𝓣 = tables 𝓤 𝓛.H 𝓜 𝓡 𝓡.env in
    proved 𝓛 f.ended stayed c 𝓜 𝓡 (
      Goes-dropped 𝓛 1 (plain (λ _. RawPtr)) yes (λ κs x w. refl),
      (
        Goes-dropped 𝓛 1 (plain (λ κs. ShrSlice (named 0) κs.0 u8)) yes (λ κs x w. refl),
        (Goes-dropped 𝓛 1 (plain (λ _. u64)) yes (λ κs x w. refl), tt),
      ),
    )
    f.Key.name code.function (code.unfolded 𝓤 𝓛.H 𝓜 𝓡 wired)
    (λ κs. (rawptr_vals, (shr_slice_vals, (uint_vals w64, tt)))) (λ κs. (rawptr_Tells, (shr_slice_Tells (named 0) κs.0 u8, (uint_Tells w64, tt)))) (λ κs qs bounds a before are.
    let κ = κs.0 in let q = qs.0 in let bytes = a.1.0 in let now = a.1.1.0 in
    let y : Ptr → W.Ghost = λ p. ((κs, qs, bounds, (p, a.1), (rawptr_vals p, (shr_slice_vals bytes, (uint_vals w64 now, tt)))), before) in
    qed 𝓛 (((‵ (flft κ q) ⊛ ‵ ftrue) ⊛ ‵ (RawPtr.own_val a.0 (rawptr_vals a.0)) ⊛ ‵ ((ShrSlice (named 0) κ u8).own_val bytes (shr_slice_vals bytes)) ⊛ ‵ (u64.own_val now
    (uint_vals w64 now)) ⊛ ‵ ftrue) ∷ ‵ (lies_at R full_share a.0 before) ∷ []) ∵
    split ! $ split ! $ move ! (2 ∷ []) $ split ! $ move ! (1 ∷ []) $ split ! $ move ! (1 ∷ []) $ split ! $ keep ! (6 ∷ 4 ∷ 2 ∷ 0 ∷ []) $
    in_a_block ! a.0 (λ p. lies_at R full_share p before) (id⊢ 𝓤 _) (λ b o e.
    regoal ! (λ p. prop (WpFn 𝓤 𝓛.H 𝓣.C 𝓣.Λ code.function
    (List.◌++◌ (rawptr_vals p) (List.◌++◌ (shr_slice_vals bytes) (List.◌++◌ (uint_vals w64 now) []))) (W.post (y p)))) e refl $
    enter ! _ _ _ _ _ $ alloc_all ! (λ l. pass_all ! refl ((tt, tt), ((tt, (tt, (record { fits = are.1.0.0.1.0 }, tt))), ((tt, record { fits = are.1.1.0.1 }), tt))) $
    -- [the instrument; the token of κ; the bytes; the moment]
    sets ! (of_opd ! (get ! refl)) refl (tt, tt) $
    sets ! (addr ! (through ! refl (stop !))) refl (tt, tt) $
    lft_new ! tt (λ α. move ! (1 ∷ []) $
    use1 𝓛 (later (some (λ (γ : GName). ‵ ((MutRef (named 0) (α ∷ []) R).own_val (record { ref_ptr = (b, o); ghost_name = γ; now = before }) (vptr b o ∷ []))
    ⊛ ‵ (flent (α ∷ []) (Body (mem R) b o γ))))) (lends_ref 𝓛 R (named 0) (α ∷ []) before b o) $
    await ! tt $ pick ! (λ γ. split ! $
    -- [the loan; what is lent; the token of α; that of κ; the bytes; the moment]
    let G = triple_of 𝓛 g.signature (g.spec 𝓛 𝓜.mem 𝓡.returns) in
    let z : G.Ghost = (
      (
        (α ∷ [], (κ, tt)),
        (full_share, (q, tt)),
        tt,
        (record { ref_ptr = (b, o); ghost_name = γ; now = before }, a.1),
        (
          vptr b o ∷ [],
          (
            shr_slice_vals bytes,
            (uint_vals w64 now, tt),
          ),
        ),
      ),
      tt,
    ) in
    nothing ! $ move ! (6 ∷ 0 ∷ []) $ join ! $ move ! (5 ∷ 0 ∷ []) $ join ! $ move ! (1 ∷ 0 ∷ []) $ join ! $
    nothing ! $ move ! (4 ∷ 0 ∷ []) $ join ! $ move ! (3 ∷ 0 ∷ []) $ join ! $ join ! $
    nothing ! $ move ! (1 ∷ 0 ∷ []) $ use2 𝓛 (raw (G.pre z)) (id⊢ 𝓤 _) $
    calls_at ! (framed 𝓤 𝓛.H 𝓜 𝓣) G (met 𝓤 𝓛 𝓜 𝓡 (code.calls-geocom_instrument_c::bench::GeocomInstrument::feed 𝓡.env wired)) z
    (and_then ! (get ! refl) (and_then ! (get ! refl) (and_then ! (get ! refl) (no_more !)))) (λ v.
    use1 𝓛 (later (some (λ (r : GeocomReplied). ((‵ (flft (α ∷ []) full_share) ⊛ ‵ (flft κ q) ⊛ ‵ ftrue) ⊛ ‵ (Said.own_val r (v ∷ []))) ⊛
    some (λ (ws : Option BenchState × (Unit {0} × (Unit {0} × Unit {0}))). ‵ (lasts g.ended z.0.0 z.0.3 ws) ⊛ raw (fact 𝓤 (IsFed before bytes.now now ws.0 r)))))) (id⊢ 𝓤 _) $
    await ! tt $ pick ! (λ r. split ! $ split ! $ split ! $ lft_end ! tt $
    -- [α is over; the token of κ; the result; the last value and what is known; what is lent]
    move ! (2 ∷ []) $ peeks ! Said _ (shows 𝓛 Said) r (v ∷ []) (λ is. let good = ((said_laws.lawful 𝓛).typed r (v ∷ []) is).0 in
    lands_as ! refl refl good $
    move ! (3 ∷ []) $ pick ! (λ ws. split ! $ move ! (1 ∷ []) $ heard ! _ (λ fed. fsplit ! $ fsplit ! $
    -- [the last value; the loan's borrow; nothing; the result; α is over; the token of κ; what is lent]
    move ! (4 ∷ 6 ∷ 0 ∷ []) $ use3 𝓛 (later (‵ (part_at R full_share ws.0 b o))) (ref_back 𝓛 R (α ∷ []) γ ws.0 b o) $ await ! tt $
    returns ! (look_at ! 0 refl) $ free_all ! refl $ keep ! (0 ∷ 3 ∷ 4 ∷ []) $
    -- [the instrument; the result; the token of κ]
    use0 𝓛 (raw (fact 𝓤 (IsFed before bytes.now now ws.0 r))) (fact_i 𝓤 (IsFed before bytes.now now ws.0 r) (emp 𝓤) fed) $ move ! (1 ∷ 0 ∷ []) $ join ! $
    use1 𝓛 (raw (ex 𝓤 (λ (w : Option BenchState). sep 𝓤 (sem 𝓛 (lies_at R full_share (block_ptr b o) w)) (fact 𝓤 (IsFed before bytes.now now w r)))))
    (ex_i 𝓤 (λ (w : Option BenchState). sep 𝓤 (sem 𝓛 (lies_at R full_share (block_ptr b o) w)) (fact 𝓤 (IsFed before bytes.now now w r))) ws.0) $
    suffices ! _ (ends_at 𝓛 f.ended stayed c (y (block_ptr b o)) v r (tt, (tt, (tt, tt))) (tt, (tt, (tt, tt)))) $
    move ! (1 ∷ 0 ∷ []) $ nothing ! $ nothing ! $ join ! $ nothing ! $ join ! $ nothing ! $ join ! $
    move ! (3 ∷ []) $ group ! 3 $ done !))))))))))
