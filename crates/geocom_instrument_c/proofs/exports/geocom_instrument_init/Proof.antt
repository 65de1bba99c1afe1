-- A value without an instrument is written to the room at the pointer, and lent to `set_up`.
use Rattle.geocom_instrument_c.proofs.Common.{Option, IsSetUp, BenchState, the_row as R}
use Rattle.geocom_instrument_c.proofs.Steps.{◌≡◌, ℕ, List, [], ◌∷◌, refl, proved, full_share, sep, emp, ex, ex_i, id⊢, GName, ftrue, flft, flent, named, vptr, WpFn, fact, fact_i, tables, sem, Body, lft_new, lft_end, ‵, raw, ◌⊛◌, some, later, prop, ◌$◌, ◌∵◌, !, qed, done, move, keep, drop, use0, use1, use2, use3, split, join, fsplit, pick, await, regoal, suffices, group, enter, of_opd, addr, stop, init, assigns, no_more, and_then, returns, alloc_all, pass_all, free_all, look_at, get, through, sets, lands_as, u8, yes, shows, lends_ref, ref_back, mem, part_at, Ptr, RawPtr, block_ptr, lies_at, room_at, in_a_block, rawptr_vals, rawptr_Tells, MutRef, ShrSlice, shr_slice_vals, shr_slice_Tells, plain, nothing, heard, peeks, calls_at, lasts, triple_of, Stays, walk_of, stay_dropped, Goes-dropped, ends_at, framed}
use borrow.Table.OneValue.{part_in}
use Rattle.std.specs.Prelude.{None}
use Rattle.std.specs.contracts.alloc.Global.{the_row as Heap}
use Rattle.std.proofs.alloc.Global.TheLaws.{the_row_laws as heap_laws}
use Rattle.std.proofs.Handle.{heap_val, heap_Tells}
use Rattle.geocom_instrument_c.specs.declared.replied.GeocomMade.{GeocomMade}
use Rattle.geocom_instrument_c.proofs.bench.GeocomInstrument.TheLaws.{the_row_laws as laws}
use Rattle.geocom_instrument_c.specs.contracts.replied.GeocomMade.{the_row as Said}
use Rattle.geocom_instrument_c.proofs.replied.GeocomMade.TheLaws.{the_row_laws as said_laws}
use Rattle.geocom_instrument_c.proofs.exports.geocom_instrument_init.Statement.{statement}
use Rattle.geocom_instrument_c.proofs.bench.GeocomInstrument.none.Met.{met as made}
use Rattle.geocom_instrument_c.proofs.bench.GeocomInstrument.set_up.Met.{met}
use mathlib.Core.List
use Rattle.geocom_instrument_c.specs.contracts.exports.geocom_instrument_init as f
use Rattle.geocom_instrument_c.proofs.exports.geocom_instrument_init.Code as code
use Rattle.geocom_instrument_c.specs.contracts.bench.GeocomInstrument.none as n
use Rattle.geocom_instrument_c.specs.contracts.bench.GeocomInstrument.set_up as g

-- at the exit of the call nothing is owned of its parameters
abbrev stayed : Stays f.ended.signature.params f.ended.kept
stayed = (stay_dropped _ yes, (stay_dropped _ yes, (stay_dropped _ yes, tt)))

-- the call meets its contract: the room at the pointer has an instrument afterwards, and `IsSetUp` says what the call did
pub geocom_instrument_init_spec : {M : Type 1} → statement M
geocom_instrument_init_spec 𝓤 𝓛 𝓜 𝓡 wired =
    let c = f.clauses 𝓛 𝓜.mem 𝓡.returns in let W = walk_of 𝓛 f.ended stayed c in let 𝓣 = tables 𝓤 𝓛.H 𝓜 𝓡 𝓡.env in
    proved 𝓛 f.ended stayed c 𝓜 𝓡 (
      Goes-dropped 𝓛 1 (plain (λ _. Heap)) yes (λ κs x w. refl),
      (
        Goes-dropped 𝓛 1 (plain (λ _. RawPtr)) yes (λ κs x w. refl),
        (
          Goes-dropped 𝓛 1 (plain
              (λ κs. ShrSlice (named 0) κs.0 u8)) yes (λ κs x w. refl),
          tt,
        ),
      ),
    )
    f.Key.name code.function (code.unfolded 𝓤 𝓛.H 𝓜 𝓡 wired)
    (λ κs. ((λ _. heap_val ∷ []), (rawptr_vals, (shr_slice_vals, tt)))) (λ κs. (heap_Tells, (rawptr_Tells, (shr_slice_Tells (named 0) κs.0 u8, tt)))) (λ κs qs bounds a _ are.
    let κ = κs.0 in let q = qs.0 in let heap = a.0 in let scene = a.1.1.0 in
    let y : Ptr → W.Ghost = λ p. ((κs, qs, bounds, (heap, (p, a.1.1)), (heap_val ∷ [], (rawptr_vals p, (shr_slice_vals scene, tt)))), tt) in
    qed 𝓛 (((‵ (flft κ q) ⊛ ‵ ftrue) ⊛ ‵ (Heap.own_val heap (heap_val ∷ [])) ⊛ ‵ (RawPtr.own_val a.1.0 (rawptr_vals a.1.0)) ⊛ ‵ ((ShrSlice (named 0) κ u8).own_val scene
    (shr_slice_vals scene)) ⊛ ‵ ftrue) ∷ ‵ (room_at R a.1.0) ∷ []) ∵
    split ! $ split ! $ move ! (2 ∷ []) $ split ! $ move ! (1 ∷ []) $ split ! $ move ! (1 ∷ []) $ split ! $ keep ! (6 ∷ 4 ∷ 3 ∷ 0 ∷ []) $
    in_a_block ! a.1.0 (λ p. room_at R p) (id⊢ 𝓤 _) (λ b o e.
    regoal ! (λ p. prop (WpFn 𝓤 𝓛.H 𝓣.C 𝓣.Λ code.function
    (List.◌++◌ (heap_val ∷ []) (List.◌++◌ (rawptr_vals p) (List.◌++◌ (shr_slice_vals scene) []))) (W.post (y p)))) e refl $
    enter ! _ _ _ _ _ $ alloc_all ! (λ l. pass_all ! refl (((heap_laws.lawful 𝓛).typed heap (heap_val ∷ []) are.0).0, ((tt, tt), ((tt, (tt, (record { fits = are.1.1.0.0.1.0 }, tt))), tt))) $
    -- [the room; the token of κ; the heap; the scene]
    sets ! (of_opd ! (get ! refl)) refl (tt, tt) $
    let N = triple_of 𝓛 n.signature (n.spec 𝓛 𝓜.mem 𝓡.returns) in
    let zn : N.Ghost = ((tt, tt, tt, tt, tt), tt) in
    nothing ! $ nothing ! $ join ! $ nothing ! $ move ! (1 ∷ 0 ∷ []) $ use2 𝓛 (raw (N.pre zn)) (id⊢ 𝓤 _) $
    calls_at ! (framed 𝓤 𝓛.H 𝓜 𝓣) N (made 𝓤 𝓛 𝓜 𝓡 (code.calls-geocom_instrument_c::bench::GeocomInstrument::none 𝓡.env wired)) zn (no_more !) (λ u.
    use1 𝓛 (later (some (λ (r : Option BenchState). (‵ ftrue ⊛ ‵ (R.own_val r (u ∷ []))) ⊛ some (λ (ws : Unit {0}). ‵ ftrue ⊛ raw (fact 𝓤 (r ≡ None)))))) (id⊢ 𝓤 _) $
    await ! tt $ pick ! (λ none. split ! $ split ! $ drop ! $ move ! (1 ∷ []) $ drop ! $
    peeks ! R _ (shows 𝓛 R) none (u ∷ []) (λ its. let fresh = ((laws.lawful 𝓛).typed none (u ∷ []) its).0 in
    lands_as ! refl refl fresh $
    -- [the instrument that isn't set up; the room; the token of κ; the heap; the scene]
    assigns ! (of_opd ! (get ! refl)) (through ! refl (stop !)) (init ! 1 refl fresh) $
    move ! (1 ∷ 0 ∷ []) $ use2 𝓛 (‵ (part_at R full_share none b o)) (part_in 𝓛 R refl full_share none b o u) $
    sets ! (of_opd ! (get ! refl)) refl (tt, tt) $
    sets ! (addr ! (through ! refl (stop !))) refl (tt, tt) $
    lft_new ! tt (λ α. move ! (1 ∷ []) $
    use1 𝓛 (later (some (λ (γ : GName). ‵ ((MutRef (named 0) (α ∷ []) R).own_val (record { ref_ptr = (b, o); ghost_name = γ; now = none }) (vptr b o ∷ []))
    ⊛ ‵ (flent (α ∷ []) (Body (mem R) b o γ))))) (lends_ref 𝓛 R (named 0) (α ∷ []) none b o) $
    await ! tt $ pick ! (λ γ. split ! $
    -- [the loan; what is lent; the token of α; that of κ; the heap; the scene]
    let G = triple_of 𝓛 g.signature (g.spec 𝓛 𝓜.mem 𝓡.returns) in
    let z : G.Ghost = (
      (
        (α ∷ [], (κ, tt)),
        (full_share, (q, tt)),
        tt,
        (record { ref_ptr = (b, o); ghost_name = γ; now = none }, (heap, (scene, tt))),
        (
          vptr b o ∷ [],
          (
            heap_val ∷ [],
            (shr_slice_vals scene, tt),
          ),
        ),
      ),
      tt,
    ) in
    nothing ! $ move ! (6 ∷ 0 ∷ []) $ join ! $ move ! (5 ∷ 0 ∷ []) $ join ! $ move ! (1 ∷ 0 ∷ []) $ join ! $
    nothing ! $ move ! (4 ∷ 0 ∷ []) $ join ! $ move ! (3 ∷ 0 ∷ []) $ join ! $ join ! $
    nothing ! $ move ! (1 ∷ 0 ∷ []) $ use2 𝓛 (raw (G.pre z)) (id⊢ 𝓤 _) $
    calls_at ! (framed 𝓤 𝓛.H 𝓜 𝓣) G (met 𝓤 𝓛 𝓜 𝓡 (code.calls-geocom_instrument_c::bench::GeocomInstrument::set_up 𝓡.env wired)) z
    (and_then ! (get ! refl) (and_then ! (get ! refl) (and_then ! (get ! refl) (no_more !)))) (λ v.
    use1 𝓛 (later (some (λ (r : GeocomMade). ((‵ (flft (α ∷ []) full_share) ⊛ ‵ (flft κ q) ⊛ ‵ ftrue) ⊛ ‵ (Said.own_val r (v ∷ []))) ⊛
    some (λ (ws : Option BenchState × (Unit {0} × (Unit {0} × Unit {0}))). ‵ (lasts g.ended z.0.0 z.0.3 ws) ⊛ raw (fact 𝓤 (IsSetUp scene.now ws.0 r)))))) (id⊢ 𝓤 _) $
    await ! tt $ pick ! (λ r. split ! $ split ! $ split ! $ lft_end ! tt $
    -- [α is over; the token of κ; the result; the last value and what is known; what is lent]
    move ! (2 ∷ []) $ peeks ! Said _ (shows 𝓛 Said) r (v ∷ []) (λ is. let good = ((said_laws.lawful 𝓛).typed r (v ∷ []) is).0 in
    lands_as ! refl refl good $
    move ! (3 ∷ []) $ pick ! (λ ws. split ! $ move ! (1 ∷ []) $ heard ! _ (λ set. fsplit ! $ fsplit ! $
    -- [the last value; the loan's borrow; nothing; the result; α is over; the token of κ; what is lent]
    move ! (4 ∷ 6 ∷ 0 ∷ []) $ use3 𝓛 (later (‵ (part_at R full_share ws.0 b o))) (ref_back 𝓛 R (α ∷ []) γ ws.0 b o) $ await ! tt $
    returns ! (look_at ! 0 refl) $ free_all ! refl $ keep ! (0 ∷ 3 ∷ 4 ∷ []) $
    -- [the instrument; the result; the token of κ]
    use0 𝓛 (raw (fact 𝓤 (IsSetUp scene.now ws.0 r))) (fact_i 𝓤 (IsSetUp scene.now ws.0 r) (emp 𝓤) set) $ move ! (1 ∷ 0 ∷ []) $ join ! $
    use1 𝓛 (raw (ex 𝓤 (λ (w : Option BenchState). sep 𝓤 (sem 𝓛 (lies_at R full_share (block_ptr b o) w)) (fact 𝓤 (IsSetUp scene.now w r)))))
    (ex_i 𝓤 (λ (w : Option BenchState). sep 𝓤 (sem 𝓛 (lies_at R full_share (block_ptr b o) w)) (fact 𝓤 (IsSetUp scene.now w r))) ws.0) $
    suffices ! _ (ends_at 𝓛 f.ended stayed c (y (block_ptr b o)) v r (tt, (tt, (tt, tt))) (tt, (tt, (tt, tt)))) $
    move ! (1 ∷ 0 ∷ []) $ nothing ! $ nothing ! $ join ! $ nothing ! $ join ! $ nothing ! $ join ! $
    move ! (3 ∷ []) $ group ! 3 $ done !)))))))))))))
