-- The ghost value of `with_turn` has one snapshot more. Assumes `Logic`.
use Rattle.gc_station.proofs.Common.{List, [], ◌∷◌, ◌++◌, refl, Ura, Fn, Args, a_type, Val, vptr, SProp, ent, Memory, Routine, Calls, Loops, WpFn, Tables, Fun, tables, WpFn-mono, Logic, ‵, raw, ◌⊛◌, prop, ◌$◌, ◌∵◌, !, qed, move, keep, split, fsplit, fjoin, feq_l, regoal, suffices, done, agg, enter, returns, no_more, alloc_all, pass_all, free_all, look_at, sets, RattleType, owns, plain, types_at, nothing, Clauses, closing, alive, Meets, triple_of, entered, says, Stays, stay_dropped, walk_of, ends_at, walk_Meets, Goes-dropped, no_fields, no_fields_made}
use mir.MapTy.{inst_fn}
use contract.Running.{tables_of}
use types.Kit.{drop}
use denote.Exit.{yes}
use denote.Builtin.{RefOf}
use denote.Param.{param, layouts}
use denote.Triple.Clauses.{Ended}
use Rattle.gc_station.specs.contracts.kept.Kept.with_turn.Key.{name as #self}
use Rattle.gc_station.specs.contracts.kept.Kept as Kept
use Rattle.gc_station.specs.contracts.kept.Kept.with_turn as F
use Rattle.gc_station.proofs.kept.Kept.with_turn.Statement as stated
use Rattle.gc_station.proofs.kept.Kept.with_turn.Code as code

module _ (A B : RattleType) where
  -- the types of the link and of the book
  abbrev args : Args
  args = layouts (a_type ∷ a_type ∷ []) (A, (B, tt))

  -- the body of `with_turn`
  abbrev function : Fn
  function = inst_fn args code.function

  -- the signature and the clauses of `with_turn`
  abbrev ended : Ended
  ended = F.ended A B

  -- what was lent to the function is given back
  abbrev stayed : Stays ended.signature.params ended.kept
  stayed = (
    stay_dropped (RefOf (0 ∷ []) tt (plain (λ _. Kept.the_row)) (λ _. tt)) yes,
    (stay_dropped (RefOf (1 ∷ []) tt (plain (λ _. param 0 A)) (λ _. tt)) yes, (stay_dropped (RefOf (2 ∷ []) tt (plain (λ _. param 1 B)) (λ _. tt)) yes, tt)),
  )

  module _ {M : Type 1} {𝓤 : Ura M} (𝓛 : Logic 𝓤) (at_mem : Memory → SProp 𝓤) (run : Routine → Fun 𝓤) where
    open 𝓛 use {H}

    -- the clauses, for this logic and memory
    abbrev held : Clauses 𝓤 ended
    held = F.clauses A B 𝓛 at_mem run

    module _ (C : Calls 𝓤 H) (Λ : Loops 𝓤 H) (z : (walk_of 𝓛 ended stayed held).Ghost) where
      -- what is to be shown at the return
      abbrev Post : Val → SProp 𝓤
      Post = (walk_of 𝓛 ended stayed held).post z

      -- what shows that what was lent is alive
      abbrev toks : SProp 𝓤
      toks = alive 𝓛 ended.signature z.0.0 z.0.1

      -- the walk through the body: what the clauses ask for at the entry gives what they say at the return
      walks : ent 𝓤 ((walk_of 𝓛 ended stayed held).pre z) (WpFn 𝓤 H C Λ function ((walk_of 𝓛 ended stayed held).args z) Post)
      walks =
          let a = z.0.3 in
          let vss = z.0.4 in
          let made : (Kept.the_row).Denot = record { turns = a.0.now.turns ++ z.1 ∷ [] } in
          qed 𝓛 ((raw toks ⊛ ‵ (owns (types_at ended.signature.params z.0.0) a vss)) ∷ raw ((held z.0.0 a).requires z.1) ∷ []) ∵
          keep ! (0 ∷ []) $ split ! $ move ! (1 ∷ []) $
          fsplit ! $ fsplit ! $ feq_l ! (λ is₀. drop ! $ fsplit ! $ fsplit ! $ feq_l ! (λ is₁. drop ! $ fsplit ! $ fsplit ! $ feq_l ! (λ is₂. drop ! $ drop ! $
          let p = vptr a.0.ref_ptr.0 a.0.ref_ptr.1 in
          let q = vptr a.1.0.ref_ptr.0 a.1.0.ref_ptr.1 in
          let r = vptr a.1.1.0.ref_ptr.0 a.1.1.0.ref_ptr.1 in
          regoal ! (λ (us : List Val). prop (WpFn 𝓤 H C Λ function (us ++ (vss.1.0 ++ (vss.1.1.0 ++ []))) Post)) is₀ refl $
          regoal ! (λ (us : List Val). prop (WpFn 𝓤 H C Λ function ((p ∷ []) ++ (us ++ (vss.1.1.0 ++ []))) Post)) is₁ refl $
          regoal ! (λ (us : List Val). prop (WpFn 𝓤 H C Λ function ((p ∷ []) ++ ((q ∷ []) ++ (us ++ []))) Post)) is₂ refl $
          enter ! C Λ function (p ∷ q ∷ r ∷ []) Post $ alloc_all ! (λ l. pass_all ! refl ((tt, tt), ((tt, tt), ((tt, tt), tt))) $
          sets ! (agg ! (no_more !)) refl (tt, tt) $
          nothing ! $ no_fields_made ! $ fjoin ! $
          returns ! (look_at ! 0 refl) $ free_all ! refl $
          suffices ! _ (ends_at 𝓛 ended stayed held z no_fields made (tt, (tt, (tt, tt))) (tt, (tt, (tt, tt)))) $ says ! refl $
          nothing ! $ nothing ! $ fjoin ! $ nothing ! $ fjoin ! $ nothing ! $ fjoin ! $ move ! (2 ∷ 0 ∷ 1 ∷ []) $ done !))))

    -- the body meets the contract
    meets : (𝓣 : Tables 𝓤 H) → Meets 𝓛 ended.signature (WpFn 𝓤 H 𝓣.C 𝓣.Λ function) (closing 𝓛 ended held)
    meets 𝓣 =
        walk_Meets 𝓛 ended stayed (
          Goes-dropped 𝓛 5 (RefOf (0 ∷ []) tt (plain (λ _. Kept.the_row)) (λ _. tt)) yes (λ κs x f. refl),
          (
            Goes-dropped 𝓛 5 (RefOf (1 ∷ []) tt (plain (λ _. param 0 A)) (λ _. tt)) yes (λ κs x f. refl),
            (Goes-dropped 𝓛 5 (RefOf (2 ∷ []) tt (plain (λ _. param 1 B)) (λ _. tt)) yes (λ κs x f. refl), tt),
          ),
        ) held
        (WpFn 𝓤 H 𝓣.C 𝓣.Λ function) (WpFn-mono 𝓤 H 𝓛.laws 𝓣 function) (walks 𝓣.C 𝓣.Λ)

-- the contract of `with_turn`, as the kit states it
pub with_turn_spec : {M : Type 1} → stated.statement M
unfolding tables_of
with_turn_spec 𝓤 𝓛 𝓜 𝓡 wired A B LA LB =
    let 𝓣 : Tables 𝓤 𝓛.H = tables_of 𝓤 𝓛.H 𝓜 (tables 𝓤 𝓛.H 𝓜 𝓡 𝓡.env) in
    entered 𝓤 𝓛.H (triple_of 𝓛 (ended A B).signature (closing 𝓛 (ended A B) (held A B 𝓛 𝓜.mem 𝓡.returns))) 𝓣.C 𝓣.Λ (#self (args A B)) (function A B)
    (code.unfolded 𝓤 𝓛.H 𝓜 𝓡 wired (A, (B, tt))) (meets A B 𝓛 𝓜.mem 𝓡.returns 𝓣)
