-- `all` picks the steps of the past. Assumes `Logic`.
use Rattle.gc_files.proofs.Common.{List, [], ◌∷◌, ◌++◌, refl, Ura, Fn, Val, vptr, SProp, ent, Memory, Routine, Calls, Loops, WpFn, Tables, Fun, tables, WpFn-mono, Logic, ‵, raw, ◌⊛◌, prop, ◌$◌, ◌∵◌, !, qed, move, keep, split, fsplit, fjoin, feq_l, regoal, suffices, done, agg, enter, returns, no_more, alloc_all, pass_all, free_all, look_at, sets, yes, owns, RefOf, plain, types_at, nothing, Clauses, Ended, closing, alive, Meets, triple_of, entered, says, Stays, stay_dropped, walk_of, ends_at, walk_Meets, Goes-dropped, no_fields, no_fields_made, all_steps}
use contract.Running.{tables_of}
use types.Kit.{drop}
use Rattle.gc_files.specs.contracts.past.Pasts.all.Key.{name as #self}
use Rattle.gc_files.specs.contracts.past.Past as Past
use Rattle.gc_files.specs.contracts.past.Pasts as Pasts
use Rattle.gc_files.specs.contracts.past.Pasts.all as F
use Rattle.gc_files.proofs.past.Pasts.all.Statement as stated
use Rattle.gc_files.proofs.past.Pasts.all.Code as code

abbrev function : Fn
function = code.function

abbrev ended : Ended
ended = F.ended

abbrev stayed : Stays ended.signature.params ended.kept
stayed = (stay_dropped _ yes, tt)

module _ {M : Type 1} {𝓤 : Ura M} (𝓛 : Logic 𝓤) (at_mem : Memory → SProp 𝓤) (run : Routine → Fun 𝓤) where
  open 𝓛 use {H}

  abbrev held : Clauses 𝓤 ended
  held = F.clauses 𝓛 at_mem run

  module _ (C : Calls 𝓤 H) (Λ : Loops 𝓤 H) (z : (walk_of 𝓛 ended stayed held).Ghost) where
    abbrev Post : Val → SProp 𝓤
    Post = (walk_of 𝓛 ended stayed held).post z

    abbrev toks : SProp 𝓤
    toks = alive 𝓛 ended.signature z.0.0 z.0.1

    walks : ent 𝓤 ((walk_of 𝓛 ended stayed held).pre z) (WpFn 𝓤 H C Λ function ((walk_of 𝓛 ended stayed held).args z) Post)
    walks =
        let a = z.0.3 in
        let vss = z.0.4 in
        let u : Val = vptr a.0.ref_ptr.0 a.0.ref_ptr.1 in
        let past : (Past.the_row).Denot = record { steps = all_steps a.0.now.files } in
        qed 𝓛 ((raw toks ⊛ ‵ (owns (types_at ended.signature.params z.0.0) a vss)) ∷ raw ((held z.0.0 a).requires z.1) ∷ []) ∵
        keep ! (0 ∷ []) $ split ! $ move ! (1 ∷ []) $ fsplit ! $ fsplit ! $ feq_l ! (λ is₀. drop ! $ drop ! $
        regoal ! (λ (us : List Val). prop (WpFn 𝓤 H C Λ function (us ++ []) Post)) is₀ refl $
        enter ! C Λ function (u ∷ []) Post $ alloc_all ! (λ l. pass_all ! refl ((tt, tt), tt) $
        sets ! (agg ! (no_more !)) refl (tt, tt) $
        nothing ! $ no_fields_made ! $ fjoin ! $
        returns ! (look_at ! 0 refl) $ free_all ! refl $
        suffices ! _ (ends_at 𝓛 ended stayed held z no_fields past (tt, tt) (tt, tt)) $ says ! refl $
        nothing ! $ nothing ! $ fjoin ! $ move ! (2 ∷ 0 ∷ 1 ∷ []) $ done !))

  -- the body meets the contract
  meets : (𝓣 : Tables 𝓤 H) → Meets 𝓛 ended.signature (WpFn 𝓤 H 𝓣.C 𝓣.Λ function) (closing 𝓛 ended held)
  meets 𝓣 =
      walk_Meets 𝓛 ended stayed (
        Goes-dropped 𝓛 1 (RefOf (0 ∷ []) tt (plain
            (λ _. Pasts.the_row)) (λ _. tt)) yes (λ κs x f. refl),
        tt,
      ) held
      (WpFn 𝓤 H 𝓣.C 𝓣.Λ function) (WpFn-mono 𝓤 H 𝓛.laws 𝓣 function) (walks 𝓣.C 𝓣.Λ)

-- the contract of `all`, as the kit states it
pub all_spec : {M : Type 1} → stated.statement M
unfolding tables_of
all_spec 𝓤 𝓛 𝓜 𝓡 wired =
    let 𝓣 : Tables 𝓤 𝓛.H = tables_of 𝓤 𝓛.H 𝓜 (tables 𝓤 𝓛.H 𝓜 𝓡 𝓡.env) in
    entered 𝓤 𝓛.H (triple_of 𝓛 ended.signature (closing 𝓛 ended (held 𝓛 𝓜.mem 𝓡.returns))) 𝓣.C 𝓣.Λ #self function
    (code.unfolded 𝓤 𝓛.H 𝓜 𝓡 wired) (meets 𝓛 𝓜.mem 𝓡.returns 𝓣)
