-- The target that is aimed at is the nearest one.
use Rattle.gc_scenes.proofs.Common.{◌≡◌, ◌≤◌, ◌<◌, Bool, true, false, nat_le, cond, List, [], ◌∷◌, ◌++◌, Option, Some, None, refl, sym, ap, ◌∙◌, subst, append_assoc, append-nil, arith, leb-true, leb-false, Pointing, Target, IsNearest, IsFarOff, IsAimedAt, NearestIsNearest, apart, window, nearer, nearest_of}
use Rattle.std.specs.List.{AllByRecursion}
use Rattle.gc_lines.proofs.Lists.{all_append}
use Rattle.gc_values.proofs.Every.{every_weaker as all_on}

module _ (there : Pointing) where
  -- where none of the targets `done` is within the window, the next target is aimed at if it is within the window (`b`), and
  -- else none
  aimed_at_first : (done : List Target) (t : Target) (b : Bool) → nat_le (apart there t) window ≡ b → IsFarOff there done
      → IsAimedAt there (done ++ t ∷ []) (cond b (Some t) None)
  aimed_at_first done t true is far = record {
    front = done;
    behind = [];
    among = refl;
    within = leb-true (apart there t) window is;
    earlier = all_on (λ (u : Target). window < apart there u) (λ (u : Target). apart there t < apart there u) done (λ u beyond. omega (arith, beyond, leb-true (apart there t) window is)) far;
    later = tt;
  }
  aimed_at_first done t false is far = all_append (λ (u : Target). window < apart there u) done (t ∷ []) far (leb-false (apart there t) window is, tt)

  -- where `u` is the nearest of the targets `done`, the nearer of `u` and the next target is aimed at: `u` if they are equally
  -- near
  aimed_at_nearer : (done : List Target) (u t : Target) (b : Bool) → nat_le (apart there u) (apart there t) ≡ b → IsNearest there done u
      → IsAimedAt there (done ++ t ∷ []) (cond b (Some u) (Some t))
  aimed_at_nearer done u t true is found = record {
    front = found.front;
    behind = found.behind ++ t ∷ [];
    among = ap (λ (ts : List Target). ts ++ t ∷ []) found.among ∙ append_assoc found.front (u ∷ found.behind) (t ∷ []);
    within = found.within;
    earlier = found.earlier;
    later = all_append (λ (x : Target). apart there u ≤ apart there x) found.behind (t ∷ []) found.later (leb-true (apart there u) (apart there t) is, tt);
  }
  aimed_at_nearer done u t false is found =
      let nearer_than : apart there t < apart there u = leb-false (apart there u) (apart there t) is in
      let front = all_on (λ (x : Target). apart there u < apart there x) (λ (x : Target). apart there t < apart there x) found.front (λ x more. omega (arith, more, nearer_than)) found.earlier in
      let behind = all_on (λ (x : Target). apart there u ≤ apart there x) (λ (x : Target). apart there t < apart there x) found.behind (λ x more. omega (arith, more, nearer_than)) found.later in
      record {
        front = done;
        behind = [];
        among = refl;
        within = omega (arith, nearer_than, found.within);
        earlier = subst (λ (ts : List Target). AllByRecursion (λ x. apart there t < apart there x) ts) (sym found.among)
            (all_append (λ (x : Target). apart there t < apart there x) found.front (u ∷ found.behind) front (nearer_than, behind));
        later = tt;
      }

  -- where `o` is aimed at among the targets `done`, `nearer` gives what is aimed at once the next target is added
  aimed_at_next : (done : List Target) (o : Option Target) (t : Target) → IsAimedAt there done o → IsAimedAt there (done ++ t ∷ []) (nearer there o t)
  aimed_at_next done None t far = aimed_at_first done t (nat_le (apart there t) window) refl far
  aimed_at_next done (Some u) t found = aimed_at_nearer done u t (nat_le (apart there u) (apart there t)) refl found

  -- where `o` is aimed at among the targets `done`, `nearest_of` gives what is aimed at once the targets `ts` are added
  aimed_at_all : (done : List Target) (o : Option Target) (ts : List Target) → IsAimedAt there done o
      → IsAimedAt there (done ++ ts) (nearest_of there o ts)
  aimed_at_all done o [] is = subst (λ (ds : List Target). IsAimedAt there ds o) (sym (append-nil done)) is
  aimed_at_all done o (t ∷ ts) is =
      subst (λ (ds : List Target). IsAimedAt there ds (nearest_of there (nearer there o t) ts)) (append_assoc done (t ∷ []) ts)
      (aimed_at_all (done ++ t ∷ []) (nearer there o t) ts (aimed_at_next done o t is))

-- `nearest` gives the nearest target within the window, the first of several that are equally near, or none if all are beyond it
pub nearest_is_nearest : NearestIsNearest
nearest_is_nearest there targets = aimed_at_all there [] None targets tt
