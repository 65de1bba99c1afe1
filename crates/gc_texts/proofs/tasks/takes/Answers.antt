use Rattle.gc_texts.proofs.Common.{rules, ◌≡◌, true, false, nat_lt, Some, subst, sym, ◌∙◌, same_Some, raw_bytes, RawCall, AreValueFiles, sampled, value_items, values_in}
use Rattle.gc_texts.proofs.Fitting.{OfKinds, not_taken, not_taken_plain, taken_plain, taken_sampled}
use Rattle.gc_texts.proofs.tasks.takes.Goals as goal

pub returns-then-not-has_values-clause-found : goal.returns-then-not-has_values-clause-found
returns-then-not-has_values-clause-found c so =
    let d = c.args.description.now in
    let raw = c.args.raw.now in
    let none : nat_lt 0 (values_in (raw_bytes raw.params)) ≡ false = search rules in
    taken_plain d raw none (subst (OfKinds d) c.params-then-not-has_values.ensures.bytes (c.takes.ensures.found so))

pub returns-then-not-has_values-clause-none : goal.returns-then-not-has_values-clause-none
returns-then-not-has_values-clause-none c so =
    let d = c.args.description.now in
    let raw = c.args.raw.now in
    let none : nat_lt 0 (values_in (raw_bytes raw.params)) ≡ false = search rules in
    not_taken_plain d raw none
    (λ has. let are = subst (OfKinds d) (sym c.params-then-not-has_values.ensures.bytes) has in c.takes.ensures.none so are.0 are.1)

pub returns-in-Some-clause-found : goal.returns-in-Some-clause-found
returns-in-Some-clause-found c so =
    let d = c.args.description.now in
    let raw = c.args.raw.now in
    let some : nat_lt 0 (values_in (raw_bytes raw.params)) ≡ true = search rules in
    let sound : AreValueFiles (value_items (raw_bytes raw.params)) = search rules in
    let is : sampled raw ≡ Some c.in-Some.sample = search rules in
    taken_sampled d raw c.in-Some.sample some sound is (subst (OfKinds d) c.params-in-Some.ensures.bytes (c.takes-in-Some.ensures.found so))

pub returns-in-Some-clause-none : goal.returns-in-Some-clause-none
returns-in-Some-clause-none c so =
    let d = c.args.description.now in
    let raw = c.args.raw.now in
    let some : nat_lt 0 (values_in (raw_bytes raw.params)) ≡ true = search rules in
    let is : sampled raw ≡ Some c.in-Some.sample = search rules in
    not_taken d raw some
    (λ other sound e has.
    let same : other ≡ c.in-Some.sample = same_Some other c.in-Some.sample (sym e ∙ is) in
    let here = subst (λ (r : RawCall). OfKinds d (raw_bytes r.params)) same has in
    let are = subst (OfKinds d) (sym c.params-in-Some.ensures.bytes) here in
    c.takes-in-Some.ensures.none so are.0 are.1)
