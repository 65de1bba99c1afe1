use Rattle.gc_world.proofs.Common.{◌≡◌, List, [], ◌∷◌, ◌++◌, length, ◌∙◌, ap, rules, Call}
use Rattle.gc_client.specs.declared.settlement.Outcome.{Outcome}
use Rattle.gc_client.specs.declared.settlement.Outcome.TheVariants.{Answered}
use Rattle.gc_client.specs.declared.settlement.Settlement.{Settlement}
use Rattle.gc_world.proofs.Appending.{last_is_blank, set_last, empty_line}
use Rattle.gc_world.proofs.entries.«Entries+Settlement+Call».push_answered.Goals as goal

pub returns : goal.returns
returns c =
    let xs : List (Settlement Call) = c.args.self.now in
    let blank : Settlement Call = record { target = c.args.target; call = c.args.call.now; outcome = Answered c.args.reading.now c.new.result } in
    let items : c.push_reserved.new.self.items ≡ xs ++ blank ∷ [] = search rules in
    let place : c.len-place.result ≡ length xs = search rules in
    let was : c.index_mut.result.now ≡ blank = last_is_blank xs c.push_reserved.new.self.items c.len-place.result blank c.index_mut.result.now items place c.index_mut.ensures.value in
    let outcome : c.put_answer_line.new.outcome ≡ Answered c.args.reading.now c.args.line.now =
    c.put_answer_line.ensures c.args.reading.now (ap (λ (s : Settlement Call). s.outcome) was
    ∙ ap (Answered c.args.reading.now) (empty_line c.new.result c.new.ensures)) in
    set_last xs c.push_reserved.new.self.items c.len-place.result blank _ _ items place
    (ap {A = Settlement Call} {B = Settlement Call} (λ s. record { target = s.target; call = s.call; outcome = c.put_answer_line.new.outcome }) was
    ∙ ap {A = Outcome} {B = Settlement Call} (λ o. record { target = c.args.target; call = c.args.call.now; outcome = o }) outcome)
