use Rattle.gc_world.proofs.Common.{◌≡◌, ℕ, List, [], ◌∷◌, ◌++◌, length, ◌∙◌, ap, rules, ArrayVec, Sent}
use Rattle.gc_world.proofs.Appending.{last_is_blank, set_last, line_appended}
use Rattle.gc_world.proofs.entries.«Entries+Sent».push_sent.Goals as goal

pub returns : goal.returns
returns c =
    let xs : List Sent = c.args.self.now in
    let blank : Sent = record { target = c.args.target; call = c.args.call.now; line = c.new.result } in
    let items : c.push_reserved.new.self.items ≡ xs ++ blank ∷ [] = search rules in
    let place : c.len-place.result ≡ length xs = search rules in
    let was : c.index_mut.result.now ≡ blank = last_is_blank xs c.push_reserved.new.self.items c.len-place.result blank c.index_mut.result.now items place c.index_mut.ensures.value in
    let line : c.append.new.to ≡ c.args.line.now = line_appended c.index_mut.result.now.line c.append.new.to c.args.line.now c.deref.result.now
    (ap (λ (m : Sent). m.line.items) was ∙ c.new.ensures) c.append.ensures (search rules) in
    set_last xs c.push_reserved.new.self.items c.len-place.result blank _ _ items place
    (ap {A = Sent} {B = Sent} (λ m. record { target = m.target; call = m.call; line = c.append.new.to }) was
    ∙ ap {A = ArrayVec ℕ} {B = Sent} (λ l. record { target = c.args.target; call = c.args.call.now; line = l }) line)
