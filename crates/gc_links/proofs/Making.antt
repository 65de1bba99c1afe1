-- Calls that were made, one after the other.
use Rattle.gc_links.proofs.Common.{List, [], ◌∷◌, ◌++◌, ◌≡◌, sym, ap, ◌∙◌, append_assoc, append-nil, Call, Makes}

-- no call was made
pub makes_none : {old : List Call} → (Fact : List Call → Type 0) → Fact [] → Makes old old Fact
makes_none {old = old} Fact fact = record { calls = []; added = sym (append-nil old); are = fact }

-- one call was made
pub makes_one : {old new : List Call} → (Fact : List Call → Type 0) → (call : Call) → new ≡ old ++ call ∷ [] → Fact (call ∷ [])
    → Makes old new Fact
makes_one Fact call is fact = record { calls = call ∷ []; added = is; are = fact }

-- what is known of the calls may be said in another way
pub makes_as : {old new : List Call} → (Fact Fact' : List Call → Type 0) → ((calls : List Call) → Fact calls → Fact' calls)
    → Makes old new Fact → Makes old new Fact'
makes_as Fact Fact' how made = record { calls = made.calls; added = made.added; are = how made.calls made.are }

-- some calls were made, and then more
pub makes_then : {old mid new : List Call} → (First Then Fact : List Call → Type 0)
    → ((xs ys : List Call) → First xs → Then ys → Fact (xs ++ ys)) → Makes old mid First → Makes mid new Then → Makes old new Fact
makes_then {old = old} First Then Fact join one two = record {
  calls = one.calls ++ two.calls;
  added = two.added ∙ ap (λ xs. xs ++ two.calls) one.added ∙ append_assoc old one.calls two.calls;
  are = join one.calls two.calls one.are two.are;
}
