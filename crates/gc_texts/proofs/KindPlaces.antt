-- The kinds of fields put into 16 places, from the left: those of the first `k` were.
use Rattle.gc_texts.proofs.Common.{◌≡◌, ◌<◌, ◌≤◌, ◌+◌, ◌-◌, ℕ, suc, Bool, List, [], ◌∷◌, ◌++◌, length, map, take, get_or, replicate, slice_set, arith, refl, ap, sym, ◌∙◌, subst, append_assoc, set-append_seam, length_push, length-append, length-map, length-replicate, length-take-le, map-append, take_all, take_at, take_more, Kind, field_seen, kinds_of_fields, padded_kinds, Field}
use Rattle.std.proofs.Props.{props}
use Rattle.gc_values.specs.declared.value.Kind.TheVariants.{Bool as Boolean}
use Rattle.gc_texts.specs.KindLists.{kinds_of}
use Rattle.gc_texts.specs.declared.kinds.Kinds.{Kinds}

-- the kinds of the first k fields
abbrev pub kinds_before : List Field → (k : ℕ) → List Kind
kinds_before fields k = kinds_of_fields (map field_seen (take k fields))

-- there are k of them
kinds_counted : (fields : List Field) (k : ℕ) → k ≤ length fields → length (kinds_before fields k) ≡ k
kinds_counted fields k within =
    length-map (map field_seen (take k fields)) (λ f. f.kind) ∙ length-map (take k fields) field_seen ∙ length-take-le k fields within

-- the kinds of one more field are those before it, and its own
kinds_more : (fields : List Field) (k : ℕ) (f : Field) → k < length fields → f ≡ get_or fields k f → kinds_before fields (k + 1) ≡ kinds_before fields k ++ f.kind ∷ []
kinds_more fields k f below here =
    ap (λ fs. kinds_of_fields (map field_seen fs)) (take_more fields k f below)
    ∙ ap kinds_of_fields (map-append field_seen (take k fields) (get_or fields k f ∷ []))
    ∙ map-append (λ g. g.kind) (map field_seen (take k fields)) (field_seen (get_or fields k f) ∷ [])
    ∙ ap (λ (g : Field). kinds_before fields k ++ g.kind ∷ []) (sym here)

-- one more kind in the next place
padded_more : (listed : List Kind) (kind : Kind) (k : ℕ) → length listed ≡ k → k < 16 → slice_set (padded_kinds listed) k kind ≡ padded_kinds (listed ++ kind ∷ [])
padded_more listed kind k n room =
    let some : 16 - length listed ≡ suc (15 - length listed) = omega (arith, n, room) in
    let less : 16 - length (listed ++ kind ∷ []) ≡ 15 - length listed = omega (arith, length_push listed kind) in
    ap (λ j. slice_set (listed ++ replicate j Boolean) k kind) some
    ∙ ap (λ j. slice_set (listed ++ Boolean ∷ replicate (15 - length listed) Boolean) j kind) (sym n)
    ∙ set-append_seam listed Boolean (replicate (15 - length listed) Boolean) kind ∙ sym (append_assoc listed (kind ∷ []) (replicate (15 - length listed) Boolean))
    ∙ ap (λ j. (listed ++ kind ∷ []) ++ replicate j Boolean) (sym less)

-- where the kinds of the first k fields are in their places, and that of the next is put there, those of the first k + 1 are
pub filled_more : (fields : List Field) (k : ℕ) (f : Field) (kinds : List Kind) → k < length fields → length fields ≤ 16 → f ≡ get_or fields k f
    → kinds ≡ padded_kinds (kinds_before fields k) → slice_set kinds k f.kind ≡ padded_kinds (kinds_before fields (k + 1))
filled_more fields k f kinds below few here is =
    let within : k ≤ length fields = omega (arith, below) in
    let room : k < 16 = omega (arith, below, few) in
    ap (λ l. slice_set l k f.kind) is ∙ padded_more (kinds_before fields k) f.kind k (kinds_counted fields k within) room
    ∙ ap padded_kinds (sym (kinds_more fields k f below here))

-- 16 places are 16
padded_long : (listed : List Kind) → length listed ≤ 16 → length (padded_kinds listed) ≡ 16
padded_long listed few =
    let both = length-append listed (replicate (16 - length listed) Boolean) in
    let rest = length-replicate (16 - length listed) Boolean in
    omega (arith, few, both, rest)

-- kinds that are equal in their places, their number and whether more may follow
abbrev kinds_with : (ks : List Kind) (n : ℕ) (more : Bool) → n ≤ 16 → length ks ≡ 16 → Kinds
kinds_with ks n more few long = record { kinds = ks; len = n; more = more; few = few; long = long }

-- whatever the proofs of their facts are
same_proofs : (ks : List Kind) (n : ℕ) (more : Bool) (few less : n ≤ 16) (long places : length ks ≡ 16) → kinds_with ks n more few long ≡ kinds_with ks n more less places
same_proofs ks n more few less long places =
    let one_few : IsProp (n ≤ 16) = hlevel props in
    let one_long : IsProp (length ks ≡ 16) = hlevel props in
    ap (λ x. kinds_with ks n more x long) (one_few few less) ∙ ap (kinds_with ks n more less) (one_long long places)

same_parts : (ks : List Kind) (n : ℕ) (more : Bool) (few : n ≤ 16) (long : length ks ≡ 16) (ls : List Kind) (m : ℕ) (also : Bool)
    → ks ≡ ls → n ≡ m → more ≡ also → (less : m ≤ 16) (places : length ls ≡ 16) → kinds_with ks n more few long ≡ kinds_with ls m also less places
same_parts ks n more few long ls m also e f g =
    let P : List Kind → Type 0 = λ l. (less : m ≤ 16) (places : length l ≡ 16) → kinds_with ks n more few long ≡ kinds_with l m also less places in
    let Q : ℕ → Type 0 = λ k. (less : k ≤ 16) (places : length ks ≡ 16) → kinds_with ks n more few long ≡ kinds_with ks k also less places in
    let R : Bool → Type 0 = λ b. (less : n ≤ 16) (places : length ks ≡ 16) → kinds_with ks n more few long ≡ kinds_with ks n b less places in
    subst P e (subst Q f (subst R g (λ less places. same_proofs ks n more few less long places)))

same_kinds : (a b : Kinds) → a.kinds ≡ b.kinds → a.len ≡ b.len → a.more ≡ b.more → a ≡ b
same_kinds a b kinds len more = same_parts a.kinds a.len a.more a.few a.long b.kinds b.len b.more kinds len more b.few b.long

-- once the kinds of all fields, at most 16, are in their places
module _ (fields : List Field) (k : ℕ) (kinds : List Kind) (few : length fields ≤ 16) (past : length fields ≤ k) (is : kinds ≡ padded_kinds (kinds_before fields k)) where
  -- they are those of all fields
  all_kinds : kinds_before fields k ≡ kinds_of_fields (map field_seen fields)
  all_kinds = ap (λ fs. kinds_of_fields (map field_seen fs)) (take_all k fields past)

  -- as many as fields
  all_counted : length (kinds_of_fields (map field_seen fields)) ≡ length fields
  all_counted = length-map (map field_seen fields) (λ f. f.kind) ∙ length-map fields field_seen

  -- and in the first places
  pub kinds_first : take (length fields) kinds ≡ kinds_of_fields (map field_seen fields)
  kinds_first =
      ap (λ l. take (length fields) l) (is ∙ ap padded_kinds all_kinds)
      ∙ take_at (kinds_of_fields (map field_seen fields)) (replicate (16 - length (kinds_of_fields (map field_seen fields))) Boolean) (length fields) all_counted

  -- of which there are 16
  pub places_long : length kinds ≡ 16
  places_long =
      let counted = all_counted in
      ap length (is ∙ ap padded_kinds all_kinds) ∙ padded_long (kinds_of_fields (map field_seen fields)) (omega (arith, counted, few))

  -- these are the kinds of the fields
  pub made_kinds : (made : Kinds) → made.kinds ≡ kinds → made.len ≡ length fields → made ≡ kinds_of (map field_seen fields) made.more
  made_kinds made kinds_are len_is =
      let long : length (map field_seen fields) ≡ length fields = length-map fields field_seen in
      let all : take 16 (map field_seen fields) ≡ map field_seen fields = take_all 16 (map field_seen fields) (omega (arith, long, few)) in
      same_kinds made (kinds_of (map field_seen fields) made.more)
      (kinds_are ∙ is ∙ ap padded_kinds all_kinds ∙ ap (λ fs. padded_kinds (kinds_of_fields fs)) (sym all))
      (len_is ∙ sym long ∙ ap length (sym all)) refl
