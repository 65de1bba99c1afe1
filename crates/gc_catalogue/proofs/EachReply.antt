-- Each reply has a reading for each call: if both codes are 0, the parameters are read as an answer of the call, or there is a
-- fault for which they can't be.
use Rattle.gc_catalogue.proofs.Common.{◌≡◌, ℕ, List, [], refl, sym, ap, ◌∙◌, subst, ◌⊎◌, inl, inr, kind_of, kinds_of, AreParams, ValueFault, Kind, Value, each_list, answer_fields, IsAnswer, IsUnreadable, call_fields, EachReplyIsRead, Answer, Call}
use Rattle.std.proofs.Common.{◌∷◌}
use Rattle.std.specs.Prelude.{Bool, ℤ, pos}
use Rattle.gc_values.specs.Prelude.{zero}
use Rattle.gc_values.specs.declared.decimal.Decimal.{Decimal}
use Rattle.gc_catalogue.specs.declared.answer.Shape.{Shape}
use Rattle.gc_catalogue.proofs.ReadingLaws.{each_reading_by}
use Rattle.gc_values.specs.declared.value.Kind.TheVariants as kind
use Rattle.gc_values.specs.declared.value.Value.TheVariants as value
use Rattle.gc_catalogue.specs.declared.answer.Answer.TheVariants as answer
use Rattle.gc_catalogue.specs.declared.answer.Shape.TheVariants as shape

-- the value is of this kind: it holds a decimal, a whole number, a truth value or bytes, as the kind says
abbrev IsOfKind : Kind → Value → Type 0
IsOfKind kind.Double v = (d : Decimal) × (value.Double d ≡ v)
IsOfKind kind.Long v = (z : ℤ) × (value.Long z ≡ v)
IsOfKind kind.Short v = (z : ℤ) × (value.Short z ≡ v)
IsOfKind kind.Byte v = (n : ℕ) × (value.Byte n ≡ v)
IsOfKind kind.Bool v = (b : Bool) × (value.Bool b ≡ v)
IsOfKind kind.Text v = (bytes : List ℕ) × (value.Text bytes ≡ v)

-- each value is of its own kind (`IsOfKind`)
is_of_kind : (v : Value) → IsOfKind (kind_of v) v
is_of_kind (value.Double d) = (d, refl)
is_of_kind (value.Long z) = (z, refl)
is_of_kind (value.Short z) = (z, refl)
is_of_kind (value.Byte n) = (n, refl)
is_of_kind (value.Bool b) = (b, refl)
is_of_kind (value.Text bytes) = (bytes, refl)

-- the list vs is a first value, of the kind k (`IsOfKind`), and the values behind it, of the kinds ks
record FirstValue (k : Kind) (ks : List Kind) (vs : List Value) : Type 0 where
  first : Value
  behind : List Value
  is : first ∷ behind ≡ vs
  made : IsOfKind k first
  kinds : kinds_of behind ≡ ks

-- values whose kinds are k and then ks are a first value of the kind k, and behind it values of the kinds ks
first_value : (k : Kind) (ks : List Kind) (vs : List Value) → kinds_of vs ≡ k ∷ ks → FirstValue k ks vs
first_value k ks [] e = absurd (cc)
first_value k ks (v ∷ vs) e =
    let same : kind_of v ≡ k = cc in
    record { first = v; behind = vs; is = refl; made = subst (λ (j : Kind). IsOfKind j v) same (is_of_kind v); kinds = cc }

-- values whose list of kinds is empty are none
no_kinds_no_values : (vs : List Value) → kinds_of vs ≡ [] → [] ≡ vs
no_kinds_no_values [] e = refl
no_kinds_no_values (v ∷ vs) e = absurd (cc)

-- there is an answer of this shape with these values
abbrev HasAnswer : Shape → List Value → Type 0
HasAnswer s vs = (a : Answer) × ((answer_fields a).shape ≡ s) × ((answer_fields a).values ≡ vs)

-- `some` is an answer of the shape, and for each list of values of the same kinds as the values of `some`, there is an answer of
-- the shape with just these values
record ShapeIsAnswered (s : Shape) : Type 0 where
  some : Answer
  shape : (answer_fields some).shape ≡ s
  each : (vs : List Value) → kinds_of vs ≡ kinds_of (answer_fields some).values → HasAnswer s vs

-- a list of one value of the kind k has an answer of the shape s, if `make` gives every value of that kind, and each value that
-- `make` gives alone makes such an answer
one_value_answer : {X : Type 0} (k : Kind) (make : X → Value) (s : Shape) → ((v : Value) → IsOfKind k v → (x : X) × (make x ≡ v))
    → ((x : X) → HasAnswer s (make x ∷ [])) → (vs : List Value) → kinds_of vs ≡ k ∷ [] → HasAnswer s vs
one_value_answer k make s is says vs e =
    let p = first_value k [] vs e in
    let x = is p.first p.made in
    let a = says x.0 in
    (a.0, a.1, a.2 ∙ ap (λ v. v ∷ []) x.1 ∙ ap (λ ws. p.first ∷ ws) (no_kinds_no_values p.behind p.kinds) ∙ p.is)

-- `ShapeIsAnswered` holds of every shape
shape_is_answered : (s : Shape) → ShapeIsAnswered s
shape_is_answered shape.Nothing = record { some = answer.Nothing; shape = refl; each = λ vs e. (answer.Nothing, refl, no_kinds_no_values vs e) }
shape_is_answered shape.Short = record {
  some = answer.Short (pos 0);
  shape = refl;
  each = one_value_answer kind.Short (λ (z : ℤ). value.Short z) shape.Short (λ v made. made) (λ z. (answer.Short z, refl, refl));
}
shape_is_answered shape.Long = record {
  some = answer.Long (pos 0);
  shape = refl;
  each = one_value_answer kind.Long (λ (z : ℤ). value.Long z) shape.Long (λ v made. made) (λ z. (answer.Long z, refl, refl));
}
shape_is_answered shape.Name = record {
  some = answer.Name [];
  shape = refl;
  each = one_value_answer kind.Text (λ (t : List ℕ). value.Text t) shape.Name (λ v made. made) (λ t. (answer.Name t, refl, refl));
}
shape_is_answered shape.Temperature = record {
  some = answer.Temperature zero;
  shape = refl;
  each = one_value_answer kind.Double (λ (d : Decimal). value.Double d) shape.Temperature (λ v made. made) (λ d. (answer.Temperature d, refl, refl));
}
shape_is_answered shape.Height = record {
  some = answer.Height zero;
  shape = refl;
  each = one_value_answer kind.Double (λ (d : Decimal). value.Double d) shape.Height (λ v made. made) (λ d. (answer.Height d, refl, refl));
}
shape_is_answered shape.Version = record { some = answer.Version (pos 0) (pos 0) (pos 0); shape = refl; each = version } where
  -- each list of three Shorts is the values of an answer of the shape `Version`
  version : (vs : List Value) → kinds_of vs ≡ kind.Short ∷ kind.Short ∷ kind.Short ∷ [] → HasAnswer shape.Version vs
  version vs e =
      let p = first_value kind.Short (kind.Short ∷ kind.Short ∷ []) vs e in
      let q = first_value kind.Short (kind.Short ∷ []) p.behind p.kinds in
      let r = first_value kind.Short [] q.behind q.kinds in
      let a = p.made in
      let b = q.made in
      let c = r.made in
      (answer.Version a.0 b.0 c.0, refl, cc (a.1, b.1, c.1, no_kinds_no_values r.behind r.kinds, r.is, q.is, p.is))
shape_is_answered shape.Date = record { some = answer.Date (record { year = pos 0; month = 0; day = 0; hour = 0; minute = 0; second = 0 }); shape = refl; each = date } where
  -- each list of a Short and five Bytes is the values of an answer of the shape `Date`
  date : (vs : List Value) → kinds_of vs ≡ kind.Short ∷ kind.Byte ∷ kind.Byte ∷ kind.Byte ∷ kind.Byte ∷ kind.Byte ∷ [] → HasAnswer shape.Date vs
  date vs e =
      let p = first_value kind.Short (kind.Byte ∷ kind.Byte ∷ kind.Byte ∷ kind.Byte ∷ kind.Byte ∷ []) vs e in
      let q = first_value kind.Byte (kind.Byte ∷ kind.Byte ∷ kind.Byte ∷ kind.Byte ∷ []) p.behind p.kinds in
      let r = first_value kind.Byte (kind.Byte ∷ kind.Byte ∷ kind.Byte ∷ []) q.behind q.kinds in
      let s = first_value kind.Byte (kind.Byte ∷ kind.Byte ∷ []) r.behind r.kinds in
      let t = first_value kind.Byte (kind.Byte ∷ []) s.behind s.kinds in
      let u = first_value kind.Byte [] t.behind t.kinds in
      let a = p.made in
      let b = q.made in
      let c = r.made in
      let d = s.made in
      let m = t.made in
      let n = u.made in (
        answer.Date (record { year = a.0; month = b.0; day = c.0; hour = d.0; minute = m.0; second = n.0 }),
        refl,
        cc (a.1, b.1, c.1, d.1, m.1, n.1, no_kinds_no_values u.behind u.kinds, u.is, t.is, s.is, r.is, q.is, p.is),
      )
shape_is_answered shape.Place = record { some = answer.Place (record { e0 = zero; n0 = zero; h0 = zero; hi = zero }); shape = refl; each = place } where
  -- each list of four Doubles is the values of an answer of the shape `Place`
  place : (vs : List Value) → kinds_of vs ≡ kind.Double ∷ kind.Double ∷ kind.Double ∷ kind.Double ∷ [] → HasAnswer shape.Place vs
  place vs e =
      let p = first_value kind.Double (kind.Double ∷ kind.Double ∷ kind.Double ∷ []) vs e in
      let q = first_value kind.Double (kind.Double ∷ kind.Double ∷ []) p.behind p.kinds in
      let r = first_value kind.Double (kind.Double ∷ []) q.behind q.kinds in
      let s = first_value kind.Double [] r.behind r.kinds in
      let a = p.made in
      let b = q.made in
      let c = r.made in
      let d = s.made in (
        answer.Place (record { e0 = a.0; n0 = b.0; h0 = c.0; hi = d.0 }),
        refl,
        cc (a.1, b.1, c.1, d.1, no_kinds_no_values s.behind s.kinds, s.is, r.is, q.is, p.is),
      )
shape_is_answered shape.Angles = record { some = answer.Angles zero zero; shape = refl; each = angles } where
  -- each list of two Doubles is the values of an answer of the shape `Angles`
  angles : (vs : List Value) → kinds_of vs ≡ kind.Double ∷ kind.Double ∷ [] → HasAnswer shape.Angles vs
  angles vs e =
      let p = first_value kind.Double (kind.Double ∷ []) vs e in
      let q = first_value kind.Double [] p.behind p.kinds in
      let a = p.made in
      let b = q.made in
      (answer.Angles a.0 b.0, refl, cc (a.1, b.1, no_kinds_no_values q.behind q.kinds, q.is, p.is))
shape_is_answered shape.Measured = record { some = answer.Measured zero zero zero; shape = refl; each = measured } where
  -- each list of three Doubles is the values of an answer of the shape `Measured`
  measured : (vs : List Value) → kinds_of vs ≡ kind.Double ∷ kind.Double ∷ kind.Double ∷ [] → HasAnswer shape.Measured vs
  measured vs e =
      let p = first_value kind.Double (kind.Double ∷ kind.Double ∷ []) vs e in
      let q = first_value kind.Double (kind.Double ∷ []) p.behind p.kinds in
      let r = first_value kind.Double [] q.behind q.kinds in
      let a = p.made in
      let b = q.made in
      let c = r.made in
      (answer.Measured a.0 b.0 c.0, refl, cc (a.1, b.1, c.1, no_kinds_no_values r.behind r.kinds, r.is, q.is, p.is))
shape_is_answered shape.MeasuredMode = record { some = answer.MeasuredMode zero zero zero (pos 0); shape = refl; each = with_mode } where
  -- each list of three Doubles and a Long is the values of an answer of the shape `MeasuredMode`
  with_mode : (vs : List Value) → kinds_of vs ≡ kind.Double ∷ kind.Double ∷ kind.Double ∷ kind.Long ∷ [] → HasAnswer shape.MeasuredMode vs
  with_mode vs e =
      let p = first_value kind.Double (kind.Double ∷ kind.Double ∷ kind.Long ∷ []) vs e in
      let q = first_value kind.Double (kind.Double ∷ kind.Long ∷ []) p.behind p.kinds in
      let r = first_value kind.Double (kind.Long ∷ []) q.behind q.kinds in
      let s = first_value kind.Long [] r.behind r.kinds in
      let a = p.made in
      let b = q.made in
      let c = r.made in
      let m = s.made in
      (answer.MeasuredMode a.0 b.0 c.0 m.0, refl, cc (a.1, b.1, c.1, m.1, no_kinds_no_values s.behind s.kinds, s.is, r.is, q.is, p.is))

-- parameters are read as an answer of the call, or are unreadable for it by some fault
answer_or_unreadable : (call : Call) (params : List ℕ) → ((a : Answer) × IsAnswer call params a) ⊎ ((e : ValueFault) × IsUnreadable call params e)
answer_or_unreadable call params =
    let m = shape_is_answered (call_fields call).answer in
    elim (each_list (kinds_of (answer_fields m.some).values) params) [
      | inl read ↦
          let a = m.each read.0 read.1 in
          inl (a.0, record { of_call = a.1; values = subst (AreParams params) (sym a.2) read.2 })
      | inr faulty ↦ inr (faulty.0, (m.some, m.shape, faulty.1))
    ]

-- each reply has a reading for each call
pub each_reply : EachReplyIsRead
each_reply call r = each_reading_by (IsAnswer call r.params) (IsUnreadable call r.params) r (answer_or_unreadable call r.params)
