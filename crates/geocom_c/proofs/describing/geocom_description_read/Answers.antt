use Rattle.geocom_c.proofs.Common.{◌≡◌, ◌≤◌, ◌∙◌, List, ℕ, length, map, refl, sym, ap, subst, arith, length-map, description_seen, field_seen, IsColumnOf, FirstAre, WritesWithin}
use Rattle.gc_texts.specs.declared.field.Field.{Field}
use Rattle.geocom_c.specs.Describing as describing
use Rattle.geocom_c.proofs.describing.geocom_description_read.Goals as goal

pub returns-in-Ok : goal.returns-in-Ok
returns-in-Ok c =
    let values = c.in-Ok.description.values.items in
    let room : 16 ≤ length c.args.columns.now = omega (arith, c.if-columns-lt-MOST_ITEMS.false) in
    let same : c.as_slice.result.now ≡ values = c.as_slice.ensures.value in
    let count : length c.as_slice.result.now ≡ c.told.result.columns = ap length same ∙ sym (length-map values field_seen) ∙ sym c.told.ensures.columns in
    describing.reads (description_seen c.in-Ok.description) room c.in-Ok.ensures.found c.told.ensures
    (subst (λ (fs : List Field). FirstAre IsColumnOf c.put_columns.new.columns (map field_seen fs)) same c.put_columns.ensures.columns)
    (subst (λ (n : ℕ). WritesWithin n c.args.columns.now c.put_columns.new.columns) count c.put_columns.ensures.written)

pub returns-in-Err : goal.returns-in-Err
returns-in-Err c =
    let room : 16 ≤ length c.args.columns.now = omega (arith, c.if-columns-lt-MOST_ITEMS.false) in
    describing.describes_nothing c.in-Err.fault room c.in-Err.ensures.fault c.told_nothing-in-Err.ensures refl
