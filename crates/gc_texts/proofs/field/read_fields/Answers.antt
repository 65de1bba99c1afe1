use Rattle.gc_texts.proofs.Common.{◌≡◌, ◌<◌, List, [], ◌∷◌, ◌++◌, length, map, true, false, ap, subst, sym, ◌∙◌, arith, rules, codes, eqb-true, eqb-false, length-map, map-append, FieldSeen, IsNoFieldList, field_seen}
use Rattle.gc_texts.proofs.FieldForms.{FieldsSoFar, field_fails, fields_too_many, field_reads}
use Rattle.gc_texts.proofs.field.read_fields.Goals as goal

pub returns-in_err-field-clause-none : goal.returns-in_err-field-clause-none
returns-in_err-field-clause-none c =
    let no_arrow : c.in-Some.name.now ≡ codes "->" → ⊥ = λ e. let both : true ≡ false = sym (c.is_word.ensures.1 e) ∙ c.if-is_word.false in cc in
    let no_dots : c.in-Some.name.now ≡ codes ".." → ⊥ = λ e. let both : true ≡ false = sym (c.is_word-in-Some.ensures.1 e) ∙ c.if-is_word-2.false in cc in
    let none : IsNoFieldList c.args.words.now =
    field_fails c.args.words.now (map field_seen c.loop-name.fields.items) c.loop-name.words c.loop-name.invariant c.in-Some.name.now c.next.new.self c.in-Some.ensures
    no_arrow no_dots c.in_err-field.ensures.none in
    search rules

pub returns-then-is_full-clause-none : goal.returns-then-is_full-clause-none
returns-then-is_full-clause-none c =
    let count : length c.loop-name.fields.items ≡ 16 = eqb-true (length c.loop-name.fields.items) 16 (sym c.is_full.ensures.value ∙ c.if-is_full.true) in
    let full : length (map field_seen c.loop-name.fields.items) ≡ 16 = length-map c.loop-name.fields.items field_seen ∙ count in
    fields_too_many c.args.words.now (map field_seen c.loop-name.fields.items) c.loop-name.words c.loop-name.invariant c.in-Some.name.now c.next.new.self c.in-Some.ensures
    (field_seen c.in_ok-field.field) c.read_field.new.words c.in_ok-field.ensures.found full

pub loop-name-preserved : goal.loop-name-preserved
loop-name-preserved c =
    let other : length c.loop-name.fields.items ≡ 16 → ⊥ = eqb-false (length c.loop-name.fields.items) 16 (sym c.is_full.ensures.value ∙ c.if-is_full.false) in
    let room : length (map field_seen c.loop-name.fields.items) < 16 = omega (arith, other, c.is_full.ensures.fits, length-map c.loop-name.fields.items field_seen) in
    let grown : map field_seen c.push.new.self.items ≡ map field_seen c.loop-name.fields.items ++ field_seen c.in_ok-field.field ∷ [] =
    ap (map field_seen) c.push.ensures.items ∙ map-append field_seen c.loop-name.fields.items (c.in_ok-field.field ∷ []) in
    subst (λ (fields : List FieldSeen). FieldsSoFar c.args.words.now fields c.read_field.new.words) (sym grown)
    (field_reads c.args.words.now (map field_seen c.loop-name.fields.items) c.loop-name.words c.loop-name.invariant c.in-Some.name.now c.next.new.self c.in-Some.ensures
    (field_seen c.in_ok-field.field) c.read_field.new.words c.in_ok-field.ensures.found room)
