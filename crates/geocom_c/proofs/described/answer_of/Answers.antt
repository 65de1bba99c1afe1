use Rattle.geocom_c.proofs.Common.{rules, ◌≡◌, ◌∙◌, ℕ, suc, length, refl, subst, length-map, reply_seen, description_seen, field_seen, KindsSeen, kinds_seen, IsDescribedReading, GeocomAnswer}
use Rattle.geocom_c.proofs.DescribedReplies.{has_items, same_kinds}
use Rattle.geocom_c.proofs.described.answer_of.Goals as goal

pub returns : goal.returns
returns c =
    let told = c.args.told.now in
    let d = description_seen c.args.description.now in
    let reply = reply_seen c.args.reply.now in
    let kind = c.kind_of-reading.result.0 in
    let items = c.if-reading-eq-VALUE.result in
    let columns = c.if-reading-eq-VALUE-2.result in
    let answer : GeocomAnswer = record { fault = 0; code = c.kind_of-reading.result.1; items = items; columns = columns; places = told.places; reading = kind } in
    let kinds = same_kinds (kinds_seen c.answers.result) _ _ c.answers.ensures.kinds c.answers.ensures.also in
    let reads = subst (λ (k : KindsSeen). IsDescribedReading k reply c.reading_of.result) kinds c.reading_of.ensures in
    let these : kind ≡ 1 → items ≡ told.items = search rules in
    let named : kind ≡ 1 → columns ≡ c.len-columns.result = search rules in
    let counted : c.len-columns.result ≡ length d.values = search (rules, length-map c.args.description.now.values.items field_seen) in
    let no_items : (n : ℕ) → kind ≡ suc (suc n) → items ≡ 0 = search rules in
    let no_columns : (n : ℕ) → kind ≡ suc (suc n) → columns ≡ 0 = search rules in
    record {
      fault = refl;
      reading = c.reading_of.result;
      is_reading = reads;
      kind = c.kind_of-reading.ensures;
      items = has_items d answer told.text.items told.items reply c.reading_of.result c.requires reads c.kind_of-reading.ensures
          (λ e. (these e, named e ∙ counted)) (λ n e. (no_items n e, no_columns n e));
    }
