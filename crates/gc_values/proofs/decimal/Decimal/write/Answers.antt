use Rattle.gc_values.proofs.Common.{◌≡◌, sym, subst, rules, Spells, written}
use Rattle.gc_values.proofs.WrittenSpells.{written_spells}
use Rattle.gc_values.proofs.decimal.Decimal.write.Goals as goal

pub returns-clause-reads_back : goal.returns-clause-reads_back
returns-clause-reads_back c =
    let d = c.args.self.now in
    let text : c.push_decimal.new.out.items ≡ written d.digits d.scale = search rules in
    subst (λ xs. Spells xs d.digits d.scale) (sym text) (written_spells d.digits d.scale d.is_canonical d.has_few_places)
