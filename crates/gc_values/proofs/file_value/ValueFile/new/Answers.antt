use Rattle.gc_values.proofs.Common.{◌≡◌, ◌-◌, ap, length, refl, rules, true, ◌∙◌, has_path, value_text}
use Rattle.gc_values.proofs.FileLemmas.{path_kept, none_foreign}
use Rattle.gc_values.proofs.file_value.ValueFile.new.Goals as goal

pub returns-clause-found : goal.returns-clause-found
returns-clause-found c =
    let may : has_path c.args.path.now ≡ true = search rules in
    record {
      may = may;
      path_is = ap value_text c.filled_up.ensures ∙ path_kept c.args.path.now (128 - length c.args.path.now) (none_foreign c.args.path.now may);
      seconds_are = refl;
    }
