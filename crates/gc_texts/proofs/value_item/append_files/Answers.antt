use Rattle.gc_texts.proofs.Common.{rules, ◌≡◌, ◌++◌, ◌∷◌, [], filter, true, subst, sym, ValueFile, IsValueFile, is_value_item, value_items}
use Rattle.gc_texts.proofs.ValueForms.{FilesAdded, no_file_added, no_file_named, one_file_added, value_first}
use Rattle.gc_texts.proofs.value_item.append_files.Goals as goal

pub loop-item-init : goal.loop-item-init
loop-item-init c =
    subst (λ items. FilesAdded (value_items c.args.params.now) c.args.files.now.items c.args.files.now.items (filter is_value_item items)) (sym c.at-items.ensures)
    (no_file_added (value_items c.args.params.now) c.args.files.now.items)

pub returns-in_default-read_value_file : goal.returns-in_default-read_value_file
returns-in_default-read_value_file c =
    let taken : c.loop-item.items ≡ c.in-Some.item.now ∷ c.next.new.self = search rules in
    let is : is_value_item c.in-Some.item.now ≡ true = search rules in
    let none : (file : ValueFile) → IsValueFile c.in-Some.item.now file → ⊥ = search rules in
    no_file_named c.args.params.now c.args.files.now.items c.loop-item.files.items (filter is_value_item c.loop-item.items) (filter is_value_item c.next.new.self) c.in-Some.item.now
    c.loop-item.invariant (value_first c.loop-item.items c.next.new.self c.in-Some.item.now taken is) none

pub loop-item-preserved : goal.loop-item-preserved
loop-item-preserved c =
    let taken : c.loop-item.items ≡ c.in-Some.item.now ∷ c.next.new.self = search rules in
    let is : is_value_item c.in-Some.item.now ≡ true = search rules in
    let names : IsValueFile c.in-Some.item.now c.in-Some-read_value_file.file = search rules in
    let more : c.push.new.self.items ≡ c.loop-item.files.items ++ c.in-Some-read_value_file.file ∷ [] = search rules in
    subst (λ files. FilesAdded (value_items c.args.params.now) c.args.files.now.items files (filter is_value_item c.next.new.self)) (sym more)
    (one_file_added (value_items c.args.params.now) c.args.files.now.items c.loop-item.files.items (filter is_value_item c.loop-item.items) (filter is_value_item c.next.new.self)
    c.in-Some.item.now c.in-Some-read_value_file.file c.loop-item.invariant (value_first c.loop-item.items c.next.new.self c.in-Some.item.now taken is) names)
