use Rattle.gc_texts.proofs.Common.{rules, ◌∷◌, ◌++◌, IsDescribedWish, Wish}
use Rattle.gc_texts.proofs.DescribedForms.{described_of_parts, requestless_is_not_described, targetless_is_not_described}
use Rattle.gc_texts.proofs.wish.read_described.Goals as goal

pub returns-in_err-target : goal.returns-in_err-target
returns-in_err-target c =
    let none : (wish : Wish) → IsDescribedWish (c.args.target.now ++ 32 ∷ c.args.rest.now) wish → ⊥ =
    targetless_is_not_described c.args.target.now c.args.rest.now c.requires c.in_err-target.ensures in
    search rules

pub returns-in_err-raw : goal.returns-in_err-raw
returns-in_err-raw c =
    let none : (wish : Wish) → IsDescribedWish (c.args.target.now ++ 32 ∷ c.args.rest.now) wish → ⊥ =
    requestless_is_not_described c.args.target.now c.args.rest.now c.requires c.in_err-raw.ensures in
    search rules

pub returns : goal.returns
returns c = described_of_parts c.args.target.now c.args.rest.now c.requires c.in_ok-target.target c.in_ok-raw.raw c.in_ok-target.ensures c.in_ok-raw.ensures
