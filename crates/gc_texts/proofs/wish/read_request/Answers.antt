use Rattle.gc_texts.proofs.Common.{rules, ◌∷◌, ◌++◌, IsWish, Wish}
use Rattle.gc_texts.proofs.RequestForms.{wish_of_parts, targetless_is_no_wish, requestless_is_no_wish}
use Rattle.gc_texts.proofs.wish.read_request.Goals as goal

pub returns-in_err-target : goal.returns-in_err-target
returns-in_err-target c =
    let none : (wish : Wish) → IsWish (c.args.target.now ++ 32 ∷ c.args.rest.now) wish → ⊥ =
    targetless_is_no_wish c.args.target.now c.args.rest.now c.requires c.in_err-target.ensures in
    search rules

pub returns-in_err-call : goal.returns-in_err-call
returns-in_err-call c =
    let none : (wish : Wish) → IsWish (c.args.target.now ++ 32 ∷ c.args.rest.now) wish → ⊥ =
    requestless_is_no_wish c.args.target.now c.args.rest.now c.requires c.in_err-call.ensures in
    search rules

pub returns : goal.returns
returns c = wish_of_parts c.args.target.now c.args.rest.now c.requires c.in_ok-target.target c.in_ok-call.call c.in_ok-target.ensures c.in_ok-call.ensures
