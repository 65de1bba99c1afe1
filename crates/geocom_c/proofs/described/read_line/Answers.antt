use Rattle.geocom_c.proofs.Common.{rules, ◌≡◌, ◌≤◌, ◌+◌, ◌∙◌, ℕ, List, length, take, inr, refl, subst, FirstBadOfReply, IsReply, reply_seen, description_seen, IsNoReply}
use Rattle.geocom_c.proofs.DescribedReplies.{begins_in_room, in_room, no_answer_as}
use Rattle.geocom_c.specs.Described as described
use Rattle.geocom_c.proofs.described.read_line.Goals as goal

pub answer_of-requires : goal.answer_of-requires
answer_of-requires c =
    let is : IsReply c.args.line.now.items (reply_seen c.in-Ok.reply) = search (rules, c.in-Ok.ensures.found) in
    c.list_line-told.ensures.listed (reply_seen c.in-Ok.reply) is

pub returns-in-Ok : goal.returns-in-Ok
returns-in-Ok c =
    let line = c.args.line.now.items in
    let reply = reply_seen c.in-Ok.reply in
    let is : IsReply line reply = search (rules, c.in-Ok.ensures.found) in
    let few : length line ≤ 512 = search rules in
    let t = c.list_line-told.result.text.items in
    let room = c.put_text.new.bytes in
    let n = 0 + length c.as_slice.result.now in
    let front : take n room ≡ t = c.put_text.ensures.text ∙ c.as_slice.ensures.value in
    described.reads reply few is (in_room (description_seen c.args.description.now) t room n reply c.answer_of.result front c.answer_of.ensures)
    (begins_in_room line t room n front c.list_line-told.ensures.front) c.put_text.ensures.written.length

pub returns-in-Err : goal.returns-in-Err
returns-in-Err c =
    let few : length c.args.line.now.items ≤ 512 = search rules in
    let bad = subst (λ (l : List ℕ). FirstBadOfReply l c.in-Err.fault) c.deref.ensures.0 c.in-Err.ensures.fault in
    let none : IsNoReply c.args.line.now.items c.in-Err.fault = inr (few, bad) in
    described.no_reply c.in-Err.fault none (no_answer_as c.unread.result c.from.result _ (c.from.ensures ∙ c.number.ensures) c.unread.ensures, refl)
