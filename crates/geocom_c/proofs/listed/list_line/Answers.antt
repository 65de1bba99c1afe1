use Rattle.geocom_c.proofs.Common.{rules, ◌≡◌, ◌∙◌, [], sym, ap, subst, ReplyFields, reply_seen, reply_at, IsParams, AreStanding}
use Rattle.gc_lines.proofs.Replies.{reply_again, one_reply}
use Rattle.geocom_c.proofs.Clients.{never_ok, begins_with_line}
use Rattle.geocom_c.proofs.listed.list_line.Goals as goal

pub returns-in-Ok : goal.returns-in-Ok
returns-in-Ok c =
    let line = c.args.line.now.items in
    let first : c.append.new.to.items ≡ line = search rules in
    record {
      front = begins_with_line line c.append.new.to.items c.list.new.told.text.items c.list.ensures.front.0 first c.list.ensures.front.1;
      listed = λ reply is items params few.
          let same = one_reply line (reply_seen c.in-Ok.reply) reply (search (rules, c.in-Ok.ensures.found)) is in
          subst (λ (r : ReplyFields). IsParams r.params items → AreStanding c.list.new.told.items c.list.new.told.places c.list.new.told.text.items items)
          same (λ params. c.list.ensures.listed items params few) params;
    }

pub returns-in-Err : goal.returns-in-Err
returns-in-Err c =
    let line = c.args.line.now.items in
    let first : c.append.new.to.items ≡ line = search rules in
    record {
      front = begins_with_line line c.append.new.to.items c.append.new.to.items [] first (search rules);
      listed = λ reply is items params few. absurd (never_ok _ _ (sym c.in-Err.ensures.exact ∙ ap reply_at c.deref-2.ensures.0 ∙ reply_again line reply is));
    }
