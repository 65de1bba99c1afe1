use Rattle.gc_links.proofs.Common.{◌∷◌, [], ◌++◌, ap, ◌∙◌, Told, acts_in, signals_at}
use Rattle.gc_links.proofs.Seeing.{seen_begun}
use Rattle.gc_links.proofs.watched.Watched.new.Goals as goal

pub invariant_of-result : goal.invariant_of-result
invariant_of-result g c = record {
  seen =
      seen_begun (signals_at c.args.signals) c.args.files.items c.in-Ok.began (acts_in c.now.new.self) c.new-2.result.calls.made c.new-3.result.acts
      (c.in-Ok.ensures ∙ ap (λ xs. xs ++ Told c.in-Ok.began ∷ []) c.in_ok-link.ensures.1) c.new-2.ensures c.new-3.ensures;
}
