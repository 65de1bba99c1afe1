use Rattle.gc_logs.proofs.Common.{[], ◌∷◌, ◌++◌, codes, ◌∙◌, entries_of_pending, link_entry, Went, Came}
use Rattle.gc_logs.proofs.LogLines.{takes_both_lists}
use Rattle.gc_logs.proofs.logged.LoggedLink.close.Goals as goal

pub returns-clause-logs : goal.returns-clause-logs
returns-clause-logs g c = record {
  took = takes_both_lists c.args.self.now.log.lines.utc _ (entries_of_pending Went c.args.self.now.log.went.bytes.items
      ++ entries_of_pending Came c.args.self.now.log.came.bytes.items) (link_entry (codes "closed") ∷ []) c.flush.ensures.utc
      c.flush.ensures.took c.add_word.ensures.took;
  went = c.add_word.ensures.went ∙ c.flush.ensures.went;
  came = c.add_word.ensures.came ∙ c.flush.ensures.came;
  utc = c.add_word.ensures.utc ∙ c.flush.ensures.utc;
}
