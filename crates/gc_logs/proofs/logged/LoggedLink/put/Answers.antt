use Rattle.gc_logs.proofs.Common.{[], ◌∷◌, take, codes, ◌∙◌, entries, link_entry, Went}
use Rattle.gc_logs.proofs.LogLines.{takes_both_lists}
use Rattle.gc_logs.proofs.logged.LoggedLink.put.Goals as goal

pub returns-in-Err-clause-logs : goal.returns-in-Err-clause-logs
returns-in-Err-clause-logs g c =
    record {
      took = takes_both_lists c.args.self.now.log.lines.utc _ (entries Went c.args.self.now.log.went (take c.in-Err.n c.args.bytes.now))
          (link_entry (codes "failed") ∷ []) c.add_sent-in-Err.ensures.utc c.add_sent-in-Err.ensures.took c.add_word.ensures.took;
      went = c.add_word.ensures.went ∙ c.add_sent-in-Err.ensures.went;
      came = c.add_word.ensures.came ∙ c.add_sent-in-Err.ensures.came;
      utc = c.add_word.ensures.utc ∙ c.add_sent-in-Err.ensures.utc;
    }
