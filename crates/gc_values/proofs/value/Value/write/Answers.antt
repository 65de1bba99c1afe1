use Rattle.gc_values.proofs.Common.{rules}
use Rattle.gc_values.proofs.ItemLaws.{equal_text_reads}
use Rattle.gc_values.proofs.value.Value.write.Goals as goal

pub returns-in-Double-clause-reads_back : goal.returns-in-Double-clause-reads_back
returns-in-Double-clause-reads_back c = equal_text_reads c.args.self.now _ (search rules) (search rules)

pub returns-in-Long-clause-reads_back : goal.returns-in-Long-clause-reads_back
returns-in-Long-clause-reads_back c = equal_text_reads c.args.self.now _ (search rules) (search rules)

pub returns-in-Short-clause-reads_back : goal.returns-in-Short-clause-reads_back
returns-in-Short-clause-reads_back c = equal_text_reads c.args.self.now _ (search rules) (search rules)

pub returns-in-Byte-clause-reads_back : goal.returns-in-Byte-clause-reads_back
returns-in-Byte-clause-reads_back c = equal_text_reads c.args.self.now _ (search rules) (search rules)

pub returns-in-Text-clause-reads_back : goal.returns-in-Text-clause-reads_back
returns-in-Text-clause-reads_back c = equal_text_reads c.args.self.now _ (search rules) (search rules)
