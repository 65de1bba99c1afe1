use Rattle.gc_console.proofs.Common.{refl}
use Rattle.std.proofs.lemmas.Iterator.{items_from_collect}
use Rattle.std.proofs.lemmas.Iterator.Adapters.{YieldsList-from_vec}
use Rattle.std.proofs.lemmas.Result.{IfOk-at_ok}
use Rattle.gc_console.proofs.program.all_words.Goals as goal

pub returns-clause-read : goal.returns-clause-read
returns-clause-read c =
    let read = items_from_collect c.collect.result c.collect.ensures.ran (YieldsList-from_vec _ refl c.in_ok-words.field-0.rest.ok.0) in
    record {
      args = c.in_ok-words.field-0;
      is = c.in_ok-words.was;
      are = IfOk-at_ok _ c.in_ok-collect.was read;
    }
