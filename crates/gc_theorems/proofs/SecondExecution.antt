-- A request that is executed again after a start, computed.
use Rattle.gc_theorems.proofs.Common.{[], refl, header_at, reply_at, exec, handed}
use Rattle.std.specs.Fmt.{digits}
use Rattle.gc_theorems.specs.SecondExecution.{IsExecutedAgain}

-- the third request is executed twice, and the second execution's reply is its answer
pub executed_again : IsExecutedAgain
unfolding header_at reply_at handed exec digits
executed_again =
    record {
      possible = (tt, (tt, ((8, [], refl), (tt, (tt, ((9, [], refl), (tt, (tt, (tt, (tt, (tt, (tt, ((10, [], refl), tt)))))))))))));
      executed = refl;
      settled = refl;
    }
