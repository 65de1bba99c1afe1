use Rattle.gc_world.proofs.Common.{refl, sym, subst, Call, ById, SceneState, scene_restarted, BooksOnExecuting, scene_ends, World, Wire, call_line}
use Rattle.gc_world.proofs.Booking.{books_on_executing, executes_each_time}
use Rattle.gc_world.proofs.Keeping.{StoresReplies, stored, storing_exchange, storing_keeper}
use Rattle.gc_world.proofs.Agree.{same_wire}
use Rattle.gc_world.proofs.Booked.{AllMade, backed_at}
use Rattle.gc_world.proofs.Flow.{level_at}
use Rattle.gc_world.proofs.Runs.{execution_at}
use Rattle.gc_world.proofs.scene_laws.answers_are_made_on_executing.Goals as goal

pub returns-clause-stores : goal.returns-clause-stores
returns-clause-stores c = λ width narrow opening events stores.
    let state = scene_restarted opening in
    let good : StoresReplies state = (tt, stores) in
    let at = level_at width narrow scene_ends StoresReplies storing_exchange state good events in
    let made = subst (λ (w : Wire SceneState). AllMade w.made 0 w.settled) (sym (same_wire width narrow scene_ends StoresReplies storing_exchange at.steps state good))
    (backed_at width scene_ends StoresReplies call_line storing_exchange at.steps state good).backed.booked in
    subst (λ (w : World (ById Call) SceneState). BooksOnExecuting opening w.wire) (sym at.ids)
    (books_on_executing opening _ (execution_at width narrow scene_ends StoresReplies storing_exchange stored storing_keeper refl at.steps opening good) made)

pub returns-clause-stores_none : goal.returns-clause-stores_none
returns-clause-stores_none c = executes_each_time
