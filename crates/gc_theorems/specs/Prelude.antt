-- The names that crates above cite, passed on from one place. Declares nothing.
pub use Rattle.gc_theorems.specs.Asking.{IsHeardOrDiscarded, IsNullOrLineFeed, MeansSyncSteps}
pub use Rattle.gc_theorems.specs.Begin.{AreTurns, Asks, Comes, InFlight, IsTurn, IsWellFormed, LacksTheWord, Reaches, SyncModel, SyncTurn, UnderWay, begins, leaves, left_by_turns, none_under_way, turned, turns}
pub use Rattle.gc_theorems.specs.Beginnings.{AreFewKilled, ArePossibleIfBegun, AreRuns, HasRisingIds, Run, after_turns, killed_by, killed_over, killed_unless_begun, left_by_run, left_by_runs, left_if_begun, under_way_on}
pub use Rattle.gc_theorems.specs.BeginsAnew.{put_all, send_all}
pub use Rattle.gc_theorems.specs.Begun.{WasMadeOn, ids_begun, nulls, nulls_settled}
pub use Rattle.gc_theorems.specs.ChainWitness.{first_reply, hz, points, reads_all, v}
pub use Rattle.gc_theorems.specs.ClientRuns.{ArePossibleRuns, PlacedRun, ask_events, events_over, placed_runs}
pub use Rattle.gc_theorems.specs.CountingChain.{counting, kept_by}
pub use Rattle.gc_theorems.specs.DamagedHoldingBack.{AllMayHarmApart, Holding, MayHarmApart, holding_begun, holding_harms}
pub use Rattle.gc_theorems.specs.DamagedRuns.{AreFewRecordsByDamagedLines, AreOfTable, HarmedProgram, HasItsAnswer, IsInHarmedField, IsRunLocal, sent_until}
pub use Rattle.gc_theorems.specs.DamagedSessions.{harm_events}
pub use Rattle.gc_theorems.specs.DamagedSynchronizing.{AllMaySyncHarm, OwnEighthComes, SyncHarm, WasStruck}
pub use Rattle.gc_theorems.specs.Drifting.{tells_its_state}
pub use Rattle.gc_theorems.specs.Field.{Anew, ArePossible, Changes, Foreign, IsPossible, Move, OnLine, Sends, Tells, moved, moves, seen}
pub use Rattle.gc_theorems.specs.Harm.{AreOwnOr, Damages, Does, Harm, Harmed, Strikes, harm_begun, harmed, harms}
pub use Rattle.gc_theorems.specs.InARow.{AreFaithful, AreInARow}
pub use Rattle.gc_theorems.specs.Instrument.{AnyState, IsAnInstrument, MayBecome, OfAnyInstrument, TreatsRawsAlike, never_kept}
pub use Rattle.gc_theorems.specs.Laws.{kept_of}
pub use Rattle.gc_theorems.specs.Made.{WasMadeFrom, wire_behind}
pub use Rattle.gc_theorems.specs.Meaning.{IsDiscarded, IsHeard}
pub use Rattle.gc_theorems.specs.Owned.{AreOfRuns, HasExecution, IsOwn, IsOwnUnlessLost, IsSafeRun}
pub use Rattle.gc_theorems.specs.Plain.{plain_task}
pub use Rattle.gc_theorems.specs.Runs.{IsInField, IsItsOwn, IsMeant, IsOwnAnswer, IsRunFaithful, NoActFollows, Program, program_parts, program_records, world}
pub use Rattle.gc_theorems.specs.SceneField.{KeptReplyReads, scene_ends, scene_handed, scene_kept}
pub use Rattle.gc_theorems.specs.Sessions.{EachSessionIsOwn, IsOwnIfCallers, IsSessionOver, SessionRun}
pub use Rattle.gc_theorems.specs.Shown.{AreShownAs, Stretch, first_heard, shown, shows, stretches}
pub use Rattle.gc_theorems.specs.Simulator.{simulator_ends}
pub use Rattle.gc_theorems.specs.Stretch.{left_by_sync}
pub use Rattle.gc_theorems.specs.Stretches.{HarmedStretch, HasDamageApart, IsPossibleHarm, seen_at, seen_harms}
pub use Rattle.gc_theorems.specs.UndamagedRuns.{undamaged_stretches}
pub use Rattle.gc_theorems.specs.Witness.{at, cycle_begun, eight_answered, exchanged, null_answered, null_exchanged, null_lines, null_reply, plan_of_width, replies, run_and_end}
pub use Rattle.gc_theorems.specs.World.{Down_lose, Down_repeat, Ends, Numbered, Request, Up_deliver, Up_lose, Up_repeat, Wire, World, doubled, down_delivered, requested, up_delivered, with_down, with_settled, with_up, without}
