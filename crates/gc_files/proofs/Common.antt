-- The names that this crate's proofs cite, passed on from one place. Declares nothing.
pub use base.Logic.{SProp, ent}
pub use contract.Monad.{Fun}
pub use contract.Running.{tables}
pub use denote.Builtin.{RefOf}
pub use denote.Exit.{yes}
pub use denote.RattleType.{owns}
pub use denote.Signature.{named_lft, plain, types_at}
pub use denote.Steps.{nothing}
pub use denote.Triple.Clauses.{Clauses, Ended, closing}
pub use denote.Triple.Entry.{alive}
pub use denote.Triple.Spec.{Meets, triple_of}
pub use denote.Triple.Table.{entered}
pub use denote.Triple.Walked.{Goes-dropped, Stays, ends_at, says, stay_dropped, walk_Meets, walk_of}
pub use mir.Syntax.{Fn}
pub use mir.Val.{Val, vptr}
pub use prog.Memory.{Memory}
pub use prog.Routine.{Routine}
pub use prog.Wp.{Calls, Loops, Tables, WpFn}
pub use seplogic.Ra.Ura.{Ura}
pub use sound.WpLaws.{WpFn-mono}
pub use types.ByLocal.{alloc_all, free_all, look_at, pass_all, sets}
pub use types.Kit.{ !, done, feq_l, fjoin, fsplit, keep, move, prop, qed, raw, regoal, split, suffices, ‵, ◌$◌, ◌∵◌, ◌⊛◌}
pub use types.Logic.{Logic}
pub use types.Part.{agg}
pub use types.Run.{enter, no_more, returns}
pub use Rattle.std.proofs.Common.{Bool, List, None, Option, Some, [], ap, append_assoc, arith, drop, false, if◌then◌else◌, inl, inr, length, length-append, length-drop, map, refl, rules, slice_index, subst, suc, sym, take, true, zero, ℕ, ◌&&◌, ◌++◌, ◌+◌, ◌-◌, ◌<◌, ◌==◌, ◌∙◌, ◌∷◌, ◌≡◌, ◌≤◌, ◌⊎◌}
pub use Rattle.std.proofs.Math.Seq.{take-add, take-append-add, take-nil}
pub use Rattle.std.proofs.lemmas.Bool.{cases_Bool, cases_lt, eq-eqb, eqb-true, true≢false}
pub use Rattle.std.proofs.lemmas.List.{append-nil, drop-drop, drop_all, length-take-le, map_push, take-append-drop, take-append-le, take_all, take_at}
pub use Rattle.std.specs.List.{AllByRecursion, onto_first}
pub use Rattle.std.specs.Prelude.{count_by, filter}
pub use Rattle.gc_lines.proofs.Walks.{no_fields, no_fields_made}
pub use Rattle.gc_files.specs.Calls.{HoldsAfter, life_by, step_of}
pub use Rattle.gc_files.specs.Failing.{ArePossibleEvents, Copied, CopiesAreNeeded, Crashed, Event, IsFound, IsTrusted, Loses, Ran, Sides, Stopped, TablesOutlastFailures, Unsynced, done_by, doubt_after, doubt_by, feeds, runs_of, same_sides, settled, sides_after, sides_by}
pub use Rattle.gc_files.specs.Files.{Adds, Append, Cut, IsKept, Life, MayBeLeft, MayLeave, Step, Sync, content, has_sync, held_after, later_by, stepped}
pub use Rattle.gc_files.specs.InTurn.{AreOnlyAppendedTo, AreSynced, HaveWholeRows, LastsWhole, LeftFilesLast, all_steps}
pub use Rattle.gc_files.specs.Rows.{ComesTo, Did, IsEndOfRows, IsFront, IsMended, IsMendedInPart, MendedAndPut, Opens, OpensFile, OpensInPart, PutsAll, PutsFront, appended, cuts_none, fits, has_feed, head_written, is_empty, mended, opened_table, row_line, whole}
pub use Rattle.gc_files.specs.Runs.{AreRowCounts, AreRows, AreUncrashedRuns, CrashMayLeave, FailedOpeningsAreRuns, Happen, HasRows, IsHead, IsRun, IsUncrashedRun, KillsLoseNothing, OpeningsAreRuns, OpensAndWrites, Run, TablesLast, WereKept, life_after, life_once_ended, row_lines, rows_of, run_bytes, synced}
