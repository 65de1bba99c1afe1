-- The names that this crate's proofs cite, passed on from one place. Declares nothing.
pub use base.Logic.{SProp, ent}
pub use contract.Monad.{Fun}
pub use contract.Running.{tables}
pub use denote.RattleType.{owns}
pub use denote.Signature.{named_lft, plain, types_at}
pub use denote.Steps.{nothing}
pub use denote.Triple.Clauses.{Clauses, Ended, closing}
pub use denote.Triple.Entry.{alive}
pub use denote.Triple.Spec.{Meets, triple_of}
pub use denote.Triple.Table.{entered}
pub use denote.Triple.Walked.{Goes-dropped, Stays, ends_at, says, stay_dropped, walk_Meets, walk_of}
pub use mir.Syntax.{Fn}
pub use mir.Val.{Val, vptr}
pub use prog.Memory.{Memory}
pub use prog.Routine.{Routine}
pub use prog.Wp.{Calls, Loops, Tables, WpFn}
pub use seplogic.Ra.Ura.{Ura}
pub use sound.WpLaws.{WpFn-mono}
pub use types.ByLocal.{alloc_all, free_all, look_at, pass_all, sets}
pub use types.Kit.{ !, done, drop, feq_l, fjoin, fsplit, keep, move, prop, qed, raw, regoal, split, suffices, ‵, ◌$◌, ◌∵◌, ◌⊛◌}
pub use types.Logic.{Logic}
pub use types.Part.{agg}
pub use types.Run.{enter, no_more, returns}
pub use Rattle.std.proofs.Common.{Err, List, Ok, Option, Result, [], ap, append-nil, append_assoc, arith, codes, cond, false, get_or, inl, inr, length, nat_eq, not, refl, subst, sym, take, true, ℕ, ◌&&◌, ◌++◌, ◌+◌, ◌-◌, ◌<◌, ◌==◌, ◌∙◌, ◌∷◌, ◌≡◌, ◌≤◌}
pub use Rattle.std.proofs.lemmas.Bool.{and_parts, cases_Bool, cond_both, eqb-false, eqb-true, ltb-true, not-false}
pub use Rattle.std.proofs.lemmas.List.{length-take-le, take_all, take_more}
pub use Rattle.std.specs.Io.KnownBytes.{Appends, Consumes}
pub use Rattle.std.specs.List.{AllByRecursion}
pub use Rattle.gc_lines.proofs.Walks.{no_fields, no_fields_made}
pub use Rattle.gc_lines.specs.Prelude.{Taken, all_of, ends_in_return, numbered_fault, serve_fault_text, with_end}
pub use Rattle.gc_texts.specs.Prelude.{IsPrintableByte, Lacks, Tells, end_of_serving, fault_line, log_line, log_text, run_fault_text, stamp_text}
pub use Rattle.gc_files.proofs.Adding.{appended_two}
pub use Rattle.gc_files.specs.Prelude.{Step, all_steps, appended, files_in, steps_in}
pub use Rattle.gc_logs.specs.Files.{CutAtLines, EndInLines, EndsLine, IsBegun, IsLine, LogFiles, LogsKeepTheNewest, RollsOver, StayBelow, TurnsTo, added, bytes_of, elsewhere, rolled}
pub use Rattle.gc_logs.specs.Following.{EarlierFilesLast, steps_before}
pub use Rattle.gc_logs.specs.Logging.{Entry, LogKeepsAll, TakesEntries, TakesUnlessFailed, entries, entries_at, entries_of_pending, entry, entry_of_line, line_mark, link_entry, log_text_of, part_mark, pending_after, pending_at, takes_one_more, wire, wire_of}
pub use Rattle.gc_logs.specs.declared.logging.Direction.{Direction}
pub use Rattle.gc_logs.specs.declared.logging.Direction.TheVariants.{Came, Went}
pub use Rattle.gc_logs.specs.declared.logging.Unwritten.{Unwritten}
