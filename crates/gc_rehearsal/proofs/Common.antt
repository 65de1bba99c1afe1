-- The names that this crate's proofs cite, passed on from one place. Declares nothing.
pub use Rattle.std.proofs.Common.{Bool, Err, List, None, Ok, Option, Result, Some, [], ap, append-nil, append_assoc, arith, drop, false, get_or, if◌then◌else◌, inl, inr, length, length-append, min, nat_eq, refl, rules, subst, suc, sym, take, true, zero, ℕ, ◌*◌, ◌++◌, ◌+◌, ◌-◌, ◌/◌, ◌<◌, ◌∙◌, ◌∷◌, ◌≡◌, ◌≤◌}
pub use Rattle.std.proofs.lemmas.List.{drop_all, drop_more, map_push, take-append-drop, take_all}
pub use Rattle.std.proofs.lemmas.Option.{slice_get-get_or, slice_get_read, slice_get_within}
pub use Rattle.std.specs.List.{AllByRecursion}
pub use Rattle.std.specs.Option.{option_copied}
pub use Rattle.std.specs.Prelude.{IfSome, slice_get, ◌↔◌}
pub use Rattle.gc_lines.specs.Prelude.{with_end}
pub use Rattle.gc_texts.proofs.TextLines.{left_falls, lines-cut, lines_left, much_left}
pub use Rattle.gc_texts.specs.Prelude.{Cuts, CutsLine, IsNumber, date_of, date_time, text_lines}
pub use Rattle.gc_texts.specs.declared.tasks.Task.{Task}
pub use Rattle.gc_scenes.specs.Prelude.{SceneState, at_moment, scene_restarted}
pub use Rattle.gc_links.specs.Prelude.{Act, Closed, Gave, Put, act_of}
pub use Rattle.gc_rehearsal.specs.Askable.{AreAskable, IsAskable}
pub use Rattle.gc_rehearsal.specs.Carrying.{ActLeads, Acts, CarriesNothing, Happening, HasComeTo, IsOfLine, LeadAll, Leads, Lines, Loses_down, Loses_front, Loses_up, Passes, Reaches, Repeats_down, Repeats_up, Restarts, acts_of}
pub use Rattle.gc_rehearsal.specs.Inside.{lines_in, told}
pub use Rattle.gc_rehearsal.specs.Queues.{MayAdd, MayAddLine, MayHandOver, MayRepeat, lines_of, texts}
pub use Rattle.gc_rehearsal.specs.RuleForms.{IsLasting, IsPercentage}
pub use Rattle.gc_rehearsal.specs.Runs.{AddRuns, AreRuns, AreRunsUnlessAltered, IsRunOf, RehearsedStation, acts_of_all}
pub use Rattle.gc_rehearsal.specs.Shares.{AreThousandths, IsParts, IsPlaces, IsShare}
pub use Rattle.gc_rehearsal.specs.declared.claim.Claim.{Claim}
pub use Rattle.gc_rehearsal.specs.declared.flight.Flight.{Flight}
pub use Rattle.gc_rehearsal.specs.declared.frequency.Frequency.{Frequency}
pub use Rattle.gc_rehearsal.specs.declared.truth.Truth.{Truth}
