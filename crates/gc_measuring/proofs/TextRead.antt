-- The text that the reads of an input gave.
use Rattle.gc_measuring.proofs.Common.{◌≡◌, ℕ, List, ◌++◌, subst, Consumes, GivesTasks, HearsTasks, Hearing, tasks_seen, ReadsFew, Choice}
use Rattle.gc_measuring.specs.Labels.{labels_of}
use Rattle.gc_measuring.specs.Texts.{ReadsTaskText}
use Rattle.gc_texts.specs.declared.tasks.Tasks.{Tasks}

-- a text with these tasks was heard, and so it was read, with their columns
pub reads_task_text : (old new : Hearing) (choice : Choice) (text : List ℕ) (tasks : Tasks) → HearsTasks old new choice text tasks
    → (columns : List (List ℕ)) → (labels_of (tasks_seen tasks)).columns ≡ columns → ReadsTaskText old new choice text columns
reads_task_text old new choice text tasks h columns are = record {
  heard = subst (λ bytes. new.heard ≡ old.heard ++ bytes) h.3.1.0 h.3.0;
  takes = subst (λ bytes. Consumes old.input.remaining new.input.remaining bytes) h.3.1.0 h.1;
  few = subst (λ bytes. ReadsFew old.input new.input bytes) h.3.1.0 h.2;
  all = tasks_seen tasks;
  gives = subst (λ bytes. GivesTasks bytes old.input new.input choice (tasks_seen tasks)) h.3.1.0 h.3.1.1;
  columns_are = are;
}
