-- What a task asks for, whenever it is sent.
use Rattle.gc_texts.proofs.Common.{◌≡◌, Bool, true, false, drop, if◌then◌else◌, refl, ap, sym, ◌∙◌, Asked, Table, Raw, SetDate, RawCall, date_time, call_at, made_at, filled_call, Task}
use Rattle.gc_texts.specs.declared.occasion.Occasion.{Occasion}
use Rattle.gc_texts.proofs.ValueForms.{filled_keeps_number}

-- what holds of the call of a task's text, of the call that sets the clock to this moment, and, if the text's call is a request of a
-- procedure outside the table, of any request of the same procedure, holds of what the task asks for on this occasion
pub at_any_moment : (P : Asked → Type 0) (task : Task) (occasion : Occasion) → P (Table (SetDate (date_time occasion.utc)))
    → ((raw other : RawCall) → task.command.call ≡ Raw raw → other.rpc ≡ raw.rpc → P (Raw other)) → P task.command.call → P (call_at task occasion)
at_any_moment P task occasion clock others own = by_now task.now task.command.call refl own where
  -- the lemma above, by whether the request is made anew
  by_now : (b : Bool) (call : Asked) → task.command.call ≡ call → P call → P (if b then made_at task.needs.first occasion call else call)
  by_now true (Table call) e own = clock
  by_now true (Raw raw) e own =
      others raw (filled_call raw (drop task.needs.first occasion.values)) e (filled_keeps_number raw (drop task.needs.first occasion.values))
  by_now false call e own = own

-- a task that takes values of files asks for its request with these values
pub call_with_values : (task : Task) (occasion : Occasion) (raw : RawCall) → task.now ≡ true → task.command.call ≡ Raw raw
    → ◌≡◌ {A = Asked} (Raw (filled_call raw (drop task.needs.first occasion.values))) (call_at task occasion)
call_with_values task occasion raw now is =
    sym (ap (λ b. if b then made_at task.needs.first occasion task.command.call else task.command.call) now ∙ ap (made_at task.needs.first occasion) is)
