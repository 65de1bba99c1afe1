-- A command that sets the clock asks for the moment at which its request is sent, and one that takes values of files for these. As the text
-- has it, either asks for the beginning of 1970, whenever it is sent; and so the requests of a run can be compared with the text.
use Rattle.gc_station.proofs.Common.{◌≡◌, ℕ, Bool, true, false, List, ◌∷◌, drop, if◌then◌else◌, refl, ap, ◌∙◌, Asked, call_at, made_at, Occasion, Task, asked_at, of_command, sets_clock, untimed}
use Rattle.gc_station.specs.Requests.{RunRequest, in_text, of_task}

-- what a task asks on any occasion is what the text says, if what a request takes that is made anew is left out (`untimed`)
untimed_at : (task : Task) (occasion : Occasion) → untimed task.now (call_at task occasion) ≡ untimed task.now task.command.call
untimed_at task occasion = by_clock task.now where
  -- the lemma above, whether the task's request is made anew (`true`)
  by_clock : (b : Bool) → untimed b (if b then made_at task.needs.first occasion task.command.call else task.command.call) ≡ untimed b task.command.call
  by_clock true = refl
  by_clock false = refl

-- the request for the command at a place, as the text has it, is that of the command's task, whenever it is sent
pub asked_text : (commands : List Task) (cycle place : ℕ) (occasion : Occasion) (task : Task) (others : List Task) → drop place commands ≡ task ∷ others
    → in_text commands (record { cycle = cycle; place = place; asked = asked_at occasion task }) ≡ record { cycle = cycle; place = place; asked = of_task task }
asked_text commands cycle place occasion task others at =
    let request : Asked → RunRequest = λ (call : Asked). record { cycle = cycle; place = place; asked = record { target = task.command.target; call = call } } in
    ap (λ (left : List Task). request (untimed (sets_clock left) (call_at task occasion))) at ∙ ap request (untimed_at task occasion)

-- the request of a command that isn't sent, as the text has it, is that of the command's task
pub unsent_text : (commands : List Task) (cycle place : ℕ) (task : Task) (others : List Task) → drop place commands ≡ task ∷ others
    → in_text commands (record { cycle = cycle; place = place; asked = of_command task.command }) ≡ record { cycle = cycle; place = place; asked = of_task task }
unsent_text commands cycle place task others at =
    ap (λ (left : List Task). record { cycle = cycle; place = place; asked = record { target = task.command.target; call = untimed (sets_clock left) task.command.call } }) at
