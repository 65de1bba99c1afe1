-- The sendings of a chain in one attempt: one, or, where a line `agree` holds for it, two, of which the second is chained to the first.
-- This project's own.
use Rattle.std.specs.Prelude.{ℕ, ◌+◌, true, List, [], ◌∷◌, ◌++◌, length, Option, None, Some}
use Rattle.gc_texts.specs.declared.agree.Agree.{Agree}
use Rattle.gc_texts.specs.declared.sending.Sending.{Sending}
use Rattle.gc_texts.specs.declared.sending.Sending.TheVariants.{Once, First, Second}
use Rattle.gc_texts.specs.declared.tasks.Task.{Task}
use Rattle.gc_texts.specs.declared.agree.Twice.TheVariants as twice

-- a command of a chain as it is in this sending; `nth` is its place in the chain, counted from 0, and `count` how many commands the chain
-- has. In two sendings the places of the commands are counted through both, and all commands of the second are chained
abbrev pub sent_as : Sending → (count nth : ℕ) → Task → Task
sent_as Once count nth task = task
sent_as First count nth task =
    record task { turn = record { place = task.turn.place; attempt = task.turn.attempt; link = nth }; twice = twice.First }
sent_as (Second agree) count nth task =
    record task {
      chained = true;
      turn = record { place = task.turn.place; attempt = task.turn.attempt; link = count + nth };
      twice = twice.Second agree nth;
    }

-- these commands of a chain, from place `nth` on, as they are in this sending
abbrev pub sent_from : Sending → (count nth : ℕ) → List Task → List Task
sent_from sending count nth [] = []
sent_from sending count nth (task ∷ later) = sent_as sending count nth task ∷ sent_from sending count (nth + 1) later

-- the commands of a chain as they are sent in one attempt: once, or, where `agree` holds for the chain, twice
abbrev pub sendings : Option Agree → List Task → List Task
sendings None chain = chain
sendings (Some agree) chain = sent_from First (length chain) 0 chain ++ sent_from (Second agree) (length chain) 0 chain
