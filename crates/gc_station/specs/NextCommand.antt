-- The next command of a station's list, this project's own: its place, its mark and how it stands to the commands after it, at a
-- given progress.
use Rattle.gc_station.specs.Common.{no_again, no_codes, no_needs, no_values, Expected, Task, Turn}
use Rattle.std.specs.Prelude.{ℕ, ◌+◌, ◌-◌, ◌%◌, ◌||◌, Bool, false, not, List, [], ◌∷◌, length, drop, None, if◌then◌else◌, nat_eq, nat_le}
use Rattle.gc_texts.specs.declared.value_item.Needs.{Needs}
use Rattle.gc_station.specs.declared.plan.Plan.{Plan}
use Rattle.gc_station.specs.declared.progress.Progress.{Progress}
use Rattle.gc_station.specs.declared.progress.Upcoming.{Upcoming}
use Rattle.gc_station.specs.declared.mark.Mark.{Mark}
use Rattle.gc_texts.specs.declared.agree.Twice.TheVariants as twice

-- the place of the cycle's next command in the list `commands`, counted from 0, at the progress `p`. The setup is at the front
-- of the list, and the commands of a cycle are its end, of which `p.unsent` are left. If none is left, as before the first cycle,
-- it is the length of the list
abbrev pub place_next : List Task → Progress → ℕ
place_next commands p = length commands - p.unsent

-- the commands of the cycle that are left at the progress `p`: those of the list `commands` from the cycle's next one on
abbrev pub commands_left : List Task → Progress → List Task
commands_left commands p = drop (place_next commands p) commands

-- the commands of the cycle that are left once it has gone on by `count` commands
abbrev pub commands_left_after : (count : ℕ) → List Task → Progress → List Task
commands_left_after count commands p = drop (place_next commands p + count) commands

-- how many cycles have begun at the progress `p`, missed ones included
abbrev pub cycles_begun : Plan → Progress → ℕ
cycles_begun plan p = plan.cycles - p.left

-- the turn that stands in where there is no command: place 0, attempt 1, link 0
abbrev pub no_turn : Turn
no_turn = record { place = 0; attempt = 1; link = 0 }

-- what the text says of the answer of the first of these commands: where its target is, which return codes are accepted, which say that
-- the instrument is busy, and for how long nothing is asked then, which values are expected, and which endings send the chain again; its
-- turn, and which sending of its chain it is of. If there is no command: no place, no codes, no values, no endings, `no_turn`, and a chain that is sent once. With which answer its own is compared, which
-- number its counter had, and which values files had, is known once it is sent
abbrev pub expected_first : List Task → Expected
expected_first [] =
    record {
      near = None;
      form = None;
      accepted = no_codes;
      busy = no_codes;
      wait = 0;
      expects = None;
      counter = None;
      before = None;
      again = no_again;
      turn = no_turn;
      twice = twice.Once;
      first = None;
      values = no_values;
    }
expected_first (task ∷ others) =
    record {
      near = task.near;
      form = task.form;
      accepted = task.accepted;
      busy = task.busy;
      wait = task.deadline;
      expects = task.expects;
      counter = task.counter;
      before = None;
      again = task.again;
      turn = task.turn;
      twice = task.twice;
      first = None;
      values = no_values;
    }

-- what is expected of the answer of the command at `place` in the list `commands` (`expected_first`)
abbrev pub expected_at : List Task → (place : ℕ) → Expected
expected_at commands place = expected_first (drop place commands)

-- the mark of the cycle's next command at the progress `p`: its cycle, its place, the moment read last, and what is expected of
-- its answer
abbrev pub mark_next : Plan → List Task → Progress → Mark
mark_next plan commands p = record {
  cycle = cycles_begun plan p;
  place = place_next commands p;
  sent = p.moment.utc;
  id = 0;
  expected = expected_at commands (place_next commands p);
}

-- `expected` as it is for a command of the setup in the attempt `attempt` of the setup: no ending sends such a command again, and
-- no attempt of a chain begins with it, so its link is 1
abbrev pub expected_of_setup : (attempt : ℕ) → Expected → Expected
expected_of_setup attempt expected =
    record expected { again = no_again; turn = record expected.turn { attempt = attempt; link = 1 } }

-- the mark of the setup's next command at the progress `p`: it has cycle 0, and the attempt of the setup (`expected_of_setup`)
abbrev pub mark_setup : List Task → Progress → Mark
mark_setup commands p = record {
  cycle = 0;
  place = p.prepared;
  sent = p.moment.utc;
  id = 0;
  expected = expected_of_setup p.attempt (expected_at commands p.prepared);
}

-- how many commands come before the cycle's next one in the list `commands`, those of the setup included; 0 before the first
-- cycle
abbrev pub commands_before : Plan → List Task → Progress → ℕ
commands_before plan commands p = if nat_eq p.left plan.cycles then 0 else place_next commands p

-- whether the first of these commands is sent only once the one before it was answered well; false if there is no command
abbrev pub first_is_chained : List Task → Bool
first_is_chained [] = false
first_is_chained (task ∷ others) = task.chained

-- if the first of these commands begins a further attempt of its chain, the number of commands that this attempt and the
-- chain's later attempts have together; otherwise 0
abbrev pub others_in : List Task → ℕ
others_in [] = 0
others_in (task ∷ others) = task.others

-- which values of files the first of these commands takes; none if there is no command
abbrev pub needs_first : List Task → Needs
needs_first [] = no_needs
needs_first (task ∷ others) = task.needs

-- whether a command that has its turn in one of every `every` cycles, from cycle 1 on, has it in this cycle; with 1 it has it in each
abbrev pub is_turn : (cycle every : ℕ) → Bool
is_turn cycle every = nat_le every 1 || nat_eq ((cycle - 1) % every) 0

-- whether the first of these commands rests in this cycle: it doesn't have its turn in it (`is_turn`). False if there is no command
abbrev pub rests : (cycle : ℕ) → List Task → Bool
rests cycle [] = false
rests cycle (task ∷ others) = not (is_turn cycle task.every)

-- whether the first of these commands counts as chained in this cycle: it rests, so that it isn't sent; or it is sent only once the one
-- before it was answered well
abbrev pub is_chained_in : (cycle : ℕ) → List Task → Bool
is_chained_in cycle tasks = rests cycle tasks || first_is_chained tasks

-- how many commands are left out with the first of these in this cycle, if that is left out: the command alone, if it rests; and if it
-- begins a further attempt of its chain, those of `others_in`. 0 if it is neither
abbrev pub left_out_in : (cycle : ℕ) → List Task → ℕ
left_out_in cycle tasks = if rests cycle tasks then 1 else others_in tasks

-- whether the command `count` places after the cycle's next one is sent only once the one before it was answered well, or rests; false
-- if there is no such command. In a missed cycle, in which none is sent, always true
abbrev pub is_chained_after : Plan → (count : ℕ) → List Task → Progress → Bool
is_chained_after plan count commands p = p.missed || is_chained_in (cycles_begun plan p) (commands_left_after count commands p)

-- if the command `count` places after the cycle's next one begins a further attempt of its chain, the number of commands of
-- this and the chain's later attempts; 1 if it rests (`left_out_in`); otherwise 0, also if there is no such command
abbrev pub others_after : Plan → (count : ℕ) → List Task → Progress → ℕ
others_after plan count commands p = left_out_in (cycles_begun plan p) (commands_left_after count commands p)

-- what is noted of the cycle's next command once the cycle has gone on by `count` commands
abbrev pub upcoming_after : Plan → (count : ℕ) → List Task → Progress → Upcoming
upcoming_after plan count commands p = record {
  is_chained = is_chained_after plan count commands p;
  others = others_after plan count commands p;
  needs = needs_first (commands_left_after count commands p);
}

-- the number of the cycle that begins next at the progress `p`
abbrev pub cycle_next : Plan → Progress → ℕ
cycle_next plan p = plan.cycles - (p.left - 1)

-- what is noted of the first command of the cycle that begins next: as it begins a chain, whatever the text says of it, it counts as
-- chained, and is left out, only if it rests
abbrev pub first_upcoming : Plan → List Task → Progress → Upcoming
first_upcoming plan commands p = record {
  is_chained = rests (cycle_next plan p) (drop plan.setup commands);
  others = if rests (cycle_next plan p) (drop plan.setup commands) then 1 else 0;
  needs = needs_first (drop plan.setup commands);
}
