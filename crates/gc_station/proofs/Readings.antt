-- What replies say: no act changes it, and some function gives the reading of each line for each call. An act is one call on the
-- link, with its result.
use Rattle.gc_station.proofs.Common.{◌≡◌, Bool, ℕ, List, Option, Result, Ok, Err, refl, sym, ap, ◌∙◌, subst, ReplyFields, reply_at, LineFault, reply_again, one_reply, Reading, Asked, Form, Task, Plan, Action, Act, turned, loses_all, state_after, Scope, AreReadings, OneReadingForALine, SomeReadings, ForEachReadings, ForEachAndSomeReadings, Reads, IsSaid, Model, opening, action_at, with_progress, lines_came, moved, losing, stepped, after_all}
use Rattle.gc_catalogue.specs.declared.answer.Reading.TheVariants.{Refused}
use Rattle.gc_station.proofs.Saying.{each_said, one_said}
use Rattle.gc_station.proofs.Walk.{lines_along, losing_along, acts_along, moved_changed}

-- lines don't change what replies say
pub lines_reads : (s : Model) (lines : List (List ℕ)) → (lines_came s lines).reads ≡ s.reads
lines_reads s lines = lines_along (λ (t : Model). t.reads ≡ s.reads) (λ t line e. e) s lines refl

-- an act, before what is outstanding is lost, doesn't change what replies say
pub moved_reads : (plan : Plan) (commands : List Task) (action : Action) (s : Model) (act : Act) → (moved plan commands action s act).reads ≡ s.reads
moved_reads plan commands action s act = ap (λ (x : Model). x.reads) (moved_changed plan commands action s act)

-- the loss of what is outstanding doesn't change what replies say
pub losing_reads : (all : Bool) (s : Model) → (losing all s).reads ≡ s.reads
losing_reads all s = losing_along (λ (t : Model). t.reads ≡ s.reads) all s refl refl

-- an act doesn't change what replies say
pub stepped_reads : (plan : Plan) (commands : List Task) (action : Action) (s : Model) (act : Act) → (stepped plan commands action s act).reads ≡ s.reads
stepped_reads plan commands action s act =
    let mid : Model = moved plan commands action (with_progress turned s) act in
    losing_reads (loses_all mid.progress) mid ∙ moved_reads plan commands action (with_progress turned s) act

-- acts don't change what replies say
all_reads : (plan : Plan) (commands : List Task) (s : Model) (acts : List Act) → (after_all plan commands s acts).reads ≡ s.reads
all_reads plan commands s acts =
    acts_along plan commands (λ (t : Model). t.reads ≡ s.reads) (λ t act e. stepped_reads plan commands (action_at plan t) t act ∙ e) s acts refl

-- after any acts replies say what they say in the scope
pub reads_as_in_scope : (plan : Plan) (commands : List Task) (scope : Scope) (acts : List Act) → (state_after plan commands scope acts).reads ≡ scope.reads
reads_as_in_scope plan commands scope acts = all_reads plan commands (opening plan scope) acts

-- a function that equals one that gives readings gives them, too
pub same_readings : (a b : Reads) → a ≡ b → AreReadings b → AreReadings a
same_readings a b e are = subst (λ (r : Reads). AreReadings r) (sym e) are

-- a line has at most one reading for a call
pub one_for_a_line : OneReadingForALine
one_for_a_line form call line x y p q =
    let same = one_reply line p.reply q.reply p.is_reply q.is_reply in
    one_said form call q.reply x y (subst (λ (r : ReplyFields). IsSaid form call r x) same p.is_reading) q.is_reading

-- the reading of a line for a call, by how the line reads: that of the reply; or, if it is no reply, `Refused 0`, as any would do
reading_by : Option Form → Asked → Result ReplyFields LineFault → Reading
reading_by form call (Ok reply) = (each_said form call reply).0
reading_by form call (Err fault) = Refused 0

-- some function gives each line's reading for a call, by each form and without one: it reads the line as a reply, and that for the call
pub some_readings : SomeReadings
unfolding reading_by
some_readings = (
  λ form call line. reading_by form call (reply_at line),
  λ form call line reading is.
      ap (reading_by form call) (reply_again line is.reply is.is_reply)
      ∙ one_said form call is.reply (each_said form call is.reply).0 reading (each_said form call is.reply).1 is.is_reading,
)

-- what holds for every function that gives the readings is `ForEachAndSomeReadings`, because there is such a function
pub for_readings : (Holds : Reads → Type 0) → ForEachReadings Holds → ForEachAndSomeReadings Holds
for_readings Holds each = (each, (some_readings.0, some_readings.1, each some_readings.0 some_readings.1))
