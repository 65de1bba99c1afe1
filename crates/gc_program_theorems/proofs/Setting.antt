-- What a row has of a request: of a command that sets the clock, it asked for the moment that is under `sent`; and the line that is
-- under `request`, which an act of the run put, is its line.
use Rattle.gc_program_theorems.proofs.Common.{◌≡◌, ◌<◌, ◌%◌, ℕ, Bool, true, false, List, [], Option, Some, None, if◌then◌else◌, refl, sym, ap, arith, ◌∙◌, codes, slice_get, asked_line, is_of_table, Asked, Table, Raw, SetDate, Act, escaped, date_time, made_at, Task, moment_text, request_sent, went_out, Record, HasItsRequest, IsOfItsRequest, request_of, command_sent, Scope, IsOfItsTask, Plan, same_Some, IsSetTo}
use Rattle.std.specs.Prelude.{is_some}
use Rattle.gc_texts.specs.declared.occasion.Occasion.{Occasion}
use Rattle.gc_texts.specs.declared.wish.Wish.{Wish}

-- a call of the table that is made anew when it is sent is the one that sets the clock to that moment
made_of_table : (first : ℕ) (occasion : Occasion) (asked : Asked) → is_of_table asked ≡ true → made_at first occasion asked ≡ Table (SetDate (date_time occasion.utc))
made_of_table first occasion (Table call) table = refl
made_of_table first occasion (Raw raw) table = cc

-- a command that sets the clock (`now`), sent at the moment `utc`, asks for the date and time of that moment
clock_is_set : (task : Task) (values : List (List ℕ)) (utc : ℕ) → task.now ≡ true → is_of_table task.command.call ≡ true
    → (command_sent values (Some utc) task).call ≡ Table (SetDate (date_time utc))
clock_is_set task values utc is table =
    let occasion : Occasion = record { utc = utc; values = values } in
    ap (λ (b : Bool). if b then made_at task.needs.first occasion task.command.call else task.command.call) is
    ∙ made_of_table task.needs.first occasion task.command.call table

module _ (at : List ℕ → List ℕ) (commands : List Task) (r : Record) (of : IsOfItsTask commands r) (stands : at (codes "sent") ≡ moment_text r.sent) where
  -- if the record's command sets the clock, and the command's request was sent, the request asked for the moment that is under
  -- `sent` (`IsSetTo`)
  pub set_to : (task : Task) → slice_get commands r.place ≡ Some task → task.now ≡ true → is_of_table task.command.call ≡ true → went_out r.end ≡ true → IsSetTo at r
  set_to task listed now table out = by_moment r.sent refl (of.sent ∙ out) where
    -- if the record's moment of sending is o, and there is one, the request asked for that moment
    by_moment : (o : Option ℕ) → r.sent ≡ o → is_some r.sent ≡ true → IsSetTo at r
    by_moment None is has = let none : false ≡ true = sym (ap is_some is) ∙ has in cc
    by_moment (Some utc) is has =
        let own : of.task ≡ task = same_Some of.task task (sym of.listed ∙ listed) in
        record {
          utc = utc;
          sent = stands ∙ ap moment_text is;
          asked = ap (λ (w : Wish). w.call) (of.command ∙ ap (λ (o : Option ℕ). command_sent of.values o of.task) is)
              ∙ clock_is_set of.task of.values utc (ap (λ (t : Task). t.now) own ∙ now) (ap (λ (t : Task). is_of_table t.command.call) own ∙ table);
        }

  module _ (line : at (codes "request") ≡ escaped (request_sent r.sent r.id r.command.call)) where
    -- if no request was sent, nothing is under `sent`, nor under `request`
    pub never_sent : went_out r.end ≡ false → (at (codes "sent") ≡ []) × (at (codes "request") ≡ [])
    never_sent out = let none = by_moment r.sent (of.sent ∙ out) in (stands ∙ none.0, line ∙ ap escaped none.1) where
      -- without a moment of sending, its text is empty, and so is the request line
      by_moment : (o : Option ℕ) → is_some o ≡ false → (moment_text o ≡ []) × (request_sent o r.id r.command.call ≡ [])
      by_moment None has = (refl, refl)
      by_moment (Some utc) has = cc

    -- if a request was sent, an act of the run put its line (`HasItsRequest`), and the line is under `request`, escaped
    pub asked_by : (plan : Plan) (scope : Scope) (acts : List Act) → IsOfItsRequest plan commands scope acts r → went_out r.end ≡ true
        → HasItsRequest plan commands scope acts r × (at (codes "request") ≡ escaped (request_of r))
    asked_by plan scope acts requested out = by_moment r.sent refl (of.sent ∙ out) where
      -- the lemma above, by the moment of sending
      by_moment : (o : Option ℕ) → r.sent ≡ o → is_some r.sent ≡ true → HasItsRequest plan commands scope acts r × (at (codes "request") ≡ escaped (request_of r))
      by_moment None is has = let none : false ≡ true = sym (ap is_some is) ∙ has in cc
      by_moment (Some utc) is has =
          let its = requested.sent utc is in
          let small : r.id < 8 = requested.digit in
          let same : r.id % 8 ≡ r.id = omega (arith, small) in (
            its,
            line
                ∙ ap (λ (o : Option ℕ). escaped (request_sent o r.id r.command.call)) is
                ∙ ap (λ (n : ℕ). escaped (asked_line (Some n) r.command.call)) same,
          )
