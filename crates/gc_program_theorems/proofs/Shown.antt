-- What is under each name in a row or an object of a record: one proof for both, by the record's cells.
use Rattle.gc_program_theorems.proofs.Common.{◌≡◌, ℕ, Bool, true, false, inl, inr, List, [], ◌∷◌, ◌++◌, map, Option, Some, None, refl, sym, ap, ◌∙◌, subst, codes, not, AllByRecursion, list_all, and_parts, false≢true, not-true, ValueFault, ReplyFields, answer_fields, IsAskedReading, Answer, Reading, Asked, Table, Raw, End, Answered, Judged, Late, Lost, Skipped, NoValue, Missed, word_of, fault_of, line_of, quality_of, quality_text, is_named, DescriptionSeen, is_name_byte, judgement_word, escaped, of_each, Quality, Bytes, Cell, Code, Content, Whole, cell, lookup, names_of, Column, bytes_content, cells_if, cells_in, counted_answer, end_cells, fault_content, first_columns, items_column, last_columns, line_content, line_sent, moment_content, quantity_cells, quantity_columns, run_column, answer_kinds, IsDescribedAnswer, described_value, items_of, value_text, values_read, IsKnownName, IsShown, is_among, column_of, quantity_names, code_of, com_of, fault_field, moment_text, value_texts, values_of, read_shown, from_shown, lookup_among, lookup_behind, answer_in, form_at, IsSaid, Record, all_at, Survey, IsAdded, IsOutside, IsPlain, IsQuantity, description_of, quantity_in, shown_as, under}
use Rattle.gc_texts.specs.Prelude.{Unreadable}
use Rattle.gc_texts.specs.declared.form.Form.{Form}
use Rattle.gc_catalogue.specs.declared.raw.RawCall.{RawCall}
use Rattle.gc_rows.proofs.ProcedureQuantities.{quantities_under_their_names}
use Rattle.gc_program_theorems.proofs.Judged.{no_value_if_none, value_if_some}
use Rattle.gc_program_theorems.proofs.SoundLabels.{bytes_stay}
use Rattle.gc_program_theorems.proofs.Written.{HasItsTexts, entry_of}
use Rattle.gc_catalogue.specs.declared.answer.Reading.TheVariants as reading
use Rattle.gc_texts.specs.declared.quality.Quality.TheVariants as quality

-- Texts.

-- a moment is shown as its text; nothing if there is none
moment_shown : (o : Option ℕ) (shown : List ℕ) → IsShown (moment_content o) shown → shown ≡ moment_text o
moment_shown None shown is = is
moment_shown (Some utc) shown is = is

-- bytes are shown escaped
bytes_shown : (bytes shown : List ℕ) → IsShown (bytes_content bytes) shown → shown ≡ escaped bytes
bytes_shown [] shown is = is
bytes_shown (b ∷ bs) shown is = is

-- a fault is shown by its number; nothing if there is none
fault_shown : (o : Option ValueFault) (shown : List ℕ) → IsShown (fault_content o) shown → shown ≡ fault_field o
fault_shown None shown is = is
fault_shown (Some fault) shown is = is

-- escaping changes nothing in the word of an outcome
word_plain : (end : End) → escaped (word_of end) ≡ word_of end
word_plain (Answered quality answer line) = refl
word_plain (Unreadable line fault) = refl
word_plain (Judged judgement line) = bytes_stay (judgement_word judgement) (of_each (λ j. list_all is_name_byte (judgement_word j)) refl judgement)
word_plain Late = refl
word_plain Lost = refl
word_plain Skipped = refl
word_plain NoValue = refl
word_plain Missed = refl

-- nor in the word of a quality
quality_plain : (o : Option Quality) → escaped (quality_text o) ≡ quality_text o
quality_plain (Some quality.Fine) = refl
quality_plain (Some quality.Warning) = refl
quality_plain (Some quality.Unconfirmed) = refl
quality_plain (Some quality.Refused) = refl
quality_plain None = refl

-- Quantities.

-- a test that each name passes is passed by the name of a quantity
of_quantity : (p : List ℕ → Bool) → list_all p quantity_names ≡ true → (name : List ℕ) → IsQuantity name → p name ≡ true
of_quantity p each name is = all_at (λ n. p n ≡ true) quantity_names is.0 name (by_list quantity_names each) is.1 where
  -- a test that holds of a whole list holds of each element
  by_list : (names : List (List ℕ)) → list_all p names ≡ true → AllByRecursion (λ n. p n ≡ true) names
  by_list [] all = tt
  by_list (n ∷ names) all = let parts = and_parts (p n) (list_all p names) all in (parts.0, by_list names parts.1)

-- a reply that says anything but an answer has no quantities
nothing_in : (call : Asked) (described : Option DescriptionSeen) (line name : List ℕ) (said : Reading) → ((answer : Answer) → said ≡ reading.Value answer → ⊥)
    → escaped (quantity_in call described said line name) ≡ []
nothing_in call described line name (reading.Value answer) none = absurd (none answer refl)
nothing_in call described line name (reading.Refused code) none = refl
nothing_in call described line name (reading.ComFault code) none = refl
nothing_in call described line name (reading.Unreadable fault) none = refl

-- what the cells of an answer show under a name is the answer's quantity of that name, escaped
answer_shown : (asked : Asked) (described : Option DescriptionSeen) (form : Option Form) (fields : ReplyFields) (answer : Answer) → IsSaid form asked fields (reading.Value answer)
    → IsPlain form asked → (line name shown : List ℕ) → IsShown (lookup name (cells_if asked described (Some answer) (Some line))) shown
    → shown ≡ escaped (quantity_in asked described (reading.Value answer) line name)
answer_shown (Table call) described form fields answer says plain line name shown is =
    let told : IsAskedReading (Table call) fields (reading.Value answer) = subst (λ f. IsSaid f (Table call) fields (reading.Value answer)) plain says in
    from_shown name (column_of call answer) (answer_fields answer).values (values_of line) shown is
    ∙ ap (λ names. escaped (under name names (value_texts answer))) (quantities_under_their_names call answer told.2.of_call)
answer_shown (Raw raw) None form fields answer says plain line name shown is = is
answer_shown (Raw raw) (Some d) form fields answer says plain line name shown is =
    read_shown name d.values (values_read (answer_kinds d) (values_of line)) (items_of (values_of line)) shown is

module _ (asked : Asked) (described : Option DescriptionSeen) (form : Option Form) (fields : ReplyFields) (said : Reading) (says : IsSaid form asked fields said)
    (values : Option Answer) (has : values ≡ answer_in said) (plain : IsPlain form asked) (line name shown : List ℕ) where
  -- what the cells of these values show under a name is the quantity of what the reply says, escaped
  said_shown : IsShown (lookup name (cells_if asked described values (Some line))) shown → shown ≡ escaped (quantity_in asked described said line name)
  said_shown = by_values values has where
    -- the lemma above, by the values
    by_values : (values : Option Answer) → values ≡ answer_in said → IsShown (lookup name (cells_if asked described values (Some line))) shown
        → shown ≡ escaped (quantity_in asked described said line name)
    by_values (Some answer) has is =
        let value : said ≡ reading.Value answer = value_if_some said answer (sym has) in
        answer_shown asked described form fields answer (subst (IsSaid form asked fields) value says) plain line name shown is
        ∙ ap (λ x. escaped (quantity_in asked described x line name)) (sym value)
    by_values None has is = is ∙ sym (nothing_in asked described line name said (no_value_if_none said (sym has)))

  -- what the cells of an ending with these values show under a name is that quantity, as `shown_as` has it
  end_shown : (q : Quality) → IsShown (lookup name (end_cells asked described (Answered q values line))) shown
      → shown ≡ shown_as q (escaped (quantity_in asked described said line name))
  end_shown quality.Fine is = said_shown is
  end_shown quality.Warning is = said_shown is
  end_shown quality.Unconfirmed is = is
  end_shown quality.Refused is = said_shown is

-- a command that isn't answered has no cell of a quantity
no_cells : (asked : Asked) (described : Option DescriptionSeen) (end : End) → (word_of end ≡ codes "answered" → ⊥) → end_cells asked described end ≡ []
no_cells asked described (Answered q values line) other = absurd (other refl)
no_cells asked described (Unreadable line fault) other = refl
no_cells asked described (Judged judgement line) other = refl
no_cells asked described Late other = refl
no_cells asked described Lost other = refl
no_cells asked described Skipped other = refl
no_cells asked described NoValue other = refl
no_cells asked described Missed other = refl

-- nor an answer that counts
none_counts : (end : End) → (word_of end ≡ codes "answered" → ⊥) → counted_answer end ≡ None
none_counts (Answered q values line) other = absurd (other refl)
none_counts (Unreadable line fault) other = refl
none_counts (Judged judgement line) other = refl
none_counts Late other = refl
none_counts Lost other = refl
none_counts Skipped other = refl
none_counts NoValue other = refl
none_counts Missed other = refl

-- A row or an object.

-- the columns of the items, where there are any
abbrev items_columns : (has_items : Bool) → List Column
items_columns true = items_column ∷ []
items_columns false = []

-- the columns that each record has, whatever the text describes: a row has none of the items, and an object all
abbrev pub columns : (has_quantities has_items : Bool) → List Column
columns has_quantities has_items = run_column ∷ (first_columns ++ (quantity_columns has_quantities [] ++ (items_columns has_items ++ last_columns)))

module _ (survey : Survey) (r : Record) (has_quantities has_items : Bool) where
  -- the record's cells in these columns
  abbrev cells : (has_quantities has_items : Bool) → List Cell
  cells has_quantities has_items = cells_in (columns has_quantities has_items) (entry_of survey r)

  -- under each name that a record has whatever the text describes, `at` gives what the cell of this name holds
  abbrev pub ShowsCells : (at : List ℕ → List ℕ) → Type 0
  ShowsCells at = (key : List ℕ) → IsKnownName key → IsShown (lookup key (cells has_quantities has_items)) (at key)

  -- under the names that its description adds, `at` gives the values of these names in an answer that counts, and nothing if none counts
  pub record ShowsAdded (at : List ℕ → List ℕ) : Type 0 where
    pub holds : (d : DescriptionSeen) (line : List ℕ) → IsDescribedAnswer (entry_of survey r) d line → (name : List ℕ) → is_among name survey.labels.columns ≡ true
        → is_named name d.values ≡ true → at name ≡ escaped (value_text (described_value d line name))
    pub blank : (d : DescriptionSeen) → description_of survey r ≡ Some d → counted_answer r.end ≡ None → (name : List ℕ) → is_among name survey.labels.columns ≡ true
        → is_named name d.values ≡ true → at name ≡ []

  -- the last cells are found, with or without quantities and items before them
  last_found : (b c : Bool)
      → (lookup (codes "quality") (cells b c) ≡ bytes_content (quality_text (quality_of r.end))) × (lookup (codes "attempt") (cells b c) ≡ Whole r.turn.attempt)
      × (lookup (codes "request") (cells b c) ≡ bytes_content (line_sent (entry_of survey r)))
  last_found true true = (refl, refl, refl)
  last_found true false = (refl, refl, refl)
  last_found false true = (refl, refl, refl)
  last_found false false = (refl, refl, refl)

  -- under the name of a quantity, where there are quantities, is what the answer's cell of that name holds
  quantity_found : (b c : Bool) → b ≡ true → (name : List ℕ) → IsQuantity name → lookup name (cells b c) ≡ lookup name (quantity_cells (entry_of survey r))
  quantity_found true c shows name is =
      let first = cells_in (run_column ∷ first_columns) (entry_of survey r) in
      let others = cells_in (items_columns c ++ last_columns) (entry_of survey r) in
      let holds : List ℕ → Content = λ n. lookup n (quantity_cells (entry_of survey r)) in
      lookup_behind name first (map (λ n. cell n (holds n)) quantity_names ++ others)
      (not-true _ (of_quantity (λ n. not (is_among n (names_of first))) refl name is))
      ∙ lookup_among name quantity_names holds others (of_quantity (λ n. is_among n quantity_names) refl name is)
  quantity_found false c shows name is = absurd (false≢true shows)

  module _ (at : List ℕ → List ℕ) (shows : ShowsCells at) (adds : has_quantities ≡ true → ShowsAdded at) where
    -- under the name of a quantity is what the answer's cell of that name holds
    quantity_at : has_quantities ≡ true → (name : List ℕ) → IsQuantity name → IsShown (lookup name (quantity_cells (entry_of survey r))) (at name)
    quantity_at has name is =
        subst (λ content. IsShown content (at name)) (quantity_found has_quantities has_items has name is)
        (shows name (inr (of_quantity (λ n. is_among n quantity_names) refl name is)))

    -- nothing is shown as nothing, whatever the quality
    none_shown : (q : Quality) (text : List ℕ) → text ≡ [] → shown_as q text ≡ []
    none_shown quality.Fine text none = none
    none_shown quality.Warning text none = none
    none_shown quality.Unconfirmed text none = refl
    none_shown quality.Refused text none = none

    module _ (has : has_quantities ≡ true) (told : Reading) (line name : List ℕ) where
      -- of an answer that counts, under a name that the description adds is the value of this name
      counted : (raw : RawCall) → r.command.call ≡ Raw raw → (d : DescriptionSeen) → description_of survey r ≡ Some d → IsAdded survey.labels.columns (Some d) name
          → (q : Quality) (answer : Answer) → r.end ≡ Answered q (Some answer) line → Some answer ≡ answer_in told → counted_answer r.end ≡ Some answer
          → at name ≡ escaped (quantity_in (Raw raw) (Some d) told line name)
      counted raw call d described is q answer ended said counts =
          let value : told ≡ reading.Value answer = value_if_some told answer (sym said) in
          (adds has).holds d line (record { raw = raw; call_is = call; described_is = described; answer = answer; counts = counts; line_is = ap line_of ended }) name is.0 is.1
          ∙ ap (λ x. escaped (quantity_in (Raw raw) (Some d) x line name)) (sym value)

      -- without values there is nothing
      uncounted : (raw : RawCall) → r.command.call ≡ Raw raw → (d : DescriptionSeen) → description_of survey r ≡ Some d → IsAdded survey.labels.columns (Some d) name
          → (q : Quality) → r.end ≡ Answered q None line → None ≡ answer_in told → counted_answer r.end ≡ None
          → at name ≡ shown_as q (escaped (quantity_in (Raw raw) (Some d) told line name))
      uncounted raw call d described is q ended said counts =
          (adds has).blank d described counts name is.0 is.1
          ∙ sym (none_shown q (escaped (quantity_in (Raw raw) (Some d) told line name)) (nothing_in (Raw raw) (Some d) line name told (no_value_if_none told (sym said))))

      -- under a name that the description adds is the value of this name, as `shown_as` has it, of an answer with these values
      by_its_values : (raw : RawCall) → r.command.call ≡ Raw raw → (d : DescriptionSeen) → description_of survey r ≡ Some d → IsAdded survey.labels.columns (Some d) name
          → (q : Quality) (values : Option Answer) → r.end ≡ Answered q values line → values ≡ answer_in told
          → at name ≡ shown_as q (escaped (quantity_in (Raw raw) (Some d) told line name))
      by_its_values raw call d described is quality.Unconfirmed values ended said =
          (adds has).blank d described (ap counted_answer ended) name is.0 is.1
      by_its_values raw call d described is quality.Fine (Some answer) ended said = counted raw call d described is quality.Fine answer ended said (ap counted_answer ended)
      by_its_values raw call d described is quality.Warning (Some answer) ended said = counted raw call d described is quality.Warning answer ended said (ap counted_answer ended)
      by_its_values raw call d described is quality.Refused (Some answer) ended said = counted raw call d described is quality.Refused answer ended said (ap counted_answer ended)
      by_its_values raw call d described is quality.Fine None ended said = uncounted raw call d described is quality.Fine ended said (ap counted_answer ended)
      by_its_values raw call d described is quality.Warning None ended said = uncounted raw call d described is quality.Warning ended said (ap counted_answer ended)
      by_its_values raw call d described is quality.Refused None ended said = uncounted raw call d described is quality.Refused ended said (ap counted_answer ended)

    -- the same, whatever was asked and described
    added_at : has_quantities ≡ true → (told : Reading) (q : Quality) (values : Option Answer) (line : List ℕ) → r.end ≡ Answered q values line → values ≡ answer_in told
        → IsOutside r.command.call → (name : List ℕ) → IsAdded survey.labels.columns (description_of survey r) name
        → at name ≡ shown_as q (escaped (quantity_in r.command.call (description_of survey r) told line name))
    added_at has told q values line ended said outside name is = by_call r.command.call refl outside (description_of survey r) refl is where
      -- by what was asked, and how it is described
      by_call : (call : Asked) → r.command.call ≡ call → IsOutside call → (described : Option DescriptionSeen) → description_of survey r ≡ described
          → IsAdded survey.labels.columns described name → at name ≡ shown_as q (escaped (quantity_in call described told line name))
      by_call (Table call) same outside described so is = absurd outside
      by_call (Raw raw) same outside None so is = absurd is
      by_call (Raw raw) same outside (Some d) so is = by_its_values has told line name raw same d so is q values ended said

    -- nothing is there if the command isn't answered
    blank_at : has_quantities ≡ true → (word_of r.end ≡ codes "answered" → ⊥) → (name : List ℕ) → IsAdded survey.labels.columns (description_of survey r) name → at name ≡ []
    blank_at has other name is = by_description (description_of survey r) refl is where
      -- by the description
      by_description : (described : Option DescriptionSeen) → description_of survey r ≡ described → IsAdded survey.labels.columns described name → at name ≡ []
      by_description None so is = absurd is
      by_description (Some d) so is = (adds has).blank d so (none_counts r.end other) name is.0 is.1

    -- a row or an object that shows the record's cells has its texts
    pub has_its_texts : HasItsTexts survey has_quantities at r
    has_its_texts = record {
      is_of = record {
        command = record {
          sent = moment_shown r.sent (at (codes "sent")) (shows (codes "sent") (inl refl));
          time = shows (codes "time") (inl refl);
          cycle = shows (codes "cycle") (inl refl);
          step = shows (codes "step") (inl refl);
          target = shows (codes "target") (inl refl);
          procedure = shows (codes "procedure") (inl refl);
          outcome = shows (codes "outcome") (inl refl) ∙ word_plain r.end;
          fault = fault_shown (fault_of r.end) (at (codes "fault")) (shows (codes "fault") (inl refl));
        };
        attempt = subst (λ content. IsShown content (at (codes "attempt"))) (last_found has_quantities has_items).1 (shows (codes "attempt") (inl refl));
        request =
            bytes_shown (line_sent (entry_of survey r)) (at (codes "request"))
            (subst (λ content. IsShown content (at (codes "request"))) (last_found has_quantities has_items).2 (shows (codes "request") (inl refl)));
        run = shows (codes "run") (inl refl);
        name = bytes_shown (entry_of survey r).name (at (codes "name")) (shows (codes "name") (inl refl));
      };
      quality =
          bytes_shown (quality_text (quality_of r.end)) (at (codes "quality"))
          (subst (λ content. IsShown content (at (codes "quality"))) (last_found has_quantities has_items).0 (shows (codes "quality") (inl refl)))
          ∙ quality_plain (quality_of r.end);
      rc_com = λ line n answered is. subst (λ o. IsShown (line_content (λ l. Code (com_of l)) o) (at (codes "rc_com"))) answered (shows (codes "rc_com") (inl refl)) n is;
      rc = λ line n answered is. subst (λ o. IsShown (line_content (λ l. Code (code_of l)) o) (at (codes "rc"))) answered (shows (codes "rc") (inl refl)) n is;
      values = λ line answered. subst (λ o. IsShown (line_content (λ l. Bytes (values_of l)) o) (at (codes "values"))) answered (shows (codes "values") (inl refl));
      quantities = λ has fields told is_told q values line is told_is plain name quantity.
          end_shown r.command.call (description_of survey r) (form_at survey.tasks r.place) fields told is_told values told_is plain line name (at name) q
          (subst (λ end. IsShown (lookup name (end_cells r.command.call (description_of survey r) end)) (at name)) is (quantity_at has name quantity));
      added = λ has told q values line ended said outside name is. added_at has told q values line ended said outside name is;
      none = λ has other name quantity.
          subst (λ found. IsShown (lookup name found) (at name)) (no_cells r.command.call (description_of survey r) r.end other) (quantity_at has name quantity);
      blank = λ has other name is. blank_at has other name is;
    }
