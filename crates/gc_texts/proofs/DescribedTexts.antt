-- What a text says of procedures outside the table holds for its commands, and which columns it adds.
use Rattle.gc_texts.proofs.Common.{◌≡◌, ◌≤◌, ◌+◌, ℕ, Bool, true, false, ◌==◌, ◌&&◌, ◌||◌, not, nat_lt, List, [], ◌∷◌, ◌++◌, length, map, Option, Some, None, cond, arith, refl, ap, sym, ◌∙◌, subst, append_assoc, append-nil, if◌then◌else◌, codes, AllByRecursion, bytes_eq, option_map, bytes_eq-Decides, and_parts, eq-eqb, eqb-true, leb-true, not-true, or_parts, or-true, length-append, flat_map-append, none-some, same_Some, ArrayVec, Nothing, Asked, Table, Raw, Decimal, Direction, Value, cons_head, cons_tail, are_columns, described_as, description_seen, is_described, FieldSeen, HaveNames, field_seen, answer_from, decimal_at, form_of, AreLinesOf, decimal_in, direction_from, measured_direction, value_under, direction_of, distance_of, are_of_one_sort, fresh_name, fresh_names, has_column, is_fresh, is_new_column, new_columns, with_columns, IsTaskLine, IsInPlace, IsTasks, MayFollow, TasksSeen, described_at, described_of, first_mode, form_of_asked, has_room_for, name_at, names_of, near_at, nears_of, no_standing, placed, standing_after, standing_by, tasks_of, unwatched_at, unwatched_of, Description, Field, Form, Name, Near, Standing, TaskLine, Task, Described}
use Rattle.gc_texts.specs.DescribedTexts.{DescribedCommandsFit, FormsAreDescribed, FormsHoldForAll, HasItsForm, MeasuredAsColumns, OneFormReading, TextsAddColumns}
use Rattle.gc_texts.proofs.FormReadings.{decimal_of_place, one_form_reading}
use Rattle.gc_texts.proofs.TaskReading.{columns_of_both, placed_alike}
use Rattle.gc_texts.specs.declared.task_line.TaskLine.TheVariants as says

-- Descriptions among others.

-- the description that is found in the first of two lists is found in both
found_in_front : (rpc : ℕ) (xs ys : List Description) (d : Description) → described_as rpc xs ≡ Some d → described_as rpc (xs ++ ys) ≡ Some d
found_in_front rpc [] ys d is = absurd (none-some d is)
found_in_front rpc (x ∷ xs) ys d is = by_test (x.rpc == rpc) is (found_in_front rpc xs ys d) where
  -- the lemma above, by whether the first is of the procedure
  by_test : (b : Bool) → cond b (Some x) (described_as rpc xs) ≡ Some d → (described_as rpc xs ≡ Some d → described_as rpc (xs ++ ys) ≡ Some d)
      → cond b (Some x) (described_as rpc (xs ++ ys)) ≡ Some d
  by_test true here more = here
  by_test false behind more = more behind

-- where none of the descriptions before one is of its procedure, it is the one that is found
found_first : (xs ys : List Description) (d : Description) → is_described d.rpc xs ≡ false → described_as d.rpc (xs ++ d ∷ ys) ≡ Some d
found_first [] ys d none = ap (λ b. cond b (Some d) (described_as d.rpc ys)) (eq-eqb d.rpc d.rpc refl)
found_first (x ∷ xs) ys d none =
    let apart = or_parts (x.rpc == d.rpc) (is_described d.rpc xs) none in
    ap (λ b. cond b (Some x) (described_as d.rpc (xs ++ d ∷ ys))) apart.0 ∙ found_first xs ys d apart.1

-- one of the lines describes this procedure so
abbrev IsInLine : (said : List TaskLine) → (rpc : ℕ) → Description → Type 0
IsInLine said rpc d = (front : List TaskLine) × (later : List TaskLine) × (said ≡ front ++ says.Describing d ∷ later) × (d.rpc ≡ rpc)

-- a description that is found among those of lines is in one of them
found_by_line : (said : List TaskLine) (rpc : ℕ) (d : Description) → described_as rpc (described_of said) ≡ Some d → IsInLine said rpc d
found_by_line [] rpc d is = absurd (none-some d is)
found_by_line (says.Describing x ∷ said) rpc d is = by_test (x.rpc == rpc) refl is (found_by_line said rpc d) where
  -- the lemma above, by whether the first is of the procedure
  by_test : (b : Bool) → (x.rpc == rpc) ≡ b → cond b (Some x) (described_as rpc (described_of said)) ≡ Some d
      → (described_as rpc (described_of said) ≡ Some d → IsInLine said rpc d) → IsInLine (says.Describing x ∷ said) rpc d
  by_test true test here more =
      let same : x ≡ d = same_Some x d here in
      ([], said, ap (λ y. says.Describing y ∷ said) same, ap (λ (y : Description). y.rpc) (sym same) ∙ eqb-true x.rpc rpc test)
  by_test false test behind more = let among = more behind in (says.Describing x ∷ among.0, among.1, ap (λ l. says.Describing x ∷ l) among.2, among.3)
found_by_line (line ∷ said) rpc d is = let among = found_by_line said rpc d is in (line ∷ among.0, among.1, ap (λ l. line ∷ l) among.2, among.3)

-- where lines may follow names, places, unwatched targets, descriptions and lines of which `s` holds, each of them is in its place behind these and what the
-- lines before it give
place_at : (names : List Name) (nears : List Near) (unwatched : List ℕ) (described : List Description) (s : Standing) (front later : List TaskLine) (line : TaskLine)
    → MayFollow names nears unwatched described s (front ++ line ∷ later)
    → IsInPlace (names ++ names_of front) (nears ++ nears_of front) (unwatched ++ unwatched_of front) (described ++ described_of front) (standing_after s front) line
place_at names nears unwatched described s [] later line follow =
    placed_alike names (names ++ []) nears (nears ++ []) unwatched (unwatched ++ []) described (described ++ []) s s line
    (sym (append-nil names)) (sym (append-nil nears)) (sym (append-nil unwatched)) (sym (append-nil described)) refl follow.0
place_at names nears unwatched described s (first ∷ front) later line follow =
    placed_alike ((names ++ name_at first) ++ names_of front) (names ++ (name_at first ++ names_of front))
    ((nears ++ near_at first) ++ nears_of front) (nears ++ (near_at first ++ nears_of front))
    ((unwatched ++ unwatched_at first) ++ unwatched_of front) (unwatched ++ (unwatched_at first ++ unwatched_of front))
    ((described ++ described_at first) ++ described_of front) (described ++ (described_at first ++ described_of front))
    (standing_after (standing_by s first) front) (standing_after s (first ∷ front)) line
    (append_assoc names (name_at first) (names_of front)) (append_assoc nears (near_at first) (nears_of front))
    (append_assoc unwatched (unwatched_at first) (unwatched_of front)) (append_assoc described (described_at first) (described_of front)) refl
    (place_at (names ++ name_at first) (nears ++ near_at first) (unwatched ++ unwatched_at first) (described ++ described_at first) (standing_by s first) front later line follow.1)

-- a description that may follow others is of a procedure that none of them describes, and there is room for its columns
fresh_parts : (described : List Description) (d : Description)
    → (nat_lt (length described) 16 && not (is_described d.rpc described) && has_room_for (new_columns described) d.values.items && are_of_one_sort described d.values.items) ≡ true
    → (not (is_described d.rpc described) ≡ true) × (has_room_for (new_columns described) d.values.items ≡ true)
fresh_parts described d follows =
    let whole = and_parts (nat_lt (length described) 16 && not (is_described d.rpc described) && has_room_for (new_columns described) d.values.items) (are_of_one_sort described d.values.items) follows in
    let room = and_parts (nat_lt (length described) 16 && not (is_described d.rpc described)) (has_room_for (new_columns described) d.values.items) whole.0 in
    ((and_parts (nat_lt (length described) 16) (not (is_described d.rpc described)) room.0).1, room.1)

-- The form of a task.

-- each task of a text has the form that the text's descriptions say
each_has_its_form : (nears : List Near) (unwatched : List ℕ) (described : List Description) (tasks earlier others : List Task) (task : Task)
    → map (placed nears unwatched described) tasks ≡ earlier ++ task ∷ others → task.form ≡ form_of_asked described task.command.call
each_has_its_form nears unwatched described [] [] others task e = cc
each_has_its_form nears unwatched described [] (t ∷ ts) others task e = cc
each_has_its_form nears unwatched described (t ∷ tasks) [] others task e =
    let same = cons_head (placed nears unwatched described t) task (map (placed nears unwatched described) tasks) others e in
    ap (λ (u : Task). u.form) (sym same) ∙ ap (λ (u : Task). form_of_asked described u.command.call) same
each_has_its_form nears unwatched described (t ∷ tasks) (u ∷ earlier) others task e =
    each_has_its_form nears unwatched described tasks earlier others task
    (cons_tail (placed nears unwatched described t) u (map (placed nears unwatched described) tasks) (earlier ++ task ∷ others) e)

-- the law: a command by a number alone asks for what a line before it describes
pub described_commands_fit : DescribedCommandsFit
described_commands_fit text deadline chained all is front later command expects at =
    let follow = subst (λ said. MayFollow [] [] [] [] no_standing said) at is.lines.follow in
    let fits = (place_at [] [] [] [] no_standing front later (says.Command command Described expects) follow).fits in
    let line = found_by_line front fits.raw.rpc fits.description fits.found in
    let procedures : all.described ≡ described_of front ++ described_of later =
    is.described_are ∙ ap described_of at ∙ flat_map-append described_at front (says.Command command Described expects ∷ later) in
    let found : described_as fits.raw.rpc all.described ≡ Some fits.description =
    ap (described_as fits.raw.rpc) procedures ∙ found_in_front fits.raw.rpc (described_of front) (described_of later) fits.description fits.found in
    record {
      raw = fits.raw;
      asked_is = fits.asked_is;
      description = fits.description;
      earlier = line.0;
      between = line.1;
      line = line.2;
      number = line.3;
      taken = fits.taken;
      form = ap (form_of_asked all.described) fits.asked_is ∙ ap (option_map form_of) found;
    }

-- the law: a description holds for all commands of its procedure
pub forms_hold : FormsHoldForAll
forms_hold text deadline chained all is front later d at earlier others task raw among asks same =
    let follow = subst (λ said. MayFollow [] [] [] [] no_standing said) at is.lines.follow in
    let follows = (place_at [] [] [] [] no_standing front later (says.Describing d) follow).follows in
    let front_part = fresh_parts (described_of front) d follows in
    let none = not-true (is_described d.rpc (described_of front)) front_part.0 in
    let procedures : all.described ≡ described_of front ++ d ∷ described_of later =
    is.described_are ∙ ap described_of at ∙ flat_map-append described_at front (says.Describing d ∷ later) in
    each_has_its_form all.nears all.unwatched all.described (tasks_of (first_mode deadline chained) is.said) earlier others task (sym is.tasks_are ∙ among)
    ∙ ap (form_of_asked all.described) asks
    ∙ ap (λ n. option_map form_of (described_as n all.described)) same
    ∙ ap (λ ds. option_map form_of (described_as d.rpc ds)) procedures
    ∙ ap (option_map form_of) (found_first (described_of front) (described_of later) d none)

-- a form is that of a description that is found
form_found : (said : List TaskLine) (described : List Description) (asked : Asked) (form : Form) → described ≡ described_of said
    → form_of_asked described asked ≡ Some form → HasItsForm said asked form
form_found said described (Table call) form are is = absurd (none-some form is)
form_found said described (Raw raw) form are is = by_found (described_as raw.rpc described) refl is where
  -- the lemma above, by what is found
  by_found : (o : Option Description) → described_as raw.rpc described ≡ o → option_map form_of o ≡ Some form → HasItsForm said (Raw raw) form
  by_found None found is = absurd (none-some form is)
  by_found (Some d) found is =
      let line = found_by_line said raw.rpc d (ap (described_as raw.rpc) (sym are) ∙ found) in
      record {
        raw = raw;
        asked_is = refl;
        description = d;
        front = line.0;
        later = line.1;
        line = line.2;
        number = line.3;
        form_is = sym (same_Some (form_of d) form is);
      }

-- the law: no other command has a form
pub forms_are_described : FormsAreDescribed
forms_are_described text deadline chained all is earlier others task form among has =
    form_found is.said all.described task.command.call form is.described_are
    (sym (each_has_its_form all.nears all.unwatched all.described (tasks_of (first_mode deadline chained) is.said) earlier others task (sym is.tasks_are ∙ among)) ∙ has)

pub forms_read_once : OneFormReading
forms_read_once = one_form_reading

-- What was measured.

direction_of_parts : (hz v distance : Option Decimal) → direction_of (answer_from hz v distance) ≡ direction_from hz v
direction_of_parts None v distance = refl
direction_of_parts (Some hz) None distance = refl
direction_of_parts (Some hz) (Some v) None = refl
direction_of_parts (Some hz) (Some v) (Some distance) = refl

distance_of_parts : (hz v distance : Option Decimal) (toward : Direction) → direction_from hz v ≡ Some toward → distance_of (answer_from hz v distance) ≡ distance
distance_of_parts None v distance toward is = absurd (none-some toward is)
distance_of_parts (Some hz) None distance toward is = absurd (none-some toward is)
distance_of_parts (Some hz) (Some v) None toward is = refl
distance_of_parts (Some hz) (Some v) (Some distance) toward is = refl

nothing_of_parts : (hz v distance : Option Decimal) → direction_from hz v ≡ None → answer_from hz v distance ≡ Nothing
nothing_of_parts None v distance is = refl
nothing_of_parts (Some hz) None distance is = refl
nothing_of_parts (Some hz) (Some v) distance is = absurd (none-some (record { hz = hz; v = v }) (sym is))

module _ (d : Description) (values : List Value) where
  -- the fields of the answer
  abbrev fields : List FieldSeen
  fields = map field_seen d.values.items

  -- the direction by places is that by columns
  direction_by_places : direction_from (decimal_at values (form_of d).hz) (decimal_at values (form_of d).v) ≡ measured_direction fields values
  direction_by_places =
      ap (λ hz. direction_from hz (decimal_at values (form_of d).v)) (decimal_of_place (codes "hz_rad") fields values)
      ∙ ap (direction_from (decimal_in (value_under (codes "hz_rad") fields values))) (decimal_of_place (codes "v_rad") fields values)

-- the law: what was measured is what the columns have
pub measured_as_columns : MeasuredAsColumns
measured_as_columns =
    record {
      direction = λ d values.
          direction_of_parts (decimal_at values (form_of d).hz) (decimal_at values (form_of d).v) (decimal_at values (form_of d).distance) ∙ direction_by_places d values;
      distance = λ d values toward is.
          distance_of_parts (decimal_at values (form_of d).hz) (decimal_at values (form_of d).v) (decimal_at values (form_of d).distance) toward (direction_by_places d values ∙ is)
          ∙ decimal_of_place (codes "distance_m") (map field_seen d.values.items) values;
      nothing = λ d values is.
          nothing_of_parts (decimal_at values (form_of d).hz) (decimal_at values (form_of d).v) (decimal_at values (form_of d).distance) (direction_by_places d values ∙ is);
    }

-- The columns.

-- the columns of lines that may follow descriptions, together with those of these, are at most 64
columns_few : (names : List Name) (nears : List Near) (unwatched : List ℕ) (described : List Description) (s : Standing) (lines : List TaskLine)
    → length (new_columns described) ≤ 64 → MayFollow names nears unwatched described s lines → length (new_columns (described ++ described_of lines)) ≤ 64
columns_few names nears unwatched described s [] few follow = subst (λ (ds : List Description). length (new_columns ds) ≤ 64) (sym (append-nil described)) few
columns_few names nears unwatched described s (line ∷ lines) few follow =
    subst (λ (ds : List Description). length (new_columns ds) ≤ 64) (append_assoc described (described_at line) (described_of lines))
    (columns_few (names ++ name_at line) (nears ++ near_at line) (unwatched ++ unwatched_at line) (described ++ described_at line) (standing_by s line) lines
    (more_few line few follow.0) follow.1) where
      -- one more line leaves them so
      more_few : (line : TaskLine) → length (new_columns described) ≤ 64 → IsInPlace names nears unwatched described s line
          → length (new_columns (described ++ described_at line)) ≤ 64
      more_few (says.Describing d) few is =
          let room = (fresh_parts described d is.follows).1 in
          let fits : length (new_columns described) + length (fresh_names (new_columns described) d.values.items) ≤ 64 = leb-true (length (new_columns described) + length (fresh_names (new_columns described) d.values.items)) 64 room in
          let both = ap length (columns_of_both [] described (d ∷ [])) in
          let sum = length-append (new_columns described) (fresh_names (new_columns described) d.values.items) in
          omega (arith, fits, both, sum)
      more_few line few is = subst (λ (ds : List Description). length (new_columns ds) ≤ 64) (sym (append-nil described)) few

-- so a text has at most 64 columns that the table's quantities have not
pub few_columns : (text : List ℕ) (deadline : ℕ) (chained : Bool) (all : TasksSeen) → IsTasks text deadline chained all → length all.columns ≤ 64
few_columns text deadline chained all is =
    let are : all.columns ≡ new_columns (described_of is.said) = is.columns_are ∙ ap new_columns is.described_are in
    subst (λ (cs : List (ArrayVec ℕ)). length cs ≤ 64) (sym are) (columns_few [] [] [] [] no_standing is.said (omega arith) is.lines.follow)

-- a column that is none of the table's quantities
abbrev IsNew : ArrayVec ℕ → Type 0
IsNew column = is_new_column column.items ≡ true

all_of_both : (xs ys : List (ArrayVec ℕ)) → AllByRecursion IsNew xs → AllByRecursion IsNew ys → AllByRecursion IsNew (xs ++ ys)
all_of_both [] ys all more = more
all_of_both (x ∷ xs) ys all more = (all.0, all_of_both xs ys all.1 more)

-- the fresh names of fields are new columns
fresh_is_new : (columns : List (ArrayVec ℕ)) (f : Field) → AllByRecursion IsNew (fresh_name columns f)
fresh_is_new columns f = by_test (is_fresh columns f.name.items) refl where
  -- the lemma above, by whether the name is fresh
  by_test : (b : Bool) → is_fresh columns f.name.items ≡ b → AllByRecursion IsNew (if b then f.name ∷ [] else [])
  by_test true is = ((and_parts (is_new_column f.name.items) (not (has_column columns f.name.items)) is).0, tt)
  by_test false is = tt

fresh_are_new : (columns : List (ArrayVec ℕ)) (fields : List Field) → AllByRecursion IsNew (fresh_names columns fields)
fresh_are_new columns [] = tt
fresh_are_new columns (f ∷ fs) = all_of_both (fresh_name columns f) (fresh_names columns fs) (fresh_is_new columns f) (fresh_are_new columns fs)

columns_are_new : (columns : List (ArrayVec ℕ)) (described : List Description) → AllByRecursion IsNew columns → AllByRecursion IsNew (with_columns columns described)
columns_are_new columns [] all = all
columns_are_new columns (d ∷ ds) all =
    columns_are_new (columns ++ fresh_names columns d.values.items) ds (all_of_both columns (fresh_names columns d.values.items) all (fresh_are_new columns d.values.items))

-- a column that is among some is among more
has_in_front : (xs ys : List (ArrayVec ℕ)) (name : List ℕ) → has_column xs name ≡ true → has_column (xs ++ ys) name ≡ true
has_in_front [] ys name has = absurd (let bad : false ≡ true = has in cc)
has_in_front (x ∷ xs) ys name has = by_test (bytes_eq x.items name) has (has_in_front xs ys name) where
  -- the lemma above, by whether the first has the name
  by_test : (b : Bool) → (b || has_column xs name) ≡ true → (has_column xs name ≡ true → has_column (xs ++ ys) name ≡ true) → (b || has_column (xs ++ ys) name) ≡ true
  by_test true has more = refl
  by_test false has more = more has

has_behind : (xs ys : List (ArrayVec ℕ)) (name : List ℕ) → has_column ys name ≡ true → has_column (xs ++ ys) name ≡ true
has_behind [] ys name has = has
has_behind (x ∷ xs) ys name has = ap (λ b. bytes_eq x.items name || b) (has_behind xs ys name has) ∙ or-true (bytes_eq x.items name)

columns_stay : (columns : List (ArrayVec ℕ)) (described : List Description) (name : List ℕ) → has_column columns name ≡ true → has_column (with_columns columns described) name ≡ true
columns_stay columns [] name has = has
columns_stay columns (d ∷ ds) name has = columns_stay (columns ++ fresh_names columns d.values.items) ds name (has_in_front columns (fresh_names columns d.values.items) name has)

-- a new column of a field is there once its description is
field_is_there : (columns : List (ArrayVec ℕ)) (before behind : List Field) (f : Field) → is_new_column f.name.items ≡ true
    → has_column (columns ++ fresh_names columns (before ++ f ∷ behind)) f.name.items ≡ true
field_is_there columns before behind f new = by_test (has_column columns f.name.items) refl where
  -- the lemma above, by whether the columns have it
  by_test : (b : Bool) → has_column columns f.name.items ≡ b → has_column (columns ++ fresh_names columns (before ++ f ∷ behind)) f.name.items ≡ true
  by_test true has = has_in_front columns (fresh_names columns (before ++ f ∷ behind)) f.name.items has
  by_test false hasnt =
      let fresh : is_fresh columns f.name.items ≡ true = ap (λ b. b && not (has_column columns f.name.items)) new ∙ ap not hasnt in
      let own : fresh_name columns f ≡ f.name ∷ [] = ap (λ b. if b then f.name ∷ [] else []) fresh in
      let split : fresh_names columns (before ++ f ∷ behind) ≡ fresh_names columns before ++ (f.name ∷ fresh_names columns behind) =
      flat_map-append (fresh_name columns) before (f ∷ behind) ∙ ap (λ l. fresh_names columns before ++ (l ++ fresh_names columns behind)) own in
      ap (λ l. has_column (columns ++ l) f.name.items) split
      ∙ has_behind columns (fresh_names columns before ++ (f.name ∷ fresh_names columns behind)) f.name.items
      (has_behind (fresh_names columns before) (f.name ∷ fresh_names columns behind) f.name.items
      (ap (λ b. b || has_column (fresh_names columns behind) f.name.items) ((bytes_eq-Decides f.name.items f.name.items).1 refl)))

-- the law: which columns a text adds
pub texts_add_columns : TextsAddColumns
texts_add_columns text deadline chained all is =
    let are : all.columns ≡ new_columns (described_of is.said) = is.columns_are ∙ ap new_columns is.described_are in
    record {
      few = few_columns text deadline chained all is;
      new = subst (λ (cs : List (ArrayVec ℕ)). AllByRecursion IsNew cs) (sym are) (columns_are_new [] (described_of is.said) tt);
      each = λ front later d at before behind field among new.
          let split : described_of is.said ≡ described_of front ++ d ∷ described_of later = ap described_of at ∙ flat_map-append described_at front (says.Describing d ∷ later) in
          let columns = new_columns (described_of front) in
          ap (λ cs. has_column cs field.name.items) (are ∙ ap new_columns split ∙ columns_of_both [] (described_of front) (d ∷ described_of later))
          ∙ columns_stay (columns ++ fresh_names columns d.values.items) (described_of later) field.name.items
          (subst (λ (fs : List Field). has_column (columns ++ fresh_names columns fs) field.name.items ≡ true) (sym among) (field_is_there columns before behind field new));
    }

-- Descriptions.

-- the fields of a description's values have names, and may be the columns of one answer
abbrev pub HasSoundValues : Description → Type 0
HasSoundValues d = (are_columns (description_seen d).values ≡ true) × HaveNames (description_seen d).values

-- what holds of two lists of descriptions holds of both together
sound_both : (xs ys : List Description) → AllByRecursion HasSoundValues xs → AllByRecursion HasSoundValues ys → AllByRecursion HasSoundValues (xs ++ ys)
sound_both [] ys front back = back
sound_both (x ∷ xs) ys front back = (front.0, sound_both xs ys front.1 back)

-- the description that a line gives has sound values
sound_line : (line : List ℕ) (said : TaskLine) → IsTaskLine line said → AllByRecursion HasSoundValues (described_at said)
sound_line line (says.Describing d) is = ((is.is.columns, is.is.values_are.named), tt)
sound_line line _ is = tt

-- so have those of all lines
sound_lines : (lines : List (List ℕ)) (said : List TaskLine) → AreLinesOf IsTaskLine lines said → AllByRecursion HasSoundValues (described_of said)
sound_lines [] [] are = tt
sound_lines [] (s ∷ said) are = absurd are
sound_lines (line ∷ lines) [] are = absurd are
sound_lines (line ∷ lines) (s ∷ said) are = sound_both (described_at s) (described_of said) (sound_line line s are.0) (sound_lines lines said are.1)

-- and those of a text
pub descriptions_sound : (text : List ℕ) (deadline : ℕ) (chained : Bool) (all : TasksSeen) → IsTasks text deadline chained all
    → AllByRecursion HasSoundValues all.described
descriptions_sound text deadline chained all is = subst (AllByRecursion HasSoundValues) (sym is.described_are) (sound_lines _ is.said is.lines.forms)
