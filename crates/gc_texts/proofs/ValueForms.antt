-- Items of parameters that stand for values of files: how many there are, and the request that they make with values.
use Rattle.gc_texts.proofs.Common.{◌≡◌, ◌≤◌, ◌<◌, ◌+◌, ◌++◌, ℕ, zero, suc, Bool, true, false, not, nat_le, ◌&&◌, IfSome, IfNone, Option, None, Some, List, [], ◌∷◌, length, filter, cond, nat_lt, unwrap_or, arith, refl, ap, sym, subst, ◌∙◌, append_assoc, append-nil, flat_map, list_any, none-some, same_Some, cons_tail, IsFileAt, has_path, is_foreign, joined, Cuts, Lacks, IsReadAs, IsNumber, and_parts, cond_both, not-true, or_parts, length-append, length-take-le, same_from_push, request_if, with_params, may_have, params_few, raw_bytes, RawCall, AreValueFiles, IsSoundItem, IsValueFile, filled, filled_call, has_quote, is_value_item, put_in, text_for, value_items, values_after, values_in, with_item, AddsFiles, NameFiles, ValueFile, pieces_of}
use Rattle.gc_values.specs.declared.file_value.TheConstants.{PATH_BYTES}
use Rattle.gc_texts.proofs.Cutting.{cut_once}
use Rattle.gc_texts.proofs.Procedures.{one_number}
use Rattle.gc_texts.proofs.WordLists.{pieces_few}

-- a request has at most 503 bytes of parameters
pub few_raw : (raw : RawCall) → length (raw_bytes raw.params) ≤ 503
few_raw raw =
    let long : length (raw_bytes raw.params) ≡ raw.params.len = length-take-le raw.params.len raw.params.bytes (omega (arith, raw.params.few, raw.params.long)) in
    omega (arith, long, raw.params.few)

-- there are at most as many items that stand for values as items
value_items_few : (items : List (List ℕ)) → length (filter is_value_item items) ≤ length items
value_items_few [] = omega arith
value_items_few (item ∷ items) =
    let few = value_items_few items in
    cond_both (is_value_item item) (item ∷ filter is_value_item items) (filter is_value_item items) (λ kept. length kept ≤ length (item ∷ items)) (λ _. omega (arith, few)) (λ _. omega (arith, few))

-- of at most 503 bytes of parameters at most 504 items stand for values
pub few_value_items : (params : List ℕ) → length params ≤ 503 → values_in params ≤ 504
few_value_items params short =
    let all = pieces_few 44 params in
    let few = value_items_few (pieces_of 44 params) in
    cond_both (has_quote params) 0 (length (value_items params)) (λ n. n ≤ 504) (λ _. omega arith) (λ _. omega (arith, all, few, short))

-- a request with values is for the same procedure
pub filled_keeps_number : (raw : RawCall) (values : List (List ℕ)) → (filled_call raw values).rpc ≡ raw.rpc
filled_keeps_number raw values = by_test (filled values (raw_bytes raw.params)) (may_have raw.rpc (filled values (raw_bytes raw.params))) refl where
  -- the lemma above, by whether it may be asked for so
  by_test : (params : List ℕ) (b : Bool) (e : may_have raw.rpc params ≡ b) → (unwrap_or (request_if raw params b e) raw).rpc ≡ raw.rpc
  by_test params true e = refl
  by_test params false e = refl

-- too many bytes of parameters may not be asked for
pub too_many : (raw : RawCall) (params : List ℕ) → 503 < length params → with_params raw params ≡ None
too_many raw params many = by_test (may_have raw.rpc params) refl where
  by_test : (b : Bool) (e : may_have raw.rpc params ≡ b) → request_if raw params b e ≡ None
  by_test true e = let few = params_few raw.rpc params raw.is.bound e in absurd (omega (arith, few, many))
  by_test false e = refl

-- The parts of `{FILE SECONDS}`.

-- a byte that may be in a path isn't a space
no_space : (b : ℕ) → is_foreign b ≡ false → b ≡ 32 → ⊥
no_space b may e = let bad : is_foreign 32 ≡ false = ap is_foreign (sym e) ∙ may in cc

-- a path has no space
lacks_space : (path : List ℕ) → list_any is_foreign path ≡ false → Lacks 32 path
lacks_space [] none = tt
lacks_space (b ∷ bs) none =
    let both = or_parts (is_foreign b) (list_any is_foreign bs) none in
    (no_space b both.0, lacks_space bs both.1)

path_lacks_space : (path : List ℕ) → has_path path ≡ true → Lacks 32 path
path_lacks_space path may =
    lacks_space path (not-true (list_any is_foreign path) (and_parts (nat_lt 0 (length path) && nat_le (length path) PATH_BYTES) (not (list_any is_foreign path)) may).1)

-- an item in braces that is cut at its first space is cut so into the parts of the file that it names
pub only_cut : (item inside path : List ℕ) (digits : Option (List ℕ)) → item ≡ 123 ∷ (inside ++ 125 ∷ []) → Cuts 32 inside path digits
    → (file : ValueFile) (is : IsValueFile item file) → (path ≡ is.path) × (digits ≡ Some is.digits)
only_cut item inside path digits braces cut file is =
    let same : inside ++ 125 ∷ [] ≡ (is.path ++ 32 ∷ is.digits) ++ 125 ∷ [] =
    cons_tail 123 123 (inside ++ 125 ∷ []) (is.path ++ 32 ∷ (is.digits ++ 125 ∷ [])) (sym braces ∙ is.item_is) ∙ sym (append_assoc is.path (32 ∷ is.digits) (125 ∷ [])) in
    let within : inside ≡ is.path ++ 32 ∷ is.digits = (same_from_push inside (is.path ++ 32 ∷ is.digits) 125 125 same).0 in
    cut_once 32 inside path is.path digits (Some is.digits) cut (within, path_lacks_space is.path is.is.may)

-- a file that is at the path of such an item, with the number behind it, is the one that the item names
pub names_file : (item inside path digits : List ℕ) (seconds : ℕ) (file : ValueFile) → item ≡ 123 ∷ (inside ++ 125 ∷ []) → Cuts 32 inside path (Some digits)
    → IsNumber digits seconds 86400 → (seconds ≡ 0 → ⊥) → IsFileAt path seconds file → IsValueFile item file
names_file item inside path digits seconds file braces cut number some at =
    record {
      path = path;
      digits = digits;
      item_is = braces ∙ ap (λ l. 123 ∷ (l ++ 125 ∷ [])) cut.0 ∙ ap (λ l. 123 ∷ l) (append_assoc path (32 ∷ digits) (125 ∷ []));
      number = subst (λ n. IsNumber digits n 86400) (sym at.seconds_are) number;
      some = above (file.seconds) (λ e. some (sym at.seconds_are ∙ e));
      is = subst (λ n. IsFileAt path n file) (sym at.seconds_are) at;
    } where
      above : (n : ℕ) → (n ≡ 0 → ⊥) → 1 ≤ n
      above zero none = absurd (none refl)
      above (suc n) none = omega arith

-- without a space it names none
pub no_cut : (item inside path : List ℕ) (digits : Option (List ℕ)) → item ≡ 123 ∷ (inside ++ 125 ∷ []) → Cuts 32 inside path digits → digits ≡ None
    → (file : ValueFile) → IsValueFile item file → ⊥
no_cut item inside path digits braces cut none file is = none-some is.digits (sym none ∙ (only_cut item inside path digits braces cut file is).1)

-- nor without a number
pub no_seconds : (item inside path digits : List ℕ) → item ≡ 123 ∷ (inside ++ 125 ∷ []) → Cuts 32 inside path (Some digits)
    → ((n : ℕ) → IsNumber digits n 86400 → ⊥) → (file : ValueFile) → IsValueFile item file → ⊥
no_seconds item inside path digits braces cut none file is =
    let same : digits ≡ is.digits = same_Some digits is.digits (only_cut item inside path (Some digits) braces cut file is).1 in
    none file.seconds (subst (λ ds. IsNumber ds file.seconds 86400) (sym same) is.number)

-- nor with another number of seconds, nor with none
pub its_seconds : (item inside path digits : List ℕ) (seconds : ℕ) → item ≡ 123 ∷ (inside ++ 125 ∷ []) → Cuts 32 inside path (Some digits)
    → IsNumber digits seconds 86400 → (file : ValueFile) → IsValueFile item file → seconds ≡ file.seconds
its_seconds item inside path digits seconds braces cut number file is =
    let same : digits ≡ is.digits = same_Some digits is.digits (only_cut item inside path (Some digits) braces cut file is).1 in
    one_number digits seconds file.seconds 86400 number (subst (λ ds. IsNumber ds file.seconds 86400) (sym same) is.number)

pub none_for_zero : (item inside path digits : List ℕ) (seconds : ℕ) → item ≡ 123 ∷ (inside ++ 125 ∷ []) → Cuts 32 inside path (Some digits)
    → IsNumber digits seconds 86400 → seconds ≡ 0 → (file : ValueFile) → IsValueFile item file → ⊥
none_for_zero item inside path digits seconds braces cut number zeroed file is =
    let same = its_seconds item inside path digits seconds braces cut number file is in absurd (omega (arith, same, zeroed, is.some))

-- nor where the path may be none
pub no_path : (item inside path digits : List ℕ) → item ≡ 123 ∷ (inside ++ 125 ∷ []) → Cuts 32 inside path (Some digits)
    → has_path path ≡ false → (file : ValueFile) → IsValueFile item file → ⊥
no_path item inside path digits braces cut none file is =
    let same = (only_cut item inside path (Some digits) braces cut file is).0 in
    let bad : true ≡ false = sym is.is.may ∙ ap has_path (sym same) ∙ none in cc

-- Items that are taken one after the other.

-- of these items some were taken, and `count` of these stand for values; `items` are left
pub record CountsValues (all : List (List ℕ)) (count : ℕ) (items : List (List ℕ)) : Type 0 where
  pub values : length (filter is_value_item all) ≡ count + length (filter is_value_item items)
  pub few : count + length items ≤ 504

-- at first none was taken
pub no_value_counted : (params : List ℕ) (items : List (List ℕ)) → items ≡ pieces_of 44 params → length params ≤ 503 → CountsValues (pieces_of 44 params) 0 items
no_value_counted params items are short =
    let few = pieces_few 44 params in
    let all = ap length are in
    record { values = sym (ap (λ l. length (filter is_value_item l)) are) ∙ omega arith; few = omega (arith, few, all, short) }

-- the items that are left stand for values as `left` says, with the first among them
left_with_first : (old items : List (List ℕ)) (item : List ℕ) → old ≡ item ∷ items
    → filter is_value_item old ≡ cond (is_value_item item) (item ∷ filter is_value_item items) (filter is_value_item items)
left_with_first old items item taken = ap (filter is_value_item) taken

-- the first of these is one that stands for a value
pub value_first : (old items : List (List ℕ)) (item : List ℕ) → old ≡ item ∷ items → is_value_item item ≡ true
    → filter is_value_item old ≡ item ∷ filter is_value_item items
value_first old items item taken is =
    left_with_first old items item taken ∙ ap (λ b. cond b (item ∷ filter is_value_item items) (filter is_value_item items)) is

-- or it isn't
pub value_later : (old items : List (List ℕ)) (item : List ℕ) → old ≡ item ∷ items → is_value_item item ≡ false
    → filter is_value_item old ≡ filter is_value_item items
value_later old items item taken isnt =
    left_with_first old items item taken ∙ ap (λ b. cond b (item ∷ filter is_value_item items) (filter is_value_item items)) isnt

-- one more stands for a value, or it doesn't
module _ (all : List (List ℕ)) (count : ℕ) (old : List (List ℕ)) (item : List ℕ) (items : List (List ℕ)) (so : CountsValues all count old) (taken : old ≡ item ∷ items) where
  pub one_value_more : is_value_item item ≡ true → CountsValues all (count + 1) items
  one_value_more is =
      let left = ap length (value_first old items item taken is) in
      let many = ap length taken in
      record { values = omega (arith, so.values, left); few = omega (arith, so.few, many) }

  pub no_value_more : is_value_item item ≡ false → CountsValues all count items
  no_value_more isnt =
      let left = ap length (value_later old items item taken isnt) in
      let many = ap length taken in
      record { values = omega (arith, so.values, left); few = omega (arith, so.few, many) }

-- Whether each has its form.

-- where the first is of its form, the others are exactly if all are
pub others_sound : (items : List (List ℕ)) (item : List ℕ) → IsSoundItem item → AreValueFiles (filter is_value_item items)
    → AreValueFiles (filter is_value_item (item ∷ items))
others_sound items item sound are = by_test (is_value_item item) sound where
  by_test : (b : Bool) → (b ≡ true → (file : ValueFile) × IsValueFile item file) → AreValueFiles (cond b (item ∷ filter is_value_item items) (filter is_value_item items))
  by_test true is = (is refl, are)
  by_test false is = are

-- all are only if the first is
pub first_sound : (items : List (List ℕ)) (item : List ℕ) → AreValueFiles (filter is_value_item (item ∷ items)) → IsSoundItem item
first_sound items item are is =
    let all : AreValueFiles (item ∷ filter is_value_item items) = subst (λ b. AreValueFiles (cond b (item ∷ filter is_value_item items) (filter is_value_item items))) is are in
    all.0

pub later_sound : (items : List (List ℕ)) (item : List ℕ) → AreValueFiles (filter is_value_item (item ∷ items)) → AreValueFiles (filter is_value_item items)
later_sound items item are = by_test (is_value_item item) are where
  by_test : (b : Bool) → AreValueFiles (cond b (item ∷ filter is_value_item items) (filter is_value_item items)) → AreValueFiles (filter is_value_item items)
  by_test true all = all.1
  by_test false all = all

-- Items that are put in.

-- these texts, each behind a comma
abbrev pub behind_commas : List (List ℕ) → List ℕ
behind_commas texts = flat_map (λ u. 44 ∷ u) texts

-- the items that were taken make `full`, with these values; `left` of the values and `items` are left
abbrev pub FillsSoFar : (all values : List (List ℕ)) (full : List ℕ) (left items : List (List ℕ)) (begun : Bool) → Type 0
FillsSoFar all values full left items true = joined (put_in values all) ≡ full ++ behind_commas (put_in left items)
FillsSoFar all values full left items false = (full ≡ []) × (left ≡ values) × (items ≡ all)

-- one more item
pub one_item_more : (all values : List (List ℕ)) (full : List ℕ) (left old items : List (List ℕ)) (item : List ℕ) (begun : Bool) → FillsSoFar all values full left old begun
    → old ≡ item ∷ items → FillsSoFar all values (with_item begun full (text_for left item)) (values_after left item) items true
one_item_more all values full left old items item true so taken =
    so ∙ ap (λ l. full ++ behind_commas (put_in left l)) taken
    ∙ sym (append_assoc full (44 ∷ []) (text_for left item ++ behind_commas (put_in (values_after left item) items)))
    ∙ sym (append_assoc (full ++ 44 ∷ []) (text_for left item) (behind_commas (put_in (values_after left item) items)))
one_item_more all values full left old items item false so taken =
    ap (λ l. joined (put_in values l)) (sym so.2 ∙ taken)
    ∙ ap (λ vs. text_for vs item ++ behind_commas (put_in (values_after vs item) items)) (sym so.1)
    ∙ ap (λ l. (l ++ text_for left item) ++ behind_commas (put_in (values_after left item) items)) (sym so.0)

-- no item is left
pub all_put : (all values : List (List ℕ)) (full : List ℕ) (left items : List (List ℕ)) (begun : Bool) → FillsSoFar all values full left items begun
    → items ≡ [] → full ≡ joined (put_in values all)
all_put all values full left items true so none = sym (so ∙ ap (λ l. full ++ behind_commas (put_in left l)) none ∙ append-nil full)
all_put all values full left items false so none = so.0 ∙ ap (λ l. joined (put_in values l)) (sym none ∙ so.2)

-- if there is no room for one more, there is none for all
pub no_room : (all values : List (List ℕ)) (full : List ℕ) (left old items : List (List ℕ)) (item : List ℕ) (begun : Bool) → FillsSoFar all values full left old begun
    → old ≡ item ∷ items → 503 < length (with_item begun full (text_for left item)) → 503 < length (joined (put_in values all))
no_room all values full left old items item begun so taken many =
    let whole = ap length (one_item_more all values full left old items item begun so taken) in
    let sum = length-append (with_item begun full (text_for left item)) (behind_commas (put_in (values_after left item) items)) in
    omega (arith, many, whole, sum)

-- Files that are appended.

-- the files of the items that were taken were appended to `old`; `left` are left
pub record FilesFor (old now more : List ValueFile) (left : List (List ℕ)) (all : List (List ℕ)) : Type 0 where
  pub done : List ValueFile
  pub rest : List ValueFile
  pub is : now ≡ old ++ done
  pub many : length more ≡ length done + length rest
  pub names : NameFiles left rest
  pub whole : (last : List ValueFile) → NameFiles left last → NameFiles all (done ++ last)

-- so it is for all files that the items name, if there is room for them
abbrev pub FilesAdded : (all : List (List ℕ)) (old now : List ValueFile) (left : List (List ℕ)) → Type 0
FilesAdded all old now left = (more : List ValueFile) → NameFiles all more → length (old ++ more) ≤ 16 → FilesFor old now more left all

-- at first none was appended
pub no_file_added : (all : List (List ℕ)) (old : List ValueFile) → FilesAdded all old old all
no_file_added all old more names room =
    record { done = []; rest = more; is = sym (append-nil old); many = omega arith; names = names; whole = λ last is. is }

-- one more is
pub one_file_added : (all : List (List ℕ)) (old now : List ValueFile) (left items : List (List ℕ)) (item : List ℕ) (file : ValueFile)
    → FilesAdded all old now left → left ≡ item ∷ items → IsValueFile item file → FilesAdded all old (now ++ file ∷ []) items
one_file_added all old now left items item file so taken is more names room = added (so more names room) where
  -- the next of the files that the items name is of the item
  by_rest : (before : FilesFor old now more left all) (rest : List ValueFile) → length more ≡ length before.done + length rest → NameFiles (item ∷ items) rest
      → FilesFor old (now ++ file ∷ []) more items all
  by_rest before [] many none = absurd none
  by_rest before (f ∷ rest) many named =
      let long = length-append before.done (file ∷ []) in
      record {
        done = before.done ++ file ∷ [];
        rest = rest;
        is = ap (λ l. l ++ file ∷ []) before.is ∙ append_assoc old before.done (file ∷ []);
        many = omega (arith, many, long);
        names = named.1;
        whole = λ last are. subst (λ l. NameFiles all l) (sym (append_assoc before.done (file ∷ []) last))
            (before.whole (file ∷ last) (subst (λ l. NameFiles l (file ∷ last)) (sym taken) (is, are)));
      }

  added : FilesFor old now more left all → FilesFor old (now ++ file ∷ []) more items all
  added before = by_rest before before.rest before.many (subst (λ l. NameFiles l before.rest) taken before.names)

-- without an item that is left all are appended
pub all_files_added : (params : List ℕ) (old now : List ValueFile) (left : List (List ℕ)) → FilesAdded (value_items params) old now left → left ≡ [] → AddsFiles params old now
all_files_added params old now left so none more names room =
    let all = so more names room in
    (all.done ++ [], all.whole [] (subst (λ l. NameFiles l []) (sym none) tt), all.is ∙ ap (λ l. old ++ l) (sym (append-nil all.done)))

-- an item without the form of one names no file, so that nothing is said
pub no_file_named : (params : List ℕ) (old now : List ValueFile) (left items : List (List ℕ)) (item : List ℕ) → FilesAdded (value_items params) old now left → left ≡ item ∷ items
    → ((file : ValueFile) → IsValueFile item file → ⊥) → AddsFiles params old now
no_file_named params old now left items item so taken none more names room =
    let all = so more names room in
    absurd (by_rest all.rest (subst (λ l. NameFiles l all.rest) taken all.names)) where
      by_rest : (rest : List ValueFile) → NameFiles (item ∷ items) rest → ⊥
      by_rest [] named = named
      by_rest (f ∷ rest) named = none f named.0

-- nor where there is no room
pub no_room_for_file : (params : List ℕ) (old now : List ValueFile) (left items : List (List ℕ)) (item : List ℕ) → FilesAdded (value_items params) old now left → left ≡ item ∷ items
    → length now ≡ 16 → AddsFiles params old now
no_room_for_file params old now left items item so taken full more names room =
    let all = so more names room in
    absurd (by_rest all all.rest all.many (subst (λ l. NameFiles l all.rest) taken all.names)) where
      by_rest : (all : FilesFor old now more left (value_items params)) (rest : List ValueFile) → length more ≡ length all.done + length rest → NameFiles (item ∷ items) rest → ⊥
      by_rest all [] many named = named
      by_rest all (f ∷ rest) many named =
          let now_is = ap length all.is in
          let one = length-append old all.done in
          let other = length-append old more in
          omega (arith, now_is, one, other, many, full, room)

-- what is made of the parts of an item is the file that it names, or it names none
pub names_file_or_none : (item inside path digits : List ℕ) (seconds : ℕ) (o : Option ValueFile) → item ≡ 123 ∷ (inside ++ 125 ∷ []) → Cuts 32 inside path (Some digits)
    → IsNumber digits seconds 86400 → (seconds ≡ 0 → ⊥) → IfSome o (λ file. IsFileAt path seconds file) → IfNone o (has_path path ≡ false) → IsReadAs (IsValueFile item) o
names_file_or_none item inside path digits seconds (Some file) braces cut number some found none = names_file item inside path digits seconds file braces cut number some found
names_file_or_none item inside path digits seconds None braces cut number some found none = no_path item inside path digits braces cut none
