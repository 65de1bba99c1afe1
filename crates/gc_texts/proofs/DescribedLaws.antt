-- Descriptions read back, and parameters of described procedures are checked as those of the table's.
use Rattle.gc_texts.proofs.Common.{◌≡◌, ℕ, Bool, true, false, ◌&&◌, nat_lt, List, [], ◌∷◌, ◌++◌, length, map, arith, refl, ap, subst, sym, ◌∙◌, codes, AllByRecursion, list_all, and_parts, AreItems, AreParams, IsListFault, kinds_of, ValueFault, Kind, Value, Lacks, cons_head, cons_tail, DescriptionSeen, description_seen, last_word, FieldSeen, HaveNames, field_seen, field_words, is_field_name, is_name_byte, is_small_letter, kind_word, AreOfKinds, BeginAs, IsKindsFault, IsRpc, words_of, Description, Field, Arrow}
use Rattle.gc_texts.specs.DescribedLaws.{AreCheckedAsTheTables, ColumnExamples, DescriptionsReadBack, OneDescription, closed_kinds, spaced}
use Rattle.gc_texts.proofs.Cutting.{digits_lack_spaces, lacks_by_test}
use Rattle.gc_texts.proofs.DescriptionForms.{end_of, end_words}
use Rattle.gc_texts.proofs.FieldForms.{same_fields}
use Rattle.gc_texts.proofs.Procedures.{one_number}
use Rattle.gc_texts.proofs.WordLists.{words_behind, words_lacking}
use Rattle.gc_values.specs.Lists as lists
use Rattle.gc_values.specs.declared.value.Kind.TheVariants as kind
use Rattle.gc_texts.specs.KindLists as lists_of_kinds

-- As the table's.

-- where the parameters of kinds have a fault, and no more items may follow, it is that of a list of these kinds
as_the_tables_fault : (ks : List Kind) (params : List ℕ) (e : ValueFault) → IsKindsFault (closed_kinds ks) params e → IsListFault ks params e
as_the_tables_fault ks params e (lists_of_kinds.open_quote is has) = lists.open_quote is has
as_the_tables_fault ks params e (lists_of_kinds.too_many is (items, are, many)) = lists.faulty_items items are (lists.too_many is many)
as_the_tables_fault ks params e (lists_of_kinds.faulty_items items are few (lists_of_kinds.wrong_count is other)) = lists.faulty_items items are (lists.wrong_count is few other)
as_the_tables_fault ks params e (lists_of_kinds.faulty_items items are few (lists_of_kinds.faulty_item suits first)) = lists.faulty_items items are (lists.faulty_item few suits first)

-- where there are as many items as kinds, all items are read as the values of the kinds
all_as : (ks : List Kind) (items : List (List ℕ)) (vs : List Value) → length items ≡ length ks → BeginAs ks items vs → AreItems items vs × (kinds_of vs ≡ ks)
all_as [] [] [] same are = (tt, refl)
all_as [] (item ∷ items) [] same are = absurd (omega (arith, same))
all_as [] items (v ∷ vs) same are = absurd are
all_as (k ∷ ks) items [] same are = absurd are
all_as (k ∷ ks) [] (v ∷ vs) same are = absurd are
all_as (k ∷ ks) (item ∷ items) (v ∷ vs) same (is_kind, is, are) =
    let fewer : length items ≡ length ks = omega (arith, same) in
    let more = all_as ks items vs fewer are in
    ((is, more.0), ap (λ x. x ∷ kinds_of vs) is_kind ∙ ap (λ l. k ∷ l) more.1)

pub checked_as_the_tables : AreCheckedAsTheTables
checked_as_the_tables =
    record {
      faults = as_the_tables_fault;
      values = λ ks params vs are.
          let read = all_as ks are.items vs are.have.count are.have.read in
          (record { items = are.items; split = are.split; read = read.0 }, read.1);
    }

-- Reading back.

-- no word has a space
abbrev LackSpaces : List (List ℕ) → Type 0
LackSpaces words = AllByRecursion (Lacks 32) words

-- words without spaces, with one space between two, are read as these words
words_spaced : (word : List ℕ) (words : List (List ℕ)) → Lacks 32 word → LackSpaces words → words_of (spaced (word ∷ words)) ≡ word ∷ words
words_spaced word [] lacks others = words_lacking 32 word lacks
words_spaced word (next ∷ words) lacks others = words_behind 32 word (spaced (next ∷ words)) lacks ∙ ap (λ l. word ∷ l) (words_spaced next words others.0 others.1)

-- the bytes of names are no spaces
name_bytes_lack : (bs : List ℕ) → list_all is_name_byte bs ≡ true → Lacks 32 bs
name_bytes_lack [] all = tt
name_bytes_lack (b ∷ bs) all =
    let parts = and_parts (is_name_byte b) (list_all is_name_byte bs) all in
    ((λ e. let both : true ≡ false = sym parts.0 ∙ ap is_name_byte e in cc), name_bytes_lack bs parts.1)

name_lacks : (name : List ℕ) → is_field_name name ≡ true → Lacks 32 name
name_lacks [] named = tt
name_lacks (b ∷ bs) named =
    let parts = and_parts (is_small_letter b && nat_lt (length bs) 32) (list_all is_name_byte bs) named in
    let first = and_parts (is_small_letter b) (nat_lt (length bs) 32) parts.0 in
    ((λ e. let both : true ≡ false = sym first.0 ∙ ap is_small_letter e in cc), name_bytes_lack bs parts.1)

-- the word of a kind has no space
kind_lacks : (k : Kind) → Lacks 32 (kind_word k)
kind_lacks kind.Double = lacks_by_test 32 (kind_word kind.Double) refl
kind_lacks kind.Long = lacks_by_test 32 (kind_word kind.Long) refl
kind_lacks kind.Short = lacks_by_test 32 (kind_word kind.Short) refl
kind_lacks kind.Byte = lacks_by_test 32 (kind_word kind.Byte) refl
kind_lacks kind.Bool = lacks_by_test 32 (kind_word kind.Bool) refl
kind_lacks kind.Text = lacks_by_test 32 (kind_word kind.Text) refl

-- the words of fields have no spaces, if those behind them have none
fields_lack : (fields : List FieldSeen) (rest : List (List ℕ)) → HaveNames fields → LackSpaces rest → LackSpaces (field_words fields ++ rest)
fields_lack [] rest named lack = lack
fields_lack (f ∷ fs) rest named lack = (name_lacks f.name named.0, (kind_lacks f.kind, fields_lack fs rest named.1 lack))

last_lacks : (more : Bool) → LackSpaces (last_word more)
last_lacks true = (lacks_by_test 32 (codes "..") refl, tt)
last_lacks false = tt

pub descriptions_read_back : DescriptionsReadBack
descriptions_read_back number d is allowed =
    let values_lack : LackSpaces (field_words d.values ++ last_word d.more) = fields_lack d.values (last_word d.more) allowed.values_are.named (last_lacks d.more) in
    let arrow_lacks : LackSpaces (codes "->" ∷ (field_words d.values ++ last_word d.more)) = (lacks_by_test 32 (codes "->") refl, values_lack) in
    record {
      number = number;
      words_are = words_spaced number (field_words d.params ++ codes "->" ∷ (field_words d.values ++ last_word d.more)) (digits_lack_spaces number is.names.digits)
          (fields_lack d.params (codes "->" ∷ (field_words d.values ++ last_word d.more)) allowed.params_are.named arrow_lacks);
      number_is = is;
      outside = allowed.outside;
      params_are = allowed.params_are;
      values_are = allowed.values_are;
      columns = allowed.columns;
    }

-- One reading.

-- a last word shows whether further values may follow
one_last_word : (one other : Bool) → last_word one ≡ last_word other → one ≡ other
one_last_word true true e = refl
one_last_word true false e = cc
one_last_word false true e = cc
one_last_word false false e = refl

same_description : (a b : DescriptionSeen) → a.rpc ≡ b.rpc → a.params ≡ b.params → a.values ≡ b.values → a.more ≡ b.more → a ≡ b
same_description a b rpcs params values mores = λ i. record { rpc = rpcs i; params = params i; values = values i; more = mores i }

pub one_description : OneDescription
one_description text a b x y =
    let both : x.number ∷ (field_words a.params ++ codes "->" ∷ (field_words a.values ++ last_word a.more))
    ≡ y.number ∷ (field_words b.params ++ codes "->" ∷ (field_words b.values ++ last_word b.more)) = sym x.words_are ∙ y.words_are in
    let numbers : x.number ≡ y.number = cc in
    let others : field_words a.params ++ codes "->" ∷ (field_words a.values ++ last_word a.more) ≡ field_words b.params ++ codes "->" ∷ (field_words b.values ++ last_word b.more) = cc in
    let params = same_fields a.params b.params Arrow Arrow (field_words a.values ++ last_word a.more) (field_words b.values ++ last_word b.more) x.params_are.named y.params_are.named others in
    let behind_arrows : codes "->" ∷ (field_words a.values ++ last_word a.more) ≡ codes "->" ∷ (field_words b.values ++ last_word b.more) = params.1 in
    let ends : field_words a.values ++ last_word a.more ≡ field_words b.values ++ last_word b.more = cc in
    let values = same_fields a.values b.values (end_of a.more) (end_of b.more) [] [] x.values_are.named y.values_are.named
    (ap (λ l. field_words a.values ++ l) (end_words a.more) ∙ ends ∙ ap (λ l. field_words b.values ++ l) (sym (end_words b.more))) in
    let mores : a.more ≡ b.more = one_last_word a.more b.more (sym (end_words a.more) ∙ values.1 ∙ end_words b.more) in
    let rpcs : a.rpc ≡ b.rpc = one_number y.number a.rpc b.rpc 65535 (subst (λ (w : List ℕ). IsRpc w a.rpc) numbers x.number_is) y.number_is in
    same_description a b rpcs params.0 values.0 mores

-- what is seen of a description shows all of it
same_field : (f g : Field) → field_seen f ≡ field_seen g → f ≡ g
same_field f g e =
    let names : f.name.items ≡ g.name.items = ap (λ (s : FieldSeen). s.name) e in
    let kinds : f.kind ≡ g.kind = ap (λ (s : FieldSeen). s.kind) e in
    λ i. record { name = record { items = names i }; kind = kinds i }

same_field_lists : (fs gs : List Field) → map field_seen fs ≡ map field_seen gs → fs ≡ gs
same_field_lists [] [] e = refl
same_field_lists [] (g ∷ gs) e = absurd (cc)
same_field_lists (f ∷ fs) [] e = absurd (cc)
same_field_lists (f ∷ fs) (g ∷ gs) e =
    let first = same_field f g (cons_head (field_seen f) (field_seen g) (map field_seen fs) (map field_seen gs) e) in
    let others = same_field_lists fs gs (cons_tail (field_seen f) (field_seen g) (map field_seen fs) (map field_seen gs) e) in
    ap (λ h. h ∷ fs) first ∙ ap (λ hs. g ∷ hs) others

pub same_described : (d e : Description) → description_seen d ≡ description_seen e → d ≡ e
same_described d e same =
    let rpcs : d.rpc ≡ e.rpc = ap (λ (s : DescriptionSeen). s.rpc) same in
    let params : d.params.items ≡ e.params.items = same_field_lists d.params.items e.params.items (ap (λ (s : DescriptionSeen). s.params) same) in
    let values : d.values.items ≡ e.values.items = same_field_lists d.values.items e.values.items (ap (λ (s : DescriptionSeen). s.values) same) in
    let mores : d.more ≡ e.more = ap (λ (s : DescriptionSeen). s.more) same in
    λ i. record { rpc = rpcs i; params = record { items = params i }; values = record { items = values i }; more = mores i }

-- Worked examples.

pub column_examples : ColumnExamples
column_examples =
    record {
      new_name = refl;
      capital = refl;
      digit_first = refl;
      no_name = refl;
      known = refl;
      known_as_another_kind = refl;
      new = refl;
      of_the_row = refl;
      name_of_json = refl;
      twice = refl;
      words = refl;
    }
