-- What the cells of a record hold can be written and read back, where its numbers have at most 64 bits, and its texts are of bytes.
use Rattle.gc_rows.proofs.Common.{◌≡◌, ◌<◌, ◌^◌, ◌%◌, ◌==◌, ◌++◌, ◌∷◌, [], ℕ, ◌+◌, List, Bool, true, Option, Some, None, IfSome, drop, get_or, length, inl, inr, refl, subst, sym, arith, nat_lt, not, ◌&&◌, AllByRecursion, cond_both, answer_fields, Answer, Nothing, Short, Version, Long, Name, Date, Temperature, Place, Height, Angles, Measured, MeasuredMode, Asked, Table, Raw, all_append, IsItem, quotes, value_fault_number, ValueFault, Spelling, Range, OpenQuote, TooMany, Count, Kind, Value, IsSmallNumber, item_is_value, before, behind, DescriptionSeen, judgement_word, End, Answered, Unreadable, Judged, Late, Lost, Skipped, NoValue, Missed, word_of, fault_of, line_of, quality_of, quality_text, FieldSeen, KindsSeen, AreBytes, IsOfBytes, bytes_by_recursion, bytes_by_places, Blank, Bytes, Cell, Code, Content, Items, Moment, Quantity, Whole, Entry, answer_of, bytes_content, cells_after_run, cells_from, cells_if, cells_in, counted_answer, fault_content, first_columns, items_column, items_if_any, last_columns, line_content, line_sent, moment_content, quantity_cells, split_content, value_cells, answer_kinds, cells_of_values, field_cells, field_cells_if, items_if, items_of, IsReplyOfBytes, IsAnswerOfBytes, IsEndOfBytes, FitsIn64Bits, column_of, items_as, suits_count, values_of_items, values_read, values_with, com_of, code_of, values_of, procedure_of, request_sent}
use Rattle.gc_catalogue.proofs.RequestBytes.{request_lines_are_of_bytes}
use Rattle.gc_catalogue.proofs.Table.{number_fits}
use Rattle.gc_texts.proofs.Judgements.{of_each}
use Rattle.gc_texts.specs.declared.quality.Quality.{Quality}
use Rattle.gc_texts.specs.declared.quality.Quality.TheVariants.{Fine, Warning, Unconfirmed, Refused}
use Rattle.gc_rows.proofs.Columns.{reply_columns}
use Rattle.gc_rows.proofs.Items.{AreTextsOfBytes, items_bytes}
use Rattle.gc_rows.proofs.PlainNames.{is_plain_name, plain_bytes}
use Rattle.gc_rows.proofs.ValueReading.{value_or_none}
use Rattle.gc_values.specs.declared.value.Value.TheVariants as value

-- what a value holds is below 256, if it is a byte, and so is each byte of a text; of any other value nothing is asked
abbrev pub HoldsBytes : Value → Type 0
HoldsBytes (value.Double d) = Unit {0}
HoldsBytes (value.Long z) = Unit {0}
HoldsBytes (value.Short z) = Unit {0}
HoldsBytes (value.Byte n) = n < 256
HoldsBytes (value.Bool b) = Unit {0}
HoldsBytes (value.Text bytes) = AreBytes bytes

-- what a cell holds can be written and read back: a moment and a whole number have at most 64 bits, a code is a number, and bytes are
-- below 256
abbrev pub IsFit : Content → Type 0
IsFit Blank = Unit {0}
IsFit (Bytes bytes) = AreBytes bytes
IsFit (Moment utc) = utc < 2 ^ 64
IsFit (Whole n) = n < 2 ^ 64
IsFit (Code digits) = (n : ℕ) × IsSmallNumber digits n
IsFit (Quantity v came) = HoldsBytes v × IsOfBytes came
IsFit (Items items) = AreTextsOfBytes items

-- each of these cells holds what is fit (`IsFit`)
abbrev pub AreFit : List Cell → Type 0
AreFit cells = AllByRecursion (λ c. IsFit c.content) cells

-- the values of an answer of bytes hold bytes
answer_holds_bytes : (answer : Answer) → IsAnswerOfBytes answer → AllByRecursion HoldsBytes (answer_fields answer).values
answer_holds_bytes Nothing is = tt
answer_holds_bytes (Short n) is = (tt, tt)
answer_holds_bytes (Version release version subversion) is = (tt, (tt, (tt, tt)))
answer_holds_bytes (Long n) is = (tt, tt)
answer_holds_bytes (Name name) is = (is.1, tt)
answer_holds_bytes (Date d) is = (tt, is.1)
answer_holds_bytes (Temperature t) is = (tt, tt)
answer_holds_bytes (Place s) is = (tt, (tt, (tt, (tt, tt))))
answer_holds_bytes (Height h) is = (tt, tt)
answer_holds_bytes (Angles hz v) is = (tt, (tt, tt))
answer_holds_bytes (Measured hz v distance) is = (tt, (tt, (tt, tt)))
answer_holds_bytes (MeasuredMode hz v distance mode) is = (tt, (tt, (tt, (tt, tt))))

-- what comes before the first mark in a text of bytes is of bytes
before_bytes : (mark : ℕ) (bs : List ℕ) → IsOfBytes bs → IsOfBytes (before mark bs)
before_bytes mark [] h = tt
before_bytes mark (b ∷ bs) h = cond_both (b == mark) [] (b ∷ before mark bs) IsOfBytes (λ _. tt) (λ _. (h.0, before_bytes mark bs h.1))

-- what comes after the first mark in a text of bytes is of bytes
behind_bytes : (mark : ℕ) (bs : List ℕ) → IsOfBytes bs → IsOfBytes (behind mark bs)
behind_bytes mark [] h = tt
behind_bytes mark (b ∷ bs) h = cond_both (b == mark) bs (behind mark bs) IsOfBytes (λ _. h.1) (λ _. behind_bytes mark bs h.1)

-- the values of a line of bytes are of bytes
values_bytes : (line : List ℕ) → AreBytes line → IsOfBytes (values_of line)
values_bytes line h = behind_bytes 44 (behind 58 (behind 44 line)) (behind_bytes 58 (behind 44 line) (behind_bytes 44 line (bytes_by_recursion line h)))

-- the number of a fault has at most 64 bits
fault_fits : (fault : ValueFault) → value_fault_number fault < 2 ^ 64
fault_fits Spelling = omega arith
fault_fits Range = omega arith
fault_fits OpenQuote = omega arith
fault_fits TooMany = omega arith
fault_fits Count = omega arith

-- the number of a procedure has 64 bits at most
procedure_fits : (asked : Asked) → procedure_of asked < 2 ^ 64
procedure_fits (Table call) = omega (arith, number_fits call)
procedure_fits (Raw raw) = omega (arith, raw.is.bound)

-- a moment is fit, if there is one
moment_fit : (moment : Option ℕ) → IfSome moment (λ utc. utc < 2 ^ 64) → IsFit (moment_content moment)
moment_fit None h = tt
moment_fit (Some utc) h = h

-- bytes are fit, if there are any
bytes_fit : (bytes : List ℕ) → AreBytes bytes → IsFit (bytes_content bytes)
bytes_fit [] h = tt
bytes_fit (b ∷ bs) h = h

-- a word that passes the test `is_plain_name` is of bytes
word_fit : (word : List ℕ) → is_plain_name word ≡ true → AreBytes word
word_fit word plain = bytes_by_places word (plain_bytes word plain)

-- the word of an ending passes the test `is_plain_name`
outcome_plain : (end : End) → is_plain_name (word_of end) ≡ true
outcome_plain (Answered quality answer line) = refl
outcome_plain (Unreadable line fault) = refl
outcome_plain (Judged judgement line) = of_each (λ j. is_plain_name (judgement_word j)) refl judgement
outcome_plain Late = refl
outcome_plain Lost = refl
outcome_plain Skipped = refl
outcome_plain NoValue = refl
outcome_plain Missed = refl

-- the word of a quality passes the test `is_plain_name`
quality_plain : (o : Option Quality) → is_plain_name (quality_text o) ≡ true
quality_plain (Some Fine) = refl
quality_plain (Some Warning) = refl
quality_plain (Some Unconfirmed) = refl
quality_plain (Some Refused) = refl
quality_plain None = refl

-- the number of a fault is fit, if there is a fault
fault_fit : (o : Option ValueFault) → IsFit (fault_content o)
fault_fit None = tt
fault_fit (Some fault) = fault_fits fault

-- the request line is of bytes, if one was sent
request_bytes : (sent : Option ℕ) (id : ℕ) (asked : Asked) → AreBytes (request_sent sent id asked)
request_bytes None id asked = bytes_by_places [] tt
request_bytes (Some utc) id asked = request_lines_are_of_bytes (Some (id % 8)) asked (omega arith)

-- what is cut from a reply's line is fit, if it is of each line of bytes
line_fit : (cut : List ℕ → Content) → ((line : List ℕ) → IsReplyOfBytes line → IsFit (cut line)) → (o : Option (List ℕ)) → IfSome o IsReplyOfBytes
    → IsFit (line_content cut o)
line_fit cut each None is = tt
line_fit cut each (Some line) is = each line is

-- the cells of values that hold bytes are fit, if their text as it came is of bytes
values_fit : (column : ℕ) (vs : List Value) (came : List ℕ) → AllByRecursion HoldsBytes vs → IsOfBytes came → AreFit (value_cells column vs came)
values_fit column [] came hold bytes = tt
values_fit column (v ∷ vs) came hold bytes = ((hold.0, before_bytes 44 came bytes), values_fit (column + 1) vs (behind 44 came) hold.1 (behind_bytes 44 came bytes))

-- the cells of values from a column on, if there is one, are fit, if the values hold bytes, and their text as it came is of bytes
from_fit : (column : Option ℕ) (vs : List Value) (came : List ℕ) → AllByRecursion HoldsBytes vs → IsOfBytes came → AreFit (cells_from column vs came)
from_fit (Some first) vs came hold bytes = values_fit first vs came hold bytes
from_fit None vs came hold bytes = tt

-- an answer that counts is of bytes, if the ending's answer is
counted_of_bytes : (end : End) → IfSome (answer_of end) IsAnswerOfBytes → IfSome (counted_answer end) IsAnswerOfBytes
counted_of_bytes (Answered Unconfirmed answer line) is = tt
counted_of_bytes (Answered Fine answer line) is = is
counted_of_bytes (Answered Warning answer line) is = is
counted_of_bytes (Answered Refused answer line) is = is
counted_of_bytes end is = tt

-- a part of a text of bytes is of bytes
part_bytes : (xs ys : List ℕ) → IsOfBytes (xs ++ ys) → IsOfBytes xs
part_bytes [] ys are = tt
part_bytes (x ∷ xs) ys are = (are.0, part_bytes xs ys are.1)

-- the value that an item of bytes is holds bytes
item_holds_bytes : (v : Value) (item : List ℕ) → IsItem item v → IsOfBytes item → HoldsBytes v
item_holds_bytes (value.Double d) item is are = tt
item_holds_bytes (value.Long z) item is are = tt
item_holds_bytes (value.Short z) item is are = tt
item_holds_bytes (value.Byte n) item is are = item_is_value (value.Byte n) item is
item_holds_bytes (value.Bool b) item is are = tt
item_holds_bytes (value.Text bytes) item is are = bytes_by_places bytes (part_bytes bytes (34 ∷ []) (subst IsOfBytes is.string.item_is are).1)

-- the values that items of bytes were read as, if they were, hold bytes
abbrev pub IfRead : List Kind → List (List ℕ) → Type 0
IfRead ks items = IfSome (items_as ks items) (λ vs. AllByRecursion HoldsBytes vs)

items_hold_bytes : (ks : List Kind) (items : List (List ℕ)) → AreTextsOfBytes items → IfRead ks items
items_hold_bytes [] items are = tt
items_hold_bytes (k ∷ ks) [] are = tt
items_hold_bytes (k ∷ ks) (item ∷ items) are = elim (value_or_none k item) [
  | inl none ↦ subst (λ o. IfSome (values_with o (items_as ks items)) (λ vs. AllByRecursion HoldsBytes vs)) (sym none) tt
  | inr f ↦ subst (λ o. IfSome (values_with o (items_as ks items)) (λ vs. AllByRecursion HoldsBytes vs)) (sym f.1)
      (with_others f.0 (item_holds_bytes f.0 item f.2.is_item are.0) (items_as ks items) (items_hold_bytes ks items are.1))
] where
  -- a value that holds bytes, and others that do, if there are others
  with_others : (v : Value) → HoldsBytes v → (others : Option (List Value)) → IfSome others (λ vs. AllByRecursion HoldsBytes vs)
      → IfSome (values_with (Some v) others) (λ vs. AllByRecursion HoldsBytes vs)
  with_others v holds (Some vs) hold = (holds, hold)
  with_others v holds None hold = tt

-- so do those of parameters of bytes
params_hold_bytes : (kinds : KindsSeen) (params : List ℕ) → IsOfBytes params → IfSome (values_read kinds params) (λ vs. AllByRecursion HoldsBytes vs)
params_hold_bytes kinds params are = split_hold (quotes params % 2 == 0) (items_of params) (items_bytes params are) where
  -- so do those of these items
  split_hold : (paired : Bool) (items : List (List ℕ)) → AreTextsOfBytes items
      → IfSome (values_of_items kinds (items_if paired items)) (λ vs. AllByRecursion HoldsBytes vs)
  split_hold paired items are =
      cond_both (paired && not (nat_lt 16 (length items))) (Some items) None (λ o. IfSome (values_of_items kinds o) (λ vs. AllByRecursion HoldsBytes vs))
      (λ _. cond_both (suits_count kinds.more (length items) (length kinds.kinds)) (items_as kinds.kinds items) None (λ o. IfSome o (λ vs. AllByRecursion HoldsBytes vs))
      (λ _. items_hold_bytes kinds.kinds items are) (λ _. tt)) (λ _. tt)

-- the first of some texts of bytes is of bytes, and so are the others
first_bytes : (texts : List (List ℕ)) → AreTextsOfBytes texts → IsOfBytes (get_or texts 0 []) × AreTextsOfBytes (drop 1 texts)
first_bytes [] are = (tt, tt)
first_bytes (t ∷ ts) are = (are.0, are.1)

-- the cells of values that hold bytes are fit, if they came as texts of bytes
fields_fit : (fields : List FieldSeen) (vs : List Value) (items : List (List ℕ)) → AllByRecursion HoldsBytes vs → AreTextsOfBytes items
    → AreFit (field_cells fields vs items)
fields_fit [] vs items hold are = tt
fields_fit (f ∷ fs) [] items hold are = tt
fields_fit (f ∷ fs) (v ∷ vs) items hold are = ((hold.0, (first_bytes items are).0), fields_fit fs vs (drop 1 items) hold.1 (first_bytes items are).1)

-- so are those of values that were read, if they were
read_fit : (fields : List FieldSeen) (vs : Option (List Value)) (items : List (List ℕ)) → IfSome vs (λ vs. AllByRecursion HoldsBytes vs) → AreTextsOfBytes items
    → AreFit (field_cells_if fields vs items)
read_fit fields (Some vs) items hold are = fields_fit fields vs items hold are
read_fit fields None items hold are = tt

-- so are those of an answer to a procedure that isn't in the table
raw_fit : (described : Option DescriptionSeen) (values : List ℕ) → IsOfBytes values → AreFit (cells_of_values described values)
raw_fit None values are = tt
raw_fit (Some d) values are = read_fit d.values (values_read (answer_kinds d) values) (items_of values) (params_hold_bytes (answer_kinds d) values are) (items_bytes values are)

-- the cells of an answer are fit, if it and its line are of bytes
answer_fit : (asked : Asked) (described : Option DescriptionSeen) (answer : Option Answer) (line : Option (List ℕ)) → IfSome line IsReplyOfBytes → IfSome answer IsAnswerOfBytes
    → AreFit (cells_if asked described answer line)
answer_fit (Table call) described (Some answer) (Some line) reply is =
    from_fit (column_of call answer) (answer_fields answer).values (values_of line) (answer_holds_bytes answer is) (values_bytes line reply.2)
answer_fit (Raw raw) described (Some answer) (Some line) reply is = raw_fit described (values_of line) (values_bytes line reply.2)
answer_fit asked described (Some answer) None reply is = tt
answer_fit asked described None line reply is = tt

-- the items of an answer are fit, if its line is of bytes
items_fit : (asked : Asked) (answer : Option Answer) (line : Option (List ℕ)) → IfSome line IsReplyOfBytes → IsFit (items_if_any asked answer line)
items_fit (Raw raw) (Some answer) (Some line) reply =
    let values = values_of line in
    fit_if (quotes values % 2 == 0) (items_of values) (items_bytes values (values_bytes line reply.2)) where
      -- these items are fit, if `items_if` gives them
      fit_if : (paired : Bool) (items : List (List ℕ)) → AreTextsOfBytes items → IsFit (split_content (items_if paired items))
      fit_if paired items are = cond_both (paired && not (nat_lt 16 (length items))) (Some items) None (λ o. IsFit (split_content o)) (λ _. are) (λ _. tt)
items_fit (Table call) (Some answer) (Some line) reply = tt
items_fit asked (Some answer) None reply = tt
items_fit asked None line reply = tt

-- the cells of an object after `run` are fit, where the record's numbers have at most 64 bits, and its texts are of bytes
pub each_fit : (r : Entry) → FitsIn64Bits r.when → AreBytes r.name → r.command.target < 2 ^ 64 → IsEndOfBytes r.end
    → AreFit (cells_after_run r)
each_fit r is bytes target ended =
    let cut : (cut : List ℕ → Content) → ((l : List ℕ) → IsReplyOfBytes l → IsFit (cut l)) → IsFit (line_content cut (line_of r.end)) =
    λ cut each. line_fit cut each (line_of r.end) ended.0 in
    let rc_com = cut (λ l. Code (com_of l)) (λ l reply. (reply.0.rc_com, (reply_columns l reply.0 reply.1).rc_com)) in
    let rc = cut (λ l. Code (code_of l)) (λ l reply. (reply.0.rc, (reply_columns l reply.0 reply.1).rc)) in
    let values = cut (λ l. Bytes (values_of l)) (λ l reply. bytes_by_places (values_of l) (values_bytes l reply.2)) in
    let sent = moment_fit r.when.stamp.sent is.sent in
    let name = bytes_fit r.name bytes in
    let procedure = procedure_fits r.command.call in
    let outcome = word_fit (word_of r.end) (outcome_plain r.end) in
    let fault = fault_fit (fault_of r.end) in
    let first : AreFit (cells_in first_columns r) =
    (sent, (is.utc, (is.cycle, (is.place, (target, (name, (procedure, (outcome, (fault, (rc_com, (rc, (values, tt)))))))))))) in
    let cells = quantity_cells r in
    let counted = counted_of_bytes r.end ended.1 in
    let quantities = answer_fit r.command.call r.described (counted_answer r.end) (line_of r.end) ended.0 counted in
    let word = quality_text (quality_of r.end) in
    let quality = bytes_fit word (word_fit word (quality_plain (quality_of r.end))) in
    let request = bytes_fit (line_sent r) (request_bytes r.when.stamp.sent r.when.stamp.id r.command.call) in
    let items = items_fit r.command.call (counted_answer r.end) (line_of r.end) ended.0 in
    let behind = cells_in (items_column ∷ last_columns) r in
    all_append (λ c. IsFit c.content) (cells_in first_columns r) (cells ++ behind) first
    (all_append (λ c. IsFit c.content) cells behind quantities (items, (quality, (is.attempt, (request, tt)))))
