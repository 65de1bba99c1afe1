-- A line of JSON has no line feed within.
use Rattle.gc_program_theorems.proofs.Common.{◌≡◌, ◌≢◌, ℕ, ◌+◌, ◌/◌, ◌%◌, Bool, true, false, List, [], ◌∷◌, ◌++◌, subst, arith, codes, nat_lt, AllByRecursion, flat_map, cond_both, Lacks, escape, escaped, hex_digit, is_unescaped, stamp_text, Blank, Bytes, Cell, Code, Content, Items, Moment, Quantity, Whole, members_in, members_of, Member, Text, Number, Texts, behind_backslash, comma_where, list_text, member_text, members_text, string_text, strings_text, without_zeros, ArePlainMembers, IsPlainName, AreFit, IsFit, lacks_both}
use Rattle.std.proofs.Common.{◌==◌, ◌||◌}
use Rattle.gc_station.proofs.Lists.{all_append}
use Rattle.gc_rows.proofs.Plain.{NeedsNoEscape, boolean_plain, decimal_plain, double_plain, number_plain, signed_plain, zeros_gone}
use Rattle.gc_values.specs.declared.value.Value.TheVariants as value

-- Texts.

-- a byte that a string of JSON shows as it is isn't a line feed
shown_lacks : (b : ℕ) → is_unescaped b ≡ true → b ≢ 10
shown_lacks b is e = let bad : false ≡ true = subst (λ (x : ℕ). is_unescaped x ≡ true) e is in cc

-- no hexadecimal digit is a line feed
digit_lacks : (n : ℕ) → hex_digit n ≢ 10
digit_lacks n = cond_both (nat_lt n 10) (48 + n) (87 + n) (λ (d : ℕ). d ≢ 10) (λ _ e. omega (arith, e)) (λ _ e. omega (arith, e))

-- an escaped byte has no line feed
byte_lacks : (b : ℕ) → Lacks 10 (escape b)
byte_lacks b =
    cond_both (is_unescaped b) (b ∷ []) (92 ∷ 120 ∷ hex_digit (b / 16) ∷ hex_digit (b % 16) ∷ []) (Lacks 10) (λ is. (shown_lacks b is, tt))
    (λ _. ((λ e. omega (arith, e)), ((λ e. omega (arith, e)), (digit_lacks (b / 16), (digit_lacks (b % 16), tt)))))

-- escaped bytes have no line feed
pub escaped_lacks : (bytes : List ℕ) → Lacks 10 (escaped bytes)
escaped_lacks [] = tt
escaped_lacks (b ∷ bs) = lacks_both 10 (escape b) (escaped bs) (byte_lacks b) (escaped_lacks bs)

-- a text in which escaping changes nothing has no line feed
plain_lacks : (text : List ℕ) → NeedsNoEscape text → Lacks 10 text
plain_lacks text is = subst (Lacks 10) is (escaped_lacks text)

-- a text without a line feed still has none once each double quote and backslash in it has a backslash before it
mark_lacks : (text : List ℕ) → Lacks 10 text → Lacks 10 (flat_map behind_backslash text)
mark_lacks [] no_feed = tt
mark_lacks (b ∷ bs) no_feed =
    lacks_both 10 (behind_backslash b) (flat_map behind_backslash bs)
    (cond_both ((b == 34) || (b == 92)) (92 ∷ b ∷ []) (b ∷ []) (Lacks 10) (λ _. ((λ e. omega (arith, e)), (no_feed.0, tt))) (λ _. (no_feed.0, tt))) (mark_lacks bs no_feed.1)

-- a quotation mark isn't a line feed
pub quote_lacks : Lacks 10 (codes "\"")
quote_lacks = ((λ e. omega (arith, e)), tt)

-- a string of JSON has no line feed
string_lacks : (bytes : List ℕ) → Lacks 10 (string_text bytes)
string_lacks bytes =
    lacks_both 10 (codes "\"" ++ flat_map behind_backslash (escaped bytes)) (codes "\"")
    (lacks_both 10 (codes "\"") (flat_map behind_backslash (escaped bytes)) quote_lacks (mark_lacks (escaped bytes) (escaped_lacks bytes))) quote_lacks

-- a comma, if one is wanted, is no line feed
comma_lacks : (behind : Bool) → Lacks 10 (comma_where behind)
comma_lacks true = ((λ e. omega (arith, e)), tt)
comma_lacks false = tt

-- the strings of a list of JSON have no line feed
strings_lack : (behind : Bool) (texts : List (List ℕ)) → Lacks 10 (strings_text behind texts)
strings_lack behind [] = tt
strings_lack behind (bytes ∷ others) =
    lacks_both 10 (comma_where behind) (string_text bytes ++ strings_text true others) (comma_lacks behind)
    (lacks_both 10 (string_text bytes) (strings_text true others) (string_lacks bytes) (strings_lack true others))

-- a list of strings of JSON has no line feed
list_lacks : (texts : List (List ℕ)) → Lacks 10 (list_text texts)
list_lacks texts =
    lacks_both 10 (codes "[") (strings_text false texts ++ codes "]") ((λ e. omega (arith, e)), tt)
    (lacks_both 10 (strings_text false texts) (codes "]") (strings_lack false texts) ((λ e. omega (arith, e)), tt))

-- a plain name has no line feed
name_lacks : (name : List ℕ) → IsPlainName name → Lacks 10 name
name_lacks [] is = tt
name_lacks (b ∷ bs) is = ((λ e. let low = is.0.0 in omega (arith, e, low)), name_lacks bs is.1)

-- Members.

-- escaping changes nothing in the digits of a member that is a number; other members have no digits
abbrev HasPlainDigits : Member → Type 0
HasPlainDigits (Text name bytes) = Unit {0}
HasPlainDigits (Number name digits) = NeedsNoEscape digits
HasPlainDigits (Texts name texts) = Unit {0}

-- a plain name with the comma and the quotes around it, and a colon after these, has no line feed
named_lacks : (name : List ℕ) → IsPlainName name → Lacks 10 ((codes ",\"" ++ name) ++ codes "\":")
named_lacks name is =
    lacks_both 10 (codes ",\"" ++ name) (codes "\":") (lacks_both 10 (codes ",\"") name ((λ e. omega (arith, e)), ((λ e. omega (arith, e)), tt)) (name_lacks name is))
    ((λ e. omega (arith, e)), ((λ e. omega (arith, e)), tt))

-- plain members with plain digits have no line feed in their text
members_lack : (members : List Member) → ArePlainMembers members → AllByRecursion HasPlainDigits members → Lacks 10 (members_text members)
members_lack [] are plain = tt
members_lack (Text name bytes ∷ ms) are plain =
    lacks_both 10 (member_text (Text name bytes)) (members_text ms)
    (lacks_both 10 ((codes ",\"" ++ name) ++ codes "\":") (string_text bytes) (named_lacks name are.0.0) (string_lacks bytes)) (members_lack ms are.1 plain.1)
members_lack (Number name digits ∷ ms) are plain =
    lacks_both 10 (member_text (Number name digits)) (members_text ms)
    (lacks_both 10 ((codes ",\"" ++ name) ++ codes "\":") digits (named_lacks name are.0.0) (plain_lacks digits plain.0)) (members_lack ms are.1 plain.1)
members_lack (Texts name texts ∷ ms) are plain =
    lacks_both 10 (member_text (Texts name texts)) (members_text ms)
    (lacks_both 10 ((codes ",\"" ++ name) ++ codes "\":") (list_text texts) (named_lacks name are.0.0) (list_lacks texts)) (members_lack ms are.1 plain.1)

-- the members of a cell that holds what is fit have plain digits
content_digits : (name : List ℕ) (content : Content) → IsFit content → AllByRecursion HasPlainDigits (members_in name content)
content_digits name Blank is = tt
content_digits name (Bytes bytes) is = (tt, tt)
content_digits name (Moment utc) is = (tt, tt)
content_digits name (Whole n) is = (decimal_plain n, tt)
content_digits name (Code digits) is = (number_plain (without_zeros digits) (zeros_gone digits is.0 is.1).digits, tt)
content_digits name (Quantity (value.Double d) came) is = (double_plain d, (tt, tt))
content_digits name (Quantity (value.Long n) came) is = (signed_plain n, (tt, tt))
content_digits name (Quantity (value.Short n) came) is = (signed_plain n, (tt, tt))
content_digits name (Quantity (value.Byte n) came) is = (decimal_plain n, (tt, tt))
content_digits name (Quantity (value.Bool b) came) is = (boolean_plain b, (tt, tt))
content_digits name (Quantity (value.Text bytes) came) is = (tt, tt)
content_digits name (Items items) is = (tt, tt)

-- the members of cells that hold what is fit have plain digits
cells_digits : (cells : List Cell) → AreFit cells → AllByRecursion HasPlainDigits (members_of cells)
cells_digits [] are = tt
cells_digits (c ∷ cells) are = all_append HasPlainDigits (members_in c.name c.content) (members_of cells) (content_digits c.name c.content are.0) (cells_digits cells are.1)

-- the line of JSON of cells, after that of the run's beginning, without its line feed
abbrev pub line_text : (run : ℕ) → List Cell → List ℕ
line_text run cells = (codes "{\"run\":" ++ string_text (stamp_text run)) ++ (members_text (members_of cells) ++ codes "}")

-- if cells hold what is fit, and their members are plain, their line has no line feed
pub line_unbroken : (run : ℕ) (cells : List Cell) → AreFit cells → ArePlainMembers (members_of cells) → Lacks 10 (line_text run cells)
line_unbroken run cells fit are =
    let front : Lacks 10 (codes "{\"run\":") =
    ((λ e. omega (arith, e)), ((λ e. omega (arith, e)), ((λ e. omega (arith, e)), ((λ e. omega (arith, e)), ((λ e. omega (arith, e)), ((λ e. omega (arith, e)), ((λ e. omega (arith, e)), tt))))))) in
    lacks_both 10 (codes "{\"run\":" ++ string_text (stamp_text run)) (members_text (members_of cells) ++ codes "}")
    (lacks_both 10 (codes "{\"run\":") (string_text (stamp_text run)) front (string_lacks (stamp_text run)))
    (lacks_both 10 (members_text (members_of cells)) (codes "}") (members_lack (members_of cells) are (cells_digits cells fit)) ((λ e. omega (arith, e)), tt))
