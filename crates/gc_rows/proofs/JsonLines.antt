-- Lines of JSON: the members of one, and what a reader of JSON makes of it. `escape` and `print` are those of the library's
-- writer of JSON, and `document` is its reader.
use Rattle.gc_rows.proofs.Common.{◌≡◌, ◌<◌, ◌≤◌, ◌^◌, ◌==◌, ◌++◌, ◌∷◌, ◌∙◌, [], ℕ, ◌+◌, suc, List, length, drop, get_or, Bool, Some, true, false, inl, inr, refl, sym, ap, subst, arith, append_assoc, ◌||◌, codes, max, nat_lt, AllByRecursion, flat_map, zero-max, cases_Bool, lt-ltb, drop_more, recursion_from_All, every_weaker as all_on, print, Member, Text, Number, Texts, behind_backslash, string_text, comma_where, strings_text, list_text, members_text, IsPlainName, ArePlainMembers, texts_read, members_read, record_read, JsonLinesReadBack, escaped, AreBytes, IsPrintableByte, stamp_text, IsOfBytes, bytes_by_recursion, bytes_by_places, escaped_prints, stamp_prints}
use Rattle.json.specs.Json.{document}
use Rattle.json.specs.Print.{escape, escape_byte, print_from}
use Rattle.json.specs.Token.{Token, end_array}
use Rattle.json.specs.Tree.{ItemsHaveNumbers, MembersHaveNumbers, items_depth, items_tokens, json_tokens, members_depth, members_tokens}
use Rattle.json.proofs.Printed.Strings.{escape_byte_plain}
use Rattle.json.proofs.Printed.Trees.{document-print}
use Rattle.json.specs.Json as json

-- a double quote and a backslash are escaped as a writer of JSON escapes them
marked_as_json : (b : ℕ) → IsPrintableByte b → ((b == 34) || (b == 92)) ≡ true → behind_backslash b ≡ escape_byte b
unfolding escape_byte
marked_as_json b shown marked = let some : nat_lt 0 b ≡ true = lt-ltb 0 b (omega (arith, shown.0)) in rw (marked, some) refl

-- a printable byte other than a double quote and a backslash is left as it is, as a writer of JSON leaves it
plain_as_json : (b : ℕ) → IsPrintableByte b → ((b == 34) || (b == 92)) ≡ false → behind_backslash b ≡ escape_byte b
plain_as_json b shown plain =
    rw plain (sym (escape_byte_plain b (λ e. let bad : true ≡ false = subst (λ x. ((x == 34) || (x == 92)) ≡ false) e plain in cc)
    (λ e. let bad : true ≡ false = subst (λ x. ((x == 34) || (x == 92)) ≡ false) e plain in cc) shown.0))

-- each printable byte is escaped as a writer of JSON does it
byte_as_json : (b : ℕ) → IsPrintableByte b → behind_backslash b ≡ escape_byte b
byte_as_json b shown = elim (cases_Bool ((b == 34) || (b == 92))) [ inl marked ↦ marked_as_json b shown marked | inr plain ↦ plain_as_json b shown plain ]

-- a printable text is escaped as a writer of JSON does it
printable_as_json : (text : List ℕ) → AllByRecursion IsPrintableByte text → flat_map behind_backslash text ≡ escape text
printable_as_json [] shown = refl
printable_as_json (b ∷ bs) shown = ap (λ l. l ++ flat_map behind_backslash bs) (byte_as_json b shown.0) ∙ ap (λ l. escape_byte b ++ l) (printable_as_json bs shown.1)

-- bytes, once they are made printable, are escaped as a writer of JSON does it
bytes_as_json : (bytes : List ℕ) → AreBytes bytes → flat_map behind_backslash (escaped bytes) ≡ escape (escaped bytes)
bytes_as_json bytes are = printable_as_json (escaped bytes) (recursion_from_All IsPrintableByte (escaped bytes) (escaped_prints bytes (bytes_by_recursion bytes are)))

-- a writer of JSON leaves a plain name unchanged
name_as_json : (name : List ℕ) → IsPlainName name → name ≡ escape name
name_as_json [] plain = refl
name_as_json (b ∷ bs) plain = ap (λ l. b ∷ l) (name_as_json bs plain.1) ∙ ap (λ l. l ++ escape bs) (sym (escape_byte_plain b plain.0.1.0 plain.0.1.1 plain.0.0))

-- a comma (44), a name in double quotes (34), a colon (58), the text of a value, further members and the end of a line are the
-- same bytes however they are grouped
member_regrouped : (name text others close : List ℕ)
    → ((((44 ∷ 34 ∷ name) ++ 34 ∷ 58 ∷ []) ++ text) ++ others) ++ close ≡ 44 ∷ (((34 ∷ (name ++ 34 ∷ [])) ++ 58 ∷ []) ++ (text ++ (others ++ close)))
member_regrouped name text others close =
    let front : (name ++ 34 ∷ []) ++ 58 ∷ [] ≡ name ++ 34 ∷ 58 ∷ [] = append_assoc name (34 ∷ []) (58 ∷ []) in
    let k = 44 ∷ 34 ∷ (name ++ 34 ∷ 58 ∷ []) in
    append_assoc (k ++ text) others close ∙ append_assoc k text (others ++ close) ∙ ap (λ l. 44 ∷ 34 ∷ (l ++ (text ++ (others ++ close)))) (sym front)

-- the bracket after the texts of a list, and what follows, are written as a writer of JSON does it; `behind` says whether a text
-- stands before the bracket
closed_as_json : (behind : Bool) (others : List Token) → codes "]" ++ print_from true others ≡ print_from behind (end_array ∷ others)
unfolding print_from
closed_as_json true others = refl
closed_as_json false others = refl

-- a text of a list, with what comes after it, is written as a writer of JSON does it; `behind` says whether another stands
-- before it
text_as_json : (behind : Bool) (text : List ℕ) (others : List Token)
    → comma_where behind ++ ((34 ∷ (escape text ++ 34 ∷ [])) ++ print_from true others) ≡ print_from behind (Token.string text ∷ others)
unfolding print_from
text_as_json true text others = refl
text_as_json false text others = refl

-- texts of bytes in a list, its closing bracket and what follows are written as a writer of JSON does it; `behind` says whether
-- another text stands before these
texts_as_json : (behind : Bool) (texts : List (List ℕ)) (others : List Token) → AllByRecursion AreBytes texts
    → strings_text behind texts ++ (codes "]" ++ print_from true others) ≡ print_from behind (items_tokens (texts_read texts) ++ others)
texts_as_json behind [] others are = closed_as_json behind others
texts_as_json behind (text ∷ texts) others are =
    append_assoc (comma_where behind) (string_text text ++ strings_text true texts) (codes "]" ++ print_from true others)
    ∙ ap (λ l. comma_where behind ++ l)
    (append_assoc (string_text text) (strings_text true texts) (codes "]" ++ print_from true others)
    ∙ ap (λ l. string_text text ++ l) (texts_as_json true texts others are.1)
    ∙ ap (λ l. (34 ∷ (l ++ 34 ∷ [])) ++ print_from true (items_tokens (texts_read texts) ++ others)) (bytes_as_json text are.0))
    ∙ text_as_json behind (escaped text) (items_tokens (texts_read texts) ++ others)

-- a list of texts of bytes, and what follows, are written as a writer of JSON does it
list_as_json : (texts : List (List ℕ)) (others : List Token) → AllByRecursion AreBytes texts
    → list_text texts ++ print_from true others ≡ print_from false (Token.begin_array ∷ (items_tokens (texts_read texts) ++ others))
unfolding print_from
list_as_json texts others are = ap (λ l. 91 ∷ l) (append_assoc (strings_text false texts) (codes "]") (print_from true others) ∙ texts_as_json false texts others are)

-- plain members and the closing brace are written as a writer of JSON does it
members_as_json : (members : List Member) → ArePlainMembers members
    → members_text members ++ codes "}" ≡ print_from true (members_tokens (members_read members))
unfolding print_from
members_as_json [] are = refl
members_as_json (Text name bytes ∷ ms) are =
    ap (λ l. ((((44 ∷ 34 ∷ l) ++ 34 ∷ 58 ∷ []) ++ string_text bytes) ++ members_text ms) ++ codes "}") (name_as_json name are.0.0)
    ∙ ap (λ l. ((((44 ∷ 34 ∷ escape name) ++ 34 ∷ 58 ∷ []) ++ (34 ∷ (l ++ 34 ∷ []))) ++ members_text ms) ++ codes "}") (bytes_as_json bytes are.0.1)
    ∙ member_regrouped (escape name) (34 ∷ (escape (escaped bytes) ++ 34 ∷ [])) (members_text ms) (codes "}")
    ∙ ap (λ l. 44 ∷ (((34 ∷ (escape name ++ 34 ∷ [])) ++ 58 ∷ []) ++ ((34 ∷ (escape (escaped bytes) ++ 34 ∷ [])) ++ l))) (members_as_json ms are.1)
members_as_json (Number name digits ∷ ms) are =
    ap (λ l. ((((44 ∷ 34 ∷ l) ++ 34 ∷ 58 ∷ []) ++ digits) ++ members_text ms) ++ codes "}") (name_as_json name are.0.0)
    ∙ member_regrouped (escape name) digits (members_text ms) (codes "}")
    ∙ ap (λ l. 44 ∷ (((34 ∷ (escape name ++ 34 ∷ [])) ++ 58 ∷ []) ++ (digits ++ l))) (members_as_json ms are.1)
members_as_json (Texts name texts ∷ ms) are =
    ap (λ l. ((((44 ∷ 34 ∷ l) ++ 34 ∷ 58 ∷ []) ++ list_text texts) ++ members_text ms) ++ codes "}") (name_as_json name are.0.0)
    ∙ member_regrouped (escape name) (list_text texts) (members_text ms) (codes "}")
    ∙ ap (λ l. 44 ∷ (((34 ∷ (escape name ++ 34 ∷ [])) ++ 58 ∷ []) ++ (list_text texts ++ l))) (members_as_json ms are.1)
    ∙ ap (λ l. 44 ∷ (((34 ∷ (escape name ++ 34 ∷ [])) ++ 58 ∷ []) ++ l)) (list_as_json texts (members_tokens (members_read ms)) are.0.1)

-- each number among the items of a list of texts is a number of JSON, as there is none
texts_have_numbers : (texts : List (List ℕ)) → ItemsHaveNumbers (texts_read texts)
texts_have_numbers [] = tt
texts_have_numbers (text ∷ texts) = (tt, texts_have_numbers texts)

-- the numbers among plain members are numbers of JSON
members_have_numbers : (members : List Member) → ArePlainMembers members → MembersHaveNumbers (members_read members)
members_have_numbers [] are = tt
members_have_numbers (Text name bytes ∷ ms) are = (tt, members_have_numbers ms are.1)
members_have_numbers (Number name digits ∷ ms) are = (are.0.1, members_have_numbers ms are.1)
members_have_numbers (Texts name texts ∷ ms) are = (texts_have_numbers texts, members_have_numbers ms are.1)

-- the texts of a list hold no object or list
texts_are_flat : (texts : List (List ℕ)) → items_depth (texts_read texts) ≡ 0
texts_are_flat [] = refl
texts_are_flat (text ∷ texts) = ap (max 0) (texts_are_flat texts) ∙ zero-max 0

-- members nest one list deep at most: they hold no object, and only lists of texts
members_nest_once : (members : List Member) → members_depth (members_read members) ≤ 1
members_nest_once [] = omega arith
members_nest_once (Text name bytes ∷ ms) = subst (λ n. n ≤ 1) (sym (zero-max (members_depth (members_read ms)))) (members_nest_once ms)
members_nest_once (Number name digits ∷ ms) = subst (λ n. n ≤ 1) (sym (zero-max (members_depth (members_read ms)))) (members_nest_once ms)
members_nest_once (Texts name texts ∷ ms) =
    let few = members_nest_once ms in
    subst (λ n. max (suc n) (members_depth (members_read ms)) ≤ 1) (sym (texts_are_flat texts)) (omega (arith, few))

-- printable bytes are below 256
printable_are_bytes : (text : List ℕ) → AllByRecursion IsPrintableByte text → IsOfBytes text
printable_are_bytes text shown = all_on IsPrintableByte (λ b. b < 256) text (λ b is. omega (arith, is.1)) shown

-- the text of a moment of at most 64 bits is of bytes
pub stamp_bytes : (utc : ℕ) → utc < 2 ^ 64 → AreBytes (stamp_text utc)
stamp_bytes utc below =
    let shown = recursion_from_All IsPrintableByte (stamp_text utc) (stamp_prints utc below) in
    bytes_by_places (stamp_text utc) (printable_are_bytes (stamp_text utc) shown)

-- a and m, and then a brace and a line feed, are the text of a, m and the brace, and then the line feed
pub feed_apart : (a m : List ℕ) → (a ++ m) ++ codes "}\n" ≡ (a ++ (m ++ codes "}")) ++ codes "\n"
feed_apart a m =
    append_assoc a m (codes "}\n") ∙ ap (λ l. a ++ l) (sym (append_assoc m (codes "}") (codes "\n"))) ∙ sym (append_assoc a (m ++ codes "}") (codes "\n"))

-- the line of JSON of a run's moment and these members, without its line feed
abbrev pub object_text : (run : ℕ) (members : List Member) → List ℕ
object_text run members = (codes "{\"run\":" ++ string_text (stamp_text run)) ++ (members_text members ++ codes "}")

-- a line of JSON whose run's moment has at most 64 bits and whose members are plain is, without its line feed, what the writer
-- of JSON writes of the object of that moment and these members
object_as_json : (run : ℕ) (members : List Member) → run < 2 ^ 64 → ArePlainMembers members
    → object_text run members ≡ print (json_tokens (json.object (record_read run members)))
unfolding print_from escape_byte
object_as_json run members below are =
    ap (λ l. (codes "{\"run\":" ++ (34 ∷ (l ++ 34 ∷ []))) ++ (members_text members ++ codes "}")) (bytes_as_json (stamp_text run) (stamp_bytes run below))
    ∙ ap (λ l. (codes "{\"run\":" ++ (34 ∷ (escape (escaped (stamp_text run)) ++ 34 ∷ []))) ++ l) (members_as_json members are)

-- a line of JSON whose run's moment has at most 64 bits and whose members are plain reads, without its line feed, as the object
-- of that moment and these members
pub object_reads_back : (run : ℕ) (members : List Member) → run < 2 ^ 64 → ArePlainMembers members
    → document (object_text run members) ≡ Some (json.object (record_read run members))
object_reads_back run members below are =
    let same = zero-max (members_depth (members_read members)) in
    let shallow = members_nest_once members in
    ap document (object_as_json run members below are) ∙ document-print (json.object (record_read run members)) (tt, members_have_numbers members are) (omega (arith, same, shallow))

-- the law: a line of JSON whose run's moment has at most 64 bits and whose members are plain reads back
pub json_lines_read_back : JsonLinesReadBack
json_lines_read_back run members below are = (
  object_text run members,
  feed_apart (codes "{\"run\":" ++ string_text (stamp_text run)) (members_text members),
  object_reads_back run members below are,
)

-- if `mid` and then the strings of the texts from place k on are `old`, so are `mid`, the comma before text k if there is one
-- (`behind`), its string, and the strings of the texts from place k + 1 on, each with a comma before it (`next`)
pub strings_next : (old mid : List ℕ) (texts : List (List ℕ)) (k : ℕ) (behind next : Bool) → k < length texts → next ≡ true
    → mid ++ strings_text behind (drop k texts) ≡ old
    → ((mid ++ comma_where behind) ++ string_text (get_or texts k [])) ++ strings_text next (drop (k + 1) texts) ≡ old
strings_next old mid texts k behind next lt more so =
    let text = string_text (get_or texts k []) in
    let others = strings_text true (drop (k + 1) texts) in
    ap (λ z. ((mid ++ comma_where behind) ++ text) ++ strings_text z (drop (k + 1) texts)) more
    ∙ append_assoc (mid ++ comma_where behind) text others ∙ append_assoc mid (comma_where behind) (text ++ others)
    ∙ ap (λ ts. mid ++ strings_text behind ts) (sym (drop_more texts k [] lt)) ∙ so
