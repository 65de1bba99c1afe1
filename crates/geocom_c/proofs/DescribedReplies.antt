-- Replies to requests for described procedures: their values, as the library lists them for C.
use Rattle.geocom_c.proofs.Common.{◌≡◌, ℕ, suc, Bool, List, ◌++◌, length, take, drop, sym, ap, subst, ◌∙◌, arith, length-take, take-append-drop, take-append-le, ReplyFields, Reading, Value, Refused, ComFault, Unreadable, DescriptionSeen, KindsSeen, AnswersBy, HasItemsOf, IsDescribedReading, IsNoAnswer, answer_kinds, AreStanding, IsKind, ListsItems, StandsAt, GeocomAnswer}
use Rattle.gc_values.specs.declared.value.Kind.{Kind}
use Rattle.geocom_c.proofs.Items.{stands_more}
use Rattle.geocom_c.proofs.Places.{first_are_weaker}

-- kinds with this list, and with these further ones or none, are the record of both
pub same_kinds : (k : KindsSeen) (ks : List Kind) (more : Bool) → k.kinds ≡ ks → k.more ≡ more → k ≡ record { kinds = ks; more = more }
same_kinds k ks more e f =
    ap (λ (x : List Kind). let y : KindsSeen = record { kinds = x; more = k.more } in y) e
    ∙ ap (λ (x : Bool). let y : KindsSeen = record { kinds = ks; more = x } in y) f

-- where a text lists the items of a reply's parameters, what is returned has those of its reading, if it has as many items and columns as
-- there are where its reading is 1 (a value), and none where it is 2 or more
pub has_items : (d : DescriptionSeen) (told : GeocomAnswer) (text : List ℕ) (count : ℕ) (reply : ReplyFields) (reading : Reading)
    → ListsItems text count told.places reply.params → IsDescribedReading (answer_kinds d) reply reading → IsKind reading told.reading told.code
    → (told.reading ≡ 1 → (told.items ≡ count) × (told.columns ≡ length d.values))
    → ((n : ℕ) → told.reading ≡ suc (suc n) → (told.items ≡ 0) × (told.columns ≡ 0)) → HasItemsOf d told text reply.params reading
has_items d told text count reply (Value a) lists reads kind some none =
    let are = reads.2.0.1 in
    record {
      items = are.items;
      values = reads.2.0.0;
      split = are.split;
      have = are.have;
      standing = subst (λ n. AreStanding n told.places text are.items) (sym (some kind.0).0) (lists are.items are.split are.few);
      columns = (some kind.0).1;
    }
has_items d told text count reply (Refused rc) lists reads kind some none = none 0 kind.0
has_items d told text count reply (ComFault rc) lists reads kind some none = none 1 kind.0
has_items d told text count reply (Unreadable e) lists reads kind some none = none 2 kind.0

-- what is returned still has its items once more is appended to the text
more_items : (d : DescriptionSeen) (told : GeocomAnswer) (text more params : List ℕ) (reading : Reading) → HasItemsOf d told text params reading
    → HasItemsOf d told (text ++ more) params reading
more_items d told text more params (Value a) has =
    record {
      items = has.items;
      values = has.values;
      split = has.split;
      have = has.have;
      standing = record {
        counted = has.standing.counted;
        stand = first_are_weaker (StandsAt text) (StandsAt (text ++ more)) (stands_more text more) told.places has.items has.standing.stand;
      };
      columns = has.columns;
    }
more_items d told text more params (Refused rc) has = has
more_items d told text more params (ComFault rc) has = has
more_items d told text more params (Unreadable e) has = has

-- where a room begins with a text, what is returned of the text is so of the room
pub in_room : (d : DescriptionSeen) (text room : List ℕ) (n : ℕ) (reply : ReplyFields) (told : GeocomAnswer) → take n room ≡ text
    → AnswersBy d text reply told → AnswersBy d room reply told
in_room d text room n reply told front is =
    let whole : text ++ drop n room ≡ room = ap (λ (x : List ℕ). x ++ drop n room) (sym front) ∙ take-append-drop n room in
    record {
      fault = is.fault;
      reading = is.reading;
      is_reading = is.is_reading;
      kind = is.kind;
      items = subst (λ (x : List ℕ). HasItemsOf d told x reply.params is.reading) whole (more_items d told text (drop n room) reply.params is.reading is.items);
    }

-- where a room begins with a text, it begins with what the text begins with
pub begins_in_room : (line text room : List ℕ) (n : ℕ) → take n room ≡ text → take (length line) text ≡ line → take (length line) room ≡ line
begins_in_room line text room n front begins =
    let whole : text ++ drop n room ≡ room = ap (λ (x : List ℕ). x ++ drop n room) (sym front) ∙ take-append-drop n room in
    ap (take (length line)) (sym whole) ∙ take-append-le (length line) text (drop n room) (omega (arith, ap length begins, length-take (length line) text)) ∙ begins

-- what is returned with a number as its fault is returned with each number that equals it
pub no_answer_as : (told : GeocomAnswer) (m n : ℕ) → m ≡ n → IsNoAnswer told m → IsNoAnswer told n
no_answer_as told m n same is = subst (λ k. IsNoAnswer told k) same is
