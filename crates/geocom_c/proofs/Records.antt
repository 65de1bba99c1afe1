-- Records of settlements, as the library writes them for C: numbers, and places in a text.
use Rattle.geocom_c.proofs.Common.{◌≡◌, ℕ, zero, suc, ◌≤◌, Bool, true, false, List, [], ◌∷◌, ◌++◌, length, take, drop, Some, None, Ok, Err, Option, Result, refl, sym, subst, ap, ◌∙◌, arith, if◌then◌else◌, length-map, length-take, take-append-drop, take-append-le, kind_of, IsParams, LineFault, ReplyFields, Reading, Value, Refused, ComFault, Unreadable, Asked, Table, Raw, answer_fields, IsAskedReading, Pending, ById, Settlement, settle, place_in, settles_at, hears, id_in, fits, FirstAre, line_kind, fault_number_in, StandsAt, AreListed, AreReadAs, IsKind, HasReading, ListsItems, HasOutcome, IsRecord, AnswerHasLine, AnswersHaveLine, GeocomItem, GeocomSettlement, false≢true}
use Rattle.gc_values.proofs.ListLaws.{same_count}
use Rattle.gc_catalogue.specs.declared.answer.Answer.{Answer}
use Rattle.gc_catalogue.proofs.Table.{few_answer_values}
use Rattle.geocom_c.proofs.Places.{first_are_weaker}
use Rattle.geocom_c.proofs.Items.{stands_more}
use Rattle.gc_client.specs.Rule

-- where a text lists the items of a reply's parameters if they are at most 16 (`ListsItems`), and the reply reads as an answer to
-- what was asked, the text lists the items of this answer (`AreListed`)
value_listed : (asked : Asked) (answer : Answer) (text : List ℕ) (count : ℕ) (places : List GeocomItem) (reply : ReplyFields)
    → ListsItems text count places reply.params → IsAskedReading asked reply (Value answer) → AreListed asked answer count places text reply.params
value_listed asked answer text count places reply lists reads = of_asked asked reads where
  -- the items are listed, if they are at most 16 and read as `AreReadAs` says
  listed : (a : Asked) (xs : List (List ℕ)) → IsParams reply.params xs → length xs ≤ 16 → AreReadAs a answer xs → AreListed a answer count places text reply.params
  listed a xs split few read = record { items = xs; split = split; read = read; standing = lists xs split few }

  -- the items are listed, by whether the call is one of the table
  of_asked : (a : Asked) → IsAskedReading a reply (Value answer) → AreListed a answer count places text reply.params
  of_asked (Table call) says =
      let params = says.2.values in
      let values = (answer_fields answer).values in
      let few : length params.items ≤ 16 = omega (arith, same_count values params.items params.read, length-map values kind_of, few_answer_values answer) in
      listed (Table call) params.items params.split few params.read
  of_asked (Raw raw) says = listed (Raw raw) says.2.0.0 says.2.0.1 says.2.0.2 tt

-- where a text lists the items of a reply's parameters (`ListsItems`), the record r of the reply has what the reply says
-- (`HasReading`), if its reading and its code are those of the reply (`IsKind`), and it has as many items as were listed if its
-- reading is 1 (a value), and none if it is 2 or more
pub has_reading : (r : GeocomSettlement) (text : List ℕ) (count : ℕ) (asked : Asked) (reply : ReplyFields) (reading : Reading)
    → ListsItems text count r.places reply.params → IsAskedReading asked reply reading → IsKind reading r.reading r.code
    → (r.reading ≡ 1 → r.items ≡ count) → ((n : ℕ) → r.reading ≡ suc (suc n) → r.items ≡ 0) → HasReading asked r text reply.params reading
has_reading r text count asked reply (Value a) lists reads kind some none =
    (kind, subst (λ n. AreListed asked a n r.places text reply.params) (sym (some kind.0)) (value_listed asked a text count r.places reply lists reads))
has_reading r text count asked reply (Refused rc) lists reads kind some none = (kind, none 0 kind.0)
has_reading r text count asked reply (ComFault rc) lists reads kind some none = (kind, none 1 kind.0)
has_reading r text count asked reply (Unreadable e) lists reads kind some none = (kind, none 2 kind.0)

-- a record still has its reading once more is appended to the text
more_reading : (asked : Asked) (r : GeocomSettlement) (text more params : List ℕ) (reading : Reading) → HasReading asked r text params reading
    → HasReading asked r (text ++ more) params reading
more_reading asked r text more params (Value a) has =
    let are = has.1 in (
      has.0,
      record {
        items = are.items;
        split = are.split;
        read = are.read;
        standing = record {
          counted = are.standing.counted;
          stand = first_are_weaker (StandsAt text) (StandsAt (text ++ more)) (stands_more text more) r.places are.items are.standing.stand;
        };
      },
    )
more_reading asked r text more params (Refused rc) has = has
more_reading asked r text more params (ComFault rc) has = has
more_reading asked r text more params (Unreadable e) has = has

-- a record still says how its request ended once more is appended to the text
more_outcome : (text more : List ℕ) (r : GeocomSettlement) (asked : Asked) (o : Rule.Outcome) → HasOutcome r text asked o → HasOutcome r (text ++ more) asked o
more_outcome text more r asked (Rule.Answered line) is =
    let n = ap length is.front in
    record {
      answered = is.answered;
      length = is.length;
      front = take-append-le r.line_length text more (omega (arith, n, is.length, length-take r.line_length text)) ∙ is.front;
      reply = is.reply;
      is_reply = is.is_reply;
      reading = is.reading;
      is_reading = is.is_reading;
      has_reading = more_reading asked r text more is.reply.params is.reading is.has_reading;
    }
more_outcome text more r asked Rule.Late is = is
more_outcome text more r asked Rule.Lost is = is

-- a record is still that of its settlement once more is appended to the text
pub more_record : (text more : List ℕ) (r : GeocomSettlement) (s : Settlement Asked) → IsRecord text r s → IsRecord (text ++ more) r s
more_record text more r s is = record { target = is.target; procedure = is.procedure; outcome = more_outcome text more r s.call s.outcome is.outcome }

-- where a text that begins with a line was written to the front of another (`new`), the line is at its front, and records with the text are
-- records with that one
pub written_in_front : (line text new : List ℕ) (n : ℕ) (records : List GeocomSettlement) (ss : List (Settlement Asked)) → take n new ≡ text → take (length line) text ≡ line
    → FirstAre (IsRecord text) records ss → (take (length line) new ≡ line) × FirstAre (IsRecord new) records ss
written_in_front line text new n records ss front begins are =
    let whole : new ≡ text ++ drop n new = sym (take-append-drop n new) ∙ ap (λ (x : List ℕ). x ++ drop n new) front in (
      ap (take (length line)) whole ∙ take-append-le (length line) text (drop n new) (omega (arith, ap length begins, length-take (length line) text)) ∙ begins,
      subst (λ (x : List ℕ). FirstAre (IsRecord x) records ss) (sym whole)
          (first_are_weaker (IsRecord text) (IsRecord (text ++ drop n new)) (more_record text (drop n new)) records ss are),
    )

-- a request that a line settles, late (b) or answered, has this line if it is answered
met_has_line : (p : Pending Asked) (line : List ℕ) (b : Bool) → AnswerHasLine line (if b then Rule.Late else Rule.Answered line)
met_has_line p line true = tt
met_has_line p line false = refl

-- each request that a line answers, among those that are settled up to place k, has this line
settled_have_line : (k : ℕ) (line : List ℕ) (ps : List (Pending Asked)) → AnswersHaveLine line (settle k line ps)
settled_have_line k line [] = tt
settled_have_line zero line (p ∷ ps) = (met_has_line p line p.given_up, tt)
settled_have_line (suc k) line (p ∷ ps) = (tt, settled_have_line k line ps)

-- if a line has the id of place k, each request that the client settles by it as answered has this line, whether a request is
-- outstanding at that place (b) or not
chosen_have_line : (c : ById Asked) (line : List ℕ) (k : ℕ) (b : Bool) → AnswersHaveLine line (settles_at c line k b).settlements
chosen_have_line c line k true = settled_have_line k line c.waiting
chosen_have_line c line k false = tt

-- each request that a client settles by a line as answered has this line
pub heard_have_line : (c : ById Asked) (line : List ℕ) (id : Option ℕ) → AnswersHaveLine line (hears c line id).settlements
heard_have_line c line None = tt
heard_have_line c line (Some id) = chosen_have_line c line (place_in c id) _

-- a reply whose id is that of an outstanding request has the kind 1, of a line that settled, and the fault number 0
pub settles_kind : (c : ById Asked) (r : Result ReplyFields LineFault) → fits c (id_in r) ≡ true → (1 ≡ line_kind r (fits c (id_in r))) × (0 ≡ fault_number_in r)
settles_kind c (Ok reply) e = (rw e refl, refl)
settles_kind c (Err f) e = absurd (false≢true e)
