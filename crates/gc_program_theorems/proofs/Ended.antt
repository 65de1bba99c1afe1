-- The text of each record ends in a line feed.
use Rattle.gc_program_theorems.proofs.Common.{◌≡◌, ℕ, true, false, List, [], ◌∷◌, ◌++◌, refl, ◌∙◌, ap, has_feed, whole, feed_behind, whole_behind, stamp_text, Entry, members_after_run, row_fields, string_text, members_text, record_text, ending_text, row_of, field_text, fields_behind_commas, Form, Csv, Columns, Json, Record, Layout, LabelsSeen, entry_in, text_in}
use Rattle.std.proofs.Common.{codes}
use Rattle.std.specs.Fmt.{decimal}
use Rattle.gc_rows.specs.declared.record.Form.TheVariants.{Lines}

-- bytes that end in a line feed
record EndsInLineFeed (xs : List ℕ) : Type 0 where
  some : has_feed xs ≡ true
  is : whole xs ≡ xs

-- bytes that end in a line feed still do so whatever comes before them
ends_behind : (xs ys : List ℕ) → EndsInLineFeed ys → EndsInLineFeed (xs ++ ys)
ends_behind xs ys ends = record { some = feed_behind xs ys ends.some; is = whole_behind xs ys ends.some ∙ ap (λ (l : List ℕ). xs ++ l) ends.is }

-- a line feed alone ends in a line feed
feed_ends : EndsInLineFeed (codes "\n")
feed_ends = record { some = refl; is = refl }

-- a closing brace and a line feed after it end in a line feed
brace_ends : EndsInLineFeed (codes "}\n")
brace_ends = record { some = refl; is = refl }

-- a row ends in a line feed
row_ends : (fields : List (List ℕ)) → EndsInLineFeed (row_of fields)
row_ends [] = feed_ends
row_ends (first ∷ others) = ends_behind (field_text first ++ fields_behind_commas others) (codes "\n") feed_ends

-- the text of a record ends in a line feed, in each form
record_ends : (form : Form) (r : Entry) → EndsInLineFeed (record_text form r)
record_ends Lines r =
    let stamp = r.when.stamp in
    ends_behind (stamp_text stamp.utc ++ codes " " ++ decimal stamp.turn.place ++ codes " " ++ decimal r.command.target ++ ending_text r.end) (codes "\n") feed_ends
record_ends Csv r = row_ends (row_fields false r)
record_ends Columns r = row_ends (row_fields true r)
record_ends Json r = ends_behind (codes "{\"run\":" ++ string_text (stamp_text r.when.run) ++ members_text (members_after_run r)) (codes "}\n") brace_ends

-- the text of a record ends in a line feed
pub text_whole : (layout : Layout) (labels : LabelsSeen) (r : Record) → whole (text_in layout labels r) ≡ text_in layout labels r
text_whole layout labels r = (record_ends layout.form (entry_in layout labels r)).is
