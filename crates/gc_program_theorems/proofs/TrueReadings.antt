-- What the replies of the eventful run say. A function that gives what each reply says is the same as `patched`, which gives it
-- for these five without looking at their bytes: so the run can be computed with that one.
use Rattle.gc_program_theorems.proofs.Common.{◌≡◌, ℕ, Bool, true, false, List, [], ◌∷◌, Option, Some, None, Ok, refl, sym, ap, ◌∙◌, arith, ints, codes, pos, reply_found, header_at, reply_at, ReplyFields, decimal, rounded, AreParams, faulty_items, wrong_count, answer_fields, call_fields, Answer, Reading, Value, Unreadable, Asked, Table, InstrumentNo, Position, SimpleMea, ReadsBy, IsSaid, AreReadings, Reads, at_target, off_target_reply, empty_reply, measured_reply, numbered_reply, pointed_reply}
use Rattle.std.proofs.Math.Path.{fun_ext}
use Rattle.std.specs.Cmp.Lexicographic.{pointwise, same_text}
use Rattle.std.specs.Fmt.{digits}
use Rattle.std.specs.Prelude.{if◌then◌else◌, nat_eq}
use Rattle.gc_values.proofs.ListLaws.{written_reads}
use Rattle.gc_values.proofs.PlainLists.{no_params}
use Rattle.gc_values.specs.declared.fault.ValueFault.TheVariants.{Count}
use Rattle.gc_catalogue.specs.declared.answer.Answer.TheVariants.{Long, Measured, Nothing}
use Rattle.gc_catalogue.specs.declared.call.Call.{Call}
use Rattle.gc_texts.specs.declared.form.Form.{Form}
use Rattle.gc_values.specs.declared.value.Value.TheVariants as value
use Rattle.gc_catalogue.specs.declared.answer.Shape.TheVariants as shape

-- what the reply to command 2 says
abbrev off_target_answer : Answer
off_target_answer = Measured (decimal (pos 5) 1 refl) (decimal (pos 15) 1 refl) (decimal (pos 8725) 2 refl)

-- What each reply says of a call with such answers, by the grammar of replies.

-- the fields of a reply with this id and these parameters, and with both codes 0
abbrev pub replied : ℕ → List ℕ → ReplyFields
replied id params = record { rc_com = 0; id = Some id; rc = 0; params = params }

module _ (call : Call) where
  -- a line that reads as the reply with an id and parameters says this answer, if the call has answers of its form, and the
  -- parameters are the answer's values
  value_says : (line params : List ℕ) (id : ℕ) (answer : Answer) → reply_at line ≡ Ok (replied id params) → (call_fields call).answer ≡ (answer_fields answer).shape
      → AreParams params (answer_fields answer).values → ReadsBy (IsSaid None) (Table call) line (Value answer)
  value_says line params id answer reads of_call values =
      record { reply = replied id params; is_reply = reply_found line (replied id params) reads; is_reading = (refl, refl, record { of_call = sym of_call; values = values }) }

  -- of a call with no values in its answers, the reply to command 0 says nothing but that the call was carried out
  pointed_says : (call_fields call).answer ≡ shape.Nothing → ReadsBy (IsSaid None) (Table call) pointed_reply (Value Nothing)
  unfolding header_at reply_at digits
  pointed_says of_call = value_says pointed_reply [] 1 Nothing refl of_call (no_params [] [] refl refl)

  -- of a call that asks for angles and a distance, the reply to command 1 says those at target 7
  measured_says : (call_fields call).answer ≡ shape.Measured → ReadsBy (IsSaid None) (Table call) measured_reply (Value at_target)
  unfolding header_at reply_at digits rounded
  measured_says of_call =
      value_says measured_reply (codes "2.25,1.625,110.0625") 2 at_target refl of_call (written_reads (answer_fields at_target).values (tt, (tt, (tt, tt))))

  -- of a call that asks for angles and a distance, the reply to command 2 says those of `off_target_answer`, where target 8
  -- doesn't stand
  off_target_says : (call_fields call).answer ≡ shape.Measured → ReadsBy (IsSaid None) (Table call) off_target_reply (Value off_target_answer)
  unfolding header_at reply_at digits rounded
  off_target_says of_call = value_says off_target_reply (codes "0.5,1.5,87.25") 3 off_target_answer refl of_call (written_reads (answer_fields off_target_answer).values (tt, (tt, (tt, tt))))

  -- of a call that asks for a whole number, the reply to command 3 says the number 31
  numbered_says : (call_fields call).answer ≡ shape.Long → ReadsBy (IsSaid None) (Table call) numbered_reply (Value (Long (pos 31)))
  unfolding header_at reply_at digits
  numbered_says of_call =
      value_says numbered_reply (codes "31") 4 (Long (pos 31)) refl of_call (written_reads (value.Long (pos 31) ∷ []) ((omega (arith, ints), omega (arith, ints)), tt))

  -- of a call that asks for a whole number, the reply to command 4 doesn't read: it has too few values
  empty_says : (call_fields call).answer ≡ shape.Long → ReadsBy (IsSaid None) (Table call) empty_reply (Unreadable Count)
  unfolding header_at reply_at digits
  empty_says of_call =
      record {
        reply = replied 5 [];
        is_reply = reply_found empty_reply (replied 5 []) refl;
        is_reading = (refl, refl, (Long (pos 0), sym of_call, faulty_items [] (0, refl) (wrong_count refl (omega arith) (λ e. absurd (omega (arith, e))))));
      }

-- the function that gives this reading of this line, and of any other line what `says` gives
abbrev with_reading : (line : List ℕ) → Reading → (says : List ℕ → Reading) (x : List ℕ) → Reading
with_reading line reading says x = if pointwise nat_eq line x then reading else says x

-- the function with these readings put before it, for the calls that have them
abbrev pub patched : Reads → Reads
patched reads (Some form) call = reads (Some form) call
patched reads None (Table (Position hz v pos_mode atr_mode dummy)) = with_reading pointed_reply (Value Nothing) (reads None (Table (Position hz v pos_mode atr_mode dummy)))
patched reads None (Table (SimpleMea wait mode)) =
    with_reading measured_reply (Value at_target) (with_reading off_target_reply (Value off_target_answer) (reads None (Table (SimpleMea wait mode))))
patched reads None (Table InstrumentNo) = with_reading numbered_reply (Value (Long (pos 31))) (with_reading empty_reply (Unreadable Count) (reads None (Table InstrumentNo)))
patched reads None call = reads None call

-- if a function gives this reading of the line anyway, to put the reading before it changes nothing
with_reading_same : (line : List ℕ) (reading : Reading) (says : List ℕ → Reading) → says line ≡ reading → with_reading line reading says ≡ says
with_reading_same line reading says e = fun_ext (λ x. by_test x (pointwise nat_eq line x) refl) where
  -- the two functions give the same of x, whether x is the line (`same`) or not
  by_test : (x : List ℕ) (same : Bool) → pointwise nat_eq line x ≡ same → (if same then reading else says x) ≡ says x
  by_test x true t = sym e ∙ ap says (same_text line x (sym t))
  by_test x false t = refl

module _ (reads : Reads) (are : AreReadings reads) where
  -- for each call, `patched` of a function that gives what replies say is what that function gives: it has the readings of the
  -- five replies already, by the grammar
  patched_of_call : (call : Asked) → patched reads None call ≡ reads None call
  patched_of_call (Table (Position hz v pos_mode atr_mode dummy)) =
      let call = Table (Position hz v pos_mode atr_mode dummy) in
      with_reading_same pointed_reply (Value Nothing) (reads None call) (are None call pointed_reply (Value Nothing) (pointed_says (Position hz v pos_mode atr_mode dummy) refl))
  patched_of_call (Table (SimpleMea wait mode)) =
      let call = Table (SimpleMea wait mode) in
      ap (with_reading measured_reply (Value at_target))
      (with_reading_same off_target_reply (Value off_target_answer) (reads None call) (are None call off_target_reply (Value off_target_answer) (off_target_says (SimpleMea wait mode) refl)))
      ∙ with_reading_same measured_reply (Value at_target) (reads None call) (are None call measured_reply (Value at_target) (measured_says (SimpleMea wait mode) refl))
  patched_of_call (Table InstrumentNo) =
      ap (with_reading numbered_reply (Value (Long (pos 31))))
      (with_reading_same empty_reply (Unreadable Count) (reads None (Table InstrumentNo)) (are None (Table InstrumentNo) empty_reply (Unreadable Count) (empty_says InstrumentNo refl)))
      ∙ with_reading_same numbered_reply (Value (Long (pos 31))) (reads None (Table InstrumentNo)) (are None (Table InstrumentNo) numbered_reply (Value (Long (pos 31))) (numbered_says InstrumentNo refl))
  patched_of_call call = refl

  -- `patched` of a function that gives what replies say is the function itself
  pub patched_same : patched reads ≡ reads
  patched_same = fun_ext by_form where
    -- with a form nothing is put before it
    by_form : (form : Option Form) → patched reads form ≡ reads form
    by_form None = fun_ext patched_of_call
    by_form (Some form) = refl
