-- What the instrument does with a request that a client wrote, and how its reply reads.
use Rattle.gc_world.proofs.Common.{◌≡◌, ℕ, ◌<◌, Bool, true, false, cond, List, [], Option, Some, None, Ok, inl, inr, refl, sym, ap, ◌∙◌, subst, lit<, eqb, eqb-true, eq-eqb, cond_both, AppendsAnswer, IsPlain, reply_at, IsReply, reply_text, Call, rounded_answer, IsReading, reply_of, id_in, heard, State, KeptReply, IsFittingState, IsFittingKept, IsFittingReply, kept_id, restarted, Executed, exec, Handed, handed, IsExchanged, kept_line, kept_after, without_kept, executed_line, reading_of, exec_outcome, restarted_fits, IsHandedOver, TellsExecution, IsExchange, IsKeeper, ReadsWithItsId, IsValueOrRefusal, restarted_if, ends, cond_some, none-some, same_Some}
use Rattle.gc_lines.proofs.Replies.{one_reply, reply_again, reply_found}
use Rattle.gc_lines.proofs.Written.{reply_back}
use Rattle.gc_catalogue.specs.declared.answer.Reading.TheVariants.{Value, Refused}
use Rattle.gc_catalogue.proofs.AnswerLaws.{one_reading}
use Rattle.gc_instrument.proofs.Answering.{handed_answered, handed_again, handed_new, some_line_or_none}
use Rattle.gc_instrument.proofs.Keeping.{executes_apart, fits_kept}
use Rattle.gc_world.specs.Laws.{RepliesAreFine}
pub use Rattle.gc_instrument.specs.Replying.{kept_of}

-- where a reply is kept, its line is a reply line with the id that it is kept with
abbrev pub KeptFits : State → Type 0
KeptFits s = IsFittingKept s.kept

-- where the kept reply, if any, reads as one with the id that it is kept with, a line that is kept for an id is heard with that
-- id
kept_heard : (k : Option KeptReply) (id : ℕ) (line : List ℕ) → kept_line k (Some id) ≡ Some line → IsFittingKept k → heard line ≡ Some id
kept_heard None id line e h = let never : ⊥ = cc in absurd never
kept_heard (Some k) id line e h =
    let c = cond_some (eqb k.id id) k.line line e in
    ap heard (sym c.1) ∙ ap id_in (reply_again k.line h.fields h.is_reply) ∙ h.same_id ∙ ap Some (eqb-true k.id id c.0)

-- for an id below 8, the reply line to a call that was carried out reads back as the reply with this id, and with the code, the
-- answer and the precision that the execution left
new_read : (s : State) (id : ℕ) (call : Call) → id < 8 → (let x = exec s call in reply_at (executed_line id x) ≡ Ok (reply_of id x.rc x.answer x.state.precision))
new_read s id call digit = let x = exec s call in reply_back (reply_of id x.rc x.answer x.state.precision) (record { rc_com = lit< tt; id = digit; rc = (exec_outcome s call).code })

-- for an id below 8, the reply line to a call that was carried out is a reply with this id, and so may be kept with it
new_kept : (s : State) (id : ℕ) (call : Call) → id < 8 → IsFittingReply (record { id = id; line = executed_line id (exec s call) })
new_kept s id call digit =
    let x = exec s call in
    record {
      fields = reply_of id x.rc x.answer x.state.precision;
      is_reply =
          reply_found (executed_line id x) (reply_of id x.rc x.answer x.state.precision) (new_read s id call digit);
      same_id = refl;
    }

-- `IsExchange` holds with those states as the good ones whose kept reply, if any, reads as one with the id
-- that it is kept with (`KeptFits`)
pub kept_exchange : IsExchange ends KeptFits
kept_exchange =
    record {
      reads = λ s id call good digit. elim (some_line_or_none (kept_line s.kept (Some id))) [
        | inl h ↦ ap (λ (x : Handed State). heard x.reply) (handed_again s id call h.0 h.1) ∙ kept_heard s.kept id h.0 h.1 good
        | inr e ↦ ap (λ (x : Handed State). heard x.reply) (handed_new s id call e) ∙ ap id_in (new_read s id call digit)
      ];
      stays_good = λ s id call good digit. elim (some_line_or_none (kept_line s.kept (Some id))) [
        | inl h ↦ subst (λ (x : Handed State). KeptFits x.state) (sym (handed_again s id call h.0 h.1)) good
        | inr e ↦ subst (λ (x : Handed State). KeptFits x.state) (sym (handed_new s id call e)) (new_kept s id call digit)
      ];
      restart_good = λ s good. tt;
    }

-- `IsExchange` holds with the fitting states as the good ones: the client reads in each reply the id of its request, and the
-- instrument's state stays fitting, also over a restart
pub exchange : IsExchange ends IsFittingState
exchange =
    record {
      reads = λ s id call good digit. kept_exchange.reads s id call good.kept digit;
      stays_good = λ s id call good digit. elim (some_line_or_none (kept_line s.kept (Some id))) [
        | inl h ↦ subst (λ (x : Handed State). IsFittingState x.state) (sym (handed_again s id call h.0 h.1)) good
        | inr e ↦ subst (λ (x : Handed State). IsFittingState x.state) (sym (handed_new s id call e)) (fits_kept (exec s call).state _ ((exec_outcome s call).fits good) (new_kept s id call digit))
      ];
      restart_good = restarted_fits;
    }

-- the instrument keeps its last reply as `IsKeeper` asks, in whatever states: a request with the kept id gets the kept line, and
-- any other is executed
pub keeper : (Good : State → Type 0) → IsKeeper ends Good kept_of
keeper Good =
    record {
      twice = λ s. refl;
      forgets = λ s. refl;
      again = λ s id call line good e. handed_again s id call line e;
      executes = λ s id call good e. ap (λ (x : Handed State). x.executed) (handed_new s id call e);
      keeps = λ s id call good e. subst (λ (x : Handed State). x.state.kept ≡ Some (record { id = id; line = x.reply })) (sym (handed_new s id call e)) refl;
    }

-- a request that was executed didn't have the kept id
executed_id_is_new : (s : State) (id : ℕ) (call : Call) → (handed s id call).executed ≡ true → kept_line s.kept (Some id) ≡ None
executed_id_is_new s id call e = elim (some_line_or_none (kept_line s.kept (Some id))) [
  | inl h ↦ let wrong : false ≡ true = sym (ap (λ (x : Handed State). x.executed) (handed_again s id call h.0 h.1)) ∙ e in let never : ⊥ = cc in absurd never
  | inr none ↦ none
]

-- apart from the kept reply, the state after a request was executed is the one after carrying out its call
pub without_kept_after : (s : State) (id : ℕ) (call : Call) → (handed s id call).executed ≡ true → without_kept (handed s id call).state ≡ (exec (without_kept s) call).state
without_kept_after s id call e =
    ap (λ (x : Handed State). without_kept x.state) (handed_new s id call (executed_id_is_new s id call e))
    ∙ sym (ap (λ (x : Executed). x.state) (executes_apart s None call))

-- the reply to a request that was executed is the reply line of carrying out its call in the state with nothing kept
pub line_without_kept : (s : State) (id : ℕ) (call : Call) → (handed s id call).executed ≡ true → (handed s id call).reply ≡ executed_line id (exec (without_kept s) call)
line_without_kept s id call e =
    ap (λ (x : Handed State). x.reply) (handed_new s id call (executed_id_is_new s id call e))
    ∙ sym (ap (λ (x : Executed). executed_line id x) (executes_apart s None call))

-- where the state s, without its kept reply, is t, it still is once both were restarted (b true), and also if neither was
pub without_kept_restarted : (b : Bool) (s t : State) → without_kept s ≡ t → without_kept (restarted_if restarted b s) ≡ restarted_if restarted b t
without_kept_restarted false s t e = e
without_kept_restarted true s t e = ap restarted e

-- where the kept line for an id (`kept_line`) is this one, this line is kept, with that id
pub kept_line_is_kept : (k : Option KeptReply) (id : ℕ) (line : List ℕ) → kept_line k (Some id) ≡ Some line → k ≡ Some (record { id = id; line = line })
kept_line_is_kept None id line e = absurd (none-some line e)
kept_line_is_kept (Some k) id line e =
    let c = cond_some (eqb k.id id) k.line line e in
    ap (λ i. Some (record { id = i; line = k.line })) (eqb-true k.id id c.0) ∙ ap (λ l. Some (record { id = id; line = l })) c.1

-- the line that an instrument sends again for an id, if it sends lines again at all (b), is kept with that id
pub again_kept : (b : Bool) (k : Option KeptReply) (id : ℕ) (line : List ℕ) → cond b (kept_line k (Some id)) None ≡ Some line
    → k ≡ Some (record { id = id; line = line })
again_kept true k id line e = kept_line_is_kept k id line e
again_kept false k id line e = absurd (none-some line e)

-- the line of a reply with codes of 16 bits and an id below 8 reads as a reply with that id
pub reply_heard : (rc_com id rc : ℕ) (params : List ℕ) → rc_com < 65536 → id < 8 → rc < 65536
    → heard (reply_text (record { rc_com = rc_com; id = Some id; rc = rc; params = params })) ≡ Some id
reply_heard rc_com id rc params sent digit code =
    ap id_in (reply_back (record { rc_com = rc_com; id = Some id; rc = rc; params = params }) (record { rc_com = sent; id = digit; rc = code }))

-- where `line` reads as a reply with this id, so does what is kept once a request with the id was answered with `line`: that
-- line, where the instrument sends kept lines again (b true), and else nothing, which needn't read as anything
pub kept_reads : (b : Bool) (id : ℕ) (line : List ℕ) (k : Option KeptReply) → heard line ≡ Some id → ReadsWithItsId (cond b (kept_after k (Some id) line) None)
kept_reads true id line k h = h
kept_reads false id line k h = tt

-- where no line is kept for an id (`kept_line`), no reply is kept with that id
pub id_is_not_kept : (k : Option KeptReply) (id : ℕ) → kept_line k (Some id) ≡ None → kept_id k ≡ Some id → ⊥
id_is_not_kept None id e is = cc
id_is_not_kept (Some k) id e is =
    let same : k.id ≡ id = same_Some k.id id is in
    let yes : eqb k.id id ≡ true = eq-eqb k.id id same in
    none-some k.line (sym e ∙ ap (λ b. cond b (Some k.line) None) yes)

-- where `after` is the state after a request was handed to the instrument, what the stored ids tell (`TellsExecution`) is whether it
-- was executed
told_executed : (s : State) (id : ℕ) (call : Call) (after : State) (told : Bool) → after ≡ (handed s id call).state
    → TellsExecution true (kept_id s.kept) (kept_id after.kept) told → told ≡ (handed s id call).executed
told_executed s id call after told is h =
    let same : kept_id after.kept ≡ kept_id (handed s id call).state.kept = ap (λ (t : State). kept_id t.kept) is in
    elim (some_line_or_none (kept_line s.kept (Some id))) [
      | inl again ↦
          let did = handed_again s id call again.0 again.1 in
          h.same refl (sym (same ∙ ap (λ (x : Handed State). kept_id x.state.kept) did)) ∙ ap (λ (x : Handed State). x.executed) (sym did)
      | inr none ↦
          let did = handed_new s id call none in
          h.another (λ e. id_is_not_kept s.kept id none (e ∙ same ∙ ap (λ (x : Handed State). kept_id x.state.kept) did)) ∙ ap (λ (x : Handed State). x.executed) (sym did)
    ]

-- where the reply to a request, if there is one (b true), was appended to the empty text, the state, this text and what the stored
-- ids tell are those that `handed` says
pub handed_over : (s after : State) (id : ℕ) (call : Call) (new : List ℕ) (b told : Bool) → AppendsAnswer (IsExchanged s id call after) [] new b
    → TellsExecution true (kept_id s.kept) (kept_id after.kept) told → IsHandedOver (handed s id call) after new told
handed_over s after id call new true told h tells =
    let line : new ≡ (handed s id call).reply = h.2 ∙ same_Some h.0 (handed s id call).reply h.1.line in
    record { state = h.1.state; line = line; plain = subst IsPlain (sym line) h.1.plain; is_executed = told_executed s id call after told h.1.state tells }
handed_over s after id call new false told h tells = absurd (none-some (handed s id call).reply h.0.line)

-- the reading of an execution is a value or a refusal
fine_reading : (x : Executed) → IsValueOrRefusal (reading_of x)
fine_reading x = cond_both (eqb x.rc 0) (Value (rounded_answer x.state.precision x.answer)) (Refused x.rc) IsValueOrRefusal (λ _. tt) (λ _. tt)

-- a reply that was made on executing a call that fits, in a fitting state, reads as a value or a refusal
pub fine : RepliesAreFine
fine call bytes reading made fits read =
    let a = handed_answered made.state made.id call made.good made.small fits (executed_id_is_new made.state made.id call made.executed) in
    let same : a.fields ≡ read.reply = one_reply bytes a.fields read.reply (subst (λ (l : List ℕ). IsReply l a.fields) (sym made.reply) a.is_reply) read.is_reply in
    let one : reading_of (exec made.state call) ≡ reading = one_reading call read.reply _ reading (subst (λ f. IsReading call f (reading_of (exec made.state call))) same a.reading) read.is_reading in
    subst IsValueOrRefusal one (fine_reading (exec made.state call))
