use Rattle.geocom_c.proofs.Common.{rules, ◌≡◌, ◌≢◌, [], ◌∷◌, ◌∙◌, drop, sym, ap, subst, inl, inr, rest_behind, Asked, Table, Raw, RawCall, IsAsked, IsCall, no_refusal, the_word, Windowed, sends, course_after, left_by_restart, left_by_bytes, StandsForClient, left_of, hearing, CallsReach, MadeBut, StateCall, WINDOW_FULL, NOT_BEGUN, GeocomClient}
use Rattle.gc_catalogue.specs.declared.call.Call.{Call}
use Rattle.geocom_c.proofs.Clients.{never_refused}
use Rattle.geocom_c.proofs.Hearings.{by_equality, sent_course}
use Rattle.gc_client.specs.OneForOne as one
use Rattle.geocom_c.proofs.following.make_call.Goals as goal

pub returns-in-Begin : goal.returns-in-Begin
returns-in-Begin c = λ width s calls at.
    let b = c.geocom_client_synchronize.ensures.heard (search rules) (record { width = width; ids = s.reached.client }) s.rest at.stands in
    record {
      stage = record s { rest = rest_behind s.rest c.in-Begin.bytes.now; left = left_by_bytes s.left s.rest c.in-Begin.bytes.now };
      at = record { stands = b.1; left = b.2 ∙ ap (λ l. left_by_bytes l s.rest c.in-Begin.bytes.now) at.left };
      on = λ t f. subst (λ (e : StateCall). CallsReach width s (e ∷ calls) t) (sym c.in-Begin.is) f;
    }

pub returns-in-Feed : goal.returns-in-Feed
returns-in-Feed c = λ width s calls at. record {
  stage = record s { reached = hearing width s.reached s.rest c.in-Feed.bytes.now; rest = rest_behind s.rest c.in-Feed.bytes.now };
  at = record { stands = c.feed_all.ensures.fed width s.reached s.rest at.stands; left = ap (λ n. drop n the_word) c.feed_all.ensures.answered ∙ at.left };
  on = λ t f. subst (λ (e : StateCall). CallsReach width s (e ∷ calls) t) (sym c.in-Feed.is) f;
}

pub returns-in-Expire : goal.returns-in-Expire
returns-in-Expire c = λ width s calls at. record {
  stage = record s { reached = course_after width s.reached (one.Expire c.in-Expire.now) };
  at = record {
    stands = (c.geocom_client_expire.ensures.expired (search rules) (record { width = width; ids = s.reached.client }) s.rest at.stands).stands;
    left = ap (λ n. drop n the_word) c.geocom_client_expire.ensures.answered ∙ at.left;
  };
  on = λ t f. subst (λ (e : StateCall). CallsReach width s (e ∷ calls) t) (sym c.in-Expire.is) f;
}

pub returns-in-Restart : goal.returns-in-Restart
returns-in-Restart c = λ width s calls at.
    let r = c.geocom_client_restart.ensures.restarted (search rules) (record { width = width; ids = s.reached.client }) s.rest at.stands in
    record {
      stage = record { reached = course_after width s.reached one.Restart; rest = []; left = left_by_restart s.left };
      at = record { stands = r.stands; left = c.geocom_client_restart.ensures.begins r.fault ∙ ap left_by_restart at.left };
      on = λ t f. subst (λ (e : StateCall). CallsReach width s (e ∷ calls) t) (sym c.in-Restart.is) f;
    }

pub returns-in-Send : goal.returns-in-Send
returns-in-Send c = λ width s calls at.
    let client : Windowed Asked = record { width = width; ids = s.reached.client } in
    let sent = c.geocom_client_send in
    let did = sent.ensures.sends in
    let n = sent.result.fault in
    let answered = ap (λ n. drop n the_word) did.answered in
    let by : (call : Call) → left_of c.args.state.now ≡ [] → IsCall c.in-Send.procedure c.in-Send.params.now call
    → MadeBut width s (c.args.call.now ∷ calls) sent.new.state calls = λ call begun is. record {
      stage = record s { reached = course_after width s.reached (one.Send c.in-Send.target (Table call) c.in-Send.deadline) };
      at = record {
        stands = sent_course width s.reached s.rest (Table call) c.in-Send.target (sends width s.reached.client c.in-Send.target (Table call) c.in-Send.deadline)
            (record { old = c.args.state.now; new = sent.new.state; before = _; after = sent.new.line; told = sent.result }) at.stands
            (did.sent (search rules) client s.rest call at.stands begun is);
        left = answered ∙ at.left;
      };
      on = λ t f. subst (λ (e : StateCall). CallsReach width s (e ∷ calls) t) (sym c.in-Send.is) (inl (call, sym at.left ∙ begun, is, f));
    } in
    let none : n ≢ 0 → (s.left ≡ [] → (call : Call) → IsCall c.in-Send.procedure c.in-Send.params.now call → ⊥)
    → MadeBut width s (c.args.call.now ∷ calls) sent.new.state calls = λ no never. record {
      stage = s;
      at = record { stands = subst (λ (t : GeocomClient). StandsForClient t client s.rest) (sym (did.refused no).1) at.stands; left = answered ∙ at.left };
      on = λ t f. subst (λ (e : StateCall). CallsReach width s (e ∷ calls) t) (sym c.in-Send.is) (inr (never, f));
    } in
    by_equality n 0 (λ e. let d = did.done e in by d.asked d.begun d.is)
    (λ no. by_equality n WINDOW_FULL (λ e. let d = did.full e in by d.asked d.begun d.is)
    (λ not_full. by_equality n NOT_BEGUN (λ e. none no (λ begun call is. did.begun e (at.left ∙ begun)))
    (λ begun. let r = did.refusal (no, not_full, (λ e. let short = did.room.0 e in absurd (search rules)), (λ e. absurd ((did.astray.0 e).1 client s.rest at.stands)), begun) in
    none no (λ left call is. no_refusal _ _ call r.0 is r.1))))

pub returns-in-SendRaw : goal.returns-in-SendRaw
returns-in-SendRaw c = λ width s calls at.
    let client : Windowed Asked = record { width = width; ids = s.reached.client } in
    let sent = c.geocom_client_send_raw in
    let did = sent.ensures.sends in
    let n = sent.result.fault in
    let answered = ap (λ n. drop n the_word) did.answered in
    let by : (raw : RawCall) → left_of c.args.state.now ≡ [] → IsAsked c.in-SendRaw.procedure c.in-SendRaw.params.now (Raw raw)
    → MadeBut width s (c.args.call.now ∷ calls) sent.new.state calls = λ raw begun is. record {
      stage = record s { reached = course_after width s.reached (one.Send c.in-SendRaw.target (Raw raw) c.in-SendRaw.deadline) };
      at = record {
        stands = sent_course width s.reached s.rest (Raw raw) c.in-SendRaw.target (sends width s.reached.client c.in-SendRaw.target (Raw raw) c.in-SendRaw.deadline)
            (record { old = c.args.state.now; new = sent.new.state; before = _; after = sent.new.line; told = sent.result }) at.stands
            (did.sent (search rules) client s.rest raw at.stands begun is);
        left = answered ∙ at.left;
      };
      on = λ t f. subst (λ (e : StateCall). CallsReach width s (e ∷ calls) t) (sym c.in-SendRaw.is) (inl (raw, sym at.left ∙ begun, is, f));
    } in
    let none : n ≢ 0 → (s.left ≡ [] → (raw : RawCall) → IsAsked c.in-SendRaw.procedure c.in-SendRaw.params.now (Raw raw) → ⊥)
    → MadeBut width s (c.args.call.now ∷ calls) sent.new.state calls = λ no never. record {
      stage = s;
      at = record { stands = subst (λ (t : GeocomClient). StandsForClient t client s.rest) (sym (did.refused no).1) at.stands; left = answered ∙ at.left };
      on = λ t f. subst (λ (e : StateCall). CallsReach width s (e ∷ calls) t) (sym c.in-SendRaw.is) (inr (never, f));
    } in
    by_equality n 0 (λ e. let d = did.done e in by d.asked d.begun d.is)
    (λ no. by_equality n WINDOW_FULL (λ e. let d = did.full e in by d.asked d.begun d.is)
    (λ not_full. by_equality n NOT_BEGUN (λ e. none no (λ begun call is. did.begun e (at.left ∙ begun)))
    (λ begun. let r = did.refusal (no, not_full, (λ e. let short = did.room.0 e in absurd (search rules)), (λ e. absurd ((did.astray.0 e).1 client s.rest at.stands)), begun) in
    none no (λ left raw is. never_refused _ _ raw r.0 is r.1))))
