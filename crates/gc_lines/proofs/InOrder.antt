-- Lists of items, such as frames, that are answered one after the other: the state after them, and what is written. In the
-- lemmas, in the order of the run: s, t, u are the answerer's states, or how far the run has come (`Progress`).
use Rattle.gc_lines.proofs.Common.{◌≡◌, ℕ, ◌+◌, List, [], ◌∷◌, ◌++◌, take, Option, Some, refl, sym, ap, ◌∙◌, subst, arith, append_assoc, length-append, option_to_list, append-nil, Appends-trans, Appends-nil, AnswerRule, AnswersInOrder, AnswersAll, AnswersPart, Progress, all_of, TakesFront, Frame}
use Rattle.std.proofs.lemmas.Grind.{flat_map-append}
use Rattle.gc_lines.proofs.Known.{Appends-is}

-- if answering the items xs takes the state from s to t with the texts ps, and answering ys takes it from t to u with the
-- texts qs, answering `xs ++ ys` takes it from s to u with the texts `ps ++ qs`
pub in_order_then : {State Item : Type 0} (rule : AnswerRule State Item) (s t u : State) (xs ys : List Item) (ps qs : List (List ℕ))
    → AnswersInOrder State Item rule s xs t ps → AnswersInOrder State Item rule t ys u qs → AnswersInOrder State Item rule s (xs ++ ys) u (ps ++ qs)
in_order_then {State} {Item} rule s t u [] ys ps qs first next =
    rw first.1 (subst (λ (v : State). AnswersInOrder State Item rule v ys u qs) first.0 next)
in_order_then {State} {Item} rule s t u (x ∷ xs) ys ps qs first next = (
  first.0,
  first.1,
  first.2 ++ qs,
  first.3,
  in_order_then rule first.0 t u xs ys first.2 qs first.4 next,
  ap (λ (zs : List (List ℕ)). zs ++ qs) first.5 ∙ append_assoc (option_to_list first.1) first.2 qs,
)

-- if the rule answers one item, the list of that item alone is answered in order, with the item's text, if any, as the only text
pub in_order_one : {State Item : Type 0} (rule : AnswerRule State Item) (s t : State) (item : Item) (text : Option (List ℕ)) → rule s item t text
    → AnswersInOrder State Item rule s (item ∷ []) t (option_to_list text)
in_order_one rule s t item text h = (t, text, [], h, (refl, refl), sym (append-nil (option_to_list text)))

-- what is written of the texts `xs ++ ys` is what is written of xs, and then what is written of ys
pub all_of-append : (xs ys : List (List ℕ)) → all_of (xs ++ ys) ≡ all_of xs ++ all_of ys
all_of-append xs ys = flat_map-append (λ text. text) xs ys

-- `AnswersAll` is true of no frames, with the same progress before and after
pub no_frames_answered : {State : Type 0} (rule : AnswerRule State Frame) (here : Progress State) → AnswersAll rule here here []
no_frames_answered rule here = record { texts = []; answers = (refl, refl); counts = omega arith; took = Appends-nil here.taken }

-- if all frames xs were answered, and then all frames ys, all frames `xs ++ ys` were answered
pub all_then : {State : Type 0} (rule : AnswerRule State Frame) (s t u : Progress State) (xs ys : List Frame)
    → AnswersAll rule s t xs → AnswersAll rule t u ys → AnswersAll rule s u (xs ++ ys)
all_then rule s t u xs ys first next = record {
  texts = first.texts ++ next.texts;
  answers = in_order_then rule s.state t.state u.state xs ys first.texts next.texts first.answers next.answers;
  counts = omega (arith, first.counts, next.counts, length-append first.texts next.texts);
  took = Appends-is s.taken u.taken _ _ (sym (all_of-append first.texts next.texts)) (Appends-trans s.taken t.taken u.taken _ _ first.took next.took);
}

-- if all frames xs were answered, and then the frames ys up to one whose text went out in part, the frames `xs ++ ys` were
-- answered up to that one
pub part_then : {State : Type 0} (rule : AnswerRule State Frame) (s t u : Progress State) (xs ys : List Frame) (bytes : ℕ)
    → AnswersAll rule s t xs → AnswersPart rule t u ys bytes → AnswersPart rule s u (xs ++ ys) bytes
part_then rule s t u xs ys bytes first part =
    let end = take bytes part.text in
    record {
      earlier = xs ++ part.earlier;
      frame = part.frame;
      later = part.later;
      order = ap (λ zs. xs ++ zs) part.order ∙ sym (append_assoc xs part.earlier (part.frame ∷ part.later));
      state = part.state;
      texts = first.texts ++ part.texts;
      answers = in_order_then rule s.state t.state part.state xs part.earlier first.texts part.texts first.answers part.answers;
      text = part.text;
      gives = part.gives;
      counts = omega (arith, first.counts, part.counts, length-append first.texts part.texts);
      not_all = part.not_all;
      took = Appends-is s.taken u.taken _ _
          (sym (ap (λ zs. zs ++ end) (all_of-append first.texts part.texts) ∙ append_assoc (all_of first.texts) (all_of part.texts) end))
          (Appends-trans s.taken t.taken u.taken _ _ first.took part.took);
    }

-- if `AnswersPart` is true of the frames xs, it is true of `xs ++ ys`: frames after the one whose text was cut change nothing
pub part_with_later : {State : Type 0} (rule : AnswerRule State Frame) (s u : Progress State) (xs ys : List Frame) (bytes : ℕ)
    → AnswersPart rule s u xs bytes → AnswersPart rule s u (xs ++ ys) bytes
part_with_later rule s u xs ys bytes part = record {
  earlier = part.earlier;
  frame = part.frame;
  later = part.later ++ ys;
  order = ap (λ zs. zs ++ ys) part.order ∙ append_assoc part.earlier (part.frame ∷ part.later) ys;
  state = part.state;
  texts = part.texts;
  answers = part.answers;
  text = part.text;
  gives = part.gives;
  counts = part.counts;
  not_all = part.not_all;
  took = part.took;
}

-- if the rule answers a frame with a text, of which the sink took only the first `bytes` bytes, and no more text went out
-- whole, `AnswersPart` is true of the list of that frame alone
pub one_part : {State : Type 0} (rule : AnswerRule State Frame) (s u : Progress State) (frame : Frame) (text : List ℕ) (bytes : ℕ)
    → rule s.state frame u.state (Some text) → TakesFront s.taken u.taken bytes text → u.whole ≡ s.whole → AnswersPart rule s u (frame ∷ []) bytes
one_part rule s u frame text bytes gives took same = record {
  earlier = [];
  frame = frame;
  later = [];
  order = refl;
  state = s.state;
  texts = [];
  answers = (refl, refl);
  text = text;
  gives = gives;
  counts = omega (arith, same);
  not_all = took.0;
  took = took.1;
}
