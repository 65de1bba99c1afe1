use Rattle.geocom_c.proofs.Common.{◌≡◌, ◌∙◌, drop, sym, ap, inl, inr, arith, cases_lt, the_word, left_by_bytes, NO_CLIENT}
use Rattle.geocom_c.specs.declared.answers.GeocomBeginning.{GeocomBeginning}
use Rattle.geocom_c.proofs.Answering.{none_left_at_eight, some_left_below_eight}
use Rattle.geocom_c.proofs.beginning.geocom_client_synchronize.Goals as goal

pub returns-in_default-clause-heard : goal.returns-in_default-clause-heard
returns-in_default-clause-heard c = λ room c' rest s. absurd (c.in_default.not-Some c' (c.load.ensures.only c' rest s))

pub returns-in_default-clause-astray : goal.returns-in_default-clause-astray
returns-in_default-clause-astray c = (λ _. (c.if-line-lt-LINE_ROOM.false, c.load.ensures.none c.in_default.is), λ _. ap (λ (x : GeocomBeginning). x.fault) c.unbegun-in_default.ensures)

pub returns-clause-heard : goal.returns-clause-heard
returns-clause-heard c = λ room c' rest s.
    let told = c.hear_all.ensures rest s.incomplete in
    let left = sym c.answered.ensures.answered ∙ told.1 ∙ ap (λ l. left_by_bytes l rest c.args.bytes.now) (c.resume-beginning.ensures ∙ ap (λ n. drop n the_word) c.from.ensures) in (
      c.synchronizing.ensures.fault,
      record {
        width = s.width;
        next = s.next;
        waiting = s.waiting;
        head = record { width = s.head.width; next = s.head.next; few = s.head.few; answered = c.answered.ensures.within };
        places = s.places;
        incomplete = told.0;
      },
      left,
    )

pub returns-clause-astray : goal.returns-clause-astray
returns-clause-astray c = (λ e. let zero : 0 ≡ NO_CLIENT = sym c.synchronizing.ensures.fault ∙ e in cc, λ both. absurd (both.1 _ _ c.in-Some.ensures.found))

pub returns-clause-begun : goal.returns-clause-begun
returns-clause-begun c = λ _.
    let answered = c.answered.result in (
      (λ one. none_left_at_eight answered (let all = c.synchronizing.ensures.begun.0 one in omega (arith, all))),
      (λ none. c.synchronizing.ensures.begun.1 (elim (cases_lt answered 8) [
        | inl few ↦ absurd (some_left_below_eight answered few none)
        | inr many ↦ let most = c.answered.ensures.within in omega (arith, many, most)
      ])),
    )
