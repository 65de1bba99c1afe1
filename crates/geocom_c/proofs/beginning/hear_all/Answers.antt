use Rattle.geocom_c.proofs.Common.{rules, ◌≡◌, ◌++◌, ◌∙◌, List, ℕ, [], take, drop, length, refl, ap, nil_from_length, position, unanswered_after, is_line_feed, frame_of, left_past, kept_bytes}
use Rattle.geocom_c.proofs.Answering.{synchronizes_in_turn, HasLeft}
use Rattle.geocom_c.proofs.Hearings.{by_place, heard_all, heard_none, heard_on, heard_some, nothing_left}
use Rattle.geocom_c.proofs.beginning.hear_all.Goals as goal

pub hear_line-used-requires : goal.hear_line-used-requires
hear_line-used-requires c = (c.loop-left.invariant (kept_bytes c.args.rest.now) (record { valid = c.requires; same = λ more. refl })).stands.0.valid

pub loop-left-preserved : goal.loop-left-preserved
loop-left-preserved c = λ r is.
    let f = c.loop-left.invariant r is in
    let line = c.hear_line-used in
    let bytes = c.loop-left.left.now in
    let left = c.bytes_from-left.ensures in
    let Old : List ℕ → List ℕ → Type 0 = HasLeft c.loop-left.rest c.loop-left.beginning in
    let New : List ℕ → List ℕ → Type 0 = HasLeft line.new.rest line.new.beginning in
    heard_on unanswered_after Old New c.args.beginning.now r c.args.bytes.now bytes c.bytes_from-left.result.now f
    (by_place (position is_line_feed bytes)
    (λ e. let told = line.ensures.more f.now f.stands.0 e in
    heard_none unanswered_after left_past synchronizes_in_turn New f.reached f.now bytes c.bytes_from-left.result.now e
    (left ∙ nothing_left bytes line.result told.0) (told.1.0, told.1.1 ∙ f.stands.1))
    (λ at e. let told = line.ensures.frame f.now at f.stands.0 e in
    heard_some unanswered_after left_past synchronizes_in_turn New f.reached f.now bytes c.bytes_from-left.result.now at e
    (left ∙ ap (λ n. drop n bytes) told.0) (told.1.0, told.1.1 ∙ ap (λ ids. left_past ids (frame_of (f.now ++ take at bytes))) f.stands.1)))

pub returns : goal.returns
returns c = λ r is.
    let n : length c.loop-left.left.now ≡ 0 = search rules in
    let none : c.loop-left.left.now ≡ [] = nil_from_length c.loop-left.left.now n in
    heard_all unanswered_after left_past synchronizes_in_turn (HasLeft c.loop-left.rest c.loop-left.beginning) c.args.beginning.now r c.args.bytes.now c.loop-left.left.now
    (c.loop-left.invariant r is) none
