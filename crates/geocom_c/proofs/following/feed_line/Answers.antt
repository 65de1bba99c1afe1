use Rattle.geocom_c.proofs.Common.{rules, ℕ, List, [], ◌++◌, take, drop, ap, subst, position, is_line_feed, frame_of, Asked, Course, Windowed, hearing_lines, StandsForCourse, StandsForClient, GeocomHeard}
use Rattle.geocom_c.proofs.Hearings.{client_of_course, course_past, courses_in_turn, by_place, heard_none, heard_some, nothing_left}
use Rattle.geocom_c.proofs.following.feed_line.Goals as goal

pub returns-then-heard-ne0-clause-fed : goal.returns-then-heard-ne0-clause-fed
returns-then-heard-ne0-clause-fed c = λ width x rest s.
    let client : Windowed Asked = record { width = width; ids = x.client } in
    absurd (by_place (position is_line_feed c.args.bytes.now)
    (λ e. c.if-heard-ne0.true (ap (λ (h : GeocomHeard). h.fault) (c.geocom_client_feed-heard.ensures.more (record { for_records = search rules; for_text = search rules }) client rest s e).0))
    (λ at e. c.if-heard-ne0.true (c.geocom_client_feed-heard.ensures.frame (record { for_records = search rules; for_text = search rules }) client rest at s e).fed.fault))

pub returns-clause-fed : goal.returns-clause-fed
returns-clause-fed c = λ width x rest s.
    let client : Windowed Asked = record { width = width; ids = x.client } in
    let bytes = c.args.bytes.now in
    let heard = c.geocom_client_feed-heard in
    let New : Course Asked → List ℕ → Type 0 = StandsForCourse width heard.new.state in
    by_place (position is_line_feed bytes)
    (λ e. let told = heard.ensures.more (record { for_records = search rules; for_text = search rules }) client rest s e in
    heard_none (hearing_lines width) (course_past width) (courses_in_turn width) New x rest bytes _ e
    (nothing_left bytes heard.result.used (ap (λ (h : GeocomHeard). h.used) told.0)) told.1)
    (λ at e. let told = heard.ensures.frame (record { for_records = search rules; for_text = search rules }) client rest at s e in
    heard_some (hearing_lines width) (course_past width) (courses_in_turn width) New x rest bytes _ at e (ap (λ n. drop n bytes) told.used_is)
    (subst (λ (d : Windowed Asked). StandsForClient heard.new.state d []) (client_of_course width x (frame_of (rest ++ take at bytes))) told.stands))
