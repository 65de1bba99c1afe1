use Rattle.geocom_c.proofs.Common.{rules, ◌≡◌, ◌∙◌, sym, ap, subst, Asked, Windowed, FeedsFirstLine, FeedsUnended, HasRoomToSettle, feed_effect, GeocomHeard, NO_CLIENT, same_Some}
use Rattle.geocom_c.proofs.feeding.geocom_client_feed.Goals as goal

pub returns-in-Some-clause-more : goal.returns-in-Some-clause-more
returns-in-Some-clause-more c = λ room c' rest s.
    subst (λ (d : Windowed Asked). FeedsUnended d c.args.bytes.now c.args.state.now c.feed.new.state c.feed.result)
    (same_Some c.in-Some.client c' (sym c.in-Some.is ∙ c.load.ensures.only c' rest s)) c.feed.ensures.more rest s

pub returns-in-Some-clause-frame : goal.returns-in-Some-clause-frame
returns-in-Some-clause-frame c = λ room c' rest at s.
    subst (λ (d : Windowed Asked). FeedsFirstLine d c.args.bytes.now c.args.state.now c.feed.new.state (feed_effect c.feed.result c.feed.new.settlements c.feed.new.text))
    (same_Some c.in-Some.client c' (sym c.in-Some.is ∙ c.load.ensures.only c' rest s)) c.feed.ensures.frame rest at s

pub returns-in-Some-clause-astray : goal.returns-in-Some-clause-astray
returns-in-Some-clause-astray c = (λ e. let zero : 0 ≡ NO_CLIENT = sym c.feed.ensures.fault ∙ e in cc, λ both. absurd (both.1 _ _ c.in-Some.ensures.found))

pub returns-in-None-clause-more : goal.returns-in-None-clause-more
returns-in-None-clause-more c = λ room c' rest s. absurd (c.load.ensures.none c.in-None.is c' rest s)

pub returns-in-None-clause-frame : goal.returns-in-None-clause-frame
returns-in-None-clause-frame c = λ room c' rest at s. absurd (c.load.ensures.none c.in-None.is c' rest s)

pub returns-in-None-clause-astray : goal.returns-in-None-clause-astray
returns-in-None-clause-astray c =
    let room : HasRoomToSettle c.args.settlements.now c.args.text.now = search (rules, c.has_room_to_settle.ensures) in
    (λ _. (room, c.load.ensures.none c.in-None.is), λ _. ap (λ (x : GeocomHeard). x.fault) c.unheard-in-None.ensures)
