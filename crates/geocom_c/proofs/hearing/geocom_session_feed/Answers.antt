use Rattle.geocom_c.proofs.Common.{rules, ◌≡◌, ◌∙◌, ℕ, List, sym, ap, subst, arith, Session, HasRoomToSettle, feed_effect, FeedsSessionLine, FeedsSessionUnended, StandsForSession, GeocomHeard, same_Some}
use Rattle.geocom_c.proofs.hearing.geocom_session_feed.Goals as goal

pub returns-in-Some : goal.returns-in-Some
returns-in-Some c =
    let x = c.in-Some.session in
    let found = c.in-Some.ensures.found in
    let same : (s : Session) (rest : List ℕ) → StandsForSession c.args.state.now s rest → x ≡ s = λ s rest held. same_Some x s (sym c.in-Some.is ∙ c.load_session.ensures.only s rest held) in
    let room : HasRoomToSettle c.args.settlements.now c.args.text.now = search (rules, c.has_room_to_settle.ensures) in
    let none = c.feed.ensures.fault in
    record {
      more = λ _ s rest held unended.
          subst (λ (t : Session). FeedsSessionUnended t c.args.now c.args.bytes.now c.args.state.now c.feed.new.state c.feed.result) (same s rest held) c.feed.ensures.more rest held unended;
      frame = λ _ s rest at held ended.
          subst (λ (t : Session). FeedsSessionLine t c.args.now c.args.bytes.now c.args.state.now c.feed.new.state (feed_effect c.feed.result c.feed.new.settlements c.feed.new.text))
          (same s rest held) c.feed.ensures.frame rest at held ended;
      used = (c.feed.ensures.used.0, λ _. c.feed.ensures.used.1);
      room = (λ e. absurd (omega (arith, none, e)), λ short. absurd (short room));
      astray = (λ e. absurd (omega (arith, none, e)), λ both. absurd (both.1 _ _ found));
      done = λ _. (x, _, found);
      refused = λ some. absurd (some none);
      written = c.feed.ensures.written;
    }

pub returns-in-None : goal.returns-in-None
returns-in-None c =
    let astray = c.load_session.ensures.none c.in-None.is in
    let room : HasRoomToSettle c.args.settlements.now c.args.text.now = search (rules, c.has_room_to_settle.ensures) in
    let told = c.unheard-in-None.ensures in
    let fault = ap (λ (x : GeocomHeard). x.fault) told in
    record {
      more = λ _ s rest held. absurd (astray s rest held);
      frame = λ _ s rest at held. absurd (astray s rest held);
      used = search (rules, told);
      room = (λ e. absurd (omega (arith, fault, e)), λ short. absurd (short room));
      astray = (λ _. (room, astray), λ _. fault);
      done = λ e. absurd (omega (arith, fault, e));
      refused = search (rules, told);
      written = search (rules, told);
    }
