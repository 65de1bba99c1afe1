use Rattle.geocom_c.proofs.Common.{sym, ap, subst, Asked, Windowed, Settings, Standing, IsRest, HoldsStanding, StandsForClient, GeocomRest, GeocomClient}
use Rattle.geocom_c.proofs.SessionStates.{standing_stays}
use Rattle.geocom_c.proofs.session_state.store_session.Goals as goal

pub returns : goal.returns
returns c = λ rest is wide.
    let parts = c.into_parts-standing.ensures in
    let w = c.write_standing.new.state in
    let kept = c.write_standing.ensures.client in
    let before = subst (λ (r : GeocomRest). IsRest r rest) (sym (ap (λ (x : GeocomClient). x.rest) kept.same)) is in
    let settings = parts.settings in
    record {
      settings = record {
        width = ap (λ (x : Settings). x.width) settings;
        timeout = ap (λ (x : Settings). x.timeout) settings;
        quiet = ap (λ (x : Settings). x.quiet) settings;
        allowed = wide;
      };
      standing = subst (λ (t : Standing). HoldsStanding (record w {
        client = c.store.new.state;
        width = c.into_parts-standing.result.0.width;
        timeout = c.into_parts-standing.result.0.timeout;
        settle = c.into_parts-standing.result.0.quiet;
      }) t) parts.standing (standing_stays w _ c.store.new.state _ _ _ c.store.ensures.answered c.write_standing.ensures.standing);
      client = subst (λ (d : Windowed Asked). StandsForClient c.store.new.state d rest) parts.client (c.store.ensures.client rest before kept.answered);
    }
