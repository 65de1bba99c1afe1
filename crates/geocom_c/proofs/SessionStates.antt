-- Sessions and the bytes of their states.
use Rattle.geocom_c.proofs.Common.{◌≡◌, ◌∙◌, ℕ, drop, ap, Asked, the_word, ById, Session, Settings, Standing, HoldsStanding, KeepsAnswered, GeocomSession, GeocomClient}

-- settings with the numbers of `x` are `x`
pub same_settings : (width timeout quiet : ℕ) (x : Settings) → width ≡ x.width → timeout ≡ x.timeout → quiet ≡ x.quiet
    → (let y : Settings = record { width = width; timeout = timeout; quiet = quiet } in y) ≡ x
same_settings width timeout quiet x a b c =
    ap (λ w. let y : Settings = record { width = w; timeout = timeout; quiet = quiet } in y) a
    ∙ ap (λ t. let y : Settings = record { width = x.width; timeout = t; quiet = quiet } in y) b
    ∙ ap (λ q. let y : Settings = record { width = x.width; timeout = x.timeout; quiet = q } in y) c

-- a session with the parts of `s` is `s`
pub same_session : (settings : Settings) (standing : Standing) (client : ById Asked) (s : Session) → settings ≡ s.settings → standing ≡ s.standing
    → client ≡ s.client → (let t : Session = record { settings = settings; standing = standing; client = client } in t) ≡ s
same_session settings standing client s a b c =
    ap (λ (x : Settings). let t : Session = record { settings = x; standing = standing; client = client } in t) a
    ∙ ap (λ (x : Standing). let t : Session = record { settings = s.settings; standing = x; client = client } in t) b
    ∙ ap (λ (x : ById Asked). let t : Session = record { settings = s.settings; standing = s.standing; client = x } in t) c

-- a standing stays in a state whose client and settings are others, if as many null procedures are answered
pub standing_stays : (s : GeocomSession) (t : Standing) (client : GeocomClient) (width timeout quiet : ℕ) → KeepsAnswered s.client client → HoldsStanding s t
    → HoldsStanding (record s { client = client; width = width; timeout = timeout; settle = quiet }) t
standing_stays s t client width timeout quiet answered h = record {
  phase = h.phase;
  moment = h.moment;
  patience = h.patience;
  stretch = h.stretch;
  sign_ons = h.sign_ons;
  has_asked = h.has_asked;
  rests = h.rests;
  listened = h.listened;
  exchange = record {
    word = ap (λ n. drop n the_word) answered ∙ h.exchange.word;
    again = h.exchange.again;
    hold = h.exchange.hold;
    since = h.exchange.since;
    alive = h.exchange.alive;
    asked = h.exchange.asked;
    pause = h.exchange.pause;
    behind = h.exchange.behind;
    last_ended = h.exchange.last_ended;
    doubtful = h.exchange.doubtful;
    counts = h.exchange.counts;
  };
}
