-- Frames that are fed: what a line feed makes of the bytes before it, and what is told of a frame.
use Rattle.geocom_c.proofs.Common.{◌≡◌, ℕ, ◌-◌, List, [], Bool, true, false, length, take, sym, ap, ◌∙◌, subst, Frame, Line, Cleared, Overlong, More, frame_of, ends_in_return, Asked, Settlement, Windowed, IsRest, StandsForClient, IsFedAs, IsInFront, feed_effect, unended, GeocomHeard, MORE, GeocomRest, GeocomSettlement, GeocomClient}
use Rattle.std.specs.Prelude.{if◌then◌else◌, nat_lt}

-- a frame that is chosen among `Overlong`, `Cleared` and l isn't `More`, if l isn't
chosen_not_more : (a b : Bool) (l : Frame) → (l ≡ More → ⊥) → (if a then (if b then Overlong else l) else Cleared) ≡ More → ⊥
chosen_not_more false b l other e = let bad : Cleared ≡ More = e in cc
chosen_not_more true true l other e = let bad : Overlong ≡ More = e in cc
chosen_not_more true false l other e = other e

-- what a line feed makes of the bytes before it is never `More`
pub never_more : (bs : List ℕ) → frame_of bs ≡ More → ⊥
never_more bs e = chosen_not_more (ends_in_return bs) (nat_lt 512 (length bs - 1)) (Line (record { items = take (length bs - 1) bs })) (λ same. cc) e

-- if a state stands for a client, then with another rest (`IsRest`) it stands for the same client with the bytes of that rest
pub stands_with_rest : (s : GeocomClient) (r : GeocomRest) (c : Windowed Asked) (old new : List ℕ) → StandsForClient s c old → IsRest r new → StandsForClient (record s { rest = r }) c new
stands_with_rest s r c old new is rest =
    record {
      width = is.width;
      next = is.next;
      waiting = is.waiting;
      head = record { width = is.head.width; next = is.head.next; few = is.head.few; answered = is.head.answered };
      places = is.places;
      incomplete = rest;
    }

-- Here r is what is told of the frame f, which was fed (`IsFedAs`), and q is r with `used` bytes as those used. `kind` and `settles` say of
-- each frame its kind, and what it settles.
module _ (kind : Frame → ℕ) (settles : Frame → List (Settlement Asked)) (f : Frame) (r q : GeocomHeard) (records : List GeocomSettlement) (text : List ℕ) (used : ℕ)
    (same : q ≡ record r { used = used }) (is : IsFedAs (kind f) (settles f) f (feed_effect r records text)) where
  -- `IsFedAs` holds of q, too, also with an equal frame g in place of f
  pub fed_used : (g : Frame) → f ≡ g → IsFedAs (kind g) (settles g) g (feed_effect q records text)
  fed_used g e =
      subst (λ (h : Frame). IsFedAs (kind h) (settles h) h (feed_effect q records text)) e (record {
        fault = ap (λ (x : GeocomHeard). x.fault) same ∙ is.fault;
        kind = ap (λ (x : GeocomHeard). x.kind) same ∙ is.kind;
        line_fault = ap (λ (x : GeocomHeard). x.line_fault) same ∙ is.line_fault;
        count = ap (λ (x : GeocomHeard). x.count) same ∙ is.count;
        recorded = is.recorded;
        front = subst (λ (n : ℕ). IsInFront f n text) (sym (ap (λ (x : GeocomHeard). x.count) same)) is.front;
      })

  -- where f is `More`, which settles nothing, q is what is told of bytes without a line feed
  pub fed_unended : (n : ℕ) → kind More ≡ MORE → settles More ≡ [] → f ≡ More → used ≡ n → q ≡ unended n
  fed_unended n of_more none more e =
      let fed = subst (λ (g : Frame). IsFedAs (kind g) (settles g) g (feed_effect r records text)) more is in
      same
      ∙ ap (λ k. let x : GeocomHeard = record r { used = k } in x) e
      ∙ ap (λ k. let x : GeocomHeard = record { used = n; fault = k; count = r.count; kind = r.kind; line_fault = r.line_fault } in x) fed.fault
      ∙ ap (λ k. let x : GeocomHeard = record { used = n; fault = 0; count = k; kind = r.kind; line_fault = r.line_fault } in x) (fed.count ∙ ap length none)
      ∙ ap (λ k. let x : GeocomHeard = record { used = n; fault = 0; count = 0; kind = k; line_fault = r.line_fault } in x) (fed.kind ∙ of_more)
      ∙ ap (λ k. let x : GeocomHeard = record { used = n; fault = 0; count = 0; kind = MORE; line_fault = k } in x) fed.line_fault
