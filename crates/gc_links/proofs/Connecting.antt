-- The calls that connect to a peer, by their steps.
use Rattle.gc_links.proofs.Common.{◌≡◌, List, [], ◌∷◌, ◌++◌, map, sym, ap, ◌∙◌, subst, refl, append_assoc, append-nil, Result, Ok, Err, IfOk, map-append, SocketAddr, Peer, Wired, connect_call, Call, Makes, Address, Reached, Seeks, not_reached, ReachesFirst, none, ConnectsFirst, Connects}
use Rattle.gc_links.proofs.Making.{makes_one, makes_then}

-- a connection to the next address was made
pub reached_next : {old mid new : List Call} (addresses tried later : List SocketAddr) (address to : SocketAddr)
    → addresses ≡ tried ++ address ∷ later → mid ≡ old ++ map not_reached tried → new ≡ mid ++ Reached (Address address) ∷ []
    → to ≡ address → Makes old new (ReachesFirst addresses to)
reached_next {old = old} {new = new} addresses tried later address to split before made there =
    subst (λ a. Makes old new (ReachesFirst addresses a)) (sym there) (record {
      calls = map not_reached tried ++ Reached (Address address) ∷ [];
      added =
          made ∙ ap (λ xs. xs ++ Reached (Address address) ∷ []) before
          ∙ append_assoc old (map not_reached tried) (Reached (Address address) ∷ []);
      are = record { tried = tried; untried = later; addresses_are = split; calls_are = refl };
    })

-- the next address couldn't be reached
pub passed_next : (old mid new : List Call) (tried : List SocketAddr) (address : SocketAddr) → mid ≡ old ++ map not_reached tried
    → new ≡ mid ++ not_reached address ∷ [] → new ≡ old ++ map not_reached (tried ++ address ∷ [])
passed_next old mid new tried address before made =
    made ∙ ap (λ xs. xs ++ not_reached address ∷ []) before ∙ append_assoc old (map not_reached tried) (not_reached address ∷ [])
    ∙ ap (λ xs. old ++ xs) (sym (map-append not_reached tried (address ∷ [])))

-- one address more was tried
pub split_next : (addresses tried rest later : List SocketAddr) (address : SocketAddr) → addresses ≡ tried ++ rest
    → rest ≡ address ∷ later → addresses ≡ (tried ++ address ∷ []) ++ later
split_next addresses tried rest later address split next =
    split ∙ ap (λ xs. tried ++ xs) next ∙ sym (append_assoc tried (address ∷ []) later)

-- all addresses were tried
pub passed_all : {old new : List Call} (addresses tried rest : List SocketAddr) → addresses ≡ tried ++ rest → rest ≡ []
    → new ≡ old ++ map not_reached tried → Makes old new (λ calls. calls ≡ map not_reached addresses)
passed_all addresses tried rest split ends before = record {
  calls = map not_reached tried;
  added = before;
  are = ap (map not_reached) (sym (split ∙ ap (λ xs. tried ++ xs) ends ∙ append-nil tried));
}

module _ {E : Type 0} where
  -- the calls that find the addresses of a peer, and then those that try them
  pub found_then : (peer : Peer) (addresses : List SocketAddr) (looked reached : List Call) (result : Result Wired E)
      → Seeks peer addresses looked → ConnectsFirst addresses result reached → Connects peer result (looked ++ reached)
  found_then peer addresses looked reached (Ok wired) seeks tries =
      record { addresses = addresses; looked = looked; reached = reached; seeks = seeks; reaches = tries; calls_are = refl }
  found_then peer addresses looked reached (Err e) seeks tries = none addresses looked seeks (ap (λ xs. looked ++ xs) tries)

  -- a name was looked up, and its addresses were tried
  pub by_name : (peer : Peer) (addresses : List SocketAddr) (call : Call) (result : Result Wired E) {old mid new : List Call}
      → Seeks peer addresses (call ∷ []) → mid ≡ old ++ call ∷ [] → Makes mid new (ConnectsFirst addresses result)
      → Makes old new (Connects peer result)
  by_name peer addresses call result seeks looked tries =
      makes_then (λ xs. xs ≡ call ∷ []) (ConnectsFirst addresses result) (Connects peer result)
      (λ xs ys is first. subst (λ zs. Connects peer result (zs ++ ys)) (sym is) (found_then peer addresses (call ∷ []) ys result seeks first))
      (makes_one (λ xs. xs ≡ call ∷ []) call looked refl) tries

  -- the only address was tried
  one_tried : (address : SocketAddr) (result : Result Wired E) → IfOk result (λ wired. wired.address ≡ address)
      → ConnectsFirst (address ∷ []) result (connect_call address result ∷ [])
  one_tried address (Ok wired) there = record {
    tried = [];
    untried = [];
    addresses_are = ap (λ a. a ∷ []) (sym there);
    calls_are = ap (λ a. Reached (Address a) ∷ []) (sym there);
  }
  one_tried address (Err e) there = refl

  -- a port was tried
  pub at_port : (peer : Peer) (address : SocketAddr) (result : Result Wired E) {old new : List Call} → Seeks peer (address ∷ []) []
      → IfOk result (λ wired. wired.address ≡ address) → new ≡ old ++ connect_call address result ∷ []
      → Makes old new (Connects peer result)
  at_port peer address result seeks there is =
      makes_one (Connects peer result) (connect_call address result) is
      (found_then peer (address ∷ []) [] (connect_call address result ∷ []) result seeks (one_tried address result there))
