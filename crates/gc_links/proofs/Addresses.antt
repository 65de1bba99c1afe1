-- The addresses of a name, as a loop takes one after the other.
use Rattle.gc_links.proofs.Common.{◌+◌, ◌<◌, ◌≡◌, [], ◌∷◌, length, take, sym, ap, ◌∙◌, add-one, eq-zero-or-pos, ⊎_elim, take-nil, nil_from_length, SocketAddr, HostAddrs, host_addrs}
use Rattle.std.specs.Iterator.Adapters.{take_source, take_count}
use Rattle.std.specs.Array.Iter.{array_into_iter_items}

-- one address comes, and the rest after it
pub one_comes : (s t : HostAddrs) (x : SocketAddr) → array_into_iter_items (take_source s) ≡ x ∷ array_into_iter_items (take_source t)
    → take_count t + 1 ≡ take_count s → host_addrs s ≡ x ∷ host_addrs t
one_comes s t x items count =
    ap (λ xs. take (take_count s) xs) items
    ∙ ap (λ n. take n (x ∷ array_into_iter_items (take_source t))) (sym count ∙ add-one (take_count t))

-- no address comes any more
pub none_comes : (s : HostAddrs) → (0 < take_count s → length (array_into_iter_items (take_source s)) ≡ 0) → host_addrs s ≡ []
none_comes s empty =
    ⊎_elim (λ is. ap (λ n. take n (array_into_iter_items (take_source s))) is)
    (λ some. ap (λ xs. take (take_count s) xs) (nil_from_length (array_into_iter_items (take_source s)) (empty some))
    ∙ take-nil (take_count s))
    (eq-zero-or-pos (take_count s))
