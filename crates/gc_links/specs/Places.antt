-- What a word says of where an instrument is: this project's own.
use Rattle.std.specs.Prelude.{◌≡◌, ℕ, ◌<◌, ◌≤◌, List, ◌∷◌, ◌++◌, length, get_or}
use Rattle.gc_values.specs.Prelude.{NamesNumber}
use Rattle.gc_links.specs.declared.place.Place.{Place}
use Rattle.gc_links.specs.declared.place.Place.TheVariants.{Port, Host, Device}

-- these bytes are digits that write this port, which is from 1 to 65535
abbrev pub IsPort : (digits : List ℕ) (port : ℕ) → Type 0
IsPort digits port = NamesNumber digits port × (1 ≤ port) × (port ≤ 65535)

-- a slash is in a word
abbrev pub HasSlash : List ℕ → Type 0
HasSlash word = (at : ℕ) × (at < length word) × (get_or word at 0 ≡ 47)

-- the word names this place: digits alone are a port; something, a colon and a port, without a slash, are a host; a word with a
-- slash is the path of a device
abbrev pub NamesPlace : List ℕ → Place → Type 0
NamesPlace word (Port port) = IsPort word port
NamesPlace word (Host text) = (text.now ≡ word) × (HasSlash word → ⊥)
    × ((host : List ℕ) × (digits : List ℕ) × (port : ℕ) × (0 < length host) × IsPort digits port × (word ≡ host ++ 58 ∷ digits))
NamesPlace word (Device path) = (path.now ≡ word) × HasSlash word
