-- The bytes of an incomplete line, this project's own: what a state keeps of those since the last line feed.
use Rattle.geocom_c.specs.Common.{position, is_line_feed, frame_of, rest_behind}
use Rattle.std.specs.Prelude.{◌≡◌, ◌≢◌, ◌≤◌, ◌+◌, ℕ, List, ◌++◌, length, take, All, Some, None}
use Rattle.geocom_c.specs.declared.rest.GeocomRest.{GeocomRest}
pub use Rattle.gc_lines.specs.Passing.{lines_completed}

-- the bytes that are kept
abbrev pub kept_bytes : GeocomRest → List ℕ
kept_bytes r = take r.length r.bytes

-- the byte is no line feed
abbrev pub IsNoLineFeed : ℕ → Type 0
IsNoLineFeed b = b ≢ 10

-- at most 514 bytes are kept, and no line feed among them
pub record IsValid (r : GeocomRest) : Type 0 where
  pub short : r.length ≤ 514
  pub unended : All IsNoLineFeed (kept_bytes r)

-- the bytes `rest` came since the last line feed: whatever follows, the next line feed makes the same frame of the kept bytes
-- as of `rest`
pub record IsRest (r : GeocomRest) (rest : List ℕ) : Type 0 where
  pub valid : IsValid r
  pub same : (more : List ℕ) → frame_of (kept_bytes r ++ more) ≡ frame_of (rest ++ more)

-- no part of a promise: if `piece`, which comes after the bytes that `r` keeps, has no line feed, all of it is used, and `Then`
-- holds of all bytes since the last line feed, `piece` included
abbrev pub UsesUnended : GeocomRest → (piece : List ℕ) → (used : ℕ) → (Then : List ℕ → Type 0) → Type 0
UsesUnended r piece used Then =
    (rest : List ℕ) → IsRest r rest → position is_line_feed piece ≡ None → (used ≡ length piece) × Then (rest ++ piece)

-- no part of a promise: if `piece`, which comes after the bytes that `r` keeps, has a line feed, the bytes through the first one
-- are used, and `Then` holds of the bytes that came before it, since the line feed before
abbrev pub UsesFirstLine : GeocomRest → (piece : List ℕ) → (used : ℕ) → (Then : List ℕ → Type 0) → Type 0
UsesFirstLine r piece used Then =
    (rest : List ℕ) (at : ℕ) → IsRest r rest → position is_line_feed piece ≡ Some at
    → (used ≡ at + 1) × Then (rest ++ take at piece)

-- no part of a promise: hearing all of `bytes` but the last ones, `unheard`, led from `x`, with the bytes `rest` since the last
-- line feed, to `reached`, with the bytes `now`; `Stands` holds of these two. Hearing `unheard` from there leads to where hearing
-- all of `bytes` leads from `x`. `hears` says where lines lead that are heard in order
pub record HeardBut {X : Type 0} (hears : X → List (List ℕ) → X) (Stands : X → List ℕ → Type 0) (x : X) (rest bytes unheard : List ℕ)
    : Type 0 where
  pub reached : X
  pub now : List ℕ
  pub stands : Stands reached now
  pub same : hears reached (lines_completed now unheard) ≡ hears x (lines_completed rest bytes)
  pub behind : rest_behind now unheard ≡ rest_behind rest bytes
