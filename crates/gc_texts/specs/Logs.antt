-- Lines of a log: what was on a link, in printable characters alone. Their form is this project's own.
use Rattle.gc_texts.specs.Common.{flat_map}
use Rattle.std.specs.Prelude.{◌≡◌, ◌<◌, ℕ, ◌/◌, ◌%◌, ◌+◌, ◌≤◌, ◌==◌, ◌&&◌, Bool, not, nat_lt, List, [], ◌∷◌, ◌++◌, All, if◌then◌else◌, codes}
use Rattle.gc_texts.specs.Cuts.{Lacks}
use Rattle.gc_texts.specs.Stamps.{stamp_text}
use Rattle.gc_texts.specs.declared.log_line.LogMark.{LogMark}
use Rattle.gc_texts.specs.declared.log_line.LogMark.TheVariants.{Went, WentPart, Came, CamePart, Link}
pub use Rattle.gc_catalogue.specs.Bytes.{AreBytes}

-- the mark of a log line, as it is written
abbrev pub mark_text : LogMark → List ℕ
mark_text Went = codes ">"
mark_text WentPart = codes ">|"
mark_text Came = codes "<"
mark_text CamePart = codes "<|"
mark_text Link = codes "-"

-- whether a log line writes a byte as it is, without \x: printable ASCII except the backslash
abbrev pub is_unescaped : ℕ → Bool
is_unescaped b = nat_lt 31 b && nat_lt b 127 && not (b == 92)

-- a digit of base 16, in lower case
abbrev pub hex_digit : ℕ → ℕ
hex_digit n = if nat_lt n 10 then 48 + n else 87 + n

-- a byte as it is, or as \x and two digits
abbrev pub escape : ℕ → List ℕ
escape b = if is_unescaped b then b ∷ [] else 92 ∷ 120 ∷ hex_digit (b / 16) ∷ hex_digit (b % 16) ∷ []

-- a byte of printable ASCII
abbrev pub IsPrintableByte : ℕ → Type 0
IsPrintableByte b = (32 ≤ b) × (b ≤ 126)

-- each byte of a text is printable ASCII
abbrev pub IsPrintable : List ℕ → Type 0
IsPrintable text = All IsPrintableByte text

-- bytes, each as it is or as \x and two digits
abbrev pub escaped : List ℕ → List ℕ
escaped bytes = flat_map escape bytes

-- a text begins with no byte in the form that a log gives it
abbrev pub BeginsWithNoByte : List ℕ → Type 0
BeginsWithNoByte text = (b : ℕ) (more : List ℕ) → b < 256 → text ≡ escape b ++ more → ⊥

-- a moment, a mark and what follows them, with one space between two
abbrev pub marked_text : (moment : List ℕ) → LogMark → (rest : List ℕ) → List ℕ
marked_text moment mark rest = moment ++ 32 ∷ (mark_text mark ++ 32 ∷ rest)

-- a log line without its line feed: the moment, the mark, and the bytes
abbrev pub log_text : (moment : List ℕ) → LogMark → (bytes : List ℕ) → List ℕ
log_text moment mark bytes = marked_text moment mark (escaped bytes)

-- a log line with its line feed, of the moment `utc` milliseconds after the beginning of 1970
abbrev pub log_line : ℕ → LogMark → List ℕ → List ℕ
log_line utc mark bytes = log_text (stamp_text utc) mark bytes ++ codes "\n"

-- a text is the log line of this moment, mark and bytes, without a line feed. The moment, in printable characters, is what is before the
-- text's first space
pub record IsLogLine (text moment : List ℕ) (mark : LogMark) (bytes : List ℕ) : Type 0 where
  pub is : text ≡ log_text moment mark bytes
  pub one_word : Lacks 32 moment
  pub is_printable : IsPrintable moment
  pub are_bytes : AreBytes bytes
