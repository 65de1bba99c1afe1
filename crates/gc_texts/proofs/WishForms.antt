-- Which lines have the form of a wish, and of which one.
use Rattle.gc_texts.proofs.Common.{◌≡◌, ℕ, List, ap, ◌∙◌, Asked, Table, Raw, RawCall, IsCommand, AsksFor, IsRawWish, IsWish, Command, Wish}
use Rattle.gc_texts.proofs.CommandForms.{one_command}
use Rattle.gc_texts.proofs.RawForms.{command_is_no_raw_wish, one_raw}

-- two wishes with equal targets that ask for the same are equal
pub same_wish : (v w : Wish) → v.target ≡ w.target → v.call ≡ w.call → v ≡ w
same_wish v w e f = ap (λ t. record { target = t; call = v.call }) e ∙ ap (λ x. record { target = w.target; call = x }) f

-- a line asks at most one target for at most one thing
one_asking : (line : List ℕ) (m n : ℕ) (a b : Asked) → AsksFor line m a → AsksFor line n b → (m ≡ n) × (a ≡ b)
one_asking line m n (Table a) (Table b) x y =
    let same : ◌≡◌ {A = Command} (record { target = m; call = a }) (record { target = n; call = b }) = one_command line (record { target = m; call = a }) (record { target = n; call = b }) x y in
    (ap (λ (c : Command). c.target) same, ap (λ (c : Command). Table c.call) same)
one_asking line m n (Raw a) (Raw b) x y = one_raw line m n a b x y
one_asking line m n (Raw a) (Table b) x y = absurd (command_is_no_raw_wish line (record { target = n; call = b }) m a y x)
one_asking line m n (Table a) (Raw b) x y = absurd (command_is_no_raw_wish line (record { target = m; call = a }) n b x y)

-- a line has the form of one wish at most
pub one_wish : (line : List ℕ) (v w : Wish) → IsWish line v → IsWish line w → v ≡ w
one_wish line v w x y = let same = one_asking line v.target w.target v.call w.call x y in same_wish v w same.0 same.1

-- a line that neither asks for a procedure that isn't in the table nor has the form of a command has the form of no wish
pub no_wish : (line : List ℕ) → ((target : ℕ) (raw : RawCall) → IsRawWish line target raw → ⊥)
    → ((command : Command) → IsCommand line command → ⊥) → (wish : Wish) → IsWish line wish → ⊥
no_wish line no_raw no_command wish is = no_asking wish.target wish.call is where
  -- the lemma above, by what is asked for
  no_asking : (target : ℕ) (asked : Asked) → AsksFor line target asked → ⊥
  no_asking target (Table call) is = no_command (record { target = target; call = call }) is
  no_asking target (Raw raw) is = no_raw target raw is
