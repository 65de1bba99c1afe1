-- What the contract of a run says of one of its turns (what was seen at an act).
use Rattle.gc_program_theorems.proofs.Common.{◌≡◌, ℕ, List, [], ◌∷◌, ◌++◌, Option, Some, refl, sym, ◌∙◌, ap, subst, append_assoc, append-nil, append_cancel_left, Appends, whole, whole_more, Act, AddsActs, Task, Snapshot, IsKept, AreKept, Record, texts_of, state_after, Scope, Plan}

-- Texts.

-- if the text of each record ends in a line feed or is empty (`whole` leaves it as it is), so do the texts of all of them
-- together
pub texts_whole : (text : Record → List ℕ) → ((r : Record) → whole (text r) ≡ text r) → (rs : List Record) → whole (texts_of text rs) ≡ texts_of text rs
texts_whole text each [] = refl
texts_whole text each (r ∷ rs) = whole_more (text r) (texts_of text rs) (each r) ∙ ap (λ (l : List ℕ). text r ++ l) (texts_whole text each rs)

-- if a link recorded the acts of a run and maybe others, and `next` after those that were done before a turn, `next` is the act
-- before which that turn was seen
pub next_at : (recorded acts others front behind done rest : List Act) (act next : Act) → recorded ≡ acts ++ others → acts ≡ front ++ act ∷ behind → done ≡ front
    → recorded ≡ done ++ next ∷ rest → next ≡ act
next_at recorded acts others front behind done rest act next told all is one =
    let whole : recorded ≡ front ++ act ∷ (behind ++ others) = told ∙ ap (λ (xs : List Act). xs ++ others) all ∙ append_assoc front (act ∷ behind) others in
    let same = append_cancel_left front (next ∷ rest) (act ∷ (behind ++ others)) (ap (λ (xs : List Act). xs ++ next ∷ rest) (sym is) ∙ sym one ∙ whole) in
    cc

module _ (plan : Plan) (commands : List Task) (scope : Scope) (text : Record → List ℕ) where
  -- at a turn, the one before `act`, all that the acts `before` and the first ones of `acts` settled was kept
  pub record IsKeptAt (told : Option (List Act)) (taken : Option (List ℕ)) (before acts : List Act) (turn : Snapshot) : Type 0 where
    pub front : List Act
    pub act : Act
    pub behind : List Act
    pub all : acts ≡ front ++ act ∷ behind
    pub kept : IsKept plan commands scope text told taken (before ++ front) act turn

  -- where turns are `AreKept`, `IsKeptAt` holds of each of them
  pub kept_at : (told : Option (List Act)) (taken : Option (List ℕ)) (before acts : List Act) (earlier later : List Snapshot) (turn : Snapshot)
      → AreKept plan commands scope text told taken before acts (earlier ++ turn ∷ later) → IsKeptAt told taken before acts turn
  kept_at told taken before [] [] later turn are = absurd are
  kept_at told taken before [] (t ∷ earlier) later turn are = absurd are
  kept_at told taken before (act ∷ acts) [] later turn are =
      record { front = []; act = act; behind = acts; all = refl; kept = subst (λ (xs : List Act). IsKept plan commands scope text told taken xs act turn) (sym (append-nil before)) are.0 }
  kept_at told taken before (act ∷ acts) (t ∷ earlier) later turn are =
      let rest = kept_at told taken (before ++ act ∷ []) acts earlier later turn are.1 in
      record {
        front = act ∷ rest.front;
        act = rest.act;
        behind = rest.behind;
        all = ap (λ (xs : List Act). act ∷ xs) rest.all;
        kept = subst (λ (xs : List Act). IsKept plan commands scope text told taken xs rest.act turn) (append_assoc before (act ∷ []) rest.front) rest.kept;
      }

  -- at a turn of a run that began with no act, the acts that the link had recorded are those that were done by then
  pub done_at : (turn : Snapshot) (front done : List Act) (act : Act) → IsKept plan commands scope text (Some []) (Some []) front act turn → turn.acts ≡ Some done → done ≡ front
  done_at turn front done act kept told = subst (λ (t : Option (List Act)). AddsActs (Some []) t front) told kept.tells

  -- at a turn of a run that began with no act and no byte, the book had taken the texts of what the acts done by then settled
  pub seen_at : (turn : Snapshot) (front done : List Act) (act : Act) (bytes : List ℕ) → IsKept plan commands scope text (Some []) (Some []) front act turn
      → turn.acts ≡ Some done → turn.taken ≡ Some bytes → bytes ≡ texts_of text (state_after plan commands scope done).records
  seen_at turn front done act bytes kept told taken =
      let is : done ≡ front = done_at turn front done act kept told in
      let took : bytes ≡ texts_of text (state_after plan commands scope front).records =
      subst (λ (t : Option (List ℕ)). Appends (Some []) t (texts_of text (state_after plan commands scope front).records)) taken kept.took in
      took ∙ ap (λ (acts : List Act). texts_of text (state_after plan commands scope acts).records) (sym is)
