-- Where commands are sent after calls of the table: `behind_by` counts, over steps, the requests after the last call of the table that a
-- reply ended, and `CountsBehind` says that a count is right for a course.
use Rattle.gc_station.proofs.Common.{◌≡◌, ℕ, List, [], ◌∷◌, ◌++◌, sym, ap, ◌∙◌, subst, append_assoc, append-nil, Asked, Course, Step, begun, course_after, AccountsForSends, ById, WINDOW, accounts_for_sends, client_stepped, behind_step, CountsBehind, counts_step, course_of, course_append, client_of}

-- the count after these steps of this client, in order, if it was `b` before
abbrev pub behind_by : ById Asked → (b : ℕ) → List (Step Asked) → ℕ
behind_by c b [] = b
behind_by c b (step ∷ steps) = behind_by (client_stepped c step) (behind_step c b step) steps

-- if `CountsBehind` holds of the count b after the steps `done`, it holds after further steps of the count that `behind_by` makes
-- of b
pub counts_steps : (done steps : List (Step Asked)) (b : ℕ) → CountsBehind (course_of done) b → CountsBehind (course_of (done ++ steps)) (behind_by (course_of done).client b steps)
counts_steps done [] b h = subst (λ (l : List (Step Asked)). CountsBehind (course_of l) b) (sym (append-nil done)) h
counts_steps done (step ∷ steps) b h =
    let x = course_of done in
    let next = done ++ step ∷ [] in
    let more = course_append WINDOW done (step ∷ []) begun in
    let one : AccountsForSends (course_after WINDOW x step) = subst (λ (y : Course Asked). AccountsForSends y) more (accounts_for_sends WINDOW next) in
    let here : CountsBehind (course_of next) (behind_step x.client b step) = subst (λ (y : Course Asked). CountsBehind y (behind_step x.client b step)) (sym more) (counts_step x b step one h) in
    let there = counts_steps next steps (behind_step x.client b step) here in
    let client : (course_of next).client ≡ client_stepped x.client step = ap (λ (y : Course Asked). y.client) more ∙ client_of x step in
    subst (λ (l : List (Step Asked)). CountsBehind (course_of l) (behind_by x.client b (step ∷ steps))) (append_assoc done (step ∷ []) steps)
    (subst (λ (c : ById Asked). CountsBehind (course_of (next ++ steps)) (behind_by c (behind_step x.client b step) steps)) client there)
