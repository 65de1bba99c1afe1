-- Lines that are no requests change nothing.
use Rattle.gc_instrument.proofs.Common.{◌≡◌, ℕ, List, [], ◌∷◌, ◌++◌, Option, None, refl, sym, ap, ◌∙◌, subst, option_to_list, lines, IsNoRequest, State, IsReplied, silent, answers, Hears, IsOutput, AreForeign, ForeignLinesAreSilent}
use Rattle.gc_instrument.proofs.HeardFrames.{lines-next}

-- lines have the same replies, and lead to the same state, once lines that are no requests are put in front of them
foreign_added_in_front : (s t : State) (foreign later ps : List (List ℕ)) → AreForeign foreign → Hears s later t ps → Hears s (foreign ++ later) t ps
foreign_added_in_front s t [] later ps none h = h
foreign_added_in_front s t (line ∷ foreign) later ps none h = (s, None, ps, silent none.0 refl refl, foreign_added_in_front s t foreign later ps none.1 h, refl)

-- a line that is no request gets no reply, and changes nothing
no_request_no_reply : (s u : State) (line : List ℕ) (reply : Option (List ℕ)) → IsNoRequest line → IsReplied s line u reply
    → (u ≡ s) × (reply ≡ None)
no_request_no_reply s u line reply none (silent never same quiet) = (same, quiet)
no_request_no_reply s u line reply none (answers q is text does told) = absurd (none q is)

-- lines have the same replies, and lead to the same state, once lines that are no requests are taken away in front of them
foreign_removed_in_front : (s t : State) (foreign later ps : List (List ℕ)) → AreForeign foreign → Hears s (foreign ++ later) t ps → Hears s later t ps
foreign_removed_in_front s t [] later ps none h = h
foreign_removed_in_front s t (line ∷ foreign) later ps none h =
    let same = no_request_no_reply s h.0 line h.1 none.0 h.3 in
    let rest : Hears h.0 later t h.2 = foreign_removed_in_front h.0 t foreign later h.2 none.1 h.4 in
    let all : ps ≡ h.2 = h.5 ∙ ap (λ (reply : Option (List ℕ)). option_to_list reply ++ h.2) same.1 in
    subst (λ (qs : List (List ℕ)). Hears s later t qs) (sym all) (subst (λ (u : State). Hears u later t h.2) same.0 rest)

-- lines may be replaced behind others: if ys lead to t, with the same replies, from every state from which xs do, `first ++ ys`
-- leads from s to t, with the same replies, where `first ++ xs` does
replaced_behind : (s t : State) (first xs ys ps : List (List ℕ)) → ((u : State) (qs : List (List ℕ)) → Hears u xs t qs → Hears u ys t qs)
    → Hears s (first ++ xs) t ps → Hears s (first ++ ys) t ps
replaced_behind s t [] xs ys ps change h = change s ps h
replaced_behind s t (line ∷ first) xs ys ps change h = (h.0, h.1, h.2, h.3, replaced_behind h.0 t first xs ys h.2 change h.4, h.5)

-- where the lines of y have the replies of those of x and lead to the same state, y has the output of x
same_output : (s t : State) (x y bytes : List ℕ) → ((ps : List (List ℕ)) → Hears s (lines x) t ps → Hears s (lines y) t ps)
    → IsOutput s x t bytes → IsOutput s y t bytes
same_output s t x y bytes change h = record { replies = h.replies; hears = change h.replies h.hears; bytes_are = h.bytes_are }

-- a stream without a request, put between a front and a back, changes neither what is written nor the state at the end, where the
-- front and that stream are each empty or end in a line feed
pub foreign_lines_are_silent : ForeignLinesAreSilent
foreign_lines_are_silent s t front foreign back bytes front_whole foreign_whole none =
    let longer : lines (front ++ (foreign ++ back)) ≡ lines front ++ (lines foreign ++ lines back) =
    lines-next front (foreign ++ back) front_whole ∙ ap (λ (xs : List (List ℕ)). lines front ++ xs) (lines-next foreign back foreign_whole) in
    let shorter : lines (front ++ back) ≡ lines front ++ lines back = lines-next front back front_whole in (
      same_output s t (front ++ (foreign ++ back)) (front ++ back) bytes (λ ps h.
          subst (λ (xs : List (List ℕ)). Hears s xs t ps) (sym shorter)
          (replaced_behind s t (lines front) (lines foreign ++ lines back) (lines back) ps
          (λ u qs k. foreign_removed_in_front u t (lines foreign) (lines back) qs none k) (subst (λ (xs : List (List ℕ)). Hears s xs t ps) longer h))),
      same_output s t (front ++ back) (front ++ (foreign ++ back)) bytes (λ ps h.
          subst (λ (xs : List (List ℕ)). Hears s xs t ps) (sym longer)
          (replaced_behind s t (lines front) (lines back) (lines foreign ++ lines back) ps
          (λ u qs k. foreign_added_in_front u t (lines foreign) (lines back) qs none k) (subst (λ (xs : List (List ℕ)). Hears s xs t ps) shorter h))),
    )
