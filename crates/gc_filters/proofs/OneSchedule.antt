-- One line has the form of one event, and one text is the schedule of one list of events.
use Rattle.gc_filters.proofs.Common.{◌≡◌, ◌==◌, ℕ, Bool, true, false, List, drop, length, get_or, Option, Some, None, refl, ap, subst, sym, ◌∙◌, codes, if◌then◌else◌, filter, number, Event, Send, UpDeliver, UpBytes, UpLose, UpRepeat, DownDeliver, DownBytes, DownLose, DownRepeat, Expire, RestartClient, RestartInstrument, is_kept, text_lines, IsNumber, IsProcedureText, IsTarget, holds_of_rest, one_procedure, one_list, one_number, IsRequested, IsSend, IsEvent, IsSchedule, Requested, request_with}
use Rattle.gc_filters.proofs.InThree.{one_in_three}

-- which words an event's line begins with
data Kind : Type 0 where
  OfSend : Kind
  OfUpDeliver : Kind
  OfUpBytes : Kind
  OfUpLose : Kind
  OfUpRepeat : Kind
  OfDownDeliver : Kind
  OfDownBytes : Kind
  OfDownLose : Kind
  OfDownRepeat : Kind
  OfExpire : Kind
  OfRestartClient : Kind
  OfRestartInstrument : Kind

-- the first of the three parts of an event: its kind
abbrev event_kind : Event → Kind
event_kind (Send target call deadline) = OfSend
event_kind UpDeliver = OfUpDeliver
event_kind (UpBytes n) = OfUpBytes
event_kind (UpLose k) = OfUpLose
event_kind (UpRepeat k) = OfUpRepeat
event_kind DownDeliver = OfDownDeliver
event_kind (DownBytes n) = OfDownBytes
event_kind (DownLose k) = OfDownLose
event_kind (DownRepeat k) = OfDownRepeat
event_kind (Expire moment) = OfExpire
event_kind RestartClient = OfRestartClient
event_kind RestartInstrument = OfRestartInstrument

-- the second part of an event is the request that it sends, if it is a send
abbrev event_request : Event → Option Requested
event_request (Send target call deadline) = Some (request_with target call deadline)
event_request _ = None

-- the third part of an event is the number after its words, or 0 if it has none
abbrev event_number : Event → ℕ
event_number (UpLose k) = k
event_number (UpRepeat k) = k
event_number (DownLose k) = k
event_number (DownRepeat k) = k
event_number (Expire moment) = moment
event_number (UpBytes n) = n
event_number (DownBytes n) = n
event_number _ = 0

-- the event of these three parts; no event is a send without a request, nor another with one
abbrev event_from : Kind → Option Requested → ℕ → Event
event_from k (Some q) n = Send q.target q.call q.deadline
event_from OfUpDeliver None n = UpDeliver
event_from OfUpBytes None n = UpBytes n
event_from OfUpLose None n = UpLose n
event_from OfUpRepeat None n = UpRepeat n
event_from OfDownDeliver None n = DownDeliver
event_from OfDownBytes None n = DownBytes n
event_from OfDownLose None n = DownLose n
event_from OfDownRepeat None n = DownRepeat n
event_from OfExpire None n = Expire n
event_from OfRestartClient None n = RestartClient
event_from _ None n = RestartInstrument

-- an event is what its three parts make
event_of_its_parts : (e : Event) → event_from (event_kind e) (event_request e) (event_number e) ≡ e
event_of_its_parts (Send target call deadline) = refl
event_of_its_parts e = refl

-- the kind of an `up` or a `down` line, one of these four, by b, the first byte of its second word: 100 is d, 98 b and 108 l; any
-- other byte is of a `repeat`
abbrev kind_by_second_word : (deliver bytes lose repeat : Kind) (b : ℕ) → Kind
kind_by_second_word deliver bytes lose repeat b = if b == 100 then deliver else if b == 98 then bytes else if b == 108 then lose else repeat

-- the kind of event that a line's bytes show, which are counted from 0. Byte 0 tells `send` (115 is s), `expire` (101, e), `up`
-- (117, u) and `down` (100, d); byte 3 after `up`, and byte 5 after `down`, is the first of the second word; byte 8 tells
-- `restart client` (99, c) from `restart instrument`
abbrev line_kind : List ℕ → Kind
line_kind line =
    if get_or line 0 0 == 115 then OfSend else if get_or line 0 0 == 101 then OfExpire
    else if get_or line 0 0 == 117 then kind_by_second_word OfUpDeliver OfUpBytes OfUpLose OfUpRepeat (get_or line 3 0)
    else if get_or line 0 0 == 100 then kind_by_second_word OfDownDeliver OfDownBytes OfDownLose OfDownRepeat (get_or line 5 0)
    else if get_or line 8 0 == 99 then OfRestartClient else OfRestartInstrument

-- an event has the kind that its line's bytes show
line_kind_is : (line : List ℕ) (e : Event) → IsEvent line e → line_kind line ≡ event_kind e
line_kind_is line (Send target call deadline) h = ap line_kind h.line_is
line_kind_is line UpDeliver h = ap line_kind h
line_kind_is line (UpBytes n) h = ap line_kind h.line_is
line_kind_is line (UpLose k) h = ap line_kind h.line_is
line_kind_is line (UpRepeat k) h = ap line_kind h.line_is
line_kind_is line DownDeliver h = ap line_kind h
line_kind_is line (DownBytes n) h = ap line_kind h.line_is
line_kind_is line (DownLose k) h = ap line_kind h.line_is
line_kind_is line (DownRepeat k) h = ap line_kind h.line_is
line_kind_is line (Expire moment) h = ap line_kind h.line_is
line_kind_is line RestartClient h = ap line_kind h
line_kind_is line RestartInstrument h = ap line_kind h

-- the number that a line has after these words
abbrev number_after : (words line : List ℕ) → ℕ
number_after words line = number (drop (length words) line)

-- the number that a line of this kind has after its words; 0 for a kind without a number
abbrev line_number : Kind → (line : List ℕ) → ℕ
line_number OfUpBytes line = number_after (codes "up bytes ") line
line_number OfUpLose line = number_after (codes "up lose ") line
line_number OfUpRepeat line = number_after (codes "up repeat ") line
line_number OfDownBytes line = number_after (codes "down bytes ") line
line_number OfDownLose line = number_after (codes "down lose ") line
line_number OfDownRepeat line = number_after (codes "down repeat ") line
line_number OfExpire line = number_after (codes "expire ") line
line_number _ line = 0

-- an event has the number that its line has after the words of its kind, or 0 where the kind has none
line_number_is : (line : List ℕ) (e : Event) → IsEvent line e → line_number (event_kind e) line ≡ event_number e
line_number_is line (UpBytes n) h = ap (line_number OfUpBytes) h.line_is ∙ sym h.is.names.value
line_number_is line (UpLose k) h = ap (line_number OfUpLose) h.line_is ∙ sym h.is.names.value
line_number_is line (UpRepeat k) h = ap (line_number OfUpRepeat) h.line_is ∙ sym h.is.names.value
line_number_is line (DownBytes n) h = ap (line_number OfDownBytes) h.line_is ∙ sym h.is.names.value
line_number_is line (DownLose k) h = ap (line_number OfDownLose) h.line_is ∙ sym h.is.names.value
line_number_is line (DownRepeat k) h = ap (line_number OfDownRepeat) h.line_is ∙ sym h.is.names.value
line_number_is line (Expire moment) h = ap (line_number OfExpire) h.line_is ∙ sym h.is.names.value
line_number_is line e h = refl

-- a text writes one request at most
one_requested : (text : List ℕ) (q p : Requested) → IsRequested text q → IsRequested text p → q ≡ p
one_requested text q p r s =
    let same = one_in_three text r.parts s.parts in
    let target = one_number s.parts.first q.target p.target 4294967295 (subst (λ (x : List ℕ). IsTarget x q.target) same.0 r.target_is) s.target_is in
    let call = one_procedure s.parts.third q.call p.call (subst (λ (x : List ℕ). IsProcedureText x q.call) same.2 r.procedure_is) s.procedure_is in
    let deadline = one_number s.parts.second q.deadline p.deadline 18446744073709551615
    (subst (λ (x : List ℕ). IsNumber x q.deadline 18446744073709551615) same.1 r.deadline_is) s.deadline_is in
    ap (λ x. request_with x q.call q.deadline) target ∙ ap (λ x. request_with p.target x q.deadline) call ∙ ap (λ x. request_with p.target p.call x) deadline

-- a line sends one request at most
one_send : (line : List ℕ) (q p : Requested) → IsSend line q → IsSend line p → q ≡ p
one_send line q p x y =
    one_requested y.rest q p (holds_of_rest (codes "send ") (λ r. IsRequested r q) line y.rest y.line_is x) y.is

-- whether a kind is that of a send
abbrev is_send : Kind → Bool
is_send OfSend = true
is_send _ = false

-- an event that isn't a send sends nothing
sends_nothing : (e : Event) → is_send (event_kind e) ≡ false → event_request e ≡ None
sends_nothing (Send target call deadline) h = cc
sends_nothing e h = refl

-- an event of a `send` line, if it is a send, sends what the line says
send_line_sends : (line : List ℕ) (q : Requested) (e : Event) → IsSend line q → IsEvent line e → is_send (event_kind e) ≡ true → Some q ≡ event_request e
send_line_sends line q (Send target call deadline) x y h = ap Some (one_send line q (request_with target call deadline) x y)
send_line_sends line q e x y h = cc

-- two events of one line and one kind send the same request, or none
one_event_request : (line : List ℕ) (a b : Event) → IsEvent line a → IsEvent line b → event_kind a ≡ event_kind b → event_request a ≡ event_request b
one_event_request line (Send target call deadline) b x y h = send_line_sends line (request_with target call deadline) b x y (sym (ap is_send h))
one_event_request line a b x y h = sym (sends_nothing b (sym (ap is_send h)))

-- events of one kind, one request and one number are one
same_event : (k l : Kind) (s r : Option Requested) (m n : ℕ) → k ≡ l → s ≡ r → m ≡ n → event_from k s m ≡ event_from l r n
same_event k l s r m n e f g = ap (λ x. event_from x s m) e ∙ ap (λ x. event_from l x m) f ∙ ap (λ x. event_from l r x) g

-- a line has the form of one event at most
one_event : (line : List ℕ) (a b : Event) → IsEvent line a → IsEvent line b → a ≡ b
one_event line a b x y =
    let kinds : event_kind a ≡ event_kind b = sym (line_kind_is line a x) ∙ line_kind_is line b y in
    let numbers : event_number a ≡ event_number b = sym (line_number_is line a x) ∙ ap (λ k. line_number k line) kinds ∙ line_number_is line b y in
    sym (event_of_its_parts a)
    ∙ same_event (event_kind a) (event_kind b) (event_request a) (event_request b) (event_number a) (event_number b) kinds (one_event_request line a b x y kinds) numbers
    ∙ event_of_its_parts b

-- a text is the schedule of one list of events at most
pub one_schedule : (text : List ℕ) (xs ys : List Event) → IsSchedule text xs → IsSchedule text ys → xs ≡ ys
one_schedule text xs ys h k = one_list IsEvent one_event (filter is_kept (text_lines text)) xs ys h k
