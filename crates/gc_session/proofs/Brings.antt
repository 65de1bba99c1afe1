-- What the calls of a session's caller bring about: each is events of the session's client, which may come there, and which bring the client
-- to where the session has it after the call.
use Rattle.gc_session.proofs.Common.{◌≡◌, ◌≢◌, ℕ, ◌+◌, ◌<◌, Bool, true, false, if◌then◌else◌, nat_eq, List, [], ◌∷◌, ◌++◌, length, filter, Option, Some, None, refl, sym, ap, ◌∙◌, subst, arith, append_assoc, append-nil, AllByRecursion, nat_tests, all_append, Asked, the_word, left_by, Course, Step, Send, Hear, Expire, Restart, Wanted, begun, course_at, course_after, course, sent_on, AccountsForSends, ById, Settlement, Sending, fresh, heard, hears_line, sends, send_unless_full, expires, restarts, WINDOW, accounts_for_sends, Exchange, OWN, client_stepped, client_after, ClientEvent, Null, Came, Stepped, left_by_step, has_begun, is_none_left, one_more_in_window, ended_last, IsNearTheTable, IsNullIfOwn, last_ended, last_ended_at, is_of_caller, calls_for_renewal, ends_with_table, client_sent}
use Rattle.std.proofs.lemmas.List.Elements.{filter-append}
use Rattle.gc_session.proofs.Behind.{CountsBehind, behind_step, counts_step, counts_one_more, near_by_count}
use Rattle.gc_session.proofs.Courses.{course_of, course_append, sent_client, client_of, course_client}
use Rattle.gc_session.proofs.Places.{Place, moved, moved_all, moved_append, since_after, Along, along_both}

-- Courses.

-- a send settles nothing
sent_settles : (x : Course Asked) (target : ℕ) (call : Asked) (o : Option (Sending (ById Asked))) → (sent_on x target call o).settlements ≡ x.settlements ++ []
sent_settles x target call None = sym (append-nil x.settlements)
sent_settles x target call (Some s) = sym (append-nil x.settlements)

-- how many requests the last line ended that ended any, after one more step
last_ended_more : (steps : List (Step Asked)) (step : Step Asked) (c : ById Asked) (last : ℕ) → last_ended c last (steps ++ step ∷ []) ≡ last_ended_at (client_after c steps) (last_ended c last steps) step
last_ended_more [] step c last = refl
last_ended_more (s ∷ steps) step c last = last_ended_more steps step (client_stepped c s) (last_ended_at c last s)

-- no line that this client hears in a step calls for a synchronization
abbrev pub IsCalmAt : ById Asked → Step Asked → Type 0
IsCalmAt c (Hear line) = calls_for_renewal c line ≡ false
IsCalmAt c step = Unit {0}

-- none does in these steps of this client
abbrev pub IsCalm : ById Asked → List (Step Asked) → Type 0
IsCalm c [] = Unit {0}
IsCalm c (step ∷ steps) = IsCalmAt c step × IsCalm (client_stepped c step) steps

-- nor in one more
calm_more : (steps : List (Step Asked)) (step : Step Asked) (c : ById Asked) → IsCalm c steps → IsCalmAt (client_after c steps) step → IsCalm c (steps ++ step ∷ [])
calm_more [] step c all one = (one, tt)
calm_more (s ∷ steps) step c all one = (all.0, calm_more steps step (client_stepped c s) all.1 one)

-- so none of them does
pub calm_at : (before between : List (Step Asked)) (line : List ℕ) (x : Course Asked) → IsCalm x.client (before ++ Hear line ∷ between)
    → calls_for_renewal (course WINDOW x before).client line ≡ false
calm_at [] between line x all = all.0
calm_at (step ∷ before) between line x all =
    let y = course_after WINDOW x step in
    calm_at before between line y (subst (λ (c : ById Asked). IsCalm c (before ++ Hear line ∷ between)) (sym (client_of x step)) all.1)

-- a client whose window has room doesn't refuse a send
sent_more : (x : Course Asked) (target : ℕ) (call : Asked) (deadline : ℕ) → length x.client.waiting < WINDOW
    → (course_after WINDOW x (Send target call deadline)).sent ≡ x.sent ++ record { target = target; call = call } ∷ []
sent_more x target call deadline room =
    let some : nat_eq (length x.client.waiting) WINDOW ≡ false = grind (arith, nat_tests, room) in
    ap (λ (b : Bool). (sent_on x target call (send_unless_full x.client target call deadline b)).sent) some

-- What fits.

-- the client `c` and the exchange `x` are where a client is
pub record Fits (c : ById Asked) (x : Exchange) (p : Place) : Type 0 where
  pub left : x.word ≡ p.left
  pub client : c ≡ p.reached.client
  pub part : c ≡ (course_of p.since).client
  pub ended : x.last_ended ≡ last_ended fresh 1 p.since
  pub behind : CountsBehind (course_of p.since) x.behind
  pub calm : x.doubtful ≡ false → IsCalm fresh p.since
  pub new : has_begun x ≡ false → c ≡ fresh
  pub own : AllByRecursion IsNullIfOwn p.reached.sent

-- a request may be sent there
pub record MaySend (p : Place) (target : ℕ) (call : Asked) : Type 0 where
  pub near : target ≢ OWN → IsNearTheTable (course_of p.since)
  pub back : length (course_of p.since).client.waiting + last_ended fresh 1 p.since < WINDOW
  pub calm : IsCalm fresh p.since
  pub own : IsNullIfOwn (record { target = target; call = call })

-- a step may be made there
abbrev pub MayStep : Place → Step Asked → Type 0
MayStep p (Send target call deadline) = MaySend p target call
MayStep p step = Unit {0}

-- an event may come there: no step before all ids are answered
abbrev pub MayCome : Place → ClientEvent → Type 0
MayCome p Null = Unit {0}
MayCome p (Came line) = Unit {0}
MayCome p (Stepped step) = (p.left ≡ []) × MayStep p step

-- events may come there, and bring a client to where `d` and `y` fit; `ss` are the settlements, and `ts` the caller's requests that are sent
pub record Brings (p : Place) (events : List ClientEvent) (ss : List (Settlement Asked)) (ts : List (Wanted Asked)) (d : ById Asked) (y : Exchange) : Type 0 where
  pub along : Along MayCome p events
  pub fits : Fits d y (moved_all events p)
  pub settled : (moved_all events p).reached.settlements ≡ p.reached.settlements ++ ss
  pub taken : filter is_of_caller (moved_all events p).reached.sent ≡ filter is_of_caller p.reached.sent ++ ts

-- first these events, and then others
pub brings_both : (p : Place) (front later : List ClientEvent) (ss more : List (Settlement Asked)) (ts others : List (Wanted Asked)) (c d : ById Asked) (x y : Exchange)
    → Brings p front ss ts c x → Brings (moved_all front p) later more others d y → Brings p (front ++ later) (ss ++ more) (ts ++ others) d y
brings_both p front later ss more ts others c d x y a b =
    let same = sym (moved_append front later p) in
    record {
      along = along_both MayCome front later p a.along b.along;
      fits = subst (λ (q : Place). Fits d y q) same b.fits;
      settled = ap (λ (q : Place). q.reached.settlements) (sym same) ∙ b.settled ∙ ap (λ l. l ++ more) a.settled ∙ append_assoc p.reached.settlements ss more;
      taken =
          ap (λ (q : Place). filter is_of_caller q.reached.sent) (sym same) ∙ b.taken ∙ ap (λ l. l ++ others) a.taken
          ∙ append_assoc (filter is_of_caller p.reached.sent) ts others;
    }

-- What keeps.

-- what the laws look at is in the exchange `y` as in `x`
pub record Keeps (x y : Exchange) : Type 0 where
  pub word : y.word ≡ x.word
  pub ended : y.last_ended ≡ x.last_ended
  pub behind : y.behind ≡ x.behind
  pub doubtful : y.doubtful ≡ false → x.doubtful ≡ false

-- where nothing changes, nothing does
pub keeps_all : (x : Exchange) → Keeps x x
keeps_all x = record { word = refl; ended = refl; behind = refl; doubtful = λ e. e }

-- one after the other
pub keeps_both : (x y z : Exchange) → Keeps x y → Keeps y z → Keeps x z
keeps_both x y z a b = record { word = b.word ∙ a.word; ended = b.ended ∙ a.ended; behind = b.behind ∙ a.behind; doubtful = λ e. a.doubtful (b.doubtful e) }

-- no id is left of a synchronization that is done
none_left : (word : List ℕ) → is_none_left word ≡ true → word ≡ []
none_left [] e = refl
none_left (asked ∷ others) e = cc

-- one that isn't done can't be
not_begun : (x : Exchange) → x.word ≡ [] → has_begun x ≡ false → ⊥
not_begun x e f = let both : true ≡ false = sym (ap is_none_left e) ∙ f in cc

-- what fits where nothing is sent or settled, and these ids are left unanswered
fits_kept : (c : ById Asked) (x y : Exchange) (p : Place) (left : List ℕ) → Fits c x p → y.word ≡ left → (has_begun y ≡ false → c ≡ fresh) → y.last_ended ≡ x.last_ended
    → CountsBehind (course_of p.since) y.behind → (y.doubtful ≡ false → x.doubtful ≡ false) → Fits c y (record p { left = left })
fits_kept c x y p left f word new ended behind doubtful = record {
  left = word;
  client = f.client;
  part = f.part;
  ended = ended ∙ f.ended;
  behind = behind;
  calm = λ e. f.calm (doubtful e);
  new = new;
  own = f.own;
}

-- no event
pub brings_none : (c : ById Asked) (x y : Exchange) (p : Place) → Fits c x p → Keeps x y → Brings p [] [] [] c y
brings_none c x y p f k = record {
  along = tt;
  fits = fits_kept c x y p p.left f (k.word ∙ f.left) (λ e. f.new (sym (ap is_none_left k.word) ∙ e)) k.ended
      (subst (λ (b : ℕ). CountsBehind (course_of p.since) b) (sym k.behind) f.behind) k.doubtful;
  settled = sym (append-nil p.reached.settlements);
  taken = sym (append-nil (filter is_of_caller p.reached.sent));
}

-- a null procedure of the synchronization
pub brings_null : (c : ById Asked) (x y : Exchange) (p : Place) → Fits c x p → y.word ≡ x.word → y.last_ended ≡ x.last_ended → y.behind ≡ one_more_in_window x.behind → (y.doubtful ≡ false → x.doubtful ≡ false)
    → Brings p (Null ∷ []) [] [] c y
brings_null c x y p f word ended behind doubtful = record {
  along = (tt, tt);
  fits = fits_kept c x y p p.left f (word ∙ f.left) (λ e. f.new (sym (ap is_none_left word) ∙ e)) ended
      (subst (λ (b : ℕ). CountsBehind (course_of p.since) b) (sym behind) (counts_one_more (course_of p.since) x.behind f.behind)) doubtful;
  settled = sym (append-nil p.reached.settlements);
  taken = sym (append-nil (filter is_of_caller p.reached.sent));
}

-- a line that comes to the synchronization
pub brings_came : (c : ById Asked) (x y : Exchange) (p : Place) (line : List ℕ) → Fits c x p → has_begun x ≡ false → y.word ≡ left_by x.word (heard line)
    → y.last_ended ≡ x.last_ended → y.behind ≡ x.behind → (y.doubtful ≡ false → x.doubtful ≡ false) → Brings p (Came line ∷ []) [] [] c y
brings_came c x y p line f unbegun word ended behind doubtful = record {
  along = (tt, tt);
  fits = fits_kept c x y p (left_by p.left (heard line)) f (word ∙ ap (λ l. left_by l (heard line)) f.left) (λ e. f.new unbegun) ended
      (subst (λ (b : ℕ). CountsBehind (course_of p.since) b) (sym behind) f.behind) doubtful;
  settled = sym (append-nil p.reached.settlements);
  taken = sym (append-nil (filter is_of_caller p.reached.sent));
}

-- Steps.

-- what fits after a step that is no restart
fits_step : (c d : ById Asked) (x y : Exchange) (p : Place) (step : Step Asked) → Fits c x p → since_after p.since step ≡ p.since ++ step ∷ [] → y.word ≡ [] → left_by_step step ≡ []
    → d ≡ client_stepped c step → y.last_ended ≡ last_ended_at c x.last_ended step → y.behind ≡ behind_step c x.behind step
    → (y.doubtful ≡ false → (x.doubtful ≡ false) × IsCalmAt c step) → AllByRecursion IsNullIfOwn (course_after WINDOW p.reached step).sent → Fits d y (moved (Stepped step) p)
fits_step c d x y p step f since word none client ended behind calm own =
    let z = course_of p.since in
    let more = course_append WINDOW p.since (step ∷ []) begun in
    let one = subst (λ (w : Course Asked). AccountsForSends w) more (accounts_for_sends WINDOW (p.since ++ step ∷ [])) in
    let counts = counts_step z x.behind step one f.behind in
    record {
      left = word ∙ sym none;
      client = client ∙ ap (λ (k : ById Asked). client_stepped k step) f.client ∙ sym (client_of p.reached step);
      part =
          client ∙ ap (λ (k : ById Asked). client_stepped k step) f.part ∙ sym (client_of z step) ∙ ap (λ (w : Course Asked). w.client) (sym more)
          ∙ ap (λ l. (course_of l).client) (sym since);
      ended =
          ended ∙ ap (λ (k : ById Asked). last_ended_at k x.last_ended step) (f.part ∙ course_client p.since begun)
          ∙ ap (λ n. last_ended_at (client_after fresh p.since) n step) f.ended ∙ sym (last_ended_more p.since step fresh 1) ∙ ap (λ l. last_ended fresh 1 l) (sym since);
      behind =
          subst (λ (b : ℕ). CountsBehind (course_of (since_after p.since step)) b) (sym behind)
          (subst (λ l. CountsBehind (course_of l) (behind_step c x.behind step)) (sym since)
          (subst (λ (w : Course Asked). CountsBehind w (behind_step c x.behind step)) (sym more)
          (subst (λ (k : ById Asked). CountsBehind (course_after WINDOW z step) (behind_step k x.behind step)) (sym f.part) counts)));
      calm = λ e. subst (λ l. IsCalm fresh l) (sym since)
          (calm_more p.since step fresh (f.calm (calm e).0) (subst (λ (k : ById Asked). IsCalmAt k step) (f.part ∙ course_client p.since begun) (calm e).1));
      new = λ e. absurd (not_begun y word e);
      own = own;
    }

module _ (c : ById Asked) (x y : Exchange) (p : Place) (f : Fits c x p) (done : has_begun x ≡ true) where
  -- all ids are answered
  answered : p.left ≡ []
  answered = sym f.left ∙ none_left x.word done

  -- a moment
  pub brings_moment : (now : ℕ) → Keeps x y → Brings p (Stepped (Expire now) ∷ []) [] [] (expires c now) y
  brings_moment now k = record {
    along = ((answered, tt), tt);
    fits = fits_step c (expires c now) x y p (Expire now) f refl (k.word ∙ none_left x.word done) refl refl k.ended k.behind (λ e. (k.doubtful e, tt)) f.own;
    settled = sym (append-nil p.reached.settlements);
    taken = sym (append-nil (filter is_of_caller p.reached.sent));
  }

  -- a line that the client hears
  pub brings_hear : (line : List ℕ) → y.word ≡ x.word → y.last_ended ≡ ended_last (length (hears_line c line).settlements) x.last_ended
      → y.behind ≡ (if ends_with_table (hears_line c line).settlements then length (hears_line c line).client.waiting else x.behind)
      → (y.doubtful ≡ false → (x.doubtful ≡ false) × (calls_for_renewal c line ≡ false)) → Brings p (Stepped (Hear line) ∷ []) (hears_line c line).settlements [] (hears_line c line).client y
  brings_hear line word ended behind doubtful = record {
    along = ((answered, tt), tt);
    fits = fits_step c (hears_line c line).client x y p (Hear line) f refl (word ∙ none_left x.word done) refl refl ended behind doubtful f.own;
    settled = ap (λ (k : ById Asked). p.reached.settlements ++ (hears_line k line).settlements) (sym f.client);
    taken = sym (append-nil (filter is_of_caller p.reached.sent));
  }

  -- a restart, and a null procedure after it
  fits_restart : y.word ≡ the_word → y.last_ended ≡ 1 → y.behind ≡ WINDOW → Fits fresh y (moved (Stepped Restart) p)
  fits_restart word ended behind = record {
    left = word;
    client = refl;
    part = refl;
    ended = ended;
    behind = λ low. absurd (omega (arith, low, behind));
    calm = λ e. tt;
    new = λ e. refl;
    own = f.own;
  }

  -- what a restart settles
  restart_settles : p.reached.settlements ++ (restarts p.reached.client).settlements ≡ p.reached.settlements ++ (restarts c).settlements
  restart_settles = ap (λ (k : ById Asked). p.reached.settlements ++ (restarts k).settlements) (sym f.client)

  -- a restart
  pub brings_restart : y.word ≡ the_word → y.last_ended ≡ 1 → y.behind ≡ WINDOW → Brings p (Stepped Restart ∷ []) (restarts c).settlements [] fresh y
  brings_restart word ended behind = record {
    along = ((answered, tt), tt);
    fits = fits_restart word ended behind;
    settled = restart_settles;
    taken = sym (append-nil (filter is_of_caller p.reached.sent));
  }

  -- a restart, and a null procedure at once
  pub brings_renewal : y.word ≡ the_word → y.last_ended ≡ 1 → y.behind ≡ WINDOW → Brings p (Stepped Restart ∷ Null ∷ []) (restarts c).settlements [] fresh y
  brings_renewal word ended behind = record {
    along = ((answered, tt), (tt, tt));
    fits = fits_restart word ended behind;
    settled = restart_settles;
    taken = sym (append-nil (filter is_of_caller p.reached.sent));
  }

  -- a request that is sent where there is room; `ts` are those of the caller's among it
  pub brings_send : (target : ℕ) (call : Asked) (deadline : ℕ) (ts : List (Wanted Asked)) → (length c.waiting + x.last_ended < WINDOW) × (x.doubtful ≡ false) → (target ≢ OWN → x.behind < WINDOW)
      → IsNullIfOwn (record { target = target; call = call }) → filter is_of_caller (record { target = target; call = call } ∷ []) ≡ ts
      → y.word ≡ x.word → y.last_ended ≡ x.last_ended → y.behind ≡ one_more_in_window x.behind → (y.doubtful ≡ false → x.doubtful ≡ false)
      → Brings p (Stepped (Send target call deadline) ∷ []) [] ts (client_sent c (sends WINDOW c target call deadline)) y
  brings_send target call deadline ts (place, none) near own are word ended behind doubtful =
      let o = sends WINDOW c target call deadline in
      let room : length c.waiting < WINDOW = omega (arith, place) in
      let one : Wanted Asked = record { target = target; call = call } in
      let more = sent_more p.reached target call deadline (subst (λ (k : ById Asked). length k.waiting < WINDOW) f.client room) in
      let here : length (course_of p.since).client.waiting + x.last_ended < WINDOW =
      subst (λ (k : ById Asked). length k.waiting + x.last_ended < WINDOW) f.part place in
      record {
        along = (
          (
            answered,
            record {
              near = λ other. near_by_count (course_of p.since) x.behind f.behind (near other);
              back = subst (λ (n : ℕ). length (course_of p.since).client.waiting + n < WINDOW) f.ended here;
              calm = f.calm none;
              own = own;
            },
          ),
          tt,
        );
        fits =
            fits_step c (client_sent c o) x y p (Send target call deadline) f refl (word ∙ none_left x.word done) refl
            (sym (sent_client (course_at c) target call o)) ended behind (λ e. (doubtful e, tt))
            (subst (λ (l : List (Wanted Asked)). AllByRecursion IsNullIfOwn l) (sym more) (all_append IsNullIfOwn p.reached.sent (one ∷ []) f.own (own, tt)));
        settled = sent_settles p.reached target call (sends WINDOW p.reached.client target call deadline);
        taken = ap (filter is_of_caller) more ∙ filter-append is_of_caller p.reached.sent (one ∷ []) ∙ ap (λ l. filter is_of_caller p.reached.sent ++ l) are;
      }
