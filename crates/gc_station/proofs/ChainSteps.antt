-- What each action's act does to the place in a cycle and to the fields on chains: it leaves them, breaks the chain, goes on to
-- the next command, leaves out attempts, or begins a cycle. And which actions leave the connection open. An act is one call on
-- the link, with its result.
use Rattle.gc_station.proofs.Common.{◌≡◌, ◌⊎◌, inl, inr, ℕ, ◌-◌, true, false, List, [], refl, sym, ap, ◌∙◌, subst, both_ways, false_from_ne_true, Task, Cause, Plan, Action, Begin, Renew, Open, Send, Skip, Pass, Read, Close, Stop, Prepare, Progress, Act, Told, Cut, Opened, KeepsOpen, failing, Model, Performs, waiting_of, with_rest, moved, cycle_length, commands_before, is_chained_after}
use Rattle.gc_station.proofs.Walk.{closed_along, sent_same, moved_changed, walk}
use Rattle.gc_station.specs.declared.cause.Cause.TheVariants as cause

-- What an act does to the place in a cycle, and to the chain that is there.

-- from p to q the next command stays the same, and so do the fields on chains, except that the chain may be broken
pub record Still (p q : Progress) : Type 0 where
  pub left : q.left ≡ p.left
  pub unsent : q.unsent ≡ p.unsent
  pub missed : q.missed ≡ p.missed
  pub next_is_chained : q.next_is_chained ≡ p.next_is_chained
  pub chain_unbroken : q.chain_unbroken ≡ true → p.chain_unbroken ≡ true

-- q is in the same cycle as p, with `count` commands fewer left, or none; and whether the next one of q waits for the answer of
-- the one before it is what `is_chained_after` says
pub record GoesOnBy (plan : Plan) (count : ℕ) (commands : List Task) (p q : Progress) : Type 0 where
  pub left : q.left ≡ p.left
  pub unsent : q.unsent ≡ p.unsent - count
  pub missed : q.missed ≡ p.missed
  pub chained : q.next_is_chained ≡ is_chained_after plan count commands p

-- q is at the beginning of a cycle of `count` commands: all are unsent, and no chain goes on
pub record AtCycleStart (count : ℕ) (q : Progress) : Type 0 where
  pub unsent : q.unsent ≡ count
  pub chain_unbroken : q.chain_unbroken ≡ false

-- what an act of an action does to the fields on chains, from p to q: it leaves them, breaks the chain, goes on to the next
-- command, leaves out attempts, or begins a cycle. If an action has two cases, the first is that the clock couldn't be read
abbrev pub ChangesChain : Plan → List Task → Action → (p q : Progress) → Type 0
ChangesChain plan commands Begin p q = Still p q ⊎ AtCycleStart (cycle_length plan commands) q
ChangesChain plan commands Renew p q = Still p q ⊎ (Still p q × (q.chain_unbroken ≡ false))
ChangesChain plan commands Send p q = GoesOnBy plan 1 commands p q
ChangesChain plan commands Skip p q = Still p q ⊎ (GoesOnBy plan 1 commands p q × (q.chain_unbroken ≡ false))
ChangesChain plan commands Pass p q = Still p q ⊎ (GoesOnBy plan p.next_others commands p q × (q.chain_unbroken ≡ false))
ChangesChain plan commands Prepare p q = Still p q × (q.chain_unbroken ≡ false)
ChangesChain plan commands (Close why) p q = Still p q × (q.chain_unbroken ≡ false)
ChangesChain plan commands _ p q = Still p q

-- if these fields are the same, `Still` holds
pub still : (p q : Progress) → (left : q.left ≡ p.left) → (unsent : q.unsent ≡ p.unsent) → (missed : q.missed ≡ p.missed) → (next_is_chained : q.next_is_chained ≡ p.next_is_chained)
    → (chain_unbroken : q.chain_unbroken ≡ p.chain_unbroken) → Still p q
still p q left unsent missed next_is_chained chain_unbroken = record { left = left; unsent = unsent; missed = missed; next_is_chained = next_is_chained; chain_unbroken = λ e. sym chain_unbroken ∙ e }

-- if these fields are the same, but for a chain that is broken in q, `Still` holds, and q's chain is broken
pub still_but_broken : (p q : Progress) → (left : q.left ≡ p.left) → (unsent : q.unsent ≡ p.unsent) → (missed : q.missed ≡ p.missed) → (next_is_chained : q.next_is_chained ≡ p.next_is_chained)
    → (chain_unbroken : q.chain_unbroken ≡ false) → Still p q × (q.chain_unbroken ≡ false)
still_but_broken p q left unsent missed next_is_chained chain_unbroken = (
  record {
    left = left;
    unsent = unsent;
    missed = missed;
    next_is_chained = next_is_chained;
    chain_unbroken =
        λ e. let both : true ≡ false = sym e ∙ chain_unbroken in cc;
  },
  chain_unbroken,
)

-- an act of each action does to these fields what `ChangesChain` says
pub moved_steps : (plan : Plan) (commands : List Task) (action : Action) (s : Model) (act : Act)
    → ChangesChain plan commands action s.progress (moved plan commands action s act).progress
moved_steps plan commands Begin s (Told m) = inr (record { unsent = refl; chain_unbroken = refl })
moved_steps plan commands Begin s act = inl (still s.progress _ refl refl refl refl refl)
moved_steps plan commands Renew s (Told m) = inr (still_but_broken s.progress _ refl refl refl refl refl)
moved_steps plan commands Renew s act = inl (still s.progress _ refl refl refl refl refl)
moved_steps plan commands Open s Opened = still s.progress _ refl refl refl refl refl
moved_steps plan commands Open s act = (still_but_broken s.progress _ refl refl refl refl refl).0
moved_steps plan commands Prepare s (Cut bytes n) = still_but_broken s.progress _ refl refl refl refl refl
moved_steps plan commands Prepare s act = still_but_broken s.progress _ refl refl refl refl refl
moved_steps plan commands Send s (Cut bytes n) =
    subst (λ (x : Model). GoesOnBy plan 1 commands s.progress (failing (cause.Write (commands_before plan commands s.progress) n) x.progress)) (sent_same plan commands s)
    (record { left = refl; unsent = refl; missed = refl; chained = refl })
moved_steps plan commands Send s act =
    subst (λ (x : Model). GoesOnBy plan 1 commands s.progress x.progress) (sent_same plan commands s) (record { left = refl; unsent = refl; missed = refl; chained = refl })
moved_steps plan commands Skip s (Told m) = inr (record { left = refl; unsent = refl; missed = refl; chained = refl }, refl)
moved_steps plan commands Skip s act = inl (still s.progress _ refl refl refl refl refl)
moved_steps plan commands Pass s (Told m) = inr (record { left = refl; unsent = refl; missed = refl; chained = refl }, refl)
moved_steps plan commands Pass s act = inl (still s.progress _ refl refl refl refl refl)
moved_steps plan commands (Close why) s act =
    closed_along (λ (q : Progress). Still s.progress q × (q.chain_unbroken ≡ false)) plan (waiting_of (with_rest [] s)) why s.progress
    (still_but_broken s.progress _ refl refl refl refl refl) (still_but_broken s.progress _ refl refl refl refl refl)
moved_steps plan commands action s act =
    let is = moved_changed plan commands action s act in
    still s.progress _ (ap (λ (x : Model). x.progress.left) is) (ap (λ (x : Model). x.progress.unsent) is) (ap (λ (x : Model). x.progress.missed) is)
    (ap (λ (x : Model). x.progress.next_is_chained) is)
    (ap (λ (x : Model). x.progress.chain_unbroken) is)

-- no act but that of a send mends a broken chain
pub stays_broken : (plan : Plan) (commands : List Task) (action : Action) (s : Model) (act : Act) → (action ≡ Send → ⊥) → s.progress.chain_unbroken ≡ false
    → (moved plan commands action s act).progress.chain_unbroken ≡ false
stays_broken plan commands action s act other broken = by_action action (moved_steps plan commands action s act) other where
  -- a chain that is unbroken after an act that keeps the place was so before
  kept : (q : Progress) → Still s.progress q → q.chain_unbroken ≡ false
  kept q k = false_from_ne_true q.chain_unbroken (λ e. both_ways s.progress.chain_unbroken broken (k.chain_unbroken e))

  -- the lemma above, by the action
  by_action : (a : Action) → ChangesChain plan commands a s.progress (moved plan commands a s act).progress → (a ≡ Send → ⊥) → (moved plan commands a s act).progress.chain_unbroken ≡ false
  by_action Begin (inl k) differs = kept _ k
  by_action Begin (inr first) differs = first.chain_unbroken
  by_action Renew (inl k) differs = kept _ k
  by_action Renew (inr both) differs = both.1
  by_action Send on differs = absurd (differs refl)
  by_action Skip (inl k) differs = kept _ k
  by_action Skip (inr both) differs = both.1
  by_action Pass (inl k) differs = kept _ k
  by_action Pass (inr both) differs = both.1
  by_action Prepare both differs = both.1
  by_action (Close why) both differs = both.1
  by_action other k differs = kept _ k

-- no act but that of a close closes the connection
pub stays_open : (plan : Plan) (commands : List Task) (next : Action) (s : Model) (act : Act) → Performs commands s next act → ((why : Cause) → next ≡ Close why → ⊥) → KeepsOpen act
stays_open plan commands (Read until) s act o other = walk plan commands (λ a (t : Model). KeepsOpen a) (Read until) s act o (λ bytes m. tt, λ m. tt, tt, tt, tt)
stays_open plan commands (Close why) s act o other = absurd (other why refl)
stays_open plan commands (Stop why) s act o other = absurd o
stays_open plan commands next s act o other = walk plan commands (λ a (t : Model). KeepsOpen a) next s act o (λ m. tt, λ n. tt)
