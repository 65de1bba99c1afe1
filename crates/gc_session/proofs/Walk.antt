-- Where the parts of a call lead: a claim holds there that holds wherever they may lead.
use Rattle.gc_session.proofs.Common.{ℕ, ◌&&◌, Bool, true, false, List, cond_both, is_sign_on, Settings, Want, Nothing, Phase, Standing, drained, is_past, Session, attended, line_came_in, line_heard, line_heard_if, line_synchronized, quieted_in}
use Rattle.gc_session.specs.declared.settings.Want.TheVariants.{Send}
use Rattle.gc_session.specs.declared.standing.Phase.TheVariants as phase

-- what is wanted: nothing, or something
pub attended_along : (P : Standing → Type 0) (want : Want) (now : ℕ) (t : Standing) → P (attended Nothing now t) → P (attended Send now t) → P (attended want now t)
attended_along P Nothing now t rests wants = rests
attended_along P _ now t rests wants = wants

-- the end of a pause, which only changes the phase, or of a draining
pub quieted_along : (P : Standing → Type 0) (p : Phase) (settings : Settings) (t : Standing) → ((q : Phase) → P (record t { phase = q }))
    → P (record t { phase = phase.Ready; exchange = drained t.moment t.exchange }) → P (quieted_in p settings t)
quieted_along P phase.Pausing settings t moved ready = moved _
quieted_along P phase.Draining settings t moved ready =
    cond_both (t.listened && is_past settings.quiet t.moment t.exchange) _ t P (λ _. ready) (λ _. moved t.phase)
quieted_along P _ settings t moved ready = moved t.phase

-- a line: it is discarded, heard by the client, or by the synchronization
pub line_along : (P : Session → Type 0) (s : Session) (line : List ℕ) (p : Phase) (begun : Bool) → P s → P (line_heard line s) → P (line_synchronized line s) → P (line_came_in p begun line s)
line_along P s line phase.Ready true same heard answered = by_test (is_sign_on line) where
  -- the lemma above, whether it has a sign-on in it
  by_test : (c : Bool) → P (line_heard_if c line s)
  by_test true = same
  by_test false = heard
line_along P s line phase.Ready false same heard answered = answered
line_along P s line _ begun same heard answered = same
