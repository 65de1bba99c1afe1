-- Bytes that came once more by the same moment make nothing more of a session.
use Rattle.gc_session.proofs.Common.{◌≡◌, ℕ, ◌||◌, Bool, true, false, if◌then◌else◌, nat_lt, nat_le, min, List, [], ◌∷◌, map, refl, ap, ◌∙◌, arith, Asked, expired, expires, Pending, Exchange, Standing, hold_left, moment_passed, moment_read, ComingTwiceIsComingOnce, Session, is_up, met_in}

or_twice : (a b : Bool) → (a || b || b) ≡ (a || b)
or_twice true b = refl
or_twice false true = refl
or_twice false false = refl

expired_twice : (now : ℕ) (ps : List (Pending Asked)) → map (expired now) (map (expired now) ps) ≡ map (expired now) ps
expired_twice now [] = refl
expired_twice now (p ∷ ps) =
    ap (λ b. (let q : Pending Asked = record p { given_up = b } in q) ∷ map (expired now) (map (expired now) ps)) (or_twice p.given_up (nat_le p.deadline now))
    ∙ ap (λ qs. expired now p ∷ qs) (expired_twice now ps)

min_twice : (a n : ℕ) → min (min a n) n ≡ min a n
min_twice a n = omega arith

hold_twice : (hold now : ℕ) → hold_left (hold_left hold now) now ≡ hold_left hold now
hold_twice hold now = by_test (nat_lt now hold) refl where
  none : (b : Bool) → ◌≡◌ {A = ℕ} (if b then 0 else 0) 0
  none true = refl
  none false = refl

  by_test : (b : Bool) → nat_lt now hold ≡ b → hold_left (if b then hold else 0) now ≡ (if b then hold else 0)
  by_test true e = ap (λ b. if b then hold else 0) e
  by_test false e = none (nat_lt now 0)

read_twice : (now : ℕ) (x : Exchange) → moment_read now (moment_read now x) ≡ moment_read now x
read_twice now x =
    ap (λ a. let y : Exchange = record x { since = now; alive = a; hold = hold_left (hold_left x.hold now) now } in y) (min_twice x.alive now)
    ∙ ap (λ h. let y : Exchange = record x { since = now; alive = min x.alive now; hold = h } in y) (hold_twice x.hold now)

passed_twice : (now : ℕ) (x : Exchange) → moment_passed now (moment_passed now x) ≡ moment_passed now x
passed_twice now x =
    ap (λ n. let y : Exchange = record x { since = n; alive = min (min x.alive now) now; hold = hold_left (hold_left x.hold now) now } in y) (min_twice x.since now)
    ∙ ap (λ a. let y : Exchange = record x { since = min x.since now; alive = a; hold = hold_left (hold_left x.hold now) now } in y) (min_twice x.alive now)
    ∙ ap (λ h. let y : Exchange = record x { since = min x.since now; alive = min x.alive now; hold = h } in y) (hold_twice x.hold now)

same_phase : (up : Bool) (now : ℕ) (t : Standing) → (met_in up now t).phase ≡ t.phase
same_phase true now t = refl
same_phase false now t = refl

met_twice : (up : Bool) (now : ℕ) (t : Standing) → met_in up now (met_in up now t) ≡ met_in up now t
met_twice true now t = ap (λ x. let u : Standing = record t { moment = now; listened = false; exchange = x } in u) (read_twice now t.exchange)
met_twice false now t = ap (λ x. let u : Standing = record t { moment = now; exchange = x } in u) (passed_twice now t.exchange)

-- the law
pub came_twice : ComingTwiceIsComingOnce
came_twice now s =
    let up = is_up s.standing.phase in
    let t = met_in up now s.standing in
    ap (λ b. let u : Session = record s { standing = met_in b now t; client = expires (expires s.client now) now } in u) (ap is_up (same_phase up now s.standing))
    ∙ ap (λ v. let u : Session = record s { standing = v; client = expires (expires s.client now) now } in u) (met_twice up now s.standing)
    ∙ ap (λ ps. let u : Session = record s { standing = t; client = record s.client { waiting = ps } } in u) (expired_twice now s.client.waiting)
