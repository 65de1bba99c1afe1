-- What holds of a session wherever something is next in it.
use Rattle.gc_session.proofs.Common.{◌≡◌, ◌+◌, ◌<◌, true, false, arith, cond_both, nat_tests, WINDOW, Next, Want, Nothing, Answers, Phase, next_synchronizing, has_begun, has_room, Session, all_of, current_of, load_of, the_choices, next_ready, next_in, next_of, wanted_of}
use Rattle.gc_session.specs.declared.settings.Want.TheVariants.{Send}
use Rattle.gc_session.proofs.Choosing.{room_of, flush_chosen, to_send_chosen, synchronizing_chosen}
use Rattle.gc_session.specs.declared.next.Next.TheVariants as next
use Rattle.gc_session.specs.declared.standing.Phase.TheVariants as phase

-- the outstanding requests, and those that the last line ended that ended any, are together fewer than the window has places, and nothing
-- called for a synchronization
abbrev pub HasPlace : Session → Type 0
HasPlace s = (all_of s + s.standing.exchange.last_ended < WINDOW) × (s.standing.exchange.doubtful ≡ false)

-- what holds of a session in which this is next: it has synchronized wherever its client makes a step; there is room wherever a request is
-- sent; and one of the caller's is near a call of the table
abbrev pub HoldsAt : Session → Next → Type 0
HoldsAt s next.Null = has_begun s.standing.exchange ≡ false
HoldsAt s next.Flush = (has_begun s.standing.exchange ≡ true) × HasPlace s
HoldsAt s next.Renew = has_begun s.standing.exchange ≡ true
HoldsAt s next.Ask = (has_begun s.standing.exchange ≡ true) × HasPlace s × (s.standing.exchange.behind < WINDOW)
HoldsAt s _ = Unit {0}

module _ (s : Session) where
  -- there is place where there is room
  place : has_room s.settings.width (all_of s) (current_of s) s.standing.exchange ≡ true → HasPlace s
  place e = let it = room_of s.settings.width (all_of s) (current_of s) s.standing.exchange e in (it.1, it.2)

  -- of what is next while the client synchronizes
  synchronizing_holds : has_begun s.standing.exchange ≡ false → HoldsAt s (next_synchronizing the_choices (load_of s) s.standing.exchange)
  synchronizing_holds unbegun = synchronizing_chosen the_choices (load_of s) s.standing.exchange (HoldsAt s) tt unbegun tt

  -- of what is next on a connection that is ready
  ready_holds : (want : Want) → HoldsAt s (next_ready want s)
  ready_holds Nothing = tt
  ready_holds Answers =
      cond_both (has_begun s.standing.exchange) _ _ (HoldsAt s)
      (λ begun. flush_chosen the_choices (load_of s) s.standing.exchange (HoldsAt s) tt begun tt (λ room. (begun, place room))) synchronizing_holds
  ready_holds Send =
      cond_both (has_begun s.standing.exchange) _ _ (HoldsAt s)
      (λ begun. to_send_chosen the_choices (load_of s) s.standing.exchange (HoldsAt s) tt begun tt (λ room. (begun, place room))
      next.Ask (λ near room. (begun, place room, grind (arith, nat_tests, near))))
      synchronizing_holds

  -- of what is next in this phase
  in_phase : (p : Phase) (want : Want) → HoldsAt s (next_in p want s)
  in_phase phase.Ready want = ready_holds want
  in_phase phase.Down Nothing = tt
  in_phase phase.Down _ = tt
  in_phase phase.Clearing Nothing = tt
  in_phase phase.Clearing _ = tt
  in_phase _ want = tt

  -- of what is next
  pub next_holds : (want : Want) → HoldsAt s (next_of want s)
  next_holds want = in_phase s.standing.phase (wanted_of want (all_of s))
