-- The acts of a link over a device, by the calls over its connection.
use Rattle.gc_links.proofs.Common.{◌≡◌, ℕ, List, [], ◌∷◌, ◌++◌, Bool, false, refl, ap, ◌∙◌, subst, Option, Some, None, Result, Ok, Err, PortFailed, Came, Moment, Closed, read_act, put_act, clock_act, open_act, Call, Device, Makes, Asked, Dropped, ClocksGive, device_end, reach_call, DoesOver, DoesOnDevice, LeavesNone, Takes, TakesNone, again, anew, Hold, Linked, Nothing, Aside, linked_end, hold_after, ended, ending, TakesHeld, TakesDevice}
use Rattle.gc_links.specs.declared.system.devices.OpenDevice.{OpenDevice}
use Rattle.gc_links.specs.DoesOnDevice.{dropped}
use Rattle.gc_links.proofs.Making.{makes_as, makes_then, makes_one}
use Rattle.gc_links.proofs.Reading.{clocks_only}
use Rattle.gc_links.specs.declared.link.Came.TheVariants as came

module _ (path : List ℕ) (start : ℕ) (before after : Hold) where
  -- a read, by what was done over the connection
  read_is : (came : Came) (buf : List ℕ) (calls : List Call) → after ≡ hold_after (read_act came buf) before
      → DoesOver start (linked_end before) (read_act came buf) calls → DoesOnDevice path start before (read_act came buf) calls after
  read_is (came.Bytes n moment) buf calls is does = (is, does)
  read_is (came.Silence moment) buf calls is does = (is, does)
  read_is came.End buf calls is does = (is, does)
  read_is came.Failure buf calls is does = (is, does)
  read_is came.NoMoment buf calls is does = (is, does)

  -- a write, by what was done over the connection
  put_is : (put : Result (Unit {0}) ℕ) (bytes : List ℕ) (calls : List Call) → after ≡ hold_after (put_act put bytes) before
      → DoesOver start (linked_end before) (put_act put bytes) calls → DoesOnDevice path start before (put_act put bytes) calls after
  put_is (Ok _) bytes calls is does = (is, does)
  put_is (Err n) bytes calls is does = (is, does)

  pub reads_on_device : {old new : List Call} (came : Came) (buf : List ℕ) → Makes old new (DoesOver start (linked_end before) (read_act came buf))
      → after ≡ hold_after (read_act came buf) before → Makes old new (λ calls. DoesOnDevice path start before (read_act came buf) calls after)
  reads_on_device came buf made is =
      makes_as (DoesOver start (linked_end before) (read_act came buf)) (λ calls. DoesOnDevice path start before (read_act came buf) calls after)
      (λ calls does. read_is came buf calls is does) made

  pub puts_on_device : {old new : List Call} (put : Result (Unit {0}) ℕ) (bytes : List ℕ)
      → Makes old new (DoesOver start (linked_end before) (put_act put bytes)) → after ≡ hold_after (put_act put bytes) before
      → Makes old new (λ calls. DoesOnDevice path start before (put_act put bytes) calls after)
  puts_on_device put bytes made is =
      makes_as (DoesOver start (linked_end before) (put_act put bytes)) (λ calls. DoesOnDevice path start before (put_act put bytes) calls after)
      (λ calls does. put_is put bytes calls is does) made

module _ (path : List ℕ) (start : ℕ) (before : Hold) where
  clock_is : (told : Result Moment PortFailed) (calls : List Call) → DoesOver start (linked_end before) (clock_act told) calls
      → DoesOnDevice path start before (clock_act told) calls before
  clock_is (Ok moment) calls does = (refl, does)
  clock_is (Err e) calls does = (refl, does)

  -- a reading of the clock
  pub clock_on_device : {old new : List Call} (told : Result Moment PortFailed) → Makes old new (ClocksGive start told)
      → Makes old new (λ calls. DoesOnDevice path start before (clock_act told) calls before)
  clock_on_device told made =
      makes_as (DoesOver start (linked_end before) (clock_act told)) (λ calls. DoesOnDevice path start before (clock_act told) calls before)
      (λ calls does. clock_is told calls does) (clocks_only start (linked_end before) told made)

module _ (path : List ℕ) (hold : Hold) (E : Type 0) where
  -- the device that was held aside is taken
  pub takes_again : {old new : List Call} (held : Option OpenDevice) (device : OpenDevice) → held ≡ Some device → Makes old new (TakesHeld hold held)
      → Makes old new (TakesDevice {E = E} path hold (Ok device))
  takes_again held device is made =
      makes_as (TakesHeld hold held) (TakesDevice {E = E} path hold (Ok device))
      (λ calls takes. let t : TakesHeld hold (Some device) calls = subst (λ h. TakesHeld hold h calls) is takes in
      again (device_end device) t.0 t.1 refl)
      made

  reach_takes : (result : Result OpenDevice E) (left last : List Call) → LeavesNone hold left → last ≡ reach_call path result ∷ []
      → ((device : OpenDevice) → result ≡ Ok device → device_end device ≡ Device path) → TakesDevice path hold result (left ++ last)
  reach_takes (Ok device) left last leaves is there =
      anew left leaves (ap (λ xs. left ++ xs) is) (ap (λ end. Linked end) (there device refl))
  reach_takes (Err e) left last leaves is there = record { left = left; leaves = leaves; calls_are = ap (λ xs. left ++ xs) is; after_is = refl }

  -- no device was held aside, and the one at the path is opened, or can't be
  pub takes_anew : {old mid new : List Call} (held : Option OpenDevice) (result : Result OpenDevice E) → held ≡ None
      → Makes old mid (TakesHeld hold held) → new ≡ mid ++ reach_call path result ∷ []
      → ((device : OpenDevice) → result ≡ Ok device → device_end device ≡ Device path) → Makes old new (TakesDevice path hold result)
  takes_anew held result is made reached there =
      makes_then (LeavesNone hold) (λ ys. ys ≡ reach_call path result ∷ []) (TakesDevice path hold result)
      (λ xs ys leaves last. reach_takes result xs ys leaves last there)
      (makes_as (TakesHeld hold held) (LeavesNone hold) (λ calls t. subst (λ h. TakesHeld hold h calls) is t) made)
      (makes_one (λ ys. ys ≡ reach_call path result ∷ []) (reach_call path result) reached refl)

module _ (path : List ℕ) (start : ℕ) (before aside : Hold) (E : Type 0) where
  -- a new connection
  pub opens_device : {old mid new : List Call} (result : Result OpenDevice E) (device : OpenDevice) → result ≡ Ok device
      → Makes old mid (λ calls. (calls ≡ ending before) × (aside ≡ ended before)) → Makes mid new (TakesDevice path aside result)
      → Makes old new (λ calls. DoesOnDevice path start before (open_act {X = Unit {0}} {E = PortFailed} (Ok tt)) calls (Linked (device_end device)))
  opens_device result device is ends takes =
      makes_then (λ calls. (calls ≡ ending before) × (aside ≡ ended before)) (TakesDevice path aside result)
      (λ calls. DoesOnDevice path start before (open_act {X = Unit {0}} {E = PortFailed} (Ok tt)) calls (Linked (device_end device)))
      (λ xs ys e t. (
        ys,
        ap (λ zs. zs ++ ys) e.0,
        subst (λ h. Takes path h ys (Linked (device_end device))) e.1
            (subst (λ r. TakesDevice path aside r ys) is t),
      ))
      ends takes

  -- no new connection
  pub opens_no_device : {old mid new : List Call} (result : Result OpenDevice E) (e : E) (failed : PortFailed) → result ≡ Err e
      → Makes old mid (λ calls. (calls ≡ ending before) × (aside ≡ ended before)) → Makes mid new (TakesDevice path aside result)
      → Makes old new (λ calls. DoesOnDevice path start before (open_act {X = Unit {0}} {E = PortFailed} (Err failed)) calls Nothing)
  opens_no_device result e failed is ends takes =
      makes_then (λ calls. (calls ≡ ending before) × (aside ≡ ended before)) (TakesDevice path aside result)
      (λ calls. DoesOnDevice path start before (open_act {X = Unit {0}} {E = PortFailed} (Err failed)) calls Nothing)
      (λ xs ys e t. (
        ys,
        ap (λ zs. zs ++ ys) e.0,
        subst (λ h. TakesNone path h ys Nothing) e.1
            (subst (λ r. TakesDevice path aside r ys) is t),
      ))
      ends takes

module _ (path : List ℕ) (start : ℕ) (before after : Hold) where
  -- the connection was ended
  pub close_on_device : {old new : List Call} → Makes old new (λ calls. (calls ≡ ending before) × (after ≡ ended before))
      → Makes old new (λ calls. DoesOnDevice path start before Closed calls after)
  close_on_device made =
      makes_as (λ calls. (calls ≡ ending before) × (after ≡ ended before)) (λ calls. DoesOnDevice path start before Closed calls after)
      (λ calls e. e) made

module _ (hold : Hold) (device : OpenDevice) where
  -- the device that was held aside isn't a terminal any more, and is closed
  pub held_gone : {old mid new : List Call} (still : Bool) → hold ≡ Aside (device_end device) → still ≡ false
      → mid ≡ old ++ Asked (device_end device) still ∷ [] → new ≡ mid ++ Dropped (device_end device) ∷ [] → Makes old new (TakesHeld hold None)
  held_gone still is gone asked closed =
      makes_then (λ xs. xs ≡ Asked (device_end device) false ∷ []) (λ ys. ys ≡ Dropped (device_end device) ∷ []) (TakesHeld hold None)
      (λ xs ys a d. dropped (device_end device) is (ap (λ zs. zs ++ ys) a ∙ ap (λ zs. Asked (device_end device) false ∷ zs) d))
      (makes_one (λ xs. xs ≡ Asked (device_end device) false ∷ []) (Asked (device_end device) still) asked
      (ap (λ b. Asked (device_end device) b ∷ []) gone))
      (makes_one (λ ys. ys ≡ Dropped (device_end device) ∷ []) (Dropped (device_end device)) closed refl)
