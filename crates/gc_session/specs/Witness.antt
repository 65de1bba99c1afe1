-- A run of a session, from its start to the answer to a request of its caller's, this project's own: what is said of any calls isn't said of
-- a session that does nothing.
use Rattle.gc_session.specs.Common.{Table, NullProc, Answered}
use Rattle.std.specs.Prelude.{◌≡◌, ℕ, List, [], ◌∷◌, ◌++◌}
use Rattle.gc_session.specs.declared.session.TheConstants.{OWN}
use Rattle.gc_session.specs.declared.settings.Settings.{Settings}
use Rattle.gc_session.specs.declared.settings.Want.TheVariants.{Send}
use Rattle.gc_session.specs.Calls.{Call, Steps, Asks, Hears, Opens, settled_all}
use Rattle.gc_session.specs.Laws.{taken_all}
use Rattle.gc_session.specs.Sessions.{opening}

-- the reply `%R1P,0,d:0` with the digit `d` as its id
abbrev pub null_reply : (digit : ℕ) → List ℕ
null_reply digit = 37 ∷ 82 ∷ 49 ∷ 80 ∷ 44 ∷ 48 ∷ 44 ∷ digit ∷ 58 ∷ 48 ∷ []

-- a step at which a null procedure is sent, and its reply
abbrev pub null_answered : (digit : ℕ) → List Call
null_answered digit = Steps Send 2 ∷ Hears (null_reply digit) ∷ []

-- a connection is made, and its line feed sent; eight null procedures, with the ids 6 5 4 3 2 1 0 7, are answered; then one of the session's
-- client, and then the caller's request, for the target 5
abbrev pub a_run : List Call
a_run =
    (Steps Send 0 ∷ Opens 1 ∷ Steps Send 1 ∷ [])
    ++ null_answered 54 ++ null_answered 53 ++ null_answered 52 ++ null_answered 51 ++ null_answered 50 ++ null_answered 49 ++ null_answered 48 ++ null_answered 55
    ++ null_answered 48 ++ (Steps Send 3 ∷ Asks 5 (Table NullProc) 1000 ∷ Hears (null_reply 49) ∷ [])

-- a session with one request in flight, ten seconds for an answer, and two of quiet
abbrev pub chosen : Settings
chosen = record { width = 1; timeout = 10000; quiet = 2000 }

-- over that run the session takes the caller's request, and settles its own null procedure and the request, each by its reply
pub record ARunIsAnswered : Type 0 where
  pub taken : taken_all a_run (opening chosen) ≡ record { target = 5; call = Table NullProc } ∷ []
  pub settled : settled_all a_run (opening chosen)
      ≡ record { target = OWN; call = Table NullProc; outcome = Answered (null_reply 48) } ∷ record { target = 5; call = Table NullProc; outcome = Answered (null_reply 49) } ∷ []
