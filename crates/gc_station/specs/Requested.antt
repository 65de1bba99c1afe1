-- The request of each record, this project's own: an act of the run writes it, with the record's id, at the moment that the record
-- has. An act is one call on the link, with its result.
use Rattle.gc_station.specs.Common.{with_end, asked_line, IDS, Act, Task}
use Rattle.std.specs.Prelude.{◌≡◌, ℕ, ◌<◌, List, Some, None}
use Rattle.gc_station.specs.ActKinds.{Puts}
use Rattle.gc_station.specs.Answers.{IsRecordedBy}
use Rattle.gc_station.specs.Moments.{utc_read}
use Rattle.gc_station.specs.Records.{Record}
use Rattle.gc_station.specs.Runs.{OfEachRecord}
use Rattle.gc_station.specs.Scopes.{Scope}
use Rattle.gc_station.specs.declared.plan.Plan.{Plan}

-- the line of the request of the record `r`, if that was sent: that of its call, with its id
abbrev pub request_of : Record → List ℕ
request_of r = asked_line (Some r.id) r.command.call

-- Of the acts of a run, and a record of it.
module _ (plan : Plan) (commands : List Task) (scope : Scope) (acts : List Act) (r : Record) where
  -- one of the acts, `its.request`, writes the line of the record's request with CR LF, all of it or a part, and the later act
  -- `act` adds the record. The record's moment of sending is the last one that the acts before the request (`its.before`) read
  pub record HasItsRequest : Type 0 where
    pub act : Act
    pub its : IsRecordedBy plan commands scope acts r act
    pub put : Puts (with_end (request_of r)) its.request
    pub moment : r.sent ≡ Some (utc_read 0 its.before)

  -- the record's id is one of a client (`digit`). If its command was sent, the record has its request (`HasItsRequest`), and if not, the
  -- id is 0
  pub record IsOfItsRequest : Type 0 where
    pub sent : (utc : ℕ) → r.sent ≡ Some utc → HasItsRequest
    pub unsent : r.sent ≡ None → r.id ≡ 0
    pub digit : r.id < IDS

-- each record of a run is `IsOfItsRequest`
abbrev pub EachRecordIsOfItsRequest : Type 0
EachRecordIsOfItsRequest = OfEachRecord IsOfItsRequest
