-- No part of a promise: what is written and noted of the settlements of outstanding requests, and what of a book stays.
use Rattle.gc_station.specs.Common.{Asked, settlement_seen, FailsWith, Moment, End}
use Rattle.std.specs.Prelude.{◌≡◌, ℕ, Bool, false, List, map, Option, Result, OnOk}
use Rattle.gc_client.specs.declared.settlement.Settlement.{Settlement}
use Rattle.gc_station.specs.Attempts.{listed_after, listed_after_settlements}
use Rattle.gc_station.specs.Busy.{busy_after, busy_after_settlements}
use Rattle.gc_station.specs.Counters.{count_noted, counts_after_settlements}
use Rattle.gc_station.specs.Firsts.{first_noted, firsts_after}
use Rattle.gc_station.specs.Marks.{records_of, is_well, last_well, unexpected_noted, any_unexpected}
use Rattle.gc_station.specs.Records.{Record}
use Rattle.gc_station.specs.Scopes.{ForEachReadings, Reads}
use Rattle.gc_station.specs.Tallies.{counted_in, tallied}
use Rattle.gc_station.specs.Watching.{renewed, fresh_after}
use Rattle.gc_station.specs.declared.book.Book.{Ghosts as Book}
use Rattle.gc_station.specs.declared.mark.Mark.{Mark}
use Rattle.gc_station.specs.declared.recorded.Recorded.{Recorded}
use Rattle.gc_station.specs.declared.station.Station.{Station}
use Rattle.gc_client.specs.Rule

-- the records of settlements as the client returns them, by the marks of all outstanding requests, all made at the moment `utc`
-- by the clock of time stamps (`records_of`)
abbrev pub news_of : (utc : ℕ) → List (Option Mark) → List (Settlement Asked) → Reads → List Record
news_of utc marks settlements reads = records_of reads utc marks (map settlement_seen settlements)

-- what is kept of the records, `r`, once the command with `mark` was recorded at the moment `now`: it ended as `end`, and `code` is the return code other than 0 of the reply that ended it, if there is one
abbrev pub noted : Mark → (now : Moment) → (code : Option ℕ) → End → Recorded → Recorded
noted mark now code end r = record {
  tally = counted_in mark.cycle mark.expected.turn end r.tally;
  well = is_well end;
  listed = listed_after r.listed mark.expected code end;
  fresh = map (renewed now.elapsed now.utc mark.cycle mark.expected.turn.place end) r.fresh;
  firsts = first_noted mark.cycle mark.expected.turn end r.firsts;
  counts = count_noted mark.expected end r.counts;
  unexpected = unexpected_noted end r.unexpected;
  busy = busy_after r.busy mark.expected code;
}

-- what is kept of the records, `r`, once `records`, of commands that weren't sent, are written; with `listed` in place of its own
abbrev pub recorded_unsent : (records : List Record) → (listed : Bool) → Recorded → Recorded
recorded_unsent records listed r = record r { tally = tallied r.tally records; well = false; listed = listed }

-- what is kept of the records, `r`, once these settlements of the requests with these marks were recorded at the moment `now`
abbrev pub recorded_after : (now : Moment) → List (Option Mark) → List (Rule.Settlement Asked) → Reads → Recorded → Recorded
recorded_after now marks settlements reads r =
    let news = records_of reads now.utc marks settlements in
    record {
      tally = tallied r.tally news;
      well = last_well r.well news;
      listed = listed_after_settlements reads r.listed marks settlements;
      fresh = fresh_after now.elapsed r.fresh news;
      firsts = firsts_after r.firsts news;
      counts = counts_after_settlements reads r.counts marks settlements;
      unexpected = any_unexpected r.unexpected news;
      busy = busy_after_settlements reads r.busy marks settlements;
    }

-- if the call with this result succeeded, what is kept of the records is `new`: what `recorded_after` makes of `old`, for each
-- function that gives each line's reading for a call
abbrev pub NotesNews : {X E : Type 0} → (old new : Recorded) → Moment → List (Option Mark) → List (Settlement Asked) → Result X E → Type 0
NotesNews old new now marks settlements result =
    OnOk result (ForEachReadings (λ reads. new ≡ recorded_after now marks (map settlement_seen settlements) reads old))

-- the records of what this station has settled, made at the moment read last
abbrev pub news_settled : Station → Reads → List Record
news_settled station reads = news_of station.progress.moment.utc station.marks.items station.settled.items reads

-- if the call with this result succeeded, the station `new` keeps of the records what `old` did and what `old` has settled
abbrev pub NotesSettled : {X E : Type 0} → (old new : Station) → Result X E → Type 0
NotesSettled old new result = NotesNews old.recorded new.recorded old.progress.moment old.marks.items old.settled.items result

-- after a call with this result a book writes records in the form that it had. It has failed if the call did (`Err`); otherwise
-- it has failed exactly if it had before
pub record KeepsBook {B X E : Type 0} (of_book : Book B) (old new : B) (result : Result X E) : Type 0 where
  pub form : of_book.text new ≡ of_book.text old
  pub fails : FailsWith result (of_book.failed old) (of_book.failed new)
