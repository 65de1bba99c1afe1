-- The runs of `specs/BoundRuns.antt`, computed.
use Rattle.gc_station.proofs.Common.{List, [], ◌∷◌, ◌++◌, inl, inr, None, refl, lit<, lit≤, codes, header_at, reply_at, with_end, is_off_target, Act, Told, Put, Gave, Silent, Opened, Unopened, at, at_asking, exchanged, null_lines, null_replies, OutageIsRecorded, CallsAreNeeded, ReadingsAreNeeded, DeadlinesAreNeeded, UnaskedIsNeeded, scope, outage_plan, outage_commands, outage, stalled_read, stalled_reading, quick_plan, slow_commands, long_deadline, chain_commands, asked_in_chain}
use Rattle.std.specs.Fmt.{digits}
use Rattle.gc_station.proofs.Returning.{calls_soon, calls_each, readings_at_once, not_in_time}

-- the acts of a synchronization, up to the beginning of the first cycle
abbrev until_synchronized : List Act
until_synchronized = Opened ∷ Put (10 ∷ []) ∷ Told (at 0) ∷ exchanged null_lines null_replies []

-- the acts by which the client's first null procedure is answered
abbrev first_null : List Act
first_null = exchanged (codes "%R1Q,0,0:" ∷ []) (codes "%R1P,0,0:0" ∷ []) []

-- the run over a line on which no connection can be made is recorded by its bound
pub outage_recorded : OutageIsRecorded
outage_recorded =
    record {
      is = record { runs = (tt, (tt, (tt, (tt, (tt, (tt, (tt, (tt, (tt, (tt, tt)))))))))); some = lit< tt; listed = lit≤ tt; rises = (lit≤ tt, lit≤ tt, (lit≤ tt, lit≤ tt, (lit≤ tt, lit≤ tt, (lit≤ tt, lit≤ tt, (lit≤ tt, lit≤ tt, (lit≤ tt, lit≤ tt, (lit≤ tt, lit≤ tt, (lit≤ tt, lit≤ tt, (lit≤ tt, lit≤ tt, tt))))))))) };
      few = (lit≤ tt, (lit≤ tt, tt));
      calls = calls_each outage_plan outage_commands scope 5 outage (lit≤ tt) (λ slow. (0, refl, lit≤ tt), (λ slow. absurd slow, (λ slow. (200, (None, refl, refl), lit≤ tt), (λ slow. absurd slow, (λ slow. absurd slow, (λ slow. (100, (None, refl, refl), lit≤ tt), (λ slow. absurd slow, (λ slow. absurd slow, (λ slow. (100, (None, refl, refl), lit≤ tt), (λ slow. (600, (None, refl, refl), lit≤ tt), tt))))))))));
      readings = readings_at_once outage_plan outage_commands scope outage (inr tt, (inr (lit≤ tt), (inl tt, (inr (lit≤ tt), (inr (lit≤ tt), (inl tt, (inr (lit≤ tt), (inr (lit≤ tt), (inl tt, (inl tt, tt))))))))));
      unasked = refl;
      records = refl;
      long = lit< tt;
    }

-- the run with a read that returns too late isn't in time
pub calls_needed : CallsAreNeeded
calls_needed =
    record {
      is = record { runs = (tt, (tt, (tt, tt))); some = lit< tt; listed = lit≤ tt; rises = (lit≤ tt, lit≤ tt, (lit≤ tt, lit≤ tt, tt)) };
      few = (lit≤ tt, (lit≤ tt, tt));
      readings = readings_at_once outage_plan outage_commands scope stalled_read (inr tt, (inr (lit≤ tt), (inl tt, tt)));
      unasked = refl;
      beyond = not_in_time outage_plan outage_commands scope 216 100 stalled_read (lit< tt) (inr (refl, refl)) (λ n. lit< tt) (lit≤ tt);
    }

-- the run with a reading that returns too late isn't in time
pub readings_needed : ReadingsAreNeeded
readings_needed =
    record {
      is = record { runs = (tt, (tt, (tt, (tt, tt)))); some = lit< tt; listed = lit≤ tt; rises = (lit≤ tt, lit≤ tt, (lit≤ tt, lit≤ tt, (lit≤ tt, lit≤ tt, tt))) };
      few = (lit≤ tt, (lit≤ tt, tt));
      calls = calls_each outage_plan outage_commands scope 5 stalled_reading (lit≤ tt) (λ slow. (0, refl, lit≤ tt), (λ slow. absurd slow, (λ slow. (200, (None, refl, refl), lit≤ tt), (λ slow. absurd slow, tt))));
      unasked = refl;
      beyond = not_in_time outage_plan outage_commands scope 216 100 stalled_reading (lit< tt) (inl (at 1000, record { before = Unopened ∷ Told (at 0) ∷ Silent (at 200) ∷ []; behind = []; order = refl; begins = refl; number = refl }, refl)) (λ n. lit< tt) (lit≤ tt);
    }

-- the run with a long deadline isn't in time
pub deadlines_needed : DeadlinesAreNeeded
unfolding is_off_target header_at reply_at digits
deadlines_needed =
    record {
      is = record { runs = (tt, (refl, (tt, (refl, (tt, (tt, (refl, (tt, (tt, (refl, (tt, (tt, (refl, (tt, (tt, (refl, (tt, (tt, (refl, (tt, (tt, (refl, (tt, (tt, (refl, (tt, (tt, (tt, (refl, (tt, (tt, (refl, (tt, (tt, (tt, (tt, tt)))))))))))))))))))))))))))))))))))); some = lit< tt; listed = lit≤ tt; rises = (lit≤ tt, lit≤ tt, (lit≤ tt, lit≤ tt, (lit≤ tt, lit≤ tt, (lit≤ tt, lit≤ tt, (lit≤ tt, lit≤ tt, (lit≤ tt, lit≤ tt, (lit≤ tt, lit≤ tt, (lit≤ tt, lit≤ tt, (lit≤ tt, lit≤ tt, (lit≤ tt, lit≤ tt, (lit≤ tt, lit≤ tt, (lit≤ tt, lit≤ tt, (lit≤ tt, lit≤ tt, (lit≤ tt, lit≤ tt, (lit≤ tt, lit≤ tt, (lit≤ tt, lit≤ tt, (lit≤ tt, lit≤ tt, (lit≤ tt, lit≤ tt, (lit≤ tt, lit≤ tt, (lit≤ tt, lit≤ tt, (lit≤ tt, lit≤ tt, (lit≤ tt, lit≤ tt, (lit≤ tt, lit≤ tt, (lit≤ tt, lit≤ tt, tt)))))))))))))))))))))))) };
      calls = calls_soon quick_plan slow_commands scope 10 long_deadline (lit≤ tt) (λ slow. lit≤ tt, (λ slow. lit≤ tt, (λ slow. lit≤ tt, (λ slow. lit≤ tt, (λ slow. lit≤ tt, (λ slow. lit≤ tt, (λ slow. lit≤ tt, (λ slow. lit≤ tt, (λ slow. lit≤ tt, (λ slow. lit≤ tt, (λ slow. lit≤ tt, (λ slow. lit≤ tt, (λ slow. lit≤ tt, (λ slow. lit≤ tt, (λ slow. lit≤ tt, (λ slow. lit≤ tt, (λ slow. lit≤ tt, (λ slow. lit≤ tt, (λ slow. lit≤ tt, (λ slow. lit≤ tt, (λ slow. lit≤ tt, (λ slow. lit≤ tt, (λ slow. lit≤ tt, (λ slow. lit≤ tt, (λ slow. lit≤ tt, (λ slow. lit≤ tt, (λ slow. lit≤ tt, (λ slow. lit≤ tt, (λ slow. lit≤ tt, (λ slow. lit≤ tt, (λ slow. lit≤ tt, (λ slow. lit≤ tt, (λ slow. lit≤ tt, (λ slow. lit≤ tt, (λ slow. lit≤ tt, (λ slow. lit≤ tt, tt))))))))))))))))))))))))))))))))))));
      readings = readings_at_once quick_plan slow_commands scope long_deadline (inr tt, (inr tt, (inr (lit≤ tt), (inr tt, (inr (lit≤ tt), (inr (lit≤ tt), (inr tt, (inr (lit≤ tt), (inr (lit≤ tt), (inr tt, (inr (lit≤ tt), (inr (lit≤ tt), (inr tt, (inr (lit≤ tt), (inr (lit≤ tt), (inr tt, (inr (lit≤ tt), (inr (lit≤ tt), (inr tt, (inr (lit≤ tt), (inr (lit≤ tt), (inr tt, (inr (lit≤ tt), (inr (lit≤ tt), (inr tt, (inr (lit≤ tt), (inr (lit≤ tt), (inr (lit≤ tt), (inr tt, (inr (lit≤ tt), (inr (lit≤ tt), (inr tt, (inr (lit≤ tt), (inl tt, (inl tt, (inl tt, tt))))))))))))))))))))))))))))))))))));
      unasked = refl;
      beyond = not_in_time quick_plan slow_commands scope 14 0 long_deadline (lit< tt) (inl (at 0, record { before = until_synchronized; behind = first_null ++ (Put (with_end (codes "%R1Q,5003,1:")) ∷ Told (at 0) ∷ Silent (at 10) ∷ Silent (at 20) ∷ Silent (at 30) ∷ []); order = refl; begins = refl; number = refl }, refl)) (λ n. lit< tt) (lit≤ tt);
    }

-- the run whose end was asked for within a chain isn't in time
pub unasked_needed : UnaskedIsNeeded
unfolding is_off_target header_at reply_at digits
unasked_needed =
    record {
      is = record { runs = (tt, (refl, (tt, (refl, (tt, (tt, (refl, (tt, (tt, (refl, (tt, (tt, (refl, (tt, (tt, (refl, (tt, (tt, (refl, (tt, (tt, (refl, (tt, (tt, (refl, (tt, (tt, (tt, (refl, (tt, (tt, (refl, (tt, (tt, (refl, (tt, (tt, (refl, (tt, (tt, tt)))))))))))))))))))))))))))))))))))))))); some = lit< tt; listed = lit≤ tt; rises = (lit≤ tt, lit≤ tt, (lit≤ tt, lit≤ tt, (lit≤ tt, lit≤ tt, (lit≤ tt, lit≤ tt, (lit≤ tt, lit≤ tt, (lit≤ tt, lit≤ tt, (lit≤ tt, lit≤ tt, (lit≤ tt, lit≤ tt, (lit≤ tt, lit≤ tt, (lit≤ tt, lit≤ tt, (lit≤ tt, lit≤ tt, (lit≤ tt, lit≤ tt, (lit≤ tt, lit≤ tt, (lit≤ tt, lit≤ tt, (lit≤ tt, lit≤ tt, (lit≤ tt, lit≤ tt, (lit≤ tt, lit≤ tt, (lit≤ tt, lit≤ tt, (lit≤ tt, lit≤ tt, (lit≤ tt, lit≤ tt, (lit≤ tt, lit≤ tt, (lit≤ tt, lit≤ tt, (lit≤ tt, lit≤ tt, (lit≤ tt, lit≤ tt, (lit≤ tt, lit≤ tt, (lit≤ tt, lit≤ tt, tt)))))))))))))))))))))))))) };
      few = (lit≤ tt, (lit≤ tt, (lit≤ tt, (lit≤ tt, (lit≤ tt, tt)))));
      calls = calls_soon quick_plan chain_commands scope 10 asked_in_chain (lit≤ tt) (λ slow. lit≤ tt, (λ slow. lit≤ tt, (λ slow. lit≤ tt, (λ slow. lit≤ tt, (λ slow. lit≤ tt, (λ slow. lit≤ tt, (λ slow. lit≤ tt, (λ slow. lit≤ tt, (λ slow. lit≤ tt, (λ slow. lit≤ tt, (λ slow. lit≤ tt, (λ slow. lit≤ tt, (λ slow. lit≤ tt, (λ slow. lit≤ tt, (λ slow. lit≤ tt, (λ slow. lit≤ tt, (λ slow. lit≤ tt, (λ slow. lit≤ tt, (λ slow. lit≤ tt, (λ slow. lit≤ tt, (λ slow. lit≤ tt, (λ slow. lit≤ tt, (λ slow. lit≤ tt, (λ slow. lit≤ tt, (λ slow. lit≤ tt, (λ slow. lit≤ tt, (λ slow. lit≤ tt, (λ slow. lit≤ tt, (λ slow. lit≤ tt, (λ slow. lit≤ tt, (λ slow. lit≤ tt, (λ slow. lit≤ tt, (λ slow. lit≤ tt, (λ slow. lit≤ tt, (λ slow. lit≤ tt, (λ slow. lit≤ tt, (λ slow. lit≤ tt, (λ slow. lit≤ tt, (λ slow. lit≤ tt, (λ slow. lit≤ tt, tt))))))))))))))))))))))))))))))))))))))));
      readings = readings_at_once quick_plan chain_commands scope asked_in_chain (inr tt, (inr tt, (inr (lit≤ tt), (inr tt, (inr (lit≤ tt), (inr (lit≤ tt), (inr tt, (inr (lit≤ tt), (inr (lit≤ tt), (inr tt, (inr (lit≤ tt), (inr (lit≤ tt), (inr tt, (inr (lit≤ tt), (inr (lit≤ tt), (inr tt, (inr (lit≤ tt), (inr (lit≤ tt), (inr tt, (inr (lit≤ tt), (inr (lit≤ tt), (inr tt, (inr (lit≤ tt), (inr (lit≤ tt), (inr tt, (inr (lit≤ tt), (inr (lit≤ tt), (inr (lit≤ tt), (inr tt, (inr (lit≤ tt), (inr (lit≤ tt), (inr tt, (inr (lit≤ tt), (inl tt, (inr tt, (inr (lit≤ tt), (inl tt, (inr tt, (inr (lit≤ tt), (inl tt, tt))))))))))))))))))))))))))))))))))))))));
      beyond = not_in_time quick_plan chain_commands scope 23 0 asked_in_chain (lit< tt) (inl (
        at 0,
        record {
          before = until_synchronized;
          behind = first_null ++ (
              Put (with_end (codes "%R1Q,5003,1:"))
              ∷ Told (at_asking 0)
              ∷ Gave (with_end (codes "%R1P,0,1:0,0")) (at 9)
              ∷ Put (with_end (codes "%R1Q,5003,2:"))
              ∷ Told (at 9)
              ∷ Gave (with_end (codes "%R1P,0,2:0,0")) (at 18)
              ∷ Put (with_end (codes "%R1Q,5003,3:"))
              ∷ Told (at 18)
              ∷ Gave (with_end (codes "%R1P,0,3:0,0")) (at 27)
              ∷ []
              );
          order = refl;
          begins = refl;
          number = refl;
        },
        refl,
      )) (λ n. lit< tt) (lit≤ tt);
    }
