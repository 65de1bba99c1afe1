-- Calls that meet each premise of `EachAnswerIsOwn`, computed: so the laws that say it aren't about nothing.
use Rattle.geocom_c.proofs.Common.{◌≡◌, ◌⊎◌, ℕ, [], ◌∷◌, None, inl, inr, refl, lit≤, arith, codes, header_at, reply_at, IsCall, Table, Raw, RawCall, exec, handed, IsFittingState, simulator_opening, simulator_ends, counting, kept_by, AnyState, TreatsRawsAlike, kept_of, simulator_is_an_instrument}
use Rattle.std.specs.Prelude.{take, drop}
use Rattle.std.specs.Fmt.{digits}
use Rattle.gc_catalogue.specs.declared.call.Call.TheVariants.{InstrumentNo}
use Rattle.gc_theorems.proofs.CountingChain.{counted_in_field}
use Rattle.gc_theorems.proofs.Witness.{opening_fits, units}
use Rattle.geocom_c.specs.FieldWitness.{AreInField, SomeCallsAreInField, counting_exchange, moves, simulator_exchange}

-- procedure 5003 without parameters is a call
procedure_is_call : IsCall 5003 [] InstrumentNo
procedure_is_call = record { number = refl; values = record { items = []; split = (0, refl); read = tt } }

-- the word, whose first id is 6, isn't in flight where nothing is but one reply with id 0
zero_reply_isnt_the_word : {A : Type 0} → (◌≡◌ {A = ℕ} 6 0 × A) ⊎ ⊥ → ⊥
zero_reply_isnt_the_word (inl f) = absurd (omega (arith, f.0))
zero_reply_isnt_the_word (inr f) = f

-- after each request, also a raw one, the instrument that counts retains its own reply, or nothing
counting_alike : TreatsRawsAlike counting AnyState kept_by
counting_alike state id call good lt = inr (counted_in_field.keeps.always state id call good lt refl)

-- the calls over an instrument that counts meet every premise of `EachAnswerIsOwn` (`AreInField`)
over_counting : (raw : RawCall) → AreInField counting AnyState kept_by (record { count = 27; keeps = None }) (counting_exchange raw)
unfolding header_at reply_at digits
over_counting raw =
    record {
      instrument = counted_in_field.instrument;
      width = (lit≤ tt, lit≤ tt);
      follows = inl (InstrumentNo, refl, procedure_is_call, inl (raw, refl, (refl, refl), refl));
      lines = record { ids = tt; good = tt };
      may = zero_reply_isnt_the_word;
      are = (
        _,
        refl,
        (
          _,
          refl,
          (
            _,
            refl,
            (
              _,
              refl,
              (
                _,
                refl,
                (
                  _,
                  refl,
                  (
                    _,
                    refl,
                    (
                      _,
                      refl,
                      (
                        _,
                        refl,
                        (
                          _,
                          refl,
                          inl (InstrumentNo, refl, procedure_is_call, (_, refl, inl (raw, refl, (refl, refl), (_, refl, (_, refl, (_, refl, (_, refl, (_, refl, refl)))))))),
                        ),
                      ),
                    ),
                  ),
                ),
              ),
            ),
          ),
        ),
      );
      possible = (
        (
          units 25,
          (tt, (tt, (tt, (tt, (tt, ((8, record { number = 9; line = codes "%R1P,0,1:0,37" } ∷ [], refl), ((9, [], refl), tt))))))),
        ),
        (((tt, tt), tt), tt),
      );
      safe = ((λ m command went. inr (inl counting_alike)), ((λ m command went. inr (inl counting_alike)), tt));
      settlements = refl;
      made_on = record {
        front = take 3 (moves (counting_exchange raw));
        later = drop 4 (moves (counting_exchange raw));
        split = refl;
        id = 0;
        rest = record { number = 9; line = record { id = 1; call = Raw raw } } ∷ [];
        reaches = refl;
        executed = refl;
        reply = refl;
      };
    }

-- the calls over the simulator meet every premise of `EachAnswerIsOwn` (`AreInField`)
over_simulator : AreInField simulator_ends IsFittingState kept_of simulator_opening simulator_exchange
unfolding header_at reply_at handed exec digits
over_simulator =
    record {
      instrument = simulator_is_an_instrument.instrument;
      width = (lit≤ tt, lit≤ tt);
      follows = inl (InstrumentNo, refl, procedure_is_call, inl (InstrumentNo, refl, procedure_is_call, refl));
      lines = record { ids = tt; good = opening_fits };
      may = zero_reply_isnt_the_word;
      are = (
        _,
        refl,
        (
          _,
          refl,
          (
            _,
            refl,
            (
              _,
              refl,
              (
                _,
                refl,
                (
                  _,
                  refl,
                  (
                    _,
                    refl,
                    (
                      _,
                      refl,
                      (
                        _,
                        refl,
                        (
                          _,
                          refl,
                          inl (InstrumentNo, refl, procedure_is_call, (_, refl, inl (InstrumentNo, refl, procedure_is_call, (_, refl, (_, refl, (_, refl, (_, refl, (_, refl, refl)))))))),
                        ),
                      ),
                    ),
                  ),
                ),
              ),
            ),
          ),
        ),
      );
      possible = (
        (
          units 25,
          (tt, (tt, (tt, (tt, (tt, ((8, record { number = 9; line = codes "%R1P,0,1:0,123456" } ∷ [], refl), ((9, [], refl), tt))))))),
        ),
        (((tt, tt), tt), tt),
      );
      safe = ((λ m command went. inl (refl, (refl, tt))), ((λ m command went. inl tt), tt));
      settlements = refl;
      made_on = record {
        front = take 3 (moves simulator_exchange);
        later = drop 4 (moves simulator_exchange);
        split = refl;
        id = 0;
        rest = record { number = 9; line = record { id = 1; call = Table InstrumentNo } } ∷ [];
        reaches = refl;
        executed = refl;
        reply = refl;
      };
    }

-- the law: there are calls that meet every premise of the laws
pub some_calls_are_in_field : SomeCallsAreInField
some_calls_are_in_field = record { any = over_counting; simulator = over_simulator }
