-- The runs of `specs/DamagedRun.antt` come out as it says, by computation.
use Rattle.gc_theorems.proofs.Common.{◌≡◌, ℕ, ◌+◌, ◌≤◌, inl, inr, false, [], Some, refl, subst, arith, lit<, codes, same_Some, none-some, header_at, reply_at, IDS, exec, handed, AllowsSend}
use Rattle.std.specs.Fmt.{digits}
use Rattle.gc_theorems.proofs.Witness.{opening_fits}
use Rattle.gc_theorems.specs.DamagedRun.{IsDamagedRun, IsDamagedStretch, until_last}

-- a line of request `last` allows a send, also by another name of its number
allows : (sent last n : ℕ) → Some last ≡ Some n → sent + 1 ≤ last + IDS → AllowsSend sent n
allows sent last n e le = subst (AllowsSend sent) (same_Some last n e) le

-- some run with damage meets the premises
pub damaged_run : IsDamagedRun
unfolding header_at reply_at handed exec digits
damaged_run = record {
  clean = record { good = opening_fits; up = tt; down = tt; keeps = λ k e. absurd (none-some k e) };
  rare = (record { own = inl refl; up = tt; down = tt; keeps = λ reply n e l. omega arith }, (record { own = inl refl; up = (omega arith, tt); down = tt; keeps = λ reply n e l. omega arith }, (record { own = inl refl; up = (omega arith, (omega arith, tt)); down = tt; keeps = λ reply n e l. omega arith }, (tt, (tt, (tt, (tt, (record { own = inl refl; up = (omega arith, (omega arith, tt)); down = (omega arith, tt); keeps = λ reply n e l. omega arith }, ((8, [], refl), (tt, ((9, [], refl), (tt, ((10, [], refl), (lit< tt, (tt, ((11, [], refl), tt))))))))))))))));
  apart = ((inl refl, omega arith), ((inl refl, omega arith), ((inl refl, omega arith), (tt, (tt, (tt, (inr refl, ((inl refl, omega arith), ((8, [], refl), (tt, ((9, [], refl), (tt, ((10, [], refl), (lit< tt, (tt, ((11, [], refl), tt))))))))))))))));
  fresh = (record { own = inl refl; up = tt; down = tt; keeps = λ reply n e l. allows 8 7 n l (omega arith) }, (record { own = inl refl; up = (omega arith, tt); down = tt; keeps = λ reply n e l. allows 9 7 n l (omega arith) }, (record { own = inl refl; up = (omega arith, (omega arith, tt)); down = tt; keeps = λ reply n e l. allows 10 7 n l (omega arith) }, (tt, (tt, (tt, (tt, (record { own = inl refl; up = (omega arith, (omega arith, tt)); down = (omega arith, tt); keeps = λ reply n e l. allows 11 8 n l (omega arith) }, ((8, [], refl), (tt, ((9, [], refl), (tt, ((10, [], refl), (lit< tt, (tt, ((11, [], refl), tt))))))))))))))));
  settled = refl;
}

-- some stretch with damage meets the premises
pub damaged_stretch : IsDamagedStretch
unfolding header_at reply_at handed exec digits
damaged_stretch = record {
  formed = record { ids = (lit< tt, (lit< tt, tt)); good = opening_fits };
  turns = (tt, (tt, (tt, (tt, (tt, (tt, (tt, (tt, (tt, (tt, (tt, (tt, (tt, (tt, (tt, (tt, (tt, (tt, (tt, (tt, (tt, (tt, (tt, (tt, (tt, (tt, (tt, (tt, (tt, (tt, (tt, (tt, (tt, (tt, (tt, tt)))))))))))))))))))))))))))))))))));
  own = record {
    front = until_last;
    later = [];
    split = refl;
    alone = refl;
    reply = record { old = false; line = codes "%R1P,0,7:0" };
    rest = [];
    next = refl;
    own = refl;
    id = refl;
  };
  fresh = (record { own = inl refl; up = tt; down = tt; keeps = λ reply n e l. allows 8 7 n l (omega arith) }, (tt, ((8, [], refl), tt)));
}
