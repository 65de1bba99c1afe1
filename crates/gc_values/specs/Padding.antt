-- No part of a promise: how a text's bytes and the unused ones after them lie in memory.
use Rattle.std.specs.Prelude.{◌≡◌, ◌≤◌, ◌-◌, ◌++◌, length, take, drop, replicate, refl}
use Rattle.std.proofs.Common.{arith, length-take-le}
use Rattle.std.proofs.lemmas.List.{take-append-drop}
use Rattle.gc_values.specs.Text.{AreStringBytes}
use Rattle.gc_values.specs.declared.text.Text.TheInside.{Inside}

-- of the 64 bytes the first `len` are used and allowed in a string, and the unused ones are zero
pub record IsZeroPadded (t : Inside) : Type 0 where
  pub few : t.len ≤ 64
  pub zeros : drop t.len t.bytes ≡ replicate (64 - t.len) 0
  pub long : length t.bytes ≡ 64
  pub plain : AreStringBytes (take t.len t.bytes)

-- the used bytes, with zeros after them up to 64 bytes, are the text again
pub padded_back : (t : Inside) → IsZeroPadded t
    → (let back : Inside = record { bytes = take t.len t.bytes ++ replicate (64 - length (take t.len t.bytes)) 0; len = length (take t.len t.bytes) } in
    back ≡ t)
padded_back t kept =
    let few = kept.few in
    let long = kept.long in
    let within : t.len ≤ length t.bytes = omega arith in
    let e : length (take t.len t.bytes) ≡ t.len = length-take-le t.len t.bytes within in
    let whole : take t.len t.bytes ++ replicate (64 - t.len) 0 ≡ t.bytes = rw (← kept.zeros) (take-append-drop t.len t.bytes) in
    rw e (rw whole refl)
