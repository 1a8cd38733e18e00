-- Whole streams of known values, by `refl`. Assumes nothing.
use mathlib.Core.Path.{◌≡◌, refl}
use mathlib.Core.List.{List, [], ◌∷◌, map}
use Prim.Native.Nat.{ℕ}
use lib.IntN.{ℤ, pos, negsuc}
use lib.ListN.{length, replicate}
use Rattle.bits.specs.Bits.{num, zeros}
use Rattle.srl_decoder.specs.Srl.{values}
use Rattle.srl_decoder.specs.Decode.{start_state, decode_out}
use Rattle.srl_held.specs.Stream.{stream_bytes}

record Sample : Type 0 where
  width : ℕ
  given : List ℤ
  bytes : List ℕ

-- no value; a 1 of width 1, which is the maximum; a -3 of width 3 behind two zeros; a zero that is still pending at the end
abbrev samples : List Sample
samples =
    record { width = 5; given = []; bytes = 0 ∷ [] }
    ∷ record { width = 1; given = pos 1 ∷ []; bytes = 128 ∷ 0 ∷ [] }
    ∷ record { width = 3; given = pos 0 ∷ pos 0 ∷ negsuc 2 ∷ []; bytes = 82 ∷ 0 ∷ [] }
    ∷ record { width = 3; given = pos 0 ∷ []; bytes = 192 ∷ 0 ∷ [] }
    ∷ []

samples_hold : map (λ s. stream_bytes s.width s.given) samples ≡ map (λ s. s.bytes) samples
samples_hold = refl

-- and decoded again, over an output that held sevens
samples_back : map (λ s. decode_out s.bytes start_state (replicate (length s.given) (pos 7)) (length s.given) s.width) samples ≡ map (λ s. s.given) samples
unfolding values num zeros
samples_back = refl
