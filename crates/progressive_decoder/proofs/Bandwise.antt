-- A pass, read, from band to band: the walk over the first places, and those of one band more, which are lent as a part of both slices.
use mathlib.Core.Path.{◌≡◌, ap, ◌∙◌}
use mathlib.Core.Bool.{Bool}
use mathlib.Core.List.{List}
use Prim.Native.Nat.{ℕ, ◌-◌, ◌≤◌}
use native.Mathlib.Omega.{arith}
use borrow.Rule.Slice.PartMut.{put_mid, mid_of}
use lib.IntN.{ℤ}
use lib.ListN.{length, take, replicate, length-replicate}
use Rattle.srl_decoder.specs.Srl.{start}
use Rattle.srl_decoder.specs.Decode.{opened}
use Rattle.upgrade_steps.specs.Steps.{Step, steps}
use Rattle.upgrade_steps.specs.Inner.{SameStep}
use Rattle.upgrade_steps.proofs.Stretches.{first_length}
use Rattle.progressive_decoder.specs.Inner.{Walked, walked, walk, walked_by}
use Rattle.progressive_decoder.specs.declared.upgrade.Readers.{Readers}
use Rattle.progressive_decoder.proofs.Walks.{parted, walk_part}

module _ (s d : List ℕ) (e : Bool) (prev curr : List ℕ) (from to : ℕ) (t : Step) (p : SameStep e prev curr from to t) where
  -- places of one step are walked by themselves and put back
  pub band_turn : (cs ss cs' ss' : List ℤ) (r : Readers) (w : Walked) → 4096 ≤ length cs → 4096 ≤ length ss
      → walk s d (take from (steps e prev curr)) cs ss start 0 ≡ walked_by cs' ss' r
      → walk s d (replicate (to - from) t) (mid_of from (to - from) cs') (mid_of from (to - from) ss') (opened r.srl) r.raw ≡ w
      → walk s d (take to (steps e prev curr)) cs ss start 0 ≡ walked (put_mid from (to - from) cs' w.coefficients) (put_mid from (to - from) ss' w.sign) w.srl w.raw
  band_turn cs ss cs' ss' r w h k before now =
      let ts = take from (steps e prev curr) in
      let us = replicate (to - from) t in
      let o : length ts ≡ from = first_length p in
      let n : length us ≡ to - from = length-replicate (to - from) t in
      ap (λ (l : List Step). walk s d l cs ss start 0) p.more
      ∙ walk_part s d ts us cs ss start 0 (omega (arith, o, n, p.begins, p.ends)) (omega (arith, o, n, p.begins, p.ends))
      ∙ (λ i. parted s d us (o i) (n i) (before i))
      ∙ ap (λ (v : Walked). walked (put_mid from (to - from) cs' v.coefficients) (put_mid from (to - from) ss' v.sign) v.srl v.raw) now
