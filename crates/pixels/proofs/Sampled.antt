-- Samples: those of one component, how many they are, of three components one after another where they lie, and their pixels.
use mathlib.Core.Path.{◌≡◌, sym, ap, ap₂, ◌∙◌}
use mathlib.Core.Bool.{true}
use mathlib.Core.List.{List, ◌++◌}
use Prim.Native.Nat.{ℕ, ◌+◌, ◌*◌, ◌<◌}
use native.Mathlib.Numerals.{add-one}
use native.Mathlib.Omega.{arith}
use borrow.Rule.Slice.PartMut.{put_mid, mid_of}
use lib.IntN.{ℤ}
use lib.ListN.{length, drop}
use Rattle.planes.specs.Planes.{component, row_of, joined}
use Rattle.planes.specs.Inner.{with_component}
use Rattle.planes.proofs.Joined.{Long, up_to, joined_components, parts_long, component_joined, here, next}
use Rattle.dequantizer.specs.Dequantize.{dequantized_all, quantizers}
use Rattle.dequantizer.proofs.Dequantized.{all_length}
use Rattle.dwt_extrapolate.proofs.Lengths.{inverse_length}
use Rattle.color.specs.Color.{picture}
use Rattle.pixels.specs.Pixels.{samples, samples_of, rgba}

-- as many as coefficients
samples_length : (quant : List ℕ) (cs : List ℤ) → length cs ≡ 4096 → length (samples quant cs) ≡ 4096
samples_length quant cs n =
    let e = all_length (quantizers true quant) cs in
    inverse_length (dequantized_all (quantizers true quant) cs) (omega arith) ∙ e ∙ n

-- a component's samples y go where it lies; n is the length of the part as the code has it
pub samples_put : (quants quant : List ℕ) (k n : ℕ) (cs y : List ℤ) → n ≡ 4096 → quant ≡ row_of k quants → y ≡ samples quant (mid_of (k * 4096) n cs) → put_mid (k * 4096) n cs y ≡ with_component k (samples_of quants cs k) cs
samples_put quants quant k n cs y whole row d =
    ap (put_mid (k * 4096) n cs) d ∙ ap₂ (λ (n : ℕ) (r : List ℕ). put_mid (k * 4096) n cs (samples r (mid_of (k * 4096) n cs))) whole row

-- the first k are done
abbrev pub Reached : List ℕ → List ℤ → ℕ → List ℤ → Type 0
Reached quants cs k c = c ≡ joined (up_to k (samples_of quants cs) (λ j. component j cs))

-- all three
module _ (quants : List ℕ) (cs : List ℤ) (n : length cs ≡ 12288) where
  long_samples : Long 4096 (samples_of quants cs)
  long_samples k h = samples_length (row_of k quants) (component k cs) (parts_long 4096 cs n k h)

  -- none is done
  pub none_reached : Reached quants cs 0 cs
  none_reached = sym (joined_components cs n)

  -- one more; the number j that the call was given is the turn's
  pub one_more : (k : ℕ) → k < 3 → {c c' : List ℤ} → Reached quants cs k c → {j : ℕ} → c' ≡ with_component j (samples_of quants c j) c → j ≡ k → Reached quants cs (k + 1) c'
  one_more k h {c} {c'} r e turn =
      let d = rw turn at e in
      let still : component k c ≡ component k cs = here 4096 (samples_of quants cs) (λ j. component j cs) long_samples (parts_long 4096 cs n) k h c r in
      rw (add-one k) (d ∙ next 4096 (samples_of quants cs) (λ j. component j cs) long_samples (parts_long 4096 cs n) k h c _ r (ap (samples (row_of k quants)) still))

  -- all are done
  pub all_reached : (k : ℕ) → k ≡ 3 → {c : List ℤ} → Reached quants cs k c → c ≡ joined (samples_of quants cs)
  all_reached k e r = r ∙ ap (λ (k : ℕ). joined (up_to k (samples_of quants cs) (λ j. component j cs))) e

  -- and their pixels px', over px
  pub pictured : (l : List ℤ) (px px' : List ℕ) → l ≡ joined (samples_of quants cs) → px' ≡ picture (component 0 l) (component 1 l) (component 2 l) ++ drop 16384 px → px' ≡ rgba quants cs ++ drop 16384 px
  unfolding rgba
  pictured l px px' p q =
      let of : (k : ℕ) → k < 3 → component k l ≡ samples_of quants cs k = λ k h. ap (component k) p ∙ component_joined (samples_of quants cs) long_samples k h in
      q ∙ rw (of 0 (omega arith), of 1 (omega arith), of 2 (omega arith))

-- px' are the pixels of the coefficients cs, over px
pub record Shown (cs : List ℤ) (quants px px' : List ℕ) : Type 0 where
  pub is : px' ≡ rgba quants cs ++ drop 16384 px

pub shown : {cs : List ℤ} {quants : List ℕ} (px : List ℕ) {px' : List ℕ} → px' ≡ rgba quants cs ++ drop 16384 px → Shown cs quants px px'
shown px e = record { is = e }
