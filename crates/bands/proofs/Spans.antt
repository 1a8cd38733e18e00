-- The places of a band, as `span` has them: its part of a slice, and one band more of what each place has.
use mathlib.Core.Path.{◌≡◌, ap, ◌∙◌}
use mathlib.Core.Bool.{Bool}
use mathlib.Core.List.{List, ◌++◌}
use Prim.Native.Nat.{ℕ, ◌+◌, ◌-◌, ◌≤◌, ◌<◌}
use native.Mathlib.Omega.{arith}
use borrow.Rule.Slice.PartMut.{mid_of}
use lib.ListN.{length, get_or, drop, replicate, length-drop}
use lib.Seq.{length-take-le}
use Rattle.bands.specs.Bands.{layout, count_of, band_at, none}
use Rattle.bands.specs.declared.BandInfo.{BandInfo}
use Rattle.bands.proofs.Laid.{band_within}
use Rattle.bands.proofs.Spread.{per_place_to, place_next}

-- the places of a band, as the code has them
pub record Lies (e : Bool) (b from to : ℕ) : Type 0 where
  pub number : b < 10
  pub begins : from ≡ (band_at e b).offset
  pub ends : to ≡ from + count_of (band_at e b)

-- how long the part is that is lent
pub part_length : {A : Type 0} (e : Bool) (b from to : ℕ) (l : List A) → Lies e b from to → 4096 ≤ length l → length (mid_of from (to - from) l) ≡ to - from
part_length e b from to l p h = length-take-le (to - from) (drop from l) (omega (arith, length-drop from l, p.begins, p.ends, band_within e b))

-- the places of one band more
pub place_more : {A : Type 0} (e : Bool) (f : ℕ → A) (b from to : ℕ) → Lies e b from to → per_place_to e f (b + 1) ≡ per_place_to e f b ++ replicate (to - from) (f b)
place_more e f b from to p =
    let k : count_of (band_at e b) ≡ to - from = omega (arith, p.ends) in
    place_next e f b p.number ∙ ap (λ (n : ℕ). per_place_to e f b ++ replicate n (f b)) k

-- ════ a layout at hand ════

module _ (l : List BandInfo) (e : Bool) (b : ℕ) (is : l ≡ layout e) where
  pub at_hand : get_or l b none ≡ band_at e b
  at_hand = ap (λ (l : List BandInfo). get_or l b none) is

  pub hand_within : (get_or l b none).offset + count_of (get_or l b none) ≤ 4096
  hand_within = rw at_hand (band_within e b)
