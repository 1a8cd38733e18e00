-- What the numbers of zero signs tell whoever waits for a picture (docs/SCOPE.md, "Zero signs").
use Rattle.std.specs.Prelude.{◌≡◌, Bool, true, false, cond, not, ◌&&◌, List, [], ◌∷◌, map, ℕ, ◌+◌, ◌≤◌, ◌<◌, eqb, ℤ, pos, get_or, length, replicate, Option, None}
use Rattle.fixed.specs.Fixed.{is_zero}
use Rattle.bands.specs.Bands.{layout, count_of, band_at}
use Rattle.bands.specs.Positions.{every}
use Rattle.answer.specs.Answers.{number}
use Rattle.answer.specs.declared.Refusal.{Refusal}
use Rattle.planes.specs.Planes.{component, row_of, joined}
use Rattle.zero_signs.specs.ZeroSigns.{signs_in}
use Rattle.tile.specs.Tile.{fresh, upgrade_refusal}
use Rattle.tile.specs.declared.TileState.{TileState}
use Rattle.reach.specs.Reach.{TileFits, Pass, Call, after_call, answers_to, last_of, picture_of, Reached}
use Rattle.reach.specs.Corollaries.{rows_at, all_over}

-- ════ an accepted pass ════

-- a tile's number of band b of component k
abbrev pub number_at : TileState → ℕ → ℕ → ℕ
number_at t k b = get_or (row_of k t.zero_signs) b 0

-- the sum of some numbers
abbrev pub total : List ℕ → ℕ
total [] = 0
total (n ∷ ns) = n + total ns

-- how many signs have been set: those that were 0 and are not any longer, counted one by one
unfoldable pub set_in : List ℤ → List ℤ → ℕ
set_in [] new = 0
set_in (s ∷ old) [] = 0
set_in (s ∷ old) (s' ∷ new) = cond (is_zero s && not (is_zero s')) 1 0 + set_in old new

-- the signs of a component's band in a tile, by a layout
abbrev pub band_signs : Bool → ℕ → ℕ → TileState → List ℤ
band_signs e b k t = signs_in (band_at e b) (component k t.sign)

-- what becomes of the numbers from a tile t to the tile u after a pass
pub record Falls (t u : TileState) : Type 0 where
  -- "the number of a band falls exactly by the number of signs that the pass set in it"
  pub band : (k b : ℕ) → k < 3 → b < 10
      → number_at t k b ≡ number_at u k b + set_in (band_signs t.use_reduce_extrapolate b k t) (band_signs t.use_reduce_extrapolate b k u)
  -- "an accepted upgrade never raises a number"
  pub not_raised : (k b : ℕ) → k < 3 → b < 10 → number_at u k b ≤ number_at t k b
  -- ".. and the sum over a component by the number of signs that it set there"
  pub sum : (k : ℕ) → k < 3
      → total (row_of k t.zero_signs) ≡ total (row_of k u.zero_signs) + set_in (component k t.sign) (component k u.sign)

-- ════ zeros that are true ════

-- a loaded tile of zeros, each position 3, and a pass that brings all bits
abbrev pub blank : Bool → TileState
blank e = all_over (pos 0) (pos 0) e

abbrev pub all_bits_of : List Pass
all_bits_of = record { rows = rows_at 0; quality = 100 } ∷ []

-- "a band whose positions reach 0 may still have zeros: these are true zeros"
pub record TrueZeros (e : Bool) : Type 0 where
  pub fits : TileFits (blank e)
  pub positions : last_of (blank e) all_bits_of ≡ replicate 30 0
  -- streams are there that leave it as it is
  pub reached : Reached (blank e) all_bits_of (picture_of (blank e))
  -- with every sign 0
  pub numbers : (blank e).zero_signs ≡ joined (λ k. map count_of (layout e))

-- ════ the theorem ════

-- no answer is refusal 8
abbrev pub is_not_eight : Option Refusal → Bool
is_not_eight a = not (eqb (number a) 8)

pub record UndecidedFalls : Type 0 where
  -- of every tile whose array of signs is as long as its type says, by any accepted pass with any streams
  pub falls : (t : TileState) → length t.sign ≡ 12288 → (k : Call) → upgrade_refusal t k.pass.rows ≡ None → Falls t (after_call t k)
  -- "in a list of passes from a tile that fits, 8 never occurs"
  pub never_eight : (t : TileState) → TileFits t → (ks : List Call) → every is_not_eight (answers_to t ks) ≡ true
  -- the fresh tile has "every count of the standard layout"
  pub fresh_numbers : fresh.zero_signs ≡ joined (λ k. map count_of (layout false))
  pub true_zeros : (e : Bool) → TrueZeros e
