-- A tile: made, loaded, upgraded, and its pixels (docs/SCOPE.md, "Tile").
use Rattle.std.specs.Prelude.{◌≡◌, Bool, false, ◌&&◌, List, ℕ, ◌+◌, min, ℤ, pos, replicate, ⊤, Option, Result}
use Rattle.bands.specs.Positions.{every, row_in_domain, rows_in_domain}
use Rattle.answer.specs.declared.Refusal.{Refusal}
use Rattle.answer.specs.declared.Refusal.TheVariants.{SliceTooShort, OutOfDomain, ImpossibleState}
use Rattle.answer.specs.Answers.{unless, first_of, long_enough, answered, unless_refused}
use Rattle.progressive_decoder.specs.declared.MissingBits.{MissingBits}
use Rattle.components.specs.Components.{pass_coefficients, pass_signs, pass_missing}
use Rattle.planes.specs.Planes.{joined, of, taken}
use Rattle.zero_signs.specs.ZeroSigns.{zero_signs_of, are_right}
use Rattle.pixels.specs.Pixels.{pixels_refusal, pixels_out}
use Rattle.tile.specs.declared.TileState.{TileState}

-- ════ the fresh tile ════

-- "`LOSSLESS` (ten zeros)"
abbrev pub lossless : List ℕ
lossless = replicate 10 0

-- "coefficients and signs 0, positions `LOSSLESS` .. base quantizers 6, standard layout, pass number 0"; "all three count the zero signs"
unfoldable pub fresh : TileState
fresh = record {
  coefficients = replicate 12288 (pos 0);
  sign = replicate 12288 (pos 0);
  zero_signs = zero_signs_of false (replicate 12288 (pos 0));
  prog_quant = joined (λ k. lossless);
  quant_idx = replicate 3 0;
  base_quant = replicate 30 6;
  pass = 0;
  is_difference = false;
  quality = 0;
  use_reduce_extrapolate = false;
}

-- ════ a loaded tile ════

-- "a loading call puts in coefficients, signs, rows and layout, with pass number 1; the other fields are the fresh tile's"
unfoldable pub loaded : List (List ℤ) → List (List ℤ) → List (List ℕ) → List (List ℕ) → Bool → TileState
loaded cs ss rows quants e = record {
  coefficients = taken cs;
  sign = taken ss;
  zero_signs = zero_signs_of e (taken ss);
  prog_quant = joined (of rows);
  quant_idx = fresh.quant_idx;
  base_quant = joined (of quants);
  pass = 1;
  is_difference = fresh.is_difference;
  quality = fresh.quality;
  use_reduce_extrapolate = e;
}

-- "order: .. 1, 2"
abbrev pub load_refusal : List (List ℤ) → List (List ℤ) → List (List ℕ) → List (List ℕ) → Option Refusal
load_refusal cs ss rows quants =
    first_of (unless (every long_enough cs && every long_enough ss) SliceTooShort) (unless (rows_in_domain rows && rows_in_domain quants) OutOfDomain)

-- what `load` answers: the tile, or the refusal
abbrev pub load : List (List ℤ) → List (List ℤ) → List (List ℕ) → List (List ℕ) → Bool → Result TileState Refusal
load cs ss rows quants e = answered (load_refusal cs ss rows quants) (loaded cs ss rows quants e)

-- ════ a tile that is handed in ════

-- "a tile handed in with a wrong number gets refusal 8, before all other checks": by its signs, numbers and layout
abbrev pub numbers_refusal_by : Bool → List ℤ → List ℕ → Option Refusal
numbers_refusal_by e ss ns = unless (are_right e ss ns) ImpossibleState

-- of a tile
abbrev pub numbers_refusal : TileState → Option Refusal
numbers_refusal t = numbers_refusal_by t.use_reduce_extrapolate t.sign t.zero_signs

-- ════ an upgraded tile ════

-- "adds 1 to the pass number, which stays at 65535"
abbrev pub next_pass : ℕ → ℕ
next_pass n = min (n + 1) 65535

-- "`decode_upgrade` does three components, then stores rows and quality and adds 1 to the pass number .. every other field is kept"
unfoldable pub upgraded : TileState → List (List ℕ) → List (List ℕ) → List (List ℕ) → ℕ → TileState
upgraded t srl_data raw_data rows q = record {
  coefficients = pass_coefficients t.use_reduce_extrapolate t.prog_quant rows srl_data raw_data t.coefficients t.sign;
  sign = pass_signs t.use_reduce_extrapolate t.prog_quant rows srl_data t.sign;
  zero_signs = zero_signs_of t.use_reduce_extrapolate (pass_signs t.use_reduce_extrapolate t.prog_quant rows srl_data t.sign);
  prog_quant = joined (of rows);
  quant_idx = t.quant_idx;
  base_quant = t.base_quant;
  pass = next_pass t.pass;
  is_difference = t.is_difference;
  quality = q;
  use_reduce_extrapolate = t.use_reduce_extrapolate;
}

-- "a position or quantizer above 15, given or anywhere in the tile handed in": by the tile's positions and quantizers and the rows given
abbrev pub rows_refusal : List ℕ → List ℕ → List (List ℕ) → Option Refusal
rows_refusal positions quants rows = unless (rows_in_domain rows && (row_in_domain positions && row_in_domain quants)) OutOfDomain

-- of a pass over a tile: "order: 8, .. 2"; its arrays are never too short
abbrev pub upgrade_refusal : TileState → List (List ℕ) → Option Refusal
upgrade_refusal t rows = first_of (numbers_refusal t) (rows_refusal t.prog_quant t.base_quant rows)

-- how many bits of its streams were missing
abbrev pub upgrade_missing : TileState → List (List ℕ) → List (List ℕ) → List (List ℕ) → MissingBits
upgrade_missing t srl_data raw_data rows = pass_missing t.use_reduce_extrapolate t.prog_quant rows srl_data raw_data t.sign

-- what `decode_upgrade` answers: the bits that were missing, or the refusal
abbrev pub upgrade_answer : TileState → List (List ℕ) → List (List ℕ) → List (List ℕ) → Result MissingBits Refusal
upgrade_answer t srl_data raw_data rows = answered (upgrade_refusal t rows) (upgrade_missing t srl_data raw_data rows)

-- the tile then: "a refusal gives .. the state handed in"
abbrev pub upgraded_tile : TileState → List (List ℕ) → List (List ℕ) → List (List ℕ) → ℕ → TileState
upgraded_tile t srl_data raw_data rows q = unless_refused (upgrade_refusal t rows) (upgraded t srl_data raw_data rows q) t

-- what the call fixes: its answer, and the tile
pub record DecodesUpgrade (t : TileState) (srl_data raw_data rows : List (List ℕ)) (q : ℕ) (r : Result MissingBits Refusal) (t' : TileState) : Type 0 where
  pub answer : r ≡ upgrade_answer t srl_data raw_data rows
  pub tile : t' ≡ upgraded_tile t srl_data raw_data rows q

-- ════ its pixels ════

-- why they are refused: "order: 8, 1, 2, 3"
abbrev pub reconstruct_refusal : TileState → List ℕ → Option Refusal
reconstruct_refusal t px = first_of (numbers_refusal t) (pixels_refusal t.prog_quant t.base_quant t.use_reduce_extrapolate px)

-- what `reconstruct_to_rgba` answers. The tile is lent to be read alone: it "does not change the tile"
abbrev pub reconstruct_answer : TileState → List ℕ → Result ⊤ Refusal
reconstruct_answer t px = answered (reconstruct_refusal t px) tt

-- the slice of pixels then
abbrev pub reconstruct_pixels : TileState → List ℕ → List ℕ
reconstruct_pixels t px =
    unless_refused (numbers_refusal t) (pixels_out t.coefficients t.prog_quant t.base_quant t.use_reduce_extrapolate px) px

-- what the call fixes: its answer, and the slice
pub record Reconstructs (t : TileState) (px : List ℕ) (r : Result ⊤ Refusal) (px' : List ℕ) : Type 0 where
  pub answer : r ≡ reconstruct_answer t px
  pub pixels : px' ≡ reconstruct_pixels t px
