-- A tile sharpened towards a target by any list of passes: the statement (docs/SCOPE.md, "Ladders"; docs/LADDER.md explains it line by line).
-- A pass is written by the definitions that the contract of `encode_upgrade_pass_symmetric` cites, and read by the one of `decode_upgrade`.
use Rattle.std.specs.Prelude.{◌≡◌, true, List, [], ◌∷◌, ℕ, ◌≤◌, ◌<◌, ℤ, pos, get_or, length, replicate, Option, None}
use Rattle.std.specs.Int.Signed.{mag}
use Rattle.bands.specs.Bands.{is_bottom_band, position_of, bands_of}
use Rattle.bands.specs.Positions.{row_in_domain}
use Rattle.answer.specs.declared.Refusal.{Refusal}
use Rattle.upgrade_steps.specs.Cut.{cut_at, cut_sign_at, cut_component}
use Rattle.progressive_encoder.specs.Encode.{symmetric_rule, srl_bytes, raw_bytes, encode_pass_refusal}
use Rattle.components.specs.Components.{steps_of}
use Rattle.planes.specs.Planes.{component, row_of, joined, three, of}
use Rattle.zero_signs.specs.ZeroSigns.{zero_signs_of}
use Rattle.tile.specs.declared.TileState.{TileState}
use Rattle.fitting.specs.Place.{Place, place}
use Rattle.fitting.specs.Component.{place_of_lists}
use Rattle.reach.specs.Reach.{Pass, Call, after_call, after_calls, answers_to, AllRows, Lower}

-- ════ a tile that is its target cut at its positions ════

-- "a target is three components of sixteen-bit numbers"
pub record IsTarget (target : List ℤ) : Type 0 where
  pub whole : length target ≡ 12288
  -- `mag` is n both for n and for -(n + 1)
  pub sixteen_bits : (i : ℕ) → mag (get_or target i (pos 0)) < 32768

-- a place of band b of the target cut at a row: "its coefficient and sign are those of the cut, in the bottom .. its sign is anything", s
abbrev pub cut_place : ℕ → List ℕ → ℤ → ℤ → Place
cut_place b row c s = place (cut_at (is_bottom_band b) (position_of row b) c) (cut_sign_at (is_bottom_band b) (position_of row b) c s)

-- what stands at place i of component k of a tile
abbrev pub place_in : TileState → ℕ → ℕ → Place
place_in t k i = place_of_lists (component k t.coefficients) (component k t.sign) i

-- and of the target cut at some positions, by the tile's layout; in the bottom with the tile's sign
abbrev pub cut_in : List ℤ → TileState → List ℕ → ℕ → ℕ → Place
cut_in target t positions k i =
    cut_place (get_or (bands_of t.use_reduce_extrapolate) i 0) (row_of k positions)
    (get_or (component k target) i (pos 0)) (place_in t k i).sign

-- "a tile is its target cut at its positions if each place of each component is .. and if no position or quantizer of the tile is above 15, and its
-- numbers of zero signs are right"
pub record IsCut (target : List ℤ) (t : TileState) : Type 0 where
  pub aim : IsTarget target
  -- the arrays are as long as their types say
  pub coefficients : length t.coefficients ≡ 12288
  pub sign : length t.sign ≡ 12288
  pub rows : length t.prog_quant ≡ 30
  pub positions : row_in_domain t.prog_quant ≡ true
  pub quantizers : row_in_domain t.base_quant ≡ true
  pub numbers : t.zero_signs ≡ zero_signs_of t.use_reduce_extrapolate t.sign
  pub each : (k i : ℕ) → k < 3 → i < 4096 → place_in t k i ≡ cut_in target t t.prog_quant k i

-- ════ a pass, written for the tile as it is ════

-- what the writer makes for component k, from the tile's positions to the rows given, with cs for a target: the SRL stream
abbrev pub srl_written : List ℤ → TileState → List (List ℕ) → ℕ → List ℕ
srl_written cs t rows k =
    srl_bytes symmetric_rule (steps_of t.use_reduce_extrapolate t.prog_quant rows k)
    cs (component k t.coefficients) (component k t.sign)

-- the raw stream
abbrev pub raw_written : List ℤ → TileState → List (List ℕ) → ℕ → List ℕ
raw_written cs t rows k =
    raw_bytes symmetric_rule (steps_of t.use_reduce_extrapolate t.prog_quant rows k)
    cs (component k t.coefficients) (component k t.sign)

-- and why it refuses
abbrev pub write_refusal : List ℤ → TileState → List (List ℕ) → ℕ → List ℕ → List ℕ → Option Refusal
write_refusal cs t rows k srlOut rawOut =
    encode_pass_refusal symmetric_rule cs (component k t.coefficients) (row_of k t.prog_quant) (of rows k)
    (component k t.sign) t.use_reduce_extrapolate srlOut rawOut

-- one thing for each component
abbrev pub three_of : {A : Type 0} → (ℕ → A) → List A
three_of f = three (f 0) (f 1) (f 2)

-- the pass with its six streams
abbrev pub call_for : List ℤ → TileState → Pass → Call
call_for target t o =
    record {
      pass = o;
      srl_data = three_of (λ k. srl_written (component k target) t o.rows k);
      raw_data = three_of (λ k. raw_written (component k target) t o.rows k);
    }

-- given cs, the writer is not refused, and writes the streams of the pass
pub record Writes (cs target : List ℤ) (t : TileState) (rows : List (List ℕ)) (k : ℕ) : Type 0 where
  -- "with outputs long enough"
  pub accepted : (srlOut rawOut : List ℕ) → length (srl_written cs t rows k) ≤ length srlOut
      → length (raw_written cs t rows k) ≤ length rawOut → write_refusal cs t rows k srlOut rawOut ≡ None
  pub srl : srl_written cs t rows k ≡ srl_written (component k target) t rows k
  pub raw : raw_written cs t rows k ≡ raw_written (component k target) t rows k

-- "the writer may be given the target, or the target cut at the positions of the pass: it writes the same bytes"
pub record WritesBoth (target : List ℤ) (t : TileState) (rows : List (List ℕ)) (k : ℕ) : Type 0 where
  pub from_target : Writes (component k target) target t rows k
  pub from_cut : Writes (cut_component t.use_reduce_extrapolate (of rows k) (component k target)) target t rows k

-- ════ a ladder: "a list of passes .. each written .. from the target and the tile as it then is .. and read by `decode_upgrade`" ════

-- "none raises a position"
unfoldable pub Lowering : List ℕ → List Pass → Type 0
Lowering positions [] = Unit {0}
Lowering positions (o ∷ os) = Lower positions (joined (of o.rows)) × Lowering (joined (of o.rows)) os

-- "the last positions are those of the last pass, or the starting ones if there is none"
unfoldable pub last_positions : List ℕ → List Pass → List ℕ
last_positions positions [] = positions
last_positions positions (o ∷ os) = last_positions (joined (of o.rows)) os

-- its calls of `decode_upgrade`
unfoldable pub calls_for : List ℤ → TileState → List Pass → List Call
calls_for target t [] = []
calls_for target t (o ∷ os) = call_for target t o ∷ calls_for target (after_call t (call_for target t o)) os

-- the tile at its end
abbrev pub sharpened : List ℤ → TileState → List Pass → TileState
sharpened target t os = after_calls t (calls_for target t os)

-- what holds of the writer's three calls of each pass
unfoldable pub EachWrite : ((t : TileState) (rows : List (List ℕ)) (k : ℕ) → Type 0) → List ℤ → TileState → List Pass → Type 0
EachWrite P target t [] = Unit {0}
EachWrite P target t (o ∷ os) =
    ((k : ℕ) → k < 3 → P t o.rows k) × EachWrite P target (after_call t (call_for target t o)) os

-- ════ the theorem ════

-- of one ladder
pub record Ends (target : List ℤ) (t : TileState) (os : List Pass) : Type 0 where
  -- "no call of a ladder is refused, neither a writing one ..
  pub written : EachWrite (WritesBoth target) target t os
  -- .. nor a reading one"
  pub read : answers_to t (calls_for target t os) ≡ replicate (length os) None
  -- "at the end the coefficients, and the signs outside the bottom, are those of the target cut at the last positions; bottom signs are what they were"
  pub each : (k i : ℕ) → k < 3 → i < 4096
      → place_in (sharpened target t os) k i ≡ cut_in target t (last_positions t.prog_quant os) k i
  -- the tile's positions are the last ones, and its layout stays
  pub positions : (sharpened target t os).prog_quant ≡ last_positions t.prog_quant os
  pub layout : (sharpened target t os).use_reduce_extrapolate ≡ t.use_reduce_extrapolate
  -- "so the tile is its target cut again"
  pub cut : IsCut target (sharpened target t os)

-- for every target, every tile that is its target cut, and every list of passes of which none raises a position
pub record LadderDoesNotMatter : Type 0 where
  pub ends : (target : List ℤ) (t : TileState) → IsCut target t
      → (os : List Pass) → AllRows os → Lowering t.prog_quant os → Ends target t os
