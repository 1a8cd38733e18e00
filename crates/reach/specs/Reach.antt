-- What any list of passes can make of a tile that fits: the statement (docs/SCOPE.md, "What any list of passes can reach"; docs/REACH.md explains it line by line).
-- A pass is a call of `decode_upgrade`; `upgrade_answer` and `upgraded_tile` are the definitions that its contract cites.
use Rattle.std.specs.Prelude.{◌≡◌, ◌↔◌, true, List, [], ◌∷◌, map, ℕ, ◌^◌, ◌≤◌, ◌<◌, ℤ, get_or, length, Option, None}
use Rattle.std.specs.Result.{result_err}
use Rattle.bands.specs.Bands.{bands_of}
use Rattle.bands.specs.Positions.{row_in_domain}
use Rattle.answer.specs.Answers.{unless_refused}
use Rattle.answer.specs.declared.Refusal.{Refusal}
use Rattle.zero_signs.specs.ZeroSigns.{zero_signs_of}
use Rattle.planes.specs.Planes.{component, row_of, joined, of}
use Rattle.tile.specs.Tile.{rows_refusal, upgrade_answer, upgraded_tile}
use Rattle.tile.specs.declared.TileState.{TileState}
use Rattle.fitting.specs.Component.{ComponentFits}
use Rattle.reach.specs.Component.{ComponentGains}

-- ════ a tile that fits ════

-- "a tile fits if its three components do, no position or quantizer in it is above 15, and its numbers of zero signs are right"
pub record TileFits (t : TileState) : Type 0 where
  -- the arrays are as long as their types say
  pub coefficients : length t.coefficients ≡ 12288
  pub sign : length t.sign ≡ 12288
  pub rows : length t.prog_quant ≡ 30
  pub positions : row_in_domain t.prog_quant ≡ true
  pub quantizers : row_in_domain t.base_quant ≡ true
  pub numbers : t.zero_signs ≡ zero_signs_of t.use_reduce_extrapolate t.sign
  pub each : (k : ℕ) → k < 3
      → ComponentFits (bands_of t.use_reduce_extrapolate) (row_of k t.prog_quant) (component k t.coefficients) (component k t.sign)

-- ════ a list of passes ════

-- what the list fixes of a pass: "the rows and qualities of the list stay fixed"
pub record Pass : Type 0 where
  pub rows : List (List ℕ)
  pub quality : ℕ

-- a pass with its streams, two for each component
pub record Call : Type 0 where
  pub pass : Pass
  pub srl_data : List (List ℕ)
  pub raw_data : List (List ℕ)

-- the tile after a call: "an accepted pass gives the tile that the definition says, a refused one the tile handed in"
abbrev pub after_call : TileState → Call → TileState
after_call t k = upgraded_tile t k.srl_data k.raw_data k.pass.rows k.pass.quality

-- after some calls: "the next pass gets that tile"
unfoldable pub after_calls : TileState → List Call → TileState
after_calls t [] = t
after_calls t (k ∷ ks) = after_calls (after_call t k) ks

-- the refusal that each call answers, if any
unfoldable pub answers_to : TileState → List Call → List (Option Refusal)
answers_to t [] = []
answers_to t (k ∷ ks) = result_err (upgrade_answer t k.srl_data k.raw_data k.pass.rows) ∷ answers_to (after_call t k) ks

-- the passes of some calls
abbrev pub passes_of : List Call → List Pass
passes_of ks = map (λ k. k.pass) ks

-- "three rows of ten, one row a component": what the type `[[u8; 10]; 3]` says
pub record ThreeRows (rows : List (List ℕ)) : Type 0 where
  pub three : length rows ≡ 3
  pub ten : (k : ℕ) → k < 3 → length (of rows k) ≡ 10

-- of each pass of a list
pub data AllRows : List Pass → Type 0 where
  none : AllRows []
  one : {o : Pass} {os : List Pass} → ThreeRows o.rows → AllRows os → AllRows (o ∷ os)

-- ════ positions along the list: "streams cause no refusal, so the same passes are refused whatever they hold" ════

-- the tile's positions after a pass: those given, or if it is refused the former ones
abbrev pub rows_then : List ℕ → List ℕ → Pass → List ℕ
rows_then quants positions o = unless_refused (rows_refusal positions quants o.rows) (joined (of o.rows)) positions

-- "those of the last accepted pass, or the starting ones if there is none"
unfoldable pub last_rows : List ℕ → List ℕ → List Pass → List ℕ
last_rows quants positions [] = positions
last_rows quants positions (o ∷ os) = last_rows quants (rows_then quants positions o) os

-- the refusal that each pass answers, by the rows alone
unfoldable pub answers_by : List ℕ → List ℕ → List Pass → List (Option Refusal)
answers_by quants positions [] = []
answers_by quants positions (o ∷ os) = rows_refusal positions quants o.rows ∷ answers_by quants (rows_then quants positions o) os

-- no position of q is above that of p, "for the same band and component"
abbrev pub Lower : List ℕ → List ℕ → Type 0
Lower p q = (j : ℕ) → j < 30 → get_or q j 0 ≤ get_or p j 0

-- "no accepted pass of the list may have a position above that of the tile handed to it .. a refused pass raises nothing"
unfoldable pub NoRaise : List ℕ → List ℕ → List Pass → Type 0
NoRaise quants positions [] = Unit {0}
NoRaise quants positions (o ∷ os) =
    (rows_refusal positions quants o.rows ≡ None → Lower positions (joined (of o.rows))) × NoRaise quants (rows_then quants positions o) os

-- the last positions of a list of passes from a tile on
abbrev pub last_of : TileState → List Pass → List ℕ
last_of t os = last_rows t.base_quant t.prog_quant os

-- ════ what a tile may become ════

-- "a picture is the coefficients and signs of all three components, with the numbers of zero signs"
pub record Picture : Type 0 where
  pub coefficients : List ℤ
  pub sign : List ℤ
  pub zero_signs : List ℕ

-- of a tile
abbrev pub picture_of : TileState → Picture
picture_of t = record { coefficients = t.coefficients; sign = t.sign; zero_signs = t.zero_signs }

-- x is of the kind, from t at its own positions to the last ones: each component has gained; "it counts from the first tile"
pub record TileGains (t : TileState) (last : List ℕ) (x : Picture) : Type 0 where
  pub coefficients : length x.coefficients ≡ 12288
  pub sign : length x.sign ≡ 12288
  -- the numbers, "which the signs fix"
  pub numbers : x.zero_signs ≡ zero_signs_of t.use_reduce_extrapolate x.sign
  pub each : (k : ℕ) → k < 3
      → ComponentGains (bands_of t.use_reduce_extrapolate) (row_of k t.prog_quant) (row_of k last) (component k t.coefficients) (component k t.sign) (component k x.coefficients) (component k x.sign)

-- ════ reached ════

-- three streams of bytes, each shorter than 2^25 of them
pub record ThreeStreams (l : List (List ℕ)) : Type 0 where
  pub three : length l ≡ 3
  pub bytes : (k : ℕ) → k < 3 → (i : ℕ) → get_or (of l k) i 0 < 256
  pub short : (k : ℕ) → k < 3 → length (of l k) < 2 ^ 25

-- of each call of a list
pub data AllStreams : List Call → Type 0 where
  none : AllStreams []
  one : {k : Call} {ks : List Call} → ThreeStreams k.srl_data → ThreeStreams k.raw_data → AllStreams ks → AllStreams (k ∷ ks)

-- "the rows and qualities of the list stay fixed, and .. streams of some lengths, chosen for each pass, end at exactly these coefficients, signs and numbers"
pub record Reached (t : TileState) (os : List Pass) (x : Picture) : Type 0 where
  pub calls : List Call
  pub streams : AllStreams calls
  pub same : passes_of calls ≡ os
  pub gives : picture_of (after_calls t calls) ≡ x

-- ════ the theorem ════

-- of one tile and one list: "one claim about the whole list, the empty list too"
pub record Exact (t : TileState) (os : List Pass) : Type 0 where
  -- "whatever the streams hold, the result is of the kind"
  pub always : (ks : List Call) → passes_of ks ≡ os → TileGains t (last_of t os) (picture_of (after_calls t ks))
  -- "the same passes are refused whatever they hold"
  pub answers : (ks : List Call) → passes_of ks ≡ os → answers_to t ks ≡ answers_by t.base_quant t.prog_quant os
  -- and the tile's positions are the last ones
  pub positions : (ks : List Call) → passes_of ks ≡ os → (after_calls t ks).prog_quant ≡ last_of t os
  -- "such a list reaches exactly the pictures of one kind"
  pub reached : (x : Picture) → Reached t os x ↔ TileGains t (last_of t os) x

-- for every tile that fits and every list of passes of which none raises a position
pub record ReachablePictures : Type 0 where
  pub exact : (t : TileState) → TileFits t → (os : List Pass) → AllRows os → NoRaise t.base_quant t.prog_quant os → Exact t os
