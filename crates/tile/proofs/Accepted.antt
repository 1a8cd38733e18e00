-- A pass over a tile that is not refused: what holds then.
use mathlib.Core.Path.{◌≡◌, sym, ap, ◌∙◌}
use mathlib.Core.Bool.{Bool, true, ◌&&◌}
use mathlib.Core.List.{List}
use Prim.Native.Nat.{ℕ}
use Rattle.std.specs.Prelude.{Option, None, Some, Result, Ok, Err}
use Rattle.answer.specs.declared.Refusal.{Refusal}
use Rattle.answer.specs.Answers.{unless, first_of, answered, unless_refused}
use Rattle.answer.specs.declared.Refusal.TheVariants.{ImpossibleState}
use Rattle.answer.proofs.Refusing.{unless_none, first_none}
use Rattle.bands.specs.Positions.{row_in_domain, rows_in_domain}
use Rattle.bands.proofs.Every.{both_true}
use Rattle.zero_signs.specs.ZeroSigns.{zero_signs_of, are_right}
use Rattle.zero_signs.proofs.Counted.{same_refl}
use Rattle.planes.specs.Planes.{joined, of}
use Rattle.progressive_decoder.specs.declared.MissingBits.{MissingBits}
use Rattle.components.specs.Components.{pass_coefficients, pass_signs}
use Rattle.tile.specs.Tile.{numbers_refusal, rows_refusal, upgrade_refusal, next_pass, upgraded, upgrade_missing, DecodesUpgrade}
use Rattle.tile.specs.declared.TileState.{TileState}

-- ════ where there is no refusal ════

module _ (t : TileState) (rows : List (List ℕ)) (e : upgrade_refusal t rows ≡ None) where
  -- neither of the two refusals
  neither : (numbers_refusal t ≡ None) × (rows_refusal t.prog_quant t.base_quant rows ≡ None)
  neither = first_none (numbers_refusal t) (rows_refusal t.prog_quant t.base_quant rows) e

  -- no position of the tile is above 15
  pub positions_low : row_in_domain t.prog_quant ≡ true
  positions_low =
      let low = both_true (rows_in_domain rows) (row_in_domain t.prog_quant && row_in_domain t.base_quant) (unless_none _ _ neither.1) in
      (both_true (row_in_domain t.prog_quant) (row_in_domain t.base_quant) low.1).0

  -- its numbers are right
  pub numbers_right : are_right t.use_reduce_extrapolate t.sign t.zero_signs ≡ true
  numbers_right = unless_none _ _ neither.0

-- ════ what is answered ════

-- a refusal leaves the tile as it was
pub refused : (t : TileState) (srl_data raw_data rows : List (List ℕ)) (q : ℕ) {x : Result MissingBits Refusal} {r : Refusal}
    → upgrade_refusal t rows ≡ Some r → x ≡ Err r → DecodesUpgrade t srl_data raw_data rows q x t
refused t srl_data raw_data rows q some e = record {
  answer = e ∙ ap (λ (o : Option Refusal). answered o (upgrade_missing t srl_data raw_data rows)) (sym some);
  tile = ap (λ (o : Option Refusal). unless_refused o (upgraded t srl_data raw_data rows q) t) (sym some);
}

-- a tile is upgraded if each of its parts is
pub accepted : (t : TileState) (srl_data raw_data rows : List (List ℕ)) (q : ℕ) {u : TileState} {m : MissingBits} → upgrade_refusal t rows ≡ None
    → u.coefficients ≡ pass_coefficients t.use_reduce_extrapolate t.prog_quant rows srl_data raw_data t.coefficients t.sign
    → u.sign ≡ pass_signs t.use_reduce_extrapolate t.prog_quant rows srl_data t.sign
    → u.zero_signs ≡ zero_signs_of t.use_reduce_extrapolate (pass_signs t.use_reduce_extrapolate t.prog_quant rows srl_data t.sign)
    → u.prog_quant ≡ joined (of rows)
    → u.quant_idx ≡ t.quant_idx
    → u.base_quant ≡ t.base_quant
    → u.pass ≡ next_pass t.pass
    → u.is_difference ≡ t.is_difference
    → u.quality ≡ q
    → u.use_reduce_extrapolate ≡ t.use_reduce_extrapolate
    → m ≡ upgrade_missing t srl_data raw_data rows
    → DecodesUpgrade t srl_data raw_data rows q (Ok m) u
unfolding upgraded
accepted t srl_data raw_data rows q {u = u} none cs ss ns ps is bs n d quality e missing =
    let new = upgraded t srl_data raw_data rows q in
    let bits = upgrade_missing t srl_data raw_data rows in
    let each : u ≡ new = λ i. record {
      coefficients = cs i;
      sign = ss i;
      zero_signs = ns i;
      prog_quant = ps i;
      quant_idx = is i;
      base_quant = bs i;
      pass = n i;
      is_difference = d i;
      quality = quality i;
      use_reduce_extrapolate = e i;
    } in
    record {
      answer = ap Ok missing ∙ ap (λ (o : Option Refusal). answered o bits) (sym none);
      tile = each ∙ ap (λ (o : Option Refusal). unless_refused o new t) (sym none);
    }

-- ════ where the numbers are right ════

-- the rows decide
pub by_rows : (t : TileState) → t.zero_signs ≡ zero_signs_of t.use_reduce_extrapolate t.sign → (rows : List (List ℕ))
    → upgrade_refusal t rows ≡ rows_refusal t.prog_quant t.base_quant rows
by_rows t e rows =
    let right : are_right t.use_reduce_extrapolate t.sign t.zero_signs ≡ true = rw e (same_refl (zero_signs_of t.use_reduce_extrapolate t.sign)) in
    ap (λ (b : Bool). first_of (unless b ImpossibleState) (rows_refusal t.prog_quant t.base_quant rows)) right
