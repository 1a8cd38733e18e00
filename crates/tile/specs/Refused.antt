-- What refusals of a tile's calls leave, as a statement (docs/SCOPE.md, "Refusals").
use Rattle.std.specs.Prelude.{◌≡◌, Bool, List, ℕ, ℤ, Some}
use Rattle.answer.specs.Answers.{number, number_of_answer, given_or}
use Rattle.answer.specs.declared.Refusal.{Refusal}
use Rattle.progressive_decoder.specs.Upgrade.{missing_bits}
use Rattle.tile.specs.Tile.{fresh, load_refusal, load, upgrade_refusal, upgrade_answer, upgraded_tile, reconstruct_refusal, reconstruct_answer, reconstruct_pixels}
use Rattle.tile.specs.declared.TileState.{TileState}

-- "a refusal gives its number .. and the state handed in, and alters no lent element"; "a refusal gives 0 for every count"
pub record TileRefusals : Type 0 where
  pub load_number : (cs ss : List (List ℤ)) (rows quants : List (List ℕ)) (e : Bool) → number_of_answer (load cs ss rows quants e) ≡ number (load_refusal cs ss rows quants)
  -- no tile is handed in
  pub load_fresh : (cs ss : List (List ℤ)) (rows quants : List (List ℕ)) (e : Bool) (k : Refusal) → load_refusal cs ss rows quants ≡ Some k → given_or fresh (load cs ss rows quants e) ≡ fresh
  pub upgrade_number : (t : TileState) (srl_data raw_data rows : List (List ℕ)) → number_of_answer (upgrade_answer t srl_data raw_data rows) ≡ number (upgrade_refusal t rows)
  pub upgrade_kept : (t : TileState) (srl_data raw_data rows : List (List ℕ)) (q : ℕ) (k : Refusal) → upgrade_refusal t rows ≡ Some k → upgraded_tile t srl_data raw_data rows q ≡ t
  pub upgrade_counts : (t : TileState) (srl_data raw_data rows : List (List ℕ)) (k : Refusal) → upgrade_refusal t rows ≡ Some k → given_or (missing_bits 0 0) (upgrade_answer t srl_data raw_data rows) ≡ missing_bits 0 0
  pub pixels_number : (t : TileState) (px : List ℕ) → number_of_answer (reconstruct_answer t px) ≡ number (reconstruct_refusal t px)
  pub pixels_kept : (t : TileState) (px : List ℕ) (k : Refusal) → reconstruct_refusal t px ≡ Some k → reconstruct_pixels t px ≡ px
