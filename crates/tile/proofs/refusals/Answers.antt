-- `tile::refusals` meets its contract. Assumes nothing.
use mathlib.Core.Path.{◌≡◌, refl, ap}
use Rattle.std.specs.Prelude.{Option, None, Some}
use Rattle.answer.specs.declared.Refusal.{Refusal}
use Rattle.answer.specs.Answers.{first_of, answered, unless_refused, given_or}
use Rattle.answer.proofs.Refusing.{number_answered, kept}
use Rattle.progressive_decoder.specs.Upgrade.{missing_bits}
use Rattle.tile.specs.Tile.{fresh, load_refusal, loaded, upgraded, upgrade_refusal, upgrade_missing, numbers_refusal, reconstruct_refusal}
use Rattle.tile.proofs.refusals.Goals as goal

-- a refusal before another
kept_first : {A : Type 0} (m n : Option Refusal) (new old : A) {k : Refusal} → first_of m n ≡ Some k → unless_refused m (unless_refused n new old) old ≡ old
kept_first None n new old e = kept new old e
kept_first (Some m) n new old e = refl

-- what stands for a refused answer
other : {A : Type 0} (given none : A) {o : Option Refusal} {k : Refusal} → o ≡ Some k → given_or none (answered o given) ≡ none
other given none e = ap (λ (o : Option Refusal). given_or none (answered o given)) e

pub returns : goal.returns
returns c = record {
  load_number = λ cs ss rows quants e. number_answered (load_refusal cs ss rows quants) (loaded cs ss rows quants e);
  load_fresh = λ cs ss rows quants e k n. other (loaded cs ss rows quants e) fresh n;
  upgrade_number = λ t srl_data raw_data rows. number_answered (upgrade_refusal t rows) (upgrade_missing t srl_data raw_data rows);
  upgrade_kept = λ t srl_data raw_data rows q k n. kept (upgraded t srl_data raw_data rows q) t n;
  upgrade_counts = λ t srl_data raw_data rows k n. other (upgrade_missing t srl_data raw_data rows) (missing_bits 0 0) n;
  pixels_number = λ t px. number_answered (reconstruct_refusal t px) tt;
  pixels_kept = λ t px k n. kept_first (numbers_refusal t) _ _ px n;
}
