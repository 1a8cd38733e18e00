-- What a cut takes off a level, and what comes back from there to a lower position (docs/SCOPE.md, "Ladders"). One law for both cuts.
use Rattle.std.specs.Prelude.{◌≡◌, Bool, ℕ, ◌+◌, ◌-◌, ◌*◌, ◌/◌, ◌%◌, ◌^◌, ◌≤◌, ◌<◌, ℤ}
use Rattle.std.specs.Int.Signed.{mag}
use Rattle.upgrade_steps.specs.Cut.{cut_at}
use Rattle.fitting.specs.Place.{level_of}

-- of a coefficient c, in the bottom or not, and positions p and q
pub record LevelLaw : Type 0 where
  -- "the level of a cut at p is the level less its rest below 2^p"
  pub cut : (b : Bool) (p : ℕ) (c : ℤ) → p ≤ 15 → mag c < 32768 → level_of b (cut_at b p c) ≡ level_of b c - level_of b c % 2 ^ p
  -- "from there to the cut at q, not above p, it gains that rest in whole steps of 2^q ..
  pub gain : (b : Bool) (p q : ℕ) (c : ℤ) → q ≤ p → p ≤ 15 → mag c < 32768
      → level_of b (cut_at b q c) ≡ level_of b (cut_at b p c) + 2 ^ q * (level_of b c % 2 ^ p / 2 ^ q)
  -- .. which are fewer than 2^(p - q)"
  pub steps : (p q n : ℕ) → q ≤ p → n % 2 ^ p / 2 ^ q < 2 ^ (p - q)
  -- "the rest does not fall as the position rises"
  pub rest : (p q n : ℕ) → q ≤ p → n % 2 ^ q ≤ n % 2 ^ p
