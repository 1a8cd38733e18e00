-- Room for the two streams of a pass, as a statement (docs/SCOPE.md, "Upgrade pass"): bytes that a caller works out from the positions, with which
-- neither writer refuses by 7.
use Rattle.std.specs.Prelude.{◌≡◌, ◌≢◌, Bool, false, List, ℕ, ◌+◌, ◌*◌, ◌^◌, ◌≤◌, ℤ, pos, length, replicate, Some}
use Rattle.bands.specs.Bands.{position_of}
use Rattle.answer.specs.declared.Refusal.TheVariants.{OutputTooShort}
use Rattle.upgrade_steps.specs.Steps.{Step, steps}
use Rattle.progressive_encoder.specs.Encode.{Rule, floor_rule, srl_bytes, raw_bytes, encode_pass_refusal}

-- "where no position is lowered by more than w"
abbrev pub FallsBy : ℕ → List ℕ → List ℕ → Type 0
FallsBy w prev curr = (b : ℕ) → position_of prev b ≤ position_of curr b + w

-- "504 * 2^w + 2 bytes for the SRL stream": 2^w bits for each of "at most 4,032 SRL values"; a bit of the first run, the padding, and "one byte 0"
abbrev pub srl_room_for : ℕ → ℕ
srl_room_for w = 504 * 2 ^ w + 2

-- "and 512 * w bytes for the raw stream": w bits for each of 4,096 places
abbrev pub raw_room_for : ℕ → ℕ
raw_room_for w = 512 * w

-- the same number at each place
abbrev pub all_places : ℤ → List ℤ
all_places z = replicate 4096 z

-- from positions 1 to positions 0, in the standard layout
abbrev pub one_lower : List Step
one_lower = steps false (replicate 10 1) (replicate 10 0)

-- "with outputs of that length neither writer refuses by 7, whatever else it is given"
pub record RoomSuffices : Type 0 where
  -- a pass that lowers no position by more than w
  pub lowered : (w : ℕ) (r : Rule) (cs ps ss : List ℤ) (prev curr : List ℕ) (e : Bool) (srlOut rawOut : List ℕ)
      → FallsBy w prev curr → srl_room_for w ≤ length srlOut → raw_room_for w ≤ length rawOut
      → encode_pass_refusal r cs ps prev curr ss e srlOut rawOut ≢ Some OutputTooShort
  -- any pass: a position above 15 is refused by 2
  pub any_pass : (r : Rule) (cs ps ss : List ℤ) (prev curr : List ℕ) (e : Bool) (srlOut rawOut : List ℕ)
      → srl_room_for 15 ≤ length srlOut → raw_room_for 15 ≤ length rawOut
      → encode_pass_refusal r cs ps prev curr ss e srlOut rawOut ≢ Some OutputTooShort
  -- "for any pass that is 16,515,074 bytes and 7,680"
  pub srl_most : srl_room_for 15 ≡ 16515074
  pub raw_most : raw_room_for 15 ≡ 7680
  -- from positions 1 to 0 no smaller ones suffice: as much is written of 1 over 0 at each place, where all signs are zero and where none is
  pub srl_reached : length (srl_bytes floor_rule one_lower (all_places (pos 1)) (all_places (pos 0)) (all_places (pos 0))) ≡ srl_room_for 1
  pub raw_reached : length (raw_bytes floor_rule one_lower (all_places (pos 1)) (all_places (pos 0)) (all_places (pos 1))) ≡ raw_room_for 1
