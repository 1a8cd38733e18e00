-- For inner functions only: the colours in sixteen bits.
use Rattle.std.specs.Prelude.{List, ◌++◌, ◌≡◌, ℕ, ◌+◌, ◌*◌, ◌/◌, ◌%◌, ◌<◌, ◌≤◌, ℤ, pos, length, get_or, set, take, drop}
use Rattle.std.specs.Int.Signed.{mag}
use Rattle.color.specs.Color.{red, green, blue, picture}

-- -N ≤ z < N
pub record Within (N : ℕ) (z : ℤ) : Type 0 where
  pub within : mag z < N

-- pixel i as a number of four digits to the base 256: its lower two, its upper two
abbrev pub red_green : List ℤ → List ℤ → List ℤ → ℕ → ℕ
red_green y cb cr i = red (get_or y i (pos 0)) (get_or cr i (pos 0)) + 256 * green (get_or y i (pos 0)) (get_or cb i (pos 0)) (get_or cr i (pos 0))

abbrev pub blue_full : List ℤ → List ℤ → ℕ → ℕ
blue_full y cb i = blue (get_or y i (pos 0)) (get_or cb i (pos 0)) + 256 * 255

-- the digits of v, stored from o on
abbrev pub four_at : List ℕ → ℕ → ℕ → List ℕ
four_at d o v = set (set (set (set d o (v % 256)) (o + 1) (v / 256 % 256)) (o + 2) (v / 65536 % 256)) (o + 3) (v / 16777216)

-- what the bytes d will be once the pixels from i on are stored: what stands before those, they, and what stands after all
unfoldable pub answer : List ℤ → List ℤ → List ℤ → List ℕ → ℕ → List ℕ
answer y cb cr d i = take (4 * i) d ++ picture (drop i y) (drop i cb) (drop i cr) ++ drop (4 * length y) d

-- there is a place for each pixel
abbrev pub PixelRoom : List ℤ → List ℤ → List ℤ → List ℕ → Type 0
PixelRoom y cb cr d = (length cb ≡ length y) × (length cr ≡ length y) × (4 * length y ≤ length d)

-- d' is d with the pixels from i to j stored: with the rest of them both will be the same
abbrev pub PixelsWritten : List ℤ → List ℤ → List ℤ → List ℕ → ℕ → List ℕ → ℕ → Type 0
PixelsWritten y cb cr d i d' j = (length d' ≡ length d) × (answer y cb cr d' j ≡ answer y cb cr d i)
