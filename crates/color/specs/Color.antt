-- From luma and chroma to red, green and blue (docs/SCOPE.md, "Colour"; docs/DIFFERENCES.md has the factors of MS-RDPRFX).
use Rattle.std.specs.Prelude.{List, [], ◌∷◌, ℕ, ℤ, pos, ◌+ℤ◌, ◌-ℤ◌, ◌*ℤ◌}
use Rattle.fixed.specs.Fixed.{clamp_u8, floor_shift}

-- "32768 is added and the sum shifted right 16 with floor"
abbrev pub rounded : ℤ → ℤ
rounded z = floor_shift (z +ℤ pos 32768) 16

-- "91881 cr for red"; "red and blue add that to y + 128"; "all clamp to 0..255"
unfoldable pub red : ℤ → ℤ → ℕ
red y cr = clamp_u8 ((y +ℤ pos 128) +ℤ rounded (cr *ℤ pos 91881))

-- "22554 cb + 46802 cr for green"; "green subtracts it"
unfoldable pub green : ℤ → ℤ → ℤ → ℕ
green y cb cr = clamp_u8 ((y +ℤ pos 128) -ℤ rounded (cb *ℤ pos 22554 +ℤ cr *ℤ pos 46802))

-- "116130 cb for blue"
unfoldable pub blue : ℤ → ℤ → ℕ
blue y cb = clamp_u8 ((y +ℤ pos 128) +ℤ rounded (cb *ℤ pos 116130))

-- the three bytes of a pixel
abbrev pub rgb : ℤ → ℤ → ℤ → List ℕ
rgb y cb cr = red y cr ∷ green y cb cr ∷ blue y cb ∷ []

-- pixels one after another, four bytes each: "the fourth byte is 255"
unfoldable pub picture : List ℤ → List ℤ → List ℤ → List ℕ
picture (y ∷ ys) (cb ∷ cbs) (cr ∷ crs) = red y cr ∷ green y cb cr ∷ blue y cb ∷ 255 ∷ picture ys cbs crs
picture [] cbs crs = []
picture (y ∷ ys) [] crs = []
picture (y ∷ ys) (cb ∷ cbs) [] = []
