-- A component cut at a row of positions: each coefficient without the bits below its band's position, and its sign then (docs/SCOPE.md, "Upgrade pass").
use Rattle.std.specs.Prelude.{Bool, true, false, List, [], ◌∷◌, ℕ, ℤ}
use Rattle.fixed.specs.Fixed.{sign_of}
use Rattle.fixed.specs.Cut.{toward_zero, downward}
use Rattle.bands.specs.Bands.{is_bottom_band, position_of, bands_of}

-- ════ one place, by whether it lies in the bottom ════

-- a coefficient cut at the position p: "keeps the sign and shifts the magnitude (down, and back up for the cut value)"; in the bottom by floor
abbrev pub cut_at : Bool → ℕ → ℤ → ℤ
cut_at true p c = downward p c
cut_at false p c = toward_zero p c

-- its sign: outside the bottom that of the cut; "signs of the bottom band are neither read nor set", so there it is the one that it has
abbrev pub cut_sign_at : Bool → ℕ → ℤ → ℤ → ℤ
cut_sign_at true p c s = s
cut_sign_at false p c s = sign_of (toward_zero p c)

-- ════ some places: each thing of a list says of its place whether it lies in the bottom, and the position ════

-- their coefficients, as many as there are things and coefficients
unfoldable pub cut_all : {B : Type 0} → (B → Bool) → (B → ℕ) → List B → List ℤ → List ℤ
cut_all bottom at [] cs = []
cut_all bottom at (b ∷ bs) [] = []
cut_all bottom at (b ∷ bs) (c ∷ cs) = cut_at (bottom b) (at b) c ∷ cut_all bottom at bs cs

-- and their signs
unfoldable pub cut_signs_all : {B : Type 0} → (B → Bool) → (B → ℕ) → List B → List ℤ → List ℤ → List ℤ
cut_signs_all bottom at [] cs ss = []
cut_signs_all bottom at (b ∷ bs) [] ss = []
cut_signs_all bottom at (b ∷ bs) (c ∷ cs) [] = []
cut_signs_all bottom at (b ∷ bs) (c ∷ cs) (s ∷ ss) = cut_sign_at (bottom b) (at b) c s ∷ cut_signs_all bottom at bs cs ss

-- ════ a component at a row ════

-- its coefficients, each cut at the position of its band
abbrev pub cut_component : Bool → List ℕ → List ℤ → List ℤ
cut_component e row cs = cut_all is_bottom_band (position_of row) (bands_of e) cs

-- and its signs; of ss only those of the bottom count
abbrev pub cut_component_signs : Bool → List ℕ → List ℤ → List ℤ → List ℤ
cut_component_signs e row cs ss = cut_signs_all is_bottom_band (position_of row) (bands_of e) cs ss
