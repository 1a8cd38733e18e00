-- Pixels one after another: a loop that stores them, which leaves `answer` as it was.
-- Assumes nothing.
use mathlib.Core.Path.{◌≡◌, refl, ap, ◌∙◌}
use mathlib.Core.Bool.{Bool, true, false}
use mathlib.Core.List.{List, [], ◌∷◌, ◌++◌, append_assoc, append-nil}
use Prim.Native.Nat.{ℕ, suc, ◌+◌, ◌*◌, ◌/◌, ◌%◌, ◌<◌, ◌≤◌}
use native.Mathlib.Numerals.{add-one}
use native.Mathlib.Omega.{arith}
use borrow.Author.Tests.{ltb-true, ltb-false}
use lib.Dec.{ltb}
use lib.IntN.{ℤ, pos}
use lib.ListN.{length, get_or, set, take, drop, length-set, length-append, take-append-drop, drop_of_length-le}
use lib.Seq.{drop-cons, drop-set-lt, length-take-le, take_at, sets-eq, get_or-set_same, get_or-set_other}
use Rattle.fixed.proofs.Clamp.{byte_fits}
use Rattle.color.specs.Color.{red, green, blue, picture}
use Rattle.color.specs.Inner.{red_green, blue_full, four_at, answer, PixelRoom, PixelsWritten}

red_fits : (y cr : ℤ) → red y cr < 256
unfolding red
red_fits y cr = byte_fits _

green_fits : (y cb cr : ℤ) → green y cb cr < 256
unfolding green
green_fits y cb cr = byte_fits _

blue_fits : (y cb : ℤ) → blue y cb < 256
unfolding blue
blue_fits y cb = byte_fits _

-- four stores, one after another
four : (d : List ℕ) (p : ℕ) (r g b a : ℕ) → p + 4 ≤ length d
    → set (set (set (set d p r) (p + 1) g) (p + 2) b) (p + 3) a ≡ take p d ++ (r ∷ g ∷ b ∷ a ∷ []) ++ drop (p + 4) d
four d p r g b a h =
    let two : p + 2 ≡ suc (suc p) = omega arith in
    let three : p + 3 ≡ suc (suc (suc p)) = omega arith in
    rw (add-one p, two, three) (sets-eq (r ∷ g ∷ b ∷ a ∷ []) d p h)

-- the three colours are bytes, so that the digits of a pixel's number are they
digits : (y cb cr : ℤ) (v : ℕ) → v ≡ red y cr + 256 * green y cb cr + 65536 * (blue y cb + 256 * 255)
    → (v % 256 ≡ red y cr) × (v / 256 % 256 ≡ green y cb cr) × (v / 65536 % 256 ≡ blue y cb) × (v / 16777216 ≡ 255)
digits y cb cr v e =
    let r = red_fits y cr in
    let g = green_fits y cb cr in
    let b = blue_fits y cb in
    (omega arith, omega arith, omega arith, omega arith)

-- one pixel more, whose number v is stored
pub pixel_turn : (y cb cr : List ℤ) (d d' : List ℕ) (i j v : ℕ) → i < length y → PixelRoom y cb cr d → v ≡ red_green y cb cr i + 65536 * blue_full y cb i → j ≡ i + 1 → d' ≡ four_at d (4 * i) v
    → PixelsWritten y cb cr d i d' j
unfolding picture answer
pixel_turn y cb cr d d' i j v h room e more stores =
    let n : ℕ = 4 * length y in
    let p : ℕ = 4 * i in
    let q = digits (get_or y i (pos 0)) (get_or cb i (pos 0)) (get_or cr i (pos 0)) v e in
    let pixel : List ℕ = v % 256 ∷ v / 256 % 256 ∷ v / 65536 % 256 ∷ v / 16777216 ∷ [] in
    let rest : List ℕ = picture (drop (i + 1) y) (drop (i + 1) cb) (drop (i + 1) cr) in
    let next : 4 * (i + 1) ≡ p + 4 = omega arith in
    let size : length (take p d ++ pixel) ≡ p + 4 = rw (length-append, length-take-le p d (omega arith)) in
    let front : take (p + 4) (four_at d p v) ≡ take p d ++ pixel = rw (four d p _ _ _ _ (omega arith)) (take_at (take p d ++ pixel) (drop (p + 4) d) (p + 4) size) in
    let kept : drop n (four_at d p v) ≡ drop n d =
    drop-set-lt n _ (p + 3) _ (omega arith) ∙ drop-set-lt n _ (p + 2) _ (omega arith) ∙ drop-set-lt n _ (p + 1) _ (omega arith) ∙ drop-set-lt n d p _ (omega arith) in
    let step : picture (drop i y) (drop i cb) (drop i cr) ≡ pixel ++ rest =
    rw (add-one i, drop-cons y i (pos 0) h, drop-cons cb i (pos 0) (omega arith), drop-cons cr i (pos 0) (omega arith), q.0, q.1, q.2, q.3) in (
      rw stores (simp length-set),
      rw (stores, more, next, front, kept, step) (ap (λ (z : List ℕ). z ++ drop n d) (append_assoc (take p d) pixel rest)),
    )

-- then others
pub written_on : (y cb cr : List ℤ) (d d' d'' : List ℕ) (i j k : ℕ) → PixelsWritten y cb cr d i d' j → PixelsWritten y cb cr d' j d'' k → PixelsWritten y cb cr d i d'' k
written_on y cb cr d d' d'' i j k p q = (q.0 ∙ p.0, q.1 ∙ p.1)

-- all left, and none
pub pixels_left : (y cb cr : List ℤ) (d : List ℕ) → answer y cb cr d 0 ≡ picture y cb cr ++ drop (4 * length y) d
unfolding answer
pixels_left y cb cr d = refl

pub pixels_done : (y cb cr : List ℤ) (d : List ℕ) (i : ℕ) → i ≡ length y → answer y cb cr d i ≡ d
unfolding picture answer
pixels_done y cb cr d i e =
    let none : drop i y ≡ [] = drop_of_length-le y {i = i} (omega arith) in
    rw (none, e, append-nil) (take-append-drop (4 * length y) d)

-- ---- a loop that stores f k at each place k of 64: the first i are stored
abbrev pub Storing : (ℕ → ℕ) → List ℕ → ℕ → Type 0
Storing f l i = (i ≤ 64) × (length l ≡ 64) × ((k : ℕ) → k < i → get_or l k 0 ≡ f k)

pub stored : (f : ℕ → ℕ) (l : List ℕ) (i v : ℕ) → i < 64 → v ≡ f i → Storing f l i → Storing f (set l i v) (i + 1)
stored f l i v h e s = (omega arith, length-set l i v ∙ s.1, λ k below. pick k below (ltb k i) refl)
  where
    pick : (k : ℕ) → k < i + 1 → (t : Bool) → ltb k i ≡ t → get_or (set l i v) k 0 ≡ f k
    pick k below true t =
        let less : k < i = ltb-true k i t in
        get_or-set_other l i k v 0 (λ same. omega arith) ∙ s.2 k less
    pick k below false t =
        let same : k ≡ i = omega (arith, ltb-false k i t) in
        rw same (get_or-set_same l i v 0 (omega (arith, s.1)) ∙ e)
