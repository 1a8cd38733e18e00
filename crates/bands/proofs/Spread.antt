-- What each place has of its band: the bands one after another, up to one of them and behind it.
use mathlib.Core.Bool.{Bool}
use mathlib.Core.List.{List, [], ◌∷◌, ◌++◌, map, append_assoc, append-nil}
use mathlib.Core.Path.{◌≡◌, refl, sym, ap, ap₂, ◌∙◌}
use Prim.Native.Nat.{ℕ, zero, suc, ◌+◌, ◌≤◌, ◌<◌}
use native.Mathlib.Numerals.{add-one}
use native.Mathlib.Omega.{arith}
use lib.ListN.{length, get_or, replicate, length-append, length-replicate}
use Rattle.bands.specs.declared.BandInfo.{BandInfo}
use Rattle.bands.specs.Bands.{layout, count_of, band_at, none, spread, per_place, bands_of}
use Rattle.bands.specs.Tables.{count_before}
use Rattle.bands.proofs.Laid.{layout_laid, ten_bands, running_sum, whole_sum}

-- what the first b bands of a list have
unfoldable pub spread_to : {A : Type 0} → (ℕ → A) → ℕ → List BandInfo → ℕ → List A
spread_to f k l zero = []
spread_to f k [] (suc b) = []
spread_to f k (i ∷ is) (suc b) = replicate (count_of i) (f k) ++ spread_to f (suc k) is b

-- one band more
to_next : {A : Type 0} (f : ℕ → A) (k : ℕ) (l : List BandInfo) (b : ℕ) → b < length l
    → spread_to f k l (suc b) ≡ spread_to f k l b ++ replicate (count_of (get_or l b none)) (f (k + b))
unfolding spread_to
to_next f k [] b h = absurd (omega arith)
to_next f k (i ∷ is) zero h =
    append-nil (replicate (count_of i) (f k)) ∙ ap (λ (j : ℕ). replicate (count_of i) (f j)) {x = k} {y = k + 0} (omega arith)
to_next {A} f k (i ∷ is) (suc b) h =
    ap (λ (l : List A). replicate (count_of i) (f k) ++ l)
    (to_next f (suc k) is b (omega arith) ∙ ap (λ (j : ℕ). spread_to f (suc k) is b ++ replicate (count_of (get_or is b none)) (f j)) {x = suc k + b} {y = k + suc b} (omega arith))
    ∙ sym (append_assoc (replicate (count_of i) (f k)) (spread_to f (suc k) is b) (replicate (count_of (get_or is b none)) (f (k + suc b))))

-- all of them
to_all : {A : Type 0} (f : ℕ → A) (k : ℕ) (l : List BandInfo) → spread_to f k l (length l) ≡ spread f k l
unfolding spread_to spread
to_all f k [] = refl
to_all {A} f k (i ∷ is) = ap (λ (l : List A). replicate (count_of i) (f k) ++ l) (to_all f (suc k) is)

length_to : {A : Type 0} (f : ℕ → A) (k : ℕ) (l : List BandInfo) (b : ℕ) → length (spread_to f k l b) ≡ count_before l b
unfolding spread_to count_before
length_to f k l zero = refl
length_to f k [] (suc b) = refl
length_to f k (i ∷ is) (suc b) =
    length-append (replicate (count_of i) (f k)) (spread_to f (suc k) is b) ∙ omega (arith, length-replicate (count_of i) (f k), length_to f (suc k) is b)

-- ════ of a layout ════

-- what the places of its first b bands have
abbrev pub per_place_to : {A : Type 0} → Bool → (ℕ → A) → ℕ → List A
per_place_to e f b = spread_to f 0 (layout e) b

pub place_next : {A : Type 0} (e : Bool) (f : ℕ → A) (b : ℕ) → b < 10 → per_place_to e f (b + 1) ≡ per_place_to e f b ++ replicate (count_of (band_at e b)) (f b)
place_next e f b h =
    ap (per_place_to e f) (add-one b)
    ∙ to_next f 0 (layout e) b (omega (arith, ten_bands e))
    ∙ ap (λ (j : ℕ). per_place_to e f b ++ replicate (count_of (band_at e b)) (f j)) {x = 0 + b} {y = b} (omega arith)

pub place_all : {A : Type 0} (e : Bool) (f : ℕ → A) → per_place_to e f 10 ≡ per_place e f
place_all e f = ap (per_place_to e f) (sym (ten_bands e)) ∙ to_all f 0 (layout e)

-- a band begins behind the places of those before it
pub place_count : {A : Type 0} (e : Bool) (f : ℕ → A) (b : ℕ) → b < 10 → length (per_place_to e f b) ≡ (band_at e b).offset
place_count e f b h = length_to f 0 (layout e) b ∙ sym (running_sum 0 (layout e) 4096 b (layout_laid e) (omega (arith, ten_bands e)) ∙ omega arith)

pub place_whole : {A : Type 0} (e : Bool) (f : ℕ → A) → length (per_place e f) ≡ 4096
place_whole e f = ap length (sym (to_all f 0 (layout e))) ∙ length_to f 0 (layout e) (length (layout e)) ∙ omega (arith, whole_sum 0 (layout e) 4096 (layout_laid e))

-- ════ a function of what each place has ════

map_append : {A B : Type 0} (g : A → B) (a b : List A) → map g (a ++ b) ≡ map g a ++ map g b
map_append g [] b = refl
map_append {A} {B} g (x ∷ a) b = ap (λ (l : List B). g x ∷ l) (map_append g a b)

map_replicate : {A B : Type 0} (g : A → B) (n : ℕ) (x : A) → map g (replicate n x) ≡ replicate n (g x)
map_replicate g zero x = refl
map_replicate {A} {B} g (suc n) x = ap (λ (l : List B). g x ∷ l) (map_replicate g n x)

spread_map : {A B : Type 0} (g : A → B) (f : ℕ → A) (b : ℕ) (l : List BandInfo) → spread (λ b. g (f b)) b l ≡ map g (spread f b l)
unfolding spread
spread_map g f b [] = refl
spread_map {A} {B} g f b (i ∷ is) =
    ap₂ (λ (x y : List B). x ++ y) (sym (map_replicate g (count_of i) (f b))) (spread_map g f (suc b) is)
    ∙ sym (map_append g (replicate (count_of i) (f b)) (spread f (suc b) is))

pub place_map : {A B : Type 0} (e : Bool) (g : A → B) (f : ℕ → A) → per_place e (λ b. g (f b)) ≡ map g (per_place e f)
place_map e g f = spread_map g f 0 (layout e)

-- the number of a place's band is one of ten
spread_below : (b n : ℕ) (l : List BandInfo) → b + length l ≤ n → 0 < n → (i : ℕ) → get_or (spread (λ b. b) b l) i 0 < n
unfolding spread
spread_below b n [] h p i = p
spread_below b n (x ∷ l) h p i = front (count_of x) i (spread_below (suc b) n l (omega (arith, h)) p)
  where
    front : (m i : ℕ) → ((i : ℕ) → get_or (spread (λ b. b) (suc b) l) i 0 < n) → get_or (replicate m b ++ spread (λ b. b) (suc b) l) i 0 < n
    front zero i r = r i
    front (suc m) zero r = omega (arith, h)
    front (suc m) (suc i) r = front m i r

pub one_of_ten : (e : Bool) (i : ℕ) → get_or (bands_of e) i 0 < 10
one_of_ten e i = spread_below 0 10 (layout e) (omega (arith, ten_bands e)) (omega arith) i

-- each of the 4,096 places has one
pub bands_whole : (e : Bool) → length (bands_of e) ≡ 4096
bands_whole e = place_whole e (λ b. b)
