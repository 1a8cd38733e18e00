-- Bands that lie one after another: one test that computes, run over both tables, and what follows for every list of bands that lies so.
-- Assumes nothing.
use mathlib.Core.Bool.{Bool, true, false, ◌&&◌}
use mathlib.Core.List.{List, [], ◌∷◌}
use mathlib.Core.Path.{◌≡◌, refl, sym, ap, ◌∙◌}
use Prim.Native.Nat.{ℕ, zero, suc, ◌+◌, ◌<◌, ◌≤◌}
use native.Mathlib.Omega.{arith}
use borrow.Author.Tests.{le-leb, lt-ltb, le-ltb, ltb-true, ltb-false}
use lib.Dec.{T, eqb, leb, ltb, eqb→eq, leb→le, ltb→lt}
use lib.ListN.{length, get_or, get_or-eq_default}
use mir.Facts.{and_yes}
use Rattle.bands.specs.declared.BandInfo.{BandInfo}
use Rattle.bands.specs.Bands.{layout, count_of, band_at, bottom_offset, none}
use Rattle.bands.specs.Tables.{encloses, band_of_place, count_before, OnlyBand, BandTables}

-- the bands lie one after another from a place to another, with no gap
abbrev pub laid : ℕ → List BandInfo → ℕ → Bool
laid at [] end = eqb at end
laid at (i ∷ is) end = eqb i.offset at && laid (at + count_of i) is end

-- the test of a table: ten bands that fill the 4,096 places, the bottom one at a given place
abbrev right : Bool → ℕ → Bool
right e bottom = laid 0 (layout e) 4096 && (eqb (length (layout e)) 10 && eqb (bottom_offset e) bottom)

-- the counts of both tables
counts_whole : (e : Bool) → count_before (layout e) 10 ≡ 4096
unfolding count_before
counts_whole true = refl
counts_whole false = refl

-- run over both tables
both_right : T (right true 4015 && right false 4032)
both_right = tt

-- what it says of one
pub record Right (e : Bool) (bottom : ℕ) : Type 0 where
  pub filled : T (laid 0 (layout e) 4096)
  pub ten : length (layout e) ≡ 10
  pub lowest : bottom_offset e ≡ bottom

parts : (e : Bool) (bottom : ℕ) → T (right e bottom) → Right e bottom
parts e bottom t =
    let p = and_yes (laid 0 (layout e) 4096) (eqb (length (layout e)) 10 && eqb (bottom_offset e) bottom) t in
    let q = and_yes (eqb (length (layout e)) 10) (eqb (bottom_offset e) bottom) p.1 in
    record { filled = p.0; ten = eqb→eq (length (layout e)) 10 q.0; lowest = eqb→eq (bottom_offset e) bottom q.1 }

extrapolate_right : Right true 4015
extrapolate_right = parts true 4015 (and_yes (right true 4015) (right false 4032) both_right).0

standard_right : Right false 4032
standard_right = parts false 4032 (and_yes (right true 4015) (right false 4032) both_right).1

pub layout_laid : (e : Bool) → T (laid 0 (layout e) 4096)
layout_laid true = extrapolate_right.filled
layout_laid false = standard_right.filled

pub ten_bands : (e : Bool) → length (layout e) ≡ 10
ten_bands true = extrapolate_right.ten
ten_bands false = standard_right.ten

-- ---- what lies so
module _ (i : BandInfo) (is : List BandInfo) (at end : ℕ) (t : T (laid at (i ∷ is) end)) where
  pub first : i.offset ≡ at
  first = eqb→eq i.offset at (and_yes (eqb i.offset at) (laid (at + count_of i) is end) t).0

  pub rest : T (laid (at + count_of i) is end)
  rest = (and_yes (eqb i.offset at) (laid (at + count_of i) is end) t).1

-- an offset is the running sum of the counts
pub running_sum : (at : ℕ) (l : List BandInfo) (end b : ℕ) → T (laid at l end) → b < length l → (get_or l b none).offset ≡ at + count_before l b
unfolding count_before
running_sum at [] end b t h = absurd (omega arith)
running_sum at (i ∷ is) end zero t h = first i is at end t ∙ omega arith
running_sum at (i ∷ is) end (suc b) t h = running_sum (at + count_of i) is end b (rest i is at end t) (omega arith) ∙ omega arith

-- the last band ends where the test says
pub whole_sum : (at : ℕ) (l : List BandInfo) (end : ℕ) → T (laid at l end) → at + count_before l (length l) ≡ end
unfolding count_before
whole_sum at [] end t = omega (arith, eqb→eq at end t)
whole_sum at (i ∷ is) end t = omega (arith, whole_sum (at + count_of i) is end (rest i is at end t))

-- a band ends no later than where the test says
pub ordered : (at : ℕ) (l : List BandInfo) (end : ℕ) → T (laid at l end) → at ≤ end
ordered at [] end t = omega (arith, eqb→eq at end t)
ordered at (i ∷ is) end t = omega (arith, ordered (at + count_of i) is end (rest i is at end t))

ends_within : (at : ℕ) (l : List BandInfo) (end b : ℕ) → T (laid at l end) → b < length l → (get_or l b none).offset + count_of (get_or l b none) ≤ end
ends_within at [] end b t h = absurd (omega arith)
ends_within at (i ∷ is) end zero t h = omega (arith, first i is at end t, ordered (at + count_of i) is end (rest i is at end t))
ends_within at (i ∷ is) end (suc b) t h = ends_within (at + count_of i) is end b (rest i is at end t) (omega arith)

-- ---- enclosing
pub enclosed : (i : BandInfo) (p : ℕ) → T (encloses i p) → (i.offset ≤ p) × (p < i.offset + count_of i)
enclosed i p t =
    let both = and_yes (leb i.offset p) (ltb p (i.offset + count_of i)) t in
    (leb→le i.offset p both.0, ltb→lt p (i.offset + count_of i) both.1)

pub within : (i : BandInfo) (p : ℕ) → i.offset ≤ p → p < i.offset + count_of i → encloses i p ≡ true
within i p h k = rw (le-leb i.offset p h, lt-ltb p (i.offset + count_of i) k)

past : (i : BandInfo) (p : ℕ) → i.offset + count_of i ≤ p → encloses i p ≡ false
past i p h = rw (le-leb i.offset p (omega arith), le-ltb p (i.offset + count_of i) h)

pub is_yes : (b : Bool) → b ≡ true → T b
is_yes b e = rw e tt

pub yes_is : (b : Bool) → T b → b ≡ true
yes_is true t = refl
yes_is false t = absurd t

-- a band encloses no place before the first band
no_earlier : (at : ℕ) (l : List BandInfo) (end b p : ℕ) → T (laid at l end) → b < length l → T (encloses (get_or l b none) p) → at ≤ p
no_earlier at l end b p t h k = omega (arith, running_sum at l end b t h, enclosed (get_or l b none) p k)

-- each place is enclosed
pub some_band : (at : ℕ) (l : List BandInfo) (end p : ℕ) → T (laid at l end) → at ≤ p → p < end → (band_of_place l p < length l) × T (encloses (get_or l (band_of_place l p) none) p)
unfolding band_of_place
some_band at [] end p t h k = absurd (omega (arith, eqb→eq at end t))
some_band at (i ∷ is) end p t h k =
    pick (ltb p (at + count_of i)) refl (λ l. some_band (at + count_of i) is end p (rest i is at end t) l k)
  where
    pick : (q : Bool) → ltb p (at + count_of i) ≡ q → (at + count_of i ≤ p → (band_of_place is p < length is) × T (encloses (get_or is (band_of_place is p) none) p)) → (band_of_place (i ∷ is) p < suc (length is)) × T (encloses (get_or (i ∷ is) (band_of_place (i ∷ is) p) none) p)
    pick true e later =
        let w : encloses i p ≡ true = within i p (omega (arith, first i is at end t)) (omega (arith, first i is at end t, ltb-true)) in
        rw w (omega arith, is_yes (encloses i p) w)
    pick false e later =
        let r = later (omega (arith, ltb-false)) in
        rw (past i p (omega (arith, first i is at end t, ltb-false))) (omega (arith, r.0), r.1)

-- by one band only
pub only_band : (at : ℕ) (l : List BandInfo) (end b p : ℕ) → T (laid at l end) → b < length l → T (encloses (get_or l b none) p) → b ≡ band_of_place l p
unfolding band_of_place
only_band at [] end b p t h k = absurd (omega arith)
only_band at (i ∷ is) end zero p t h k = rw (within i p (enclosed i p k).0 (enclosed i p k).1)
only_band at (i ∷ is) end (suc b) p t h k =
    let later : at + count_of i ≤ p = no_earlier (at + count_of i) is end b p (rest i is at end t) (omega arith) k in
    rw (past i p (omega (arith, first i is at end t))) (ap suc (only_band (at + count_of i) is end b p (rest i is at end t) (omega arith) k))

-- past the end by none
none_past : (at : ℕ) (l : List BandInfo) (end p : ℕ) → T (laid at l end) → end ≤ p → band_of_place l p ≡ length l
unfolding band_of_place
none_past at [] end p t h = refl
none_past at (i ∷ is) end p t h =
    let r = rest i is at end t in
    rw (past i p (omega (arith, first i is at end t, ordered (at + count_of i) is end r))) (ap suc (none_past (at + count_of i) is end p r h))

-- ---- the theorem
ten_more : (e : Bool) {b : ℕ} → b < 10 → b < length (layout e)
ten_more e h = rw (ten_bands e) h

place_band : (e : Bool) (p : ℕ) → p < 4096 → OnlyBand e p (band_of_place (layout e) p)
place_band e p h =
    let s = some_band 0 (layout e) 4096 p (layout_laid e) (omega arith) h in
    record {
      number = rw (ten_bands e) at s.0;
      in_band = s.1;
      no_other = λ k g t. only_band 0 (layout e) 4096 k p (layout_laid e) (ten_more e g) t;
    }

-- past the last place there is no band
pub past_all : (e : Bool) (p : ℕ) → 4096 ≤ p → band_of_place (layout e) p ≡ 10
past_all e p h = none_past 0 (layout e) 4096 p (layout_laid e) h ∙ ten_bands e

pub tables : BandTables
tables = record {
  ten = ten_bands;
  running = λ e b h. running_sum 0 (layout e) 4096 b (layout_laid e) (ten_more e h) ∙ omega arith;
  whole = counts_whole;
  bottom_extrapolate = extrapolate_right.lowest;
  bottom_standard = standard_right.lowest;
  one_band = place_band;
}

-- ---- one band of a layout
-- past the tenth there is none
pub no_band : (e : Bool) (b : ℕ) → 10 ≤ b → none ≡ band_at e b
no_band e b h = sym (get_or-eq_default (layout e) none (rw (ten_bands e) h))

-- a band lies within the component's 4,096 places
pub band_within : (e : Bool) (b : ℕ) → (band_at e b).offset + count_of (band_at e b) ≤ 4096
band_within e b = pick (ltb b 10) refl
  where
    pick : (q : Bool) → ltb b 10 ≡ q → (band_at e b).offset + count_of (band_at e b) ≤ 4096
    pick true q = ends_within 0 (layout e) 4096 b (layout_laid e) (ten_more e (ltb-true b 10 q))
    pick false q = rw (← no_band e b (ltb-false b 10 q)) (omega arith)

-- ---- a band has at most 1024 places

abbrev small : List BandInfo → Bool
small [] = true
small (i ∷ is) = leb (count_of i) 1024 && small is

both_small : T (small (layout true) && small (layout false))
both_small = tt

small_at : (l : List BandInfo) (b : ℕ) → T (small l) → count_of (get_or l b none) ≤ 1024
small_at [] b t = omega arith
small_at (i ∷ is) zero t = leb→le (count_of i) 1024 (and_yes (leb (count_of i) 1024) (small is) t).0
small_at (i ∷ is) (suc b) t = small_at is b (and_yes (leb (count_of i) 1024) (small is) t).1

pub band_small : (e : Bool) (b : ℕ) → count_of (band_at e b) ≤ 1024
band_small true b = small_at (layout true) b (and_yes (small (layout true)) (small (layout false)) both_small).0
band_small false b = small_at (layout false) b (and_yes (small (layout true)) (small (layout false)) both_small).1
