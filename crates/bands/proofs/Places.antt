-- The tables of places: one test, computed over all entries of both, and what a walk from band to band wants of them.
use mathlib.Core.Bool.{Bool, true, false, ◌&&◌, true≢false}
use mathlib.Core.List.{List, [], ◌∷◌, ◌++◌, map, append-nil, append_assoc}
use mathlib.Core.Path.{◌≡◌, refl, sym, ap, ap₂, ◌∙◌, subst}
use Prim.Native.Nat.{ℕ, zero, suc, ◌+◌, ◌-◌, ◌≤◌, ◌<◌}
use native.Mathlib.Nat.{add-zero, zero-add, add-suc, suc-add}
use native.Mathlib.Numerals.{add-one}
use native.Mathlib.Omega.{arith}
use native.Mathlib.Decide.{dec_lt}
use borrow.Author.Tests.{eqb-true, lt-ltb, le-ltb}
use Rattle.std.proofs.Common.{Option, Some, None, Bor}
use Rattle.std.specs.Slice.{IsItemAt}
use Rattle.std.specs.Option.{unwrap_or, option_copied}
use Rattle.std.specs.List.{slice_get}
use Rattle.std.proofs.lemmas.Option.{slice_get-get_or, slice_get_past, slice_get_read}
use lib.Dec.{T, eqb, eqb→eq}
use lib.ListN.{length, get_or, take, replicate, replicate-append-replicate, get_or-map}
use lib.Seq.{take-suc}
use mir.Facts.{and_yes}
use Rattle.bands.specs.declared.BandInfo.{BandInfo}
use Rattle.bands.specs.Bands.{layout, none, count_of, band_at, spread, per_place, bands_of, position_of}
use Rattle.bands.specs.Tables.{encloses, band_of_place, number_of_band, are_same, band_ends, PlaceTables}
use Rattle.bands.proofs.Every.{both_true}
use Rattle.bands.proofs.Laid.{tables, past_all, band_within, band_small, enclosed, within, is_yes, yes_is}
use Rattle.bands.proofs.Spread.{place_map, place_whole, bands_whole, one_of_ten}

-- ════ a rule of a list, at all of its entries ════

-- the test f passes at each entry and its place, the places counted from i on
abbrev every_entry : (ℕ → ℕ → Bool) → ℕ → List ℕ → Bool
every_entry f i [] = true
every_entry f i (x ∷ xs) = f i x && every_entry f (suc i) xs

from_on : (f : ℕ → ℕ → Bool) (i : ℕ) (xs : List ℕ) → T (every_entry f i xs) → (k : ℕ) → k < length xs → T (f (i + k) (get_or xs k 0))
from_on f i [] t k h = absurd (omega arith)
from_on f i (x ∷ xs) t zero h = subst (λ (m : ℕ). T (f m x)) (sym (add-zero i)) (and_yes (f i x) (every_entry f (suc i) xs) t).0
from_on f i (x ∷ xs) t (suc k) h =
    subst (λ (m : ℕ). T (f m (get_or xs k 0))) (suc-add i k ∙ sym (add-suc i k))
    (from_on f (suc i) xs (and_yes (f i x) (every_entry f (suc i) xs) t).1 k (omega arith))

-- ════ two lists, compared ════

-- the same just where they are equal
pub same_is : (a b : List ℕ) → are_same a b ≡ true → a ≡ b
same_is [] [] e = refl
same_is [] (n ∷ b) e = absurd (true≢false (sym e))
same_is (m ∷ a) [] e = absurd (true≢false (sym e))
same_is (m ∷ a) (n ∷ b) e =
    let both = both_true (eqb m n) (are_same a b) e in
    ap₂ (λ (x : ℕ) (l : List ℕ). x ∷ l) (eqb-true m n both.0) (same_is a b both.1)

-- by the test, computed
pub tested : (a b : List ℕ) → T (are_same a b) → a ≡ b
tested a b t = same_is a b (yes_is (are_same a b) t)

-- ════ the tables ════

-- an entry is the number of the band that encloses its place
right : Bool → ℕ → ℕ → Bool
right e p b = eqb b (band_of_place (layout e) p)

abbrev table_right : Bool → Bool
table_right e = every_entry (right e) 0 (bands_of e)

-- computed over the 8,192 entries
both_right : T (table_right true && table_right false)
unfolding right band_of_place spread
both_right = tt

table_right_lem : (e : Bool) → T (table_right e)
table_right_lem true = (and_yes (table_right true) (table_right false) both_right).0
table_right_lem false = (and_yes (table_right true) (table_right false) both_right).1

pub entry_right : (e : Bool) (p : ℕ) → p < 4096 → get_or (bands_of e) p 0 ≡ band_of_place (layout e) p
unfolding right
entry_right e p h =
    eqb→eq (get_or (bands_of e) p 0) (band_of_place (layout e) p)
    (subst (λ (m : ℕ). T (right e m (get_or (bands_of e) p 0))) (zero-add p) (from_on (right e) 0 (bands_of e) (table_right_lem e) p (omega (arith, bands_whole e))))

-- an element that `get` lends, copied
pub item_get : (xs : List ℕ) (i : ℕ) (r : Option (Bor ℕ)) → IsItemAt xs i r → option_copied r ≡ slice_get xs i
item_get xs i None h = sym (slice_get_past xs i h.3)
item_get xs i (Some x) h = sym (slice_get_read xs (length xs) i x.now refl h.3.0 h.1)

-- the entry that the table has for a place, if it has one
pub entry_get : (e : Bool) (p : ℕ) → slice_get (bands_of e) p ≡ number_of_band e p
entry_get e p = by (dec_lt p 4096)
  where
    by : Dec (p < 4096) → slice_get (bands_of e) p ≡ number_of_band e p
    by (yes h) = slice_get-get_or (bands_of e) p 0 (rw (bands_whole e) h) ∙ ap Some (entry_right e p h) ∙ rw (lt-ltb p 4096 h)
    by (no h) = slice_get_past (bands_of e) p (rw (bands_whole e) (omega arith)) ∙ rw (le-ltb p 4096 (omega arith))

-- with 10 for none it is the number of the first band that encloses the place
pub number_or_10 : (e : Bool) (p : ℕ) → unwrap_or (number_of_band e p) 10 ≡ band_of_place (layout e) p
number_or_10 e p = by (dec_lt p 4096)
  where
    by : Dec (p < 4096) → unwrap_or (number_of_band e p) 10 ≡ band_of_place (layout e) p
    by (yes h) = rw (lt-ltb p 4096 h)
    by (no h) = rw (le-ltb p 4096 (omega arith)) (sym (past_all e p (omega arith)))

-- what each place has of its band, it has by the table
pub by_table : {A : Type 0} (e : Bool) (f : ℕ → A) → per_place e f ≡ map f (bands_of e)
by_table e f = place_map e f (λ b. b)

pub place_tables_lem : PlaceTables
place_tables_lem = record {
  whole = bands_whole;
  entry = entry_right;
  past = past_all;
  by_table = λ e row. by_table e (position_of row);
}

-- ════ from band to band ════

-- a list that has the same element at places in a row
take_same : {A : Type 0} (x d : A) (n i : ℕ) (l : List A) → i + n ≤ length l → ((k : ℕ) → i ≤ k → k < i + n → get_or l k d ≡ x) → take (i + n) l ≡ take i l ++ replicate n x
take_same {A} x d zero i l h same = ap (λ (m : ℕ). take m l) (add-zero i) ∙ sym (append-nil (take i l))
take_same {A} x d (suc n) i l h same =
    let e : i + suc n ≡ suc (i + n) = omega arith in
    ap (λ (m : ℕ). take m l) e
    ∙ take-suc l (i + n) d (omega arith)
    ∙ ap₂ (λ (a : List A) (y : A). a ++ (y ∷ [])) (take_same x d n i l (omega arith) (λ k g j. same k g (omega arith))) (same (i + n) (omega arith) (omega arith))
    ∙ append_assoc (take i l) (replicate n x) (x ∷ [])
    ∙ ap (λ (a : List A). take i l ++ a) (replicate-append-replicate n 1 x ∙ ap (λ (m : ℕ). replicate m x) (add-one n))

-- the band of a place, by the table, and where the band ends
abbrev pub band_by : Bool → ℕ → ℕ
band_by e p = get_or (bands_of e) p 0

abbrev pub end_by : Bool → ℕ → ℕ
end_by e p = get_or (band_ends e) (band_by e p) 0

-- it ends where its count says
end_of : (e : Bool) (p : ℕ) → end_by e p ≡ (band_at e (band_by e p)).offset + count_of (band_at e (band_by e p))
end_of e p = get_or-map (λ (i : BandInfo). i.offset + count_of i) (layout e) (band_by e p) none

-- the places from a place on to the end of its band are all of that band
pub record Stretch (e : Bool) (p : ℕ) : Type 0 where
  pub begins : p < end_by e p
  pub ends : end_by e p ≤ 4096
  pub few : end_by e p - p ≤ 1024
  pub same : (k : ℕ) → p ≤ k → k < end_by e p → band_by e k ≡ band_by e p

pub stretch : (e : Bool) (p : ℕ) → p < 4096 → Stretch e p
stretch e p h =
    let b = band_by e p in
    let o = tables.one_band e p h in
    let n : b ≡ band_of_place (layout e) p = entry_right e p h in
    let t : T (encloses (band_at e b) p) = rw n o.in_band in
    let i = enclosed (band_at e b) p t in
    let w = band_within e b in
    record {
      begins = omega (arith, i.1, end_of e p);
      ends = omega (arith, w, end_of e p);
      few = omega (arith, i.0, band_small e b, end_of e p);
      same = λ k g j.
          let l : k < 4096 = omega (arith, j, w, end_of e p) in
          let u : encloses (band_at e b) k ≡ true = within (band_at e b) k (omega (arith, i.0, g)) (omega (arith, j, end_of e p)) in
          entry_right e k l ∙ sym ((tables.one_band e k l).no_other b (one_of_ten e p) (is_yes (encloses (band_at e b) k) u));
    }

-- so what each place has, up to the end of that band: what the places before it have, and then what this band has, once for each of its places
pub stretch_more : {A : Type 0} (e : Bool) (f : ℕ → A) (p : ℕ) → p < 4096
    → take (end_by e p) (per_place e f) ≡ take p (per_place e f) ++ replicate (end_by e p - p) (f (band_by e p))
stretch_more {A} e f p h =
    let s = stretch e p h in
    let m : p + (end_by e p - p) ≡ end_by e p = omega (arith, s.begins) in
    ap (λ (n : ℕ). take n (per_place e f)) (sym m)
    ∙ take_same (f (band_by e p)) (f 0) (end_by e p - p) p (per_place e f) (omega (arith, m, s.ends, place_whole e f))
    (λ k g j.
    ap (λ (l : List A). get_or l k (f 0)) (by_table e f)
    ∙ get_or-map f (bands_of e) k 0
    ∙ ap f (s.same k g (omega (arith, j, m))))
