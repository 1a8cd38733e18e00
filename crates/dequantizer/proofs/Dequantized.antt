-- Coefficients dequantized one after another: one more, a part more, band by band, and how many there are.
use mathlib.Core.Path.{◌≡◌, refl, sym, ap, ◌∙◌}
use mathlib.Core.Bool.{Bool}
use mathlib.Core.List.{List, [], ◌∷◌, ◌++◌}
use Prim.Native.Nat.{ℕ, suc, ◌+◌, ◌-◌, ◌≤◌, ◌<◌}
use native.Mathlib.Omega.{arith}
use borrow.Rule.Slice.PartMut.{put_mid, mid_of}
use lib.IntN.{ℤ, pos}
use lib.ListN.{length, get_or, set, replicate, length-replicate, replicate-append-replicate}
use Rattle.bands.proofs.Laid.{band_within}
use Rattle.bands.proofs.Spread.{per_place_to, place_count}
use Rattle.dequantizer.specs.Dequantize.{dequantized, dequantized_all}
use Rattle.bands.proofs.Spans.{Lies, place_more}

all_next : (qs : List ℕ) (q : ℕ) (cs : List ℤ) → length qs < length cs
    → dequantized_all (qs ++ (q ∷ [])) cs ≡ set (dequantized_all qs cs) (length qs) (dequantized q (get_or (dequantized_all qs cs) (length qs) (pos 0)))
unfolding dequantized_all
all_next [] q [] h = absurd (omega arith)
all_next [] q (c ∷ cs) h = refl
all_next (p ∷ ps) q [] h = absurd (omega arith)
all_next (p ∷ ps) q (c ∷ cs) h = ap (λ (l : List ℤ). dequantized p c ∷ l) (all_next ps q cs (omega arith))

-- one more, all with one quantizer
pub all_turn : (q i : ℕ) (cs done : List ℤ) → i < length cs → dequantized_all (replicate i q) cs ≡ done
    → dequantized_all (replicate (i + 1) q) cs ≡ set done i (dequantized q (get_or done i (pos 0)))
all_turn q i cs done h e =
    let l = length-replicate i q in
    ap (λ (qs : List ℕ). dequantized_all qs cs) (sym (replicate-append-replicate i 1 q))
    ∙ all_next (replicate i q) q cs (omega (arith, l))
    ∙ (λ j. set (e j) (l j) (dequantized q (get_or (e j) (l j) (pos 0))))

all_front : (qs : List ℕ) (cs : List ℤ) → length qs ≤ length cs → dequantized_all qs cs ≡ put_mid 0 (length qs) cs (dequantized_all qs (mid_of 0 (length qs) cs))
unfolding dequantized_all
all_front [] cs h = refl
all_front (q ∷ qs) [] h = absurd (omega arith)
all_front (q ∷ qs) (c ∷ cs) h = ap (λ (l : List ℤ). dequantized q c ∷ l) (all_front qs cs (omega arith))

all_part : (ps qs : List ℕ) (cs : List ℤ) → length ps + length qs ≤ length cs
    → dequantized_all (ps ++ qs) cs ≡ put_mid (length ps) (length qs) (dequantized_all ps cs) (dequantized_all qs (mid_of (length ps) (length qs) (dequantized_all ps cs)))
unfolding dequantized_all
all_part [] qs cs h = all_front qs cs (omega arith)
all_part (p ∷ ps) qs [] h = absurd (omega arith)
all_part (p ∷ ps) qs (c ∷ cs) h = ap (λ (l : List ℤ). dequantized p c ∷ l) (all_part ps qs cs (omega arith))

-- one band more
pub all_band : (e : Bool) (f : ℕ → ℕ) (b from to : ℕ) (cs done part : List ℤ) → Lies e b from to → 4096 ≤ length cs
    → dequantized_all (per_place_to e f b) cs ≡ done → part ≡ dequantized_all (replicate (to - from) (f b)) (mid_of from (to - from) done)
    → dequantized_all (per_place_to e f (b + 1)) cs ≡ put_mid from (to - from) done part
all_band e f b from to cs done part p h before now =
    let o : length (per_place_to e f b) ≡ from = place_count e f b p.number ∙ sym p.begins in
    let n : length (replicate (to - from) (f b)) ≡ to - from = length-replicate (to - from) (f b) in
    ap (λ (qs : List ℕ). dequantized_all qs cs) (place_more e f b from to p)
    ∙ all_part (per_place_to e f b) (replicate (to - from) (f b)) cs (omega (arith, o, n, p.begins, p.ends, band_within e b))
    ∙ (λ j. put_mid (o j) (n j) (before j) (dequantized_all (replicate (to - from) (f b)) (mid_of (o j) (n j) (before j))))
    ∙ ap (put_mid from (to - from) done) (sym now)

-- as many as before
pub all_length : (qs : List ℕ) (cs : List ℤ) → length (dequantized_all qs cs) ≡ length cs
unfolding dequantized_all
all_length [] cs = refl
all_length (q ∷ qs) [] = refl
all_length (q ∷ qs) (c ∷ cs) = ap suc (all_length qs cs)
