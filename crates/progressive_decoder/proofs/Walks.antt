-- The walk of a pass, for every list of steps: a part of the places more, and what it gives, which is what `Upgrade` says.
use mathlib.Core.Path.{◌≡◌, refl, ap, ◌∙◌}
use mathlib.Core.List.{List, [], ◌∷◌, ◌++◌}
use Prim.Native.Nat.{ℕ, zero, suc, ◌+◌, ◌≤◌}
use native.Mathlib.Omega.{arith}
use borrow.Rule.Slice.PartMut.{put_mid, mid_of}
use lib.IntN.{ℤ}
use lib.ListN.{length, replicate}
use Rattle.bits.specs.Bits.{num, numbers}
use Rattle.srl_decoder.specs.Srl.{Reader, next_value, next_reader, values, reader_after}
use Rattle.upgrade_steps.specs.Steps.{Step, Source, skipped, srl, raw, source, srl_width, srl_widths, raw_width, raw_widths}
use Rattle.progressive_decoder.specs.Upgrade.{srl_coefficient, srl_sign, adds, raw_coefficient, sign_then, signs_after, coefficient_then, coefficients_after}
use Rattle.progressive_decoder.specs.Inner.{Walked, walked, coefficient_at, sign_at, reader_at, count_at, onto, walk, count_after, Early}
use Rattle.progressive_decoder.specs.declared.upgrade.Readers.{Readers}
use Rattle.upgrade_steps.proofs.Sources.{source_none}

module _ (s d : List ℕ) where
  -- a band of width 0 is skipped
  pub walk_skipped : (t : Step) (k : ℕ) (cs ss : List ℤ) (r : Reader) (n : ℕ) → t.width ≡ 0 → walk s d (replicate k t) cs ss r n ≡ walked cs ss r n
  unfolding walk
  walk_skipped t zero cs ss r n e = refl
  walk_skipped t (suc k) [] ss r n e = refl
  walk_skipped t (suc k) (c ∷ cs) [] r n e = refl
  walk_skipped t (suc k) (c ∷ cs) (x ∷ ss) r n e =
      ap (λ (o : Source). onto (coefficient_at s d t o c x r n) (sign_at s d t o x r) (walk s d (replicate k t) cs ss (reader_at s d t o r) (count_at s d t o n))) (source_none t x e)
      ∙ ap (onto c x) (walk_skipped t k cs ss r n e)

  -- ════ a part of the places more ════

  -- a part from place i on, k places long, walked by itself and put back
  abbrev pub parted : List Step → ℕ → ℕ → Walked → Walked
  parted us i k w =
      let p = walk s d us (mid_of i k w.coefficients) (mid_of i k w.sign) w.srl w.raw in
      walked (put_mid i k w.coefficients p.coefficients) (put_mid i k w.sign p.sign) p.srl p.raw

  -- from the first place on
  walk_front : (us : List Step) (cs ss : List ℤ) (r : Reader) (n : ℕ) → length us ≤ length cs → length us ≤ length ss
      → walk s d us cs ss r n ≡ parted us 0 (length us) (walked cs ss r n)
  unfolding walk
  walk_front [] cs ss r n h k = refl
  walk_front (t ∷ us) [] ss r n h k = absurd (omega arith)
  walk_front (t ∷ us) (c ∷ cs) [] r n h k = absurd (omega arith)
  walk_front (t ∷ us) (c ∷ cs) (x ∷ ss) r n h k =
      let o = source t x in
      ap (onto (coefficient_at s d t o c x r n) (sign_at s d t o x r)) (walk_front us cs ss (reader_at s d t o r) (count_at s d t o n) (omega arith) (omega arith))

  pub walk_part : (ts us : List Step) (cs ss : List ℤ) (r : Reader) (n : ℕ) → length ts + length us ≤ length cs → length ts + length us ≤ length ss
      → walk s d (ts ++ us) cs ss r n ≡ parted us (length ts) (length us) (walk s d ts cs ss r n)
  unfolding walk
  walk_part [] us cs ss r n h k = walk_front us cs ss r n (omega arith) (omega arith)
  walk_part (t ∷ ts) us [] ss r n h k = absurd (omega arith)
  walk_part (t ∷ ts) us (c ∷ cs) [] r n h k = absurd (omega arith)
  walk_part (t ∷ ts) us (c ∷ cs) (x ∷ ss) r n h k =
      let o = source t x in
      ap (onto (coefficient_at s d t o c x r n) (sign_at s d t o x r)) (walk_part ts us cs ss (reader_at s d t o r) (count_at s d t o n) (omega arith) (omega arith))

  -- ════ what it gives ════

  sign_is : (o : Source) (t : Step) (x : ℤ) (r : Reader) (ws : List ℕ) (rest : List ℤ → List ℤ) (later : Reader → List ℤ) → ((r : Reader) → later r ≡ rest (values s ws r))
      → ◌≡◌ {A = List ℤ} (sign_at s d t o x r ∷ later (reader_at s d t o r)) (sign_then o x (values s (srl_width o t.width ws) r) rest)
  unfolding values
  sign_is skipped t x r ws rest later e = ap (λ (l : List ℤ). x ∷ l) (e r)
  sign_is srl t x r ws rest later e = ap (λ (l : List ℤ). srl_sign (next_value s t.width r) x ∷ l) (e (next_reader s t.width r))
  sign_is raw t x r ws rest later e = ap (λ (l : List ℤ). x ∷ l) (e r)

  pub walk_signs : (ts : List Step) (cs ss : List ℤ) (r : Reader) (n : ℕ) → length ts ≤ length cs → (walk s d ts cs ss r n).sign ≡ signs_after ts ss (values s (srl_widths ts ss) r)
  unfolding walk signs_after srl_widths
  walk_signs [] cs ss r n h = refl
  walk_signs (t ∷ ts) [] ss r n h = absurd (omega arith)
  walk_signs (t ∷ ts) (c ∷ cs) [] r n h = refl
  walk_signs (t ∷ ts) (c ∷ cs) (x ∷ ss) r n h =
      let m = count_at s d t (source t x) n in
      sign_is (source t x) t x r (srl_widths ts ss) (signs_after ts ss) (λ r. (walk s d ts cs ss r m).sign) (λ r. walk_signs ts cs ss r m (omega arith))

  coefficient_is : (o : Source) (t : Step) (c x : ℤ) (r : Reader) (n : ℕ) (ws us : List ℕ) (rest : List ℤ → List ℕ → List ℤ) (later : Reader → ℕ → List ℤ)
      → ((r : Reader) (n : ℕ) → later r n ≡ rest (values s ws r) (numbers d us n))
      → ◌≡◌ {A = List ℤ} (coefficient_at s d t o c x r n ∷ later (reader_at s d t o r) (count_at s d t o n)) (coefficient_then o t c x (values s (srl_width o t.width ws) r) (numbers d (raw_width o t.width us) n) rest)
  unfolding values numbers
  coefficient_is skipped t c x r n ws us rest later e = ap (λ (l : List ℤ). c ∷ l) (e r n)
  coefficient_is srl t c x r n ws us rest later e = ap (λ (l : List ℤ). srl_coefficient t.position (next_value s t.width r) c ∷ l) (e (next_reader s t.width r) n)
  coefficient_is raw t c x r n ws us rest later e = ap (λ (l : List ℤ). raw_coefficient (adds t x) t.position (num d n t.width) c ∷ l) (e r (n + t.width))

  pub walk_coefficients : (ts : List Step) (cs ss : List ℤ) (r : Reader) (n : ℕ)
      → (walk s d ts cs ss r n).coefficients ≡ coefficients_after ts cs ss (values s (srl_widths ts ss) r) (numbers d (raw_widths ts ss) n)
  unfolding walk coefficients_after srl_widths raw_widths
  walk_coefficients [] cs ss r n = refl
  walk_coefficients (t ∷ ts) [] ss r n = refl
  walk_coefficients (t ∷ ts) (c ∷ cs) [] r n = refl
  walk_coefficients (t ∷ ts) (c ∷ cs) (x ∷ ss) r n =
      coefficient_is (source t x) t c x r n (srl_widths ts ss) (raw_widths ts ss) (coefficients_after ts cs ss) (λ r n. (walk s d ts cs ss r n).coefficients) (walk_coefficients ts cs ss)

  -- ════ where the readers end ════

  -- the SRL reader
  reader_is : (o : Source) (t : Step) (ws : List ℕ) (r : Reader) → reader_after s ws (reader_at s d t o r) ≡ reader_after s (srl_width o t.width ws) r
  unfolding reader_after
  reader_is skipped t ws r = refl
  reader_is srl t ws r = refl
  reader_is raw t ws r = refl

  -- the SRL reader stands behind the last value
  pub walk_reader : (ts : List Step) (cs ss : List ℤ) (r : Reader) (n : ℕ) → length ts ≤ length cs → (walk s d ts cs ss r n).srl ≡ reader_after s (srl_widths ts ss) r
  unfolding walk srl_widths reader_after
  walk_reader [] cs ss r n h = refl
  walk_reader (t ∷ ts) [] ss r n h = absurd (omega arith)
  walk_reader (t ∷ ts) (c ∷ cs) [] r n h = refl
  walk_reader (t ∷ ts) (c ∷ cs) (x ∷ ss) r n h =
      let o = source t x in
      walk_reader ts cs ss (reader_at s d t o r) (count_at s d t o n) (omega arith) ∙ reader_is o t (srl_widths ts ss) r

  count_is : (o : Source) (t : Step) (ws : List ℕ) (n : ℕ) → count_after ws (count_at s d t o n) ≡ count_after (raw_width o t.width ws) n
  unfolding count_after
  count_is skipped t ws n = refl
  count_is srl t ws n = refl
  count_is raw t ws n = refl

  -- the raw bits that were read are those of all numbers
  pub walk_count : (ts : List Step) (cs ss : List ℤ) (r : Reader) (n : ℕ) → length ts ≤ length cs → (walk s d ts cs ss r n).raw ≡ count_after (raw_widths ts ss) n
  unfolding walk raw_widths count_after
  walk_count [] cs ss r n h = refl
  walk_count (t ∷ ts) [] ss r n h = absurd (omega arith)
  walk_count (t ∷ ts) (c ∷ cs) [] r n h = refl
  walk_count (t ∷ ts) (c ∷ cs) (x ∷ ss) r n h =
      let o = source t x in
      walk_count ts cs ss (reader_at s d t o r) (count_at s d t o n) (omega arith) ∙ count_is o t (raw_widths ts ss) n

-- a band that is skipped leaves the readers where they are
pub early_on : (r : Readers) (m k : ℕ) → Early r m → Early r (m + k)
early_on r m k y = record { place = y.place; kp = y.kp; srl_read_lem = omega (arith, y.srl_read_lem); raw_read = omega (arith, y.raw_read) }
