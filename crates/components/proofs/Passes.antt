-- A pass over three components in flat arrays: it keeps lengths, each component is upgraded where it lies, and all three one after another.
use mathlib.Core.Path.{◌≡◌, refl, sym, ap, ap₂, ◌∙◌}
use mathlib.Core.Bool.{Bool, true}
use mathlib.Core.List.{List, [], ◌∷◌}
use Prim.Native.Nat.{ℕ, suc, ◌+◌, ◌*◌, ◌≤◌, ◌<◌}
use native.Mathlib.Omega.{arith}
use borrow.Rule.Slice.PartMut.{put_mid, mid_of}
use lib.IntN.{ℤ}
use lib.ListN.{length}
use Rattle.upgrade_steps.specs.Steps.{Step, Source, skipped, srl, raw, source, steps}
use Rattle.progressive_decoder.specs.Upgrade.{sign_then, signs_after, coefficient_then, coefficients_after, upgraded_coefficients, upgraded_signs}
use Rattle.progressive_decoder.specs.Upgrade as P
use Rattle.progressive_decoder.specs.Upgrade.{missing_bits}
use Rattle.progressive_decoder.specs.declared.MissingBits.{MissingBits}
use Rattle.components.specs.Components.{steps_of, pass_coefficients, pass_signs, pass_missing}
use Rattle.planes.specs.Planes.{component, row_of, joined, of}
use Rattle.planes.specs.Inner.{with_component}
use Rattle.components.specs.Inner.{coefficients_past, signs_past, Few, ComponentPassed, ComponentsPassed}
use Rattle.bands.specs.Positions.{row_in_domain}
use Rattle.progressive_decoder.proofs.Missing.{srl_most, raw_most}
use Rattle.planes.proofs.Joined.{Long, up_to, joined_components, parts_long, here, next}

-- ════ lengths ════

coefficient_longer : (o : Source) (t : Step) (c s : ℤ) (vs : List ℤ) (ms : List ℕ) (rest : List ℤ → List ℕ → List ℤ) (n : ℕ)
    → ((vs : List ℤ) (ms : List ℕ) → length (rest vs ms) ≡ n) → length (coefficient_then o t c s vs ms rest) ≡ suc n
coefficient_longer skipped t c s vs ms rest n h = ap suc (h vs ms)
coefficient_longer srl t c s [] ms rest n h = ap suc (h [] ms)
coefficient_longer srl t c s (v ∷ vs) ms rest n h = ap suc (h vs ms)
coefficient_longer raw t c s vs [] rest n h = ap suc (h vs [])
coefficient_longer raw t c s vs (m ∷ ms) rest n h = ap suc (h vs ms)

pub coefficients_long : (ts : List Step) (cs ss vs : List ℤ) (ms : List ℕ) → length (coefficients_after ts cs ss vs ms) ≡ length cs
unfolding coefficients_after
coefficients_long [] cs ss vs ms = refl
coefficients_long (t ∷ ts) [] ss vs ms = refl
coefficients_long (t ∷ ts) (c ∷ cs) [] vs ms = refl
coefficients_long (t ∷ ts) (c ∷ cs) (s ∷ ss) vs ms = coefficient_longer (source t s) t c s vs ms (coefficients_after ts cs ss) (length cs) (coefficients_long ts cs ss)

sign_longer : (o : Source) (s : ℤ) (vs : List ℤ) (rest : List ℤ → List ℤ) (n : ℕ) → ((vs : List ℤ) → length (rest vs) ≡ n) → length (sign_then o s vs rest) ≡ suc n
sign_longer skipped s vs rest n h = ap suc (h vs)
sign_longer raw s vs rest n h = ap suc (h vs)
sign_longer srl s [] rest n h = ap suc (h [])
sign_longer srl s (v ∷ vs) rest n h = ap suc (h vs)

pub signs_long : (ts : List Step) (ss vs : List ℤ) → length (signs_after ts ss vs) ≡ length ss
unfolding signs_after
signs_long [] ss vs = refl
signs_long (t ∷ ts) [] vs = refl
signs_long (t ∷ ts) (s ∷ ss) vs = sign_longer (source t s) s vs (signs_after ts ss) (length ss) (signs_long ts ss)

-- ════ one component, where it lies ════

module _ (e : Bool) (positions : List ℕ) (rows : List (List ℕ)) (k n : ℕ) (cs ss : List ℤ) (whole : n ≡ 4096) where
  -- what a function of the steps and of both parts gives goes where one of them lies; n is the length of a part as the code has it
  pub component_put : (prev : List ℕ) → prev ≡ row_of k positions → (f : List Step → List ℤ → List ℤ → List ℤ) (l y : List ℤ)
      → y ≡ f (steps e prev (of rows k)) (mid_of (k * 4096) n cs) (mid_of (k * 4096) n ss)
      → put_mid (k * 4096) n l y ≡ with_component k (f (steps_of e positions rows k) (component k cs) (component k ss)) l
  component_put prev row f l y d =
      ap (put_mid (k * 4096) n l) d
      ∙ ap₂ (λ (n : ℕ) (prev : List ℕ). put_mid (k * 4096) n l (f (steps e prev (of rows k)) (mid_of (k * 4096) n cs) (mid_of (k * 4096) n ss))) whole row

  -- the part is long enough
  pub component_long : (l : List ℤ) → length l ≡ 12288 → k < 3 → 4096 ≤ length (mid_of (k * 4096) n l)
  component_long l long h = omega (arith, ap (λ (n : ℕ). length (mid_of (k * 4096) n l)) whole, parts_long 4096 l long k h)

  -- the bits that a part misses, as of the component
  pub component_missing : (prev : List ℕ) → prev ≡ row_of k positions → (srl_data raw_data : List ℕ)
      → P.pass_missing (steps e prev (of rows k)) srl_data raw_data (mid_of (k * 4096) n ss) ≡ P.pass_missing (steps_of e positions rows k) srl_data raw_data (component k ss)
  component_missing prev row srl_data raw_data =
      ap₂ (λ (n : ℕ) (prev : List ℕ). P.pass_missing (steps e prev (of rows k)) srl_data raw_data (mid_of (k * 4096) n ss)) whole row

-- a pass over one component misses few bits
pub few_missing : (e : Bool) (prev curr srl_data raw_data : List ℕ) (ss : List ℤ) {m : MissingBits} → m ≡ P.pass_missing (steps e prev curr) srl_data raw_data ss
    → row_in_domain prev ≡ true → Few m
few_missing e prev curr srl_data raw_data ss d h =
    (omega (arith, ap (λ (m : MissingBits). m.srl) d, srl_most e prev curr srl_data ss h), omega (arith, ap (λ (m : MissingBits). m.raw) d, raw_most e prev curr raw_data ss h))

-- ════ all three ════

module _ (e : Bool) (positions : List ℕ) (rows srl_data raw_data : List (List ℕ)) (cs ss : List ℤ) (longC : length cs ≡ 12288) (longS : length ss ≡ 12288) where
  -- component k after the pass
  abbrev pub coefficients_of : ℕ → List ℤ
  coefficients_of k = upgraded_coefficients (steps_of e positions rows k) (of srl_data k) (of raw_data k) (component k cs) (component k ss)

  abbrev pub signs_of : ℕ → List ℤ
  signs_of k = upgraded_signs (steps_of e positions rows k) (of srl_data k) (component k ss)

  pub long_coefficients : Long 4096 coefficients_of
  long_coefficients k h = coefficients_long (steps_of e positions rows k) (component k cs) (component k ss) _ _ ∙ parts_long 4096 cs longC k h

  pub long_signs : Long 4096 signs_of
  long_signs k h = signs_long (steps_of e positions rows k) (component k ss) _ ∙ parts_long 4096 ss longS k h

  -- the first k components are done
  abbrev Reached : ℕ → List ℤ → List ℤ → Type 0
  Reached k c s = (c ≡ joined (up_to k coefficients_of (λ j. component j cs))) × (s ≡ joined (up_to k signs_of (λ j. component j ss)))

  -- component k is done, from one pair of lists to another
  abbrev Past : ℕ → List ℤ → List ℤ → List ℤ → List ℤ → MissingBits → Type 0
  Past k c s c' s' r = ComponentPassed k e positions rows (of srl_data k) (of raw_data k) c s c' s' r

  -- where component k lies nothing has changed, once those before it are done
  here_sign : (k : ℕ) → k < 3 → {c s : List ℤ} → Reached k c s → component k s ≡ component k ss
  here_sign k h {c} {s} r = here 4096 signs_of (λ j. component j ss) long_signs (parts_long 4096 ss longS) k h s r.1

  one_more : (k : ℕ) → k < 3 → {c s c' s' : List ℤ} {q : MissingBits} → Reached k c s → Past k c s c' s' q → Reached (suc k) c' s'
  unfolding coefficients_past signs_past
  one_more k h {c} {s} r d =
      let hereC : component k c ≡ component k cs = here 4096 coefficients_of (λ j. component j cs) long_coefficients (parts_long 4096 cs longC) k h c r.0 in
      let hereS = here_sign k h r in (
        d.coefficients ∙ next 4096 coefficients_of (λ j. component j cs) long_coefficients (parts_long 4096 cs longC) k h c _ r.0 (ap₂ (upgraded_coefficients (steps_of e positions rows k) (of srl_data k) (of raw_data k)) hereC hereS),
        d.sign ∙ next 4096 signs_of (λ j. component j ss) long_signs (parts_long 4096 ss longS) k h s _ r.1 (ap (upgraded_signs (steps_of e positions rows k) (of srl_data k)) hereS),
      )

  -- the bits that component k misses, by the signs of the whole array at the start
  abbrev pub missing_of : ℕ → MissingBits
  missing_of k = P.pass_missing (steps_of e positions rows k) (of srl_data k) (of raw_data k) (component k ss)

  missed : (k : ℕ) → k < 3 → {c s c' s' : List ℤ} {q : MissingBits} → Reached k c s → Past k c s c' s' q → q ≡ missing_of k
  missed k h r d = d.missing ∙ ap (P.pass_missing (steps_of e positions rows k) (of srl_data k) (of raw_data k)) (here_sign k h r)

  -- three components one after another are the pass
  pub passed : {c₁ s₁ c₂ s₂ c₃ s₃ : List ℤ} {y cb cr : MissingBits} → Past 0 cs ss c₁ s₁ y → Past 1 c₁ s₁ c₂ s₂ cb → Past 2 c₂ s₂ c₃ s₃ cr
      → ComponentsPassed e positions rows srl_data raw_data cs ss c₃ s₃ (missing_bits (y.srl + cb.srl + cr.srl) (y.raw + cb.raw + cr.raw))
  unfolding pass_coefficients pass_signs pass_missing
  passed y cb cr =
      let none : Reached 0 cs ss = (sym (joined_components cs longC), sym (joined_components ss longS)) in
      let first = one_more 0 (omega arith) none y in
      let second = one_more 1 (omega arith) first cb in
      let all = one_more 2 (omega arith) second cr in
      let my = missed 0 (omega arith) none y in
      let mcb = missed 1 (omega arith) first cb in
      let mcr = missed 2 (omega arith) second cr in
      record {
        coefficients = all.0;
        sign = all.1;
        missing = λ i. missing_bits ((my i).srl + (mcb i).srl + (mcr i).srl) ((my i).raw + (mcb i).raw + (mcr i).raw);
      }
