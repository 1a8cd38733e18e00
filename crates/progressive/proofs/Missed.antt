-- The bits of both streams that a pass misses: none of a whole pass, what a count says, at most how many, and none once the streams are long enough.
use mathlib.Core.Path.{◌≡◌, refl, ap, ap₂}
use mathlib.Core.Bool.{Bool, ◌&&◌}
use mathlib.Core.List.{List, [], ◌∷◌, ◌++◌}
use Prim.Native.Nat.{ℕ, ◌+◌, ◌-◌, ◌*◌, ◌≤◌}
use native.Mathlib.Omega.{arith}
use lib.IntN.{ℤ}
use lib.ListN.{length, replicate, length-append}
use Rattle.bands.specs.Positions.{row_in_domain}
use Rattle.bands.proofs.Every.{both_true}
use Rattle.bits.specs.Written.{bits_of, bits_of_all}
use Rattle.bits.proofs.Longer.{longer_bits, length_longer, numbers_same}
use Rattle.bits.proofs.Missing.{missing_num, none_missing}
use Rattle.bits.proofs.Packed.{length_pack}
use Rattle.bits.proofs.Puts.{length_bits_of}
use Rattle.srl_decoder.specs.Srl.{Reader, start}
use Rattle.srl_decoder.proofs.Missing.{values_ended}
use Rattle.srl_decoder.proofs.Longer.{values_same}
use Rattle.upgrade_steps.specs.Steps.{Step, Source, skipped, srl, raw, source, steps, srl_widths, raw_width, raw_widths}
use Rattle.std.specs.Prelude.{Option, None, Some}
use Rattle.answer.specs.declared.Refusal.{Refusal}
use Rattle.answer.specs.declared.Refusal.TheVariants.{SliceTooShort, OutOfDomain}
use Rattle.answer.specs.Answers.{unless, long_enough, answered, unless_refused, given_or}
use Rattle.answer.proofs.Refusing.{first_none, unless_none}
use Rattle.progressive_decoder.specs.Upgrade.{srl_missing, raw_missing, missing_bits, pass_missing, signs_after, coefficients_after, upgraded_signs, upgraded_coefficients, decode_pass_refusal, decode_missing}
use Rattle.progressive_decoder.specs.Inner.{count_after}
use Rattle.progressive_decoder.specs.declared.MissingBits.{MissingBits}
use Rattle.progressive_decoder.proofs.Missing.{srl_missing_lem, raw_missing_lem, srl_most, raw_most}
use Rattle.progressive_encoder.specs.Encode.{Rule, raw_given, raw_differences, srl_bytes, raw_bytes, pass_fault}
use Rattle.progressive.specs.Missing.{srl_bits, sum, raw_bits, PassMissingBits}
use Rattle.progressive.proofs.AnyRule.{pass_values, taken, long}

-- ════ how many raw bits are read, and written ════

-- the count behind some numbers
pub count_sum : (ws : List ℕ) (n : ℕ) → count_after ws n ≡ n + sum ws
unfolding count_after sum
count_sum [] n = omega arith
count_sum (w ∷ ws) n = omega (arith, count_sum ws (n + w))

-- those read, past the stream's end
raw_past : (ts : List Step) (raw_data : List ℕ) (ss : List ℤ) → raw_missing ts raw_data ss ≡ raw_bits ts ss - 8 * length raw_data
raw_past ts raw_data ss = omega (arith, raw_missing_lem ts raw_data ss, count_sum (raw_widths ts ss) 0)

-- the writer writes as many
raw_written_lem : (r : Rule) (ts : List Step) (cs ps ss : List ℤ) → length ts ≤ length cs → length ts ≤ length ps → length ts ≤ length ss → length (bits_of_all (raw_widths ts ss) (raw_differences r ts cs ps ss)) ≡ raw_bits ts ss
unfolding raw_widths raw_differences bits_of_all sum
raw_written_lem r [] cs ps ss h j k = refl
raw_written_lem r (t ∷ ts) [] ps ss h j k = absurd (omega arith)
raw_written_lem r (t ∷ ts) (c ∷ cs) [] ss h j k = absurd (omega arith)
raw_written_lem r (t ∷ ts) (c ∷ cs) (p ∷ ps) [] h j k = absurd (omega arith)
raw_written_lem r (t ∷ ts) (c ∷ cs) (p ∷ ps) (s ∷ ss) h j k = by (source t s) (raw_written_lem r ts cs ps ss (omega arith) (omega arith) (omega arith))
  where
    ws : List ℕ
    ws = raw_widths ts ss

    ms : List ℕ
    ms = raw_differences r ts cs ps ss

    m : ℕ
    m = r.number t.bottom t.position c p

    by : (x : Source) → length (bits_of_all ws ms) ≡ sum ws → length (bits_of_all (raw_width x t.width ws) (raw_given x m ms)) ≡ sum (raw_width x t.width ws)
    by skipped e = e
    by srl e = e
    by raw e = omega (arith, e, length-append (bits_of t.width m) (bits_of_all ws ms), length_bits_of t.width m)

-- ════ a whole pass ════

module _ (r : Rule) (ts : List Step) (cs ps ss : List ℤ) (h : length ts ≤ length cs) (j : length ts ≤ length ps) (k : length ts ≤ length ss) where
  -- the SRL reader ends in the stream
  srl_whole : pass_fault r ts cs ps ss ≡ None → srl_missing ts (srl_bytes r ts cs ps ss) ss ≡ 0
  srl_whole e = omega (arith, srl_missing_lem ts (srl_bytes r ts cs ps ss) ss, (pass_values r ts cs ps ss h j k e).ends)

  -- the raw bits read are those written; no number need fit its width, since its low bits are always written
  raw_whole : raw_missing ts (raw_bytes r ts cs ps ss) ss ≡ 0
  raw_whole =
      let bits = bits_of_all (raw_widths ts ss) (raw_differences r ts cs ps ss) in
      omega (arith, raw_past ts (raw_bytes r ts cs ps ss) ss, length_pack bits 0 0 (omega arith), raw_written_lem r ts cs ps ss h j k)

-- ════ at most how many ════

-- of any call: a refused one misses nothing, and the rows of an accepted one are in the domain
most : (srl_data raw_data prev curr : List ℕ) (e : Bool) (cs ss : List ℤ)
    → ((decode_missing srl_data raw_data prev curr e cs ss).srl ≤ 32790) × ((decode_missing srl_data raw_data prev curr e cs ss).raw ≤ 61440)
most srl_data raw_data prev curr e cs ss = by (decode_pass_refusal prev curr cs ss) refl
  where
    all : MissingBits
    all = pass_missing (steps e prev curr) srl_data raw_data ss

    by : (r : Option Refusal) → decode_pass_refusal prev curr cs ss ≡ r
        → ((given_or (missing_bits 0 0) (answered r all)).srl ≤ 32790) × ((given_or (missing_bits 0 0) (answered r all)).raw ≤ 61440)
    by None n =
        let r = (first_none (unless (long_enough cs && long_enough ss) SliceTooShort) (unless (row_in_domain prev && row_in_domain curr) OutOfDomain) n).1 in
        let p = (both_true (row_in_domain prev) (row_in_domain curr) (unless_none (row_in_domain prev && row_in_domain curr) OutOfDomain r)).0 in
        (srl_most e prev curr srl_data ss p, raw_most e prev curr raw_data ss p)
    by (Some refusal) n = (omega arith, omega arith)

-- ════ longer streams ════

-- the same values and numbers are read
longer : (ts : List Step) (srl_data raw_data : List ℕ) (cs ss : List ℤ) (j k : ℕ)
    → (upgraded_coefficients ts (srl_data ++ replicate j 0) (raw_data ++ replicate k 0) cs ss ≡ upgraded_coefficients ts srl_data raw_data cs ss)
    × (upgraded_signs ts (srl_data ++ replicate j 0) ss ≡ upgraded_signs ts srl_data ss)
longer ts srl_data raw_data cs ss j k =
    let v = (values_same (srl_data ++ replicate j 0) srl_data (longer_bits srl_data j) (srl_widths ts ss) start).0 in
    (ap₂ (coefficients_after ts cs ss) v (numbers_same (raw_data ++ replicate k 0) raw_data (longer_bits raw_data k) (raw_widths ts ss) 0), ap (signs_after ts ss) v)

-- as many bits are read, of a stream that has more
srl_longer : (ts : List Step) (srl_data : List ℕ) (ss : List ℤ) (j : ℕ) → srl_missing ts (srl_data ++ replicate j 0) ss ≡ srl_bits ts srl_data ss - 8 * (length srl_data + j)
srl_longer ts srl_data ss j =
    let r = ap (λ (q : Reader). q.read) (values_same (srl_data ++ replicate j 0) srl_data (longer_bits srl_data j) (srl_widths ts ss) start).1 in
    omega (arith, srl_missing_lem ts (srl_data ++ replicate j 0) ss, r, length_longer srl_data j)

raw_longer : (ts : List Step) (raw_data : List ℕ) (ss : List ℤ) (k : ℕ) → raw_missing ts (raw_data ++ replicate k 0) ss ≡ raw_bits ts ss - 8 * (length raw_data + k)
raw_longer ts raw_data ss k = omega (arith, raw_past ts (raw_data ++ replicate k 0) ss, length_longer raw_data k)

-- ════ the statement ════

-- in its parts
pub missing : PassMissingBits
missing = record {
  whole = λ r cs ps ss prev curr e srlOut rawOut n.
      let t = taken r cs ps ss prev curr e srlOut rawOut n in
      let ts = steps e prev curr in
      let h = long e prev curr cs t.coefficients_long in
      let j = long e prev curr ps t.previous_long in
      let k = long e prev curr ss t.signs_long in
      simp (t.previous_long, t.signs_long, t.rows) (ap₂ missing_bits (srl_whole r ts cs ps ss h j k t.no_fault) (raw_whole r ts cs ps ss h j k));
  call = λ srl_data raw_data prev curr e cs ss n. ap (λ (r : Option Refusal). given_or (missing_bits 0 0) (answered r (pass_missing (steps e prev curr) srl_data raw_data ss))) n;
  srl_ended = λ ts srl_data ss. values_ended srl_data (srl_widths ts ss) start;
  raw_ended = λ ts raw_data ss.
      let n : ℕ = raw_bits ts ss in
      none_missing raw_data 0 n (omega arith) (omega (arith, raw_past ts raw_data ss, missing_num raw_data 0 (n - 0)));
  most = most;
  longer = longer;
  longer_call = λ srl_data raw_data prev curr e cs ss j k.
      let l = longer (steps e prev curr) srl_data raw_data cs ss j k in
      let n = decode_pass_refusal prev curr cs ss in
      (ap (λ (a : List ℤ). unless_refused n a cs) l.0, ap (λ (a : List ℤ). unless_refused n a ss) l.1);
  fewer = λ ts srl_data raw_data ss j k. (
    omega (arith, srl_longer ts srl_data ss j, srl_missing_lem ts srl_data ss),
    omega (arith, raw_longer ts raw_data ss k, raw_past ts raw_data ss),
  );
  long_enough_lem = λ ts srl_data raw_data ss j k a b. ap₂ missing_bits (omega (arith, srl_longer ts srl_data ss j, a)) (omega (arith, raw_longer ts raw_data ss k, b));
}
