-- The bits of both streams that a pass misses: by where its readers end, and at most how many.
use mathlib.Core.Path.{◌≡◌, ap, ap₂, ◌∙◌}
use mathlib.Core.Bool.{Bool, true}
use mathlib.Core.List.{List, [], ◌∷◌, ◌++◌}
use Prim.Native.Nat.{ℕ, zero, suc, ◌+◌, ◌-◌, ◌*◌, ◌≤◌}
use native.Mathlib.Omega.{arith}
use lib.IntN.{ℤ}
use lib.ListN.{length, replicate}
use Rattle.bands.specs.Bands.{layout, count_of, spread, position_of}
use Rattle.bands.specs.Positions.{row_in_domain}
use Rattle.bands.specs.declared.BandInfo.{BandInfo}
use Rattle.bands.proofs.Every.{row_low}
use Rattle.bands.proofs.Spread.{place_whole}
use Rattle.bits.specs.Missing.{BitRead, read_num, read_numbers, missing_in}
use Rattle.bits.proofs.Missing.{missing_num, num_join}
use Rattle.srl_decoder.specs.Srl.{start, reader_after}
use Rattle.srl_decoder.specs.Missing.{Narrow, narrow}
use Rattle.srl_decoder.proofs.Missing.{missing_past}
use Rattle.srl_decoder.proofs.Most.{most_pass}
use Rattle.upgrade_steps.specs.Steps.{Step, Source, skipped, srl, raw, source, step_of, steps, srl_width, srl_widths, raw_width, raw_widths}
use Rattle.upgrade_steps.specs.Counts.{most_srl_values}
use Rattle.upgrade_steps.proofs.Counts.{few_srl_values_lem}
use Rattle.progressive_decoder.specs.Upgrade.{srl_missing, raw_missing}
use Rattle.progressive_decoder.specs.Inner.{count_after}

-- ════ by where the readers end ════

-- the SRL reader begins at the stream's start
pub srl_missing_lem : (ts : List Step) (srl_data : List ℕ) (ss : List ℤ) → srl_missing ts srl_data ss ≡ (reader_after srl_data (srl_widths ts ss) start).read - 8 * length srl_data
srl_missing_lem ts srl_data ss = missing_past srl_data (srl_widths ts ss) start (omega arith)

-- a count of raw bits only grows
count_mono : (ws : List ℕ) (n : ℕ) → n ≤ count_after ws n
unfolding count_after
count_mono [] n = omega arith
count_mono (w ∷ ws) n = omega (arith, count_mono ws (n + w))

-- the bits of numbers one after another stand between both counts
pub numbers_read : (s ws : List ℕ) (n : ℕ) → read_numbers s ws n ≡ read_num s n (count_after ws n - n)
unfolding read_numbers count_after read_num
numbers_read s [] n = let e : 0 ≡ n - n = omega arith in ap (read_num s n) e
numbers_read s (w ∷ ws) n =
    let e : w ≡ n + w - n = omega arith in
    ap₂ (λ (a b : List BitRead). a ++ b) (ap (read_num s n) e) (numbers_read s ws (n + w))
    ∙ num_join s n (n + w) (count_after ws (n + w)) (omega arith) (count_mono ws (n + w))

-- and so does the raw reader
pub raw_missing_lem : (ts : List Step) (raw_data : List ℕ) (ss : List ℤ) → raw_missing ts raw_data ss ≡ count_after (raw_widths ts ss) 0 - 8 * length raw_data
raw_missing_lem ts raw_data ss =
    let n = count_after (raw_widths ts ss) 0 in
    ap missing_in (numbers_read raw_data (raw_widths ts ss) 0) ∙ missing_num raw_data 0 (n - 0) ∙ omega arith

-- ════ at most how many ════

-- every step has a width of at most m
pub data Slim (m : ℕ) : List Step → Type 0 where
  none : Slim m []
  slim : {t : Step} {ts : List Step} → t.width ≤ m → Slim m ts → Slim m (t ∷ ts)

slim_band : {m : ℕ} (n : ℕ) (t : Step) (ts : List Step) → t.width ≤ m → Slim m ts → Slim m (replicate n t ++ ts)
slim_band zero t ts h l = l
slim_band (suc n) t ts h l = slim h (slim_band n t ts h l)

slim_bands : {m : ℕ} (f : ℕ → Step) → ((b : ℕ) → (f b).width ≤ m) → (b : ℕ) (is : List BandInfo) → Slim m (spread f b is)
unfolding spread
slim_bands f h b [] = Slim.none
slim_bands f h b (i ∷ is) = slim_band (count_of i) (f b) (spread f (suc b) is) (h b) (slim_bands f h (suc b) is)

-- where no position falls by more than m
pub slim_falls : {m : ℕ} (e : Bool) (prev curr : List ℕ) → ((b : ℕ) → position_of prev b ≤ position_of curr b + m) → Slim m (steps e prev curr)
slim_falls e prev curr h = slim_bands (step_of prev curr) (λ b. omega (arith, h b)) 0 (layout e)

pub slim_steps : (e : Bool) (prev curr : List ℕ) → row_in_domain prev ≡ true → Slim 15 (steps e prev curr)
slim_steps e prev curr h = slim_falls e prev curr (λ b. omega (arith, row_low prev b h))

narrow_more : (o : Source) (w : ℕ) {ws : List ℕ} → w ≤ 15 → Narrow ws → Narrow (srl_width o w ws)
narrow_more skipped w h l = l
narrow_more srl w h l = narrow h l
narrow_more raw w h l = l

pub narrow_widths : {ts : List Step} → Slim 15 ts → (ss : List ℤ) → Narrow (srl_widths ts ss)
unfolding srl_widths
narrow_widths Slim.none ss = Narrow.none
narrow_widths (slim h l) [] = Narrow.none
narrow_widths (slim {t = t} h l) (s ∷ ss) = narrow_more (source t s) t.width h (narrow_widths l ss)

raw_more : (o : Source) (w : ℕ) (ws : List ℕ) (n k m : ℕ) → w ≤ m → ((n : ℕ) → count_after ws n ≤ n + k) → count_after (raw_width o w ws) n ≤ n + (m + k)
unfolding count_after
raw_more skipped w ws n k m h l = omega (arith, l n)
raw_more srl w ws n k m h l = omega (arith, l n)
raw_more raw w ws n k m h l = omega (arith, l (n + w))

-- a place takes at most m raw bits
pub raw_near : {m : ℕ} {ts : List Step} → Slim m ts → (ss : List ℤ) (n : ℕ) → count_after (raw_widths ts ss) n ≤ n + length ts * m
unfolding raw_widths count_after
raw_near Slim.none ss n = omega arith
raw_near (slim h l) [] n = omega arith
raw_near {m} (slim {t = t} {ts = ts} h l) (s ∷ ss) n = omega (arith, raw_more (source t s) t.width (raw_widths ts ss) n (length ts * m) m h (raw_near l ss))

pub few_values : (e : Bool) (prev curr : List ℕ) (ss : List ℤ) → length (srl_widths (steps e prev curr) ss) ≤ 4032
few_values e prev curr ss = omega (arith, few_srl_values_lem.most e prev curr ss, by e)
  where
    by : (e : Bool) → most_srl_values e ≤ 4032
    by true = omega arith
    by Bool.false = omega arith

-- how far the readers of a pass can come
pub srl_far : (e : Bool) (prev curr srl_data : List ℕ) (ss : List ℤ) → row_in_domain prev ≡ true
    → (reader_after srl_data (srl_widths (steps e prev curr) ss) start).read ≤ 8 * length srl_data + 32790
srl_far e prev curr srl_data ss h =
    most_pass srl_data (srl_widths (steps e prev curr) ss) start (narrow_widths (slim_steps e prev curr h) ss) (omega arith) (omega arith) (few_values e prev curr ss)

pub raw_far : (e : Bool) (prev curr : List ℕ) (ss : List ℤ) → row_in_domain prev ≡ true → count_after (raw_widths (steps e prev curr) ss) 0 ≤ 61440
raw_far e prev curr ss h = omega (arith, raw_near (slim_steps e prev curr h) ss 0, place_whole e (step_of prev curr))

-- so many bits a pass can miss
pub srl_most : (e : Bool) (prev curr srl_data : List ℕ) (ss : List ℤ) → row_in_domain prev ≡ true → srl_missing (steps e prev curr) srl_data ss ≤ 32790
srl_most e prev curr srl_data ss h = omega (arith, srl_missing_lem (steps e prev curr) srl_data ss, srl_far e prev curr srl_data ss h)

pub raw_most : (e : Bool) (prev curr raw_data : List ℕ) (ss : List ℤ) → row_in_domain prev ≡ true → raw_missing (steps e prev curr) raw_data ss ≤ 61440
raw_most e prev curr raw_data ss h = omega (arith, raw_missing_lem (steps e prev curr) raw_data ss, raw_far e prev curr ss h)
