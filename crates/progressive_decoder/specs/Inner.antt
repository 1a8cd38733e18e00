-- For inner functions only: a pass as one walk over the places, with both streams' readers. It gives what `Upgrade` says
-- (proofs/Walks.antt), where all SRL values are read before the first raw bit: the two streams do not touch each other.
use Rattle.std.specs.Prelude.{◌≡◌, Bool, true, false, not, List, [], ◌∷◌, ℕ, ◌+◌, ◌-◌, ◌*◌, ◌≤◌, ◌<◌, ℤ, pos, negsuc, length, get_or, set, take, replicate}
use Rattle.places.specs.Inner.{places_of}
use Rattle.bits.specs.Bits.{num, bits_read}
use Rattle.srl_decoder.specs.Srl.{Reader, start, next_value, next_reader, reader_after}
use Rattle.srl_decoder.specs.Decode.{opened}
use Rattle.upgrade_steps.specs.Steps.{Step, Source, skipped, srl, raw, source, srl_widths, raw_widths}
use Rattle.upgrade_steps.specs.Inner.{from_srl}
use Rattle.progressive_decoder.specs.Upgrade.{srl_coefficient, srl_sign, adds, raw_coefficient, upgraded_coefficients, upgraded_signs, pass_missing}
use Rattle.progressive_decoder.specs.declared.upgrade.Readers.{Readers}
use Rattle.progressive_decoder.specs.declared.MissingBits.{MissingBits}

-- the coefficients and signs, and both readers: the SRL reader and the count of raw bits read
pub record Walked : Type 0 where
  pub coefficients : List ℤ
  pub sign : List ℤ
  pub srl : Reader
  pub raw : ℕ

-- by its four parts
abbrev pub walked : List ℤ → List ℤ → Reader → ℕ → Walked
walked cs ss r n = record { coefficients = cs; sign = ss; srl = r; raw = n }

-- ════ one place ════

module _ (srl_data raw_data : List ℕ) (t : Step) where
  -- the coefficient after the step, by where its value comes from
  abbrev pub coefficient_at : Source → ℤ → ℤ → Reader → ℕ → ℤ
  coefficient_at skipped c s r n = c
  coefficient_at srl c s r n = srl_coefficient t.position (next_value srl_data t.width r) c
  coefficient_at raw c s r n = raw_coefficient (adds t s) t.position (num raw_data n t.width) c

  -- the sign
  abbrev pub sign_at : Source → ℤ → Reader → ℤ
  sign_at skipped s r = s
  sign_at srl s r = srl_sign (next_value srl_data t.width r) s
  sign_at raw s r = s

  -- the SRL reader
  abbrev pub reader_at : Source → Reader → Reader
  reader_at skipped r = r
  reader_at srl r = next_reader srl_data t.width r
  reader_at raw r = r

  -- the count of raw bits read
  abbrev pub count_at : Source → ℕ → ℕ
  count_at skipped n = n
  count_at srl n = n
  count_at raw n = n + t.width

-- ════ all places ════

-- a place before the others
abbrev pub onto : ℤ → ℤ → Walked → Walked
onto c s w = walked (c ∷ w.coefficients) (s ∷ w.sign) w.srl w.raw

-- one step after another; what a list has past the steps stays
unfoldable pub walk : List ℕ → List ℕ → List Step → List ℤ → List ℤ → Reader → ℕ → Walked
walk srl_data raw_data [] cs ss r n = walked cs ss r n
walk srl_data raw_data (t ∷ ts) [] ss r n = walked [] ss r n
walk srl_data raw_data (t ∷ ts) (c ∷ cs) [] r n = walked (c ∷ cs) [] r n
walk srl_data raw_data (t ∷ ts) (c ∷ cs) (s ∷ ss) r n =
    onto (coefficient_at srl_data raw_data t (source t s) c s r n) (sign_at srl_data raw_data t (source t s) s r)
    (walk srl_data raw_data ts cs ss (reader_at srl_data raw_data t (source t s) r) (count_at srl_data raw_data t (source t s) n))

-- ════ what the inner functions ask and promise ════

-- a walk's slices and readers once the place i, whose value comes from o, has had its step
abbrev pub stepped_from : Source → List ℕ → List ℕ → Step → ℕ → Walked → Walked
stepped_from o srl_data raw_data t i w =
    walked
    (set w.coefficients i (coefficient_at srl_data raw_data t o (get_or w.coefficients i (pos 0)) (get_or w.sign i (pos 0)) w.srl w.raw))
    (set w.sign i (sign_at srl_data raw_data t o (get_or w.sign i (pos 0)) w.srl))
    (reader_at srl_data raw_data t o w.srl)
    (count_at srl_data raw_data t o w.raw)

-- ════ a band by two lists of its places ════

-- the places that have an SRL value, and the others, in a band that is not skipped
abbrev pub srl_places : Step → List ℤ → List ℕ
srl_places t ss = places_of (from_srl t) ss

abbrev pub raw_places : Step → List ℤ → List ℕ
raw_places t ss = places_of (λ s. not (from_srl t s)) ss

-- the first i places, n of them with an SRL value, stand in two lists
pub record Split (t : Step) (ss : List ℤ) (i n : ℕ) (zeros others : List ℕ) : Type 0 where
  pub few : n ≤ i
  pub srl : take n zeros ≡ srl_places t (take i ss)
  pub raw : take (i - n) others ≡ raw_places t (take i ss)

-- a walk's slices and readers once the places of a list, whose values come from o, have had their step, one after another
unfoldable pub over : Source → List ℕ → List ℕ → Step → List ℕ → Walked → Walked
over o srl_data raw_data t [] w = w
over o srl_data raw_data t (i ∷ is) w = over o srl_data raw_data t is (stepped_from o srl_data raw_data t i w)

-- the numbers of a list are places of a slice
abbrev pub PlacesWithin : List ℕ → ℕ → Type 0
PlacesWithin list len = (j : ℕ) → j < length list → get_or list j 0 < len

-- the sign that a nonzero value sets
abbrev pub sign_by : Bool → ℤ
sign_by true = negsuc 0
sign_by false = pos 1

-- the slices and the readers of the code, as a walk gives them
abbrev pub walked_by : List ℤ → List ℤ → Readers → Walked
walked_by cs ss r = walked cs ss (opened r.srl) r.raw

-- the readers can go on, with at most m bits read of each stream
pub record Early (r : Readers) (m : ℕ) : Type 0 where
  pub place : r.srl.reader.bit_idx ≤ 7
  pub kp : r.srl.kp ≤ 80
  pub srl_read_lem : bits_read r.srl.reader ≤ m
  pub raw_read : r.raw ≤ m

-- a band's places have had their step, all of them the same; the readers have gone on by at most 40,000 bits a place
abbrev pub BandWalked : List ℕ → List ℕ → Step → List ℤ → List ℤ → Readers → List ℤ → List ℤ → Readers → Type 0
BandWalked srl_data raw_data t cs ss from cs' ss' r =
    (walk srl_data raw_data (replicate (length cs) t) cs ss (opened from.srl) from.raw ≡ walked_by cs' ss' r)
    × ((m : ℕ) → Early from m → Early r (m + 40000 * length cs))

-- ════ where the readers end ════

-- the count of raw bits read, once numbers of these widths have been read
unfoldable pub count_after : List ℕ → ℕ → ℕ
count_after [] n = n
count_after (w ∷ ws) n = count_after ws (n + w)

-- the readers stand behind the last value and the last raw bits of a pass
pub record Ended (ts : List Step) (srl_data : List ℕ) (ss : List ℤ) (r : Readers) : Type 0 where
  pub srl : opened r.srl ≡ reader_after srl_data (srl_widths ts ss) start
  pub raw : r.raw ≡ count_after (raw_widths ts ss) 0
  pub place : r.srl.reader.bit_idx ≤ 7

-- what a pass over all places fixes, with where its readers end
pub record Upgrades (ts : List Step) (srl_data raw_data : List ℕ) (cs ss cs' ss' : List ℤ) (r : Readers) : Type 0 where
  pub coefficients : cs' ≡ upgraded_coefficients ts srl_data raw_data cs ss
  pub sign : ss' ≡ upgraded_signs ts srl_data ss
  pub ends : Ended ts srl_data ss r

-- and with the bits that were missing
pub record UpgradesAll (ts : List Step) (srl_data raw_data : List ℕ) (cs ss cs' ss' : List ℤ) (r : MissingBits) : Type 0 where
  pub coefficients : cs' ≡ upgraded_coefficients ts srl_data raw_data cs ss
  pub sign : ss' ≡ upgraded_signs ts srl_data ss
  pub missing : r ≡ pass_missing ts srl_data raw_data ss
