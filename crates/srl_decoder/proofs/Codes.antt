-- A code word, a value from a ready reader, and the states that they leave, case by case.
use mathlib.Core.Path.{◌≡◌, refl, sym, ap₂, ◌∙◌}
use mathlib.Core.Bool.{Bool, true, false, cond}
use mathlib.Core.List.{List}
use Prim.Native.Nat.{ℕ, zero, suc, ◌+◌, ◌-◌, ◌/◌, ◌^◌, ◌≤◌, ◌<◌, min}
use native.Mathlib.Omega.{arith}
use borrow.Author.Tests.{ltb-true}
use lib.Dec.{ltb}
use lib.Pow.{pow_mono, pow_pos}
use lib.Signed.{mag}
use Rattle.fixed.specs.Fixed.{clamp_i16, with_sign}
use Rattle.fixed.proofs.Clamp.{clamp_same}
use Rattle.bits.specs.Bits.{bit_at, num, zeros, zeros_length, place_of}
use Rattle.bits.specs.declared.reader.BitReader.{BitReader}
use Rattle.bits.proofs.Numbers.{num_lt}
use Rattle.bits.proofs.Ones.{zeros_le}
use Rattle.srl_decoder.specs.Srl.{Reader, reader, most_zeros, nonzero, behind, code_word, ready, past, readied, next_reader}
use Rattle.srl_rules.specs.Inner.{Width}
use Rattle.srl_decoder.specs.Inner.{shut}
use Rattle.srl_decoder.specs.declared.SrlState.{SrlState}
use Rattle.srl_rules.proofs.Widths.{pow_low, pow_high}

-- a state by its parts
pub shut_parts : (n kp run : ℕ) (pending : Bool) {p : BitReader} {kp' run' : ℕ} → p ≡ place_of n → kp' ≡ kp → run' ≡ run
    → ◌≡◌ {A = SrlState} (record { reader = p; kp = kp'; zero_run_remaining = run'; nonzero_pending = pending }) (shut (reader n kp run pending))
shut_parts n kp run pending e f g = λ i. record { reader = e i; kp = f i; zero_run_remaining = g i; nonzero_pending = pending }

-- ---- a code word

-- a code word 0: 2^k zeros, and kp rises
pub code_zero : (s : List ℕ) (n kp : ℕ) → bit_at s n ≡ false → code_word s n kp ≡ reader (n + 1) (min (kp + 4) 80) (2 ^ (kp / 8)) false
code_zero s n kp e = simp e

-- a code word that begins with a 1: as many zeros as its k bits say, then a nonzero value, and kp falls
pub code_one : (s : List ℕ) (n kp : ℕ) → bit_at s n ≡ true → code_word s n kp ≡ reader (n + 1 + kp / 8) (kp - 6) (num s (n + 1) (kp / 8)) true
code_one s n kp e = simp e

-- where zeros are left no code word is read
pub ready_run : (s : List ℕ) (n kp run : ℕ) (pending : Bool) → (run ≡ 0 → ⊥) → ready s n kp run pending ≡ reader n kp run pending
ready_run s n kp zero pending h = absurd (h refl)
ready_run s n kp (suc run) pending h = refl

-- where a nonzero value is left no code word is read
pub ready_pending : (s : List ℕ) (n kp run : ℕ) → ready s n kp run true ≡ reader n kp run true
ready_pending s n kp zero = refl
ready_pending s n kp (suc run) = refl

-- a code word leaves a reader that is ready
pub code_ready : (s : List ℕ) (n kp : ℕ) → readied s (code_word s n kp) ≡ code_word s n kp
code_ready s n kp = by (bit_at s n) refl
  where
    by : (b : Bool) → bit_at s n ≡ b → readied s (code_word s n kp) ≡ code_word s n kp
    by true e = rw (code_one s n kp e) (ready_pending s (n + 1 + kp / 8) (kp - 6) (num s (n + 1) (kp / 8)))
    by false e = rw (code_zero s n kp e) (ready_run s (n + 1) (min (kp + 4) 80) (2 ^ (kp / 8)) false (λ z. omega (arith, pow_pos (kp / 8))))

-- ---- how far a code word goes, and what it leaves

-- at most 11 bits behind bit n, and with a kp that a decoder can have
pub record Near (n : ℕ) (r : Reader) : Type 0 where
  pub read_near : r.read ≤ n + 11
  pub kp_low : r.kp ≤ 80

-- a code word takes at most 11 bits and leaves a kp that a decoder can have
pub code_near : (s : List ℕ) (n kp : ℕ) → kp ≤ 80 → Near n (code_word s n kp)
code_near s n kp h = by (bit_at s n)
  where
    by : (b : Bool) → Near n (cond b (reader (n + 1 + kp / 8) (kp - 6) (num s (n + 1) (kp / 8)) true) (reader (n + 1) (min (kp + 4) 80) (2 ^ (kp / 8)) false))
    by true = record { read_near = omega arith; kp_low = omega arith }
    by false = record { read_near = omega arith; kp_low = omega arith }

-- it takes a bit at least
pub code_moves : (s : List ℕ) (n kp : ℕ) → n < (code_word s n kp).read
code_moves s n kp = by (bit_at s n)
  where
    by : (b : Bool) → n < (cond b (reader (n + 1 + kp / 8) (kp - 6) (num s (n + 1) (kp / 8)) true) (reader (n + 1) (min (kp + 4) 80) (2 ^ (kp / 8)) false)).read
    by true = omega arith
    by false = omega arith

-- a reader that is made ready goes at most 11 bits on
pub ready_near : (s : List ℕ) (n kp run : ℕ) (pending : Bool) → kp ≤ 80 → Near n (ready s n kp run pending)
ready_near s n kp (suc run) pending h = record { read_near = omega arith; kp_low = h }
ready_near s n kp zero true h = record { read_near = omega arith; kp_low = h }
ready_near s n kp zero false h = code_near s n kp h

-- a value leaves kp at most 80
pub past_kp : (s : List ℕ) (w : ℕ) (r : Reader) → r.kp ≤ 80 → (past s w r.read r.kp r.run r.pending).kp ≤ 80
past_kp s w r h = by r.run
  where
    by : (run : ℕ) → (past s w r.read r.kp run r.pending).kp ≤ 80
    by zero = h
    by (suc run) = h

-- zeros before a 1 take no more bits than they may be
pub length_le : (s : List ℕ) (n l : ℕ) → zeros_length s n l ≤ l
length_le s n l = by (ltb (zeros s n l) l) refl
  where
    by : (b : Bool) → ltb (zeros s n l) l ≡ b → cond b (zeros s n l + 1) l ≤ l
    by true e = omega (arith, ltb-true (zeros s n l) l e)
    by false e = omega arith

-- how far a nonzero value goes
pub behind_near : (s : List ℕ) (n w : ℕ) → behind s n w ≤ n + 1 + 2 ^ w
behind_near s n w = omega (arith, length_le s (n + 1) (most_zeros w))

past_near : (s : List ℕ) (w n kp run : ℕ) (pending : Bool) → (past s w n kp run pending).read ≤ n + 1 + 2 ^ w
past_near s w n kp zero pending = behind_near s n w
past_near s w n kp (suc run) pending = omega arith

-- how far a value goes: a code word and a nonzero value at most
pub next_near : (s : List ℕ) (w : ℕ) (r : Reader) → r.kp ≤ 80 → ((next_reader s w r).read ≤ r.read + 12 + 2 ^ w) × ((next_reader s w r).kp ≤ 80)
next_near s w r h =
    let q = readied s r in
    let near = ready_near s r.read r.kp r.run r.pending h in
    (omega (arith, past_near s w q.read q.kp q.run q.pending, near.read_near), past_kp s w q near.kp_low)

-- a reader that is made ready does not go back
pub ready_mono : (s : List ℕ) (n kp run : ℕ) (pending : Bool) → n ≤ (ready s n kp run pending).read
ready_mono s n kp (suc run) pending = omega arith
ready_mono s n kp zero true = omega arith
ready_mono s n kp zero false = omega (arith, code_moves s n kp)

-- a code word brings at most 1,024 zeros
pub code_run : (s : List ℕ) (n kp : ℕ) → kp ≤ 80 → (code_word s n kp).run ≤ 1024
code_run s n kp h = by (bit_at s n)
  where
    k : kp / 8 ≤ 10
    k = omega arith

    by : (b : Bool) → (cond b (reader (n + 1 + kp / 8) (kp - 6) (num s (n + 1) (kp / 8)) true) (reader (n + 1) (min (kp + 4) 80) (2 ^ (kp / 8)) false)).run ≤ 1024
    by true = omega (arith, num_lt s (n + 1) (kp / 8), pow_mono {i = kp / 8} {j = 10} k)
    by false = pow_mono {i = kp / 8} {j = 10} k

-- a reader that is made ready has a run of at most 1,024
pub ready_short : (s : List ℕ) (n kp run : ℕ) (pending : Bool) → kp ≤ 80 → run ≤ 1024 → (ready s n kp run pending).run ≤ 1024
ready_short s n kp (suc run) pending h g = g
ready_short s n kp zero true h g = g
ready_short s n kp zero false h g = code_run s n kp h

-- ---- a nonzero value fits sixteen bits

mag_with : (b : Bool) (m : ℕ) → m < 32768 → mag (with_sign b m) < 32768
mag_with false m h = h
mag_with true zero h = h
mag_with true (suc m) h = omega arith

-- a nonzero value has at most 32,766 zeros
pub few_zeros_lem : (s : List ℕ) (n w : ℕ) → Width w → zeros s n (most_zeros w) + 1 < 32768
few_zeros_lem s n w h = omega (arith, zeros_le s n (most_zeros w), pow_low w h, pow_high w h)

-- a nonzero value fits sixteen bits
pub nonzero_fits : (s : List ℕ) (n w : ℕ) → Width w → mag (nonzero s n w) < 32768
nonzero_fits s n w h = mag_with (bit_at s n) (zeros s (n + 1) (most_zeros w) + 1) (few_zeros_lem s (n + 1) w h)

-- a nonzero value by its sign bit and its count of zeros
pub nonzero_is : (s : List ℕ) (n w z : ℕ) (b : Bool) → Width w → bit_at s n ≡ b → z ≡ zeros s (n + 1) (most_zeros w) → clamp_i16 (with_sign b (z + 1)) ≡ nonzero s n w
nonzero_is s n w z b h e f =
    ap₂ (λ (b : Bool) (x : ℕ). clamp_i16 (with_sign b (x + 1))) (sym e) f
    ∙ sym (clamp_same (nonzero s n w) (nonzero_fits s n w h))
