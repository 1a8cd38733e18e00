-- The loop that counts zeros before a 1, and gives up where the bytes are spent: known streams, and the loop in closed form.
use mathlib.Core.Path.{◌≡◌, refl, sym, ap, ◌∙◌}
use mathlib.Core.Bool.{Bool, true, false, cond}
use mathlib.Core.List.{List, [], ◌∷◌, map}
use Prim.Native.Nat.{ℕ, zero, suc, ◌+◌, ◌-◌, ◌*◌, ◌≤◌, ◌<◌, min}
use native.Mathlib.Omega.{arith}
use borrow.Author.Tests.{leb-true, leb-false}
use lib.ListN.{length}
use Rattle.bits.specs.Bits.{bit_at, zeros, zeros_length}
use Rattle.bits.specs.Missing.{read_bit, read_zeros, missing_in}
use Rattle.bits.specs.Turns.{still_held, Counted, given_up, stopped, gone_on, count_zeros, word_turns}
use Rattle.bits.specs.Inner.{CountsZeros}
use Rattle.bits.specs.declared.reader.ZerosCounted.{ZerosCounted}
use Rattle.bits.proofs.Ones.{zeros_past, zeros_step, length_all, length_one, length_go}
use Rattle.bits.proofs.Missing.{missing_zeros}

-- ════ known streams, by `refl` ════

-- no bit asked for, as at width 1; a 1 at once; a 1 in the last bit; a limit in the last bit; one behind it; no bytes; a place past the end
turns_hold : map (λ c. c.turns) (count_zeros (1 ∷ []) 7 0 ∷ count_zeros (1 ∷ []) 7 9 ∷ count_zeros (1 ∷ []) 4 9 ∷ count_zeros (0 ∷ []) 4 4 ∷ count_zeros (0 ∷ []) 4 5 ∷ count_zeros [] 0 2 ∷ count_zeros (255 ∷ []) 75 9 ∷ [])
    ≡ 0 ∷ 1 ∷ 4 ∷ 4 ∷ 5 ∷ 1 ∷ 1 ∷ []
unfolding count_zeros
turns_hold = refl

-- at width 15, behind the sign bit of the value in the byte 80 (hexadecimal): 5 bits are left, so 6 turns
spent_hold : count_zeros (128 ∷ []) 3 32766 ≡ record { zeros = 32766; taken = 32766; missing = 32761; turns = 6 }
unfolding count_zeros
spent_hold = refl

-- ════ in closed form ════

-- zeros, bits and missing bits of the count without an end at the last byte; and as many turns as bits, or as bits still held and once more
abbrev pub at_once : List ℕ → ℕ → ℕ → Counted
at_once s n l =
    record {
      zeros = zeros s n l;
      taken = zeros_length s n l;
      missing = missing_in (read_zeros s n l);
      turns = min (zeros_length s n l) (still_held s n + 1);
    }

parts : {c d : Counted} → c.zeros ≡ d.zeros → c.taken ≡ d.taken → c.missing ≡ d.missing → c.turns ≡ d.turns → c ≡ d
parts p q r t = λ i. record { zeros = p i; taken = q i; missing = r i; turns = t i }

-- the loop is that
pub count_is : (s : List ℕ) (n l : ℕ) → count_zeros s n l ≡ at_once s n l
unfolding count_zeros zeros
count_is s n zero = parts refl refl (omega (arith, missing_zeros s n 0)) (omega arith)
count_is s n (suc l) = by (read_bit s n).missing refl (bit_at s n) refl (count_is s (suc n) l)
  where
    missing : missing_in (read_zeros s n (suc l)) ≡ zeros_length s n (suc l) - still_held s n
    missing = missing_zeros s n (suc l)

    up : 8 * length s ≤ n → given_up (suc l) ≡ at_once s n (suc l)
    up h =
        let z = zeros_past s n (suc l) h in
        let t = length_all s n (suc l) z in
        parts (sym z) (sym t) (omega (arith, missing, t)) (omega (arith, t))

    one : n < 8 * length s → bit_at s n ≡ true → stopped ≡ at_once s n (suc l)
    one h e =
        let t = length_one s n l e in
        parts (sym (zeros_step s n l true e)) (sym t) (omega (arith, missing, t)) (omega (arith, t))

    on : n < 8 * length s → bit_at s n ≡ false → gone_on (at_once s (suc n) l) ≡ at_once s n (suc l)
    on h e =
        let t = length_go s n l e in
        parts (sym (zeros_step s n l false e)) (sym t) (omega (arith, missing, missing_zeros s (suc n) l, t)) (omega (arith, t))

    by : (m : Bool) → (read_bit s n).missing ≡ m → (b : Bool) → bit_at s n ≡ b → count_zeros s (suc n) l ≡ at_once s (suc n) l
        → cond m (given_up (suc l)) (cond b stopped (gone_on (count_zeros s (suc n) l))) ≡ at_once s n (suc l)
    by true g b e ih = up (leb-true (8 * length s) n g)
    by false g true e ih = one (leb-false (8 * length s) n g) e
    by false g false e ih = ap gone_on ih ∙ on (leb-false (8 * length s) n g) e

-- the code's loop, which takes up to 56 bits in a turn, has no more turns
pub words_fewer : (s : List ℕ) (n l : ℕ) → word_turns s n l ≤ (count_zeros s n l).turns
words_fewer s n l = omega (arith, ap (λ (c : Counted). c.turns) (count_is s n l))

-- what fixes the code's turns bounds them
pub counts : (s : List ℕ) (n l : ℕ) (r : ZerosCounted) → r.zeros ≡ zeros s n l → r.turns ≡ word_turns s n l → CountsZeros s n l r
counts s n l r z t = record { count = z; turns = t; spent = omega (arith, t) }
