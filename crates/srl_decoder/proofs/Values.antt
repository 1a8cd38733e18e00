-- Values one after another: the reader between them, and the reader as the decoder's state.
use mathlib.Core.Path.{◌≡◌, refl, ap, ap₂}
use mathlib.Core.Bool.{Bool, true, false, cond}
use mathlib.Core.List.{List, [], ◌∷◌, ◌++◌}
use Prim.Native.Nat.{ℕ, zero, suc, ◌+◌, ◌-◌, ◌/◌, ◌^◌, min}
use lib.Dec.{ltb}
use lib.IntN.{ℤ}
use lib.ListN.{length}
use Rattle.fixed.specs.Fixed.{with_sign}
use Rattle.bits.specs.Bits.{bit_at, num, zeros, place_of}
use Rattle.bits.proofs.Places.{read_place}
use Rattle.bits.proofs.Past.{Alike, alike_held, alike_trans, alike_on, held_alike, bit_alike, num_alike, zeros_alike}
use Rattle.srl_decoder.specs.Srl.{Reader, reader, most_zeros, code_word, value, past, readied, next_value, next_reader, values, reader_after}
use Rattle.srl_decoder.specs.Decode.{opened, closed}
use Rattle.srl_decoder.specs.declared.SrlState.{SrlState}
use Rattle.srl_decoder.specs.Inner.{shut, held_reader}

-- ════ readers and states ════

-- a reader is the one of the state that it is
pub opened_shut : (r : Reader) → opened (shut r) ≡ r
opened_shut r = ap (λ (n : ℕ). reader n r.kp r.run r.pending) (read_place r.read)

-- ════ past the end ════

-- readers that differ in a count past the end
pub data AlikeReader (s : List ℕ) : Reader → Reader → Type 0 where
  alike : {m n : ℕ} {kp run : ℕ} {pending : Bool} → Alike s m n → AlikeReader s (reader m kp run pending) (reader n kp run pending)

-- a reader held at the end reads on as before
pub reader_held : (s : List ℕ) (r : Reader) → AlikeReader s (held_reader s r) r
reader_held s r = alike (alike_held s r.read)

-- readers that read on alike are the same state for a caller
pub closed_alike : (s : List ℕ) (st : SrlState) {r q : Reader} → AlikeReader s r q → closed s st r ≡ closed s st q
closed_alike s st (alike {kp = kp} {run = run} {pending = pending} a) =
    ap (λ (n : ℕ). record { reader = cond (ltb st.reader.byte_idx (length s)) (place_of n) st.reader; kp = kp; zero_run_remaining = run; nonzero_pending = pending }) (held_alike s a)

-- readers that read on like a third read on alike
pub reader_trans : (s : List ℕ) {p q r : Reader} → AlikeReader s p q → AlikeReader s q r → AlikeReader s p r
reader_trans s (alike a) (alike b) = alike (alike_trans s a b)

code_alike : (s : List ℕ) {m n : ℕ} (kp : ℕ) → Alike s m n → AlikeReader s (code_word s m kp) (code_word s n kp)
code_alike s {m} {n} kp a = rw (← bit_alike s a, ← num_alike s (kp / 8) (alike_on s 1 a)) (by (bit_at s m) (num s (m + 1) (kp / 8)))
  where
    by : (b : Bool) (z : ℕ)
        → AlikeReader s (cond b (reader (m + 1 + kp / 8) (kp - 6) z true) (reader (m + 1) (min (kp + 4) 80) (2 ^ (kp / 8)) false))
        (cond b (reader (n + 1 + kp / 8) (kp - 6) z true) (reader (n + 1) (min (kp + 4) 80) (2 ^ (kp / 8)) false))
    by true z = alike (alike_on s (kp / 8) (alike_on s 1 a))
    by false z = alike (alike_on s 1 a)

-- once they are ready
pub ready_alike : (s : List ℕ) {r q : Reader} → AlikeReader s r q → AlikeReader s (readied s r) (readied s q)
ready_alike s (alike {run = suc z} {pending = pending} a) = alike a
ready_alike s (alike {run = zero} {pending = true} a) = alike a
ready_alike s (alike {kp = kp} {run = zero} {pending = false} a) = code_alike s kp a

-- what a ready reader gives, and the reader after it
abbrev gives : List ℕ → ℕ → Reader → ℤ
gives s w r = value s w r.read r.run

abbrev given : List ℕ → ℕ → Reader → Reader
given s w r = past s w r.read r.kp r.run r.pending

give_alike : (s : List ℕ) (w : ℕ) {r q : Reader} → AlikeReader s r q → (gives s w r ≡ gives s w q) × AlikeReader s (given s w r) (given s w q)
give_alike s w (alike {run = suc z} a) = (refl, alike a)
give_alike s w (alike {m = m} {n = n} {kp = kp} {run = zero} a) =
    let z = zeros_alike s (most_zeros w) (alike_on s 1 a) in (
      ap₂ (λ (b : Bool) (x : ℕ). with_sign b (x + 1)) (bit_alike s a) z,
      rw (← z) (alike (alike_on s (cond (ltb (zeros s (m + 1) (most_zeros w)) (most_zeros w)) (zeros s (m + 1) (most_zeros w) + 1) (most_zeros w)) (alike_on s 1 a))),
    )

-- readers that read on alike give the same next value, and read on alike behind it
pub next_alike : (s : List ℕ) (w : ℕ) {r q : Reader} → AlikeReader s r q → (next_value s w r ≡ next_value s w q) × AlikeReader s (next_reader s w r) (next_reader s w q)
next_alike s w a = give_alike s w (ready_alike s a)

-- readers that read on alike give the same values, and read on alike behind them
pub values_alike : (s ws : List ℕ) {r q : Reader} → AlikeReader s r q → (values s ws r ≡ values s ws q) × AlikeReader s (reader_after s ws r) (reader_after s ws q)
unfolding values reader_after
values_alike s [] a = (refl, a)
values_alike s (w ∷ ws) a =
    let n = next_alike s w a in
    let i = values_alike s ws n.1 in
    (ap₂ (λ (v : ℤ) (vs : List ℤ). v ∷ vs) n.0 i.0, i.1)

-- ════ values of two lists of widths ════

-- the reader after values in a row
pub after_append : (s : List ℕ) (a b : List ℕ) (r : Reader) → reader_after s (a ++ b) r ≡ reader_after s b (reader_after s a r)
unfolding reader_after
after_append s [] b r = refl
after_append s (w ∷ a) b r = after_append s a b (next_reader s w r)

-- values in a row
pub values_append : (s : List ℕ) (a b : List ℕ) (r : Reader) → values s (a ++ b) r ≡ values s a r ++ values s b (reader_after s a r)
unfolding values reader_after
values_append s [] b r = refl
values_append s (w ∷ a) b r = ap (λ (l : List ℤ). next_value s w r ∷ l) (values_append s a b (next_reader s w r))

-- there is a value for each width
pub length_values : (s ws : List ℕ) (r : Reader) → length (values s ws r) ≡ length ws
unfolding values
length_values s [] r = refl
length_values s (w ∷ ws) r = ap suc (length_values s ws (next_reader s w r))
