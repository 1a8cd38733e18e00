-- The bits that the decoder reads for some values are those between its two places, each once: how many of them are missing, in closed form.
use mathlib.Core.Path.{◌≡◌, refl, sym, ap, ap₂, ◌∙◌}
use mathlib.Core.Bool.{Bool, true, false, cond}
use mathlib.Core.List.{List, [], ◌∷◌, ◌++◌}
use Prim.Native.Nat.{ℕ, zero, suc, ◌+◌, ◌-◌, ◌*◌, ◌/◌, ◌^◌, ◌≤◌, min}
use native.Mathlib.Numerals.{add-one}
use native.Mathlib.Omega.{arith}
use lib.ListN.{length, replicate}
use Rattle.bits.specs.Bits.{bit_at, num, zeros_length}
use Rattle.bits.specs.Missing.{BitRead, read_bit, read_num, missing_in, InStream}
use Rattle.bits.proofs.Past.{alike_on}
use Rattle.bits.proofs.Missing.{missing_append, missing_num, none_missing, num_join, zeros_read, read_alike, num_read_alike, zeros_read_alike}
use Rattle.srl_decoder.specs.Srl.{Reader, reader, most_zeros, behind, code_word, ready, past, readied, next_reader, reader_after}
use Rattle.srl_decoder.specs.Missing.{read_code_word, read_ready, read_value, read_next, read_values, values_missing}
use Rattle.srl_decoder.specs.Decode.{due_among}
use Rattle.srl_decoder.proofs.Codes.{ready_mono}
use Rattle.srl_decoder.proofs.States.{past_mono, after_mono}
use Rattle.srl_decoder.proofs.Due.{width_free}
use Rattle.srl_decoder.proofs.Values.{AlikeReader, alike, ready_alike, next_alike}

-- ════ what is read, by where it begins and ends ════

module _ (s : List ℕ) where
  -- a bit, and those behind it
  first_read : (n k m : ℕ) → n + 1 + k ≡ m → ◌≡◌ {A = List BitRead} (read_bit s n ∷ read_num s (n + 1) k) (read_num s n (m - n))
  unfolding read_num
  first_read n k m e =
      let f : suc k ≡ m - n = omega arith in
      ap (λ (i : ℕ). read_bit s n ∷ read_num s i k) (add-one n) ∙ ap (read_num s n) f

  code_read : (n kp : ℕ) → read_code_word s n kp ≡ read_num s n ((code_word s n kp).read - n)
  unfolding read_num
  code_read n kp = by (bit_at s n)
    where
      by : (b : Bool) → (read_bit s n ∷ cond b (read_num s (n + 1) (kp / 8)) [])
          ≡ read_num s n ((cond b (reader (n + 1 + kp / 8) (kp - 6) (num s (n + 1) (kp / 8)) true) (reader (n + 1) (min (kp + 4) 80) (2 ^ (kp / 8)) false)).read - n)
      by true = first_read n (kp / 8) (n + 1 + kp / 8) refl
      by false = first_read n 0 (n + 1) (omega arith)

  none_read : (n : ℕ) → [] ≡ read_num s n (n - n)
  unfolding read_num
  none_read n = let e : 0 ≡ n - n = omega arith in ap (read_num s n) e

  ready_read : (n kp run : ℕ) (pending : Bool) → read_ready s n kp run pending ≡ read_num s n ((ready s n kp run pending).read - n)
  ready_read n kp (suc run) pending = none_read n
  ready_read n kp zero true = none_read n
  ready_read n kp zero false = code_read n kp

  value_read : (w n kp run : ℕ) (pending : Bool) → read_value s w n run ≡ read_num s n ((past s w n kp run pending).read - n)
  value_read w n kp (suc run) pending = none_read n
  value_read w n kp zero pending =
      ap (λ (l : List BitRead). read_bit s n ∷ l) (zeros_read s (n + 1) (most_zeros w)) ∙ first_read n (zeros_length s (n + 1) (most_zeros w)) (behind s n w) refl

  next_read : (w : ℕ) (r : Reader) → read_next s w r ≡ read_num s r.read ((next_reader s w r).read - r.read)
  next_read w r =
      let q = readied s r in
      ap₂ (λ (a b : List BitRead). a ++ b) (ready_read r.read r.kp r.run r.pending) (value_read w q.read q.kp q.run q.pending)
      ∙ num_join s r.read q.read (next_reader s w r).read (ready_mono s r.read r.kp r.run r.pending) (past_mono s w q)

  -- a reader does not go back over a value
  pub next_mono : (w : ℕ) (r : Reader) → r.read ≤ (next_reader s w r).read
  next_mono w r = omega (arith, ready_mono s r.read r.kp r.run r.pending, past_mono s w (readied s r))

  -- the bits that are read for some values are those from the reader's place on up to the place after them
  pub values_read : (ws : List ℕ) (r : Reader) → read_values s ws r ≡ read_num s r.read ((reader_after s ws r).read - r.read)
  unfolding read_values reader_after
  values_read [] r = none_read r.read
  values_read (w ∷ ws) r =
      let q = next_reader s w r in
      ap₂ (λ (a b : List BitRead). a ++ b) (next_read w r) (values_read ws q)
      ∙ num_join s r.read q.read (reader_after s ws q).read (next_mono w r) (after_mono s ws q)

  -- ════ how many are missing ════

  -- the bits read, less those that were there
  pub values_missing_lem : (ws : List ℕ) (r : Reader) → values_missing s ws r ≡ (reader_after s ws r).read - r.read - (8 * length s - r.read)
  values_missing_lem ws r = ap missing_in (values_read ws r) ∙ missing_num s r.read ((reader_after s ws r).read - r.read)

  -- from a place in the stream: how far past the end the reader has come
  pub missing_past : (ws : List ℕ) (r : Reader) → r.read ≤ 8 * length s → values_missing s ws r ≡ (reader_after s ws r).read - 8 * length s
  missing_past ws r h = omega (arith, values_missing_lem ws r, after_mono s ws r)

  -- none is missing if and only if every bit between the two places lies in the stream
  pub values_ended : (ws : List ℕ) (r : Reader)
      → (values_missing s ws r ≡ 0 → InStream s r.read (reader_after s ws r).read) × (InStream s r.read (reader_after s ws r).read → values_missing s ws r ≡ 0)
  values_ended ws r = none_missing s r.read (reader_after s ws r).read (after_mono s ws r) (ap missing_in (values_read ws r))

  -- some values and then others: both together
  pub missing_in_a_row : (us ws : List ℕ) (r : Reader) → values_missing s (us ++ ws) r ≡ values_missing s us r + values_missing s ws (reader_after s us r)
  unfolding read_values reader_after missing_in
  missing_in_a_row [] ws r = omega arith
  missing_in_a_row (u ∷ us) ws r =
      let q = next_reader s u r in
      omega (arith, missing_append (read_next s u r) (read_values s (us ++ ws) q), missing_append (read_next s u r) (read_values s us q), missing_in_a_row us ws q)

  -- ════ the same bits ════

  -- readers that read on alike read the same bits
  give_read_alike : (w : ℕ) {r q : Reader} → AlikeReader s r q → read_value s w r.read r.run ≡ read_value s w q.read q.run
  give_read_alike w (alike {run = suc z} a) = refl
  give_read_alike w (alike {run = zero} a) = ap₂ (λ (b : BitRead) (l : List BitRead). b ∷ l) (read_alike s a) (zeros_read_alike s (most_zeros w) (alike_on s 1 a))

  ready_read_alike : {r q : Reader} → AlikeReader s r q → read_ready s r.read r.kp r.run r.pending ≡ read_ready s q.read q.kp q.run q.pending
  ready_read_alike (alike {run = suc z} a) = refl
  ready_read_alike (alike {run = zero} {pending = true} a) = refl
  ready_read_alike (alike {kp = kp} {run = zero} {pending = false} a) =
      ap₂ (λ (b : BitRead) (l : List BitRead). b ∷ cond b.bit l []) (read_alike s a) (num_read_alike s (kp / 8) (alike_on s 1 a))

  pub values_read_alike : (ws : List ℕ) {r q : Reader} → AlikeReader s r q → read_values s ws r ≡ read_values s ws q
  unfolding read_values
  values_read_alike [] a = refl
  values_read_alike (w ∷ ws) a =
      ap₂ (λ (x y : List BitRead). x ++ y) (ap₂ (λ (x y : List BitRead). x ++ y) (ready_read_alike a) (give_read_alike w (ready_alike s a)))
      (values_read_alike ws (next_alike s w a).1)

  -- where no nonzero value is due, the bits are the same at every width
  pub width_free_read : (v w : ℕ) (r : Reader) (n : ℕ) → due_among s r n ≡ false → read_values s (replicate n v) r ≡ read_values s (replicate n w) r
  width_free_read v w r n h =
      values_read (replicate n v) r
      ∙ ap (λ (q : Reader). read_num s r.read (q.read - r.read)) (width_free s v w r n h).1
      ∙ sym (values_read (replicate n w) r)
