-- From two streams with the same bits the decoder reads the same values, and comes to the same place.
use mathlib.Core.Path.{◌≡◌, refl, ap, ap₂, ◌∙◌}
use mathlib.Core.Bool.{Bool, true, false, cond}
use mathlib.Core.List.{List, [], ◌∷◌}
use Prim.Native.Nat.{ℕ, zero, suc, ◌+◌, ◌-◌, ◌/◌, ◌^◌, min}
use lib.IntN.{ℤ}
use Rattle.fixed.specs.Fixed.{with_sign}
use Rattle.bits.proofs.Longer.{SameBits, num_same, zeros_same, zeros_length_same}
use Rattle.srl_decoder.specs.Srl.{Reader, reader, most_zeros, code_word, ready, value, past, readied, next_value, next_reader, values, reader_after}
use Rattle.srl_decoder.specs.Decode.{due, due_among}

module _ (s t : List ℕ) (same : SameBits s t) where
  code_same : (n kp : ℕ) → code_word s n kp ≡ code_word t n kp
  code_same n kp =
      ap₂ (λ (b : Bool) (z : ℕ). cond b (reader (n + 1 + kp / 8) (kp - 6) z true) (reader (n + 1) (min (kp + 4) 80) (2 ^ (kp / 8)) false)) (same n)
      (num_same s t same (n + 1) (kp / 8))

  ready_same : (n kp run : ℕ) (pending : Bool) → ready s n kp run pending ≡ ready t n kp run pending
  ready_same n kp (suc run) pending = refl
  ready_same n kp zero true = refl
  ready_same n kp zero false = code_same n kp

  -- what a ready reader gives, and the reader after it
  give_same : (w n kp run : ℕ) (pending : Bool) → (value s w n run ≡ value t w n run) × (past s w n kp run pending ≡ past t w n kp run pending)
  give_same w n kp (suc run) pending = (refl, refl)
  give_same w n kp zero pending = (
    ap₂ (λ (b : Bool) (z : ℕ). with_sign b (z + 1)) (same n) (zeros_same s t same (n + 1) (most_zeros w)),
    ap (λ (l : ℕ). reader (n + 1 + l) kp zero false) (zeros_length_same s t same (n + 1) (most_zeros w)),
  )

  next_same : (w : ℕ) (r : Reader) → (next_value s w r ≡ next_value t w r) × (next_reader s w r ≡ next_reader t w r)
  next_same w r =
      let e : readied s r ≡ readied t r = ready_same r.read r.kp r.run r.pending in
      let q = readied t r in
      let g = give_same w q.read q.kp q.run q.pending in
      (ap (λ (p : Reader). value s w p.read p.run) e ∙ g.0, ap (λ (p : Reader). past s w p.read p.kp p.run p.pending) e ∙ g.1)

  -- the values, and the reader after them
  pub values_same : (ws : List ℕ) (r : Reader) → (values s ws r ≡ values t ws r) × (reader_after s ws r ≡ reader_after t ws r)
  unfolding values reader_after
  values_same [] r = (refl, refl)
  values_same (w ∷ ws) r =
      let n = next_same w r in
      let i = values_same ws (next_reader t w r) in
      (ap₂ (λ (v : ℤ) (q : Reader). v ∷ values s ws q) n.0 n.1 ∙ ap (λ (vs : List ℤ). next_value t w r ∷ vs) i.0, ap (reader_after s ws) n.1 ∙ i.1)

  -- and whether a nonzero value is due among them
  pub due_same : (r : Reader) (n : ℕ) → due_among s r n ≡ due_among t r n
  due_same r zero = refl
  due_same r (suc n) =
      ap₂ (λ (q p : Reader). cond (due q.run) true (due_among s p n)) (ready_same r.read r.kp r.run r.pending) (next_same 0 r).1
      ∙ ap (λ (b : Bool). cond (due (readied t r).run) true b) (due_same (next_reader t 0 r) n)
