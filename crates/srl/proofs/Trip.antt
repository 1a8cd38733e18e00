-- What the encoder wrote is read back, value by value: for every list of values, each with its width; and no bit behind what it wrote is read.
use mathlib.Core.Path.{◌≡◌, refl, sym, ap, ap₂, ◌∙◌, subst}
use mathlib.Core.Bool.{Bool, true, false, cond}
use mathlib.Core.List.{List, [], ◌∷◌, ◌++◌, append_assoc, append-nil}
use Prim.Native.Nat.{ℕ, zero, suc, ◌+◌, ◌-◌, ◌*◌, ◌/◌, ◌^◌, ◌≤◌, ◌<◌, min}
use native.Mathlib.Numerals.{add-one}
use native.Mathlib.Omega.{arith}
use borrow.Author.Tests.{ltb-true, ltb-false, lt-ltb, le-ltb}
use lib.Dec.{ltb}
use lib.IntN.{ℤ, pos, negsuc}
use lib.ListN.{length, take, drop, replicate, take-append-drop, length-drop, length-append, length-replicate, replicate-append-replicate}
use lib.Pow.{pow_pos}
use lib.Seq.{length-take-le, append_snoc}
use Rattle.fixed.specs.Fixed.{with_sign}
use Rattle.bits.specs.Bits.{bit_at, num, zeros, zeros_length}
use Rattle.bits.specs.Written.{bits_of, pack}
use Rattle.bits.proofs.Holds.{Holds, holds_append, zeros_one, zeros_all, num_holds, pack_holds}
use Rattle.bits.proofs.Packed.{length_pack}
use Rattle.bits.proofs.Puts.{length_bits_of}
use Rattle.srl_decoder.specs.Srl.{Reader, reader, start, most_zeros, nonzero, behind, code_word, values, reader_after}
use Rattle.srl_encoder.specs.Encode.{stop, nonzero_bits, run_bits, run_kp}
use Rattle.srl_encoder.specs.Finish.{flush, stream_bits}
use Rattle.srl.specs.Laws.{Legal, legal}
use Rattle.srl_decoder.proofs.Codes.{code_zero, code_one, code_moves, code_ready}
use Rattle.srl_decoder.proofs.Due.{from, after_from}

-- the values that are read for the widths ws from a reader on, and no bit from bit m on is read
pub record ReadBack (s ws : List ℕ) (r : Reader) (vs : List ℤ) (m : ℕ) : Type 0 where
  pub gives : values s ws r ≡ vs
  pub ends : (reader_after s ws r).read ≤ m

-- ════ a nonzero value ════

-- how many zeros there are, and how many bits they take
magnitude : (s : List ℕ) (n w m : ℕ) → m + 1 ≤ 2 ^ w - 1 → Holds s n (replicate m false ++ stop w (m + 1))
    → (zeros s n (most_zeros w) ≡ m) × (zeros_length s n (most_zeros w) ≡ length (replicate m false ++ stop w (m + 1)))
magnitude s n w m k = by (ltb (m + 1) (2 ^ w - 1)) refl
  where
    by : (b : Bool) → ltb (m + 1) (2 ^ w - 1) ≡ b → Holds s n (replicate m false ++ cond b (true ∷ []) [])
        → (zeros s n (most_zeros w) ≡ m) × (zeros_length s n (most_zeros w) ≡ length (replicate m false ++ cond b (true ∷ []) []))
    by true e h =
        let j : m + 1 < 2 ^ w - 1 = ltb-true _ _ e in
        let z = zeros_one s n m (most_zeros w) (omega arith) h in
        let l : length (replicate m false ++ (true ∷ [])) ≡ m + 1 = length-append (replicate m false) (true ∷ []) ∙ ap (λ (i : ℕ). i + 1) (length-replicate m false) in
        (z, rw z (simp (lt-ltb m (most_zeros w) (omega arith)) (sym l)))
    by false e h =
        let j : 2 ^ w - 1 ≤ m + 1 = ltb-false _ _ e in
        let q : most_zeros w ≡ m = omega arith in
        let z : zeros s n (most_zeros w) ≡ m = ap (zeros s n) q ∙ zeros_all s n m (subst (Holds s n) (append-nil (replicate m false)) h) in
        let l : length (replicate m false ++ []) ≡ m = ap length (append-nil (replicate m false)) ∙ length-replicate m false in
        (z, rw z (simp (le-ltb m (most_zeros w) (omega arith)) (q ∙ sym l)))

-- the bits of a nonzero value, and what is read behind them
nonzero_reads : (s : List ℕ) (n kp w m : ℕ) (b : Bool) → m + 1 ≤ 2 ^ w - 1 → Holds s n (nonzero_bits w b m) → (ws : List ℕ) (vs : List ℤ) (end : ℕ)
    → ReadBack s ws (reader (n + length (nonzero_bits w b m)) kp 0 false) vs end → ReadBack s (w ∷ ws) (reader n kp 0 true) (with_sign b (m + 1) ∷ vs) end
unfolding values reader_after
nonzero_reads s n kp w m b k h ws vs end q =
    let r = magnitude s (n + 1) w m k (subst (λ (i : ℕ). Holds s i (replicate m false ++ stop w (m + 1))) (sym (add-one n)) h.1) in
    let v : nonzero s n w ≡ with_sign b (m + 1) = ap₂ (λ (b : Bool) (z : ℕ). with_sign b (z + 1)) h.0 r.0 in
    let e : n + length (nonzero_bits w b m) ≡ behind s n w = omega (arith, r.1) in
    let next = subst (λ (i : ℕ). ReadBack s ws (reader i kp 0 false) vs end) e q in
    record { gives = ap₂ (λ (x : ℤ) (xs : List ℤ). x ∷ xs) v next.gives; ends = next.ends }

-- ════ a run of zeros ════

-- a code word is read when a value is asked for
load : (s ws : List ℕ) (n kp : ℕ) (vs : List ℤ) (end : ℕ) → ReadBack s ws (code_word s n kp) vs end → ReadBack s ws (reader n kp 0 false) vs end
unfolding values reader_after
load s [] n kp vs end q = record { gives = q.gives; ends = omega (arith, q.ends, code_moves s n kp) }
load s (w ∷ ws) n kp vs end q =
    let e = code_ready s n kp in
    record { gives = sym (ap (from s w ws) e) ∙ q.gives; ends = omega (arith, ap (λ (r : Reader). (after_from s w ws r).read) e, q.ends) }

-- a run is given out, one zero for each width
drain : (s zs ws : List ℕ) (n kp : ℕ) (b : Bool) (vs : List ℤ) (end : ℕ) → ReadBack s ws (reader n kp 0 b) vs end
    → ReadBack s (zs ++ ws) (reader n kp (length zs) b) (replicate (length zs) (pos 0) ++ vs) end
unfolding values reader_after
drain s [] ws n kp b vs end q = q
drain s (z ∷ zs) ws n kp b vs end q = let d = drain s zs ws n kp b vs end q in record { gives = ap (λ (us : List ℤ). pos 0 ∷ us) d.gives; ends = d.ends }

-- what is read of a run's bits: a zero for each of zs, and a nonzero value is pending
abbrev RunReads : List ℕ → List ℕ → ℕ → ℕ → List Bool → ℕ → Type 0
RunReads s zs n kp bits kp' =
    (ws : List ℕ) (vs : List ℤ) (end : ℕ) → ReadBack s ws (reader (n + length bits) kp' 0 true) vs end
    → ReadBack s (zs ++ ws) (reader n kp 0 false) (replicate (length zs) (pos 0) ++ vs) end

-- a bit 1 and k bits
last_reads : (s zs : List ℕ) (n kp : ℕ) → length zs < 2 ^ (kp / 8) → Holds s n (true ∷ bits_of (kp / 8) (length zs))
    → RunReads s zs n kp (true ∷ bits_of (kp / 8) (length zs)) (kp - 6)
last_reads s zs n kp j h ws vs end q =
    let k = kp / 8 in
    let i = n + suc (length (bits_of k (length zs))) in
    let v : num s (n + 1) k ≡ length zs = num_holds s (n + 1) k (length zs) j (subst (λ (i : ℕ). Holds s i (bits_of k (length zs))) (sym (add-one n)) h.1) in
    let e : n + 1 + k ≡ i = omega (arith, length_bits_of k (length zs)) in
    let c : code_word s n kp ≡ reader i (kp - 6) (length zs) true = code_one s n kp h.0 ∙ ap₂ (λ (i z : ℕ). reader i (kp - 6) z true) e v in
    let us = replicate (length zs) (pos 0) ++ vs in
    load s (zs ++ ws) n kp us end (subst (λ (r : Reader). ReadBack s (zs ++ ws) r us end) (sym c) (drain s zs ws i (kp - 6) true vs end q))

-- a bit 0, and what follows
more_reads : (s ys zs : List ℕ) (n kp kp' : ℕ) (bits : List Bool) → length ys ≡ 2 ^ (kp / 8) → bit_at s n ≡ false
    → RunReads s zs (n + 1) (min (kp + 4) 80) bits kp' → RunReads s (ys ++ zs) n kp (false ∷ bits) kp'
more_reads s ys zs n kp kp' bits l b ih ws vs end q =
    let up = min (kp + 4) 80 in
    let e : n + suc (length bits) ≡ n + 1 + length bits = omega arith in
    let us = replicate (length ys) (pos 0) ++ (replicate (length zs) (pos 0) ++ vs) in
    let u : us ≡ replicate (length (ys ++ zs)) (pos 0) ++ vs =
    sym (append_assoc (replicate (length ys) (pos 0)) (replicate (length zs) (pos 0)) vs)
    ∙ ap (λ (l : List ℤ). l ++ vs) (replicate-append-replicate (length ys) (length zs) (pos 0) ∙ ap (λ (i : ℕ). replicate i (pos 0)) (sym (length-append ys zs)))
    in
    let c : code_word s n kp ≡ reader (n + 1) up (length ys) false = code_zero s n kp b ∙ ap (λ (z : ℕ). reader (n + 1) up z false) (sym l) in
    let rest = ih ws vs end (subst (λ (i : ℕ). ReadBack s ws (reader i kp' 0 true) vs end) e q) in
    let run = drain s ys (zs ++ ws) (n + 1) up false (replicate (length zs) (pos 0) ++ vs) end rest in
    let all = load s (ys ++ (zs ++ ws)) n kp us end (subst (λ (r : Reader). ReadBack s (ys ++ (zs ++ ws)) r us end) (sym c) run) in
    subst (λ (ks : List ℕ). ReadBack s ks (reader n kp 0 false) (replicate (length (ys ++ zs)) (pos 0) ++ vs) end) (sym (append_assoc ys zs ws))
    (subst (λ (l : List ℤ). ReadBack s (ys ++ (zs ++ ws)) (reader n kp 0 false) l end) u all)

run_reads : (s : List ℕ) (f n kp : ℕ) (zs : List ℕ) → length zs < f → Holds s n (run_bits f kp (length zs)) → RunReads s zs n kp (run_bits f kp (length zs)) (run_kp f kp (length zs))
run_reads s zero n kp zs l h = absurd (omega arith)
run_reads s (suc f) n kp zs l h = by (ltb z K) refl h (run_reads s f (n + 1) up)
  where
    z : ℕ
    z = length zs

    K : ℕ
    K = 2 ^ (kp / 8)

    up : ℕ
    up = min (kp + 4) 80

    by : (b : Bool) → ltb z K ≡ b → Holds s n (cond b (true ∷ bits_of (kp / 8) z) (false ∷ run_bits f up (z - K)))
        → ((zs : List ℕ) → length zs < f → Holds s (n + 1) (run_bits f up (length zs)) → RunReads s zs (n + 1) up (run_bits f up (length zs)) (run_kp f up (length zs)))
        → RunReads s zs n kp (cond b (true ∷ bits_of (kp / 8) z) (false ∷ run_bits f up (z - K))) (cond b (kp - 6) (run_kp f up (z - K)))
    by true t h ih = last_reads s zs n kp (ltb-true _ _ t) h
    by false t h ih =
        let j : K ≤ z = ltb-false _ _ t in
        let d : length (drop K zs) ≡ z - K = length-drop K zs in
        let g : Holds s (n + 1) (run_bits f up (length (drop K zs))) = subst (λ (i : ℕ). Holds s (n + 1) (run_bits f up i)) (sym d) (subst (λ (i : ℕ). Holds s i (run_bits f up (z - K))) (sym (add-one n)) h.1) in
        let r = ih (drop K zs) (omega (arith, d, pow_pos (kp / 8))) g in
        subst (λ (us : List ℕ). RunReads s us n kp (false ∷ run_bits f up (z - K)) (run_kp f up (z - K))) (take-append-drop K zs)
        (more_reads s (take K zs) (drop K zs) n kp (run_kp f up (z - K)) (run_bits f up (z - K)) (length-take-le K zs j) h.0
        (subst (λ (i : ℕ). RunReads s (drop K zs) (n + 1) up (run_bits f up i) (run_kp f up i)) d r))

-- ════ some values, each with its width ════

-- a nonzero value and the run before it, and what is read of the bits behind them
value_reads : (s : List ℕ) (n kp w m : ℕ) (b : Bool) (zs ws : List ℕ) (v : ℤ) (vs : List ℤ) (rest : List Bool) → m + 1 ≤ 2 ^ w - 1 → with_sign b (m + 1) ≡ v
    → Holds s n ((run_bits (suc (length zs)) kp (length zs) ++ nonzero_bits w b m) ++ rest)
    → ((i : ℕ) → Holds s i rest → ReadBack s ws (reader i (run_kp (suc (length zs)) kp (length zs)) 0 false) vs (i + length rest))
    → ReadBack s (zs ++ (w ∷ ws)) (reader n kp 0 false) (replicate (length zs) (pos 0) ++ (v ∷ vs)) (n + length ((run_bits (suc (length zs)) kp (length zs) ++ nonzero_bits w b m) ++ rest))
value_reads s n kp w m b zs ws v vs rest k g h next =
    let run = run_bits (suc (length zs)) kp (length zs) in
    let bits = nonzero_bits w b m in
    let kp' = run_kp (suc (length zs)) kp (length zs) in
    let end = n + length ((run ++ bits) ++ rest) in
    let h1 = holds_append s n (run ++ bits) rest h in
    let h2 = holds_append s n run bits h1.0 in
    let i : ℕ = n + length (run ++ bits) in
    let e : i ≡ n + length run + length bits = omega (arith, length-append run bits) in
    let f : i + length rest ≡ end = omega (arith, length-append (run ++ bits) rest) in
    let q = subst (ReadBack s ws (reader i kp' 0 false) vs) f (next i h1.1) in
    let one = nonzero_reads s (n + length run) kp' w m b k h2.1 ws vs end (subst (λ (j : ℕ). ReadBack s ws (reader j kp' 0 false) vs end) e q) in
    run_reads s (suc (length zs)) n kp zs (omega arith) h2.0 (w ∷ ws) (v ∷ vs) end
    (subst (λ (x : ℤ). ReadBack s (w ∷ ws) (reader (n + length run) kp' 0 true) (x ∷ vs) end) g one)

-- the end
flush_reads : (s : List ℕ) (n kp : ℕ) (zs : List ℕ) → Holds s n (flush kp (length zs))
    → ReadBack s (zs ++ []) (reader n kp 0 false) (replicate (length zs) (pos 0) ++ []) (n + length (flush kp (length zs)))
unfolding values reader_after
flush_reads s n kp [] h = record { gives = refl; ends = omega arith }
flush_reads s n kp (z ∷ zs) h =
    let bits = flush kp (suc (length zs)) in
    run_reads s (suc (suc (length zs))) n kp (z ∷ zs) (omega arith) h [] [] (n + length bits) (record { gives = refl; ends = omega arith })

snoc_zero : (z : ℕ) (vs : List ℤ) → replicate (z + 1) (pos 0) ++ vs ≡ replicate z (pos 0) ++ (pos 0 ∷ vs)
snoc_zero z vs = ap (λ (l : List ℤ). l ++ vs) (sym (replicate-append-replicate z 1 (pos 0))) ∙ append_assoc (replicate z (pos 0)) (pos 0 ∷ []) vs

reads : {ws : List ℕ} {vs : List ℤ} → Legal ws vs → (s : List ℕ) (n kp : ℕ) (zs : List ℕ) → Holds s n (stream_bits kp (length zs) ws vs)
    → ReadBack s (zs ++ ws) (reader n kp 0 false) (replicate (length zs) (pos 0) ++ vs) (n + length (stream_bits kp (length zs) ws vs))
unfolding stream_bits
reads Legal.none s n kp zs h = flush_reads s n kp zs h
reads (legal {w = w} {v = pos zero} {ws = ws} {vs = vs} l ls) s n kp zs h =
    let e : length (zs ++ (w ∷ [])) ≡ length zs + 1 = length-append zs (w ∷ []) in
    let r = reads ls s n kp (zs ++ (w ∷ [])) (subst (λ (z : ℕ). Holds s n (stream_bits kp z ws vs)) (sym e) h) in
    let u = subst (λ (z : ℕ). ReadBack s ((zs ++ (w ∷ [])) ++ ws) (reader n kp 0 false) (replicate z (pos 0) ++ vs) (n + length (stream_bits kp z ws vs))) e r in
    subst (λ (us : List ℕ). ReadBack s us (reader n kp 0 false) (replicate (length zs) (pos 0) ++ (pos 0 ∷ vs)) (n + length (stream_bits kp (length zs + 1) ws vs))) (append_snoc zs w ws)
    (record { gives = u.gives ∙ snoc_zero (length zs) vs; ends = u.ends })
reads (legal {w = w} {v = pos (suc m)} {ws = ws} {vs = vs} l ls) s n kp zs h =
    let kp' = run_kp (suc (length zs)) kp (length zs) in
    value_reads s n kp w m false zs ws (pos (suc m)) vs (stream_bits kp' 0 ws vs) (omega arith) (ap pos (add-one m)) h (λ i. reads ls s i kp' [])
reads (legal {w = w} {v = negsuc m} {ws = ws} {vs = vs} l ls) s n kp zs h =
    let kp' = run_kp (suc (length zs)) kp (length zs) in
    value_reads s n kp w m true zs ws (negsuc m) vs (stream_bits kp' 0 ws vs) (omega arith) (ap (with_sign true) (add-one m)) h (λ i. reads ls s i kp' [])

-- from the start of the whole stream: the values, and no bit past its end is read
pub stream_back : {ws : List ℕ} {vs : List ℤ} → Legal ws vs → (s : List ℕ) → s ≡ pack 0 0 (stream_bits 8 0 ws vs) ++ (0 ∷ []) → ReadBack s ws start vs (8 * length s)
stream_back {ws} {vs} l s e =
    let bits = stream_bits 8 0 ws vs in
    let r = reads l s 0 8 [] (pack_holds bits s 0 0 0 (0 ∷ []) (omega arith) e) in
    record { gives = r.gives; ends = omega (arith, r.ends, ap length e, length-append (pack 0 0 bits) (0 ∷ []), length_pack bits 0 0 (omega arith)) }
