-- Values stored at places that were cleared: the zeros of a run need no store. For a loop over values that goes by runs and code words.
use mathlib.Core.Path.{◌≡◌, refl, sym, ap, ap₂, ◌∙◌}
use mathlib.Core.Bool.{Bool, true, false}
use mathlib.Core.List.{List, ◌++◌}
use Prim.Native.Nat.{ℕ, zero, suc, ◌+◌, ◌-◌, ◌*◌, ◌≤◌, ◌<◌}
use native.Mathlib.Nat.{add-zero}
use native.Mathlib.Numerals.{add-one}
use native.Mathlib.Omega.{arith}
use lib.IntN.{ℤ, pos}
use lib.ListN.{length, get_or, set, take, drop, replicate, length-set, length-replicate, take-append-drop, drop_of_length-le}
use lib.Seq.{take-suc-set, drop-set-lt, append_snoc, set-get_or, get_or-set_other}
use Rattle.std.proofs.lemmas.List.{append-nil, get_or-replicate}
use Rattle.srl_decoder.specs.Srl.{Reader, reader, nonzero, behind, next_value, next_reader, values, reader_after}
use Rattle.srl_decoder.specs.Inner.{Same, Brought, Clear}
use Rattle.srl_decoder.specs.declared.decoder.CodesRead.{CodesRead}
use Rattle.srl_decoder.proofs.Chains.{zeros_brought}
use Rattle.srl_decoder.proofs.States.{after_mono}
use Rattle.srl_decoder.proofs.Most.{narrow_replicate, most_read}

-- the output and the reader
pub record Filled : Type 0 where
  pub out : List ℤ
  pub after : Reader

-- an output and the reader after it, as one
abbrev pub filled : List ℤ → Reader → Filled
filled out r = record { out = out; after = r }

-- k values, stored from place j on
unfoldable pub fill : List ℕ → ℕ → ℕ → ℕ → Reader → List ℤ → Filled
fill s w zero j r out = filled out r
fill s w (suc k) j r out = fill s w k (suc j) (next_reader s w r) (set out j (next_value s w r))

-- an output of zeros is clear
pub clear_zeros : (out : List ℤ) (n : ℕ) → out ≡ replicate n (pos 0) → Clear out 0 n
clear_zeros out n e i h l = ap (λ (o : List ℤ). get_or o i (pos 0)) e ∙ get_or-replicate n i (pos 0) (pos 0) l

-- what is clear stays so behind a store
clear_behind : (out : List ℤ) (j n : ℕ) (v : ℤ) → Clear out j n → Clear (set out j v) (j + 1) n
clear_behind out j n v c i h l = get_or-set_other out j i v (pos 0) (λ e. omega arith) ∙ c i (omega arith) l

module _ (s : List ℕ) (w : ℕ) where
  -- what it leaves: what `decode` promises, where j is 0
  pub fill_is : (k j : ℕ) (r : Reader) (out : List ℤ) → j + k ≤ length out
      → fill s w k j r out ≡ filled (take j out ++ (values s (replicate k w) r ++ drop (j + k) out)) (reader_after s (replicate k w) r)
  unfolding fill values reader_after
  fill_is zero j r out h = ap (λ (l : List ℤ). filled l r) (sym (ap (λ (i : ℕ). take j out ++ drop i out) (add-zero j) ∙ take-append-drop j out))
  fill_is (suc k) j r out h =
      let v = next_value s w r in
      let e : suc j + k ≡ j + suc k = omega arith in
      fill_is k (suc j) (next_reader s w r) (set out j v) (omega (arith, length-set out j v))
      ∙ ap (λ (l : List ℤ). filled l (reader_after s (replicate k w) (next_reader s w r)))
      (ap₂ (λ (a b : List ℤ). a ++ (values s (replicate k w) (next_reader s w r) ++ b)) (take-suc-set out j v (omega arith)) (drop-set-lt (suc j + k) out j v (omega arith) ∙ ap (λ (i : ℕ). drop i out) e)
      ∙ append_snoc (take j out) v (values s (replicate k w) (next_reader s w r) ++ drop (j + suc k) out))

  -- over a whole output
  pub fill_all : (r : Reader) (out : List ℤ) → fill s w (length out) 0 r out ≡ filled (values s (replicate (length out) w) r) (reader_after s (replicate (length out) w) r)
  fill_all r out =
      let n = length out in
      let vs = values s (replicate n w) r in
      fill_is n 0 r out (omega arith)
      ∙ ap (λ (l : List ℤ). filled (vs ++ l) (reader_after s (replicate n w) r)) (drop_of_length-le out (omega arith))
      ∙ ap (λ (l : List ℤ). filled l (reader_after s (replicate n w) r)) (append-nil vs)

  -- the reader after it, whatever the output
  pub fill_after : (k j : ℕ) (r : Reader) (out : List ℤ) → (fill s w k j r out).after ≡ reader_after s (replicate k w) r
  unfolding fill reader_after
  fill_after zero j r out = refl
  fill_after (suc k) j r out = fill_after k (suc j) (next_reader s w r) (set out j (next_value s w r))

  -- readers that give the same
  pub fill_same : (k j : ℕ) (r q : Reader) (out : List ℤ) → Same s k r q → fill s w k j r out ≡ fill s w k j q out
  unfolding fill
  fill_same zero j r q out e = ap (filled out) e
  fill_same (suc k) j r q out e =
      let f = e w in
      ap (λ (v : ℤ). fill s w k (suc j) (next_reader s w r) (set out j v)) f.0 ∙ fill_same k (suc j) (next_reader s w r) (next_reader s w q) (set out j (next_value s w q)) f.1

  -- the zeros of a run, as many as there are places
  pub fill_run : (k j n kp run : ℕ) (p : Bool) (out : List ℤ) → Clear out j (j + k)
      → fill s w k j (reader n kp run p) out ≡ fill s w (k - run) (j + run) (reader n kp (run - k) p) out
  unfolding fill
  fill_run k j n kp zero p out c =
      let e : 0 ≡ 0 - k = omega arith in
      let f : k ≡ k - 0 = omega arith in
      (λ i. fill s w (f i) (sym (add-zero j) i) (reader n kp (e i) p) out)
  fill_run zero j n kp (suc run) p out c =
      let e : suc run ≡ suc run - 0 = omega arith in
      let f : 0 ≡ 0 - suc run = omega arith in
      ap (λ (z : ℕ). filled out (reader n kp z p)) e ∙ ap (λ (z : ℕ). fill s w z (j + suc run) (reader n kp (suc run - 0) p) out) f
  fill_run (suc k) j n kp (suc run) p out c =
      let own : set out j (pos 0) ≡ out = ap (set out j) (sym (c j (omega arith) (omega arith))) ∙ set-get_or out j (pos 0) in
      let e : k - run ≡ suc k - suc run = omega arith in
      let f : suc j + run ≡ j + suc run = omega arith in
      let g : run - k ≡ suc run - suc k = omega arith in
      ap (fill s w k (suc j) (reader n kp run p)) own
      ∙ fill_run k (suc j) n kp run p out (λ i a b. c i (omega arith) (omega arith))
      ∙ (λ i. fill s w (e i) (f i) (reader n kp (g i) p) out)

  -- a nonzero value
  pub fill_value : (k j n kp : ℕ) (out : List ℤ) → 1 ≤ k → fill s w k j (reader n kp 0 true) out ≡ fill s w (k - 1) (j + 1) (reader (behind s n w) kp 0 false) (set out j (nonzero s n w))
  unfolding fill
  fill_value zero j n kp out h = absurd (omega arith)
  fill_value (suc k) j n kp out h =
      let e : k ≡ suc k - 1 = omega arith in
      (λ i. fill s w (e i) (sym (add-one j) i) (reader (behind s n w) kp 0 false) (set out j (nonzero s n w)))

  -- ════ a turn of the loop, at the j-th of n places ════

  -- what is left: the zeros up to place j are given
  abbrev pub rest : ℕ → ℕ → ℕ → ℕ → Bool → List ℤ → Filled
  rest n j at kp p out = fill s w (n - j) j (reader at kp (j - n) p) out

  -- at the start all n values are left
  pub rest_start : (n at kp run : ℕ) (p : Bool) (out : List ℤ) → Clear out 0 n → fill s w n 0 (reader at kp run p) out ≡ rest n run at kp p out
  rest_start n at kp run p out c =
      let e : 0 + run ≡ run = omega arith in
      fill_run n 0 at kp run p out (λ i a b. c i a (omega arith)) ∙ ap (λ (j : ℕ). fill s w (n - run) j (reader at kp (run - n) p) out) e

  rest_codes : (n j at kp run at' kp' : ℕ) (p p' : Bool) (out : List ℤ) → j < n → Clear out j n → Same s (n - j) (reader at kp 0 p) (reader at' kp' run p')
      → rest n j at kp p out ≡ rest n (j + run) at' kp' p' out
  rest_codes n j at kp run at' kp' p p' out h c same =
      let z : j - n ≡ 0 = omega arith in
      let f : n - j - run ≡ n - (j + run) = omega arith in
      let g : run - (n - j) ≡ j + run - n = omega arith in
      (λ i. fill s w (n - j) j (reader at kp (z i) p) out)
      ∙ fill_same (n - j) j (reader at kp 0 p) (reader at' kp' run p') out same
      ∙ fill_run (n - j) j at' kp' run p' out (λ i a b. c i a (omega arith))
      ∙ (λ i. fill s w (f i) (j + run) (reader at' kp' (g i) p') out)

  rest_value : (n j at kp : ℕ) (p : Bool) (out : List ℤ) → j < n → p ≡ true → rest n j at kp p out ≡ rest n (j + 1) (behind s at w) kp false (set out j (nonzero s at w))
  rest_value n j at kp p out h e =
      let z : j - n ≡ 0 = omega arith in
      let f : n - j - 1 ≡ n - (j + 1) = omega arith in
      let g : 0 ≡ j + 1 - n = omega arith in
      (λ i. fill s w (n - j) j (reader at kp (z i) (e i)) out)
      ∙ fill_value (n - j) j at kp out (omega arith)
      ∙ (λ i. fill s w (f i) (j + 1) (reader (behind s at w) kp (g i) false) (set out j (nonzero s at w)))

  -- what a turn does that reads on from place j and stops at place j', behind at' bits
  pub record Turned (n j at kp : ℕ) (p : Bool) (out : List ℤ) (j' kp' at' : ℕ) (p' : Bool) (out' : List ℤ) : Type 0 where
    pub nearer : n - j' < n - j
    pub clear : Clear out' j' n
    pub left : rest n j at kp p out ≡ rest n j' at' kp' p' out'

  -- code words, with no value due behind them: they bring zeros, or go past the last place
  pub turn_codes : (n j at kp : ℕ) (p : Bool) (out : List ℤ) (r : CodesRead) → j < n → Clear out j n → Brought s at kp p (n - j) r
      → (r.pending ≡ true → n ≤ j + r.run) → Turned n j at kp p out (j + r.run) r.kp (at + r.taken) r.pending out
  turn_codes n j at kp p out r h c b d =
      record {
        nearer = omega (arith, zeros_brought s at kp p (n - j) n j r b h d);
        clear = λ i x y. c i (omega arith) y;
        left = rest_codes n j at kp r.run (at + r.taken) r.kp p r.pending out h c b.same;
      }

  -- code words, and the value behind them
  pub turn_value : (n j at kp : ℕ) (p : Bool) (out : List ℤ) (r : CodesRead) (at' : ℕ) (v : ℤ) → Clear out j n → Brought s at kp p (n - j) r
      → (r.pending ≡ true) × (j + r.run < n) → v ≡ nonzero s (at + r.taken) w → at' ≡ behind s (at + r.taken) w
      → Turned n j at kp p out (j + r.run + 1) r.kp at' false (set out (j + r.run) v)
  turn_value n j at kp p out r at' v c b d f e =
      record {
        nearer = omega (arith, d.1);
        clear = clear_behind out (j + r.run) n v (λ i x y. c i (omega arith) y);
        left = rest_codes n j at kp r.run (at + r.taken) r.kp p r.pending out (omega (arith, d.1)) c b.same
            ∙ rest_value n (j + r.run) (at + r.taken) r.kp r.pending out d.1 d.0 ∙ (λ i. rest n (j + r.run + 1) (sym e i) r.kp false (set out (j + r.run) (sym f i)));
      }

  -- the reader has not come further than it will
  pub rest_near : (n j at kp : ℕ) (p : Bool) (out : List ℤ) → at ≤ (rest n j at kp p out).after.read
  rest_near n j at kp p out = omega (arith, ap (λ (q : Reader). q.read) (fill_after (n - j) j (reader at kp (j - n) p) out), after_mono s (replicate (n - j) w) (reader at kp (j - n) p))

  -- how far a reader that began in the stream has come
  pub rest_bound : (n j at kp at₀ kp₀ j₀ : ℕ) (p p₀ : Bool) (out out₀ : List ℤ) → w ≤ 15 → kp₀ ≤ 80 → at₀ ≤ 8 * length s
      → fill s w n 0 (reader at₀ kp₀ j₀ p₀) out₀ ≡ rest n j at kp p out → at ≤ 8 * length s + n + 32777
  rest_bound n j at kp at₀ kp₀ j₀ p p₀ out out₀ h k l e =
      let r = reader at₀ kp₀ j₀ p₀ in
      let f : (rest n j at kp p out).after.read ≡ (reader_after s (replicate n w) r).read = ap (λ (g : Filled). g.after.read) (sym e) ∙ ap (λ (q : Reader). q.read) (fill_after n 0 r out₀) in
      omega (arith, f, rest_near n j at kp p out, most_read s (replicate n w) r (narrow_replicate n w h) k l, length-replicate n w)

  -- at the end no value is left
  pub rest_end : (n j at kp : ℕ) (p : Bool) (out : List ℤ) → n ≤ j → rest n j at kp p out ≡ filled out (reader at kp (j - n) p)
  unfolding fill
  rest_end n j at kp p out h = let z : n - j ≡ 0 = omega arith in ap (λ (k : ℕ). fill s w k j (reader at kp (j - n) p) out) z
