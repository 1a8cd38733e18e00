-- Loops that end where the bytes are spent: the dry run over code words by whole runs and past the end, and how often the loops turn.
use mathlib.Core.Path.{◌≡◌, refl, sym, ap, ap₂, ◌∙◌}
use mathlib.Core.Bool.{Bool, true, false, cond, not, ◌&&◌}
use mathlib.Core.List.{List, [], ◌∷◌}
use Prim.Native.Nat.{ℕ, zero, suc, ◌+◌, ◌-◌, ◌*◌, ◌/◌, ◌^◌, ◌≤◌, ◌<◌, min}
use native.Mathlib.Decide.{dec_lt}
use native.Mathlib.Omega.{arith}
use borrow.Author.Tests.{leb-false, le-leb, lt-leb, ltb-true, ltb-false, lt-ltb, not-true}
use lib.Dec.{ltb}
use lib.ListN.{length}
use lib.Pow.{suc_ones}
use Rattle.bits.specs.Bits.{bit_at, num, bits_read}
use Rattle.bits.specs.Missing.{read_bit}
use Rattle.bits.specs.Turns.{still_held, Counted}
use Rattle.bits.proofs.Numbers.{bit_past}
use Rattle.bits.proofs.Turns.{count_is}
use Rattle.srl_rules.proofs.Widths.{both}
use Rattle.srl_decoder.specs.Srl.{Reader, reader, most_zeros, code_word, past, readied, next_reader}
use Rattle.srl_decoder.specs.Decode.{opened, due, due_among}
use Rattle.srl_decoder.specs.Turns.{value_turns, values_turns, code_ahead, turned, dry_run}
use Rattle.srl_decoder.specs.Inner.{reads_on}
use Rattle.srl_decoder.specs.declared.SrlState.{SrlState}
use Rattle.srl_decoder.specs.declared.decoder.DryRun.{DryRun}
use Rattle.srl_decoder.proofs.Codes.{code_zero, code_one, code_moves, code_ready, ready_mono}
use Rattle.srl_decoder.proofs.States.{past_mono}

-- ════ the dry run ════

-- what it found, with no turn more
abbrev pub found : Bool → DryRun
found b = record { due = b; turns = 0 }

-- what it finds from a ready reader
abbrev dry_from : List ℕ → ℕ → Reader → DryRun
dry_from s n r = cond (due r.run) (found true) (dry_run s (past s 0 r.read r.kp r.run r.pending) n)

module _ (s : List ℕ) where
  -- it finds whether one of the next values is nonzero
  pub dry_due : (r : Reader) (n : ℕ) → (dry_run s r n).due ≡ due_among s r n
  dry_due r zero = refl
  dry_due r (suc n) = by (code_ahead s r.read r.run r.pending) (due (readied s r).run) (dry_run s (next_reader s 0 r) n) (dry_due (next_reader s 0 r) n)
    where
      by : (a b : Bool) (d : DryRun) {e : Bool} → d.due ≡ e → (turned a (cond b (found true) d)).due ≡ cond b true e
      by true true d h = refl
      by true false d h = h
      by false true d h = refl
      by false false d h = h

  -- it turns at most once for each value
  pub dry_few : (r : Reader) (n : ℕ) → (dry_run s r n).turns ≤ n
  dry_few r zero = omega arith
  dry_few r (suc n) = by (code_ahead s r.read r.run r.pending) (due (readied s r).run) (dry_run s (next_reader s 0 r) n) (dry_few (next_reader s 0 r) n)
    where
      by : (a b : Bool) (d : DryRun) → d.turns ≤ n → (turned a (cond b (found true) d)).turns ≤ suc n
      by true true d h = omega arith
      by true false d h = omega arith
      by false true d h = omega arith
      by false false d h = omega arith

  -- it turns at most once for each bit that the stream still holds
  pub dry_spent : (r : Reader) (n : ℕ) → (dry_run s r n).turns ≤ still_held s r.read
  dry_spent r zero = omega arith
  dry_spent r (suc n) = by r.run r.pending (λ q. dry_spent q n)
    where
      code : (a b : Bool) (d : DryRun) (m : ℕ) → not (read_bit s r.read).missing ≡ a → d.turns ≤ still_held s m → suc r.read ≤ m
          → (turned a (cond b (found true) d)).turns ≤ still_held s r.read
      code true true d m e h g = omega (arith, leb-false (8 * length s) r.read (not-true _ e))
      code true false d m e h g = omega (arith, leb-false (8 * length s) r.read (not-true _ e))
      code false true d m e h g = omega arith
      code false false d m e h g = omega arith

      by : (run : ℕ) (pending : Bool) → ((q : Reader) → (dry_run s q n).turns ≤ still_held s q.read) → (dry_run s (reader r.read r.kp run pending) (suc n)).turns ≤ still_held s r.read
      by (suc run) pending ih = ih (reader r.read r.kp run pending)
      by zero true ih = omega arith
      by zero false ih =
          let q = code_word s r.read r.kp in
          let next = past s 0 q.read q.kp q.run q.pending in
          code (not (read_bit s r.read).missing) (due q.run) (dry_run s next n) next.read refl (ih next) (omega (arith, code_moves s r.read r.kp, past_mono s 0 q))

  -- the run holds them all
  pub dry_none : (p kp run : ℕ) (b : Bool) (n : ℕ) → n ≤ run → dry_run s (reader p kp run b) n ≡ found false
  dry_none p kp run b zero h = refl
  dry_none p kp zero b (suc n) h = absurd (omega arith)
  dry_none p kp (suc run) b (suc n) h = dry_none p kp run b n (omega arith)

  -- the nonzero value behind the run is among them
  pub dry_now : (p kp run n : ℕ) → run < n → dry_run s (reader p kp run true) n ≡ found true
  dry_now p kp run zero h = absurd (omega arith)
  dry_now p kp zero (suc n) h = refl
  dry_now p kp (suc run) (suc n) h = dry_now p kp run n (omega arith)

  -- a run and nothing behind it
  pub dry_run_lem : (p kp run n : ℕ) → run ≤ n → dry_run s (reader p kp run false) n ≡ dry_run s (reader p kp 0 false) (n - run)
  dry_run_lem p kp zero n h = ap (dry_run s (reader p kp 0 false)) {x = n} {y = n - 0} (omega arith)
  dry_run_lem p kp (suc run) zero h = absurd (omega arith)
  dry_run_lem p kp (suc run) (suc n) h = dry_run_lem p kp run n (omega arith) ∙ ap (dry_run s (reader p kp 0 false)) {x = n - run} {y = suc n - suc run} (omega arith)

  -- behind a code word none is read
  code_none : (p kp : ℕ) → code_ahead s (code_word s p kp).read (code_word s p kp).run (code_word s p kp).pending ≡ false
  code_none p kp = by (bit_at s p) refl
    where
      waits : (m run : ℕ) → code_ahead s m run true ≡ false
      waits m zero = refl
      waits m (suc run) = refl

      at : Reader → Bool
      at r = code_ahead s r.read r.run r.pending

      by : (b : Bool) → bit_at s p ≡ b → at (code_word s p kp) ≡ false
      by true e = ap at (code_one s p kp e) ∙ waits (p + 1 + kp / 8) (num s (p + 1) (kp / 8))
      by false e = ap at (code_zero s p kp e) ∙ ap (λ (z : ℕ). code_ahead s (p + 1) z false) (sym (suc_ones (kp / 8)))

  -- a code word that begins in the stream is a turn
  pub dry_code : (p kp n : ℕ) → p < 8 * length s → 1 ≤ n → dry_run s (reader p kp 0 false) n ≡ turned true (dry_run s (code_word s p kp) n)
  dry_code p kp zero h g = absurd (omega arith)
  dry_code p kp (suc n) h g =
      let e : not (read_bit s p).missing ≡ true = ap not (lt-leb (8 * length s) p h) in
      ap (λ (a : Bool). turned a (dry_from s n (code_word s p kp))) e
      ∙ ap (turned true) (sym (ap₂ (λ (a : Bool) (q : Reader). turned a (dry_from s n q)) (code_none p kp) (code_ready s p kp)))

  -- past the end nothing is due, and there is no turn
  pub dry_past : (p kp run n : ℕ) → 8 * length s ≤ p → dry_run s (reader p kp run false) n ≡ found false
  dry_past p kp run zero h = refl
  dry_past p kp (suc run) (suc n) h = dry_past p kp run n h
  dry_past p kp zero (suc n) h =
      let e : not (read_bit s p).missing ≡ false = ap not (le-leb (8 * length s) p h) in
      ap (λ (a : Bool). turned a (dry_from s n (code_word s p kp))) e
      ∙ ap (dry_from s n) (code_zero s p kp (bit_past s p h))
      ∙ ap (λ (z : ℕ). dry_from s n (reader (p + 1) (min (kp + 4) 80) z false)) (sym (suc_ones (kp / 8)))
      ∙ dry_past (p + 1) (min (kp + 4) 80) (2 ^ (kp / 8) - 1) n (omega arith)

  pub due_past : (p kp run n : ℕ) → 8 * length s ≤ p → due_among s (reader p kp run false) n ≡ false
  due_past p kp run n h = sym (dry_due (reader p kp run false) n) ∙ ap (λ (d : DryRun). d.due) (dry_past p kp run n h)

  -- ---- by the decoder's state

  -- where it reads on: a turn, and the rest from behind the code word
  pub dry_step : (t : SrlState) (left : ℕ) → t.reader.bit_idx ≤ 7 → reads_on s t left ≡ true
      → (t.zero_run_remaining < left) × (t.reader.byte_idx < length s)
      × (dry_run s (opened t) left ≡ turned true (dry_run s (code_word s (bits_read t.reader) t.kp) (left - t.zero_run_remaining)))
  dry_step t left h e =
      let run = t.zero_run_remaining in
      let n = bits_read t.reader in
      let f = both (ltb run left) (not t.nonzero_pending && ltb t.reader.byte_idx (length s)) e in
      let g = both (not t.nonzero_pending) (ltb t.reader.byte_idx (length s)) f.1 in
      let short = ltb-true run left f.0 in
      let inside = ltb-true t.reader.byte_idx (length s) g.1 in (
        short,
        inside,
        ap (λ (b : Bool). dry_run s (reader n t.kp run b) left) (not-true _ g.0)
            ∙ dry_run_lem n t.kp run left (omega (arith, short))
            ∙ dry_code n t.kp (left - run) (omega (arith, inside, h)) (omega (arith, short)),
      )

  -- where it does not: what is due is at hand
  pub dry_stop : (t : SrlState) (left : ℕ) (b : Bool) → reads_on s t left ≡ false → (b ≡ true → (t.nonzero_pending ≡ true) × (t.zero_run_remaining < left))
      → (b ≡ false → t.nonzero_pending ≡ true → left ≤ t.zero_run_remaining) → dry_run s (opened t) left ≡ found b
  dry_stop t left true e f g =
      ap (λ (b : Bool). dry_run s (reader (bits_read t.reader) t.kp t.zero_run_remaining b) left) (f refl).0
      ∙ dry_now (bits_read t.reader) t.kp t.zero_run_remaining left (f refl).1
  dry_stop t left false e f g = by t.nonzero_pending refl (dec_lt run left)
    where
      n : ℕ
      n = bits_read t.reader

      run : ℕ
      run = t.zero_run_remaining

      byte : ℕ
      byte = t.reader.byte_idx

      spent : t.nonzero_pending ≡ false → run < left → length s ≤ byte
      spent q p = ltb-false byte (length s) (sym (ap₂ (λ (x y : Bool). x && (not y && ltb byte (length s))) (lt-ltb run left p) q) ∙ e)

      by : (b : Bool) → t.nonzero_pending ≡ b → Dec (run < left) → dry_run s (opened t) left ≡ found false
      by true q d = dry_none n t.kp run t.nonzero_pending left (g refl q)
      by false q (no p) = dry_none n t.kp run t.nonzero_pending left (omega arith)
      by false q (yes p) =
          ap (λ (b : Bool). dry_run s (reader n t.kp run b) left) q ∙ dry_past n t.kp run left (omega (arith, spent q p))

  -- ════ the zeros of nonzero values ════

  -- counting them for some values turns at most once for each bit that the stream still holds, and once more for each value
  pub values_turns_lem : (ws : List ℕ) (r : Reader) → values_turns s ws r ≤ still_held s r.read + length ws
  unfolding values_turns
  values_turns_lem [] r = omega arith
  values_turns_lem (w ∷ ws) r = by (readied s r) (ready_mono s r.read r.kp r.run r.pending) (λ q. values_turns_lem ws q)
    where
      by : (q : Reader) → r.read ≤ q.read → ((p : Reader) → values_turns s ws p ≤ still_held s p.read + length ws)
          → value_turns s w q.read q.run + values_turns s ws (past s w q.read q.kp q.run q.pending) ≤ still_held s r.read + suc (length ws)
      by q h ih = at q.run
        where
          at : (run : ℕ) → value_turns s w q.read run + values_turns s ws (past s w q.read q.kp run q.pending) ≤ still_held s r.read + suc (length ws)
          at zero =
              let t = ap (λ (c : Counted). c.turns) (count_is s (q.read + 1) (most_zeros w)) in
              omega (arith, t, ih (past s w q.read q.kp 0 q.pending))
          at (suc run) = omega (arith, ih (past s w q.read q.kp (suc run) q.pending))
