-- Loops that end where the bytes are spent, and the number of their turns (docs/SCOPE.md, "Spent bytes").
use Rattle.std.specs.Prelude.{Bool, true, false, cond, not, List, [], ◌∷◌, ℕ, zero, suc, ◌+◌}
use Rattle.bits.specs.Missing.{read_bit}
use Rattle.bits.specs.Turns.{Counted, count_zeros}
use Rattle.srl_decoder.specs.Srl.{Reader, most_zeros, readied, next_reader}
use Rattle.srl_decoder.specs.Decode.{due}
use Rattle.srl_decoder.specs.declared.decoder.DryRun.{DryRun}

-- ════ the zeros of a nonzero value ════

-- the loop that counts them, for a value of width w whose sign bit is bit n: it begins "behind the sign bit"
abbrev pub nonzero_count : List ℕ → ℕ → ℕ → Counted
nonzero_count s n w = count_zeros s (n + 1) (most_zeros w)

-- its turns for a value from a reader that is ready: a zero of a run takes none
abbrev pub value_turns : List ℕ → ℕ → ℕ → ℕ → ℕ
value_turns s w n (suc run) = 0
value_turns s w n zero = (nonzero_count s n w).turns

-- its turns "for some values together"
unfoldable pub values_turns : List ℕ → List ℕ → Reader → ℕ
values_turns s [] r = 0
values_turns s (w ∷ ws) r = value_turns s w (readied s r).read (readied s r).run + values_turns s ws (next_reader s w r)

-- ════ the dry run ════

-- whether a code word is to be read that "begins in the stream"
abbrev pub code_ahead : List ℕ → ℕ → ℕ → Bool → Bool
code_ahead s n (suc run) pending = false
code_ahead s n zero true = false
code_ahead s n zero false = not (read_bit s n).missing

-- a turn more, where one is
abbrev pub turned : Bool → DryRun → DryRun
turned true d = record { due = d.due; turns = suc d.turns }
turned false d = d

-- "the dry run [..] turns once for each code word that begins in the stream": whether one of the next n values is nonzero, and the turns to find that out
abbrev pub dry_run : List ℕ → Reader → ℕ → DryRun
dry_run s r zero = record { due = false; turns = 0 }
dry_run s r (suc n) =
    turned (code_ahead s r.read r.run r.pending)
    (cond (due (readied s r).run) (record { due = true; turns = 0 }) (dry_run s (next_reader s 0 r) n))
