-- The bits that the SRL decoder reads, value by value as in `Srl`, and how many of them are missing (docs/SCOPE.md, "Missing bits").
use Rattle.std.specs.Prelude.{Bool, true, false, cond, List, [], ◌∷◌, ◌++◌, ℕ, zero, suc, ◌+◌, ◌/◌, ◌≤◌}
use Rattle.bits.specs.Missing.{BitRead, read_bit, read_num, read_zeros, missing_in}
use Rattle.srl_decoder.specs.Srl.{Reader, most_zeros, readied, next_reader}

-- for a nonzero value: its sign bit, and its zeros with the 1 behind them
abbrev pub read_nonzero : List ℕ → ℕ → ℕ → List BitRead
read_nonzero s n w = read_bit s n ∷ read_zeros s (n + 1) (most_zeros w)

-- for a code word: a bit 0, or a bit 1 and k bits
abbrev pub read_code_word : List ℕ → ℕ → ℕ → List BitRead
read_code_word s n kp = read_bit s n ∷ cond (read_bit s n).bit (read_num s (n + 1) (kp / 8)) []

-- to have a run or a nonzero value at hand: a code word where nothing is left of the last one
abbrev pub read_ready : List ℕ → ℕ → ℕ → ℕ → Bool → List BitRead
read_ready s n kp (suc run) pending = []
read_ready s n kp zero true = []
read_ready s n kp zero false = read_code_word s n kp

-- for a value from a reader that is ready: "zeros of a run that is already known read no bit"
abbrev pub read_value : List ℕ → ℕ → ℕ → ℕ → List BitRead
read_value s w n (suc run) = []
read_value s w n zero = read_nonzero s n w

-- for the next value
abbrev pub read_next : List ℕ → ℕ → Reader → List BitRead
read_next s w r = read_ready s r.read r.kp r.run r.pending ++ read_value s w (readied s r).read (readied s r).run

-- for some values, each with its width
unfoldable pub read_values : List ℕ → List ℕ → Reader → List BitRead
read_values s [] r = []
read_values s (w ∷ ws) r = read_next s w r ++ read_values s ws (next_reader s w r)

-- how many of those bits are missing
abbrev pub values_missing : List ℕ → List ℕ → Reader → ℕ
values_missing s ws r = missing_in (read_values s ws r)

-- each width is at most 15
pub data Narrow : List ℕ → Type 0 where
  none : Narrow []
  narrow : {w : ℕ} {ws : List ℕ} → w ≤ 15 → Narrow ws → Narrow (w ∷ ws)
