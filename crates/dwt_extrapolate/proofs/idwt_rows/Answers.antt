-- `dwt_extrapolate::idwt_rows` meets its contract. Assumes nothing.
use mathlib.Core.Path.{◌≡◌, ap, ◌∙◌}
use mathlib.Core.List.{append-nil}
use Prim.Native.Nat.{ℕ, ◌+◌, ◌*◌, ◌-◌, ◌≤◌}
use native.Mathlib.Omega.{arith}
use lib.ListN.{length}
use borrow.Rule.Slice.PartMut.{mid_len}
use Rattle.dwt_columns.proofs.Products.{scale}
use Rattle.dwt_columns.proofs.Put.{put_kept, whole}
use Rattle.dwt_extrapolate.proofs.Rows.{lines_none, lines_turn}
use Rattle.dwt_extrapolate.proofs.idwt_rows.Goals as goal

pub loop-m-preserved : goal.loop-m-preserved
loop-m-preserved c =
    let a = c.args in
    let at = c.loop-m in
    let m = at.m in
    let w = a.p + a.q in
    let i = m * w in
    let j = (m + 1) * w in
    let u = c.idwt_row.new.dst in
    let within : j ≤ length at.dst = omega (arith, scale a.n (m + 1) (a.n - m - 1) w (omega arith), c.requires.p_in_bounds) in
    let n : length u ≡ j - i = c.idwt_row.auto.dst ∙ mid_len i j at.dst within in
    let less : a.n - (m + 1) ≡ a.n - m - 1 = omega arith in
    let low : (m + 1) * a.p ≡ m * a.p + a.p = omega arith in
    let high : (m + 1) * a.q ≡ m * a.q + a.q = omega arith in
    record {
      kept = put_kept at.dst u i (j - i) (omega arith) n a.dst.now j i (omega arith) (omega arith) at.invariant.kept;
      left = rw (less, low, high) (lines_turn _ a.low.now a.high.now at.dst u a.p a.q (a.n - m) i (j - i) j (m * a.p) (m * a.q) ((m + 1) * a.p - m * a.p) ((m + 1) * a.q - m * a.q) (omega arith) (omega arith) n (omega arith) (omega arith) (omega arith)
          at.invariant.left c.idwt_row.ensures);
    }

pub returns : goal.returns
returns c =
    let a = c.args in
    let at = c.loop-m in
    let all : at.m ≡ a.n = omega arith in
    let none : a.n - at.m ≡ 0 = omega arith in
    whole _ at.dst a.dst.now (at.m * (a.p + a.q)) _ (ap (λ (k : ℕ). k * (a.p + a.q)) all) at.invariant.kept (rw (none, lines_none, append-nil) at at.invariant.left)
