-- The level of a cut coefficient, and what it gains from a position to a lower one. `fixed` has both laws of a whole number, `fitting` those of levels.
use mathlib.Core.Path.{◌≡◌, sym, ap, ◌∙◌}
use mathlib.Core.Bool.{Bool, true, false}
use Prim.Native.Nat.{ℕ, ◌+◌, ◌-◌, ◌*◌, ◌/◌, ◌%◌, ◌^◌, ◌≤◌, ◌<◌}
use native.Mathlib.Nat.{mul_comm, add-sub_of_le}
use native.Mathlib.Omega.{arith}
use lib.Arith.{digits_div}
use lib.IntN.{ℤ, pos, nat_abs, ◌+ℤ◌}
use lib.Signed.{mag}
use Rattle.fixed.specs.Fixed.{floor_shift}
use Rattle.fixed.specs.Cut.{cut_level, downward}
use Rattle.fixed.proofs.Cuts.{cut_less, cut_gain, gain_small, rest_falls, abs_toward, down_rest}
use Rattle.fixed.proofs.Sizes.{nat_abs_times}
use Rattle.upgrade_steps.specs.Cut.{cut_at}
use Rattle.progressive.proofs.Regained.{down_range}
use Rattle.fitting.specs.Place.{Multiple, level_of}
use Rattle.fitting.proofs.Families.{floor_is, floor_level, more_floor, level_multiple}
use Rattle.ladder.specs.Levels.{LevelLaw}

-- ════ the bottom ════

-- a value that is r higher has a level that is r higher
level_more : (x : ℤ) (r : ℕ) → mag x < 32768 → level_of true (x +ℤ pos r) ≡ level_of true x + r
level_more x r h =
    ap (λ (z : ℤ). level_of true (z +ℤ pos r)) (floor_is x h)
    ∙ ap (level_of true) (sym (more_floor (level_of true x) r))
    ∙ floor_level (level_of true x + r)

-- a number that lies less than 2^p above a multiple of it is cut to that multiple
pub cut_to : (p n r : ℕ) → Multiple (2 ^ p) n → r < 2 ^ p → cut_level p (n + r) ≡ n
cut_to p n r m h =
    ap (λ (x : ℕ). cut_level p (x + r)) m.is ∙ ap (λ (x : ℕ). x * 2 ^ p) (digits_div m.times {m = 2 ^ p} {r = r} h) ∙ sym m.is

floor_cut : (p : ℕ) (c : ℤ) → p ≤ 15 → mag c < 32768 → level_of true (downward p c) ≡ cut_level p (level_of true c)
floor_cut p c h l =
    let a = down_rest p c in
    let d = downward p c in
    let near : mag d < 32768 = down_range p c h l in
    let level : level_of true c ≡ level_of true d + a.rest = ap (level_of true) a.is ∙ level_more d a.rest near in
    let clean : Multiple (2 ^ p) (level_of true d) = level_multiple true p d h near (record { times = nat_abs (floor_shift c p); is = nat_abs_times (floor_shift c p) (2 ^ p) }) in
    sym (ap (cut_level p) level ∙ cut_to p (level_of true d) a.rest clean a.less)

-- ════ any place ════

-- the level of a cut coefficient is its level, cut
pub level_cut : (b : Bool) (p : ℕ) (c : ℤ) → p ≤ 15 → mag c < 32768 → level_of b (cut_at b p c) ≡ cut_level p (level_of b c)
level_cut true p c h l = floor_cut p c h l
level_cut false p c h l = abs_toward p c

-- ════ the law ════

-- from p to a lower position
pub level_gain : (p q n : ℕ) → q ≤ p → cut_level q n ≡ cut_level p n + 2 ^ q * (n % 2 ^ p / 2 ^ q)
level_gain p q n h =
    let k = n % 2 ^ p / 2 ^ q in
    rw (add-sub_of_le h) at (cut_gain q (p - q) n) ∙ ap (λ (x : ℕ). cut_level p n + x) (mul_comm k (2 ^ q))

pub level_law_lem : LevelLaw
level_law_lem = record {
  cut = λ b p c h l. level_cut b p c h l ∙ cut_less p (level_of b c);
  gain = λ b p q c k h l.
      level_cut b q c (omega arith) l ∙ level_gain p q (level_of b c) k ∙ ap (λ (x : ℕ). x + 2 ^ q * (level_of b c % 2 ^ p / 2 ^ q)) (sym (level_cut b p c h l));
  steps = λ p q n h. rw (add-sub_of_le h) at (gain_small q (p - q) n);
  rest = λ p q n h. rw (add-sub_of_le h) at (rest_falls q (p - q) n);
}
