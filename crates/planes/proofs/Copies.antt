-- The first elements of three lists copied into a fourth, one after another. For every type of element.
use mathlib.Core.Path.{◌≡◌, ap, ◌∙◌}
use mathlib.Core.List.{List}
use Prim.Native.Nat.{zero, suc, ◌≤◌}
use native.Mathlib.Omega.{arith}
use borrow.Rule.Slice.PartMut.{put_mid, same_len_mid}
use lib.ListN.{length, take, drop, length-drop}
use lib.Seq.{length-take-le}
use Rattle.std.proofs.lemmas.Slice.{drop-put_mid}
use Rattle.planes.specs.Planes.{three, of, taken}
use Rattle.planes.proofs.Joined.{Long, put_all}

-- where the first two have kept their lengths there is room for the third
pub third_room : {A : Type 0} (l a b : List A) → length l ≡ 12288 → length a ≡ length (take 4096 l) → length b ≡ length (take 4096 (drop 4096 (put_mid 0 4096 l a)))
    → length (take 4096 (drop 8192 (put_mid 4096 4096 (put_mid 0 4096 l a) b))) ≡ 4096
third_room {A} l a b h p q =
    let front = put_mid 0 4096 l a in
    let whole : length front ≡ length l = same_len_mid 0 4096 l a p in
    let first : length a ≡ 4096 = p ∙ length-take-le 4096 l (omega arith) in
    let second : length b ≡ 4096 = q ∙ length-take-le 4096 (drop 4096 front) (omega (arith, whole, length-drop 4096 front)) in
    let behind : drop 8192 (put_mid 4096 4096 front b) ≡ drop 8192 l =
    drop-put_mid 4096 4096 front b 8192 (omega arith) (omega (arith, whole)) second
    ∙ drop-put_mid 0 4096 l a 8192 (omega arith) (omega arith) first in
    ap (λ (x : List A). length (take 4096 x)) behind ∙ length-take-le 4096 (drop 8192 l) (omega (arith, length-drop 8192 l))

module _ {A : Type 0} (y cb cr into : List A) (room : length into ≡ 12288) (enoughY : 4096 ≤ length y) (enoughCb : 4096 ≤ length cb) (enoughCr : 4096 ≤ length cr) where
  -- each of the three is long enough
  enough : Long 4096 (λ k. take 4096 (of (three y cb cr) k))
  enough zero h = length-take-le 4096 y enoughY
  enough (suc zero) h = length-take-le 4096 cb enoughCb
  enough (suc (suc zero)) h = length-take-le 4096 cr enoughCr
  enough (suc (suc (suc k))) h = absurd (omega arith)

  pub takes_three : {a b c : List A} → a ≡ take 4096 y → b ≡ take 4096 cb → c ≡ take 4096 cr → put_mid 8192 4096 (put_mid 4096 4096 (put_mid 0 4096 into a) b) c ≡ taken (three y cb cr)
  takes_three p q r = put_all 4096 (λ k. take 4096 (of (three y cb cr) k)) enough into room p q r
