-- `srl_encoder::encoder::largest_magnitude` meets its contract. Assumes nothing.
use native.Mathlib.Omega.{arith}
use Rattle.std.proofs.Common.{rules, ◌≡◌, length, ◌∙◌}
use Rattle.std.specs.Prelude.{MatchOption}
use Rattle.srl_encoder.specs.Inner.{largest}
use Rattle.srl_encoder.proofs.Sizes.{IsLargest, largest_lem}
use Rattle.srl_encoder.proofs.encoder.largest_magnitude.Goals as goal

-- what follows from a fact, and then the fact: in this order a wrong answer is seen by its number
by_fact : {A B : Type 0} → (A → B) → A → B
by_fact f a = f a

pub returns : goal.returns
returns c =
    let vs = c.args.values.now in
    by_fact (λ (all : c.unwrap_or.result ≡ largest vs). omega (arith, all))
    (let most : MatchOption c.max.result (length vs ≡ 0) (IsLargest vs) = search rules in c.unwrap_or.ensures ∙ largest_lem vs c.max.result most)
