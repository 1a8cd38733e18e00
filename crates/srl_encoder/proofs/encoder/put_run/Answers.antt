-- `srl_encoder::encoder::put_run` meets its contract: zeros, and then one number. Assumes nothing.
use mathlib.Core.Path.{ap, ◌∙◌}
use mathlib.Core.Bool.{true, false}
use mathlib.Core.List.{◌∷◌}
use Prim.Native.Nat.{◌+◌, ◌/◌}
use lib.ListN.{replicate}
use Rattle.bits.specs.Written.{bits_of}
use Rattle.bits.proofs.Words.{words_then, words_renamed}
use Rattle.srl_encoder.proofs.Runs.{plan_end}
use Rattle.srl_encoder.proofs.encoder.put_run.Goals as goal

pub returns : goal.returns
returns c =
    let a = c.args in
    let pre = c.requires in
    let r = a.r in
    let z = c.put_zero_words-zeros in
    words_then a.out.now a.k (replicate r.steps false) (true ∷ bits_of (r.kp / 8) r.rest) z.ensures
    (words_renamed z.new.out z.result (ap (λ x. bits_of (r.kp / 8 + 1) (x + r.rest)) c.run_size.ensures ∙ plan_end (r.kp / 8) r.rest pre.2.1) c.put_word.ensures)
