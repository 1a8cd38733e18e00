-- `progressive_encoder::measure::measure_lists` meets its contract. Assumes nothing.
use mathlib.Core.Path.{refl, ap, sym, ◌∙◌}
use Prim.Native.Nat.{◌+◌, ◌/◌}
use native.Mathlib.Omega.{arith}
use lib.ListN.{length}
use Rattle.srl_encoder.specs.Finish.{flush}
use Rattle.progressive_encoder.specs.Inner.{looked_by, srl_length}
use Rattle.progressive_encoder.proofs.StreamLengths.{srl_length_is, raw_length_is}
use Rattle.progressive_encoder.proofs.measure.measure_lists.Goals as goal

pub returns : goal.returns
returns c = λ l f.
    let a = c.args in
    let p = c.requires in
    let y = looked_by a.raws.now a.words.now a.found in
    let m = c.measure_events-measured.ensures in
    record {
      large = m.large ∙ sym f.large;
      srl =
          c.srl_length.ensures
          ∙ (λ i. srl_length (a.found.events.count + a.found.events.zeros) (m.bits i + length (flush (m.kp i) a.found.events.zeros)))
          ∙ srl_length_is l y f (omega (arith, p.1.events.few, p.0.events)) (a.found.events.count + a.found.events.zeros) refl;
      raw = ap (λ n. (n + 7) / 8) c.number_bits-raw.ensures.0 ∙ raw_length_is l y f;
    }
