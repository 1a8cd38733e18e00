-- Laws of a look over the places of a pass: both lists together, and what they say when all places are looked at. Assumes nothing.
use mathlib.Core.Path.{sym, ◌∙◌}
use mathlib.Core.Bool.{or-false}
use mathlib.Core.List.{List, [], append-nil}
use Prim.Native.Nat.{ℕ, ◌≤◌}
use native.Mathlib.Omega.{arith}
use Rattle.bits.specs.Written.{bits_of_all}
use Rattle.srl_encoder.specs.Finish.{stream_bits}
use Rattle.progressive_encoder.specs.Encode.{any_too_large}
use Rattle.progressive_encoder.specs.Inner.{Lists, GoesOver, WentOver, held, number_bits, events_then, any_event_too_large, event_values, Each, ListsNumbers, FewWords, ListsEvents, FewEvents, Looked, looked_by, nothing_found, Looks, FewFound, FoundAll}
use Rattle.progressive_encoder.proofs.Placewise.{Placewise}
use Rattle.progressive_encoder.proofs.ListedNumbers.{numbers_placewise}
use Rattle.progressive_encoder.proofs.ListedEvents.{events_placewise}

-- what is found of some places and then of others is found of both
pub looks_placewise : Placewise Looks
looks_placewise = record {
  none = λ x. record { numbers = numbers_placewise.none x.numbers; events = events_placewise.none x.events };
  then = λ a b x y z p q. record {
    numbers = numbers_placewise.then a b x.numbers y.numbers z.numbers p.numbers q.numbers;
    events = events_placewise.then a b x.events y.events z.events p.events q.events;
  };
}

-- what some places can amount to, more can
pub found_on : (x : Looked) (i j : ℕ) → i ≤ j → FewFound x i → FewFound x j
found_on x i j h f = record {
  numbers = record { few = omega (arith, f.numbers.few); all = f.numbers.all };
  events = record { few = omega (arith, f.events.few); zeros = omega (arith, f.events.zeros); all = f.events.all };
}

-- both lists of the same places
pub looks_both : (l : Lists) (k : ℕ) (x y : Looked) → GoesOver ListsNumbers FewWords l k x.numbers y.numbers → GoesOver ListsEvents FewEvents l k x.events y.events → GoesOver Looks FewFound l k x y
looks_both l k x y f g = record {
  over = record { numbers = f.over; events = g.over };
  bound = λ n b. record { numbers = f.bound n b.numbers; events = g.bound n b.events };
}

-- before the first place
pub none_found : (raws words : List ℕ) → FewFound (looked_by raws words nothing_found) 0
none_found raws words = record {
  numbers = record { few = omega arith; all = Each.none };
  events = record { few = omega arith; zeros = omega arith; all = Each.none };
}

-- when all places are looked at
pub found_all : (l : Lists) (raws words : List ℕ) (y : Looked) → WentOver Looks FewFound l 4096 (looked_by raws words nothing_found) y → FoundAll l y
unfolding stream_bits any_too_large bits_of_all number_bits events_then any_event_too_large event_values
found_all l raws words y w =
    let e = w.over.events in
    let n = w.over.numbers in
    let ws = append-nil l.widths in
    let vs = append-nil l.values in
    record {
      srl_bits_lem = sym (λ i. stream_bits 8 0 (ws i) (vs i)) ∙ e.bits [] [];
      large = sym (λ i. any_too_large (ws i) (vs i)) ∙ e.large [] [] ∙ or-false (any_event_too_large (held y.events.words));
      count = omega (arith, e.count);
      raw_bits_lem = sym (λ i. bits_of_all (append-nil l.number_widths i) (append-nil l.numbers i)) ∙ n.bits [] [] ∙ append-nil (number_bits (held y.numbers));
      few = w.bound;
    }
