-- A component that is its target cut: place by place, and as lists; then one pass of it, written and read.
use mathlib.Core.Path.{◌≡◌, sym, ap, ◌∙◌, subst₂}
use mathlib.Core.Bool.{Bool, true}
use mathlib.Core.List.{List}
use Prim.Native.Nat.{ℕ, ◌≤◌, ◌<◌}
use native.Mathlib.Omega.{arith}
use borrow.Author.Tests.{le-leb, le-ltb}
use lib.IntN.{ℤ, pos}
use lib.ListN.{length, get_or}
use lib.Seq.{ext_get_or}
use Rattle.bands.specs.Bands.{is_bottom_band, position_of, bands_of}
use Rattle.bands.specs.Positions.{in_domain, row_in_domain}
use Rattle.bands.proofs.Every.{both_pass, each_passes, row_low}
use Rattle.bands.proofs.Spread.{bands_whole}
use Rattle.std.specs.Prelude.{None}
use Rattle.answer.specs.Answers.{long_enough}
use Rattle.upgrade_steps.specs.Steps.{steps, srl_widths, raw_widths}
use Rattle.upgrade_steps.specs.Cut.{cut_component, cut_component_signs}
use Rattle.upgrade_steps.proofs.CutLists.{cut_length, cut_signs_length, cut_at_lem, cut_sign_at_lem}
use Rattle.progressive_encoder.specs.Encode.{symmetric_rule, srl_stream, raw_stream, srl_bytes, raw_bytes, values_fault, pass_fault, no_room_for, encode_pass_refusal}
use Rattle.progressive.specs.CutTrip.{Brings, Alike, CutAsked}
use Rattle.progressive.proofs.AnyRule.{room_decides}
use Rattle.progressive.proofs.CutTrip.{component_brings, component_alike}
use Rattle.fitting.specs.Component.{place_of_lists}
use Rattle.fitting.proofs.Families.{place_path}
use Rattle.ladder.specs.Ladder.{cut_place}

-- ════ by place and by list ════

module _ (e : Bool) (row : List ℕ) (tg ss : List ℤ) (lt : length tg ≡ 4096) (ls : length ss ≡ 4096) where
  pub component_long : length (cut_component e row tg) ≡ 4096
  component_long = cut_length is_bottom_band (position_of row) (bands_of e) tg (omega (arith, lt, bands_whole e)) ∙ bands_whole e

  pub signs_long : length (cut_component_signs e row tg ss) ≡ 4096
  signs_long = cut_signs_length is_bottom_band (position_of row) (bands_of e) tg ss (omega (arith, lt, bands_whole e)) (omega (arith, ls, bands_whole e)) ∙ bands_whole e

  -- what stands at a place of the cut
  pub cut_places_lem : (i : ℕ) → i < 4096
      → place_of_lists (cut_component e row tg) (cut_component_signs e row tg ss) i ≡ cut_place (get_or (bands_of e) i 0) row (get_or tg i (pos 0)) (get_or ss i (pos 0))
  cut_places_lem i h =
      let whole = bands_whole e in
      place_path
      (cut_at_lem is_bottom_band (position_of row) 0 (bands_of e) tg i (omega (arith, whole)) (omega (arith, lt, whole)))
      (cut_sign_at_lem is_bottom_band (position_of row) 0 (bands_of e) tg ss i (omega (arith, whole)) (omega (arith, lt, whole)) (omega (arith, ls, whole)))

  -- lists whose places are those are the cut
  module _ (cs sg : List ℤ) (lc : length cs ≡ 4096) (lg : length sg ≡ 4096)
      (each : (i : ℕ) → i < 4096 → place_of_lists cs sg i ≡ cut_place (get_or (bands_of e) i 0) row (get_or tg i (pos 0)) (get_or ss i (pos 0))) where
    pub coefficients_are : cs ≡ cut_component e row tg
    coefficients_are = ext_get_or (pos 0) cs (cut_component e row tg) (lc ∙ sym component_long) (λ i h. ap (λ x. x.coefficient) (each i (omega (arith, lc)) ∙ sym (cut_places_lem i (omega (arith, lc)))))

    pub signs_are : sg ≡ cut_component_signs e row tg ss
    signs_are = ext_get_or (pos 0) sg (cut_component_signs e row tg ss) (lg ∙ sym signs_long) (λ i h. ap (λ x. x.sign) (each i (omega (arith, lg)) ∙ sym (cut_places_lem i (omega (arith, lg)))))

-- ════ rows that fall stay in the domain ════

pub lower_domain : (p q : List ℕ) → row_in_domain p ≡ true → ((b : ℕ) → position_of q b ≤ position_of p b) → row_in_domain q ≡ true
lower_domain p q d n = each_passes in_domain q 0 (λ i h. le-leb (position_of q i) 15 (omega (arith, n i, row_low p i d)))

-- ════ one pass ════

-- outputs that are long enough cause no refusal
room_for : (a b srlOut rawOut : List ℕ) → length a ≤ length srlOut → length b ≤ length rawOut → no_room_for a srlOut b rawOut ≡ None
room_for a b srlOut rawOut h k = rw (le-ltb (length srlOut) (length a) h, le-ltb (length rawOut) (length b) k)

-- from ps with the signs sg, which are the cut at p with the signs ss, to the cut at q
module _ {p q : List ℕ} {tg ss : List ℤ} (a : CutAsked p q tg ss) (e : Bool) (lt : length tg ≡ 4096) (ls : length ss ≡ 4096)
    {ps sg : List ℤ} (eps : ps ≡ cut_component e p tg) (esg : sg ≡ cut_component_signs e p tg ss) where
  pub brings : Brings (steps e p q) tg ps sg (cut_component e q tg) (cut_component_signs e q tg ss)
  brings = subst₂ (λ (x y : List ℤ). Brings (steps e p q) tg x y (cut_component e q tg) (cut_component_signs e q tg ss)) (sym eps) (sym esg) (component_brings a e)

  alike : Alike (steps e p q) tg (cut_component e q tg) ps sg
  alike = subst₂ (λ (x y : List ℤ). Alike (steps e p q) tg (cut_component e q tg) x y) (sym eps) (sym esg) (component_alike a e)

  -- the writer accepts what gives no fault
  accepts : (cs : List ℤ) → length cs ≡ 4096 → pass_fault symmetric_rule (steps e p q) cs ps sg ≡ None → (srlOut rawOut : List ℕ)
      → length (srl_bytes symmetric_rule (steps e p q) cs ps sg) ≤ length srlOut → length (raw_bytes symmetric_rule (steps e p q) cs ps sg) ≤ length rawOut
      → encode_pass_refusal symmetric_rule cs ps p q sg e srlOut rawOut ≡ None
  accepts cs lc f srlOut rawOut h k =
      let long : (l : List ℤ) → length l ≡ 4096 → long_enough l ≡ true = λ l n. le-leb 4096 (length l) (omega (arith, n)) in
      room_decides symmetric_rule cs ps sg p q e srlOut rawOut (long cs lc) (long ps (ap length eps ∙ component_long e p tg ss lt ls)) (long sg (ap length esg ∙ signs_long e p tg ss lt ls))
      (both_pass (row_in_domain p) (row_in_domain q) a.previous a.current) f
      ∙ room_for (srl_bytes symmetric_rule (steps e p q) cs ps sg) (raw_bytes symmetric_rule (steps e p q) cs ps sg) srlOut rawOut h k

  pub from_target : (srlOut rawOut : List ℕ)
      → length (srl_bytes symmetric_rule (steps e p q) tg ps sg) ≤ length srlOut → length (raw_bytes symmetric_rule (steps e p q) tg ps sg) ≤ length rawOut
      → encode_pass_refusal symmetric_rule tg ps p q sg e srlOut rawOut ≡ None
  from_target = accepts tg lt brings.sent.srl_fits

  -- the target that is cut already: the same bytes, and accepted too
  pub srl_alike : srl_bytes symmetric_rule (steps e p q) (cut_component e q tg) ps sg ≡ srl_bytes symmetric_rule (steps e p q) tg ps sg
  srl_alike = ap (srl_stream (srl_widths (steps e p q) sg)) alike.values

  pub raw_alike : raw_bytes symmetric_rule (steps e p q) (cut_component e q tg) ps sg ≡ raw_bytes symmetric_rule (steps e p q) tg ps sg
  raw_alike = ap (raw_stream (raw_widths (steps e p q) sg)) alike.numbers

  pub from_cut : (srlOut rawOut : List ℕ)
      → length (srl_bytes symmetric_rule (steps e p q) (cut_component e q tg) ps sg) ≤ length srlOut
      → length (raw_bytes symmetric_rule (steps e p q) (cut_component e q tg) ps sg) ≤ length rawOut
      → encode_pass_refusal symmetric_rule (cut_component e q tg) ps p q sg e srlOut rawOut ≡ None
  from_cut =
      accepts (cut_component e q tg) (component_long e q tg ss lt ls)
      (ap (values_fault (srl_widths (steps e p q) sg)) alike.values ∙ brings.sent.srl_fits)
