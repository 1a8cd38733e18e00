-- A pass over a tile that is its target cut, then any list of them. sg has the signs of the bottom, which stay.
use mathlib.Core.Path.{◌≡◌, refl, sym, ap, ap₂, ◌∙◌, subst}
use mathlib.Core.Bool.{Bool, true}
use mathlib.Core.List.{List, [], ◌∷◌}
use Prim.Native.Nat.{ℕ, zero, suc, ◌+◌, ◌*◌, ◌≤◌, ◌<◌}
use native.Mathlib.Omega.{arith}
use lib.IntN.{ℤ, pos}
use lib.ListN.{length, get_or, drop, replicate, length-take}
use lib.Seq.{get_or-take, get_or-drop}
use lib.Signed.{mag}
use Rattle.bands.specs.Bands.{position_of}
use Rattle.bands.specs.Positions.{row_in_domain, rows_in_domain, in_domain}
use Rattle.bands.proofs.Every.{each_passes, part_passes}
use Rattle.std.specs.Prelude.{Option, None}
use Rattle.std.specs.Result.{result_err}
use Rattle.answer.specs.Answers.{answered, unless_refused}
use Rattle.answer.specs.declared.Refusal.{Refusal}
use Rattle.upgrade_steps.specs.Cut.{cut_component, cut_component_signs}
use Rattle.progressive_decoder.specs.Upgrade.{upgraded_coefficients, upgraded_signs}
use Rattle.progressive_decoder.specs.declared.MissingBits.{MissingBits}
use Rattle.progressive.specs.CutTrip.{Brings, CutAsked}
use Rattle.components.specs.Components.{steps_of, pass_coefficients, pass_signs}
use Rattle.planes.specs.Planes.{component, row_of, joined, of}
use Rattle.planes.proofs.Joined.{three_of_lem, Long, joined_long, parts_long, component_joined}
use Rattle.zero_signs.specs.ZeroSigns.{zero_signs_of}
use Rattle.tile.specs.Tile.{upgraded, rows_refusal, upgrade_refusal, upgrade_missing}
use Rattle.tile.specs.declared.TileState.{TileState}
use Rattle.tile.proofs.Accepted.{by_rows}
use Rattle.reach.specs.Reach.{Pass, Call, after_call, after_calls, answers_to, ThreeRows, AllRows, Lower}
use Rattle.reach.proofs.Tiles.{given_row, rows_in_domain_lem, lower_row}
use Rattle.ladder.specs.Ladder.{IsTarget, srl_written, raw_written, call_for, calls_for, Lowering, last_positions, sharpened, WritesBoth, EachWrite}
use Rattle.ladder.proofs.CutPlaces.{component_long, signs_long, lower_domain, brings, from_target, from_cut, srl_alike, raw_alike}

-- ════ sixteen-bit numbers ════

-- a list of sixteen-bit numbers
abbrev pub Narrow : List ℤ → Type 0
Narrow l = (i : ℕ) → mag (get_or l i (pos 0)) < 32768

-- past its end it reads as zeros
pub narrow_within : (l : List ℤ) → ((i : ℕ) → i < length l → mag (get_or l i (pos 0)) < 32768) → Narrow l
narrow_within [] h i = omega arith
narrow_within (x ∷ l) h zero = h zero (omega arith)
narrow_within (x ∷ l) h (suc i) = narrow_within l (λ j n. h (suc j) (omega arith)) i

-- a component of one is one
pub part_range : (k : ℕ) (l : List ℤ) → Narrow l → Narrow (component k l)
part_range k l r = narrow_within (component k l) by
  where
    by : (i : ℕ) → i < length (component k l) → mag (get_or (component k l) i (pos 0)) < 32768
    by i n =
        let h : i < 4096 = omega (arith, length-take 4096 (drop (k * 4096) l)) in
        subst (λ (z : ℤ). mag z < 32768) (sym (get_or-take 4096 (drop (k * 4096) l) i (pos 0) h ∙ get_or-drop (k * 4096) l i (pos 0))) (r (k * 4096 + i))

-- ════ rows that fall are accepted ════

module _ (positions : List ℕ) (d : row_in_domain positions ≡ true) (rows : List (List ℕ)) (w : ThreeRows rows) (l : Lower positions (joined (of rows))) where
  row_domain : (k : ℕ) → row_in_domain (row_of k positions) ≡ true
  row_domain k = part_passes in_domain 10 (k * 10) positions d

  not_above : (k : ℕ) → k < 3 → (b : ℕ) → position_of (of rows k) b ≤ position_of (row_of k positions) b
  not_above k m b = subst (λ (q : List ℕ). position_of q b ≤ position_of (row_of k positions) b) (given_row rows w k m) (lower_row positions (joined (of rows)) l k m b)

  given_domain : (k : ℕ) → k < 3 → row_in_domain (of rows k) ≡ true
  given_domain k m = lower_domain (row_of k positions) (of rows k) (row_domain k) (not_above k m)

  rows_domain : rows_in_domain rows ≡ true
  rows_domain = each_passes row_in_domain rows [] (λ k m. given_domain k (omega (arith, w.three)))

  not_refused : (quants : List ℕ) → row_in_domain quants ≡ true → rows_refusal positions quants rows ≡ None
  not_refused quants q = rw (rows_domain, d, q)

-- ════ what stays along a ladder ════

-- a tile whose components are the target cut at its positions, with the signs sg in the bottom
pub record CutBy (target : List ℤ) (sg : ℕ → List ℤ) (t : TileState) : Type 0 where
  pub rows : length t.prog_quant ≡ 30
  pub positions : row_in_domain t.prog_quant ≡ true
  pub quantizers : row_in_domain t.base_quant ≡ true
  pub numbers : t.zero_signs ≡ zero_signs_of t.use_reduce_extrapolate t.sign
  pub long : length t.coefficients ≡ 12288
  pub signs_long : length t.sign ≡ 12288
  pub coefficients : (k : ℕ) → k < 3
      → component k t.coefficients ≡ cut_component t.use_reduce_extrapolate (row_of k t.prog_quant) (component k target)
  pub signs : (k : ℕ) → k < 3
      → component k t.sign ≡ cut_component_signs t.use_reduce_extrapolate (row_of k t.prog_quant) (component k target) (sg k)

module _ {target : List ℤ} (aim : IsTarget target) (sg : ℕ → List ℤ) (long : Long 4096 sg) where
  part_long : (k : ℕ) → k < 3 → length (component k target) ≡ 4096
  part_long = parts_long 4096 target aim.whole

  -- ════ one pass ════

  module _ {t : TileState} (h : CutBy target sg t) (o : Pass) (w : ThreeRows o.rows) (l : Lower t.prog_quant (joined (of o.rows))) where
    e : Bool
    e = t.use_reduce_extrapolate

    asked : (k : ℕ) → k < 3 → CutAsked (row_of k t.prog_quant) (of o.rows k) (component k target) (sg k)
    asked k m = record {
      coefficients_long = omega (arith, part_long k m);
      signs_long = omega (arith, long k m);
      sixteen_bits = part_range k target aim.sixteen_bits;
      previous = row_domain t.prog_quant h.positions o.rows w l k;
      current = given_domain t.prog_quant h.positions o.rows w l k m;
      no_raise = not_above t.prog_quant h.positions o.rows w l k m;
    }

    -- what component k becomes
    brought : (k : ℕ) → k < 3
        → Brings (steps_of e t.prog_quant o.rows k) (component k target) (component k t.coefficients) (component k t.sign)
        (cut_component e (of o.rows k) (component k target)) (cut_component_signs e (of o.rows k) (component k target) (sg k))
    unfolding e
    brought k m = brings (asked k m) e (part_long k m) (long k m) (h.coefficients k m) (h.signs k m)

    -- the writer's call for it
    writes : (k : ℕ) → k < 3 → WritesBoth target t o.rows k
    unfolding e
    writes k m = record {
      from_target = record {
        accepted = from_target (asked k m) e (part_long k m) (long k m) (h.coefficients k m) (h.signs k m);
        srl = refl;
        raw = refl;
      };
      from_cut = record {
        accepted = from_cut (asked k m) e (part_long k m) (long k m) (h.coefficients k m) (h.signs k m);
        srl = srl_alike (asked k m) e (part_long k m) (long k m) (h.coefficients k m) (h.signs k m);
        raw = raw_alike (asked k m) e (part_long k m) (long k m) (h.coefficients k m) (h.signs k m);
      };
    }

    c : Call
    c = call_for target t o

    coefficients : ℕ → List ℤ
    coefficients k = upgraded_coefficients (steps_of e t.prog_quant o.rows k) (of c.srl_data k) (of c.raw_data k) (component k t.coefficients) (component k t.sign)

    signs : ℕ → List ℤ
    signs k = upgraded_signs (steps_of e t.prog_quant o.rows k) (of c.srl_data k) (component k t.sign)

    coefficients_are : (k : ℕ) → k < 3 → coefficients k ≡ cut_component e (of o.rows k) (component k target)
    unfolding coefficients c e
    coefficients_are k m =
        ap₂ (λ (x y : List ℕ). upgraded_coefficients (steps_of e t.prog_quant o.rows k) x y (component k t.coefficients) (component k t.sign)) (three_of_lem (λ k. srl_written (component k target) t o.rows k) k m) (three_of_lem (λ k. raw_written (component k target) t o.rows k) k m)
        ∙ (brought k m).coefficients

    signs_are : (k : ℕ) → k < 3 → signs k ≡ cut_component_signs e (of o.rows k) (component k target) (sg k)
    unfolding signs c e
    signs_are k m =
        ap (λ (x : List ℕ). upgraded_signs (steps_of e t.prog_quant o.rows k) x (component k t.sign)) (three_of_lem (λ k. srl_written (component k target) t o.rows k) k m)
        ∙ (brought k m).signs

    long_coefficients : Long 4096 coefficients
    long_coefficients k m = ap length (coefficients_are k m) ∙ component_long e (of o.rows k) (component k target) (sg k) (part_long k m) (long k m)

    long_signs : Long 4096 signs
    long_signs k m = ap length (signs_are k m) ∙ signs_long e (of o.rows k) (component k target) (sg k) (part_long k m) (long k m)

    u : TileState
    u = upgraded t c.srl_data c.raw_data o.rows o.quality

    -- it is the target cut at the rows of the pass
    next : CutBy target sg u
    unfolding u upgraded pass_coefficients pass_signs coefficients signs e
    next = record {
      rows = joined_long 10 (of o.rows) w.ten;
      positions = rows_in_domain_lem o.rows w (rows_domain t.prog_quant h.positions o.rows w l);
      quantizers = h.quantizers;
      numbers = refl;
      long = joined_long 4096 coefficients long_coefficients;
      signs_long = joined_long 4096 signs long_signs;
      coefficients = λ k m. component_joined coefficients long_coefficients k m ∙ coefficients_are k m
          ∙ ap (λ (q : List ℕ). cut_component e q (component k target)) (sym (given_row o.rows w k m));
      signs = λ k m. component_joined signs long_signs k m ∙ signs_are k m
          ∙ ap (λ (q : List ℕ). cut_component_signs e q (component k target) (sg k)) (sym (given_row o.rows w k m));
    }

    none : upgrade_refusal t o.rows ≡ None
    none = by_rows t h.numbers o.rows ∙ not_refused t.prog_quant h.positions o.rows w l t.base_quant h.quantizers

    u_is : after_call t (call_for target t o) ≡ u
    unfolding u c
    u_is = ap (λ (n : Option Refusal). unless_refused n u t) none

    rows_are : (after_call t (call_for target t o)).prog_quant ≡ joined (of o.rows)
    unfolding u upgraded
    rows_are = ap (λ (v : TileState). v.prog_quant) u_is

    layout_is : (after_call t (call_for target t o)).use_reduce_extrapolate ≡ t.use_reduce_extrapolate
    unfolding u upgraded
    layout_is = ap (λ (v : TileState). v.use_reduce_extrapolate) u_is

  -- ════ any list of them ════

  -- the bits that a pass of it misses
  abbrev missed : TileState → Pass → MissingBits
  missed t o = upgrade_missing t (call_for target t o).srl_data (call_for target t o).raw_data o.rows

  -- what a ladder comes to
  pub record Climbed (t : TileState) (os : List Pass) : Type 0 where
    pub written : EachWrite (WritesBoth target) target t os
    pub read : answers_to t (calls_for target t os) ≡ replicate (length os) None
    pub positions : (sharpened target t os).prog_quant ≡ last_positions t.prog_quant os
    pub layout : (sharpened target t os).use_reduce_extrapolate ≡ t.use_reduce_extrapolate
    pub state : CutBy target sg (sharpened target t os)

  pub climb : (os : List Pass) (t : TileState) → CutBy target sg t → AllRows os → Lowering t.prog_quant os → Climbed t os
  unfolding calls_for Lowering last_positions EachWrite after_calls answers_to
  climb [] t h w l = record { written = tt; read = refl; positions = refl; layout = refl; state = h }
  climb (o ∷ os) t h (AllRows.one w ws) l =
      let v = after_call t (call_for target t o) in
      let rows = rows_are h o w l.0 in
      let r = climb os v (subst (CutBy target sg) (sym (u_is h o w l.0)) (next h o w l.0)) ws (subst (λ (p : List ℕ). Lowering p os) (sym rows) l.1) in
      record {
        written = (writes h o w l.0, r.written);
        read = ap₂ (λ (n : Option Refusal) (rs : List (Option Refusal)). result_err (answered n (missed t o)) ∷ rs) (none h o w l.0) r.read;
        positions = r.positions ∙ ap (λ (p : List ℕ). last_positions p os) rows;
        layout = r.layout ∙ layout_is h o w l.0;
        state = r.state;
      }
