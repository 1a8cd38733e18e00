-- The theorem, by induction over the list of passes: whatever the streams hold (`always`), and all of it (`whole`).
use mathlib.Core.Path.{◌≡◌, refl, sym, ap, ◌∙◌, subst}
use mathlib.Core.Bool.{Bool, true, false, ◌&&◌}
use mathlib.Core.List.{List, [], ◌∷◌}
use Prim.Native.Nat.{ℕ, zero, suc}
use native.Mathlib.Omega.{arith}
use Rattle.bands.specs.Bands.{bands_of}
use Rattle.bands.specs.Positions.{row_in_domain, rows_in_domain}
use Rattle.std.specs.Prelude.{Option, None, Some}
use Rattle.std.specs.Result.{result_err}
use Rattle.answer.specs.Answers.{unless, answered, unless_refused}
use Rattle.answer.specs.declared.Refusal.{Refusal}
use Rattle.answer.specs.declared.Refusal.TheVariants.{OutOfDomain}
use Rattle.answer.proofs.Refusing.{some_not_none}
use Rattle.planes.specs.Planes.{component, row_of, joined, of, three}
use Rattle.tile.specs.Tile.{upgraded, rows_refusal, upgrade_refusal}
use Rattle.tile.specs.declared.TileState.{TileState}
use Rattle.tile.proofs.Accepted.{by_rows}
use Rattle.zero_signs.specs.ZeroSigns.{zero_signs_of}
use Rattle.reach.specs.Component.{ComponentGains}
use Rattle.reach.specs.Reach.{TileFits, Pass, Call, after_call, after_calls, answers_to, answers_by, passes_of, ThreeRows, AllRows, last_rows, Lower, NoRaise, last_of, Picture, picture_of, TileGains, ThreeStreams, AllStreams, Reached, Exact, ReachablePictures}
use Rattle.reach.proofs.Tiles.{tile_refl, tile_same, step_fits, step_trans, step_whole, StreamsTo, Halfway, halfway}

-- an accepted pass has its rows in the domain
accepted_rows : (a b : Bool) → unless (a && b) OutOfDomain ≡ None → a ≡ true
accepted_rows true b e = refl
accepted_rows false b e = absurd (some_not_none e)

-- the tile that a call gives by its refusal, and its positions
abbrev given : Option Refusal → TileState → Call → TileState
given n t k = unless_refused n (upgraded t k.srl_data k.raw_data k.pass.rows k.pass.quality) t

abbrev positions_by : Option Refusal → TileState → Pass → List ℕ
positions_by n t o = unless_refused n (joined (of o.rows)) t.prog_quant

-- ════ whatever the streams hold ════

-- the result is of the kind, and it fits
pub record Holds (t : TileState) (last : List ℕ) (u : TileState) : Type 0 where
  pub kind : TileGains t last (picture_of u)
  pub positions : u.prog_quant ≡ last
  pub fits : TileFits u

module _ (k : Call) (ks : List Call) {t : TileState} (f : TileFits t) (w : ThreeRows k.pass.rows)
    (ih : (u : TileState) → TileFits u → NoRaise u.base_quant u.prog_quant (passes_of ks) → Holds u (last_of u (passes_of ks)) (after_calls u ks)) where
  always_step : (n : Option Refusal) → (n ≡ None → rows_in_domain k.pass.rows ≡ true) → (n ≡ None → Lower t.prog_quant (joined (of k.pass.rows)))
      → NoRaise t.base_quant (positions_by n t k.pass) (passes_of ks)
      → Holds t (last_rows t.base_quant (positions_by n t k.pass) (passes_of ks)) (after_calls (given n t k) ks)
  unfolding upgraded
  always_step None d l r =
      let u = given None t k in
      let h = ih u (step_fits f k.pass w (l refl) (d refl) k.srl_data k.raw_data) r in
      record { kind = step_trans f k.pass w (l refl) k.srl_data k.raw_data (last_of u (passes_of ks)) (picture_of (after_calls u ks)) h.kind; positions = h.positions; fits = h.fits }
  always_step (Some n) d l r = ih t f r

refusal_rows : (positions quants : List ℕ) (o : Pass) → rows_refusal positions quants o.rows ≡ None → rows_in_domain o.rows ≡ true
refusal_rows positions quants o e = accepted_rows (rows_in_domain o.rows) (row_in_domain positions && row_in_domain quants) e

always : (ks : List Call) (t : TileState) → TileFits t → AllRows (passes_of ks) → NoRaise t.base_quant t.prog_quant (passes_of ks) → Holds t (last_of t (passes_of ks)) (after_calls t ks)
unfolding last_rows NoRaise after_calls
always [] t f w n = record { kind = tile_refl f; positions = refl; fits = f }
always (k ∷ ks) t f (AllRows.one w ws) n =
    subst (λ (m : Option Refusal). Holds t (last_of t (passes_of (k ∷ ks))) (after_calls (given m t k) ks)) (sym (by_rows t f.numbers k.pass.rows))
    (always_step k ks f w (λ u g r. always ks u g ws r) (rows_refusal t.prog_quant t.base_quant k.pass.rows)
    (refusal_rows t.prog_quant t.base_quant k.pass) n.0 n.1)

-- ════ and all of it ════

-- streams for a refused pass: none
no_streams : List (List ℕ)
no_streams = three [] [] []

nothing : (k : ℕ) → of no_streams k ≡ []
unfolding no_streams
nothing zero = refl
nothing (suc zero) = refl
nothing (suc (suc zero)) = refl
nothing (suc (suc (suc k))) = refl

three_empty : ThreeStreams no_streams
unfolding no_streams
three_empty = record { three = refl; bytes = λ k h i. rw (nothing k) (omega arith); short = λ k h. rw (nothing k) (omega arith) }

-- a first pass, and the rest
record First (n : Option Refusal) (t : TileState) (o : Pass) (os : List Pass) (x : Picture) : Type 0 where
  srl_data : List (List ℕ)
  raw_data : List (List ℕ)
  srl : ThreeStreams srl_data
  raw : ThreeStreams raw_data
  rest : Reached (given n t (record { pass = o; srl_data = srl_data; raw_data = raw_data })) os x

module _ (o : Pass) (os : List Pass) {t : TileState} (f : TileFits t) (w : ThreeRows o.rows) (x : Picture)
    (ih : (u : TileState) → TileFits u → NoRaise u.base_quant u.prog_quant os → TileGains u (last_of u os) x → Reached u os x) where
  whole_step : (n : Option Refusal) → (n ≡ None → rows_in_domain o.rows ≡ true) → (n ≡ None → Lower t.prog_quant (joined (of o.rows)))
      → NoRaise t.base_quant (positions_by n t o) os → TileGains t (last_rows t.base_quant (positions_by n t o) os) x → First n t o os x
  unfolding upgraded
  whole_step (Some n) d l r g = record { srl_data = no_streams; raw_data = no_streams; srl = three_empty; raw = three_empty; rest = ih t f r g }
  whole_step None d l r g = record { srl_data = s.srl_data; raw_data = s.raw_data; srl = s.srl; raw = s.raw; rest = ih u (step_fits f o w (l refl) (d refl) s.srl_data s.raw_data) r here }
    where
      last : List ℕ
      last = last_rows t.base_quant (joined (of o.rows)) os

      m : Halfway f o w (l refl) last x
      m = halfway f o w (l refl) last x g

      s : StreamsTo f o w (l refl) m.mid
      s = step_whole f o w (l refl) m.mid m.before

      u : TileState
      u = upgraded t s.srl_data s.raw_data o.rows o.quality

      here : TileGains u last x
      here = record {
        coefficients = g.coefficients;
        sign = g.sign;
        numbers = g.numbers;
        each = λ k h. subst
            (λ (y : Picture). ComponentGains (bands_of t.use_reduce_extrapolate) (row_of k (joined (of o.rows))) (row_of k last) (component k y.coefficients) (component k y.sign) (component k x.coefficients) (component k x.sign))
            (sym s.gives) (m.behind k h);
      }

whole : (os : List Pass) (t : TileState) → TileFits t → AllRows os → (x : Picture) → NoRaise t.base_quant t.prog_quant os → TileGains t (last_of t os) x → Reached t os x
unfolding last_rows NoRaise after_calls
whole [] t f w x n g = record { calls = []; streams = AllStreams.none; same = refl; gives = tile_same f x g }
whole (o ∷ os) t f (AllRows.one w ws) x n g =
    join (subst (λ (m : Option Refusal). First m t o os x) (sym (by_rows t f.numbers o.rows))
    (whole_step o os f w x (λ u h r k. whole os u h ws x r k) (rows_refusal t.prog_quant t.base_quant o.rows)
    (refusal_rows t.prog_quant t.base_quant o) n.0 n.1 g))
  where
    join : First (upgrade_refusal t o.rows) t o os x → Reached t (o ∷ os) x
    join r = record {
      calls = record { pass = o; srl_data = r.srl_data; raw_data = r.raw_data } ∷ r.rest.calls;
      streams = AllStreams.one r.srl r.raw r.rest.streams;
      same = ap (λ (os : List Pass). o ∷ os) r.rest.same;
      gives = r.rest.gives;
    }

-- ════ answers, by the rows alone ════

-- numbers that are right
abbrev pub Right : TileState → Type 0
Right t = t.zero_signs ≡ zero_signs_of t.use_reduce_extrapolate t.sign

answers_step : (n : Option Refusal) (k : Call) (ks : List Call) (t : TileState) → Right t → ((u : TileState) → Right u → answers_to u ks ≡ answers_by u.base_quant u.prog_quant (passes_of ks))
    → answers_to (given n t k) ks ≡ answers_by t.base_quant (positions_by n t k.pass) (passes_of ks)
unfolding upgraded
answers_step None k ks t r ih = ih (given None t k) refl
answers_step (Some n) k ks t r ih = ih t r

refused_by : {A : Type 0} (n : Option Refusal) (given : A) → result_err (answered n given) ≡ n
refused_by None given = refl
refused_by (Some n) given = refl

pub answers : (ks : List Call) (t : TileState) → Right t → answers_to t ks ≡ answers_by t.base_quant t.prog_quant (passes_of ks)
unfolding answers_to answers_by
answers [] t r = refl
answers (k ∷ ks) t r =
    let n = rows_refusal t.prog_quant t.base_quant k.pass.rows in
    ap (λ (m : Option Refusal). m ∷ answers_to (after_call t k) ks) (refused_by (upgrade_refusal t k.pass.rows) _)
    ∙ ap (λ (m : Option Refusal). m ∷ answers_to (given m t k) ks) (by_rows t r k.pass.rows)
    ∙ ap (λ (l : List (Option Refusal)). n ∷ l) (answers_step n k ks t r (answers ks))

-- ════ the theorem ════

module _ {t : TileState} (f : TileFits t) {os : List Pass} (w : AllRows os) (n : NoRaise t.base_quant t.prog_quant os) where
  -- whatever the streams hold, a list of passes of which none raises a position leads to a tile of the kind, at the last positions
  pub along : (ks : List Call) → passes_of ks ≡ os → Holds t (last_of t os) (after_calls t ks)
  along ks e = subst (λ (os : List Pass). Holds t (last_of t os) (after_calls t ks)) e
      (always ks t f (subst AllRows (sym e) w) (subst (λ (os : List Pass). NoRaise t.base_quant t.prog_quant os) (sym e) n))

  exact : Exact t os
  exact = record {
    always = λ ks e. (along ks e).kind;
    answers = λ ks e. answers ks t f.numbers ∙ ap (answers_by t.base_quant t.prog_quant) e;
    positions = λ ks e. (along ks e).positions;
    reached = λ x. (λ r. subst (λ (y : Picture). TileGains t (last_of t os) y) r.gives (along r.calls r.same).kind, whole os t f w x n);
  }

-- the theorem: what a list of passes reaches is exactly what the kind has
pub reachable_pictures_lem : ReachablePictures
reachable_pictures_lem = record { exact = λ t f os w n. exact f w n }
