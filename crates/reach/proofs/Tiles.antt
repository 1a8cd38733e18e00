-- One pass over a tile: what it gives, and that all of that is given by some streams. A tile by its three components.
use mathlib.Core.Path.{◌≡◌, refl, sym, ap, ap₂, ◌∙◌, subst}
use mathlib.Core.Bool.{Bool, true}
use mathlib.Core.List.{List, [], ◌++◌, map}
use Prim.Native.Nat.{ℕ, zero, suc, ◌+◌, ◌*◌, ◌≤◌, ◌<◌}
use native.Mathlib.Bridge.{le_prop}
use native.Mathlib.Decide.{dec_lt}
use native.Mathlib.Omega.{arith}
use lib.IntN.{ℤ}
use lib.ListN.{length, get_or, drop, length-take, get_or-eq_default}
use lib.Seq.{get_or-take, get_or-drop}
use Rattle.bands.specs.Bands.{bands_of, position_of}
use Rattle.bands.specs.Positions.{in_domain, row_in_domain, rows_in_domain}
use Rattle.bands.proofs.Every.{at, append_passes}
use Rattle.bands.proofs.Spread.{bands_whole, place_map}
use Rattle.upgrade_steps.specs.Steps.{Step, step_of, steps}
use Rattle.progressive_decoder.specs.Upgrade.{upgraded_coefficients, upgraded_signs}
use Rattle.components.specs.Components.{steps_of, pass_coefficients, pass_signs}
use Rattle.planes.specs.Planes.{component, row_of, joined, three, of}
use Rattle.zero_signs.specs.ZeroSigns.{zero_signs_of}
use Rattle.tile.specs.Tile.{upgraded}
use Rattle.tile.specs.declared.TileState.{TileState}
use Rattle.planes.proofs.Joined.{Long, joined_long, component_joined, row_joined, joined_components}
use Rattle.reach.specs.Component.{ComponentGains}
use Rattle.reach.specs.Reach.{TileFits, Pass, ThreeRows, Lower, Picture, picture_of, TileGains, ThreeStreams}
use Rattle.reach.proofs.Streams.{Stream}
use Rattle.reach.proofs.Passes.{Below, Streams}
use Rattle.reach.proofs.Components.{component_fits_lem, component_sound, component_whole, component_trans, component_refl, component_same, component_mid, Middle}

-- ════ the steps of a pass, by the band of each place ════

steps_map : (e : Bool) (p q : List ℕ) → map (step_of p q) (bands_of e) ≡ steps e p q
steps_map e p q = sym (place_map e (step_of p q) (λ b. b))

-- ════ rows ════

row_at : (k b : ℕ) (l : List ℕ) → b < 10 → get_or (row_of k l) b 0 ≡ get_or l (k * 10 + b) 0
row_at k b l h = get_or-take 10 (drop (k * 10) l) b 0 h ∙ get_or-drop (k * 10) l b 0

row_past : (k b : ℕ) (l : List ℕ) → 10 ≤ b → get_or (row_of k l) b 0 ≡ 0
row_past k b l h = get_or-eq_default (row_of k l) 0 {n = b} (omega (arith, length-take 10 (drop (k * 10) l)))

pub lower_row : (p q : List ℕ) → Lower p q → (k : ℕ) → k < 3 → Below (row_of k p) (row_of k q)
lower_row p q l k h b = by (dec_lt b 10)
  where
    by : Dec (b < 10) → position_of (row_of k q) b ≤ position_of (row_of k p) b
    by (yes t) = omega (arith, row_at k b q t, row_at k b p t, l (k * 10 + b) (omega arith))
    by (no t) = omega (arith, row_past k b q (omega arith))

-- a given row is in its place among the tile's positions
pub given_row : (rows : List (List ℕ)) → ThreeRows rows → (k : ℕ) → k < 3 → row_of k (joined (of rows)) ≡ of rows k
given_row rows h = row_joined (of rows) h.ten

-- rows in the domain are so one after another too
pub rows_in_domain_lem : (rows : List (List ℕ)) → ThreeRows rows → rows_in_domain rows ≡ true → row_in_domain (joined (of rows)) ≡ true
rows_in_domain_lem rows h d =
    let r : (k : ℕ) → k < 3 → row_in_domain (of rows k) ≡ true = λ k l. at row_in_domain rows k [] d (omega (arith, h.three)) in
    append_passes in_domain (of rows 0) (of rows 1 ++ of rows 2) (r 0 (omega arith)) (append_passes in_domain (of rows 1) (of rows 2) (r 1 (omega arith)) (r 2 (omega arith)))

-- ════ a tile from its positions to the same ones, and by positions between ════

-- from its positions to the same a tile may stay
pub tile_refl : {t : TileState} → TileFits t → TileGains t t.prog_quant (picture_of t)
tile_refl f = record { coefficients = f.coefficients; sign = f.sign; numbers = f.numbers; each = λ k h. component_refl (f.each k h) }

-- three parts that are alike
pub joined_path : {A : Type 0} (f g : ℕ → List A) → ((k : ℕ) → k < 3 → f k ≡ g k) → joined f ≡ joined g
joined_path {A} f g e = ap₂ (λ (x y : List A). x ++ y) (e 0 (omega arith)) (ap₂ (λ (x y : List A). x ++ y) (e 1 (omega arith)) (e 2 (omega arith)))

-- a list by its components
by_components : {A : Type 0} (f : ℕ → List A) (l : List A) → length l ≡ 12288 → ((k : ℕ) → k < 3 → f k ≡ component k l) → joined f ≡ l
by_components f l h e = joined_path f (λ k. component k l) e ∙ joined_components l h

-- two lists with the same components are the same
pub same_list : {A : Type 0} (a b : List A) → length a ≡ 12288 → length b ≡ 12288 → ((k : ℕ) → k < 3 → component k a ≡ component k b) → a ≡ b
same_list a b h j e = sym (joined_components a h) ∙ by_components (λ k. component k a) b j e

-- a picture by its coefficients and signs, where the numbers are right in both
pub picture_path : (e : Bool) {x y : Picture} → x.zero_signs ≡ zero_signs_of e x.sign → y.zero_signs ≡ zero_signs_of e y.sign → x.coefficients ≡ y.coefficients → x.sign ≡ y.sign → x ≡ y
picture_path e n m c s = λ i. record { coefficients = c i; sign = s i; zero_signs = (n ∙ ap (zero_signs_of e) s ∙ sym m) i }

-- and cannot change
pub tile_same : {t : TileState} → TileFits t → (x : Picture) → TileGains t t.prog_quant x → picture_of t ≡ x
tile_same {t} f x g = picture_path t.use_reduce_extrapolate f.numbers g.numbers
    (same_list t.coefficients x.coefficients f.coefficients g.coefficients (λ k h. sym (component_same (f.each k h) (g.each k h)).0))
    (same_list t.sign x.sign f.sign g.sign (λ k h. sym (component_same (f.each k h) (g.each k h)).1))

-- one list for each component
lot : {A : Type 0} → ((k : ℕ) → k < 3 → List A) → List (List A)
lot a = three (a 0 (omega arith)) (a 1 (omega arith)) (a 2 (omega arith))

lot_of : {A : Type 0} (a : (k : ℕ) → k < 3 → List A) (k : ℕ) (h : k < 3) → of (lot a) k ≡ a k h
unfolding lot
lot_of a zero h = ap (a 0) (le_prop (omega arith) h)
lot_of a (suc zero) h = ap (a 1) (le_prop (omega arith) h)
lot_of a (suc (suc zero)) h = ap (a 2) (le_prop (omega arith) h)
lot_of a (suc (suc (suc k))) h = absurd (omega arith)

-- ════ one accepted pass ════

module _ {t : TileState} (f : TileFits t) (o : Pass) (w : ThreeRows o.rows) (l : Lower t.prog_quant (joined (of o.rows))) where
  e : Bool
  e = t.use_reduce_extrapolate

  below : (k : ℕ) → k < 3 → Below (row_of k t.prog_quant) (row_of k (joined (of o.rows)))
  below = lower_row t.prog_quant (joined (of o.rows)) l

  -- from the tile's rows to those given
  FromTo : (ℕ → List ℤ) → (ℕ → List ℤ) → Type 0
  FromTo cs ss = (k : ℕ) → k < 3 → ComponentGains (bands_of e) (row_of k t.prog_quant) (row_of k (joined (of o.rows))) (component k t.coefficients) (component k t.sign) (cs k) (ss k)

  -- three components that are gained make a picture
  gathered : (cs ss : ℕ → List ℤ) → FromTo cs ss → TileGains t (joined (of o.rows)) (record { coefficients = joined cs; sign = joined ss; zero_signs = zero_signs_of e (joined ss) })
  unfolding FromTo e
  gathered cs ss g =
      let lc : Long 4096 cs = λ k h. (g k h).coefficients ∙ bands_whole e in
      let ls : Long 4096 ss = λ k h. (g k h).signs ∙ bands_whole e in
      record {
        coefficients = joined_long 4096 cs lc;
        sign = joined_long 4096 ss ls;
        numbers = refl;
        each = λ k h. rw (component_joined cs lc k h, component_joined ss ls k h) (g k h);
      }

  -- whatever the streams hold
  pub step_sound : (srl_data raw_data : List (List ℕ)) → TileGains t (joined (of o.rows)) (picture_of (upgraded t srl_data raw_data o.rows o.quality))
  unfolding upgraded pass_coefficients pass_signs FromTo e
  step_sound srl_data raw_data = gathered _ _ (λ k h. by k h)
    where
      by : (k : ℕ) → k < 3
          → ComponentGains (bands_of e) (row_of k t.prog_quant) (row_of k (joined (of o.rows))) (component k t.coefficients) (component k t.sign)
          (upgraded_coefficients (steps_of e t.prog_quant o.rows k) (of srl_data k) (of raw_data k) (component k t.coefficients) (component k t.sign))
          (upgraded_signs (steps_of e t.prog_quant o.rows k) (of srl_data k) (component k t.sign))
      by k h = subst
          (λ (ts : List Step). ComponentGains (bands_of e) (row_of k t.prog_quant) (row_of k (joined (of o.rows))) (component k t.coefficients) (component k t.sign) (upgraded_coefficients ts (of srl_data k) (of raw_data k) (component k t.coefficients) (component k t.sign)) (upgraded_signs ts (of srl_data k) (component k t.sign)))
          (steps_map e (row_of k t.prog_quant) (row_of k (joined (of o.rows))) ∙ ap (steps e (row_of k t.prog_quant)) (given_row o.rows w k h))
          (component_sound (f.each k h) (below k h) (of srl_data k) (of raw_data k))

  -- the tile then fits
  pub step_fits : rows_in_domain o.rows ≡ true → (srl_data raw_data : List (List ℕ)) → TileFits (upgraded t srl_data raw_data o.rows o.quality)
  unfolding upgraded
  step_fits d srl_data raw_data =
      let g = step_sound srl_data raw_data in
      record {
        coefficients = g.coefficients;
        sign = g.sign;
        rows = joined_long 10 (of o.rows) w.ten;
        positions = rows_in_domain_lem o.rows w d;
        quantizers = f.quantizers;
        numbers = refl;
        each = λ k h. component_fits_lem (g.each k h);
      }

  -- and what is gained from it on is gained from the tile on
  pub step_trans : (srl_data raw_data : List (List ℕ)) (last : List ℕ) (x : Picture) → TileGains (upgraded t srl_data raw_data o.rows o.quality) last x → TileGains t last x
  unfolding upgraded
  step_trans srl_data raw_data last x g = record {
    coefficients = g.coefficients;
    sign = g.sign;
    numbers = g.numbers;
    each = λ k h. component_trans (f.each k h) (below k h) ((step_sound srl_data raw_data).each k h) (g.each k h);
  }

  -- streams that give a picture
  pub record StreamsTo (x : Picture) : Type 0 where
    pub srl_data : List (List ℕ)
    pub raw_data : List (List ℕ)
    pub srl : ThreeStreams srl_data
    pub raw : ThreeStreams raw_data
    pub gives : picture_of (upgraded t srl_data raw_data o.rows o.quality) ≡ x

  -- what may be gained at the rows of the pass, some streams give
  pub step_whole : (x : Picture) → TileGains t (joined (of o.rows)) x → StreamsTo x
  unfolding upgraded pass_coefficients pass_signs e lot
  step_whole x g = record {
    srl_data = srl_data;
    raw_data = raw_data;
    srl = three_streams (λ k h. (s k h).srl_data) (λ k h. (s k h).srl);
    raw = three_streams (λ k h. (s k h).raw_data) (λ k h. (s k h).raw);
    gives = picture_path e refl g.numbers (by_components _ x.coefficients g.coefficients coefficients) (by_components _ x.sign g.sign signs);
  }
    where
      s : (k : ℕ) (h : k < 3) → Streams (row_of k t.prog_quant) (row_of k (joined (of o.rows))) (bands_of e) (component k t.coefficients) (component k t.sign) (component k x.coefficients) (component k x.sign)
      s k h = component_whole (f.each k h) (below k h) (g.each k h)

      srl_data : List (List ℕ)
      srl_data = lot (λ k h. (s k h).srl_data)

      raw_data : List (List ℕ)
      raw_data = lot (λ k h. (s k h).raw_data)

      three_streams : (a : (k : ℕ) → k < 3 → List ℕ) → ((k : ℕ) (h : k < 3) → Stream (a k h) (length (bands_of e))) → ThreeStreams (lot a)
      three_streams a h = record {
        three = refl;
        bytes = λ k l i. rw (lot_of a k l) ((h k l).bytes i);
        short = λ k l. rw (lot_of a k l) (omega (arith, (h k l).short, bands_whole e));
      }

      ts : (k : ℕ) → k < 3 → map (step_of (row_of k t.prog_quant) (row_of k (joined (of o.rows)))) (bands_of e) ≡ steps_of e t.prog_quant o.rows k
      ts k h = steps_map e (row_of k t.prog_quant) (row_of k (joined (of o.rows))) ∙ ap (steps e (row_of k t.prog_quant)) (given_row o.rows w k h)

      coefficients : (k : ℕ) → k < 3
          → upgraded_coefficients (steps_of e t.prog_quant o.rows k) (of srl_data k) (of raw_data k) (component k t.coefficients) (component k t.sign) ≡ component k x.coefficients
      coefficients k h =
          rw (lot_of (λ k h. (s k h).srl_data) k h, lot_of (λ k h. (s k h).raw_data) k h)
          (ap (λ (ts : List Step). upgraded_coefficients ts (s k h).srl_data (s k h).raw_data (component k t.coefficients) (component k t.sign)) (sym (ts k h)) ∙ (s k h).coefficients)

      signs : (k : ℕ) → k < 3 → upgraded_signs (steps_of e t.prog_quant o.rows k) (of srl_data k) (component k t.sign) ≡ component k x.sign
      signs k h =
          rw (lot_of (λ k h. (s k h).srl_data) k h)
          (ap (λ (ts : List Step). upgraded_signs ts (s k h).srl_data (component k t.sign)) (sym (ts k h)) ∙ (s k h).signs)

  -- the picture between
  pub record Halfway (last : List ℕ) (x : Picture) : Type 0 where
    pub mid : Picture
    pub before : TileGains t (joined (of o.rows)) mid
    pub behind : (k : ℕ) → k < 3
        → ComponentGains (bands_of t.use_reduce_extrapolate) (row_of k (joined (of o.rows))) (row_of k last) (component k mid.coefficients) (component k mid.sign) (component k x.coefficients) (component k x.sign)

  -- the target, cut at the positions of the pass
  pub halfway : (last : List ℕ) (x : Picture) → TileGains t last x → Halfway last x
  unfolding FromTo e
  halfway last x g = record {
    mid = record { coefficients = joined (of cs); sign = joined (of ss); zero_signs = zero_signs_of e (joined (of ss)) };
    before = gathered (of cs) (of ss) (λ k h. rw (cs_of k h, ss_of k h) (m k h).before);
    behind = λ k h. rw (component_joined (of cs) long_cs k h, component_joined (of ss) long_ss k h, cs_of k h, ss_of k h) (m k h).behind;
  }
    where
      m : (k : ℕ) (h : k < 3) → Middle (bands_of e) (row_of k t.prog_quant) (row_of k (joined (of o.rows))) (row_of k last) (component k t.coefficients) (component k t.sign) (component k x.coefficients) (component k x.sign)
      m k h = component_mid (f.each k h) (row_of k (joined (of o.rows))) (below k h) (g.each k h)

      cs : List (List ℤ)
      cs = lot (λ k h. (m k h).coefficients)

      ss : List (List ℤ)
      ss = lot (λ k h. (m k h).signs)

      cs_of : (k : ℕ) (h : k < 3) → of cs k ≡ (m k h).coefficients
      cs_of = lot_of (λ k h. (m k h).coefficients)

      ss_of : (k : ℕ) (h : k < 3) → of ss k ≡ (m k h).signs
      ss_of = lot_of (λ k h. (m k h).signs)

      long_cs : Long 4096 (of cs)
      long_cs k h = ap length (cs_of k h) ∙ (m k h).before.coefficients ∙ bands_whole e

      long_ss : Long 4096 (of ss)
      long_ss k h = ap length (ss_of k h) ∙ (m k h).before.signs ∙ bands_whole e
