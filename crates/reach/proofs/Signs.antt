-- No pass loses a sign, and what it is for a sign to be the coefficient's own.
use mathlib.Core.Path.{◌≡◌, refl, sym, ap, ◌∙◌}
use mathlib.Core.Logic.{◌≢◌, ◌⊎◌, inl, inr}
use mathlib.Core.Bool.{Bool, true, false, true≢false}
use mathlib.Core.List.{List, [], ◌∷◌}
use Prim.Native.Nat.{ℕ, zero, suc, ◌<◌}
use native.Mathlib.Omega.{arith}
use lib.IntN.{ℤ, pos, negsuc, nat_abs, pos-ne-negsuc}
use lib.ListN.{length, get_or}
use Rattle.fixed.proofs.Sign.{zero_is}
use Rattle.fixed.specs.Fixed.{is_zero, sign_of}
use Rattle.bands.specs.Bands.{bands_of, is_bottom_band}
use Rattle.bands.proofs.Spread.{bands_whole}
use Rattle.upgrade_steps.specs.Steps.{Step, Source, skipped, srl, raw, source, source_of}
use Rattle.progressive_decoder.specs.Upgrade.{sign_then, signs_after, srl_values, upgraded_signs}
use Rattle.std.specs.Prelude.{Option, None, Some}
use Rattle.answer.specs.Answers.{unless_refused}
use Rattle.answer.specs.declared.Refusal.{Refusal}
use Rattle.components.specs.Components.{steps_of, pass_signs}
use Rattle.planes.specs.Planes.{component, of}
use Rattle.tile.specs.Tile.{upgraded, upgrade_refusal}
use Rattle.tile.specs.declared.TileState.{TileState}
use Rattle.planes.proofs.Joined.{Long, joined_long, parts_long, component_joined}
use Rattle.components.proofs.Passes.{signs_long}
use Rattle.fitting.specs.Place.{Place, Fits}
use Rattle.reach.specs.Place.{Gains}
use Rattle.reach.specs.Reach.{Call, after_call, after_calls}
use Rattle.reach.specs.Corollaries.{tile_sign, NonzeroSignsKept, InWords, OwnSignInWords, FittingPreserved}
use Rattle.reach.proofs.AnyList.{along}

-- ════ a pass over places ════

-- a place with an SRL value has sign 0
abbrev ZeroIf : Source → ℤ → Type 0
ZeroIf skipped s = Unit {0}
ZeroIf srl s = s ≡ pos 0
ZeroIf raw s = Unit {0}

zero_if : (b : Bool) (w : ℕ) (s : ℤ) → ZeroIf (source_of b w (is_zero s)) s
zero_if b zero s = tt
zero_if true (suc w) s = tt
zero_if false (suc w) s = by (is_zero s) refl
  where
    by : (z : Bool) → is_zero s ≡ z → ZeroIf (source_of false (suc w) z) s
    by true e = zero_is s e
    by false e = tt

-- at index i
abbrev pub KeptAt : List ℤ → List ℤ → ℕ → Type 0
KeptAt ss new i = get_or ss i (pos 0) ≢ pos 0 → get_or new i (pos 0) ≡ get_or ss i (pos 0)

place_kept : (o : Source) (s : ℤ) (ss vs : List ℤ) (rest : List ℤ → List ℤ) → ZeroIf o s → ((vs : List ℤ) (i : ℕ) → KeptAt ss (rest vs) i) → (i : ℕ) → KeptAt (s ∷ ss) (sign_then o s vs rest) i
place_kept skipped s ss vs rest z k zero = λ h. refl
place_kept skipped s ss vs rest z k (suc i) = k vs i
place_kept raw s ss vs rest z k zero = λ h. refl
place_kept raw s ss vs rest z k (suc i) = k vs i
place_kept srl s ss [] rest z k zero = λ h. refl
place_kept srl s ss [] rest z k (suc i) = k [] i
place_kept srl s ss (v ∷ vs) rest z k zero = λ h. absurd (h z)
place_kept srl s ss (v ∷ vs) rest z k (suc i) = k vs i

all_kept : (ts : List Step) (ss vs : List ℤ) (i : ℕ) → KeptAt ss (signs_after ts ss vs) i
unfolding signs_after
all_kept [] ss vs i = λ h. refl
all_kept (t ∷ ts) [] vs i = λ h. refl
all_kept (t ∷ ts) (s ∷ ss) vs i = place_kept (source t s) s ss vs (signs_after ts ss) (zero_if t.bottom t.width s) (all_kept ts ss) i

-- ════ a tile ════

-- as many signs as before, and no nonzero one lost
pub record KeptIn (t u : TileState) : Type 0 where
  pub long : length u.sign ≡ 12288
  pub kept : (k i : ℕ) → k < 3 → tile_sign t k i ≢ pos 0 → tile_sign u k i ≡ tile_sign t k i

pub upgraded_kept : (t : TileState) → length t.sign ≡ 12288 → (srl_data raw_data rows : List (List ℕ)) (q : ℕ) → KeptIn t (upgraded t srl_data raw_data rows q)
unfolding upgraded pass_signs
upgraded_kept t h srl_data raw_data rows q = record {
  long = joined_long 4096 (λ k. upgraded_signs (steps_of e p rows k) (of srl_data k) (component k ss)) long;
  kept = λ k i l n. ap (λ (new : List ℤ). get_or new i (pos 0)) (component_joined (λ k. upgraded_signs (steps_of e p rows k) (of srl_data k) (component k ss)) long k l)
      ∙ all_kept (steps_of e p rows k) (component k ss) (srl_values (steps_of e p rows k) (of srl_data k) (component k ss)) i n;
}
  where
    e : Bool
    e = t.use_reduce_extrapolate

    p : List ℕ
    p = t.prog_quant

    ss : List ℤ
    ss = t.sign

    long : Long 4096 (λ k. upgraded_signs (steps_of e p rows k) (of srl_data k) (component k ss))
    long k l = signs_long (steps_of e p rows k) (component k ss) _ ∙ parts_long 4096 ss h k l

call_kept : (n : Option Refusal) (t : TileState) → length t.sign ≡ 12288 → (c : Call) → KeptIn t (unless_refused n (upgraded t c.srl_data c.raw_data c.pass.rows c.pass.quality) t)
call_kept None t h c = upgraded_kept t h c.srl_data c.raw_data c.pass.rows c.pass.quality
call_kept (Some n) t h c = record { long = h; kept = λ k i p e. refl }

kept_trans : {t u v : TileState} → KeptIn t u → KeptIn u v → KeptIn t v
kept_trans a b = record { long = b.long; kept = λ k i p e. b.kept k i p (λ z. e (sym (a.kept k i p e) ∙ z)) ∙ a.kept k i p e }

calls_kept : (ks : List Call) (t : TileState) → length t.sign ≡ 12288 → KeptIn t (after_calls t ks)
unfolding after_calls
calls_kept [] t h = record { long = h; kept = λ k i p e. refl }
calls_kept (c ∷ ks) t h =
    let first : KeptIn t (after_call t c) = call_kept (upgrade_refusal t c.pass.rows) t h c in
    kept_trans first (calls_kept ks (after_call t c) first.long)

-- ════ coefficients of a tile that fits ════

own_kept : (b : Bool) {p q : ℕ} {x y : Place} → b ≡ false → Fits b p x → Gains b p q x y → sign_of x.coefficient ≢ pos 0 → sign_of y.coefficient ≡ sign_of x.coefficient
own_kept true e f g h = absurd (true≢false e)
own_kept false e f g h = sym g.fits.own ∙ g.kept (λ z. h (sym f.own ∙ z)) ∙ f.own

-- passes keep every nonzero sign, and in a tile that fits every coefficient keeps its own
pub nonzero_signs_kept_lem : NonzeroSignsKept
nonzero_signs_kept_lem = record {
  signs = λ t h ks. (calls_kept ks t h).kept;
  coefficients = λ t f ks w n k i p l b. own_kept (is_bottom_band (get_or (bands_of t.use_reduce_extrapolate) i 0)) b
      ((f.each k p).each i (omega (arith, l, bands_whole t.use_reduce_extrapolate)))
      (((along f w n ks refl).kind.each k p).each i (omega (arith, l, bands_whole t.use_reduce_extrapolate)));
}

-- a tile that fits still fits after passes of which none raises a position
pub fitting_preserved_lem : FittingPreserved
fitting_preserved_lem = record { preserved = λ t f ks w n. (along f w n ks refl).fits }

-- ════ a sign of one's own, in words ════

sign_zero : (c : ℤ) → sign_of c ≡ pos 0 → c ≡ pos 0
unfolding sign_of
sign_zero (pos zero) e = refl
sign_zero (pos (suc n)) e = absurd (omega (arith, ap nat_abs e))
sign_zero (negsuc n) e = absurd (pos-ne-negsuc 0 0 (sym e))

sign_one_of : (c : ℤ) → (sign_of c ≡ negsuc 0) ⊎ ((sign_of c ≡ pos 0) ⊎ (sign_of c ≡ pos 1))
unfolding sign_of
sign_one_of (pos zero) = inr (inl refl)
sign_one_of (pos (suc n)) = inr (inr refl)
sign_one_of (negsuc n) = inl refl

-- a sign is the coefficient's own just where the sentence says so, clause by clause
pub own_sign_in_words_lem : OwnSignInWords
unfolding sign_of
own_sign_in_words_lem = record { same = λ x. (there x, λ w. back x w w.one_of) }
  where
    there : (x : Place) → x.sign ≡ sign_of x.coefficient → InWords x
    there x e = record { one_of = rw e (sign_one_of x.coefficient); zero_only = λ f. sign_zero x.coefficient (sym e ∙ f); else_own = λ f. e }

    back : (x : Place) → InWords x → (x.sign ≡ negsuc 0) ⊎ ((x.sign ≡ pos 0) ⊎ (x.sign ≡ pos 1)) → x.sign ≡ sign_of x.coefficient
    back x w (inl e) = w.else_own (λ f. pos-ne-negsuc 0 0 (sym f ∙ e))
    back x w (inr (inl e)) = e ∙ sym (ap sign_of (w.zero_only e))
    back x w (inr (inr e)) = w.else_own (λ f. omega (arith, ap nat_abs (sym e ∙ f)))
