-- From the coefficients of three components to pixels (docs/SCOPE.md, "Tile"), in the extrapolate layout: in the other it is refused.
use Rattle.std.specs.Prelude.{◌≡◌, Bool, true, ◌&&◌, List, ◌++◌, ℕ, leb, ℤ, length, drop, ⊤, Option, Result}
use Rattle.answer.specs.declared.Refusal.{Refusal}
use Rattle.answer.specs.declared.Refusal.TheVariants.{SliceTooShort, OutOfDomain, StandardLayout}
use Rattle.answer.specs.Answers.{unless, first_of, answered, unless_refused}
use Rattle.bands.specs.Positions.{row_in_domain}
use Rattle.planes.specs.Planes.{component, row_of}
use Rattle.dequantizer.specs.Dequantize.{dequantized_all, quantizers}
use Rattle.dwt_extrapolate.specs.Transform.{inverse}
use Rattle.color.specs.Color.{picture}

-- "dequantizes each component by its row of base quantizers, does the inverse wavelet": the samples of one component, by such a row
abbrev pub samples : List ℕ → List ℤ → List ℤ
samples quant cs = inverse (dequantized_all (quantizers true quant) cs)

-- those of component k of three
abbrev pub samples_of : List ℕ → List ℤ → ℕ → List ℤ
samples_of quants cs k = samples (row_of k quants) (component k cs)

-- "and colours the samples": those of Y, Cb and Cr at each place make a pixel of four bytes
unfoldable pub rgba : List ℕ → List ℤ → List ℕ
rgba quants cs = picture (samples_of quants cs 0) (samples_of quants cs 1) (samples_of quants cs 2)

-- ════ `reconstruct_to_rgba` ════

-- "order: .. 1, 2, 3"; 1 is for "pixels under 16,384 bytes"
abbrev pub pixels_refusal : List ℕ → List ℕ → Bool → List ℕ → Option Refusal
pixels_refusal positions quants e px =
    first_of (unless (leb 16384 (length px)) SliceTooShort) (first_of (unless (row_in_domain positions && row_in_domain quants) OutOfDomain) (unless e StandardLayout))

-- the answer
abbrev pub pixels_answer : List ℕ → List ℕ → Bool → List ℕ → Result ⊤ Refusal
pixels_answer positions quants e px = answered (pixels_refusal positions quants e px) tt

-- the pixels then: "writes the first 16,384 bytes", and what stands past them stays
abbrev pub pixels_out : List ℤ → List ℕ → List ℕ → Bool → List ℕ → List ℕ
pixels_out cs positions quants e px = unless_refused (pixels_refusal positions quants e px) (rgba quants cs ++ drop 16384 px) px

-- what the call fixes: its answer, and the slice
pub record WritesPixels (cs : List ℤ) (positions quants : List ℕ) (e : Bool) (px : List ℕ) (r : Result ⊤ Refusal) (px' : List ℕ) : Type 0 where
  pub answer : r ≡ pixels_answer positions quants e px
  pub pixels : px' ≡ pixels_out cs positions quants e px
