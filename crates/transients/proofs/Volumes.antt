-- The conductance of a volume: the sixteen values that the code has are the formula's, and each is finite. Assumes nothing.
use Prim.Native.Nat.{ℕ, zero, suc, ◌+◌, ◌/◌, ◌%◌, ◌<◌}
use native.Mathlib.Omega.{arith}
use native.Mathlib.Nat.{add-zero, zero-add, suc-add, add-suc, not-suc-le-zero, le_of_suc-le-suc, mod-lt}
use mathlib.Core.Path.{◌≡◌, refl, ap, ◌∙◌}
use mathlib.Core.Bool.{Bool, true, false}
use mathlib.Core.List.{List, [], ◌∷◌}
use lib.ListN.{get_or}
use lib.Ieee.{Float, nan, of_bits, fits, add, mul, div}
use Rattle.constants.specs.Tables.{NoneOf}
use Rattle.constants.proofs.Tables.{none_of_past}
use Rattle.constants.specs.Values as K
use Rattle.floats.specs.Arithmetic.{f32}
use Rattle.floats.specs.Floats.{finite_f32_of}
use Rattle.response.specs.Bits.{bit}
use Rattle.response.specs.Levels.{add_if, branch_sum_of, loaded_of, volume_dac_conductance_code_of}

-- the arms of `conductance`
abbrev conductances : List Float
conductances =
    f32 0
    ∷ f32 0x3f88_a819
    ∷ f32 0x400a_4e8e
    ∷ f32 0x404c_7cec
    ∷ f32 0x408b_50d0
    ∷ f32 0x40ab_5599
    ∷ f32 0x40cc_24a0
    ∷ f32 0x40eb_2fdc
    ∷ f32 0x410e_3099
    ∷ f32 0x411d_1e6f
    ∷ f32 0x412c_6ca4
    ∷ f32 0x413a_ea08
    ∷ f32 0x414b_2a15
    ∷ f32 0x4159_36d9
    ∷ f32 0x4167_9ff5
    ∷ f32 0x4175_4600
    ∷ []

-- the formula's, for n volumes from this one on
unfoldable formula_from : ℕ → ℕ → List Float
formula_from volume zero = []
formula_from volume (suc n) = volume_dac_conductance_code_of volume ∷ formula_from (suc volume) n

arms_are_formula : conductances ≡ formula_from 0 16
unfolding formula_from volume_dac_conductance_code_of branch_sum_of of_bits add mul div
arms_are_formula = refl

formula_at : (volume n k : ℕ) → k < n → get_or (formula_from volume n) k nan ≡ volume_dac_conductance_code_of (volume + k)
unfolding formula_from
formula_at volume zero k h = absurd (not-suc-le-zero h)
formula_at volume (suc n) zero h = rw (add-zero volume) refl
formula_at volume (suc n) (suc k) h = formula_at (suc volume) n k (le_of_suc-le-suc h) ∙ rw (suc-add volume k, add-suc volume k) refl

-- the lower four bits count
low_bits : (volume : ℕ) → volume_dac_conductance_code_of (volume % 16) ≡ volume_dac_conductance_code_of volume
unfolding volume_dac_conductance_code_of branch_sum_of
low_bits volume = simp (bit0, bit1, bit2, bit3)
  where
    bit0 : volume % 16 / 1 % 2 ≡ volume / 1 % 2
    bit0 = omega arith

    bit1 : volume % 16 / 2 % 2 ≡ volume / 2 % 2
    bit1 = omega arith

    bit2 : volume % 16 / 4 % 2 ≡ volume / 4 % 2
    bit2 = omega arith

    bit3 : volume % 16 / 8 % 2 ≡ volume / 8 % 2
    bit3 = omega arith

-- what an arm gives; the last one is of no other volume
pub conductance_at : (volume n : ℕ) → volume % 16 ≡ n → get_or conductances n nan ≡ volume_dac_conductance_code_of volume
conductance_at volume n e =
    let formula = formula_at 0 16 (volume % 16) (mod-lt volume (omega arith)) in
    rw (← e) (ap (λ (xs : List Float). get_or xs (volume % 16) nan) arms_are_formula ∙ formula ∙ rw (zero-add (volume % 16)) (low_bits volume))

pub last_conductance : (volume : ℕ) → NoneOf 15 (volume % 16) → get_or conductances 15 nan ≡ volume_dac_conductance_code_of volume
last_conductance volume others =
    let least = none_of_past 15 (volume % 16) others in
    conductance_at volume 15 (omega (arith, least, mod-lt volume {m = 16} (omega arith)))

-- ---- finite: sixteen sums of the DAC's branches

sixteen : (a b c d : Bool)
    → let weight : ℕ → Float = λ i. get_or K.sid_volume_dac_branch_weights i nan in
    finite_f32_of (loaded_of (add_if d (add_if c (add_if b (add_if a (f32 0) (weight 0)) (weight 1)) (weight 2)) (weight 3))) ≡ true
unfolding finite_f32_of of_bits fits add mul div
sixteen true true true true = refl
sixteen true true true false = refl
sixteen true true false true = refl
sixteen true true false false = refl
sixteen true false true true = refl
sixteen true false true false = refl
sixteen true false false true = refl
sixteen true false false false = refl
sixteen false true true true = refl
sixteen false true true false = refl
sixteen false true false true = refl
sixteen false true false false = refl
sixteen false false true true = refl
sixteen false false true false = refl
sixteen false false false true = refl
sixteen false false false false = refl

pub conductance_finite : (volume : ℕ) → finite_f32_of (volume_dac_conductance_code_of volume) ≡ true
unfolding volume_dac_conductance_code_of branch_sum_of
conductance_finite volume = sixteen (bit volume 0) (bit volume 1) (bit volume 2) (bit volume 3)
