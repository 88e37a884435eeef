-- `filter_mode_output_gain` of response.rs, operation by operation. An index past its table reads as a NaN, where the Rust panics.
-- The Rust works `highpass_loading` out by powf; here it is lent, and read in mode 4 alone.
use Rattle.std.specs.Prelude.{ℕ, ◌%◌, Bool, cond, ◌||◌, eqb, pos, Float}
use Rattle.std.specs.Float.{binary32}
use Rattle.std.specs.Float.Ieee.{of_int}
use Rattle.constants.specs.Values as K
use Rattle.constants.specs.Tables.{single_mode_cutoff_gain_of, single_mode_resonance_gain_of, symmetric_loading_gain_of}
use Rattle.floats.specs.Arithmetic.{◌⊕◌, ◌⊖◌, ◌⊗◌, ◌⊘◌, f32}
use Rattle.floats.specs.Floats.{clamp_of}
use Rattle.response.specs.Levels.{interpolate_of, cutoff_position_of}
use Rattle.response.specs.Position.{loading_position_of}

abbrev one : Float
one = f32 0x3f80_0000

abbrev pub resonance_of : ℕ → Float
resonance_of resonance = of_int binary32 (pos resonance)

-- ((resonance - 8.0) / 7.0).clamp(0.0, 1.0)
abbrev pub resonance_position_of : ℕ → Float
resonance_position_of resonance = clamp_of ((resonance_of resonance ⊖ f32 0x4100_0000) ⊘ f32 0x40e0_0000) (f32 0) one

-- ((8.0 - resonance) / 8.0).clamp(0.0, 1.0)
abbrev pub low_resonance_position_of : ℕ → Float
low_resonance_position_of resonance = clamp_of ((f32 0x4100_0000 ⊖ resonance_of resonance) ⊘ f32 0x4100_0000) (f32 0) one

-- r is the resonance's position, p the cutoff's
abbrev pub low_gain_of : Float → Float
low_gain_of r = (K.filter_lowpass_gain_at_mid_resonance ⊖ K.filter_lowpass_gain_resonance_drop ⊗ r) ⊗ K.filter_lowpass_output_trim

abbrev pub band_gain_of : Float → Float → Float
band_gain_of r p =
    (K.filter_bandpass_gain_zero_cutoff ⊖ K.filter_bandpass_gain_cutoff_slope ⊗ p ⊖ K.filter_bandpass_gain_resonance_drop ⊗ r) ⊗ K.filter_bandpass_output_trim

abbrev pub low_band_gain_of : Float → Float → Float
low_band_gain_of r p = K.filter_low_band_gain_zero_cutoff ⊖ K.filter_low_band_gain_cutoff_slope ⊗ p ⊖ K.filter_low_band_gain_resonance_drop ⊗ r

abbrev pub high_gain_of : Float → Float → Float
high_gain_of r p =
    K.filter_highpass_gain_zero
    ⊖ K.filter_highpass_gain_cutoff_slope ⊗ p
    ⊖ K.filter_highpass_gain_resonance_drop ⊗ r ⊗ r
    ⊖ K.filter_highpass_gain_cutoff_resonance_drop ⊗ p ⊗ r ⊗ r

-- m is the mode's lower three bits: 1 low, 2 band, 3 low and band, 4 high
unfoldable pub base_gain_of : ℕ → Float → Float → Float
base_gain_of m r p =
    cond (eqb m 1) (low_gain_of r) (cond (eqb m 2) (band_gain_of r p) (cond (eqb m 3) (low_band_gain_of r p) (cond (eqb m 4) (high_gain_of r p) one)))

unfoldable pub low_band_lift_of : ℕ → ℕ → Float
low_band_lift_of m resonance =
    let low = low_resonance_position_of resonance in
    cond (eqb m 3) (one ⊕ K.filter_low_band_low_resonance_lift ⊗ low ⊗ low) one

unfoldable pub bandpass_trim_of : ℕ → Float → Float
bandpass_trim_of m p = cond (eqb m 2) (K.filter_bandpass_gain_trim_zero ⊖ K.filter_bandpass_gain_trim_cutoff_slope ⊗ p) one

-- the bundle's entry, in mode 4 alone
unfoldable pub highpass_loading_of : ℕ → Float → Float
highpass_loading_of m loading = cond (eqb m 4) loading one

-- resonance as f32 / 15.0 - 0.5
abbrev pub centred_resonance_of : ℕ → Float
centred_resonance_of resonance = resonance_of resonance ⊘ f32 0x4170_0000 ⊖ f32 0x3f00_0000

abbrev pub resonance_curve_of : Float → Float
resonance_curve_of c =
    K.filter_highpass_resonance_trim_c0
    ⊕ c ⊗ (K.filter_highpass_resonance_trim_c1 ⊕ c ⊗ (K.filter_highpass_resonance_trim_c2 ⊕ c ⊗ K.filter_highpass_resonance_trim_c3))

unfoldable pub highpass_resonance_trim_of : ℕ → ℕ → Float → Float
highpass_resonance_trim_of m resonance p = cond (eqb m 4) (one ⊕ p ⊗ resonance_curve_of (centred_resonance_of resonance)) one

-- the loading tables' row: 0 low, 1 band, 2 high
abbrev pub mode_index_of : ℕ → ℕ
mode_index_of m = cond (eqb m 1) 0 (cond (eqb m 2) 1 2)

-- just one output is selected
abbrev pub is_single_mode_of : ℕ → Bool
is_single_mode_of m = eqb m 1 || eqb m 2 || eqb m 4

-- a row of a loading table at a cutoff, linear between its entries
abbrev pub loading_of : (ℕ → ℕ → Float) → ℕ → ℕ → Float
loading_of table row cutoff =
    let at = loading_position_of cutoff in
    interpolate_of (table row at.lower) (table row at.upper) at.fraction

unfoldable pub single_mode_loading_of : ℕ → ℕ → ℕ → Float
single_mode_loading_of m resonance cutoff =
    cond (is_single_mode_of m) (loading_of single_mode_cutoff_gain_of (mode_index_of m) cutoff ⊗ single_mode_resonance_gain_of (mode_index_of m) resonance) one

unfoldable pub filter_mode_output_gain_of : ℕ → ℕ → ℕ → Float → Float
filter_mode_output_gain_of mode resonance cutoff loading =
    let m = mode % 8 in
    let p = cutoff_position_of cutoff in
    base_gain_of m (resonance_position_of resonance) p
    ⊗ low_band_lift_of m resonance
    ⊗ bandpass_trim_of m p
    ⊗ highpass_loading_of m loading
    ⊗ highpass_resonance_trim_of m resonance p
    ⊗ single_mode_loading_of m resonance cutoff

-- the symmetric gain of `refresh_mode_output_gain`: the row of a mode index at the written cutoff
unfoldable pub symmetric_gain_of : ℕ → ℕ → Float
symmetric_gain_of mode_index cutoff = loading_of symmetric_loading_gain_of mode_index cutoff
