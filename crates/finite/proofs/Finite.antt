-- Numbers that follow from the registers alone are finite: those of the output, the feedback and the modulation by bounds on their parts, the couplings and the lift,
-- which divide by numbers that are not whole, by computing them at each code of at most 2,047 and at each resonance. Assumes nothing.
use Prim.Native.Nat.{ℕ, ◌+◌, ◌^◌, ◌<◌, ◌≤◌}
use mathlib.Core.Path.{◌≡◌, refl}
use mathlib.Core.Bool.{Bool, true}
use native.Mathlib.Omega.{arith}
use lib.Dec.{lit<, lit≤}
use lib.IntN.{pos}
use lib.Ieee.{Float, binary32, of_int, of_bits, mul, add, sub, div, lt}
use lib.Ieee.Scale.{finite}
use Rattle.constants.specs.Values as K
use Rattle.floats.specs.Arithmetic.{◌⊕◌, ◌⊖◌, ◌⊗◌, f32}
use Rattle.floats.proofs.Sized.{Sized, sized_finite, sized_more, literal_sized, of_int_sized, quotient_sized, cond_sized, between_sized, add_sized, sub_sized, mul_sized}
use Rattle.response.specs.Bits.{bit}
use Rattle.response.specs.Levels.{add_if, cutoff_position_of, filter_output_common_mode_of}
use Rattle.wire.specs.First.{every}
use Rattle.wire.proofs.First.{every_true}
use Rattle.control.specs.declared.FilterRegisters.{FilterRegisters}
use Rattle.controls.specs.Judging.{finite_output_of}
use Rattle.controls.specs.Controls.{refresh_register_output_state_of, high_pass_low_coupling_of, band_pass_low_coupling_of, resonance_part_of}
use Rattle.controls.specs.Controls.{feedback_scale_of, modulation_scale_of, lift_position_of, resonance_output_gain_of}

-- ---- a cutoff of 16 bits, and a resonance or a volume of 8

-- 65,535 / 2,047 is below 33.
position_sized : (n : ℕ) → n < 65536 → Sized (cutoff_position_of n) 33
unfolding of_bits
position_sized n h = quotient_sized binary32 33 2047 (lit< tt) (lit≤ tt) (omega arith) (record { value = (refl, refl) })

-- 255 / 15 is 17. The volume's fraction is worked out as the resonance's position is.
fraction_sized : (n : ℕ) → n < 256 → Sized (resonance_part_of n) 17
unfolding of_bits
fraction_sized n h = quotient_sized binary32 17 15 (lit< tt) (lit≤ tt) (omega arith) (record { value = (refl, refl) })

-- ---- the output's common mode

-- A bit of the mode adds its level or nothing.
add_if_sized : (on : Bool) {sum x : Float} {j k : ℕ} → j + k ≤ 2 ^ 24 → Sized sum j → Sized x k → Sized (add_if on sum x) (j + k)
add_if_sized on K u v = cond_sized on (add_sized binary32 K u v) (sized_more (omega arith) u)

-- The three levels are at most 67 each.
common_sized : (mode cutoff : ℕ) → cutoff < 65536 → Sized (filter_output_common_mode_of mode cutoff) 201
unfolding filter_output_common_mode_of of_bits
common_sized mode cutoff h =
    let p = position_sized cutoff h in
    let low = between_sized binary32 (lit≤ tt) (lit≤ tt) (literal_sized K.filter_lowpass_common_mode_fc_0 1 (lit≤ tt)) (literal_sized K.filter_lowpass_common_mode_fc_2047 1 (lit≤ tt)) p in
    let band = between_sized binary32 (lit≤ tt) (lit≤ tt) (literal_sized K.filter_bandpass_common_mode_fc_0 1 (lit≤ tt)) (literal_sized K.filter_bandpass_common_mode_fc_2047 1 (lit≤ tt)) p in
    let high = between_sized binary32 (lit≤ tt) (lit≤ tt) (literal_sized K.filter_highpass_common_mode_fc_0 1 (lit≤ tt)) (literal_sized K.filter_highpass_common_mode_fc_2047 1 (lit≤ tt)) p in
    add_if_sized (bit mode 2) (lit≤ tt) (add_if_sized (bit mode 1) (lit≤ tt) (add_if_sized (bit mode 0) (lit≤ tt) (literal_sized (f32 0) 0 (lit≤ tt)) low) band) high

-- The mixer's offset with two voices.
offset_finite : (v : ℕ) → v < 256
    → finite (K.sid_mixer_two_voice_volume_gain_at_code_9 ⊖ f32 0x3f80_0000 ⊕ K.sid_mixer_two_voice_volume_gain_per_code ⊗ (of_int binary32 (pos v) ⊖ f32 0x4110_0000)) ≡ true
unfolding of_bits
offset_finite v h =
    let volume : Sized (of_int binary32 (pos v)) 255 = of_int_sized binary32 (omega arith) (lit≤ tt) in
    sized_finite
    (add_sized binary32 (lit≤ tt)
    (sub_sized binary32 (lit≤ tt) (literal_sized K.sid_mixer_two_voice_volume_gain_at_code_9 2 (lit≤ tt)) (literal_sized (f32 0x3f80_0000) 1 (lit≤ tt)))
    (mul_sized binary32 (lit≤ tt) (literal_sized K.sid_mixer_two_voice_volume_gain_per_code 1 (lit≤ tt)) (sub_sized binary32 (lit≤ tt) volume (literal_sized (f32 0x4110_0000) 9 (lit≤ tt)))))

-- Every number of `refresh_register_output_state` is finite.
pub output_finite : (r : FilterRegisters) → r.volume < 256 → r.cutoff < 65536 → finite_output_of (refresh_register_output_state_of r) ≡ true
unfolding finite_output_of refresh_register_output_state_of of_bits
output_finite r hv hc =
    let common = common_sized r.mode r.cutoff hc in
    let fraction = fraction_sized r.volume hv in
    simp (
      sized_finite common,
      sized_finite fraction,
      offset_finite r.volume hv,
      sized_finite (mul_sized binary32 (lit≤ tt) (literal_sized K.combined_output_common_mode 1 (lit≤ tt)) fraction),
      sized_finite (mul_sized binary32 (lit≤ tt) (literal_sized K.pure_bypass_output_common_mode 1 (lit≤ tt)) fraction),
      sized_finite (mul_sized binary32 (lit≤ tt) common fraction),
    )

-- ---- a resonance's feedback and modulation

module _ (r : ℕ) (h : r < 256) where
  pub position_finite : finite (resonance_part_of r) ≡ true
  position_finite = sized_finite (fraction_sized r h)

  pub feedback_finite : finite (feedback_scale_of (resonance_part_of r)) ≡ true
  unfolding of_bits
  feedback_finite =
      let base = literal_sized (f32 0x3f47_ae14) 1 (lit≤ tt) in
      let slope = literal_sized (f32 0x3e99_999a) 1 (lit≤ tt) in
      sized_finite (add_sized binary32 (lit≤ tt) base (mul_sized binary32 (lit≤ tt) slope (fraction_sized r h)))

  pub modulation_finite : finite (modulation_scale_of (resonance_part_of r)) ≡ true
  unfolding of_bits
  modulation_finite =
      let floor = literal_sized K.filter_source_resonance_floor 1 (lit≤ tt) in
      let span = sub_sized binary32 (lit≤ tt) (literal_sized (f32 0x3f80_0000) 1 (lit≤ tt)) floor in
      let p = fraction_sized r h in
      sized_finite (add_sized binary32 (lit≤ tt) floor (mul_sized binary32 (lit≤ tt) (mul_sized binary32 (lit≤ tt) span p) p))

-- ---- a code's couplings and a resonance's lift, computed

abbrev code_of : ℕ → Float
code_of n = of_int binary32 (pos n)

high_couplings : every (λ n. finite (high_pass_low_coupling_of (code_of n))) 2048 ≡ true
unfolding every of_int of_bits add div
high_couplings = refl

band_couplings : every (λ n. finite (band_pass_low_coupling_of (code_of n))) 2048 ≡ true
unfolding every of_int of_bits mul add div
band_couplings = refl

lifts : every (λ r. finite (resonance_output_gain_of (lift_position_of (resonance_part_of r)))) 256 ≡ true
unfolding every of_int of_bits mul add sub div lt
lifts = refl

pub high_coupling_finite : (n : ℕ) → n < 2048 → finite (high_pass_low_coupling_of (code_of n)) ≡ true
high_coupling_finite n h = every_true (λ n. finite (high_pass_low_coupling_of (code_of n))) 2048 high_couplings n h

pub band_coupling_finite : (n : ℕ) → n < 2048 → finite (band_pass_low_coupling_of (code_of n)) ≡ true
band_coupling_finite n h = every_true (λ n. finite (band_pass_low_coupling_of (code_of n))) 2048 band_couplings n h

pub lift_finite : (r : ℕ) → r < 256 → finite (resonance_output_gain_of (lift_position_of (resonance_part_of r))) ≡ true
lift_finite r h = every_true (λ r. finite (resonance_output_gain_of (lift_position_of (resonance_part_of r)))) 256 lifts r h
