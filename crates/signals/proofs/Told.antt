-- The table of scales at a selection, and the sums' bytes.
use mathlib.Core.Path.{◌≡◌, refl, sym, ◌∙◌}
use mathlib.Core.List.{List}
use Prim.Native.Nat.{ℕ, zero, suc, ◌≤◌, ◌<◌}
use native.Mathlib.Nat.{le_of_eq}
use native.Mathlib.Omega.{arith}
use lib.ListN.{length, get_or-replicate, get_or-eq_default}
use lib.Ieee.{nan, binary32, of_bits, to_bits}
use Rattle.constants.specs.Values as K
use Rattle.floats.specs.Arithmetic.{f32}
use Rattle.wire.specs.Wire.{bytes_of, row_bytes, put_at}
use Rattle.wire.proofs.Laws.{put_at-join, put_at-whole}
use Rattle.signals.specs.declared.RoutedSignals.{RoutedSignals}
use Rattle.signals.specs.Signals.{attack_scale_of}
use Rattle.signals.specs.Collecting.{signal_bytes}

-- ---- the table of scales

pub scale_one : (i : ℕ) → i ≡ 1 → f32 0x3fbe_b852 ≡ attack_scale_of i
unfolding attack_scale_of
scale_one i e = rw e refl

pub scale_two : (i : ℕ) → i ≡ 2 → f32 0 ≡ attack_scale_of i
unfolding attack_scale_of
scale_two i e = rw e refl

pub scale_four : (i : ℕ) → i ≡ 4 → f32 0x3f5d_70a4 ≡ attack_scale_of i
unfolding attack_scale_of
scale_four i e = rw e refl

pub other_scale : (i : ℕ) → i ≤ 15 → (i ≡ 1 → ⊥) → (i ≡ 2 → ⊥) → (i ≡ 4 → ⊥) → f32 0x3f80_0000 ≡ attack_scale_of i
unfolding attack_scale_of
other_scale zero h a b c = refl
other_scale (suc zero) h a b c = absurd (a refl)
other_scale (suc (suc zero)) h a b c = absurd (b refl)
other_scale (suc (suc (suc zero))) h a b c = refl
other_scale (suc (suc (suc (suc zero)))) h a b c = absurd (c refl)
other_scale (suc (suc (suc (suc (suc k))))) h a b c = sym (get_or-replicate 11 k (f32 0x3f80_0000) nan (omega (arith, h)))

pub past_scale : (i : ℕ) → 15 < i → f32 0x7fc0_0000 ≡ attack_scale_of i
unfolding attack_scale_of of_bits
past_scale i h = sym (get_or-eq_default K.pure_bypass_attack_scale_by_selection nan {n = i} h)

-- ---- the sums' bytes

pub signals_put : (s : List ℕ) (x : RoutedSignals) → length s ≡ 32
    → put_at
    (put_at s 0 (row_bytes (to_bits binary32 x.filter_input_sum) (to_bits binary32 x.filter_source_energy) (to_bits binary32 x.filter_input_activity) (to_bits binary32 x.bypass_input_sum)))
    16 (row_bytes (to_bits binary32 x.bypass_envelope_activity) (to_bits binary32 x.pure_bypass_envelope_activity) (to_bits binary32 x.pure_bypass_attack_drive) (to_bits binary32 x.pure_pulse_envelope_activity))
    ≡ signal_bytes x
unfolding signal_bytes bytes_of
signals_put s x h = put_at-join s 0 _ _ 16 refl (le_of_eq (sym h)) ∙ put_at-whole s (signal_bytes x) (sym h)
