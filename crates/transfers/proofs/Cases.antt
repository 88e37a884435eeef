-- A mixer with no input: routing 15 mode 0. Its average is the quiescent level and it stands on its curve there, whatever the sum.
use Prim.Native.Nat.{ℕ}
use mathlib.Core.Path.{◌≡◌, refl}
use mathlib.Core.List.{List}
use lib.Ieee.{Float, of_bits, of_int, to_unsigned, lt, mul, sub, div}
use Rattle.floats.specs.Arithmetic.{f32}
use Rattle.response.specs.Levels.{filter_mode_quiescent_level_of, normalise_voltage_of}
use Rattle.mixing.specs.Topology.{topology_of, bypass_count_of, output_count_of, mixer_count_of}
use Rattle.curves.specs.Sampling.{input_position_of, curve_point_of}
use Rattle.transfers.specs.Transfers.{mixer_average_of, mixer_point_of}

pub no_input_average : (sum : Float) → mixer_average_of (topology_of 15 0) sum ≡ filter_mode_quiescent_level_of
unfolding topology_of bypass_count_of output_count_of mixer_count_of
no_input_average sum = refl

module _ (curves : List ℕ) (slot : ℕ) (sum : Float) where
  pub no_input_index : (mixer_point_of curves slot (topology_of 15 0) sum).index ≡ 770
  unfolding topology_of bypass_count_of output_count_of mixer_count_of mixer_point_of curve_point_of input_position_of filter_mode_quiescent_level_of normalise_voltage_of of_bits lt mul sub div to_unsigned
  no_input_index = refl

  pub no_input_fraction : (mixer_point_of curves slot (topology_of 15 0) sum).fraction ≡ f32 0x3f03_6800
  unfolding topology_of bypass_count_of output_count_of mixer_count_of mixer_point_of curve_point_of input_position_of filter_mode_quiescent_level_of normalise_voltage_of of_bits of_int lt mul sub div to_unsigned
  no_input_fraction = refl
