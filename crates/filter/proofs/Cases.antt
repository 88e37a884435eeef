-- Worked cases of the definitions, as rows of one computed check; docs/PROMISES.md lists them. The twelve that were asked for as proofs come first.
use Prim.Native.Nat.{ℕ}
use mathlib.Core.Path.{◌≡◌, refl}
use mathlib.Core.Bool.{Bool}
use mathlib.Core.List.{List, [], ◌∷◌, ◌++◌, map}
use lib.IntN.{ℤ, pos, negsuc}
use lib.Ieee.{Float, eq, lt, neg, of_int, of_bits, to_signed, to_unsigned, mul, div, sub}
use Rattle.floats.specs.Arithmetic.{f32}
use Rattle.floats.specs.Floats.{round_of}
use Rattle.mixing.specs.Topology.{one, topology_of, reciprocal_of, filter_count_of, bypass_count_of, output_count_of, mixer_count_of}
use Rattle.curves.specs.Sampling.{load_position_of, input_position_of}
use Rattle.control.specs.declared.State.{State}
use Rattle.control.specs.Registers.{step_between_of, displacement_of, displaced_of, effective_cutoff_of, starting_state, write_cutoff_low_of, write_cutoff_high_of}

-- ---- what a row shows

abbrev step : ℤ → List ℤ
step codes = displacement_of codes ∷ []

abbrev low : ℕ → State → State
low value s = write_cutoff_low_of s value

abbrev high : ℕ → State → State
high value s = write_cutoff_high_of s value

-- the cutoff, the displacement and the effective cutoff
abbrev codes : State → List ℤ
codes s = pos s.registers.cutoff ∷ s.registers.cutoff_dac_displacement_codes ∷ pos (effective_cutoff_of s) ∷ []

abbrev truth : Bool → ℤ
truth b = pos (one b)

-- the bypass flags, the mixer's count, and whether its reciprocal is 0
abbrev routed : ℕ → ℕ → List ℤ
routed routing mode =
    let t = topology_of routing mode in
    map truth t.bypass_membership ++ pos t.mixer_input_count ∷ truth (eq t.mixer_input_reciprocal (f32 0)) ∷ []

-- both bases, and whether the fraction is 0
abbrev load : Float → List ℤ
load conductance =
    let p = load_position_of conductance in
    pos p.lower_base ∷ pos p.upper_base ∷ truth (eq p.fraction (f32 0)) ∷ []

-- the lower curve index
abbrev lower : ℕ → ℤ
lower bits = pos (input_position_of (f32 bits)).lower

unfoldable pub rows : List (List ℤ)
rows =
    step (pos 1)
    ∷ step (pos 65)
    ∷ step (pos 66)
    ∷ step (negsuc 65)
    ∷ codes (high 1 (low 7 starting_state))
    ∷ codes (high 1 (low 3 (low 7 starting_state)))
    ∷ codes (high 255 starting_state)
    ∷ codes (high 0 (high 255 (low 7 starting_state)))
    ∷ routed 0 8
    ∷ routed 0 7
    ∷ load (f32 0x4110_0000)
    -- 1, the float after it, 2, the largest float
    ∷ map lower (0x3f80_0000 ∷ 0x3f80_0001 ∷ 0x4000_0000 ∷ 0x7f7f_ffff ∷ [])
    -- and three that are not starred: step 0; routing 15 mode 0; -1, -0.0 and 0
    ∷ step (pos 0)
    ∷ routed 15 0
    ∷ map lower (0xbf80_0000 ∷ 0x8000_0000 ∷ 0 ∷ [])
    ∷ []

pub cases :
    rows
    ≡ (pos 1 ∷ [])
    ∷ (pos 56 ∷ [])
    ∷ (pos 57 ∷ [])
    ∷ (negsuc 56 ∷ [])
    ∷ (pos 15 ∷ pos 13 ∷ pos 28 ∷ [])
    ∷ (pos 11 ∷ pos 3 ∷ pos 14 ∷ [])
    ∷ (pos 2040 ∷ pos 57 ∷ pos 2047 ∷ [])
    ∷ (pos 7 ∷ negsuc 56 ∷ pos 0 ∷ [])
    ∷ (pos 1 ∷ pos 1 ∷ pos 0 ∷ pos 1 ∷ pos 3 ∷ pos 0 ∷ [])
    ∷ (pos 1 ∷ pos 1 ∷ pos 1 ∷ pos 1 ∷ pos 7 ∷ pos 0 ∷ [])
    ∷ (pos 294912 ∷ pos 294912 ∷ pos 1 ∷ [])
    ∷ (pos 2047 ∷ pos 2047 ∷ pos 2047 ∷ pos 2047 ∷ [])
    ∷ (pos 0 ∷ [])
    ∷ (pos 0 ∷ pos 0 ∷ pos 0 ∷ pos 0 ∷ pos 0 ∷ pos 1 ∷ [])
    ∷ (pos 0 ∷ pos 0 ∷ pos 0 ∷ [])
    ∷ []
unfolding rows displacement_of displaced_of step_between_of of_int of_bits mul neg lt to_signed round_of topology_of reciprocal_of
    filter_count_of bypass_count_of output_count_of mixer_count_of eq div load_position_of input_position_of sub to_unsigned
cases = refl
