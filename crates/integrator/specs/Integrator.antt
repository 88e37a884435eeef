-- integrator.rs, operation by operation: the nonlinear state-variable integrator.
use Rattle.std.specs.Prelude.{Bool, cond, ◌&&◌, Float, Option, Some, None}
use Rattle.std.specs.Float.Ieee.Scale.{finite}
use Rattle.floats.specs.Arithmetic.{◌⊕◌, ◌⊖◌, ◌⊗◌, ◌⊘◌, f32}
use Rattle.integrator.specs.declared.IntegratorState.{IntegratorState}
use Rattle.integrator.specs.declared.Coefficients.{Coefficients}
use Rattle.integrator.specs.declared.Advanced.{Advanced}

-- `IntegratorState::saturate`: value * (27.0 + square) / (27.0 + 9.0 * square)
unfoldable pub saturate_of : Float → Float → Float
saturate_of value drive =
    let x = value ⊗ drive in
    let square = x ⊗ x in
    value ⊗ (f32 0x41d8_0000 ⊕ square) ⊘ (f32 0x41d8_0000 ⊕ f32 0x4110_0000 ⊗ square)

-- `IntegratorState::advance`: the outputs of one substep and the next state, whose factor 2.0 is the trapezoidal rule's
unfoldable pub advance_of : IntegratorState → Float → Coefficients → Advanced
advance_of s driven_input k =
    let damping = k.damping in
    let previous_band = s.band_state in
    let previous_low = s.low_state in
    let nonlinear_band = saturate_of previous_band k.feedback_drive in
    let effective_input = driven_input ⊖ damping ⊗ (nonlinear_band ⊖ previous_band) in
    let residual = effective_input ⊖ previous_low in
    let band = k.a1 ⊗ previous_band ⊕ k.a2 ⊗ residual in
    let low = previous_low ⊕ k.a2 ⊗ previous_band ⊕ k.a3 ⊗ residual in
    record {
      outputs =
          record { high_pass = effective_input ⊖ damping ⊗ band ⊖ low; band_pass = band; low_pass = low };
      state =
          record {
            band_state = f32 0x4000_0000 ⊗ band ⊖ previous_band;
            low_state = f32 0x4000_0000 ⊗ low ⊖ previous_low;
            filter_source_energy = s.filter_source_energy;
          };
    }

-- the finite domain: the state numbers and the outputs are finite
abbrev pub state_finite : IntegratorState → Bool
state_finite s = finite s.band_state && finite s.low_state && finite s.filter_source_energy

abbrev pub high_finite : Advanced → Bool
high_finite a = finite a.outputs.high_pass

unfoldable pub in_domain : Advanced → Bool
in_domain a = state_finite a.state && high_finite a && finite a.outputs.band_pass && finite a.outputs.low_pass

-- one substep, and whether it stayed in the domain
unfoldable pub substep_of : IntegratorState → Float → Coefficients → Option Advanced
substep_of s driven_input k =
    let a = advance_of s driven_input k in
    cond (in_domain a) (Some a) None

-- a further one, where the last one stayed
unfoldable pub then_of : Option Advanced → Float → Coefficients → Option Advanced
then_of (Some a) driven_input k = substep_of a.state driven_input k
then_of None driven_input k = None

-- FILTER_SUBSTEPS is 4
unfoldable pub four_substeps_of : IntegratorState → Float → Coefficients → Option Advanced
four_substeps_of s driven_input k =
    let next : Option Advanced → Option Advanced = λ b. then_of b driven_input k in
    next (next (next (substep_of s driven_input k)))
